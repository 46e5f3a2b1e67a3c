-- Lists of exchanges carried out one by one.
use Rattle.std.proofs.Common.{◌≡◌, ℕ, zero, suc, ◌<◌, ◌≤◌, List, [], ◌∷◌, length, get_or, set, arith, refl, sym, ap, ◌∙◌}
use Rattle.machine.specs.Opening.{Run}
use Rattle.run.specs.declared.exchange.Exchange.{Exchange}
use Rattle.run.specs.Serving.{exchanged, exchange_first, serving}

-- a list of which the first few were carried out, and the rest is to come
abbrev pub resumed : ℕ → Run → List Exchange → List Exchange × Run
resumed zero r es = serving r es
resumed (suc i) r [] = ([], r)
resumed (suc i) r (e ∷ es) = exchange_first e (resumed i r es)

-- carrying out the next one
pub resumed_next : (i : ℕ) (es : List Exchange) (d : Exchange) (r : Run) (x : Exchange × Run) → i < length es → x ≡ exchanged r (get_or es i d)
    → resumed (suc i) x.1 (set es i x.0) ≡ resumed i r es
resumed_next i [] d r x h is = absurd (omega (arith, h))
resumed_next zero (e ∷ es) d r x h is = ap (λ y. exchange_first y.0 (serving y.1 es)) is
resumed_next (suc i) (e ∷ es) d r x h is = ap (exchange_first e) (resumed_next i es d r x (omega (arith, h)) is)

-- when all were
resumed_all : (i : ℕ) (es : List Exchange) (r : Run) → length es ≤ i → resumed i r es ≡ (es, r)
resumed_all zero [] r h = refl
resumed_all zero (e ∷ es) r h = absurd (omega (arith, h))
resumed_all (suc i) [] r h = refl
resumed_all (suc i) (e ∷ es) r h = ap (exchange_first e) (resumed_all i es r (omega (arith, h)))

-- so nothing is left to come
pub all_served : (i : ℕ) (es : List Exchange) (r : Run) (x : List Exchange × Run) → length es ≤ i → resumed i r es ≡ x → (es, r) ≡ x
all_served i es r x h is = sym (resumed_all i es r h) ∙ is
