-- How often the lists meet a node: each list meets so many nodes as it is long, and together they meet every held node.
use Rattle.std.proofs.Common.{◌≡◌, ℕ, zero, suc, ◌+◌, ◌*◌, ◌<◌, ◌≤◌, List, [], ◌∷◌, length, sym, refl, ap, subst, ⊎_elim, suc-mul, arith}
use Rattle.std.specs.List.{AllByRecursion as All}
use Rattle.std.proofs.lemmas.Bool.{cases_lt}
use Rattle.bottom.specs.declared.row.Row.{Row}
use Rattle.bottom.specs.Rows.{bit, places}
use Rattle.bottom.proofs.Rows.{bit-same, bit_is}
use Rattle.linked.specs.declared.node.Node.{Node}
use Rattle.linked.specs.Chains.{node_at, total, Ends}
use Rattle.linked.proofs.Totals.{total-zero, total_plus, total-bit}

-- how often a list of n nodes from t down meets node k
abbrev pub met : List Node → ℕ → ℕ → ℕ → ℕ
met ns t zero k = 0
met ns t (suc n) k = bit t k + met ns (node_at ns t).link n k

-- how often all lists of some rows do
abbrev pub met_all : List Node → List Row → ℕ → ℕ
met_all ns [] k = 0
met_all ns (r ∷ rs) k = met ns r.at r.len k + met_all ns rs k

-- a list meets its top
met-top : (ns : List Node) (p n t : ℕ) → t < p → Ends ns p t n → 0 < met ns t n t
met-top ns p zero t l e = absurd (let z : ⊥ = omega arith in z)
met-top ns p (suc n) t l e = let b : bit t t ≡ 1 = bit-same t t refl in omega arith

-- and with a node the one below it
met_down : (ns : List Node) (p n t i : ℕ) → Ends ns p t n → 0 < met ns t n i → (node_at ns i).link < p → 0 < met ns t n (node_at ns i).link
met_down ns p zero t i e h l = absurd (let z : ⊥ = omega arith in z)
met_down ns p (suc n) t i e h l =
    ⊎_elim
    (λ (b : 0 < bit t i).
    let q : t ≡ i = bit_is t i b in
    let u : (node_at ns t).link ≡ (node_at ns i).link = ap (λ j. (node_at ns j).link) q in
    let m : 0 < met ns (node_at ns t).link n (node_at ns t).link = met-top ns p n (node_at ns t).link (subst (λ j. j < p) (sym u) l) e.1 in
    let r : 0 < met ns (node_at ns t).link n (node_at ns i).link = subst (λ j. 0 < met ns (node_at ns t).link n j) u m in
    (let g : 0 < bit t (node_at ns i).link + met ns (node_at ns t).link n (node_at ns i).link = omega arith in g))
    (λ (b : bit t i ≤ 0).
    let r : 0 < met ns (node_at ns t).link n (node_at ns i).link = met_down ns p n (node_at ns t).link i e.1 (omega arith) l in
    (let g : 0 < bit t (node_at ns i).link + met ns (node_at ns t).link n (node_at ns i).link = omega arith in g))
    (cases_lt 0 (bit t i))

-- a list meets so many nodes as it is long, at most
pub met-total : (ns : List Node) (p n t : ℕ) → total (met ns t n) p ≤ n
met-total ns p zero t = let z = total-zero (met ns t 0) p (λ j l. refl) in omega arith
met-total ns p (suc n) t =
    let a = met-total ns p n (node_at ns t).link in
    let b : total (met ns t (suc n)) p ≡ total (bit t) p + total (met ns (node_at ns t).link n) p = total_plus (bit t) (met ns (node_at ns t).link n) p in
    let c = (total-bit t p).0 in
    omega arith

-- the top of a list is met
pub all-top : (ns : List Node) (p : ℕ) (rs : List Row) → All (λ r. Ends ns p r.at r.len) rs → (k : ℕ) → k < p → 0 < places rs k → 0 < met_all ns rs k
all-top ns p [] h k l some = absurd (let z : ⊥ = omega arith in z)
all-top ns p (r ∷ rs) h k l some =
    ⊎_elim
    (λ (b : 0 < bit r.at k).
    let q : r.at ≡ k = bit_is r.at k b in
    let m : 0 < met ns r.at r.len r.at = met-top ns p r.len r.at (omega arith) h.0 in
    let n : 0 < met ns r.at r.len k = subst (λ j. 0 < met ns r.at r.len j) q m in
    (let g : 0 < met_all ns (r ∷ rs) k = omega arith in g))
    (λ (b : bit r.at k ≤ 0). let n = all-top ns p rs h.1 k l (omega arith) in (let g : 0 < met_all ns (r ∷ rs) k = omega arith in g))
    (cases_lt 0 (bit r.at k))

-- what a node that is met leads to is met
pub all_down : (ns : List Node) (p : ℕ) (rs : List Row) → All (λ r. Ends ns p r.at r.len) rs → (i : ℕ) → 0 < met_all ns rs i → (node_at ns i).link < p → 0 < met_all ns rs (node_at ns i).link
all_down ns p [] h i some l = absurd (let z : ⊥ = omega arith in z)
all_down ns p (r ∷ rs) h i some l =
    ⊎_elim
    (λ (b : 0 < met ns r.at r.len i). let n = met_down ns p r.len r.at i h.0 b l in (let g : 0 < met_all ns (r ∷ rs) (node_at ns i).link = omega arith in g))
    (λ (b : met ns r.at r.len i ≤ 0). let n = all_down ns p rs h.1 i (omega arith) l in (let g : 0 < met_all ns (r ∷ rs) (node_at ns i).link = omega arith in g))
    (cases_lt 0 (met ns r.at r.len i))

-- so many nodes are met as the lists are long, at most
pub all-total : (ns : List Node) (p depth : ℕ) (rs : List Row) → All (λ r. r.len ≤ depth) rs → total (met_all ns rs) p ≤ length rs * depth
all-total ns p depth [] h = let z = total-zero (met_all ns []) p (λ j l. refl) in omega arith
all-total ns p depth (r ∷ rs) h =
    let a = all-total ns p depth rs h.1 in
    let b = met-total ns p r.len r.at in
    let c : total (met_all ns (r ∷ rs)) p ≡ total (met ns r.at r.len) p + total (met_all ns rs) p = total_plus (met ns r.at r.len) (met_all ns rs) p in
    let d = h.0 in
    rw suc-mul (omega arith)
