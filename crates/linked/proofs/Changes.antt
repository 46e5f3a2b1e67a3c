-- What a change of one node does to the counts of holders, to the depth of the lists and to the free nodes.
use Rattle.std.proofs.Common.{◌≡◌, ℕ, zero, suc, ◌+◌, ◌<◌, ◌≤◌, true, ◌≢◌, List, [], ◌∷◌, ◌++◌, length, set, sym, refl, ap, ◌∙◌, subst, ⊎_elim, arith, get_or-set_other, get_or-set_same}
use Rattle.std.proofs.lemmas.Bool.{cases_eq, cases_lt, and_parts, and_from, ltb-true, lt-ltb, leb-true, le-leb, eqb-true, eq-eqb}
use Rattle.linked.specs.declared.node.Node.{Node}
use Rattle.bottom.specs.Rows.{bit}
use Rattle.bottom.proofs.Rows.{bit-same, bit_other, bit_is}
use Rattle.linked.specs.Moves.{Sound}
use Rattle.linked.specs.Chains.{no_node, node_at, cells, total, if_held, if_free, leads, unheld, Counted, Deep, Ends, ends, Free, frees}
use Rattle.linked.proofs.Totals.{total_ones, held-pos, held-zero, held_is, free-zero, free-pos, total_change, total_le, total_ge, total_plus, total-pos}

-- one node written
pub record Put (ns ms : List Node) (t : ℕ) (x : Node) : Type 0 where
  pub here : node_at ms t ≡ x
  pub other : (j : ℕ) → j ≢ t → node_at ms j ≡ node_at ns j

-- a write to the memory is one
pub put_set : (ns : List Node) (t : ℕ) (x : Node) → t < length ns → Put ns (set ns t x) t x
put_set ns t x l = record { here = get_or-set_same ns t x no_node l; other = λ j ne. get_or-set_other ns t j x no_node ne }

-- the tests say the same
pub ends-from : (ns : List Node) (p n t : ℕ) → ends ns p t n ≡ true → Ends ns p t n
ends-from ns p zero t e = leb-true p t e
ends-from ns p (suc n) t e = let b = and_parts _ _ e in (ltb-true t p b.0, ends-from ns p n (node_at ns t).link b.1)

pub ends_to : (ns : List Node) (p n t : ℕ) → Ends ns p t n → ends ns p t n ≡ true
ends_to ns p zero t e = le-leb p t e
ends_to ns p (suc n) t e = and_from _ _ (lt-ltb t p e.0) (ends_to ns p n (node_at ns t).link e.1)

pub free-from : (ns : List Node) (p n t : ℕ) → frees ns p t n ≡ true → Free ns p t n
free-from ns p zero t e = leb-true p t e
free-from ns p (suc n) t e = let b = and_parts _ _ e in let d = and_parts _ _ b.1 in (ltb-true t p b.0, eqb-true _ _ d.0, free-from ns p n (node_at ns t).link d.1)

pub free_to : (ns : List Node) (p n t : ℕ) → Free ns p t n → frees ns p t n ≡ true
free_to ns p zero t e = le-leb p t e
free_to ns p (suc n) t e = and_from _ _ (lt-ltb t p e.0) (and_from _ _ (eq-eqb _ _ e.1) (free_to ns p n (node_at ns t).link e.2))

-- a link is that of a held node, or an end
abbrev pub Rooted : List Node → ℕ → ℕ → Type 0
Rooted ns p t = t < p → 0 < (node_at ns t).holders

module _ (ns : List Node) (p : ℕ) (R : ℕ → ℕ) (count : Counted ns p R) where
  -- the top of a list is held
  pub rooted : (t : ℕ) → 0 < R t → Rooted ns p t
  rooted t h l = let e = count t l in omega arith

  -- what a held node leads to is held
  pub rooted_link : (i : ℕ) → i < p → 0 < (node_at ns i).holders → Rooted ns p (node_at ns i).link
  rooted_link i l h m =
      let e = count (node_at ns i).link m in
      let a : leads ns (node_at ns i).link i ≤ total (leads ns (node_at ns i).link) p = total_ge (leads ns (node_at ns i).link) p i l in
      let b : leads ns (node_at ns i).link i ≡ bit (node_at ns i).link (node_at ns i).link = held-pos (node_at ns i).holders _ h in
      let c : bit (node_at ns i).link (node_at ns i).link ≡ 1 = bit-same _ _ refl in
      omega arith

-- two states of the nodes that agree on a set of nodes with all that they lead to
module _ (ns ms : List Node) (p : ℕ) (S : ℕ → Type 0) (link : (i : ℕ) → i < p → S i → (node_at ms i).link ≡ (node_at ns i).link) (next : (i : ℕ) → i < p → S i → S (node_at ns i).link) where
  pub ends-kept : (n t : ℕ) → S t → Ends ns p t n → Ends ms p t n
  ends-kept zero t s e = e
  ends-kept (suc n) t s e =
      (e.0, subst (λ u. Ends ms p u n) (sym (link t e.0 s)) (ends-kept n (node_at ns t).link (next t e.0 s) e.1))

  pub deep_kept : (n t : ℕ) → S t → Deep ns p n t → Deep ms p n t
  deep_kept zero t s e = e
  deep_kept (suc n) t s e =
      (e.0, subst (λ u. Deep ms p n u) (sym (link t e.0 s)) (deep_kept n (node_at ns t).link (next t e.0 s) e.1))

  pub cells-kept : ((i : ℕ) → i < p → S i → (node_at ms i).cell ≡ (node_at ns i).cell) → (n t : ℕ) → S t → Ends ns p t n → cells ms t n ≡ cells ns t n
  cells-kept same zero t s e = refl
  cells-kept same (suc n) t s e =
      let a = link t e.0 s in
      let b = same t e.0 s in
      let c = cells-kept same n (node_at ns t).link (next t e.0 s) e.1 in
      ap (λ u. cells ms u n ++ ((node_at ms t).cell ∷ [])) a ∙ ap (λ x. cells ms (node_at ns t).link n ++ (x ∷ [])) b ∙ ap (λ cs. cs ++ ((node_at ns t).cell ∷ [])) c

-- a list that ends goes no deeper
pub ends_deep : (ns : List Node) (p n m t : ℕ) → n ≤ m → Ends ns p t n → Deep ns p m t → ⊥
ends_deep ns p zero zero t l e d = omega arith
ends_deep ns p zero (suc m) t l e d = let x = d.0 in omega arith
ends_deep ns p (suc n) zero t l e d = omega arith
ends_deep ns p (suc n) (suc m) t l e d = ends_deep ns p n m (node_at ns t).link (omega arith) e.1 d.1

-- a chain of free nodes has one length
pub free-length : (ns : List Node) (p m n f : ℕ) → Free ns p f m → Free ns p f n → m ≡ n
free-length ns p zero zero f a b = refl
free-length ns p zero (suc n) f a b = absurd (let x = b.0 in let z : ⊥ = omega arith in z)
free-length ns p (suc m) zero f a b = absurd (let x = a.0 in let z : ⊥ = omega arith in z)
free-length ns p (suc m) (suc n) f a b = ap suc (free-length ns p m n (node_at ns f).link a.2 b.2)

-- a write of a held node leaves the free ones
pub free-kept : (ns ms : List Node) (p t : ℕ) (x : Node) → Put ns ms t x → 0 < (node_at ns t).holders → (n f : ℕ) → Free ns p f n → Free ms p f n
free-kept ns ms p t x w h zero f e = e
free-kept ns ms p t x w h (suc n) f e =
    let z = e.1 in
    let ne : f ≢ t = λ q. (let r : (node_at ns f).holders ≡ (node_at ns t).holders = ap (λ i. (node_at ns i).holders) q in let never : ⊥ = omega arith in never) in
    let same : node_at ms f ≡ node_at ns f = w.other f ne in
    (e.0, ap (λ (y : Node). y.holders) same ∙ e.1, subst (λ (y : Node). Free ms p y.link n) (sym same) (free-kept ns ms p t x w h n (node_at ns f).link e.2))

-- a write of the first free node leaves the others
pub free-rest : (ns ms : List Node) (p t : ℕ) (x : Node) → Put ns ms t x → (m : ℕ) → Free ns p t m → (n f : ℕ) → n < m → Free ns p f n → Free ms p f n
free-rest ns ms p t x w m first zero f l e = e
free-rest ns ms p t x w m first (suc n) f l e =
    let ne : f ≢ t = λ q. (let r : suc n ≡ m = free-length ns p (suc n) m t (subst (λ u. Free ns p u (suc n)) q e) first in let never : ⊥ = omega arith in never) in
    let same : node_at ms f ≡ node_at ns f = w.other f ne in
    (e.0, ap (λ (y : Node). y.holders) same ∙ e.1, subst (λ (y : Node). Free ms p y.link n) (sym same) (free-rest ns ms p t x w m first n (node_at ns f).link (omega arith) e.2))

module _ (ns ms : List Node) (t : ℕ) (x : Node) (p : ℕ) (within : t < p) (w : Put ns ms t x) where
  pub total-leads : (k : ℕ) → total (leads ms k) p + if_held (node_at ns t).holders (bit (node_at ns t).link k) ≡ total (leads ns k) p + if_held x.holders (bit x.link k)
  total-leads k =
      total_change (leads ms k) (leads ns k) p t within (λ j l ne. ap (λ (y : Node). if_held y.holders (bit y.link k)) (w.other j ne))
      ∙ ap (λ (y : Node). total (leads ns k) p + if_held y.holders (bit y.link k)) w.here

  pub total-unheld : total (unheld ms) p + if_free (node_at ns t).holders ≡ total (unheld ns) p + if_free x.holders
  total-unheld =
      total_change (unheld ms) (unheld ns) p t within (λ j l ne. ap (λ (y : Node). if_free y.holders) (w.other j ne))
      ∙ ap (λ (y : Node). total (unheld ns) p + if_free y.holders) w.here

  pub holders_here : (node_at ms t).holders ≡ x.holders
  holders_here = ap (λ (y : Node). y.holders) w.here

  pub holders_other : (k : ℕ) → k ≢ t → (node_at ms k).holders ≡ (node_at ns k).holders
  holders_other k ne = ap (λ (y : Node). y.holders) (w.other k ne)

-- a held node gets another number of holders
module _ (ns ms : List Node) (t f p depth : ℕ) (x : Node) (R Q : ℕ → ℕ) (within : t < p) (w : Put ns ms t x) (cell : x.cell ≡ (node_at ns t).cell) (link : x.link ≡ (node_at ns t).link) (was : 0 < (node_at ns t).holders) (is : 0 < x.holders) where
  pub recount_link : (i : ℕ) → (node_at ms i).link ≡ (node_at ns i).link
  recount_link i =
      ⊎_elim
      (λ (e : i ≡ t). ap (λ j. (node_at ms j).link) e ∙ ap (λ (y : Node). y.link) w.here ∙ link ∙ ap (λ j. (node_at ns j).link) (sym e))
      (λ ne. ap (λ (y : Node). y.link) (w.other i ne))
      (cases_eq i t)

  pub recount_cell : (i : ℕ) → (node_at ms i).cell ≡ (node_at ns i).cell
  recount_cell i =
      ⊎_elim
      (λ (e : i ≡ t). ap (λ j. (node_at ms j).cell) e ∙ ap (λ (y : Node). y.cell) w.here ∙ cell ∙ ap (λ j. (node_at ns j).cell) (sym e))
      (λ ne. ap (λ (y : Node). y.cell) (w.other i ne))
      (cases_eq i t)

  pub recount : Sound ns f p depth R → ((k : ℕ) → k ≢ t → Q k ≡ R k) → Q t + (node_at ns t).holders ≡ R t + x.holders → Sound ms f p depth Q
  recount s others at-t =
      record {
        counted = λ k l.
            let e = s.counted k l in
            let a = total-leads ns ms t x p within w k in
            let b : if_held (node_at ns t).holders (bit (node_at ns t).link k) ≡ bit (node_at ns t).link k = held-pos _ _ was in
            let c : if_held x.holders (bit x.link k) ≡ bit (node_at ns t).link k = held-pos _ _ is ∙ ap (λ u. bit u k) link in
            ⊎_elim
            (λ (q : k ≡ t).
            let h : (node_at ms k).holders ≡ x.holders = ap (λ j. (node_at ms j).holders) q ∙ holders_here ns ms t x p within w in
            let g : (node_at ns k).holders ≡ (node_at ns t).holders = ap (λ j. (node_at ns j).holders) q in
            let rk = ap R q in let qk = ap Q q in
            omega arith)
            (λ (ne : k ≡ t → ⊥). let h = holders_other ns ms t x p within w k ne in let o = others k ne in omega arith)
            (cases_eq k t);
        shallow = λ i l h d.
            s.shallow i l
            (⊎_elim
            (λ (q : i ≡ t). let g : (node_at ns i).holders ≡ (node_at ns t).holders = ap (λ j. (node_at ns j).holders) q in let r : 0 < (node_at ns i).holders = omega arith in r)
            (λ (ne : i ≡ t → ⊥). let o = holders_other ns ms t x p within w i ne in let r : 0 < (node_at ns i).holders = omega arith in r)
            (cases_eq i t))
            (deep_kept ms ns p (λ i. Unit {0}) (λ i l u. sym (recount_link i)) (λ i l u. tt) depth i tt d);
        free =
            let a = total-unheld ns ms t x p within w in
            let b : if_free (node_at ns t).holders ≡ 0 = free-pos _ was in
            let c : if_free x.holders ≡ 0 = free-pos _ is in
            let e : total (unheld ms) p ≡ total (unheld ns) p = omega arith in
            subst (λ n. Free ms p f n) (sym e) (free-kept ns ms p t x w was (total (unheld ns) p) f s.free);
      }

-- the top of a list with no other holder becomes the first free node
module _ (ns ms : List Node) (t f p depth : ℕ) (x : Node) (R Q : ℕ → ℕ) (within : t < p) (w : Put ns ms t x) (link : x.link ≡ f) (one : (node_at ns t).holders ≡ 1) (none : x.holders ≡ 0) where
  pub freed_counted : Sound ns f p depth R → ((k : ℕ) → Q k + bit t k ≡ R k + bit (node_at ns t).link k) → 0 < R t → Counted ms p Q
  freed_counted s moved top k l =
      let e = s.counted k l in
      let a = total-leads ns ms t x p within w k in
      let b : if_held (node_at ns t).holders (bit (node_at ns t).link k) ≡ bit (node_at ns t).link k = held-pos (node_at ns t).holders (bit (node_at ns t).link k) (omega arith) in
      let c : if_held x.holders (bit x.link k) ≡ 0 = held-zero x.holders (bit x.link k) none in
      let m = moved k in
      ⊎_elim
      (λ (q : k ≡ t).
      let h : (node_at ms k).holders ≡ x.holders = ap (λ j. (node_at ms j).holders) q ∙ holders_here ns ms t x p within w in
      let g : (node_at ns k).holders ≡ (node_at ns t).holders = ap (λ j. (node_at ns j).holders) q in
      let d : bit t k ≡ 1 = bit-same t k (sym q) in
      let rk : R k ≡ R t = ap R q in
      omega arith)
      (λ (ne : k ≡ t → ⊥).
      let h = holders_other ns ms t x p within w k ne in
      let d : bit t k ≡ 0 = bit_other t k (λ q. ne (sym q)) in
      omega arith)
      (cases_eq k t)

  pub freed_other : (i : ℕ) → 0 < (node_at ms i).holders → node_at ms i ≡ node_at ns i
  freed_other i h =
      w.other i (λ q. (let g : (node_at ms i).holders ≡ x.holders = ap (λ j. (node_at ms j).holders) q ∙ holders_here ns ms t x p within w in let never : ⊥ = omega arith in never))

  pub freed : Sound ns f p depth R → ((k : ℕ) → Q k + bit t k ≡ R k + bit (node_at ns t).link k) → 0 < R t → Sound ms t p depth Q
  freed s moved top =
      record {
        counted = freed_counted s moved top;
        shallow = λ i l h d.
            let o = freed_other i h in
            let g : (node_at ms i).holders ≡ (node_at ns i).holders = ap (λ (y : Node). y.holders) o in
            s.shallow i l (omega arith)
            (deep_kept ms ns p (Rooted ms p) (λ i l r. sym (ap (λ (y : Node). y.link) (freed_other i (r l)))) (λ i l r. rooted_link ms p Q (freed_counted s moved top) i l (r l)) depth i (λ l. h) d);
        free =
            let a = total-unheld ns ms t x p within w in
            let b : if_free (node_at ns t).holders ≡ 0 = free-pos _ (omega arith) in
            let c : if_free x.holders ≡ 1 = free-zero _ none in
            let e : total (unheld ms) p ≡ suc (total (unheld ns) p) = omega arith in
            let z : (node_at ms t).holders ≡ 0 = holders_here ns ms t x p within w ∙ none in
            let u : (node_at ms t).link ≡ f = ap (λ (y : Node). y.link) w.here ∙ link in
            subst (λ n. Free ms p t n) (sym e)
            (within, z, subst (λ g. Free ms p g (total (unheld ns) p)) (sym u) (free-kept ns ms p t x w (omega arith) (total (unheld ns) p) f s.free));
      }

-- the first free node becomes the top of a list
module _ (ns ms : List Node) (t f p depth len : ℕ) (x : Node) (R Q : ℕ → ℕ) (within : f < p) (w : Put ns ms f x) (link : x.link ≡ t) (one : x.holders ≡ 1) (s : Sound ns f p depth R) where
  pub first-free : ((node_at ns f).holders ≡ 0) × ((n : ℕ) × ((total (unheld ns) p ≡ suc n) × Free ns p (node_at ns f).link n))
  first-free = by (total (unheld ns) p) refl s.free
    where
      by : (n : ℕ) → total (unheld ns) p ≡ n → Free ns p f n → ((node_at ns f).holders ≡ 0) × ((n : ℕ) × ((total (unheld ns) p ≡ suc n) × Free ns p (node_at ns f).link n))
      by zero e h = absurd (let z : ⊥ = omega arith in z)
      by (suc n) e h = (h.1, (n, (e, h.2)))

  pub used_other : (i : ℕ) → 0 < (node_at ns i).holders → node_at ms i ≡ node_at ns i
  used_other i h =
      w.other i (λ q. (let g : (node_at ns i).holders ≡ (node_at ns f).holders = ap (λ j. (node_at ns j).holders) q in let z = first-free.0 in let never : ⊥ = omega arith in never))

  pub used-ends : (n u : ℕ) → Rooted ns p u → Ends ns p u n → Ends ms p u n
  used-ends = ends-kept ns ms p (Rooted ns p) (λ i l r. ap (λ (y : Node). y.link) (used_other i (r l))) (λ i l r. rooted_link ns p R s.counted i l (r l))

  pub used-cells : (n u : ℕ) → Rooted ns p u → Ends ns p u n → cells ms u n ≡ cells ns u n
  used-cells = cells-kept ns ms p (Rooted ns p) (λ i l r. ap (λ (y : Node). y.link) (used_other i (r l))) (λ i l r. rooted_link ns p R s.counted i l (r l)) (λ i l r. ap (λ (y : Node). y.cell) (used_other i (r l)))

  pub taken-up : Rooted ns p t → Ends ns p t len → len < depth → ((k : ℕ) → Q k + bit t k ≡ R k + bit f k) → Sound ms (node_at ns f).link p depth Q
  taken-up root ends short moved =
      let z = first-free.0 in
      let n : ℕ = first-free.1.0 in
      let zn = first-free.1.1.0 in
      record {
        counted = λ k l.
            let e = s.counted k l in
            let a = total-leads ns ms f x p within w k in
            let b : if_held (node_at ns f).holders (bit (node_at ns f).link k) ≡ 0 = held-zero _ _ z in
            let c : if_held x.holders (bit x.link k) ≡ bit t k = held-pos _ _ (omega arith) ∙ ap (λ u. bit u k) link in
            let m = moved k in
            ⊎_elim
            (λ (q : k ≡ f).
            let h : (node_at ms k).holders ≡ x.holders = ap (λ j. (node_at ms j).holders) q ∙ holders_here ns ms f x p within w in
            let g : (node_at ns k).holders ≡ (node_at ns f).holders = ap (λ j. (node_at ns j).holders) q in
            let d : bit f k ≡ 1 = bit-same f k (sym q) in
            omega arith)
            (λ (ne : k ≡ f → ⊥).
            let h = holders_other ns ms f x p within w k ne in
            let d : bit f k ≡ 0 = bit_other f k (λ q. ne (sym q)) in
            omega arith)
            (cases_eq k f);
        shallow = λ i l h d.
            ⊎_elim
            (λ (q : i ≡ f).
            let u : (node_at ms i).link ≡ t = ap (λ j. (node_at ms j).link) q ∙ ap (λ (y : Node). y.link) w.here ∙ link in
            top-shallow depth i u short (used-ends len t root ends) d)
            (λ (ne : i ≡ f → ⊥).
            let o = w.other i ne in
            let g : (node_at ms i).holders ≡ (node_at ns i).holders = ap (λ (y : Node). y.holders) o in
            s.shallow i l (omega arith)
            (deep_kept ms ns p (Rooted ns p) (λ i l r. sym (ap (λ (y : Node). y.link) (used_other i (r l)))) (λ i l r. subst (Rooted ns p) (sym (ap (λ (y : Node). y.link) (used_other i (r l)))) (rooted_link ns p R s.counted i l (r l))) depth i (λ l. (let r : 0 < (node_at ns i).holders = omega arith in r)) d))
            (cases_eq i f);
        free =
            let a = total-unheld ns ms f x p within w in
            let b : if_free (node_at ns f).holders ≡ 1 = free-zero _ z in
            let c : if_free x.holders ≡ 0 = free-pos _ (omega arith) in
            let e : total (unheld ms) p ≡ n = omega arith in
            subst (λ m. Free ms p (node_at ns f).link m) (sym e)
            (free-rest ns ms p f x w (suc n) (within, z, first-free.1.1.1) n (node_at ns f).link (omega arith) first-free.1.1.1);
      }
    where
      top-shallow : (d i : ℕ) → (node_at ms i).link ≡ t → len < d → Ends ms p t len → Deep ms p d i → ⊥
      top-shallow zero i u l e h = omega arith
      top-shallow (suc d) i u l e h = ends_deep ms p len d t (omega arith) e (subst (Deep ms p d) u h.1)

-- the lists cover every held node, so a bound on their lengths is one on the number of held nodes
module _ (ns : List Node) (f p depth : ℕ) (R C : ℕ → ℕ) (s : Sound ns f p depth R) (tops : (k : ℕ) → k < p → 0 < R k → 0 < C k) (down : (i : ℕ) → i < p → 0 < C i → (node_at ns i).link < p → 0 < C (node_at ns i).link) where
  covered : (d m k : ℕ) → m + d ≡ depth → k < p → 0 < (node_at ns k).holders → Deep ns p m k → 0 < C k
  covered zero m k e l h deep = absurd (s.shallow k l h (subst (λ n. Deep ns p n k) (let q : m ≡ depth = omega arith in q) deep))
  covered (suc d) m k e l h deep =
      ⊎_elim
      (λ (r : 0 < R k). tops k l r)
      (λ (r : R k ≤ 0).
      let c = s.counted k l in
      let u = total-pos (leads ns k) p (omega arith) in
      let i : ℕ = u.0 in
      let li : i < p = u.1.0 in
      let both = held_is _ _ u.1.1 in
      let is : (node_at ns i).link ≡ k = bit_is _ _ both.1 in
      let up : 0 < C i = covered d (suc m) i (omega arith) li both.0 (li, subst (Deep ns p m) (sym is) deep) in
      subst (λ j. 0 < C j) is (down i li up (subst (λ j. j < p) (sym is) l)))
      (cases_lt 0 (R k))

  pub some_free : total C p < p → f < p
  some_free few =
      let split : total (unheld ns) p + total C p ≡ total (λ i. unheld ns i + C i) p = sym (total_plus (unheld ns) C p) in
      let all : total (λ i. 1) p ≤ total (λ i. unheld ns i + C i) p = total_le (λ i. 1) (λ i. unheld ns i + C i) p (λ i l.
      ⊎_elim
      (λ (h : 0 < (node_at ns i).holders). let c = covered depth 0 i (omega arith) l h l in let r : 1 ≤ unheld ns i + C i = omega arith in r)
      (λ (h : (node_at ns i).holders ≤ 0). let c = free-zero (node_at ns i).holders (omega arith) in let r : 1 ≤ unheld ns i + C i = omega arith in r)
      (cases_lt 0 (node_at ns i).holders)) in
      let ones : total (λ i. 1) p ≡ p = total_ones (λ i. 1) p (λ j l. refl) in
      by (total (unheld ns) p) (omega arith) s.free
    where
      by : (n : ℕ) → 0 < n → Free ns p f n → f < p
      by zero l h = absurd (let z : ⊥ = omega arith in z)
      by (suc n) l h = h.0
