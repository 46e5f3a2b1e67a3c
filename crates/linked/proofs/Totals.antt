-- Sums of the first values of a function.
use Rattle.std.proofs.Common.{◌≡◌, ℕ, zero, suc, ◌+◌, ◌<◌, ◌≤◌, ◌≢◌, sym, refl, ap, ⊎_elim, arith}
use Rattle.std.proofs.lemmas.Bool.{cases_eq, cases_lt}
use Rattle.bottom.specs.Rows.{bit}
use Rattle.bottom.proofs.Rows.{bit_other, bit_le}
use Rattle.linked.specs.Chains.{total, if_held, if_free}

-- what a node with a holder adds
pub held-pos : (h b : ℕ) → 0 < h → if_held h b ≡ b
held-pos zero b l = absurd (let z : ⊥ = omega arith in z)
held-pos (suc h) b l = refl

-- and one without
pub held-zero : (h b : ℕ) → h ≡ 0 → if_held h b ≡ 0
held-zero zero b l = refl
held-zero (suc h) b l = absurd (let z : ⊥ = omega arith in z)

-- what adds something has a holder
pub held_is : (h b : ℕ) → 0 < if_held h b → (0 < h) × (0 < b)
held_is zero b l = absurd (let z : ⊥ = omega arith in z)
held_is (suc h) b l = (omega arith, l)

-- it adds at most 1
pub held_le : (h x k : ℕ) → if_held h (bit x k) ≤ 1
held_le zero x k = omega arith
held_le (suc h) x k = bit_le x k

-- a node without a holder is one free node
pub free-zero : (h : ℕ) → h ≡ 0 → if_free h ≡ 1
free-zero zero l = refl
free-zero (suc h) l = absurd (let z : ⊥ = omega arith in z)

-- one with a holder is none
pub free-pos : (h : ℕ) → 0 < h → if_free h ≡ 0
free-pos zero l = absurd (let z : ⊥ = omega arith in z)
free-pos (suc h) l = refl

-- sums of equal values
pub total-same : (g h : ℕ → ℕ) (p : ℕ) → ((j : ℕ) → j < p → g j ≡ h j) → total g p ≡ total h p
total-same g h zero e = refl
total-same g h (suc p) e = let a = total-same g h p (λ j l. e j (omega arith)) in let b = e p (omega arith) in omega arith

-- sums that differ at one place
pub total_change : (g h : ℕ → ℕ) (p i : ℕ) → i < p → ((j : ℕ) → j < p → j ≢ i → g j ≡ h j) → total g p + h i ≡ total h p + g i
total_change g h zero i l e = absurd (let z : ⊥ = omega arith in z)
total_change g h (suc p) i l e =
    ⊎_elim
    (λ (q : i ≡ p). let a = total-same g h p (λ j m. e j (omega arith) (omega arith)) in let b = ap g q in let c = ap h q in omega arith)
    (λ (n : i ≡ p → ⊥). let a = total_change g h p i (omega arith) (λ j m ne. e j (omega arith) ne) in let b = e p (omega arith) (λ q. n (sym q)) in omega arith)
    (cases_eq i p)

-- sums of smaller values
pub total_le : (g h : ℕ → ℕ) (p : ℕ) → ((j : ℕ) → j < p → g j ≤ h j) → total g p ≤ total h p
total_le g h zero e = omega arith
total_le g h (suc p) e = let a = total_le g h p (λ j l. e j (omega arith)) in let b = e p (omega arith) in omega arith

-- a value is at most the sum
pub total_ge : (g : ℕ → ℕ) (p i : ℕ) → i < p → g i ≤ total g p
total_ge g zero i l = absurd (let z : ⊥ = omega arith in z)
total_ge g (suc p) i l =
    ⊎_elim
    (λ (q : i ≡ p). let b = ap g q in omega arith)
    (λ (n : i ≡ p → ⊥). let a = total_ge g p i (omega arith) in omega arith)
    (cases_eq i p)

-- a sum of sums
pub total_plus : (g h : ℕ → ℕ) (p : ℕ) → total (λ j. g j + h j) p ≡ total g p + total h p
total_plus g h zero = refl
total_plus g h (suc p) = let a = total_plus g h p in omega arith

-- a sum of zeros
pub total-zero : (g : ℕ → ℕ) (p : ℕ) → ((j : ℕ) → j < p → g j ≡ 0) → total g p ≡ 0
total-zero g zero e = refl
total-zero g (suc p) e = let a = total-zero g p (λ j l. e j (omega arith)) in let b = e p (omega arith) in omega arith

-- a sum of ones
pub total_ones : (g : ℕ → ℕ) (p : ℕ) → ((j : ℕ) → j < p → g j ≡ 1) → total g p ≡ p
total_ones g zero e = refl
total_ones g (suc p) e = let a = total_ones g p (λ j l. e j (omega arith)) in let b = e p (omega arith) in omega arith

-- a sum of values of at most 1
pub total-small : (g : ℕ → ℕ) (p : ℕ) → ((j : ℕ) → j < p → g j ≤ 1) → total g p ≤ p
total-small g zero e = omega arith
total-small g (suc p) e = let a = total-small g p (λ j l. e j (omega arith)) in let b = e p (omega arith) in omega arith

-- some value is above 0 if the sum is
pub total-pos : (g : ℕ → ℕ) (p : ℕ) → 0 < total g p → (u : ℕ) × ((u < p) × (0 < g u))
total-pos g zero h = absurd (let z : ⊥ = omega arith in z)
total-pos g (suc p) h =
    ⊎_elim
    (λ (l : 0 < g p). (p, (omega arith, l)))
    (λ (l : g p ≤ 0). let r = total-pos g p (omega arith) in let m = r.1.0 in (r.0, (omega arith, r.1.1)))
    (cases_lt 0 (g p))

-- one number is met at most once
pub total-bit : (x p : ℕ) → (total (bit x) p ≤ 1) × (p ≤ x → total (bit x) p ≡ 0)
total-bit x zero = (omega arith, λ l. refl)
total-bit x (suc p) =
    let a = total-bit x p in
    ⊎_elim
    (λ (e : x ≡ p). let z : total (bit x) p ≡ 0 = a.1 (omega arith) in let b = bit_le x p in (omega arith, λ l. absurd (let never : ⊥ = omega arith in never)))
    (λ (n : x ≡ p → ⊥). let z : bit x p ≡ 0 = bit_other x p n in let y = a.0 in (omega arith, λ l. let w : total (bit x) p ≡ 0 = a.1 (omega arith) in omega arith))
    (cases_eq x p)
