-- Laws of lists written over others, and taken back.
use Rattle.std.proofs.Common.{◌≡◌, ℕ, ◌+◌, ◌<◌, ◌≤◌, List, [], ◌++◌, length, take, drop, Some, None, sym, refl, ap, ◌∙◌, append_assoc, arith, length-append, length-take, length-drop, add-zero}
use Rattle.std.proofs.lemmas.List.{length-take-le, take-append-drop, drop-drop}
use Rattle.std.proofs.lemmas.Slice.{take-put_mid_below, take-put_mid, drop-put_mid}
use Rattle.std.proofs.lemmas.Bool.{lt-leb, le-leb, cond-true, cond-false}
use Rattle.printer.specs.Written.{overwrite, written}
use borrow.Rule.Slice.PartMut.{put_mid}

-- nothing written
pub overwrite_none : (xs : List ℕ) (at : ℕ) → overwrite xs at [] ≡ xs
overwrite_none xs at = rw add-zero (take-append-drop at xs)

-- the same as a write to a part of a slice
overwrite-put_mid : (xs ys : List ℕ) (at : ℕ) → overwrite xs at ys ≡ put_mid at (length ys) xs ys
overwrite-put_mid xs ys at = ap (λ back. take at xs ++ (ys ++ back)) (sym (drop-drop (length ys) at xs))

-- a piece written behind another
pub overwrite_more : (xs ys zs : List ℕ) (at : ℕ) → at + length ys ≤ length xs → overwrite (overwrite xs at ys) (at + length ys) zs ≡ overwrite xs at (ys ++ zs)
overwrite_more xs ys zs at h =
    let n : ℕ = at + length ys in
    let front : take n (overwrite xs at ys) ≡ take at xs ++ ys = ap (take n) (overwrite-put_mid xs ys at) ∙ take-put_mid at (length ys) xs ys n refl (omega arith) in
    let back : drop (n + length zs) (overwrite xs at ys) ≡ drop (n + length zs) xs = ap (drop (n + length zs)) (overwrite-put_mid xs ys at) ∙ drop-put_mid at (length ys) xs ys (n + length zs) (omega arith) (omega arith) refl in
    let long : at + length (ys ++ zs) ≡ n + length zs = omega (arith, length-append ys zs) in
    rw (front, back, long) (simp append_assoc)

-- a piece taken back with what was written before it
pub restored_more : (xs old new piece : List ℕ) (at start k : ℕ) → start ≡ at + length old → start + k ≤ length xs → length piece ≡ k → new ≡ old ++ take k (drop start xs) → overwrite (put_mid start k xs piece) at new ≡ overwrite xs at old
restored_more xs old new piece at start k s h p e =
    let mid : List ℕ = take k (drop start xs) in
    let long : at + length new ≡ start + k = omega (arith, ap length e, length-append old mid, length-take-le k (drop start xs) (omega (arith, length-drop start xs)), s) in
    let front : take at (put_mid start k xs piece) ≡ take at xs = take-put_mid_below start k xs piece at (omega arith) (omega arith) in
    let back : drop (start + k) (put_mid start k xs piece) ≡ drop (start + k) xs = drop-put_mid start k xs piece (start + k) (omega arith) (omega arith) p in
    let whole : mid ++ drop (start + k) xs ≡ drop start xs = ap (λ zs. mid ++ zs) (sym (drop-drop k start xs)) ∙ take-append-drop k (drop start xs) in
    let rest : new ++ drop (at + length new) (put_mid start k xs piece) ≡ old ++ drop (at + length old) xs = rw (long, back, e, append_assoc, whole, s) refl in
    rw (front, rest) refl

pub length-overwrite : (xs ys : List ℕ) (at : ℕ) → at + length ys ≤ length xs → length (overwrite xs at ys) ≡ length xs
length-overwrite xs ys at h = simp (length-append, length-take, length-drop) (omega arith)

-- a line of two pieces that does not fit whole, and one that does
pub written-not : (xs ys zs : List ℕ) (at : ℕ) → length xs < at + length ys + length zs → written xs at (ys ++ zs) ≡ (None, xs)
written-not xs ys zs at h =
    let long : length xs < at + length (ys ++ zs) = omega (arith, length-append ys zs) in
    cond-false _ _ _ (lt-leb _ _ long)

pub written_whole : (xs ys zs : List ℕ) (at : ℕ) → at + length ys + length zs ≤ length xs → written xs at (ys ++ zs) ≡ (Some (length ys + length zs), overwrite (overwrite xs at ys) (at + length ys) zs)
written_whole xs ys zs at h =
    let fits : at + length (ys ++ zs) ≤ length xs = omega (arith, length-append ys zs) in
    cond-true _ _ _ (le-leb _ _ fits)
    ∙ ap (λ n. (Some n, overwrite xs at (ys ++ zs))) (length-append ys zs)
    ∙ ap (λ new. (Some (length ys + length zs), new)) (sym (overwrite_more xs ys zs at (omega arith)))
