-- Lines printed one after another into one buffer.
use Rattle.std.proofs.Common.{◌≡◌, ℕ, ◌+◌, List, ◌++◌, length, take, drop, sym, refl, ap, ◌∙◌, append_assoc, length-append}
use Rattle.std.proofs.lemmas.List.{take_at, drop_at, drop-drop}
use Rattle.printer.specs.Written.{overwrite}

-- a line written behind the output so far is the output with that line
pub overwrite_behind : (buffer output line : List ℕ) → overwrite (output ++ drop (length output) buffer) (length output) line ≡ (output ++ line) ++ drop (length (output ++ line)) buffer
overwrite_behind buffer output line =
    let n : ℕ = length output in
    let m : ℕ = length line in
    let now : List ℕ = output ++ drop n buffer in
    let front : take n now ≡ output = take_at output (drop n buffer) n refl in
    let back : drop (n + m) now ≡ drop (n + m) buffer = sym (drop-drop m n now) ∙ ap (drop m) (drop_at output (drop n buffer) n refl) ∙ drop-drop m n buffer in
    ap (λ xs. xs ++ (line ++ drop (n + m) now)) front ∙ ap (λ xs. output ++ (line ++ xs)) back ∙ sym (append_assoc output line (drop (n + m) buffer))
    ∙ ap (λ k. (output ++ line) ++ drop k buffer) (sym (length-append output line))
