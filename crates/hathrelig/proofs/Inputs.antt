-- A sheet that is read no further than its limit and one byte.
use Rattle.std.proofs.Common.{◌≡◌, ℕ, ◌<◌, List, [], ◌++◌, length, take, Option, Some, None, IfSome, Err, ⊎_elim, refl, sym, ap, subst, arith, ◌∙◌}
use Rattle.std.specs.Option.{option_map}
use Rattle.std.specs.Io.KnownBytes.{Appends}
use Rattle.std.specs.Io.Take.{take_limit, take_inner, take_remaining}
use Rattle.std.specs.declared.io.traits.Take.{Take}
use Rattle.std.proofs.lemmas.Bool.{lt-leb}
use Rattle.std.proofs.lemmas.Bool.Decides.{leb_tells}
use Rattle.std.proofs.lemmas.List.{take_all, length-take-le}
use Rattle.sheet.specs.declared.refusal.SheetRefusal.TheVariants.{TooLong}
use Rattle.sheet.specs.Reading.{reading}
use Rattle.hathrelig.specs.Output.{output, output_by}

pub too_long : (sheet : List ℕ) → 16384 < length sheet → reading sheet ≡ Err TooLong
too_long sheet h = rw (lt-leb (length sheet) 16384 h) refl

-- one too long is refused as such from its first bytes alone
pub cut_short : (sheet : List ℕ) → reading (take 16385 sheet) ≡ reading sheet
cut_short sheet =
    ⊎_elim
    (λ short. ap reading (take_all 16385 sheet short.1))
    (λ long.
    let all = length-take-le 16385 sheet (omega (long.1, arith)) in
    too_long (take 16385 sheet) (omega (all, arith)) ∙ sym (too_long sheet (omega (long.1, arith))))
    (leb_tells (length sheet) 16385)

-- what is known of an input, cut at its limit
pub cut_known : (known : Option (List ℕ)) (now old : List ℕ) → old ≡ [] → IfSome (option_map (take 16385) known) (λ xs. now ≡ old ++ xs)
    → IfSome known (λ all. now ≡ take 16385 all)
cut_known None now old empty told = tt
cut_known (Some all) now old empty told = told ∙ ap (λ l. l ++ take 16385 all) empty

-- what a vector holds that was empty, once such a reader is read to its end
pub read_whole : {R : Type 0} (remaining : R → Option (List ℕ)) (t : Take R) (input : R) (now old : List ℕ)
    → take_limit t ≡ 16385 → take_inner t ≡ input → old ≡ [] → IfSome (take_remaining remaining t) (λ xs. now ≡ old ++ xs)
    → IfSome (remaining input) (λ all. now ≡ take 16385 all)
read_whole remaining t input now old limit inner empty told =
    let cut : take_remaining remaining t ≡ option_map (take 16385) (remaining input) =
    ap (λ n. option_map (take n) (remaining t.inner)) limit ∙ ap (λ i. option_map (take 16385) (remaining i)) inner in
    cut_known (remaining input) now old empty (subst (λ known. IfSome known (λ xs. now ≡ old ++ xs)) cut told)

-- what is printed for a sheet that was cut is what is printed for all of it
pub printed_for_all : (known a b : Option (List ℕ)) (read seen : List ℕ) → IfSome known (λ all. read ≡ take 16385 all) → seen ≡ read
    → Appends a b (output seen) → IfSome known (λ all. Appends a b (output all))
printed_for_all None a b read seen cut same printed = tt
printed_for_all (Some all) a b read seen cut same printed =
    subst (Appends a b) (ap output_by (ap reading (same ∙ cut) ∙ cut_short all)) printed
