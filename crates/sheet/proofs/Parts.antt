-- An instruction line by its words.
use Rattle.std.proofs.Common.{◌≡◌, ℕ, ◌+◌, List, length, drop, Some, Ok, Err, Option, Result, sym, ap, ◌∙◌}
use Rattle.std.proofs.lemmas.List.{get_or-drop, drop-drop, drop-map}
use Rattle.std.proofs.lemmas.Bool.{eq-eqb, ne_eqb, cond-true, cond-false}
use Rattle.code.specs.declared.instruction.Instruction.{Instruction}
use Rattle.code.specs.declared.register.Register.{Register}
use Rattle.lexer.specs.Checks.{◌>>=◌}
use Rattle.lexer.specs.declared.fault.Fault.{Fault}
use Rattle.lexer.specs.declared.fault.Fault.TheVariants.{BadOperand}
use Rattle.sheet.specs.declared.mnemonic.Mnemonic.{Mnemonic}
use Rattle.sheet.specs.declared.unresolved.Unresolved.{Unresolved}
use Rattle.lexer.specs.Split.{word_at, words_left}
use Rattle.sheet.specs.Operands.{by_word, with_operands, plain, OfThree}
use Rattle.sheet.specs.Words.{arity}

module _ (o : Option Mnemonic) (m : Mnemonic) (ws : List (List ℕ)) (known : o ≡ Some m) where
  pub miscounted : (length ws ≡ arity m + 1 → ⊥) → by_word o ws ≡ Err BadOperand
  miscounted ne = ap (λ p. by_word p ws) known ∙ cond-false _ _ _ (ne_eqb _ _ ne)

  pub counted : (a b c : List ℕ) → length ws ≡ arity m + 1 → a ≡ word_at ws 1 → b ≡ word_at ws 2 → c ≡ word_at ws 3 → by_word o ws ≡ with_operands m a b c
  counted a b c e x y z =
      ap (λ p. by_word p ws) known ∙ cond-true _ _ _ (eq-eqb _ _ e)
      ∙ ap (λ w. with_operands m w (word_at ws 2) (word_at ws 3)) (sym x)
      ∙ ap (λ w. with_operands m a w (word_at ws 3)) (sym y)
      ∙ ap (λ w. with_operands m a b w) (sym z)

-- the next word of what is left after some words
pub word_after : (ws : List (List ℕ)) (vs us : List (ℕ × List ℕ)) (k : ℕ) → words_left vs ≡ drop k ws → us ≡ drop 1 vs
    → (words_left us ≡ drop (k + 1) ws) × (word_at (words_left vs) 0 ≡ word_at ws (k + 0))
word_after ws vs us k e f =
    (ap words_left f ∙ sym (drop-map (λ w. w.1) 1 vs) ∙ ap (drop 1) e ∙ drop-drop 1 k ws, ap (λ l. word_at l 0) e ∙ get_or-drop k ws 0 _)

-- what a rule makes that is a function
pub of_three_by : (Makes : Register → Register → Register → Instruction → Type 0) (f : Register → Register → Register → Instruction)
    (read : Result (Register × Register × Register) Fault) (answer : Result Unresolved Fault)
    → OfThree Makes read answer → ((x y z : Register) (i : Instruction) → Makes x y z i → i ≡ f x y z) → answer ≡ (read >>= λ r. plain (f r.0 r.1 r.2))
of_three_by Makes f (Ok r) answer made is = made.2 ∙ ap plain (is r.0 r.1 r.2 made.0 made.1)
of_three_by Makes f (Err e) answer made is = made
