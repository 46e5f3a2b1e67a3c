-- Steps in a row, one step at a time.
use Rattle.std.proofs.Common.{◌≡◌, ℕ, suc, ◌-◌, ◌<◌, List, Result, ap, ◌∙◌, arith}
use Rattle.code.specs.declared.instruction.Instruction.{Instruction}
use Rattle.machine.specs.declared.end.End.{End}
use Rattle.steps.specs.declared.turn.Turn.{Turn}
use Rattle.engine.specs.Parts.{Parts}
use Rattle.steps.specs.Advancing.{Advanced, turning, by_turn, advancing}

module _ (code : List Instruction) (n k : ℕ) (p : Parts) (buffer : List ℕ) (at : ℕ) where
  abbrev rest : Parts → List ℕ → ℕ → Advanced
  rest = advancing code (n - suc k) (suc k)

  -- what a step comes to, where the budget is not used up, says what comes of the whole
  pub stepped : (r : Result Turn End) (b : List ℕ) (q : Parts) (whole : Advanced)
      → k < n → advancing code (n - k) k p buffer at ≡ whole → (r, b, q) ≡ turning code p buffer at
      → by_turn (r, b, q) k at rest ≡ whole
  stepped r b q whole h w e =
      let one : n - k ≡ suc (n - suc k) = omega arith in
      ap (λ t. by_turn t k at rest) e ∙ (rw one at w)
