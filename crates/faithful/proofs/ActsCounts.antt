-- Counts in words are the machine's counts, as long as none comes to the end of its word.
use Rattle.std.proofs.Common.{◌≡◌, ℕ, ◌+◌, ◌<◌, ◌^◌, refl, mod-eq_of_lt}
use Rattle.machine.specs.declared.wind_move.WindMove.{WindMove}
use Rattle.machine.specs.declared.wind_move.WindMove.TheVariants.{Stay, Open, Reenter, Leave}
use Rattle.machine.specs.declared.name_move.NameMove.{NameMove}
use Rattle.machine.specs.declared.name_move.NameMove.TheVariants.{Keep as KeepNames, SaveMany, SaveOnce, Use, Forget}
use Rattle.machine.specs.State.{Counts}
use Rattle.machine.specs.Apply.{counted, made_after, used_after, forgotten_after, numbered_after, entered_after, left_after}
use Rattle.engine.specs.Parts.{up, up_if, makes, uses, forgets, numbers, enters, leaves, counted_up}
use Rattle.faithful.proofs.Facts.{Small}

pub up-is : (n : ℕ) → n + 1 < 2 ^ 32 → up n ≡ n + 1
up-is n l = mod-eq_of_lt l

module _ (k : ℕ) (l : k + 1 < 2 ^ 32) where
  made-is : (n : NameMove) → up_if (makes n) k ≡ made_after k n
  made-is KeepNames = refl
  made-is SaveMany = up-is k l
  made-is SaveOnce = up-is k l
  made-is (Use n) = refl
  made-is (Forget n) = refl

  used-is : (n : NameMove) → up_if (uses n) k ≡ used_after k n
  used-is KeepNames = refl
  used-is SaveMany = refl
  used-is SaveOnce = refl
  used-is (Use n) = up-is k l
  used-is (Forget n) = refl

  forgotten-is : (n : NameMove) → up_if (forgets n) k ≡ forgotten_after k n
  forgotten-is KeepNames = refl
  forgotten-is SaveMany = refl
  forgotten-is SaveOnce = refl
  forgotten-is (Use n) = refl
  forgotten-is (Forget n) = up-is k l

  numbered-is : (w : WindMove) → up_if (numbers w) k ≡ numbered_after k w
  numbered-is Stay = refl
  numbered-is (Open before after) = up-is k l
  numbered-is (Reenter w) = refl
  numbered-is Leave = refl

  entered-is : (w : WindMove) → up_if (enters w) k ≡ entered_after k w
  entered-is Stay = refl
  entered-is (Open before after) = up-is k l
  entered-is (Reenter w) = up-is k l
  entered-is Leave = refl

  left-is : (w : WindMove) → up_if (leaves w) k ≡ left_after k w
  left-is Stay = refl
  left-is (Open before after) = refl
  left-is (Reenter w) = refl
  left-is Leave = up-is k l

pub counted_alike : (c : Counts) (w : WindMove) (n : NameMove) → Small c → counted_up c w n ≡ counted c w n
counted_alike c w n s = cc (up-is c.steps s.steps, made-is c.made s.made n, used-is c.used s.used n, forgotten-is c.forgotten s.forgotten n, numbered-is c.numbered s.numbered w, entered-is c.entered s.entered w, left-is c.left s.left w)
