-- The end of an act that is carried out: the write, the mode and the counts.
use Rattle.std.proofs.Common.{◌≡◌, List, None, ap, ◌∙◌, slice_set}
use Rattle.cell.specs.declared.frame.Frame.{Frame}
use Rattle.cell.specs.declared.wind.Wind.{Wind}
use Rattle.machine.specs.declared.act.Act.{Act}
use Rattle.machine.specs.declared.mode.Mode.{Mode}
use Rattle.machine.specs.declared.write.Write.{Write}
use Rattle.machine.specs.declared.write.Write.TheVariants.{Nothing, Register as ToRegister, Global as ToGlobal}
use Rattle.machine.specs.declared.wind_move.WindMove.{WindMove}
use Rattle.machine.specs.declared.name_move.NameMove.{NameMove}
use Rattle.machine.specs.State.{State, Capture}
use Rattle.machine.specs.Apply.{registers_after, globals_after, frames_after, winds_after, held_after, trying}
use Rattle.machine.specs.Step.{admit}
use Rattle.engine.specs.Parts.{Parts, state_from, counted_up}
use Rattle.engine.specs.Acting.{written, made}
use Rattle.faithful.proofs.Facts.{Small}
use Rattle.faithful.proofs.Follows.{Reach, Follows}
use Rattle.faithful.proofs.ActsCounts.{counted_alike}
use Rattle.faithful.proofs.ActsStages.{placed, Stands}

-- a state with what a write left in the registers and globals
abbrev wrote : State → State → Write → State
wrote s t w = record t { registers = registers_after s w; globals = globals_after s w }

-- a state with another mode, after one step more by the counts in words
abbrev over : State → Mode → WindMove → NameMove → State
over s m w n = record s { mode = m; tried = trying s.mode s.tried; counts = counted_up s.counts w n }

module _ {p r : Parts} {fs : List Frame} {ws : List Wind} {cs : List Capture} (i : Stands p r fs ws cs) where
  -- a write changes its register or global alone
  writes : (w : Write) → Reach p (written w r) (wrote (state_from p) (placed p fs ws cs) w)
  writes Nothing = i
  writes (ToRegister x v) =
      record { state = ap {A = State} {B = State} (λ s. record s { registers = slice_set s.registers x.0 v }) i.state; limits = i.limits; together = i.together }
  writes (ToGlobal x v) =
      record { state = ap {A = State} {B = State} (λ s. record s { globals = slice_set s.globals x.0 v }) i.state; limits = i.limits; together = i.together }

  -- where frames, winds and captures are those after the act, so is all
  pub ends : (a : Act) → a.line ≡ None → Small p.counts
      → fs ≡ frames_after (state_from p) a.frames → ws ≡ winds_after (state_from p) a.winds → cs ≡ held_after (state_from p) (frames_after (state_from p) a.frames) a.names
      → Follows p (admit (state_from p) a None) (made a r)
  ends a e s f w c =
      let j = writes a.write in (
        rw e,
        record {
          state = ap (λ t. over t a.mode a.winds a.names) j.state ∙ cc (f, w, c, counted_alike p.counts a.winds a.names s);
          limits = j.limits;
          together = j.together;
        },
      )
