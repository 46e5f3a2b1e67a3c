use Rattle.std.proofs.Common.{Ok, Err, add-one}
use Rattle.steps.specs.declared.turn.Turn.TheVariants.{Went, NoRoom}
use Rattle.steps.proofs.Advances.{stepped}
use Rattle.steps.proofs.advancing.advance.Goals as goal

pub returns-in-Ok-NoRoom : goal.returns-in-Ok-NoRoom
returns-in-Ok-NoRoom g c =
    rw c.stopped.ensures
    (stepped _ c.args.budget c.loop-steps.steps _ _ _ (Ok NoRoom) _ _ _ c.loop-steps-test.true c.loop-steps.invariant (rw c.in-Ok-NoRoom.field-0-is at c.in-Ok-NoRoom.ensures))

pub returns-in-Err : goal.returns-in-Err
returns-in-Err g c =
    rw c.stopped-in-Err.ensures
    (stepped _ c.args.budget c.loop-steps.steps _ _ _ (Err c.in-Err.end) _ _ _ c.loop-steps-test.true c.loop-steps.invariant c.in-Err.ensures)

pub loop-steps-preserved : goal.loop-steps-preserved
loop-steps-preserved g c =
    rw add-one
    (stepped _ c.args.budget c.loop-steps.steps _ _ _ (Ok (Went c.in-Ok-Went.at)) _ _ _ c.loop-steps-test.true c.loop-steps.invariant (rw c.in-Ok-Went.field-0-is at c.in-Ok-Went.ensures))
