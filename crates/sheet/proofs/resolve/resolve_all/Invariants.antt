use Rattle.std.proofs.Common.{◌≡◌, [], length, drop}
use Rattle.sheet.specs.Reading.{resolved_onto}
use Rattle.sheet.proofs.resolve.resolve_all.Given as goal

abbrev pub invariant-loop-draft : goal.invariant-loop-draft
invariant-loop-draft l =
    (resolved_onto [] l.assembly.labels l.assembly.drafts ≡ resolved_onto l.list.items l.assembly.labels (drop l.draft-index l.draft-items))
    × (length l.list.items ≡ l.draft-index)
