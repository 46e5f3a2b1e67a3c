use Rattle.std.proofs.Common.{refl, ap, ◌∙◌}
use Rattle.bottom.specs.Tables.{listed}
use Rattle.copied.specs.Parts.{read_row}
use Rattle.copied.proofs.Stores.{words_of}
use Rattle.bottom.proofs.Answered.{is_held, released_none}
use Rattle.copied.proofs.Calls.{refused_owed, refused_means, gone_owed, release_means}
use Rattle.copied.proofs.copied.methods.CopiedStore.release.Goals as goal

pub invariant_of-self : goal.invariant_of-self
invariant_of-self c = refused_owed c.args.self.now c.args.name.0 c.remove.new.self c.in_err-gone.field-0.0 c.in_err-gone.ensures.row c.in_err-gone.ensures.rows c.in_err-gone.ensures.limit

pub returns-in_err-gone-clause-call : goal.returns-in_err-gone-clause-call
returns-in_err-gone-clause-call c =
    let s = c.args.self.now in
    ap (λ m. (c.from_residual.result, m)) (refused_means s c.args.name.0 c.remove.new.self c.in_err-gone.field-0.0 c.in_err-gone.ensures.row c.in_err-gone.ensures.rows c.in_err-gone.ensures.limit)
    ∙ released_none (read_row (words_of s) s.depth) _ (listed s.table) s.depth s.table.limit c.args.name.0 c.in_err-gone.field-0.0 c.in_err-gone.ensures.row c.from_residual.result c.from_residual.ensures.1

pub invariant_of-self-2 : goal.invariant_of-self-2
invariant_of-self-2 c =
    let s = c.args.self.now in
    let r = c.in_ok-gone.gone in
    gone_owed s c.args.name.0 r (is_held _ r c.in_ok-gone.ensures.row) c.remove.new.self c.in_ok-gone.ensures.rows c.in_ok-gone.ensures.limit _ s.len _ c.push.ensures.items refl s.fits

pub returns-clause-call : goal.returns-clause-call
returns-clause-call c =
    let s = c.args.self.now in
    let r = c.in_ok-gone.gone in
    release_means s c.args.name.0 r (is_held _ r c.in_ok-gone.ensures.row) c.remove.new.self c.in_ok-gone.ensures.rows c.in_ok-gone.ensures.limit
