use Rattle.std.proofs.Common.{get_or, Ok, sym, ap, ◌∙◌, rules}
use Rattle.std.specs.Option.{ok_or}
use Rattle.store.specs.declared.refusal.Refusal.TheVariants.{NotHeld}
use Rattle.bottom.specs.Rows.{blank}
use Rattle.bottom.specs.Tables.{listed}
use Rattle.bottom.proofs.Tables.{hit_ok, miss_err}
use Rattle.bottom.proofs.table.Table.get.Goals as goal

pub returns-in_err-i : goal.returns-in_err-i
returns-in_err-i c = let m = (miss_err (listed c.args.self.now) c.args.name.0 c.find.result c.find.ensures c.in_err-i.field-0.0 c.in_err-i.ensures.value).0 in let e = c.from_residual.ensures in search rules

pub returns : goal.returns
returns c =
    let h = hit_ok (listed c.args.self.now) c.args.name.0 c.find.result c.find.ensures c.in_ok-i.i c.in_ok-i.ensures.value in
    ap (λ rs. Ok (get_or rs c.in_ok-i.i (blank 0))) c.deref.ensures.0 ∙ sym (ap (λ u. ok_or u NotHeld) h.under)
