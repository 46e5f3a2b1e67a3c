use Rattle.std.proofs.Common.{Ok, sym, refl, ap, ◌∙◌, rules}
use Rattle.std.specs.Option.{ok_or}
use Rattle.store.specs.declared.refusal.Refusal.TheVariants.{NotHeld}
use Rattle.std.proofs.lemmas.List.{get_or_default}
use Rattle.bottom.specs.Rows.{blank}
use Rattle.bottom.specs.Tables.{listed}
use Rattle.bottom.proofs.Tables.{hit_ok, miss_err}
use Rattle.bottom.proofs.table.Table.remove.Goals as goal

pub returns-in_err-i : goal.returns-in_err-i
returns-in_err-i c =
    let m = miss_err (listed c.args.self.now) c.args.name.0 c.find.result c.find.ensures c.in_err-i.field-0.0 c.in_err-i.ensures.value in
    record { row = let r = m.0 in let e = c.from_residual.ensures in search rules; rows = sym m.1; limit = refl }

pub returns : goal.returns
returns c =
    let t = c.args.self.now in
    let h = hit_ok (listed t) c.args.name.0 c.find.result c.find.ensures c.in_ok-i.i c.in_ok-i.ensures.value in
    record {
      row = ap Ok (c.remove.ensures.value ∙ get_or_default (listed t) c.in_ok-i.i _ (blank 0) h.within) ∙ sym (ap (λ u. ok_or u NotHeld) h.under);
      rows = c.remove.ensures.items ∙ sym h.rest;
      limit = refl;
    }
