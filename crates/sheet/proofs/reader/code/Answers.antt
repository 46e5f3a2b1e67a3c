use Rattle.std.proofs.Common.{◌≡◌, ◌≤◌, length, Some, sym, refl, ap, ◌∙◌, arith}
use Rattle.code.specs.Listing.{accepted}
use Rattle.lexer.specs.Split.{lines}
use Rattle.sheet.proofs.Fitting.{lines_well, code_fits, accepted-all}
use Rattle.sheet.proofs.reader.code.Goals as goal

pub unwrap-requires : goal.unwrap-requires
unwrap-requires c =
    let a = c.in_ok-assemble.field-0 in
    let is = c.in_ok-list.list.items in
    let fit = code_fits a (lines_well (lines c.args.sheet.now) a (sym c.in_ok-assemble.ensures)) is (sym c.in_ok-list.ensures) in
    let few : length is ≤ 256 = omega (arith, ap length c.deref.ensures.0, c.deref.ensures.1) in
    let some : c.new.result ≡ Some is = c.new.ensures ∙ ap accepted c.deref.ensures.0 ∙ accepted-all is few fit.1 in
    rw some refl
