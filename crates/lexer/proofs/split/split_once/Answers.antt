use Rattle.std.proofs.Common.{rules, ◌+◌, eqb, drop, length, ◌-◌, length-drop, arith}
use borrow.Author.Tests.{tests}
use Rattle.std.proofs.lemmas.Iterator.{YieldsList-from_slice}
use Rattle.std.proofs.lemmas.Iterator.Search.{position_from_yields_List}
use Rattle.std.proofs.lemmas.List.{take_all}
use Rattle.lexer.proofs.Pieces.{by_position}
use Rattle.lexer.proofs.split.split_once.Goals as goal

pub returns-in_err-end : goal.returns-in_err-end
returns-in_err-end c =
    let p = position_from_yields_List (λ b. eqb b c.args.separator) _ _ _ c.in_err-end.ensures.ran (YieldsList-from_slice c.args.bytes.now cc) (λ x b q k. search (rules, tests)) in
    rw c.from_residual.ensures (by_position c.args.separator c.args.bytes.now _ p)

pub returns : goal.returns
returns c =
    let p = position_from_yields_List (λ b. eqb b c.args.separator) _ _ _ c.in_ok-end.ensures.ran (YieldsList-from_slice c.args.bytes.now cc) (λ x b q k. search (rules, tests)) in
    let rest = take_all (length c.args.bytes.now - (c.in_ok-end.end + 1)) (drop (c.in_ok-end.end + 1) c.args.bytes.now) (omega (arith, length-drop (c.in_ok-end.end + 1) c.args.bytes.now)) in
    rw rest (by_position c.args.separator c.args.bytes.now _ p)
