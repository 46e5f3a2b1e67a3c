use Rattle.std.proofs.Common.{◌≡◌, ℕ, ◌+◌, ◌<◌, ◌≤◌, [], ◌∷◌, List, length, ap, ◌∙◌, arith, rules}
use Rattle.std.specs.Fmt.{signed_decimal}
use Rattle.printer.specs.Guards.{next}
use Rattle.printer.specs.Written.{overwrite}
use Rattle.printer.proofs.Overwrites.{overwrite_none, length-overwrite, written-not, written_whole}
use Rattle.printer.proofs.print.print_line.Goals as goal

pub returns-in_err-put-2 : goal.returns-in_err-put-2
returns-in_err-put-2 c =
    let g = c.new-guard.result in
    let digits : List ℕ = c.as_bytes.result.now in
    let text : digits ≡ signed_decimal c.args.number = search rules in
    let was : g.bytes.now ≡ c.args.buffer.now = c.new-guard.ensures.bytes in
    let empty : g.old.items ≡ [] = c.new-guard.ensures.start.1 in
    let fits : next g + length digits ≤ length g.bytes.now = c.in_ok-put.ensures.room in
    let wrote : c.put.new.self.bytes.now ≡ overwrite g.bytes.now (next g) digits = c.in_ok-put.ensures.bytes in
    let long : length c.put.new.self.bytes.now ≡ length g.bytes.now = ap length wrote ∙ length-overwrite g.bytes.now digits (next g) fits in
    let over : length c.put.new.self.bytes.now < next c.put.new.self + 1 = c.in_err-put-2.ensures.none in
    let not = written-not c.args.buffer.now digits (10 ∷ []) c.args.at (omega (arith, c.new-guard.ensures.start.0, ap length empty, ap length was, c.in_ok-put.ensures.len, c.put.ensures.start)) in
    let after : c.drop-guard-in_err-put-2.new.self.0 ≡ c.args.buffer.now =
    c.drop-guard-in_err-put-2.ensures ∙ c.put-2.ensures.restores ∙ c.put.ensures.restores ∙ ap (overwrite g.bytes.now g.at) empty ∙ overwrite_none g.bytes.now g.at ∙ was in
    search rules

pub returns : goal.returns
returns c =
    let g = c.new-guard.result in
    let buffer : List ℕ = c.args.buffer.now in
    let at : ℕ = c.args.at in
    let digits : List ℕ = c.as_bytes.result.now in
    let text : digits ≡ signed_decimal c.args.number = search rules in
    let was : g.bytes.now ≡ buffer = c.new-guard.ensures.bytes in
    let empty : g.old.items ≡ [] = c.new-guard.ensures.start.1 in
    let first : next g ≡ at = omega (arith, c.new-guard.ensures.start.0, ap length empty) in
    let second : next c.put.new.self ≡ at + length digits = omega (arith, first, c.in_ok-put.ensures.len, c.put.ensures.start) in
    let fits : at + length digits ≤ length buffer = omega (arith, first, c.in_ok-put.ensures.room, ap length was) in
    let wrote : c.put.new.self.bytes.now ≡ overwrite buffer at digits =
    c.in_ok-put.ensures.bytes ∙ ap (λ n. overwrite g.bytes.now n digits) first ∙ ap (λ xs. overwrite xs at digits) was in
    let long : length c.put.new.self.bytes.now ≡ length buffer = ap length wrote ∙ length-overwrite buffer digits at fits in
    let whole = written_whole buffer digits (10 ∷ []) at (omega (arith, second, long, c.in_ok-put-2.ensures.room)) in
    let after : c.commit.new.self.0 ≡ overwrite (overwrite buffer at digits) (at + length digits) (10 ∷ []) =
    c.commit.ensures.bytes ∙ c.in_ok-put-2.ensures.bytes ∙ ap (λ xs. overwrite xs (next c.put.new.self) (10 ∷ [])) wrote ∙ ap (λ n. overwrite (overwrite buffer at digits) n (10 ∷ [])) second in
    let answer : c.commit.result ≡ length digits + 1 = omega (arith, c.commit.ensures.len, c.in_ok-put-2.ensures.len, c.in_ok-put.ensures.len, ap length empty) in
    search rules
