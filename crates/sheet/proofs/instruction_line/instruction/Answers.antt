use Rattle.std.proofs.Common.{◌≡◌, ℕ, ◌+◌, List, length, Some, sym, ap, ◌∙◌, arith}
use Rattle.lexer.specs.Split.{word_at, words}
use Rattle.sheet.specs.Words.{mnemonic, arity}
use Rattle.sheet.proofs.Parts.{miscounted, counted, word_after}
use Rattle.lexer.proofs.Pieces.{word_count}
use Rattle.sheet.proofs.instruction_line.instruction.Goals as goal

pub returns-then-space_count-arity : goal.returns-then-space_count-arity
returns-then-space_count-arity c =
    let ws : List (List ℕ) = words c.args.text.now in
    let first = word_after ws _ _ 0 c.new-words.ensures.words c.next_bytes.ensures.rest in
    let known : mnemonic (word_at ws 0) ≡ Some c.in_ok-known.known = ap mnemonic (sym (c.next_bytes.ensures.bytes ∙ first.1)) ∙ sym c.from_word.ensures ∙ c.in_ok-known.ensures.ok_part in
    let off : length ws ≡ arity c.in_ok-known.known + 1 → ⊥ = λ e. c.if-space_count-arity.true (omega (arith, e, word_count c.args.text.now, c.space_count.ensures, c.arity.ensures)) in
    sym (miscounted (mnemonic (word_at ws 0)) c.in_ok-known.known ws known off)

pub returns : goal.returns
returns c =
    let ws : List (List ℕ) = words c.args.text.now in
    let zeroth = word_after ws _ _ 0 c.new-words.ensures.words c.next_bytes.ensures.rest in
    let first = word_after ws _ _ 1 zeroth.0 c.next_bytes-a.ensures.rest in
    let second = word_after ws _ _ 2 first.0 c.next_bytes-b.ensures.rest in
    let third = word_after ws _ _ 3 second.0 c.next_bytes-c.ensures.rest in
    let known : mnemonic (word_at ws 0) ≡ Some c.in_ok-known.known = ap mnemonic (sym (c.next_bytes.ensures.bytes ∙ zeroth.1)) ∙ sym c.from_word.ensures ∙ c.in_ok-known.ensures.ok_part in
    let size : length ws ≡ arity c.in_ok-known.known + 1 = omega (arith, word_count c.args.text.now, c.space_count.ensures, c.arity.ensures, c.if-space_count-arity.false) in
    c.operated.ensures
    ∙ sym (counted (mnemonic (word_at ws 0)) c.in_ok-known.known ws known _ _ _ size
    (c.next_bytes-a.ensures.bytes ∙ first.1) (c.next_bytes-b.ensures.bytes ∙ second.1) (c.next_bytes-c.ensures.bytes ∙ third.1))
