use Rattle.std.proofs.Common.{rules, tests, ◌∙◌}
use Rattle.std.proofs.lemmas.Iterator.{YieldsList-from_slice}
use Rattle.std.proofs.lemmas.Iterator.Search.{find_from_yields_List}
use Rattle.lexer.specs.Bytes.{same}
use Rattle.sheet.specs.Words.{spelling, vocabulary}
use Rattle.sheet.proofs.mnemonic.Mnemonic.from_word.Goals as goal

pub returns : goal.returns
returns c =
    c.copied.ensures
    ∙ find_from_yields_List (λ m. same c.args.word.now (spelling m)) _ _ _ c.find.ensures.ran (YieldsList-from_slice vocabulary cc) (λ x b q k. search (rules, tests))
