use Rattle.lexer.specs.Split.{words}
use Rattle.lexer.proofs.Iterators.{words_left-placed}
use Rattle.lexer.proofs.words.Words.new.Goals as goal

pub returns-clause-words : goal.returns-clause-words
returns-clause-words c = words_left-placed 0 (words c.args.line.now)
