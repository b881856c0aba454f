use Rattle.book.proofs.WordsKept.{keeps_words}
use Rattle.book.proofs.theorem.alone_keeps_words.Goals as goal

pub returns : goal.returns
returns c = keeps_words
