use Rattle.tw_skipproof.proofs.CountWords.{word_wraps}
use Rattle.tw_skipproof.proofs.writing.count_word.Goals as goal

pub returns-then-timed : goal.returns-then-timed
returns-then-timed c = rw c.if-timed.true (word_wraps _)
