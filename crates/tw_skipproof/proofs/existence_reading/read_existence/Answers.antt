use Rattle.tw_base.proofs.lemmas.format.TakeLaws.{if_read, takes-whole}
use Rattle.tw_skipproof.specs.Codecs.{existence_codec}
use Rattle.tw_skipproof.specs.Existence.{IsExistenceInRange, IsShaped}
use Rattle.tw_skipproof.proofs.LawfulCodecs.{existence-lawful}
use Rattle.tw_skipproof.proofs.Shapes.{existence-shape}
use Rattle.tw_skipproof.proofs.existence_reading.read_existence.Goals as goal

pub returns-clause-read : goal.returns-clause-read
returns-clause-read c = takes-whole existence_codec existence-lawful (λ p. p) c.args.bytes.now _ _ _
    c.take_existence-read.ensures c.whole_to.ensures

pub returns-clause-limits : goal.returns-clause-limits
returns-clause-limits c = if_read existence_codec existence-lawful (λ p. p) IsExistenceInRange c.args.bytes.now
    c.whole_to.result (λ p f. (existence-shape p f).1) (returns-clause-read c)

pub returns-clause-shape : goal.returns-clause-shape
returns-clause-shape c = if_read existence_codec existence-lawful (λ p. p) IsShaped c.args.bytes.now c.whole_to.result
    (λ p f. (existence-shape p f).0) (returns-clause-read c)
