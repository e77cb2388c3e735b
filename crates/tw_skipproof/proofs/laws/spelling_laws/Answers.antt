use Rattle.std.proofs.Common.{lit≤, arith}
use Rattle.tw_base.specs.format.Codecs.{bytes_codec, each, labels_codec, many, pair, seen}
use Rattle.tw_base.proofs.lemmas.format.CodecLaws.{spelled-fits, unambiguous, written-as}
use Rattle.tw_base.proofs.lemmas.format.CodecSizes.{word-size}
use Rattle.tw_skipproof.specs.Codecs.{existence_codec, opening_bytes, opening_codec, path_bytes, path_codec}
use Rattle.tw_skipproof.proofs.LawfulCodecs.{existence-lawful, opening-lawful, path-lawful}
use Rattle.tw_skipproof.proofs.Shapes.{existence-most, existence-shape, path-most, path-shape}
use Rattle.tw_skipproof.proofs.laws.spelling_laws.Goals as goal

pub returns-clause-opening : goal.returns-clause-opening
unfolding opening_bytes opening_codec seen pair labels_codec many bytes_codec
returns-clause-opening c = λ step. let l = opening-lawful 0 step (lit≤ tt) in (unambiguous _ l, written-as _ l)

pub returns-clause-opening_labels : goal.returns-clause-opening_labels
unfolding opening_codec seen pair labels_codec many bytes_codec
returns-clause-opening_labels c = λ step bytes o s. (spelled-fits _ (opening-lawful 0 step (lit≤ tt)) bytes o
    s).1.1.1.1.0

pub returns-clause-path : goal.returns-clause-path
unfolding path_bytes path_codec each
returns-clause-path c = λ from to. (unambiguous _ (path-lawful from to), written-as _ (path-lawful from to))

pub returns-clause-path_shape : goal.returns-clause-path_shape
unfolding path_codec each
returns-clause-path_shape c = λ from to bytes links s. path-shape links from to
    (spelled-fits (path_codec from to) (path-lawful from to) bytes links s)

pub returns-clause-path_size : goal.returns-clause-path_size
returns-clause-path_size c = λ from to bytes links small s. omega (
  arith,
  word-size (path_codec from to) (path-lawful from to) 53760 (path-most from to (omega (arith, small))) bytes links s,
)

pub returns-clause-existence : goal.returns-clause-existence
returns-clause-existence c = unambiguous existence_codec existence-lawful

pub returns-clause-existence_size : goal.returns-clause-existence_size
returns-clause-existence_size c = word-size existence_codec existence-lawful 56505 existence-most

pub returns-clause-existence_shape : goal.returns-clause-existence_shape
returns-clause-existence_shape c = λ bytes p s. existence-shape p (spelled-fits existence_codec existence-lawful bytes p
    s)
