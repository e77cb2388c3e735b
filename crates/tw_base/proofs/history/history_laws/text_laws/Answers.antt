use Rattle.tw_base.proofs.lemmas.history.TextBytes.{family_texts-bytes, history_texts-bytes}
use Rattle.tw_base.proofs.history.history_laws.text_laws.Goals as goal

pub returns-clause-history : goal.returns-clause-history
returns-clause-history g c = history_texts-bytes g.H.Hasher.dig g.met.H.Hasher.size g.met.H.Hasher.bytes

pub returns-clause-family : goal.returns-clause-family
returns-clause-family g c = family_texts-bytes g.H.Hasher.dig g.met.H.Hasher.size g.met.H.Hasher.bytes
