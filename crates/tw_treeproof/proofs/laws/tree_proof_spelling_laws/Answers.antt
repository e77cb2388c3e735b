use Rattle.tw_base.proofs.lemmas.format.CodecLaws.{unambiguous}
use Rattle.tw_base.proofs.lemmas.format.CodecSizes.{word-size}
use Rattle.tw_base.specs.history.EntryCodec.{entry_codec}
use Rattle.tw_base.proofs.lemmas.history.EntryCodecLaws.{entry-lawful}
use Rattle.tw_treeproof.specs.Codecs.{gap_codec, present_codec}
use Rattle.tw_treeproof.proofs.LawfulCodecs.{gap-lawful, gap-most, present-lawful, present-most}
use Rattle.tw_treeproof.proofs.laws.tree_proof_spelling_laws.Goals as goal

pub returns-clause-entry : goal.returns-clause-entry
returns-clause-entry c = unambiguous entry_codec entry-lawful

pub returns-clause-present : goal.returns-clause-present
returns-clause-present c = unambiguous present_codec present-lawful

pub returns-clause-gap : goal.returns-clause-gap
returns-clause-gap c = unambiguous gap_codec gap-lawful

pub returns-clause-present_size : goal.returns-clause-present_size
returns-clause-present_size c = word-size present_codec present-lawful 12257 present-most

pub returns-clause-gap_size : goal.returns-clause-gap_size
returns-clause-gap_size c = word-size gap_codec gap-lawful 12289 gap-most
