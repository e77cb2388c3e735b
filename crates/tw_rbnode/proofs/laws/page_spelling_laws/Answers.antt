use Rattle.tw_base.proofs.lemmas.format.CodecLaws.{unambiguous}
use Rattle.tw_rbnode.specs.NodeBytes.{page_node_codec}
use Rattle.tw_rbnode.proofs.NodeCodecs.{node-lawful}
use Rattle.tw_rbnode.proofs.PageOnce.{once}
use Rattle.tw_rbnode.proofs.laws.page_spelling_laws.Goals as goal

pub returns-clause-one : goal.returns-clause-one
returns-clause-one c = unambiguous page_node_codec node-lawful

pub returns-clause-once : goal.returns-clause-once
returns-clause-once c = once
