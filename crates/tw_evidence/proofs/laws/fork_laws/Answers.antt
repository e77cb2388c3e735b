use Rattle.std.proofs.Common.{◌∙◌, ap, sym}
use Rattle.tw_base.proofs.lemmas.format.CodecLaws.{spelled-fits}
use Rattle.tw_evidence.specs.declared.fork.Fork.{Fork}
use Rattle.tw_evidence.specs.declared.fork.ForkVerdict.TheVariants.{Yes}
use Rattle.tw_evidence.specs.Evidence.{evidence_codec}
use Rattle.tw_evidence.proofs.Accused.{made-accepted}
use Rattle.tw_evidence.proofs.EvidenceCodec.{evidence-lawful, evidence-parts}
use Rattle.tw_evidence.proofs.PartReasons.{no-told, told-no}
use Rattle.tw_evidence.proofs.Verdicts.{shows-yes, yes-shows}
use Rattle.tw_evidence.proofs.laws.fork_laws.Goals as goal

pub returns-clause-yes : goal.returns-clause-yes
returns-clause-yes g c = λ anchors e f. (
  yes-shows g.H.Hasher.dig anchors e f,
  λ both. shows-yes g.H.Hasher.dig anchors e both.0 ∙ ap (λ (f : Fork). Yes f) (sym both.1),
)

pub returns-clause-no : goal.returns-clause-no
returns-clause-no g c = λ anchors bytes e reason spells.
    let parts = evidence-parts e (spelled-fits evidence_codec evidence-lawful bytes e spells) in (
      no-told g.H.Hasher.dig anchors e parts.first parts.second reason,
      told-no g.H.Hasher.dig anchors e parts.first parts.second reason,
    )

pub returns-clause-complete : goal.returns-clause-complete
returns-clause-complete g c = λ anchors one other first second link e. made-accepted g.H.Hasher.dig anchors one other
    first second link e
