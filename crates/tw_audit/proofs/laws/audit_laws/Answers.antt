use Rattle.tw_audit.proofs.Agreeing.{agrees-has, has-agrees}
use Rattle.tw_audit.proofs.AnswerLaws.{answer-means, finds, stands}
use Rattle.tw_audit.proofs.laws.audit_laws.Goals as goal

pub returns : goal.returns
returns g c = record {
  means = λ family anchors bytes p result sound spells is.
      answer-means g.H.Hasher.dig g.met.H.Hasher.size g.met.H.Hasher.bytes family anchors bytes p spells sound result
      is;
  finds = λ family anchors bytes p result sound spells accepted has clash is.
      finds g.H.Hasher.dig g.met.H.Hasher.size g.met.H.Hasher.bytes family anchors bytes p spells sound accepted has
      clash result is;
  stands = λ family anchors bytes p result sound spells accepted has apart is.
      stands g.H.Hasher.dig g.met.H.Hasher.size g.met.H.Hasher.bytes family anchors bytes p spells sound accepted has
      apart result is;
  has = λ family t. (agrees-has g.H.Hasher.dig family t, has-agrees g.H.Hasher.dig family t);
}
