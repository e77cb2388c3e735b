use Rattle.tw_base.proofs.lemmas.events.AuditPaths.{length-audit_path, path_length-le}
use Rattle.tw_base.proofs.lemmas.events.AuditShown.{ChecksEvent-audit_path}
use Rattle.tw_base.proofs.lemmas.events.EventTrees.{audit_path-left, audit_path-one, audit_path-right}
use Rattle.tw_base.proofs.lemmas.kinds.DigestBytes.{audit_path-digests}
use Rattle.tw_base.proofs.events.event_tree.audit_path_laws.Goals as goal

pub returns : goal.returns
returns g c = record {
  one = λ event. audit_path-one g.H.Hasher.dig event 0;
  left = audit_path-left g.H.Hasher.dig;
  right = audit_path-right g.H.Hasher.dig;
  size = length-audit_path g.H.Hasher.dig;
  few = path_length-le;
  digests = audit_path-digests g.H.Hasher.dig g.met.H.Hasher.size g.met.H.Hasher.bytes;
  checks = ChecksEvent-audit_path g.H.Hasher.dig;
}
