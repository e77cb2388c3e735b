use Rattle.tw_laws.proofs.AnsweredCalls.{received, refuses_bytes}
use Rattle.tw_laws.proofs.calls.receive.Goals as goal

pub returns-clause-malformed : goal.returns-clause-malformed
returns-clause-malformed g c = refuses_bytes g.H.Hasher.dig g.D.Disk.view _ _ _ _ _ c.receive.ensures

pub returns-clause-message : goal.returns-clause-message
returns-clause-message g c = received g.H.Hasher.dig g.D.Disk.view _ _ _ _ _ c.receive.ensures
