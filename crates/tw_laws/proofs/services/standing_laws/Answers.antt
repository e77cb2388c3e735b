use Rattle.tw_service.proofs.Standing.{has_numbers, served_once, stands_once, stands_opened}
use Rattle.tw_laws.proofs.services.standing_laws.Goals as goal

pub returns-clause-once : goal.returns-clause-once
returns-clause-once g c = stands_once g.H.Hasher.dig (λ text. (g.met.H.Hasher.size text, g.met.H.Hasher.bytes text))

pub returns-clause-sound : goal.returns-clause-sound
returns-clause-sound g c = λ image name h s. (s.stands.keeps.sound, s.named)

pub returns-clause-never_refused : goal.returns-clause-never_refused
returns-clause-never_refused g c = stands_opened g.H.Hasher.dig

pub returns-clause-served : goal.returns-clause-served
returns-clause-served g c = served_once

pub returns-clause-numbers : goal.returns-clause-numbers
returns-clause-numbers g c = has_numbers
