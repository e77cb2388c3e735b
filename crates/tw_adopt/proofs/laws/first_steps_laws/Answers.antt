use Rattle.tw_adopt.proofs.Fronts.{same-first_steps, short-first_steps, sound-first_steps}
use Rattle.tw_adopt.proofs.laws.first_steps_laws.Goals as goal

pub returns-clause-sound : goal.returns-clause-sound
returns-clause-sound g c = sound-first_steps

pub returns-clause-same : goal.returns-clause-same
returns-clause-same g c = same-first_steps g.H.Hasher.dig

pub returns-clause-short : goal.returns-clause-short
returns-clause-short g c = short-first_steps
