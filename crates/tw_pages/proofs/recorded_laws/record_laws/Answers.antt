use Rattle.tw_pages.proofs.Standing.{has_numbers, other_kind, served_once}
use Rattle.tw_pages.proofs.recorded_laws.record_laws.Goals as goal

pub returns-clause-served : goal.returns-clause-served
returns-clause-served g c = λ once. served_once (g.R.Record.kind g.H.Hasher.dig) once

pub returns-clause-numbers : goal.returns-clause-numbers
returns-clause-numbers g c = has_numbers (g.R.Record.kind g.H.Hasher.dig)

pub returns-clause-apart : goal.returns-clause-apart
returns-clause-apart g c = other_kind (g.R.Record.kind g.H.Hasher.dig) (g.Q.Record.kind g.H.Hasher.dig)
