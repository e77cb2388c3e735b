use Rattle.tw_base.proofs.lemmas.history.Plus.{auth-plus, received-plus, times-plus, tree-plus}
use Rattle.tw_base.proofs.history.history_laws.plus_laws.Goals as goal

pub returns-clause-trees : goal.returns-clause-trees
returns-clause-trees g c = λ h s i inside. tree-plus h s i inside

pub returns-clause-authenticators : goal.returns-clause-authenticators
returns-clause-authenticators g c = λ h s i inside. auth-plus h s g.H.Hasher.dig i inside

pub returns-clause-received : goal.returns-clause-received
returns-clause-received g c = λ h s i inside. received-plus h s i inside

pub returns-clause-times : goal.returns-clause-times
returns-clause-times g c = λ h s i inside. times-plus h s i inside
