use Rattle.tw_base.proofs.lemmas.history.Archives.{tree-has_received, tree-only_received}
use Rattle.tw_base.proofs.lemmas.history.ArchiveTexts.{tree_texts-within}
use Rattle.tw_base.proofs.lemmas.history.Plus.{tree-first}
use Rattle.tw_base.proofs.lemmas.history.Trees.{tree-rising}
use Rattle.tw_base.proofs.history.history_laws.archive_laws.Goals as goal

pub returns-clause-rising : goal.returns-clause-rising
returns-clause-rising g c = λ h sound i. tree-rising h sound i

pub returns-clause-has : goal.returns-clause-has
returns-clause-has g c = λ h sound i inside e has. tree-has_received h sound i inside e has

pub returns-clause-only : goal.returns-clause-only
returns-clause-only g c = λ h i e has. tree-only_received h i e has

pub returns-clause-texts : goal.returns-clause-texts
returns-clause-texts g c = λ h i inside. tree_texts-within g.H.Hasher.dig h i inside

pub returns-clause-first : goal.returns-clause-first
returns-clause-first g c = λ h. tree-first h
