-- What a table stands for has as many steps as the table.
use Rattle.std.proofs.Common.{◌≡◌, List, [], ◌∷◌, length, drop, suc, refl, ap}
use Rattle.tw_history.specs.declared.step.Step.{Step}
use Rattle.tw_history.specs.declared.step.Node.{Node}
use Rattle.tw_history.specs.Tables.{steps_of_table}

pub length-steps_of_table : (steps : List Step) (nodes : List Node) → length (steps_of_table steps nodes) ≡ length steps
length-steps_of_table [] nodes = refl
length-steps_of_table (s ∷ steps) nodes = ap suc (length-steps_of_table steps (drop s.fresh nodes))
