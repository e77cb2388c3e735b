-- The history that a value of the code stands for.
use Rattle.tw_base.specs.history.History.{History as HistoryMeant}
use Rattle.tw_history.specs.declared.history.History.TheInside.{Inside}
use Rattle.tw_history.specs.Tables.{steps_of_table}

abbrev pub history_of_table : Inside → HistoryMeant
history_of_table h = record { name = h.name; steps = steps_of_table h.steps h.nodes }
