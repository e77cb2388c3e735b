use Rattle.tw_base.proofs.lemmas.history.AskedLists.{first-above, in-with_entry, last-below, length-with_entry}
use Rattle.tw_base.proofs.lemmas.history.AskedLists.{none-above, none-below, rising-with_entry, with_entry-in}
use Rattle.tw_base.proofs.history.history_laws.asking_laws.Goals as goal

pub returns : goal.returns
returns c = record {
  size = λ es e. length-with_entry e es;
  members = λ es e f. (with_entry-in e es f, in-with_entry e es f);
  order = λ es e. rising-with_entry e es;
  below = λ es key e rising. last-below key es rising e;
  none_below = λ es key. none-below key es;
  above = λ es key e rising. first-above key es rising e;
  none_above = λ es key. none-above key es;
}
