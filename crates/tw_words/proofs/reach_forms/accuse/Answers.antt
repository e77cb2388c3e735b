use Rattle.std.proofs.Common.{map, subst, Err}
use Rattle.std.specs.String.{string_bytes}
use Rattle.tw_words.specs.CommandLine.{accuse, accuse_linked, accuse_two}
use Rattle.tw_words.specs.Takings.{MakesCommand}
use Rattle.tw_words.proofs.reach_forms.accuse.Goals as goal

pub returns-in-Err-At : goal.returns-in-Err-At
unfolding accuse
returns-in-Err-At c =
    let first = c.in_ok-first.first.now in
    let second = c.in_ok-second.second.now in
    let words = map string_bytes c.path-2.new.self.left.now in
    let stopped = subst (λ stop. MakesCommand (accuse_two first second words) (Err stop)) c.in-Err-At.field-0-is
    c.in-Err-At.ensures in
    rw (c.in_ok-first.ensures, c.in_ok-second.ensures)
    (c.or_further.ensures (accuse_two first second) (accuse_linked first second) words stopped c.accuse_linked.ensures)
