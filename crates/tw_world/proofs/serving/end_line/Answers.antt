use Rattle.std.proofs.Common.{◌≡◌, ap, refl, sym, subst}
use Rattle.std.specs.Prelude.{IsNone, IsTrue, None, Option, Some, is_some}
use Rattle.tw_disk.specs.MemDisk.{is_stopped, pages_of}
use Rattle.tw_service.specs.Serves.{disk_of}
use Rattle.tw_world.specs.Hosts.{Answered, HasReplied, LineEnds}
use Rattle.tw_world.specs.OnDisks.{TellsAnswer, pages_left}
use Rattle.tw_world.specs.declared.host.Planned.{Planned}
use Rattle.tw_world.specs.declared.told.Answer.{Answer}
use Rattle.tw_world.specs.declared.told.Told.TheVariants.{Plain}
use Rattle.tw_world.proofs.Ends.{ends-plain}
use Rattle.tw_world.proofs.serving.end_line.Goals as goal

pub returns-in_ok-ended-in-Some-clause-ends : goal.returns-in_ok-ended-in-Some-clause-ends
returns-in_ok-ended-in-Some-clause-ends c given h answered =
    let ended = c.in_ok-ended-in-Some.ended in
    subst (λ b. LineEnds given b h ended.told ended.rested.disk ended.rested.steps) (sym (ap is_some c.in-Some.is))
    (c.in_ok-ended-in-Some.ensures.ends given h answered)

pub returns-in_ok-ended-in-Some-clause-leaves : goal.returns-in_ok-ended-in-Some-clause-leaves
returns-in_ok-ended-in-Some-clause-leaves c =
    let ended = c.in_ok-ended-in-Some.ended in
    let says = c.in_ok-ended-in-Some.ensures in
    record {
      tells = subst (λ (crash : Option Planned). TellsAnswer crash c.args.answer ended.rested.steps ended.told)
          (sym c.in-Some.is) says.told;
      stopped = says.stopped;
      left = subst (λ (crash : Option Planned). pages_of ended.rested.disk ≡ pages_left crash
          (disk_of c.args.opened.service)) (sym c.in-Some.is) says.left;
    }

pub returns-in-Some-answer-clause-ends : goal.returns-in-Some-answer-clause-ends
returns-in-Some-answer-clause-ends c given h answered =
    let answer = c.in-Some-answer.answer in
    let rested = c.closed.result in
    subst (λ b. LineEnds given b h (Plain answer) rested.disk rested.steps) (sym (ap is_some c.in-None.is))
    (ends-plain given h c.args.opened.service rested.disk rested.steps (Plain answer) answer refl c.closed.ensures.rests
    (subst (Answered given h c.args.opened.service) c.in-Some-answer.is answered))

not-none : (answer : Answer) → IsNone (Some answer) → ⊥
not-none answer none = cc

pub returns-in-Some-answer-clause-leaves : goal.returns-in-Some-answer-clause-leaves
returns-in-Some-answer-clause-leaves c =
    let answer = c.in-Some-answer.answer in
    let rested = c.closed.result in
    let service = c.args.opened.service in
    let replied : HasReplied c.requires.0 c.requires.1 service answer =
    subst (Answered c.requires.0 c.requires.1 service) c.in-Some-answer.is c.requires.2 in
    record {
      tells = subst (λ (crash : Option Planned). TellsAnswer crash c.args.answer rested.steps (Plain answer))
          (sym c.in-None.is)
          (subst (λ (a : Option Answer). TellsAnswer None a rested.steps (Plain answer)) (sym c.in-Some-answer.is) refl);
      stopped = subst (λ (a : Option Answer). IsNone a → IsTrue (is_stopped (disk_of service)))
          (sym c.in-Some-answer.is) (λ none. absurd (not-none answer none));
      left = subst (λ (crash : Option Planned). pages_of rested.disk ≡ pages_left crash (disk_of service))
          (sym c.in-None.is) (c.closed.ensures.left replied.next replied.serves);
    }
