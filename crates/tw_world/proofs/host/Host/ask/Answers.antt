use Rattle.std.proofs.Common.{List, ℕ, ap, refl, ◌∙◌, sym, subst}
use Rattle.std.specs.Prelude.{Result, Ok, Err}
use Rattle.sha2.specs.Sha256.{sha256}
use Rattle.tw_base.specs.declared.history.refusal.Refusal.{Refusal}
use Rattle.tw_base.specs.declared.history.refusal.Refusal.TheVariants.{BadPage, DiskFault, NoMemory, Reopen}
use Rattle.tw_base.specs.declared.history.question.Question.{Question}
use Rattle.tw_base.specs.history.History.{History}
use Rattle.tw_disk.specs.MemDisk.{mem_disk_view, pages_of}
use Rattle.tw_service.specs.Machine.{AnswersByMachine}
use Rattle.tw_service.specs.Machine.Call.{Ask}
use Rattle.tw_service.specs.Machine.Reply.{OfBytes}
use Rattle.tw_service.specs.Serves.{Serves, name_of}
use Rattle.tw_world.specs.Hosts.{GivesReply, IsGiven, StandsForGood}
use Rattle.tw_world.proofs.Resting.{same-image, stands-closed}
use Rattle.tw_world.proofs.host.Host.ask.Goals as goal

-- what is given is the machine's reply
gives-reply : (h : History) (q : Question) (Served : History → Type 0) (reply given : Result (List ℕ) Refusal)
    → AnswersByMachine sha256 h (Ask q) (λ bytes. OfBytes bytes) reply Served → IsGiven reply given
    → GivesReply h q given
gives-reply h q Served (Ok bytes) given answers is = let step = answers.1 in subst (GivesReply h q) (sym is)
    (refl, step.1)
gives-reply h q Served (Err (BadPage page)) given answers is = absurd answers
gives-reply h q Served (Err Reopen) given answers is = absurd answers
gives-reply h q Served (Err DiskFault) given answers is = absurd is
gives-reply h q Served (Err NoMemory) given answers is = absurd is
gives-reply h q Served (Err _) given answers is = subst (GivesReply h q) (sym is) answers.0

pub returns-clause-gives : goal.returns-clause-gives
returns-clause-gives c h holds =
    let asks = c.ask-reply.ensures.asks in
    let served = c.in_ok-service.ensures.serves h (subst (λ d. StandsForGood d h) (sym c.take_disk.ensures.disk)
    holds.stands) in
    let name = name_of c.ask-reply.new.self in (
      gives-reply h c.args.question.now (Serves sha256 mem_disk_view c.ask-reply.new.self) c.ask-reply.result
          c.in_ok-given.given
          (asks.machine c.in_ok-service.ensures.whole h served) c.in_ok-given.ensures.gives,
      record {
        named = c.take_disk.ensures.same.0 ∙ holds.named;
        counted = c.take_disk.ensures.same.1 ∙ holds.counted;
        stands = stands-closed c.close.result name h (c.close.ensures.stands h (asks.same h served).0);
      },
    )

pub returns-clause-asked : goal.returns-clause-asked
returns-clause-asked c = record {
  named = c.take_disk.ensures.same.0;
  waits = c.take_disk.ensures.same.2;
  pages = ap pages_of c.close.ensures.disk ∙ same-image _ _ c.ask-reply.ensures.asks.unwritten.disk.content
      ∙ c.in_ok-service.ensures.opens.0 ∙ ap pages_of c.take_disk.ensures.disk;
}

pub open-requires : goal.open-requires
open-requires c = let has = c.requires.holds in
    (has.0, subst (λ d. StandsForGood d has.0) (sym c.take_disk.ensures.disk) has.1.stands)
