use Rattle.std.proofs.Common.{◌≡◌, refl, sym, ◌∙◌, subst}
use Rattle.std.specs.Prelude.{Option, is_some}
use Rattle.tw_base.specs.history.History.{History}
use Rattle.tw_world.specs.Hosts.{Given, GoesOnByReply, StandsForGood}
use Rattle.tw_world.specs.Hosts.Given.{OfEvents}
use Rattle.tw_world.specs.declared.host.Opened.{Opened}
use Rattle.tw_world.specs.declared.host.Planned.{Planned}
use Rattle.tw_world.specs.declared.told.Told.{Told}
use Rattle.tw_world.proofs.GivenOn.{given-on}
use Rattle.tw_world.proofs.host.Host.append.Goals as goal

pub returns-clause-goes : goal.returns-clause-goes
returns-clause-goes c h holds =
    let given : Given = OfEvents c.args.events.now in
    let taken : StandsForGood c.take_disk.result h = subst (λ d. StandsForGood d h) (sym c.take_disk.ensures.disk)
    holds.stands in
    let answered = c.in_ok-answer.ensures.answers h (c.in_ok-opened.ensures.serves h taken) c.in_ok-opened.ensures.whole in
    let ended = c.in_ok-ended.ensures.ends given h answered in
    let next : History = ended.next in
    let told = c.in_ok-ended.ended.told in
    let waits : c.in_ok-opened.opened.crash ≡ c.args.self.now.crash =
    c.in_ok-opened.ensures.opens.0 ∙ c.take_disk.ensures.same.2 in
    let goes : GoesOnByReply given (is_some c.args.self.now.crash) h next told =
    subst (λ (crash : Option Planned). GoesOnByReply given (is_some crash) h next told) waits ended.goes in (
      next,
      subst (λ (t : Told). GoesOnByReply given (is_some c.args.self.now.crash) h next t) (sym c.end.ensures.told) goes,
      record {
        named = c.end.ensures.same.0 ∙ c.take_disk.ensures.same.0 ∙ holds.named ∙ sym ended.named;
        counted = c.end.ensures.rests.1 ∙ ended.rests.0;
        stands = subst (λ d. StandsForGood d next) (sym c.end.ensures.rests.0) ended.rests.1;
      },
    )

pub returns-clause-given : goal.returns-clause-given
returns-clause-given c =
    let opened : Opened = c.in_ok-opened.opened in
    let ended = c.in_ok-ended.ended in
    given-on (OfEvents c.args.events.now) c.end.result c.args.self.now c.end.new.self c.take_disk.result
    c.take_disk.new.self.crash opened (record opened { service = c.appended.new.service }) c.in_ok-answer.answer ended.told
    ended.rested.disk ended.rested.steps
    (c.end.ensures.same.0 ∙ c.take_disk.ensures.same.0, c.end.ensures.same.1)
    c.take_disk.ensures.disk c.take_disk.ensures.same.2 c.in_ok-opened.ensures.opens refl c.in_ok-answer.ensures.does
    c.in_ok-ended.ensures.leaves c.end.ensures.told c.end.ensures.rests.0 c.end.ensures.rests.1

pub open_for-requires : goal.open_for-requires
open_for-requires c = let has = c.requires in
    (has.0, subst (λ d. StandsForGood d has.0) (sym c.take_disk.ensures.disk) has.1.stands)

pub end_line-requires : goal.end_line-requires
end_line-requires c =
    let has = c.requires in
    let taken : StandsForGood c.take_disk.result has.0 = subst (λ d. StandsForGood d has.0)
    (sym c.take_disk.ensures.disk) has.1.stands in (
      OfEvents c.args.events.now,
      has.0,
      c.in_ok-answer.ensures.answers has.0 (c.in_ok-opened.ensures.serves has.0 taken) c.in_ok-opened.ensures.whole,
    )
