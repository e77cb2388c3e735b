use Rattle.std.proofs.Common.{Bool, ap, refl, subst, sym, ◌∙◌}
use Rattle.std.specs.Prelude.{Err, Ok}
use Rattle.tw_follow.specs.declared.judging.Offered.{Offered}
use Rattle.tw_follow.specs.declared.judging.Offered.TheVariants.{Known, Moves}
use Rattle.tw_base.specs.declared.history.refusal.FollowRefusal.TheVariants.{Reopen}
use Rattle.tw_follow.specs.Offers.{AnswersOffer}
use Rattle.tw_follow.proofs.Answering.{known_offer, moves_answer, refused_offer, reopen_is_none}
use Rattle.tw_follow.proofs.Offering.{judges-table, moved-next, no_fault, refused-answer}
use Rattle.tw_follow.proofs.follower.Follower.take.Goals as goal

pub move_to-requires-clause-from : goal.move_to-requires-clause-from
move_to-requires-clause-from g c =
    (moved-next g.H.Hasher.dig c.args.self.now.recorded.root.head c.args.message.now c.in-Ok-Moves.head
    c.requires.thread (sym c.in-Ok-Moves.ensures ∙ ap (λ (o : Offered). Ok o) c.in-Ok-Moves.field-0-is)).0

pub move_to-requires-clause-above : goal.move_to-requires-clause-above
move_to-requires-clause-above g c =
    (moved-next g.H.Hasher.dig c.args.self.now.recorded.root.head c.args.message.now c.in-Ok-Moves.head
    c.requires.thread (sym c.in-Ok-Moves.ensures ∙ ap (λ (o : Offered). Ok o) c.in-Ok-Moves.field-0-is)).1

pub move_to-requires-clause-thread : goal.move_to-requires-clause-thread
move_to-requires-clause-thread g c =
    (moved-next g.H.Hasher.dig c.args.self.now.recorded.root.head c.args.message.now c.in-Ok-Moves.head
    c.requires.thread (sym c.in-Ok-Moves.ensures ∙ ap (λ (o : Offered). Ok o) c.in-Ok-Moves.field-0-is)).2

pub returns-then-self : goal.returns-then-self
returns-then-self g c = λ bytes spells.
    let f = c.args.self.now in
    refused_offer g.D.Disk.view g.met.D.Disk.only_now g.H.Hasher.dig f bytes Reopen
    (subst (λ (b : Bool). AnswersOffer g.H.Hasher.dig b f.recorded.root.head bytes (Err Reopen)) (sym c.if-self.true)
    refl) reopen_is_none

pub returns-in-Err : goal.returns-in-Err
returns-in-Err g c = λ bytes spells.
    let f = c.args.self.now in
    let head = f.recorded.root.head in
    let judges = judges-table g.H.Hasher.dig head bytes (Err c.in-Err.refusal) c.args.message.now spells
    (sym c.in-Err.ensures) in
    refused_offer g.D.Disk.view g.met.D.Disk.only_now g.H.Hasher.dig f bytes c.in-Err.refusal
    (subst (λ (b : Bool). AnswersOffer g.H.Hasher.dig b head bytes (Err c.in-Err.refusal)) (sym c.if-self.false)
    (refused-answer g.H.Hasher.dig head bytes c.in-Err.refusal judges))
    (no_fault g.H.Hasher.dig head bytes c.in-Err.refusal judges)

pub returns-in-Ok-Known : goal.returns-in-Ok-Known
returns-in-Ok-Known g c = λ bytes spells.
    let f = c.args.self.now in
    known_offer g.D.Disk.view g.met.D.Disk.only_now g.H.Hasher.dig f bytes c.if-self.false
    (judges-table g.H.Hasher.dig f.recorded.root.head bytes (Ok Known) c.args.message.now spells
    (sym c.in-Ok-Known.ensures ∙ ap (λ (o : Offered). Ok o) c.in-Ok-Known.field-0-is))

pub returns-in-Ok-Moves : goal.returns-in-Ok-Moves
returns-in-Ok-Moves g c = λ bytes spells.
    let f = c.args.self.now in
    let judges = judges-table g.H.Hasher.dig f.recorded.root.head bytes (Ok (Moves c.in-Ok-Moves.head))
    c.args.message.now spells (sym c.in-Ok-Moves.ensures ∙ ap (λ (o : Offered). Ok o) c.in-Ok-Moves.field-0-is) in
    moves_answer g.D.Disk.view g.met.D.Disk.only_now g.H.Hasher.dig f _ bytes c.in-Ok-Moves.head c.if-self.false judges
    (moved-next g.H.Hasher.dig f.recorded.root.head c.args.message.now c.in-Ok-Moves.head c.requires.thread
    (sym c.in-Ok-Moves.ensures ∙ ap (λ (o : Offered). Ok o) c.in-Ok-Moves.field-0-is)).2 c.move_to.ensures.later
    c.move_to.result c.move_to.ensures.head c.move_to.ensures.answers c.move_to.ensures.kept c.move_to.ensures.broken
    c.move_to.ensures.fault c.move_to.ensures.written
