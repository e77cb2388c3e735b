use Rattle.std.proofs.Common.{◌≡◌, ◌∙◌, ℕ, List, length, ap, subst, sym}
use Rattle.std.specs.Prelude.{nat_lt, if◌then◌else◌}
use Rattle.tw_base.specs.declared.history.question.Question.TheVariants.{ThreadOut}
use Rattle.tw_base.specs.declared.history.thread.Thread.{Thread}
use Rattle.tw_base.specs.format.Formats.{Spells}
use Rattle.tw_base.specs.history.History.{History}
use Rattle.tw_msg.specs.HistoryMessages.{IsMessageOf}
use Rattle.tw_msg.specs.Messages.{message_layout}
use Rattle.tw_msg.specs.declared.message.Message.{Message}
use Rattle.tw_service.specs.Machine.{Makes}
use Rattle.tw_generate.specs.Playing.{HasHeard}
use Rattle.tw_generate.proofs.AskedCalls.{received-by}
use Rattle.tw_generate.proofs.HeardSteps.{has-heard}
use Rattle.tw_generate.proofs.Parts.{made-of}
use Rattle.tw_service.specs.Machine.Call.{Ask}
use Rattle.tw_generate.specs.Coming.{IsNotRefused}
use Rattle.tw_generate.proofs.Unrefused.{received-fails}
use Rattle.tw_generate.proofs.telling.tell.Goals as goal

pub returns : goal.returns
unfolding Makes
returns g c = λ a b sends takes known.
    let dig : List ℕ → List ℕ = g.H.Hasher.dig in
    let since : ℕ = c.args.last.now in
    let told = c.in_ok-bytes.ensures.asked a sends in
    let made = made-of dig a (ThreadOut since) c.in_ok-bytes.bytes told.1 in
    let m : Message = made.0 in
    let spelled : Spells message_layout c.as_slice.result.now m =
    subst (λ (bytes : List ℕ). Spells message_layout bytes m) (sym c.as_slice.ensures) made.1 in
    let received = received-by dig g.D.Disk.view c.args.to.now c.receive.new.self b takes c.as_slice.result.now m
    c.receive.result c.in_ok-given.field-0 c.receive.ensures spelled c.in_ok-given.ensures.value in
    let next : History = received.0 in
    let before : c.steps-before.result ≡ length b.steps = c.steps-before.ensures.served b takes.0 in
    let after : c.steps.result ≡ length next.steps = c.steps.ensures.served next received.1.0 in
    let at : c.steps-2.result ≡ length a.steps = c.steps-2.ensures.served a told.0.0 in
    let last : c.heard.result ≡ (if nat_lt (length b.steps) (length next.steps) then length a.steps else since) =
    c.heard.ensures ∙ ap (λ n. if nat_lt n c.steps.result then c.steps-2.result else since) before
    ∙ ap (λ n. if nat_lt (length b.steps) n then c.steps-2.result else since) after
    ∙ ap (λ n. if nat_lt (length b.steps) (length next.steps) then n else since) at in (
      told.0,
      record {
        heard = next;
        hears = record {
          message = m;
          is_message = subst (λ n. IsMessageOf dig a n m) known made.2;
          receipt = c.in_ok-given.field-0;
          receives = received.3;
        };
        receiver = received.1;
        has_heard = subst (HasHeard a b next) (sym last)
            (has-heard a b next m.thread _ _ (ap (λ (t : Thread). t.from) made.2.thread)
            (ap (λ (t : Thread). t.step) made.2.thread) received.2 since known);
      },
    )

pub answered-requires-clause-takes : goal.answered-requires-clause-takes
answered-requires-clause-takes g c =
    let can = c.requires in
    (can.0, can.2, subst (λ n. IsNotRefused g.H.Hasher.dig can.0 (Ask (ThreadOut n))) (sym can.4) can.5.0)

pub given-requires : goal.given-requires
unfolding Makes
given-requires g c =
    let dig : List ℕ → List ℕ = g.H.Hasher.dig in
    let can = c.requires in
    let told = c.in_ok-bytes.ensures.asked can.0 can.2 in
    let made = made-of dig can.0 (ThreadOut c.args.last.now) c.in_ok-bytes.bytes told.1 in
    let m : Message = made.0 in
    received-fails dig g.D.Disk.view c.args.to.now c.receive.new.self can.1 can.3 c.as_slice.result.now m
    c.receive.result
    (can.5.1 m (subst (λ n. IsMessageOf dig can.0 n m) can.4 made.2))
    (subst (λ (bytes : List ℕ). Spells message_layout bytes m) (sym c.as_slice.ensures) made.1) c.receive.ensures
