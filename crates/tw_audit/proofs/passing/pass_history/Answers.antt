use Rattle.std.proofs.Common.{◌≡◌, ℕ, List, length, subst}
use Rattle.tw_base.specs.declared.history.thread.Thread.{Thread}
use Rattle.tw_base.specs.history.HistoryTexts.{history_texts, texts_to}
use Rattle.tw_base.specs.kinds.Handing.{Hands}
use Rattle.tw_base.specs.kinds.Lists.{Each, In}
use Rattle.tw_history.specs.Stops.{auth_to, stopped_at}
use Rattle.tw_audit.proofs.StopLaws.{stops-answer}
use Rattle.tw_audit.proofs.passing.pass_history.Goals as goal

pub returns-clause-answers : goal.returns-clause-answers
returns-clause-answers g c =
    let dig = g.T.Transcript.dig in
    let h = c.args.history.now in
    let steps = c.in_ok-steps.steps.items in
    let stops = c.in_ok-stops.stops.items in
    record {
      service = c.service-2.ensures;
      found = stops-answer dig h c.args.held.now steps stops
          (subst (λ (name : List ℕ). Each (λ (t : Thread). t.from ≡ name → In t.step steps) c.args.held.now)
          c.service.ensures c.in_ok-steps.ensures)
          (subst (λ asked. Each (λ step. stopped_at stops step ≡ auth_to dig h (length h.steps) step) asked)
          c.as_slice.ensures.value
          (subst (λ last. Each (λ step. stopped_at stops step ≡ auth_to dig h last step) c.as_slice.result.now)
          c.count_of_steps-last.ensures.count c.in_ok-stops.ensures.stops));
    }

pub returns-clause-took : goal.returns-clause-took
unfolding history_texts
returns-clause-took g c =
    subst (λ last. Hands g.T.Transcript.took c.args.texts.now c.stops_to.new.texts
    (texts_to g.T.Transcript.dig c.args.history.now last)) c.count_of_steps-last.ensures.count
    c.in_ok-stops.ensures.took
