use Rattle.std.proofs.Common.{◌≡◌, List, ℕ, length, subst, sym, ◌<◌, ◌≤◌, arith}
use Rattle.std.specs.Prelude.{Some}
use Rattle.tw_base.specs.declared.history.question.Question.{Question}
use Rattle.tw_base.specs.declared.history.question.Question.TheVariants as ask
use Rattle.tw_base.specs.declared.history.thread.Thread.{Thread}
use Rattle.tw_generate.specs.Summing.{IsFileMap, IsQuestionAnswered, last}
use Rattle.tw_tmap.specs.Bounds.{high_bound, low_bound}
use Rattle.tw_generate.proofs.Results.{if-ok}
use Rattle.tw_service.specs.Machine.Call.{Ask}
use Rattle.tw_generate.specs.Coming.{IsNotRefused}
use Rattle.tw_base.specs.declared.kinds.limits.TheConstants.{LAST_STEP}
use Rattle.tw_generate.specs.Schedules.Who.{Alpha}
use Rattle.tw_generate.proofs.Ends.{some-steps}
use Rattle.tw_generate.proofs.judging.map.Goals as goal

pub returns : goal.returns
returns g c = λ t plays heads.
    let dig : List ℕ → List ℕ = g.H.Hasher.dig in
    let step : c.steps-step.result ≡ length t.alpha.steps = c.steps-step.ensures.served t.alpha plays.0.0 in
    let top : c.steps-top.result ≡ length t.gamma.steps = c.steps-top.ensures.served t.gamma plays.2.0 in
    let alpha : c.name-alpha.result ≡ t.alpha.name = c.name-alpha.ensures.served t.alpha plays.0.0 in
    let gamma : c.name-gamma.result ≡ t.gamma.name = c.name-gamma.ensures.served t.gamma plays.2.0 in
    let low = c.in_ok-low.ensures.asked t.alpha plays.0 in
    let high = c.in_ok-high.ensures.asked t.gamma plays.2 in
    if-ok c.checked.result (λ bounds files. (
      (low.0, plays.1, high.0),
      record {
        low_bytes = c.in_ok-low.low;
        low_made = subst (λ (q : Question). IsQuestionAnswered dig t.alpha q c.in_ok-low.low)
            (λ j. ask.Low (step j) (gamma j) (Some (step j))) low.1;
        high_bytes = c.in_ok-high.high;
        high_made = subst (λ (q : Question). IsQuestionAnswered dig t.gamma q c.in_ok-high.high)
            (λ j. ask.High (step j) (alpha j) (Some (top j))) high.1;
        files = subst (λ (anchors : List Thread). IsFileMap dig anchors c.in_ok-low.low c.in_ok-high.high bounds.low
            bounds.high) heads files;
      },
    )) c.checked.ensures

pub answered-requires-clause-takes : goal.answered-requires-clause-takes
answered-requires-clause-takes g c =
    let can = c.requires in
    let t = can.2 in
    let plays = can.3.0 in
    let step : c.steps-step.result ≡ length t.alpha.steps = c.steps-step.ensures.served t.alpha plays.0.0 in
    let gamma : c.name-gamma.result ≡ t.gamma.name = c.name-gamma.ensures.served t.gamma plays.2.0 in (
      t.alpha,
      plays.0,
      subst (λ (q : Question). IsNotRefused g.H.Hasher.dig t.alpha (Ask q))
          (sym (λ j. ask.Low (step j) (gamma j) (Some (step j)))) (c.generate_laws.ensures.asked can.0 can.1 t
          can.3.1).1,
    )

pub answered-requires-2-clause-takes : goal.answered-requires-2-clause-takes
answered-requires-2-clause-takes g c =
    let can = c.requires in
    let t = can.2 in
    let plays = can.3.0 in
    let step : c.steps-step.result ≡ length t.alpha.steps = c.steps-step.ensures.served t.alpha plays.0.0 in
    let top : c.steps-top.result ≡ length t.gamma.steps = c.steps-top.ensures.served t.gamma plays.2.0 in
    let alpha : c.name-alpha.result ≡ t.alpha.name = c.name-alpha.ensures.served t.alpha plays.0.0 in (
      t.gamma,
      plays.2,
      subst (λ (q : Question). IsNotRefused g.H.Hasher.dig t.gamma (Ask q))
          (sym (λ j. ask.High (step j) (alpha j) (Some (top j)))) (c.generate_laws.ensures.asked can.0 can.1 t
          can.3.1).2,
    )

pub checked-requires : goal.checked-requires
checked-requires g c =
    let dig : List ℕ → List ℕ = g.H.Hasher.dig in
    let can = c.requires in
    let t = can.2 in
    let plays = can.3.0 in
    let step : c.steps-step.result ≡ length t.alpha.steps = c.steps-step.ensures.served t.alpha plays.0.0 in
    let top : c.steps-top.result ≡ length t.gamma.steps = c.steps-top.ensures.served t.gamma plays.2.0 in
    let alpha : c.name-alpha.result ≡ t.alpha.name = c.name-alpha.ensures.served t.alpha plays.0.0 in
    let gamma : c.name-gamma.result ≡ t.gamma.name = c.name-gamma.ensures.served t.gamma plays.2.0 in
    let low = (c.in_ok-low.ensures.asked t.alpha plays.0).1 in
    let high = (c.in_ok-high.ensures.asked t.gamma plays.2).1 in
    let files = c.generate_laws.ensures.mapped can.0 can.1 t c.in_ok-low.low c.in_ok-high.high can.3.1
    (subst (λ (q : Question). IsQuestionAnswered dig t.alpha q c.in_ok-low.low)
    (λ j. ask.Low (step j) (gamma j) (Some (step j))) low)
    (subst (λ (q : Question). IsQuestionAnswered dig t.gamma q c.in_ok-high.high)
    (λ j. ask.High (step j) (alpha j) (Some (top j))) high) in (
      low_bound t.alpha (last t.alpha) t.gamma.name,
      high_bound t.gamma t.alpha.name (last t.alpha) (last t.gamma),
      subst (λ (anchors : List Thread). IsFileMap dig anchors c.in_ok-low.low c.in_ok-high.high
          (low_bound t.alpha (last t.alpha) t.gamma.name)
          (high_bound t.gamma t.alpha.name (last t.alpha) (last t.gamma))) (sym can.4) files,
    )

pub answered-requires-2-clause-may : goal.answered-requires-2-clause-may
answered-requires-2-clause-may g c =
    let can = c.requires in
    let t = can.2 in
    let step : c.steps-step.result ≡ length t.alpha.steps = c.steps-step.ensures.served t.alpha can.3.0.0.0 in
    let some : 0 < length t.alpha.steps = some-steps g.H.Hasher.dig can.0 can.1 t can.3.1 Alpha in
    let short : length t.alpha.steps ≤ LAST_STEP = (c.generate_laws.ensures.sound can.0 can.1 t can.3.1).0.length in
    (omega (arith, step, some), omega (arith, step, short))
