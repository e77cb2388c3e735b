use Rattle.std.proofs.Common.{◌∙◌, List, ℕ, ap, length, arith, subst}
use Rattle.std.specs.Prelude.{is_some}
use Rattle.tw_base.specs.kinds.Bytes.{AreBytes}
use Rattle.tw_base.specs.kinds.Lists.{Each}
use Rattle.std.specs.Option.{option_map}
use Rattle.tw_answers.specs.Limits.{events_size, first_long}
use Rattle.tw_answers.proofs.EventLimits.{bytes-short, short_events}
use Rattle.tw_answers.proofs.limits.limits_refusal.Goals as goal

pub total_bytes-bytes-requires : goal.total_bytes-bytes-requires
total_bytes-bytes-requires c =
    let found = c.first_long_length.ensures.answer ∙ ap (λ (es : List (List ℕ)). option_map (λ event. length event)
    (first_long es)) c.as_slice.ensures in
    let few = bytes-short c.args.events.now (short_events c.args.events.now _ found c.in_default.is) in
    omega (arith, few, c.if-count-gt-MOST_EVENTS.false, ap events_size c.as_slice-2.ensures)

pub returns-clause-within : goal.returns-clause-within
returns-clause-within c =
    let found = c.first_long_length.ensures.answer ∙ ap (λ (es : List (List ℕ)). option_map (λ event. length event)
    (first_long es)) c.as_slice.ensures in
    λ _. record {
      are = record {
        count = omega (arith, c.if-count-gt-MOST_EVENTS.false);
        sizes = short_events c.args.events.now _ found c.in_default.is;
        bytes = subst (Each AreBytes) c.as_slice.ensures
            (c.first_long_length.ensures.bytes (ap is_some c.in_default.is));
      };
      fit = omega (
        arith,
        c.if-bytes-gt-MOST_STEP_BYTES.false,
        c.total_bytes-bytes.ensures,
        ap events_size c.as_slice-2.ensures,
      );
    }
