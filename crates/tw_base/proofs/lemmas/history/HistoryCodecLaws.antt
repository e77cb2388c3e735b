-- The codec of history files is lawful.
use Rattle.std.proofs.Common.{◌≡◌, ℕ, suc, zero, ◌+◌, refl, ap, sym, ◌∙◌, arith}
use Rattle.std.specs.Prelude.{Bool, true, false, Option, Some, None}
use Rattle.tw_base.specs.declared.history.content.Content.{Content}
use Rattle.tw_base.specs.declared.history.content.Content.TheVariants.{Events, Received}
use Rattle.tw_base.specs.declared.kinds.limits.TheConstants.{MOST_EVENTS}
use Rattle.tw_base.specs.format.Codecs.{counted, nothing, number_codec, optional, pair, present, variant}
use Rattle.tw_base.specs.history.HistoryCodec.{content_codec, event_codec, events_in, history_codec, is_of_events}
use Rattle.tw_base.specs.history.HistoryCodec.{is_timed, kind_of, node_codec, of_kind, recorded_codec, step_codec}
use Rattle.tw_base.specs.history.HistoryCodec.{thread_codec, thread_in, time_codec}
use Rattle.tw_base.proofs.lemmas.format.CodecLaws.{Lawful, lawful, lawful-by_kind, lawful-choose, lawful-optional}
use Rattle.tw_base.proofs.lemmas.format.CodecLaws.{lawful-pair}

pub thread-lawful : Lawful thread_codec
unfolding thread_codec
thread-lawful = search lawful depth 20

pub node-lawful : Lawful node_codec
unfolding node_codec
node-lawful = search lawful depth 20

events-lawful : Lawful (variant Events events_in (counted 4 0 MOST_EVENTS event_codec))
events-lawful = search lawful depth 20

received-lawful : Lawful (variant Received thread_in thread_codec)
received-lawful = search (lawful, thread-lawful) depth 20

pub content-lawful : (is_events : Bool) → Lawful (content_codec is_events)
unfolding content_codec
content-lawful is_events = lawful-choose is_events _ _ events-lawful received-lawful

-- each kind has the values of its kind
timed-kind : (time : Option ℕ) (c : Content) → (present time_codec).Fits time → kind_of time c ≡ 2 + kind_of None c
unfolding present
timed-kind None c fits = absurd fits
timed-kind (Some time) (Events events) fits = refl
timed-kind (Some time) (Received t) fits = refl

events-kind : (c : Content) → (content_codec true).Fits c → kind_of None c ≡ 1
unfolding content_codec variant
events-kind (Events events) fits = refl
events-kind (Received t) fits = absurd fits

received-kind : (c : Content) → (content_codec false).Fits c → kind_of None c ≡ 2
unfolding content_codec variant
received-kind (Events events) fits = absurd fits
received-kind (Received t) fits = refl

untimed : (time : Option ℕ) (c : Content) → None ≡ time → kind_of time c ≡ kind_of None c
untimed time c e = sym (ap (λ t. kind_of t c) e)

pub kinds : (kind : ℕ) (r : Option ℕ × Content) → (number_codec 1 1 4).Fits kind → (of_kind kind).Fits r
    → kind_of r.0 r.1 ≡ kind
unfolding number_codec pair nothing
kinds zero r fits is = absurd (omega (arith, fits.0))
kinds (suc zero) r fits is = untimed r.0 r.1 is.0 ∙ events-kind r.1 is.1
kinds (suc (suc zero)) r fits is = untimed r.0 r.1 is.0 ∙ received-kind r.1 is.1
kinds (suc (suc (suc zero))) r fits is = timed-kind r.0 r.1 is.0 ∙ ap (λ n. 2 + n) (events-kind r.1 is.1)
kinds (suc (suc (suc (suc zero)))) r fits is = timed-kind r.0 r.1 is.0 ∙ ap (λ n. 2 + n) (received-kind r.1 is.1)
kinds (suc (suc (suc (suc (suc n))))) r fits is = absurd (omega (arith, fits.1))

pub recorded-lawful : Lawful recorded_codec
unfolding recorded_codec
recorded-lawful = lawful-by_kind (λ r. kind_of r.0 r.1) (number_codec 1 1 4) of_kind (search lawful) (λ kind _.
    lawful-pair (optional (is_timed kind) time_codec) (λ time. content_codec (is_of_events kind))
    (lawful-optional time_codec (search lawful) (is_timed kind)) (λ _ _. content-lawful (is_of_events kind))) kinds

pub step-lawful : Lawful step_codec
unfolding step_codec
step-lawful = search (lawful, recorded-lawful, node-lawful) depth 20

pub history-lawful : Lawful history_codec
unfolding history_codec
history-lawful = search (lawful, step-lawful) depth 20
