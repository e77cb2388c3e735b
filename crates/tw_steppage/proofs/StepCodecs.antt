-- The codecs of step pages are lawful, and what fits them.
use Rattle.std.proofs.Common.{◌≡◌, ℕ, suc, zero, ◌+◌, ◌<◌, ◌≤◌, ◌^◌, List, length, refl, ap, sym, ◌∙◌, arith}
use Rattle.std.specs.Prelude.{Bool, true, false, Option, Some, None, IfSome, replicate}
use Rattle.tw_base.specs.declared.history.root.Root.{Root}
use Rattle.tw_base.specs.declared.history.thread.Thread.{Thread}
use Rattle.tw_base.specs.declared.kinds.limits.TheConstants.{LAST_STEP, MOST_EVENTS}
use Rattle.tw_base.specs.format.Codecs.{HasBytes, behind, by_kind, bytes_codec, digest_codec, many, name_codec, nothing}
use Rattle.tw_base.specs.format.Codecs.{number_codec, optional, pair, present, seen}
use Rattle.tw_base.specs.history.HistoryCodec.{is_of_events, is_timed, time_codec}
use Rattle.tw_base.specs.history.Limits.{IsThread, IsTimeWithinLimits}
use Rattle.tw_base.specs.kinds.Levels.{top_level}
use Rattle.tw_base.specs.kinds.Lists.{Each}
use Rattle.tw_base.proofs.lemmas.format.CodecLaws.{Lawful, lawful, lawful-behind, lawful-by_kind, lawful-choose}
use Rattle.tw_base.proofs.lemmas.format.CodecLaws.{lawful-nothing, lawful-optional, lawful-pair, lawful-present}
use Rattle.tw_base.proofs.lemmas.format.CodecLaws.{lawful-seen}
use Rattle.tw_steppage.specs.declared.link.StepRef.{StepRef}
use Rattle.tw_steppage.specs.declared.fields.StepFields.{StepFields}
use Rattle.tw_steppage.specs.declared.fields.StreamRef.{StreamRef}
use Rattle.tw_steppage.specs.declared.limits.TheConstants.{MOST_STREAM_BYTES}
use Rattle.tw_steppage.specs.StepBytes.{counts_codec, field_codec, fields_kind, kind_by, links_codec, no_stream}
use Rattle.tw_base.specs.format.PageBytes.{page_number_codec}
use Rattle.tw_steppage.specs.StepBytes.{page_thread_codec, paged_codec, received_codec, ref_codec}
use Rattle.tw_steppage.specs.StepBytes.{step_body_codec}
use Rattle.tw_steppage.specs.StepPages.{HasRanges}

pub ref-lawful : Lawful ref_codec
unfolding ref_codec
ref-lawful = search lawful depth 20

pub links-lawful : (step : ℕ) → Lawful (links_codec step)
unfolding links_codec
links-lawful step = search (lawful, ref-lawful) depth 20

page_thread-lawful : Lawful page_thread_codec
unfolding page_thread_codec
page_thread-lawful = search lawful depth 20

counts-lawful : (is_events : Bool) → Lawful (counts_codec is_events)
unfolding counts_codec
counts-lawful is_events = lawful-choose is_events _ _ (search lawful depth 20)
    (lawful-behind (replicate 16 0) _ (lawful-nothing (0, no_stream)))

received-lawful : (is_events : Bool) → Lawful (received_codec is_events)
unfolding received_codec
received-lawful is_events = lawful-choose is_events _ _ (lawful-behind (replicate 56 0) _ (lawful-nothing None))
    (lawful-present page_thread_codec page_thread-lawful)

body-lawful : (step kind : ℕ) → Lawful (step_body_codec step kind)
unfolding step_body_codec
body-lawful step kind =
    let counts = counts-lawful (is_of_events kind) in
    let received = received-lawful (is_of_events kind) in
    let time = lawful-optional time_codec (search lawful) (is_timed kind) in
    let links = links-lawful step in
    lawful-seen _ _ _ (λ t. refl) (λ p. refl) (lawful-pair (counts_codec (is_of_events kind)) _ counts
    (λ c _. lawful-pair digest_codec _ (search lawful) (λ e _.
    lawful-pair digest_codec _ (search lawful) (λ l _. lawful-pair page_number_codec _ (search lawful)
    (λ a _. lawful-pair (received_codec (is_of_events kind)) _ received (λ r _.
    lawful-pair digest_codec _ (search lawful) (λ u _. lawful-pair (links_codec step) _ links (λ ls _. time))))))))

-- ---- each kind has the pages of its kind

none-received : (r : Option Thread) → (received_codec true).Fits r → r ≡ None
unfolding received_codec behind nothing
none-received r fits = sym fits

by_thread : (time : Option ℕ) (r : Option Thread) → (received_codec false).Fits r → kind_by time r ≡ 1 + kind_by time
    None
unfolding received_codec present
by_thread time None fits = absurd fits
by_thread None (Some t) fits = refl
by_thread (Some time) (Some t) fits = refl

by_time : (time : Option ℕ) → (present time_codec).Fits time → kind_by time None ≡ 3
unfolding present
by_time None fits = absurd fits
by_time (Some time) fits = refl

untimed : (time : Option ℕ) → None ≡ time → kind_by time None ≡ 1
untimed time e = ap (λ (t : Option ℕ). kind_by t None) (sym e)

of_received : (time : Option ℕ) (r : Option Thread) → r ≡ None → kind_by time r ≡ kind_by time None
of_received time r e = ap (λ (x : Option Thread). kind_by time x) e

pub kinds : (step kind : ℕ) (p : StepFields × List StepRef) → (number_codec 1 1 4).Fits kind
    → (step_body_codec step kind).Fits p → fields_kind p.0 ≡ kind
unfolding number_codec step_body_codec seen pair nothing
kinds step zero p fits is = absurd (omega (arith, fits.0))
kinds step (suc zero) p fits is = of_received p.0.time p.0.received (none-received p.0.received is.1.1.1.1.0)
    ∙ untimed p.0.time is.1.1.1.1.1.1.1
kinds step (suc (suc zero)) p fits is = by_thread p.0.time p.0.received is.1.1.1.1.0 ∙ ap (λ n. 1 + n)
    (untimed p.0.time is.1.1.1.1.1.1.1)
kinds step (suc (suc (suc zero))) p fits is = of_received p.0.time p.0.received
    (none-received p.0.received is.1.1.1.1.0) ∙ by_time p.0.time is.1.1.1.1.1.1.1
kinds step (suc (suc (suc (suc zero)))) p fits is = by_thread p.0.time p.0.received is.1.1.1.1.0 ∙ ap (λ n. 1 + n)
    (by_time p.0.time is.1.1.1.1.1.1.1)
kinds step (suc (suc (suc (suc (suc n))))) p fits is = absurd (omega (arith, fits.1))

kinds-lawful : (step : ℕ) → Lawful (field_codec step)
unfolding field_codec
kinds-lawful step = lawful-by_kind (λ (p : StepFields × List StepRef). fields_kind p.0) (number_codec 1 1 4)
    (step_body_codec step) (search lawful) (λ kind _. body-lawful step kind) (kinds step)

pub step-lawful : (step : ℕ) → Lawful (paged_codec step)
unfolding paged_codec
step-lawful step = lawful-behind _ _ (lawful-behind _ _ (kinds-lawful step))

-- ---- what fits

pub ref-fits : (l : StepRef) → l.page < 2 ^ 64 → HasBytes 32 l.auth → ref_codec.Fits l
unfolding ref_codec seen pair number_codec bytes_codec
ref-fits l small auth = ((omega arith, omega (arith, small)), auth)

-- what a step has of events, or of a thread
abbrev pub HasCounts : Option Thread → (count : ℕ) → StreamRef → Type 0
HasCounts None count stream = (count ≤ MOST_EVENTS) × ((stream.size ≤ MOST_STREAM_BYTES) × (stream.page < 2 ^ 64))
HasCounts (Some t) count stream = (◌≡◌ {A = ℕ × StreamRef} (0, no_stream) (count, stream)) × IsThread t

thread-fits : (t : Thread) → IsThread t → page_thread_codec.Fits t
unfolding page_thread_codec seen pair name_codec number_codec bytes_codec
thread-fits t is = (is.0, ((omega arith, is.2), (is.3, is.4)))

events-fit : (count : ℕ) (stream : StreamRef) → HasCounts None count stream → (counts_codec true).Fits (count, stream)
unfolding counts_codec seen pair number_codec
events-fit count stream has = ((omega arith, has.0), ((omega arith, has.1.0), (omega arith, omega (arith, has.1.1))))

no-events-fit : (count : ℕ) (stream : StreamRef) → ◌≡◌ {A = ℕ × StreamRef} (0, no_stream) (count, stream)
    → (counts_codec false).Fits (count, stream)
unfolding counts_codec behind nothing
no-events-fit count stream none = none

none-fits : (received_codec true).Fits None
unfolding received_codec behind nothing
none-fits = refl

some-fits : (t : Thread) → IsThread t → (received_codec false).Fits (Some t)
unfolding received_codec present
some-fits t is = thread-fits t is

time-fits : (time : ℕ) → IsTimeWithinLimits (Some time) → (present time_codec).Fits (Some time)
unfolding present number_codec
time-fits time within = (omega arith, within)

no-time-fits : (nothing {X = Option ℕ} None).Fits None
unfolding nothing
no-time-fits = refl

module _ (step count : ℕ) (stream : StreamRef) (event_root : List ℕ) (archive : Root) (auth : List ℕ)
    (links : List StepRef) where
  abbrev fields : (time : Option ℕ) → (received : Option Thread) → StepFields
  fields time received =
      record {
        count = count;
        stream = stream;
        event_root = event_root;
        archive = archive;
        received = received;
        auth = auth;
        time = time;
      }

  pub step-fits : (time : Option ℕ) (received : Option Thread) → HasCounts received count stream
      → HasBytes 32 event_root → HasBytes 32 archive.label → archive.page < 2 ^ 64 → HasBytes 32 auth
      → IsTimeWithinLimits time → length links ≡ suc (top_level step) → Each ref_codec.Fits links
      → (paged_codec step).Fits (fields time received, links)
  unfolding paged_codec field_codec behind by_kind step_body_codec seen pair number_codec bytes_codec links_codec many
  step-fits None None has root label page own within many_are each = (
    (omega arith, omega arith),
    (
      events-fit count stream has,
      (root, (label, ((omega arith, omega (arith, page)), (none-fits, (own, ((many_are, each), no-time-fits)))))),
    ),
  )
  step-fits None (Some t) has root label page own within many_are each = (
    (omega arith, omega arith),
    (
      no-events-fit count stream has.0,
      (
        root,
        (label, ((omega arith, omega (arith, page)), (some-fits t has.1, (own, ((many_are, each), no-time-fits))))),
      ),
    ),
  )
  step-fits (Some time) None has root label page own within many_are each = (
    (omega arith, omega arith),
    (
      events-fit count stream has,
      (
        root,
        (label, ((omega arith, omega (arith, page)), (none-fits, (own, ((many_are, each), time-fits time within))))),
      ),
    ),
  )
  step-fits (Some time) (Some t) has root label page own within many_are each = (
    (omega arith, omega arith),
    (
      no-events-fit count stream has.0,
      (
        root,
        (
          label,
          ((omega arith, omega (arith, page)), (some-fits t has.1, (own, ((many_are, each), time-fits time within)))),
        ),
      ),
    ),
  )

few-counts : (is_events : Bool) (c : ℕ × StreamRef) → (counts_codec is_events).Fits c → c.0 ≤ MOST_EVENTS
unfolding counts_codec behind nothing seen pair number_codec
few-counts true c fits = fits.0.1
few-counts false c fits = let none = ap (λ (x : ℕ × StreamRef). x.0) fits in omega (arith, none)

time-within : (is_timed : Bool) (time : Option ℕ) → (optional is_timed time_codec).Fits time → IsTimeWithinLimits time
unfolding present nothing number_codec
time-within is None fits = tt
time-within true (Some time) fits = fits.1
time-within false (Some time) fits = absurd cc

thread-within : (is_events : Bool) (received : Option Thread) → (received_codec is_events).Fits received
    → IfSome received (λ t. t.step ≤ LAST_STEP)
unfolding received_codec behind nothing present page_thread_codec seen pair number_codec
thread-within is None fits = tt
thread-within true (Some t) fits = absurd cc
thread-within false (Some t) fits = fits.1.0.1

module _ (step : ℕ) (f : StepFields) (links : List StepRef) (fits : (paged_codec step).Fits (f, links)) where
  pub links-count : length links ≡ suc (top_level step)
  unfolding paged_codec field_codec behind by_kind step_body_codec seen pair links_codec many
  links-count = fits.1.1.1.1.1.1.1.0.0

  pub events-few : f.count ≤ 1024
  unfolding paged_codec field_codec behind by_kind step_body_codec seen pair
  events-few = few-counts (is_of_events (fields_kind f)) (f.count, f.stream) fits.1.0

  pub in-ranges : HasRanges f
  unfolding paged_codec field_codec behind by_kind step_body_codec seen pair
  in-ranges = (
    events-few,
    time-within (is_timed (fields_kind f)) f.time fits.1.1.1.1.1.1.1.1,
    thread-within (is_of_events (fields_kind f)) f.received fits.1.1.1.1.1.0,
  )
