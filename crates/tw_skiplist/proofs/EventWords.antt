-- The events that a stream spells are those that the codec reads.
use Rattle.std.proofs.Common.{◌≡◌, ℕ, ◌-◌, ◌≤◌, List, [], ◌∷◌, ◌++◌, length, replicate, refl, ap, sym, ◌∙◌, arith, Bool}
use Rattle.std.proofs.Common.{true, false, append_assoc}
use Rattle.std.specs.Prelude.{nat_le, sum_by}
use Rattle.std.proofs.lemmas.Bool.{and_parts, le-leb, leb-true}
use Rattle.std.proofs.lemmas.List.{append-nil}
use Rattle.tw_base.specs.kinds.Bytes.{AreBytes}
use Rattle.tw_base.specs.format.Codecs.{by_kind, bytes_codec, many, number_codec, sized_codec}
use Rattle.tw_base.specs.declared.kinds.limits.TheConstants.{MOST_EVENTS, MOST_EVENT_BYTES, MOST_STEP_BYTES}
use Rattle.tw_base.specs.kinds.Lists.{Each}
use Rattle.tw_base.proofs.lemmas.format.CodecLaws.{Lawful, lawful}
use Rattle.tw_base.proofs.lemmas.kinds.ListLemmas.{Each-map}
use Rattle.tw_base.proofs.lemmas.format.NumberLaws.{number_bytes-four}
use Rattle.tw_skiplist.specs.Events.{event_stream_codec, events_on, may_be_recorded}
use Rattle.tw_disk.specs.Found.{Found, when, ◌>>=◌, spelled}
use Rattle.tw_disk.specs.Found.Found.{Is, Bad}
use Rattle.tw_skiplist.specs.ScanSteps.{SpellsEvents}
use Rattle.tw_steppage.specs.StepBytes.{stream}
use Rattle.tw_disk.proofs.FoundLaws.{is_on, same_found}
use Rattle.tw_disk.proofs.SpelledLaws.{Spelt, is-spelled, spelled-bad, spelled-is}
use Rattle.tw_steppage.proofs.Rules.{both_true}

events-lawful : (count : ℕ) → Lawful (event_stream_codec count)
events-lawful count = search lawful depth 20

pub written : (count : ℕ) (events : List (List ℕ)) → (event_stream_codec count).write events ≡ stream events
unfolding many sized_codec by_kind number_codec bytes_codec
written count [] = refl
written count (e ∷ es) =
    append_assoc _ e _ ∙ (λ j. number_bytes-four (length e) j ++ (e ++ written count es j))

each_fits : (events : List (List ℕ)) → Each (λ event. length event ≤ MOST_EVENT_BYTES) events → Each AreBytes events
    → Each (sized_codec 4 0 1024).Fits events
unfolding sized_codec by_kind number_codec bytes_codec
each_fits [] sizes bytes = tt
each_fits (e ∷ es) sizes bytes = (((omega arith, sizes.0), (refl, bytes.0)), each_fits es sizes.1 bytes.1)

fits : (count : ℕ) (events : List (List ℕ)) → length events ≡ count → Each (sized_codec 4 0 1024).Fits events
    → (event_stream_codec count).Fits events
unfolding many
fits count events size each = (size, each)

fit_sizes : (event : List ℕ) → (sized_codec 4 0 1024).Fits event → length event ≤ MOST_EVENT_BYTES
unfolding sized_codec by_kind number_codec bytes_codec
fit_sizes event f = f.0.1

fit_bytes : (event : List ℕ) → (sized_codec 4 0 1024).Fits event → AreBytes event
unfolding sized_codec by_kind number_codec bytes_codec
fit_bytes event f = f.1.1

fit_each : (count : ℕ) (events : List (List ℕ)) → (event_stream_codec count).Fits events → (length events ≡ count)
    × Each (sized_codec 4 0 1024).Fits events
unfolding many
fit_each count events f = f

module _ (bytes : List ℕ) (count : ℕ) where
  pub found-events : (events : List (List ℕ)) → SpellsEvents bytes count events → (page : ℕ) → events_on page count
      bytes ≡ Is events
  unfolding events_on
  found-events events s page =
      let word : List ℕ = (event_stream_codec count).write events in
      let word_is : word ≡ bytes = written count events ∙ s.stream_is in
      is_on (spelled page 0 (event_stream_codec count) bytes) (λ events. when (may_be_recorded events) page events)
      events
      (spelled-is page 0 (event_stream_codec count) (events-lawful count) bytes events (record {
        bytes_are = sym word_is ∙ sym (append-nil word) ∙ ap (λ (n : ℕ). word ++ replicate n 0)
            (let e : 0 ≡ 0 - length word = omega arith in e);
        fits = fits count events s.count_is (each_fits events s.limits.are.sizes s.limits.are.bytes);
      }))
      ∙ ap (λ (b : Bool). when b page events) (both_true (nat_le (length events) MOST_EVENTS)
      (nat_le (sum_by (λ event. length event) events) MOST_STEP_BYTES)
      (le-leb (length events) MOST_EVENTS s.limits.are.count) (le-leb (sum_by (λ event. length event) events)
      MOST_STEP_BYTES s.limits.fit))

  when-is : (b : Bool) (page : ℕ) (xs ys : List (List ℕ)) → when b page xs ≡ Is ys → xs ≡ ys
  when-is true page xs ys e = same_found xs ys e
  when-is false page xs ys e = cc

  -- what is found is spelled
  pub found-spells : (events : List (List ℕ)) (page : ℕ) → events_on page count bytes ≡ Is events
      → (stream events ≡ bytes) × (length events ≡ count)
  unfolding events_on
  found-spells events page found = by (spelled page 0 (event_stream_codec count) bytes) refl found
    where
      by : (f : Found (List (List ℕ))) → spelled page 0 (event_stream_codec count) bytes ≡ f
          → (f >>= (λ events. when (may_be_recorded events) page events)) ≡ Is events → (stream events ≡ bytes)
          × (length events ≡ count)
      by (Bad p) e is = cc
      by (Is es) e is =
          let spelt = is-spelled page 0 (event_stream_codec count) (events-lawful count) bytes es e in
          let same = when-is (may_be_recorded es) page es events is in
          let word : List ℕ = (event_stream_codec count).write es in (
            ap stream (sym same) ∙ sym (written count es) ∙ sym (append-nil word)
                ∙ ap (λ (n : ℕ). word ++ replicate n 0) (let e : 0 ≡ 0 - length word = omega arith in e)
                ∙ sym spelt.bytes_are,
            ap (λ (xs : List (List ℕ)). length xs) (sym same) ∙ (fit_each count es spelt.fits).0,
          )

  module _ (none : (events : List (List ℕ)) → SpellsEvents bytes count events → ⊥) (page : ℕ) where
    tested : (events : List (List ℕ)) → Spelt 0 (event_stream_codec count) bytes events → (b : Bool)
        → may_be_recorded events ≡ b → when b page events ≡ Bad page
    tested events is false e = refl
    tested events is true e =
        let each = fit_each count events is.fits in
        let parts = and_parts (nat_le (length events) MOST_EVENTS) (nat_le (sum_by (λ event. length event) events)
        MOST_STEP_BYTES) e in
        let word : List ℕ = (event_stream_codec count).write events in
        absurd (none events (record {
          stream_is = sym (written count events) ∙ sym (append-nil word) ∙ ap (λ (n : ℕ). word ++ replicate n 0)
              (let e : 0 ≡ 0 - length word = omega arith in e) ∙ sym is.bytes_are;
          count_is = each.0;
          limits = record {
            are = record {
              count = leb-true (length events) MOST_EVENTS parts.0;
              sizes = Each-map _ _ events fit_sizes each.1;
              bytes = Each-map _ _ events fit_bytes each.1;
            };
            fit = leb-true (sum_by (λ event. length event) events) MOST_STEP_BYTES parts.1;
          };
        }))

    after_reading : (f : Found (List (List ℕ))) → spelled page 0 (event_stream_codec count) bytes ≡ f
        → (f >>= (λ events. when (may_be_recorded events) page events)) ≡ Bad page
    after_reading (Bad p) e = sym e ∙ spelled-bad page 0 (event_stream_codec count) (events-lawful count) bytes p e
    after_reading (Is events) e = tested events (is-spelled page 0 (event_stream_codec count) (events-lawful count)
        bytes events e) (may_be_recorded events) refl

    pub found-none : events_on page count bytes ≡ Bad page
    unfolding events_on
    found-none = after_reading (spelled page 0 (event_stream_codec count) bytes) refl
