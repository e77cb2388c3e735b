-- The existence proof that a history has of an event is accepted under the history's authenticator of the top, and is
-- spelled.
use Rattle.std.proofs.Common.{refl, ◌≡◌, ℕ, suc, zero, ◌<◌, ◌≤◌, ◌^◌, List, [], length, sym, subst, arith, lit≤}
use Rattle.std.specs.Prelude.{slice_index_or}
use Rattle.std.proofs.lemmas.Option.{slice_get-get_or}
use Rattle.tw_base.specs.declared.events.event_part.EventPart.{EventPart}
use Rattle.tw_base.specs.declared.kinds.limits.TheConstants.{LAST_STEP, MOST_EVENTS, MOST_EVENT_BYTES}
use Rattle.tw_base.specs.events.AuditPath.{ChecksEvent}
use Rattle.tw_base.specs.history.Auth.{auth}
use Rattle.tw_base.specs.events.EventTree.{audit_path, event_root}
use Rattle.tw_base.specs.history.History.{History, events_at}
use Rattle.tw_base.specs.kinds.Lists.{Each}
use Rattle.tw_base.specs.kinds.Bytes.{AreBytes}
use Rattle.tw_base.specs.format.Codecs.{by_kind, bytes_codec, labels_codec, many, number_codec, pair, seen, sized_codec}
use Rattle.tw_base.specs.format.Formats.{Spells}
use Rattle.tw_base.specs.history.Limits.{IsTimeWithinLimits}
use Rattle.tw_base.specs.history.Sound.{IsSound}
use Rattle.tw_base.proofs.lemmas.events.AuditShown.{ChecksEvent-audit_path}
use Rattle.tw_base.proofs.lemmas.kinds.DigestBytes.{IsDigest, audit_path-digests}
use Rattle.tw_base.proofs.lemmas.kinds.ListLemmas.{Each-get_or}
use Rattle.tw_base.proofs.lemmas.history.SoundEvents.{sound-may_record, sound-time}
use Rattle.tw_skipproof.specs.declared.existence.ExistenceProof.{ExistenceProof}
use Rattle.tw_skipproof.specs.Acceptance.{IsAcceptedUnder, ShowsEvent}
use Rattle.tw_skipproof.specs.Codecs.{event_part_codec}
use Rattle.tw_skipproof.specs.Existence.{IsExistenceInRange, IsShaped, existence_bytes, existence_layout}
use Rattle.tw_skipproof.specs.HistoryProofs.{IsExistenceOf}
use Rattle.tw_skipproof.specs.Spelling.{FitsAsEvent}
use Rattle.tw_skipproof.proofs.LawfulCodecs.{existence-fits, existence-lawful}
use Rattle.tw_skipproof.proofs.PartOf.{part-fits-made, part_in_range-few, part_shaped-made, reaches-made}

from_step_1 : (h : History) (step index : ℕ) → index < length (events_at h step) → 0 < step
from_step_1 h zero index inside = absurd (omega (arith, inside))
from_step_1 h (suc i) index inside = omega arith

-- ---- the proof that a history has

module _ (dig : List ℕ → List ℕ) (h : History) (step index top : ℕ) (p : ExistenceProof)
    (is : IsExistenceOf dig h step index top p) where
  abbrev events : List (List ℕ)
  events = events_at h step

  from_1 : 0 < step
  from_1 = from_step_1 h step index is.inside

  shows_event : ShowsEvent dig p.at.opening p.event
  shows_event =
      let binds = is.at.opening.binds in
      let event : List ℕ = slice_index_or events index [] in
      let own : ChecksEvent dig (event_root dig events) (length events) index event (audit_path dig events index) =
      ChecksEvent-audit_path dig events index event (slice_get-get_or events index [] is.inside) in
      subst (ShowsEvent dig p.at.opening) (sym is.event)
      (subst (λ n. ChecksEvent dig p.at.opening.event_root n index event (audit_path dig events index)) binds.count
      (subst (λ root. ChecksEvent dig root (length events) index event (audit_path dig events index)) binds.event_root
      own))

  -- it is accepted under the history's own authenticator of the top
  pub accepted-made : step ≤ top → IsAcceptedUnder dig (auth dig h top) p
  accepted-made order = record {
    order = omega (arith, order, is.at.at_step, is.at.at_top);
    path = reaches-made dig h step top p.at is.at from_1 order;
    event = shows_event;
  }

  event_within : (P : List ℕ → Type 0) → P [] → Each P events → P p.event.event
  event_within P default all = subst (λ (e : EventPart). P e.event) (sym is.event)
      (Each-get_or P events index [] default all)

  pub IsShaped-made : step ≤ top → IsShaped p
  IsShaped-made order =
      record { at = part_shaped-made dig h step top p.at is.at from_1 order; event = shows_event.size }

  -- where the steps, the events and the time are within their limits
  pub in_range-few : step ≤ top → top ≤ LAST_STEP → length events ≤ MOST_EVENTS
      → Each (λ event. length event ≤ MOST_EVENT_BYTES) events → IsTimeWithinLimits p.at.opening.time
      → IsExistenceInRange p
  in_range-few order short few sizes time = record {
    at = part_in_range-few dig h step top p.at is.at order short few time;
    index = shows_event.inside;
    event = event_within (λ e. length e ≤ MOST_EVENT_BYTES) (lit≤ tt) sizes;
  }

  -- so in a sound history
  in_range-made : IsSound h → step ≤ top → top ≤ length h.steps → IsExistenceInRange p
  in_range-made sound order has =
      let short = sound.length in
      let are = (sound-may_record h step sound).are in
      in_range-few order (omega (arith, has, short)) are.count are.sizes
      (subst IsTimeWithinLimits is.at.opening.binds.time (sound-time h step sound))

  -- and it has a spelling
  pub within-made : IsSound h → step ≤ top → top ≤ length h.steps → IsExistenceInRange p × IsShaped p
      × (length p.event.event < 2 ^ 32)
  within-made sound order has =
      let range = in_range-made sound order has in
      let small = range.event in (range, IsShaped-made order, omega (arith, small))

  -- ---- its digests are bytes

  module _ (size : (text : List ℕ) → length (dig text) ≡ 32) (are : (text : List ℕ) → AreBytes (dig text)) where
    event-fits : IsSound h → FitsAsEvent p.event
    unfolding event_part_codec seen pair number_codec sized_codec by_kind labels_codec many bytes_codec
    event-fits sound count inside short labels =
        let event = event_within AreBytes tt (sound-may_record h step sound).are.bytes in (
          (omega arith, omega (arith, inside)),
          (
            ((omega arith, short), (refl, event)),
            (
              labels,
              subst (λ (e : EventPart). Each IsDigest e.path) (sym is.event)
                  (audit_path-digests dig size are events index),
            ),
          ),
        )

    -- what is written of it spells it
    pub spelled-made : IsSound h → step ≤ top → top ≤ length h.steps → Spells existence_layout (existence_bytes p) p
    spelled-made sound order has =
        existence-lawful.spells p
        (existence-fits p (in_range-made sound order has) (IsShaped-made order)
        (part-fits-made dig h size are step top p.at is.at sound) (event-fits sound))
