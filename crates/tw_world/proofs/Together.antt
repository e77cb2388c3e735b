-- What an accepted proof says of the order in which an ordered world recorded two events.
use Rattle.std.proofs.Common.{◌≡◌, ◌≢◌, ℕ, suc, zero, ◌-◌, ◌≤◌, List, [], ◌++◌, length, refl, inl, arith}
use Rattle.std.specs.Prelude.{Option, Some, None, option_and_then, slice_get}
use Rattle.std.proofs.lemmas.Option.{slice_get_within}
use Rattle.tw_base.specs.declared.history.report.Hop.{Hop}
use Rattle.tw_base.specs.declared.history.report.Seen.{Seen}
use Rattle.tw_base.specs.declared.history.thread.Thread.{Thread}
use Rattle.tw_base.specs.format.Formats.{Spells}
use Rattle.tw_base.specs.history.Facts.{Precedence}
use Rattle.tw_base.specs.history.Family.{family_texts}
use Rattle.tw_base.specs.history.History.{History, Step, events_at, events_of}
use Rattle.tw_base.specs.kinds.Bytes.{AreBytes}
use Rattle.tw_base.proofs.lemmas.kinds.Clashes.{and_then}
use Rattle.tw_chain.specs.Accepting.{IsAccepted, hops_of, proof_texts, seen_at}
use Rattle.tw_chain.specs.Checks.{end_of_order, tail_at}
use Rattle.tw_chain.specs.Proofs.{proof_layout}
use Rattle.tw_chain.specs.declared.proof.Proof.{Proof}
use Rattle.tw_chain.specs.declared.proof.Proof.TheVariants.{Exists, Precedes, Archived, Absent, Linked}
use Rattle.tw_chain.proofs.Headline.{headline}
use Rattle.tw_world.specs.Order.{IsEarlier, ShowsOrder, place_key}
use Rattle.tw_world.specs.Worlds.{Member, World, born, family, member_of, numbered}
use Rattle.tw_world.proofs.Closing.{closes}
use Rattle.tw_world.proofs.Leading.{family-sound, leads-later, received-present, to-step}
use Rattle.tw_world.proofs.Ordered.{IsOrderedWorld}

-- an event stands in a step from 1 on that the history has
step-there : (h : History) (step index : ℕ) (event : List ℕ) → slice_get (events_at h step) index ≡ Some event
    → (1 ≤ step) × (step ≤ length h.steps)
step-there h zero index event is = cc
step-there h (suc i) index event is = by (slice_get h.steps i) refl is
  where
    by : (o : Option Step) → slice_get h.steps i ≡ o → slice_get (events_of o) index ≡ Some event → (1 ≤ suc i)
        × (suc i ≤ length h.steps)
    by None at is = cc
    by (Some s) at is = (omega arith, omega (arith, slice_get_within h.steps i s at))

module _ (dig : List ℕ → List ℕ) (w : World) (o : IsOrderedWorld dig w) where
  -- where an event precedes another by hops, its step was made first
  precedence-ordered : (hops : List Hop) (first second : Seen) → hops ≢ [] → Precedence dig (family w) hops first second
      → IsEarlier (born w (place_key first.place)) (born w (place_key second.place))
  precedence-ordered hops first second some p =
      let h : History = p.second_stands.history in
      let at = step-there h second.place.step second.place.index second.event p.second_stands.stands in
      let from = step-there p.first_stands.history first.place.step first.place.index first.event
      p.first_stands.stands in
      let begun : IsEarlier (born w (place_key first.place))
      (born w (record { from = second.place.service; step = second.place.step - 1 })) =
      leads-later dig w o hops (place_key first.place)
      (record { from = second.place.service; step = second.place.step - 1 }) h some p.leads from.0 p.second_stands.has
      (omega (arith, at.1)) in
      to-step dig w o second.place.service h (second.place.step - 1) second.place.step (born w (place_key first.place))
      p.second_stands.has
      (born-step second.place.service (second.place.step - 1) begun.1 begun.3) (omega arith) at.1 begun
    where
      born-step : (name : List ℕ) (step b : ℕ) → born w (record { from = name; step = step }) ≡ Some b → 1 ≤ step
      born-step name zero b is = absurd (none (member_of w.members name) is)
        where
          none : (x : Option Member) → option_and_then (λ (m : Member). numbered m.births 0) x ≡ Some b → ⊥
          none None is = cc
          none (Some m) is = cc
      born-step name (suc i) b is = omega arith

  pub shows-order : (size : (text : List ℕ) → length (dig text) ≡ 32) (are : (text : List ℕ) → AreBytes (dig text))
      (anchors : List Thread) (bytes : List ℕ) (p : Proof)
      → Spells proof_layout bytes p → IsAccepted dig anchors p → ShowsOrder dig w anchors p
  shows-order size are anchors bytes (Exists p) spells accepted some present there = absurd (some refl)
  shows-order size are anchors bytes (Archived p) spells accepted some present there = absurd (some refl)
  shows-order size are anchors bytes (Absent p) spells accepted some present there = absurd (some refl)
  shows-order size are anchors bytes (Linked p) spells accepted some present there = absurd (some refl)
  shows-order size are anchors bytes (Precedes p) spells accepted some present there =
      let texts : List (List ℕ) = family_texts dig (family w) ++ proof_texts dig (Precedes p) in
      and_then dig texts _ _ (closes dig size are (family w) anchors bytes p (family-sound dig w o)
      (received-present dig w o) spells accepted present there)
      (λ has. and_then dig texts _ _ (headline dig size are anchors bytes (Precedes p) spells accepted (family w)
      (family-sound dig w o) has)
      (λ facts. inl (precedence-ordered (hops_of (Precedes p)) (seen_at (tail_at (end_of_order p) p.tail) p.tail.event)
      (seen_at p.head p.event) some facts.0)))
