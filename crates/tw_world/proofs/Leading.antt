-- In which order the steps of an ordered world were made: within a service, from a received thread to the step that
-- received it, and over hops.
use Rattle.std.proofs.Common.{◌≡◌, ◌⊎◌, ℕ, suc, zero, ◌<◌, ◌≤◌, List, [], ◌∷◌, length, refl, ap, sym, ◌∙◌, subst, inl}
use Rattle.std.proofs.Common.{inr, arith}
use Rattle.std.specs.Prelude.{Option, Some, IfSome, Bool, true, false, find, option_and_then, if◌then◌else◌}
use Rattle.tw_base.specs.declared.history.report.Hop.{Hop}
use Rattle.tw_base.specs.declared.history.thread.Entry.{Entry}
use Rattle.tw_base.specs.declared.history.thread.Key.{Key}
use Rattle.tw_base.specs.declared.history.thread.Thread.{Thread}
use Rattle.tw_base.specs.history.Auth.{auth}
use Rattle.tw_base.specs.history.Chains.{HopStands, LeadsBy}
use Rattle.tw_base.specs.history.Family.{AllSound, HasHistory, HasThread, HasThreads}
use Rattle.tw_base.specs.history.History.{History, entry_at}
use Rattle.tw_base.specs.kinds.Lists.{Each, In}
use Rattle.tw_base.proofs.lemmas.kinds.ListLemmas.{Each-map}
use Rattle.tw_chain.specs.Accepting.{named}
use Rattle.tw_chain.specs.Passing.{anchor_at}
use Rattle.tw_chain.specs.declared.proof.Proof.{Proof}
use Rattle.tw_world.specs.Runs.{IsMember}
use Rattle.tw_world.specs.Order.{AnchorsArePresent, BirthsRise, IsEarlier, LeadsLater, ReceivedIsPresent}
use Rattle.tw_world.specs.Worlds.{Member, World, born, family, member_of, numbered}
use Rattle.tw_world.proofs.Births.{numbered-there, rise-numbered}
use Rattle.tw_world.proofs.Members.{all-sound, each-found, each-member, has-history, has-member}
use Rattle.tw_world.proofs.Ordered.{IsBorn, IsOrderedWorld, IsOwn, StandsBehind}

same_number : (a b : ℕ) → Some a ≡ Some b → a ≡ b
same_number a b e = cc

pub earlier-on : (one two three : Option ℕ) → IsEarlier one two → IsEarlier two three → IsEarlier one three
earlier-on one two three first second =
    let mid : first.1 ≡ second.0 = same_number first.1 second.0 (sym first.3 ∙ second.2) in
    (first.0, second.1, first.2, second.3, omega (arith, first.4, second.4, mid))

splits : (i j : ℕ) → i ≤ j → (i ≡ j) ⊎ (i < j)
splits zero zero le = inl refl
splits zero (suc j) le = inr (omega arith)
splits (suc i) zero le = absurd (omega (arith, le))
splits (suc i) (suc j) le =
    elim (splits i j (omega (arith, le))) [
      | inl same ↦ inl (ap suc same)
      | inr less ↦ inr (omega (arith, less))
    ]

module _ (dig : List ℕ → List ℕ) (w : World) (o : IsOrderedWorld dig w) where
  pub family-sound : AllSound (family w)
  family-sound = all-sound w.members o.sound

  pub births-count : Each (λ (m : Member). length m.births ≡ length m.history.steps) w.members
  births-count = Each-map (IsBorn dig w.members w.hostile w.place) (λ (m : Member). length m.births ≡ length
      m.history.steps) w.members (λ m b. b.0) o.births

  -- a service's own step is one of the family's threads
  own-thread : (t : Thread) → IsOwn dig w.members t → HasThread dig (family w) t
  own-thread t own = (own.member.history, has-history w.members t.from own.member own.is, own.within, own.present)

  pub anchors-present : HasThreads dig (family w) w.anchors
  anchors-present = Each-map (IsOwn dig w.members) (HasThread dig (family w)) w.anchors own-thread o.anchored

  pub names-found : Each (λ (m : Member). IsMember w m.history.name m × (In m.history.name w.hostile → ⊥)) w.members
  names-found =
      Each-map (λ (m : Member). member_of w.members m.history.name ≡ Some m) (λ (m : Member). IsMember w m.history.name
      m × (In m.history.name w.hostile → ⊥)) w.members
      (λ m is. (is, o.apart m.history.name m is)) (each-found w.members o.distinct)

  -- those of the anchors held that a proof needs
  found-has : (anchors : List Thread) (f : Thread → Bool) → HasThreads dig (family w) anchors → IfSome (find f anchors)
      (HasThread dig (family w))
  found-has [] f has = tt
  found-has (t ∷ anchors) f has = by (f t) (found-has anchors f has.1)
    where
      by : (b : Bool) → IfSome (find f anchors) (HasThread dig (family w))
          → IfSome (if b then Some t else find f anchors) (HasThread dig (family w))
      by true rest = has.0
      by false rest = rest

  pub own-anchors : (p : Proof) → AnchorsArePresent dig w w.anchors p
  own-anchors p = each (named p)
    where
      each : (keys : List Key) → Each (λ (key : Key). IfSome (anchor_at w.anchors key) (HasThread dig (family w))) keys
      each [] = tt
      each (key ∷ keys) = (found-has w.anchors _ anchors-present, each keys)

  -- ---- within a service

  record IsBirth (key : Key) (a : ℕ) : Type 0 where
    member : Member
    is : member_of w.members key.from ≡ Some member
    at : numbered member.births key.step ≡ Some a
    told : born w key ≡ Some a

  birth-there : (key : Key) (h : History) → HasHistory (family w) key.from h → 1 ≤ key.step → key.step ≤ length h.steps
      → (a : ℕ) × IsBirth key a
  birth-there key h has some within =
      let m = has-member w.members key.from h has in
      let b = each-member (IsBorn dig w.members w.hostile w.place) w.members key.from m.0 o.births m.1 in
      let long : length m.0.history.steps ≡ length h.steps = ap (λ (g : History). length g.steps) m.2 in
      let a = numbered-there m.0.births key.step some (omega (arith, within, b.0, long)) in (
        a.0,
        record {
          member = m.0;
          is = m.1;
          at = a.1;
          told = ap (λ (x : Option Member). option_and_then (λ (k : Member). numbered k.births key.step) x) m.1 ∙ a.1;
        },
      )

  rises : (name : List ℕ) (h : History) (i j : ℕ) → HasHistory (family w) name h → 1 ≤ i → i < j → j ≤ length h.steps
      → IsEarlier (born w (record { from = name; step = i })) (born w (record { from = name; step = j }))
  rises name h i j has some less within =
      let one = birth-there (record { from = name; step = i }) h has some (omega (arith, less, within)) in
      let other = birth-there (record { from = name; step = j }) h has (omega (arith, less)) within in
      let same : one.1.member ≡ other.1.member = same-member one.1.member other.1.member (sym one.1.is ∙ other.1.is) in
      let b = each-member (IsBorn dig w.members w.hostile w.place) w.members name other.1.member o.births
      other.1.is in (
        one.0,
        other.0,
        one.1.told,
        other.1.told,
        rise-numbered w.place other.1.member.births b.1 i j one.0 other.0 (ap (λ (k : Member). numbered k.births i)
            (sym same) ∙ one.1.at) other.1.at less,
      )
    where
      same-member : (m n : Member) → Some m ≡ Some n → m ≡ n
      same-member m n e = cc

  pub births-rise : BirthsRise w
  births-rise h i j has some less within = rises h.name h i j has some less within

  -- the step that comes first, or the same one, was made no later
  from-step : (name : List ℕ) (h : History) (i j : ℕ) (later : Option ℕ) → HasHistory (family w) name h → 1 ≤ i → i ≤ j
      → j ≤ length h.steps
      → IsEarlier (born w (record { from = name; step = j })) later
      → IsEarlier (born w (record { from = name; step = i })) later
  from-step name h i j later has some order within is =
      elim (splits i j order) [
        | inl same ↦ subst (λ k. IsEarlier (born w (record { from = name; step = k })) later) (sym same) is
        | inr less ↦ earlier-on _ _ _ (rises name h i j has some less within) is
      ]

  pub to-step : (name : List ℕ) (h : History) (i j : ℕ) (first : Option ℕ) → HasHistory (family w) name h → 1 ≤ i
      → i ≤ j → j ≤ length h.steps
      → IsEarlier first (born w (record { from = name; step = i }))
      → IsEarlier first (born w (record { from = name; step = j }))
  to-step name h i j first has some order within is =
      elim (splits i j order) [
        | inl same ↦ subst (λ k. IsEarlier first (born w (record { from = name; step = k }))) same is
        | inr less ↦ earlier-on _ _ _ is (rises name h i j has some less within)
      ]

  -- ---- from a thread to the step that received it

  -- a thread of a service, which a service received: its own, made before
  stands : (name : List ℕ) (h g : History) (step : ℕ) (e : Entry) → HasHistory (family w) name h
      → entry_at h step ≡ Some e → HasHistory (family w) e.thread.from g
      → IsOwn dig w.members e.thread × IsEarlier (born w (record { from = e.thread.from; step = e.thread.step }))
      (born w (record { from = name; step = step }))
  stands name h g step e has entry of =
      let m = has-member w.members name h has in
      let peer = has-member w.members e.thread.from g of in
      by (o.received name step e (m.0, m.1, ap (λ (x : History). entry_at x step) m.2 ∙ entry)) peer.0 peer.1
    where
      by : StandsBehind dig w.members w.hostile (record { from = name; step = step }) e.thread → (k : Member)
          → member_of w.members e.thread.from ≡ Some k
          → IsOwn dig w.members e.thread × IsEarlier (born w (record { from = e.thread.from; step = e.thread.step }))
          (born w (record { from = name; step = step }))
      by (inl own) k is = own
      by (inr lies) k is = absurd (o.apart e.thread.from k is lies)

  pub received-present : ReceivedIsPresent dig w
  received-present h g step e has entry of =
      let own = (stands h.name h g step e has entry of).0 in
      (own.member.history, has-history w.members e.thread.from own.member own.is, own.within, own.present)

  -- a hop's step was made before the step that archived it
  hop-later : (hop : Hop) → HopStands dig (family w) hop
      → IsEarlier (born w (record { from = hop.from; step = hop.step }))
      (born w (record { from = hop.by; step = hop.archived }))
  hop-later hop is =
      (stands hop.by is.archive is.source hop.archived
      (record {
        thread = record { from = hop.from; step = hop.step; auth = auth dig is.source hop.step };
        archived = hop.archived;
      }) is.has_archive is.received is.has_source).1

  -- ---- over hops

  entry-step : (h : History) (step : ℕ) (e : Entry) → entry_at h step ≡ Some e → 1 ≤ step
  entry-step h zero e is = cc
  entry-step h (suc i) e is = omega arith

  -- a step from which a hop leads was made before the step that archived the hop's thread
  hop-from : (hop : Hop) (start : Key) → hop.from ≡ start.from → start.step ≤ hop.step → HopStands dig (family w) hop
      → 1 ≤ start.step
      → IsEarlier (born w start) (born w (record { from = hop.by; step = hop.archived }))
  hop-from hop start same order is some =
      subst (λ name. IsEarlier (born w (record { from = name; step = start.step }))
      (born w (record { from = hop.by; step = hop.archived }))) same
      (from-step hop.from is.source start.step hop.step (born w (record { from = hop.by; step = hop.archived }))
      is.has_source some order is.within (hop-later hop is))

  -- what was made before the start was made before the goal
  leads-on : (hops : List Hop) (start goal : Key) (h : History) (first : Option ℕ) → LeadsBy dig (family w) hops start
      goal → 1 ≤ start.step → IsEarlier first (born w start)
      → HasHistory (family w) goal.from h → goal.step ≤ length h.steps → IsEarlier first (born w goal)
  leads-on [] start goal h first way some begun has within =
      to-step goal.from h start.step goal.step first has some way.1 within
      (subst (λ name. IsEarlier first (born w (record { from = name; step = start.step }))) way.0 begun)
  leads-on (hop ∷ hops) start goal h first (same, order, is, rest) some begun has within =
      leads-on hops (record { from = hop.by; step = hop.archived }) goal h first rest
      (entry-step is.archive hop.archived _ is.received)
      (earlier-on first (born w start) (born w (record { from = hop.by; step = hop.archived })) begun
      (hop-from hop start same order is some)) has within

  pub leads-later : LeadsLater dig w
  leads-later [] start goal h some-hop way some has within = absurd (some-hop refl)
  leads-later (hop ∷ hops) start goal h some-hop (same, order, is, rest) some has within =
      leads-on hops (record { from = hop.by; step = hop.archived }) goal h (born w start) rest
      (entry-step is.archive hop.archived _ is.received) (hop-from hop start same order is some) has within
