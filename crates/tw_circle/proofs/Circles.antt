-- Ways through sound histories, and the texts by which what they come to leads back to where they began.
use Rattle.std.proofs.Common.{◌≡◌, ℕ, suc, zero, ◌<◌, ◌≤◌, List, [], ◌∷◌, length, ap, refl, sym, ◌∙◌, subst}
use Rattle.std.proofs.Common.{arith, inr}
use Rattle.std.specs.Prelude.{Some}
use Rattle.tw_base.specs.declared.history.report.Hop.{Hop}
use Rattle.tw_base.specs.declared.history.thread.Entry.{Entry}
use Rattle.tw_base.specs.declared.history.thread.Key.{Key}
use Rattle.tw_base.specs.history.Auth.{auth}
use Rattle.tw_base.specs.history.Chains.{HopStands, LeadsBy}
use Rattle.tw_base.specs.history.Family.{AllSound, HasHistory, family_texts, history_of}
use Rattle.tw_base.specs.history.History.{History, entry_at}
use Rattle.tw_base.specs.history.Sound.{IsSound}
use Rattle.tw_base.proofs.lemmas.history.Families.{sound_of, texts_within}
use Rattle.tw_base.proofs.lemmas.history.Trees.{entry_at-parts, received-sound}
use Rattle.tw_circle.specs.Rings.{HasRing, LeadsBack}
use Rattle.tw_circle.proofs.Descending.{IsOrDescends, Descends, descends-then, ring-of, then-descends}
use Rattle.tw_circle.proofs.Steps.{auth-of, received-down, steps-down, text_of}

module _ (dig : List ℕ → List ℕ) (family : List History) (sound : AllSound family) where
  abbrev texts : List (List ℕ)
  texts = family_texts dig family

  -- a family has one history of a name
  one-history : (name other : List ℕ) (h g : History) → name ≡ other → HasHistory family name h → HasHistory family other g
      → h ≡ g
  one-history name other h g same has also = let both : Some h ≡ Some g = sym has ∙ ap (history_of family) same ∙ also in cc

  -- over no hop the text is that of the step, or leads to it; over hops it leads to it
  abbrev WayOf : List Hop → (one other : List ℕ) → Type 0
  WayOf [] one other = IsOrDescends dig texts one other
  WayOf (hop ∷ hops) one other = Descends dig texts one other

  either-way : (hops : List Hop) (one other : List ℕ) → WayOf hops one other → IsOrDescends dig texts one other
  either-way [] one other way = way
  either-way (hop ∷ hops) one other way = inr way

  -- what received a thread leads to the text behind the thread's authenticator
  hop-down : (hop : Hop) (stands : HopStands dig family hop)
      → Descends dig texts (text_of dig stands.archive hop.archived) (text_of dig stands.source hop.step)
  hop-down hop stands = by hop.archived refl
    where
      e : Entry
      e = record {
        thread = record { from = hop.from; step = hop.step; auth = auth dig stands.source hop.step };
        archived = hop.archived;
      }

      keeper : IsSound stands.archive
      keeper = sound_of family hop.by stands.archive sound stands.has_archive

      got : (0 < hop.archived) × (hop.archived ≤ length stands.archive.steps)
      got = let is = received-sound stands.archive keeper hop.archived e.thread
          (entry_at-parts stands.archive hop.archived e stands.received).1 in (is.1, is.2)

      by : (at : ℕ) → hop.archived ≡ at
          → Descends dig texts (text_of dig stands.archive hop.archived) (text_of dig stands.source hop.step)
      by zero is = absurd (omega (arith, is, got.0))
      by (suc i) is = subst (λ k. Descends dig texts (text_of dig stands.archive k) (text_of dig stands.source hop.step)) (sym is)
          (received-down dig stands.archive texts (texts_within dig family hop.by stands.archive stands.has_archive) i
          (omega (arith, is, got.1)) keeper e (text_of dig stands.source hop.step)
          (subst (λ k. entry_at stands.archive k ≡ Some e) is stands.received) (auth-of dig stands.source hop.step))

  -- what a way comes to leads back to its start
  way-back : (hops : List Hop) (start goal : Key) (first last : History) → HasHistory family start.from first
      → HasHistory family goal.from last → goal.step ≤ length last.steps → LeadsBy dig family hops start goal
      → WayOf hops (text_of dig last goal.step) (text_of dig first start.step)
  way-back [] start goal first last has also within leads =
      subst (λ (h : History). IsOrDescends dig texts (text_of dig last goal.step) (text_of dig h start.step))
      (one-history goal.from start.from last first (sym leads.0) also has)
      (steps-down dig last texts (texts_within dig family goal.from last also) start.step goal.step leads.1 within)
  way-back (hop ∷ hops) start goal first last has also within leads =
      let stands : HopStands dig family hop = leads.2 in
      let rest = either-way hops (text_of dig last goal.step) (text_of dig stands.archive hop.archived)
      (way-back hops (record { from = hop.by; step = hop.archived }) goal stands.archive last stands.has_archive also
      within leads.3) in
      descends-then dig texts (text_of dig last goal.step) (text_of dig stands.source hop.step) (text_of dig first start.step)
      (then-descends dig texts (text_of dig last goal.step) (text_of dig stands.archive hop.archived)
      (text_of dig stands.source hop.step) rest (hop-down hop stands))
      (subst (λ (h : History). IsOrDescends dig texts (text_of dig stands.source hop.step) (text_of dig h start.step))
      (one-history hop.from start.from stands.source first leads.0 stands.has_source has)
      (steps-down dig stands.source texts (texts_within dig family hop.from stands.source stands.has_source) start.step
      hop.step leads.1 stands.within))

  -- hops that lead back give a ring
  pub back-rings : (hops : List Hop) (start goal : Key) → LeadsBack dig family hops start goal → HasRing dig texts
  back-rings [] start goal back = absurd (back.some refl)
  back-rings (hop ∷ hops) start goal back =
      let stands : HopStands dig family hop = back.leads.2 in
      let h : History = stands.source in
      let has : HasHistory family start.from h = ap (history_of family) (sym back.leads.0) ∙ stands.has_source in
      let also : HasHistory family goal.from h = ap (history_of family) back.service ∙ has in
      let within : start.step ≤ length h.steps = omega (arith, back.leads.1, stands.within) in
      let own = texts_within dig family start.from h has in
      ring-of dig texts (text_of dig h goal.step)
      (descends-then dig texts (text_of dig h goal.step) (text_of dig h start.step) (text_of dig h goal.step)
      (way-back (hop ∷ hops) start goal h h has also (omega (arith, back.order, within)) back.leads)
      (steps-down dig h texts own goal.step start.step back.order within))
