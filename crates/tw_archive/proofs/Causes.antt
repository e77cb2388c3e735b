-- What a judgement says of the archive.
use Rattle.std.proofs.Common.{◌≡◌, ◌≢◌, ℕ, ◌<◌, ◌≤◌, List, Bool, true, false, refl, ap, sym, ◌∙◌, arith, inl, inr}
use Rattle.std.specs.Prelude.{Option, Some, None, cond, nat_lt, ◌==◌, ◌&&◌}
use Rattle.std.specs.Str.{bytes_eq}
use Rattle.std.proofs.lemmas.Bool.{cases_lt, ltb-false}
use Rattle.std.proofs.lemmas.Bool.Decides.{Decides-eqb}
use Rattle.std.proofs.lemmas.Slice.Eq.{bytes_eq-Decides}
use Rattle.tw_base.specs.declared.history.thread.Entry.{Entry}
use Rattle.tw_base.specs.declared.history.thread.Key.{Key}
use Rattle.tw_base.specs.history.Asking.{entry_with}
use Rattle.tw_base.specs.history.Entries.{key_of, thread_key}
use Rattle.tw_base.specs.kinds.Lists.{In}
use Rattle.tw_base.proofs.lemmas.history.Members.{each-without, in-with}
use Rattle.tw_base.proofs.lemmas.kinds.ListLemmas.{Each-in}
use Rattle.tw_msg.specs.declared.message.Message.{Message}
use Rattle.tw_msg.specs.Messages.{IsLinked, Leads}
use Rattle.tw_skipproof.specs.Paths.{climbed}
use Rattle.tw_archive.specs.declared.judgement.Judgement.TheVariants.{Known, Forked, Stale, BadLink, Accept}
use Rattle.tw_archive.specs.Judging.{judge_known, judge_new, judged_message, judgement, kept_auth}
use Rattle.tw_archive.specs.Judging.{last_entry_step, last_of_peer, leads_from_last}
use Rattle.tw_archive.proofs.Peers.{IsLatest, up-to-last, with-key}

known-entry : (e : Entry) (m : Message) (archived : ℕ) → key_of e ≡ thread_key m.thread → judge_known e m ≡ Known
    archived → (e.thread ≡ m.thread) × (e.archived ≡ archived)
known-entry e m archived key is = by (bytes_eq e.thread.auth m.thread.auth) refl is
  where
    by : (b : Bool) → bytes_eq e.thread.auth m.thread.auth ≡ b → cond b (Known e.archived)
        (Forked m.thread.step e.thread.auth m.thread.auth) ≡ Known archived → (e.thread ≡ m.thread)
        × (e.archived ≡ archived)
    by true same found = (
      λ i. record {
        from = (key i).from;
        step = (key i).step;
        auth = (bytes_eq-Decides e.thread.auth m.thread.auth).0 same i;
      },
      (let one : e.archived ≡ archived = cc in one),
    )
    by false other found = cc

abbrev IsFork : Entry → Message → (step : ℕ) → (kept offered : List ℕ) → Type 0
IsFork e m step kept offered =
    (step ≡ m.thread.step) × (offered ≡ m.thread.auth) × (kept ≢ offered) × (e.thread.from ≡ m.thread.from)
    × (e.thread.step ≡ step) × (e.thread.auth ≡ kept)

forked-entry : (e : Entry) (m : Message) (step : ℕ) (kept offered : List ℕ) → key_of e ≡ thread_key m.thread
    → judge_known e m ≡ Forked step kept offered → IsFork e m step kept offered
forked-entry e m step kept offered key is = by (bytes_eq e.thread.auth m.thread.auth) refl is
  where
    by : (b : Bool) → bytes_eq e.thread.auth m.thread.auth ≡ b → cond b (Known e.archived)
        (Forked m.thread.step e.thread.auth m.thread.auth) ≡ Forked step kept offered → IsFork e m step kept offered
    by true same found = cc
    by false other found =
        let steps : m.thread.step ≡ step = cc in
        let keeps : e.thread.auth ≡ kept = cc in
        let offers : m.thread.auth ≡ offered = cc in (
          sym steps,
          sym offers,
          λ same. (let sure = (bytes_eq-Decides e.thread.auth m.thread.auth).1 (keeps ∙ same ∙ sym offers) in
              let never : false ≡ true = sym other ∙ sure in cc),
          ap (λ (k : Key). k.from) key,
          ap (λ (k : Key). k.step) key ∙ steps,
          keeps,
        )

module _ (dig : List ℕ → List ℕ) where
  -- a judgement by the last entry is none of the first two
  new-not_known : (last : Option Entry) (m : Message) (archived : ℕ) → judge_new dig last m ≡ Known archived → ⊥
  new-not_known last m archived is = by (nat_lt m.thread.step (last_entry_step last)) (leads_from_last dig last m) is
    where
      by : (b c : Bool) → cond b (Stale (last_entry_step last))
          (cond c Accept (BadLink (last_entry_step last) (kept_auth dig m.thread.from last))) ≡ Known archived → ⊥
      by true c found = cc
      by false true found = cc
      by false false found = cc

  new-not_forked : (last : Option Entry) (m : Message) (step : ℕ) (kept offered : List ℕ) → judge_new dig last m
      ≡ Forked step kept offered → ⊥
  new-not_forked last m step kept offered is = by (nat_lt m.thread.step (last_entry_step last))
      (leads_from_last dig last m) is
    where
      by : (b c : Bool) → cond b (Stale (last_entry_step last))
          (cond c Accept (BadLink (last_entry_step last) (kept_auth dig m.thread.from last))) ≡ Forked step kept offered
          → ⊥
      by true c found = cc
      by false true found = cc
      by false false found = cc

  new-accepted : (last : Option Entry) (m : Message) → IsLinked m → judge_new dig last m ≡ Accept
      → (last_entry_step last ≤ m.thread.step) × (m.since ≡ last_entry_step last) × Leads dig
      (kept_auth dig m.thread.from last) m
  new-accepted last m linked is = by (nat_lt m.thread.step (last_entry_step last)) refl
      (m.since == last_entry_step last) refl (bytes_eq climbs m.thread.auth) refl is
    where
      climbs : List ℕ
      climbs = climbed dig m.link.links m.thread.step m.since (kept_auth dig m.thread.from last)

      by : (b : Bool) → nat_lt m.thread.step (last_entry_step last) ≡ b → (c : Bool) → (m.since == last_entry_step last)
          ≡ c → (d : Bool) → bytes_eq climbs m.thread.auth ≡ d
          → cond b (Stale (last_entry_step last))
          (cond (c && d) Accept (BadLink (last_entry_step last) (kept_auth dig m.thread.from last))) ≡ Accept
          → (last_entry_step last ≤ m.thread.step) × (m.since ≡ last_entry_step last) × Leads dig
          (kept_auth dig m.thread.from last) m
      by true below c since_is d reach found = cc
      by false above false since_is d reach found = cc
      by false above true since_is false reach found = cc
      by false above true since_is true reach found = (
        ltb-false m.thread.step (last_entry_step last) above,
        (Decides-eqb m.since (last_entry_step last)).0 since_is,
        record { shape = linked.link; reaches = (bytes_eq-Decides climbs m.thread.auth).0 reach },
      )

  known-not_accepted : (e : Entry) (m : Message) → judge_known e m ≡ Accept → ⊥
  known-not_accepted e m is = by (bytes_eq e.thread.auth m.thread.auth) is
    where
      by : (b : Bool) → cond b (Known e.archived) (Forked m.thread.step e.thread.auth m.thread.auth) ≡ Accept → ⊥
      by true found = cc
      by false found = cc

  module _ (es : List Entry) (m : Message) where
    pub judged-known : (archived : ℕ) → judged_message dig es m ≡ Known archived → (e : Entry) × In e es
        × (e.thread ≡ m.thread) × (e.archived ≡ archived)
    unfolding judgement
    judged-known archived is = by (entry_with es (thread_key m.thread)) refl is
      where
        by : (o : Option Entry) → entry_with es (thread_key m.thread) ≡ o
            → judgement dig o (last_of_peer es m.thread.from) m ≡ Known archived
            → (e : Entry) × In e es × (e.thread ≡ m.thread) × (e.archived ≡ archived)
        by None none found = absurd (new-not_known (last_of_peer es m.thread.from) m archived found)
        by (Some e) some found =
            let k = known-entry e m archived (with-key es (thread_key m.thread) e some) found in
            (e, in-with es (thread_key m.thread) e some, k.0, k.1)

    pub judged-forked : (step : ℕ) (kept offered : List ℕ) → judged_message dig es m ≡ Forked step kept offered
        → (step ≡ m.thread.step) × (offered ≡ m.thread.auth) × (kept ≢ offered)
        × ((e : Entry) × In e es × (e.thread.from ≡ m.thread.from) × (e.thread.step ≡ step) × (e.thread.auth ≡ kept))
    unfolding judgement
    judged-forked step kept offered is = by (entry_with es (thread_key m.thread)) refl is
      where
        by : (o : Option Entry) → entry_with es (thread_key m.thread) ≡ o
            → judgement dig o (last_of_peer es m.thread.from) m ≡ Forked step kept offered
            → (step ≡ m.thread.step) × (offered ≡ m.thread.auth) × (kept ≢ offered)
            × ((e : Entry) × In e es × (e.thread.from ≡ m.thread.from) × (e.thread.step ≡ step)
            × (e.thread.auth ≡ kept))
        by None none found = absurd (new-not_forked (last_of_peer es m.thread.from) m step kept offered found)
        by (Some e) some found =
            let f = forked-entry e m step kept offered (with-key es (thread_key m.thread) e some) found in
            (f.0, f.1, f.2, (e, in-with es (thread_key m.thread) e some, f.3, f.4, f.5))

    pub judged-accepted : ((e : Entry) → In e es → e.thread.from ≡ m.thread.from → IsLatest m.thread.from es e)
        → IsLinked m → judged_message dig es m ≡ Accept
        → ((e : Entry) → In e es → e.thread.from ≡ m.thread.from → e.thread.step < m.thread.step)
        × (m.since ≡ last_entry_step (last_of_peer es m.thread.from)) × Leads dig
        (kept_auth dig m.thread.from (last_of_peer es m.thread.from)) m
    unfolding judgement
    judged-accepted latest linked is = by (entry_with es (thread_key m.thread)) refl is
      where
        lower : entry_with es (thread_key m.thread) ≡ None → last_entry_step (last_of_peer es m.thread.from)
            ≤ m.thread.step
            → (e : Entry) → In e es → e.thread.from ≡ m.thread.from → e.thread.step < m.thread.step
        lower none low e there same = elim (cases_lt e.thread.step m.thread.step) [
          | inl less ↦ less
          | inr at_least ↦ (let up = up-to-last m.thread.from es latest e there same in
              let steps : e.thread.step ≡ m.thread.step = omega (arith, at_least, up, low) in
              let key : key_of e ≡ thread_key m.thread = λ i. record { from = same i; step = steps i } in
              absurd (Each-in (λ (f : Entry). key_of f ≢ thread_key m.thread) es e
              (each-without es (thread_key m.thread) none) there key))
        ]

        by : (o : Option Entry) → entry_with es (thread_key m.thread) ≡ o
            → judgement dig o (last_of_peer es m.thread.from) m ≡ Accept
            → ((e : Entry) → In e es → e.thread.from ≡ m.thread.from → e.thread.step < m.thread.step)
            × (m.since ≡ last_entry_step (last_of_peer es m.thread.from)) × Leads dig
            (kept_auth dig m.thread.from (last_of_peer es m.thread.from)) m
        by None none found = let n = new-accepted (last_of_peer es m.thread.from) m linked found in
            (lower none n.0, n.1, n.2)
        by (Some e) some found = absurd (known-not_accepted e m found)
