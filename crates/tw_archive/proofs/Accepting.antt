-- The message of a peer's history, since the step that the archive has of it last, is accepted; one whose key the
-- archive has is known, or a fork.
use Rattle.std.proofs.Common.{◌≡◌, ◌≢◌, ℕ, ◌<◌, ◌≤◌, List, Bool, true, false, length, refl, ap, sym, ◌∙◌, subst, arith}
use Rattle.std.specs.Prelude.{Option, cond, ◌&&◌}
use Rattle.std.specs.Str.{bytes_eq}
use Rattle.std.proofs.lemmas.Bool.{le-ltb, lt-ltb}
use Rattle.std.proofs.lemmas.Bool.Decides.{Decides-eqb}
use Rattle.std.proofs.lemmas.Slice.Eq.{bytes_eq-Decides}
use Rattle.tw_base.specs.declared.history.thread.Entry.{Entry}
use Rattle.tw_base.specs.declared.history.thread.Key.{Key}
use Rattle.tw_base.specs.declared.history.thread.Thread.{Thread}
use Rattle.tw_base.specs.history.Asking.{entry_with}
use Rattle.tw_base.specs.history.Auth.{auth}
use Rattle.tw_base.specs.history.History.{History}
use Rattle.tw_base.specs.history.Tree.{IsRising}
use Rattle.tw_base.specs.kinds.Lists.{In}
use Rattle.tw_base.proofs.lemmas.history.Members.{with-in}
use Rattle.tw_msg.specs.declared.message.Message.{Message}
use Rattle.tw_msg.specs.HistoryMessages.{IsMessageOf}
use Rattle.tw_msg.specs.Messages.{Leads}
use Rattle.tw_skipproof.specs.Paths.{climbed}
use Rattle.tw_archive.specs.declared.judgement.Judgement.TheVariants.{Known, Forked, Stale, BadLink, Accept}
use Rattle.tw_base.specs.history.Entries.{thread_key}
use Rattle.tw_archive.specs.Judging.{judge_known, judge_new, judged_message, judgement, kept_auth}
use Rattle.tw_archive.specs.Judging.{last_entry_step, last_of_peer, leads_from_last}
use Rattle.tw_archive.proofs.Peers.{IsLatest, above-last}

module _ (dig : List ℕ → List ℕ) where
  new-is : (last : Option Entry) (m : Message) → last_entry_step last ≤ m.thread.step → m.since ≡ last_entry_step last
      → Leads dig (kept_auth dig m.thread.from last) m → judge_new dig last m ≡ Accept
  new-is last m low since_is leads_it =
      ap (λ (b : Bool). cond b (Stale (last_entry_step last)) (cond (leads_from_last dig last m) Accept
      (BadLink (last_entry_step last) (kept_auth dig m.thread.from last)))) (le-ltb m.thread.step (last_entry_step last)
      low)
      ∙ (λ i. cond ((Decides-eqb m.since (last_entry_step last)).1 since_is i && (bytes_eq-Decides climbs
      m.thread.auth).1 leads_it.reaches i) Accept (BadLink (last_entry_step last) (kept_auth dig m.thread.from last)))
    where
      climbs : List ℕ
      climbs = climbed dig m.link.links m.thread.step m.since (kept_auth dig m.thread.from last)

  known-is : (e : Entry) (m : Message) → e.thread.auth ≡ m.thread.auth → judge_known e m ≡ Known e.archived
  known-is e m same = ap (λ (b : Bool). cond b (Known e.archived) (Forked m.thread.step e.thread.auth m.thread.auth))
      ((bytes_eq-Decides e.thread.auth m.thread.auth).1 same)

  fork-is : (e : Entry) (m : Message) → e.thread.auth ≢ m.thread.auth → judge_known e m ≡ Forked m.thread.step
      e.thread.auth m.thread.auth
  fork-is e m other = by (bytes_eq e.thread.auth m.thread.auth) refl
    where
      by : (b : Bool) → bytes_eq e.thread.auth m.thread.auth ≡ b → cond b (Known e.archived)
          (Forked m.thread.step e.thread.auth m.thread.auth) ≡ Forked m.thread.step e.thread.auth m.thread.auth
      by true same = absurd (other ((bytes_eq-Decides e.thread.auth m.thread.auth).0 same))
      by false differ = refl

  module _ (es : List Entry) (g : History) (since : ℕ) (m : Message) (is : IsMessageOf dig g since m)
      (leads_it : Leads dig (auth dig g since) m)
      (latest : (e : Entry) → In e es → e.thread.from ≡ g.name → IsLatest g.name es e)
      (at : last_entry_step (last_of_peer es g.name) ≡ since) (kept : kept_auth dig g.name (last_of_peer es g.name)
      ≡ auth dig g since) where
    abbrev last : Option Entry
    last = last_of_peer es g.name

    -- with the message's own thread written out
    abbrev of_last : Message
    of_last =
        record {
          thread = record { from = g.name; step = length g.steps; auth = auth dig g (length g.steps) };
          since = m.since;
          link = m.link;
        }

    same : m ≡ of_last
    same = λ i. record { thread = is.thread i; since = m.since; link = m.link }

    leads-last : Leads dig (kept_auth dig g.name last) of_last
    leads-last = subst (λ (k : List ℕ). Leads dig k of_last) (sym kept)
        (subst (λ (x : Message). Leads dig (auth dig g since) x) same leads_it)

    pub accepts : since < length g.steps → judged_message dig es m ≡ Accept
    unfolding judgement
    accepts more =
        ap (λ (x : Message). judged_message dig es x) same
        ∙ ap (λ (o : Option Entry). judgement dig o last of_last) (above-last g.name es latest (length g.steps)
        (lt-ltb (last_entry_step last) (length g.steps) (omega (arith, more, at))))
        ∙ new-is last of_last (omega (arith, more, at)) (is.at_since ∙ sym at) leads-last

  -- ---- a message whose key the archive has

  module _ (es : List Entry) (m : Message) (e : Entry) (rising : IsRising es) (there : In e es) where
    -- it is judged by that entry
    by-entry : thread_key e.thread ≡ thread_key m.thread → judged_message dig es m ≡ judge_known e m
    unfolding judgement
    by-entry key =
        ap (λ (o : Option Entry). judgement dig o (last_of_peer es m.thread.from) m)
        (ap (λ (k : Key). entry_with es k) (sym key) ∙ with-in es e rising there)

    pub knows : e.thread ≡ m.thread → judged_message dig es m ≡ Known e.archived
    knows same = by-entry (ap thread_key same) ∙ known-is e m (ap (λ (t : Thread). t.auth) same)

    pub forks : thread_key e.thread ≡ thread_key m.thread → e.thread.auth ≢ m.thread.auth → judged_message dig es m
        ≡ Forked m.thread.step e.thread.auth m.thread.auth
    forks key other = by-entry key ∙ fork-is e m other
