-- What is found of a message, and what a judgement says of the archive.
use Rattle.std.proofs.Common.{◌≡◌, ℕ, ◌<◌, ◌≤◌, List, Bool, true, false, refl, ap, sym, ◌∙◌, arith}
use Rattle.std.specs.Prelude.{Option, Some, None, IfSome, cond, nat_lt}
use Rattle.std.specs.Str.{bytes_eq}
use Rattle.std.proofs.lemmas.Bool.{ltb-false, ltb-true}
use Rattle.std.proofs.lemmas.Slice.Eq.{bytes_eq-Decides}
use Rattle.tw_base.specs.declared.history.root.Root.{Root}
use Rattle.tw_base.specs.declared.history.thread.Entry.{Entry}
use Rattle.tw_base.specs.declared.history.thread.Key.{Key}
use Rattle.tw_base.specs.history.Asking.{entry_with, last_below}
use Rattle.tw_base.specs.history.Entries.{key_of, of_peer, thread_key}
use Rattle.tw_base.specs.history.Limits.{IsEntryInRange, IsStep}
use Rattle.tw_base.specs.kinds.Lists.{In}
use Rattle.tw_base.specs.kinds.Texts.{genesis_text}
use Rattle.tw_disk.specs.Found.{Found, ◌>>=◌}
use Rattle.tw_disk.specs.Found.Found.{Is}
use Rattle.tw_disk.specs.Image.{Image}
use Rattle.tw_msg.specs.declared.message.Message.{Message}
use Rattle.tw_rbtree.specs.Ways.{found_before, found_with}
use Rattle.tw_archive.specs.declared.judgement.Judgement.{Judgement}
use Rattle.tw_archive.specs.declared.judgement.Judgement.TheVariants.{Known, Forked, Stale, BadLink, Accept}
use Rattle.tw_archive.specs.Judging.{IsJudgementFor, found_judgement, found_known, found_last, judge_known}
use Rattle.tw_archive.specs.Judging.{judge_new, judged_message, judgement, kept_auth, last_entry_step, last_of_peer}
use Rattle.tw_archive.specs.Judging.{leads_from_last, peer_end}
use Rattle.tw_archive.proofs.Peers.{IsLatest, above-last}

-- ---- what is told

module _ (dig : List ℕ → List ℕ) where
  told-known : (e : Entry) (m : Message) → IsEntryInRange e → IsJudgementFor dig m (judge_known e m)
  told-known e m range = by (bytes_eq e.thread.auth m.thread.auth) refl
    where
      by : (b : Bool) → bytes_eq e.thread.auth m.thread.auth ≡ b → IsJudgementFor dig m
          (cond b (Known e.archived) (Forked m.thread.step e.thread.auth m.thread.auth))
      by true same = range.1
      by false other = (
        refl,
        refl,
        λ same. (let sure = (bytes_eq-Decides e.thread.auth m.thread.auth).1 same in let never : false ≡ true =
            sym other ∙ sure in cc),
      )

  last-range : (last : Option Entry) (step : ℕ) → IfSome last IsEntryInRange → step < last_entry_step last
      → IsStep (last_entry_step last)
  last-range None step range less = absurd (omega (arith, less))
  last-range (Some e) step range less = range.0

  -- step 0 is that of no entry
  genesis-kept : (peer : List ℕ) (last : Option Entry) → IfSome last IsEntryInRange → last_entry_step last ≡ 0
      → kept_auth dig peer last ≡ dig (genesis_text peer)
  genesis-kept peer None range none = refl
  genesis-kept peer (Some e) range none = let some = range.0.0 in absurd (omega (arith, none, some))

  told-new : (last : Option Entry) (m : Message) → IfSome last IsEntryInRange → IsJudgementFor dig m
      (judge_new dig last m)
  told-new last m range = by (nat_lt m.thread.step (last_entry_step last)) refl
    where
      led : (b : Bool) → last_entry_step last ≤ m.thread.step → IsJudgementFor dig m
          (cond b Accept (BadLink (last_entry_step last) (kept_auth dig m.thread.from last)))
      led true low = tt
      led false low = (low, genesis-kept m.thread.from last range)

      by : (b : Bool) → nat_lt m.thread.step (last_entry_step last) ≡ b
          → IsJudgementFor dig m (cond b (Stale (last_entry_step last)) (cond (leads_from_last dig last m) Accept
          (BadLink (last_entry_step last) (kept_auth dig m.thread.from last))))
      by true below = let less = ltb-true m.thread.step (last_entry_step last) below in
          (last-range last m.thread.step range less, less)
      by false above = led (leads_from_last dig last m) (ltb-false m.thread.step (last_entry_step last) above)

  pub is-told : (known last : Option Entry) (m : Message) → IfSome known (λ e. (key_of e ≡ thread_key m.thread)
      × IsEntryInRange e)
      → IfSome last (λ e. (e.thread.from ≡ m.thread.from) × IsEntryInRange e) → IsJudgementFor dig m
      (judgement dig known last m)
  unfolding judgement
  is-told (Some e) last m known range = told-known e m known.1
  is-told None None m known range = told-new None m tt
  is-told None (Some l) m known range = told-new (Some l) m range.1

  -- ---- what is found in pages that stand for a tree

  module _ (ps : Image) (root : Root) (es : List Entry) where
    pub last-found : (peer : List ℕ) → ((key : Key) → found_before dig ps root key ≡ Is (last_below es key))
        → found_last dig ps root peer ≡ Is (last_of_peer es peer)
    unfolding found_last
    last-found peer before = ap (λ (f : Found (Option Entry)). f >>= (λ near. Is (of_peer peer near)))
        (before (peer_end peer))

    module _ (m : Message) (get : (key : Key) → found_with dig ps root key ≡ Is (entry_with es key))
        (latest : (e : Entry) → In e es → e.thread.from ≡ m.thread.from → IsLatest m.thread.from es e) where
      abbrev last : Option Entry
      last = last_of_peer es m.thread.from

      abbrev judge_by : Option Entry → Found Judgement
      judge_by known = Is (judgement dig known last m)

      known-found : (found_known dig ps root last m.thread >>= judge_by) ≡ Is (judged_message dig es m)
      unfolding found_known
      known-found = by (nat_lt (last_entry_step last) m.thread.step) refl
        where
          by : (b : Bool) → nat_lt (last_entry_step last) m.thread.step ≡ b
              → (cond b (Is None) (found_with dig ps root (thread_key m.thread)) >>= judge_by) ≡ Is
              (judged_message dig es m)
          by true above = ap judge_by (sym (above-last m.thread.from es latest m.thread.step above))
          by false low = ap (λ (f : Found (Option Entry)). f >>= judge_by) (get (thread_key m.thread))

      pub judgement-found : found_last dig ps root m.thread.from ≡ Is last → found_judgement dig ps root m ≡ Is
          (judged_message dig es m)
      unfolding found_judgement
      judgement-found found =
          ap (λ (f : Found (Option Entry)). f >>= (λ l. found_known dig ps root l m.thread
          >>= (λ known. Is (judgement dig known l m)))) found ∙ known-found
