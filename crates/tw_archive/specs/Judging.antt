-- What becomes of a message: by the entries of an archive, and by what is found in pages, whatever they keep.
use Rattle.std.specs.Prelude.{◌≡◌, ◌≢◌, ℕ, List, Bool, Option, Some, None, ◌==◌, ◌&&◌, ◌^◌, ◌<◌, ◌≤◌, nat_lt, if◌then◌else◌}
use Rattle.std.specs.Str.{bytes_eq}
use Rattle.tw_base.specs.declared.history.root.Root.{Root}
use Rattle.tw_base.specs.declared.history.thread.Entry.{Entry}
use Rattle.tw_base.specs.declared.history.thread.Key.{Key}
use Rattle.tw_base.specs.declared.history.thread.Thread.{Thread}
use Rattle.tw_base.specs.history.Asking.{entry_with, last_below}
use Rattle.tw_base.specs.history.Limits.{IsStep}
use Rattle.tw_base.specs.kinds.Texts.{genesis_text}
use Rattle.tw_base.specs.history.Entries.{of_peer, thread_key}
use Rattle.tw_disk.specs.Found.{Found, ◌>>=◌}
use Rattle.tw_disk.specs.Found.Found.{Is}
use Rattle.tw_disk.specs.Image.{Image}
use Rattle.tw_msg.specs.declared.message.Message.{Message}
use Rattle.tw_rbtree.specs.Ways.{found_before, found_with}
use Rattle.tw_skipproof.specs.Paths.{climbed}
use Rattle.tw_archive.specs.declared.judgement.Judgement.{Judgement}
use Rattle.tw_archive.specs.declared.judgement.Judgement.TheVariants.{Known, Forked, Stale, BadLink, Accept}

-- above each key of the peer, since a step is at most 2^40 - 1
abbrev pub peer_end : (peer : List ℕ) → Key
peer_end peer = record { from = peer; step = 2 ^ 40 }

-- the peer's entry with the greatest step
abbrev pub last_of_peer : List Entry → (peer : List ℕ) → Option Entry
last_of_peer es peer = of_peer peer (last_below es (peer_end peer))

-- the step of the peer's last entry; 0 before the first one
abbrev pub last_entry_step : Option Entry → ℕ
last_entry_step None = 0
last_entry_step (Some e) = e.thread.step

-- ---- the table

-- of a message whose key the archive has
abbrev pub judge_known : Entry → Message → Judgement
judge_known e m = if bytes_eq e.thread.auth m.thread.auth then Known e.archived else Forked m.thread.step e.thread.auth m.thread.auth

module _ (dig : List ℕ → List ℕ) where
  -- the authenticator of that step: the entry's, and for step 0 the digest of the genesis text of the peer's name
  abbrev pub kept_auth : (peer : List ℕ) → Option Entry → List ℕ
  kept_auth peer None = dig (genesis_text peer)
  kept_auth peer (Some e) = e.thread.auth

  -- the message's link climbs from the last entry's authenticator to the message's
  abbrev pub leads_from_last : (last : Option Entry) → Message → Bool
  leads_from_last last m =
      (m.since == last_entry_step last) && bytes_eq (climbed dig m.link.links m.thread.step m.since (kept_auth m.thread.from last)) m.thread.auth

  -- of any other message
  abbrev pub judge_new : (last : Option Entry) → Message → Judgement
  judge_new last m =
      if nat_lt m.thread.step (last_entry_step last) then Stale (last_entry_step last)
      else (if leads_from_last last m then Accept else BadLink (last_entry_step last) (kept_auth m.thread.from last))

  -- by the entry of the message's key, if there is one, and the peer's last entry; the first line that fits
  unfoldable pub judgement : (known last : Option Entry) → Message → Judgement
  judgement (Some e) last m = judge_known e m
  judgement None last m = judge_new last m

  -- by the entries of an archive
  abbrev pub judged_message : List Entry → Message → Judgement
  judged_message es m = judgement (entry_with es (thread_key m.thread)) (last_of_peer es m.thread.from) m

  -- a judgement of the message by entries within their limits tells steps within theirs: 1 to 2^40 - 1, and of a wrong link from 0 on, of
  -- which the authenticator of the name is kept. A fork is of the message's step and authenticator, and keeps another one
  abbrev pub IsJudgementFor : Message → Judgement → Type 0
  IsJudgementFor m (Known archived) = IsStep archived
  IsJudgementFor m (Forked step kept offered) = (step ≡ m.thread.step) × (offered ≡ m.thread.auth) × (kept ≢ offered)
  IsJudgementFor m (Stale last) = IsStep last × (m.thread.step < last)
  IsJudgementFor m (BadLink last kept) = (last ≤ m.thread.step) × (last ≡ 0 → kept ≡ dig (genesis_text m.thread.from))
  IsJudgementFor m Accept = Unit {0}

  -- ---- what is found in pages

  module _ (pages : Image) (root : Root) where
    -- the peer's last entry
    unfoldable pub found_last : (peer : List ℕ) → Found (Option Entry)
    found_last peer = found_before dig pages root (peer_end peer) >>= (λ near. Is (of_peer peer near))

    -- the entry of the thread's key, which isn't looked for where the step is above the last entry's
    unfoldable pub found_known : (last : Option Entry) → Thread → Found (Option Entry)
    found_known last t = if nat_lt (last_entry_step last) t.step then Is None else found_with dig pages root (thread_key t)

    -- the judgement by these two
    unfoldable pub found_judgement : Message → Found Judgement
    found_judgement m = found_last m.thread.from >>= (λ last. found_known last m.thread >>= (λ known. Is (judgement known last m)))
