-- What an accepted file says of an archive, and of the line under which it is accepted.
use Rattle.std.specs.Prelude.{ℕ, ◌-◌, List, Bool, Option, Some, None, ◌==◌, ◌&&◌, nat_le, if◌then◌else◌}
use Rattle.std.specs.Option.{option_map_or}
use Rattle.std.specs.Str.{bytes_eq}
use Rattle.tw_base.specs.declared.history.thread.Entry.{Entry}
use Rattle.tw_base.specs.declared.history.thread.Thread.{Thread}
use Rattle.tw_base.specs.declared.history.tree_proof.Ask.{Ask}
use Rattle.tw_base.specs.declared.history.tree_proof.Ask.TheVariants.{Present, Absent, Below, Above}
use Rattle.tw_base.specs.declared.kinds.limits.TheConstants.{LAST_STEP}
use Rattle.tw_base.specs.history.Entries.{of_peer}
use Rattle.tw_base.specs.history.TreeProofs.{ancestors_of}
use Rattle.tw_skipproof.specs.Openings.{opening_auth}
use Rattle.tw_treeproof.specs.Answers.{shown_answer}
use Rattle.tw_tmap.specs.Checking.{nearest_in, step_if_of}
use Rattle.tw_contradict.specs.declared.archive_proof.ArchiveProof.{ArchiveProof}
use Rattle.tw_contradict.specs.declared.facts.Facts.{Facts}
use Rattle.tw_contradict.specs.declared.facts.Lack.{Lack}

-- ---- what one file says

-- the entry that the tree proof shows next to the asked key
abbrev pub nearest_of : ArchiveProof → Option Entry
nearest_of a = nearest_in (shown_answer a.ask (ancestors_of a.shown))

-- the entry that the archive has: the one that is asked for, or the one next to the asked key, where it is of the key's service
abbrev pub asked_entry : Ask → (nearest : Option Entry) → Option Entry
asked_entry (Present e) nearest = Some e
asked_entry (Absent key) nearest = None
asked_entry (Below key) nearest = of_peer key.from nearest
asked_entry (Above key) nearest = of_peer key.from nearest

-- the step before the one that received the entry next above a key; without one of the service the step itself
abbrev pub before_received : (step : ℕ) → Option Entry → ℕ
before_received step entry = option_map_or (λ (e : Entry). e.archived - 1) entry step

-- the threads that were received up to a step by no step of the service: that of the key; those between the nearest one below the key
-- and the key; and those above the key, up to the step before the one that received the next
abbrev pub lack_of : (step : ℕ) → Ask → (nearest : Option Entry) → Option Lack
lack_of step (Present e) nearest = None
lack_of step (Absent key) nearest = Some (record { peer = key.from; above = key.step - 1; last = key.step; upto = step })
lack_of step (Below key) nearest =
    Some (record { peer = key.from; above = step_if_of key.from nearest; last = key.step - 1; upto = step })
lack_of step (Above key) nearest =
    Some (record { peer = key.from; above = key.step; last = LAST_STEP; upto = before_received step (of_peer key.from nearest) })

-- what the file says under this line; its opening computes the authenticator of the step
abbrev pub facts_of : (dig : List ℕ → List ℕ) → Thread → ArchiveProof → Facts
facts_of dig line a = record {
  line = line;
  service = a.at.service;
  step = a.at.step;
  auth = opening_auth dig a.at.step a.at.opening;
  before = a.at.opening.prev;
  event_root = a.at.opening.event_root;
  count = a.at.opening.count;
  time = a.at.opening.time;
  entry = asked_entry a.ask (nearest_of a);
  lack = lack_of a.at.step a.ask (nearest_of a);
}

-- ---- lines of one history

abbrev pub is_same_line : (one other : Thread) → Bool
is_same_line one other = bytes_eq one.from other.from && (one.step == other.step && bytes_eq one.auth other.auth)

-- the one of the lower step, and the other one; of two of one step the first is the earlier
abbrev pub earlier_thread : (one other : Thread) → Thread
earlier_thread one other = if nat_le one.step other.step then one else other

abbrev pub later : (one other : Thread) → Thread
later one other = if nat_le one.step other.step then other else one
