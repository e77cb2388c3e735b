-- Threads, the entries of an archive, and their order: by name and then step.
use Rattle.std.specs.Prelude.{◌≡◌, ℕ, ◌<◌, ◌^◌, List, Option, Some, None, if◌then◌else◌}
use Rattle.std.specs.Str.{bytes_eq}
use Rattle.std.specs.declared.cmp.Ordering.{Ordering}
use Rattle.std.specs.declared.cmp.Ordering.TheVariants.{Less}
use Rattle.std.specs.Ordering.{ordering_then, nat_cmp}
use Rattle.std.specs.Cmp.Lexicographic.{slice_cmp}
use Rattle.tw_base.specs.declared.history.thread.Entry.{Entry}
use Rattle.tw_base.specs.declared.history.thread.Key.{Key}
use Rattle.tw_base.specs.declared.history.thread.Thread.{Thread}
use Rattle.tw_base.specs.kinds.Bytes.{HasBytes}
use Rattle.tw_base.specs.kinds.Texts.{tree_node_text}

-- by which an archive finds a thread
abbrev pub thread_key : Thread → Key
thread_key t = record { from = t.from; step = t.step }

abbrev pub key_of : Entry → Key
key_of e = record { from = e.thread.from; step = e.thread.step }

-- the entry, if it is of the peer
abbrev pub of_peer : (peer : List ℕ) → Option Entry → Option Entry
of_peer peer None = None
of_peer peer (Some e) = if bytes_eq e.thread.from peer then Some e else None

abbrev pub key_cmp : Key → Key → Ordering
key_cmp a b = ordering_then (slice_cmp nat_cmp a.from b.from) (nat_cmp a.step b.step)

abbrev pub KeyBelow : Key → Key → Type 0
KeyBelow a b = key_cmp a b ≡ Less

-- the fields have the widths that the text of a tree node gives them, and those of bytes are bytes
pub record IsFit (e : Entry) : Type 0 where
  pub from : HasBytes 16 e.thread.from
  pub step : e.thread.step < 2 ^ 64
  pub auth : HasBytes 32 e.thread.auth
  pub archived : e.archived < 2 ^ 64

-- the text of a tree whose root has the entry
abbrev pub entry_text : (left : List ℕ) → Entry → (right : List ℕ) → List ℕ
entry_text left e right = tree_node_text left e.thread.from e.thread.step e.thread.auth e.archived right
