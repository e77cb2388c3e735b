-- Messages, by which a service tells another one its last step.
use Rattle.std.specs.Prelude.{ℕ, ◌≤◌, List, [], ◌∷◌}
use Rattle.tw_base.specs.format.Codecs.{Codec, behind, number_codec, pair, seen}
use Rattle.tw_base.specs.format.Formats.{Format}
use Rattle.tw_base.specs.history.HistoryCodec.{thread_codec}
use Rattle.tw_base.specs.history.Limits.{IsStep}
use Rattle.tw_skipproof.specs.Codecs.{path_codec}
use Rattle.tw_skipproof.specs.Paths.{Climbs, HasShape, path_texts}
use Rattle.tw_msg.specs.declared.message.Message.{Message}

-- the four bytes TWT1
abbrev pub message_magic : List ℕ
message_magic = 0x54 ∷ 0x57 ∷ 0x54 ∷ 0x31 ∷ []

-- the magic; a service, its step and its authenticator there; a step that isn't above that one; and the path from the first of
-- the two down to the second
unfoldable pub message_codec : Codec Message
message_codec =
    seen (λ t. record { thread = t.0; since = t.1.0; link = record { links = t.1.1 } }) (λ m. (m.thread, (m.since, m.link.links)))
    (behind message_magic (pair thread_codec (λ thread. pair (number_codec 8 0 thread.step) (λ since. path_codec thread.step since))))

abbrev pub message_layout : Format Message
message_layout = message_codec.format

abbrev pub message_bytes : Message → List ℕ
message_bytes = message_codec.write

-- the thread is of a step from 1 on, the other step isn't above it, and the link has the links of the greedy path from the one
-- down to the other, each with its number of labels
pub record IsLinked (m : Message) : Type 0 where
  pub step : IsStep m.thread.step
  pub since : m.since ≤ m.thread.step
  pub link : HasShape m.link.links m.thread.step m.since

module _ (dig : List ℕ → List ℕ) (kept : List ℕ) (m : Message) where
  -- the link climbs from this authenticator of the earlier step to the one that the message tells
  abbrev pub Leads : Type 0
  Leads = Climbs dig m.link.links m.thread.step m.since kept m.thread.auth

  -- what climbing it hashes, from the bottom upwards
  abbrev pub message_texts : List (List ℕ)
  message_texts = path_texts dig m.link.links m.thread.step m.since kept
