-- What is compared of an injected message: the name of the message that its bytes spell, if they spell one.
use Rattle.std.specs.Prelude.{ℕ, List, length, Bool, true, Option, Some, None, ◌==◌, if◌then◌else◌}
use Rattle.std.specs.Option.{option_map_or}
use Rattle.std.specs.Str.{bytes_eq}
use Rattle.tw_base.specs.format.Formats.{Reading, front}
use Rattle.tw_base.specs.format.Formats.Reading.{Took, Stopped}
use Rattle.tw_msg.specs.Messages.{message_layout}
use Rattle.tw_msg.specs.declared.message.Message.{Message}

-- the message that was read, where it ends behind so many bytes
abbrev pub ends_at : (size : ℕ) → Reading Message → Option Message
ends_at size (Took m after) = if after == size then Some m else None
ends_at size (Stopped place) = None

-- the message that the bytes are, read from first to last
unfoldable pub message_in : List ℕ → Option Message
message_in bytes = ends_at (length bytes) (front message_layout bytes 0)

-- the bytes are a message of this name, or none
abbrev pub is_own_or_none : (name : List ℕ) → (bytes : List ℕ) → Bool
is_own_or_none name bytes = option_map_or (λ (m : Message). bytes_eq m.thread.from name) (message_in bytes) true
