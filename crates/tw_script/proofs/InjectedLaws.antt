-- The message that bytes are read as is the one that they spell.
use Rattle.std.proofs.Common.{◌≡◌, ◌≢◌, ℕ, ◌+◌, ◌==◌, List, [], ◌∷◌, ◌++◌, length, Bool, true, false, if◌then◌else◌}
use Rattle.std.proofs.Common.{Option, Some, None, ap, subst, sym, ◌∙◌, refl, arith, append-nil, length-append, zero-add}
use Rattle.std.proofs.Common.{eq-eqb, eqb-true}
use Rattle.std.specs.Option.{option_map_or}
use Rattle.std.specs.Str.{bytes_eq}
use Rattle.std.proofs.lemmas.Slice.Eq.{bytes_eq-Decides}
use Rattle.tw_base.specs.format.Formats.{Reading, Spells, SpellsNothing, front}
use Rattle.tw_base.specs.format.Formats.Reading.{Took, Stopped}
use Rattle.tw_base.proofs.lemmas.format.FormatLaws.{front-sound, front-whole}
use Rattle.tw_msg.specs.Messages.{message_layout}
use Rattle.tw_msg.specs.declared.message.Message.{Message}
use Rattle.tw_script.specs.Injected.{ends_at, is_own_or_none, message_in}

pub message-spelled : (bytes : List ℕ) (m : Message) → Spells message_layout bytes m → message_in bytes ≡ Some m
unfolding message_in
message-spelled bytes m s =
    let read : front message_layout (bytes ++ []) 0 ≡ Took m (0 + length bytes) = front-whole message_layout bytes [] 0
    m s in
    let whole : front message_layout bytes 0 ≡ Took m (length bytes) =
    subst (λ (bs : List ℕ). front message_layout bs 0 ≡ Took m (length bytes)) (append-nil bytes)
    (read ∙ ap (Took m) (zero-add (length bytes))) in
    ap (ends_at (length bytes)) whole ∙ ap (λ (b : Bool). if b then Some m else None)
    (eq-eqb (length bytes) (length bytes) refl)

empty : (rest : List ℕ) → length rest ≡ 0 → rest ≡ []
empty [] size = refl
empty (b ∷ rest) size = absurd (omega (arith, size))

-- a word that ends where the bytes do is all of them
whole-spelled : (bytes : List ℕ) (after : ℕ) (m : Message) → front message_layout bytes 0 ≡ Took m after
    → after ≡ length bytes → Spells message_layout bytes m
whole-spelled bytes after m read ends =
    let w = front-sound message_layout bytes 0 after m read in
    let none : w.1 ≡ [] =
    empty w.1 (omega (arith, w.3, ends, ap (λ (bs : List ℕ). length bs) w.2, length-append w.0 w.1)) in
    let same : w.0 ≡ bytes = sym (w.2 ∙ ap (λ (rest : List ℕ). w.0 ++ rest) none ∙ append-nil w.0) in
    subst (λ (bs : List ℕ). Spells message_layout bs m) same w.4

ending : (bytes : List ℕ) (m n : Message) (after : ℕ) → front message_layout bytes 0 ≡ Took n after → (b : Bool)
    → (after == length bytes) ≡ b
    → (if b then Some n else None) ≡ Some m → Spells message_layout bytes m
ending bytes m n after read true same some =
    let value : n ≡ m = cc in
    subst (λ (o : Message). Spells message_layout bytes o) value
    (whole-spelled bytes after n read (eqb-true after (length bytes) same))
ending bytes m n after read false same some = absurd (cc)

spelled-by : (bytes : List ℕ) (m : Message) (r : Reading Message) → front message_layout bytes 0 ≡ r
    → ends_at (length bytes) r ≡ Some m → Spells message_layout bytes m
spelled-by bytes m (Stopped place) read some = absurd (cc)
spelled-by bytes m (Took n after) read some = ending bytes m n after read (after == length bytes) refl some

pub message-is : (bytes : List ℕ) (m : Message) → message_in bytes ≡ Some m → Spells message_layout bytes m
unfolding message_in
message-is bytes m some = spelled-by bytes m (front message_layout bytes 0) refl some

none-spelled : (bytes : List ℕ) → SpellsNothing message_layout bytes → (o : Option Message) → message_in bytes ≡ o
    → o ≡ None
none-spelled bytes nothing None is = refl
none-spelled bytes nothing (Some m) is = absurd (nothing m (message-is bytes m is))

pub message-none : (bytes : List ℕ) → SpellsNothing message_layout bytes → message_in bytes ≡ None
message-none bytes nothing = none-spelled bytes nothing (message_in bytes) refl

-- ---- messages of another name

-- the bytes spell a message of another name
abbrev pub IsForeign : (name : List ℕ) → (bytes : List ℕ) → Type 0
IsForeign name bytes = (m : Message) × Spells message_layout bytes m × (m.thread.from ≢ name)

differ : (one other : List ℕ) → bytes_eq one other ≡ false → one ≢ other
differ one other isnt same = let both : true ≡ false = sym ((bytes_eq-Decides one other).1 same) ∙ isnt in cc

foreign-by : (name bytes : List ℕ) (o : Option Message) → message_in bytes ≡ o
    → option_map_or (λ (m : Message). bytes_eq m.thread.from name) o true ≡ false
    → IsForeign name bytes
foreign-by name bytes None is isnt = absurd (cc)
foreign-by name bytes (Some m) is isnt = (m, message-is bytes m is, differ m.thread.from name isnt)

pub is-foreign : (name bytes : List ℕ) → is_own_or_none name bytes ≡ false → IsForeign name bytes
is-foreign name bytes isnt = foreign-by name bytes (message_in bytes) refl isnt

unequal : (one other : List ℕ) → one ≢ other → (b : Bool) → bytes_eq one other ≡ b → b ≡ false
unequal one other differs false is = refl
unequal one other differs true is = absurd (differs ((bytes_eq-Decides one other).0 is))

pub foreign-is : (name bytes : List ℕ) → IsForeign name bytes → is_own_or_none name bytes ≡ false
foreign-is name bytes f =
    rw (message-spelled bytes f.0 f.1) (unequal f.0.thread.from name f.2 (bytes_eq f.0.thread.from name) refl)
