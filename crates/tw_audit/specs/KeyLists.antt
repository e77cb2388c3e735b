-- What is kept of texts by the keys of their digests.
use Rattle.std.specs.Prelude.{◌≡◌, ℕ, List, [], ◌∷◌, length, map, false, Bool, Option, IfSome, slice_range}
use Rattle.std.specs.BTreeMap.{get}
use Rattle.std.specs.BTreeSet.{contains}
use Rattle.std.specs.Cmp.Lexicographic.{slice_cmp}
use Rattle.std.specs.List.{filter}
use Rattle.std.specs.Ordering.{nat_cmp}
use Rattle.tw_base.specs.kinds.Clash.{Among, Within}
use Rattle.tw_audit.specs.declared.keys.Keys.{Keys}
use Rattle.tw_audit.specs.declared.keys.Repeated.{Repeated}

abbrev pub digest_key : (digest : List ℕ) → List ℕ
digest_key digest = slice_range digest 0 7

-- the text that is known of a number
abbrev pub known_at : Keys → (number : ℕ) → Option (List ℕ)
known_at k number = get nat_cmp k.known number

-- the keys are those of a list of texts, among which is each text that was taken, and each that is known
pub record HasKeys (dig : List ℕ → List ℕ) (texts : List (List ℕ)) (k : Keys) : Type 0 where
  pub listed : List (List ℕ)
  pub keys : k.keys.items ≡ map (λ t. digest_key (dig t)) listed
  pub all : Within texts listed
  pub known : (number : ℕ) → IfSome (known_at k number) (λ t. Among t listed)

-- unless memory was wanting
abbrev pub TookKeys : (dig : List ℕ → List ℕ) → Keys → List (List ℕ) → Type 0
TookKeys dig k texts = k.spent ≡ false → HasKeys dig texts k

-- keys as texts, behind their number: what a finder has taken before the first text. A transcript's relation speaks of the transcript and
-- the texts alone, so what is to stay as it is stands in front of these
abbrev pub key_front : Repeated → List (List ℕ)
key_front r = (length r.keys.keys ∷ []) ∷ r.keys.keys

-- the digest's key is one of these
abbrev pub is_among_keys : Repeated → (digest : List ℕ) → Bool
is_among_keys r digest = contains (slice_cmp nat_cmp) r.keys (digest_key digest)

-- the texts with one of these keys
abbrev pub doubtful : (dig : List ℕ → List ℕ) → Repeated → List (List ℕ) → List (List ℕ)
doubtful dig r texts = filter (λ t. is_among_keys r (dig t)) texts

-- of two different texts with one digest the key is one of these
abbrev pub CoversClashes : (dig : List ℕ → List ℕ) → List (List ℕ) → Repeated → Type 0
CoversClashes dig texts r = (x y : List ℕ) → Among x texts → Among y texts → dig x ≡ dig y → is_among_keys r (dig x) ≡ false → x ≡ y
