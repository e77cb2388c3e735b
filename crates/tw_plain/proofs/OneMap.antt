-- No two bounds that a text can tell have one text, and the first bytes of a low map file name one step and one peer.
use Rattle.std.proofs.Common.{◌≡◌, ℕ, ◌-◌, ◌<◌, ◌^◌, List, [], ◌∷◌, ◌++◌, refl, ap, sym, ◌∙◌, subst, arith}
use Rattle.std.specs.Prelude.{codes, decimal, Option, Some, None, IfSome}
use Rattle.std.specs.Str.Parse.{AllDigits}
use Rattle.std.proofs.lemmas.Fmt.{decimal_is_IsNumeral}
use Rattle.std.proofs.lemmas.List.{append-nil, append_assoc}
use Rattle.tw_base.specs.format.Codecs.{Codec, name_codec, number_codec, pair}
use Rattle.tw_base.specs.format.Fields.{number_bytes}
use Rattle.tw_base.specs.format.Formats.{Format, Spells, front}
use Rattle.tw_base.specs.format.Formats.Reading.{Took}
use Rattle.tw_base.specs.kinds.Lists.{Each}
use Rattle.tw_base.specs.kinds.Names.{IsName}
use Rattle.tw_base.proofs.lemmas.format.CodecLaws.{Lawful, lawful, lawful-name, lawful-pair, unambiguous}
use Rattle.tw_base.proofs.lemmas.format.FormatLaws.{front-whole}
use Rattle.tw_text.specs.Lines.{line}
use Rattle.tw_text.specs.declared.field.Field.TheVariants.{Number}
use Rattle.tw_tmap.specs.declared.map_verdict.MapVerdict.TheVariants.{Yes}
use Rattle.tw_tmap.specs.Texts.{bound_field, map_text}
use Rattle.tw_plain.specs.Maps.{AreBounds, low_map}
use Rattle.tw_plain.specs.Plain.{IsNamedStep}
use Rattle.tw_plain.proofs.Cutting.{IsLine, IsWord, Line, lines_text, same_lines}
use Rattle.tw_plain.proofs.ReportLines.{kind_words}
use Rattle.tw_plain.proofs.Words.{letters-word, number-once, number-word}

-- ---- the lines

abbrev bound_word : Option ℕ → List ℕ
bound_word None = codes "none"
bound_word (Some step) = decimal step

abbrev high_words : Option ℕ → Line
high_words high = (codes "high", bound_word high ∷ [])

abbrev map_words : (low : ℕ) (high : Option ℕ) (upto : ℕ) → List Line
map_words low high upto =
    kind_words (codes "map") ∷ (codes "low", decimal low ∷ []) ∷ high_words high ∷ (codes "upto", decimal upto ∷ []) ∷ []

map-text : (low : ℕ) (high : Option ℕ) (upto : ℕ) → map_text (Yes low high upto) ≡ lines_text (map_words low high upto)
map-text low None upto =
    ap (λ t. codes "accepted map\n" ++ (line (codes "low") (Number low ∷ []) ++ (line (codes "high") (bound_field None ∷ []) ++ t)))
    (sym (append-nil (line (codes "upto") (Number upto ∷ []))))
map-text low (Some high) upto =
    ap (λ t. codes "accepted map\n" ++ (line (codes "low") (Number low ∷ []) ++ (line (codes "high") (Number high ∷ []) ++ t)))
    (sym (append-nil (line (codes "upto") (Number upto ∷ []))))

bound-word : (high : Option ℕ) → IfSome high (λ step. step < 2 ^ 64) → IsWord (bound_word high)
bound-word None small = letters-word (codes "none") refl
bound-word (Some step) small = number-word step small

map-lines : (low : ℕ) (high : Option ℕ) (upto : ℕ) → AreBounds low high upto → Each IsLine (map_words low high upto)
map-lines low high upto are = (
  (letters-word (codes "accepted") refl, (letters-word (codes "map") refl, tt)),
  (
    (letters-word (codes "low") refl, (number-word low are.0, tt)),
    (
      (letters-word (codes "high") refl, (bound-word high are.1, tt)),
      ((letters-word (codes "upto") refl, (number-word upto are.2, tt)), tt),
    ),
  ),
)

-- ---- one reading

-- `none` is no number
no_number : (n : ℕ) → n < 2 ^ 64 → decimal n ≡ codes "none" → ⊥
no_number n small same =
    let digits : AllDigits 10 (codes "none") = subst (AllDigits 10) same (decimal_is_IsNumeral n small).0.1 in
    let first = digits.0 in
    absurd (omega (arith, first))

bound-once : (high next : Option ℕ) → IfSome high (λ step. step < 2 ^ 64) → IfSome next (λ step. step < 2 ^ 64)
    → bound_word high ≡ bound_word next → high ≡ next
bound-once None None small few same = refl
bound-once None (Some n) small few same = absurd (no_number n few (sym same))
bound-once (Some n) None small few same = absurd (no_number n small same)
bound-once (Some n) (Some m) small few same = ap Some (number-once n m small few same)

-- lines that are the same, each with its own words
later : (a b c d v x y z : Line) → a ∷ b ∷ c ∷ d ∷ [] ≡ v ∷ x ∷ y ∷ z ∷ [] → (b ≡ x) × (c ≡ y) × (d ≡ z)
later a b c d v x y z same = (cc, cc, cc)

one-word : (head one other : List ℕ) → (let l : Line = (head, one ∷ []) in l) ≡ (head, other ∷ []) → one ≡ other
one-word head one other same = let words : one ∷ [] ≡ other ∷ [] = ap (λ (l : Line). l.1) same in cc

pub map-once : (low below : ℕ) (high above : Option ℕ) (upto last : ℕ) → AreBounds low high upto → AreBounds below above last
    → map_text (Yes low high upto) ≡ map_text (Yes below above last) → (low ≡ below) × (high ≡ above) × (upto ≡ last)
map-once low below high above upto last is are same =
    let words = same_lines (map_words low high upto) (map_words below above last) (map-lines low high upto is) (map-lines below above last are)
    (sym (map-text low high upto) ∙ same ∙ map-text below above last) in
    let lines = later _ _ _ _ _ _ _ _ words in (
      number-once low below is.0 are.0 (one-word (codes "low") (decimal low) (decimal below) lines.0),
      bound-once high above is.1 are.1 (one-word (codes "high") (bound_word high) (bound_word above) lines.1),
      number-once upto last is.2 are.2 (one-word (codes "upto") (decimal upto) (decimal last) lines.2),
    )

-- ---- the first bytes of a low map file

-- a word at the front of bytes has one value
one-front : {X : Type 0} (f : Format X) (one other rest more : List ℕ) (x y : X) → Spells f one x → Spells f other y
    → one ++ rest ≡ other ++ more → x ≡ y
one-front f one other rest more x y s t same =
    let took : Took x _ ≡ Took y _ = sym (front-whole f one rest 0 x s) ∙ ap (λ b. front f b 0) same ∙ front-whole f other more 0 y t in
    cc

abbrev Named : Type 0
Named = List ℕ × (ℕ × List ℕ)

abbrev named_codec : Codec Named
named_codec = pair name_codec (λ service. pair (number_codec 8 0 (2 ^ 64 - 1)) (λ step. name_codec))

named-lawful : Lawful named_codec
named-lawful = lawful-pair name_codec _ lawful-name (λ service _. lawful-pair (number_codec 8 0 (2 ^ 64 - 1)) _ (search lawful) (λ step _. lawful-name))

named-spelled : (service : List ℕ) (step : ℕ) (peer : List ℕ) → IsNamedStep service step → IsName peer
    → Spells named_codec.format (named_codec.write (service, (step, peer))) (service, (step, peer))
unfolding pair name_codec number_codec
named-spelled service step peer is named =
    (unambiguous named_codec named-lawful).spelled (service, (step, peer))
    (is.0, ((let small : step < 2 ^ 64 = is.1 in (omega arith, omega (arith, small))), named))

-- behind the kind
abbrev behind_kind : (service : List ℕ) (step : ℕ) (peer rest : List ℕ) → List ℕ
behind_kind service step peer rest = service ++ (number_bytes 8 step ++ (peer ++ rest))

moved : (service : List ℕ) (step : ℕ) (peer rest : List ℕ)
    → named_codec.write (service, (step, peer)) ++ rest ≡ behind_kind service step peer rest
unfolding pair name_codec number_codec
moved service step peer rest =
    append_assoc service (number_bytes 8 step ++ peer) rest ∙ ap (λ t. service ++ t) (append_assoc (number_bytes 8 step) peer rest)

pub front-once : (service other : List ℕ) (step next : ℕ) (peer last rest more : List ℕ) → IsNamedStep service step → IsNamedStep other next
    → IsName peer → IsName last → low_map service step peer rest ≡ low_map other next last more
    → (service ≡ other) × (step ≡ next) × (peer ≡ last)
front-once service other step next peer last rest more is are named also same =
    let tails : behind_kind service step peer rest ≡ behind_kind other next last more = cc in
    let one : (service, (step, peer)) ≡ (other, (next, last)) =
    one-front named_codec.format (named_codec.write (service, (step, peer))) (named_codec.write (other, (next, last))) rest more
    (service, (step, peer)) (other, (next, last)) (named-spelled service step peer is named) (named-spelled other next last are also)
    (moved service step peer rest ∙ tails ∙ sym (moved other next last more)) in
    (ap (λ (n : Named). n.0) one, ap (λ (n : Named). n.1.0) one, ap (λ (n : Named). n.1.1) one)
