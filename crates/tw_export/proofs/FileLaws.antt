-- The file of a history's steps, one after another, and of all of them.
use Rattle.std.proofs.Common.{◌≡◌, ℕ, ◌+◌, ◌-◌, ◌^◌, List, [], ◌∷◌, ◌++◌, length, Bool, true, false, refl, ap, sym, ◌∙◌}
use Rattle.std.proofs.Common.{subst, arith, inl, inr, append-nil, append_assoc, length-append}
use Rattle.std.specs.Prelude.{◌&&◌, flat_map, min, nat_le, cond, Result, Ok, Err, if◌then◌else◌}
use Rattle.std.specs.List.{list_all}
use Rattle.std.proofs.lemmas.Bool.{cases_lt, le-leb, lt-leb}
use Rattle.tw_base.specs.declared.kinds.limits.TheConstants.{MOST_HISTORY_BYTES}
use Rattle.tw_base.specs.format.Codecs.{behind, by_kind, counted, many, name_codec, number_codec, pair, seen}
use Rattle.tw_base.specs.format.Fields.{number_bytes}
use Rattle.tw_base.specs.history.History.{History, Step}
use Rattle.tw_base.specs.history.HistoryCodec.{history_bytes, history_codec, history_magic, step_codec}
use Rattle.tw_base.proofs.lemmas.format.NumberLaws.{length-number_bytes}
use Rattle.tw_export.specs.Files.{File, begun, front_of, stays_short, told_file, with_text}

-- the file of this text, of steps that all have few new nodes or not
pub record IsFileOf (f : File) (text : List ℕ) (few : Bool) : Type 0 where
  pub size : f.size ≡ min (length text) (2 ^ 64 - 1)
  pub short : f.is_short ≡ (nat_le (length text) MOST_HISTORY_BYTES && few)
  pub bytes : f.is_short ≡ true → f.bytes ≡ text

-- a step has as few new nodes as the format counts
abbrev pub is_few : Step → Bool
is_few s = nat_le (length s.fresh) 65535

abbrev pub with_written : File → Step → File
with_written f s = with_text f (step_codec.write s) (is_few s)

-- the file with these steps more
abbrev pub written_on : File → List Step → File
written_on f [] = f
written_on f (s ∷ ss) = written_on (with_written f s) ss

pub written_on-push : (f : File) (ss : List Step) (s : Step) → written_on f (ss ++ s ∷ []) ≡ with_written
    (written_on f ss) s
written_on-push f [] s = refl
written_on-push f (t ∷ ss) s = written_on-push (with_written f t) ss s

-- ---- one text more

both : (a b c : Bool) → ((true && a) && (b && c)) ≡ (c && (a && b))
both true true true = refl
both true true false = refl
both true false true = refl
both true false false = refl
both false b true = refl
both false b false = refl

not-true : false ≡ true → ⊥
not-true e = cc

module _ (f : File) (bytes : List ℕ) (few : Bool) (is : IsFileOf f bytes few) (text : List ℕ) (b : Bool) where
  stays : stays_short f text b ≡ (nat_le (length (bytes ++ text)) MOST_HISTORY_BYTES && (few && b))
  stays = elim (cases_lt MOST_HISTORY_BYTES (length bytes)) [
    | inl long ↦
        let past : nat_le (length bytes) MOST_HISTORY_BYTES ≡ false = lt-leb (length bytes) MOST_HISTORY_BYTES long in
        let more : nat_le (length (bytes ++ text)) MOST_HISTORY_BYTES ≡ false = lt-leb (length (bytes ++ text))
        MOST_HISTORY_BYTES (omega (arith, long, length-append bytes text)) in
        ap (λ (c : Bool). c && (b && nat_le (f.size + length text) MOST_HISTORY_BYTES))
        (is.short ∙ ap (λ (c : Bool). c && few) past)
        ∙ sym (ap (λ (c : Bool). c && (few && b)) more)
    | inr short ↦
        let within : nat_le (length bytes) MOST_HISTORY_BYTES ≡ true = le-leb (length bytes) MOST_HISTORY_BYTES short in
        let same : f.size + length text ≡ length (bytes ++ text) =
        omega (arith, is.size, short, length-append bytes text) in
        (λ i. (is.short ∙ ap (λ (c : Bool). c && few) within) i && (b && nat_le (same i) MOST_HISTORY_BYTES))
        ∙ both few b (nat_le (length (bytes ++ text)) MOST_HISTORY_BYTES)
  ]

  kept : (c : Bool) → stays_short f text b ≡ c → c ≡ true → cond c (f.bytes ++ text) f.bytes ≡ bytes ++ text
  kept true same holds = ap (λ (bs : List ℕ). bs ++ text) (is.bytes (was f.is_short refl same))
    where
      was : (d : Bool) → f.is_short ≡ d → (f.is_short && (b && nat_le (f.size + length text) MOST_HISTORY_BYTES)) ≡ true
          → f.is_short ≡ true
      was true is all = is
      was false is all =
          absurd (not-true (sym (ap (λ (e : Bool). e && (b && nat_le (f.size + length text) MOST_HISTORY_BYTES)) is)
          ∙ all))
  kept false same holds = absurd (not-true holds)

  pub with_text-is : IsFileOf (with_text f text b) (bytes ++ text) (few && b)
  with_text-is = record {
    size = omega (arith, is.size, length-append bytes text);
    short = stays;
    bytes = kept (stays_short f text b) refl;
  }

-- ---- all of them

and-true : (b : Bool) → (b && true) ≡ b
and-true true = refl
and-true false = refl

and_assoc : (a b c : Bool) → (a && (b && c)) ≡ ((a && b) && c)
and_assoc true b c = refl
and_assoc false b c = refl

pub written_on-is : (f : File) (bytes : List ℕ) (few : Bool) → IsFileOf f bytes few → (ss : List Step)
    → IsFileOf (written_on f ss) (bytes ++ flat_map step_codec.write ss) (few && list_all is_few ss)
written_on-is f bytes few is [] = subst (λ (b : Bool). IsFileOf f (bytes ++ []) b) (sym (and-true few))
    (subst (λ (bs : List ℕ). IsFileOf f bs few) (sym (append-nil bytes)) is)
written_on-is f bytes few is (s ∷ ss) =
    let text : List ℕ = step_codec.write s in
    let rest : List ℕ = flat_map step_codec.write ss in
    subst (λ (b : Bool). IsFileOf (written_on (with_written f s) ss) (bytes ++ (text ++ rest)) b)
    (sym (and_assoc few (is_few s) (list_all is_few ss)))
    (subst (λ (bs : List ℕ). IsFileOf (written_on (with_written f s) ss) bs ((few && is_few s) && list_all is_few ss))
    (append_assoc bytes text rest)
    (written_on-is (with_written f s) (bytes ++ text) (few && is_few s) (with_text-is f bytes few is text (is_few s))
    ss))

-- before the first step it is the front
begun-is : (name : List ℕ) (count : ℕ) → length name ≡ 16 → IsFileOf (begun name count) (front_of name count) true
begun-is name count size =
    let front : length (front_of name count) ≡ 28 =
    omega (
      arith,
      size,
      length-append name (number_bytes 8 count),
      length-number_bytes 8 count,
      length-append history_magic (name ++ number_bytes 8 count),
    ) in
    record {
      size = omega (arith, front);
      short = sym (ap (λ (b : Bool). b && true) (le-leb (length (front_of name count)) MOST_HISTORY_BYTES
          (omega (arith, front))));
      bytes = λ short. refl;
    }

-- a history's bytes are the front and those of each step
bytes-front : (h : History) → history_bytes h ≡ front_of h.name (length h.steps) ++ flat_map step_codec.write h.steps
unfolding history_codec seen behind pair name_codec counted by_kind number_codec many
bytes-front h = ap (λ (bs : List ℕ). history_magic ++ bs)
    (sym (append_assoc h.name (number_bytes 8 (length h.steps)) (flat_map step_codec.write h.steps)))

whole-file : (h : History) → length h.name ≡ 16 → IsFileOf (written_on (begun h.name (length h.steps)) h.steps)
    (history_bytes h) (list_all is_few h.steps)
whole-file h size =
    subst (λ (bs : List ℕ). IsFileOf (written_on (begun h.name (length h.steps)) h.steps) bs (list_all is_few h.steps))
    (sym (bytes-front h))
    (written_on-is (begun h.name (length h.steps)) (front_of h.name (length h.steps)) true
    (begun-is h.name (length h.steps) size) h.steps)

-- ---- what is told in the end

-- the bytes, where they are within the limits of a history's file, and else how many they are
abbrev pub bytes_or_size : Bool → List ℕ → Result (List ℕ) ℕ
bytes_or_size is_short bytes = if is_short then Ok bytes else Err (min (length bytes) (2 ^ 64 - 1))

told-is : (f : File) (bytes : List ℕ) (few : Bool) → IsFileOf f bytes few → told_file f ≡ bytes_or_size
    (nat_le (length bytes) MOST_HISTORY_BYTES && few) bytes
told-is f bytes few is = by f.is_short refl ∙ ap (λ (b : Bool). bytes_or_size b bytes) is.short
  where
    by : (b : Bool) → f.is_short ≡ b → told_file f ≡ bytes_or_size b bytes
    by true short = ap (λ (b : Bool). if b then Ok f.bytes else Err f.size) short ∙ ap (λ (bs : List ℕ). Ok bs)
        (is.bytes short)
    by false long = ap (λ (b : Bool). if b then Ok f.bytes else Err f.size) long ∙ ap (λ (n : ℕ). Err n) is.size

-- of a history, whose name has 16 bytes
pub whole-told : (h : History) → length h.name ≡ 16
    → told_file (written_on (begun h.name (length h.steps)) h.steps) ≡ bytes_or_size
    (nat_le (length (history_bytes h)) MOST_HISTORY_BYTES && list_all is_few h.steps) (history_bytes h)
whole-told h size = told-is (written_on (begun h.name (length h.steps)) h.steps) (history_bytes h)
    (list_all is_few h.steps) (whole-file h size)
