-- Where a form stops ends the longest front of the words that is the front of words of the form.
use Rattle.std.proofs.Common.{◌≡◌, ℕ, zero, suc, ◌+◌, ◌-◌, ◌≤◌, List, [], ◌∷◌, ◌++◌, length, take, min, refl, ap, ◌∙◌}
use Rattle.std.proofs.Common.{sym, subst, Bool, true, false, arith, append-nil, length-append, length-take-le, leb}
use Rattle.std.proofs.Common.{cond, eqb, eq-eqb, eqb-true, codes, replicate, Option, Some, None, Ok, Err, IsOk, ◌⊎◌}
use Rattle.std.proofs.Common.{if◌then◌else◌, inl, inr}
use Rattle.std.proofs.lemmas.Bool.{cases_lt}
use Rattle.std.specs.Str.{bytes_eq}
use Rattle.std.proofs.lemmas.Slice.Eq.{bytes_eq-Decides}
use Rattle.hex.proofs.OnLiterals.{hex_on_literals}
use Rattle.tw_words.specs.Forms.{Form, WordsReading, any_paths, at_most_paths, choose_form, count_paths, digest_form}
use Rattle.tw_words.specs.Forms.{digest_value, either, either_reading, end, form_named, give, go_on, maybe_up_to}
use Rattle.tw_words.specs.Forms.{maybe_number, name_form, name_value, next, no_words, number_form, number_value, path}
use Rattle.tw_words.specs.Forms.{path_value, paths, then_form}
use Rattle.tw_words.specs.declared.command.Command.{Command}

unwrapped : {X : Type 0} (x y : X) → Some x ≡ Some y → x ≡ y
unwrapped x y same = cc

abbrev failed : ℕ → WordsReading Command
failed left = Err left

unwrapped-err : (x y : ℕ) → failed x ≡ failed y → x ≡ y
unwrapped-err x y same = cc

no : false ≡ true → ⊥
no same = cc

same_bytes : (bytes : List ℕ) → bytes_eq bytes bytes ≡ true
same_bytes bytes = (bytes_eq-Decides bytes bytes).1 refl

-- the longest front ends where so many words are left
pub record Stops (form : Form) (words : List (List ℕ)) (left : ℕ) : Type 0 where
  pub front : ℕ
  pub size : front + left ≡ length words
  pub rest : List (List ℕ)
  pub good : IsOk (form (take front words ++ rest))
  pub longest : (n : ℕ) (rest : List (List ℕ)) → n ≤ length words → IsOk (form (take n words ++ rest)) → n ≤ front

pub record IsExact (form : Form) : Type 0 where
  -- some words have the form
  pub sample : List (List ℕ)
  pub had : IsOk (form sample)
  pub stops : (words : List (List ℕ)) (left : ℕ) → form words ≡ Err left → Stops form words left

-- ---- the end

pub exact-end : (command : Command) → IsExact (end command)
unfolding no_words
exact-end command = record { sample = []; had = refl; stops = stops }
  where
    stops : (words : List (List ℕ)) (left : ℕ) → end command words ≡ Err left → Stops (end command) words left
    stops [] left e = absurd (cc)
    stops (word ∷ words) left e = record {
      front = 0;
      size = let same : suc (length words) ≡ left = cc in omega (arith, same);
      rest = [];
      good = refl;
      longest = λ n rest within ok. none n rest ok;
    }
      where
        none : (n : ℕ) (rest : List (List ℕ)) → IsOk (end command (take n (word ∷ words) ++ rest)) → n ≤ 0
        none zero rest ok = omega arith
        none (suc n) rest ok = absurd (cc)

-- ---- one word, and then a form

module _ {V : Type 0} (part : List ℕ → Option V) (form : V → Form) where
  -- no word of these, since the first has no value
  stops-none : (word : List ℕ) (words sample : List (List ℕ)) (left : ℕ) → part word ≡ None
      → IsOk (then_form part form sample)
      → then_form part form (word ∷ words) ≡ Err left → Stops (then_form part form) (word ∷ words) left
  unfolding next
  stops-none word words sample left none had e = record {
    front = 0;
    size = omega (
      arith,
      unwrapped-err (suc (length words)) left (subst (λ o. then_form (λ w. o) form (word ∷ words) ≡ Err left) none e),
    );
    rest = sample;
    good = had;
    longest = λ n rest within ok. shorter n rest ok;
  }
    where
      shorter : (n : ℕ) (rest : List (List ℕ)) → IsOk (then_form part form (take n (word ∷ words) ++ rest)) → n ≤ 0
      shorter zero rest ok = omega arith
      shorter (suc n) rest ok =
          absurd (no (subst (λ o. IsOk (then_form (λ w. o) form (word ∷ (take n words ++ rest)))) none ok))

  -- one word more than the form of the first word's value has of the others
  stops-some : (word : List ℕ) (words : List (List ℕ)) (left : ℕ) (v : V) → part word ≡ Some v → Stops (form v) words
      left
      → Stops (then_form part form) (word ∷ words) left
  unfolding next
  stops-some word words left v some inner = record {
    front = suc inner.front;
    size = omega (arith, inner.size);
    rest = inner.rest;
    good = rw some inner.good;
    longest = longer;
  }
    where
      longer : (n : ℕ) (rest : List (List ℕ)) → n ≤ suc (length words)
          → IsOk (then_form part form (take n (word ∷ words) ++ rest)) → n ≤ suc inner.front
      longer zero rest within ok = omega arith
      longer (suc n) rest within ok =
          let behind = subst (λ o. IsOk (then_form (λ w. o) form (word ∷ (take n words ++ rest)))) some ok in
          omega (arith, inner.longest n rest (omega (arith, within)) behind)

  pub exact-then : (word : List ℕ) (v : V) → part word ≡ Some v → ((word : List ℕ) (v : V) → part word ≡ Some v
      → IsExact (form v))
      → IsExact (then_form part form)
  unfolding next
  exact-then first v fits exact = record { sample = sample; had = had; stops = stops }
    where
      inner : IsExact (form v)
      inner = exact first v fits

      sample : List (List ℕ)
      sample = first ∷ inner.sample

      had : IsOk (then_form part form sample)
      had = rw fits inner.had

      stops : (words : List (List ℕ)) (left : ℕ) → then_form part form words ≡ Err left → Stops (then_form part form)
          words left
      stops [] left e = record {
        front = 0;
        size = let same : 0 ≡ left = cc in omega (arith, same);
        rest = sample;
        good = had;
        longest = λ n rest within ok. within;
      }
      stops (word ∷ words) left e = by (part word) refl
        where
          by : (o : Option V) → part word ≡ o → Stops (then_form part form) (word ∷ words) left
          by None is = stops-none word words sample left is had e
          by (Some w) is =
              let went : form w words ≡ Err left = sym (ap (λ o. then_form (λ u. o) form (word ∷ words)) is) ∙ e in
              stops-some word words left w is ((exact word w is).stops words left went)

pub exact-path : (form : List ℕ → Form) → ((v : List ℕ) → IsExact (form v)) → IsExact (path form)
exact-path form exact = exact-then path_value form (codes "p") (codes "p") refl (λ word v is. exact v)

pub exact-name : (form : List ℕ → Form) → ((v : List ℕ) → IsExact (form v)) → IsExact (name_form form)
exact-name form exact = exact-then name_value form (codes "s") _ refl (λ word v is. exact v)

-- a number of one digit
pub exact-number : (least most : ℕ) (form : ℕ → Form) → number_value least most (codes "1") ≡ Some 1
    → ((n : ℕ) → IsExact (form n)) → IsExact (number_form least most form)
exact-number least most form fits exact = exact-then (number_value least most) form (codes "1") 1 fits
    (λ word n is. exact n)

pub exact-digest : (form : List ℕ → Form) → ((v : List ℕ) → IsExact (form v)) → IsExact (digest_form form)
unfolding hex_on_literals
exact-digest form exact = exact-then digest_value form (replicate 64 48) _ refl (λ word v is. exact v)

-- ---- a table

abbrev pub EachExact : List (List ℕ × Form) → Type 0
EachExact [] = Unit {0}
EachExact (row ∷ rows) = IsExact row.1 × EachExact rows

exact_named : (rows : List (List ℕ × Form)) → EachExact rows → (word : List ℕ) (form : Form) → form_named rows word
    ≡ Some form → IsExact form
exact_named [] each word form is = absurd (cc)
exact_named (row ∷ rows) each word form is = by (bytes_eq word row.0) is (exact_named rows each.1 word form)
  where
    by : (b : Bool) → (if b then Some row.1 else form_named rows word) ≡ Some form
        → (form_named rows word ≡ Some form → IsExact form) → IsExact form
    by true same others = subst IsExact (unwrapped row.1 form same) each.0
    by false same others = others same

pub exact-choose : (key : List ℕ) (form : Form) (rows : List (List ℕ × Form)) → EachExact ((key, form) ∷ rows)
    → IsExact (choose_form ((key, form) ∷ rows))
exact-choose key form rows each =
    let named : form_named ((key, form) ∷ rows) key ≡ Some form = ap (λ b. if b then Some form else form_named rows key)
    (same_bytes key) in
    exact-then (form_named ((key, form) ∷ rows)) (λ f. f) key form named (exact_named ((key, form) ∷ rows) each)

-- ---- two forms

-- both stop, and fewer words are left of neither
record AreLeft (one other : WordsReading Command) (left : ℕ) : Type 0 where
  first : ℕ
  second : ℕ
  is_first : one ≡ Err first
  is_second : other ≡ Err second
  least : left ≡ min first second

are_left : (one other : WordsReading Command) (left : ℕ) → either_reading one other ≡ Err left → AreLeft one other left
are_left (Ok command) other left e = absurd (cc)
are_left (Err first) (Ok command) left e = absurd (cc)
are_left (Err first) (Err second) left e =
    record { first = first; second = second; is_first = refl; is_second = refl; least = cc }

from_one : (one other : WordsReading Command) → IsOk one → IsOk (either_reading one other)
from_one (Ok command) other ok = refl
from_one (Err first) other ok = absurd (cc)

from_other : (one other : WordsReading Command) → IsOk other → IsOk (either_reading one other)
from_other (Ok command) other ok = refl
from_other (Err first) (Ok command) ok = refl
from_other (Err first) (Err second) ok = absurd (cc)

of_either : (one other : WordsReading Command) → IsOk (either_reading one other) → IsOk one ⊎ IsOk other
of_either (Ok command) other ok = inl refl
of_either (Err first) (Ok command) ok = inr refl
of_either (Err first) (Err second) ok = absurd (cc)

pub exact-either : (one other : Form) → IsExact one → IsExact other → IsExact (either one other)
exact-either one other exact exact-other = record { sample = exact.sample; had = from_one _ _ exact.had; stops = stops }
  where
    -- of the form that has the longer front
    stops-by : (words : List (List ℕ)) (left : ℕ) (form : Form)
        → ((ws : List (List ℕ)) → IsOk (form ws) → IsOk (either one other ws)) → Stops form words left
        → ((n : ℕ) (rest : List (List ℕ)) → n ≤ length words → IsOk (one (take n words ++ rest))
        → n + left ≤ length words)
        → ((n : ℕ) (rest : List (List ℕ)) → n ≤ length words → IsOk (other (take n words ++ rest))
        → n + left ≤ length words)
        → Stops (either one other) words left
    stops-by words left form of-form s no-longer no-longer-other = record {
      front = s.front;
      size = s.size;
      rest = s.rest;
      good = of-form _ s.good;
      longest = λ n rest within ok. elim (of_either _ _ ok) [
        | inl of-one ↦ omega (arith, no-longer n rest within of-one, s.size)
        | inr of-other ↦ omega (arith, no-longer-other n rest within of-other, s.size)
      ];
    }

    stops : (words : List (List ℕ)) (left : ℕ) → either one other words ≡ Err left → Stops (either one other) words left
    stops words left e =
        let parts = are_left (one words) (other words) left e in
        let s = exact.stops words parts.first parts.is_first in
        let t = exact-other.stops words parts.second parts.is_second in
        let by : (form : Form) → ((ws : List (List ℕ)) → IsOk (form ws) → IsOk (either one other ws)) → Stops form words left
        → Stops (either one other) words left = λ form of-form own.
        stops-by words left form of-form own
        (λ n rest within ok. omega (arith, s.longest n rest within ok, s.size, parts.least))
        (λ n rest within ok. omega (arith, t.longest n rest within ok, t.size, parts.least)) in
        elim (cases_lt parts.second parts.first) [
          | inl below ↦ by other (λ ws. from_other (one ws) (other ws))
              (subst (Stops other words) (omega (arith, below, parts.least)) t)
          | inr above ↦ by one (λ ws. from_one (one ws) (other ws))
              (subst (Stops one words) (omega (arith, above, parts.least)) s)
        ]

-- ---- the last word may be left out

module _ (most : ℕ) (fits : number_value 0 most (codes "1") ≡ Some 1) (command : Option ℕ → Command) where
  -- the form where there is a word
  there : Form
  there = number_form 0 most (λ n. end (command (Some n)))

  same : (word : List ℕ) (words : List (List ℕ)) → maybe_up_to most command (word ∷ words) ≡ there (word ∷ words)
  unfolding there maybe_number next no_words
  same word words = by (number_value 0 most word) words
    where
      by : (o : Option ℕ) (words : List (List ℕ))
          → give command (go_on (next (λ w. o) (word ∷ words)) (λ number behind. give (λ done. Some number)
          (no_words behind)))
          ≡ then_form (λ w. o) (λ n. end (command (Some n))) (word ∷ words)
      by None words = refl
      by (Some n) [] = refl
      by (Some n) (second ∷ words) = refl

  pub exact-maybe : IsExact (maybe_up_to most command)
  unfolding there maybe_number
  exact-maybe = record { sample = []; had = refl; stops = stops }
    where
      exact : IsExact there
      exact = exact-number 0 most (λ n. end (command (Some n))) fits (λ n. exact-end (command (Some n)))

      had_by : (words : List (List ℕ)) → IsOk (there words) → IsOk (maybe_up_to most command words)
      had_by [] ok = refl
      had_by (word ∷ words) ok = subst IsOk (sym (same word words)) ok

      stops : (words : List (List ℕ)) (left : ℕ) → maybe_up_to most command words ≡ Err left
          → Stops (maybe_up_to most command) words left
      stops [] left e = absurd (cc)
      stops (word ∷ words) left e = record {
        front = s.front;
        size = s.size;
        rest = s.rest;
        good = had_by _ s.good;
        longest = longer;
      }
        where
          s : Stops there (word ∷ words) left
          s = exact.stops (word ∷ words) left (sym (same word words) ∙ e)

          longer : (n : ℕ) (rest : List (List ℕ)) → n ≤ suc (length words)
              → IsOk (maybe_up_to most command (take n (word ∷ words) ++ rest)) → n ≤ s.front
          longer zero rest within ok = omega arith
          longer (suc n) rest within ok = s.longest (suc n) rest within (subst IsOk (same word (take n words ++ rest))
              ok)

-- ---- paths

count_paths-le : (words : List (List ℕ)) → count_paths words ≤ length words
count_paths-le [] = omega arith
count_paths-le (word ∷ words) = by (leb 1 (length word)) (count_paths-le words)
  where
    by : (b : Bool) → count_paths words ≤ length words → cond b (suc (count_paths words)) 0 ≤ suc (length words)
    by true h = omega (arith, h)
    by false h = omega arith

-- each front of the paths is of paths
count_paths-take : (words : List (List ℕ)) (k : ℕ) → k ≤ count_paths words → count_paths (take k words) ≡ k
count_paths-take words zero h = refl
count_paths-take [] (suc k) h = absurd (omega (arith, h))
count_paths-take (word ∷ words) (suc k) h = by (leb 1 (length word)) h (count_paths-take words k)
  where
    by : (b : Bool) → suc k ≤ cond b (suc (count_paths words)) 0
        → (k ≤ count_paths words → count_paths (take k words) ≡ k)
        → cond b (suc (count_paths (take k words))) 0 ≡ suc k
    by true h others = ap suc (others (omega (arith, h)))
    by false h others = absurd (omega (arith, h))

-- a front of words that are paths is of paths
count_paths-front : (words rest : List (List ℕ)) (n : ℕ) → n ≤ length words → count_paths (take n words ++ rest) ≡ n
    + length rest → n ≤ count_paths words
count_paths-front words rest zero within all = omega arith
count_paths-front [] rest (suc n) within all = absurd (omega (arith, within))
count_paths-front (word ∷ words) rest (suc n) within all = by (leb 1 (length word)) all
    (count_paths-front words rest n (omega (arith, within)))
  where
    by : (b : Bool) → cond b (suc (count_paths (take n words ++ rest))) 0 ≡ suc n + length rest
        → (count_paths (take n words ++ rest) ≡ n + length rest → n ≤ count_paths words)
        → suc n ≤ cond b (suc (count_paths words)) 0
    by true all others = let h = others (omega (arith, all)) in omega (arith, h)
    by false all others = absurd (omega (arith, all))

-- at most so many paths, by the words: of each front of them there may be as many, and what is too many for them is so
-- for longer ones
module _ (most : List (List ℕ) → ℕ) (command : List (List ℕ) → Command) where
  form : Form
  form words = at_most_paths (most words) command words

  abbrev reading : Bool → List (List ℕ) → WordsReading Command
  reading b words = give command (if b then Ok words else Err (length words - min (most words) (count_paths words)))

  ok-taken : (words : List (List ℕ)) → min (most words) (count_paths words) ≡ length words → IsOk (form words)
  unfolding form paths
  ok-taken words all = subst (λ b. IsOk (reading b words)) (sym (eq-eqb _ _ all)) refl

  taken-ok : (words : List (List ℕ)) → IsOk (form words) → min (most words) (count_paths words) ≡ length words
  unfolding form paths
  taken-ok words ok = by (eqb (min (most words) (count_paths words)) (length words)) refl ok
    where
      by : (b : Bool) → eqb (min (most words) (count_paths words)) (length words) ≡ b → IsOk (reading b words)
          → min (most words) (count_paths words) ≡ length words
      by true is ok = eqb-true _ _ is
      by false is ok = absurd (no ok)

  taken-left : (words : List (List ℕ)) (left : ℕ) → form words ≡ Err left → left ≡ length words - min (most words)
      (count_paths words)
  unfolding form paths
  taken-left words left e = by (eqb (min (most words) (count_paths words)) (length words)) e
    where
      by : (b : Bool) → reading b words ≡ Err left → left ≡ length words - min (most words) (count_paths words)
      by true e = absurd (cc)
      by false e = cc

  exact-most : ((words : List (List ℕ)) (k : ℕ) → k ≤ length words → k ≤ most words → k ≤ most (take k words))
      → ((words rest : List (List ℕ)) (n : ℕ) → n ≤ length words → n ≤ most (take n words ++ rest) → n ≤ most words)
      → IsExact form
  exact-most front whole = record { sample = []; had = ok-taken [] (omega arith); stops = stops }
    where
      stops : (words : List (List ℕ)) (left : ℕ) → form words ≡ Err left → Stops form words left
      stops words left e = record {
        front = k;
        size = omega (arith, fewer, taken-left words left e);
        rest = [];
        good = subst (λ xs. IsOk (form xs)) (sym (append-nil (take k words))) (ok-taken (take k words) all);
        longest = longer;
      }
        where
          k : ℕ
          k = min (most words) (count_paths words)

          fewer : min (most words) (count_paths words) ≤ length words
          fewer = omega (arith, count_paths-le words)

          all : min (most (take k words)) (count_paths (take k words)) ≡ length (take k words)
          all = omega (
            arith,
            front words k fewer (omega arith),
            count_paths-take words k (omega arith),
            length-take-le k words fewer,
          )

          longer : (n : ℕ) (rest : List (List ℕ)) → n ≤ length words → IsOk (form (take n words ++ rest))
              → n ≤ min (most words) (count_paths words)
          longer n rest within ok =
              let whole-taken = taken-ok (take n words ++ rest) ok in
              let size = length-append (take n words) rest in
              let taken-size = length-take-le n words within in
              let counted = count_paths-le (take n words ++ rest) in
              let allowed = whole words rest n within (omega (arith, whole-taken, size, taken-size)) in
              let paths-front = count_paths-front words rest n within
              (omega (arith, whole-taken, size, taken-size, counted)) in
              omega (arith, allowed, paths-front)

pub exact-paths : (most : ℕ) (command : List (List ℕ) → Command) → IsExact (at_most_paths most command)
unfolding form
exact-paths most command = exact-most (λ words. most) command (λ words k within below. below)
    (λ words rest n within below. below)

pub exact-any : (command : List (List ℕ) → Command) → IsExact (any_paths command)
unfolding form
exact-any command =
    exact-most length command (λ words k within below. let size = length-take-le k words within in omega (arith, size))
    (λ words rest n within below. within)
