-- An anchors file is read line by line.
use Rattle.std.proofs.Common.{◌≡◌, ◌≢◌, ℕ, suc, ◌+◌, ◌<◌, ◌≤◌, List, [], ◌∷◌, ◌++◌, length, take, drop, map, get_or}
use Rattle.std.proofs.Common.{refl, ap, ◌∙◌, sym, subst, arith, Bool, true, false, not, ◌&&◌, leb, leb-true}
use Rattle.std.proofs.Common.{below_more, length-append}
use Rattle.std.specs.List.{list_any, AllPairs}
use Rattle.std.proofs.Math.Seq.{drop-cons, take-suc, take-length}
use Rattle.std.proofs.lemmas.List.{length-drop, length-map, length-take, length-take-le, map-append, get_or-map}
use Rattle.std.proofs.lemmas.List.{get_or-take}
use Rattle.std.proofs.lemmas.Slice.Eq.{bytes_eq-Decides}
use Rattle.std.proofs.lemmas.List.Folds.{list_any_at}
use Rattle.tw_base.specs.declared.kinds.limits.TheConstants.{LAST_STEP, MOST_ANCHORS}
use Rattle.tw_base.specs.declared.history.thread.Thread.{Thread}
use Rattle.tw_text.specs.Words.{is_number, word_number, is_number_within, is_digest}
use Rattle.tw_msg.specs.AnchorsFile.{anchor_on, line_may_follow, is_good, line_at, AllGood, IsFirstBadLine, is_anchor}
use Rattle.tw_msg.specs.AnchorsFile.{is_of, name_word, step_word, digest_word}
use Rattle.tw_base.specs.kinds.Names.{is_name_text}

-- ---- tests

pub both : (a b : Bool) → (a && b) ≡ true → (a ≡ true) × (b ≡ true)
both true b holds = (refl, holds)
both false b holds = absurd (cc)

pub join : (a b : Bool) → a ≡ true → b ≡ true → (a && b) ≡ true
join true b a-holds b-holds = b-holds
join false b a-holds b-holds = absurd (cc)

pub not_true : (b : Bool) → (b ≡ true → ⊥) → b ≡ false
not_true false _ = refl
not_true true never = absurd (never refl)

-- ---- lines that are read

-- so many lines are read, each of them good, and these remain
pub record IsRead (all remaining : List (List ℕ)) (anchors : List Thread) : Type 0 where
  pub so_far : anchors ≡ map anchor_on (take (length anchors) all)
  pub rest : remaining ≡ drop (length anchors) all
  pub good : (i : ℕ) → i < length anchors → is_good all i ≡ true
  pub few : length anchors ≤ MOST_ANCHORS

-- the next line
record IsNext (all : List (List ℕ)) (n : ℕ) (line : List ℕ) (remaining : List (List ℕ)) : Type 0 where
  within : n < length all
  here : line_at all n ≡ line
  rest : remaining ≡ drop (suc n) all

next : (all remaining : List (List ℕ)) (line : List ℕ) (n : ℕ) → line ∷ remaining ≡ drop n all
    → IsNext all n line remaining
next all remaining line n e =
    let within : n < length all = omega (arith, ap length e, length-drop n all) in
    let both = e ∙ drop-cons all n [] within in
    record { within = within; here = cc; rest = cc }

good-next : (all remaining : List (List ℕ)) (line : List ℕ) (anchors : List Thread) (answer : Bool)
    → IsRead all (line ∷ remaining) anchors →
    line_may_follow anchors line ≡ answer → is_good all (length anchors) ≡ answer
good-next all remaining line anchors answer before follows =
    let here = next all remaining line (length anchors) before.rest in
    subst (λ found. line_may_follow found (line_at all (length anchors)) ≡ answer) before.so_far
    (subst (λ l. line_may_follow anchors l ≡ answer) (sym here.here) follows)

few-may_follow : (anchors : List Thread) (line : List ℕ) → line_may_follow anchors line ≡ true
    → length anchors < MOST_ANCHORS
few-may_follow anchors line follows =
    let anchor_too = both (leb (suc (length anchors)) MOST_ANCHORS && is_anchor line)
    (not (list_any (is_of (anchor_on line).from) anchors)) follows in
    leb-true (suc (length anchors)) MOST_ANCHORS (both (leb (suc (length anchors)) MOST_ANCHORS) (is_anchor line)
    anchor_too.0).0

pub read_on : (all remaining : List (List ℕ)) (line : List ℕ) (anchors : List Thread) → IsRead all (line ∷ remaining)
    anchors →
    line_may_follow anchors line ≡ true → IsRead all remaining (anchors ++ anchor_on line ∷ [])
read_on all remaining line anchors before follows =
    let here = next all remaining line (length anchors) before.rest in
    let n = length anchors in
    let count : length (anchors ++ anchor_on line ∷ []) ≡ suc n =
    omega (arith, length-append anchors (anchor_on line ∷ [])) in
    let taken : take (suc n) all ≡ take n all ++ line ∷ [] = take-suc all n [] here.within
    ∙ ap (λ l. take n all ++ l ∷ []) here.here in
    let mapped : map anchor_on (take (suc n) all) ≡ map anchor_on (take n all) ++ anchor_on line ∷ [] =
    ap (map anchor_on) taken ∙ map-append anchor_on (take n all) (line ∷ []) in
    record {
      so_far = ap (λ found. found ++ anchor_on line ∷ []) before.so_far ∙ sym mapped
          ∙ ap (λ k. map anchor_on (take k all)) (sym count);
      rest = here.rest ∙ ap (λ k. drop k all) (sym count);
      good = λ i within. below_more (λ k. is_good all k ≡ true) n before.good (good-next all remaining line anchors true
          before follows) i
          (omega (arith, within, count));
      few = omega (arith, count, few-may_follow anchors line follows);
    }

-- what is known once all lines are read
pub record IsRead_through (all : List (List ℕ)) (anchors : List Thread) : Type 0 where
  pub anchors_are : anchors ≡ map anchor_on all
  pub good : AllGood all
  pub few : length anchors ≤ MOST_ANCHORS

pub all_read : (all : List (List ℕ)) (anchors : List Thread) → IsRead all [] anchors → IsRead_through all anchors
all_read all anchors before =
    let n = length anchors in
    let sized : n ≡ length (take n all) = ap length before.so_far ∙ simp length-map in
    let whole : n ≡ length all = omega (arith, sized, length-take n all, ap length before.rest, length-drop n all) in
    record {
      anchors_are = before.so_far ∙ ap (λ k. map anchor_on (take k all)) whole ∙ ap (map anchor_on) (take-length all);
      good = λ i within. before.good i (omega (arith, whole, within));
      few = before.few;
    }

-- a line that may follow has the service of none of the anchors
other-may_follow : (anchors : List Thread) (line : List ℕ) (i : ℕ) (d : Thread) → line_may_follow anchors line ≡ true
    → i < length anchors →
    (get_or anchors i d).from ≢ (anchor_on line).from
other-may_follow anchors line i d follows within same =
    let of = is_of (anchor_on line).from in
    let none = (both (leb (suc (length anchors)) MOST_ANCHORS && is_anchor line) (not (list_any of anchors)) follows).1
    in
    let equal : of (get_or anchors i d) ≡ true = (bytes_eq-Decides (get_or anchors i d).from (anchor_on line).from).1
    same in
    let any : list_any of anchors ≡ true = list_any_at of anchors i d within equal in
    let wrong : false ≡ true = sym (ap not any) ∙ none in
    absurd (cc)

-- good lines are of different services
pub different-good : (all : List (List ℕ)) → AllGood all → AllPairs (λ a b. a.from ≢ b.from) (map anchor_on all)
different-good all good i j d below within same =
    let last : j < length all = omega (arith, within, length-map all anchor_on) in
    let first : i < length all = omega (arith, last, below) in
    let sized : length (map anchor_on (take j all)) ≡ j = length-map (take j all) anchor_on ∙ length-take-le j all
    (omega (arith, last)) in
    let inside : i < length (map anchor_on (take j all)) = omega (arith, sized, below) in
    let earlier : get_or (map anchor_on (take j all)) i d ≡ get_or (map anchor_on all) i d =
    get_or-map anchor_on (take j all) i [] d (omega (arith, below, length-take-le j all (omega (arith, last))))
    ∙ ap anchor_on (get_or-take j all i [] below)
    ∙ sym (get_or-map anchor_on all i [] d first) in
    let later : get_or (map anchor_on all) j d ≡ anchor_on (line_at all j) = get_or-map anchor_on all j [] d last in
    other-may_follow (map anchor_on (take j all)) (line_at all j) i d (good j last) inside
    (ap (λ t. t.from) earlier ∙ same ∙ ap (λ t. t.from) later)

pub first_bad_line : (all remaining : List (List ℕ)) (line : List ℕ) (anchors : List Thread)
    → IsRead all (line ∷ remaining) anchors →
    line_may_follow anchors line ≡ false → IsFirstBadLine all (length anchors + 1)
first_bad_line all remaining line anchors before bad =
    record {
      index = length anchors;
      counted = refl;
      within = (next all remaining line (length anchors) before.rest).within;
      bad = good-next all remaining line anchors false before bad;
      before = before.good;
    }

-- ---- the number of a step

pub number-pos : (word : List ℕ) → is_number_within 1 LAST_STEP word ≡ true →
    (is_number word ≡ true) × (1 ≤ word_number word) × (word_number word ≤ LAST_STEP)
number-pos word within =
    let outer = both (is_number word && leb 1 (word_number word)) (leb (word_number word) LAST_STEP) within in
    let inner = both (is_number word) (leb 1 (word_number word)) outer.0 in
    (inner.0, leb-true 1 (word_number word) inner.1, leb-true (word_number word) LAST_STEP outer.1)

-- ---- the words of a line

pub anchor-words : (line : List ℕ) → is_anchor line ≡ true →
    (is_name_text (name_word line) ≡ true) × (is_number_within 1 LAST_STEP (step_word line) ≡ true)
    × (is_digest (digest_word line) ≡ true)
anchor-words line holds =
    let outer = both (is_name_text (name_word line) && is_number_within 1 LAST_STEP (step_word line))
    (is_digest (digest_word line)) holds in
    let inner = both (is_name_text (name_word line)) (is_number_within 1 LAST_STEP (step_word line)) outer.0 in
    (inner.0, inner.1, outer.1)

pub words-anchor : (line : List ℕ) → is_name_text (name_word line) ≡ true → is_number_within 1 LAST_STEP
    (step_word line) ≡ true →
    is_digest (digest_word line) ≡ true → is_anchor line ≡ true
words-anchor line name step digest =
    join (is_name_text (name_word line) && is_number_within 1 LAST_STEP (step_word line)) (is_digest (digest_word line))
    (join (is_name_text (name_word line)) (is_number_within 1 LAST_STEP (step_word line)) name step) digest
