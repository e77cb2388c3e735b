-- What a table knows of the texts that it took.
use Rattle.std.proofs.Common.{◌≡◌, ◌≢◌, ℕ, ◌+◌, ◌-◌, List, [], ◌∷◌, ◌++◌, length, take, drop, refl, ap, sym, ◌∙◌, subst}
use Rattle.std.proofs.Common.{arith, false, true, Bool, inl, inr}
use Rattle.std.specs.Prelude.{◌⊎◌, Option, Some, None, IfSome, cond, find, is_some, if◌then◌else◌}
use Rattle.std.specs.BTreeMap.{get}
use Rattle.std.specs.Cmp.Lexicographic.{slice_cmp}
use Rattle.std.specs.Ordering.{nat_cmp}
use Rattle.std.specs.Str.{bytes_eq}
use Rattle.std.proofs.lemmas.Slice.Eq.{bytes_eq-Decides}
use Rattle.std.specs.Option.{option_map}
use Rattle.std.proofs.lemmas.List.{drop-append-le, drop_at, length-append, length-drop, take-append-le, take_all}
use Rattle.tw_base.specs.kinds.Clash.{clash_pair, clashes}
use Rattle.tw_audit.specs.declared.table.Place.{Place}
use Rattle.tw_audit.specs.declared.table.Table.{Table}
use Rattle.tw_audit.specs.declared.table.TextPair.{TextPair}
use Rattle.tw_audit.specs.Tables.{HasTaken, IsInside, kept, other_than, pair_kept, place_in_table, text_at, words_of}
use Rattle.tw_audit.proofs.Knowing.{knows-new, knows-same}
use Rattle.tw_audit.proofs.PairLaws.{pair-none, pair-some}

-- a text is no other than itself; another one is
itself : (s : List ℕ) → other_than s (Some s) ≡ None
itself s = ap (λ b. if b then None else Some s) ((bytes_eq-Decides s s).1 refl)

another : (s first : List ℕ) → first ≢ s → other_than s (Some first) ≡ Some first
another s first differ = by (bytes_eq first s) refl
  where
    by : (b : Bool) → bytes_eq first s ≡ b → (if b then None else Some first) ≡ Some first
    by true same = absurd (differ ((bytes_eq-Decides first s).0 same))
    by false apart = refl

-- ---- the arena

inside-more : (arena more : List ℕ) (p : Place) → IsInside arena p → IsInside (arena ++ more) p
inside-more arena more p is = record { order = is.order; within = omega (arith, is.within, length-append arena more) }

-- more bytes change no text
text-more : (arena more : List ℕ) (p : Place) → IsInside arena p → text_at (arena ++ more) p ≡ text_at arena p
text-more arena more p is =
    let order = is.order in
    let within = is.within in
    ap (take (p.end - p.start)) (drop-append-le p.start arena more (omega arith))
    ∙ take-append-le (p.end - p.start) (drop p.start arena) more (omega (arith, length-drop p.start arena))

-- the text that was put behind the others
text-new : (arena text : List ℕ) (p : Place) → p.start ≡ length arena → p.end ≡ length arena + length text
    → text_at (arena ++ text) p ≡ text
text-new arena text p start end =
    let size : p.end - p.start ≡ length text = omega (arith, start, end) in
    ap (take (p.end - p.start)) (drop_at arena text p.start (sym start)) ∙ take_all (p.end - p.start) text
    (omega (arith, size))

inside-new : (arena text : List ℕ) (p : Place) → p.start ≡ length arena → p.end ≡ length arena + length text
    → IsInside (arena ++ text) p
inside-new arena text p start end =
    record { order = omega (arith, start, end); within = omega (arith, end, length-append arena text) }

texts-more : (arena more : List ℕ) (o : Option Place) → IfSome o (IsInside arena) → option_map (text_at (arena ++ more))
    o ≡ option_map (text_at arena) o
texts-more arena more None inside = refl
texts-more arena more (Some p) inside = ap (λ (t : List ℕ). Some t) (text-more arena more p inside)

insides-more : (arena more : List ℕ) (o : Option Place) → IfSome o (IsInside arena)
    → IfSome o (IsInside (arena ++ more))
insides-more arena more None inside = tt
insides-more arena more (Some p) inside = inside-more arena more p inside

-- the text was put behind the others, at this place
abbrev pub IsAdded : (old new : Table) (text : List ℕ) (p : Place) → Type 0
IsAdded old new text p = (new.arena.items ≡ old.arena.items ++ text) × (p.start ≡ length old.arena.items)
    × (p.end ≡ length old.arena.items + length text)

module _ (dig : List ℕ → List ℕ) (texts : List (List ℕ)) where
  -- a table that has no pair has found none
  no_pair : (t : Table) → HasTaken dig texts t → t.found ≡ None → clash_pair dig texts ≡ None
  no_pair t is none = is.pair ∙ ap (option_map pair_kept) none

  -- ---- a first text of its digest

  module _ (old new : Table) (s : List ℕ) (p : Place) (is : HasTaken dig texts old) (none : old.found ≡ None)
      (absent : kept old (dig s) ≡ None)
      (arena : new.arena.items ≡ old.arena.items ++ s) (start : p.start ≡ length old.arena.items)
      (end : p.end ≡ length old.arena.items + length s)
      (same : new.found ≡ old.found) (here : place_in_table new (words_of (dig s)) ≡ Some p)
      (others : (t : List ℕ) → dig t ≢ dig s → place_in_table new (words_of (dig t)) ≡ place_in_table old
      (words_of (dig t)))
      (places : (words : List ℕ) → (place_in_table new words ≡ place_in_table old words)
      ⊎ (place_in_table new words ≡ Some p)) where
    kept_here : kept new (dig s) ≡ Some s
    kept_here =
        ap (option_map (text_at new.arena.items)) here
        ∙ ap (λ a. Some (text_at a p)) arena ∙ ap (λ (t : List ℕ). Some t) (text-new old.arena.items s p start end)

    kept_others : (t : List ℕ) → dig t ≢ dig s → kept new (dig t) ≡ kept old (dig t)
    kept_others t differ =
        ap (option_map (text_at new.arena.items)) (others t differ)
        ∙ ap (λ a. option_map (text_at a) (place_in_table old (words_of (dig t)))) arena
        ∙ texts-more old.arena.items s (place_in_table old (words_of (dig t))) (is.places (words_of (dig t)))

    no_clash : find (clashes dig s) texts ≡ None
    no_clash = is.knows none s ∙ ap (other_than s) absent

    inside : (words : List ℕ) → IfSome (place_in_table new words) (IsInside new.arena.items)
    inside words = subst (λ a. IfSome (place_in_table new words) (IsInside a)) (sym arena) (by (places words))
      where
        by : (place_in_table new words ≡ place_in_table old words) ⊎ (place_in_table new words ≡ Some p)
            → IfSome (place_in_table new words) (IsInside (old.arena.items ++ s))
        by (inl e) = subst (λ o. IfSome o (IsInside (old.arena.items ++ s))) (sym e)
            (insides-more old.arena.items s (place_in_table old words) (is.places words))
        by (inr e) = subst (λ o. IfSome o (IsInside (old.arena.items ++ s))) (sym e)
            (inside-new old.arena.items s p start end)

    pub taken-new : HasTaken dig (texts ++ s ∷ []) new
    taken-new = record {
      pair = pair-none dig texts s (no_pair old is none) ∙ ap (option_map (λ one. record { one = one; other = s }))
          no_clash
          ∙ sym (ap (option_map pair_kept) (same ∙ none));
      knows = λ unfound. knows-new dig texts s (kept old) (kept new) (is.knows none) absent kept_here kept_others;
      places = inside;
    }

  -- ---- the text that is kept, once more

  pub taken-same : (t : Table) (s : List ℕ) → HasTaken dig texts t → t.found ≡ None → kept t (dig s) ≡ Some s
      → HasTaken dig (texts ++ s ∷ []) t
  taken-same t s is none here = record {
    pair = pair-none dig texts s (no_pair t is none)
        ∙ ap (option_map (λ one. record { one = one; other = s })) (is.knows none s ∙ ap (other_than s) here ∙ itself s)
        ∙ sym (ap (option_map pair_kept) none);
    knows = λ unfound. knows-same dig texts s (kept t) (is.knows none) here;
    places = is.places;
  }

  -- ---- a text that clashes with the one that is kept

  pub taken-pair : (old new : Table) (s first : List ℕ) (pair : TextPair) → HasTaken dig texts old → old.found ≡ None
      → kept old (dig s) ≡ Some first → first ≢ s → pair.one ≡ first → pair.other ≡ s
      → new.arena.items ≡ old.arena.items → new.places ≡ old.places → new.found ≡ Some pair
      → HasTaken dig (texts ++ s ∷ []) new
  taken-pair old new s first pair is none here differ one other arena places found = record {
    pair = pair-none dig texts s (no_pair old is none)
        ∙ ap (option_map (λ one. record { one = one; other = s })) (is.knows none s ∙ ap (other_than s) here ∙ another s
        first differ)
        ∙ sym (ap (option_map pair_kept) found ∙ (λ k. Some (record { one = one k; other = other k })));
    knows = λ unfound. (let no : Some pair ≡ None = sym found ∙ unfound in cc);
    places = λ words. subst (λ a. IfSome (place_in_table new words) (IsInside a)) (sym arena)
        (subst (λ m. IfSome (get (slice_cmp nat_cmp) m words) (IsInside old.arena.items)) (sym places)
        (is.places words));
  }

  -- ---- with a pair nothing more counts

  pub taken-past : (t : Table) (s : List ℕ) (p : TextPair) → HasTaken dig texts t → t.found ≡ Some p
      → HasTaken dig (texts ++ s ∷ []) t
  taken-past t s p is found = record {
    pair = pair-some dig texts s (pair_kept p) (is.pair ∙ ap (option_map pair_kept) found)
        ∙ sym (ap (option_map pair_kept) found);
    knows = λ unfound. (let no : Some p ≡ None = sym found ∙ unfound in cc);
    places = is.places;
  }

  pub taken-found : (t : Table) (s : List ℕ) → HasTaken dig texts t → is_some t.found ≡ true
      → HasTaken dig (texts ++ s ∷ []) t
  taken-found t s is some = by t.found refl some
    where
      by : (o : Option TextPair) → t.found ≡ o → is_some o ≡ true → HasTaken dig (texts ++ s ∷ []) t
      by None found some = cc
      by (Some p) found some = taken-past t s p is found

-- what an insert leaves at each key
pub either_place : {X : Type 0} (b : Bool) (new old old' : Option X) (p : X) → new ≡ cond b (Some p) old → old ≡ old'
    → (new ≡ old') ⊎ (new ≡ Some p)
either_place true new old old' p is same = inr is
either_place false new old old' p is same = inl (is ∙ same)
