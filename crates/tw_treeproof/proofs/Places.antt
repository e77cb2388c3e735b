-- The place to which a question leads in a tree whose keys rise, and what the list of its entries answers.
use Rattle.std.proofs.Common.{◌≡◌, ◌∷◌, ◌++◌, Bool, true, false, refl, ap, sym, ◌∙◌, subst}
use Rattle.std.specs.Prelude.{Option, Some, None}
use Rattle.std.specs.declared.cmp.Ordering.{Ordering}
use Rattle.std.specs.declared.cmp.Ordering.TheVariants.{Less, Equal, Greater}
use Rattle.std.specs.Ordering.{is_eq, is_lt}
use Rattle.tw_base.specs.declared.history.thread.Entry.{Entry}
use Rattle.tw_base.specs.declared.history.thread.Key.{Key}
use Rattle.tw_base.specs.declared.history.tree_proof.Ask.{Ask}
use Rattle.tw_base.specs.declared.history.tree_proof.Ask.TheVariants.{Present, Absent, Below, Above}
use Rattle.tw_base.specs.history.Asking.{entry_with}
use Rattle.tw_base.specs.history.Entries.{key_cmp, key_of}
use Rattle.tw_base.specs.history.Tree.{Tree, IsRising, entries}
use Rattle.tw_base.specs.history.Tree.Tree.{Empty, Branch}
use Rattle.tw_base.proofs.lemmas.history.Asked.{cut, with-equal, with-less, with-more}
use Rattle.tw_base.proofs.lemmas.history.Ways.{down-here, down-left, down-right, step_down}
use Rattle.tw_base.specs.history.TreeProofs.{IsSo, place_of_ask}
use Rattle.tw_base.specs.history.Ways.{has_asked_key, is_left}

-- the entry at a place
abbrev pub found : Tree → Option Entry
found Empty = None
found (Branch l e r) = Some e

-- a question for one key leads to the key's entry, or to an empty place where there is none
module _ (ask : Ask) (key : Key) (meets : (e : Entry) → has_asked_key ask e ≡ is_eq (key_cmp key (key_of e)))
    (lefts : (e : Entry) → is_left ask e ≡ is_lt (key_cmp key (key_of e))) where
  pub with-found : (t : Tree) → IsRising (entries t) → entry_with (entries t) key ≡ found (place_of_ask ask t)
  unfolding place_of_ask
  with-found Empty rising = refl
  with-found (Branch l e r) rising =
      let parts = cut (entries l) e (entries r) rising in
      by (key_cmp key (key_of e)) refl (with-found l parts.front_rises) (with-found r parts.back_rises)
    where
      by : (o : Ordering) → key_cmp key (key_of e) ≡ o → entry_with (entries l) key ≡ found (place_of_ask ask l)
          → entry_with (entries r) key ≡ found (place_of_ask ask r)
          → entry_with (entries l ++ e ∷ entries r) key ≡ found (step_down (has_asked_key ask e) (is_left ask e)
          (Branch l e r) (place_of_ask ask l) (place_of_ask ask r))
      by Less is left right =
          with-less key (entries l) e (entries r) rising is ∙ left
          ∙ ap found (sym (down-left _ _ (Branch l e r) (place_of_ask ask l) (place_of_ask ask r)
          (meets e ∙ ap is_eq is) (lefts e ∙ ap is_lt is)))
      by Equal is left right =
          with-equal key (entries l) e (entries r) rising is
          ∙ ap found (sym (down-here _ (is_left ask e) (Branch l e r) (place_of_ask ask l) (place_of_ask ask r)
          (meets e ∙ ap is_eq is)))
      by Greater is left right =
          with-more key (entries l) e (entries r) rising is ∙ right
          ∙ ap found (sym (down-right _ _ (Branch l e r) (place_of_ask ask l) (place_of_ask ask r)
          (meets e ∙ ap is_eq is) (lefts e ∙ ap is_lt is)))

-- a question for what is next to a key leads to an empty place
pub next-place : (ask : Ask) → ((e : Entry) → has_asked_key ask e ≡ false) → (t : Tree) → place_of_ask ask t ≡ Empty
unfolding place_of_ask
next-place ask never Empty = refl
next-place ask never (Branch l e r) = by (is_left ask e) refl (next-place ask never l) (next-place ask never r)
  where
    by : (b : Bool) → is_left ask e ≡ b → place_of_ask ask l ≡ Empty → place_of_ask ask r ≡ Empty
        → step_down (has_asked_key ask e) (is_left ask e) (Branch l e r) (place_of_ask ask l) (place_of_ask ask r)
        ≡ Empty
    by true way left right = down-left _ _ (Branch l e r) (place_of_ask ask l) (place_of_ask ask r) (never e) way ∙ left
    by false way left right = down-right _ _ (Branch l e r) (place_of_ask ask l) (place_of_ask ask r) (never e) way
        ∙ right

-- the place is one that a proof of what is asked is of: the asked entry's node, or an empty place
abbrev pub IsAt : Ask → Tree → Type 0
IsAt (Present e) Empty = ⊥
IsAt (Present e) (Branch l f r) = f ≡ e
IsAt (Absent key) Empty = Unit {0}
IsAt (Absent key) (Branch l f r) = ⊥
IsAt (Below key) Empty = Unit {0}
IsAt (Below key) (Branch l f r) = ⊥
IsAt (Above key) Empty = Unit {0}
IsAt (Above key) (Branch l f r) = ⊥

at-found : (e : Entry) (place : Tree) → found place ≡ Some e → IsAt (Present e) place
at-found e Empty is = cc
at-found e (Branch l f r) is = let same : f ≡ e = cc in same

found-at : (e : Entry) (place : Tree) → IsAt (Present e) place → found place ≡ Some e
found-at e Empty at = absurd at
found-at e (Branch l f r) at = ap (λ x. Some x) at

at-none : (key : Key) (place : Tree) → found place ≡ None → IsAt (Absent key) place
at-none key Empty is = tt
at-none key (Branch l f r) is = cc

none-at : (key : Key) (place : Tree) → IsAt (Absent key) place → found place ≡ None
none-at key Empty at = refl
none-at key (Branch l f r) at = absurd at

-- what is asked is so exactly where the question leads to such a place
pub at-place : (t : Tree) (ask : Ask) → IsRising (entries t) → IsSo (entries t) ask → IsAt ask (place_of_ask ask t)
at-place t (Present e) rising so = at-found e (place_of_ask (Present e) t)
    (sym (with-found (Present e) (key_of e) (λ _. refl) (λ _. refl) t rising) ∙ so)
at-place t (Absent key) rising so = at-none key (place_of_ask (Absent key) t)
    (sym (with-found (Absent key) key (λ _. refl) (λ _. refl) t rising) ∙ so)
at-place t (Below key) rising so = subst (IsAt (Below key)) (sym (next-place (Below key) (λ _. refl) t)) tt
at-place t (Above key) rising so = subst (IsAt (Above key)) (sym (next-place (Above key) (λ _. refl) t)) tt

pub so-at : (t : Tree) (ask : Ask) → IsRising (entries t) → IsAt ask (place_of_ask ask t) → IsSo (entries t) ask
so-at t (Present e) rising at = with-found (Present e) (key_of e) (λ _. refl) (λ _. refl) t rising ∙ found-at e
    (place_of_ask (Present e) t) at
so-at t (Absent key) rising at = with-found (Absent key) key (λ _. refl) (λ _. refl) t rising ∙ none-at key
    (place_of_ask (Absent key) t) at
so-at t (Below key) rising at = tt
so-at t (Above key) rising at = tt
