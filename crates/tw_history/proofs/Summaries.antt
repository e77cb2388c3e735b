-- What a summary tells of a tree.
use Rattle.std.proofs.Common.{◌≡◌, ◌≢◌, ◌↔◌, ◌⊎◌, ℕ, suc, zero, ◌+◌, ◌-◌, ◌<◌, ◌^◌, List, [], ◌∷◌, ◌++◌, length, refl}
use Rattle.std.proofs.Common.{ap, sym, ◌∙◌, arith, inl, inr, Some, Bool, false, IsTrue}
use Rattle.std.specs.Prelude.{min}
use Rattle.std.proofs.lemmas.List.{length-append}
use Rattle.tw_base.specs.declared.history.thread.Entry.{Entry}
use Rattle.tw_base.specs.kinds.Lists.{Each}
use Rattle.tw_base.specs.history.Entries.{KeyBelow, key_of}
use Rattle.tw_base.specs.history.History.{History, entry_at}
use Rattle.tw_base.specs.history.Tree.{Tree, IsRising, entries}
use Rattle.tw_base.specs.history.Tree.Tree.{Branch}
use Rattle.tw_base.proofs.lemmas.kinds.ListLemmas.{Each-append, Each-map, Each-parts}
use Rattle.tw_base.proofs.lemmas.history.Keys.{KeyBelow-trans}
use Rattle.tw_history.specs.declared.soundness.summary.Summary.{Summary}
use Rattle.tw_history.specs.JudgingSteps.{AreReceived, first_archived, last_archived, last_or, summary_of}

-- a test that failed doesn't hold
pub is_false : (b : Bool) → b ≡ false → IsTrue b → ⊥
is_false b e holds = cc

-- two lists that rise, with an entry between them
pub IsRising-between : (es fs : List Entry) (e : Entry) → IsRising es → IsRising fs
    → Each (λ f. KeyBelow (key_of f) (key_of e)) es → Each (λ f. KeyBelow (key_of e) (key_of f)) fs
    → IsRising (es ++ e ∷ fs)
IsRising-between [] fs e one other below above = (above, other)
IsRising-between (x ∷ es) fs e one other below above = (
  Each-append (λ f. KeyBelow (key_of x) (key_of f)) es (e ∷ fs) one.0
      (below.0, Each-map _ _ fs (λ f up. KeyBelow-trans (key_of x) (key_of e) (key_of f) below.0 up) above),
  IsRising-between es fs e one.1 other below.1 above,
)

pub IsRising-below : (es fs : List Entry) (e : Entry) → IsRising (es ++ e ∷ fs)
    → Each (λ f. KeyBelow (key_of f) (key_of e)) es
IsRising-below [] fs e rising = tt
IsRising-below (x ∷ es) fs e rising =
    ((Each-parts (λ f. KeyBelow (key_of x) (key_of f)) es (e ∷ fs) rising.0).1.0, IsRising-below es fs e rising.1)

pub IsRising-above : (es fs : List Entry) (e : Entry) → IsRising (es ++ e ∷ fs)
    → Each (λ f. KeyBelow (key_of e) (key_of f)) fs
IsRising-above [] fs e rising = rising.0
IsRising-above (x ∷ es) fs e rising = IsRising-above es fs e rising.1

-- the last of the entries that begin with this one
abbrev pub last_of : Entry → List Entry → Entry
last_of x [] = x
last_of x (y ∷ ys) = last_of y ys

last_or-last_of : (x : Entry) (xs : List Entry) → last_or x.archived xs ≡ (last_of x xs).archived
last_or-last_of x [] = refl
last_or-last_of x (y ∷ ys) = last_or-last_of y ys

Each-last_of : (P : Entry → Type 0) (x : Entry) (xs : List Entry) → Each P (x ∷ xs) → P (last_of x xs)
Each-last_of P x [] all = all.0
Each-last_of P x (y ∷ ys) all = Each-last_of P y ys all.1

all_below : (e x : Entry) (xs : List Entry) → IsRising (x ∷ xs) → KeyBelow (key_of (last_of x xs)) (key_of e)
    → Each (λ f. KeyBelow (key_of f) (key_of e)) (x ∷ xs)
all_below e x [] rising p = (p, tt)
all_below e x (y ∷ ys) rising p =
    let rest = all_below e y ys rising.1 p in (KeyBelow-trans (key_of x) (key_of y) (key_of e) rising.0.0 rest.0, rest)

all_above : (e x : Entry) (xs : List Entry) → IsRising (x ∷ xs) → KeyBelow (key_of e) (key_of x)
    → Each (λ f. KeyBelow (key_of e) (key_of f)) (x ∷ xs)
all_above e x xs rising p = (p, Each-map _ _ xs (λ f up. KeyBelow-trans (key_of e) (key_of x) (key_of f) p up) rising.0)

-- where the thread of the step of the last entry is below an entry exactly where a test is true, so are they all
pub below_by_last : (h : History) (es : List Entry) (e : Entry) (step : ℕ) (below : Bool) → AreReceived h es
    → IsRising es → 0 < length es
    → entry_at h step ≡ Some e
    → ((x y : Entry) → entry_at h (last_archived es) ≡ Some x → entry_at h step ≡ Some y → IsTrue below ↔ KeyBelow
    (key_of x) (key_of y))
    → IsTrue below ↔ Each (λ f. KeyBelow (key_of f) (key_of e)) es
below_by_last h [] e step below got rising some at test = absurd (omega (arith, some))
below_by_last h (x ∷ xs) e step below got rising some at test =
    let there : entry_at h (last_archived (x ∷ xs)) ≡ Some (last_of x xs) =
    ap (entry_at h) (last_or-last_of x xs) ∙ Each-last_of (λ f. entry_at h f.archived ≡ Some f) x xs got in
    let exactly = test (last_of x xs) e there at in (
      (λ yes. all_below e x xs rising (exactly.0 yes)),
      (λ all. exactly.1 (Each-last_of (λ f. KeyBelow (key_of f) (key_of e)) x xs all)),
    )

-- the same of the first entry
pub above_by_first : (h : History) (es : List Entry) (e : Entry) (step : ℕ) (above : Bool) → AreReceived h es
    → IsRising es → 0 < length es
    → entry_at h step ≡ Some e
    → ((x y : Entry) → entry_at h step ≡ Some x → entry_at h (first_archived es) ≡ Some y → IsTrue above ↔ KeyBelow
    (key_of x) (key_of y))
    → IsTrue above ↔ Each (λ f. KeyBelow (key_of e) (key_of f)) es
above_by_first h [] e step above got rising some at test = absurd (omega (arith, some))
above_by_first h (x ∷ xs) e step above got rising some at test =
    let exactly = test e x at got.0 in ((λ yes. all_above e x xs rising (exactly.0 yes)), (λ all. exactly.1 all.0))

Each-none : (P : Entry → Type 0) (es : List Entry) → length es ≡ 0 → Each P es
Each-none P [] none = tt
Each-none P (x ∷ xs) none = absurd (omega (arith, none))

cases_zero : (n : ℕ) → (n ≡ 0) ⊎ (n ≢ 0)
cases_zero zero = inl refl
cases_zero (suc n) = inr (λ e. omega (arith, e))

-- what a summary tells
pub count-summary : (s : Summary) (t : Tree) → s ≡ summary_of t → s.count ≡ min (length (entries t)) (2 ^ 64 - 1)
unfolding summary_of
count-summary s t is = ap (λ (x : Summary). x.count) is

pub first-summary : (s : Summary) (t : Tree) → s ≡ summary_of t → s.first ≡ first_archived (entries t)
unfolding summary_of
first-summary s t is = ap (λ (x : Summary). x.first) is

pub last-summary : (s : Summary) (t : Tree) → s ≡ summary_of t → s.last ≡ last_archived (entries t)
unfolding summary_of
last-summary s t is = ap (λ (x : Summary). x.last) is

-- whatever each entry has to be, those of a tree without one are
pub each_of_none : (P : Entry → Type 0) (s : Summary) (t : Tree) → s ≡ summary_of t → s.count ≡ 0 → Each P (entries t)
each_of_none P s t is none = Each-none P (entries t) (let count = count-summary s t is in omega arith)

pub some_counted : (s : Summary) (t : Tree) → s ≡ summary_of t → s.count ≢ 0 → 0 < length (entries t)
some_counted s t is some = let count = count-summary s t is in omega arith

first-between : (es fs : List Entry) (e : Entry) → 0 < length es → first_archived (es ++ e ∷ fs) ≡ first_archived es
first-between [] fs e some = absurd (omega (arith, some))
first-between (x ∷ es) fs e some = refl

first-none : (es fs : List Entry) (e : Entry) → length es ≡ 0 → first_archived (es ++ e ∷ fs) ≡ e.archived
first-none [] fs e none = refl
first-none (x ∷ es) fs e none = absurd (omega (arith, none))

last-between : (step : ℕ) (es fs : List Entry) (e : Entry) → last_or step (es ++ e ∷ fs) ≡ last_or e.archived fs
last-between step [] fs e = refl
last-between step (x ∷ es) fs e = last-between x.archived es fs e

last-some : (fs : List Entry) (one other : ℕ) → 0 < length fs → last_or one fs ≡ last_or other fs
last-some [] one other some = absurd (omega (arith, some))
last-some (x ∷ fs) one other some = refl

last-none : (fs : List Entry) (one : ℕ) → length fs ≡ 0 → last_or one fs ≡ one
last-none [] one none = refl
last-none (x ∷ fs) one none = absurd (omega (arith, none))

same-summary : (s t : Summary) → s.count ≡ t.count → s.first ≡ t.first → s.last ≡ t.last → s ≡ t
same-summary s t one two three =
    ap (λ n. record { count = n; first = s.first; last = s.last }) one
    ∙ ap (λ n. record { count = t.count; first = n; last = s.last }) two
    ∙ ap (λ n. record { count = t.count; first = t.first; last = n }) three

-- the summary of a tree of its sides' summaries
pub summary-branch : (left right : Summary) (l r : Tree) (e : Entry) (s : Summary) → left ≡ summary_of l
    → right ≡ summary_of r
    → s.count ≡ min (min (left.count + right.count) (2 ^ 64 - 1) + 1) (2 ^ 64 - 1)
    → (left.count ≡ 0 → s.first ≡ e.archived) → (left.count ≢ 0 → s.first ≡ left.first)
    → (right.count ≡ 0 → s.last ≡ e.archived) → (right.count ≢ 0 → s.last ≡ right.last)
    → s ≡ summary_of (Branch l e r)
unfolding summary_of
summary-branch left right l r e s left-is right-is counted first_none first_some last_none last_some =
    let left_count = count-summary left l left-is in
    let right_count = count-summary right r right-is in
    let whole = length-append (entries l) (e ∷ entries r) in
    same-summary s _
    (omega (arith, whole))
    (elim (cases_zero left.count) [
      | inl none ↦ first_none none ∙ sym (first-none (entries l) (entries r) e (omega (arith, left_count)))
      | inr some ↦ first_some some ∙ first-summary left l left-is
          ∙ sym (first-between (entries l) (entries r) e (omega (arith, left_count, some)))
    ])
    (elim (cases_zero right.count) [
      | inl none ↦ last_none none ∙ sym (last-between 0 (entries l) (entries r) e ∙ last-none (entries r) e.archived
          (omega (arith, right_count)))
      | inr some ↦ last_some some ∙ last-summary right r right-is ∙ sym (last-between 0 (entries l) (entries r) e
          ∙ last-some (entries r) e.archived 0 (omega (arith, right_count, some)))
    ])
