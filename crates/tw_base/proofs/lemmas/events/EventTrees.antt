-- The equations of the event tree, without the bound on splits, and what its texts hold.
use Rattle.std.proofs.Common.{◌≡◌, ℕ, suc, zero, ◌+◌, ◌-◌, ◌*◌, ◌<◌, ◌≤◌, ◌^◌, List, [], ◌∷◌, ◌++◌, length, take, drop}
use Rattle.std.proofs.Common.{refl, ap, sym, ◌∙◌, subst, arith, lit<, inl, inr, Bool, true, false}
use Rattle.std.specs.Prelude.{nat_lt, if◌then◌else◌}
use Rattle.std.proofs.lemmas.Bool.{cases_lt, lt-ltb, le-ltb}
use Rattle.std.proofs.lemmas.List.{length-take-le, length-drop}
use Rattle.std.proofs.Math.Nat.{le_trans, one-le-pow, pow-le-pow_right, pow-suc}
use Rattle.tw_base.specs.kinds.Clash.{Among, Within}
use Rattle.tw_base.specs.kinds.Texts.{event_leaf_text, event_node_text, no_events_text}
use Rattle.tw_base.specs.events.EventTree.{audit_path, event_leaf_texts, event_node_texts, event_root, event_texts}
use Rattle.tw_base.specs.events.EventTree.{largest_power_below, left_half, node_texts_within, path_within, power_below}
use Rattle.tw_base.specs.events.EventTree.{right_half, tree_hash}
use Rattle.tw_base.proofs.lemmas.kinds.Clashes.{Among-left, Among-right}

le_pow : (n : ℕ) → n ≤ 2 ^ n
le_pow zero = omega arith
le_pow (suc n) = let less = le_pow n in let some : 1 ≤ 2 ^ n = one-le-pow n 2 (lit< tt) in omega (arith, pow-suc 2 n)

-- 2 ^ level is the largest power of two below n
pub record IsBelow (level n : ℕ) : Type 0 where
  pub below : 2 ^ level < n
  pub next : n ≤ 2 * 2 ^ level

power_below-at : (top level n : ℕ) → level ≤ top → IsBelow level n → power_below top n ≡ 2 ^ level
unfolding power_below
power_below-at zero level n few b = ap (λ l. 2 ^ l) (let e : 0 ≡ level = omega arith in e)
power_below-at (suc top) level n few b =
    elim (cases_lt level (suc top)) [
      | inl less ↦ (
          let high : 2 ^ suc level ≤ 2 ^ suc top = pow-le-pow_right (lit< tt) (omega arith) in
          let past : n ≤ 2 ^ suc top = omega (arith, pow-suc 2 level, b.next) in
          ap (λ t. if t then 2 ^ suc top else power_below top n) (le-ltb (2 ^ suc top) n past)
          ∙ power_below-at top level n (omega arith) b)
      | inr same ↦ (
          let e : level ≡ suc top = omega arith in
          ap (λ t. if t then 2 ^ suc top else power_below top n)
          (lt-ltb (2 ^ suc top) n (subst (λ l. 2 ^ l < n) e b.below))
          ∙ ap (λ l. 2 ^ l) (sym e))
    ]

power_below-is : (top n : ℕ) → 1 < n → n ≤ 2 ^ suc top → (level : ℕ) × (level ≤ top) × IsBelow level n
power_below-is zero n more few = (0, omega arith, record { below = more; next = few })
power_below-is (suc top) n more few =
    elim (cases_lt (2 ^ suc top) n) [
      | inl less ↦ (suc top, omega arith, record { below = less; next = omega (arith, pow-suc 2 (suc top), few) })
      | inr past ↦ (let lower = power_below-is top n more past in (lower.0, omega (arith, lower.1), lower.2))
    ]

-- the standard's k, as the standard says it
pub largest_power_below-is : (n : ℕ) → 1 < n → (level : ℕ) × (largest_power_below n ≡ 2 ^ level) × IsBelow level n
unfolding largest_power_below
largest_power_below-is n more =
    let found = power_below-is n n more (le_trans (le_pow n) (pow-le-pow_right (lit< tt) (omega arith))) in
    (found.0, power_below-at n found.0 n found.1 found.2, found.2)

le_power : (level n : ℕ) → 2 ^ level < n → level ≤ n
le_power level n less = omega (arith, le_pow level)

-- it is the only one
pub largest_power_below-at : (level n : ℕ) → 2 ^ level < n → n ≤ 2 * 2 ^ level → largest_power_below n ≡ 2 ^ level
unfolding largest_power_below
largest_power_below-at level n below next = power_below-at n level n (le_power level n below)
    (record { below = below; next = next })

pub largest_power_below-less : (n : ℕ) → 1 < n → largest_power_below n < n
largest_power_below-less n more = let k = largest_power_below-is n more in let e = k.1 in let b = k.2.below in
    omega arith

pub largest_power_below-some : (n : ℕ) → 1 < n → 0 < largest_power_below n
largest_power_below-some n more =
    let k = largest_power_below-is n more in
    let e = k.1 in
    let some : 1 ≤ 2 ^ k.0 = one-le-pow k.0 2 (lit< tt) in
    omega arith

-- a fact of a count from the facts of its halves
pub by_halves : (P : ℕ → Type 0) → ((n : ℕ) → n ≤ 1 → P n) → ((n : ℕ) → 1 < n → P (largest_power_below n)
    → P (n - largest_power_below n) → P n) → (n : ℕ) → P n
by_halves P few more n = below (suc n) n (omega arith)
  where
    below : (m n : ℕ) → n < m → P n
    below zero n less = absurd (omega arith)
    below (suc m) n less =
        elim (cases_lt 1 n) [
          | inr one ↦ few n one
          | inl two ↦ (
              let k_less = largest_power_below-less n two in
              let k_some = largest_power_below-some n two in
              more n two (below m (largest_power_below n) (omega arith))
              (below m (n - largest_power_below n) (omega arith)))
        ]

pub length-left_half : (events : List (List ℕ)) → 1 < length events → length (left_half events) ≡ largest_power_below
    (length events)
length-left_half events more = let k = largest_power_below-less (length events) more in
    length-take-le (largest_power_below (length events)) events (omega arith)

pub length-right_half : (events : List (List ℕ)) → length (right_half events) ≡ length events - largest_power_below
    (length events)
length-right_half events = length-drop (largest_power_below (length events)) events

-- the sizes of the halves of n events
pub halves : (n : ℕ) (events : List (List ℕ)) → 1 < n → length events ≡ n
    → (largest_power_below (length events) ≡ largest_power_below n)
    × (length (left_half events) ≡ largest_power_below n) × (length (right_half events) ≡ n - largest_power_below n)
halves n events more e =
    let same : largest_power_below (length events) ≡ largest_power_below n = ap largest_power_below e in
    let left : length (left_half events) ≡ largest_power_below (length events) =
    length-left_half events (omega arith) in (
      same,
      left ∙ same,
      length-right_half events ∙ ap (λ x. x - largest_power_below (length events)) e
          ∙ ap (λ x. n - x) same,
    )

-- a value of events that is made from those of their halves, where there is more than one of them
module _ {X : Type 0} (f : ℕ → List (List ℕ) → X) (join : List (List ℕ) → X → X → X) (none : (a b : ℕ) → f a [] ≡ f b [])
    (one : (a b : ℕ) (e : List ℕ) → f a (e ∷ []) ≡ f b (e ∷ []))
    (next : (splits : ℕ) (d e : List ℕ) (es : List (List ℕ)) → f (suc splits) (d ∷ e ∷ es) ≡ join (d ∷ e ∷ es)
    (f splits (left_half (d ∷ e ∷ es))) (f splits (right_half (d ∷ e ∷ es)))) where
  few : (a b : ℕ) (events : List (List ℕ)) → length events ≤ 1 → f a events ≡ f b events
  few a b [] h = none a b
  few a b (e ∷ []) h = one a b e
  few a b (d ∷ e ∷ es) h = absurd (omega arith)

  more : (splits : ℕ) (events : List (List ℕ)) → 1 < length events → f (suc splits) events ≡ join events
      (f splits (left_half events)) (f splits (right_half events))
  more splits [] h = absurd (omega arith)
  more splits (e ∷ []) h = absurd (omega arith)
  more splits (d ∷ e ∷ es) h = next splits d e es

  -- splits past the number of events change nothing
  enough : (a b : ℕ) (events : List (List ℕ)) → length events ≤ a → length events ≤ b → f a events ≡ f b events
  enough a b events m n = by_halves P small large (length events) a b events refl m n
    where
      P : ℕ → Type 0
      P n = (a b : ℕ) (events : List (List ℕ)) → length events ≡ n → n ≤ a → n ≤ b → f a events ≡ f b events

      small : (n : ℕ) → n ≤ 1 → P n
      small n one a b events e m k = few a b events (omega arith)

      large : (n : ℕ) → 1 < n → P (largest_power_below n) → P (n - largest_power_below n) → P n
      large n two left right zero b events e m k = absurd (omega arith)
      large n two left right (suc a) zero events e m k = absurd (omega arith)
      large n two left right (suc a) (suc b) events e m k =
          let l = largest_power_below-less n two in
          let s = largest_power_below-some n two in
          let two' : 1 < length events = omega arith in
          let sizes = halves n events two e in
          let first : f a (left_half events) ≡ f b (left_half events) =
          left a b (left_half events) sizes.1 (omega arith) (omega arith) in
          let second : f a (right_half events) ≡ f b (right_half events) =
          right a b (right_half events) sizes.2 (omega arith) (omega arith) in
          more a events two' ∙ ap (λ x. join events x (f a (right_half events))) first
          ∙ ap (λ y. join events (f b (left_half events)) y) second ∙ sym (more b events two')

  -- so a list's halves may be taken with their own number of events
  halved : (events : List (List ℕ)) → 1 < length events
      → f (length events) events ≡ join events (f (length (left_half events)) (left_half events))
      (f (length (right_half events)) (right_half events))
  halved events two =
      let all : ℕ = length (left_half events) + length (right_half events) in
      enough (length events) (suc (length events)) events (omega arith) (omega arith)
      ∙ more (length events) events two
      ∙ ap (λ x. join events x (f (length events) (right_half events)))
      (enough (length events) (length (left_half events)) (left_half events)
      (omega (arith, length-left_half events two, largest_power_below-less (length events) two)) (omega arith))
      ∙ ap (λ y. join events (f (length (left_half events)) (left_half events)) y)
      (enough (length events) (length (right_half events)) (right_half events)
      (omega (arith, length-right_half events)) (omega arith))

module _ (dig : List ℕ → List ℕ) where
  pub event_root-none : event_root dig [] ≡ dig no_events_text
  unfolding event_root tree_hash
  event_root-none = refl

  pub event_root-one : (event : List ℕ) → event_root dig (event ∷ []) ≡ dig (event_leaf_text event)
  unfolding event_root tree_hash
  event_root-one event = refl

  pub event_root-more : (events : List (List ℕ)) → 1 < length events
      → event_root dig events ≡ dig (event_node_text (event_root dig (left_half events))
      (event_root dig (right_half events)))
  unfolding event_root tree_hash
  event_root-more = halved (tree_hash dig) (λ events x y. dig (event_node_text x y)) (λ a b. refl) (λ a b e. refl)
      (λ splits d e es. refl)

  path_join : List (List ℕ) → (ℕ → List (List ℕ)) → (ℕ → List (List ℕ)) → ℕ → List (List ℕ)
  path_join events x y index =
      if nat_lt index (largest_power_below (length events)) then x index ++ event_root dig (right_half events) ∷ []
      else y (index - largest_power_below (length events)) ++ event_root dig (left_half events) ∷ []

  path-halved : (events : List (List ℕ)) (index : ℕ) → 1 < length events
      → audit_path dig events index ≡ path_join events (audit_path dig (left_half events))
      (audit_path dig (right_half events)) index
  unfolding audit_path path_within path_join
  path-halved events index h = ap (λ p. p index) (halved (path_within dig) path_join (λ a b. refl) (λ a b e. refl)
      (λ splits d e es. refl) events h)

  pub audit_path-none : (index : ℕ) → audit_path dig [] index ≡ []
  unfolding audit_path path_within
  audit_path-none index = refl

  pub audit_path-one : (event : List ℕ) (index : ℕ) → audit_path dig (event ∷ []) index ≡ []
  unfolding audit_path path_within
  audit_path-one event index = refl

  path-side : (events : List (List ℕ)) (index : ℕ) (is_left : Bool) → 1 < length events
      → nat_lt index (largest_power_below (length events)) ≡ is_left
      → audit_path dig events index ≡ (if is_left then audit_path dig (left_half events) index ++ event_root dig
      (right_half events) ∷ [] else audit_path dig (right_half events) (index - largest_power_below (length events))
      ++ event_root dig (left_half events) ∷ [])
  unfolding path_join
  path-side events index is_left h is = path-halved events index h
      ∙ ap (λ t. if t then audit_path dig (left_half events) index ++ event_root dig (right_half events) ∷ []
      else audit_path dig (right_half events) (index - largest_power_below (length events)) ++ event_root dig
      (left_half events) ∷ []) is

  pub audit_path-left : (events : List (List ℕ)) (index : ℕ) → 1 < length events → index < largest_power_below
      (length events)
      → audit_path dig events index ≡ audit_path dig (left_half events) index ++ event_root dig (right_half events) ∷ []
  audit_path-left events index h less =
      path-side events index true h (lt-ltb index (largest_power_below (length events)) less)

  pub audit_path-right : (events : List (List ℕ)) (index : ℕ) → 1 < length events → largest_power_below (length events)
      ≤ index
      → audit_path dig events index ≡ audit_path dig (right_half events) (index - largest_power_below (length events))
      ++ event_root dig (left_half events) ∷ []
  audit_path-right events index h past =
      path-side events index false h (le-ltb index (largest_power_below (length events)) past)

  -- the text of the root of more than one event
  abbrev pub top_text : List (List ℕ) → List ℕ
  top_text events = event_node_text (event_root dig (left_half events)) (event_root dig (right_half events))

  pub event_node_texts-few : (events : List (List ℕ)) → length events ≤ 1 → event_node_texts dig events ≡ []
  unfolding event_node_texts node_texts_within
  event_node_texts-few [] h = refl
  event_node_texts-few (e ∷ []) h = refl
  event_node_texts-few (e ∷ f ∷ es) h = absurd (omega arith)

  pub event_node_texts-more : (events : List (List ℕ)) → 1 < length events
      → event_node_texts dig events ≡ event_node_texts dig (left_half events)
      ++ (event_node_texts dig (right_half events) ++ top_text events ∷ [])
  unfolding event_node_texts node_texts_within
  event_node_texts-more = halved (node_texts_within dig) (λ events x y. x ++ (y ++ top_text events ∷ [])) (λ a b. refl)
      (λ a b e. refl) (λ splits d e es. refl)

  -- a root has the size of a digest
  pub length-event_root : (size : (text : List ℕ) → length (dig text) ≡ 32) (events : List (List ℕ))
      → length (event_root dig events) ≡ 32
  length-event_root size events =
      elim (cases_lt 1 (length events)) [
        | inl more ↦ ap length (event_root-more events more) ∙ size _
        | inr few ↦ small events few
      ]
    where
      small : (events : List (List ℕ)) → length events ≤ 1 → length (event_root dig events) ≡ 32
      small [] h = ap length event_root-none ∙ size _
      small (e ∷ []) h = ap length (event_root-one e) ∙ size _
      small (e ∷ f ∷ es) h = absurd (omega arith)

  pub event_texts-some : (events : List (List ℕ)) → 0 < length events → event_texts dig events ≡ event_leaf_texts events
      ++ event_node_texts dig events
  unfolding event_texts
  event_texts-some [] h = absurd (omega arith)
  event_texts-some (e ∷ es) h = refl

leaves-take : (n : ℕ) (events : List (List ℕ)) → Within (event_leaf_texts (take n events)) (event_leaf_texts events)
leaves-take zero events text p = absurd p
leaves-take (suc n) [] text p = p
leaves-take (suc n) (e ∷ es) text (inl h) = inl h
leaves-take (suc n) (e ∷ es) text (inr p) = inr (leaves-take n es text p)

leaves-drop : (n : ℕ) (events : List (List ℕ)) → Within (event_leaf_texts (drop n events)) (event_leaf_texts events)
leaves-drop zero events text p = p
leaves-drop (suc n) [] text p = p
leaves-drop (suc n) (e ∷ es) text p = inr (leaves-drop n es text p)

either : (text : List ℕ) (xs ys : List (List ℕ)) → Among text (xs ++ ys) → (zs : List (List ℕ)) → Within xs zs
    → Within ys zs → Among text zs
either text [] ys a zs p q = q text a
either text (x ∷ xs) ys (inl e) zs p q = p text (inl e)
either text (x ∷ xs) ys (inr a) zs p q = either text xs ys a zs (λ t b. p t (inr b)) q

module _ (dig : List ℕ → List ℕ) where
  leaves-within : (events : List (List ℕ)) → Within (event_leaf_texts events) (event_texts dig events)
  unfolding event_texts
  leaves-within [] text a = absurd a
  leaves-within (e ∷ es) text a = Among-left text (event_leaf_texts (e ∷ es)) _ a

  nodes-within : (events : List (List ℕ)) → 0 < length events → Within (event_node_texts dig events)
      (event_texts dig events)
  nodes-within events h text a = subst (Among text) (sym (event_texts-some dig events h))
      (Among-right text (event_leaf_texts events) _ a)

  -- the texts of each half are among those of the whole, and so is the root's
  pub event_texts-left : (events : List (List ℕ)) → 1 < length events → Within (event_texts dig (left_half events))
      (event_texts dig events)
  event_texts-left events h text a =
      let k = largest_power_below-some (length events) h in
      let n = length-left_half events h in
      either text (event_leaf_texts (left_half events)) (event_node_texts dig (left_half events))
      (subst (Among text) (event_texts-some dig (left_half events) (omega arith)) a) (event_texts dig events)
      (λ t b. leaves-within events t (leaves-take (largest_power_below (length events)) events t b))
      (λ t b. nodes-within events (omega arith) t (subst (Among t) (sym (event_node_texts-more dig events h))
      (Among-left t (event_node_texts dig (left_half events)) _ b)))

  pub event_texts-right : (events : List (List ℕ)) → 1 < length events → Within (event_texts dig (right_half events))
      (event_texts dig events)
  event_texts-right events h text a =
      let k = largest_power_below-less (length events) h in
      let n = length-right_half events in
      either text (event_leaf_texts (right_half events)) (event_node_texts dig (right_half events))
      (subst (Among text) (event_texts-some dig (right_half events) (omega arith)) a) (event_texts dig events)
      (λ t b. leaves-within events t (leaves-drop (largest_power_below (length events)) events t b))
      (λ t b. nodes-within events (omega arith) t (subst (Among t) (sym (event_node_texts-more dig events h))
      (Among-right t (event_node_texts dig (left_half events)) _
      (Among-left t (event_node_texts dig (right_half events)) _ b))))

  pub event_texts-top : (events : List (List ℕ)) → 1 < length events → Among (top_text dig events)
      (event_texts dig events)
  event_texts-top events h =
      nodes-within events (omega arith) _
      (subst (Among (top_text dig events)) (sym (event_node_texts-more dig events h))
      (Among-right _ (event_node_texts dig (left_half events)) _
      (Among-right _ (event_node_texts dig (right_half events)) _ (inl refl))))

  pub event_texts-leaf : (event : List ℕ) → Among (event_leaf_text event) (event_texts dig (event ∷ []))
  event_texts-leaf event = leaves-within (event ∷ []) _ (inl refl)
