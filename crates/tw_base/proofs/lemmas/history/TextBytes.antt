-- The hashed texts are bytes: each kind of text, and all texts of a sound history.
use Rattle.std.proofs.Common.{◌≡◌, ℕ, suc, zero, ◌-◌, ◌<◌, ◌≤◌, ◌^◌, ◌/◌, List, [], ◌∷◌, ◌++◌, length, map, refl, arith}
use Rattle.std.proofs.Common.{lit<}
use Rattle.std.specs.Prelude.{Option, Some, None}
use Rattle.std.specs.Int.{byte_at, bytes_high_first, to_be_bytes, w32, w64}
use Rattle.std.proofs.Math.Nat.{mod-lt}
use Rattle.tw_base.specs.declared.events.side.Side.{Side}
use Rattle.tw_base.specs.declared.events.side.Side.TheVariants.{Left, Right}
use Rattle.tw_base.specs.declared.history.thread.Entry.{Entry}
use Rattle.tw_base.specs.kinds.Bytes.{AreBytes}
use Rattle.tw_base.specs.kinds.Levels.{top_level}
use Rattle.tw_base.specs.kinds.Lists.{Each}
use Rattle.tw_base.specs.kinds.Texts.{authenticator_text, datum_text, empty_tree_text, event_leaf_text, event_node_text}
use Rattle.tw_base.specs.kinds.Texts.{genesis_text, joined, link_text, no_events_text, step_datum_text}
use Rattle.tw_base.specs.kinds.Texts.{timed_datum_text, tree_node_text}
use Rattle.tw_base.specs.events.AuditPath.{audit_texts, node_texts_above, path_sides}
use Rattle.tw_base.specs.events.EventTree.{event_leaf_texts, event_node_texts, event_texts, left_half}
use Rattle.tw_base.specs.events.EventTree.{node_texts_within, right_half}
use Rattle.tw_base.specs.history.Auth.{auths, datum_text_at, link_texts, link_texts_at}
use Rattle.tw_base.specs.history.Entries.{IsFit, entry_text}
use Rattle.tw_base.specs.history.Family.{AllSound, family_texts}
use Rattle.tw_base.specs.history.History.{History, events_at, time_at}
use Rattle.tw_base.specs.history.HistoryTexts.{history_texts, node_texts, step_texts, texts_to, top_texts, tree_texts}
use Rattle.tw_base.specs.history.Sound.{IsSound}
use Rattle.tw_base.specs.history.Tree.{Tree, entries, new_trees, tree}
use Rattle.tw_base.specs.history.Tree.Tree.{Empty, Branch}
use Rattle.tw_base.proofs.lemmas.kinds.ByteLemmas.{AreBytes-append, AreBytes-joined}
use Rattle.tw_base.proofs.lemmas.kinds.DigestBytes.{event_root-digest, tree_label-digest}
use Rattle.tw_base.proofs.lemmas.kinds.Levels.{top_level-below}
use Rattle.tw_base.proofs.lemmas.kinds.ListLemmas.{Each-append, Each-get_or, Each-parts}
use Rattle.tw_base.proofs.lemmas.kinds.Naming.{IsName-bytes}
use Rattle.tw_base.proofs.lemmas.history.Auths.{length-link_texts}
use Rattle.tw_base.proofs.lemmas.history.SoundEvents.{sound-may_record}
use Rattle.tw_base.proofs.lemmas.history.Trees.{new_trees-fit}

-- ---- one text

number-bytes : (k n : ℕ) → AreBytes (bytes_high_first k n)
number-bytes zero n = tt
number-bytes (suc k) n = (digit k, number-bytes k n)
  where
    digit : (k : ℕ) → byte_at k n < 256
    digit zero = mod-lt n (lit< tt)
    digit (suc k) = mod-lt (n / 256 ^ suc k) (lit< tt)

genesis_text-bytes : (name : List ℕ) → AreBytes name → AreBytes (genesis_text name)
unfolding genesis_text
genesis_text-bytes name are = (lit< tt, are)

pub link_text-bytes : (step level : ℕ) (datum below : List ℕ) → level < 256 → AreBytes datum → AreBytes below
    → AreBytes (link_text step level datum below)
unfolding link_text
link_text-bytes step level datum below small one other = (
  lit< tt,
  AreBytes-append (to_be_bytes w64 step) (level ∷ (datum ++ below)) (number-bytes 8 step)
      (small, AreBytes-append datum below one other),
)

pub authenticator_text-bytes : (step : ℕ) (labels : List (List ℕ)) → length labels < 256 → Each AreBytes labels
    → AreBytes (authenticator_text step labels)
unfolding authenticator_text
authenticator_text-bytes step labels few are = (
  lit< tt,
  AreBytes-append (to_be_bytes w64 step) (length labels ∷ joined labels) (number-bytes 8 step)
      (few, AreBytes-joined labels are),
)

pub step_datum_text-bytes : (event_root archive_root : List ℕ) (count : ℕ) (time : Option ℕ) → AreBytes event_root
    → AreBytes archive_root → AreBytes (step_datum_text event_root archive_root count time)
unfolding datum_text timed_datum_text
step_datum_text-bytes er ar count None one other = (
  lit< tt,
  AreBytes-append er (ar ++ to_be_bytes w32 count) one (AreBytes-append ar (to_be_bytes w32 count) other
      (number-bytes 4 count)),
)
step_datum_text-bytes er ar count (Some time) one other = (
  lit< tt,
  AreBytes-append er (ar ++ (to_be_bytes w32 count ++ to_be_bytes w64 time)) one
      (AreBytes-append ar (to_be_bytes w32 count ++ to_be_bytes w64 time) other
      (AreBytes-append (to_be_bytes w32 count) (to_be_bytes w64 time) (number-bytes 4 count) (number-bytes 8 time))),
)

pub empty_tree_text-bytes : AreBytes empty_tree_text
unfolding empty_tree_text
empty_tree_text-bytes = (lit< tt, tt)

pub entry_text-bytes : (left : List ℕ) (e : Entry) (right : List ℕ) → AreBytes left → IsFit e → AreBytes right
    → AreBytes (entry_text left e right)
unfolding tree_node_text
entry_text-bytes left e right one fit other = (
  lit< tt,
  AreBytes-append left _ one (AreBytes-append e.thread.from _ fit.from.1
      (AreBytes-append (to_be_bytes w64 e.thread.step) _ (number-bytes 8 e.thread.step)
      (AreBytes-append e.thread.auth _ fit.auth.1 (AreBytes-append (to_be_bytes w64 e.archived) _
      (number-bytes 8 e.archived) other)))),
)

event_leaf_text-bytes : (event : List ℕ) → AreBytes event → AreBytes (event_leaf_text event)
unfolding event_leaf_text
event_leaf_text-bytes event are = (lit< tt, are)

event_node_text-bytes : (left right : List ℕ) → AreBytes left → AreBytes right → AreBytes (event_node_text left right)
unfolding event_node_text
event_node_text-bytes left right one other = (lit< tt, AreBytes-append left right one other)

-- ---- lists of texts, under a digest of bytes

module _ (dig : List ℕ → List ℕ) (size : (text : List ℕ) → length (dig text) ≡ 32) (are : (text : List ℕ)
    → AreBytes (dig text)) where
  leaves-bytes : (events : List (List ℕ)) → Each AreBytes events → Each AreBytes (event_leaf_texts events)
  leaves-bytes [] all = tt
  leaves-bytes (event ∷ events) all = (event_leaf_text-bytes event all.0, leaves-bytes events all.1)

  nodes-bytes : (splits : ℕ) (events : List (List ℕ)) → Each AreBytes (node_texts_within dig splits events)
  unfolding node_texts_within
  nodes-bytes splits [] = tt
  nodes-bytes splits (event ∷ []) = tt
  nodes-bytes zero (first ∷ second ∷ rest) = tt
  nodes-bytes (suc splits) (first ∷ second ∷ rest) =
      let events : List (List ℕ) = first ∷ second ∷ rest in
      let left = event_root-digest dig size are (left_half events) in
      let right = event_root-digest dig size are (right_half events) in
      Each-append AreBytes (node_texts_within dig splits (left_half events)) _ (nodes-bytes splits (left_half events))
      (Each-append AreBytes (node_texts_within dig splits (right_half events)) _
      (nodes-bytes splits (right_half events))
      (event_node_text-bytes _ _ left.1 right.1, tt))

  pub event_texts-bytes : (events : List (List ℕ)) → Each AreBytes events → Each AreBytes (event_texts dig events)
  unfolding event_texts event_node_texts no_events_text
  event_texts-bytes [] all = (tt, tt)
  event_texts-bytes (event ∷ events) all =
      Each-append AreBytes (event_leaf_texts (event ∷ events)) _ (leaves-bytes (event ∷ events) all)
      (nodes-bytes _ (event ∷ events))

  above-bytes : (sides : List Side) (path : List (List ℕ)) (reached : List ℕ) → Each AreBytes path → AreBytes reached
      → Each AreBytes (node_texts_above dig sides path reached)
  unfolding node_texts_above
  above-bytes [] path reached all is = tt
  above-bytes (side ∷ sides) [] reached all is = tt
  above-bytes (Left ∷ sides) (label ∷ path) reached all is =
      (event_node_text-bytes label reached all.0 is, above-bytes sides path _ all.1 (are _))
  above-bytes (Right ∷ sides) (label ∷ path) reached all is =
      (event_node_text-bytes reached label is all.0, above-bytes sides path _ all.1 (are _))

  pub audit_texts-bytes : (count index : ℕ) (event : List ℕ) (path : List (List ℕ)) → AreBytes event
      → Each AreBytes path → Each AreBytes (audit_texts dig count index event path)
  unfolding audit_texts
  audit_texts-bytes count index event path is all =
      (event_leaf_text-bytes event is, above-bytes (path_sides count index) path _ all (are _))

  pub tree_texts-bytes : (t : Tree) → Each IsFit (entries t) → Each AreBytes (tree_texts dig t)
  unfolding tree_texts
  tree_texts-bytes Empty fit = (empty_tree_text-bytes, tt)
  tree_texts-bytes (Branch l e r) fit =
      let parts = Each-parts IsFit (entries l) (e ∷ entries r) fit in
      let left = tree_label-digest dig size are l in
      let right = tree_label-digest dig size are r in
      Each-append AreBytes (tree_texts dig l) _ (tree_texts-bytes l parts.0)
      (Each-append AreBytes (tree_texts dig r) _ (tree_texts-bytes r parts.1.1)
      (entry_text-bytes _ e _ left.1 parts.1.0 right.1, tt))

  -- ---- the texts of a history

  top-bytes : (t : Tree) → Each IsFit (entries t) → Each AreBytes (top_texts dig t)
  top-bytes Empty fit = tt
  top-bytes (Branch l e r) fit =
      let parts = Each-parts IsFit (entries l) (e ∷ entries r) fit in
      let left = tree_label-digest dig size are l in
      let right = tree_label-digest dig size are r in
      (entry_text-bytes _ e _ left.1 parts.1.0 right.1, tt)

  tops-bytes : (ts : List Tree) → Each (λ t. Each IsFit (entries t)) ts → Each AreBytes (node_texts dig ts)
  unfolding node_texts
  tops-bytes [] fit = tt
  tops-bytes (t ∷ ts) fit = Each-append AreBytes (top_texts dig t) _ (top-bytes t fit.0) (tops-bytes ts fit.1)

  labels-bytes : (texts : List (List ℕ)) → Each AreBytes (map dig texts)
  labels-bytes [] = tt
  labels-bytes (text ∷ texts) = (are text, labels-bytes texts)

  length-labels : (texts : List (List ℕ)) → length (map dig texts) ≡ length texts
  length-labels [] = refl
  length-labels (text ∷ texts) = let rest = length-labels texts in omega (arith, rest)

  links-bytes : (datum : List ℕ) (earlier : List (List ℕ)) (i count : ℕ) → count < 256 → AreBytes datum
      → Each AreBytes earlier → Each AreBytes (link_texts dig datum earlier i count)
  unfolding link_texts
  links-bytes datum earlier i zero few is all = tt
  links-bytes datum earlier i (suc level) few is all =
      Each-append AreBytes (link_texts dig datum earlier i level) _ (links-bytes datum earlier i level (omega arith) is
      all)
      (link_text-bytes i level datum _ (omega arith) is (Each-get_or AreBytes earlier (i - 2 ^ level) [] tt all), tt)

  auths-bytes : (h : History) (n : ℕ) → Each AreBytes (auths dig h n)
  unfolding auths
  auths-bytes h zero = (are _, tt)
  auths-bytes h (suc n) = Each-append AreBytes (auths dig h n) _ (auths-bytes h n) (are _, tt)

  datum-bytes : (h : History) (i : ℕ) → AreBytes (datum_text_at dig h i)
  unfolding datum_text_at
  datum-bytes h i =
      let root = event_root-digest dig size are (events_at h i) in
      let archive = tree_label-digest dig size are (tree h i) in
      step_datum_text-bytes _ _ _ (time_at h i) root.1 archive.1

  step-bytes : (h : History) (i : ℕ) → IsSound h → i < length h.steps → Each AreBytes (step_texts dig h i)
  unfolding step_texts
  step-bytes h i sound within =
      let small : top_level (suc i) < 40 = (let most = sound.length in top_level-below (suc i) (omega arith)) in
      let links = links-bytes (dig (datum_text_at dig h (suc i))) (auths dig h i) (suc i) (suc (top_level (suc i)))
      (omega arith) (are _) (auths-bytes h i) in
      let texts : List (List ℕ) = link_texts_at dig h (auths dig h i) (suc i) in
      let count : length (map dig texts) < 256 =
      omega (
        arith,
        small,
        length-labels texts,
        length-link_texts dig (dig (datum_text_at dig h (suc i))) (auths dig h i) (suc i) (suc (top_level (suc i))),
      ) in
      Each-append AreBytes (event_texts dig (events_at h (suc i))) _
      (event_texts-bytes _ (sound-may_record h (suc i) sound).are.bytes)
      (Each-append AreBytes (node_texts dig (new_trees h i)) _ (tops-bytes _ (new_trees-fit h sound i)) (
        datum-bytes h (suc i),
        Each-append AreBytes texts _ links (authenticator_text-bytes (suc i) _ count (labels-bytes texts), tt),
      ))

  texts_to-bytes : (h : History) (n : ℕ) → IsSound h → n ≤ length h.steps → Each AreBytes (texts_to dig h n)
  unfolding texts_to
  texts_to-bytes h zero sound within = let name = IsName-bytes h.name sound.name in
      (genesis_text-bytes h.name name.1, (empty_tree_text-bytes, tt))
  texts_to-bytes h (suc n) sound within =
      Each-append AreBytes (texts_to dig h n) _ (texts_to-bytes h n sound (omega arith))
      (step-bytes h n sound (omega arith))

  pub history_texts-bytes : (h : History) → IsSound h → Each AreBytes (history_texts dig h)
  unfolding history_texts
  history_texts-bytes h sound = texts_to-bytes h (length h.steps) sound (omega arith)

  pub family_texts-bytes : (family : List History) → AllSound family → Each AreBytes (family_texts dig family)
  family_texts-bytes [] sound = tt
  family_texts-bytes (h ∷ family) sound = Each-append AreBytes (history_texts dig h) _ (history_texts-bytes h sound.0)
      (family_texts-bytes family sound.1)
