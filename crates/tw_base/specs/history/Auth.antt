-- Labels of trees, and the authenticators of a history.
use Rattle.std.specs.Prelude.{ℕ, suc, zero, ◌-◌, ◌^◌, List, [], ◌∷◌, ◌++◌, length, map, slice_index_or, Option, Some, None, nat_le, if◌then◌else◌}
use Rattle.tw_base.specs.kinds.Texts.{genesis_text, step_datum_text, link_text, authenticator_text, empty_tree_text}
use Rattle.tw_base.specs.history.Entries.{entry_text}
use Rattle.tw_base.specs.events.EventTree.{event_root}
use Rattle.tw_base.specs.history.History.{History, events_at, time_at}
use Rattle.tw_base.specs.history.Tree.{Tree, tree}
use Rattle.tw_base.specs.history.Tree.Tree.{Empty, Branch}
use Rattle.tw_base.specs.kinds.Levels.{top_level}

module _ (dig : List ℕ → List ℕ) where
  unfoldable pub tree_label : Tree → List ℕ
  tree_label Empty = dig empty_tree_text
  tree_label (Branch left e right) = dig (entry_text (tree_label left) e (tree_label right))

  -- what step i itself holds: its events, its archive, how many events there are, and its time where it has one
  unfoldable pub datum_text_at : History → ℕ → List ℕ
  datum_text_at h i = step_datum_text (event_root dig (events_at h i)) (tree_label (tree h i)) (length (events_at h i)) (time_at h i)

  -- the texts of the links of step i at the levels below this count; the link at a level leads to step i - 2 ^ level
  unfoldable pub link_texts : (datum : List ℕ) (earlier : List (List ℕ)) (i count : ℕ) → List (List ℕ)
  link_texts datum earlier i zero = []
  link_texts datum earlier i (suc level) =
      link_texts datum earlier i level ++ link_text i level datum (slice_index_or earlier (i - 2 ^ level) []) ∷ []

  -- those of all links of step i, over the authenticators of the earlier steps
  abbrev pub link_texts_at : History → (earlier : List (List ℕ)) → ℕ → List (List ℕ)
  link_texts_at h earlier i = link_texts (dig (datum_text_at h i)) earlier i (suc (top_level i))

  abbrev pub auth_text : History → (earlier : List (List ℕ)) → ℕ → List ℕ
  auth_text h earlier i = authenticator_text i (map dig (link_texts_at h earlier i))

  -- the authenticators of the steps 0 to n
  unfoldable pub auths : History → ℕ → List (List ℕ)
  auths h zero = dig (genesis_text h.name) ∷ []
  auths h (suc n) = auths h n ++ dig (auth_text h (auths h n) (suc n)) ∷ []

  unfoldable pub auth : History → ℕ → List ℕ
  auth h i = slice_index_or (auths h i) i []

  -- the same, of a step that the history has
  abbrev pub auth_within : History → (step : ℕ) → Option (List ℕ)
  auth_within h step = if nat_le step (length h.steps) then Some (auth h step) else None
