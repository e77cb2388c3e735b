-- What a pass over the steps of a history keeps.
use Rattle.std.specs.Prelude.{◌≡◌, ℕ, suc, ◌-◌, ◌<◌, ◌^◌, ◌%◌, List, [], ◌∷◌, ◌++◌, map, slice_index_or}
use Rattle.tw_base.specs.history.Auth.{auth, auth_text, auths, datum_text_at, link_texts_at, tree_label}
use Rattle.tw_base.specs.events.EventTree.{event_root}
use Rattle.tw_base.specs.history.History.{History, events_at}
use Rattle.tw_base.specs.history.HistoryTexts.{node_texts, texts_to, top_texts}
use Rattle.tw_base.specs.history.Tree.{Tree, forest, new_trees, tree}
use Rattle.tw_skipproof.specs.HistoryProofs.{labels_at}
use Rattle.tw_base.specs.declared.history.content.Content.{Content}
use Rattle.tw_base.specs.declared.history.content.Content.TheVariants.{Events, Received}
use Rattle.tw_base.specs.kinds.Handing.{Hands}
use Rattle.tw_history.specs.declared.pass.Digests.{Digests}
use Rattle.tw_history.specs.declared.step_digests.StepDigests.{StepDigests}

-- the events of a step; one that received a thread has none
abbrev pub passed_events : Content → List (List ℕ)
passed_events (Events events) = events
passed_events (Received t) = []

-- the label is the tree's, and the text of its root was handed on
pub record IsLabelTold (dig : List ℕ → List ℕ) {S : Type 0} (took : S → List (List ℕ) → Type 0) (old new : S) (label : List ℕ) (t : Tree) : Type 0 where
  pub label_is : label ≡ tree_label dig t
  pub took_top : Hands took old new (top_texts dig t)

module _ (dig : List ℕ → List ℕ) (h : History) where
  -- the texts of step i + 1 but for those of its events
  abbrev pub texts_of_rest : ℕ → List (List ℕ)
  texts_of_rest i =
      node_texts dig (new_trees h i) ++ (datum_text_at dig h (suc i) ∷ (link_texts_at dig h (auths dig h i) (suc i) ++ auth_text dig h (auths dig h i) (suc i) ∷ []))

  -- where a transcript had taken the history's texts up to step i behind any others, it has now taken those up to step j
  pub record HandsOn {S : Type 0} (took : S → List (List ℕ) → Type 0) (old new : S) (i j : ℕ) : Type 0 where
    pub behind : (before : List (List ℕ)) → took old (before ++ texts_to dig h i) → took new (before ++ texts_to dig h j)

  -- of the steps up to i: the labels of the trees of their nodes, by number; and of each level the authenticator of the
  -- last step, 0 included, that 2 ^ level divides
  pub record HasPassed (i : ℕ) (d : Digests) : Type 0 where
    pub tree_labels : d.tree_labels ≡ map (tree_label dig) (forest h i)
    pub latest : (level : ℕ) → level < 40 → slice_index_or d.latest level [] ≡ auth dig h (i - i % 2 ^ level)

  -- the digests that the step's authenticator is made of
  pub record IsOfStep (step : ℕ) (d : StepDigests) : Type 0 where
    pub event_root : d.event_root ≡ event_root dig (events_at h step)
    pub archive_root : d.archive_root ≡ tree_label dig (tree h step)
    pub datum : d.datum ≡ dig (datum_text_at dig h step)
    pub labels : d.labels.items ≡ labels_at dig h step
