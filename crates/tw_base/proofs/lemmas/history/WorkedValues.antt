-- The definitions, computed on three small histories under the weak digest.
use Rattle.std.proofs.Common.{◌≡◌, ℕ, List, [], ◌∷◌, refl, replicate}
use Rattle.std.specs.Prelude.{Some, None, map}
use Rattle.std.specs.Int.Count.{count_trailing_zeros}
use Rattle.tw_base.specs.kinds.Texts.{genesis_text, datum_text, timed_datum_text, link_text, authenticator_text}
use Rattle.tw_base.specs.kinds.Texts.{empty_tree_text, tree_node_text, event_leaf_text, event_node_text, no_events_text}
use Rattle.tw_base.specs.events.EventTree.{tree_hash, event_root}
use Rattle.tw_base.specs.history.History.{History, entry_to}
use Rattle.tw_base.specs.declared.history.content.Content.TheVariants.{Events, Received}
use Rattle.tw_base.specs.history.Tree.{planted, forest, tree}
use Rattle.tw_base.specs.kinds.Levels.{top_level}
use Rattle.tw_base.specs.history.Auth.{auth, auths, tree_label, datum_text_at, link_texts, link_texts_at}
use Rattle.tw_base.specs.kinds.Weak.{weak}

-- a digest of the weak hasher
abbrev short : ℕ → List ℕ
short first = first ∷ replicate 31 0

abbrev name : ℕ → List ℕ
name letter = letter ∷ replicate 15 0

-- service a: step 1 has one empty event, step 2 the event "hi"
a : History
a = record {
  name = name 97;
  steps = record { content = Events ([] ∷ []); time = None; fresh = []; root = 0 }
      ∷ record { content = Events ((104 ∷ 105 ∷ []) ∷ []); time = None; fresh = []; root = 0 } ∷ [];
}

-- the same service, whose step 1 claims the time 5
t : History
t = record {
  name = name 97;
  steps = record { content = Events ([] ∷ []); time = Some 5; fresh = []; root = 0 }
      ∷ record { content = Events ((104 ∷ 105 ∷ []) ∷ []); time = None; fresh = []; root = 0 } ∷ [];
}

-- service b: step 1 receives a's step 1
b : History
b = record {
  name = name 98;
  steps = record {
    content = Received (record { from = name 97; step = 1; auth = short 0xbf });
    time = None;
    fresh = record { left = 0; entry = 1; right = 0 } ∷ [];
    root = 1;
  } ∷ [];
}

a-0 : auth weak a 0 ≡ short 0x71
unfolding a auth auths genesis_text
a-0 = refl

b-0 : auth weak b 0 ≡ short 0x72
unfolding b auth auths genesis_text
b-0 = refl

a-1 : (weak (datum_text_at weak a 1) ≡ short 0x28) × (auth weak a 1 ≡ short 0xbf)
unfolding a auth auths tree_label datum_text_at link_texts tree_hash event_root planted forest tree entry_to genesis_text datum_text link_text authenticator_text empty_tree_text tree_node_text event_leaf_text event_node_text no_events_text top_level count_trailing_zeros
a-1 = (refl, refl)

a-2 : (event_root weak ((104 ∷ 105 ∷ []) ∷ []) ≡ short 0xd1) × (weak (datum_text_at weak a 2) ≡ short 0xf9)
    × (auth weak a 2 ≡ short 0x5f)
unfolding a auth auths tree_label datum_text_at link_texts tree_hash event_root planted forest tree entry_to genesis_text datum_text link_text authenticator_text empty_tree_text tree_node_text event_leaf_text event_node_text no_events_text top_level count_trailing_zeros
a-2 = (refl, refl, refl)

t-1 : (weak (datum_text_at weak t 1) ≡ short 0x30)
    × (map weak (link_texts_at weak t (auths weak t 0) 1) ≡ short 0xb3 ∷ []) × (auth weak t 1 ≡ short 0xc7)
unfolding t auth auths tree_label datum_text_at link_texts tree_hash event_root planted forest tree entry_to genesis_text datum_text timed_datum_text link_text authenticator_text empty_tree_text tree_node_text event_leaf_text event_node_text no_events_text top_level count_trailing_zeros
t-1 = (refl, refl, refl)

t-2 : (weak (datum_text_at weak t 2) ≡ short 0xf9)
    × (map weak (link_texts_at weak t (auths weak t 1) 2) ≡ short 0xd3 ∷ short 0x7e ∷ [])
    × (auth weak t 2 ≡ short 0x67)
unfolding t auth auths tree_label datum_text_at link_texts tree_hash event_root planted forest tree entry_to genesis_text datum_text timed_datum_text link_text authenticator_text empty_tree_text tree_node_text event_leaf_text event_node_text no_events_text top_level count_trailing_zeros
t-2 = (refl, refl, refl)

b-1-tree : tree_label weak (tree b 1) ≡ short 0x5f
unfolding b tree_label planted forest tree entry_to empty_tree_text tree_node_text
b-1-tree = refl

b-1-datum : weak (datum_text_at weak b 1) ≡ short 0x72
unfolding b tree_label datum_text_at tree_hash event_root planted forest tree entry_to datum_text empty_tree_text tree_node_text event_leaf_text event_node_text no_events_text
b-1-datum = refl

b-1 : auth weak b 1 ≡ short 0x0a
unfolding b auth auths tree_label datum_text_at link_texts tree_hash event_root planted forest tree entry_to genesis_text datum_text link_text authenticator_text empty_tree_text tree_node_text event_leaf_text event_node_text no_events_text top_level count_trailing_zeros
b-1 = refl
