-- How many bytes events, nodes and steps have.
use Rattle.std.proofs.Common.{◌≡◌, ℕ, ◌+◌, ◌*◌, List, [], ◌∷◌, ◌++◌, length, map, take, drop, flat_map, sum_by, refl}
use Rattle.std.proofs.Common.{ap, arith}
use Rattle.std.specs.Prelude.{Option, Some, None, true, false}
use Rattle.std.specs.Option.{option_map_or}
use Rattle.std.proofs.lemmas.List.{length-append, length-drop, length-map, length-take}
use Rattle.std.proofs.lemmas.List.Sums.{sum_by-cons}
use Rattle.tw_base.specs.declared.history.content.Content.{Content}
use Rattle.tw_base.specs.declared.history.content.Content.TheVariants.{Events, Received}
use Rattle.tw_base.specs.declared.history.thread.Thread.{Thread}
use Rattle.tw_base.specs.format.Codecs.{behind, by_kind, bytes_codec, variant, counted, many, name_codec, nothing}
use Rattle.tw_base.specs.format.Codecs.{number_codec, pair, present, seen, sized_codec}
use Rattle.tw_base.specs.format.Fields.{number_bytes}
use Rattle.tw_base.specs.history.History.{History, Node}
use Rattle.tw_base.specs.history.HistoryCodec.{content_codec, event_codec, history_bytes, history_codec, history_magic}
use Rattle.tw_base.specs.history.HistoryCodec.{node_codec, recorded_codec, step_codec, thread_codec}
use Rattle.tw_base.proofs.lemmas.format.NumberLaws.{length-number_bytes}
use Rattle.tw_history.specs.declared.step.Node.{Node as TableNode}
use Rattle.tw_history.specs.declared.step.Step.{Step}
use Rattle.tw_history.specs.Tables.{node_of, step_of, steps_of_table}
use Rattle.tw_history.specs.WritingSteps.{has_events, step_size}

pub event-size : (event : List ℕ) → length (event_codec.write event) ≡ 4 + length event
unfolding sized_codec by_kind number_codec bytes_codec
event-size event =
    omega (arith, length-append (number_bytes 4 (length event)) event, length-number_bytes 4 (length event))

pub events-size : (events : List (List ℕ)) → length ((content_codec true).write (Events events)) ≡ 4 + length
    (flat_map event_codec.write events)
unfolding content_codec by_kind variant counted many number_codec
events-size events =
    omega (
      arith,
      length-append (number_bytes 4 (length events)) (flat_map event_codec.write events),
      length-number_bytes 4 (length events),
    )

pub thread-size : (t : Thread) → length t.from ≡ 16 → length t.auth ≡ 32
    → length ((content_codec false).write (Received t)) ≡ 56
unfolding content_codec variant number_codec thread_codec seen pair name_codec bytes_codec
thread-size t from auth =
    omega (
      arith,
      length-append t.from (number_bytes 8 t.step ++ t.auth),
      length-append (number_bytes 8 t.step) t.auth,
      length-number_bytes 8 t.step,
      from,
      auth,
    )

-- the kind has one byte, a time eight
behind_kind : (kind : ℕ) (time content : List ℕ) → length (number_bytes 1 kind ++ (time ++ content)) ≡ 1 + length time
    + length content
behind_kind kind time content =
    omega (
      arith,
      length-append (number_bytes 1 kind) (time ++ content),
      length-append time content,
      length-number_bytes 1 kind,
    )

pub recorded-size : (time : Option ℕ) (c : Content) → length (recorded_codec.write (time, c)) ≡ 1 + option_map_or
    (λ t. 8) time 0 + length ((content_codec (has_events c)).write c)
unfolding recorded_codec by_kind pair nothing number_codec present
recorded-size None (Events events) = behind_kind 1 [] ((content_codec true).write (Events events))
recorded-size None (Received t) = behind_kind 2 [] ((content_codec false).write (Received t))
recorded-size (Some time) (Events events) =
    omega (
      arith,
      behind_kind 3 (number_bytes 8 time) ((content_codec true).write (Events events)),
      length-number_bytes 8 time,
    )
recorded-size (Some time) (Received t) =
    omega (
      arith,
      behind_kind 4 (number_bytes 8 time) ((content_codec false).write (Received t)),
      length-number_bytes 8 time,
    )

node-size : (n : Node) → length (node_codec.write n) ≡ 16
unfolding node_codec seen pair number_codec
node-size n =
    omega (
      arith,
      length-append (number_bytes 4 n.left) (number_bytes 8 n.entry ++ number_bytes 4 n.right),
      length-append (number_bytes 8 n.entry) (number_bytes 4 n.right),
      length-number_bytes 4 n.left,
      length-number_bytes 8 n.entry,
      length-number_bytes 4 n.right,
    )

nodes-size : (nodes : List Node) → length (flat_map node_codec.write nodes) ≡ 16 * length nodes
nodes-size [] = refl
nodes-size (n ∷ nodes) =
    omega (arith, length-append (node_codec.write n) (flat_map node_codec.write nodes), node-size n, nodes-size nodes)

step-size : (s : Step) (fresh : List TableNode) → length fresh ≡ s.fresh → length (step_codec.write (step_of s fresh))
    ≡ step_size s
unfolding step_codec seen pair counted by_kind many number_codec
step-size s fresh count =
    let recorded : List ℕ = recorded_codec.write (s.time, s.content) in
    let number : List ℕ = number_bytes 2 (length (map node_of fresh)) in
    let nodes : List ℕ = flat_map node_codec.write (map node_of fresh) in
    let root : List ℕ = number_bytes 4 s.root in
    omega (
      arith,
      length-append recorded ((number ++ nodes) ++ root),
      length-append (number ++ nodes) root,
      length-append number nodes,
      length-number_bytes 2 (length (map node_of fresh)),
      length-number_bytes 4 s.root,
      nodes-size (map node_of fresh),
      length-map fresh node_of,
      count,
    )

pub steps-size : (steps : List Step) (nodes : List TableNode) → sum_by (λ s. s.fresh) steps ≡ length nodes
    → length (flat_map step_codec.write (steps_of_table steps nodes)) ≡ sum_by step_size steps
steps-size [] nodes counted = refl
steps-size (s ∷ steps) nodes counted =
    let sum = sum_by-cons (λ s. s.fresh) s steps in
    let left : sum_by (λ s. s.fresh) steps ≡ length (drop s.fresh nodes) =
    omega (arith, counted, sum, length-drop s.fresh nodes) in
    let count : length (take s.fresh nodes) ≡ s.fresh = omega (arith, counted, sum, length-take s.fresh nodes) in
    omega (
      arith,
      length-append (step_codec.write (step_of s (take s.fresh nodes)))
          (flat_map step_codec.write (steps_of_table steps (drop s.fresh nodes))),
      step-size s (take s.fresh nodes) count,
      steps-size steps (drop s.fresh nodes) left,
      sum_by-cons step_size s steps,
    )

pub file-size : (h : History) → length (history_bytes h) ≡ 12 + length h.name + length
    (flat_map step_codec.write h.steps)
unfolding history_codec seen behind pair counted by_kind many number_codec name_codec
file-size h =
    let number : List ℕ = number_bytes 8 (length h.steps) in
    let all : List ℕ = flat_map step_codec.write h.steps in
    omega (
      arith,
      length-append history_magic (h.name ++ (number ++ all)),
      length-append h.name (number ++ all),
      length-append number all,
      length-number_bytes 8 (length h.steps),
    )

pub history-size : (h : History) (steps : List Step) (nodes : List TableNode) → h.steps ≡ steps_of_table steps nodes
    → sum_by (λ s. s.fresh) steps ≡ length nodes → length h.name ≡ 16
    → length (history_bytes h) ≡ 28 + sum_by step_size steps
history-size h steps nodes is counted name =
    let whole = file-size h in
    omega (
      arith,
      whole,
      name,
      ap (λ ss. length (flat_map step_codec.write ss)) is,
      steps-size steps nodes counted,
    )
