-- The loop that writes the steps of a table, each of which takes the next of the nodes.
use Rattle.std.proofs.Common.{◌≡◌, ℕ, ◌+◌, ◌<◌, ◌≤◌, ◌^◌, List, [], ◌∷◌, ◌++◌, length, map, take, drop, flat_map}
use Rattle.std.proofs.Common.{get_or, ap, sym, ◌∙◌, subst, arith, sum_by}
use Rattle.std.specs.Prelude.{Option, Some, None, true, false, is_some, ◌-◌}
use Rattle.std.proofs.lemmas.List.{append-nil, append_assoc, drop_all, drop_more, length-drop, take-append-drop}
use Rattle.std.proofs.lemmas.List.Sums.{sum_by-cons}
use Rattle.tw_base.specs.declared.history.content.Content.{Content}
use Rattle.tw_base.specs.declared.history.content.Content.TheVariants.{Events, Received}
use Rattle.tw_base.specs.format.Codecs.{by_kind, counted, many, nothing, number_codec, optional, pair, present, seen}
use Rattle.tw_base.specs.format.Fields.{number_bytes}
use Rattle.tw_base.specs.history.History.{Step}
use Rattle.tw_base.specs.history.HistoryCodec.{content_codec, kind_of, node_codec, recorded_codec, step_codec}
use Rattle.tw_base.specs.kinds.Lists.{Each}
use Rattle.tw_base.proofs.lemmas.kinds.ListLemmas.{Each-parts}
use Rattle.tw_history.specs.declared.step.Node.{Node as TableNode}
use Rattle.tw_history.specs.declared.step.Step.{Step as TableStep}
use Rattle.tw_history.specs.Tables.{step_of, steps_of_table}
use Rattle.tw_history.specs.WritingSteps.{has_events}

-- each of the items as it is seen
pub Each-seen : {X Y : Type 0} (P : Y → Type 0) (view : X → Y) (xs : List X) → Each (λ x. P (view x)) xs
    → Each P (map view xs)
Each-seen P view [] all = tt
Each-seen P view (x ∷ xs) all = (all.0, Each-seen P view xs all.1)

-- a step's bytes are written, and the next nodes are left
pub record StepsFurther (steps : List TableStep) (nodes later : List TableNode) (i : ℕ) (now : Step) : Type 0 where
  pub taken : steps_of_table (drop i steps) nodes ≡ now ∷ steps_of_table (drop (i + 1) steps) later
  pub written : (into more all : List ℕ) → more ≡ into ++ step_codec.write now → into ++ flat_map step_codec.write
      (steps_of_table (drop i steps) nodes) ≡ all
      → more ++ flat_map step_codec.write (steps_of_table (drop (i + 1) steps) later) ≡ all
  pub fits : Each step_codec.Fits (steps_of_table (drop (i + 1) steps) later) → Each step_codec.Fits
      (steps_of_table (drop i steps) nodes)
  pub counted : sum_by (λ s. s.fresh) (drop i steps) ≡ length nodes → sum_by (λ s. s.fresh) (drop (i + 1) steps)
      ≡ length later
  pub entries : Each {X = TableNode} (λ n. n.entry < 2 ^ 64) nodes → Each {X = TableNode} (λ n. n.entry < 2 ^ 64) later

pub steps_further : (steps : List TableStep) (nodes fresh later : List TableNode) (i : ℕ) (s : TableStep)
    → i < length steps → s ≡ get_or steps i s
    → fresh ≡ take s.fresh nodes → later ≡ drop s.fresh nodes → step_codec.Fits (step_of s fresh)
    → StepsFurther steps nodes later i (step_of s fresh)
steps_further steps nodes fresh later i s l is front back one =
    let cut : drop i steps ≡ s ∷ drop (i + 1) steps = drop_more steps i s l ∙ ap (λ x. x ∷ drop (i + 1) steps)
    (sym is) in
    let taken : steps_of_table (drop i steps) nodes ≡ step_of s fresh ∷ steps_of_table (drop (i + 1) steps) later =
    ap (λ ss. steps_of_table ss nodes) cut ∙ (λ k. step_of s (sym front k) ∷ steps_of_table (drop (i + 1) steps)
    (sym back k)) in
    record {
      taken = taken;
      written = λ into more all pushed so_far.
          ap (λ w. w ++ flat_map step_codec.write (steps_of_table (drop (i + 1) steps) later)) pushed
          ∙ append_assoc into (step_codec.write (step_of s fresh))
          (flat_map step_codec.write (steps_of_table (drop (i + 1) steps) later))
          ∙ ap (λ ss. into ++ flat_map step_codec.write ss) (sym taken) ∙ so_far;
      fits = λ rest. (let P : List Step → Type 0 = Each step_codec.Fits in subst P (sym taken) (one, rest));
      counted = λ counted.
          omega (
            arith,
            counted,
            ap (sum_by (λ s. s.fresh)) cut,
            sum_by-cons (λ s. s.fresh) s (drop (i + 1) steps),
            ap length back,
            length-drop s.fresh nodes,
          );
      entries = λ all.
          let P : TableNode → Type 0 = λ n. n.entry < 2 ^ 64 in
          subst (Each P) (sym back) (Each-parts P (take s.fresh nodes) (drop s.fresh nodes)
          (subst (Each P) (sym (take-append-drop s.fresh nodes)) all)).1;
    }

-- no step is left behind the last
pub steps_end : (steps : List TableStep) (nodes : List TableNode) (i : ℕ) → length steps ≤ i → Each step_codec.Fits
    (steps_of_table (drop i steps) nodes)
steps_end steps nodes i l = let P : List TableStep → Type 0 = λ ss. Each step_codec.Fits (steps_of_table ss nodes) in
    subst P (sym (drop_all i steps l)) tt

-- all of them are written
pub written_all : (steps : List TableStep) (nodes : List TableNode) (i : ℕ) (now all : List ℕ) → length steps ≤ i
    → now ++ flat_map step_codec.write (steps_of_table (drop i steps) nodes) ≡ all → now ≡ all
written_all steps nodes i now all l is = sym (append-nil now)
    ∙ ap (λ ss. now ++ flat_map step_codec.write (steps_of_table ss nodes)) (sym (drop_all i steps l)) ∙ is

-- three texts were appended, one after another
three_put : (into one two three a b c : List ℕ) → a ≡ into ++ one → b ≡ a ++ two → c ≡ b ++ three
    → c ≡ into ++ (one ++ (two ++ three))
three_put into one two three a b c first second third =
    third ∙ ap (λ w. w ++ three) (second ∙ ap (λ w. w ++ two) first) ∙ append_assoc (into ++ one) two three
    ∙ append_assoc into one (two ++ three)

-- a kind was appended, and then a time, if any, and a content
pub recorded_put : (time : Option ℕ) (c : Content) (into one two three : List ℕ) (kind : ℕ) → kind ≡ kind_of time c
    → one ≡ into ++ number_bytes 1 kind
    → two ≡ one ++ (optional (is_some time) (number_codec 8 0 (2 ^ 64 - 1))).write time
    → three ≡ two ++ (content_codec (has_events c)).write c
    → three ≡ into ++ recorded_codec.write (time, c)
unfolding recorded_codec by_kind pair nothing number_codec present
recorded_put None (Events events) into one two three kind is first second third = three_put into (number_bytes 1 kind)
    [] _ one two three first second third
    ∙ ap (λ k. into ++ (number_bytes 1 k ++ (content_codec true).write (Events events))) is
recorded_put None (Received t) into one two three kind is first second third = three_put into (number_bytes 1 kind) [] _
    one two three first second third ∙ ap (λ k. into ++ (number_bytes 1 k ++ (content_codec false).write (Received t)))
    is
recorded_put (Some time) (Events events) into one two three kind is first second third =
    three_put into (number_bytes 1 kind) (number_bytes 8 time) _ one two three first second third
    ∙ ap (λ k. into ++ (number_bytes 1 k ++ (number_bytes 8 time ++ (content_codec true).write (Events events)))) is
recorded_put (Some time) (Received t) into one two three kind is first second third =
    three_put into (number_bytes 1 kind) (number_bytes 8 time) _ one two three first second third
    ∙ ap (λ k. into ++ (number_bytes 1 k ++ (number_bytes 8 time ++ (content_codec false).write (Received t)))) is

-- four texts were appended, one after another
pub four_put : (into one two three four a b c d : List ℕ) → a ≡ into ++ one → b ≡ a ++ two → c ≡ b ++ three
    → d ≡ c ++ four → d ≡ into ++ (one ++ (two ++ (three ++ four)))
four_put into one two three four a b c d first second third last =
    last ∙ ap (λ w. w ++ four) (third ∙ ap (λ w. w ++ three) (second ∙ ap (λ w. w ++ two) first)) ∙ append_assoc
    ((into ++ one) ++ two) three four
    ∙ append_assoc (into ++ one) two (three ++ four) ∙ append_assoc into one (two ++ (three ++ four))

-- the front of a file was appended, and then its steps
pub front_put : (into magic name count steps a b : List ℕ) → a ≡ into ++ (magic ++ (name ++ count)) → b ≡ a ++ steps
    → b ≡ into ++ (magic ++ (name ++ (count ++ steps)))
front_put into magic name count steps a b first last =
    last ∙ ap (λ w. w ++ steps) first ∙ append_assoc into (magic ++ (name ++ count)) steps
    ∙ ap (λ w. into ++ w) (append_assoc magic (name ++ count) steps
    ∙ ap (λ w. magic ++ w) (append_assoc name count steps))

-- what a step records was appended, and then the number of its nodes, each of them, and the root
pub step_put : (s : Step) (into a b c d : List ℕ) (count : ℕ) → count ≡ length s.fresh
    → a ≡ into ++ recorded_codec.write (s.time, s.content) → b ≡ a ++ number_bytes 2 count
    → c ≡ b ++ flat_map node_codec.write s.fresh → d ≡ c ++ number_bytes 4 s.root → d ≡ into ++ step_codec.write s
unfolding step_codec seen pair counted by_kind many number_codec
step_put s into a b c d count is first second third last =
    let recorded : List ℕ = recorded_codec.write (s.time, s.content) in
    let nodes : List ℕ = flat_map node_codec.write s.fresh in
    four_put into recorded (number_bytes 2 count) nodes (number_bytes 4 s.root) a b c d first second third last
    ∙ ap (λ w. into ++ (recorded ++ w)) (sym (append_assoc (number_bytes 2 count) nodes (number_bytes 4 s.root)))
    ∙ ap (λ n. into ++ (recorded ++ ((number_bytes 2 n ++ nodes) ++ number_bytes 4 s.root))) is
