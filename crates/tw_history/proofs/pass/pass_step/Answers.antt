use Rattle.std.proofs.Common.{suc, ◌+◌, ◌∷◌, ap, ◌∙◌, arith}
use Rattle.std.specs.Prelude.{map}
use Rattle.tw_base.specs.history.Auth.{auths, link_texts}
use Rattle.tw_base.specs.history.History.{entry_to}
use Rattle.tw_base.specs.kinds.Levels.{top_level}
use Rattle.tw_base.specs.kinds.Texts.{authenticator_text, step_datum_text}
use Rattle.tw_base.specs.history.Tree.{forest, planted}
use Rattle.tw_base.proofs.lemmas.history.Plus.{forest-first}
use Rattle.tw_base.proofs.lemmas.kinds.HandedTexts.{hands-same, hands-text, hands-then}
use Rattle.tw_history.specs.Tables.{node_of}
use Rattle.tw_history.proofs.Passes.{PassesStep, PassesStep-passes, PassesStep-texts, length-labels, reached-next}
use Rattle.tw_history.proofs.Passes.{some_labels, some_trees}
use Rattle.tw_history.proofs.pass.pass_step.Goals as goal

pub overflow_sub-len : goal.overflow_sub-len
overflow_sub-len g c =
    let size = length-labels g.T.Transcript.dig c.args.history.now c.args.index c.args.digests.now.tree_labels
    c.requires.passed.tree_labels in
    omega (arith, size, c.len.ensures, some_trees c.args.history.now c.args.index)

pub step_behind-requires-clause-before : goal.step_behind-requires-clause-before
step_behind-requires-clause-before g c =
    let size = length-labels g.T.Transcript.dig c.args.history.now c.args.index c.args.digests.now.tree_labels
    c.requires.passed.tree_labels in
    omega (arith, size, c.len.ensures, some_trees c.args.history.now c.args.index)

pub label_nodes-requires : goal.label_nodes-requires
label_nodes-requires g c =
    let size = length-labels g.T.Transcript.dig c.args.history.now c.args.index c.args.digests.now.tree_labels
    c.requires.passed.tree_labels in
    omega (arith, size, some_trees c.args.history.now c.args.index)

pub label_of_tree-requires : goal.label_of_tree-requires
label_of_tree-requires g c =
    let h = c.args.history.now in
    some_labels g.T.Transcript.dig h c.args.index (planted (entry_to h (c.args.index + 1)) (forest h c.args.index)
    (map node_of c.step_behind.result.1.now)) c.as_slice.result.now
    (c.as_slice.ensures.value ∙ c.in_ok-label_nodes.ensures.labels (forest h c.args.index) c.requires.passed.tree_labels
    (forest-first h c.args.index))

pub returns : goal.returns
returns g c =
    let h = c.args.history.now in
    let fresh = c.step_behind.result.1.now in
    let step : PassesStep g.T.Transcript.dig h (c.args.index + 1) c.args.index c.step_behind.result.0.now fresh
    c.args.digests.now (record { tree_labels = c.label_nodes.new.tree_labels; latest = c.keep_auth.new.latest })
    c.digests_of_step-passed.result c.authenticator_told-auth.result =
    record {
      passed = c.requires.passed;
      there = c.step_behind.ensures.step;
      tree_labels = c.in_ok-label_nodes.ensures.labels (forest h c.args.index) c.requires.passed.tree_labels
          (forest-first h c.args.index);
      event_root = c.digests_of_step-passed.ensures.event_root ∙ c.requires.event_root;
      archive_root = λ trees labels first. c.digests_of_step-passed.ensures.archive_root
          ∙ c.label_of_tree.ensures g.T.Transcript.dig trees (c.as_slice.ensures.value ∙ labels) first;
      datum = c.digests_of_step-passed.ensures.datum
          ∙ ap (λ n. g.T.Transcript.dig (step_datum_text c.digests_of_step-passed.result.event_root
          c.digests_of_step-passed.result.archive_root n c.step_behind.result.0.now.time))
          c.count_of_events.ensures.value;
      labels = c.digests_of_step-passed.ensures.labels;
      few = omega (arith, c.step_behind.ensures.few, c.requires.inside);
      auth = c.authenticator_told-auth.ensures.label
          ∙ ap (λ ls. g.T.Transcript.dig (authenticator_text (c.args.index + 1) ls)) c.as_slice-2.ensures.value;
      latest = c.keep_auth.ensures;
    }
    in
    let both = PassesStep-passes g.T.Transcript.dig h c.args.index c.step_behind.result.0.now fresh
    c.args.digests.now (record { tree_labels = c.label_nodes.new.tree_labels; latest = c.keep_auth.new.latest })
    c.digests_of_step-passed.result c.authenticator_told-auth.result step in
    record {
      passed = both.0;
      step = both.1;
      took =
          hands-same g.T.Transcript.took _ _ _ _
          (PassesStep-texts g.T.Transcript.dig h c.args.index c.step_behind.result.0.now fresh
          c.args.digests.now (record { tree_labels = c.label_nodes.new.tree_labels; latest = c.keep_auth.new.latest })
          c.digests_of_step-passed.result c.authenticator_told-auth.result step)
          (hands-then g.T.Transcript.took _ _ _ _ _
          (hands-then g.T.Transcript.took _ _ _ _ _
          (c.in_ok-label_nodes.ensures.took (forest h c.args.index) c.requires.passed.tree_labels
          (forest-first h c.args.index))
          (hands-same g.T.Transcript.took _ _ _ _
          (ap (λ n. step_datum_text c.digests_of_step-passed.result.event_root
          c.digests_of_step-passed.result.archive_root n c.step_behind.result.0.now.time
          ∷ link_texts g.T.Transcript.dig c.digests_of_step-passed.result.datum (auths g.T.Transcript.dig h
          c.args.index) (c.args.index + 1) (suc (top_level (c.args.index + 1)))) c.count_of_events.ensures.value)
          (c.digests_of_step-passed.ensures.took (auths g.T.Transcript.dig h c.args.index)
          (reached-next g.T.Transcript.dig h c.args.index c.args.digests.now c.requires.passed
          (omega (arith, c.step_behind.ensures.few, c.requires.inside))))))
          (hands-text g.T.Transcript.took _ _ _ _ (ap (authenticator_text (c.args.index + 1))
          c.as_slice-2.ensures.value) c.authenticator_told-auth.ensures.took));
    }
