use Rattle.std.proofs.Common.{[], ◌∙◌}
use Rattle.std.specs.Prelude.{false}
use Rattle.tw_base.specs.declared.history.tree_proof.Ask.TheVariants.{Present}
use Rattle.tw_chain.specs.Checks.Check.{AnswerOf}
use Rattle.tw_chain.proofs.FoundSteps.{found-one}
use Rattle.tw_verifier.proofs.NoRoot.{no-root}
use Rattle.tw_verifier.proofs.chain.with_entry.Goals as goal

pub returns-in-None : goal.returns-in-None
returns-in-None g c = λ anchors.
    rw c.in-None.is (c.without_answer.ensures
    ∙ found-one g.H.Hasher.dig anchors c.args.found (AnswerOf c.args.part [] (Present c.args.hop.now.entry)
    c.args.hop.now.shown) false (
      λ is. cc,
      λ checks. absurd (no-root g.H.Hasher.dig g.met.H.Hasher.size (Present c.args.hop.now.entry) c.args.hop.now.shown
          checks),
    ))

pub returns-in-Some : goal.returns-in-Some
returns-in-Some g c = λ anchors. rw c.in-Some.is (c.with_answer.ensures anchors)
