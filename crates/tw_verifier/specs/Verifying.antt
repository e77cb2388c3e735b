-- What a verifier was fed.
use Rattle.std.specs.Prelude.{◌≡◌, ℕ, List, Bool}
use Rattle.tw_base.specs.declared.history.thread.Thread.{Thread}
use Rattle.tw_pieces.specs.Feeding.{HasFed}
use Rattle.tw_base.specs.format.Formats.{Format}
use Rattle.tw_verifier.specs.declared.judgement.Judgement.{Judgement}
use Rattle.tw_verifier.specs.declared.verifier.Judging.{Judging}
use Rattle.tw_verifier.specs.declared.verifier.Verifier.{Verifier}
use Rattle.tw_verifier.specs.Judgements.{judged_layout}
use Rattle.tw_verifier.specs.Stages.{rest}

module _ {H : Type 0} (dig : List ℕ → List ℕ) where
  abbrev pub judging_rest : Judging H → Format Judgement
  judging_rest j = rest dig j.anchors j.stage

  -- the verifier was made for these anchors and this form, and was fed these pieces
  pub record IsFed (anchors : List Thread) (strict : Bool) (v : Verifier H) (pieces : List ℕ) : Type 0 where
    pub form : v.strict ≡ strict
    pub fed : HasFed judging_rest (judged_layout dig anchors) v.fed pieces
