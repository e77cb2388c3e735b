use Rattle.std.proofs.Common.{ℕ, List, [], refl, subst, sym, ◌∙◌}
use Rattle.tw_base.specs.declared.history.thread.Thread.{Thread}
use Rattle.tw_pieces.specs.Feeding.{HasFed}
use Rattle.tw_base.specs.format.Formats.{Format}
use Rattle.tw_pieces.specs.Resuming.{StaysFront}
use Rattle.tw_verifier.specs.declared.judgement.Judgement.{Judgement}
use Rattle.tw_verifier.specs.Judgements.{judged_layout}
use Rattle.tw_verifier.specs.Verifying.{judging_rest}
use Rattle.tw_verifier.proofs.JudgedFronts.{judged-starts}
use Rattle.tw_verifier.proofs.StageForms.{begun}
use Rattle.tw_verifier.proofs.verifier.Verifier.new.Goals as goal

pub returns : goal.returns
returns g c =
    let dig : List ℕ → List ℕ = g.H.Hasher.dig in
    let Begins : Format Judgement → Type 0 = λ layout. StaysFront layout [] 0 → HasFed (judging_rest dig) layout
    c.begin.result [] in
    let fed : Begins (judged_layout dig c.from_vec.result) = subst Begins (sym (begun dig _)) c.begin.ensures.fed in
    let same = c.from_vec.ensures ∙ c.in_ok-from_slice.ensures.items in
    let has = subst (λ (list : List Thread). HasFed (judging_rest dig) (judged_layout dig list) c.begin.result []) same
    (fed (judged-starts dig _)) in
    record { fed = (record { form = refl; fed = has }, c.begin.ensures.unspent) }
