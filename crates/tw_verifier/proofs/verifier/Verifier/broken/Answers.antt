use Rattle.tw_verifier.specs.Judgements.{judged_layout}
use Rattle.tw_verifier.proofs.JudgedFronts.{front-judged, judged-front}
use Rattle.tw_verifier.proofs.verifier.Verifier.broken.Goals as goal

pub returns-clause-exact : goal.returns-clause-exact
returns-clause-exact g c = λ anchors strict pieces is unspent.
    let exact = c.is_broken.ensures.exact (judged_layout g.H.Hasher.dig anchors) pieces is.fed unspent in (
      λ broken front. exact.0 broken (front-judged g.H.Hasher.dig anchors pieces front),
      λ none. exact.1 (λ front. none (judged-front g.H.Hasher.dig anchors pieces front)),
    )
