use Rattle.std.proofs.Common.{List, ℕ, refl}
use Rattle.tw_generate.proofs.Leading.{all-append, heard-events, with_steps}
use Rattle.tw_generate.specs.Coming.{AllCanBeDone}
use Rattle.tw_generate.proofs.services.Services.append_all.Goals as goal

pub returns : goal.returns
returns g c = λ t plays.
    let dig : List ℕ → List ℕ = g.H.Hasher.dig in
    let a : List (List ℕ) = c.args.alpha.now in
    let b : List (List ℕ) = c.args.beta.now in
    let e : List (List ℕ) = c.args.gamma.now in (
      with_steps dig t a b e,
      all-append dig t a b e,
      record {
        alpha = c.in_ok-append.ensures t.alpha plays.alpha;
        beta = c.in_ok-append-2.ensures t.beta plays.beta;
        gamma = c.in_ok-append-3.ensures t.gamma plays.gamma;
        alpha_heard = heard-events _ _ _ t.alpha _ _ a plays.alpha_heard;
        beta_heard = heard-events _ _ _ t.beta _ _ b plays.beta_heard;
        gamma_heard = heard-events _ _ _ t.gamma _ _ e plays.gamma_heard;
      },
    )

pub append-requires : goal.append-requires
unfolding AllCanBeDone
append-requires g c = let can = c.requires in (can.0.alpha, can.1.alpha, can.2.0)

pub append-requires-2 : goal.append-requires-2
unfolding AllCanBeDone
append-requires-2 g c = let can = c.requires in (can.0.beta, can.1.beta, (can.2.1 _ refl).0)

pub append-requires-3 : goal.append-requires-3
unfolding AllCanBeDone
append-requires-3 g c = let can = c.requires in (can.0.gamma, can.1.gamma, ((can.2.1 _ refl).1 _ refl).0)
