use Rattle.std.proofs.Common.{List, ℕ, subst}
use Rattle.tw_service.specs.Stands.{no_history}
use Rattle.tw_generate.specs.Playing.{PlaysHistory}
use Rattle.tw_generate.specs.Schedules.{alpha_name, beta_name, gamma_name}
use Rattle.tw_generate.proofs.Leading.{heard-none}
use Rattle.tw_generate.proofs.services.Services.make.Goals as goal

pub returns : goal.returns
returns g c = λ a b e of_alpha of_beta of_gamma. record {
  alpha = subst (λ (n : List ℕ). PlaysHistory g.H.Hasher.dig g.D.Disk.view c.in_ok-make.field-0 (no_history n))
      c.name.ensures (c.in_ok-make.ensures a of_alpha);
  beta = subst (λ (n : List ℕ). PlaysHistory g.H.Hasher.dig g.D.Disk.view c.in_ok-make-2.field-0 (no_history n))
      c.name-2.ensures (c.in_ok-make-2.ensures b of_beta);
  gamma = subst (λ (n : List ℕ). PlaysHistory g.H.Hasher.dig g.D.Disk.view c.in_ok-make-3.field-0 (no_history n))
      c.name-3.ensures (c.in_ok-make-3.ensures e of_gamma);
  alpha_heard = heard-none alpha_name beta_name gamma_name;
  beta_heard = heard-none beta_name alpha_name gamma_name;
  gamma_heard = heard-none gamma_name alpha_name beta_name;
}
