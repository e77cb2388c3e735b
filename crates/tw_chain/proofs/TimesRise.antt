-- Where an event precedes another without hops, its time isn't the later one.
use Rattle.std.proofs.Common.{◌≡◌, ℕ, ◌≤◌, List, [], ◌∷◌, sym, ap, ◌∙◌, arith}
use Rattle.std.specs.Prelude.{Option, Some, None, IfSome}
use Rattle.tw_base.specs.declared.history.report.Claim.TheVariants as claims
use Rattle.tw_base.specs.declared.history.report.Hop.{Hop}
use Rattle.tw_base.specs.declared.history.report.Seen.{Seen}
use Rattle.tw_base.specs.history.Facts.{Precedence, TimesRise}
use Rattle.tw_base.specs.history.Family.{AllSound, history_of}
use Rattle.tw_base.specs.history.History.{History, time_at}
use Rattle.tw_base.proofs.lemmas.history.Families.{sound_of}
use Rattle.tw_base.proofs.lemmas.history.Times.{times-order}

module _ (dig : List ℕ → List ℕ) (family : List History) (sound : AllSound family) where
  pub times-rise : (hops : List Hop) (first second : Seen) → Precedence dig family hops first second
      → TimesRise hops (claims.Precedes first second)
  times-rise (hop ∷ hops) first second p = tt
  times-rise [] first second p = by first.time second.time p.first_stands.time
      (ap (λ k. time_at k second.place.step) one ∙ p.second_stands.time)
    where
      h : History
      h = p.first_stands.history

      one : h ≡ p.second_stands.history
      one = let both : Some h ≡ Some p.second_stands.history = sym p.first_stands.has ∙ ap (history_of family) p.leads.0
          ∙ p.second_stands.has in cc

      by : (earlier later : Option ℕ) → time_at h first.place.step ≡ earlier → time_at h second.place.step ≡ later
          → IfSome earlier (λ e. IfSome later (λ l. e ≤ l))
      by None later at at' = tt
      by (Some e) None at at' = tt
      by (Some e) (Some l) at at' =
          times-order h (sound_of family first.place.service h sound p.first_stands.has) first.place.step
          second.place.step e l (omega (arith, p.leads.1)) at at'
