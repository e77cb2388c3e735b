-- Of runs that tell a verdict, or why there is none.
use Rattle.std.proofs.Common.{◌≡◌, ◌⊎◌, ◌∙◌, ℕ, List, refl, sym, subst, inl, inr}
use Rattle.std.specs.Prelude.{Some, Result, Ok, Err}
use Rattle.tw_disk.specs.Disk.{DiskView}
use Rattle.tw_words.specs.CommandLine.{command_of}
use Rattle.tw_words.specs.declared.command.Command.{Command}
use Rattle.tw_text.specs.declared.fault.CommandFault.{CommandFault}
use Rattle.tw_judge.specs.Telling.{TellsJudged, TellsWhy}
use Rattle.tw_app.specs.declared.outcome.Outcome.{Outcome}
use Rattle.tw_app.specs.Around.{Around, Writes}
use Rattle.tw_app.specs.Judging.{NoneFailed}
use Rattle.tw_app.specs.Outcomes.{outcome_by, status_of, text_of}
use Rattle.tw_app.specs.Running.{EndsAllowed, IsDiskUntouched, IsOutcomeOf, work}
use Rattle.tw_app.proofs.AskedRuns.{HasAt, comes_by, told_as}

-- a result of which May holds, with this status and text
pub record ComesTo {X : Type 0} (of : X → Outcome) (May : Result X CommandFault → Type 0) (status : ℕ)
    (text : List ℕ) : Type 0 where
  pub result : Result X CommandFault
  pub comes : May result
  pub status_is : status ≡ status_of (outcome_by of result)
  pub text_is : text ≡ text_of (outcome_by of result)

-- where verdicts are told by these, what is told is what comes of a result
module _ {X : Type 0} (of : X → Outcome) (May : Result X CommandFault → Type 0) (IsSo : X → Type 0)
    (IsWhy : CommandFault → Type 0) {status_told : X → ℕ} {text_told : X → List ℕ}
    (status_is : (x : X) → status_of (of x) ≡ status_told x) (text_is : (x : X) → text_of (of x) ≡ text_told x) where
  pub tells : ((x : X) → May (Ok x) → IsSo x) → ((f : CommandFault) → May (Err f) → IsWhy f)
      → (r : Result X CommandFault) → May r
      → TellsJudged IsSo status_told text_told (status_of (outcome_by of r)) (text_of (outcome_by of r))
      ⊎ TellsWhy IsWhy (status_of (outcome_by of r)) (text_of (outcome_by of r))
  tells so why (Ok x) comes =
      inl (record { verdict = x; judged = so x comes; status_is = status_is x; text_is = text_is x })
  tells so why (Err f) comes = inr (record { fault = f; unjudged = why f comes; status_is = refl; text_is = refl })

  pub comes_to : ((x : X) → IsSo x → May (Ok x)) → ((f : CommandFault) → IsWhy f → May (Err f)) → (status : ℕ)
      (text : List ℕ) → TellsJudged IsSo status_told text_told status text ⊎ TellsWhy IsWhy status text
      → ComesTo of May status text
  comes_to so why status text (inl t) = record {
    result = Ok t.verdict;
    comes = so t.verdict t.judged;
    status_is = t.status_is ∙ sym (status_is t.verdict);
    text_is = t.text_is ∙ sym (text_is t.verdict);
  }
  comes_to so why status text (inr t) = record {
    result = Err t.fault;
    comes = why t.fault t.unjudged;
    status_is = t.status_is;
    text_is = t.text_is;
  }

-- what is told of each result is what a run of the command tells
module _ {D : Type 0} (view : D → DiskView) (a : Around D) {X : Type 0} (of : X → Outcome)
    (Comes : Result X CommandFault → Type 0) (Told : ℕ → List ℕ → Type 0) (command : Command)
    (is_command : command_of a.words ≡ Some command) where
  abbrev Works : Outcome → Type 0
  Works = IsOutcomeOf of (λ (r : Result X CommandFault). Comes r × IsDiskUntouched view a.outside)

  pub run_told : ((o : Outcome) → (work view a.outside command).does o → Works o) → ((r : Result X CommandFault)
      → Comes r → Told (status_of (outcome_by of r)) (text_of (outcome_by of r)))
      → NoneFailed a → (status : ℕ) → EndsAllowed view a status → (text : List ℕ) × Told status text × Writes a text
  run_told works told none status run =
      let came = works run.0 (comes_by view a status run command is_command) in
      let outcome = outcome_by of came.0 in
      let ended = told_as view a status run (λ cut. none.sink cut.1) outcome came.2 in (
        text_of outcome,
        subst (λ (s : ℕ). Told s (text_of outcome)) (sym ended.0) (told came.0 came.1.0),
        ended.1,
      )

  pub run_ends : ((o : Outcome) → Works o → (work view a.outside command).does o) → (status : ℕ) (text : List ℕ)
      → ComesTo of Comes status text → IsDiskUntouched view a.outside → Writes a text → EndsAllowed view a status
  run_ends does status text to untouched writes =
      let outcome = outcome_by of to.result in (
        outcome,
        record {
          has = subst (HasAt view a outcome) (sym is_command) (does outcome (to.result, (to.comes, untouched), refl));
          ends = inl (to.status_is, subst (Writes a) to.text_is writes);
        },
      )
