-- Which reasons stand against the bytes of a proof, and the lowest of them.
use Rattle.std.specs.Prelude.{◌≡◌, ◌≢◌, ◌⊎◌, ℕ, ◌<◌, List, [], ◌∷◌, length, Bool, true, Option, Some, None}
use Rattle.std.specs.Option.{option_map_or}
use Rattle.tw_base.specs.declared.history.thread.Key.{Key}
use Rattle.tw_base.specs.declared.history.thread.Thread.{Thread}
use Rattle.tw_base.specs.declared.history.report.Reason.{Reason}
use Rattle.tw_base.specs.declared.history.report.Reason.TheVariants.{Malformed, NotHeld, Carried}
use Rattle.tw_base.specs.format.Formats.{IsPlace, Spells, SpellsNothing}
use Rattle.tw_base.specs.history.Reasons.{IsNoHigher}
use Rattle.tw_chain.specs.declared.proof.Proof.{Proof}
use Rattle.tw_chain.specs.declared.verdict.Verdict.{Verdict}
use Rattle.tw_chain.specs.declared.verdict.Verdict.TheVariants.{Yes, No}
use Rattle.tw_chain.specs.Accepting.{Accepts, carried, named, report_of}
use Rattle.tw_chain.specs.Checks.{Check, checks}
use Rattle.tw_chain.specs.Proofs.{proof_layout}
use Rattle.tw_chain.specs.Passing.{Passes, anchor_at, reason_of}

-- of these services and steps the first one that no anchor has
abbrev pub first_not_held : List Thread → List Key → Option Key
first_not_held anchors [] = None
first_not_held anchors (key ∷ keys) = option_map_or (λ anchor. first_not_held anchors keys) (anchor_at anchors key) (Some key)

module _ (dig : List ℕ → List ℕ) (anchors : List Thread) (strict : Bool) where
  -- one of the checks doesn't pass, for this reason
  abbrev pub Fails : List Check → Reason → Type 0
  Fails [] reason = ⊥
  Fails (c ∷ cs) reason = ((reason ≡ reason_of c) × (Passes dig anchors c → ⊥)) ⊎ Fails cs reason

  -- the reason stands against a well-formed proof: of the anchors that it needs the first that isn't held; in the strict form
  -- the number of the threads that it carries; or that a check doesn't pass
  abbrev pub StandsAgainst : Proof → Reason → Type 0
  StandsAgainst p (Malformed place) = ⊥
  StandsAgainst p (NotHeld service step) = first_not_held anchors (named p) ≡ Some (record { from = service; step = step })
  StandsAgainst p (Carried count) = (strict ≡ true) × (0 < count) × (count ≡ length (carried p))
  StandsAgainst p reason = Fails (checks p) reason

  -- the reason stands against the bytes: they spell no proof, or one against which it stands
  abbrev pub Stands : List ℕ → Reason → Type 0
  Stands bytes reason =
      (SpellsNothing proof_layout bytes × ((place : ℕ) × IsPlace proof_layout bytes place × (reason ≡ Malformed place)))
      ⊎ ((p : Proof) × Spells proof_layout bytes p × StandsAgainst p reason)

  -- it stands, and is the lowest of all that stand
  pub record IsLowest (bytes : List ℕ) (reason : Reason) : Type 0 where
    pub stands : Stands bytes reason
    pub lowest : (other : Reason) → Stands bytes other → IsNoHigher reason other

  -- Yes exactly where the bytes are accepted and, in the strict form, no thread is carried, with the report of the proof that they
  -- spell; else the lowest reason
  abbrev pub IsVerdict : List ℕ → Verdict → Type 0
  IsVerdict bytes (Yes report) =
      (accepts : Accepts dig anchors bytes) × (strict ≡ true → carried accepts.0 ≡ []) × (report ≡ report_of accepts.0)
  IsVerdict bytes (No reason) =
      ((accepts : Accepts dig anchors bytes) → (strict ≡ true) × (carried accepts.0 ≢ [])) × IsLowest bytes reason
