-- From a history file that was read to what showing an event of it comes to.
use Rattle.std.proofs.Common.{◌≡◌, ℕ, ◌<◌, ◌≤◌, List, length, take, min, refl, sym, subst, ap, arith, inl, inr}
use Rattle.std.specs.Prelude.{Result, Ok, Err, IfOk}
use Rattle.std.proofs.lemmas.List.{length-take}
use Rattle.sha2.specs.Sha256.{sha256}
use Rattle.tw_base.specs.history.Auth.{auth}
use Rattle.tw_base.specs.history.History.{History}
use Rattle.tw_base.specs.history.Sound.{IsSound}
use Rattle.tw_outside.specs.Files.{IsReadTo, IsThere}
use Rattle.tw_base.specs.format.Formats.{Spells}
use Rattle.tw_base.proofs.lemmas.format.FormatLaws.{one_value}
use Rattle.tw_skipproof.specs.declared.existence.ExistenceProof.{ExistenceProof}
use Rattle.tw_skipproof.specs.Acceptance.{IsAcceptedUnder}
use Rattle.tw_skipproof.specs.Existence.{existence_layout}
use Rattle.tw_chain.proofs.Completeness.{Accepts-made}
use Rattle.tw_skipproof.specs.HistoryProofs.{MakesExistence}
use Rattle.tw_skipproof.proofs.WideIndex.{makes_at}
use Rattle.tw_base.specs.declared.kinds.limits.TheConstants.{MOST_HISTORY_BYTES}
use Rattle.tw_history.specs.Refusals.{ReadsHistory, RefusesEvent}
use Rattle.tw_history.specs.declared.fault.HistoryFault.{HistoryFault}
use Rattle.tw_history.specs.declared.fault.HistoryFault.TheVariants.{Malformed, NoMemory, TooLong, Unsound}
use Rattle.tw_history.specs.declared.fault.ShowFault.{ShowFault}
use Rattle.tw_history.specs.declared.fault.ShowFault.TheVariants as show
use Rattle.tw_base.specs.declared.history.refusal.Refusal.TheVariants.{NoStep, NoEvent}
use Rattle.tw_outside.specs.Asked.{Asked}
use Rattle.tw_text.specs.declared.fault.CommandFault.{CommandFault}
use Rattle.tw_filecmd.specs.Faults.{fault_of_history, fault_of_show}
use Rattle.tw_filecmd.proofs.FormatFronts.{whole_below}
use Rattle.tw_filecmd.specs.Showing.{OfHistory, ProvesEvent, RefusesToShow, ShowComes}

-- ---- what was read of the file

-- of a history file so many bytes are read
abbrev pub history_read : ℕ
history_read = 67108865

-- a file of which no more than the limit was read has no more
is_whole : (all bytes : List ℕ) → all ≡ take history_read bytes → length all ≤ MOST_HISTORY_BYTES → all ≡ bytes
is_whole all bytes is short = whole_below history_read all bytes is (omega (arith, short))

is_longer : (all bytes : List ℕ) → all ≡ take history_read bytes → MOST_HISTORY_BYTES < length all
    → MOST_HISTORY_BYTES < length bytes
is_longer all bytes is longer = omega (arith, ap length is, length-take history_read bytes, longer)

module _ (a : Asked) (file all : List ℕ) (there : IsThere a.told file) (read : IsReadTo a.told file history_read
    all) where
  pub of_history : (P : History → Type 0) (h : History) → ReadsHistory all (Ok h) → P h → OfHistory a.told file P
  of_history P h reads holds = record {
    there = there;
    holds = λ bytes tells.
        let whole : all ≡ bytes = is_whole all bytes (read bytes tells) reads.0 in
        let same : ReadsHistory bytes (Ok h) = subst (λ b. ReadsHistory b (Ok h)) whole reads in
        (h, record { short = same.0; spelled = same.1; sound = same.2 }, holds);
  }

  of_fault : (step index : ℕ) (f : HistoryFault) → ReadsHistory all (Err f) → ShowComes a file step index
      (Err (fault_of_history file f))
  of_fault step index (TooLong count) reads =
      (refl, there, λ bytes tells. inl (is_longer all bytes (read bytes tells) reads.0, refl))
  of_fault step index (Malformed place) reads = (
    refl,
    there,
    λ bytes tells.
        inr (subst (λ b. ReadsHistory b (Err (Malformed place))) (is_whole all bytes (read bytes tells) reads.0) reads),
  )
  of_fault step index (Unsound broken rule) reads = (
    refl,
    there,
    λ bytes tells.
        subst (λ b. ReadsHistory b (Err (Unsound broken rule))) (is_whole all bytes (read bytes tells) reads.0) reads,
  )
  of_fault step index NoMemory reads = tt

  pub refuses_file : (step index : ℕ) (f : HistoryFault) (came : CommandFault) → ReadsHistory all (Err f)
      → came ≡ fault_of_history file f → ShowComes a file step index (Err came)
  refuses_file step index f came reads is =
      subst (λ (fault : CommandFault). ShowComes a file step index (Err fault)) (sym is) (of_fault step index f reads)

  -- what the history refuses, the command does
  pub refuses_show : (step index : ℕ) (h : History) (f : ShowFault) (came : CommandFault) → ReadsHistory all (Ok h)
      → RefusesEvent h step index f
      → came ≡ fault_of_show f → ShowComes a file step index (Err came)
  refuses_show step index h f came reads refuses is =
      subst (λ (e : CommandFault). ShowComes a file step index (Err e)) (sym is) (by f refuses)
    where
      by : (f : ShowFault) → RefusesEvent h step index f → ShowComes a file step index (Err (fault_of_show f))
      by (show.NoStep last) refuses = of_history (RefusesToShow step index (NoStep last)) h reads refuses
      by (show.NoEvent count) refuses = of_history (RefusesToShow step index (NoEvent count)) h reads refuses
      by show.NoMemory refuses = tt

-- ---- the event shown

module _ (h : History) (step at : ℕ) (bytes : List ℕ) (makes : MakesExistence sha256 h step at (length h.steps)
    bytes) where
  -- the step isn't above the last one, since the proof is accepted under its authenticator
  in_order : (p : ExistenceProof) × Spells existence_layout bytes p × IsAcceptedUnder sha256
      (auth sha256 h (length h.steps)) p → step ≤ length h.steps
  in_order own =
      let same : own.0 ≡ makes.0 = one_value existence_layout bytes own.0 makes.0 own.1 makes.1 in
      let order : makes.0.at.step ≤ makes.0.at.top = subst (λ (p : ExistenceProof). p.at.step ≤ p.at.top) same
      own.2.order in
      omega (arith, order, makes.2.at.at_step, makes.2.at.at_top)

pub shown_at : (h : History) (step index at : ℕ) → IsSound h → at ≡ min index 4294967295
    → (result : Result (List ℕ) ShowFault)
    → IfOk result (MakesExistence sha256 h step at (length h.steps))
    → IfOk result (λ bytes. (p : ExistenceProof) × Spells existence_layout bytes p × IsAcceptedUnder sha256
    (auth sha256 h (length h.steps)) p)
    → IfOk result (λ bytes. ProvesEvent step index bytes h)
shown_at h step index at sound is (Ok bytes) makes accepted =
    let own = makes_at sha256 h step index (length h.steps) bytes sound
    (subst (λ i. MakesExistence sha256 h step i (length h.steps) bytes) is makes) in
    record {
      makes = own;
      accepted = λ anchors anchor held reached.
          Accepts-made sha256 h step index (length h.steps) bytes anchors anchor
          (in_order h step at bytes makes accepted) own held reached;
    }
shown_at h step index at sound is (Err fault) makes accepted = tt
