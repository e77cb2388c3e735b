-- What proofs that threads of a service were received say of a history of it, and how far the history is taken over by them.
use Rattle.std.specs.Prelude.{◌≡◌, ◌≢◌, ◌⊎◌, ℕ, ◌+◌, List, [], ◌∷◌, false, Option, Some, None, nat_lt, if◌then◌else◌, Result, Ok, Err}
use Rattle.std.specs.Str.{bytes_eq}
use Rattle.tw_base.specs.declared.history.report.Claim.{Claim}
use Rattle.tw_base.specs.declared.history.report.Claim.TheVariants.{Archived}
use Rattle.tw_base.specs.declared.history.thread.Thread.{Thread}
use Rattle.tw_base.specs.history.History.{History}
use Rattle.tw_chain.specs.declared.verdict.Verdict.TheVariants.{No}
use Rattle.tw_chain.specs.Accepting.{Accepts, claim_of}
use Rattle.tw_chain.specs.Reasons.{IsVerdict}
use Rattle.tw_base.specs.history.Auth.{auth_within}
use Rattle.tw_adopt.specs.HistoryFronts.{first_steps}
use Rattle.tw_adopt.specs.declared.adopted.AdoptFault.{AdoptFault}
use Rattle.tw_adopt.specs.declared.adopted.AdoptFault.TheVariants.{Part, Stranger, Differs, NoMemory}
use Rattle.tw_adopt.specs.declared.adopted.Adopted.{Adopted}
use Rattle.tw_adopt.specs.declared.receiving.Receiving.{Receiving}

-- that a thread of the service was received, and by whom, where the claim says so; none where the claim is of another kind, or its
-- thread of another service
abbrev pub receiving_of : (service : List ℕ) → Claim → Option Receiving
receiving_of service (Archived by step entry) = if bytes_eq entry.thread.from service then Some (record { by = by; entry = entry }) else None
receiving_of service _ = None

-- of both the one whose thread is of the later step, and of one step the first
abbrev pub further : (first next : Receiving) → Receiving
further first next = if nat_lt first.entry.thread.step next.entry.thread.step then next else first

-- of several the first whose thread is of the greatest step
abbrev pub furthest : (first : Receiving) → (rest : List Receiving) → Receiving
furthest first [] = first
furthest first (r ∷ rest) = furthest (further first r) rest

-- the history is taken over up to the step of the thread that was received
abbrev pub adopted_by : History → Receiving → Adopted
adopted_by h r = record {
  upto = r.entry.thread.step;
  by = r.by;
  archived = r.entry.archived;
  history = first_steps h r.entry.thread.step;
}

module _ (dig : List ℕ → List ℕ) (anchors : List Thread) (h : History) where
  -- the bytes are those of an accepted proof, which claims that a thread of the history's service was received like this
  abbrev pub ShowsReceiving : List ℕ → Receiving → Type 0
  ShowsReceiving bytes r = (accepts : Accepts dig anchors bytes) × (receiving_of h.name (claim_of accepts.0) ≡ Some r)

  -- they are those of an accepted proof, which claims nothing like it
  abbrev pub ShowsNoReceiving : List ℕ → Type 0
  ShowsNoReceiving bytes = (accepts : Accepts dig anchors bytes) × (receiving_of h.name (claim_of accepts.0) ≡ None)

  -- the proof shows this, and the history has the thread's authenticator at the thread's step
  abbrev pub IsGood : List ℕ → Receiving → Type 0
  IsGood bytes r = ShowsReceiving bytes r × (auth_within dig h r.entry.thread.step ≡ Some r.entry.thread.auth)

  -- the proof shows that the service had this authenticator at this step, where the history has another one, or no such step
  pub record IsOther (bytes : List ℕ) (step : ℕ) (held : List ℕ) (found : Option (List ℕ)) : Type 0 where
    pub shown : Receiving
    pub shows : ShowsReceiving bytes shown
    pub step_is : step ≡ shown.entry.thread.step
    pub held_is : held ≡ shown.entry.thread.auth
    pub found_is : found ≡ auth_within dig h step
    pub differs : found ≢ Some held

  -- the fault of the proof with this number: it isn't accepted, for the lowest reason that stands; it claims nothing of a thread of
  -- the history's service; or the history has another authenticator at the thread's step, or no such step
  abbrev pub IsAdoptFault : (number : ℕ) → List ℕ → AdoptFault → Type 0
  IsAdoptFault number bytes (Part n reason) = (n ≡ number) × IsVerdict dig anchors false bytes (No reason)
  IsAdoptFault number bytes (Stranger n) = (n ≡ number) × ShowsNoReceiving bytes
  IsAdoptFault number bytes (Differs n step held found) = (n ≡ number) × IsOther bytes step held found
  IsAdoptFault number bytes NoMemory = ⊥

  -- each of the proofs is good, and they show these
  abbrev pub AreGood : List (List ℕ) → List Receiving → Type 0
  AreGood [] [] = Unit {0}
  AreGood (bytes ∷ proofs) (r ∷ shown) = IsGood bytes r × AreGood proofs shown
  AreGood _ _ = ⊥

  -- it is the fault of the first of the proofs that isn't good, where they are counted from this number on
  abbrev pub IsFirstFault : (number : ℕ) → List (List ℕ) → AdoptFault → Type 0
  IsFirstFault number [] fault = ⊥
  IsFirstFault number (bytes ∷ proofs) fault =
      IsAdoptFault number bytes fault ⊎ ((r : Receiving) × IsGood bytes r × IsFirstFault (number + 1) proofs fault)

  -- what is answered of the proofs: where each is good, how far the history is taken over by what they show; else the fault of the
  -- first that isn't. Want of memory is free
  abbrev pub IsAdoption : List (List ℕ) → Result Adopted AdoptFault → Type 0
  IsAdoption proofs (Ok a) = (first : Receiving) × (rest : List Receiving) × AreGood proofs (first ∷ rest) × (a ≡ adopted_by h (furthest first rest))
  IsAdoption proofs (Err NoMemory) = Unit {0}
  IsAdoption proofs (Err fault) = IsFirstFault 1 proofs fault
