-- What is heard of proofs, one after another, before the history is passed.
use Rattle.std.specs.Prelude.{◌≡◌, ℕ, ◌+◌, List, [], ◌∷◌, Option, Some, None, Result, Ok, Err}
use Rattle.std.specs.Option.{option_map_or}
use Rattle.tw_base.specs.declared.history.thread.Thread.{Thread}
use Rattle.tw_base.specs.history.History.{History}
use Rattle.tw_chain.specs.declared.verdict.Verdict.{Verdict}
use Rattle.tw_chain.specs.declared.verdict.Verdict.TheVariants.{Yes, No}
use Rattle.tw_adopt.specs.declared.adopted.AdoptFault.{AdoptFault}
use Rattle.tw_adopt.specs.declared.adopted.AdoptFault.TheVariants.{Part, Stranger, NoMemory}
use Rattle.tw_adopt.specs.declared.receiving.Receiving.{Receiving}
use Rattle.tw_adopt.specs.Adopting.{AreGood, IsAdoptFault, IsFirstFault, ShowsReceiving, furthest, receiving_of}

-- what a verdict on the proof with this number shows of the service
abbrev pub heard_of : (number : ℕ) (service : List ℕ) → Verdict → Result Receiving AdoptFault
heard_of number service (Yes report) = option_map_or (λ t. Ok t) (receiving_of service report.claim) (Err (Stranger number))
heard_of number service (No reason) = Err (Part number reason)

module _ (dig : List ℕ → List ℕ) (anchors : List Thread) (h : History) where
  -- of the proof with this number
  abbrev pub IsHeard : (number : ℕ) → List ℕ → Result Receiving AdoptFault → Type 0
  IsHeard number bytes (Ok t) = ShowsReceiving dig anchors h bytes t
  IsHeard number bytes (Err fault) = IsAdoptFault dig anchors h number bytes fault

  -- of the proofs, counted from this number on, each shows something, up to the first that has a fault, if one has
  abbrev pub AreHeard : (number : ℕ) → List (List ℕ) → List Receiving → Option AdoptFault → Type 0
  AreHeard number [] [] None = Unit {0}
  AreHeard number (bytes ∷ proofs) [] (Some fault) = IsAdoptFault dig anchors h number bytes fault
  AreHeard number (bytes ∷ proofs) (t ∷ shown) fault = ShowsReceiving dig anchors h bytes t × AreHeard (number + 1) proofs shown fault
  AreHeard _ _ _ _ = ⊥

  -- what is found of the proofs: what holds the history furthest, where each is good; else the first fault
  abbrev pub IsWeighed : List (List ℕ) → Result Receiving AdoptFault → Type 0
  IsWeighed proofs (Ok t) = (first : Receiving) × (rest : List Receiving) × AreGood dig anchors h proofs (first ∷ rest) × (t ≡ furthest first rest)
  IsWeighed proofs (Err NoMemory) = Unit {0}
  IsWeighed proofs (Err fault) = IsFirstFault dig anchors h 1 proofs fault
