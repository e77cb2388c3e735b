-- What the history that `adopt` writes says, by the reader's own lines.
use Rattle.std.specs.Prelude.{◌≡◌, ℕ, ◌≤◌, List, [], ◌∷◌, ◌++◌, length}
use Rattle.tw_base.specs.declared.history.report.Claim.TheVariants.{Archived}
use Rattle.tw_base.specs.declared.history.thread.Entry.{Entry}
use Rattle.tw_base.specs.declared.history.thread.Thread.{Thread}
use Rattle.tw_base.specs.format.Fields.{number_bytes}
use Rattle.tw_base.specs.format.Formats.{Spells}
use Rattle.tw_base.specs.history.Facts.{WasReceived}
use Rattle.tw_base.specs.history.Family.{HasHistory, HasThread}
use Rattle.tw_base.specs.history.History.{History}
use Rattle.tw_base.specs.history.HistoryCodec.{history_layout}
use Rattle.tw_base.specs.history.Sound.{IsSound}
use Rattle.tw_base.specs.kinds.Lists.{Each, In}
use Rattle.tw_chain.specs.Proofs.{kind_bytes}
use Rattle.tw_adopt.specs.HistoryFronts.{Same}
use Rattle.tw_plain.specs.Hashed.{hashed_texts}
use Rattle.tw_plain.specs.Plain.{IsClaim, IsSoInLists}
use Rattle.tw_service.specs.Machine.{last_thread}

-- an entry of an archive: the service, the step and the authenticator of the thread, and the step that received it
abbrev pub entry_bytes : Entry → List ℕ
entry_bytes e = e.thread.from ++ (number_bytes 8 e.thread.step ++ (e.thread.auth ++ number_bytes 8 e.archived))

-- the proof of a received thread: its kind, the service and the step whose archive has it, the way there, the entry, and what shows it
abbrev pub proof_of_thread : (service : List ℕ) (step : ℕ) (way : List ℕ) → Entry → (shown : List ℕ) → List ℕ
proof_of_thread service step way entry shown = kind_bytes 3 ++ (service ++ (number_bytes 8 step ++ (way ++ (entry_bytes entry ++ shown))))

module _ (dig : List ℕ → List ℕ) where
  -- the proof is of an entry that the archive of `by` has at this step, and the entry is of this thread. One of the lines that are held
  -- is of `by`, at this step or a later one. And in every list of sound histories that has each of those of `by`, its history received
  -- the thread, with this authenticator, at the entry's step
  pub record ShowsReceived (held : List Thread) (proof : List ℕ) (thread : Thread) : Type 0 where
    pub by : List ℕ
    pub step : ℕ
    pub entry : Entry
    pub of : entry.thread ≡ thread
    pub way : List ℕ
    pub shown : List ℕ
    pub of_proof : proof ≡ proof_of_thread by step way entry shown
    pub readable : IsClaim (Archived by step entry)
    pub line : (t : Thread) × In t held × (t.from ≡ by) × (step ≤ t.step)
    pub so : IsSoInLists dig held (by ∷ []) [] (hashed_texts dig proof) (λ family. WasReceived family by step entry)

  -- the bytes are the file of a sound history, which is the front of the one that the other file is of. Each proof shows that a thread of
  -- it was received, and one that the thread of its last step was. And in every list of sound histories that has this thread, the history
  -- of its name is the same up to there
  pub record IsPlainAdoption (whole : List ℕ) (held : List Thread) (proofs : List (List ℕ)) (bytes : List ℕ) : Type 0 where
    pub history : History
    pub tells : Spells history_layout bytes history
    pub sound : IsSound history
    pub front : (other : History) × Spells history_layout whole other × Same other history (length history.steps)
    pub received : Each (λ proof. (t : Thread) × HasThread dig (history ∷ []) t × ShowsReceived held proof t) proofs
    pub last : (proof : List ℕ) × In proof proofs × ShowsReceived held proof (last_thread dig history)
    pub only :
        IsSoInLists dig [] [] (last_thread dig history ∷ []) (λ family. hashed_texts dig [] (history ∷ family))
        (λ family. (other : History) × HasHistory family history.name other × Same history other (length history.steps))
