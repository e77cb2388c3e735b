-- What a history that is taken over says of other histories.
use Rattle.std.specs.Prelude.{◌≡◌, ℕ, ◌≤◌, List, ◌++◌, length, Result, Ok, Err}
use Rattle.tw_base.specs.declared.history.thread.Thread.{Thread}
use Rattle.tw_base.specs.history.Auth.{auth}
use Rattle.tw_base.specs.history.Facts.{WasReceived}
use Rattle.tw_base.specs.history.Family.{AllSound, HasThreads, family_texts}
use Rattle.tw_base.specs.history.History.{History}
use Rattle.tw_base.specs.history.HistoryTexts.{history_texts}
use Rattle.tw_base.specs.history.Sound.{IsSound}
use Rattle.tw_base.specs.kinds.Clash.{OrClash}
use Rattle.tw_base.specs.kinds.Lists.{In}
use Rattle.tw_chain.specs.Accepting.{held, proof_texts}
use Rattle.tw_adopt.specs.HistoryFronts.{Same}
use Rattle.tw_adopt.specs.declared.adopted.AdoptFault.{AdoptFault}
use Rattle.tw_adopt.specs.declared.adopted.Adopted.{Adopted}
use Rattle.tw_adopt.specs.declared.receiving.Receiving.{Receiving}
use Rattle.tw_adopt.specs.Adopting.{ShowsReceiving}

module _ (dig : List ℕ → List ℕ) (h : History) where
  -- what is taken over is sound, and the same as the history up to its own last step, where both have one authenticator
  pub record IsAdoptedKept (a : Adopted) : Type 0 where
    pub sound : IsSound a.history
    pub last : length a.history.steps ≡ a.upto
    pub same : Same h a.history a.upto
    pub auth_same : auth dig a.history a.upto ≡ auth dig h a.upto

  -- every sound history that has the same authenticator at the last step that is taken over is the same up to there; or two texts of
  -- both histories clash
  abbrev pub IsOnly : Adopted → Type 0
  IsOnly a =
      (other : History) → IsSound other → a.upto ≤ length other.steps → auth dig other a.upto ≡ auth dig h a.upto
      → OrClash dig (history_texts dig h ++ history_texts dig other) (Same h other a.upto)

  -- that the thread of the last step that is taken over was received, with the history's authenticator there
  abbrev pub last_receiving : Adopted → Receiving
  last_receiving a = record {
    by = a.by;
    entry = record { thread = record { from = h.name; step = a.upto; auth = auth dig h a.upto }; archived = a.archived };
  }

  module _ (anchors : List Thread) (proofs : List (List ℕ)) where
    -- one of the proofs shows that
    pub record IsAdoptionShown (a : Adopted) : Type 0 where
      pub bytes : List ℕ
      pub among : In bytes proofs
      pub shows : ShowsReceiving dig anchors h bytes (last_receiving a)

    -- what any of the proofs shows is so: in every family of sound histories that has the threads held of the proof, the thread was
    -- received by that service and at that step; or two texts of the family and of the proof clash
    abbrev pub AreSo : Type 0
    AreSo =
        (bytes : List ℕ) (r : Receiving) → In bytes proofs → (shows : ShowsReceiving dig anchors h bytes r)
        → (family : List History) → AllSound family → HasThreads dig family (held anchors shows.0.0)
        → OrClash dig (family_texts dig family ++ proof_texts dig shows.0.0) (WasReceived family r.by r.entry.archived r.entry)

    -- where the history is taken over, all of that is so
    abbrev pub BindsAdoption : Result Adopted AdoptFault → Type 0
    BindsAdoption (Ok a) = IsAdoptedKept a × IsOnly a × IsAdoptionShown a × AreSo
    BindsAdoption (Err fault) = Unit {0}
