-- The map files of a service: what is found of them in its pages, and which ones a history has.
use Rattle.std.specs.Prelude.{ℕ, ◌-◌, List, nat_le, Option, Some, None, Result, Ok, if◌then◌else◌}
use Rattle.tw_base.specs.declared.history.tree_proof.TreeProof.{TreeProof}
use Rattle.tw_base.specs.format.Formats.{Spells}
use Rattle.tw_base.specs.history.History.{History}
use Rattle.tw_disk.specs.Found.{Found, ◌>>=◌}
use Rattle.tw_disk.specs.Found.Found.{Is}
use Rattle.tw_disk.specs.Image.{Image}
use Rattle.tw_skiplist.specs.declared.head.Head.{Head}
use Rattle.tw_skiplist.specs.declared.info.StepInfo.{StepInfo}
use Rattle.tw_skiplist.specs.declared.info.StepProof.{StepProof}
use Rattle.tw_skiplist.specs.Readings.{found_proof, found_step}
use Rattle.tw_tmap.specs.declared.map_file.HighFile.{HighFile}
use Rattle.tw_tmap.specs.declared.map_file.LowFile.{LowFile}
use Rattle.tw_tmap.specs.declared.map_file.LowPart.{LowPart}
use Rattle.tw_tmap.specs.Checking.{first_after, last_before}
use Rattle.tw_tmap.specs.MapFiles.{high_bytes, high_layout, low_bytes, low_layout}
use Rattle.tw_tmap.specs.OwnFiles.{IsOwnHigh, IsOwnLow}
use Rattle.tw_answers.specs.Finds.{tree_shown}
use Rattle.tw_base.specs.declared.history.refusal.Refusal.{Refusal}

-- what a low file shows of the step before
abbrev pub mapped_low_part : StepProof → TreeProof → LowPart
mapped_low_part proof tree = record { path = proof.path; opening = proof.info.opening; shown = tree }

module _ (name : List ℕ) (step : ℕ) (peer : List ℕ) (top : ℕ) where
  -- the low file of a step, with what it shows of the step before
  abbrev pub low_with : Option LowPart → LowFile
  low_with shown = record { service = name; step = step; peer = peer; top = top; shown = shown }

  -- the high file of a top, for a step of the peer
  abbrev pub high_with : StepInfo → TreeProof → HighFile
  high_with info tree = record { service = name; top = top; peer = peer; step = step; opening = info.opening; shown = tree }

-- ---- what is found

module _ (dig : List ℕ → List ℕ) (pages : Image) (head : Head) (step : ℕ) (peer : List ℕ) (top : ℕ) where
  -- from step 2 on the step before is read under the top, and then the way to the peer's last thread in its archive; of step 1 no page is
  -- read
  unfoldable pub low_before : Found (Option LowPart)
  low_before =
      if nat_le step 1 then Is None
      else (found_proof dig pages head top (step - 1) >>= (λ proof. tree_shown dig pages proof.info.archive (last_before peer) >>= (λ tree. Is (Some (mapped_low_part proof tree)))))

  module _ (name : List ℕ) where
    unfoldable pub low_file : Found (Result (List ℕ) Refusal)
    low_file = low_before >>= (λ shown. Is (Ok (low_bytes (low_with name step peer top shown))))

    -- the top is read, and then the way to the peer's first thread of the step or of a later one in its archive
    unfoldable pub high_file : Found (Result (List ℕ) Refusal)
    high_file =
        found_step dig pages head top
        >>= (λ info. tree_shown dig pages info.archive (first_after peer step) >>= (λ tree. Is (Ok (high_bytes (high_with name step peer top info tree)))))

-- ---- what a history has

module _ (dig : List ℕ → List ℕ) (h : History) (step : ℕ) (peer : List ℕ) (top : ℕ) (bytes : List ℕ) where
  -- the bytes spell the low file that the history has of its step and this peer, under this top
  abbrev pub MakesLow : Type 0
  MakesLow = (f : LowFile) × Spells low_layout bytes f × IsOwnLow dig h step peer top f

  -- the bytes spell the high file that the history has of this top, for this step of the peer
  abbrev pub MakesHigh : Type 0
  MakesHigh = (f : HighFile) × Spells high_layout bytes f × IsOwnHigh dig h top peer step f
