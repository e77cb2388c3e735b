-- What is found of the file in pages that keep a history is the history's, and is read as it again.
use Rattle.std.proofs.Common.{◌≡◌, ℕ, List}
use Rattle.std.specs.Prelude.{if◌then◌else◌}
use Rattle.tw_base.specs.history.History.{History}
use Rattle.tw_base.specs.history.Sound.{IsSound}
use Rattle.tw_base.proofs.lemmas.kinds.DigestBytes.{IsDigest}
use Rattle.tw_disk.specs.Found.Found.{Is}
use Rattle.tw_disk.specs.Image.{Image}
use Rattle.tw_disk.proofs.FoundLaws.{is_on}
use Rattle.tw_export.specs.Exporting.{found_file}
use Rattle.tw_base.specs.declared.history.refusal.Refusal.{Refusal}
use Rattle.tw_base.specs.declared.history.refusal.Refusal.TheVariants.{TooLong}
use Rattle.tw_answers.specs.declared.root.RootRecord.{RootRecord}
use Rattle.tw_answers.specs.Refusals.{IsTooLong}
use Rattle.tw_answers.proofs.TableAnswers.{IsTold}
use Rattle.tw_service.specs.Exporting.{file_or, file_told, history_file}
use Rattle.tw_service.specs.Stands.{KeepsWhole}
use Rattle.tw_service.proofs.KeptExports.{file_kept}

-- ---- what is found

module _ (dig : List ℕ → List ℕ) (size : (text : List ℕ) → IsDigest (dig text)) (ps : Image) (h : History)
    (r : RootRecord) (keeps : KeepsWhole dig ps h r) (sound : IsSound h) where
  pub export_kept : history_file dig ps h.name r.head ≡ Is (file_or (file_told h))
  unfolding history_file
  export_kept = is_on (found_file dig ps h.name r.head) (λ told. Is (file_or told)) (file_told h)
      (file_kept dig size ps h r keeps sound)

-- ---- steps of the machine

pub too_long_told : (r : Refusal) → IsTooLong r → IsTold r
too_long_told (TooLong n) own = ((λ fault. fault), (λ same. cc))
too_long_told _ own = absurd own
