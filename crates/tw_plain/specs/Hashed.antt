-- The lists of texts of which two clash where what is printed isn't so.
use Rattle.std.specs.Prelude.{ℕ, List, [], ◌++◌}
use Rattle.tw_base.specs.format.Formats.{Reading, front}
use Rattle.tw_base.specs.format.Formats.Reading.{Took, Stopped}
use Rattle.tw_base.specs.history.Family.{family_texts}
use Rattle.tw_base.specs.history.History.{History}
use Rattle.tw_chain.specs.declared.proof.Proof.{Proof}
use Rattle.tw_chain.specs.Accepting.{proof_texts}
use Rattle.tw_chain.specs.Proofs.{proof_layout}
use Rattle.tw_tmap.specs.declared.map_file.HighFile.{HighFile}
use Rattle.tw_tmap.specs.declared.map_file.LowFile.{LowFile}
use Rattle.tw_tmap.specs.Checking.{map_texts}
use Rattle.tw_tmap.specs.MapFiles.{high_layout, low_layout}

module _ (dig : List ℕ → List ℕ) where
  -- the texts that checking the proof hashes, where one was read
  abbrev pub texts_read : Reading Proof → List (List ℕ)
  texts_read (Took p after) = proof_texts dig p
  texts_read (Stopped place) = []

  -- all texts that these histories hash, and those that checking the proof hashes which the bytes spell
  unfoldable pub hashed_texts : (proof : List ℕ) → List History → List (List ℕ)
  hashed_texts proof family = family_texts dig family ++ texts_read (front proof_layout proof 0)

  -- the texts that checking both map files hashes, where both were read
  abbrev pub maps_read : Reading LowFile → Reading HighFile → List (List ℕ)
  maps_read (Took low after) (Took high end) = map_texts dig low high
  maps_read _ _ = []

  -- all texts that these histories hash, and those that checking the map files hashes which the bytes of both spell
  unfoldable pub hashed_by_maps : (low high : List ℕ) → List History → List (List ℕ)
  hashed_by_maps low high family = family_texts dig family ++ maps_read (front low_layout low 0) (front high_layout high 0)
