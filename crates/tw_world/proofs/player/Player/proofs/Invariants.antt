-- What the loop over the files keeps.
use Rattle.std.proofs.Common.{◌≡◌, ℕ, List, take}
use Rattle.std.specs.Prelude.{Option}
use Rattle.tw_world.specs.Runs.{AreFiles, AreProofs}
use Rattle.tw_world.specs.Worlds.{World}
use Rattle.tw_world.proofs.player.Player.proofs.Given as goal

-- the files so far were made, and are these proofs
abbrev pub invariant-loop-number : goal.invariant-loop-number
invariant-loop-number l =
    (w : World) → l.self.files.items ≡ w.files → (files : List (Option (List ℕ))) × AreFiles w
    (take l.number-index l.numbers) files × AreProofs files l.proofs
