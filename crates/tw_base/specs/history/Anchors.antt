-- Anchors: the threads that a verifier holds.
use Rattle.std.specs.Prelude.{ℕ, List, Bool, Option, find, ◌&&◌, ◌==◌}
use Rattle.std.specs.Str.{bytes_eq}
use Rattle.tw_base.specs.declared.history.thread.Thread.{Thread}

abbrev pub is_at : (service : List ℕ) (step : ℕ) → Thread → Bool
is_at service step t = bytes_eq t.from service && t.step == step

-- the anchor of this service and step, the first where there are several
abbrev pub anchor_of : List Thread → (service : List ℕ) (step : ℕ) → Option Thread
anchor_of anchors service step = find (is_at service step) anchors
