-- The order of the reasons against a proof: by number, and of one number by place, part or count.
use Rattle.std.specs.Prelude.{◌≡◌, ◌⊎◌, ℕ, ◌<◌, ◌≤◌}
use Rattle.tw_base.specs.declared.history.report.Reason.{Reason}
use Rattle.tw_base.specs.declared.history.report.Reason.TheVariants.{Malformed, BadOrder, NotHeld, BadPath, BadOpening, BadEvent, BadTree, Carried}

abbrev pub reason_number : Reason → ℕ
reason_number (Malformed _) = 1
reason_number BadOrder = 2
reason_number (NotHeld _ _) = 3
reason_number (BadPath _) = 4
reason_number (BadOpening _) = 5
reason_number (BadEvent _) = 6
reason_number (BadTree _) = 7
reason_number (Carried _) = 8

-- what orders the reasons of one number; of the reasons without a place, a part or a count one at most stands
abbrev pub reason_place : Reason → ℕ
reason_place (Malformed place) = place
reason_place BadOrder = 0
reason_place (NotHeld _ _) = 0
reason_place (BadPath part) = part
reason_place (BadOpening part) = part
reason_place (BadEvent part) = part
reason_place (BadTree part) = part
reason_place (Carried count) = count

-- the first reason isn't above the second
abbrev pub IsNoHigher : Reason → Reason → Type 0
IsNoHigher one other =
    (reason_number one < reason_number other) ⊎ ((reason_number one ≡ reason_number other) × (reason_place one ≤ reason_place other))
