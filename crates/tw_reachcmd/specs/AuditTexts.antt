-- What the program writes of an audit.
use Rattle.std.specs.Prelude.{ℕ, List, [], ◌∷◌, ◌++◌, codes, Option, Some, None}
use Rattle.tw_base.specs.declared.history.thread.Thread.{Thread}
use Rattle.tw_text.specs.Lines.{line}
use Rattle.tw_text.specs.Reports.{rejected_text, stands_text}
use Rattle.tw_text.specs.declared.field.Field.{Field}
use Rattle.tw_text.specs.declared.field.Field.TheVariants.{Word, Number, Named, Hex}
use Rattle.tw_audit.specs.declared.finding.Finding.TheVariants.{Clash, NotAccepted, Stands}
use Rattle.tw_reachcmd.specs.declared.auditing.Audited.{Audited}
use Rattle.tw_reachcmd.specs.declared.auditing.Audited.TheVariants.{Found, Unheld}

-- two texts with one digest
abbrev pub clash_text : (one other digest : List ℕ) → List ℕ
clash_text one other digest =
    line (codes "clash") [] ++ (line (codes "one") (Hex one ∷ []) ++ (line (codes "other") (Hex other ∷ []) ++ line (codes "digest") (Hex digest ∷ [])))

-- what the histories have at a step
abbrev pub found_field : Option (List ℕ) → Field
found_field None = Word (codes "none")
found_field (Some auth) = Hex auth

-- a thread held that the histories don't have, and what they have there
abbrev pub unheld_text : Thread → (found : Option (List ℕ)) → List ℕ
unheld_text held found = line (codes "unheld") (Named held.from ∷ Number held.step ∷ Hex held.auth ∷ found_field found ∷ [])

-- a proof that stands has the lines of its report from the second on; one that isn't accepted is told as `verify` does
abbrev pub audited_status : Audited → ℕ
audited_status (Found (Stands report)) = 0
audited_status (Found (NotAccepted reason)) = 1
audited_status (Found (Clash one other digest)) = 10
audited_status (Unheld held found) = 1

abbrev pub audited_text : Audited → List ℕ
audited_text (Found (Stands report)) = stands_text report
audited_text (Found (NotAccepted reason)) = rejected_text reason
audited_text (Found (Clash one other digest)) = clash_text one other digest
audited_text (Unheld held found) = unheld_text held found
