-- What is told of the link between two lines.
use Rattle.std.specs.Prelude.{◌≡◌, ◌≢◌, ℕ, List, [], true, false, Option, Some, None, is_some, if◌then◌else◌}
use Rattle.std.specs.Option.{option_map_or}
use Rattle.tw_base.specs.declared.history.thread.Thread.{Thread}
use Rattle.tw_base.specs.format.Formats.{Spells}
use Rattle.tw_chain.specs.declared.proof.LinkProof.{LinkProof}
use Rattle.tw_chain.specs.declared.proof.Proof.TheVariants.{Linked}
use Rattle.tw_chain.specs.Proofs.{proof_layout}
use Rattle.tw_contradict.specs.declared.verdict.Joining.{Joining}
use Rattle.tw_contradict.specs.declared.verdict.Joining.TheVariants.{Joined, Apart, BadLink}
use Rattle.tw_contradict.specs.declared.facts.Facts.{Facts}
use Rattle.tw_contradict.specs.declared.verdict.ContradictReason.TheVariants as reasons
use Rattle.tw_contradict.specs.declared.verdict.ContradictVerdict.{ContradictVerdict}
use Rattle.tw_contradict.specs.declared.verdict.ContradictVerdict.TheVariants.{Yes, No}
use Rattle.tw_contradict.specs.Facts.{is_same_line}
use Rattle.tw_contradict.specs.Rules.{conflict_of}
use Rattle.tw_contradict.specs.Verdicts.{IsLink, joins, link_leads}

-- the lines are joined, by the link or since they are one; or apart, without a link; or the link leads between other ones
abbrev pub IsJoining : (dig : List ℕ → List ℕ) → (one other : Thread) (link : List ℕ) → Joining → Type 0
IsJoining dig one other link Joined = (l : Option LinkProof) × IsLink link l × (joins dig one other l ≡ true)
IsJoining dig one other link Apart = (link ≡ []) × (is_same_line one other ≡ false)
IsJoining dig one other link BadLink = (link ≢ []) × ((l : LinkProof) → Spells proof_layout link (Linked l) → link_leads dig one other l ≡ false)

-- what is told of a proof that was read as a link
abbrev pub joining_by : (dig : List ℕ → List ℕ) → (one other : Thread) → Option LinkProof → Joining
joining_by dig one other link = option_map_or (λ l. if link_leads dig one other l then Joined else BadLink) link BadLink

-- the verdict on two files that say this
abbrev pub IsVerdictOn : (dig : List ℕ → List ℕ) → (one other : Facts) (link : List ℕ) → ContradictVerdict → Type 0
IsVerdictOn dig one other link (Yes conflict is_joined) =
    (conflict_of dig one other ≡ Some conflict)
    × ((between : Option LinkProof) × IsLink link between × (joins dig one.line other.line between ≡ is_joined) × (is_some between ≡ true → is_joined ≡ true))
IsVerdictOn dig one other link (No reasons.NoConflict) = conflict_of dig one other ≡ None
IsVerdictOn dig one other link (No reasons.BadLink) =
    (conflict_of dig one other ≢ None) × ((link ≢ []) × ((l : LinkProof) → Spells proof_layout link (Linked l) → link_leads dig one.line other.line l ≡ false))
IsVerdictOn dig one other link (No (reasons.Part number reason)) = ⊥
