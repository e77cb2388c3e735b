-- What is told of two files, each under lines of its own, and of the link between these lines; and that no sound history has them.
use Rattle.std.specs.Prelude.{◌≡◌, ◌≢◌, ◌⊎◌, ℕ, List, [], ◌∷◌, ◌++◌, Bool, true, false, Option, Some, None, is_some, ◌==◌, ◌&&◌}
use Rattle.std.specs.Option.{option_map_or}
use Rattle.std.specs.Str.{bytes_eq}
use Rattle.tw_base.specs.declared.history.report.Reason.{Reason}
use Rattle.tw_base.specs.declared.history.report.Reason.TheVariants.{Malformed}
use Rattle.tw_base.specs.declared.history.thread.Thread.{Thread}
use Rattle.tw_base.specs.format.Formats.{Spells}
use Rattle.tw_base.specs.history.Family.{AllSound, HasThreads, family_texts}
use Rattle.tw_base.specs.history.History.{History}
use Rattle.tw_base.specs.kinds.Clash.{OrClash}
use Rattle.tw_base.specs.kinds.Lists.{Each}
use Rattle.tw_skipproof.specs.Paths.{path_texts}
use Rattle.tw_chain.specs.declared.proof.LinkProof.{LinkProof}
use Rattle.tw_chain.specs.declared.proof.Proof.TheVariants.{Linked}
use Rattle.tw_chain.specs.Finding.{climbs, found_in}
use Rattle.tw_chain.specs.Passing.{Passes}
use Rattle.tw_chain.specs.Proofs.{proof_layout}
use Rattle.tw_contradict.specs.declared.archive_proof.ArchiveProof.{ArchiveProof}
use Rattle.tw_contradict.specs.declared.facts.Conflict.{Conflict}
use Rattle.tw_contradict.specs.declared.facts.Facts.{Facts}
use Rattle.tw_contradict.specs.declared.verdict.ContradictReason.TheVariants.{Part, NoConflict, BadLink}
use Rattle.tw_contradict.specs.declared.verdict.ContradictVerdict.{ContradictVerdict}
use Rattle.tw_contradict.specs.declared.verdict.ContradictVerdict.TheVariants.{Yes, No}
use Rattle.tw_contradict.specs.ArchiveFiles.{IsFileOf, IsNoFile, archive_checks, archive_texts, line_of_archive}
use Rattle.tw_contradict.specs.Facts.{earlier_thread, facts_of, is_same_line, later}
use Rattle.tw_contradict.specs.Rules.{BreakNone, IsBroken, conflict_of, rule_texts}

-- the bytes of a link: none, or those of a proof of a step's authenticator
abbrev pub IsLink : List ℕ → Option LinkProof → Type 0
IsLink bytes None = bytes ≡ []
IsLink bytes (Some l) = Spells proof_layout bytes (Linked l)

-- the lines that no sound history has: the later one where they are joined, and else both together
abbrev pub held_lines : (is_joined : Bool) (one other : Thread) → List Thread
held_lines true one other = later one other ∷ []
held_lines false one other = one ∷ other ∷ []

module _ (dig : List ℕ → List ℕ) where
  -- no family of sound histories has these lines; or two of the histories' texts and of these clash
  abbrev pub NoneHas : (lines : List Thread) (texts : List (List ℕ)) → Type 0
  NoneHas lines texts =
      (family : List History) → AllSound family → HasThreads dig family lines → OrClash dig (family_texts dig family ++ texts) ⊥

  -- ---- one file

  -- the bytes are such a file, each of its checks passes under the anchors, and this is what it says under the line of its top
  pub record Says (anchors : List Thread) (bytes : List ℕ) (facts : Facts) : Type 0 where
    pub proof : ArchiveProof
    pub is_file : IsFileOf bytes proof
    pub accepted : Each (Passes dig anchors) (archive_checks proof)
    pub line : line_of_archive anchors proof ≡ Some facts.line
    pub facts_are : facts ≡ facts_of dig facts.line proof

  -- the lowest reason against it; Malformed, with the place 0, where the bytes are no such file
  abbrev pub IsAgainst : (anchors : List Thread) (bytes : List ℕ) → Reason → Type 0
  IsAgainst anchors bytes reason =
      (IsNoFile bytes × (reason ≡ Malformed 0))
      ⊎ ((a : ArchiveProof) × IsFileOf bytes a × (found_in dig anchors (archive_checks a) ≡ Some reason))

  -- ---- the link

  -- both lines are of the link's service, and the link leads from the later one down to the earlier one
  abbrev pub leads_down : (lower upper : Thread) → LinkProof → Bool
  leads_down lower upper l =
      bytes_eq l.service lower.from && (bytes_eq l.service upper.from && (l.step == lower.step && (l.top == upper.step
      && (bytes_eq l.auth lower.auth && climbs dig l.path.links l.top l.step l.auth (Some upper.auth)))))

  abbrev pub link_leads : (one other : Thread) → LinkProof → Bool
  link_leads one other l = leads_down (earlier_thread one other) (later one other) l

  -- lines are joined that are one, where there is no link; and else those that the link leads between
  abbrev pub joins : (one other : Thread) → Option LinkProof → Bool
  joins one other None = is_same_line one other
  joins one other (Some l) = link_leads one other l

  -- what checking the path of a link hashes
  abbrev pub link_proof_texts : Option LinkProof → List (List ℕ)
  link_proof_texts link = option_map_or (λ (l : LinkProof). path_texts dig l.path.links l.top l.step l.auth) link []

  -- ---- both files

  module _ (anchors others : List Thread) (first second link : List ℕ) where
    -- both are accepted, and the first rule that they break is this; a link, where there is one, joins their lines; and no sound history has
    -- the later line, where they are joined, or else both
    pub record Contradict (conflict : Conflict) (is_joined : Bool) : Type 0 where
      pub one : Facts
      pub other : Facts
      pub first_says : Says anchors first one
      pub second_says : Says others second other
      pub conflict_is : conflict_of dig one other ≡ Some conflict
      pub broken : IsBroken dig one other conflict
      pub between : Option LinkProof
      pub is_link : IsLink link between
      pub joined_is : joins one.line other.line between ≡ is_joined
      pub no_bad_link : is_some between ≡ true → is_joined ≡ true
      pub none :
          NoneHas (held_lines is_joined one.line other.line)
          (archive_texts dig first_says.proof ++ (archive_texts dig second_says.proof ++ (rule_texts conflict.rule ++ link_proof_texts between)))

    -- both are accepted
    pub record SayBoth (one other : Facts) : Type 0 where
      pub first_says : Says anchors first one
      pub second_says : Says others second other

    -- the verdict: that they break a rule, or the first reason that stands; of two files that are accepted, that they break none of the rules
    abbrev pub IsContradictVerdict : ContradictVerdict → Type 0
    IsContradictVerdict (Yes conflict is_joined) = Contradict conflict is_joined
    IsContradictVerdict (No (Part number reason)) =
        ((number ≡ 1) × IsAgainst anchors first reason)
        ⊎ ((number ≡ 2) × ((one : Facts) × Says anchors first one) × IsAgainst others second reason)
    IsContradictVerdict (No NoConflict) = (one : Facts) × (other : Facts) × SayBoth one other × BreakNone dig one other
    IsContradictVerdict (No BadLink) =
        (one : Facts) × (other : Facts) × SayBoth one other × (conflict_of dig one other ≢ None)
        × ((link ≢ []) × ((l : LinkProof) → Spells proof_layout link (Linked l) → link_leads one.line other.line l ≡ false))

  -- a rule is told to be broken; or the link is told to be none of the lines, which has bytes then, and isn't one
  abbrev pub IsFinding : (one other : Facts) (link : List ℕ) → ContradictVerdict → Type 0
  IsFinding one other link (Yes conflict is_joined) = Unit {0}
  IsFinding one other link (No BadLink) =
      (link ≢ []) × ((l : LinkProof) → Spells proof_layout link (Linked l) → link_leads one.line other.line l ≡ false)
  IsFinding one other link (No NoConflict) = ⊥
  IsFinding one other link (No (Part number reason)) = ⊥
