-- What is told of links, of both files, and that proofs of kinds 3 and 4 leave no history.
use Rattle.std.proofs.Common.{◌≡◌, ◌≢◌, ℕ, ◌≤◌, List, [], ◌∷◌, ◌++◌, length, refl, sym, ◌∙◌, subst, arith}
use Rattle.std.specs.Prelude.{Bool, true, false, Option, Some, None, IfSome, IsSome, ◌==◌, if◌then◌else◌}
use Rattle.std.specs.Option.{option_map, option_to_list}
use Rattle.std.proofs.lemmas.List.{append-nil}
use Rattle.tw_base.specs.declared.history.thread.Entry.{Entry}
use Rattle.tw_base.specs.declared.history.thread.Thread.{Thread}
use Rattle.tw_base.specs.declared.kinds.limits.TheConstants.{LAST_STEP}
use Rattle.tw_base.specs.format.Formats.{Spells}
use Rattle.tw_base.specs.history.Anchors.{anchor_of}
use Rattle.tw_base.specs.history.Entries.{key_of}
use Rattle.tw_base.specs.history.Facts.{WasNotReceived, WasReceived}
use Rattle.tw_base.specs.history.Family.{HasHistory, HasThreads, family_texts}
use Rattle.tw_base.specs.history.History.{History, entry_at, received}
use Rattle.tw_base.specs.kinds.Bytes.{AreBytes}
use Rattle.tw_base.specs.kinds.Lists.{Each}
use Rattle.tw_base.proofs.lemmas.format.FormatLaws.{one_value}
use Rattle.tw_base.proofs.lemmas.history.Archives.{received-has}
use Rattle.tw_base.proofs.lemmas.kinds.Clashes.{Among-left, Among-right, OrClash-wider, and_then, both_within}
use Rattle.tw_base.proofs.lemmas.kinds.ListLemmas.{Each-in, Each-parts}
use Rattle.tw_skipproof.specs.Acceptance.{Reaches}
use Rattle.tw_skipproof.specs.Openings.{IsOpeningAt}
use Rattle.tw_treeproof.specs.Answers.{Checks}
use Rattle.tw_chain.specs.declared.proof.AbsenceProof.{AbsenceProof}
use Rattle.tw_chain.specs.declared.proof.LinkProof.{LinkProof}
use Rattle.tw_chain.specs.declared.proof.Proof.{Proof}
use Rattle.tw_chain.specs.declared.proof.Proof.TheVariants.{Exists, Precedes, Archived, Absent, Linked}
use Rattle.tw_chain.specs.declared.proof.ThreadProof.{ThreadProof}
use Rattle.tw_chain.specs.Accepting.{IsAccepted, held, proof_texts}
use Rattle.tw_chain.specs.Checks.{Check, under_anchor}
use Rattle.tw_chain.specs.Checks.Check.{AnswerOf}
use Rattle.tw_chain.specs.Passing.{Passes}
use Rattle.tw_chain.specs.Proofs.{link_of, proof_layout}
use Rattle.tw_chain.proofs.Headline.{headline}
use Rattle.tw_contradict.specs.ArchiveFiles.{IsFileOf, archive_checks, archive_texts, line_of_archive, order_checks}
use Rattle.tw_contradict.specs.Facts.{facts_of}
use Rattle.tw_contradict.specs.Rules.{IsBroken, rule_texts}
use Rattle.tw_contradict.specs.Linking.{IsJoining, IsVerdictOn, joining_by}
use Rattle.tw_contradict.specs.Verdicts.{IsContradictVerdict, NoneHas, Says, link_leads}
use Rattle.tw_contradict.specs.declared.archive_proof.ArchiveProof.{ArchiveProof}
use Rattle.tw_contradict.specs.declared.facts.Conflict.{Conflict}
use Rattle.tw_contradict.specs.declared.facts.Facts.{Facts}
use Rattle.tw_contradict.specs.declared.verdict.ContradictReason.TheVariants.{Part, NoConflict, BadLink}
use Rattle.tw_contradict.specs.declared.verdict.ContradictVerdict.{ContradictVerdict}
use Rattle.tw_contradict.specs.declared.verdict.ContradictVerdict.TheVariants.{Yes, No}
use Rattle.tw_contradict.specs.declared.verdict.Joining.TheVariants as joining
use Rattle.tw_contradict.proofs.Conflicts.{both-none, conflict-free, conflict-names}
use Rattle.tw_contradict.proofs.Joined.{lines-none, link-sizes}

-- ---- one file

module _ (dig : List ℕ → List ℕ) (anchors : List Thread) (a : ArchiveProof)
    (passes : Each (Passes dig anchors) (archive_checks a)) where
  -- the tree proof gives its answer
  pub answer-checks : Checks dig a.at.opening.archive_root a.ask a.shown
  answer-checks =
      let P : Check → Type 0 = Passes dig anchors in
      let answer : Check = AnswerOf 0 a.at.opening.archive_root a.ask a.shown in
      let rest = Each-parts P (under_anchor 0 a.at) (order_checks a.ask a.at.step ++ answer ∷ []) passes in
      (Each-parts P (order_checks a.ask a.at.step) (answer ∷ []) rest.1).1.0

  -- and the line of the top is held
  pub line-held : line_of_archive anchors a ≡ None → ⊥
  line-held none = let some = subst IsSome none passes.1.0 in absurd (cc)

  -- the opening is one of the step
  pub opening-is : (line : Thread) → line_of_archive anchors a ≡ Some line → IsOpeningAt a.at.step a.at.opening
  opening-is line is =
      (subst (λ (o : Option Thread). IfSome (option_map (λ (t : Thread). t.auth) o) (Reaches dig a.at)) is
      passes.1.1.0).opening

  pub says-of : (bytes : List ℕ) (line : Thread) → IsFileOf bytes a → line_of_archive anchors a ≡ Some line
      → Says dig anchors bytes (facts_of dig line a)
  says-of bytes line is_file is =
      record { proof = a; is_file = is_file; accepted = passes; line = is; facts_are = refl }

-- ---- the link

pub not-empty : (xs : List ℕ) → (length xs == 0) ≡ false → xs ≢ []
not-empty [] is e = absurd (cc)
not-empty (x ∷ xs) is e = cc

pub read-small : (link : List ℕ) (p : Proof) → Spells proof_layout link p → IfSome (link_of p)
    (λ l. l.top ≤ LAST_STEP)
read-small link (Exists p) spells = tt
read-small link (Precedes p) spells = tt
read-small link (Archived p) spells = tt
read-small link (Absent p) spells = tt
read-small link (Linked l) spells = (link-sizes link l spells).top

module _ (dig : List ℕ → List ℕ) (one other : Thread) (link : List ℕ) (some : link ≢ []) where
  other-kind : (p : Proof) → Spells proof_layout link p → ((l : LinkProof) → p ≡ Linked l → ⊥) → IsJoining dig one other
      link joining.BadLink
  other-kind p spells other = (some, λ l also. absurd (other l (one_value proof_layout link p (Linked l) spells also)))

  pub read-joining : (p : Proof) → Spells proof_layout link p → IsJoining dig one other link
      (joining_by dig one other (link_of p))
  read-joining (Exists p) spells = other-kind (Exists p) spells (λ l is. cc)
  read-joining (Precedes p) spells = other-kind (Precedes p) spells (λ l is. cc)
  read-joining (Archived p) spells = other-kind (Archived p) spells (λ l is. cc)
  read-joining (Absent p) spells = other-kind (Absent p) spells (λ l is. cc)
  read-joining (Linked l) spells = by (link_leads dig one other l) refl
    where
      by : (b : Bool) → link_leads dig one other l ≡ b → IsJoining dig one other link
          (if b then joining.Joined else joining.BadLink)
      by true is = (Some l, spells, is)
      by false is = (
        some,
        λ m also. (
            let whole : Linked l ≡ Linked m = one_value proof_layout link (Linked l) (Linked m) spells also in
            let same : l ≡ m = cc in subst (λ (k : LinkProof). link_leads dig one other k ≡ false) same is),
      )

-- ---- the verdict on what both say

module _ (dig : List ℕ → List ℕ) (size : (text : List ℕ) → length (dig text) ≡ 32) (are : (text : List ℕ)
    → AreBytes (dig text)) (anchors others : List Thread)
    (first second : List ℕ) where
  pub verdict-of : (link : List ℕ) (one other : Facts) (v : ContradictVerdict) → Says dig anchors first one
      → Says dig others second other → IsVerdictOn dig one other link v
      → IsContradictVerdict dig anchors others first second link v
  verdict-of link one other (Yes c is_joined) said also (is, (between, is_link, joined, no_bad)) = record {
    one = one;
    other = other;
    first_says = said;
    second_says = also;
    conflict_is = is;
    broken = conflict-names dig one other c is;
    between = between;
    is_link = is_link;
    joined_is = joined;
    no_bad_link = no_bad;
    none = lines-none dig size are anchors others first second one other c said also (conflict-names dig one other c is)
        is_joined link between is_link
        joined;
  }
  verdict-of link one other (No NoConflict) said also is =
      (one, other, record { first_says = said; second_says = also }, conflict-free dig one other is)
  verdict-of link one other (No BadLink) said also is =
      (one, other, record { first_says = said; second_says = also }, is.0, is.1)
  verdict-of link one other (No (Part number reason)) said also is = absurd is

  -- both lines, with no text of a link
  pub none-alone : (one other : Facts) (c : Conflict) → (said : Says dig anchors first one)
      → (also : Says dig others second other) → IsBroken dig one other c
      → NoneHas dig (one.line ∷ other.line ∷ [])
      (archive_texts dig said.proof ++ (archive_texts dig also.proof ++ rule_texts c.rule))
  none-alone one other c said also named =
      subst (λ (texts : List (List ℕ)). NoneHas dig (one.line ∷ other.line ∷ [])
      (archive_texts dig said.proof ++ (archive_texts dig also.proof ++ texts))) (append-nil (rule_texts c.rule))
      (both-none dig size are anchors others first second one other c [] said also named)

  -- ---- a proof that a thread was received, and one that it wasn't

  module _ (p : ThreadProof) (q : AbsenceProof) (one other : Thread) where
    received-not : (family : List History) → p.at.service ≡ q.at.service → key_of p.entry ≡ q.key
        → p.at.step ≤ q.at.step
        → WasReceived family p.at.service p.at.step p.entry → WasNotReceived family q.at.service q.at.step q.key → ⊥
    received-not family service key order was was_not =
        let has : HasHistory family q.at.service was.history = subst (λ (n : List ℕ). HasHistory family n was.history)
        service was.has in
        let one_history : was.history ≡ was_not.history = (let some : Some was.history ≡ Some was_not.history =
        sym has ∙ was_not.has in cc) in
        let at : entry_at was_not.history p.entry.archived ≡ Some p.entry =
        subst (λ (h : History). entry_at h p.entry.archived ≡ Some p.entry) one_history was.received in
        let up : p.entry.archived ≤ p.at.step = was.order in
        Each-in (λ (e : Entry). key_of e ≢ q.key) (received was_not.history q.at.step) p.entry was_not.none
        (received-has was_not.history q.at.step p.entry.archived p.entry (omega (arith, order, up)) at) key

    pub keeper-none : Spells proof_layout first (Archived p) → IsAccepted dig anchors (Archived p)
        → Spells proof_layout second (Absent q) → IsAccepted dig others (Absent q)
        → p.at.service ≡ q.at.service → key_of p.entry ≡ q.key → p.at.step ≤ q.at.step → anchor_of anchors p.at.service
        p.at.top ≡ Some one
        → anchor_of others q.at.service q.at.top ≡ Some other → NoneHas dig (one ∷ other ∷ [])
        (proof_texts dig (Archived p) ++ proof_texts dig (Absent q))
    keeper-none p_spells p_accepted q_spells q_accepted service key order one_is other_is family sound has =
        let of_family : List (List ℕ) = family_texts dig family in
        let of_p : List (List ℕ) = proof_texts dig (Archived p) in
        let of_q : List (List ℕ) = proof_texts dig (Absent q) in
        let all : List (List ℕ) = of_family ++ (of_p ++ of_q) in
        let p_held : HasThreads dig family (held anchors (Archived p)) =
        subst (λ (o : Option Thread). HasThreads dig family (option_to_list o ++ [])) (sym one_is) (has.0, tt) in
        let q_held : HasThreads dig family (held others (Absent q)) =
        subst (λ (o : Option Thread). HasThreads dig family (option_to_list o ++ [])) (sym other_is) (has.1.0, tt) in
        and_then dig all _ _
        (OrClash-wider dig (of_family ++ of_p) all _ (both_within of_family of_p of_family (of_p ++ of_q) (λ t a. a)
        (λ t a. Among-left t of_p of_q a))
        (headline dig size are anchors first (Archived p) p_spells p_accepted family sound p_held))
        (λ was. and_then dig all _ _
        (OrClash-wider dig (of_family ++ of_q) all _ (both_within of_family of_q of_family (of_p ++ of_q) (λ t a. a)
        (λ t a. Among-right t of_p of_q a))
        (headline dig size are others second (Absent q) q_spells q_accepted family sound q_held))
        (λ was_not. absurd (received-not family service key order was.0 was_not.0)))
