-- What an accepted file says is so of the histories of a family that has its line.
use Rattle.std.proofs.Common.{◌≡◌, ℕ, ◌-◌, ◌<◌, ◌≤◌, List, [], ◌∷◌, ◌++◌, length, refl, sym, ◌∙◌, subst, inl}
use Rattle.std.specs.Prelude.{Option, Some, None, IfSome}
use Rattle.std.specs.List.{flat_map}
use Rattle.std.specs.Option.{option_to_list}
use Rattle.tw_base.specs.declared.history.thread.Thread.{Thread}
use Rattle.tw_base.specs.declared.history.tree_proof.Ask.{Ask}
use Rattle.tw_base.specs.declared.history.tree_proof.Ask.TheVariants.{Present, Absent, Below, Above}
use Rattle.tw_base.specs.events.EventTree.{event_root}
use Rattle.tw_base.specs.history.Auth.{auth}
use Rattle.tw_base.specs.history.Family.{HasHistory, HasThread, HasThreads}
use Rattle.tw_base.specs.history.History.{History, events_at, time_at}
use Rattle.tw_base.specs.kinds.Clash.{Within}
use Rattle.tw_base.proofs.lemmas.history.Anchoring.{anchor_of-is}
use Rattle.tw_base.proofs.lemmas.history.Families.{sound_of}
use Rattle.tw_base.proofs.lemmas.kinds.Clashes.{Among-right, and_then}
use Rattle.tw_base.specs.history.TreeProofs.{ancestors_of}
use Rattle.tw_skipproof.specs.declared.existence.Part.{Part}
use Rattle.tw_skipproof.specs.Acceptance.{Reaches, part_texts}
use Rattle.tw_skipproof.specs.Openings.{opening_auth, opening_auth_text, opening_texts}
use Rattle.tw_skipproof.specs.Paths.{Climbs, path_texts}
use Rattle.tw_chain.specs.declared.proof.LinkProof.{LinkProof}
use Rattle.tw_chain.specs.Checks.{Check, link_checks, top_of, under_anchor}
use Rattle.tw_chain.specs.Checks.Check.{AnswerOf}
use Rattle.tw_chain.specs.Checks.Upper.{AtAnchor}
use Rattle.tw_chain.specs.Passing.{anchor_at, held_by, upper_auth}
use Rattle.tw_chain.proofs.CheckBinds.{AreChecked, Opened, OrTheyClash, Setting, anchored-part, answer-step}
use Rattle.tw_chain.proofs.CheckBinds.{each-checked, link-step, parted}
use Rattle.tw_chain.proofs.PieceSizes.{PartSizes}
use Rattle.tw_contradict.specs.ArchiveFiles.{archive_checks, archive_texts, line_of_archive, order_checks}
use Rattle.tw_contradict.specs.Facts.{asked_entry, facts_of, lack_of, nearest_of}
use Rattle.tw_contradict.specs.Verdicts.{Says}
use Rattle.tw_contradict.specs.declared.archive_proof.ArchiveProof.{ArchiveProof}
use Rattle.tw_contradict.specs.declared.facts.Facts.{Facts}
use Rattle.tw_contradict.proofs.Shown.{EntryStands, LackStands, answer-stands}
use Rattle.tw_contradict.proofs.Sizes.{ArchiveSizes, file-sizes}

-- the history has what the file says of a service's archive, step and line
pub record Stands (dig : List ℕ → List ℕ) (h : History) (facts : Facts) : Type 0 where
  pub has_step : (0 < facts.step) × (facts.step ≤ length h.steps)
  pub has_entry : EntryStands h facts.step facts.entry
  pub has_lack : LackStands h facts.lack
  pub has_auth : auth dig h facts.step ≡ facts.auth
  pub has_before : auth dig h (facts.step - 1) ≡ facts.before
  pub has_root : event_root dig (events_at h facts.step) ≡ facts.event_root
  pub has_count : length (events_at h facts.step) ≡ facts.count
  pub has_time : time_at h facts.step ≡ facts.time
  pub has_line : auth dig h facts.line.step ≡ facts.line.auth

-- the family's history of the service has it
pub record FactsStand (dig : List ℕ → List ℕ) (family : List History) (facts : Facts) : Type 0 where
  pub history : History
  pub has : HasHistory family facts.service history
  pub stands : Stands dig history facts

-- a family has one history of a service
pub one-history : (family : List History) (service : List ℕ) (g h : History) → HasHistory family service g
    → HasHistory family service h → g ≡ h
one-history family service g h is also = let some : Some g ≡ Some h = sym is ∙ also in cc

-- the family has what is held for the checks, where it has the line
held-line : (dig : List ℕ → List ℕ) (family : List History) (anchors : List Thread) (a : ArchiveProof) (line : Thread)
    → line_of_archive anchors a ≡ Some line
    → HasThread dig family line → HasThreads dig family (flat_map (held_by anchors) (archive_checks a))
held-line dig family anchors a line is has = by a.ask
  where
    one : HasThreads dig family (option_to_list (anchor_at anchors (top_of a.at)) ++ [])
    one = subst (λ (o : Option Thread). HasThreads dig family (option_to_list o ++ [])) (sym is) (has, tt)

    by : (asked : Ask) → HasThreads dig family
        (flat_map (held_by anchors)
        (under_anchor 0 a.at ++ (order_checks asked a.at.step ++ AnswerOf 0 a.at.opening.archive_root asked a.shown
        ∷ [])))
    by (Present e) = one
    by (Absent key) = one
    by (Below key) = one
    by (Above key) = one

module _ (s : Setting) where
  -- ---- the authenticator that the opening computes

  -- the step under its top, as a link to its authenticator
  abbrev linked : Part → LinkProof
  linked at = record {
    service = at.service;
    step = at.step;
    top = at.top;
    auth = opening_auth s.dig at.step at.opening;
    path = at.path;
  }

  path-climbs : (at : Part) (upper : Option (List ℕ)) → IfSome upper (Reaches s.dig at)
      → IfSome upper (Climbs s.dig at.path.links at.top at.step (opening_auth s.dig at.step at.opening))
  path-climbs at None reaches = tt
  path-climbs at (Some auth) reaches = reaches.path

  linked-checked : (at : Part) → AreChecked s (under_anchor 0 at) → AreChecked s (link_checks 0 (linked at))
  unfolding part_texts
  linked-checked at checked =
      let path = checked.1.1.0 in
      let own : List (List ℕ) = opening_texts s.dig at.step at.opening in
      let climbed : List (List ℕ) =
      path_texts s.dig at.path.links at.top at.step (opening_auth s.dig at.step at.opening) in (
        checked.0,
        (
          checked.1.0,
          (
            record {
              passes = path-climbs at (upper_auth s.anchors (AtAnchor (top_of at))) path.passes;
              has = tt;
              within = λ t a. path.within t (Among-right t own climbed a);
            },
            tt,
          ),
        ),
      )

  part-auth : (at : Part) → PartSizes at → AreChecked s (under_anchor 0 at)
      → OrTheyClash s (HasThread s.dig s.family
      (record { from = at.service; step = at.step; auth = opening_auth s.dig at.step at.opening }))
  unfolding opening_auth
  part-auth at sizes checked =
      link-step s 0 (linked at) (s.bytes (opening_auth_text s.dig at.step at.opening)) sizes.links
      (linked-checked at checked)

  -- ---- what the file says

  module _ (a : ArchiveProof) (line : Thread) (opened : Opened s a.at.service a.at.step a.at.opening) where
    history-has : (from : List ℕ) (step : ℕ) (auth_is : List ℕ) → from ≡ a.at.service
        → HasThread s.dig s.family (record { from = from; step = step; auth = auth_is })
        → auth s.dig opened.history step ≡ auth_is
    history-has from step auth_is name has =
        let own : HasHistory s.family a.at.service has.0 =
        subst (λ (n : List ℕ). HasHistory s.family n has.0) name has.1 in
        subst (λ (h : History). auth s.dig h step ≡ auth_is)
        (one-history s.family a.at.service has.0 opened.history own opened.has) has.3

    stands-of : EntryStands opened.history a.at.step (asked_entry a.ask (nearest_of a))
        × LackStands opened.history (lack_of a.at.step a.ask (nearest_of a))
        → HasThread s.dig s.family
        (record { from = a.at.service; step = a.at.step; auth = opening_auth s.dig a.at.step a.at.opening })
        → line.from ≡ a.at.service → HasThread s.dig s.family line
        → FactsStand s.dig s.family (facts_of s.dig line a)
    stands-of archive own name held = record {
      history = opened.history;
      has = opened.has;
      stands = record {
        has_step = (opened.some, opened.within);
        has_entry = archive.0;
        has_lack = archive.1;
        has_auth = history-has a.at.service a.at.step (opening_auth s.dig a.at.step a.at.opening) refl own;
        has_before = opened.binds.prev;
        has_root = opened.binds.event_root;
        has_count = opened.binds.count;
        has_time = opened.binds.time;
        has_line = history-has line.from line.step line.auth name held;
      };
    }

  facts-stand : (a : ArchiveProof) (line : Thread) → ArchiveSizes a → AreChecked s (archive_checks a)
      → line.from ≡ a.at.service → HasThread s.dig s.family line
      → OrTheyClash s (FactsStand s.dig s.family (facts_of s.dig line a))
  facts-stand a line sizes checked name held =
      let order : List Check = order_checks a.ask a.at.step in
      let answer : Check = AnswerOf 0 a.at.opening.archive_root a.ask a.shown in
      let parts = parted s (under_anchor 0 a.at) (order ++ answer ∷ []) checked in
      let last = parted s order (answer ∷ []) parts.1 in
      and_then s.dig s.texts _ _ (anchored-part s 0 a.at sizes.part parts.0)
      (λ (opened : Opened s a.at.service a.at.step a.at.opening). and_then s.dig s.texts _ _
      (part-auth a.at sizes.part parts.0)
      (λ own. and_then s.dig s.texts _ _
      (answer-step s 0 a.at.service a.at.step a.at.opening a.ask a.shown sizes.shown opened last.1.0)
      (λ is. inl (stands-of a line opened
      (answer-stands opened.history (sound_of s.family a.at.service opened.history s.sound opened.has) a.at.step
      opened.within a.ask (ancestors_of a.shown) is) own name held))))

  -- what an accepted file says, where the family has its line, and its texts are among these
  pub says-stands : (bytes : List ℕ) (facts : Facts) (said : Says s.dig s.anchors bytes facts)
      → HasThread s.dig s.family facts.line
      → Within (archive_texts s.dig said.proof) s.texts → OrTheyClash s (FactsStand s.dig s.family facts)
  says-stands bytes facts said has within =
      let a : ArchiveProof = said.proof in
      let checked : AreChecked s (archive_checks a) =
      each-checked s (archive_checks a) said.accepted (held-line s.dig s.family s.anchors a facts.line said.line has)
      within in
      let name : facts.line.from ≡ a.at.service =
      (anchor_of-is s.anchors a.at.service a.at.top facts.line said.line).0 in
      subst (λ (f : Facts). OrTheyClash s (FactsStand s.dig s.family f)) (sym said.facts_are)
      (facts-stand a facts.line (file-sizes bytes a said.is_file) checked name has)
