-- What each sort of check binds, over texts that have those of the family and of the checks.
use Rattle.std.proofs.Common.{◌≡◌, ℕ, suc, zero, ◌<◌, ◌≤◌, List, [], ◌∷◌, ◌++◌, length, refl, sym, ◌∙◌, subst, arith}
use Rattle.std.proofs.Common.{inl}
use Rattle.std.specs.Prelude.{Option, Some, None, IsSome, IfSome, slice_get}
use Rattle.std.specs.List.{flat_map}
use Rattle.std.specs.Option.{option_map, option_to_list}
use Rattle.tw_base.specs.declared.events.event_part.EventPart.{EventPart}
use Rattle.tw_base.specs.declared.history.thread.Key.{Key}
use Rattle.tw_base.specs.declared.history.thread.Thread.{Thread}
use Rattle.tw_base.specs.declared.history.tree_proof.Ask.{Ask}
use Rattle.tw_base.specs.declared.history.tree_proof.Ask.TheVariants as ask
use Rattle.tw_base.specs.declared.history.tree_proof.TreeProof.{TreeProof}
use Rattle.tw_base.specs.events.AuditPath.{audit_texts}
use Rattle.tw_base.specs.history.Auth.{auth}
use Rattle.tw_base.specs.kinds.Bytes.{AreBytes}
use Rattle.tw_base.specs.kinds.Clash.{OrClash, Within}
use Rattle.tw_base.specs.kinds.Digests.{AllDigests}
use Rattle.tw_base.specs.events.EventTree.{event_texts}
use Rattle.tw_base.specs.history.Facts.{SeenStands}
use Rattle.tw_base.specs.history.Family.{AllSound, HasHistory, HasThread, HasThreads, family_texts}
use Rattle.tw_base.specs.history.History.{History, events_at}
use Rattle.tw_base.specs.history.HistoryTexts.{history_texts, tree_texts}
use Rattle.tw_base.specs.kinds.Lists.{Each}
use Rattle.tw_base.specs.history.Tree.{entries, tree}
use Rattle.tw_base.proofs.lemmas.history.Anchoring.{anchor_of-is}
use Rattle.tw_base.proofs.lemmas.history.ArchiveTexts.{joined_within, tree_texts-within}
use Rattle.tw_base.proofs.lemmas.history.Auths.{has-event_text}
use Rattle.tw_base.proofs.lemmas.kinds.Clashes.{Among-left, Among-right, OrClash-wider, and_then}
use Rattle.tw_base.proofs.lemmas.history.Families.{sound_of, texts_within}
use Rattle.tw_base.proofs.lemmas.kinds.ListLemmas.{Each-parts}
use Rattle.tw_base.proofs.lemmas.history.SoundEvents.{sound-may_record}
use Rattle.tw_base.proofs.lemmas.history.Trees.{tree-rising}
use Rattle.tw_base.specs.history.TreeProofs.{ancestors_of}
use Rattle.tw_events.proofs.Binding.{ChecksEvent-binds}
use Rattle.tw_skipproof.specs.declared.existence.Part.{Part}
use Rattle.tw_skipproof.specs.declared.opening.Opening.{Opening}
use Rattle.tw_skipproof.specs.declared.path.Link.{Link}
use Rattle.tw_skipproof.specs.Acceptance.{Reaches, part_texts}
use Rattle.tw_skipproof.specs.Openings.{Binds, HasOpeningSizes, IsOpeningAt, opening_auth, opening_texts}
use Rattle.tw_skipproof.specs.Paths.{Climbs, HasLinkSizes, path_texts}
use Rattle.tw_skipproof.proofs.OpeningBinding.{opening-binds_sound}
use Rattle.tw_skipproof.proofs.PathBinding.{climb-binds}
use Rattle.tw_treeproof.specs.Answers.{Checks, IsAnswer, Shows, shown_answer, tree_proof_texts}
use Rattle.tw_treeproof.specs.Sizes.{HasProofSizes}
use Rattle.tw_treeproof.proofs.Binding.{check-binds}
use Rattle.tw_chain.specs.declared.proof.LinkProof.{LinkProof}
use Rattle.tw_chain.specs.Accepting.{seen_at}
use Rattle.tw_chain.specs.Checks.{Check, link_checks, link_top, top_of, under_anchor}
use Rattle.tw_chain.specs.Checks.Check.{AnswerOf, EventOf, LinkOf, NeedsAnchor, OpeningOf, PathOf}
use Rattle.tw_chain.specs.Checks.Upper.{AtAnchor}
use Rattle.tw_chain.specs.Passing.{Passes, anchor_at, check_texts, held_by}
use Rattle.tw_chain.proofs.PieceSizes.{PartSizes}

shows-answer : (dig : List ℕ → List ℕ) (root : List ℕ) (asked : Ask) (proof : TreeProof) → Checks dig root asked proof
    → Shows dig root asked proof (shown_answer asked (ancestors_of proof))
shows-answer dig root (ask.Present e) proof checks = (checks, refl)
shows-answer dig root (ask.Absent key) proof checks = (checks, refl)
shows-answer dig root (ask.Below key) proof checks = (checks, refl)
shows-answer dig root (ask.Above key) proof checks = (checks, refl)

-- a family of sound histories, anchors, and texts that have the family's: what is bound is so, or these clash
pub record Setting : Type 0 where
  pub dig : List ℕ → List ℕ
  pub size : (text : List ℕ) → length (dig text) ≡ 32
  pub bytes : (text : List ℕ) → AreBytes (dig text)
  pub anchors : List Thread
  pub family : List History
  pub sound : AllSound family
  pub texts : List (List ℕ)
  pub has_texts : Within (family_texts dig family) texts

-- over the family's texts, and these
abbrev pub setting_of : (dig : List ℕ → List ℕ) → ((text : List ℕ) → length (dig text) ≡ 32)
    → ((text : List ℕ) → AreBytes (dig text)) → List Thread → (family : List History) → AllSound family
    → List (List ℕ) → Setting
setting_of dig size are anchors family sound texts = record {
  dig = dig;
  size = size;
  bytes = are;
  anchors = anchors;
  family = family;
  sound = sound;
  texts = family_texts dig family ++ texts;
  has_texts = λ t a. Among-left t (family_texts dig family) texts a;
}

module _ (s : Setting) where
  -- it is so, or two of the texts clash
  abbrev pub OrTheyClash : Type 0 → Type 0
  OrTheyClash P = OrClash s.dig s.texts P

  -- a check that passes; the family has the threads that are held for it, and its texts are among these
  pub record Checked (c : Check) : Type 0 where
    pub passes : Passes s.dig s.anchors c
    pub has : HasThreads s.dig s.family (held_by s.anchors c)
    pub within : Within (check_texts s.dig c) s.texts

  -- all of these
  abbrev pub AreChecked : List Check → Type 0
  AreChecked = Each Checked

  pub parted : (xs ys : List Check) → AreChecked (xs ++ ys) → AreChecked xs × AreChecked ys
  parted = Each-parts Checked

  pub each-checked : (cs : List Check) → Each (Passes s.dig s.anchors) cs → HasThreads s.dig s.family
      (flat_map (held_by s.anchors) cs)
      → Within (flat_map (check_texts s.dig) cs) s.texts → AreChecked cs
  each-checked [] pass has within = tt
  each-checked (c ∷ cs) pass has within =
      let threads = Each-parts (HasThread s.dig s.family) (held_by s.anchors c) (flat_map (held_by s.anchors) cs) has in
      let own : List (List ℕ) = check_texts s.dig c in
      let others : List (List ℕ) = flat_map (check_texts s.dig) cs in (
        record { passes = pass.0; has = threads.0; within = λ t a. within t (Among-left t own others a) },
        each-checked cs pass.1 threads.1 (λ t a. within t (Among-right t own others a)),
      )

  -- the family's history of the service has the step, of which the opening's fields are
  pub record Opened (service : List ℕ) (step : ℕ) (o : Opening) : Type 0 where
    pub history : History
    pub has : HasHistory s.family service history
    pub some : 0 < step
    pub within : step ≤ length history.steps
    pub binds : Binds s.dig history step o

  -- ---- anchors

  pub record Anchored (key : Key) : Type 0 where
    pub anchor : Thread
    pub is : anchor_at s.anchors key ≡ Some anchor
    pub has : HasThread s.dig s.family (record { from = key.from; step = key.step; auth = anchor.auth })

  pub anchored : (key : Key) → Checked (NeedsAnchor key) → Anchored key
  anchored key held = by (anchor_at s.anchors key) refl held.passes held.has
    where
      by : (o : Option Thread) → anchor_at s.anchors key ≡ o → IsSome o → HasThreads s.dig s.family (option_to_list o)
          → Anchored key
      by None is some has = cc
      by (Some t) is some has =
          let names = anchor_of-is s.anchors key.from key.step t is in
          let P : List ℕ → ℕ → Type 0 = λ from step. HasThread s.dig s.family
          (record { from = from; step = step; auth = t.auth }) in
          record { anchor = t; is = is; has = subst (λ from. P from key.step) names.0 (subst (P t.from) names.1 has.0) }

  -- what passes with an anchor that may not be held, passes with the one that is
  with_anchor : (P : List ℕ → Type 0) (o : Option Thread) (t : Thread) → o ≡ Some t
      → IfSome (option_map (λ (u : Thread). u.auth) o) P → P t.auth
  with_anchor P o t is passes = subst (λ x. IfSome (option_map (λ (u : Thread). u.auth) x) P) is passes

  -- what holds unless texts of one history clash with some of these
  of_history : (service : List ℕ) (h : History) (part own : List (List ℕ)) (P : Type 0) → HasHistory s.family service h
      → Within part (history_texts s.dig h) → Within own s.texts
      → OrClash s.dig (part ++ own) P → OrTheyClash P
  of_history service h part own P has of_h within fact =
      OrClash-wider s.dig (part ++ own) s.texts P
      (joined_within part own s.texts (λ t a. s.has_texts t (texts_within s.dig s.family service h has t (of_h t a)))
      within) fact

  -- ---- threads, and what they open

  climbed-thread : (service : List ℕ) (links : List Link) (from to : ℕ) (bottom upper : List ℕ)
      → HasThread s.dig s.family (record { from = service; step = from; auth = upper })
      → to ≤ from → AreBytes bottom → HasLinkSizes links → Climbs s.dig links from to bottom upper
      → Within (path_texts s.dig links from to bottom) s.texts
      → OrTheyClash (HasThread s.dig s.family (record { from = service; step = to; auth = bottom }))
  climbed-thread service links from to bottom upper thread order is sizes climbs within =
      let h : History = thread.0 in
      and_then s.dig s.texts _ _
      (of_history service h (history_texts s.dig h) (path_texts s.dig links from to bottom) (bottom ≡ auth s.dig h to)
      thread.1 (λ t a. a) within
      (climb-binds s.dig s.size s.bytes h links from to bottom (sound_of s.family service h s.sound thread.1) is sizes
      climbs.shape order thread.2 (climbs.reaches ∙ sym thread.3)))
      (λ same. inl (h, thread.1, omega (arith, order, thread.2), sym same))

  thread-opened : (t : Thread) (o : Opening) → HasOpeningSizes o → HasThread s.dig s.family t → IsOpeningAt t.step o
      → opening_auth s.dig t.step o ≡ t.auth
      → Within (opening_texts s.dig t.step o) s.texts → OrTheyClash (Opened t.from t.step o)
  thread-opened t o sizes thread is computes within =
      let h : History = thread.0 in
      and_then s.dig s.texts _ _
      (of_history t.from h (history_texts s.dig h) (opening_texts s.dig t.step o) (Binds s.dig h t.step o) thread.1
      (λ text a. a) within
      (opening-binds_sound s.dig s.size s.bytes h t.step o sizes is (sound_of s.family t.from h s.sound thread.1)
      thread.2 (computes ∙ sym thread.3)))
      (λ binds. inl (record { history = h; has = thread.1; some = is.0; within = thread.2; binds = binds }))

  pub opening-step : (part : ℕ) (t : Thread) (o : Opening) → HasOpeningSizes o → HasThread s.dig s.family t
      → Checked (OpeningOf part t o) → OrTheyClash (Opened t.from t.step o)
  opening-step part t o sizes thread checked = thread-opened t o sizes thread checked.passes.0 checked.passes.1
      checked.within

  -- a step under one that the family has
  pub part-step : (at : Part) (upper : List ℕ) → PartSizes at → HasThread s.dig s.family
      (record { from = at.service; step = at.top; auth = upper }) → at.step ≤ at.top
      → Reaches s.dig at upper → Within (part_texts s.dig at) s.texts
      → OrTheyClash (Opened at.service at.step at.opening)
  unfolding part_texts opening_auth
  part-step at upper sizes thread order reaches within =
      let bottom : List ℕ = opening_auth s.dig at.step at.opening in
      let opened : List (List ℕ) = opening_texts s.dig at.step at.opening in
      let climbed : List (List ℕ) = path_texts s.dig at.path.links at.top at.step bottom in
      and_then s.dig s.texts _ _
      (climbed-thread at.service at.path.links at.top at.step bottom upper thread order (s.bytes _) sizes.links
      reaches.path (λ t a. within t (Among-right t opened climbed a)))
      (λ has. thread-opened (record { from = at.service; step = at.step; auth = bottom }) at.opening sizes.opening has
      reaches.opening refl (λ t a. within t (Among-left t opened climbed a)))

  pub anchored-part : (part : ℕ) (at : Part) → PartSizes at → AreChecked (under_anchor part at)
      → OrTheyClash (Opened at.service at.step at.opening)
  anchored-part part at sizes checked =
      let held : Anchored (top_of at) = anchored (top_of at) checked.1.0 in
      let path : Checked (PathOf part at (AtAnchor (top_of at))) = checked.1.1.0 in
      part-step at held.anchor.auth sizes held.has checked.0.passes
      (with_anchor (Reaches s.dig at) (anchor_at s.anchors (top_of at)) held.anchor held.is path.passes) path.within

  pub link-step : (part : ℕ) (l : LinkProof) → AreBytes l.auth → HasLinkSizes l.path.links
      → AreChecked (link_checks part l)
      → OrTheyClash (HasThread s.dig s.family (record { from = l.service; step = l.step; auth = l.auth }))
  link-step part l is sizes checked =
      let held : Anchored (link_top l) = anchored (link_top l) checked.1.0 in
      let link : Checked (LinkOf part l) = checked.1.1.0 in
      climbed-thread l.service l.path.links l.top l.step l.auth held.anchor.auth held.has checked.0.passes is sizes
      (with_anchor (Climbs s.dig l.path.links l.top l.step l.auth) (anchor_at s.anchors (link_top l)) held.anchor
      held.is link.passes) link.within

  -- ---- what an opened step shows

  events-within : (h : History) (step : ℕ) → 0 < step → step ≤ length h.steps
      → Within (event_texts s.dig (events_at h step)) (history_texts s.dig h)
  events-within h zero some within = absurd (omega (arith, some))
  events-within h (suc i) some within = λ t a. has-event_text s.dig h t i (omega (arith, within)) a

  pub event-step : (part : ℕ) (at : Part) (e : EventPart) → AreBytes e.event × AllDigests e.path
      → Opened at.service at.step at.opening → Checked (EventOf part at.opening e)
      → OrTheyClash (SeenStands s.family (seen_at at e))
  event-step part at e sizes opened checked =
      let h : History = opened.history in
      let events : List (List ℕ) = events_at h at.step in
      let o : Opening = at.opening in
      and_then s.dig s.texts _ _
      (of_history at.service h (event_texts s.dig events) (audit_texts s.dig o.count e.index e.event e.path)
      (slice_get events e.index ≡ Some e.event) opened.has
      (events-within h at.step opened.some opened.within) checked.within
      (ChecksEvent-binds s.dig s.size s.bytes o.event_root o.count e.index e.event e.path sizes.0 sizes.1 checked.passes
      events
      (sound-may_record h at.step (sound_of s.family at.service h s.sound opened.has)).are.bytes opened.binds.count
      opened.binds.event_root))
      (λ stands. inl (record { history = h; has = opened.has; stands = stands; time = opened.binds.time }))

  -- the answer is that of the archive at the step
  pub answer-step : (part : ℕ) (service : List ℕ) (step : ℕ) (o : Opening) (asked : Ask) (proof : TreeProof)
      → HasProofSizes asked proof → (opened : Opened service step o)
      → Checked (AnswerOf part o.archive_root asked proof)
      → OrTheyClash (IsAnswer (entries (tree opened.history step)) asked (shown_answer asked (ancestors_of proof)))
  answer-step part service step o asked proof sizes opened checked =
      let h : History = opened.history in
      of_history service h (tree_texts s.dig (tree h step)) (tree_proof_texts s.dig asked proof) _ opened.has
      (tree_texts-within s.dig h step opened.within) checked.within
      (check-binds s.dig s.size s.bytes o.archive_root asked proof (shown_answer asked (ancestors_of proof))
      (shows-answer s.dig o.archive_root asked proof checked.passes) (λ right. sizes)
      (tree h step) (tree-rising h (sound_of s.family service h s.sound opened.has) step) opened.binds.archive_root)
