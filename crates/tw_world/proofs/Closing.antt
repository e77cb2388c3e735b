-- In a closed family the threads that an accepted proof carries need not be held: each is the thread that the hop
-- before it shows as received.
use Rattle.std.proofs.Common.{◌≡◌, ℕ, suc, List, [], ◌∷◌, ◌++◌, length, Bool, true, false, refl, ap, sym, ◌∙◌, subst}
use Rattle.std.proofs.Common.{inl, arith}
use Rattle.std.specs.Prelude.{Option, Some, None, IsSome, IfSome, MatchOption, ◌==◌, if◌then◌else◌}
use Rattle.std.proofs.lemmas.Bool.{lt-ltb}
use Rattle.std.specs.List.{flat_map}
use Rattle.std.specs.Option.{option_to_list}
use Rattle.std.specs.Str.{bytes_eq}
use Rattle.std.proofs.lemmas.Slice.Eq.{bytes_eq-Decides}
use Rattle.tw_base.specs.declared.history.report.Hop.{Hop}
use Rattle.tw_base.specs.declared.history.thread.Key.{Key}
use Rattle.tw_base.specs.declared.history.thread.Thread.{Thread}
use Rattle.tw_base.specs.declared.history.tree_proof.Ask.TheVariants as ask
use Rattle.tw_base.specs.format.Codecs.{EachFits, behind, by_kind, each, optional, pair, present, seen, variant}
use Rattle.tw_base.specs.format.Formats.{Spells}
use Rattle.tw_base.specs.history.Family.{AllSound, HasHistory, HasThread, HasThreads, family_texts, history_of}
use Rattle.tw_base.specs.history.History.{History}
use Rattle.tw_base.specs.kinds.Bytes.{AreBytes}
use Rattle.tw_base.specs.kinds.Clash.{OrClash, Within}
use Rattle.tw_base.specs.kinds.Lists.{Each}
use Rattle.tw_base.proofs.lemmas.format.CodecLaws.{spelled-fits}
use Rattle.tw_base.proofs.lemmas.kinds.Clashes.{Among-left, Among-right, and_then}
use Rattle.tw_base.proofs.lemmas.kinds.ListLemmas.{Each-append, Each-parts}
use Rattle.tw_skipproof.specs.declared.opening.Opening.{Opening}
use Rattle.tw_skipproof.specs.Codecs.{opening_codec}
use Rattle.tw_treeproof.specs.Sizes.{HasProofSizes}
use Rattle.tw_chain.specs.declared.proof.HopPart.{HopPart}
use Rattle.tw_chain.specs.declared.proof.PrecedenceProof.{PrecedenceProof}
use Rattle.tw_chain.specs.declared.proof.Proof.TheVariants.{Precedes}
use Rattle.tw_chain.specs.Accepting.{IsAccepted, held, hop_from, hops_of, hops_to, named as named_by, proof_texts}
use Rattle.tw_chain.specs.Checks.{Check, bind_checks, bind_of, checks, end_of_order, head_checks, hop_checks}
use Rattle.tw_chain.specs.Checks.{hops_checks, link_checks, opening_checks, opening_root, start_of, tail_checks}
use Rattle.tw_chain.specs.Checks.{under_anchor}
use Rattle.tw_chain.specs.Checks.Check.{AnswerOf, CarriesThread, EventOf, InOrder, NeedsAnchor, OpeningOf}
use Rattle.tw_chain.specs.Passing.{Passes, anchor_at, carried_by, check_texts, held_by, needed_by}
use Rattle.tw_chain.specs.Proofs.{behind_codec, following, hop_bytes, hop_codec, hops_codec, kinds_codec}
use Rattle.tw_chain.specs.Proofs.{precedence_body, proof_codec, proof_layout}
use Rattle.tw_chain.proofs.ArchiveAnswers.{has-received}
use Rattle.tw_chain.proofs.ChainBinds.{FitsOpening}
use Rattle.tw_chain.proofs.CheckBinds.{AreChecked, Checked, Opened, OrTheyClash, Setting, anchored-part, answer-step}
use Rattle.tw_chain.proofs.CheckBinds.{opening-step, parted}
use Rattle.tw_chain.proofs.PieceSizes.{PartSizes, opening-sizes, part-sizes, present-sizes}
use Rattle.tw_chain.proofs.ProofCodec.{proof-lawful}
use Rattle.tw_world.specs.Order.{HasOwnThreads}

-- the history that is found has the name
same_some : (g h : History) → Some g ≡ Some h → g ≡ h
same_some g h e = cc

pub named-history : (family : List History) (name : List ℕ) (h : History) → HasHistory family name h → h.name ≡ name
named-history [] name h is = cc
named-history (g ∷ family) name h is = by (bytes_eq g.name name) refl is (λ q. named-history family name h q)
  where
    by : (b : Bool) → bytes_eq g.name name ≡ b → (if b then Some g else history_of family name) ≡ Some h
        → (HasHistory family name h → h.name ≡ name) → h.name ≡ name
    by true e is rest = ap (λ (x : History). x.name) (sym (same_some g h is)) ∙ (bytes_eq-Decides g.name name).0 e
    by false e is rest = rest is

there-of : (o : Option History) → IsSome o → (h : History) × (o ≡ Some h)
there-of None is = cc
there-of (Some h) is = (h, refl)

-- where one or more follow, there is an opening
some-opening : (more step : ℕ) (opening : Option Opening) → FitsOpening (suc more) step opening → MatchOption opening ⊥
    (opening_codec 0 step).Fits
unfolding present
some-opening more step opening fits =
    let P : Bool → Type 0 = λ b. (optional b (opening_codec 0 step)).Fits opening in
    subst P (lt-ltb 0 (suc more) (omega arith)) fits

-- what a hop's fields fit
hop-opening : (more : ℕ) (hop : HopPart) → (hop_codec more).Fits hop → FitsOpening more hop.entry.thread.step
    hop.opening
unfolding hop_codec pair seen
hop-opening more hop fits = fits.1.1.1.1

hop-shown : (more : ℕ) (hop : HopPart) → (hop_codec more).Fits hop → HasProofSizes (ask.Present hop.entry) hop.shown
unfolding hop_codec pair seen
hop-shown more hop fits = present-sizes hop.entry hop.shown fits.0 fits.1.0

module _ (s : Setting) (closed : HasOwnThreads s.dig s.family) where
  -- a check that passes, whose texts are among these, and whose anchor, where it needs one, the family has
  record Passed (c : Check) : Type 0 where
    passes : Passes s.dig s.anchors c
    within : Within (check_texts s.dig c) s.texts
    present : Each (λ (key : Key). IfSome (anchor_at s.anchors key) (HasThread s.dig s.family)) (needed_by c)

  abbrev ArePassed : List Check → Type 0
  ArePassed = Each Passed

  of_option : (o : Option Thread) → IfSome o (HasThread s.dig s.family) → HasThreads s.dig s.family (option_to_list o)
  of_option None is = tt
  of_option (Some t) is = (is, tt)

  -- with the thread that it carries, where it carries one, it is checked
  has-held : (c : Check) → Each (λ (key : Key). IfSome (anchor_at s.anchors key) (HasThread s.dig s.family))
      (needed_by c) → HasThreads s.dig s.family (carried_by c) → HasThreads s.dig s.family (held_by s.anchors c)
  has-held (NeedsAnchor key) present carried = of_option (anchor_at s.anchors key) present.0
  has-held (CarriesThread t) present carried = carried
  has-held _ present carried = tt

  checked : (c : Check) → Passed c → HasThreads s.dig s.family (carried_by c) → Checked s c
  checked c p carried = record { passes = p.passes; has = has-held c p.present carried; within = p.within }

  -- checks that carry no thread
  CarriesNone : Check → Type 0
  CarriesNone c = carried_by c ≡ []

  all-checked : (cs : List Check) → ArePassed cs → Each CarriesNone cs → AreChecked s cs
  unfolding CarriesNone
  all-checked [] passed none = tt
  all-checked (c ∷ cs) passed none =
      (checked c passed.0 (subst (HasThreads s.dig s.family) (sym none.0) tt), all-checked cs passed.1 none.1)

  opening-none : (part : ℕ) (t : Thread) (opening : Option Opening) → Each CarriesNone (opening_checks part t opening)
  unfolding CarriesNone
  opening-none part t None = tt
  opening-none part t (Some o) = (refl, (refl, tt))

  -- a hop from the archive at an opened step: it received the hop's thread, which the family then has
  shown-thread : (part : ℕ) (t : Thread) (o : Opening) (hop : HopPart) (more : ℕ) → (hop_codec more).Fits hop
      → Opened s t.from t.step o → Passed (AnswerOf part o.archive_root (ask.Present hop.entry) hop.shown)
      → IsSome (history_of s.family hop.entry.thread.from) → OrTheyClash s (HasThread s.dig s.family hop.entry.thread)
  shown-thread part t o hop more fits opened passed there =
      let g = there-of (history_of s.family hop.entry.thread.from) there in
      let own : HasHistory s.family opened.history.name opened.history =
      ap (history_of s.family) (named-history s.family t.from opened.history opened.has) ∙ opened.has in
      and_then s.dig s.texts _ _
      (answer-step s part t.from t.step o (ask.Present hop.entry) hop.shown (hop-shown more hop fits) opened
      (checked (AnswerOf part o.archive_root (ask.Present hop.entry) hop.shown) passed tt))
      (λ found. inl (closed opened.history g.0 hop.entry.archived hop.entry own
      (has-received opened.history t.step hop.entry found) g.1))

  bind-checked : (part : ℕ) (hop : HopPart) → ArePassed (bind_checks part hop) → HasThread s.dig s.family
      hop.entry.thread → AreChecked s (bind_checks part hop)
  bind-checked part hop passed thread = by (hop.bind == 0) passed
    where
      by : (carried : Bool) → ArePassed (if carried then CarriesThread hop.entry.thread ∷ [] else link_checks part
          (bind_of hop))
          → AreChecked s (if carried then CarriesThread hop.entry.thread ∷ [] else link_checks part (bind_of hop))
      by true passed = (checked (CarriesThread hop.entry.thread) passed.0 (thread, tt), tt)
      by false passed = (checked _ passed.0 tt, (checked _ passed.1.0 tt, (checked _ passed.1.1.0 tt, tt)))

  -- the hops from a thread on are checked with the threads that they carry
  hops-checked : (hops : List HopPart) (part at : ℕ) (t : Thread) (opening : Option Opening)
      → EachFits hop_bytes hop_codec (following (length hops)) hops → FitsOpening (length hops) t.step opening
      → HasThread s.dig s.family t → ArePassed (opening_checks part t opening)
      → ArePassed (hops_checks at t.step (opening_root opening) hops)
      → Each (λ (hop : HopPart). IsSome (history_of s.family hop.entry.thread.from)) hops
      → OrTheyClash s (AreChecked s (hops_checks at t.step (opening_root opening) hops))
  hops-checked [] part at t opening fits opens thread opened passed there = inl tt
  hops-checked (hop ∷ hops) part at t None fits opens thread opened passed there =
      absurd (some-opening (length hops) t.step None opens)
  hops-checked (hop ∷ hops) part at t (Some o) fits opens thread opened passed there =
      let more : ℕ = length hops in
      let own : List Check = hop_checks at t.step o.archive_root hop in
      let onward : List Check = hops_checks (suc at) hop.entry.thread.step (opening_root hop.opening) hops in
      let bind : List Check = bind_checks at hop in
      let next : List Check = opening_checks at hop.entry.thread hop.opening in
      let parts = Each-parts Passed own onward passed in
      let rest = Each-parts Passed bind next parts.0.1.1 in
      and_then s.dig s.texts _ _
      (opening-step s part t o (opening-sizes 0 t.step o (some-opening more t.step (Some o) opens)) thread
      (checked (OpeningOf part t o) opened.1.0 tt))
      (λ (opened_at : Opened s t.from t.step o). and_then s.dig s.texts _ _
      (shown-thread at t o hop more fits.0 opened_at parts.0.1.0 there.0)
      (λ shown. and_then s.dig s.texts _ _
      (hops-checked hops at (suc at) hop.entry.thread hop.opening fits.1 (hop-opening more hop fits.0) shown rest.1
      parts.1 there.1)
      (λ others. inl (Each-append (Checked s) own onward (
        checked (InOrder hop.entry.archived t.step) parts.0.0 tt,
        (
          checked (AnswerOf at o.archive_root (ask.Present hop.entry) hop.shown) parts.0.1.0 tt,
          Each-append (Checked s) bind next (bind-checked at hop rest.0 shown)
              (all-checked next rest.1 (opening-none at hop.entry.thread hop.opening)),
        ),
      )
      others))))

  -- ---- the whole proof

  -- the fields of a proof of kind 2 as its checks take them
  record ChainFits (p : PrecedenceProof) : Type 0 where
    head : PartSizes p.head
    before : FitsOpening (length p.hops) (start_of p).step p.before
    hops : EachFits hop_bytes hop_codec (following (length p.hops)) p.hops

  chain-fits : (p : PrecedenceProof) → precedence_body.Fits p → ChainFits p
  unfolding precedence_body hops_codec behind_codec by_kind pair seen each
  chain-fits p fits = record { head = part-sizes 1 p.head fits.1.0; before = fits.1.1.1.0; hops = fits.1.1.1.1.0 }

  precedence-fits : (p : PrecedenceProof) → proof_codec.Fits (Precedes p) → precedence_body.Fits p
  unfolding proof_codec kinds_codec behind by_kind variant
  precedence-fits p fits = fits.1.1

  start-thread : (p : PrecedenceProof) → Opened s p.head.service p.head.step p.head.opening → HasThread s.dig s.family
      (start_of p)
  start-thread p opened = (opened.history, opened.has, omega (arith, opened.within), opened.binds.prev)

  head-none : (p : PrecedenceProof) → Each CarriesNone (head_checks p)
  unfolding CarriesNone
  head-none p = (refl, (refl, (refl, (refl, opening-none 0 (start_of p) p.before))))

  tail-none : (p : PrecedenceProof) → Each CarriesNone (tail_checks (suc (length p.hops)) (end_of_order p) p.tail)
  unfolding CarriesNone
  tail-none p = (refl, (refl, (refl, tt)))

  chain-checked : (p : PrecedenceProof) → ChainFits p → ArePassed (checks (Precedes p))
      → Each (λ (hop : HopPart). IsSome (history_of s.family hop.entry.thread.from)) p.hops
      → OrTheyClash s (AreChecked s (checks (Precedes p)))
  chain-checked p fits passed there =
      let hops : List Check = hops_checks 1 (start_of p).step (opening_root p.before) p.hops in
      let tail : List Check = tail_checks (suc (length p.hops)) (end_of_order p) p.tail in
      let parts = Each-parts Passed (head_checks p) (hops ++ tail) passed in
      let rest = Each-parts Passed hops tail parts.1 in
      let head : AreChecked s (head_checks p) = all-checked (head_checks p) parts.0 (head-none p) in
      let split = parted s (under_anchor 0 p.head) (EventOf 0 p.head.opening p.event ∷ opening_checks 0 (start_of p)
      p.before) head in
      and_then s.dig s.texts _ _ (anchored-part s 0 p.head fits.head split.0)
      (λ (opened : Opened s p.head.service p.head.step p.head.opening). and_then s.dig s.texts _ _
      (hops-checked p.hops 0 1 (start_of p) p.before fits.hops fits.before (start-thread p opened) parts.0.1.1.1.1
      rest.0 there)
      (λ checked. inl (Each-append (Checked s) (head_checks p) (hops ++ tail) head
      (Each-append (Checked s) hops tail checked (all-checked tail rest.1 (tail-none p))))))

  -- ---- from what is known of the proof

  passed-each : (cs : List Check) → Each (Passes s.dig s.anchors) cs
      → Each (λ (key : Key). IfSome (anchor_at s.anchors key) (HasThread s.dig s.family)) (flat_map needed_by cs)
      → Within (flat_map (check_texts s.dig) cs) s.texts → ArePassed cs
  passed-each [] passes present within = tt
  passed-each (c ∷ cs) passes present within =
      let parts = Each-parts (λ (key : Key). IfSome (anchor_at s.anchors key) (HasThread s.dig s.family)) (needed_by c)
      (flat_map needed_by cs) present in
      let own : List (List ℕ) = check_texts s.dig c in
      let others : List (List ℕ) = flat_map (check_texts s.dig) cs in (
        record { passes = passes.0; within = λ t a. within t (Among-left t own others a); present = parts.0 },
        passed-each cs passes.1 parts.1 (λ t a. within t (Among-right t own others a)),
      )

  held-all : (cs : List Check) → AreChecked s cs → HasThreads s.dig s.family (flat_map (held_by s.anchors) cs)
  held-all [] checked = tt
  held-all (c ∷ cs) checked = Each-append (HasThread s.dig s.family) (held_by s.anchors c)
      (flat_map (held_by s.anchors) cs) checked.0.has (held-all cs checked.1)

  there-each : (name : List ℕ) (hops : List HopPart) → Each (λ (hop : Hop). IsSome (history_of s.family hop.from))
      (hops_to name hops)
      → Each (λ (hop : HopPart). IsSome (history_of s.family hop.entry.thread.from)) hops
  there-each name [] there = tt
  there-each name (hop ∷ hops) there =
      let parts = Each-parts (λ (h : Hop). IsSome (history_of s.family h.from)) (hops_to hop.entry.thread.from hops)
      (hop_from name hop ∷ []) there in
      (parts.1.0, there-each hop.entry.thread.from hops parts.0)

-- where the anchors that an accepted proof with hops needs are threads of a closed family, which has the services of
-- its hops, all the
-- threads that are held of the proof are the family's, or texts clash
pub closes : (dig : List ℕ → List ℕ) (size : (text : List ℕ) → length (dig text) ≡ 32) (are : (text : List ℕ)
    → AreBytes (dig text)) (family : List History) (anchors : List Thread) (bytes : List ℕ)
    (p : PrecedenceProof) → AllSound family → HasOwnThreads dig family → Spells proof_layout bytes (Precedes p)
    → IsAccepted dig anchors (Precedes p)
    → Each (λ (key : Key). IfSome (anchor_at anchors key) (HasThread dig family)) (named_by (Precedes p))
    → Each (λ (hop : Hop). IsSome (history_of family hop.from)) (hops_of (Precedes p))
    → OrClash dig (family_texts dig family ++ proof_texts dig (Precedes p))
    (HasThreads dig family (held anchors (Precedes p)))
closes dig size are family anchors bytes p sound closed spells accepted present there =
    let of_family : List (List ℕ) = family_texts dig family in
    let own : List (List ℕ) = proof_texts dig (Precedes p) in
    let s : Setting = record {
      dig = dig;
      size = size;
      bytes = are;
      anchors = anchors;
      family = family;
      sound = sound;
      texts = of_family ++ own;
      has_texts = λ t a. Among-left t of_family own a;
    } in
    let passed : ArePassed s closed (checks (Precedes p)) = passed-each s closed (checks (Precedes p)) accepted present
    (λ t a. Among-right t of_family own a) in
    let fits = chain-fits s closed p
    (precedence-fits s closed p (spelled-fits proof_codec proof-lawful bytes (Precedes p) spells)) in
    and_then dig (of_family ++ own) _ _ (chain-checked s closed p fits passed (there-each s closed p.head.service p.hops
    there))
    (λ checked. inl (held-all s closed (checks (Precedes p)) checked))
