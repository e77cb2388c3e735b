-- What holds of each check of a proof that fits the format, where it holds of each sort of check whose pieces fit.
use Rattle.std.proofs.Common.{◌≡◌, ℕ, suc, ◌≤◌, List, [], ◌∷◌, ◌++◌, length, Bool, true, false, subst, arith}
use Rattle.std.specs.Prelude.{Option, Some, None, nat_lt, ◌==◌, if◌then◌else◌}
use Rattle.tw_base.specs.declared.events.event_part.EventPart.{EventPart}
use Rattle.tw_base.specs.declared.history.thread.Entry.{Entry}
use Rattle.tw_base.specs.declared.history.thread.Key.{Key}
use Rattle.tw_base.specs.declared.history.thread.Thread.{Thread}
use Rattle.tw_base.specs.declared.history.tree_proof.Ask.TheVariants as ask
use Rattle.tw_base.specs.declared.history.tree_proof.TreeProof.{TreeProof}
use Rattle.tw_base.specs.declared.kinds.limits.TheConstants.{LAST_STEP}
use Rattle.tw_base.specs.format.Codecs.{EachFits, behind, by_kind, bytes_codec, each, name_codec, nothing, number_codec}
use Rattle.tw_base.specs.format.Codecs.{optional, pair, present, seen, variant}
use Rattle.tw_base.specs.history.EntryCodec.{entry_codec}
use Rattle.tw_base.specs.history.HistoryCodec.{thread_codec}
use Rattle.tw_base.specs.kinds.Bytes.{AreBytes}
use Rattle.tw_base.specs.kinds.Lists.{Each}
use Rattle.tw_base.proofs.lemmas.kinds.ListLemmas.{Each-append}
use Rattle.tw_skipproof.specs.declared.existence.ExistenceProof.{ExistenceProof}
use Rattle.tw_skipproof.specs.declared.existence.Part.{Part}
use Rattle.tw_skipproof.specs.declared.opening.Opening.{Opening}
use Rattle.tw_skipproof.specs.Codecs.{event_part_codec, existence_body, opening_codec, part_codec, path_codec}
use Rattle.tw_treeproof.specs.Codecs.{gap_codec, present_codec}
use Rattle.tw_chain.specs.declared.proof.AbsenceProof.{AbsenceProof}
use Rattle.tw_chain.specs.declared.proof.HopPart.{HopPart}
use Rattle.tw_chain.specs.declared.proof.LinkProof.{LinkProof}
use Rattle.tw_chain.specs.declared.proof.PrecedenceProof.{PrecedenceProof}
use Rattle.tw_chain.specs.declared.proof.Proof.{Proof}
use Rattle.tw_chain.specs.declared.proof.Proof.TheVariants.{Exists, Precedes, Archived, Absent, Linked}
use Rattle.tw_chain.specs.declared.proof.ThreadProof.{ThreadProof}
use Rattle.tw_chain.specs.Checks.{Check, Upper, bind_checks, bind_of, checks, end_of_order, head_checks, hop_checks}
use Rattle.tw_chain.specs.Checks.{hops_checks, last_hop_thread, link_checks, opening_checks, opening_root, start_of}
use Rattle.tw_chain.specs.Checks.{tail_at, tail_checks, under_anchor}
use Rattle.tw_chain.specs.Checks.Check.{AnswerOf, CarriesThread, EventOf, InOrder, LinkOf, NeedsAnchor, OpeningOf}
use Rattle.tw_chain.specs.Checks.Check.{PathOf}
use Rattle.tw_chain.specs.Proofs.{absence_body, behind_codec, following, hop_bytes, hop_codec, hops_codec, kinds_codec}
use Rattle.tw_chain.specs.Proofs.{last_step, link_body, precedence_body, proof_codec, tail_codec, thread_body}
use Rattle.tw_chain.proofs.ChainShapes.{last_step-all}

-- the step that the hops come to, as the format and as the checks have it
pub last-is : (t : Thread) (hops : List HopPart) → last_step t.step hops ≡ (last_hop_thread t hops).step
last-is t [] = λ i. t.step
last-is t (hop ∷ hops) = last-is hop.entry.thread hops

-- the limit of the step of an entry's thread, and its authenticator's bytes
entry-parts : (e : Entry) → entry_codec.Fits e → (e.thread.step ≤ LAST_STEP) × AreBytes e.thread.auth
unfolding entry_codec thread_codec seen pair name_codec number_codec bytes_codec
entry-parts e fits = (fits.0.1.0.1, fits.0.1.1.1)

part-opening : (least : ℕ) (at : Part) → (part_codec least).Fits at → (opening_codec least at.step).Fits at.opening
unfolding part_codec pair seen
part-opening least at fits = fits.1.1.1.1

-- it holds of each sort of check
pub record OfEachSort (P : Check → Type 0) : Type 0 where
  -- an order, an anchor that is needed, and a thread that is carried
  pub plain : ((lower upper : ℕ) → P (InOrder lower upper)) × ((key : Key) → P (NeedsAnchor key))
      × ((t : Thread) → P (CarriesThread t))
  pub path : (least part : ℕ) (at : Part) (upper : Upper) → at.top ≤ LAST_STEP → at.step ≤ LAST_STEP
      → (path_codec at.top at.step).Fits at.path.links → (opening_codec least at.step).Fits at.opening
      → P (PathOf part at upper)
  pub link : (part : ℕ) (l : LinkProof) → l.top ≤ LAST_STEP → AreBytes l.auth
      → (path_codec l.top l.step).Fits l.path.links → P (LinkOf part l)
  pub opening : (part : ℕ) (t : Thread) (o : Opening) → t.step ≤ LAST_STEP → (opening_codec 0 t.step).Fits o
      → P (OpeningOf part t o)
  pub event : (part step : ℕ) (o : Opening) (e : EventPart) → (opening_codec 1 step).Fits o
      → (event_part_codec o.count).Fits e → P (EventOf part o e)
  pub entry : (part : ℕ) (root : List ℕ) (e : Entry) (shown : TreeProof) → entry_codec.Fits e → present_codec.Fits shown
      → P (AnswerOf part root (ask.Present e) shown)
  pub free : (part : ℕ) (root : List ℕ) (key : Key) (shown : TreeProof) → gap_codec.Fits shown
      → P (AnswerOf part root (ask.Absent key) shown)

module _ (P : Check → Type 0) (of : OfEachSort P) where
  under-each : (least part : ℕ) (at : Part) → (part_codec least).Fits at → Each P (under_anchor part at)
  unfolding part_codec pair seen number_codec
  under-each least part at fits =
      (of.plain.0 _ _, (of.plain.1 _, (of.path least part at _ fits.1.1.0.1 fits.1.0.1 fits.1.1.1.0 fits.1.1.1.1, tt)))

  opened-each : (b : Bool) (part : ℕ) (t : Thread) (o : Option Opening) → t.step ≤ LAST_STEP
      → (optional b (opening_codec 0 t.step)).Fits o → Each P (opening_checks part t o)
  unfolding present nothing
  opened-each b part t None small fits = tt
  opened-each true part t (Some o) small fits = (of.plain.0 _ _, (of.opening part t o small fits, tt))
  opened-each false part t (Some o) small fits = cc

  link-each : (part : ℕ) (l : LinkProof) → l.top ≤ LAST_STEP → AreBytes l.auth → (path_codec l.top l.step).Fits
      l.path.links → Each P (link_checks part l)
  link-each part l top is fits = (of.plain.0 _ _, (of.plain.1 _, (of.link part l top is fits, tt)))

  bind-each : (part : ℕ) (hop : HopPart) → hop.bind ≤ LAST_STEP → AreBytes hop.entry.thread.auth
      → (path_codec hop.bind hop.entry.thread.step).Fits hop.link.links → Each P (bind_checks part hop)
  bind-each part hop small is fits = by (hop.bind == 0)
    where
      by : (carried : Bool) → Each P (if carried then CarriesThread hop.entry.thread ∷ [] else link_checks part
          (bind_of hop))
      by true = (of.plain.2 _, tt)
      by false = link-each part (bind_of hop) small is fits

  hop-each : (more part step : ℕ) (root : List ℕ) (hop : HopPart) → (hop_codec more).Fits hop
      → Each P (hop_checks part step root hop)
  unfolding hop_codec pair seen number_codec
  hop-each more part step root hop fits =
      let entry = entry-parts hop.entry fits.0 in (
        of.plain.0 _ _,
        (
          of.entry part root hop.entry hop.shown fits.0 fits.1.0,
          Each-append P (bind_checks part hop) _ (bind-each part hop fits.1.1.0.1 entry.1 fits.1.1.1.0)
              (opened-each (nat_lt 0 more) part hop.entry.thread hop.opening entry.0 fits.1.1.1.1),
        ),
      )

  hops-each : (hops : List HopPart) (part step : ℕ) (root : List ℕ) (fs : List ℕ) → EachFits hop_bytes hop_codec fs hops
      → Each P (hops_checks part step root hops)
  hops-each [] part step root fs fits = tt
  hops-each (hop ∷ hops) part step root [] fits = cc
  hops-each (hop ∷ hops) part step root (f ∷ fs) fits =
      Each-append P (hop_checks part step root hop) _ (hop-each f part step root hop fits.0)
      (hops-each hops (suc part) hop.entry.thread.step (opening_root hop.opening) fs fits.1)

  precedes-each : (p : PrecedenceProof) → precedence_body.Fits p → Each P (checks (Precedes p))
  unfolding precedence_body hops_codec behind_codec tail_codec part_codec by_kind pair seen number_codec each
  precedes-each p fits =
      let head = fits.1.0 in
      let behind = fits.1.1.1 in
      let tail = behind.1.1 in
      let start : (start_of p).step ≤ LAST_STEP = omega (arith, head.1.0.1) in
      let last : last_step (start_of p).step p.hops ≡ (end_of_order p).step = last-is (start_of p) p.hops in
      let small : (end_of_order p).step ≤ LAST_STEP = subst (λ n. n ≤ LAST_STEP) last
      (last_step-all (start_of p).step (length p.hops) p.hops start behind.1.0) in
      let path = let Fit : ℕ → Type 0 = λ n. (path_codec n p.tail.step).Fits p.tail.path.links in
      subst Fit last tail.1.0 in
      let hops : List Check = hops_checks 1 (start_of p).step (opening_root p.before) p.hops in
      let ends : List Check = tail_checks (suc (length p.hops)) (end_of_order p) p.tail in
      Each-append P (head_checks p) (hops ++ ends)
      (Each-append P (under_anchor 0 p.head) (EventOf 0 p.head.opening p.event ∷ opening_checks 0 (start_of p)
      p.before) (under-each 1 0 p.head head) (
        of.event 0 p.head.step p.head.opening p.event head.1.1.1.1 fits.1.1.0,
        opened-each (nat_lt 0 (length p.hops)) 0 (start_of p) p.before start behind.0,
      ))
      (Each-append P hops ends
      (hops-each p.hops 1 (start_of p).step (opening_root p.before) (following (length p.hops)) behind.1.0) (
        of.plain.0 _ _,
        (
          of.path 1 _ (tail_at (end_of_order p) p.tail) _ small tail.0.1 path tail.1.1.0,
          (of.event _ p.tail.step p.tail.opening p.tail.event tail.1.1.0 tail.1.1.1, tt),
        ),
      ))

  exists-each : (p : ExistenceProof) → existence_body.Fits p → Each P (checks (Exists p))
  unfolding existence_body pair seen
  exists-each p fits = Each-append P (under_anchor 0 p.at) (EventOf 0 p.at.opening p.event ∷ [])
      (under-each 1 0 p.at fits.0)
      (of.event 0 p.at.step p.at.opening p.event (part-opening 1 p.at fits.0) fits.1, tt)

  archived-each : (p : ThreadProof) → thread_body.Fits p → Each P (checks (Archived p))
  unfolding thread_body pair seen
  archived-each p fits =
      Each-append P (under_anchor 0 p.at) (InOrder p.entry.archived p.at.step ∷ AnswerOf 0
      p.at.opening.archive_root (ask.Present p.entry) p.shown ∷ []) (under-each 0 0 p.at fits.0)
      (of.plain.0 _ _, (of.entry 0 _ p.entry p.shown fits.1.0 fits.1.1, tt))

  absent-each : (p : AbsenceProof) → absence_body.Fits p → Each P (checks (Absent p))
  unfolding absence_body pair seen
  absent-each p fits =
      Each-append P (under_anchor 0 p.at) (AnswerOf 0 p.at.opening.archive_root (ask.Absent p.key) p.shown ∷ [])
      (under-each 0 0 p.at fits.0) (of.free 0 _ p.key p.shown fits.1.1, tt)

  linked-each : (p : LinkProof) → link_body.Fits p → Each P (checks (Linked p))
  unfolding link_body pair seen number_codec bytes_codec
  linked-each p fits = link-each 0 p fits.1.1.0.1 fits.1.1.1.0.1 fits.1.1.1.1

  -- of all checks of a proof that fits
  pub all-each : (p : Proof) → proof_codec.Fits p → Each P (checks p)
  unfolding proof_codec kinds_codec behind by_kind variant
  all-each (Exists p) fits = exists-each p fits.1.1
  all-each (Precedes p) fits = precedes-each p fits.1.1
  all-each (Archived p) fits = archived-each p fits.1.1
  all-each (Absent p) fits = absent-each p fits.1.1
  all-each (Linked p) fits = linked-each p fits.1.1
