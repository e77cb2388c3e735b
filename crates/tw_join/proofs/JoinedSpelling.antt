-- A proof that parts join to, each of which is spelled, is spelled.
use Rattle.std.proofs.Common.{◌≡◌, ℕ, suc, ◌-◌, ◌≤◌, List, [], ◌∷◌, length, refl, sym, ap, ◌∙◌, subst, arith, lit≤}
use Rattle.std.specs.Prelude.{Option, Some, None, IfSome, Ok, nat_lt}
use Rattle.std.proofs.lemmas.Bool.{lt-ltb}
use Rattle.tw_base.specs.declared.kinds.limits.TheConstants.{LAST_STEP}
use Rattle.tw_base.specs.format.Codecs.{behind, by_kind, each, nothing, number_codec, optional, pair, present, seen}
use Rattle.tw_base.specs.format.Codecs.{variant}
use Rattle.tw_base.specs.declared.history.thread.Key.{Key}
use Rattle.tw_base.specs.declared.history.thread.Thread.{Thread}
use Rattle.tw_base.specs.history.EntryCodec.{entry_codec}
use Rattle.tw_base.specs.format.Formats.{Spells}
use Rattle.tw_base.specs.kinds.Lists.{Each}
use Rattle.tw_base.proofs.lemmas.format.CodecLaws.{spelled-fits}
use Rattle.tw_base.proofs.lemmas.kinds.ListLemmas.{Each-map}
use Rattle.tw_skipproof.specs.declared.existence.ExistenceProof.{ExistenceProof}
use Rattle.tw_skipproof.specs.declared.existence.Part.{Part}
use Rattle.tw_skipproof.specs.declared.opening.Opening.{Opening}
use Rattle.tw_skipproof.specs.Codecs.{event_part_codec, existence_body, opening_codec, part_codec, path_codec}
use Rattle.tw_skipproof.specs.Paths.{greedy_steps, steps_within}
use Rattle.tw_treeproof.specs.Codecs.{present_codec}
use Rattle.tw_chain.specs.declared.proof.HopPart.{HopPart}
use Rattle.tw_chain.specs.declared.proof.LinkProof.{LinkProof}
use Rattle.tw_chain.specs.declared.proof.PrecedenceProof.{PrecedenceProof}
use Rattle.tw_chain.specs.declared.proof.Proof.{Proof}
use Rattle.tw_chain.specs.declared.proof.Proof.TheVariants.{Exists, Precedes, Archived, Linked}
use Rattle.tw_chain.specs.declared.proof.ThreadProof.{ThreadProof}
use Rattle.tw_chain.specs.Checks.{start_of}
use Rattle.tw_join.specs.Joining.{Joint, hop_of, hops_before, joined_of, joined_proof, wanted}
use Rattle.tw_join.specs.Joining.Taken.{Nothing}
use Rattle.tw_chain.specs.Proofs.{behind_codec, hop_codec, hops_codec, kinds_codec, last_step, link_body}
use Rattle.tw_chain.specs.Proofs.{precedence_body, proof_bytes, proof_codec, proof_layout, tail_codec, thread_body}
use Rattle.tw_chain.proofs.ChainShapes.{HopsFit}
use Rattle.tw_join.proofs.JoinedHops.{come_to, hops-count, joints-few, last-step, last-thread}
use Rattle.tw_join.proofs.JoinedParts.{JointFits, JointsFit, LinkFits, WholeFits, joined-fits}
use Rattle.tw_chain.proofs.ProofCodec.{proof-lawful}

abbrev pub FitsPart : Proof → Type 0
FitsPart part = proof_codec.Fits part

-- ---- the parts' pieces

record ExistenceFits (p : ExistenceProof) : Type 0 where
  pub at : (part_codec 1).Fits p.at
  pub event : (event_part_codec p.at.opening.count).Fits p.event

existence-parts : (p : ExistenceProof) → FitsPart (Exists p) → ExistenceFits p
unfolding proof_codec kinds_codec existence_body behind by_kind variant seen pair
existence-parts p fits = record { at = fits.1.1.0; event = fits.1.1.1 }

record ThreadFits (t : ThreadProof) : Type 0 where
  pub at : (part_codec 0).Fits t.at
  pub entry : entry_codec.Fits t.entry
  pub shown : present_codec.Fits t.shown

thread-parts : (t : ThreadProof) → FitsPart (Archived t) → ThreadFits t
unfolding proof_codec kinds_codec thread_body behind by_kind variant seen pair
thread-parts t fits = record { at = fits.1.1.0; entry = fits.1.1.1.0; shown = fits.1.1.1.1 }

record LinkPathFits (l : LinkProof) : Type 0 where
  pub top : l.top ≤ LAST_STEP
  pub path : (path_codec l.top l.step).Fits l.path.links

link-parts : (l : LinkProof) → FitsPart (Linked l) → LinkPathFits l
unfolding proof_codec kinds_codec link_body behind by_kind variant seen pair number_codec
link-parts l fits = record { top = fits.1.1.1.1.0.1; path = fits.1.1.1.1.1.1 }

record AtFits (least : ℕ) (at : Part) : Type 0 where
  pub from_1 : 1 ≤ at.step
  pub step : at.step ≤ LAST_STEP
  pub path : (path_codec at.top at.step).Fits at.path.links
  pub opening : (opening_codec least at.step).Fits at.opening

at-parts : (least : ℕ) (at : Part) → (part_codec least).Fits at → AtFits least at
unfolding part_codec seen pair number_codec
at-parts least at fits = record { from_1 = fits.1.0.0; step = fits.1.0.1; path = fits.1.1.1.0; opening = fits.1.1.1.1 }

-- ---- a hop

-- from step 0 a path has no links
no-path : (step : ℕ) → (path_codec 0 step).Fits []
unfolding path_codec each greedy_steps steps_within
no-path step = refl

opened : (more step : ℕ) (o : Opening) → (opening_codec 0 step).Fits o
    → (optional (nat_lt 0 (suc more)) (opening_codec 0 step)).Fits (Some o)
unfolding present
opened more step o fits =
    subst (λ b. (optional b (opening_codec 0 step)).Fits (Some o)) (sym (lt-ltb 0 (suc more) (omega arith))) fits

-- the bind of a hop, and the path from it: those of its link, or none
bind-fits : (t : ThreadProof) (link : Option LinkProof) (behind : Option Opening)
    → IfSome link (LinkFits FitsPart t.entry.thread)
    → let hop : HopPart = hop_of (record { thread = t; link = link }) behind in
    (hop.bind ≤ LAST_STEP) × (path_codec hop.bind t.entry.thread.step).Fits hop.link.links
bind-fits t None behind fits = (omega arith, no-path t.entry.thread.step)
bind-fits t (Some l) behind fits =
    let parts = link-parts l fits.part in
    (parts.top, subst (λ s. (path_codec l.top s).Fits l.path.links) (sym fits.step) parts.path)

hop-fits : (more : ℕ) (key : Key) (joint : Joint) (behind : Option Opening) → JointFits FitsPart key joint
    → (optional (nat_lt 0 more) (opening_codec 0 joint.thread.entry.thread.step)).Fits behind → (hop_codec more).Fits
    (hop_of joint behind)
unfolding hop_codec seen pair number_codec
hop-fits more key joint behind fits opens =
    let parts = thread-parts joint.thread fits.part in
    let bound = bind-fits joint.thread joint.link behind fits.link in
    (parts.entry, (parts.shown, ((omega arith, bound.0), (bound.1, opens))))

-- ---- all hops, and the opening before them

abbrev HopsOpen : (step : ℕ) → Option Opening × List HopPart → Type 0
HopsOpen step all = (optional (nat_lt 0 (length all.1)) (opening_codec 0 step)).Fits all.0 × HopsFit (length all.1)
    all.1

hops-fit : (second : ExistenceProof) (joints : List Joint) (before : Option Opening) (hops : List HopPart)
    → JointsFit FitsPart second joints
    → HopsOpen (wanted second joints).step (before, hops) → HopsOpen (second.at.step - 1)
    (hops_before joints before hops)
hops-fit second [] before hops fits begun = begun
hops-fit second (joint ∷ joints) before hops fits begun =
    let opening : Opening = joint.thread.at.opening in
    let at = at-parts 0 joint.thread.at (thread-parts joint.thread fits.0.part).at in
    let here : (opening_codec 0 (wanted second joints).step).Fits opening =
    subst (λ s. (opening_codec 0 s).Fits opening) (sym fits.0.step) at.opening in
    hops-fit second joints (Some opening) (hop_of joint before ∷ hops) fits.2 (
      opened (length hops) (wanted second joints).step opening here,
      (hop-fits (length hops) (wanted second joints) joint before fits.0 begun.0, begun.1),
    )

none-open : (step : ℕ) → HopsOpen step (None, [])
unfolding nothing
none-open step = (refl, refl)

-- ---- the whole

wanted-step : (second : ExistenceProof) (joints : List Joint) (first : ExistenceProof)
    → last_step (second.at.step - 1) (joined_of second joints first).hops ≡ (wanted second joints).step
wanted-step second joints first =
    let p : PrecedenceProof = joined_of second joints first in
    last-step (second.at.step - 1) (start_of p) p.hops refl ∙ ap (λ (t : Thread). t.step)
    (last-thread (start_of p) joints None []) ∙ by joints
  where
    by : (some : List Joint) → (come_to (start_of (joined_of second joints first)) some).step
        ≡ (wanted second some).step
    by [] = refl
    by (joint ∷ more) = refl

tail-fits : (upper : ℕ) (first : ExistenceProof) → upper ≡ first.at.top → ExistenceFits first
    → (tail_codec upper).Fits
    (record { step = first.at.step; path = first.at.path; opening = first.at.opening; event = first.event })
unfolding tail_codec seen pair number_codec
tail-fits upper first is fits =
    let at = at-parts 1 first.at fits.at in (
      (at.from_1, at.step),
      (subst (λ t. (path_codec t first.at.step).Fits first.at.path.links) (sym is) at.path, (at.opening, fits.event)),
    )

pub whole-fits : (second : ExistenceProof) (joints : List Joint) (first : ExistenceProof) → WholeFits FitsPart second
    joints first
    → proof_codec.Fits (Precedes (joined_of second joints first))
unfolding proof_codec kinds_codec precedence_body hops_codec behind_codec behind by_kind variant seen pair number_codec each
whole-fits second joints first fits =
    let p : PrecedenceProof = joined_of second joints first in
    let begun = hops-fit second joints None [] fits.joints_fit (none-open (wanted second joints).step) in
    let few = joints-few FitsPart second joints fits.joints_fit in
    let head = existence-parts second fits.second_part in
    let tail = tail-fits (last_step (second.at.step - 1) p.hops) first (wanted-step second joints first ∙ fits.top)
    (existence-parts first fits.first_part) in (
      (lit≤ tt, lit≤ tt),
      (
        refl,
        (
          (omega arith, omega (arith, few, hops-count joints None [])),
          (head.at, (head.event, (begun.0, (begun.1, tail)))),
        ),
      ),
    )

-- what is written of it spells it
pub joined-spelled : (parts : List Proof) (p : PrecedenceProof)
    → Each (λ part. (bytes : List ℕ) × Spells proof_layout bytes part) parts
    → joined_proof Nothing 1 parts ≡ Ok p → Spells proof_layout (proof_bytes (Precedes p)) (Precedes p)
joined-spelled parts p all is =
    let each_fits : Each FitsPart parts = Each-map (λ part. (bytes : List ℕ) × Spells proof_layout bytes part) FitsPart
    parts
    (λ part spelled. spelled-fits proof_codec proof-lawful spelled.0 part spelled.1) all in
    let had = joined-fits FitsPart parts p each_fits is in
    proof-lawful.spells (Precedes p) (subst (λ (q : PrecedenceProof). FitsPart (Precedes q)) (sym had.is)
    (whole-fits had.second had.joints had.first had.fits))
