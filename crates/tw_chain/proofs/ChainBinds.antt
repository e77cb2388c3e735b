-- What the hops of a chain bind, one after another.
use Rattle.std.proofs.Common.{◌≡◌, ℕ, suc, ◌≤◌, List, [], ◌∷◌, length, Bool, true, false, refl, subst, arith, inl}
use Rattle.std.specs.Prelude.{Option, Some, None, MatchOption, ◌==◌, if◌then◌else◌, nat_lt}
use Rattle.std.proofs.lemmas.Bool.{lt-ltb}
use Rattle.tw_base.specs.declared.history.thread.Thread.{Thread}
use Rattle.tw_base.specs.declared.history.tree_proof.Ask.TheVariants as ask
use Rattle.tw_base.specs.history.Entries.{IsFit}
use Rattle.tw_base.specs.history.Chains.{HopStands, LeadsBy}
use Rattle.tw_base.specs.format.Codecs.{EachFits, optional, pair, present, seen}
use Rattle.tw_base.specs.history.Family.{HasThread}
use Rattle.tw_base.specs.history.History.{entry_at}
use Rattle.tw_base.proofs.lemmas.kinds.Clashes.{and_then}
use Rattle.tw_base.proofs.lemmas.history.Leads.{hop-stands, leads-snoc}
use Rattle.tw_skipproof.specs.declared.opening.Opening.{Opening}
use Rattle.tw_skipproof.specs.Codecs.{opening_codec}
use Rattle.tw_skipproof.specs.Paths.{HasLinkSizes}
use Rattle.tw_treeproof.specs.Sizes.{HasProofSizes}
use Rattle.tw_chain.specs.declared.proof.HopPart.{HopPart}
use Rattle.tw_chain.specs.Accepting.{hop_from, hops_to}
use Rattle.tw_chain.specs.Checks.{Check, bind_checks, bind_of, hop_checks, hops_checks, last_hop_thread, link_checks}
use Rattle.tw_chain.specs.Checks.{opening_checks, opening_root}
use Rattle.tw_chain.specs.Checks.Check.{AnswerOf, CarriesThread}
use Rattle.tw_chain.specs.Proofs.{following, hop_bytes, hop_codec}
use Rattle.tw_chain.proofs.ArchiveAnswers.{has-received}
use Rattle.tw_chain.proofs.CheckBinds.{AreChecked, Checked, Opened, OrTheyClash, Setting, answer-step, link-step}
use Rattle.tw_chain.proofs.CheckBinds.{opening-step, parted}
use Rattle.tw_chain.proofs.PieceSizes.{entry-sizes, opening-sizes, path-sizes, present-sizes}

-- the opening of the step whose archive shows the next of so many hops
abbrev pub FitsOpening : (more step : ℕ) → Option Opening → Type 0
FitsOpening more step opening = (optional (nat_lt 0 more) (opening_codec 0 step)).Fits opening

-- where one or more follow, there is an opening
opens-some : (more step : ℕ) (opening : Option Opening) → FitsOpening (suc more) step opening → MatchOption opening ⊥
    (opening_codec 0 step).Fits
unfolding present
opens-some more step opening fits =
    let P : Bool → Type 0 = λ b. (optional b (opening_codec 0 step)).Fits opening in
    subst P (lt-ltb 0 (suc more) (omega arith)) fits

-- a hop behind which so many follow
record HopFits (more : ℕ) (hop : HopPart) : Type 0 where
  entry : IsFit hop.entry
  shown : HasProofSizes (ask.Present hop.entry) hop.shown
  links : HasLinkSizes hop.link.links
  opening : FitsOpening more hop.entry.thread.step hop.opening

hop-fits : (more : ℕ) (hop : HopPart) → (hop_codec more).Fits hop → HopFits more hop
unfolding hop_codec pair seen
hop-fits more hop fits = record {
  entry = entry-sizes hop.entry fits.0;
  shown = present-sizes hop.entry hop.shown fits.0 fits.1.0;
  links = path-sizes hop.bind hop.entry.thread.step hop.link.links fits.1.1.1.0;
  opening = fits.1.1.1.1;
}

module _ (s : Setting) where
  -- the family has the thread of a hop, whether it is carried or bound
  bind-step : (part : ℕ) (hop : HopPart) → IsFit hop.entry → HasLinkSizes hop.link.links
      → AreChecked s (bind_checks part hop) → OrTheyClash s (HasThread s.dig s.family hop.entry.thread)
  bind-step part hop fit sizes checked = by (hop.bind == 0) checked
    where
      by : (carried : Bool) → AreChecked s (if carried then CarriesThread hop.entry.thread ∷ [] else link_checks part
          (bind_of hop)) → OrTheyClash s (HasThread s.dig s.family hop.entry.thread)
      by true checked = inl (checked.0).has.0
      by false checked = link-step s part (bind_of hop) fit.auth.1 sizes checked

  -- the archive whose root the opening has received the hop's thread
  received-step : (part : ℕ) (t : Thread) (o : Opening) (hop : HopPart) → HasProofSizes (ask.Present hop.entry)
      hop.shown → (opened : Opened s t.from t.step o)
      → Checked s (AnswerOf part o.archive_root (ask.Present hop.entry) hop.shown)
      → OrTheyClash s (entry_at opened.history hop.entry.archived ≡ Some hop.entry)
  received-step part t o hop sizes opened checked =
      and_then s.dig s.texts _ _
      (answer-step s part t.from t.step o (ask.Present hop.entry) hop.shown sizes opened checked)
      (λ found. inl (has-received opened.history t.step hop.entry found))

  -- a hop from the archive at an opened step: the family has the hop's thread, and the hop stands
  hop-step : (part more : ℕ) (t : Thread) (o : Opening) (hop : HopPart) → HopFits more hop → Opened s t.from t.step o
      → AreChecked s (hop_checks part t.step o.archive_root hop)
      → OrTheyClash s (HasThread s.dig s.family hop.entry.thread × HopStands s.dig s.family (hop_from t.from hop))
  hop-step part more t o hop fits opened checked =
      let bind = parted s (bind_checks part hop) (opening_checks part hop.entry.thread hop.opening) checked.1.1 in
      and_then s.dig s.texts _ _ (received-step part t o hop fits.shown opened checked.1.0)
      (λ received. and_then s.dig s.texts _ _ (bind-step part hop fits.entry fits.links bind.0)
      (λ thread. inl (thread, hop-stands s.dig s.family t.from hop.entry opened.history opened.has received thread)))

  -- from a thread's step down the hops: the family has the thread that they come to, and from each step up to it they
  -- lead back
  pub chain-binds : (hops : List HopPart) (part at : ℕ) (t : Thread) (opening : Option Opening)
      → EachFits hop_bytes hop_codec (following (length hops)) hops
      → FitsOpening (length hops) t.step opening → HasThread s.dig s.family t
      → AreChecked s (opening_checks part t opening) → AreChecked s (hops_checks at t.step (opening_root opening) hops)
      → (step : ℕ) → step ≤ (last_hop_thread t hops).step
      → OrTheyClash s (HasThread s.dig s.family (last_hop_thread t hops) × LeadsBy s.dig s.family (hops_to t.from hops)
      (record { from = (last_hop_thread t hops).from; step = step }) (record { from = t.from; step = t.step }))
  chain-binds [] part at t opening fits opens thread opened checked step order = inl (thread, (refl, order))
  chain-binds (hop ∷ hops) part at t None fits opens thread opened checked step order =
      absurd (opens-some (length hops) t.step None opens)
  chain-binds (hop ∷ hops) part at t (Some o) fits opens thread opened checked step order =
      let more : ℕ = length hops in
      let last : Thread = last_hop_thread hop.entry.thread hops in
      let known : HopFits more hop = hop-fits more hop fits.0 in
      let own : List Check = hop_checks at t.step o.archive_root hop in
      let onward : List Check = hops_checks (suc at) hop.entry.thread.step (opening_root hop.opening) hops in
      let parts = parted s own onward checked in
      let rest = parted s (bind_checks at hop) (opening_checks at hop.entry.thread hop.opening) parts.0.1.1 in
      and_then s.dig s.texts _ _
      (opening-step s part t o (opening-sizes 0 t.step o (opens-some more t.step (Some o) opens)) thread opened.1.0)
      (λ opened. and_then s.dig s.texts _ _ (hop-step at more t o hop known opened parts.0)
      (λ stands. and_then s.dig s.texts _ _ (chain-binds hops at (suc at) hop.entry.thread hop.opening fits.1
      known.opening stands.0 rest.1 parts.1 step order)
      (λ leads. inl (
        leads.0,
        leads-snoc s.dig s.family (hops_to hop.entry.thread.from hops) (record { from = last.from; step = step })
            (record { from = hop.entry.thread.from; step = hop.entry.thread.step })
            (record { from = t.from; step = t.step }) (hop_from t.from hop) leads.1 refl (omega arith) stands.1 refl
            parts.0.0.passes,
      ))))
