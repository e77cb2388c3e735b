-- What holds of each anchor that a proof needs and of each thread that it carries, where it holds of its services and of its hops' threads.
use Rattle.std.proofs.Common.{ℕ, suc, List, [], ◌∷◌, ◌++◌, length, Bool, true, false}
use Rattle.std.specs.Prelude.{Option, Some, None, ◌==◌, if◌then◌else◌}
use Rattle.tw_base.specs.declared.history.thread.Thread.{Thread}
use Rattle.tw_base.specs.declared.history.tree_proof.Ask.TheVariants as ask
use Rattle.tw_base.specs.kinds.Lists.{Each}
use Rattle.tw_base.proofs.lemmas.kinds.ListLemmas.{Each-append}
use Rattle.tw_skipproof.specs.declared.existence.Part.{Part}
use Rattle.tw_skipproof.specs.declared.opening.Opening.{Opening}
use Rattle.tw_chain.specs.declared.proof.HopPart.{HopPart}
use Rattle.tw_chain.specs.declared.proof.PrecedenceProof.{PrecedenceProof}
use Rattle.tw_chain.specs.declared.proof.Proof.{Proof}
use Rattle.tw_chain.specs.declared.proof.Proof.TheVariants.{Exists, Precedes, Archived, Absent, Linked}
use Rattle.tw_chain.specs.Checks.{Check, bind_checks, bind_of, checks, end_of_order, head_checks, hop_checks, hops_checks}
use Rattle.tw_chain.specs.Checks.{link_checks, opening_checks, opening_root, start_of, tail_checks, under_anchor}
use Rattle.tw_chain.specs.Checks.Check.{AnswerOf, CarriesThread, EventOf, InOrder, NeedsAnchor}

module _ (Of : (service : List ℕ) → Type 0) (Carried : Thread → Type 0) where
  -- of the anchor that the check needs, and of the thread that it carries
  abbrev pub OfCheck : Check → Type 0
  OfCheck (NeedsAnchor key) = Of key.from
  OfCheck (CarriesThread t) = Carried t
  OfCheck _ = Unit {0}

  abbrev pub OfHop : HopPart → Type 0
  OfHop hop = Of hop.entry.thread.from × Carried hop.entry.thread

  -- of the services that the proof begins at, and of its hops
  abbrev pub OfProof : Proof → Type 0
  OfProof (Exists p) = Of p.at.service
  OfProof (Precedes p) = Of p.head.service × Each OfHop p.hops
  OfProof (Archived p) = Of p.at.service
  OfProof (Absent p) = Of p.at.service
  OfProof (Linked p) = Of p.service

  under : (part : ℕ) (at : Part) (more : List Check) → Of at.service → Each OfCheck more → Each OfCheck (under_anchor part at ++ more)
  under part at more is rest = Each-append OfCheck (under_anchor part at) more (tt, (is, (tt, tt))) rest

  opened : (part : ℕ) (t : Thread) (o : Option Opening) → Each OfCheck (opening_checks part t o)
  opened part t None = tt
  opened part t (Some o) = (tt, (tt, tt))

  bound : (part : ℕ) (hop : HopPart) → OfHop hop → Each OfCheck (bind_checks part hop)
  bound part hop is = by (hop.bind == 0)
    where
      by : (carried : Bool) → Each OfCheck (if carried then CarriesThread hop.entry.thread ∷ [] else link_checks part (bind_of hop))
      by true = (is.1, tt)
      by false = (tt, (is.0, (tt, tt)))

  hops-each : (hops : List HopPart) (part step : ℕ) (root : List ℕ) → Each OfHop hops → Each OfCheck (hops_checks part step root hops)
  hops-each [] part step root all = tt
  hops-each (hop ∷ hops) part step root all =
      Each-append OfCheck (hop_checks part step root hop) (hops_checks (suc part) hop.entry.thread.step (opening_root hop.opening) hops)
      (tt, (tt, Each-append OfCheck (bind_checks part hop) (opening_checks part hop.entry.thread hop.opening) (bound part hop all.0) (opened part hop.entry.thread hop.opening)))
      (hops-each hops (suc part) hop.entry.thread.step (opening_root hop.opening) all.1)

  precedes-each : (p : PrecedenceProof) → Of p.head.service → Each OfHop p.hops → Each OfCheck (checks (Precedes p))
  precedes-each p is all =
      let hops : List Check = hops_checks 1 (start_of p).step (opening_root p.before) p.hops in
      let tail : List Check = tail_checks (suc (length p.hops)) (end_of_order p) p.tail in
      Each-append OfCheck (head_checks p) (hops ++ tail)
      (under 0 p.head (EventOf 0 p.head.opening p.event ∷ opening_checks 0 (start_of p) p.before) is (tt, opened 0 (start_of p) p.before))
      (Each-append OfCheck hops tail (hops-each p.hops 1 (start_of p).step (opening_root p.before) all) (tt, (tt, (tt, tt))))

  pub each-of : (p : Proof) → OfProof p → Each OfCheck (checks p)
  each-of (Exists p) is = under 0 p.at (EventOf 0 p.at.opening p.event ∷ []) is (tt, tt)
  each-of (Precedes p) is = precedes-each p is.0 is.1
  each-of (Archived p) is =
      under 0 p.at (InOrder p.entry.archived p.at.step ∷ AnswerOf 0 p.at.opening.archive_root (ask.Present p.entry) p.shown ∷ []) is (tt, (tt, tt))
  each-of (Absent p) is = under 0 p.at (AnswerOf 0 p.at.opening.archive_root (ask.Absent p.key) p.shown ∷ []) is (tt, tt)
  each-of (Linked p) is = (tt, (is, (tt, tt)))
