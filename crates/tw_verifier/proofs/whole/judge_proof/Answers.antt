use Rattle.std.proofs.Common.{subst}
use Rattle.tw_chain.specs.declared.proof.Proof.{Proof}
use Rattle.tw_chain.specs.Proofs.{proof_codec}
use Rattle.tw_verifier.proofs.ProofRanges.{absence-range, existence-range, link-top, thread-range}
use Rattle.tw_verifier.proofs.whole.judge_proof.Goals as goal

abbrev Fits : Proof → Type 0
Fits p = proof_codec.Fits p

pub of_event-requires-clause-step : goal.of_event-requires-clause-step
of_event-requires-clause-step g c = (existence-range c.in-Exists.proof (subst Fits c.in-Exists.is c.requires)).at.step

pub of_event-requires-clause-top : goal.of_event-requires-clause-top
of_event-requires-clause-top g c = (existence-range c.in-Exists.proof (subst Fits c.in-Exists.is c.requires)).at.top

pub of_event-requires-clause-few : goal.of_event-requires-clause-few
of_event-requires-clause-few g c = (existence-range c.in-Exists.proof (subst Fits c.in-Exists.is c.requires)).at.count

pub of_event-requires-clause-small : goal.of_event-requires-clause-small
of_event-requires-clause-small g c = (existence-range c.in-Exists.proof (subst Fits c.in-Exists.is c.requires)).event

pub of_thread-requires-clause-step : goal.of_thread-requires-clause-step
of_thread-requires-clause-step g c = (thread-range c.in-Archived.proof (subst Fits c.in-Archived.is c.requires)).step

pub of_thread-requires-clause-top : goal.of_thread-requires-clause-top
of_thread-requires-clause-top g c = (thread-range c.in-Archived.proof (subst Fits c.in-Archived.is c.requires)).top

pub of_absence-requires-clause-step : goal.of_absence-requires-clause-step
of_absence-requires-clause-step g c = (absence-range c.in-Absent.proof (subst Fits c.in-Absent.is c.requires)).step

pub of_absence-requires-clause-top : goal.of_absence-requires-clause-top
of_absence-requires-clause-top g c = (absence-range c.in-Absent.proof (subst Fits c.in-Absent.is c.requires)).top

pub of_link-requires : goal.of_link-requires
of_link-requires g c = link-top c.in-Linked.proof (subst Fits c.in-Linked.is c.requires)
