use Rattle.tw_verifier.proofs.tree_attempts.attempt_tree.Goals as goal

pub returns-in-Archived : goal.returns-in-Archived
returns-in-Archived g c = rw c.in-Archived.is c.attempt_present.ensures

pub returns-in-Absent : goal.returns-in-Absent
returns-in-Absent g c = rw c.in-Absent.is c.attempt_gap.ensures

pub returns-in-Hop : goal.returns-in-Hop
returns-in-Hop g c = rw c.in-Hop.is c.attempt_present-in-Hop.ensures
