-- What checking a proof's pieces hashes: an event of a step under its top; and a hop, whatever shows it: its tree proof, the path from its
-- bind, and the opening of its thread's step.
use Rattle.std.specs.Prelude.{ℕ, List, [], ◌++◌, ◌==◌, Option, if◌then◌else◌}
use Rattle.std.specs.Option.{option_map_or}
use Rattle.tw_base.specs.declared.events.event_part.EventPart.{EventPart}
use Rattle.tw_base.specs.declared.history.tree_proof.Ask.TheVariants.{Present}
use Rattle.tw_base.specs.events.AuditPath.{audit_texts}
use Rattle.tw_chain.specs.declared.proof.HopPart.{HopPart}
use Rattle.tw_skipproof.specs.declared.existence.Part.{Part}
use Rattle.tw_skipproof.specs.declared.opening.Opening.{Opening}
use Rattle.tw_skipproof.specs.Acceptance.{part_texts}
use Rattle.tw_skipproof.specs.Openings.{opening_texts}
use Rattle.tw_skipproof.specs.Paths.{path_texts}
use Rattle.tw_treeproof.specs.Answers.{tree_proof_texts}

module _ (dig : List ℕ → List ℕ) where
  abbrev pub seen_texts : Part → EventPart → List (List ℕ)
  seen_texts at e = part_texts dig at ++ audit_texts dig at.opening.count e.index e.event e.path

  abbrev pub opened_texts : (step : ℕ) → Option Opening → List (List ℕ)
  opened_texts step opening = option_map_or (opening_texts dig step) opening []

  abbrev pub bind_texts : HopPart → List (List ℕ)
  bind_texts hop = if hop.bind == 0 then [] else path_texts dig hop.link.links hop.bind hop.entry.thread.step hop.entry.thread.auth

  abbrev pub hop_texts : HopPart → List (List ℕ)
  hop_texts hop = tree_proof_texts dig (Present hop.entry) hop.shown ++ (bind_texts hop ++ opened_texts hop.entry.thread.step hop.opening)
