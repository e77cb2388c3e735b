-- The thread that is held of a hop: the one that it carries, or the anchor that binds it, where that is held.
use Rattle.std.specs.Prelude.{List, [], ◌∷◌, ◌==◌, if◌then◌else◌}
use Rattle.std.specs.Option.{option_to_list}
use Rattle.tw_base.specs.declared.history.thread.Thread.{Thread}
use Rattle.tw_base.specs.history.Anchors.{anchor_of}
use Rattle.tw_chain.specs.declared.proof.HopPart.{HopPart}

abbrev pub held_of_hop : List Thread → HopPart → List Thread
held_of_hop anchors hop =
    if hop.bind == 0 then hop.entry.thread ∷ [] else option_to_list (anchor_of anchors hop.entry.thread.from hop.bind)
