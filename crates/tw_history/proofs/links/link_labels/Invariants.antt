use Rattle.std.proofs.Common.{◌≡◌, ℕ, List, length}
use Rattle.tw_base.specs.history.Auth.{link_texts}
use Rattle.tw_base.specs.kinds.Handing.{Hands}
use Rattle.tw_history.specs.Links.{AreReached}
use Rattle.tw_history.proofs.LinkLabels.{labels_below}
use Rattle.tw_history.proofs.links.link_labels.Given as goal

abbrev pub invariant-loop-level : goal.invariant-loop-level
invariant-loop-level g l = record {
  made : (earlier : List (List ℕ)) → AreReached l.step earlier l.latest → l.labels.items ≡ labels_below
      g.T.Transcript.dig l.datum earlier l.step l.level;
  count : length l.labels.items ≡ l.level;
  took : (earlier : List (List ℕ)) → AreReached l.step earlier l.latest → Hands g.T.Transcript.took l.initial.texts
      l.texts (link_texts g.T.Transcript.dig l.datum earlier l.step l.level);
}
