-- What is told of anchors with a bad line.
use Rattle.std.proofs.Common.{◌≡◌, ℕ, List, refl}
use Rattle.tw_msg.specs.AnchorsFile.{IsFirstBadLine, IsNoAnchors, lines}
use Rattle.tw_text.specs.Faults.{fault_status, fault_text}
use Rattle.tw_text.specs.declared.fault.CommandFault.TheVariants.{Unreadable}
use Rattle.tw_text.specs.declared.refusal.BadInput.TheVariants.{BadLine}
use Rattle.tw_judge.specs.Telling.{TellsWhy}

pub bad_line_told : {file text : List ℕ} {number status : ℕ} (anchors : List ℕ)
    → IsFirstBadLine (lines anchors) number
    → status ≡ fault_status (Unreadable (BadLine file number)) → text ≡ fault_text (Unreadable (BadLine file number))
    → TellsWhy (IsNoAnchors file anchors) status text
bad_line_told {file} {number} anchors bad status_is text_is = record {
  fault = Unreadable (BadLine file number);
  unjudged = (refl, bad);
  status_is = status_is;
  text_is = text_is;
}
