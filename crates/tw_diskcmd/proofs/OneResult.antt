-- Over a disk that tells its content a command comes to one thing.
use Rattle.std.proofs.Common.{◌≡◌, ◌∙◌, ℕ, List, refl, ap, sym}
use Rattle.std.specs.Prelude.{Some, Result, Ok, Err}
use Rattle.sha2.specs.Sha256.{sha256}
use Rattle.tw_base.specs.declared.history.thread.Thread.{Thread}
use Rattle.tw_disk.specs.Image.{Image}
use Rattle.tw_msg.specs.declared.message.Message.{Message}
use Rattle.tw_pages.specs.Records.{Served}
use Rattle.tw_follow.specs.declared.root.RootRecord.{RootRecord}
use Rattle.tw_follow.proofs.Standing.{served_once}
use Rattle.tw_text.specs.declared.fault.CommandFault.{CommandFault}
use Rattle.tw_text.specs.declared.fault.CommandFault.TheVariants as fault
use Rattle.tw_diskcmd.specs.Heads.{HeadsComes, IsListed, lines_over}
use Rattle.tw_diskcmd.specs.Offering.{IsOffered, OfferedMessageComes, offered_over}
use Rattle.tw_diskcmd.specs.Comes.{TellsContent, found_disk}
use Rattle.tw_diskcmd.proofs.Landings.{told_result}

module _ (image : Image) (before after : ℕ) where
  listed : (r : Result (List ℕ) CommandFault) → TellsContent r → HeadsComes (found_disk (Some image) before after) r
      → IsListed (Some image) r
  listed (Ok lines) tells comes = comes
  listed (Err (fault.Unserved cause)) tells comes = comes
  listed (Err fault.DiskFault) tells comes = absurd tells
  listed (Err fault.NoMemory) tells comes = absurd tells
  listed _ tells comes = absurd comes

pub one_offering : (image : Image) (m : Message) (before after : ℕ) (one other : Result Thread CommandFault)
    → TellsContent one → TellsContent other → OfferedMessageComes (found_disk (Some image) before after) m one
    → OfferedMessageComes (found_disk (Some image) before after) m other → one ≡ other
one_offering image m before after one other tells also comes goes =
    let first = (told_result (λ found r. IsOffered found m r) (found_disk (Some image) before after) one tells
    comes).answer image refl in
    let second = (told_result (λ found r. IsOffered found m r) (found_disk (Some image) before after) other also
    goes).answer image refl in
    first.2 ∙ ap (λ (s : Served RootRecord). offered_over m s) (served_once sha256 image first.0 second.0 first.1 second.1)
    ∙ sym second.2

pub one_listing : (image : Image) (before after : ℕ) (one other : Result (List ℕ) CommandFault) → TellsContent one
    → TellsContent other → HeadsComes (found_disk (Some image) before after) one
    → HeadsComes (found_disk (Some image) before after) other → one ≡ other
one_listing image before after one other tells also comes goes =
    let first = (listed image before after one tells comes).answer image refl in
    let second = (listed image before after other also goes).answer image refl in
    first.2 ∙ ap (λ (s : Served RootRecord). lines_over s) (served_once sha256 image first.0 second.0 first.1 second.1)
    ∙ sym second.2
