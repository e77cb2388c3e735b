use Rattle.std.proofs.Common.{map, subst, Err}
use Rattle.std.specs.String.{string_bytes}
use Rattle.tw_words.specs.CommandLine.{verify, verify_file, verify_one}
use Rattle.tw_words.specs.Takings.{MakesCommand}
use Rattle.tw_words.proofs.file_forms.verify.Goals as goal

pub returns-in-Err-At : goal.returns-in-Err-At
unfolding verify
returns-in-Err-At c =
    let proof = c.in_ok-proof.proof.now in
    let words = map string_bytes c.path.new.self.left.now in
    let stopped = subst (λ stop. MakesCommand (verify_file proof words) (Err stop)) c.in-Err-At.field-0-is
    c.in-Err-At.ensures in
    rw c.in_ok-proof.ensures (c.or_further.ensures (verify_file proof) (verify_one proof) words stopped
    c.verify_one.ensures)
