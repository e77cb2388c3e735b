use Rattle.std.proofs.Common.{sym, ◌∙◌, inl, inr}
use Rattle.tw_contradict.proofs.Sizes.{file-sizes, high-some, low-some, small-if}
use Rattle.tw_contradict.proofs.archive_reading.read_file.Goals as goal

pub of_low-requires : goal.of_low-requires
of_low-requires c = (low-some c.args.bytes.now c.in-Ok-read_low.file c.in-Ok-read_low.ensures.read).steps.some

pub of_high-requires-clause-some : goal.of_high-requires-clause-some
of_high-requires-clause-some c =
    (high-some c.args.bytes.now c.in-Ok-read_high.file c.in-Ok-read_high.ensures.read).steps.some

pub returns-in-Ok-clause-small : goal.returns-in-Ok-clause-small
returns-in-Ok-clause-small c = small-if c.args.bytes.now c.of_proof.result
    (λ a is. inl (c.in-Ok.proof, c.in-Ok.ensures, sym c.of_proof.ensures ∙ is))

pub returns-in-Ok-read_low-clause-small : goal.returns-in-Ok-read_low-clause-small
returns-in-Ok-read_low-clause-small c =
    small-if c.args.bytes.now c.of_low.result
    (λ a is. inr (inl (c.in-Ok-read_low.file, c.in-Ok-read_low.ensures.read, sym c.of_low.ensures ∙ is)))

pub returns-in-Ok-read_high-clause-small : goal.returns-in-Ok-read_high-clause-small
returns-in-Ok-read_high-clause-small c =
    (file-sizes c.args.bytes.now c.of_high.result
    (inr (inr (c.in-Ok-read_high.file, c.in-Ok-read_high.ensures.read, sym c.of_high.ensures)))).small
