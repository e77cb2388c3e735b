use Rattle.std.proofs.Common.{refl, sym, ◌∙◌, arith}
use Rattle.tw_base.specs.format.Codecs.{flag_codec}
use Rattle.tw_base.proofs.lemmas.format.Flags.{flag-found, flag-short, flag-stops}
use Rattle.tw_base.proofs.format.flag.take_flag.Goals as goal

pub returns-then-place-bytes : goal.returns-then-place-bytes
unfolding flag_codec
returns-then-place-bytes c = flag-short c.args.bytes.now c.args.at.now (omega arith)

pub returns-then-not-is_flag : goal.returns-then-not-is_flag
unfolding flag_codec
returns-then-not-is_flag c = flag-stops c.args.bytes.now c.args.at.now _ (omega arith) refl
    (sym c.is_flag.ensures ∙ c.if-not-is_flag.true)

pub returns : goal.returns
unfolding flag_codec
returns c = (
  flag-found c.args.bytes.now c.args.at.now _ (omega arith) refl (sym c.is_flag.ensures ∙ c.if-not-is_flag.false),
  tt,
  omega arith,
)
