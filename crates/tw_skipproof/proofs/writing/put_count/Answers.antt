use Rattle.std.proofs.Common.{◌+◌, ◌^◌, ap, ◌∙◌, ◌++◌}
use Rattle.std.specs.Prelude.{if◌then◌else◌}
use Rattle.tw_base.specs.format.Codecs.{number_codec}
use Rattle.tw_base.specs.format.Fields.{number_bytes}
use Rattle.tw_skipproof.proofs.CountWords.{count_put}
use Rattle.tw_skipproof.proofs.writing.put_count.Goals as goal

pub returns : goal.returns
unfolding number_codec
returns c =
    count_put c.args.count c.args.time c.args.into.now c.put_number.new.into c.put_time.new.into c.put_time.result
    (c.in_ok-put_number.ensures.puts.0 ∙ ap (λ w. c.args.into.now ++ w) c.count_word.ensures
    ∙ ap (λ b. c.args.into.now ++ number_bytes 4 (c.args.count + (if b then 2 ^ 31 else 0))) c.is_some.ensures)
    c.put_time.ensures
