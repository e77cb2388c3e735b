use Rattle.tw_base.specs.format.Codecs.{number_codec}
use Rattle.tw_history.proofs.FileFits.{recorded-fits}
use Rattle.tw_history.proofs.WritingLaws.{recorded_put}
use Rattle.tw_history.proofs.writing.put_recorded.Goals as goal

pub returns : goal.returns
unfolding number_codec
returns c = (
  recorded_put c.args.time c.args.content.now c.args.into.now _ _ _ c.kind_of.result c.kind_of.ensures
      c.in_ok-put_number.ensures.puts.0 c.in_ok-put_time.ensures.0 c.in_ok-put_content.ensures.0,
  recorded-fits c.args.time c.args.content.now c.requires.time c.in_ok-put_content.ensures.1,
)
