use Rattle.std.proofs.Common.{refl}
use Rattle.tw_base.specs.format.Codecs.{HasBytes, bytes_codec, labels_codec, many}
use Rattle.tw_base.proofs.lemmas.format.PutLaws.{put-all, put-more, put-none}
use Rattle.tw_base.proofs.format.writers.put_labels.Goals as goal

pub loop-label-init : goal.loop-label-init
loop-label-init c = put-none (λ label. label) (HasBytes 32) c.args.into.now c.as_slice-label-items.result.now

pub loop-label-preserved : goal.loop-label-preserved
unfolding bytes_codec
loop-label-preserved c =
    put-more (λ label. label) (HasBytes 32) c.args.into.now c.loop-label.into _ c.as_slice-label-items.result.now
    c.loop-label.label-index c.label-item.result c.loop-label-test.true c.label-item.is
    c.loop-label.invariant c.in_ok-put_digest.ensures.puts.0 c.in_ok-put_digest.ensures.puts.1

pub returns-clause-puts : goal.returns-clause-puts
unfolding labels_codec many bytes_codec
returns-clause-puts c =
    let all = put-all (λ label. label) (HasBytes 32) c.args.into.now c.loop-label.into c.as_slice-label-items.result.now
    c.loop-label.label-index c.loop-label-test.false c.loop-label.invariant in
    rw (← c.as_slice-label-items.ensures.value) (all.0, (refl, all.1))
