use Rattle.std.proofs.Common.{◌≡◌, ℕ, suc, ◌+◌, ◌-◌, [], subst, arith}
use Rattle.tw_base.specs.format.Codecs.{bytes_codec, digest_codec, labels_codec, many}
use Rattle.tw_base.proofs.lemmas.format.CodecLaws.{lawful-bytes}
use Rattle.tw_base.proofs.lemmas.format.FieldLaws.{digests-short}
use Rattle.tw_base.proofs.lemmas.format.TakeLaws.{ManyTaken, many-begins, many-ends, many-more, took-fits}
use Rattle.tw_base.proofs.format.taking.take_labels.Goals as goal

pub returns-then-bytes-at : goal.returns-then-bytes-at
unfolding labels_codec many bytes_codec
returns-then-bytes-at c = digests-short c.args.count c.args.bytes.now c.args.at.now
    (λ i. omega (arith, c.type_inv.bytes i)) c.requires (omega arith)

pub loop-i-init : goal.loop-i-init
loop-i-init c =
    let P : ℕ → Type 0 = λ left. ManyTaken digest_codec c.args.bytes.now c.args.at.now c.args.count left []
    c.args.at.now in
    record {
      place = omega arith;
      taken = rw c.in_ok-labels.ensures (subst P (let s : c.args.count ≡ c.args.count - 0 = omega arith in s)
          (many-begins digest_codec c.args.bytes.now c.args.at.now c.args.count));
    }

pub loop-i-preserved : goal.loop-i-preserved
unfolding bytes_codec
loop-i-preserved c =
    let fits = took-fits digest_codec (lawful-bytes 32) c.args.bytes.now c.loop-i.at _ _ (omega arith)
    c.digest_at.ensures in
    let P : ℕ → Type 0 = λ left. ManyTaken digest_codec c.args.bytes.now c.args.at.now c.args.count left c.loop-i.labels
    c.loop-i.at in
    record {
      place = omega arith;
      taken = rw c.in_ok-push.ensures.ok
          (many-more digest_codec (lawful-bytes 32) c.args.bytes.now c.args.at.now c.loop-i.at c.args.count
          (c.args.count - (c.loop-i._i + 1)) c.loop-i.labels (c.loop-i.at + 32) c.digest_at.result
          (subst P (let s : c.args.count - c.loop-i._i ≡ suc (c.args.count - (c.loop-i._i + 1)) = omega arith in s)
          c.loop-i.invariant.taken) c.digest_at.ensures fits.0);
    }

pub returns : goal.returns
unfolding labels_codec
returns c =
    let P : ℕ → Type 0 = λ left. ManyTaken digest_codec c.args.bytes.now c.args.at.now c.args.count left c.loop-i.labels
    c.loop-i.at in
    let none : c.args.count - c.loop-i._i ≡ 0 = omega arith in
    let all = many-ends digest_codec c.args.bytes.now c.args.at.now c.loop-i.at c.args.count c.loop-i.labels
    (subst P none c.loop-i.invariant.taken) in
    (all.0, all.1, omega arith)
