use Rattle.std.proofs.Common.{◌≡◌, ◌+◌, ◌-◌, take, drop, ap, arith}
use Rattle.tw_base.proofs.lemmas.format.FieldLaws.{bytes-read, bytes-short}
use Rattle.tw_base.specs.format.Codecs.{bytes_codec}
use Rattle.tw_base.proofs.lemmas.format.CodecLaws.{lawful-bytes}
use Rattle.tw_base.proofs.lemmas.format.TakeLaws.{took-fits}
use Rattle.tw_base.proofs.format.taking.take_slice.Goals as goal

pub returns-then-bytes-start-clause-takes : goal.returns-then-bytes-start-clause-takes
unfolding bytes_codec
returns-then-bytes-start-clause-takes c = bytes-short c.args.count c.args.bytes.now c.args.at.now
    (λ i. omega (arith, c.type_inv.bytes i)) c.requires (omega arith)

pub returns-clause-takes : goal.returns-clause-takes
unfolding bytes_codec
returns-clause-takes c =
    let read = bytes-read c.args.count c.args.bytes.now _ c.args.at.now (λ i. omega (arith, c.type_inv.bytes i))
    (omega arith)
    (ap (λ n. take n (drop c.args.at.now c.args.bytes.now)) (let e : (c.args.at.now + c.args.count) - c.args.at.now
    ≡ c.args.count = omega arith in e)) in
    let fits = took-fits (bytes_codec c.args.count) (lawful-bytes c.args.count) c.args.bytes.now c.args.at.now _ _
    c.requires read in (read, fits.0, fits.1)
