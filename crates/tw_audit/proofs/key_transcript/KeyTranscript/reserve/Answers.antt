use Rattle.std.proofs.Common.{refl}
use Rattle.tw_audit.specs.declared.keys.Keys.{Keys}
use Rattle.tw_audit.proofs.KeyLaws.{keys-same}
use Rattle.tw_audit.proofs.key_transcript.KeyTranscript.reserve.Goals as goal

pub returns : goal.returns
returns g c = λ texts took unspent.
    let old : Keys = c.args.self.now.keys in
    keys-same g.H.Hasher.dig texts old
    (record { alloc = old.alloc; keys = c.reserve_exact.new.self; known = old.known; spent = old.spent })
    c.reserve_exact.ensures.items refl (took unspent)
