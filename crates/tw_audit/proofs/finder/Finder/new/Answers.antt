use Rattle.std.proofs.Common.{[], sym}
use Rattle.std.proofs.lemmas.List.{append-nil}
use Rattle.tw_audit.specs.KeyLists.{key_front}
use Rattle.tw_audit.proofs.finder.Finder.new.Goals as goal

pub returns : goal.returns
returns g c =
    record {
      behind = [];
      are = sym (append-nil (key_front c.args.repeated));
      took = λ unspent. c.new.ensures g.H.Hasher.dig;
    }
