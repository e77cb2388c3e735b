use Rattle.std.proofs.Common.{lit≤}
use Rattle.tw_service.proofs.Beginning.{leaves_none, may_none, serves_none, tells_none}
use Rattle.tw_service.proofs.service.Service.init.Goals as goal

pub init-requires-clause-first : goal.init-requires-clause-first
init-requires-clause-first g c =
    may_none g.H.Hasher.dig (λ text. (g.met.H.Hasher.size text, g.met.H.Hasher.bytes text)) c.args.name
    c.genesis-auth.result c.empty_tree.result c.see_name.ensures c.genesis-auth.ensures c.empty_tree.ensures 1 (lit≤ tt)

pub init-requires-clause-begun : goal.init-requires-clause-begun
init-requires-clause-begun g c =
    may_none g.H.Hasher.dig (λ text. (g.met.H.Hasher.size text, g.met.H.Hasher.bytes text)) c.args.name
    c.genesis-auth.result c.empty_tree.result c.see_name.ensures c.genesis-auth.ensures c.empty_tree.ensures 0 (lit≤ tt)

pub returns-in-Ok-clause-served : goal.returns-in-Ok-clause-served
returns-in-Ok-clause-served g c = λ i told.
    serves_none g.H.Hasher.dig (λ text. (g.met.H.Hasher.size text, g.met.H.Hasher.bytes text)) c.args.name
    c.genesis-auth.result c.empty_tree.result c.see_name.ensures c.genesis-auth.ensures c.empty_tree.ensures
    g.D.Disk.view c.in-Ok.kept.store c.in-Ok.kept.root c.in-Ok.ensures.clean.0 (c.in-Ok.ensures.rests i told)

pub returns-in-Ok-clause-any_moment : goal.returns-in-Ok-clause-any_moment
returns-in-Ok-clause-any_moment g c = λ i told.
    leaves_none g.H.Hasher.dig (λ text. (g.met.H.Hasher.size text, g.met.H.Hasher.bytes text)) c.args.name
    c.genesis-auth.result c.empty_tree.result c.see_name.ensures c.genesis-auth.ensures c.empty_tree.ensures
    (g.D.Disk.view c.args.disk) _ (c.in-Ok.ensures.any_moment i told)

pub returns-in-Err-clause-any_moment_err : goal.returns-in-Err-clause-any_moment_err
returns-in-Err-clause-any_moment_err g c = λ i told.
    leaves_none g.H.Hasher.dig (λ text. (g.met.H.Hasher.size text, g.met.H.Hasher.bytes text)) c.args.name
    c.genesis-auth.result c.empty_tree.result c.see_name.ensures c.genesis-auth.ensures c.empty_tree.ensures
    (g.D.Disk.view c.args.disk) (g.D.Disk.view c.in-Err.disk) (c.in-Err.ensures.any_moment_err i told)

pub returns-in-Err-clause-told : goal.returns-in-Err-clause-told
returns-in-Err-clause-told g c = λ i told.
    tells_none g.H.Hasher.dig (λ text. (g.met.H.Hasher.size text, g.met.H.Hasher.bytes text)) c.args.name
    c.genesis-auth.result c.empty_tree.result c.see_name.ensures c.genesis-auth.ensures c.empty_tree.ensures
    (g.D.Disk.view c.args.disk) (g.D.Disk.view c.in-Err.disk) (c.in-Err.ensures.told i told)
