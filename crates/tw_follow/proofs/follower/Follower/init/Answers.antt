use Rattle.std.proofs.Common.{◌≤◌, ap, arith, lit≤, refl}
use Rattle.tw_pages.proofs.States.{leaves_begun, reads_begun, serves_first}
use Rattle.tw_follow.specs.declared.root.RootRecord.{RootRecord}
use Rattle.tw_follow.specs.HeadLists.{no_heads}
use Rattle.tw_follow.specs.Stands.{KeepsList, root_kind}
use Rattle.tw_follow.proofs.Starting.{begun, keeps_none, may_none}
use Rattle.tw_follow.proofs.follower.Follower.init.Goals as goal

pub init-requires-clause-first : goal.init-requires-clause-first
init-requires-clause-first g c = may_none g.H.Hasher.dig (λ text. (g.met.H.Hasher.size text, g.met.H.Hasher.bytes text))
    (begun c.args.name c.genesis-auth.result) c.see_name.ensures refl refl c.genesis-auth.ensures 1 (lit≤ tt)

pub init-requires-clause-begun : goal.init-requires-clause-begun
init-requires-clause-begun g c = may_none g.H.Hasher.dig (λ text. (g.met.H.Hasher.size text, g.met.H.Hasher.bytes text))
    (begun c.args.name c.genesis-auth.result) c.see_name.ensures refl refl c.genesis-auth.ensures 0 (lit≤ tt)

pub invariant_of-result : goal.invariant_of-result
invariant_of-result g c =
    let few = c.in-Ok.ensures.numbers.0 in
    let one = c.in-Ok.ensures.numbers.1 in
    let step = ap (λ (r : RootRecord). r.head.step) c.in-Ok.ensures.clean.0 in
    record {
      tells_faults = λ _. c.in-Ok.ensures.clean.2;
      short = omega (arith, step);
      few_pages = omega (arith, few, step);
      few_commits = omega (arith, one, step);
      clean = c.in-Ok.ensures.clean.1;
    }

pub returns-in-Ok-clause-follows : goal.returns-in-Ok-clause-follows
returns-in-Ok-clause-follows g c = λ i told.
    serves_first (root_kind g.H.Hasher.dig) KeepsList (begun c.args.name c.genesis-auth.result) (no_heads c.args.name)
    (keeps_none c.args.name c.genesis-auth.result) g.D.Disk.view c.in-Ok.recorded.store c.in-Ok.recorded.root
    c.in-Ok.ensures.clean.0 (c.in-Ok.ensures.rests i told)

pub returns-in-Ok-clause-any_moment : goal.returns-in-Ok-clause-any_moment
returns-in-Ok-clause-any_moment g c = λ i told.
    leaves_begun (root_kind g.H.Hasher.dig) KeepsList (begun c.args.name c.genesis-auth.result) (no_heads c.args.name)
    (keeps_none c.args.name c.genesis-auth.result) (g.D.Disk.view c.args.disk) _ (c.in-Ok.ensures.any_moment i told)

pub returns-in-Err-clause-any_moment_err : goal.returns-in-Err-clause-any_moment_err
returns-in-Err-clause-any_moment_err g c = λ i told.
    leaves_begun (root_kind g.H.Hasher.dig) KeepsList (begun c.args.name c.genesis-auth.result) (no_heads c.args.name)
    (keeps_none c.args.name c.genesis-auth.result) (g.D.Disk.view c.args.disk) _
    (c.in-Err.ensures.any_moment_err i told)

pub returns-in-Err-clause-told : goal.returns-in-Err-clause-told
returns-in-Err-clause-told g c = λ i told.
    reads_begun (root_kind g.H.Hasher.dig) KeepsList (begun c.args.name c.genesis-auth.result) (no_heads c.args.name)
    (keeps_none c.args.name c.genesis-auth.result) (g.D.Disk.view c.args.disk) _ (c.in-Err.ensures.told i told)
