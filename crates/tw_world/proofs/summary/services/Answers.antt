use Rattle.std.proofs.Common.{◌+◌, ◌≤◌, ◌∙◌, ◌∷◌, [], ◌++◌, List, length, drop, map, sym, ap, append_assoc, append-nil, arith}
use Rattle.std.proofs.lemmas.List.{at_drop_all}
use Rattle.tw_base.specs.declared.history.thread.Key.{Key}
use Rattle.tw_world.specs.Hosts.{host_key}
use Rattle.tw_world.specs.declared.host.Host.{Host}
use Rattle.tw_world.proofs.PlayedTexts.{keys-drop}
use Rattle.tw_world.proofs.summary.services.Goals as goal

pub loop-host-preserved : goal.loop-host-preserved
loop-host-preserved c =
    let hosts = c.args.hosts.now in
    let i = c.loop-host.host-index in
    let host = c.host-item.result in
    let left = map host_key (drop (i + 1) hosts) in
    ap (λ (ks : List Key). ks ++ left) c.in_ok-push.ensures.ok
    ∙ append_assoc c.loop-host.services (host_key host ∷ []) left
    ∙ ap (λ (ks : List Key). c.loop-host.services ++ ks) (sym (keys-drop hosts i host c.loop-host-test.true
    (sym c.host-item.is)))
    ∙ c.loop-host.invariant

pub returns : goal.returns
returns c =
    let hosts = c.args.hosts.now in
    let i = c.loop-host.host-index in
    let done : length hosts ≤ i = omega (arith, c.loop-host-test.false) in
    sym (at_drop_all (λ (hs : List Host). c.loop-host.services ++ map host_key hs) hosts i done
    ∙ append-nil c.loop-host.services) ∙ c.loop-host.invariant
