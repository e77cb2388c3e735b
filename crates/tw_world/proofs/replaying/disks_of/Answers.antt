use Rattle.std.proofs.Common.{◌≡◌, ◌∷◌, [], ◌++◌, List, length, map, sym, ap, ◌∙◌, append_assoc, append-nil, arith}
use Rattle.std.proofs.lemmas.List.{map_push, nil_from_length}
use Rattle.std.specs.Vec.Iter.{into_iter_items}
use Rattle.tw_world.specs.PlayedLines.{host_disk}
use Rattle.tw_world.specs.declared.host.Host.{Host}
use Rattle.tw_world.specs.declared.replaying.WorldDisk.{WorldDisk}
use Rattle.tw_world.proofs.replaying.disks_of.Goals as goal

pub loop-host-preserved : goal.loop-host-preserved
loop-host-preserved c =
    let at = c.loop-host in
    let x = c.in-Some.host in
    let steps : into_iter_items at.host-iterator ≡ x ∷ into_iter_items c.next.new.self = c.in-Some.ensures.steps.0 in (
      append_assoc at.yielded (x ∷ []) _ ∙ rw (← steps) at.invariant.0,
      c.in_ok-push.ensures.ok ∙ ap (λ (ds : List WorldDisk). ds ++ host_disk x ∷ []) at.invariant.1
          ∙ sym (map_push host_disk at.yielded x),
      let was = at.invariant.2 in
          let gone = c.in-Some.ensures.steps.1 in
          let short = ap length steps in
          omega arith,
    )

pub returns : goal.returns
returns c =
    let at = c.loop-host in
    let none = c.in-None.ensures.steps in
    let empty : into_iter_items at.host-iterator ≡ [] = nil_from_length _ (sym at.invariant.2 ∙ none.0) in
    let all : at.yielded ≡ c.sort_hosts.new.hosts.items = sym (append-nil at.yielded) ∙ rw empty at at.invariant.0
    ∙ c.into_iter-host-iterator.ensures.into_iter_gives.0 in (
      c.sort_hosts.new.hosts.items,
      c.in_ok-sort_hosts.ensures,
      at.invariant.1 ∙ ap (λ (hs : List Host). map host_disk hs) all,
    )
