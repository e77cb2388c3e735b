use Rattle.std.proofs.Common.{rules}
use Rattle.std.proofs.lemmas.List.Sorted.{answers_always}
use Rattle.tw_world.proofs.replaying.sort_hosts.Goals as goal

pub returns : goal.returns
returns c = record {
  moved = c.sort_by_key.ensures.permutation;
  in_order = c.in_ok-sort_by_key.ensures.sorted (λ host. host.name)
      (answers_always _ _ _ (λ f a r next called. search rules));
}
