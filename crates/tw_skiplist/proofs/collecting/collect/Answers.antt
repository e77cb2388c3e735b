use Rattle.std.proofs.Common.{refl, ◌≡◌, ◌<◌, ◌-◌, ◌^◌, ◌++◌, ◌∷◌, [], ℕ, ap, sym, ◌∙◌, subst, arith}
use Rattle.tw_disk.specs.Found.Found.{Is}
use Rattle.tw_disk.proofs.FoundLaws.{is_on}
use Rattle.tw_disk.proofs.ReadingLaws.{only_reads_on}
use Rattle.tw_skipproof.specs.Paths.{greedy_steps, hop, hop_level}
use Rattle.tw_skipproof.proofs.Hops.{hop_level-short}
use Rattle.tw_skiplist.specs.Walks.{collect_along, hop_in}
use Rattle.tw_skiplist.proofs.Shapes.{shapes-on}
use Rattle.tw_skiplist.proofs.WalkLaws.{collected-on}
use Rattle.tw_skiplist.proofs.collecting.collect.Goals as goal

pub loop-at-preserved : goal.loop-at-preserved
loop-at-preserved g c =
    let inv = c.loop-at.invariant in
    let dig = g.H.Hasher.dig in
    let at = c.loop-at.at in
    let to = c.args.to in
    let links = c.loop-at.links in
    let last = c.loop-at.last in
    let link = c.in_ok-link.field-0.link in
    let next = c.in_ok-link.field-0.next in
    let reads = c.in_ok-link.ensures.reads in
    let level = c.next_hop-level.ensures.level in
    let under : to < at = omega (arith, c.loop-at-test.true) in
    let power : c.power_of_two-at.result ≡ 2 ^ hop_level at to = c.power_of_two-at.ensures ∙ ap (λ (l : ℕ). 2 ^ l)
    level in
    record {
      reads = record {
        on = λ ps told.
            let own : hop_in dig ps last.page at (hop_level at to) ≡ Is (record { link = link; next = next }) =
            subst (λ (l : ℕ). hop_in dig ps last.page at l ≡ Is (record { link = link; next = next })) level
            (reads.answer ps (inv.reads.kept.list_kept ∙ told)) in
            inv.reads.on ps told
            ∙ collected-on dig ps links last at to under
            ∙ is_on (hop_in dig ps last.page at (hop_level at to)) (λ hopped. collect_along dig ps to
            (greedy_steps (hop at to) to) (links ++ hopped.link ∷ []) hopped.next) (record { link = link; next = next })
            own
            ∙ (λ j. collect_along dig ps to (greedy_steps (at - sym power j) to) (sym c.in_ok-push.ensures.ok j) next);
        kept = only_reads_on g.P.Pages.view g.P.Pages.same _ _ _ _ _ _ g.met.P.Pages.same_on (λ good. tt) (λ good. refl)
            inv.reads.kept reads.kept;
        later = omega (arith, inv.reads.later, reads.faults.later);
      };
      shapes = shapes-on c.push.new.self links link c.args.from at to c.next_hop-level.result c.power_of_two-at.result
          c.in_ok-push.ensures.ok c.power_of_two-at.ensures level under
          c.in_ok-link.ensures.others inv.shapes;
      low = let short = hop_level-short at to under in omega (arith, short, power, under);
      high = omega (arith, inv.high);
    }
