use Rattle.std.proofs.Common.{◌≡◌, ◌+◌, ◌*◌, ◌≤◌, length}
use Rattle.tw_base.proofs.lemmas.format.PutLaws.{ManyPut}
use Rattle.tw_steppage.specs.StepBytes.{ref_codec}
use Rattle.tw_steppage.proofs.page.put_links.Given as goal

abbrev pub invariant-loop-link : goal.invariant-loop-link
invariant-loop-link l = ManyPut ref_codec.write (λ link. Unit {0}) l.initial.page l.page l.links l.link-index
    × (length l.page ≡ length l.initial.page + 40 * l.link-index) × (l.link-index ≤ length l.links)
