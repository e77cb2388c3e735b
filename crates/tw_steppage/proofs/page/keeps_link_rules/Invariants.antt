use Rattle.std.proofs.Common.{◌≡◌, true}
use Rattle.tw_steppage.specs.StepPages.{keeps_link_rules}
use Rattle.tw_steppage.proofs.page.keeps_link_rules.Given as goal

abbrev pub invariant-loop-level : goal.invariant-loop-level
invariant-loop-level l = keeps_link_rules l.page l.step l.links l.level ≡ true
