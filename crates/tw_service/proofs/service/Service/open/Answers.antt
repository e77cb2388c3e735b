use Rattle.std.specs.Prelude.{is_some}
use Rattle.tw_pages.proofs.States.{serves_opened}
use Rattle.tw_answers.specs.Roots.{root_kind}
use Rattle.tw_service.specs.Stands.{KeepsHistory}
use Rattle.tw_answers.proofs.RootLaws.{root-short}
use Rattle.tw_service.proofs.Standing.{once}
use Rattle.tw_service.proofs.service.Service.open.Goals as goal

pub returns-in-Ok-clause-served : goal.returns-in-Ok-clause-served
returns-in-Ok-clause-served g c = λ i of h told s.
    serves_opened root_kind (KeepsHistory g.H.Hasher.dig) g.D.Disk.view c.in-Ok.kept.store c.in-Ok.kept.root h i
    s.stands (c.in-Ok.ensures.found once i s.stands.w told s.stands.is)

pub returns-in-Err-clause-served : goal.returns-in-Err-clause-served
returns-in-Err-clause-served g c = λ i of h told s. c.in-Err.ensures.found once i s.stands.w told s.stands.is

pub returns-in-Ok-clause-stable : goal.returns-in-Ok-clause-stable
returns-in-Ok-clause-stable g c = λ i told. let it = c.in-Ok.ensures.opened i told in it.4

pub returns-in-Ok-clause-opened : goal.returns-in-Ok-clause-opened
returns-in-Ok-clause-opened g c = λ i told. let it = c.in-Ok.ensures.opened i told in (it.0, it.2, it.1)

pub returns-in-Ok-clause-over : goal.returns-in-Ok-clause-over
returns-in-Ok-clause-over g c = λ i told. let it = c.in-Ok.ensures.opened i told in (it.0, it.1, it.2, it.3)

pub invariant_of-result : goal.invariant_of-result
invariant_of-result g c = record {
  short = root-short (is_some c.in-Ok.kept.root.time) c.in-Ok.kept.root c.in-Ok.ensures.may.spelled;
  few_threads = c.in-Ok.ensures.may.fits.few_threads;
  few_pages = c.in-Ok.ensures.may.fits.few_pages;
  few_commits = c.in-Ok.ensures.may.fits.few_commits;
  clean = c.in-Ok.ensures.clean.0;
}
