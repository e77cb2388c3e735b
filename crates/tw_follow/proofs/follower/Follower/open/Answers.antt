use Rattle.tw_pages.proofs.States.{serves_opened}
use Rattle.tw_follow.specs.Stands.{KeepsList, root_kind}
use Rattle.tw_follow.proofs.Spelling.{root-once, root-short}
use Rattle.tw_follow.proofs.follower.Follower.open.Goals as goal

pub returns-in-Ok-clause-follows : goal.returns-in-Ok-clause-follows
returns-in-Ok-clause-follows g c = λ i k told stands.
    serves_opened (root_kind g.H.Hasher.dig) KeepsList g.D.Disk.view c.in-Ok.recorded.store c.in-Ok.recorded.root k i
    stands
    (c.in-Ok.ensures.found (λ root used generation r s is may also would. root-once root r s is may.spelled also
    would.spelled) i stands.w told stands.is)

pub returns-in-Err-clause-follows : goal.returns-in-Err-clause-follows
returns-in-Err-clause-follows g c = λ i k told stands.
    c.in-Err.ensures.found (λ root used generation r s is may also would. root-once root r s is may.spelled also
    would.spelled) i stands.w told stands.is

pub invariant_of-result : goal.invariant_of-result
invariant_of-result g c = record {
  tells_faults = λ _. c.in-Ok.ensures.clean.1;
  short = root-short c.in-Ok.recorded.root c.in-Ok.ensures.may.spelled;
  few_pages = c.in-Ok.ensures.may.fits.few_pages;
  few_commits = c.in-Ok.ensures.may.fits.few_commits;
  clean = c.in-Ok.ensures.clean.0;
}

pub returns-in-Ok-clause-stable : goal.returns-in-Ok-clause-stable
returns-in-Ok-clause-stable g c = λ i told. let it = c.in-Ok.ensures.opened i told in it.4

pub returns-in-Ok-clause-opened : goal.returns-in-Ok-clause-opened
returns-in-Ok-clause-opened g c = λ i told. let it = c.in-Ok.ensures.opened i told in (it.0, it.2, it.1)

pub returns-in-Ok-clause-over : goal.returns-in-Ok-clause-over
returns-in-Ok-clause-over g c = λ i told. let it = c.in-Ok.ensures.opened i told in (it.0, it.1, it.2, it.3)
