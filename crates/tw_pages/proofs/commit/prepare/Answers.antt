use Rattle.std.proofs.Common.{◌≡◌, ◌+◌, ℕ, length, sym, ◌∙◌, ap, subst, arith, length-append}
use Rattle.tw_disk.specs.Disk.{IsAtRest, LeavesOnly}
use Rattle.tw_disk.proofs.Moments.{goes_on, leaves_weaker, at_rest_now}
use Rattle.tw_pages.specs.Store.{IsAbove, Opening, OpensAs, OpensAlone}
use Rattle.tw_pages.specs.CommitSteps.{HoldsPages, IsCommit}
use Rattle.tw_pages.proofs.Steps.{alone_opens}
use Rattle.tw_pages.proofs.commit.prepare.Given.{Over}
use Rattle.tw_pages.proofs.commit.prepare.Goals.{After-write_spare_body}
use Rattle.tw_pages.proofs.commit.prepare.Goals as goal

-- the three phases
images : (g : Over) (c : After-write_spare_body g) (old new : Opening)
    → IsCommit c.args.spare c.args.used c.args.generation c.args.staged.now c.args.root.now old new
    → IsAtRest (g.D.Disk.view c.args.disk.now) (IsAbove c.args.is_open old)
    → LeavesOnly (g.D.Disk.view c.args.disk.now) (g.D.Disk.view c.write_spare_body.new.disk) (OpensAs old)
images g c old new commit rest =
    let began = c.in_ok-ensure_spare_gate_closed.ensures.images old commit.spare_is rest in
    let closed = c.in_ok-ensure_spare_gate_closed.ensures.closed old commit.spare_is rest in
    let staged = c.in_ok-write_staged.ensures.images old (sym commit.used_is)
    (at_rest_now (g.D.Disk.view c.ensure_spare_gate_closed.new.disk) (OpensAlone old) closed) in
    let body = c.write_spare_body.ensures.images old commit.spare_is staged.now in
    goes_on (g.D.Disk.view c.args.disk.now) (g.D.Disk.view c.write_staged.new.disk)
    (g.D.Disk.view c.write_spare_body.new.disk) (OpensAs old)
    (goes_on (g.D.Disk.view c.args.disk.now) (g.D.Disk.view c.ensure_spare_gate_closed.new.disk)
    (g.D.Disk.view c.write_staged.new.disk) (OpensAs old) began
    (leaves_weaker (g.D.Disk.view c.ensure_spare_gate_closed.new.disk) (g.D.Disk.view c.write_staged.new.disk)
    (OpensAlone old) (OpensAs old) (alone_opens old) staged))
    (leaves_weaker (g.D.Disk.view c.write_staged.new.disk) (g.D.Disk.view c.write_spare_body.new.disk) (OpensAlone old)
    (OpensAs old) (alone_opens old) body)

pub returns-in_err-write_spare_body-clause-images : goal.returns-in_err-write_spare_body-clause-images
returns-in_err-write_spare_body-clause-images g c = images g (goal.at.returns-in_err-write_spare_body-clause-images
    g c).After-write_spare_body

pub returns-clause-images : goal.returns-clause-images
returns-clause-images g c = images g (goal.at.returns-clause-images g c).After-write_spare_body

pub returns-clause-ready : goal.returns-clause-ready
returns-clause-ready g c = λ old new commit rest.
    let closed = c.in_ok-ensure_spare_gate_closed.ensures.closed old commit.spare_is rest in
    let staged = c.in_ok-write_staged.ensures.images old (sym commit.used_is)
    (at_rest_now (g.D.Disk.view c.ensure_spare_gate_closed.new.disk) (OpensAlone old) closed) in
    let reads = c.in_ok-write_staged.ensures.staged closed.image closed.told
    (omega (arith, commit.used_is, closed.has.stands.room)) in
    let count : length new.pages ≡ length old.pages + length c.args.staged.now = ap length commit.step.pages
    ∙ length-append old.pages c.args.staged.now in
    c.in_ok-write_spare_body.ensures.ready old new c.args.staged.now commit.spare_is commit.step (omega (
      arith,
      commit.step.next,
      commit.generation_is,
    )) (omega (arith, count, commit.used_is)) commit.root_is staged.now
    (record {
      image = reads.image;
      told = reads.told;
      has = subst (λ (k : ℕ). HoldsPages k c.args.staged.now reads.image) commit.used_is reads.has;
    })

pub returns-in_err-write_staged-clause-images : goal.returns-in_err-write_staged-clause-images
returns-in_err-write_staged-clause-images g c = λ old new commit rest.
    let began = c.in_ok-ensure_spare_gate_closed.ensures.images old commit.spare_is rest in
    let closed = c.in_ok-ensure_spare_gate_closed.ensures.closed old commit.spare_is rest in
    let staged = c.write_staged.ensures.images old (sym commit.used_is)
    (at_rest_now (g.D.Disk.view c.ensure_spare_gate_closed.new.disk) (OpensAlone old) closed) in
    goes_on (g.D.Disk.view c.args.disk.now) (g.D.Disk.view c.ensure_spare_gate_closed.new.disk)
    (g.D.Disk.view c.write_staged.new.disk) (OpensAs old) began
    (leaves_weaker (g.D.Disk.view c.ensure_spare_gate_closed.new.disk) (g.D.Disk.view c.write_staged.new.disk)
    (OpensAlone old) (OpensAs old) (alone_opens old) staged)
