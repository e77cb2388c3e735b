use Rattle.tw_app.proofs.Endings.{accepted, clash, crash, statuses, unwritten}
use Rattle.tw_app.proofs.Audits.{clashes, stands}
use Rattle.tw_app.proofs.AuditsFound.{finds}
use Rattle.tw_app.proofs.Adoptions.{adopted, adopts}
use Rattle.tw_app.proofs.MapRuns.{between}
use Rattle.tw_app.proofs.PlainAdoptions.{plain_adoption}
use Rattle.tw_app.proofs.PlainMapRuns.{plain_map}
use Rattle.tw_app.proofs.PlainRuns.{plain_line, plain_run}
use Rattle.tw_app.proofs.ending.run.Goals as goal

pub returns-clause-accepted : goal.returns-clause-accepted
returns-clause-accepted g c = accepted g.D.Disk.view g.met.D.Disk.only_now g.met.D.Disk.as_it_reads _ _
    c.run_to_the_end.ensures

pub returns-clause-statuses : goal.returns-clause-statuses
returns-clause-statuses g c = statuses g.D.Disk.view g.met.D.Disk.only_now g.met.D.Disk.as_it_reads _ _
    c.run_to_the_end.ensures

pub returns-clause-crash : goal.returns-clause-crash
returns-clause-crash g c = crash g.D.Disk.view g.met.D.Disk.only_now g.met.D.Disk.as_it_reads _ _
    c.run_to_the_end.ensures

pub returns-clause-unwritten : goal.returns-clause-unwritten
returns-clause-unwritten g c = unwritten g.D.Disk.view g.met.D.Disk.only_now g.met.D.Disk.as_it_reads _ _
    c.run_to_the_end.ensures

pub returns-clause-stands : goal.returns-clause-stands
returns-clause-stands g c = stands g.D.Disk.view _ _ c.run_to_the_end.ensures

pub returns-clause-clash : goal.returns-clause-clash
returns-clause-clash g c = λ tenth.
    let run = c.run_to_the_end.ensures in
    clashes g.D.Disk.view _ _ run tenth (clash g.D.Disk.view g.met.D.Disk.only_now g.met.D.Disk.as_it_reads _ _ run
    tenth)

pub returns-clause-finds : goal.returns-clause-finds
returns-clause-finds g c = λ bytes anchors family is. finds g.D.Disk.view _ _ bytes anchors family is
    c.run_to_the_end.ensures

pub returns-clause-between : goal.returns-clause-between
returns-clause-between g c = between g.D.Disk.view _ _ c.run_to_the_end.ensures

pub returns-clause-adopted : goal.returns-clause-adopted
returns-clause-adopted g c = adopted g.D.Disk.view _ _ c.run_to_the_end.ensures

pub returns-clause-adopts : goal.returns-clause-adopts
returns-clause-adopts g c = λ h anchors proofs is. adopts g.D.Disk.view _ _ h anchors proofs is c.run_to_the_end.ensures

pub returns-clause-plain : goal.returns-clause-plain
returns-clause-plain g c = λ proof_file lines_file proof lines before word zeroth taken named asked proof_told lines_told.
    let run = c.run_to_the_end.ensures in
    let laws = c.plain_laws.ensures in
    plain_run laws.held laws.so laws.readable g.D.Disk.view g.met.D.Disk.only_now g.met.D.Disk.as_it_reads _ _ run zeroth
    proof_file lines_file proof lines before word named asked proof_told lines_told taken

pub returns-clause-plain_line : goal.returns-clause-plain_line
returns-clause-plain_line g c = λ proof_file name step hex proof before zeroth asked proof_told taken.
    let run = c.run_to_the_end.ensures in
    let laws = c.plain_laws.ensures in
    plain_line laws.held laws.so laws.readable g.D.Disk.view g.met.D.Disk.only_now g.met.D.Disk.as_it_reads _ _ run zeroth
    proof_file name step hex proof before asked proof_told taken

pub returns-clause-plain_map : goal.returns-clause-plain_map
returns-clause-plain_map g c = λ low_file high_file lines_file low high lines before zeroth asked low_told high_told lines_told taken.
    let run = c.run_to_the_end.ensures in
    plain_map c.plain_map_laws.ensures.so g.D.Disk.view _ _ run zeroth low_file high_file lines_file low high lines before
    g.met.D.Disk.only_now g.met.D.Disk.as_it_reads asked low_told high_told lines_told taken

pub returns-clause-plain_adoption : goal.returns-clause-plain_adoption
returns-clause-plain_adoption g c = λ history_file lines_file proof_file whole lines before more_files proofs zeroth asked whole_told lines_told proofs_told taken.
    let run = c.run_to_the_end.ensures in
    let fronts = c.first_steps_laws.ensures in
    let laws = c.plain_laws.ensures in
    plain_adoption laws.so laws.readable c.same_laws.ensures.same fronts.same g.D.Disk.view _ _ run zeroth
    history_file lines_file proof_file whole lines before more_files proofs
    g.met.D.Disk.only_now g.met.D.Disk.as_it_reads asked whole_told lines_told proofs_told taken
