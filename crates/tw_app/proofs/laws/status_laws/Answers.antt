use Rattle.std.proofs.Common.{refl}
use Rattle.tw_app.proofs.Endings.{clash, complete, cut_short, disk_fault, done, input_fault, list_complete, no_memory}
use Rattle.tw_app.proofs.Endings.{output_fault, refused, rejected, unreadable, unserved, usage}
use Rattle.tw_app.proofs.laws.status_laws.Goals as goal

pub returns-clause-done : goal.returns-clause-done
returns-clause-done g c = λ a run. done g.D.Disk.view g.met.D.Disk.only_now g.met.D.Disk.as_it_reads a 0 run refl

pub returns-clause-rejected : goal.returns-clause-rejected
returns-clause-rejected g c = λ a run. rejected g.D.Disk.view g.met.D.Disk.only_now g.met.D.Disk.as_it_reads a 1 run
    refl

pub returns-clause-usage : goal.returns-clause-usage
returns-clause-usage g c = λ a run. usage g.D.Disk.view g.met.D.Disk.only_now g.met.D.Disk.as_it_reads a 2 run refl

pub returns-clause-input_fault : goal.returns-clause-input_fault
returns-clause-input_fault g c = λ a run. input_fault g.D.Disk.view g.met.D.Disk.only_now g.met.D.Disk.as_it_reads a 3
    run refl

pub returns-clause-output_fault : goal.returns-clause-output_fault
returns-clause-output_fault g c = λ a run. output_fault g.D.Disk.view g.met.D.Disk.only_now g.met.D.Disk.as_it_reads a 4
    run refl

pub returns-clause-cut_short : goal.returns-clause-cut_short
returns-clause-cut_short g c = λ a run. cut_short g.D.Disk.view g.met.D.Disk.only_now g.met.D.Disk.as_it_reads a 4 run

pub returns-clause-disk_fault : goal.returns-clause-disk_fault
returns-clause-disk_fault g c = λ a run. disk_fault g.D.Disk.view g.met.D.Disk.only_now g.met.D.Disk.as_it_reads a 5 run
    refl

pub returns-clause-no_memory : goal.returns-clause-no_memory
returns-clause-no_memory g c = λ a run. no_memory g.D.Disk.view g.met.D.Disk.only_now g.met.D.Disk.as_it_reads a 6 run
    refl

pub returns-clause-refused : goal.returns-clause-refused
returns-clause-refused g c = λ a run. refused g.D.Disk.view g.met.D.Disk.only_now g.met.D.Disk.as_it_reads a 7 run refl

pub returns-clause-store : goal.returns-clause-store
returns-clause-store g c = λ a run. unserved g.D.Disk.view g.met.D.Disk.only_now g.met.D.Disk.as_it_reads a 8 run refl

pub returns-clause-complete : goal.returns-clause-complete
returns-clause-complete g c = λ a run. complete g.D.Disk.view g.met.D.Disk.only_now g.met.D.Disk.as_it_reads a 8 run
    refl

pub returns-clause-list_complete : goal.returns-clause-list_complete
returns-clause-list_complete g c = λ a run. list_complete g.D.Disk.view g.met.D.Disk.only_now g.met.D.Disk.as_it_reads a
    8 run refl

pub returns-clause-unreadable : goal.returns-clause-unreadable
returns-clause-unreadable g c = λ a run. unreadable g.D.Disk.view g.met.D.Disk.only_now g.met.D.Disk.as_it_reads a 9 run
    refl

pub returns-clause-clash : goal.returns-clause-clash
returns-clause-clash g c = λ a run. clash g.D.Disk.view g.met.D.Disk.only_now g.met.D.Disk.as_it_reads a 10 run refl
