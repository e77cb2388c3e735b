use Rattle.std.proofs.Common.{◌∙◌, refl, arith}
use Rattle.tw_pages.specs.SameSteps.{is_same_on}
use Rattle.tw_service.specs.TakingIn.{TakesIn}
use Rattle.tw_service.proofs.TakenIn.{handed_on, shared_fault, taken_archived, taken_fault, taken_receipt}
use Rattle.tw_service.proofs.TakenIn.{taken_refused}
use Rattle.tw_service.proofs.recorded.Unstaged.receive.Goals as goal

pub returns-in_err-refusal : goal.returns-in_err-refusal
returns-in_err-refusal g c =
    let d = g.D.Disk in
    let s = c.args.self.now.kept in
    let mid = c.receive_by.new.pages in
    let r = c.in_err-refusal.field-0.0 in
    let reads = c.in_err-refusal.ensures.reads in
    record {
      receives = handed_on (TakesIn g.H.Hasher.dig d.view c.args.message.now c.args.time s.store mid s.root s.root)
          c.from_residual.result r c.from_residual.ensures.1
          (taken_fault d.view g.met.D.Disk.only_now g.H.Hasher.dig
          (λ text. (g.met.H.Hasher.size text, g.met.H.Hasher.bytes text)) c.args.message.now c.args.time s.store mid
          s.root reads.kept.same_kept c.args.self.now.clean reads.faults.later
          r (shared_fault r reads.own) (λ ps list. reads.answer ps list)
          (λ good. reads.kept.unbroken_kept good c.requires.whole) (λ failed. reads.faults.rose failed));
    }

pub returns-in-Refuse : goal.returns-in-Refuse
returns-in-Refuse g c =
    let d = g.D.Disk in
    let s = c.args.self.now.kept in
    let mid = c.receive_by.new.pages in
    let reads = c.in_ok-refusal.ensures.reads in
    record {
      receives = taken_refused d.view g.met.D.Disk.only_now g.H.Hasher.dig
          (λ text. (g.met.H.Hasher.size text, g.met.H.Hasher.bytes text)) c.args.message.now c.args.time s.store mid
          s.root reads.kept.same_kept c.args.self.now.clean reads.faults.later
          c.in_ok-refusal.field-0 (λ ps list. reads.answer ps list) (reads.kept.unbroken_kept refl c.requires.whole)
          c.in-Refuse.refusal c.in-Refuse.is (c.in_ok-refusal.ensures.tells c.in-Refuse.refusal c.in-Refuse.is);
    }

pub returns-in-Known : goal.returns-in-Known
returns-in-Known g c =
    let d = g.D.Disk in
    let s = c.args.self.now.kept in
    let mid = c.receive_by.new.pages in
    let new = c.receipt_of_step.new.pages in
    let reads = c.in_ok-refusal.ensures.reads in
    let reads_too = c.receipt_of_step.ensures.reads in
    record {
      receives = taken_receipt d.view g.met.D.Disk.only_now g.H.Hasher.dig
          (λ text. (g.met.H.Hasher.size text, g.met.H.Hasher.bytes text)) c.args.message.now c.args.time s.store mid
          s.root reads.kept.same_kept c.args.self.now.clean reads.faults.later
          c.in_ok-refusal.field-0 (λ ps list. reads.answer ps list) (reads.kept.unbroken_kept refl c.requires.whole)
          c.in-Known.archived c.in-Known.is (c.in_ok-refusal.ensures.known c.in-Known.archived c.in-Known.is)
          new (is_same_on d.view s.store mid new reads.kept.same_kept reads_too.kept.same_kept)
          (let one = reads.faults.later in let two = reads_too.faults.later in omega (arith, one, two))
          c.receipt_of_step.result (λ ps list. reads_too.answer ps (reads.kept.list_kept ∙ list)) reads_too.own
          c.receipt_of_step.ensures.by
          (λ good. reads_too.kept.unbroken_kept good (reads.kept.unbroken_kept refl c.requires.whole))
          (λ failed. let rose = reads_too.faults.rose failed in let one = reads.faults.later in
          omega (arith, rose, one));
    }

pub returns : goal.returns
returns g c =
    let d = g.D.Disk in
    let s = c.args.self.now.kept in
    let mid = c.receive_by.new.pages in
    let reads = c.in_ok-refusal.ensures.reads in
    let a = c.archive.ensures in
    record {
      receives = taken_archived d.view g.met.D.Disk.only_now g.H.Hasher.dig
          (λ text. (g.met.H.Hasher.size text, g.met.H.Hasher.bytes text)) c.args.message.now c.args.time s.store mid
          s.root reads.kept.same_kept c.args.self.now.clean reads.faults.later
          c.in_ok-refusal.field-0 (λ ps list. reads.answer ps list) (reads.kept.unbroken_kept refl c.requires.whole)
          c.in-Archive.is c.requires.linked c.requires.thread c.requires.time
          (c.in_ok-refusal.ensures.room c.in-Archive.is)
          reads.kept.list_kept c.archive.new.self.kept.store c.archive.new.self.kept.root c.archive.result a.root
          a.answers a.kept a.written a.same a.answer a.good a.whole a.fault a.later;
    }
