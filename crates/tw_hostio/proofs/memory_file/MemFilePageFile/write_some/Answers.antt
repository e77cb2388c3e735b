use Rattle.std.proofs.Common.{◌≤◌, length, take, arith}
use Rattle.std.proofs.lemmas.List.{length-take}
use Rattle.tw_hostio.specs.FileStepsSteps.{TornBytes-put}
use Rattle.tw_hostio.proofs.ByteLaws.{TornBytes-wider}
use Rattle.tw_hostio.proofs.StepLaws.{kept_bytes, kept_crash, kept_outcomes, push_time}
use Rattle.tw_hostio.proofs.memory_file.MemFilePageFile.write_some.Goals as goal

pub invariant_of-self-in-None : goal.invariant_of-self-in-None
invariant_of-self-in-None c = record {
  kept = kept_bytes c.args.self.now.first.items c.args.self.now.bytes.items _ c.args.self.now.steps.items _ c.args.at _ c.args.self.now.kept c.in_default.ensures.steps c.in_default.ensures.bytes;
  transfers = c.args.self.now.transfers;
}

pub invariant_of-self-in-Some : goal.invariant_of-self-in-Some
invariant_of-self-in-Some c = record {
  kept = kept_bytes c.args.self.now.first.items c.args.self.now.bytes.items _ c.args.self.now.steps.items _ c.args.at _ c.args.self.now.kept c.in_default.ensures.steps c.in_default.ensures.bytes;
  transfers = c.args.self.now.transfers;
}

pub returns-in-None-clause-torn : goal.returns-in-None-clause-torn
returns-in-None-clause-torn c =
    let piece = take c.min-count.result c.args.from.now in
    let few : length piece ≤ length c.args.from.now = omega (arith, length-take c.min-count.result c.args.from.now) in
    rw c.in_default.ensures.bytes (TornBytes-wider c.args.at (length piece) (length c.args.from.now) c.args.self.now.bytes.items _ few (TornBytes-put c.args.at piece c.args.self.now.bytes.items))

pub returns-in-Some-clause-torn : goal.returns-in-Some-clause-torn
returns-in-Some-clause-torn c =
    let piece = take c.min-count.result c.args.from.now in
    let few : length piece ≤ length c.args.from.now = omega (arith, length-take c.min-count.result c.args.from.now) in
    rw c.in_default.ensures.bytes (TornBytes-wider c.args.at (length piece) (length c.args.from.now) c.args.self.now.bytes.items _ few (TornBytes-put c.args.at piece c.args.self.now.bytes.items))

pub returns-in-None-clause-crash : goal.returns-in-None-clause-crash
returns-in-None-clause-crash c =
    let piece = take c.min-count.result c.args.from.now in
    let few : length piece ≤ length c.args.from.now = omega (arith, length-take c.min-count.result c.args.from.now) in
    kept_crash c.args.self.now.first.items c.args.self.now.steps.items _ c.args.at (length c.args.from.now) piece c.in_default.ensures.steps few

pub returns-in-Some-clause-crash : goal.returns-in-Some-clause-crash
returns-in-Some-clause-crash c =
    let piece = take c.min-count.result c.args.from.now in
    let few : length piece ≤ length c.args.from.now = omega (arith, length-take c.min-count.result c.args.from.now) in
    kept_crash c.args.self.now.first.items c.args.self.now.steps.items _ c.args.at (length c.args.from.now) piece c.in_default.ensures.steps few

pub returns-in-None-clause-keeps : goal.returns-in-None-clause-keeps
returns-in-None-clause-keeps c = kept_outcomes c.args.self.now.first.items c.args.self.now.steps.items _ c.args.at _ c.in_default.ensures.steps

pub returns-in-Some-clause-keeps : goal.returns-in-Some-clause-keeps
returns-in-Some-clause-keeps c = kept_outcomes c.args.self.now.first.items c.args.self.now.steps.items _ c.args.at _ c.in_default.ensures.steps

pub returns-in-None-clause-time : goal.returns-in-None-clause-time
returns-in-None-clause-time c = push_time c.args.self.now.first.items c.args.self.now.steps.items _ c.in_default.ensures.steps.step _ _ _ _ _ _ c.in_default.ensures.steps.steps

pub returns-in-Some-clause-time : goal.returns-in-Some-clause-time
returns-in-Some-clause-time c = push_time c.args.self.now.first.items c.args.self.now.steps.items _ c.in_default.ensures.steps.step _ _ _ _ _ _ c.in_default.ensures.steps.steps
