use Rattle.tw_service.proofs.service.Service.append_at.Goals as goal

pub returns : goal.returns
returns g c = record {
  table = c.add.ensures.table;
  answer = c.add.ensures.answer;
  steps = c.add.ensures.steps;
  written = c.add.ensures.written;
  thread = c.add.ensures.thread;
  archive = c.add.ensures.archive;
  clock = c.add.ensures.clock;
  kept = c.add.ensures.kept;
  unwritten = c.add.ensures.unwritten;
  broken = c.add.ensures.broken;
  fault = c.add.ensures.fault;
  later = c.add.ensures.later;
}
