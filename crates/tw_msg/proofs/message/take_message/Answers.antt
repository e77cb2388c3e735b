use Rattle.tw_msg.proofs.ThreadBytes.{thread-within}
use Rattle.tw_msg.proofs.message.take_message.Goals as goal

pub take_path-requires-clause-step : goal.take_path-requires-clause-step
take_path-requires-clause-step c = (thread-within c.in_ok-thread.thread c.in_ok-thread.ensures.takes.1).2
