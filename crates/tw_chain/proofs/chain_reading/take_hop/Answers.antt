use Rattle.tw_base.proofs.lemmas.history.EntryCodecLaws.{entry-range}
use Rattle.tw_chain.proofs.chain_reading.take_hop.Goals as goal

pub take_optional-requires-clause-step : goal.take_optional-requires-clause-step
take_optional-requires-clause-step c = (entry-range c.in_ok-entry.entry c.in_ok-entry.ensures.takes.1).0.1
