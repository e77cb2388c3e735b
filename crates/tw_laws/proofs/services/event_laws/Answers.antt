use Rattle.tw_service.proofs.NextHistories.{sound_plus}
use Rattle.tw_laws.proofs.services.event_laws.Goals as goal

pub returns : goal.returns
returns c = λ h events time sound limits within clock short. sound_plus h events time sound limits within clock short
