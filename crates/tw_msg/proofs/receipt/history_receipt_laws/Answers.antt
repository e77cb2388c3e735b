use Rattle.tw_msg.proofs.OwnMessages.{receipt-one, receipt-spelled, receipt-there}
use Rattle.tw_msg.proofs.receipt.history_receipt_laws.Goals as goal

pub returns-clause-there : goal.returns-clause-there
returns-clause-there g c = λ h step t had. receipt-there g.H.Hasher.dig h step t had

pub returns-clause-one : goal.returns-clause-one
returns-clause-one g c = λ h step r s is also. receipt-one g.H.Hasher.dig h step r s is also

pub returns-clause-spelled : goal.returns-clause-spelled
returns-clause-spelled g c = λ h step r sound is. receipt-spelled g.H.Hasher.dig h g.met.H.Hasher.size
    g.met.H.Hasher.bytes sound step r is
