use Rattle.tw_script.proofs.AskedLaws.{ask-alike}
use Rattle.tw_script.proofs.BadLines.{is-bad-line}
use Rattle.tw_script.proofs.LineLaws.{is-script, script-asks}
use Rattle.tw_script.proofs.InjectedLaws.{foreign-is, is-foreign}
use Rattle.tw_script.proofs.laws.script_laws.Goals as goal

pub returns-clause-script : goal.returns-clause-script
returns-clause-script c = λ bytes script ok. is-script bytes script ok

pub returns-clause-bad : goal.returns-clause-bad
returns-clause-bad c = λ bytes line err. is-bad-line bytes line err

pub returns-clause-asked : goal.returns-clause-asked
returns-clause-asked c = λ words. ask-alike words

pub returns-clause-asks : goal.returns-clause-asks
returns-clause-asks c = λ bytes script ok. script-asks bytes script ok

pub returns-clause-injected : goal.returns-clause-injected
returns-clause-injected c = λ name bytes. (is-foreign name bytes, foreign-is name bytes)
