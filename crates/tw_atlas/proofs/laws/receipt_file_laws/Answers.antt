use Rattle.tw_atlas.proofs.ReceiptFileLaws.{bad-front, file-size, one-list, one-place}
use Rattle.tw_atlas.proofs.laws.receipt_file_laws.Goals as goal

pub returns-clause-size : goal.returns-clause-size
returns-clause-size c = file-size

pub returns-clause-one : goal.returns-clause-one
returns-clause-one c = one-list

pub returns-clause-one_place : goal.returns-clause-one_place
returns-clause-one_place c = one-place

pub returns-clause-front : goal.returns-clause-front
returns-clause-front c = bad-front
