use Rattle.tw_follow.proofs.Standing.{has_numbers, served_once, stands_once, stands_opened, stands_rising}
use Rattle.tw_follow.proofs.laws.image_laws.Goals as goal

pub returns-clause-once : goal.returns-clause-once
returns-clause-once g c = stands_once g.H.Hasher.dig

pub returns-clause-rising : goal.returns-clause-rising
returns-clause-rising g c = stands_rising g.H.Hasher.dig

pub returns-clause-never_refused : goal.returns-clause-never_refused
returns-clause-never_refused g c = stands_opened g.H.Hasher.dig

pub returns-clause-served : goal.returns-clause-served
returns-clause-served g c = served_once g.H.Hasher.dig

pub returns-clause-numbers : goal.returns-clause-numbers
returns-clause-numbers g c = has_numbers g.H.Hasher.dig
