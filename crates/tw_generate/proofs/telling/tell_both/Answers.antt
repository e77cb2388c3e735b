use Rattle.tw_generate.proofs.telling.tell_both.Goals as goal

pub tell-requires : goal.tell-requires
tell-requires g c = let can = c.requires in
    (can.teller, can.first, can.plays, can.plays_first, can.first_is, can.can_first)

pub tell-requires-2 : goal.tell-requires-2
tell-requires-2 g c =
    let can = c.requires in
    let told = c.in_ok-tell.ensures can.teller can.first can.plays can.plays_first can.first_is in
    (can.teller, can.second, told.0, can.plays_second, can.second_is, can.can_second told.1.heard told.1.hears)

pub returns : goal.returns
returns g c = λ a b e from one other one_is other_is.
    let first = c.in_ok-tell.ensures a b from one one_is in
    let second = c.in_ok-tell-2.ensures a e first.0 other other_is in
    (second.0, first.1, second.1)
