use Rattle.tw_generate.proofs.generating.export_all.Goals as goal

pub returns : goal.returns
returns g c = λ t plays.
    let alpha = c.in_ok-alpha.ensures t.alpha plays.0 in
    let beta = c.in_ok-beta.ensures t.beta plays.1 in
    let gamma = c.in_ok-gamma.ensures t.gamma plays.2 in
    ((alpha.0, beta.0, gamma.0), alpha.1, beta.1, gamma.1)

pub exported-requires : goal.exported-requires
exported-requires g c = let can = c.requires in (can.0.alpha, can.1.0)

pub exported-requires-2 : goal.exported-requires-2
exported-requires-2 g c = let can = c.requires in (can.0.beta, can.1.1)

pub exported-requires-3 : goal.exported-requires-3
exported-requires-3 g c = let can = c.requires in (can.0.gamma, can.1.2)
