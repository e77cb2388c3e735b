use Rattle.std.proofs.Common.{List, ◌++◌, subst, sym, inl}
use Rattle.tw_base.specs.declared.history.thread.Thread.{Thread}
use Rattle.tw_base.specs.history.HistoryTexts.{history_texts}
use Rattle.tw_base.specs.kinds.Lists.{Each}
use Rattle.tw_base.proofs.lemmas.kinds.Clashes.{and_then}
use Rattle.tw_follow.specs.HeadLists.{HasHead, first_thread, no_heads}
use Rattle.tw_follow.specs.Runs.{moved_texts}
use Rattle.tw_follow.proofs.Running.{runs-answered, runs-bind, runs-grow, runs-rise}
use Rattle.tw_follow.proofs.laws.run_laws.Goals as goal

pub returns-clause-grows : goal.returns-clause-grows
returns-clause-grows g c = λ k last moves moved run. runs-grow g.H.Hasher.dig k moves moved last run

pub returns-clause-rises : goal.returns-clause-rises
returns-clause-rises g c = λ k last moves moved rising run. runs-rise g.H.Hasher.dig k moves moved last rising run

pub returns-clause-answered : goal.returns-clause-answered
returns-clause-answered g c = λ k last moves moved bytes thread run there. runs-answered g.H.Hasher.dig bytes thread k
    moves moved last run there

pub returns-clause-binds : goal.returns-clause-binds
returns-clause-binds g c = λ name last moves moved h run sound has.
    let dig = g.H.Hasher.dig in
    and_then dig (history_texts dig h ++ moved_texts dig (first_thread dig name) moved) _ _
    (runs-bind dig g.met.H.Hasher.size g.met.H.Hasher.bytes h sound (no_heads name) moves moved last run
    (g.met.H.Hasher.bytes _) has)
    (λ both. inl (subst (λ (hs : List Thread). Each (HasHead dig h) hs)
    (sym (runs-grow dig (no_heads name) moves moved last run).1) both.1))
