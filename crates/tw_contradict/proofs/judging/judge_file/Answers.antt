use Rattle.tw_contradict.proofs.judging.judge_file.Goals as goal

pub returns-in-Some : goal.returns-in-Some
returns-in-Some g c = c.judge_proof-judged.ensures c.args.bytes.now (rw c.in-Some.is at c.in_ok-proof.ensures.read)
