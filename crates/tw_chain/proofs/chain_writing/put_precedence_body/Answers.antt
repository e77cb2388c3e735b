use Rattle.tw_chain.proofs.ChainBytes.{put-body}
use Rattle.tw_chain.proofs.chain_writing.put_precedence_body.Goals as goal

pub returns : goal.returns
returns c =
    put-body c.args.proof.now c.as_slice-hops.result.now c.args.into.now c.put_last_bytes.new.into c.put_part.new.into
    c.put_event.new.into c.put_before.new.into c.put_hops.new.into c.put_tail.new.into
    c.as_slice-hops.ensures c.in_ok-put_last_bytes.ensures.ok c.in_ok-put_part.ensures.ok c.in_ok-put_event.ensures.ok
    c.in_ok-put_before.ensures c.in_ok-put_hops.ensures c.in_ok-put_tail.ensures
