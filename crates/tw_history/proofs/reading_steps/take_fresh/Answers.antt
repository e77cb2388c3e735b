use Rattle.std.proofs.Common.{◌≡◌, ℕ, List, map}
use Rattle.std.specs.Prelude.{Ok, Err}
use Rattle.std.proofs.lemmas.Result.{err_from_is_err_and}
use Rattle.tw_base.specs.declared.kinds.failure.ReadFault.{ReadFault}
use Rattle.tw_base.specs.format.Codecs.{counted, many, number_codec}
use Rattle.tw_base.specs.history.History.{Node}
use Rattle.tw_base.specs.history.HistoryCodec.{node_codec}
use Rattle.tw_base.specs.format.Taking.{Takes}
use Rattle.tw_base.proofs.lemmas.format.TakeLaws.{takes-counted, takes-no_count}
use Rattle.tw_history.specs.Tables.{added_behind, node_of}
use Rattle.tw_history.proofs.reading_steps.take_fresh.Goals as goal

fails : (nodes : List Node) (bytes : List ℕ) (at mid after n : ℕ) (fault : ReadFault) → (number_codec 2 0 65535).read
    bytes at ≡ Ok (record { value = n; after = mid }) → (number_codec 2 0 65535).Fits n
    → Takes {Y = ℕ} (many n node_codec) (λ _. nodes) bytes mid after (Err fault)
    → Takes {Y = ℕ} (counted 2 0 65535 node_codec) (λ _. nodes) bytes at after (Err fault)
fails nodes bytes at mid after n fault = takes-counted {Y = ℕ} node_codec (λ _. nodes) 2 0 65535 bytes at mid after n
    (Err fault)

pub returns-in_err-fresh-clause-takes : goal.returns-in_err-fresh-clause-takes
returns-in_err-fresh-clause-takes c =
    let p = err_from_is_err_and c.from_residual.result c.from_residual.ensures.1 in
    rw (p.1, p.2) (takes-no_count {Y = ℕ} node_codec (λ _. map node_of (added_behind c.args.nodes.now c.args.nodes.now))
    2 0 65535 c.args.bytes.now c.args.at.now c.take_number.new.at c.take_number.new.at _ c.in_err-fresh.ensures.takes)

pub returns-in_err-take_nodes-clause-takes : goal.returns-in_err-take_nodes-clause-takes
returns-in_err-take_nodes-clause-takes c =
    let p = err_from_is_err_and c.from_residual-in_err-take_nodes.result c.from_residual-in_err-take_nodes.ensures.1 in
    let number = c.in_ok-fresh.ensures.takes in
    rw (p.1, p.2)
    (fails (map node_of (added_behind c.args.nodes.now c.take_nodes.new.nodes)) c.args.bytes.now c.args.at.now
    c.take_number.new.at c.take_nodes.new.at c.in_ok-fresh.fresh _ number.0 number.1 c.in_err-take_nodes.ensures.takes)

pub returns-clause-takes : goal.returns-clause-takes
returns-clause-takes c =
    let number = c.in_ok-fresh.ensures.takes in
    takes-counted {Y = ℕ} node_codec (λ _. map node_of (added_behind c.args.nodes.now c.take_nodes.new.nodes)) 2 0 65535
    c.args.bytes.now c.args.at.now c.take_number.new.at c.take_nodes.new.at c.in_ok-fresh.fresh (Ok c.in_ok-fresh.fresh)
    number.0 number.1 c.in_ok-take_nodes.ensures.takes
