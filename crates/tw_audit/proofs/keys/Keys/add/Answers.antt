use Rattle.std.proofs.Common.{◌++◌, ◌∷◌, [], ap, ◌∙◌}
use Rattle.std.proofs.lemmas.Result.{on_ok_weaker}
use Rattle.tw_audit.proofs.KeyLaws.{keys-added}
use Rattle.tw_audit.proofs.keys.Keys.add.Goals as goal

pub returns-clause-taken : goal.returns-clause-taken
returns-clause-taken c =
    on_ok_weaker c.learn.result (λ known dig texts is_key is.
    keys-added dig texts c.args.self.now c.learn.new.self c.args.text.now is
    (ap (λ v. v.items) c.learn.ensures.keys ∙ c.in_ok-push.ensures.items
    ∙ ap (λ k. c.args.self.now.keys.items ++ k ∷ []) is_key) known) c.learn.ensures.known
