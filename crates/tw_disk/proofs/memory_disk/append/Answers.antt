use Rattle.std.proofs.Common.{◌≡◌, ℕ, List, [], ◌∷◌, ◌++◌, length, sym, ap, ◌∙◌, arith}
use Rattle.tw_disk.specs.declared.call.Call.{Call}
use Rattle.tw_disk.specs.declared.call.Call.TheVariants.{Append}
use Rattle.tw_disk.proofs.Puts.{put-end}
use Rattle.tw_disk.proofs.KeptCallLaws.{gains_append}
use Rattle.tw_disk.proofs.memory_disk.append.Goals as goal

pub returns-clause-gains : goal.returns-clause-gains
returns-clause-gains c =
    let here : c.len-page.result ≡ length c.args.pages.now.items = omega arith in
    gains_append _ _ _ _ _ _ (c.push_reserved.ensures.items ∙ ap (λ (cs : List Call). cs ++ (Append c.len-page.result)
    ∷ []) c.in_ok-reserve.ensures.items)
    (c.in_ok-push.ensures.items ∙ ap (λ (b : List ℕ). c.args.pages.now.items ++ b ∷ []) c.in_ok-kept.ensures) here

pub returns-clause-pages : goal.returns-clause-pages
returns-clause-pages c = c.in_ok-push.ensures.items ∙ ap (λ (b : List ℕ). c.args.pages.now.items ++ b ∷ [])
    c.in_ok-kept.ensures ∙ sym (put-end (length c.args.pages.now.items) c.args.from.now c.args.pages.now.items
    (omega arith))
