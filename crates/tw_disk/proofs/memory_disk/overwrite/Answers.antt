use Rattle.std.proofs.Common.{◌∷◌, ◌++◌, [], List, ℕ, ap, sym, ◌∙◌, arith}
use Rattle.std.proofs.Math.ListN.{set}
use Rattle.std.proofs.lemmas.List.{set-set, set-get_or, get_or-set_same, length-set}
use Rattle.tw_disk.specs.Model.{Write}
use Rattle.tw_disk.proofs.Puts.{put-inside}
use Rattle.tw_disk.proofs.KeptCallLaws.{gains_overwrite}
use Rattle.tw_disk.specs.declared.call.Call.{Call}
use Rattle.tw_disk.specs.declared.call.Call.TheVariants.{Overwrite}
use Rattle.tw_disk.proofs.memory_disk.overwrite.Goals as goal

pub returns-clause-gains : goal.returns-clause-gains
returns-clause-gains c =
    let pages = c.args.pages.now.items in
    let place = c.args.place in
    let bytes = c.args.from.now in
    let made = c.replace-before.new.dest in
    let before = c.replace-before.result in
    let is = c.replace-before.ensures.after ∙ c.in_ok-kept.ensures in
    let held = c.replace-before.ensures.value ∙ c.index_mut.ensures.value in
    gains_overwrite c.args.calls.now.items c.push_reserved.new.self.items (Overwrite place before) place pages
    (set pages place made) bytes
    (c.push_reserved.ensures.items ∙ ap (λ (cs : List Call). cs ++ (Overwrite place before) ∷ [])
    c.in_ok-reserve.ensures.items)
    (set-set pages place made before ∙ ap (λ (b : List ℕ). set pages place b) held ∙ set-get_or pages place _)
    (omega (arith, length-set pages place made))
    (ap (λ (b : List ℕ). Write place b) (get_or-set_same pages place made [] (omega arith) ∙ is))

pub returns-clause-pages : goal.returns-clause-pages
returns-clause-pages c =
    let pages = c.args.pages.now.items in
    let place = c.args.place in
    ap (λ (b : List ℕ). set pages place b) (c.replace-before.ensures.after ∙ c.in_ok-kept.ensures)
    ∙ sym (put-inside place c.args.from.now pages (omega arith))
