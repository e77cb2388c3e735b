use Rattle.std.proofs.Common.{ap, sym, ◌∙◌, subst, ◌≡◌, List, ℕ}
use Rattle.std.specs.Prelude.{Some, IfSome}
use Rattle.std.specs.Option.{option_map}
use Rattle.std.proofs.lemmas.Result.{on_ok_weaker}
use Rattle.tw_audit.specs.Tables.{IsInside, place_in_table, text_at, words_of}
use Rattle.tw_audit.proofs.TableLaws.{taken-same}
use Rattle.tw_audit.proofs.table.Table.look.Goals as goal

pub returns-in-None-clause-taken : goal.returns-in-None-clause-taken
returns-in-None-clause-taken c =
    on_ok_weaker c.keep.result (λ taken dig texts gives digest none is.
    let key = c.words-words.ensures ∙ ap words_of digest in
    taken dig texts gives key none
    (ap (λ w. option_map (text_at c.args.self.now.arena.items) (place_in_table c.args.self.now w)) (sym key)
    ∙ ap (option_map (text_at c.args.self.now.arena.items)) (sym c.in-None.ensures)) is) c.keep.ensures.taken

pub returns-then-has_text-clause-taken : goal.returns-then-has_text-clause-taken
returns-then-has_text-clause-taken c = λ dig texts gives digest none is.
    let at : place_in_table c.args.self.now (words_of (dig c.args.text.now)) ≡ Some c.in-Some.first =
    ap (place_in_table c.args.self.now) (sym (c.words-words.ensures ∙ ap words_of digest)) ∙ sym c.in-Some.ensures in
    let inside = subst (λ o. IfSome o (IsInside c.args.self.now.arena.items)) at
    (is.places (words_of (dig c.args.text.now))) in
    taken-same dig texts c.args.self.now c.args.text.now is none
    (ap (option_map (text_at c.args.self.now.arena.items)) at ∙ ap (λ (t : List ℕ). Some t)
    ((c.has_text.ensures inside).0 c.if-has_text.true))

pub returns-else-has_text-clause-taken : goal.returns-else-has_text-clause-taken
returns-else-has_text-clause-taken c =
    on_ok_weaker c.pair.result (λ taken dig texts gives digest none is.
    let at : place_in_table c.args.self.now (words_of (dig c.args.text.now)) ≡ Some c.in-Some.first =
    ap (place_in_table c.args.self.now) (sym (c.words-words.ensures ∙ ap words_of digest)) ∙ sym c.in-Some.ensures in
    let inside = subst (λ o. IfSome o (IsInside c.args.self.now.arena.items)) at
    (is.places (words_of (dig c.args.text.now))) in
    taken dig texts none (ap (option_map (text_at c.args.self.now.arena.items)) at)
    (λ same. (let yes = (c.has_text.ensures inside).1 same in let no = c.if-has_text.false in cc)) inside is)
    c.pair.ensures.taken
