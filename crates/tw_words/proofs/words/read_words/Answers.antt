use Rattle.std.proofs.Common.{map, length, ◌+◌, ◌-◌, ◌≡◌, Err, subst, sym, IfNone}
use Rattle.std.specs.String.{string_bytes}
use Rattle.std.specs.Result.{result_ok}
use Rattle.std.proofs.lemmas.List.{length-map}
use Rattle.tw_words.specs.CommandLine.{IsFirstBadWord, commands}
use Rattle.tw_words.specs.Forms.{choose_form}
use Rattle.tw_words.specs.Takings.{MakesCommand}
use Rattle.tw_words.proofs.TableLaws.{first_bad}
use Rattle.tw_words.proofs.words.read_words.Goals as goal

stopped : (c : goal.In-Err-At) → choose_form commands (map string_bytes c.args.words.now) ≡ Err c.in-Err-At.left
stopped c = subst (λ stop. MakesCommand (choose_form commands (map string_bytes c.args.words.now)) (Err stop))
    c.in-Err-At.field-0-is c.in-Err-At.ensures

pub overflow_sub-result : goal.overflow_sub-result
overflow_sub-result c = simp length-map at (first_bad (map string_bytes c.args.words.now) c.in-Err-At.left
    (stopped c)).0

pub returns-in-Err-At-clause-no_form : goal.returns-in-Err-At-clause-no_form
returns-in-Err-At-clause-no_form c =
    let words = map string_bytes c.args.words.now in
    let bad = (first_bad words c.in-Err-At.left (stopped c)).1 in
    let size : length words ≡ length c.args.words.now = simp length-map in
    let number = subst (λ size. IsFirstBadWord words (size - c.in-Err-At.left + 1)) size bad in
    subst (λ reading. IfNone (result_ok reading)
    (IsFirstBadWord words (length c.args.words.now - c.in-Err-At.left + 1))) (sym (stopped c)) number
