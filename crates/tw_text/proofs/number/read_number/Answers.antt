use Rattle.std.proofs.Common.{◌∙◌, sym, subst, IsTrue, IsSome, ◌↔◌, ◌<◌, ◌^◌}
use Rattle.std.specs.Str.Parse.{ParsesUnsigned}
use Rattle.tw_text.specs.Words.{is_number, word_number}
use Rattle.tw_text.proofs.Numerals.{IsUtf8-is_number, parse-is_number, err_part, ok_part}
use Rattle.tw_text.proofs.number.read_number.Goals as goal

-- digits are UTF-8
pub returns-in_err-ok-clause-some : goal.returns-in_err-ok-clause-some
returns-in_err-ok-clause-some c =
    let number : IsTrue (is_number c.args.text.now) = sym c.is_number.ensures ∙ c.if-not-is_number.false in
    absurd (err_part _ _ _ _ c.from_utf8.ensures.cases (sym c.ok.ensures.value ∙ c.in_err-ok.was)
    (IsUtf8-is_number _ number))

pub returns-clause-some : goal.returns-clause-some
returns-clause-some c =
    let number : IsTrue (is_number c.args.text.now) = sym c.is_number.ensures ∙ c.if-not-is_number.false in
    let same = ok_part _ _ _ _ c.from_utf8.ensures.cases (sym c.ok.ensures.value ∙ c.in_ok-ok.was) in
    let parses = subst (λ text. ParsesUnsigned 64 10 text c.parse.result) same.0 c.parse.ensures.value.0 in
    let found = parse-is_number c.args.text.now c.parse.result number parses in
    subst (λ r. IsSome r ↔ (IsTrue (is_number c.args.text.now) × (word_number c.args.text.now < 2 ^ 64)))
    (sym c.ok-2.ensures.value) found
