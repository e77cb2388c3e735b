use Rattle.std.proofs.Common.{◌≡◌, ◌<◌, ◌≤◌, ◌^◌, ◌+◌, ◌++◌, List, ℕ, take, drop, ap, sym, ◌∙◌, subst}
use Rattle.std.specs.Int.{to_be_bytes, w64}
use Rattle.std.proofs.lemmas.List.{take-append-drop}
use Rattle.tw_base.specs.format.Fields.{number, number_bytes}
use Rattle.tw_base.specs.format.Formats.{front}
use Rattle.tw_base.specs.format.Formats.Reading.{Took}
use Rattle.tw_base.proofs.lemmas.format.FormatLaws.{front-whole}
use Rattle.tw_base.proofs.lemmas.format.NumberLaws.{length-number_bytes, number_bytes-eight, number_spells}
use Rattle.tw_base.proofs.format.fields.number_at.Goals as goal

-- eight bytes that are a number within the range
eight : (bytes : List ℕ) (at n least most : ℕ) → to_be_bytes w64 n ≡ take 8 (drop at bytes) → most < 256 ^ 8 → least ≤ n
    → n ≤ most → front (number 8 least most) (drop at bytes) at ≡ Took n (at + 8)
eight bytes at n least most is fits low high =
    let word : drop at bytes ≡ number_bytes 8 n ++ drop 8 (drop at bytes) = sym (take-append-drop 8 (drop at bytes))
    ∙ ap (λ w. w ++ drop 8 (drop at bytes)) (sym is ∙ sym (number_bytes-eight n)) in
    ap (λ bs. front (number 8 least most) bs at) word ∙ front-whole (number 8 least most) (number_bytes 8 n)
    (drop 8 (drop at bytes)) at n (number_spells 8 least most n fits low high)
    ∙ ap (λ k. Took n (at + k)) (length-number_bytes 8 n)

pub returns-then-found-most-clause-read : goal.returns-then-found-most-clause-read
returns-then-found-most-clause-read c =
    let fits : c.args.most < 256 ^ 8 = subst (λ w. c.args.most < 256 ^ w) c.if-width-eq8.true c.requires.fits in
    let P : ℕ → Type 0 = λ w. front (number w c.args.least c.args.most) (drop c.args.at c.args.bytes.now) c.args.at
    ≡ Took c.in-Some.found (c.args.at + w) in
    subst P (sym c.if-width-eq8.true) (eight c.args.bytes.now c.args.at c.in-Some.found c.args.least c.args.most
    c.in-Some.ensures.1 fits c.if-least-found.true c.if-found-most.true)
