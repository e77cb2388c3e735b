use Rattle.std.proofs.Common.{ℕ, List, length, ap, sym, ◌∙◌, subst, arith}
use Rattle.std.specs.Prelude.{IfSome, map, string_bytes}
use Rattle.std.proofs.lemmas.List.{length-map, length_push, map_push}
use Rattle.timeweave.proofs.WordLaws.{AreFirstRead, all-read, one-more}
use Rattle.timeweave.proofs.words.read_arguments.Goals as goal

pub returns-in-None : goal.returns-in-None
returns-in-None g c =
    let items = c.loop-number.words.items in
    all-read (g.A.Arguments.told c.args.arguments.now) (map string_bytes items) c.loop-number.number
    (omega (arith, length-map items string_bytes, c.loop-number.invariant.count)) c.loop-number.invariant.read
    (rw c.in-None.is at c.in_ok-word.ensures)

pub loop-number-preserved : goal.loop-number-preserved
loop-number-preserved g c =
    let told = g.A.Arguments.told c.args.arguments.now in
    let items = c.loop-number.words.items in
    let word = c.in-Some.word in
    let pushed = c.in_ok-push-in-Some.ensures.items in
    let count = c.loop-number.invariant.count in
    record {
      count = omega (arith, ap length pushed, length_push items word, count);
      read =
          subst (λ (texts : List (List ℕ)). IfSome told (λ words. AreFirstRead words texts))
          (sym (ap (map string_bytes) pushed ∙ map_push string_bytes items word))
          (one-more told (map string_bytes items) c.loop-number.number (string_bytes word)
          (omega (arith, length-map items string_bytes, count)) c.loop-number.invariant.read
          (rw c.in-Some.is at c.in_ok-word.ensures));
    }
