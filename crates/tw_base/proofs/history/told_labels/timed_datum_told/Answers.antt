use Rattle.std.proofs.Common.{◌≡◌, List, ℕ, [], ◌∷◌, ◌++◌, ap, ◌∙◌, append_assoc, rules}
use Rattle.std.specs.Int.{to_be_bytes, w32, w64}
use Rattle.tw_base.specs.kinds.Texts.{timed_datum_text}
use Rattle.tw_base.proofs.lemmas.kinds.HandedTexts.{hands-text}
use Rattle.tw_base.proofs.history.told_labels.timed_datum_told.Goals as goal

regroup : (a b c d : List ℕ) → (a ++ (b ++ c)) ++ d ≡ a ++ (b ++ (c ++ d))
regroup a b c d = append_assoc a (b ++ c) d ∙ ap (λ w. a ++ w) (append_assoc b c d)

pub returns : goal.returns
unfolding timed_datum_text
returns g c =
    let er : List ℕ = c.args.event_root.now in
    let ar : List ℕ = c.args.archive_root.now in
    let count : List ℕ = to_be_bytes w32 c.args.count in
    let time : List ℕ = to_be_bytes w64 c.args.time in
    let text : c.as_slice.result.now ≡ 0x16 ∷ (er ++ (ar ++ (count ++ time))) =
    c.as_slice.ensures.value ∙ c.put.ensures.items ∙ (λ k. c.put_held.ensures.items k ++ c.to_be_bytes.ensures k)
    ∙ ap (λ (front : List ℕ). (front ++ (er ++ (ar ++ count))) ++ time)
    (c.push.ensures.items ∙ ap (λ (w : List ℕ). w ++ 0x16 ∷ []) c.new-text.ensures)
    ∙ ap (λ w. 0x16 ∷ w) (regroup er ar count time) in
    record {
      label = c.digest.ensures.digest ∙ ap g.T.Transcript.dig text;
      took = hands-text _ _ _ _ _ text c.digest.ensures.took;
      event_root_size = search rules;
      archive_root_size = search rules;
    }
