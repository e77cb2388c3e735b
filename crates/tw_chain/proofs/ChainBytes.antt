-- The bytes of a proof from event to event, as they are written.
use Rattle.std.proofs.Common.{◌≡◌, ℕ, ◌-◌, List, ◌++◌, length, flat_map, refl, ap, sym, ◌∙◌, append_assoc}
use Rattle.std.specs.Prelude.{Bool, true, false, Option, Some, None, nat_lt}
use Rattle.tw_base.specs.format.Codecs.{by_kind, each, labels_codec, many, nothing, number_codec, optional, pair}
use Rattle.tw_base.specs.format.Codecs.{present, seen, written}
use Rattle.tw_base.specs.format.Fields.{number_bytes}
use Rattle.tw_skipproof.specs.declared.opening.Opening.{Opening}
use Rattle.tw_skipproof.specs.Codecs.{count_codec, event_part_codec, opening_codec, part_bytes, part_codec, path_codec}
use Rattle.tw_chain.specs.declared.proof.HopPart.{HopPart}
use Rattle.tw_chain.specs.declared.proof.PrecedenceProof.{PrecedenceProof}
use Rattle.tw_chain.specs.declared.proof.Tail.{Tail}
use Rattle.tw_chain.specs.Proofs.{behind_codec, hop_bytes, hops_codec, last_step, precedence_body, tail_codec}

-- they are the same whatever the steps, and whatever the counts
before-bytes : (there : Bool) (step : ℕ) (o : Option Opening) → (optional there (opening_codec 0 0)).write o
    ≡ (optional there (opening_codec 0 step)).write o
unfolding present nothing opening_codec seen pair labels_codec many
before-bytes true step None = refl
before-bytes true step (Some o) = refl
before-bytes false step o = refl

tail-bytes : (upper : ℕ) (tail : Tail) → (tail_codec 0).write tail ≡ (tail_codec upper).write tail
unfolding tail_codec path_codec each seen pair
tail-bytes upper tail = refl

body-bytes : (p : PrecedenceProof) → precedence_body.write p
    ≡ number_bytes 1 (length p.hops)
    ++ (part_bytes p.head ++ ((event_part_codec 1).write p.event
    ++ ((optional (nat_lt 0 (length p.hops)) (opening_codec 0 0)).write p.before
    ++ (flat_map hop_bytes p.hops ++ (tail_codec 0).write p.tail))))
unfolding precedence_body hops_codec behind_codec by_kind each number_codec seen pair part_bytes part_codec opening_codec count_codec written labels_codec many event_part_codec
body-bytes p =
    let upper : ℕ = last_step (p.head.step - 1) p.hops in
    (λ k. number_bytes 1 (length p.hops)
    ++ (part_bytes p.head ++ ((event_part_codec 1).write p.event
    ++ (sym (before-bytes (nat_lt 0 (length p.hops)) (p.head.step - 1) p.before) k
    ++ (flat_map hop_bytes p.hops ++ sym (tail-bytes upper p.tail) k)))))

joined-six : (w a b c d e f : List ℕ) → (((((w ++ a) ++ b) ++ c) ++ d) ++ e) ++ f ≡ w
    ++ (a ++ (b ++ (c ++ (d ++ (e ++ f)))))
joined-six w a b c d e f =
    append_assoc ((((w ++ a) ++ b) ++ c) ++ d) e f ∙ append_assoc (((w ++ a) ++ b) ++ c) d (e ++ f) ∙ append_assoc
    ((w ++ a) ++ b) c (d ++ (e ++ f))
    ∙ append_assoc (w ++ a) b (c ++ (d ++ (e ++ f))) ∙ append_assoc w a (b ++ (c ++ (d ++ (e ++ f))))

-- what was put part by part
pub put-body : (p : PrecedenceProof) (hops : List HopPart) (w0 w1 w2 w3 w4 w5 w6 : List ℕ) → hops ≡ p.hops
    → w1 ≡ w0 ++ number_bytes 1 (length hops) → w2 ≡ w1 ++ part_bytes p.head → w3 ≡ w2 ++ (event_part_codec 1).write
    p.event
    → w4 ≡ w3 ++ (optional (nat_lt 0 (length hops)) (opening_codec 0 0)).write p.before → w5 ≡ w4 ++ flat_map hop_bytes
    hops → w6 ≡ w5 ++ (tail_codec 0).write p.tail
    → w6 ≡ w0 ++ precedence_body.write p
put-body p hops w0 w1 w2 w3 w4 w5 w6 same e1 e2 e3 e4 e5 e6 =
    let before : List HopPart → List ℕ = λ hs. (optional (nat_lt 0 (length hs)) (opening_codec 0 0)).write p.before in
    let tail : List ℕ = (tail_codec 0).write p.tail in
    let event : List ℕ = (event_part_codec 1).write p.event in
    e6 ∙ ap (λ w. w ++ tail) (e5 ∙ ap (λ w. w ++ flat_map hop_bytes hops)
    (e4 ∙ ap (λ w. w ++ before hops) (e3 ∙ ap (λ w. w ++ event) (e2 ∙ ap (λ w. w ++ part_bytes p.head) e1))))
    ∙ joined-six w0 (number_bytes 1 (length hops)) (part_bytes p.head) event (before hops) (flat_map hop_bytes hops)
    tail
    ∙ ap (λ (hs : List HopPart). w0
    ++ (number_bytes 1 (length hs) ++ (part_bytes p.head ++ (event ++ (before hs ++ (flat_map hop_bytes hs ++ tail))))))
    same
    ∙ ap (λ w. w0 ++ w) (sym (body-bytes p))
