-- How many bytes map files have at most.
use Rattle.std.proofs.Common.{ℕ, ◌+◌, ◌-◌, ◌≤◌, List, ◌++◌, length, arith}
use Rattle.std.specs.Prelude.{nat_lt}
use Rattle.std.proofs.lemmas.List.{length-append}
use Rattle.tw_base.specs.declared.kinds.limits.TheConstants.{LAST_STEP}
use Rattle.tw_base.specs.format.Codecs.{Codec, name_codec, number_codec, optional, pair}
use Rattle.tw_base.specs.format.Formats.{IsFront}
use Rattle.tw_base.proofs.lemmas.format.CodecLaws.{Lawful}
use Rattle.tw_base.proofs.lemmas.format.CodecSizes.{AtMost, at_most-behind, at_most-name, at_most-number}
use Rattle.tw_base.proofs.lemmas.format.CodecSizes.{at_most-optional, at_most-pair, at_most-seen, word-size}
use Rattle.tw_skipproof.specs.Codecs.{opening_codec, step_number_codec}
use Rattle.tw_skipproof.proofs.Shapes.{opening-most, path-most}
use Rattle.tw_treeproof.specs.Codecs.{gap_codec}
use Rattle.tw_treeproof.proofs.LawfulCodecs.{gap-most}
use Rattle.tw_tmap.specs.MapFiles.{high_codec, high_layout, low_codec, low_layout, low_part_codec}
use Rattle.tw_tmap.proofs.MapCodec.{high-lawful, low-lawful}

low_part-most : (top step : ℕ) → top ≤ LAST_STEP → step ≤ LAST_STEP → AtMost (low_part_codec top step) 67405
unfolding low_part_codec
low_part-most top step t s =
    at_most-seen _ _ _ 67405 (at_most-pair _ _ 53760 13645 (path-most top step (omega (arith, t)))
    (λ _ _. at_most-pair _ _ 1356 12289 (opening-most 0 step s) (λ _ _. gap-most)))

-- what stands behind the names and steps with which both files begin, and these
front-most : {X : Type 0} (rest : (one other : ℕ) → Codec X) (n : ℕ)
    → ((one other : ℕ) → one ≤ LAST_STEP → other ≤ LAST_STEP → AtMost (rest one other) n)
    → AtMost (pair name_codec (λ service. pair step_number_codec (λ one. pair name_codec (λ peer.
    pair step_number_codec (λ other. rest one other))))) (16 + (8 + (16 + (8 + n))))
unfolding number_codec
front-most rest n most =
    at_most-pair _ _ 16 (8 + (16 + (8 + n))) at_most-name (λ _ _.
    at_most-pair _ _ 8 (16 + (8 + n)) (at_most-number 8 1 LAST_STEP) (λ one s.
    at_most-pair _ _ 16 (8 + n) at_most-name (λ _ _.
    at_most-pair _ _ 8 n (at_most-number 8 1 LAST_STEP) (λ other t. most one other s.1 t.1))))

low-most : AtMost low_codec 67458
unfolding low_codec
low-most =
    at_most-behind _ _ 67453 (at_most-seen _ _ _ 67453
    (front-most (λ step top. optional (nat_lt 1 step) (low_part_codec top (step - 1))) 67405
    (λ step top s t. at_most-optional (nat_lt 1 step) (low_part_codec top (step - 1)) 67405
    (low_part-most top (step - 1) t (omega (arith, s))))))

high-most : AtMost high_codec 13698
unfolding high_codec
high-most =
    at_most-behind _ _ 13693 (at_most-seen _ _ _ 13693
    (front-most (λ top step. pair (opening_codec 0 top) (λ opening. gap_codec)) 13645
    (λ top step t s. at_most-pair _ _ 1356 12289 (opening-most 0 top t) (λ _ _. gap-most))))

-- a front of a word has no more bytes than the word
pub front-size : {X : Type 0} (c : Codec X) → Lawful c → (n : ℕ) → AtMost c n → (bytes : List ℕ)
    → IsFront c.format bytes
    → length bytes ≤ n
front-size c l n most bytes front =
    let whole = word-size c l n most (bytes ++ front.0) front.1 front.2 in
    omega (arith, whole, length-append bytes front.0)

pub low-size : (bytes : List ℕ) → IsFront low_layout bytes → length bytes ≤ 67458
low-size = front-size low_codec low-lawful 67458 low-most

pub high-size : (bytes : List ℕ) → IsFront high_layout bytes → length bytes ≤ 13698
high-size = front-size high_codec high-lawful 13698 high-most
