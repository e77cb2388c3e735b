-- How many bytes a proof has at most.
use Rattle.std.proofs.Common.{ℕ, suc, zero, ◌-◌, ◌*◌, ◌<◌, ◌≤◌, ◌≡◌, List, [], ◌∷◌, length, flat_map, subst, arith}
use Rattle.std.specs.Prelude.{◌==◌, nat_lt}
use Rattle.std.proofs.lemmas.List.{length-append}
use Rattle.std.proofs.Math.Nat.{mul-le-mul_right, suc-mul}
use Rattle.tw_base.specs.declared.kinds.limits.TheConstants.{LAST_STEP, MOST_HOPS}
use Rattle.tw_base.specs.format.Codecs.{Codec, behind, each, number_codec, variant}
use Rattle.tw_base.specs.format.Formats.{Spells}
use Rattle.tw_base.proofs.lemmas.history.EntryCodecLaws.{entry-most, entry-range}
use Rattle.tw_base.proofs.lemmas.format.CodecSizes.{AtMost, at_most-behind, at_most-by_kind, at_most-bytes}
use Rattle.tw_base.proofs.lemmas.format.CodecSizes.{at_most-choose, at_most-name, at_most-number, at_most-optional}
use Rattle.tw_base.proofs.lemmas.format.CodecSizes.{at_most-pair, at_most-seen, at_most-variant, word-size}
use Rattle.tw_skipproof.specs.Codecs.{existence_body, existence_codec, existence_magic, opening_codec}
use Rattle.tw_skipproof.proofs.LawfulCodecs.{opening-few, part-counts}
use Rattle.tw_skipproof.proofs.Shapes.{event-most, existence-most, opening-most, part-most, part-shape, path-most}
use Rattle.tw_treeproof.proofs.LawfulCodecs.{gap-most, present-most}
use Rattle.tw_chain.specs.declared.proof.HopPart.{HopPart}
use Rattle.tw_chain.specs.declared.proof.Proof.{Proof}
use Rattle.tw_chain.specs.declared.proof.Proof.TheVariants.{Exists, Precedes, Archived, Absent, Linked}
use Rattle.tw_chain.specs.Proofs.{absence_body, absence_of, behind_codec, body_of_kind, existence_of, following}
use Rattle.tw_chain.specs.Proofs.{hop_bytes, hop_codec, hops_codec, key_codec, kind_codec, kinds_codec, last_step}
use Rattle.tw_chain.specs.Proofs.{link_body, link_of, precedence_body, precedence_of, proof_codec, proof_layout}
use Rattle.tw_chain.specs.Proofs.{tail_codec, thread_body, thread_proof_of}
use Rattle.tw_chain.proofs.ChainShapes.{HopsFit, last_step-all}
use Rattle.tw_chain.proofs.ProofCodec.{hop-written, proof-lawful}

at_most-wider : {X : Type 0} (c : Codec X) (m n : ℕ) → m ≤ n → AtMost c m → AtMost c n
at_most-wider c m n l h x f = omega (arith, h x f, l)

body-most : AtMost existence_body 56500
unfolding existence_codec behind
body-most p f = let all = existence-most p f in
    omega (arith, all, length-append existence_magic (existence_body.write p))

thread_body-most : AtMost thread_body 67469
unfolding thread_body
thread_body-most = at_most-seen _ _ _ 67469 (at_most-pair _ _ 55148 12321 (part-most 0)
    (λ _ _. at_most-pair _ _ 64 12257 entry-most (λ _ _. present-most)))

key-most : AtMost key_codec 24
unfolding key_codec
key-most = at_most-seen _ _ _ 24 (at_most-pair _ _ 16 8 at_most-name (λ _ _. at_most-number 8 1 LAST_STEP))

absence_body-most : AtMost absence_body 67461
unfolding absence_body
absence_body-most = at_most-seen _ _ _ 67461 (at_most-pair _ _ 55148 12313 (part-most 0)
    (λ _ _. at_most-pair _ _ 24 12289 key-most (λ _ _. gap-most)))

link_body-most : AtMost link_body 53824
unfolding link_body number_codec
link_body-most =
    at_most-seen _ _ _ 53824 (at_most-pair _ _ 16 53808 at_most-name
    (λ _ _. at_most-pair _ _ 8 53800 (at_most-number 8 0 LAST_STEP) (λ step s.
    at_most-pair _ _ 8 53792 (at_most-number 8 1 LAST_STEP) (λ top t. at_most-pair _ _ 32 53760 (at_most-bytes 32)
    (λ _ _. path-most top step (omega (arith, t.1)))))))

-- ---- kind 2

hop-most : (more : ℕ) → AtMost (hop_codec more) 67445
unfolding hop_codec number_codec
hop-most more p f =
    at_most-seen _ _ _ 67445 (at_most-pair _ _ 64 67381 entry-most (λ entry e. at_most-pair _ _ 12257 55124 present-most
    (λ _ _. at_most-pair _ _ 8 55116 (at_most-number 8 0 LAST_STEP) (λ bind b.
    at_most-pair _ _ 53760 1356 (path-most bind entry.thread.step (omega (arith, b.1))) (λ _ _.
    at_most-optional (nat_lt 0 more) (opening_codec 0 entry.thread.step) 1356
    (opening-most 0 entry.thread.step (entry-range entry e).0.1)))))) p f

hops-most : (count : ℕ) (hops : List HopPart) → HopsFit count hops → length (flat_map hop_bytes hops) ≤ count * 67445
hops-most count [] fits = omega arith
hops-most zero (hop ∷ hops) fits = let no : [] ≡ hop ∷ hops = fits in cc
hops-most (suc more) (hop ∷ hops) fits =
    let one : length (hop_bytes hop) ≤ 67445 = subst (λ w. length w ≤ 67445) (hop-written more hop fits.0)
    (hop-most more hop fits.0) in
    omega (
      arith,
      one,
      hops-most more hops fits.1,
      length-append (hop_bytes hop) (flat_map hop_bytes hops),
      suc-mul more 67445,
    )

all_hops-most : (count : ℕ) → count ≤ MOST_HOPS → AtMost (each hop_bytes hop_codec (following count)) 4316480
unfolding each
all_hops-most count few hops fits = let l : count * 67445 ≤ 64 * 67445 = mul-le-mul_right 67445 few in
    omega (arith, hops-most count hops fits, l)

tail-most : (upper : ℕ) → upper ≤ LAST_STEP → AtMost (tail_codec upper) 56476
unfolding tail_codec number_codec
tail-most upper small =
    at_most-seen _ _ _ 56476 (at_most-pair _ _ 8 56468 (at_most-number 8 1 LAST_STEP)
    (λ step s. at_most-pair _ _ 53760 2708 (path-most upper step (omega (arith, small))) (λ _ _.
    at_most-pair _ _ 1356 1352 (opening-most 1 step s.1)
    (λ opening f. event-most opening.count (opening-few 1 step opening f)))))

behind-most : (count step : ℕ) → count ≤ MOST_HOPS → step ≤ LAST_STEP → AtMost (behind_codec count step) 4374312
unfolding behind_codec
behind-most count step few small =
    at_most-pair _ _ 1356 4372956 (at_most-optional (nat_lt 0 count) (opening_codec 0 (step - 1)) 1356
    (opening-most 0 (step - 1) (omega (arith, small)))) (λ _ _.
    at_most-pair _ _ 4316480 56476 (all_hops-most count few) (λ hops f. tail-most (last_step (step - 1) hops)
    (last_step-all (step - 1) count hops (omega (arith, small)) f)))

with_hops-most : (count : ℕ) → count ≤ MOST_HOPS → AtMost (hops_codec count) 4430812
unfolding hops_codec
with_hops-most count few =
    at_most-seen _ _ _ 4430812 (at_most-pair _ _ 55148 4375664 (part-most 1) (λ head f.
    at_most-pair _ _ 1352 4374312 (event-most head.opening.count (part-counts 1 head f).1)
    (λ _ _. behind-most count head.step few (part-shape 1 head f).1.step)))

precedence-most : AtMost precedence_body 4430813
unfolding precedence_body number_codec
precedence-most = at_most-by_kind _ (number_codec 1 0 MOST_HOPS) hops_codec 1 4430812 (at_most-number 1 0 MOST_HOPS)
    (λ count f. with_hops-most count f.1)

-- ---- all kinds

bodies-most : (kind : ℕ) → AtMost (body_of_kind kind) 4430813
bodies-most kind =
    at_most-choose (kind == 1) _ _ 4430813 (at_most-wider (variant Exists existence_of existence_body) 56500 4430813
    (omega arith) (at_most-variant Exists existence_of existence_body 56500 body-most))
    (at_most-choose (kind == 2) _ _ 4430813 (at_most-variant Precedes precedence_of precedence_body 4430813
    precedence-most)
    (at_most-choose (kind == 3) _ _ 4430813 (at_most-wider (variant Archived thread_proof_of thread_body) 67469 4430813
    (omega arith) (at_most-variant Archived thread_proof_of thread_body 67469 thread_body-most))
    (at_most-choose (kind == 4) _ _ 4430813 (at_most-wider (variant Absent absence_of absence_body) 67461 4430813
    (omega arith) (at_most-variant Absent absence_of absence_body 67461 absence_body-most))
    (at_most-wider (variant Linked link_of link_body) 53824 4430813 (omega arith)
    (at_most-variant Linked link_of link_body 53824 link_body-most)))))

proof-most : AtMost proof_codec 4430818
unfolding proof_codec kinds_codec
proof-most = at_most-behind _ _ 4430814 (at_most-by_kind _ kind_codec body_of_kind 1 4430813 (at_most-number 1 1 5)
    (λ kind _. bodies-most kind))

pub proof-size : (bytes : List ℕ) (q : Proof) → Spells proof_layout bytes q → length bytes ≤ 4430818
proof-size = word-size proof_codec proof-lawful 4430818 proof-most

-- a proof has fewer bytes than are read of its file
pub proof-small : (bytes : List ℕ) (q : Proof) → Spells proof_layout bytes q → length bytes < 5242880
proof-small bytes q s = omega (arith, proof-size bytes q s)
