-- The codec of proofs is lawful, and the bytes of a proof of kind 1 are those of its existence proof.
use Rattle.std.proofs.Common.{◌≡◌, ℕ, suc, zero, ◌-◌, List, [], ◌∷◌, ◌++◌, length, refl, ap, sym, ◌∙◌, subst, arith}
use Rattle.std.proofs.Common.{lit≤}
use Rattle.std.specs.Prelude.{Bool, true, false, Option, Some, None, MatchOption, ◌==◌, nat_lt}
use Rattle.std.specs.Option.{option_map_or}
use Rattle.tw_base.specs.declared.kinds.limits.TheConstants.{LAST_STEP, MOST_HOPS}
use Rattle.tw_base.specs.format.Codecs.{Codec, EachFits, behind, by_kind, each, labels_codec, many, nothing}
use Rattle.tw_base.specs.format.Codecs.{number_codec, optional, pair, present, seen, variant}
use Rattle.tw_base.specs.history.EntryCodec.{entry_codec}
use Rattle.tw_base.specs.format.Fields.{number_bytes}
use Rattle.tw_base.specs.format.Formats.{Spells}
use Rattle.tw_base.proofs.lemmas.history.EntryCodecLaws.{entry-lawful}
use Rattle.tw_base.proofs.lemmas.format.CodecLaws.{Lawful, lawful, lawful-by_kind, lawful-choose, lawful-each}
use Rattle.tw_base.proofs.lemmas.format.CodecLaws.{lawful-optional, lawful-pair, lawful-seen, lawful-variant}
use Rattle.tw_base.proofs.lemmas.format.CodecLaws.{spelled-fits, written-as}
use Rattle.tw_skipproof.specs.declared.existence.ExistenceProof.{ExistenceProof}
use Rattle.tw_skipproof.specs.declared.opening.Opening.{Opening}
use Rattle.tw_skipproof.specs.Codecs.{event_part_codec, existence_body, existence_codec, opening_bytes, opening_codec}
use Rattle.tw_skipproof.specs.Codecs.{part_codec, path_bytes, path_codec, step_number_codec}
use Rattle.tw_skipproof.specs.Existence.{existence_layout}
use Rattle.tw_skipproof.proofs.LawfulCodecs.{body-lawful, event-lawful, existence-lawful, opening-few, opening-lawful}
use Rattle.tw_skipproof.proofs.LawfulCodecs.{part-counts, part-lawful, path-lawful}
use Rattle.tw_treeproof.specs.Codecs.{gap_codec, present_codec}
use Rattle.tw_treeproof.proofs.LawfulCodecs.{gap-lawful, present-lawful}
use Rattle.tw_chain.specs.declared.proof.HopPart.{HopPart}
use Rattle.tw_chain.specs.declared.proof.PrecedenceProof.{PrecedenceProof}
use Rattle.tw_chain.specs.declared.proof.Proof.{Proof}
use Rattle.tw_chain.specs.declared.proof.Proof.TheVariants.{Exists, Precedes, Archived, Absent, Linked}
use Rattle.tw_chain.specs.Proofs.{absence_body, absence_of, behind_codec, body_of_kind, existence_of, following}
use Rattle.tw_chain.specs.Proofs.{hop_bytes, hop_codec, hops_codec, key_codec, kind_codec, kinds_codec, last_step}
use Rattle.tw_chain.specs.Proofs.{link_body, link_of, precedence_body, precedence_of, proof_codec, proof_kind}
use Rattle.tw_chain.specs.Proofs.{proof_layout, tail_codec, thread_body, thread_proof_of}

-- ---- what stands behind it

pub thread-lawful : Lawful thread_body
unfolding thread_body
thread-lawful =
    lawful-seen _ _ _ (λ t. refl) (λ p. refl)
    (lawful-pair (part_codec 0) (λ at. pair entry_codec (λ entry. present_codec)) (part-lawful 0 (lit≤ tt))
    (λ _ _. lawful-pair entry_codec (λ entry. present_codec) entry-lawful (λ _ _. present-lawful)))

pub key-lawful : Lawful key_codec
unfolding key_codec
key-lawful = search lawful depth 20

pub absence-lawful : Lawful absence_body
unfolding absence_body
absence-lawful =
    lawful-seen _ _ _ (λ t. refl) (λ p. refl) (lawful-pair (part_codec 0) (λ at. pair key_codec (λ key. gap_codec))
    (part-lawful 0 (lit≤ tt))
    (λ _ _. lawful-pair key_codec (λ key. gap_codec) key-lawful (λ _ _. gap-lawful)))

pub link-lawful : Lawful link_body
unfolding link_body
link-lawful = search (lawful, path-lawful) depth 20

-- ---- kind 2

pub hop-lawful : (more : ℕ) → Lawful (hop_codec more)
unfolding hop_codec
hop-lawful more =
    lawful-seen _ _ _ (λ t. refl) (λ p. refl)
    (lawful-pair entry_codec _ entry-lawful (λ entry _. lawful-pair present_codec _ present-lawful (λ shown _.
    lawful-pair (number_codec 8 0 LAST_STEP) _ (search lawful)
    (λ bind _. lawful-pair (path_codec bind entry.thread.step) _ (path-lawful bind entry.thread.step) (λ links _.
    lawful-optional (opening_codec 0 entry.thread.step) (opening-lawful 0 entry.thread.step (lit≤ tt))
    (nat_lt 0 more))))))

-- an opening that is there or not, as the number that follow says, has its bytes or none
opening-written : (is : Bool) (step : ℕ) (o : Option Opening) → (optional is (opening_codec 0 step)).Fits o
    → (optional is (opening_codec 0 step)).write o ≡ option_map_or opening_bytes o []
unfolding present nothing opening_bytes opening_codec seen pair labels_codec many
opening-written true step None fits = absurd fits
opening-written true step (Some o) fits = refl
opening-written false step None fits = refl
opening-written false step (Some o) fits = cc

pub hop-written : (more : ℕ) (p : HopPart) → (hop_codec more).Fits p → (hop_codec more).write p ≡ hop_bytes p
unfolding hop_codec hop_bytes path_bytes path_codec each number_codec seen pair
hop-written more p fits =
    ap (λ w. entry_codec.write p.entry
    ++ (present_codec.write p.shown ++ (number_bytes 8 p.bind ++ (path_bytes p.link.links ++ w))))
    (opening-written (nat_lt 0 more) p.entry.thread.step p.opening fits.1.1.1.1)

pub tail-lawful : (upper : ℕ) → Lawful (tail_codec upper)
unfolding tail_codec
tail-lawful upper =
    lawful-seen _ _ _ (λ t. refl) (λ p. refl) (lawful-pair step_number_codec _ (search lawful)
    (λ step _. lawful-pair (path_codec upper step) _ (path-lawful upper step) (λ links _.
    lawful-pair (opening_codec 1 step) _ (opening-lawful 1 step (lit≤ tt)) (λ opening fits. event-lawful opening.count
    (opening-few 1 step opening fits)))))

behind-lawful : (count step : ℕ) → Lawful (behind_codec count step)
unfolding behind_codec
behind-lawful count step =
    lawful-pair (optional (nat_lt 0 count) (opening_codec 0 (step - 1))) _ (lawful-optional (opening_codec 0 (step - 1))
    (opening-lawful 0 (step - 1) (lit≤ tt)) (nat_lt 0 count)) (λ before _.
    lawful-pair (each hop_bytes hop_codec (following count)) _ (lawful-each hop_bytes hop_codec hop-lawful hop-written
    (following count)) (λ hops _. tail-lawful (last_step (step - 1) hops)))

hops-lawful : (count : ℕ) → Lawful (hops_codec count)
unfolding hops_codec
hops-lawful count =
    lawful-seen _ _ _ (λ t. refl) (λ p. refl) (lawful-pair (part_codec 1) _ (part-lawful 1 (lit≤ tt)) (λ head fits.
    lawful-pair (event_part_codec head.opening.count) _ (event-lawful head.opening.count (part-counts 1 head fits).1)
    (λ event _. behind-lawful count head.step)))

-- there are as many hops as there are numbers of those that follow
length-following : (count : ℕ) (hops : List HopPart) → EachFits hop_bytes hop_codec (following count) hops
    → length hops ≡ count
length-following zero [] fits = refl
length-following zero (hop ∷ hops) fits = cc
length-following (suc count) [] fits = absurd fits
length-following (suc count) (hop ∷ hops) fits = ap suc (length-following count hops fits.1)

pub hops-count : (count : ℕ) (p : PrecedenceProof) → (hops_codec count).Fits p → length p.hops ≡ count
unfolding hops_codec behind_codec seen pair each
hops-count count p fits = length-following count p.hops fits.1.1.1.0

pub precedence-lawful : Lawful precedence_body
unfolding precedence_body
precedence-lawful =
    lawful-by_kind (λ p. length p.hops) (number_codec 1 0 MOST_HOPS) hops_codec (search lawful)
    (λ count _. hops-lawful count) (λ count p _ fits. hops-count count p fits)

-- ---- all kinds

bodies-lawful : (kind : ℕ) → Lawful (body_of_kind kind)
bodies-lawful kind =
    lawful-choose (kind == 1) _ _ (lawful-variant Exists existence_of existence_body (λ p. refl) body-lawful)
    (lawful-choose (kind == 2) _ _ (lawful-variant Precedes precedence_of precedence_body (λ p. refl) precedence-lawful)
    (lawful-choose (kind == 3) _ _ (lawful-variant Archived thread_proof_of thread_body (λ p. refl) thread-lawful)
    (lawful-choose (kind == 4) _ _ (lawful-variant Absent absence_of absence_body (λ p. refl) absence-lawful)
    (lawful-variant Linked link_of link_body (λ p. refl) link-lawful))))

module _ {X : Type 0} (make : X → Proof) (fields : Proof → Option X) (c : Codec X) where
  -- a value of a variant is what the variant makes of its fields
  made : (p : Proof) → (variant make fields c).Fits p → (x : X) × (make x ≡ p)
  unfolding variant
  made p fits = by (fields p) fits
    where
      by : (o : Option X) → MatchOption o ⊥ (λ x. (make x ≡ p) × c.Fits x) → (x : X) × (make x ≡ p)
      by None f = absurd f
      by (Some x) f = (x, f.0)

-- a proof of a kind has that kind
pub kinds : (kind : ℕ) (p : Proof) → kind_codec.Fits kind → (body_of_kind kind).Fits p → proof_kind p ≡ kind
unfolding number_codec
kinds zero p fits is = absurd (omega (arith, fits.0))
kinds (suc zero) p fits is = sym (ap proof_kind (made Exists existence_of existence_body p is).1)
kinds (suc (suc zero)) p fits is = sym (ap proof_kind (made Precedes precedence_of precedence_body p is).1)
kinds (suc (suc (suc zero))) p fits is = sym (ap proof_kind (made Archived thread_proof_of thread_body p is).1)
kinds (suc (suc (suc (suc zero)))) p fits is = sym (ap proof_kind (made Absent absence_of absence_body p is).1)
kinds (suc (suc (suc (suc (suc zero))))) p fits is = sym (ap proof_kind (made Linked link_of link_body p is).1)
kinds (suc (suc (suc (suc (suc (suc n)))))) p fits is = absurd (omega (arith, fits.1))

pub proof-lawful : Lawful proof_codec
unfolding proof_codec kinds_codec
proof-lawful =
    let each = lawful-by_kind proof_kind kind_codec body_of_kind (search lawful) (λ kind _. bodies-lawful kind) kinds in
    search (lawful, each)

-- ---- a proof of kind 1

pub same_bytes : (p : ExistenceProof) → proof_codec.write (Exists p) ≡ existence_codec.write p
unfolding proof_codec kinds_codec existence_codec behind by_kind variant number_codec number_bytes
same_bytes p = refl

pub to_fits : (p : ExistenceProof) → existence_codec.Fits p → proof_codec.Fits (Exists p)
unfolding proof_codec kinds_codec existence_codec behind by_kind variant number_codec
to_fits p fits = ((lit≤ tt, lit≤ tt), (refl, fits))

pub from_existence : (bytes : List ℕ) (p : ExistenceProof) → Spells existence_layout bytes p → Spells proof_layout bytes
    (Exists p)
from_existence bytes p s =
    let P : List ℕ → Type 0 = λ w. Spells proof_layout w (Exists p) in
    subst P (same_bytes p ∙ sym (written-as existence_codec existence-lawful bytes p s))
    (proof-lawful.spells (Exists p) (to_fits p (spelled-fits existence_codec existence-lawful bytes p s)))
