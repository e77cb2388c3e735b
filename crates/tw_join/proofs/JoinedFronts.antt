-- Parts that join are at most 130, so what the first 131 of some come to, all of them come to.
use Rattle.std.proofs.Common.{◌≡◌, ℕ, ◌+◌, ◌-◌, ◌*◌, ◌<◌, List, [], ◌∷◌, length, take, refl, sym, ap, ◌∙◌, subst, arith}
use Rattle.std.proofs.Common.{zero, suc}
use Rattle.std.specs.Prelude.{true, Option, Some, None, Result, Ok, Err, nat_lt, is_none, ◌&&◌}
use Rattle.std.specs.Option.{option_map_or}
use Rattle.std.proofs.lemmas.Bool.{and_parts, ltb-true}
use Rattle.tw_base.specs.declared.kinds.limits.TheConstants.{MOST_HOPS}
use Rattle.tw_skipproof.specs.declared.existence.ExistenceProof.{ExistenceProof}
use Rattle.tw_chain.specs.declared.proof.LinkProof.{LinkProof}
use Rattle.tw_chain.specs.declared.proof.PrecedenceProof.{PrecedenceProof}
use Rattle.tw_chain.specs.declared.proof.Proof.{Proof}
use Rattle.tw_chain.specs.declared.proof.Proof.TheVariants.{Exists, Precedes, Archived, Absent, Linked}
use Rattle.tw_join.specs.declared.joining.JoinFault.{JoinFault}
use Rattle.tw_join.specs.declared.joining.JoinFault.TheVariants.{Gap, NoMemory}
use Rattle.tw_join.specs.declared.limits.TheConstants.{MOST_PARTS}
use Rattle.tw_join.specs.Joining.{Joins, Joint, Taken, is_key, is_link_of, joined_proof, wanted, with_part}
use Rattle.tw_join.specs.Joining.Taken.{Nothing, Hops, Whole}
use Rattle.tw_join.proofs.JoinedParts.{only-if}

-- how many parts of the last hop may still come
abbrev unlinked : Option LinkProof → ℕ
unlinked None = 1
unlinked (Some l) = 0

-- how many parts may still come
abbrev left : Taken → ℕ
left Nothing = 2 * MOST_HOPS + 2
left (Hops second []) = 2 * MOST_HOPS + 1
left (Hops second (joint ∷ joints)) = 2 * (MOST_HOPS - length (joint ∷ joints)) + unlinked joint.link + 1
left (Whole second joints first) = 0

some-left : (second : ExistenceProof) (joints : List Joint) → 0 < left (Hops second joints)
some-left second [] = omega arith
some-left second (joint ∷ joints) = omega arith

is-unlinked : (link : Option LinkProof) → is_none link ≡ true → unlinked link ≡ 1
is-unlinked None is = refl
is-unlinked (Some l) is = cc

more-hops : (second : ExistenceProof) (joint : Joint) (joints : List Joint) → joint.link ≡ None
    → length joints < MOST_HOPS
    → left (Hops second (joint ∷ joints)) < left (Hops second joints)
more-hops second joint [] none few = let one : unlinked joint.link ≡ 1 = ap unlinked none in omega (arith, one)
more-hops second joint (other ∷ joints) none few = let one : unlinked joint.link ≡ 1 = ap unlinked none in
    omega (arith, one, few)

-- each part that is taken leaves room for fewer
part-left : (taken : Taken) (part : Proof) (next : Taken) → with_part taken part ≡ Some next → left next < left taken
part-left Nothing (Exists p) next is = let same : Hops p [] ≡ next = cc in subst (λ t. left t < left Nothing) same
    (omega arith)
part-left Nothing (Precedes p) next is = cc
part-left Nothing (Archived p) next is = cc
part-left Nothing (Absent p) next is = cc
part-left Nothing (Linked p) next is = cc
part-left (Hops second joints) (Archived t) next is =
    let few = nat_lt (length joints) MOST_HOPS in
    let key = is_key (wanted second joints) t.at.service t.at.step in
    let joint : Joint = record { thread = t; link = None } in
    let had = only-if (few && key) (Hops second (joint ∷ joints)) next is in
    subst (λ n. left n < left (Hops second joints)) had.1
    (more-hops second joint joints refl (ltb-true (length joints) MOST_HOPS (and_parts few key had.0).0))
part-left (Hops second (joint ∷ joints)) (Linked l) next is =
    let t = joint.thread.entry.thread in
    let had = only-if (is_none joint.link && is_link_of t l)
    (Hops second (record { thread = joint.thread; link = Some l } ∷ joints)) next is in
    let one : unlinked joint.link ≡ 1 = is-unlinked joint.link (and_parts (is_none joint.link) (is_link_of t l) had.0).0
    in
    subst (λ n. left n < left (Hops second (joint ∷ joints))) had.1 (omega (arith, one))
part-left (Hops second []) (Linked l) next is = cc
part-left (Hops second []) (Exists p) next is =
    subst (λ n. left n < left (Hops second [])) (only-if (is_key (wanted second []) p.at.service p.at.top)
    (Whole second [] p) next is).1 (some-left second [])
part-left (Hops second (joint ∷ joints)) (Exists p) next is =
    subst (λ n. left n < left (Hops second (joint ∷ joints)))
    (only-if (is_key (wanted second (joint ∷ joints)) p.at.service p.at.top) (Whole second (joint ∷ joints) p) next
    is).1 (some-left second (joint ∷ joints))
part-left (Hops second []) (Precedes p) next is = cc
part-left (Hops second (joint ∷ joints)) (Precedes p) next is = cc
part-left (Hops second []) (Absent p) next is = cc
part-left (Hops second (joint ∷ joints)) (Absent p) next is = cc
part-left (Whole second joints first) part next is = cc

-- ---- the parts that decide

joined-more : (taken : Taken) (number : ℕ) (part : Proof) (parts : List Proof)
    → joined_proof taken number (part ∷ parts) ≡ option_map_or (λ next. joined_proof next (number + 1) parts)
    (with_part taken part) (Err number)
joined-more Nothing number part parts = refl
joined-more (Hops second joints) number part parts = refl
joined-more (Whole second joints first) number part parts = refl

take-none : (count : ℕ) → take {A = Proof} count [] ≡ []
take-none zero = refl
take-none (suc count) = refl

abbrev after : (number : ℕ) → List Proof → Option Taken → Result PrecedenceProof ℕ
after number parts next = option_map_or (λ taken. joined_proof taken (number + 1) parts) next (Err number)

front-step : (taken : Taken) (number count : ℕ) (part : Proof) (front parts : List Proof) → left taken < suc count
    → ((next : Taken) → left next < count → joined_proof next (number + 1) front ≡ joined_proof next (number + 1) parts)
    → joined_proof taken number (part ∷ front) ≡ joined_proof taken number (part ∷ parts)
front-step taken number count part front parts some rest =
    joined-more taken number part front ∙ by (with_part taken part) refl ∙ sym (joined-more taken number part parts)
  where
    by : (next : Option Taken) → with_part taken part ≡ next → after number front next ≡ after number parts next
    by None is = refl
    by (Some next) is = let fewer = part-left taken part next is in rest next (omega (arith, fewer, some))

-- more parts than may still come decide
front-decides : (taken : Taken) (number count : ℕ) (parts : List Proof) → left taken < count → joined_proof taken number
    (take count parts) ≡ joined_proof taken number parts
front-decides taken number count [] some = ap (joined_proof taken number) (take-none count)
front-decides taken number zero (part ∷ parts) some = absurd (omega (arith, some))
front-decides taken number (suc count) (part ∷ parts) some =
    front-step taken number count part (take count parts) parts some (λ next fewer. front-decides next (number + 1)
    count parts fewer)

-- what the first 131 parts join to, all join to
pub joins-front : (parts : List Proof) (result : Result Proof JoinFault) → Joins (take (MOST_PARTS + 1) parts) result
    → Joins parts result
joins-front parts (Ok p) joins =
    (joins.0, sym (front-decides Nothing 1 (MOST_PARTS + 1) parts (omega arith)) ∙ joins.1, joins.2)
joins-front parts (Err (Gap place)) joins = sym (front-decides Nothing 1 (MOST_PARTS + 1) parts (omega arith)) ∙ joins
joins-front parts (Err NoMemory) joins = tt
