-- The parts of a proof over two hops, what they join to, and what that names and carries.
use Rattle.std.proofs.Common.{◌≡◌, ℕ, ◌+◌, ◌-◌, ◌<◌, List, [], ◌∷◌, ◌++◌, Bool, true, false, refl, ap, ◌∙◌, arith}
use Rattle.std.specs.Prelude.{◌==◌, ◌&&◌, Option, Some, None, Result, Ok, Err, if◌then◌else◌}
use Rattle.std.specs.List.{flat_map}
use Rattle.std.specs.Option.{option_map_or}
use Rattle.std.specs.Str.{bytes_eq}
use Rattle.std.proofs.lemmas.Bool.{and_from, eq-eqb, ne_eqb}
use Rattle.std.proofs.lemmas.Slice.Eq.{bytes_eq-Decides}
use Rattle.tw_base.specs.declared.history.thread.Key.{Key}
use Rattle.tw_base.specs.declared.history.thread.Thread.{Thread}
use Rattle.tw_chain.specs.Accepting.{carried, named}
use Rattle.tw_chain.specs.Checks.{Check, bind_of, end_of_order, hops_checks, link_checks, link_top, opening_checks}
use Rattle.tw_chain.specs.Checks.{opening_root, tail_checks, top_of}
use Rattle.tw_chain.specs.Checks.Check.{CarriesThread}
use Rattle.tw_chain.specs.Passing.{carried_by, needed_by}
use Rattle.tw_chain.specs.declared.proof.HopPart.{HopPart}
use Rattle.tw_chain.specs.declared.proof.LinkProof.{LinkProof}
use Rattle.tw_chain.specs.declared.proof.PrecedenceProof.{PrecedenceProof}
use Rattle.tw_chain.specs.declared.proof.Proof.{Proof}
use Rattle.tw_chain.specs.declared.proof.Proof.TheVariants.{Archived, Exists, Linked, Precedes}
use Rattle.tw_chain.specs.declared.proof.ThreadProof.{ThreadProof}
use Rattle.tw_join.specs.Joining.{Joint, Taken, hop_of, is_key, is_link_of, joined_of, joined_proof, only_if, wanted}
use Rattle.tw_join.specs.Joining.{with_part}
use Rattle.tw_join.specs.Joining.Taken.{Hops, Nothing, Whole}
use Rattle.tw_skipproof.specs.declared.existence.ExistenceProof.{ExistenceProof}

join-on : (second : ExistenceProof) (joints : List Joint) (next : Taken) (number : ℕ) (part : Proof)
    (parts : List Proof) (r : Result PrecedenceProof ℕ)
    → with_part (Hops second joints) part ≡ Some next → joined_proof next (number + 1) parts ≡ r
    → joined_proof (Hops second joints) number (part ∷ parts) ≡ r
join-on second joints next number part parts r fits rest =
    ap (λ (o : Option Taken). option_map_or (λ (n : Taken). joined_proof n (number + 1) parts) o (Err number)) fits
    ∙ rest

fits-key : (key : Key) (service : List ℕ) (step : ℕ) → key.from ≡ service → key.step ≡ step → is_key key service step
    ≡ true
fits-key key service step from at = and_from (bytes_eq key.from service) (key.step == step)
    ((bytes_eq-Decides key.from service).1 from) (eq-eqb key.step step at)

fits-link : (t : Thread) (l : LinkProof) → t.from ≡ l.service → t.step ≡ l.step → t.auth ≡ l.auth
    → is_link_of t l ≡ true
fits-link t l from step auth =
    and_from (bytes_eq t.from l.service) (t.step == l.step && bytes_eq t.auth l.auth)
    ((bytes_eq-Decides t.from l.service).1 from)
    (and_from (t.step == l.step) (bytes_eq t.auth l.auth) (eq-eqb t.step l.step step)
    ((bytes_eq-Decides t.auth l.auth).1 auth))

-- a thread of the archive of this service and step, and the link of the thread
pub record Fit (from : List ℕ) (step : ℕ) (t : ThreadProof) (l : LinkProof) : Type 0 where
  pub service : from ≡ t.at.service
  pub at_step : step ≡ t.at.step
  pub link_service : t.entry.thread.from ≡ l.service
  pub link_step : t.entry.thread.step ≡ l.step
  pub link_auth : t.entry.thread.auth ≡ l.auth
  pub bound : 0 < l.top

-- the parts of a proof over two hops
pub record Six : Type 0 where
  pub second : ExistenceProof
  pub one : ThreadProof
  pub one_link : LinkProof
  pub other : ThreadProof
  pub other_link : LinkProof
  pub first : ExistenceProof

-- that fit
pub record AllFit (x : Six) : Type 0 where
  pub one_fits : Fit x.second.at.service (x.second.at.step - 1) x.one x.one_link
  pub other_fits : Fit x.one.entry.thread.from x.one.entry.thread.step x.other x.other_link
  pub first_service : x.other.entry.thread.from ≡ x.first.at.service
  pub first_top : x.other.entry.thread.step ≡ x.first.at.top

abbrev pub parts_of : Six → List Proof
parts_of x = Exists x.second ∷ Archived x.one ∷ Linked x.one_link ∷ Archived x.other ∷ Linked x.other_link ∷ Exists
    x.first ∷ []

abbrev alone : ThreadProof → Joint
alone t = record { thread = t; link = None }

abbrev linked : ThreadProof → LinkProof → Joint
linked t l = record { thread = t; link = Some l }

abbrev joints : Six → List Joint
joints x = linked x.other x.other_link ∷ linked x.one x.one_link ∷ []

-- what they join to
abbrev pub whole : Six → PrecedenceProof
whole x = joined_of x.second (joints x) x.first

module _ (x : Six) (fit : AllFit x) where
  pub parts-join : joined_proof Nothing 1 (parts_of x) ≡ Ok (whole x)
  parts-join =
      join-on x.second [] (Hops x.second (alone x.one ∷ [])) 2 (Archived x.one)
      (Linked x.one_link ∷ Archived x.other ∷ Linked x.other_link ∷ Exists x.first ∷ []) (Ok (whole x))
      (ap (λ b. only_if b (Hops x.second (alone x.one ∷ []))) (fits-key (wanted x.second []) x.one.at.service
      x.one.at.step fit.one_fits.service fit.one_fits.at_step))
      (join-on x.second (alone x.one ∷ []) (Hops x.second (linked x.one x.one_link ∷ [])) 3 (Linked x.one_link)
      (Archived x.other ∷ Linked x.other_link ∷ Exists x.first ∷ []) (Ok (whole x))
      (ap (λ b. only_if b (Hops x.second (linked x.one x.one_link ∷ []))) (fits-link x.one.entry.thread x.one_link
      fit.one_fits.link_service fit.one_fits.link_step fit.one_fits.link_auth))
      (join-on x.second (linked x.one x.one_link ∷ []) (Hops x.second (alone x.other ∷ linked x.one x.one_link ∷ [])) 4
      (Archived x.other) (Linked x.other_link ∷ Exists x.first ∷ []) (Ok (whole x))
      (ap (λ b. only_if b (Hops x.second (alone x.other ∷ linked x.one x.one_link ∷ [])))
      (fits-key (wanted x.second (linked x.one x.one_link ∷ [])) x.other.at.service x.other.at.step
      fit.other_fits.service fit.other_fits.at_step))
      (join-on x.second (alone x.other ∷ linked x.one x.one_link ∷ []) (Hops x.second (joints x)) 5
      (Linked x.other_link) (Exists x.first ∷ []) (Ok (whole x))
      (ap (λ b. only_if b (Hops x.second (joints x))) (fits-link x.other.entry.thread x.other_link
      fit.other_fits.link_service fit.other_fits.link_step fit.other_fits.link_auth))
      (join-on x.second (joints x) (Whole x.second (joints x) x.first) 6 (Exists x.first) [] (Ok (whole x))
      (ap (λ b. only_if b (Whole x.second (joints x) x.first)) (fits-key (wanted x.second (joints x)) x.first.at.service
      x.first.at.top fit.first_service fit.first_top))
      refl))))

-- ---- what the proof names and carries

-- the hops of both threads
abbrev hop_one : Six → HopPart
hop_one x = hop_of (linked x.one x.one_link) (Some x.other.at.opening)

abbrev hop_other : Six → HopPart
hop_other x = hop_of (linked x.other x.other_link) None

-- the services and steps whose anchors it needs
abbrev pub keys : Six → List Key
keys x = top_of x.second.at ∷ link_top (bind_of (hop_one x)) ∷ link_top (bind_of (hop_other x)) ∷ []

-- what is checked from a hop's thread on, carried or bound
abbrev from_other : Six → (is_carried : Bool) → List Check
from_other x b =
    (((if b then CarriesThread (hop_other x).entry.thread ∷ [] else link_checks 2 (bind_of (hop_other x)))
    ++ opening_checks 2 (hop_other x).entry.thread (hop_other x).opening)
    ++ []) ++ tail_checks 3 (end_of_order (whole x)) (whole x).tail

abbrev from_one : Six → (is_carried : Bool) → List Check
from_one x b =
    (((if b then CarriesThread (hop_one x).entry.thread ∷ [] else link_checks 1 (bind_of (hop_one x))) ++ opening_checks
    1 (hop_one x).entry.thread (hop_one x).opening)
    ++ hops_checks 2 (hop_one x).entry.thread.step (opening_root (hop_one x).opening) (hop_other x ∷ [])) ++ tail_checks
    3 (end_of_order (whole x)) (whole x).tail

not-zero : (n : ℕ) → 0 < n → (n == 0) ≡ false
not-zero n some = ne_eqb n 0 (λ same. omega (arith, some, same))

module _ (x : Six) (fit : AllFit x) where
  -- no thread is carried, since both are bound
  pub none-carried : carried (Precedes (whole x)) ≡ []
  none-carried =
      ap (λ b. flat_map carried_by (from_one x b)) (not-zero x.one_link.top fit.one_fits.bound)
      ∙ ap (λ b. flat_map carried_by (from_other x b)) (not-zero x.other_link.top fit.other_fits.bound)

  pub three-named : named (Precedes (whole x)) ≡ keys x
  three-named =
      ap (λ b. top_of x.second.at ∷ flat_map needed_by (from_one x b)) (not-zero x.one_link.top fit.one_fits.bound)
      ∙ ap (λ b. top_of x.second.at ∷ link_top (bind_of (hop_one x)) ∷ flat_map needed_by (from_other x b))
      (not-zero x.other_link.top fit.other_fits.bound)
