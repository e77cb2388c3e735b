-- Parts that join, taken apart: what each of them is, where each has some property.
use Rattle.std.proofs.Common.{◌≡◌, ℕ, ◌+◌, ◌<◌, List, [], ◌∷◌, ◌++◌, length, refl, sym, ap, ◌∙◌, subst}
use Rattle.std.specs.Prelude.{reverse, Bool, true, false, Option, Some, None, Ok, Err, IfSome, nat_lt, is_none, ◌==◌}
use Rattle.std.specs.Prelude.{◌&&◌, if◌then◌else◌}
use Rattle.std.specs.Option.{option_map_or}
use Rattle.std.specs.Str.{bytes_eq}
use Rattle.std.proofs.lemmas.Bool.{and_parts, eqb-true, ltb-true}
use Rattle.std.proofs.lemmas.List.{append-nil, append_assoc, reverse-append}
use Rattle.std.proofs.lemmas.Slice.Eq.{bytes_eq-Decides}
use Rattle.tw_base.specs.declared.kinds.limits.TheConstants.{MOST_HOPS}
use Rattle.tw_base.specs.declared.history.report.Hop.{Hop}
use Rattle.tw_base.specs.declared.history.thread.Key.{Key}
use Rattle.tw_base.specs.declared.history.thread.Thread.{Thread}
use Rattle.tw_base.specs.kinds.Lists.{Each}
use Rattle.tw_skipproof.specs.declared.existence.ExistenceProof.{ExistenceProof}
use Rattle.tw_chain.specs.declared.proof.LinkProof.{LinkProof}
use Rattle.tw_chain.specs.declared.proof.PrecedenceProof.{PrecedenceProof}
use Rattle.tw_chain.specs.declared.proof.Proof.{Proof}
use Rattle.tw_chain.specs.declared.proof.Proof.TheVariants.{Exists, Precedes, Archived, Absent, Linked}
use Rattle.tw_chain.specs.declared.proof.ThreadProof.{ThreadProof}
use Rattle.tw_chain.specs.Checks.{link_top, top_of}
use Rattle.tw_join.specs.Joining.{Joint, Taken, is_key, is_link_of, joined_of, joined_proof, link_tops, only_if}
use Rattle.tw_join.specs.Joining.{shown_hop, shown_hops, tops_of, wanted, with_part}
use Rattle.tw_join.specs.Joining.Taken.{Nothing, Hops, Whole}

-- ---- what the tests say

same-bytes : (a b : List ℕ) → bytes_eq a b ≡ true → a ≡ b
same-bytes a b is = (bytes_eq-Decides a b).0 is

key-parts : (key : Key) (service : List ℕ) (step : ℕ) → is_key key service step ≡ true → (key.from ≡ service)
    × (key.step ≡ step)
key-parts key service step is =
    let both = and_parts (bytes_eq key.from service) (key.step == step) is in
    (same-bytes key.from service both.0, eqb-true key.step step both.1)

pub only-if : (fits : Bool) (taken next : Taken) → only_if fits taken ≡ Some next → (fits ≡ true) × (taken ≡ next)
only-if true taken next is = (refl, cc)
only-if false taken next is = cc

-- ---- the hops that they show

-- the hops of the parts, the last hop first
abbrev pub joint_hops : List Joint → List Hop
joint_hops [] = []
joint_hops (joint ∷ joints) = shown_hop joint.thread ∷ joint_hops joints

abbrev taken_hops : Taken → List Hop
taken_hops Nothing = []
taken_hops (Hops second joints) = joint_hops joints
taken_hops (Whole second joints first) = joint_hops joints

shown-more : (part : Proof) (parts : List Proof) → reverse (shown_hops (part ∷ parts)) ≡ reverse (shown_hops parts)
    ++ reverse (shown_hops (part ∷ []))
shown-more (Archived t) parts = reverse-append (shown_hop t ∷ []) (shown_hops parts)
shown-more (Exists p) parts = sym (append-nil (reverse (shown_hops parts)))
shown-more (Precedes p) parts = sym (append-nil (reverse (shown_hops parts)))
shown-more (Absent p) parts = sym (append-nil (reverse (shown_hops parts)))
shown-more (Linked p) parts = sym (append-nil (reverse (shown_hops parts)))

-- one part more shows its hop behind those of the parts taken
part-hops : (taken : Taken) (part : Proof) (next : Taken) → with_part taken part ≡ Some next → taken_hops next ≡ reverse
    (shown_hops (part ∷ [])) ++ taken_hops taken
part-hops Nothing (Exists p) next is = let same : Hops p [] ≡ next = cc in ap taken_hops (sym same)
part-hops Nothing (Precedes p) next is = cc
part-hops Nothing (Archived p) next is = cc
part-hops Nothing (Absent p) next is = cc
part-hops Nothing (Linked p) next is = cc
part-hops (Hops second joints) (Archived t) next is =
    ap taken_hops
    (sym (only-if (nat_lt (length joints) MOST_HOPS && is_key (wanted second joints) t.at.service t.at.step)
    (Hops second (record { thread = t; link = None } ∷ joints)) next is).1)
part-hops (Hops second (joint ∷ joints)) (Linked l) next is =
    ap taken_hops (sym (only-if (is_none joint.link && is_link_of joint.thread.entry.thread l)
    (Hops second (record { thread = joint.thread; link = Some l } ∷ joints)) next is).1)
part-hops (Hops second []) (Linked l) next is = cc
part-hops (Hops second []) (Exists p) next is =
    ap taken_hops (sym (only-if (is_key (wanted second []) p.at.service p.at.top) (Whole second [] p) next is).1)
part-hops (Hops second (joint ∷ joints)) (Exists p) next is =
    ap taken_hops (sym (only-if (is_key (wanted second (joint ∷ joints)) p.at.service p.at.top)
    (Whole second (joint ∷ joints) p) next is).1)
part-hops (Hops second []) (Precedes p) next is = cc
part-hops (Hops second (joint ∷ joints)) (Precedes p) next is = cc
part-hops (Hops second []) (Absent p) next is = cc
part-hops (Hops second (joint ∷ joints)) (Absent p) next is = cc
part-hops (Whole second joints first) part next is = cc

-- ---- the tops that they name

-- those of the links, the last hop first
abbrev pub joint_tops : List Joint → List Key
joint_tops [] = []
joint_tops (joint ∷ joints) = joint_tops joints ++ option_map_or (λ l. link_tops (Linked l ∷ [])) joint.link []

-- those of the parts taken, and of the ones behind them
abbrev tops_with : Taken → List Proof → List Key
tops_with Nothing parts = tops_of parts
tops_with (Hops second joints) parts = top_of second.at ∷ (joint_tops joints ++ link_tops parts)
tops_with (Whole second joints first) parts = top_of second.at ∷ (joint_tops joints ++ link_tops parts)

links-more : (l : LinkProof) (parts : List Proof) → link_tops (Linked l ∷ []) ++ link_tops parts ≡ link_tops
    (Linked l ∷ parts)
links-more l parts = by (l.top == 0)
  where
    by : (b : Bool) → (if b then [] else link_top l ∷ []) ++ link_tops parts ≡ (if b then link_tops parts else link_top
        l ∷ link_tops parts)
    by true = refl
    by false = refl

link-tops : (second : ExistenceProof) (t : ThreadProof) (link : Option LinkProof) (joints : List Joint) (l : LinkProof)
    (parts : List Proof) → is_none link ≡ true
    → tops_with (Hops second (record { thread = t; link = Some l } ∷ joints)) parts ≡ tops_with
    (Hops second (record { thread = t; link = link } ∷ joints)) (Linked l ∷ parts)
link-tops second t (Some other) joints l parts is = cc
link-tops second t None joints l parts is =
    ap (λ (ks : List Key). top_of second.at ∷ ks)
    (append_assoc (joint_tops joints) (link_tops (Linked l ∷ [])) (link_tops parts)
    ∙ ap (λ (ks : List Key). joint_tops joints ++ ks) (links-more l parts)
    ∙ ap (λ (ks : List Key). ks ++ link_tops (Linked l ∷ parts)) (sym (append-nil (joint_tops joints))))

-- with one part more they are the same
part-tops : (taken : Taken) (part : Proof) (parts : List Proof) (next : Taken) → with_part taken part ≡ Some next
    → tops_with next parts ≡ tops_with taken (part ∷ parts)
part-tops Nothing (Exists p) parts next is = let same : Hops p [] ≡ next = cc in ap (λ (t : Taken). tops_with t parts)
    (sym same)
part-tops Nothing (Precedes p) parts next is = cc
part-tops Nothing (Archived p) parts next is = cc
part-tops Nothing (Absent p) parts next is = cc
part-tops Nothing (Linked p) parts next is = cc
part-tops (Hops second joints) (Archived t) parts next is =
    ap (λ (n : Taken). tops_with n parts)
    (sym (only-if (nat_lt (length joints) MOST_HOPS && is_key (wanted second joints) t.at.service t.at.step)
    (Hops second (record { thread = t; link = None } ∷ joints)) next is).1)
    ∙ ap (λ (ks : List Key). top_of second.at ∷ (ks ++ link_tops parts)) (append-nil (joint_tops joints))
part-tops (Hops second (joint ∷ joints)) (Linked l) parts next is =
    let of_thread = is_link_of joint.thread.entry.thread l in
    let had = only-if (is_none joint.link && of_thread)
    (Hops second (record { thread = joint.thread; link = Some l } ∷ joints)) next is in
    ap (λ (n : Taken). tops_with n parts) (sym had.1)
    ∙ link-tops second joint.thread joint.link joints l parts (and_parts (is_none joint.link) of_thread had.0).0
part-tops (Hops second []) (Linked l) parts next is = cc
part-tops (Hops second []) (Exists p) parts next is =
    ap (λ (n : Taken). tops_with n parts)
    (sym (only-if (is_key (wanted second []) p.at.service p.at.top) (Whole second [] p) next is).1)
part-tops (Hops second (joint ∷ joints)) (Exists p) parts next is =
    ap (λ (n : Taken). tops_with n parts) (sym (only-if (is_key (wanted second (joint ∷ joints)) p.at.service p.at.top)
    (Whole second (joint ∷ joints) p) next is).1)
part-tops (Hops second []) (Precedes p) parts next is = cc
part-tops (Hops second (joint ∷ joints)) (Precedes p) parts next is = cc
part-tops (Hops second []) (Absent p) parts next is = cc
part-tops (Hops second (joint ∷ joints)) (Absent p) parts next is = cc
part-tops (Whole second joints first) part parts next is = cc

module _ (P : Proof → Type 0) where
  -- the link is of the thread
  pub record LinkFits (t : Thread) (l : LinkProof) : Type 0 where
    pub part : P (Linked l)
    pub from : t.from ≡ l.service
    pub step : t.step ≡ l.step
    pub auth : t.auth ≡ l.auth

  -- the thread's proof is of the archive of this service and step, and the link of the thread
  pub record JointFits (key : Key) (joint : Joint) : Type 0 where
    pub part : P (Archived joint.thread)
    pub service : key.from ≡ joint.thread.at.service
    pub step : key.step ≡ joint.thread.at.step
    pub link : IfSome joint.link (LinkFits joint.thread.entry.thread)

  -- each of at most 64 follows on the one before
  abbrev pub JointsFit : ExistenceProof → List Joint → Type 0
  JointsFit second [] = Unit {0}
  JointsFit second (joint ∷ joints) = JointFits (wanted second joints) joint × (length joints < MOST_HOPS) × JointsFit
      second joints

  pub record WholeFits (second : ExistenceProof) (joints : List Joint) (first : ExistenceProof) : Type 0 where
    pub second_part : P (Exists second)
    pub joints_fit : JointsFit second joints
    pub first_part : P (Exists first)
    pub service : (wanted second joints).from ≡ first.at.service
    pub top : (wanted second joints).step ≡ first.at.top

  abbrev TakenFits : Taken → Type 0
  TakenFits Nothing = Unit {0}
  TakenFits (Hops second joints) = P (Exists second) × JointsFit second joints
  TakenFits (Whole second joints first) = WholeFits second joints first

  -- ---- one part more

  with-thread : (second : ExistenceProof) (joints : List Joint) (t : ThreadProof) (next : Taken)
      → TakenFits (Hops second joints) → P (Archived t)
      → with_part (Hops second joints) (Archived t) ≡ Some next → TakenFits next
  with-thread second joints t next fits part is =
      let few = nat_lt (length joints) MOST_HOPS in
      let key = is_key (wanted second joints) t.at.service t.at.step in
      let had = only-if (few && key) (Hops second (record { thread = t; link = None } ∷ joints)) next is in
      let both = and_parts few key had.0 in
      let same = key-parts (wanted second joints) t.at.service t.at.step both.1 in
      subst TakenFits had.1 (
        fits.0,
        (
          record { part = part; service = same.0; step = same.1; link = tt },
          ltb-true (length joints) MOST_HOPS both.0,
          fits.1,
        ),
      )

  with-link : (second : ExistenceProof) (joint : Joint) (joints : List Joint) (l : LinkProof) (next : Taken)
      → TakenFits (Hops second (joint ∷ joints))
      → P (Linked l) → with_part (Hops second (joint ∷ joints)) (Linked l) ≡ Some next → TakenFits next
  with-link second joint joints l next fits part is =
      let t : Thread = joint.thread.entry.thread in
      let had = only-if (is_none joint.link && is_link_of t l)
      (Hops second (record { thread = joint.thread; link = Some l } ∷ joints)) next is in
      let both = and_parts (is_none joint.link) (is_link_of t l) had.0 in
      let tests = and_parts (bytes_eq t.from l.service) (t.step == l.step && bytes_eq t.auth l.auth) both.1 in
      let more = and_parts (t.step == l.step) (bytes_eq t.auth l.auth) tests.1 in
      let of_thread : LinkFits t l = record {
        part = part;
        from = same-bytes t.from l.service tests.0;
        step = eqb-true t.step l.step more.0;
        auth = same-bytes t.auth l.auth more.1;
      } in
      let last = fits.1.0 in
      subst TakenFits had.1 (
        fits.0,
        (record { part = last.part; service = last.service; step = last.step; link = of_thread }, fits.1.1, fits.1.2),
      )

  with-first : (second : ExistenceProof) (joints : List Joint) (first : ExistenceProof) (next : Taken)
      → TakenFits (Hops second joints) → P (Exists first)
      → only_if (is_key (wanted second joints) first.at.service first.at.top) (Whole second joints first) ≡ Some next
      → TakenFits next
  with-first second joints first next fits part is =
      let had = only-if (is_key (wanted second joints) first.at.service first.at.top) (Whole second joints first) next
      is in
      let same = key-parts (wanted second joints) first.at.service first.at.top had.0 in
      subst TakenFits had.1
      (record { second_part = fits.0; joints_fit = fits.1; first_part = part; service = same.0; top = same.1 })

  with-part : (taken : Taken) (part : Proof) (next : Taken) → TakenFits taken → P part → with_part taken part ≡ Some
      next → TakenFits next
  with-part Nothing (Exists p) next fits has is = subst TakenFits (let same : Hops p [] ≡ next = cc in same) (has, tt)
  with-part Nothing (Precedes p) next fits has is = cc
  with-part Nothing (Archived p) next fits has is = cc
  with-part Nothing (Absent p) next fits has is = cc
  with-part Nothing (Linked p) next fits has is = cc
  with-part (Hops second joints) (Archived t) next fits has is = with-thread second joints t next fits has is
  with-part (Hops second (joint ∷ joints)) (Linked l) next fits has is = with-link second joint joints l next fits has
      is
  with-part (Hops second []) (Linked l) next fits has is = cc
  with-part (Hops second []) (Exists p) next fits has is = with-first second [] p next fits has is
  with-part (Hops second (joint ∷ joints)) (Exists p) next fits has is = with-first second (joint ∷ joints) p next fits
      has is
  with-part (Hops second []) (Precedes p) next fits has is = cc
  with-part (Hops second (joint ∷ joints)) (Precedes p) next fits has is = cc
  with-part (Hops second []) (Absent p) next fits has is = cc
  with-part (Hops second (joint ∷ joints)) (Absent p) next fits has is = cc
  with-part (Whole second joints first) part next fits has is = cc

  -- ---- all parts

  -- a second event's, those of hops, and a first event's, each of which fits
  pub record JoinedFits (taken : Taken) (parts : List Proof) (p : PrecedenceProof) : Type 0 where
    pub second : ExistenceProof
    pub joints : List Joint
    pub first : ExistenceProof
    pub fits : WholeFits second joints first
    pub shown : joint_hops joints ≡ reverse (shown_hops parts) ++ taken_hops taken
    pub tops : top_of second.at ∷ joint_tops joints ≡ tops_with taken parts
    pub is : p ≡ joined_of second joints first

  ended : (taken : Taken) (number : ℕ) (p : PrecedenceProof) → TakenFits taken → joined_proof taken number [] ≡ Ok p
      → JoinedFits taken [] p
  ended Nothing number p fits is = cc
  ended (Hops second joints) number p fits is = cc
  ended (Whole second joints first) number p fits is = record {
    second = second;
    joints = joints;
    first = first;
    fits = fits;
    shown = refl;
    tops = ap (λ (ks : List Key). top_of second.at ∷ ks) (sym (append-nil (joint_tops joints)));
    is = sym (let same : joined_of second joints first ≡ p = cc in same);
  }

  with-one : (taken : Taken) (part : Proof) (parts : List Proof) (next : Taken) (p : PrecedenceProof)
      → with_part taken part ≡ Some next → JoinedFits next parts p
      → JoinedFits taken (part ∷ parts) p
  with-one taken part parts next p is rest = record {
    second = rest.second;
    joints = rest.joints;
    first = rest.first;
    fits = rest.fits;
    shown = rest.shown ∙ ap (λ told. reverse (shown_hops parts) ++ told) (part-hops taken part next is)
        ∙ sym (append_assoc (reverse (shown_hops parts)) (reverse (shown_hops (part ∷ []))) (taken_hops taken))
        ∙ ap (λ told. told ++ taken_hops taken) (sym (shown-more part parts));
    tops = rest.tops ∙ part-tops taken part parts next is;
    is = rest.is;
  }

  onward : (taken : Taken) (number : ℕ) (parts : List Proof) (p : PrecedenceProof) → TakenFits taken → Each P parts
      → joined_proof taken number parts ≡ Ok p
      → JoinedFits taken parts p
  onward taken number [] p fits all is = ended taken number p fits is
  onward taken number (part ∷ parts) p fits all is =
      by (with_part taken part) refl is (λ next at now. onward next (number + 1) parts p
      (with-part taken part next fits all.0 at) all.1 now)
    where
      by : (o : Option Taken) → with_part taken part ≡ o → option_map_or (λ next. joined_proof next (number + 1) parts)
          o (Err number) ≡ Ok p
          → ((next : Taken) → with_part taken part ≡ Some next → joined_proof next (number + 1) parts ≡ Ok p
          → JoinedFits next parts p)
          → JoinedFits taken (part ∷ parts) p
      by None at now rest = cc
      by (Some next) at now rest = with-one taken part parts next p at (rest next at now)

  pub joined-fits : (parts : List Proof) (p : PrecedenceProof) → Each P parts → joined_proof Nothing 1 parts ≡ Ok p
      → JoinedFits Nothing parts p
  joined-fits parts p all is = onward Nothing 1 parts p tt all is
