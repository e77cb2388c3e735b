-- What is found of checks, one after another.
use Rattle.std.proofs.Common.{◌≡◌, ℕ, List, [], ◌∷◌, ◌++◌, refl, sym, ap, ◌∙◌, subst}
use Rattle.std.specs.Prelude.{Bool, true, Option, Some, None, IfSome, if◌then◌else◌}
use Rattle.std.specs.Bool.{Decides}
use Rattle.std.specs.Option.{option_map}
use Rattle.std.proofs.lemmas.Bool.Decides.{same_from_decides}
use Rattle.tw_base.specs.declared.history.report.Reason.{Reason}
use Rattle.tw_base.specs.declared.history.report.Reason.TheVariants.{BadPath, NotHeld}
use Rattle.tw_base.specs.declared.history.thread.Key.{Key}
use Rattle.tw_base.specs.declared.history.thread.Thread.{Thread}
use Rattle.tw_chain.specs.Finding.{found_in, lower_of, passes, reason_with}
use Rattle.tw_skipproof.specs.declared.existence.Part.{Part}
use Rattle.tw_skipproof.specs.Acceptance.{Reaches}
use Rattle.tw_chain.specs.Checks.{Check, top_of, under_anchor}
use Rattle.tw_chain.specs.Checks.Check.{InOrder, NeedsAnchor, PathOf}
use Rattle.tw_chain.specs.Checks.Upper.{AtAnchor}
use Rattle.tw_chain.specs.Passing.{Passes, anchor_at, reason_of, upper_auth}
use Rattle.tw_chain.proofs.LowerSteps.{lower-assoc}
use Rattle.tw_chain.proofs.PassesLaws.{passes-is}

pub lower-none : (found : Option Reason) → lower_of found None ≡ found
lower-none None = refl
lower-none (Some reason) = refl

module _ (dig : List ℕ → List ℕ) (anchors : List Thread) where
  -- checks behind others
  pub found-append : (xs ys : List Check) → found_in dig anchors (xs ++ ys) ≡ lower_of (found_in dig anchors xs)
      (found_in dig anchors ys)
  found-append [] ys = refl
  found-append (c ∷ xs) ys =
      let own : Option Reason = if passes dig anchors c then None else Some (reason_of c) in
      ap (lower_of own) (found-append xs ys) ∙ sym (lower-assoc own (found_in dig anchors xs) (found_in dig anchors ys))

  -- one check more
  pub found-one : (found : Option Reason) (c : Check) (b : Bool) → Decides b (Passes dig anchors c)
      → lower_of found (if b then None else Some (reason_of c)) ≡ reason_with dig anchors found (c ∷ [])
  found-one found c b is =
      ap (λ (t : Bool). lower_of found (if t then None else Some (reason_of c)))
      (same_from_decides b (passes dig anchors c) is (passes-is dig anchors c))
      ∙ ap (lower_of found) (sym (lower-none (if passes dig anchors c then None else Some (reason_of c))))

  -- more checks behind those before
  pub found-onto : (found before : Option Reason) (cs ds : List Check) → before ≡ reason_with dig anchors found cs
      → reason_with dig anchors before ds ≡ reason_with dig anchors found (cs ++ ds)
  found-onto found before cs ds is =
      ap (λ r. reason_with dig anchors r ds) is
      ∙ lower-assoc found (found_in dig anchors cs) (found_in dig anchors ds)
      ∙ ap (lower_of found) (sym (found-append cs ds))

  -- an order, an anchor and a path that climbs to it, where it does so as this says of the anchor's authenticator
  module _ (found before : Option Reason) (order : Check) (key : Key) (path : Check) (holds : List ℕ → Type 0)
      (is : Decides (passes dig anchors path) (IfSome (upper_auth anchors (AtAnchor key)) holds))
      (was : before ≡ reason_with dig anchors found (order ∷ [])) where
    onto : reason_with dig anchors before (NeedsAnchor key ∷ path ∷ []) ≡ reason_with dig anchors found
        (order ∷ NeedsAnchor key ∷ path ∷ [])
    onto = found-onto found before (order ∷ []) (NeedsAnchor key ∷ path ∷ []) was

    -- the anchor isn't held
    pub found-not_held : anchor_at anchors key ≡ None
        → lower_of before (Some (NotHeld key.from key.step)) ≡ reason_with dig anchors found
        (order ∷ NeedsAnchor key ∷ path ∷ [])
    found-not_held none =
        let free : passes dig anchors path ≡ true =
        is.1 (subst (λ (o : Option Thread). IfSome (option_map (λ (t : Thread). t.auth) o) holds) (sym none) tt) in
        let here : lower_of before (Some (NotHeld key.from key.step)) ≡ reason_with dig anchors before
        (NeedsAnchor key ∷ path ∷ []) = rw (none, free) refl in
        here ∙ onto

    -- the anchor is held
    pub found-held : (anchor : Thread) (b : Bool) → anchor_at anchors key ≡ Some anchor → Decides b (holds anchor.auth)
        → lower_of before (if b then None else Some (reason_of path)) ≡ reason_with dig anchors found
        (order ∷ NeedsAnchor key ∷ path ∷ [])
    found-held anchor b some climbs =
        let own : Decides b (IfSome (upper_auth anchors (AtAnchor key)) holds) =
        subst (λ (o : Option Thread). Decides b (IfSome (option_map (λ (t : Thread). t.auth) o) holds)) (sym some)
        climbs in
        let same : b ≡ passes dig anchors path = same_from_decides b (passes dig anchors path) own is in
        let here : lower_of before (if b then None else Some (reason_of path)) ≡ reason_with dig anchors before
        (NeedsAnchor key ∷ path ∷ []) =
        ap (λ (t : Bool). lower_of before (if t then None else Some (reason_of path))) same
        ∙ ap (lower_of before) (sym (lower-none (if passes dig anchors path then None else Some (reason_of path))))
        ∙ rw some refl in
        here ∙ onto

  -- a step under an anchor, of which this was found before the anchor
  module _ (part : ℕ) (at : Part) (before : Option Reason)
      (was : before ≡ reason_with dig anchors None (InOrder at.step at.top ∷ [])) where
    abbrev path_under : Check
    path_under = PathOf part at (AtAnchor (top_of at))

    pub under-not_held : anchor_at anchors (top_of at) ≡ None
        → lower_of before (Some (NotHeld at.service at.top)) ≡ found_in dig anchors (under_anchor part at)
    under-not_held = found-not_held None before (InOrder at.step at.top) (top_of at) path_under (Reaches dig at)
        (passes-is dig anchors path_under) was

    pub under-held : (anchor : Thread) (b : Bool) → anchor_at anchors (top_of at) ≡ Some anchor
        → Decides b (Reaches dig at anchor.auth)
        → lower_of before (if b then None else Some (BadPath part)) ≡ found_in dig anchors (under_anchor part at)
    under-held = found-held None before (InOrder at.step at.top) (top_of at) path_under (Reaches dig at)
        (passes-is dig anchors path_under) was

  -- three checks, one after another
  pub found-three : (found one two : Option Reason) (a b c : Check) → one ≡ reason_with dig anchors found (a ∷ [])
      → two ≡ reason_with dig anchors one (b ∷ [])
      → reason_with dig anchors two (c ∷ []) ≡ reason_with dig anchors found (a ∷ b ∷ c ∷ [])
  found-three found one two a b c first second =
      found-onto found two (a ∷ b ∷ []) (c ∷ []) (second ∙ found-onto found one (a ∷ []) (b ∷ []) first)

  -- two checks, and those behind them in two parts
  pub found-four : (found one two three : Option Reason) (a b : Check) (cs ds : List Check) → one ≡ reason_with dig
      anchors found (a ∷ []) → two ≡ reason_with dig anchors one (b ∷ [])
      → three ≡ reason_with dig anchors two cs → reason_with dig anchors three ds ≡ reason_with dig anchors found
      (a ∷ b ∷ (cs ++ ds))
  found-four found one two three a b cs ds first second third =
      found-onto two three cs ds third ∙ found-onto one two (b ∷ []) (cs ++ ds) second ∙ found-onto found one (a ∷ [])
      (b ∷ (cs ++ ds)) first
