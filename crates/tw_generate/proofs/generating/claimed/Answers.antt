use Rattle.std.proofs.Common.{◌≡◌, ◌∙◌, ◌+◌, List, ℕ, length, subst, sym}
use Rattle.tw_base.specs.history.History.{History}
use Rattle.tw_generate.specs.Summing.{IsClaimed, received_by}
use Rattle.tw_generate.proofs.Results.{if-ok, list-same}
use Rattle.tw_generate.proofs.generating.claimed.Goals as goal

-- how many threads the same histories received
as_many : (a b e x y z : History) → a ≡ x → b ≡ y → e ≡ z
    → length (received_by a) + length (received_by b) + length (received_by e)
    ≡ length (received_by x) + length (received_by y) + length (received_by z)
as_many a b e x y z p q r = λ j. length (received_by (p j)) + length (received_by (q j)) + length (received_by (r j))

pub returns : goal.returns
returns g c = λ t plays.
    let told = c.in_ok-histories.ensures t plays in
    let proved = c.in_ok-proof.ensures t told.0 told.2 told.3 in
    if-ok c.claims_of.result (λ claims is. (
      proved.0,
      subst (λ (bytes : List ℕ). IsClaimed g.H.Hasher.dig t c.args.rounds bytes) (sym is.0) proved.1,
      is.1 ∙ list-same _ _ _ _ _ _ told.1 told.2 told.3,
      is.2 ∙ as_many _ _ _ _ _ _ told.1 told.2 told.3,
    )) c.claims_of.ensures

pub export_all-requires : goal.export_all-requires
export_all-requires g c = let can = c.requires in (can.1, can.2.0)

pub claim-requires : goal.claim-requires
claim-requires g c =
    let can = c.requires in
    let told = c.in_ok-histories.ensures can.1 can.2.0 in
    (can.0, can.1, (told.0, can.2.1), told.2, told.3)
