-- The bytes of files hold one list of hops at most, or have one first file of which a byte is bad; and from a start
-- there is one atlas of the hops.
use Rattle.std.proofs.Common.{◌≡◌, ◌∙◌, ℕ, List, [], ◌∷◌, ◌++◌, map, ap, sym, subst, inl, inr}
use Rattle.std.specs.Prelude.{Ok, Err}
use Rattle.tw_base.specs.declared.history.report.Hop.{Hop}
use Rattle.tw_base.specs.declared.history.thread.Key.{Key}
use Rattle.tw_base.specs.declared.kinds.failure.ReadFault.TheVariants.{Malformed}
use Rattle.tw_atlas.specs.Earliest.{IsAtlasPlanned}
use Rattle.tw_atlas.specs.ReceiptFiles.{AddsHops, receipt_hop, room}
use Rattle.tw_atlas.proofs.ArrivalLaws.{one-atlas}
use Rattle.tw_atlas.proofs.ReceiptFileLaws.{one-list, one-place}
use Rattle.tw_msg.specs.declared.receipt.Receipt.{Receipt}
use Rattle.tw_reachcmd.specs.declared.atlas.Planned.{Planned}
use Rattle.tw_reachcmd.specs.Atlas.{AreHops, HasBadReceipts}

-- ---- one file

module _ (bytes : List ℕ) (before : List Hop) where
  adds_once : (one other : List Hop) → AddsHops bytes before one (Ok tt) → AddsHops bytes before other (Ok tt)
      → one ≡ other
  adds_once one other is also =
      is.2 ∙ ap (λ (receipts : List Receipt). before ++ map receipt_hop receipts)
      (one-list (room before) (room before) bytes is.0 also.0 is.1 also.1) ∙ sym also.2

  adds_not_bad : (after : List Hop) (place : ℕ) → AddsHops bytes before after (Ok tt) → AddsHops bytes before before
      (Err (Malformed place)) → ⊥
  adds_not_bad after place is bad = bad.0 is.0 is.1

  bad_once : (p q : ℕ) → AddsHops bytes before before (Err (Malformed p)) → AddsHops bytes before before
      (Err (Malformed q)) → p ≡ q
  bad_once p q one other = one-place (room before) bytes p q one.1 other.1

-- ---- all files

pub hops_once : (before : List Hop) (all : List (List ℕ)) (one other : List Hop) → AreHops before all one
    → AreHops before all other → one ≡ other
hops_once before [] one other is also = is ∙ sym also
hops_once before (bytes ∷ all) one other is also =
    let same : also.0 ≡ is.0 = adds_once bytes before also.0 is.0 also.1 is.1 in
    hops_once is.0 all one other is.2 (subst (λ (hops : List Hop). AreHops hops all other) same also.2)

pub hops_not_bad : (before : List Hop) (files all : List (List ℕ)) (hops : List Hop) (named : List ℕ) (place : ℕ)
    → AreHops before all hops
    → HasBadReceipts before files all named place → ⊥
hops_not_bad before [] all hops named place are is = is
hops_not_bad before (file ∷ files) [] hops named place are is = is
hops_not_bad before (file ∷ files) (bytes ∷ all) hops named place are (inl is) = adds_not_bad bytes before are.0 place
    are.1 is.1
hops_not_bad before (file ∷ files) (bytes ∷ all) hops named place are (inr is) =
    let same : is.0 ≡ are.0 = adds_once bytes before is.0 are.0 is.1 are.1 in
    hops_not_bad are.0 files all hops named place are.2
    (subst (λ (next : List Hop). HasBadReceipts next files all named place) same is.2)

pub bad_receipts_once : (before : List Hop) (files all : List (List ℕ)) (named again : List ℕ) (p q : ℕ)
    → HasBadReceipts before files all named p
    → HasBadReceipts before files all again q → (named ≡ again) × (p ≡ q)
bad_receipts_once before [] all named again p q one other = absurd one
bad_receipts_once before (file ∷ files) [] named again p q one other = absurd one
bad_receipts_once before (file ∷ files) (bytes ∷ all) named again p q (inl one) (inl other) =
    (one.0 ∙ sym other.0, bad_once bytes before p q one.1 other.1)
bad_receipts_once before (file ∷ files) (bytes ∷ all) named again p q (inl one) (inr other) =
    absurd (adds_not_bad bytes before other.0 p other.1 one.1)
bad_receipts_once before (file ∷ files) (bytes ∷ all) named again p q (inr one) (inl other) =
    absurd (adds_not_bad bytes before one.0 q one.1 other.1)
bad_receipts_once before (file ∷ files) (bytes ∷ all) named again p q (inr one) (inr other) =
    let same : other.0 ≡ one.0 = adds_once bytes before other.0 one.0 other.1 one.1 in
    bad_receipts_once one.0 files all named again p q one.2
    (subst (λ (next : List Hop). HasBadReceipts next files all again q) same other.2)

-- ---- the atlas

pub planned_once : (start : Key) (hops : List Hop) (x y : Planned) → x.start ≡ start → y.start ≡ start
    → IsAtlasPlanned hops start x.atlas → IsAtlasPlanned hops start y.atlas → x ≡ y
planned_once start hops x y from also one other =
    let starts = from ∙ sym also in
    let legs = one.legs ∙ sym other.legs in
    let atlases : x.atlas ≡ y.atlas = one-atlas start x.atlas y.atlas one.is_atlas.arrivals other.is_atlas.arrivals
    legs in
    λ i. record { start = starts i; atlas = atlases i }
