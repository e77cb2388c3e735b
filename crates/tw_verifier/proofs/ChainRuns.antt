-- A chain and the hops that are left of it, of which the last in the list is taken next.
use Rattle.std.proofs.Common.{◌≡◌, ℕ, suc, zero, ◌-◌, ◌<◌, ◌≤◌, List, [], ◌∷◌, ◌++◌, ap, ◌∙◌, subst, arith}
use Rattle.std.specs.Prelude.{reverse}
use Rattle.std.proofs.lemmas.List.{reverse-append}
use Rattle.tw_base.specs.declared.history.thread.Thread.{Thread}
use Rattle.tw_base.specs.declared.kinds.limits.TheConstants.{LAST_STEP}
use Rattle.tw_base.specs.format.Codecs.{EachFits, number_codec, pair, seen}
use Rattle.tw_chain.specs.declared.proof.HopPart.{HopPart}
use Rattle.tw_chain.specs.declared.proof.Tail.{Tail}
use Rattle.tw_chain.specs.Proofs.{following, hop_bytes, hop_codec}
use Rattle.tw_verifier.specs.declared.chain.Chain.{Chain}
use Rattle.tw_verifier.specs.Chaining.{closed, with_hop}
use Rattle.tw_verifier.proofs.ChainSteps.{closed-hop}
use Rattle.tw_verifier.proofs.StageLaws.{entry-within}

-- the steps of a hop that fits
pub hop-within : (more : ℕ) (hop : HopPart) → (hop_codec more).Fits hop
    → (hop.entry.thread.step ≤ LAST_STEP) × (hop.bind ≤ LAST_STEP)
unfolding hop_codec seen pair number_codec
hop-within more hop fits = (entry-within hop.entry fits.0, fits.1.1.0.1)

-- so many hops fit
abbrev pub AreLeft : (more : ℕ) → List HopPart → Type 0
AreLeft more hops = EachFits hop_bytes hop_codec (following more) hops

first-left : (more : ℕ) (hop : HopPart) (hops : List HopPart) → AreLeft more (hop ∷ hops)
    → (0 < more) × ((hop_codec (more - 1)).Fits hop × AreLeft (more - 1) hops)
first-left zero hop hops fits = let no : [] ≡ hop ∷ hops = fits in cc
first-left (suc n) hop hops fits =
    let same : n ≡ suc n - 1 = omega arith in
    let P : ℕ → Type 0 = λ m. (hop_codec m).Fits hop × AreLeft m hops in
    (omega arith, subst P same (fits.0, fits.1))

module _ (c : Chain) (old new : List HopPart) (hop : HopPart) (is : old ≡ new ++ hop ∷ [])
    (fits : AreLeft c.more (reverse old)) where
  turned : reverse old ≡ hop ∷ reverse new
  turned = ap reverse is ∙ reverse-append new (hop ∷ [])

  parts : (0 < c.more) × ((hop_codec (c.more - 1)).Fits hop × AreLeft (c.more - 1) (reverse new))
  parts = first-left c.more hop (reverse new) (subst (AreLeft c.more) turned fits)

  pub some : 0 < c.more
  some = parts.0

  pub within : (hop.entry.thread.step ≤ LAST_STEP) × (hop.bind ≤ LAST_STEP)
  within = hop-within (c.more - 1) hop parts.1.0

  pub left : AreLeft (c.more - 1) (reverse new)
  left = parts.1.1

  -- it comes to the same with the next one taken
  pub closes : (dig : List ℕ → List ℕ) (anchors : List Thread) (tail : Tail) → closed dig anchors c (reverse old) tail
      ≡ closed dig anchors (with_hop dig anchors c hop (c.more - 1)) (reverse new) tail
  closes dig anchors tail =
      ap (λ (hs : List HopPart). closed dig anchors c hs tail) turned ∙ closed-hop dig anchors c hop (reverse new) tail
      (c.more - 1)
