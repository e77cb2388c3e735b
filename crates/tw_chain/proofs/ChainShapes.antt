-- The hops of a proof that fits: how many follow each, and the step that they come to.
use Rattle.std.proofs.Common.{◌≡◌, ℕ, suc, zero, ◌-◌, ◌<◌, ◌≤◌, List, [], ◌∷◌, length, refl, ap, arith}
use Rattle.std.specs.Prelude.{Some, None, slice_get}
use Rattle.tw_base.specs.declared.kinds.limits.TheConstants.{LAST_STEP}
use Rattle.tw_base.specs.format.Codecs.{EachFits, each, pair, seen}
use Rattle.tw_base.specs.history.EntryCodec.{entry_codec}
use Rattle.tw_base.proofs.lemmas.history.EntryCodecLaws.{entry-range}
use Rattle.tw_chain.specs.declared.proof.HopPart.{HopPart}
use Rattle.tw_chain.specs.Proofs.{following, hop_bytes, hop_codec, last_step}

-- so many hops
abbrev pub HopsFit : (count : ℕ) → List HopPart → Type 0
HopsFit count hops = EachFits hop_bytes hop_codec (following count) hops

hop-entry : (more : ℕ) (hop : HopPart) → (hop_codec more).Fits hop → entry_codec.Fits hop.entry
unfolding hop_codec seen pair
hop-entry more hop fits = fits.0

-- the hops come to a step within the limit
last_step-small : (step count : ℕ) (hops : List HopPart) → step ≤ LAST_STEP → HopsFit count hops
    → last_step step hops ≤ LAST_STEP
last_step-small step count [] small fits = small
last_step-small step zero (hop ∷ hops) small fits = let no : [] ≡ hop ∷ hops = fits in cc
last_step-small step (suc more) (hop ∷ hops) small fits =
    last_step-small hop.entry.thread.step more hops (entry-range hop.entry (hop-entry more hop fits.0)).0.1 fits.1

pub last_step-all : (step count : ℕ) (hops : List HopPart) → step ≤ LAST_STEP
    → (each hop_bytes hop_codec (following count)).Fits hops → last_step step hops ≤ LAST_STEP
unfolding each
last_step-all step count hops small fits = last_step-small step count hops small fits

-- that of the last one's thread
step-at : (step n : ℕ) (hops : List HopPart) (hop : HopPart) → length hops ≡ suc n → slice_get hops n ≡ Some hop
    → last_step step hops ≡ hop.entry.thread.step
step-at step n [] hop size at = let no : zero ≡ suc n = size in cc
step-at step zero (one ∷ []) hop size at = let same : Some one ≡ Some hop = at in let is : one ≡ hop = cc in
    ap (λ (h : HopPart). h.entry.thread.step) is
step-at step zero (one ∷ two ∷ hops) hop size at = absurd (omega (arith, size))
step-at step (suc n) (one ∷ hops) hop size at = step-at one.entry.thread.step n hops hop (omega (arith, size)) at

pub last_step-at : (step : ℕ) (hops : List HopPart) (hop : HopPart) → slice_get hops (length hops - 1) ≡ Some hop
    → last_step step hops ≡ hop.entry.thread.step
last_step-at step [] hop at = let no : None ≡ Some hop = at in cc
last_step-at step (one ∷ hops) hop at = step-at step (length (one ∷ hops) - 1) (one ∷ hops) hop (omega arith) at

-- how many follow each of so many
pub following-more : (n : ℕ) → 0 < n → following n ≡ (n - 1) ∷ following (n - 1)
following-more zero some = absurd (omega (arith, some))
following-more (suc n) some = let e : n ≡ suc n - 1 = omega arith in ap (λ m. m ∷ following m) e

pub following-none : (n : ℕ) → n ≤ 0 → following n ≡ []
following-none zero none = refl
following-none (suc n) none = absurd (omega (arith, none))
