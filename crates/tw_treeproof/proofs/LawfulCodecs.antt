-- The codecs of tree proofs are lawful; the greatest sizes of their words.
use Rattle.std.proofs.Common.{◌≡◌, ℕ, suc, ◌+◌, ◌-◌, ◌≤◌, List, length, refl, subst, arith}
use Rattle.tw_base.specs.declared.history.tree_proof.TreeProof.TheVariants.{Present}
use Rattle.tw_base.specs.format.Codecs.{Codec, many, number_codec, pair}
use Rattle.tw_base.proofs.lemmas.format.CodecLaws.{Lawful, lawful, lawful-by_kind, lawful-variant}
use Rattle.tw_base.proofs.lemmas.format.CodecSizes.{AtMost, at_most-by_kind, at_most-bytes, at_most-variant}
use Rattle.tw_base.proofs.lemmas.format.CodecSizes.{at_most-counted, at_most-many, at_most-number, at_most-pair}
use Rattle.tw_base.proofs.lemmas.format.CodecSizes.{at_most-seen}
use Rattle.tw_base.proofs.lemmas.history.EntryCodecLaws.{entry-lawful, entry-most}
use Rattle.tw_base.proofs.lemmas.format.TakeLaws.{ManyTaken}
use Rattle.tw_treeproof.specs.declared.limits.TheConstants.{MOST_ABOVE_ENTRY}
use Rattle.tw_treeproof.specs.Codecs.{PresentParts, ancestor_codec, gap_codec, parts_codec, parts_of, present_codec}

pub ancestor-lawful : Lawful ancestor_codec
unfolding ancestor_codec
ancestor-lawful = search (lawful, entry-lawful) depth 20

pub parts-lawful : (n : ℕ) → Lawful (parts_codec n)
parts-lawful n = search (lawful, ancestor-lawful) depth 20

pub parts-count : (n : ℕ) (t : PresentParts) → (parts_codec n).Fits t → length t.1.1 ≡ n
unfolding pair many
parts-count n t fits = fits.1.1.0

pub present-lawful : Lawful present_codec
unfolding present_codec
present-lawful =
    lawful-variant (λ t. Present t.0 t.1.0 t.1.1) parts_of _ (λ t. refl)
    (lawful-by_kind (λ (t : PresentParts). length t.1.1) (number_codec 1 0 MOST_ABOVE_ENTRY) parts_codec (search lawful)
    (λ n _. parts-lawful n) (λ n t _ fits. parts-count n t fits))

pub gap-lawful : Lawful gap_codec
unfolding gap_codec
gap-lawful = search (lawful, ancestor-lawful) depth 20

module _ {X : Type 0} where
  -- so many are left that one can be taken
  pub one_left : (c : Codec X) (bytes : List ℕ) (start n i at : ℕ) (xs : List X) → i + 1 ≤ n → ManyTaken c bytes start n
      (n - i) xs at → ManyTaken c bytes start n (suc (n - (i + 1))) xs at
  one_left c bytes start n i at xs l t = let P : ℕ → Type 0 = λ left. ManyTaken c bytes start n left xs at in
      subst P (let e : n - i ≡ suc (n - (i + 1)) = omega (arith, l) in e) t

-- ---- sizes

ancestor-most : AtMost ancestor_codec 96
unfolding ancestor_codec
ancestor-most = at_most-seen _ _ _ 96 (at_most-pair _ _ 64 32 entry-most (λ _ _. at_most-bytes 32))

pub present-most : AtMost present_codec 12257
unfolding present_codec number_codec
present-most =
    at_most-variant _ _ _ 12257 (at_most-by_kind _ _ parts_codec 1 12256 (at_most-number 1 0 MOST_ABOVE_ENTRY) (λ n f.
    at_most-pair _ _ 32 12224 (at_most-bytes 32) (λ _ _. at_most-pair _ _ 32 12192 (at_most-bytes 32) (λ _ _.
    at_most-many n 127 ancestor_codec 96 f.1 ancestor-most))))

pub gap-most : AtMost gap_codec 12289
unfolding gap_codec
gap-most = at_most-variant _ _ _ 12289 (at_most-counted 1 0 128 ancestor_codec 96 ancestor-most)
