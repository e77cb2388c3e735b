-- The codecs of root records and of head pages are lawful, and what fits them.
use Rattle.std.proofs.Common.{◌≡◌, ℕ, ◌<◌, ◌≤◌, ◌^◌, ◌++◌, List, length, arith, length-append}
use Rattle.tw_base.specs.declared.kinds.limits.TheConstants.{LAST_STEP}
use Rattle.tw_base.specs.format.Codecs.{HasBytes, behind, bytes_codec, name_codec, number_codec, pair, seen}
use Rattle.tw_base.specs.format.Fields.{number_bytes}
use Rattle.tw_base.specs.history.Limits.{IsStep}
use Rattle.tw_base.specs.kinds.Names.{IsName}
use Rattle.tw_base.proofs.lemmas.format.CodecLaws.{Lawful, lawful}
use Rattle.tw_base.proofs.lemmas.format.NumberLaws.{length-number_bytes}
use Rattle.tw_base.proofs.lemmas.format.TakeLaws.{word-once}
use Rattle.tw_base.proofs.lemmas.kinds.Naming.{IsName-size}
use Rattle.tw_follow.specs.declared.head_page.HeadPage.{HeadPage}
use Rattle.tw_follow.specs.declared.root.RootRecord.{RootRecord}
use Rattle.tw_follow.specs.HeadPages.{head_codec}
use Rattle.tw_follow.specs.Roots.{root_bytes, root_codec}

pub root-lawful : Lawful root_codec
unfolding root_codec
root-lawful = search lawful depth 30

pub head-lawful : Lawful head_codec
unfolding head_codec
head-lawful = search lawful depth 20

-- ---- root records

pub root-fits : (r : RootRecord) → IsName r.head.from → r.head.step ≤ LAST_STEP → HasBytes 32 r.head.auth
    → r.page < 2 ^ 64 → root_codec.Fits r
unfolding root_codec seen pair name_codec number_codec bytes_codec
root-fits r name short auth page = (name, ((omega arith, short), (auth, (omega arith, omega (arith, page)))))

module _ (r : RootRecord) (fits : root_codec.Fits r) where
  pub root-short : r.head.step ≤ LAST_STEP
  unfolding root_codec seen pair number_codec
  root-short = fits.1.0.1

  pub root-size : length (root_codec.write r) ≡ 64
  unfolding root_codec seen pair name_codec number_codec bytes_codec
  root-size =
      let page : List ℕ = number_bytes 8 r.page in
      let auth : List ℕ = r.head.auth ++ page in
      let step : List ℕ = number_bytes 8 r.head.step ++ auth in
      omega (
        arith,
        length-append r.head.from step,
        length-append (number_bytes 8 r.head.step) auth,
        length-append r.head.auth page,
        IsName-size r.head.from fits.0,
        length-number_bytes 8 r.head.step,
        fits.1.1.0.0,
        length-number_bytes 8 r.page,
      )

-- bytes are one root record at most
pub root-once : (bytes : List ℕ) (r other : RootRecord) → bytes ≡ root_bytes r → root_codec.Fits r
    → bytes ≡ root_bytes other → root_codec.Fits other → r ≡ other
root-once bytes r other is fits also others = word-once root_codec root-lawful bytes r other is fits also others

-- ---- head pages

pub head-fits : (p : HeadPage) → IsStep p.step → HasBytes 32 p.auth → p.before < 2 ^ 64 → head_codec.Fits p
unfolding head_codec seen behind pair number_codec bytes_codec
head-fits p step auth before = ((omega (arith, step.0), step.1), (auth, (omega arith, omega (arith, before))))

pub head-step : (p : HeadPage) → head_codec.Fits p → 0 < p.step
unfolding head_codec seen behind pair number_codec
head-step p fits = omega (arith, fits.0.0)
