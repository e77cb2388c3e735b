-- The codecs of root records are lawful, and what fits them.
use Rattle.std.proofs.Common.{◌≡◌, ℕ, ◌+◌, ◌<◌, ◌≤◌, ◌^◌, ◌++◌, List, length, refl, ap, sym, ◌∙◌, subst, arith, Bool}
use Rattle.std.proofs.Common.{true, false, length-append}
use Rattle.std.specs.Prelude.{Option, Some, None, is_some, ◌==◌, if◌then◌else◌}
use Rattle.tw_base.specs.declared.kinds.limits.TheConstants.{LAST_STEP}
use Rattle.tw_base.specs.format.Codecs.{HasBytes, bytes_codec, name_codec, nothing, number_codec, optional, pair}
use Rattle.tw_base.specs.format.Codecs.{present, seen}
use Rattle.tw_base.specs.format.Fields.{number_bytes}
use Rattle.tw_base.specs.history.HistoryCodec.{time_codec}
use Rattle.tw_base.specs.history.Limits.{IsTimeWithinLimits}
use Rattle.tw_base.specs.kinds.Names.{IsName}
use Rattle.tw_base.proofs.lemmas.format.CodecLaws.{Lawful, lawful}
use Rattle.tw_base.proofs.lemmas.format.NumberLaws.{length-number_bytes}
use Rattle.tw_base.proofs.lemmas.format.TakeLaws.{word-once}
use Rattle.tw_base.proofs.lemmas.kinds.Naming.{IsName-size}
use Rattle.tw_answers.specs.declared.root.RootRecord.{RootRecord}
use Rattle.tw_answers.specs.Roots.{IsAllowed, root_bytes, root_codec}

pub root-lawful : (is_timed : Bool) → Lawful (root_codec is_timed)
unfolding root_codec
root-lawful is_timed = search lawful depth 30

-- ---- the time

time-fits : (time : Option ℕ) → IsTimeWithinLimits time → (optional (is_some time) time_codec).Fits time
unfolding nothing present number_codec
time-fits None within = refl
time-fits (Some time) within = (omega arith, within)

time-is : (is_timed : Bool) (time : Option ℕ) → (optional is_timed time_codec).Fits time → is_some time ≡ is_timed
unfolding nothing present
time-is true None fits = absurd fits
time-is true (Some time) fits = refl
time-is false None fits = refl
time-is false (Some time) fits = cc

time-within : (is_timed : Bool) (time : Option ℕ) → (optional is_timed time_codec).Fits time → IsTimeWithinLimits time
unfolding nothing present number_codec
time-within true None fits = absurd fits
time-within true (Some time) fits = fits.1
time-within false None fits = tt
time-within false (Some time) fits = cc

abbrev time_size : Bool → ℕ
time_size true = 8
time_size false = 0

sizes : (is_timed : Bool) → 112 + time_size is_timed ≡ (if is_timed then 120 else 112)
sizes true = refl
sizes false = refl

time-size : (is_timed : Bool) (time : Option ℕ) → (optional is_timed time_codec).Fits time
    → length ((optional is_timed time_codec).write time) ≡ time_size is_timed
unfolding nothing present number_codec
time-size true None fits = absurd fits
time-size true (Some time) fits = length-number_bytes 8 time
time-size false time fits = refl

-- ---- the record

pub root-fits : (r : RootRecord) → IsName r.name → r.head.step ≤ LAST_STEP → HasBytes 32 r.head.auth
    → r.head.page < 2 ^ 64 → r.archive.page < 2 ^ 64 → HasBytes 32 r.archive.label → r.threads ≤ LAST_STEP
    → IsTimeWithinLimits r.time → (root_codec (is_some r.time)).Fits r
unfolding root_codec seen pair name_codec number_codec bytes_codec
root-fits r name short auth page archive label threads within = (
  name,
  (
    (omega arith, short),
    (
      auth,
      (
        (omega arith, omega (arith, page)),
        ((omega arith, omega (arith, archive)), (label, ((omega arith, threads), time-fits r.time within))),
      ),
    ),
  ),
)

module _ (is_timed : Bool) (r : RootRecord) (fits : (root_codec is_timed).Fits r) where
  pub root-name : IsName r.name
  unfolding root_codec seen pair name_codec
  root-name = fits.0

  pub root-short : r.head.step ≤ LAST_STEP
  unfolding root_codec seen pair number_codec
  root-short = fits.1.0.1

  -- a record has a time where the codec has one
  pub root-timed : is_some r.time ≡ is_timed
  unfolding root_codec seen pair
  root-timed = time-is is_timed r.time fits.1.1.1.1.1.1.1

  pub root-time : IsTimeWithinLimits r.time
  unfolding root_codec seen pair
  root-time = time-within is_timed r.time fits.1.1.1.1.1.1.1

  root-size : length ((root_codec is_timed).write r) ≡ 112 + time_size is_timed
  unfolding root_codec seen pair name_codec number_codec bytes_codec
  root-size =
      let time : List ℕ = (optional is_timed time_codec).write r.time in
      let threads : List ℕ = number_bytes 8 r.threads ++ time in
      let label : List ℕ = r.archive.label ++ threads in
      let archive : List ℕ = number_bytes 8 r.archive.page ++ label in
      let page : List ℕ = number_bytes 8 r.head.page ++ archive in
      let auth : List ℕ = r.head.auth ++ page in
      let step : List ℕ = number_bytes 8 r.head.step ++ auth in
      omega (
        arith,
        length-append r.name step,
        length-append (number_bytes 8 r.head.step) auth,
        length-append r.head.auth page,
        length-append (number_bytes 8 r.head.page) archive,
        length-append (number_bytes 8 r.archive.page) label,
        length-append r.archive.label threads,
        length-append (number_bytes 8 r.threads) time,
        IsName-size r.name fits.0,
        length-number_bytes 8 r.head.step,
        fits.1.1.0.0,
        length-number_bytes 8 r.head.page,
        length-number_bytes 8 r.archive.page,
        fits.1.1.1.1.1.0.0,
        length-number_bytes 8 r.threads,
        time-size is_timed r.time fits.1.1.1.1.1.1.1,
      )

pub root-sizes : (is_timed : Bool) (r : RootRecord) → (root_codec is_timed).Fits r
    → length ((root_codec is_timed).write r) ≡ (if is_timed then 120 else 112)
root-sizes is_timed r fits = root-size is_timed r fits ∙ sizes is_timed

-- the length of bytes tells whether they are a record with a time
of_size : (is_timed : Bool) (n : ℕ) → n ≡ 112 + time_size is_timed → (n == 120) ≡ is_timed
of_size true n is = ap (λ (k : ℕ). k == 120) is
of_size false n is = ap (λ (k : ℕ). k == 120) is

pub timed-length : (bytes : List ℕ) (r : RootRecord) → bytes ≡ root_bytes r → (root_codec (is_some r.time)).Fits r
    → (length bytes == 120) ≡ is_some r.time
timed-length bytes r is fits = of_size (is_some r.time) (length bytes) (ap length is ∙ root-size (is_some r.time) r
    fits)

-- a record by the codec of its own time
pub by_timed : (is_timed : Bool) (r : RootRecord) → is_some r.time ≡ is_timed → (root_codec is_timed).Fits r
    → (root_codec (is_some r.time)).Fits r
by_timed is_timed r is fits = subst (λ (b : Bool). (root_codec b).Fits r) (sym is) fits

-- bytes are one root record at most
pub root_once : (used generation : ℕ) (bytes : List ℕ) (r other : RootRecord) → bytes ≡ root_bytes r
    → IsAllowed used generation r → bytes ≡ root_bytes other → IsAllowed used generation other → r ≡ other
root_once used generation bytes r other is allowed also others =
    let timed : Bool = is_some r.time in
    let same : is_some other.time ≡ timed = sym (timed-length bytes other also others.spelled) ∙ timed-length bytes r is
    allowed.spelled in
    word-once (root_codec timed) (root-lawful timed) bytes r other is allowed.spelled
    (also ∙ ap (λ (b : Bool). (root_codec b).write other) same) (subst (λ (b : Bool). (root_codec b).Fits other) same
    others.spelled)
