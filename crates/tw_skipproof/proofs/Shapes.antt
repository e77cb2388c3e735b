-- What fits the codecs has the links, labels and ranges that climbing and checking ask for, and few bytes.
use Rattle.std.proofs.Common.{◌≡◌, ℕ, ◌+◌, ◌-◌, ◌*◌, ◌<◌, ◌≤◌, ◌^◌, List, [], ◌∷◌, ◌++◌, length, flat_map, arith, inl}
use Rattle.std.proofs.Common.{inr}
use Rattle.std.specs.Prelude.{Bool, true, false, Option, Some, None}
use Rattle.std.proofs.lemmas.Bool.{cases_lt}
use Rattle.std.proofs.lemmas.List.{length-append}
use Rattle.tw_base.specs.declared.kinds.limits.TheConstants.{LAST_STEP, MOST_EVENTS}
use Rattle.tw_base.specs.format.Codecs.{EachFits, behind, by_kind, bytes_codec, each, labels_codec, nothing}
use Rattle.tw_base.specs.format.Codecs.{number_codec, optional, pair, present, seen, sized_codec, written, many}
use Rattle.tw_base.specs.format.Fields.{number_bytes}
use Rattle.tw_base.specs.history.HistoryCodec.{time_codec}
use Rattle.tw_base.specs.history.Limits.{IsTimeWithinLimits}
use Rattle.tw_base.specs.kinds.Texts.{joined}
use Rattle.tw_base.proofs.lemmas.events.AuditPaths.{path_length-le}
use Rattle.tw_base.proofs.lemmas.format.CodecSizes.{AtMost, at_most-behind, at_most-bytes, at_most-labels, at_most-name}
use Rattle.tw_base.proofs.lemmas.format.CodecSizes.{at_most-number, at_most-pair, at_most-seen, at_most-sized}
use Rattle.tw_base.proofs.lemmas.format.CodecSizes.{length-joined}
use Rattle.tw_base.proofs.lemmas.format.NumberLaws.{length-number_bytes}
use Rattle.tw_base.proofs.lemmas.kinds.Levels.{top_level-below}
use Rattle.tw_skipproof.specs.declared.path.Link.{Link}
use Rattle.tw_skipproof.specs.declared.existence.ExistenceProof.{ExistenceProof}
use Rattle.tw_skipproof.specs.declared.existence.Part.{Part}
use Rattle.tw_skipproof.specs.Codecs.{count_bytes, count_codec, event_part_codec, existence_body, existence_codec}
use Rattle.tw_skipproof.specs.Codecs.{link_bytes, link_codec, opening_codec, part_codec, path_codec}
use Rattle.tw_skipproof.specs.Existence.{IsExistenceInRange, IsPartInRange, IsPartShaped, IsShaped}
use Rattle.tw_skipproof.specs.Paths.{HasShape, greedy_steps, hop}
use Rattle.tw_skipproof.proofs.GreedySteps.{greedy_steps-more, greedy_steps-none}
use Rattle.tw_skipproof.proofs.LawfulCodecs.{part-counts}
use Rattle.tw_skipproof.proofs.PathSizes.{few_digests, weight}

pub path-shape : (links : List Link) (from to : ℕ) → EachFits link_bytes link_codec (greedy_steps from to) links
    → HasShape links from to
unfolding link_codec seen pair labels_codec many bytes_codec
path-shape [] from to fits =
    elim (cases_lt to from) [ inr none ↦ none | inl more ↦ absurd (rw (greedy_steps-more from to more) at fits) ]
path-shape (l ∷ links) from to fits =
    elim (cases_lt to from) [
      | inr none ↦ (let no : [] ≡ l ∷ links = rw (greedy_steps-none from to none) at fits in cc)
      | inl more ↦ (let parts = rw (greedy_steps-more from to more) at fits in
          (more, parts.0.1.0, path-shape links (hop from to) to parts.1))
    ]

time-range : (timed : Bool) (time : Option ℕ) → (optional timed time_codec).Fits time → IsTimeWithinLimits time
unfolding present nothing number_codec
time-range true None fits = tt
time-range true (Some t) fits = fits.1
time-range false None fits = tt
time-range false (Some t) fits = cc

pub part-shape : (least : ℕ) (p : Part) → (part_codec least).Fits p → IsPartShaped p × IsPartInRange p
unfolding part_codec opening_codec count_codec path_codec written by_kind each pair seen number_codec labels_codec many
part-shape least p fits =
    let step = fits.1.0 in
    let top = fits.1.1.0 in
    let opening = fits.1.1.1.1 in (
      record {
        step = step.0;
        top = top.0;
        path = path-shape p.path.links p.top p.step fits.1.1.1.0;
        opening = opening.1.1.1.1.0;
      },
      record {
        step = step.1;
        top = top.1;
        count = opening.1.1.0.1.0.1;
        time = time-range _ p.opening.time opening.1.1.0.1.1;
      },
    )

pub existence-shape : (p : ExistenceProof) → existence_codec.Fits p → IsShaped p × IsExistenceInRange p
unfolding existence_codec existence_body event_part_codec by_kind behind pair seen number_codec sized_codec labels_codec many
existence-shape p fits =
    let at = part-shape 1 p.at fits.0 in
    let some = (part-counts 1 p.at fits.0).0 in
    let event = fits.1 in (
      record { at = at.0; event = event.1.1.0 },
      record { at = at.1; index = omega (arith, event.0.1, some); event = event.1.0.0.1 },
    )

-- ---- sizes

count-most : (least : ℕ) → AtMost (count_codec least) 12
unfolding count_codec written
count-most least c fits = by c.0 c.1
  where
    by : (n : ℕ) (time : Option ℕ) → length (count_bytes n time) ≤ 12
    by n None = omega (arith, length-number_bytes 4 n)
    by n (Some t) =
        omega (
          arith,
          length-number_bytes 4 (n + 2 ^ 31),
          length-number_bytes 8 t,
          length-append (number_bytes 4 (n + 2 ^ 31)) (number_bytes 8 t),
        )

pub opening-most : (least step : ℕ) → step ≤ LAST_STEP → AtMost (opening_codec least step) 1356
unfolding opening_codec
opening-most least step l =
    at_most-seen _ _ _ 1356 (at_most-pair _ _ 32 1324 (at_most-bytes 32)
    (λ _ _. at_most-pair _ _ 32 1292 (at_most-bytes 32) (λ _ _.
    at_most-pair _ _ 12 1280 (count-most least) (λ _ _. at_most-pair _ _ 32 1248 (at_most-bytes 32) (λ _ _.
    at_most-labels _ 39 (omega (arith, top_level-below step (omega (arith, l)))))))))

pub event-most : (count : ℕ) → count ≤ MOST_EVENTS → AtMost (event_part_codec count) 1352
unfolding event_part_codec number_codec
event-most count few =
    at_most-seen _ _ _ 1352 (at_most-pair _ _ 4 1348 (at_most-number 4 0 (count - 1)) (λ index f.
    at_most-pair _ _ 1028 320 (at_most-sized 4 0 1024)
    (λ _ _. at_most-labels _ 10 (path_length-le 10 count index few))))

links-weight : (steps : List ℕ) (links : List Link) → EachFits link_bytes link_codec steps links
    → length (flat_map link_bytes links) ≡ 32 * weight links
unfolding link_bytes link_codec seen pair bytes_codec labels_codec many
links-weight [] [] fits = omega arith
links-weight [] (l ∷ links) fits = cc
links-weight (step ∷ steps) [] fits = absurd fits
links-weight (step ∷ steps) (l ∷ links) fits =
    omega (
      arith,
      length-append (l.datum ++ joined l.others) (flat_map link_bytes links),
      length-append l.datum (joined l.others),
      fits.0.0.0,
      length-joined l.others fits.0.1.1,
      links-weight steps links fits.1,
    )

pub path-most : (from to : ℕ) → from < 2 ^ 40 → AtMost (path_codec from to) 53760
unfolding path_codec each
path-most from to small links fits =
    omega (
      arith,
      links-weight (greedy_steps from to) links fits,
      few_digests links from to small (path-shape links from to fits),
    )

pub part-most : (least : ℕ) → AtMost (part_codec least) 55148
unfolding part_codec number_codec
part-most least =
    at_most-seen _ _ _ 55148 (at_most-pair _ _ 16 55132 at_most-name (λ _ _.
    at_most-pair _ _ 8 55124 (at_most-number 8 1 LAST_STEP)
    (λ step s. at_most-pair _ _ 8 55116 (at_most-number 8 1 LAST_STEP) (λ top t.
    at_most-pair _ _ 53760 1356 (path-most top step (omega (arith, t.1))) (λ _ _. opening-most least step s.1)))))

pub existence-most : AtMost existence_codec 56505
unfolding existence_codec existence_body
existence-most =
    at_most-behind _ _ 56500 (at_most-seen _ _ _ 56500 (at_most-pair _ _ 55148 1352 (part-most 1)
    (λ at f. event-most at.opening.count (part-counts 1 at f).1)))
