-- The codecs of openings, paths and existence proofs are lawful.
use Rattle.std.proofs.Common.{◌≡◌, ℕ, ◌≤◌, List, [], ◌∷◌, ◌++◌, length, subst, refl, ap, sym, ◌∙◌, arith, lit≤}
use Rattle.std.specs.Prelude.{Bool, true, false, Option, Some, None, is_some, OnOk, Result, Ok, Err}
use Rattle.std.proofs.lemmas.List.{append-nil}
use Rattle.tw_base.specs.declared.kinds.limits.TheConstants.{MOST_EVENTS}
use Rattle.tw_base.specs.format.Codecs.{EachFits, behind, by_kind, digest_codec, each, flag_codec, labels_codec}
use Rattle.tw_base.specs.format.Codecs.{name_codec, nothing, number_codec, optional, pair, present, seen, written}
use Rattle.tw_base.specs.format.Codecs.{bytes_codec, many}
use Rattle.tw_base.specs.format.Fields.{number_bytes}
use Rattle.tw_base.specs.history.HistoryCodec.{time_codec}
use Rattle.tw_base.specs.history.Limits.{IsTimeWithinLimits}
use Rattle.tw_base.specs.kinds.Lists.{Each}
use Rattle.tw_base.specs.declared.kinds.failure.NoMemory.{NoMemory as WantOfMemory}
use Rattle.tw_base.specs.kinds.Names.{IsName}
use Rattle.tw_base.specs.format.Taking.{Puts}
use Rattle.tw_base.proofs.lemmas.format.CodecLaws.{Lawful, lawful, lawful-by_kind, lawful-each, lawful-flag}
use Rattle.tw_base.proofs.lemmas.format.CodecLaws.{lawful-optional, lawful-pair, lawful-seen, lawful-written}
use Rattle.tw_skipproof.specs.declared.opening.Opening.{Opening}
use Rattle.tw_skipproof.specs.declared.path.Link.{Link}
use Rattle.tw_skipproof.specs.declared.existence.ExistenceProof.{ExistenceProof}
use Rattle.tw_skipproof.specs.declared.existence.Part.{Part}
use Rattle.tw_skipproof.specs.Codecs.{count_bytes, count_codec, counted_with, event_part_codec, existence_body}
use Rattle.tw_skipproof.specs.Codecs.{existence_codec, flagged_count, link_bytes, link_codec, opening_codec, part_codec}
use Rattle.tw_skipproof.specs.Codecs.{path_codec}
use Rattle.tw_skipproof.specs.Existence.{IsExistenceInRange, IsShaped}
use Rattle.tw_skipproof.specs.Paths.{HasShape, greedy_steps, hop}
use Rattle.tw_skipproof.specs.Spelling.{FitsAsEvent, FitsAsLink, FitsAsOpening, FitsAsPart}
use Rattle.tw_skipproof.proofs.CountWords.{timed_word, untimed_word}
use Rattle.tw_skipproof.proofs.GreedySteps.{greedy_steps-more, greedy_steps-none}

-- the count word: four bytes of which the highest bit says whether a time follows
count-written : (least : ℕ) (c : ℕ × Option ℕ) → (flagged_count least).Fits c → (flagged_count least).write c
    ≡ count_bytes c.0 c.1
unfolding by_kind flag_codec pair number_codec present nothing
count-written least c fits = by c.0 c.1 fits
  where
    by : (n : ℕ) (time : Option ℕ) → (flagged_count least).Fits (n, time) → (flagged_count least).write (n, time)
        ≡ count_bytes n time
    by n None fits = ap (λ w. 0 ∷ w) (append-nil (number_bytes 3 n)) ∙ sym (untimed_word n (omega (arith, fits.1.0.1)))
    by n (Some time) fits = ap (λ w. w ++ number_bytes 8 time) (sym (timed_word n (omega (arith, fits.1.0.1))))

pub count-kind : (least : ℕ) (timed : Bool) (c : ℕ × Option ℕ) → (counted_with least timed).Fits c → is_some c.1 ≡ timed
unfolding pair nothing present
count-kind least true c fits = by c.1 fits.1
  where
    by : (time : Option ℕ) → (present time_codec).Fits time → is_some time ≡ true
    by None fits = absurd fits
    by (Some t) fits = refl
count-kind least false c fits = ap is_some (sym fits.1)

flagged-lawful : (least : ℕ) → least ≤ MOST_EVENTS → Lawful (flagged_count least)
flagged-lawful least l =
    lawful-by_kind (λ c. is_some c.1) flag_codec (counted_with least) lawful-flag
    (λ timed _. lawful-pair (number_codec 3 least MOST_EVENTS) (λ n. optional timed time_codec) (search lawful)
    (λ _ _. lawful-optional time_codec (search lawful) timed))
    (λ timed c _ fits. count-kind least timed c fits)

pub count-lawful : (least : ℕ) → least ≤ MOST_EVENTS → Lawful (count_codec least)
unfolding count_codec
count-lawful least l = lawful-written (λ c. count_bytes c.0 c.1) (flagged_count least) (count-written least)
    (flagged-lawful least l)

-- a count and a time in range fit
pub count-fits : (least count : ℕ) (time : Option ℕ) → least ≤ count → count ≤ MOST_EVENTS → IsTimeWithinLimits time
    → (count_codec least).Fits (count, time)
unfolding count_codec written by_kind flag_codec pair number_codec present nothing
count-fits least count None low few small = (tt, ((low, few), refl))
count-fits least count (Some t) low few small = (tt, ((low, few), (omega arith, small)))

-- an opening whose digests were written fits where its labels, its count and its time do
pub opening-put : (o : Opening) (before after : List ℕ) (r : Result (Unit {0}) WantOfMemory)
    → digest_codec.Fits o.event_root → digest_codec.Fits o.archive_root → digest_codec.Fits o.prev
    → Puts (labels_codec (length o.others)) o.others before after r → OnOk r (FitsAsOpening o)
unfolding opening_codec seen pair
opening-put o before after (Ok done) root archive prev put = λ least step labels low few time.
    let P : ℕ → Type 0 = λ n. (labels_codec n).Fits o.others in
    (root, (archive, (count-fits least o.count o.time low few time, (prev, subst P labels put.1))))
opening-put o before after (Err fault) root archive prev put = tt

pub opening-lawful : (least step : ℕ) → least ≤ MOST_EVENTS → Lawful (opening_codec least step)
unfolding opening_codec
opening-lawful least step l = search (lawful, count-lawful) depth 20

pub opening-few : (least step : ℕ) (o : Opening) → (opening_codec least step).Fits o → o.count ≤ MOST_EVENTS
unfolding opening_codec count_codec written by_kind seen pair number_codec
opening-few least step o fits = fits.1.1.0.1.0.1

pub link-lawful : (step : ℕ) → Lawful (link_codec step)
unfolding link_codec
link-lawful step = search lawful depth 20

pub path-lawful : (from to : ℕ) → Lawful (path_codec from to)
unfolding path_codec link_bytes link_codec seen pair labels_codec many bytes_codec
path-lawful from to = lawful-each link_bytes link_codec link-lawful (λ step l fits. refl) (greedy_steps from to)

pub event-lawful : (count : ℕ) → count ≤ MOST_EVENTS → Lawful (event_part_codec count)
unfolding event_part_codec
event-lawful count few = search (lawful, arith) depth 20

pub part-lawful : (least : ℕ) → least ≤ MOST_EVENTS → Lawful (part_codec least)
unfolding part_codec
part-lawful least l =
    let last = λ (step : ℕ). opening-lawful least step l in
    search (lawful, path-lawful, last) depth 20

-- the counts of a part that fits
pub part-counts : (least : ℕ) (p : Part) → (part_codec least).Fits p → (least ≤ p.opening.count)
    × (p.opening.count ≤ MOST_EVENTS)
unfolding part_codec opening_codec count_codec written by_kind seen pair number_codec
part-counts least p fits = fits.1.1.1.1.1.1.0.1.0

pub body-lawful : Lawful existence_body
unfolding existence_body
body-lawful =
    lawful-seen _ _ _ (λ t. refl) (λ p. refl) (lawful-pair (part_codec 1) (λ at. event_part_codec at.opening.count)
    (part-lawful 1 (lit≤ tt))
    (λ at fits. event-lawful at.opening.count (part-counts 1 at fits).1))

pub existence-lawful : Lawful existence_codec
unfolding existence_codec
existence-lawful = search (lawful, body-lawful)

-- links of this shape fit the path
pub path-fits : (links : List Link) (from to : ℕ) → Each FitsAsLink links → HasShape links from to
    → EachFits link_bytes link_codec (greedy_steps from to) links
path-fits [] from to each shape = rw (greedy_steps-none from to shape) refl
path-fits (l ∷ links) from to each shape = rw (greedy_steps-more from to shape.0)
    (each.0 from shape.1, path-fits links (hop from to) to each.1 shape.2)

-- a part in range and of its shape fits
pub part-fits : (p : Part) → IsName p.service → Each FitsAsLink p.path.links → FitsAsOpening p.opening → FitsAsPart p
unfolding part_codec path_codec pair seen each name_codec number_codec
part-fits p service links opening least some range shape = (
  service,
  (
    (shape.step, range.step),
    (
      (shape.top, range.top),
      (
        path-fits p.path.links p.top p.step links shape.path,
        opening least p.step shape.opening some range.count range.time,
      ),
    ),
  ),
)

-- and so does a proof
pub body-fits : (p : ExistenceProof) → IsExistenceInRange p → IsShaped p → FitsAsPart p.at → FitsAsEvent p.event
    → existence_body.Fits p
unfolding existence_body pair seen
body-fits p range shape at event =
    (at 1 (omega (arith, range.index)) range.at shape.at, event p.at.opening.count range.index range.event shape.event)

pub existence-fits : (p : ExistenceProof) → IsExistenceInRange p → IsShaped p → FitsAsPart p.at → FitsAsEvent p.event
    → existence_codec.Fits p
unfolding existence_codec behind
existence-fits p range shape at event = body-fits p range shape at event
