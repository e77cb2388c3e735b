-- The part that a history has of a step under a top reaches the history's authenticator of the top, and is spelled.
use Rattle.std.proofs.Common.{◌≡◌, ℕ, ◌-◌, ◌<◌, ◌≤◌, List, [], ◌∷◌, length, ap, sym, ◌∙◌, subst, arith}
use Rattle.tw_base.specs.declared.kinds.limits.TheConstants.{LAST_STEP, MOST_EVENTS}
use Rattle.tw_base.specs.history.Auth.{auth}
use Rattle.tw_base.specs.kinds.Bytes.{AreBytes}
use Rattle.tw_base.specs.format.Codecs.{bytes_codec, each, labels_codec, many, pair, seen}
use Rattle.tw_base.specs.history.History.{History, events_at}
use Rattle.tw_base.specs.history.Limits.{IsTimeWithinLimits}
use Rattle.tw_base.specs.kinds.Lists.{Each}
use Rattle.tw_base.specs.kinds.Names.{IsName}
use Rattle.tw_base.specs.history.Sound.{IsSound}
use Rattle.tw_base.proofs.lemmas.kinds.DigestBytes.{Each-drop, Each-remove, IsDigest, auth-digest, dig-digest}
use Rattle.tw_base.proofs.lemmas.kinds.DigestBytes.{event_root-digest, map-digests, tree_label-digest}
use Rattle.tw_base.proofs.lemmas.history.SoundEvents.{sound-may_record, sound-time}
use Rattle.tw_skipproof.specs.declared.existence.Part.{Part}
use Rattle.tw_skipproof.specs.declared.path.Link.{Link}
use Rattle.tw_skipproof.specs.Acceptance.{Reaches}
use Rattle.tw_skipproof.specs.declared.opening.Opening.{Opening}
use Rattle.tw_skipproof.specs.Codecs.{link_codec, opening_codec, path_codec}
use Rattle.tw_skipproof.specs.Existence.{IsPartInRange, IsPartShaped}
use Rattle.tw_skipproof.specs.HistoryProofs.{IsOpeningOf, IsPartOfHistory, IsPathOf, labels_at}
use Rattle.tw_skipproof.specs.Openings.{IsOpeningAt, opening_auth}
use Rattle.tw_skipproof.specs.Paths.{HasShape, climbed, hop}
use Rattle.tw_skipproof.specs.Spelling.{FitsAsLink, FitsAsOpening, FitsAsPart}
use Rattle.tw_skipproof.proofs.LawfulCodecs.{count-fits, part-fits, path-fits}
use Rattle.tw_skipproof.proofs.OwnPaths.{opening-of, path-of}

module _ (dig : List ℕ → List ℕ) (h : History) (step top : ℕ) (p : Part) (is : IsPartOfHistory dig h step top p) where
  opens : 0 < step → IsOpeningAt step p.opening × (opening_auth dig step p.opening ≡ auth dig h step)
  opens from_1 = opening-of dig h step p.opening from_1 is.opening

  opening_at : 0 < step → IsOpeningAt p.step p.opening
  opening_at from_1 = subst (λ s. IsOpeningAt s p.opening) (sym is.at_step) (opens from_1).0

  path_shape : step ≤ top → HasShape p.path.links p.top p.step
  path_shape order =
      subst (HasShape p.path.links p.top) (sym is.at_step)
      (subst (λ t. HasShape p.path.links t step) (sym is.at_top) (path-of dig h p.path.links top step order is.path).0)

  -- it reaches the history's own authenticator of the top
  pub reaches-made : 0 < step → step ≤ top → Reaches dig p (auth dig h top)
  reaches-made from_1 order = record {
    opening = opening_at from_1;
    path = record {
      shape = path_shape order;
      reaches = (λ k. climbed dig p.path.links (is.at_top k) (is.at_step k) (opening_auth dig (is.at_step k) p.opening))
          ∙ ap (climbed dig p.path.links top step) (opens from_1).1
          ∙ (path-of dig h p.path.links top step order is.path).1;
    };
  }

  -- where the steps, the events and the time are within their limits
  pub part_in_range-few : step ≤ top → top ≤ LAST_STEP → length (events_at h step) ≤ MOST_EVENTS
      → IsTimeWithinLimits p.opening.time → IsPartInRange p
  part_in_range-few order short few time =
      record {
        step = omega (arith, order, short, is.at_step);
        top = omega (arith, short, is.at_top);
        count = omega (arith, few, is.opening.binds.count);
        time = time;
      }

  -- so in a sound history
  pub part_in_range-made : IsSound h → step ≤ top → top ≤ length h.steps → IsPartInRange p
  part_in_range-made sound order has =
      let short = sound.length in
      part_in_range-few order (omega (arith, has, short)) (sound-may_record h step sound).are.count
      (subst IsTimeWithinLimits is.opening.binds.time (sound-time h step sound))

  pub part_shaped-made : 0 < step → step ≤ top → IsPartShaped p
  part_shaped-made from_1 order =
      record {
        step = (opening_at from_1).0;
        top = omega (arith, order, from_1, is.at_top);
        path = path_shape order;
        opening = (opening_at from_1).1;
      }

-- ---- its digests are bytes

module _ (dig : List ℕ → List ℕ) (h : History) (size : (text : List ℕ) → length (dig text) ≡ 32) (are : (text : List ℕ)
    → AreBytes (dig text)) where
  own_labels : (n : ℕ) → Each IsDigest (labels_at dig h n)
  own_labels n = map-digests dig size are _

  links-fit : (links : List Link) (from to : ℕ) → IsPathOf dig h links from to → Each FitsAsLink links
  unfolding link_codec seen pair bytes_codec labels_codec many
  links-fit [] from to made = tt
  links-fit (link ∷ links) from to made = (
    λ step count. (
      subst IsDigest (sym made.1) (dig-digest dig size are _),
      (count, subst (Each IsDigest) (sym made.2) (Each-remove IsDigest (labels_at dig h from) _ (own_labels from))),
    ),
    links-fit links (hop from to) to made.3,
  )

  -- a path of the history has a spelling
  pub path-fits-made : (links : List Link) (from to : ℕ) → to ≤ from → IsPathOf dig h links from to
      → (path_codec from to).Fits links
  unfolding path_codec each
  path-fits-made links from to order made = path-fits links from to (links-fit links from to made)
      (path-of dig h links from to order made).0

  opening-fits : (step : ℕ) (o : Opening) → IsOpeningOf dig h step o → FitsAsOpening o
  unfolding opening_codec seen pair bytes_codec labels_codec many
  opening-fits step o is least at count low few time =
      let binds = is.binds in (
        subst IsDigest binds.event_root (event_root-digest dig size are _),
        (
          subst IsDigest binds.archive_root (tree_label-digest dig size are _),
          (
            count-fits least o.count o.time low few time,
            (
              subst IsDigest binds.prev (auth-digest dig size are h (step - 1)),
              (
                count,
                subst (Each IsDigest) (sym is.others) (Each-drop IsDigest 1 (labels_at dig h step) (own_labels step)),
              ),
            ),
          ),
        ),
      )

  -- and so has a part of it
  pub part-fits-made : (step top : ℕ) (p : Part) → IsPartOfHistory dig h step top p → IsSound h → FitsAsPart p
  part-fits-made step top p is sound =
      part-fits p (subst IsName (sym is.service) sound.name) (links-fit p.path.links top step is.path)
      (opening-fits step p.opening is.opening)
