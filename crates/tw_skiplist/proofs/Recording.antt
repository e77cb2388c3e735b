-- The records of paths and openings that pages make, and those of the history that the pages keep.
use Rattle.std.proofs.Common.{◌≡◌, ℕ, suc, zero, ◌+◌, ◌-◌, ◌^◌, ◌<◌, ◌≤◌, List, [], ◌∷◌, ◌++◌, length, get_or, drop}
use Rattle.std.proofs.Common.{refl, ap, sym, ◌∙◌, arith, inl, inr}
use Rattle.std.specs.Prelude.{map, remove, ◌==◌, if◌then◌else◌}
use Rattle.std.proofs.lemmas.Bool.{cases_lt}
use Rattle.std.proofs.lemmas.Bool.Decides.{eqb_tells}
use Rattle.std.proofs.lemmas.List.{length_push, map_push}
use Rattle.std.proofs.lemmas.List.Edits.{length-remove, remove-append_left}
use Rattle.std.proofs.lemmas.Nat.{pow_pos}
use Rattle.tw_disk.specs.Image.{Image}
use Rattle.tw_base.specs.kinds.Texts.{link_text}
use Rattle.tw_base.specs.history.History.{History, step_at}
use Rattle.tw_base.specs.kinds.Levels.{top_level}
use Rattle.tw_base.specs.history.Auth.{auths, datum_text_at, link_texts}
use Rattle.tw_base.proofs.lemmas.kinds.DigestBytes.{IsDigest}
use Rattle.tw_base.proofs.lemmas.history.Auths.{auths-at}
use Rattle.tw_skipproof.specs.HistoryProofs.{labels_at}
use Rattle.tw_skipproof.specs.declared.path.Link.{Link}
use Rattle.tw_steppage.specs.declared.link.StepRef.{StepRef}
use Rattle.tw_skiplist.specs.Infos.{IsInfoOf}
use Rattle.tw_skiplist.specs.Keeping.{KeepsSteps, Place, fields_at, links_at, place_of_step}
use Rattle.tw_steppage.specs.StepPages.{link_at_level, no_ref}
use Rattle.tw_skiplist.specs.Records.{info_record, link_record, other_labels, page_datum, page_labels}
use Rattle.tw_skiplist.proofs.Contents.{may_record}
use Rattle.tw_skiplist.proofs.Kept.{get_or-links_to, length-links_to}

-- ---- a list without one of its elements

remove_past : (xs : List (List ℕ)) (i : ℕ) → length xs ≤ i → remove xs i ≡ xs
remove_past [] zero l = refl
remove_past [] (suc i) l = refl
remove_past (x ∷ xs) zero l = absurd (omega arith)
remove_past (x ∷ xs) (suc i) l = ap (λ (ys : List (List ℕ)). x ∷ ys) (remove_past xs i (omega arith))

remove_same : (xs : List (List ℕ)) (x : List ℕ) → remove (xs ++ x ∷ []) (length xs) ≡ xs
remove_same [] x = refl
remove_same (y ∷ xs) x = ap (λ (ys : List (List ℕ)). y ∷ ys) (remove_same xs x)

-- one more element, which may be the one left out
pub remove_push : (xs : List (List ℕ)) (x : List ℕ) (n i : ℕ) → length xs ≡ n → remove (xs ++ x ∷ []) i
    ≡ (if n == i then remove xs i else remove xs i ++ x ∷ [])
remove_push xs x n i size =
    elim (eqb_tells n i) [
      | inl is ↦ (
          let e : length xs ≡ i = size ∙ is.1 in
          ap (λ (k : ℕ). remove (xs ++ x ∷ []) k) (sym e) ∙ remove_same xs x ∙ sym (remove_past xs i (omega (arith, e)))
          ∙ ap (λ b. if b then remove xs i else remove xs i ++ x ∷ []) (sym is.0))
      | inr not ↦ (
          elim (cases_lt i n) [
            | inl less ↦ remove-append_left xs (x ∷ []) i (omega (arith, size, less))
            | inr more ↦ (
                let ne = not.1 in
                let over : n < i = omega (arith, more, ne) in
                remove_past (xs ++ x ∷ []) i (omega (arith, length_push xs x, size, over))
                ∙ ap (λ (ys : List (List ℕ)). ys ++ x ∷ []) (sym (remove_past xs i (omega (arith, size, over)))))
          ]
          ∙ ap (λ b. if b then remove xs i else remove xs i ++ x ∷ []) (sym not.0))
    ]

remove_first : (xs : List (List ℕ)) → remove xs 0 ≡ drop 1 xs
remove_first [] = refl
remove_first (x ∷ xs) = refl

module _ (dig : List ℕ → List ℕ) where
  pub page_labels-none : (step : ℕ) (datum : List ℕ) (links : List StepRef) (without : ℕ)
      → [] ≡ remove (page_labels dig step datum links 0) without
  unfolding page_labels
  page_labels-none step datum links without = sym (remove_past [] without (omega arith))

  pub page_labels-begin : (step : ℕ) (datum : List ℕ) (links : List StepRef) → page_labels dig step datum links 0 ≡ []
  unfolding page_labels
  page_labels-begin step datum links = refl

  pub page_labels-on : (step : ℕ) (datum : List ℕ) (links : List StepRef) (level : ℕ)
      → page_labels dig step datum links (level + 1) ≡ page_labels dig step datum links level ++ dig
      (link_text step level datum (link_at_level links level).auth) ∷ []
  unfolding page_labels
  page_labels-on step datum links level = ap (page_labels dig step datum links) (let e : level + 1 ≡ suc level =
      omega arith in e)

  pub length-page_labels : (step : ℕ) (datum : List ℕ) (links : List StepRef) (count : ℕ)
      → length (page_labels dig step datum links count) ≡ count
  unfolding page_labels
  length-page_labels step datum links zero = refl
  length-page_labels step datum links (suc level) = length_push (page_labels dig step datum links level) _
      ∙ omega (arith, length-page_labels step datum links level)

  -- all labels but one
  pub length-other_labels : (step : ℕ) (datum : List ℕ) (links : List StepRef) (level n : ℕ) → length links ≡ suc n
      → level ≤ n → length (other_labels dig step datum links level) ≡ n
  length-other_labels step datum links level n count l =
      let all = length-page_labels step datum links (length links) in
      omega (
        arith,
        count,
        all,
        length-remove (page_labels dig step datum links (length links)) level (omega (arith, l, count, all)),
      )

  pub page_labels-more : (step : ℕ) (datum : List ℕ) (links : List StepRef) (level without : ℕ)
      → (if level == without then remove (page_labels dig step datum links level) without else remove
      (page_labels dig step datum links level) without ++ dig
      (link_text step level datum (link_at_level links level).auth) ∷ [])
      ≡ remove (page_labels dig step datum links (level + 1)) without
  unfolding page_labels
  page_labels-more step datum links level without =
      sym (remove_push (page_labels dig step datum links level) _ level without
      (length-page_labels step datum links level))
      ∙ ap (λ (k : ℕ). remove (page_labels dig step datum links k) without) (let e : suc level ≡ level + 1 =
      omega arith in e)

  -- ---- of a history that the pages keep

  module _ (size : (text : List ℕ) → IsDigest (dig text)) (h : History) (places : List Place) (ps : Image)
      (kept : KeepsSteps dig ps h places) where
    kept_datum : (k : ℕ) → page_datum dig (fields_at dig h places (suc k)) ≡ dig (datum_text_at dig h (suc k))
    unfolding datum_text_at
    kept_datum k = refl

    pub labels_to : (k : ℕ) (datum : List ℕ) (count : ℕ) → count ≤ suc (top_level (suc k))
        → page_labels dig (suc k) datum (links_at dig h places (suc k)) count ≡ map dig
        (link_texts dig datum (auths dig h k) (suc k) count)
    unfolding page_labels link_texts
    labels_to k datum zero l = refl
    labels_to k datum (suc level) l =
        let at = get_or-links_to dig size h places no_ref (suc k) (suc (top_level (suc k))) level (omega arith) in
        let label : (link_at_level (links_at dig h places (suc k)) level).auth ≡ get_or (auths dig h k)
        (suc k - 2 ^ level) [] =
        ap (λ (x : StepRef). x.auth) at ∙ sym (auths-at dig h k (suc k - 2 ^ level) (omega (arith, pow_pos level))) in
        (λ j. labels_to k datum level (omega (arith, l)) j ++ dig (link_text (suc k) level datum (label j)) ∷ [])
        ∙ sym (map_push dig (link_texts dig datum (auths dig h k) (suc k) level) _)

    kept_labels : (k : ℕ)
        → page_labels dig (suc k) (page_datum dig (fields_at dig h places (suc k))) (links_at dig h places (suc k))
        (length (links_at dig h places (suc k))) ≡ labels_at dig h (suc k)
    kept_labels k =
        let before : k ≡ suc k - 1 = omega arith in
        (λ j. page_labels dig (suc k) (kept_datum k j) (links_at dig h places (suc k))
        (length-links_to dig size h places (suc k) (suc (top_level (suc k))) j))
        ∙ labels_to k (dig (datum_text_at dig h (suc k))) (suc (top_level (suc k))) (omega arith)
        ∙ ap (λ (n : ℕ). map dig (link_texts dig (dig (datum_text_at dig h (suc k))) (auths dig h n) (suc k)
        (suc (top_level (suc k))))) before

    -- the record of a link is the history's
    pub kept_link : (k level : ℕ) → k < length h.steps → let link : Link = link_record dig (suc k)
        (fields_at dig h places (suc k)) (links_at dig h places (suc k)) level in
        (link.datum ≡ dig (datum_text_at dig h (suc k))) × (link.others ≡ remove (labels_at dig h (suc k)) level)
    kept_link k level l = (kept_datum k, ap (λ (xs : List (List ℕ)). remove xs level) (kept_labels k))

    -- what a page tells is the history's
    pub kept_info : (k : ℕ) → k < length h.steps → IsInfoOf dig ps h places (suc k)
        (info_record dig (place_of_step places (suc k)).page (suc k) (fields_at dig h places (suc k))
        (links_at dig h places (suc k)))
    kept_info k l =
        let s = kept.steps k l in
        let first = get_or-links_to dig size h places no_ref (suc k) (suc (top_level (suc k))) 0 (omega arith) in
        record {
          step = refl;
          short = omega (arith, l, kept.short);
          event_root = refl;
          count = refl;
          time = refl;
          archive = refl;
          received = refl;
          auth = refl;
          opening = record {
            binds = record {
              event_root = refl;
              archive_root = refl;
              count = refl;
              time = refl;
              prev = sym (ap (λ (x : StepRef). x.auth) first);
            };
            others = ap (λ (xs : List (List ℕ)). remove xs 0) (kept_labels k) ∙ remove_first (labels_at dig h (suc k));
          };
          limits = may_record (step_at h (suc k)) s.may;
          page = refl;
          before = first;
          page_below = s.below;
          stream_size = refl;
          stream = s.stream;
        }

-- the labels of the links, one by one
pub ruleset labels_go_on = (page_labels-begin, page_labels-on)
