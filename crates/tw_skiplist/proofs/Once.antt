-- The histories that pages keep under one head are alike.
use Rattle.std.proofs.Common.{◌≡◌, ℕ, suc, zero, ◌+◌, ◌-◌, ◌*◌, ◌^◌, ◌<◌, ◌≤◌, List, [], ◌∷◌, ◌++◌, length, take, drop}
use Rattle.std.proofs.Common.{refl, ap, sym, ◌∙◌, arith, inl, inr, subst, length-take, length-drop}
use Rattle.std.specs.Prelude.{min}
use Rattle.std.proofs.lemmas.Bool.{cases_lt}
use Rattle.std.proofs.lemmas.List.{take_all}
use Rattle.tw_base.proofs.lemmas.kinds.DigestBytes.{IsDigest}
use Rattle.tw_disk.specs.Image.{Image}
use Rattle.tw_base.specs.history.History.{History, events_at, step_at, thread_of, time_at}
use Rattle.tw_base.specs.kinds.Levels.{top_level}
use Rattle.tw_skiplist.specs.declared.head.Head.{Head}
use Rattle.tw_steppage.specs.declared.link.StepRef.{StepRef}
use Rattle.tw_steppage.specs.declared.fields.StepFields.{StepFields}
use Rattle.tw_skiplist.specs.Keeping.{AreAlike, Keeps, KeepsSteps, KeepsStream, Place, fields_at, links_at}
use Rattle.tw_skiplist.specs.Keeping.{place_of_step}
use Rattle.tw_steppage.specs.StepBytes.{piece, stream}
use Rattle.tw_steppage.specs.StepPages.{link_at_level, no_ref}
use Rattle.tw_skiplist.specs.StepPagesRead.{page_of_step}
use Rattle.tw_skiplist.proofs.Contents.{may_record}
use Rattle.tw_skiplist.proofs.Kept.{get_or-links_to, kept_page}
use Rattle.tw_skiplist.proofs.EventWords.{found-events}
use Rattle.tw_disk.proofs.FoundLaws.{same_found}
use Rattle.tw_skiplist.proofs.Spelling.{take_on}
use Rattle.tw_steppage.proofs.EventPages.{piece_read}
use Rattle.tw_steppage.specs.declared.limits.TheConstants.{MOST_PIECE_BYTES}

-- ---- a stream is known by its pieces

past : (n : ℕ) (xs : List ℕ) → length xs ≤ n → drop n xs ≡ []
past zero [] l = refl
past zero (x ∷ xs) l = absurd (omega arith)
past (suc n) [] l = refl
past (suc n) (x ∷ xs) l = past n xs (omega arith)

same_pieces : (s t : List ℕ) → length s ≡ length t → ((number : ℕ) → MOST_PIECE_BYTES * number < length s
    → piece s number ≡ piece t number) → (count : ℕ) → take (MOST_PIECE_BYTES * count) s ≡ take
    (MOST_PIECE_BYTES * count) t
same_pieces s t size same zero = refl
same_pieces s t size same (suc number) =
    let e : MOST_PIECE_BYTES * number + MOST_PIECE_BYTES ≡ MOST_PIECE_BYTES * suc number = omega arith in
    let one : piece s number ≡ piece t number = elim (cases_lt (MOST_PIECE_BYTES * number) (length s)) [
      | inl less ↦ same number less
      | inr more ↦ ap (take MOST_PIECE_BYTES) (past (MOST_PIECE_BYTES * number) s more
          ∙ sym (past (MOST_PIECE_BYTES * number) t (omega (arith, more, size))))
    ] in
    ap (λ (n : ℕ). take n s) (sym e) ∙ sym (take_on (MOST_PIECE_BYTES * number) MOST_PIECE_BYTES s)
    ∙ (λ j. same_pieces s t size same number j ++ one j)
    ∙ take_on (MOST_PIECE_BYTES * number) MOST_PIECE_BYTES t ∙ ap (λ (n : ℕ). take n t) e

same_stream : (ps : Image) (step first page : ℕ) (s t : List ℕ) → length s ≡ length t → KeepsStream ps step first page s
    → KeepsStream ps step first page t → s ≡ t
same_stream ps step first page s t size one two =
    let each = λ (number : ℕ) (l : MOST_PIECE_BYTES * number < length s).
    let n : ℕ = length (piece s number) in
    let sizes : length (piece t number) ≡ n = length-take MOST_PIECE_BYTES (drop (MOST_PIECE_BYTES * number) t)
    ∙ (let e : min MOST_PIECE_BYTES (length (drop (MOST_PIECE_BYTES * number) t)) ≡ min MOST_PIECE_BYTES
    (length (drop (MOST_PIECE_BYTES * number) s)) =
    omega (arith, length-drop (MOST_PIECE_BYTES * number) s, length-drop (MOST_PIECE_BYTES * number) t, size) in e)
    ∙ sym (length-take MOST_PIECE_BYTES (drop (MOST_PIECE_BYTES * number) s)) in
    let is : piece s number ≡ piece t number =
    sym (piece_read step number n _ (piece s number) (one.pieces number l) refl) ∙ piece_read step number n _
    (piece t number) (two.pieces number (omega (arith, l, size))) sizes in is in
    sym (take_all (MOST_PIECE_BYTES * length s) s (omega arith)) ∙ same_pieces s t size each (length s)
    ∙ take_all (MOST_PIECE_BYTES * length s) t (omega (arith, size))

-- ---- two histories on the same pages

module _ (dig : List ℕ → List ℕ) (size : (text : List ℕ) → IsDigest (dig text)) (ps : Image) (h g : History)
    (places others : List Place)
    (kept : KeepsSteps dig ps h places) (kept_too : KeepsSteps dig ps g others) (n : ℕ) (n_is : n ≡ length h.steps)
    (n_is_too : n ≡ length g.steps)
    (last : (place_of_step places n).page ≡ (place_of_step others n).page) where
  -- where the pages of a step are the same, so are its fields and links
  module _ (k : ℕ) (l : k < n) (same_place : (place_of_step places (suc k)).page
      ≡ (place_of_step others (suc k)).page) where
    same : ◌≡◌ {A = StepFields × List StepRef} (fields_at dig g others (suc k), links_at dig g others (suc k))
        (fields_at dig h places (suc k), links_at dig h places (suc k))
    same =
        same_found _ _ (
        sym (kept_page dig size g others ps kept_too k (omega (arith, l, n_is_too)))
        ∙ ap (λ (p : ℕ). page_of_step ps p (suc k)) (sym same_place)
        ∙ kept_page dig size h places ps kept k (omega (arith, l, n_is)))

    same_fields : fields_at dig g others (suc k) ≡ fields_at dig h places (suc k)
    same_fields = ap (λ p. p.0) same

    same_links : links_at dig g others (suc k) ≡ links_at dig h places (suc k)
    same_links = ap (λ p. p.1) same

    -- the step before has one page too
    page_before : (place_of_step places k).page ≡ (place_of_step others k).page
    page_before =
        let before : suc k - 2 ^ 0 ≡ k = omega arith in
        let one = get_or-links_to dig size h places no_ref (suc k) (suc (top_level (suc k))) 0 (omega arith) in
        let two = get_or-links_to dig size g others no_ref (suc k) (suc (top_level (suc k))) 0 (omega arith) in
        ap (λ (i : ℕ). (place_of_step places i).page) (sym before) ∙ ap (λ (x : StepRef). x.page)
        (sym one ∙ ap (λ (ls : List StepRef). link_at_level ls 0) (sym same_links) ∙ two)
        ∙ ap (λ (i : ℕ). (place_of_step others i).page) before

    same_events : events_at h (suc k) ≡ events_at g (suc k)
    same_events =
        let one = kept.steps k (omega (arith, l, n_is)) in
        let two = kept_too.steps k (omega (arith, l, n_is_too)) in
        let first : (place_of_step others (suc k)).first ≡ (place_of_step places (suc k)).first =
        ap (λ (f : StepFields). f.stream.page) same_fields in
        let sizes : length (stream (events_at g (suc k))) ≡ length (stream (events_at h (suc k))) =
        ap (λ (f : StepFields). f.stream.size) same_fields in
        let counts : length (events_at g (suc k)) ≡ length (events_at h (suc k)) = ap (λ (f : StepFields). f.count)
        same_fields in
        let stream_too : KeepsStream ps (suc k) (place_of_step places (suc k)).first (place_of_step places (suc k)).page
        (stream (events_at g (suc k))) =
        subst (λ (p : ℕ). KeepsStream ps (suc k) (place_of_step places (suc k)).first p (stream (events_at g (suc k))))
        (sym same_place)
        (subst (λ (f : ℕ). KeepsStream ps (suc k) f (place_of_step others (suc k)).page (stream (events_at g (suc k))))
        first two.stream) in
        let streams = same_stream ps (suc k) (place_of_step places (suc k)).first (place_of_step places (suc k)).page _
        _ (sym sizes) one.stream stream_too in
        same_found _ _ (
        sym (found-events (stream (events_at g (suc k))) (length (events_at g (suc k))) (events_at h (suc k))
        (record { stream_is = streams; count_is = sym counts; limits = may_record (step_at h (suc k)) one.may }) 0)
        ∙ found-events (stream (events_at g (suc k))) (length (events_at g (suc k))) (events_at g (suc k))
        (record { stream_is = refl; count_is = refl; limits = may_record (step_at g (suc k)) two.may }) 0)

  same_pages : (k d : ℕ) → k + d ≡ n → (place_of_step places k).page ≡ (place_of_step others k).page
  same_pages k zero e = let at : n ≡ k = omega (arith, e) in
      subst (λ (i : ℕ). (place_of_step places i).page ≡ (place_of_step others i).page) at last
  same_pages k (suc d) e = page_before k (omega (arith, e)) (same_pages (suc k) d (omega (arith, e)))

  page_at_step : (k : ℕ) → k ≤ n → (place_of_step places k).page ≡ (place_of_step others k).page
  page_at_step k l = same_pages k (n - k) (omega (arith, l))

  -- what holds of step 0, and of each later one whose page is the same
  at_each : (P : ℕ → Type 0) → P 0 → ((k : ℕ) → k < n → (place_of_step places (suc k)).page
      ≡ (place_of_step others (suc k)).page → P (suc k)) → (i : ℕ) → i ≤ length h.steps → P i
  at_each P first next zero l = first
  at_each P first next (suc k) l = next k (omega (arith, l, n_is)) (page_at_step (suc k) (omega (arith, l, n_is)))

  pub alike : AreAlike h g places others
  alike = record {
    count = sym n_is ∙ n_is_too;
    events = at_each (λ i. events_at h i ≡ events_at g i) refl same_events;
    threads = at_each (λ i. thread_of (step_at h i) ≡ thread_of (step_at g i)) refl
        (λ k l same. sym (ap (λ (f : StepFields). f.received) (same_fields k l same)));
    times = at_each (λ i. time_at h i ≡ time_at g i) refl
        (λ k l same. sym (ap (λ (f : StepFields). f.time) (same_fields k l same)));
    pages = λ i l. page_at_step i (omega (arith, l, n_is));
    archives = at_each (λ i. (place_of_step places i).archive ≡ (place_of_step others i).archive)
        (ap (λ (p : Place). p.archive) (kept.nowhere ∙ sym kept_too.nowhere))
        (λ k l same. sym (ap (λ (f : StepFields). f.archive.page) (same_fields k l same)));
  }

module _ (dig : List ℕ → List ℕ) (size : (text : List ℕ) → IsDigest (dig text)) where
  pub keeps_alike : (ps : Image) (h g : History) (head : Head) → (kept : Keeps dig ps h head)
      → (too : Keeps dig ps g head) → AreAlike h g kept.places too.places
  keeps_alike ps h g head one two =
      alike dig size ps h g one.places two.places one.keeps two.keeps head.step one.step two.step
      (ap (λ (k : ℕ). (place_of_step one.places k).page) one.step ∙ sym one.page ∙ two.page
      ∙ ap (λ (k : ℕ). (place_of_step two.places k).page) (sym two.step))
