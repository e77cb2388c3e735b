-- The records of steps, page by page, and that those of pages that keep a history are the history's.
use Rattle.std.proofs.Common.{◌≡◌, ℕ, suc, zero, ◌-◌, ◌^◌, ◌<◌, ◌≤◌, List, [], ◌∷◌, ◌++◌, length, refl, ap, sym, ◌∙◌}
use Rattle.std.proofs.Common.{arith, append_assoc}
use Rattle.std.specs.Prelude.{Option, Some}
use Rattle.std.proofs.lemmas.List.{append-nil}
use Rattle.tw_base.specs.declared.history.content.Content.{Content}
use Rattle.tw_base.specs.declared.history.content.Content.TheVariants.{Events, Received}
use Rattle.tw_base.specs.history.History.{History, Node, Step, events_at, events_of, step_at, thread_of}
use Rattle.tw_base.specs.kinds.Levels.{top_level}
use Rattle.tw_base.proofs.lemmas.kinds.DigestBytes.{IsDigest}
use Rattle.tw_disk.specs.Found.{◌>>=◌}
use Rattle.tw_disk.specs.Found.Found.{Is}
use Rattle.tw_disk.specs.Image.{Image}
use Rattle.tw_disk.proofs.FoundLaws.{is_on}
use Rattle.tw_steppage.specs.declared.link.StepRef.{StepRef}
use Rattle.tw_steppage.specs.StepPages.{link_at_level, no_ref}
use Rattle.tw_skiplist.specs.declared.head.Head.{Head}
use Rattle.tw_skiplist.specs.declared.step_records.StepRecord.{StepRecord}
use Rattle.tw_skiplist.specs.Events.{events_from}
use Rattle.tw_skiplist.specs.Keeping.{Keeps, KeepsSteps, Place, fields_at, links_at, place_of_step}
use Rattle.tw_skiplist.specs.StepPagesRead.{page_of_step}
use Rattle.tw_skiplist.specs.StepRecords.{content_by, content_of, events_of_record, found_records, record_at}
use Rattle.tw_skiplist.specs.StepRecords.{records_down, records_on, step_record}
use Rattle.tw_skiplist.proofs.Contents.{may_record}
use Rattle.tw_skiplist.proofs.Kept.{get_or-links_to, kept_page}
use Rattle.tw_skiplist.proofs.KeptEvents.{events_kept}

module _ (ps : Image) (page : ℕ) (records : List StepRecord) where
  pub records-end : (step : ℕ) → step ≤ 0 → records_on ps page step records ≡ Is records
  unfolding records_on
  records-end step end = ap (λ (n : ℕ). records_on ps page n records) (let none : step ≡ 0 = omega (arith, end) in none)

  records-suc : (k : ℕ) → records_on ps page (suc k) records
      ≡ (page_of_step ps page (suc k) >>= (λ p. records_on ps (link_at_level p.1 0).page k
      (records ++ step_record page (suc k) p.0 ∷ [])))
  unfolding records_on
  records-suc k = refl

  pub records-more : (step : ℕ) → 0 < step → records_on ps page step records
      ≡ (page_of_step ps page step >>= (λ p. records_on ps (link_at_level p.1 0).page (step - 1)
      (records ++ step_record page step p.0 ∷ [])))
  records-more zero some = absurd (omega (arith, some))
  records-more (suc k) some =
      records-suc k
      ∙ ap (λ (n : ℕ). page_of_step ps page (suc k) >>= (λ p. records_on ps (link_at_level p.1 0).page n
      (records ++ step_record page (suc k) p.0 ∷ []))) (let e : k ≡ suc k - 1 = omega arith in e)

-- the records, one by one
pub ruleset records_go_on = (records-end, records-more)

-- ---- those of pages that keep a history

-- by its content
content_of_step : (ps : Image) (r : StepRecord) (c : Content) (time : Option ℕ) (fresh : List Node) (root : ℕ)
    → events_from ps (events_of_record r) ≡ Is
    (events_of (Some (record { content = c; time = time; fresh = fresh; root = root })))
    → content_by ps r (thread_of (Some (record { content = c; time = time; fresh = fresh; root = root }))) ≡ Is c
content_of_step ps r (Events events) time fresh root read = is_on (events_from ps (events_of_record r))
    (λ es. Is (Events es)) events read
content_of_step ps r (Received t) time fresh root read = refl

module _ (dig : List ℕ → List ℕ) (size : (text : List ℕ) → IsDigest (dig text)) (h : History) (places : List Place)
    (ps : Image) (kept : KeepsSteps dig ps h places) where
  abbrev page : ℕ → ℕ
  page i = (place_of_step places i).page

  below : (k : ℕ) → (link_at_level (links_at dig h places (suc k)) 0).page ≡ page k
  below k =
      ap (λ (r : StepRef). r.page) (get_or-links_to dig size h places no_ref (suc k) (suc (top_level (suc k))) 0
      (omega arith))
      ∙ ap page (let e : suc k - 2 ^ 0 ≡ k = omega arith in e)

  records_kept : (k : ℕ) → k ≤ length h.steps → (before : List StepRecord) → records_on ps (page k) k before ≡ Is
      (before ++ records_down dig h places k)
  unfolding records_on records_down
  records_kept zero within before = ap (λ (rs : List StepRecord). Is rs) (sym (append-nil before))
  records_kept (suc k) within before =
      let here : StepRecord = record_at dig h places (suc k) in
      is_on (page_of_step ps (page (suc k)) (suc k)) (λ p. records_on ps (link_at_level p.1 0).page k
      (before ++ step_record (page (suc k)) (suc k) p.0 ∷ []))
      (fields_at dig h places (suc k), links_at dig h places (suc k))
      (kept_page dig size h places ps kept k (omega (arith, within)))
      ∙ ap (λ (p : ℕ). records_on ps p k (before ++ here ∷ [])) (below k)
      ∙ records_kept k (omega (arith, within)) (before ++ here ∷ [])
      ∙ ap (λ (rs : List StepRecord). Is rs) (append_assoc before (here ∷ []) (records_down dig h places k))

  -- what a step recorded
  pub content_kept : (k : ℕ) → k < length h.steps → (s : Step) → step_at h (suc k) ≡ Some s
      → content_of ps (record_at dig h places (suc k)) ≡ Is s.content
  unfolding content_of
  content_kept k within s there =
      let step = kept.steps k within in
      let r : StepRecord = record_at dig h places (suc k) in
      let read : events_from ps (events_of_record r) ≡ Is (events_at h (suc k)) =
      events_kept ps h (suc k) (events_of_record r)
      (record {
        step = refl;
        count = refl;
        limits = may_record (step_at h (suc k)) step.may;
        page_below = omega (arith, step.below);
        stream_size = refl;
        stream = step.stream;
      }) in
      ap (λ (o : Option Step). content_by ps r (thread_of o)) there
      ∙ content_of_step ps r s.content s.time s.fresh s.root (read ∙ ap (λ (o : Option Step). Is (events_of o)) there)

pub records_found : (dig : List ℕ → List ℕ) (size : (text : List ℕ) → IsDigest (dig text)) (ps : Image) (h : History)
    (head : Head) (keeps : Keeps dig ps h head)
    → found_records ps head ≡ Is (records_down dig h keeps.places (length h.steps))
records_found dig size ps h head keeps =
    (λ j. records_on ps (keeps.page j) (keeps.step j) []) ∙ records_kept dig size h keeps.places ps keeps.keeps
    (length h.steps) (omega arith) []

pub content_found : (dig : List ℕ → List ℕ) (size : (text : List ℕ) → IsDigest (dig text)) (ps : Image) (h : History)
    (head : Head) (keeps : Keeps dig ps h head) (i : ℕ) (s : Step) → 1 ≤ i → i ≤ head.step
    → step_at h i ≡ Some s → content_of ps (record_at dig h keeps.places i) ≡ Is s.content
content_found dig size ps h head keeps zero s some order there = absurd (omega (arith, some))
content_found dig size ps h head keeps (suc k) s some order there = content_kept dig size h keeps.places ps keeps.keeps
    k (omega (arith, order, keeps.step)) s there
