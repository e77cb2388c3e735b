-- The file that is found in pages that keep a history whole.
use Rattle.std.proofs.Common.{◌≡◌, ℕ, suc, zero, ◌+◌, ◌<◌, ◌≤◌, List, [], ◌∷◌, ◌++◌, length, reverse, take, Bool, true}
use Rattle.std.proofs.Common.{refl, ap, sym, ◌∙◌, subst, arith, slice_get}
use Rattle.std.specs.Prelude.{◌==◌, ◌||◌, is_some, map, nat_le, IfSome, Option, Some, Result}
use Rattle.std.specs.List.{list_all}
use Rattle.std.proofs.lemmas.Bool.{and_from, le-leb}
use Rattle.std.proofs.lemmas.List.{length-map, reverse-append, take_all}
use Rattle.tw_base.specs.declared.history.content.Content.{Content}
use Rattle.tw_base.specs.declared.history.content.Content.TheVariants.{Events, Received}
use Rattle.tw_base.specs.declared.history.root.Root.{Root}
use Rattle.tw_base.specs.declared.history.thread.Thread.{Thread}
use Rattle.tw_base.specs.history.History.{History, Node, Step, fresh_of, root_of, step_at, thread_of, time_of}
use Rattle.tw_base.specs.history.HistoryCodec.{step_codec}
use Rattle.tw_base.specs.history.Limits.{IsThread, IsWithinLimits}
use Rattle.tw_base.specs.history.Sound.{IsSound}
use Rattle.tw_base.proofs.lemmas.kinds.DigestBytes.{IsDigest}
use Rattle.tw_base.proofs.lemmas.kinds.Naming.{IsName-size}
use Rattle.tw_disk.specs.Found.{Found, ◌>>=◌, when}
use Rattle.tw_disk.specs.Found.Found.{Is}
use Rattle.tw_disk.specs.Image.{Image}
use Rattle.tw_disk.proofs.FoundLaws.{is_on}
use Rattle.tw_rbtree.specs.declared.new_node.NewNode.{NewNode}
use Rattle.tw_rbtree.specs.Listing.{listed}
use Rattle.tw_skiplist.specs.declared.head.Head.{Head}
use Rattle.tw_skiplist.specs.declared.step_records.StepRecord.{StepRecord}
use Rattle.tw_skiplist.specs.Keeping.{Keeps, MayBeKept, archive_at}
use Rattle.tw_skiplist.specs.StepRecords.{content_of, found_records, record_at, records_down}
use Rattle.tw_skiplist.proofs.RecordLaws.{content_found, records_found}
use Rattle.tw_archive.specs.Archives.{KeepsTrees}
use Rattle.tw_archive.specs.Numbering.{Numbered, archive_new_nodes, history_node, new_from, number_of_page}
use Rattle.tw_archive.specs.Numbering.{numbered_archive, numbered_on}
use Rattle.tw_export.specs.Exporting.{SoFar, archive_after, at_start, exported_with_step, found_file, may_be_told}
use Rattle.tw_export.specs.Exporting.{step_on, step_with, steps_on}
use Rattle.tw_export.specs.Exporting as export
use Rattle.tw_export.specs.Files.{File, begun, told_file, with_text}
use Rattle.tw_export.specs.NodeNumbers.{Archive, Numbers, are_known, is_known, numbered_node, with_pages}
use Rattle.tw_export.specs.NodeNumbers as told
use Rattle.tw_export.proofs.FileLaws.{whole-told, written_on, written_on-push}
use Rattle.tw_answers.specs.declared.root.RootRecord.{RootRecord}
use Rattle.tw_service.specs.Exporting.{file_told}
use Rattle.tw_service.specs.Stands.{KeepsWhole, step_pages}
use Rattle.tw_service.proofs.KnownPages.{nodes-known, root-known}
use Rattle.tw_service.proofs.PageNumberings.{nodes-same, number-same, numbers_of, with_pages-list}
use Rattle.tw_export.proofs.StepLaws.{steps-push}

-- ---- lists

get-there : {X : Type 0} (xs : List X) (i : ℕ) → i < length xs → (x : X) × (slice_get xs i ≡ Some x)
get-there [] i less = absurd (omega (arith, less))
get-there (x ∷ xs) zero less = (x, refl)
get-there (x ∷ xs) (suc i) less = get-there xs i (omega (arith, less))

take-push : {X : Type 0} (xs : List X) (i : ℕ) (x : X) → slice_get xs i ≡ Some x → take (suc i) xs ≡ take i xs ++ x ∷ []
take-push [] i x there = absurd cc
take-push (y ∷ ys) zero x there = let same : y ≡ x = cc in ap (λ z. z ∷ []) same
take-push (y ∷ ys) (suc i) x there = ap (λ zs. y ∷ zs) (take-push ys i x there)

none-mapped : {X Y : Type 0} (f : X → Y) (xs : List X) → map f xs ≡ [] → xs ≡ []
none-mapped f [] none = refl
none-mapped f (x ∷ xs) none = absurd cc

module _ (dig : List ℕ → List ℕ) (size : (text : List ℕ) → IsDigest (dig text)) (ps : Image) (h : History) (head : Head)
    (keeps : Keeps dig ps h head)
    (trees : KeepsTrees dig ps h (step_pages keeps.places) (archive_at dig h keeps.places)) where
  abbrev step_page : ℕ → ℕ
  step_page i = step_pages keeps.places i

  abbrev archive : ℕ → Root
  archive i = archive_at dig h keeps.places i

  abbrev before : ℕ → Numbered
  before k = numbered_archive dig ps step_page archive k

  abbrev nodes : ℕ → List NewNode
  nodes k = archive_new_nodes dig ps step_page archive k

  abbrev record_of : ℕ → StepRecord
  record_of i = record_at dig h keeps.places i

  -- ---- after so many steps

  abbrev archive_so_far : ℕ → Archive
  archive_so_far k =
      record {
        count = (before k).count;
        numbers = numbers_of (before k).pages;
        root = root_of (step_at h k);
        since = new_from step_page k;
      }

  abbrev so_far : ℕ → SoFar
  so_far k = record { file = written_on (begun h.name (length h.steps)) (take k h.steps); archive = archive_so_far k }

  -- the archive's root has the number of its page
  root-number : (k : ℕ) → k ≤ length h.steps → root_of (step_at h k) ≡ number_of_page (before k).pages (archive k).page
  unfolding numbered_archive
  root-number zero within = refl
  root-number (suc k) within = (trees.trees k within).root

  rising : (k : ℕ) → k < length h.steps → new_from step_page k ≤ new_from step_page (suc k)
  rising zero within = let own = (keeps.keeps.steps 0 within).low in omega (arith, own)
  rising (suc k) within = let own = (keeps.keeps.steps (suc k) within).rising in omega (arith, own)

  -- with a step more that has these nodes
  module _ (k : ℕ) (within : k < length h.steps) (s : Step) (there : step_at h (suc k) ≡ Some s) where
    abbrev r : StepRecord
    r = record_of (suc k)

    next-is : (c : Content) (ns : List NewNode) → archive_after (archive_so_far k) r c ns ≡ archive_so_far (suc k)
        → c ≡ s.content → map (numbered_node (numbers_of (before k).pages) (before k).count) ns ≡ s.fresh
        → exported_with_step (so_far k) r c ns ≡ so_far (suc k)
    next-is c ns after content fresh =
        let count : length ns ≡ length s.fresh =
        sym (length-map ns (numbered_node (numbers_of (before k).pages) (before k).count))
        ∙ ap (λ (xs : List Node). length xs) fresh in
        let step : step_with (archive_so_far k) r c ns (archive_after (archive_so_far k) r c ns).root ≡ s =
        λ i. record {
          content = content i;
          time = time_of (there i);
          fresh = fresh i;
          root = (ap (λ (a : Archive). a.root) after ∙ ap root_of there) i;
        } in
        let file : (exported_with_step (so_far k) r c ns).file ≡ (so_far (suc k)).file =
        (λ i. with_text (so_far k).file (step_codec.write (step i)) (nat_le (count i) 65535))
        ∙ sym (written_on-push (begun h.name (length h.steps)) (take k h.steps) s)
        ∙ ap (written_on (begun h.name (length h.steps))) (sym (take-push h.steps k s there)) in
        λ i. record { file = file i; archive = after i }

    -- a step of events
    of-events : (events : List (List ℕ)) → Events events ≡ s.content → s.fresh ≡ [] → exported_with_step (so_far k) r
        (Events events) [] ≡ so_far (suc k)
    unfolding numbered_archive
    of-events events content fresh =
        let tree = trees.trees k within in
        let keeps_root = tree.of_events (ap thread_of there
        ∙ ap (λ (c : Content). thread_of (Some (record { content = c; time = s.time; fresh = s.fresh; root = s.root })))
        (sym content)) in
        let none : nodes k ≡ [] = none-mapped (history_node (before k).pages (before k).count) (nodes k)
        (sym tree.fresh ∙ keeps_root.1) in
        let count : (before k).count ≡ (before k).count + 0 = omega arith in
        let same : before k ≡ before (suc k) = (λ i. record { count = count i; pages = (before k).pages })
        ∙ ap (numbered_on (before k)) (sym none) in
        let root : root_of (step_at h k) ≡ root_of (step_at h (suc k)) =
        root-number k (omega (arith, within)) ∙ (λ i. number_of_page (same i).pages (sym keeps_root.0 i))
        ∙ sym tree.root in
        let behind : step_page (suc k) + 1 ≡ suc (step_page (suc k)) = omega arith in
        next-is (Events events) []
        (λ i. record { count = (same i).count; numbers = numbers_of (same i).pages; root = root i; since = behind i })
        content (sym fresh)

    -- a step that received a thread
    of-thread : (t : Thread) → Received t ≡ s.content → exported_with_step (so_far k) r (Received t) (nodes k) ≡ so_far
        (suc k)
    unfolding numbered_archive
    of-thread t content =
        let tree = trees.trees k within in
        let pages = with_pages-list (before k).pages (before k).count (nodes k) in
        let root : told.node_number_at (with_pages (numbers_of (before k).pages) (before k).count (nodes k))
        (archive (suc k)).page ≡ root_of (step_at h (suc k)) =
        ap (λ (f : Numbers). told.node_number_at f (archive (suc k)).page) pages ∙ number-same (before (suc k)).pages
        (archive (suc k)).page ∙ sym tree.root in
        let behind : step_page (suc k) + 1 ≡ suc (step_page (suc k)) = omega arith in
        next-is (Received t) (nodes k)
        (λ i. record {
          count = (before k).count + length (nodes k);
          numbers = pages i;
          root = root i;
          since = behind i;
        }) content
        (nodes-same (before k).pages (before k).count (nodes k) ∙ sym tree.fresh ∙ ap fresh_of there)

    -- such a step is told
    is-told : (t : Thread) → IsThread t → may_be_told (archive_so_far k) r (Received t) (nodes k) ≡ true
    unfolding numbered_archive
    is-told t thread =
        let tree = trees.trees k within in
        let own = keeps.keeps.steps k within in
        let low : (archive (suc k)).page < new_from step_page (suc k) =
        (let under = own.archive in omega (arith, under)) in
        let pages = with_pages-list (before k).pages (before k).count (nodes k) in
        and_from (nat_le 1 t.step) (are_known (archive_so_far k) (nodes k) (archive (suc k)).page)
        (le-leb 1 t.step thread.1)
        (and_from (list_all (is_known (numbers_of (before k).pages)) (nodes k)) (((archive (suc k)).page == 0)
        || is_some (with_pages (numbers_of (before k).pages) (before k).count (nodes k) (archive (suc k)).page))
        (nodes-known dig ps h step_page archive k tree (rising k within) low)
        (ap (λ (f : Numbers). ((archive (suc k)).page == 0) || is_some (f (archive (suc k)).page)) pages ∙ root-known
        dig ps h step_page archive k tree (rising k within) low))

    abbrev further : Content → Found SoFar
    further c = export.found_new_nodes dig ps (archive_so_far k).since r c
        >>= (λ ns. when (may_be_told (archive_so_far k) r c ns) r.page (exported_with_step (so_far k) r c ns))

    go-on : (c : Content) → c ≡ s.content → further c ≡ Is (so_far (suc k))
    go-on (Events events) content =
        let tree = trees.trees k within in
        let keeps_root = tree.of_events (ap thread_of there
        ∙ ap (λ (c : Content). thread_of (Some (record { content = c; time = s.time; fresh = s.fresh; root = s.root })))
        (sym content)) in
        ap (λ (x : SoFar). Is x) (of-events events content (sym (ap fresh_of there) ∙ keeps_root.1))
    go-on (Received t) content =
        let tree = trees.trees k within in
        let may : MayBeKept s = subst (λ (o : Option Step). IfSome o MayBeKept) there (keeps.keeps.steps k within).may
        in
        is_on (listed dig ps (new_from step_page k) (archive (suc k)))
        (λ ns. when (may_be_told (archive_so_far k) r (Received t) ns) r.page
        (exported_with_step (so_far k) r (Received t) ns)) (nodes k) tree.lists
        ∙ ap (λ (b : Bool). when b r.page (exported_with_step (so_far k) r (Received t) (nodes k)))
        (is-told t (subst IsWithinLimits (sym content) may.content))
        ∙ ap (λ (x : SoFar). Is x) (of-thread t content)

  step-found : (k : ℕ) → k < length h.steps → step_on dig ps (so_far k) (record_of (suc k)) ≡ Is (so_far (suc k))
  unfolding step_on
  step-found k within =
      let s = get-there h.steps k within in
      is_on (content_of ps (record_of (suc k))) (further k within s.0 s.1) s.0.content
      (content_found dig size ps h head keeps (suc k) s.0 (omega arith) (omega (arith, within, keeps.step)) s.1)
      ∙ go-on k within s.0 s.1 s.0.content refl

  -- ---- all of them

  steps-found : (k : ℕ) → k ≤ length h.steps → steps_on dig ps (so_far 0) (reverse (records_down dig h keeps.places k))
      ≡ Is (so_far k)
  unfolding steps_on records_down
  steps-found zero within = refl
  steps-found (suc k) within =
      ap (steps_on dig ps (so_far 0)) (reverse-append (record_of (suc k) ∷ []) (records_down dig h keeps.places k))
      ∙ steps-push dig ps (so_far 0) (reverse (records_down dig h keeps.places k)) (record_of (suc k))
      ∙ is_on (steps_on dig ps (so_far 0) (reverse (records_down dig h keeps.places k)))
      (λ last. step_on dig ps last (record_of (suc k))) (so_far k) (steps-found k (omega (arith, within)))
      ∙ step-found k within

  at-first : at_start h.name head.step ≡ so_far 0
  unfolding numbered_archive
  at-first = ap (λ (n : ℕ). at_start h.name n) keeps.step

  abbrev all : File
  all = written_on (begun h.name (length h.steps)) h.steps

  pub all-found : found_file dig ps h.name head ≡ Is (told_file all)
  unfolding found_file
  all-found =
      let last : ℕ = length h.steps in
      is_on (found_records ps head) (λ records. steps_on dig ps (at_start h.name head.step) (reverse records)
      >>= (λ s. Is (told_file s.file))) (records_down dig h keeps.places last) (records_found dig size ps h head keeps)
      ∙ ap (λ (s : SoFar). steps_on dig ps s (reverse (records_down dig h keeps.places last))
      >>= (λ (s : SoFar). Is (told_file s.file))) at-first
      ∙ is_on (steps_on dig ps (so_far 0) (reverse (records_down dig h keeps.places last))) (λ s. Is (told_file s.file))
      (so_far last) (steps-found last (omega arith))
      ∙ ap (λ (ss : List Step). Is (told_file (written_on (begun h.name last) ss)))
      (take_all last h.steps (omega arith))

-- what is found of the file in pages that keep a sound history whole is the history's, and no page is bad
pub file_kept : (dig : List ℕ → List ℕ) (size : (text : List ℕ) → IsDigest (dig text)) (ps : Image) (h : History)
    (r : RootRecord) → KeepsWhole dig ps h r → IsSound h
    → found_file dig ps h.name r.head ≡ Is (file_told h)
file_kept dig size ps h r whole sound =
    all-found dig size ps h r.head whole.steps whole.trees ∙ ap (λ (told : Result (List ℕ) ℕ). Is told)
    (whole-told h (IsName-size h.name sound.name))
