-- A step of events that is copied is the step that is found.
use Rattle.std.proofs.Common.{◌≡◌, ℕ, suc, zero, ◌+◌, ◌-◌, ◌<◌, ◌^◌, List, [], ◌∷◌, ◌++◌, length, take, drop, refl, ap}
use Rattle.std.proofs.Common.{sym, ◌∙◌, arith, append-nil, append_assoc}
use Rattle.std.specs.Prelude.{Option, Some, None, is_some, false, true}
use Rattle.tw_base.specs.declared.history.content.Content.TheVariants.{Events}
use Rattle.tw_base.specs.format.Codecs.{number_codec, optional}
use Rattle.tw_base.specs.format.Fields.{number_bytes}
use Rattle.tw_base.specs.history.History.{Step}
use Rattle.tw_base.specs.history.HistoryCodec.{content_codec, kind_of, recorded_codec, step_codec}
use Rattle.tw_disk.specs.Found.{Found, when, ◌>>=◌}
use Rattle.tw_disk.specs.Found.Found.{Is, Bad}
use Rattle.tw_disk.specs.Image.{Image}
use Rattle.tw_history.proofs.WritingLaws.{recorded_put, step_put}
use Rattle.tw_skiplist.specs.declared.step_records.StepRecord.{StepRecord}
use Rattle.tw_skiplist.specs.Events.{events_from}
use Rattle.tw_skiplist.specs.StepRecords.{content_by, content_of, events_of_record}
use Rattle.tw_skiplist.proofs.Copying.{none-counted}
use Rattle.tw_export.specs.Copied.{copied_step, events_end, events_front, file_before}
use Rattle.tw_export.specs.Exporting.{SoFar, exported_with_step, found_new_nodes, may_be_told, step_on}
use Rattle.tw_export.specs.Files.{with_text}

-- the step of these events
abbrev pub events_step : Option ℕ → List (List ℕ) → (root : ℕ) → Step
events_step time events root = record { content = Events events; time = time; fresh = []; root = root }

kind-same : (time : Option ℕ) (events : List (List ℕ)) → kind_of time (Events []) ≡ kind_of time (Events events)
kind-same None events = refl
kind-same (Some time) events = refl

step-text : (time : Option ℕ) (events : List (List ℕ)) (root : ℕ) (before : List ℕ)
    → ((before ++ events_front time) ++ (content_codec true).write (Events events)) ++ events_end root ≡ before
    ++ step_codec.write (events_step time events root)
step-text time events root before =
    let kind : List ℕ = number_bytes 1 (kind_of time (Events [])) in
    let told : List ℕ = (optional (is_some time) (number_codec 8 0 (2 ^ 64 - 1))).write time in
    let content : List ℕ = (content_codec true).write (Events events) in
    let a : List ℕ = ((before ++ kind) ++ told) ++ content in
    let recorded : a ≡ before ++ recorded_codec.write (time, Events events) =
    recorded_put time (Events events) before (before ++ kind) ((before ++ kind) ++ told) a (kind_of time (Events []))
    (kind-same time events) refl refl refl in
    let b : List ℕ = a ++ number_bytes 2 0 in
    ap (λ (t : List ℕ). (t ++ content) ++ events_end root) (sym (append_assoc before kind told))
    ∙ sym (append_assoc a (number_bytes 2 0) (number_bytes 4 root))
    ∙ step_put (events_step time events root) before a b b (b ++ number_bytes 4 root) 0 refl recorded refl
    (sym (append-nil b)) refl

bad-page : Found (List ℕ) → ℕ
bad-page (Bad page) = page
bad-page (Is bytes) = 0

-- a bad page of the one is one of the other
bad-of : {Z : Type 0} (T : List (List ℕ) → List ℕ) (V : List (List ℕ) → Z) (f : Found (List (List ℕ))) (page : ℕ)
    → (f >>= (λ x. Is (T x))) ≡ Bad page → (f >>= (λ x. Is (V x))) ≡ Bad page
unfolding bad-page
bad-of T V (Bad p) page e = ap (λ (q : ℕ). Bad q) (ap bad-page e)
bad-of T V (Is x) page e = cc

pub not-some : {X : Type 0} (o : Option X) → is_some o ≡ false → o ≡ None
not-some None e = refl
not-some (Some x) e = cc

pub some-count : (n : ℕ) → (n ≡ 0 → ⊥) → 0 < n
some-count zero e = absurd (e refl)
some-count (suc n) e = omega arith

module _ (dig : List ℕ → List ℕ) (ps : Image) (s : SoFar) (r : StepRecord) (none : r.fields.received ≡ None) where
  abbrev found : Found (List (List ℕ))
  found = events_from ps (events_of_record r)

  content-none : content_of ps r ≡ (found >>= (λ events. Is (Events events)))
  unfolding content_of
  content-none = ap (content_by ps r) none

  -- the step that is found
  pub step-events : step_on dig ps s r ≡ (found >>= (λ events. Is (exported_with_step s r (Events events) [])))
  unfolding step_on
  step-events =
      ap (λ (f : _). f >>= (λ c. found_new_nodes dig ps s.archive.since r c
      >>= (λ nodes. when (may_be_told s.archive r c nodes) r.page (exported_with_step s r c nodes)))) content-none
      ∙ by found
    where
      by : (f : Found (List (List ℕ)))
          → ((f >>= (λ events. Is (Events events))) >>= (λ c. found_new_nodes dig ps s.archive.since r c
          >>= (λ nodes. when (may_be_told s.archive r c nodes) r.page (exported_with_step s r c nodes))))
          ≡ (f >>= (λ events. Is (exported_with_step s r (Events events) [])))
      by (Bad page) = refl
      by (Is events) = refl

  abbrev text : List (List ℕ) → List ℕ
  text events = step_codec.write (events_step r.fields.time events s.archive.root)

  -- the bytes that are copied
  copied-on : copied_step ps r s.archive.root s.file.bytes ≡ (found >>= (λ events. Is (s.file.bytes ++ text events)))
  unfolding copied_step
  copied-on =
      ap (λ (f : _). f >>= (λ c. Is ((s.file.bytes ++ events_front r.fields.time) ++ (content_codec true).write c))
      >>= (λ now. Is (now ++ events_end s.archive.root))) content-none ∙ by found
    where
      by : (f : Found (List (List ℕ)))
          → ((f >>= (λ events. Is (Events events))) >>= (λ c. Is ((s.file.bytes ++ events_front r.fields.time)
          ++ (content_codec true).write c)) >>= (λ now. Is (now ++ events_end s.archive.root)))
          ≡ (f >>= (λ events. Is (s.file.bytes ++ text events)))
      by (Bad page) = refl
      by (Is events) = ap (λ (t : List ℕ). Is t) (step-text r.fields.time events s.archive.root s.file.bytes)

  -- the steps so far, where the file has these bytes
  abbrev pub taken : List ℕ → SoFar
  taken now = record {
    file = with_text (file_before (record { bytes = now; size = s.file.size; is_short = s.file.is_short })
        (length s.file.bytes)) (drop (length s.file.bytes) now) true;
    archive =
        record { count = s.archive.count; numbers = s.archive.numbers; root = s.archive.root; since = r.page + 1 };
  }

  take-front : (xs ys : List ℕ) → take (length xs) (xs ++ ys) ≡ xs
  take-front [] ys = refl
  take-front (x ∷ xs) ys = ap (λ (t : List ℕ). x ∷ t) (take-front xs ys)

  drop-front : (xs ys : List ℕ) → drop (length xs) (xs ++ ys) ≡ ys
  drop-front [] ys = refl
  drop-front (x ∷ xs) ys = drop-front xs ys

  taken-is : (events : List (List ℕ)) → taken (s.file.bytes ++ text events) ≡ exported_with_step s r (Events events) []
  taken-is events = λ i. record {
    file = with_text
        (record { bytes = take-front s.file.bytes (text events) i; size = s.file.size; is_short = s.file.is_short })
        (drop-front s.file.bytes (text events) i) true;
    archive =
        record { count = s.archive.count; numbers = s.archive.numbers; root = s.archive.root; since = r.page + 1 };
  }

  pub copied-bad : (page : ℕ) → copied_step ps r s.archive.root s.file.bytes ≡ Bad page → step_on dig ps s r ≡ Bad page
  copied-bad page e = step-events ∙ bad-of (λ events. s.file.bytes ++ text events)
      (λ events. exported_with_step s r (Events events) []) found page (sym copied-on ∙ e)

  pub copied-is : (now : List ℕ) → copied_step ps r s.archive.root s.file.bytes ≡ Is now → step_on dig ps s r ≡ Is
      (taken now)
  copied-is now e = step-events ∙ by found (sym copied-on ∙ e)
    where
      bytes-of : Found (List ℕ) → List ℕ
      bytes-of (Bad page) = []
      bytes-of (Is bytes) = bytes

      by : (f : Found (List (List ℕ))) → (f >>= (λ events. Is (s.file.bytes ++ text events))) ≡ Is now
          → (f >>= (λ events. Is (exported_with_step s r (Events events) []))) ≡ Is (taken now)
      by (Bad page) is = cc
      by (Is events) is = ap (λ (x : SoFar). Is x) (sym (taken-is events) ∙ ap taken (ap bytes-of is))

  pub lacks-bad : r.fields.stream.size ≡ 0 → 0 < r.fields.count → step_on dig ps s r ≡ Bad r.page
  lacks-bad empty some = step-events ∙ ap (λ (f : Found (List (List ℕ))). f
      >>= (λ events. Is (exported_with_step s r (Events events) []))) (none-counted ps (events_of_record r) empty some)
