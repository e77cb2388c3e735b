-- What a run of `adopt` with status 0 says, by the lines of its file alone.
use Rattle.std.proofs.Common.{◌≡◌, ℕ, ◌≤◌, suc, zero, List, [], ◌∷◌, ◌++◌, append_assoc, length, take, refl, ap, sym, ◌∙◌, subst, inl, inr, arith}
use Rattle.std.specs.Prelude.{codes, map, Bool, true, false, Option, Some, None, IsSome, MatchOption, nat_lt, if◌then◌else◌}
use Rattle.std.specs.List.{slice_split}
use Rattle.std.specs.Str.{bytes_eq}
use Rattle.std.proofs.lemmas.Bool.{ltb-false, ltb-true}
use Rattle.std.proofs.lemmas.Option.{cond_some, none-some}
use Rattle.std.proofs.lemmas.Slice.Eq.{bytes_eq-Decides}
use Rattle.sha2.specs.Sha256.{sha256}
use Rattle.tw_base.specs.declared.history.thread.Entry.{Entry}
use Rattle.tw_base.specs.declared.history.thread.Thread.{Thread}
use Rattle.tw_base.specs.declared.kinds.limits.TheConstants.{LAST_STEP}
use Rattle.tw_base.specs.format.Codecs.{behind, by_kind, bytes_codec, counted, many, name_codec, number_codec, pair, seen, variant}
use Rattle.tw_base.specs.format.Fields.{number_bytes}
use Rattle.tw_base.specs.format.Formats.{Spells}
use Rattle.tw_base.specs.history.Anchors.{anchor_of, is_at}
use Rattle.tw_base.specs.history.Auth.{auth}
use Rattle.tw_base.specs.history.EntryCodec.{entry_codec}
use Rattle.tw_base.specs.history.Facts.{Facts, TimesRise, WasReceived}
use Rattle.tw_base.specs.history.Family.{HasHistory, HasThread, family_texts}
use Rattle.tw_base.specs.history.History.{History}
use Rattle.tw_base.specs.history.HistoryCodec.{history_bytes, history_codec, history_layout, step_codec, thread_codec}
use Rattle.tw_base.specs.history.HistoryTexts.{history_texts}
use Rattle.tw_base.specs.history.Sound.{IsSound}
use Rattle.tw_base.specs.kinds.Clash.{OrClash}
use Rattle.tw_base.specs.kinds.Lists.{Each, In}
use Rattle.tw_base.proofs.lemmas.format.CodecLaws.{spelled-fits, unambiguous, written-as}
use Rattle.tw_base.proofs.lemmas.history.Anchoring.{anchor_of-is}
use Rattle.tw_base.proofs.lemmas.history.Families.{sound_of, texts_within}
use Rattle.tw_base.proofs.lemmas.history.HistoryCodecLaws.{history-lawful}
use Rattle.tw_base.proofs.lemmas.kinds.Clashes.{Among-left, OrClash-wider, and_then, both_within}
use Rattle.tw_base.proofs.lemmas.kinds.ListLemmas.{Each-map}
use Rattle.tw_skipproof.specs.declared.existence.Part.{Part}
use Rattle.tw_skipproof.specs.Codecs.{part_codec, proof_magic}
use Rattle.tw_chain.specs.declared.proof.Proof.{Proof}
use Rattle.tw_chain.specs.declared.proof.Proof.TheVariants.{Absent, Archived, Exists, Linked, Precedes}
use Rattle.tw_chain.specs.declared.proof.ThreadProof.{ThreadProof}
use Rattle.tw_chain.specs.Accepting.{IsAccepted, claim_of, report_of}
use Rattle.tw_chain.specs.Proofs.{kind_bytes, kinds_codec, proof_codec, proof_layout, thread_body}
use Rattle.tw_chain.proofs.ProofCodec.{proof-lawful}
use Rattle.tw_adopt.specs.declared.adopted.Adopted.{Adopted}
use Rattle.tw_adopt.specs.declared.receiving.Receiving.{Receiving}
use Rattle.tw_adopt.specs.Adopting.{AreGood, ShowsReceiving, adopted_by, further, furthest, receiving_of}
use Rattle.tw_adopt.specs.Binding.{IsAdoptedKept, IsAdoptionShown, last_receiving}
use Rattle.tw_adopt.specs.HistoryFronts.{Same, first_steps}
use Rattle.tw_adopt.proofs.WeighingLaws.{within-some}
use Rattle.tw_disk.specs.Disk.{DiskView}
use Rattle.tw_disk.specs.Image.{Image}
use Rattle.tw_filecmd.specs.Showing.{IsHistoryFileOf}
use Rattle.tw_msg.specs.AnchorsFile.{anchor_on, is_line_feed, lines as lines_in, lines_of_parts}
use Rattle.tw_outside.specs.Files.{Files, file_bytes}
use Rattle.tw_plain.specs.Hashed.{hashed_texts}
use Rattle.tw_plain.specs.Plain.{IsReport, IsSoByLines, IsSoInLists, file_lines}
use Rattle.tw_reachcmd.specs.Adopting.{IsTakenOver}
use Rattle.tw_reachcmd.specs.Held.{TellAll}
use Rattle.tw_service.specs.Machine.{last_thread}
use Rattle.tw_words.specs.CommandLine.{command_of}
use Rattle.tw_words.specs.declared.command.Command.{Command}
use Rattle.tw_words.specs.declared.command.Command.TheVariants.{Adopt}
use Rattle.tw_app.specs.Adoptions.{AsksAdoption, IsAdoptedRun}
use Rattle.tw_app.specs.Around.{Around}
use Rattle.tw_app.specs.PlainAdoptions.{IsPlainAdoption, ShowsReceived, entry_bytes, proof_of_thread}
use Rattle.tw_app.specs.Running.{EndsAllowed, work}
use Rattle.tw_app.proofs.Adoptions.{adopted}
use Rattle.tw_app.proofs.Endings.{done}
use Rattle.tw_app.proofs.PlainRuns.{same_some, some_of}
use Rattle.tw_app.proofs.PlainWords.{adopt_named, adopt_words}

-- ---- the furthest of all that was shown

abbrev step_of : Receiving → ℕ
step_of r = r.entry.thread.step

further-most : (first next : Receiving) → (step_of first ≤ step_of (further first next)) × (step_of next ≤ step_of (further first next))
further-most first next = by (nat_lt (step_of first) (step_of next)) refl
  where
    by : (b : Bool) → nat_lt (step_of first) (step_of next) ≡ b
        → (step_of first ≤ step_of (if b then next else first)) × (step_of next ≤ step_of (if b then next else first))
    by true is = let below = ltb-true (step_of first) (step_of next) is in (omega (arith, below), omega arith)
    by false is = let above = ltb-false (step_of first) (step_of next) is in (omega arith, omega (arith, above))

abbrev IsUpTo : (step : ℕ) → List Receiving → Type 0
IsUpTo step shown = Each (λ r. step_of r ≤ step) shown

furthest-most : (first : Receiving) (rest : List Receiving) → IsUpTo (step_of (furthest first rest)) (first ∷ rest)
furthest-most first [] = (omega arith, tt)
furthest-most first (next ∷ rest) =
    let behind = furthest-most (further first next) rest in
    let one = further-most first next in
    (omega (arith, behind.0, one.0), (omega (arith, behind.0, one.1), behind.1))

-- ---- the first steps of a history have a file

Each-take : {X : Type 0} (P : X → Type 0) (n : ℕ) (xs : List X) → Each P xs → Each P (take n xs)
Each-take P zero xs all = tt
Each-take P (suc n) [] all = tt
Each-take P (suc n) (x ∷ xs) all = (all.0, Each-take P n xs all.1)

few-taken : {X : Type 0} (n : ℕ) (xs : List X) → length (take n xs) ≤ length xs
few-taken zero xs = omega arith
few-taken (suc n) [] = omega arith
few-taken (suc n) (x ∷ xs) = let rest = few-taken n xs in omega (arith, rest)

front-fits : (h : History) (count : ℕ) → history_codec.Fits h → history_codec.Fits (first_steps h count)
unfolding history_codec behind seen pair counted by_kind many number_codec
front-fits h count fits =
    let most : length h.steps ≤ LAST_STEP = fits.1.0.1 in
    let few : length (take count h.steps) ≤ length h.steps = few-taken count h.steps in
    (fits.0, ((omega arith, omega (arith, most, few)), (refl, Each-take step_codec.Fits count h.steps fits.1.1.1)))

front-spelled : (h : History) (bytes : List ℕ) (count : ℕ) → Spells history_layout bytes h
    → Spells history_layout (history_bytes (first_steps h count)) (first_steps h count)
front-spelled h bytes count spelled =
    (unambiguous history_codec history-lawful).spelled (first_steps h count)
    (front-fits h count (spelled-fits history_codec history-lawful bytes h spelled))

-- ---- the bytes of a proof of a received thread

kind-written : number_bytes 1 3 ≡ 3 ∷ []
unfolding number_bytes
kind-written = refl

part-written : (at : Part) → (way : List ℕ) × ((part_codec 0).write at ≡ at.service ++ (number_bytes 8 at.step ++ way))
unfolding part_codec seen pair name_codec number_codec
part-written at = (_, refl)

entry-written : (e : Entry) → entry_codec.write e ≡ entry_bytes e
unfolding entry_codec thread_codec seen pair name_codec number_codec bytes_codec
entry-written e =
    append_assoc e.thread.from (number_bytes 8 e.thread.step ++ e.thread.auth) (number_bytes 8 e.archived)
    ∙ ap (λ t. e.thread.from ++ t) (append_assoc (number_bytes 8 e.thread.step) e.thread.auth (number_bytes 8 e.archived))

-- its parts, one behind another
abbrev parts_written : (kind at entry shown : List ℕ) → List ℕ
parts_written kind at entry shown = proof_magic ++ (kind ++ (at ++ (entry ++ shown)))

proof-written : (q : ThreadProof)
    → (shown : List ℕ) × (proof_codec.write (Archived q) ≡ parts_written (number_bytes 1 3) ((part_codec 0).write q.at) (entry_codec.write q.entry) shown)
unfolding proof_codec kinds_codec thread_body behind by_kind variant seen pair number_codec
proof-written q = (_, refl)

moved : (service step way rest : List ℕ) → (service ++ (step ++ way)) ++ rest ≡ service ++ (step ++ (way ++ rest))
moved service step way rest = append_assoc service (step ++ way) rest ∙ ap (λ t. service ++ t) (append_assoc step way rest)

-- what stands behind the step, and behind the entry
record IsThreadProof (bytes : List ℕ) (q : ThreadProof) : Type 0 where
  way : List ℕ
  shown : List ℕ
  are : bytes ≡ proof_of_thread q.at.service q.at.step way q.entry shown

thread-bytes : (bytes : List ℕ) (q : ThreadProof) → Spells proof_layout bytes (Archived q) → IsThreadProof bytes q
thread-bytes bytes q spelled =
    let written = proof-written q in
    let part = part-written q.at in
    let at : List ℕ = q.at.service ++ (number_bytes 8 q.at.step ++ part.0) in
    let first : bytes ≡ parts_written (number_bytes 1 3) ((part_codec 0).write q.at) (entry_codec.write q.entry) written.0 =
    written-as proof_codec proof-lawful bytes (Archived q) spelled ∙ written.1 in
    let second : bytes ≡ parts_written (3 ∷ []) at (entry_bytes q.entry) written.0 =
    first ∙ (λ k. parts_written (kind-written k) (part.1 k) (entry-written q.entry k) written.0) in
    let third : bytes ≡ proof_of_thread q.at.service q.at.step part.0 q.entry written.0 =
    second ∙ ap (λ t. kind_bytes 3 ++ t) (moved q.at.service (number_bytes 8 q.at.step) part.0 (entry_bytes q.entry ++ written.0)) in
    record { way = part.0; shown = written.0; are = third }

-- ---- a line that was needed

-- each line of a file stands between its line feeds
lines-among : (parts : List (List ℕ)) → Each (λ (t : Thread). In t (map anchor_on parts)) (map anchor_on (lines_of_parts parts))
lines-among [] = tt
lines-among ([] ∷ []) = tt
lines-among ((b ∷ bs) ∷ []) = (inl refl, tt)
lines-among (line ∷ next ∷ more) =
    let rest = lines-among (next ∷ more) in
    (inl refl, Each-map _ _ (map anchor_on (lines_of_parts (next ∷ more))) (λ t is. inr is) rest)

module _ (P : Thread → Type 0) (service : List ℕ) (step : ℕ) where
  -- the line that is found is one of them
  found-is : (held : List Thread) (t : Thread) → Each P held → anchor_of held service step ≡ Some t → P t
  found-is [] t all found = cc
  found-is (u ∷ held) t all found = by (is_at service step u) found (λ is. found-is held t all.1 is)
    where
      by : (b : Bool) → (if b then Some u else anchor_of held service step) ≡ Some t → (anchor_of held service step ≡ Some t → P t) → P t
      by true is rest = let same : u ≡ t = cc in subst P same all.0
      by false is rest = rest is

  line-is : (held : List Thread) → Each P held → IsSome (anchor_of held service step)
      → (t : Thread) × P t × (t.from ≡ service) × (t.step ≡ step)
  line-is held all there = by (anchor_of held service step) refl there
    where
      by : (o : Option Thread) → anchor_of held service step ≡ o → IsSome o → (t : Thread) × P t × (t.from ≡ service) × (t.step ≡ step)
      by None is there = cc
      by (Some t) is there = let names = anchor_of-is held service step t is in (t, found-is held t all is, names.0, names.1)

-- a line of the service, at its step or a later one
abbrev HasLine : (held : List Thread) → Part → Type 0
HasLine held at = (t : Thread) × In t held × (t.from ≡ at.service) × (at.step ≤ t.step)

line-held : (file : List ℕ) (q : ThreadProof) → IsAccepted sha256 (map anchor_on (lines_in file)) (Archived q) → HasLine (file_lines file) q.at
line-held file q accepted =
    let found = line-is (λ (t : Thread). In t (file_lines file)) q.at.service q.at.top (map anchor_on (lines_in file))
    (lines-among (slice_split is_line_feed file)) accepted.1.0 in
    let below : q.at.step ≤ q.at.top = accepted.0 in
    let at_top = found.3 in
    (found.0, found.1, found.2, omega (arith, below, at_top))

-- ---- what each proof shows

thread-same : (from other : List ℕ) (step next : ℕ) (one text : List ℕ) → from ≡ other → step ≡ next → one ≡ text
    → (let t : Thread = record { from = from; step = step; auth = one } in t) ≡ record { from = other; step = next; auth = text }
thread-same from other step next one text a b c = cc

module _ (so : (bytes file : List ℕ) (p : Proof) → Spells proof_layout bytes p → IsAccepted sha256 (map anchor_on (lines_in file)) p
    → IsSoByLines sha256 (file_lines file) (hashed_texts sha256 bytes) (report_of p))
    (readable : (bytes : List ℕ) (p : Proof) → Spells proof_layout bytes p → IsReport (report_of p))
    (h : History) (lines : List ℕ) where
  abbrev held : List Thread
  held = map anchor_on (lines_in lines)

  -- the thread was received, and is of the history's service
  abbrev IsShown : (bytes : List ℕ) → Thread → Type 0
  IsShown bytes t = ShowsReceived sha256 (file_lines lines) bytes t × (t.from ≡ h.name)

  sooner : (texts : List (List ℕ)) (family : List History) (q : ThreadProof)
      → OrClash sha256 texts (Facts sha256 family (report_of (Archived q)).hops (report_of (Archived q)).claim × TimesRise (report_of (Archived q)).hops (report_of (Archived q)).claim)
      → OrClash sha256 texts (WasReceived family q.at.service q.at.step q.entry)
  sooner texts family q (inl is) = inl is.0
  sooner texts family q (inr clash) = inr clash

  shown-of : (bytes : List ℕ) (p : Proof) (r : Receiving) → Spells proof_layout bytes p → IsAccepted sha256 held p
      → receiving_of h.name (claim_of p) ≡ Some r → IsShown bytes r.entry.thread
  shown-of bytes (Archived q) r spelled accepted is =
      let parts = cond_some (bytes_eq q.entry.thread.from h.name) (record { by = q.at.service; entry = q.entry }) r is in
      let written = thread-bytes bytes q spelled in
      subst (λ (s : Receiving). IsShown bytes s.entry.thread) parts.1 (
        record {
          by = q.at.service;
          step = q.at.step;
          entry = q.entry;
          of = refl;
          way = written.way;
          shown = written.shown;
          of_proof = written.are;
          readable = (readable bytes (Archived q) spelled).claim;
          line = line-held lines q accepted;
          so = λ family sound has carries.
              sooner (hashed_texts sha256 bytes family) family q (so bytes lines (Archived q) spelled accepted family sound has tt);
        },
        (bytes_eq-Decides q.entry.thread.from h.name).0 parts.0,
      )
  shown-of bytes (Exists q) r spelled accepted is = absurd (none-some r is)
  shown-of bytes (Precedes q) r spelled accepted is = absurd (none-some r is)
  shown-of bytes (Absent q) r spelled accepted is = absurd (none-some r is)
  shown-of bytes (Linked q) r spelled accepted is = absurd (none-some r is)

  shown : (bytes : List ℕ) (r : Receiving) → ShowsReceiving sha256 held h bytes r → IsShown bytes r.entry.thread
  shown bytes r shows = shown-of bytes shows.0.0 r shows.0.1 shows.0.2 shows.1

  module _ (same_to : (one other : History) (step : ℕ) → IsSound one → IsSound other → step ≤ length one.steps → step ≤ length other.steps
      → auth sha256 one step ≡ auth sha256 other step → OrClash sha256 (history_texts sha256 one ++ history_texts sha256 other) (Same one other step))
      (fronts : (g : History) (count step : ℕ) → step ≤ count → step ≤ length g.steps
      → Same g (first_steps g count) step × (auth sha256 (first_steps g count) step ≡ auth sha256 g step))
      (whole bytes : List ℕ) (proofs : List (List ℕ)) (r : Receiving) (kept : IsAdoptedKept sha256 h (adopted_by h r)) where
    abbrev front : History
    front = first_steps h (step_of r)

    -- the front has a thread of the history, up to its last step
    front-has : (t : Thread) → t.from ≡ h.name → t.step ≤ step_of r → t.step ≤ length h.steps → auth sha256 h t.step ≡ t.auth
        → HasThread sha256 (front ∷ []) t
    front-has t named up within held_there =
        let last = kept.last in (
          front,
          ap (λ b. if b then Some front else None) ((bytes_eq-Decides h.name t.from).1 (sym named)),
          omega (arith, up, last),
          (fronts h (step_of r) t.step up within).1 ∙ held_there,
        )

    abbrev Received : (proof : List ℕ) → Type 0
    Received proof = (t : Thread) × HasThread sha256 (front ∷ []) t × ShowsReceived sha256 (file_lines lines) proof t

    each-received : (files : List (List ℕ)) (shown_by : List Receiving) → AreGood sha256 held h files shown_by
        → Each (λ (s : Receiving). step_of s ≤ step_of r) shown_by → Each Received files
    each-received [] [] good most = tt
    each-received [] (s ∷ more) good most = absurd good
    each-received (file ∷ files) [] good most = absurd good
    each-received (file ∷ files) (s ∷ more) good most =
        let one = shown file s good.0.0 in
        let within = within-some sha256 h (step_of s) s.entry.thread.auth good.0.1 in
        ((s.entry.thread, front-has s.entry.thread one.1 most.0 within.0 within.1, one.0), each-received files more good.1 most.1)

    last-received : IsAdoptionShown sha256 h held proofs (adopted_by h r)
        → (proof : List ℕ) × In proof proofs × ShowsReceived sha256 (file_lines lines) proof (last_thread sha256 front)
    last-received is =
        let same : (last_receiving sha256 h (adopted_by h r)).entry.thread ≡ last_thread sha256 front =
        thread-same h.name h.name (step_of r) (length front.steps) (auth sha256 h (step_of r)) (auth sha256 front (length front.steps))
        refl (sym kept.last) (sym kept.auth_same ∙ ap (auth sha256 front) (sym kept.last)) in
        (is.bytes, is.among, subst (ShowsReceived sha256 (file_lines lines) is.bytes) same (shown is.bytes (last_receiving sha256 h (adopted_by h r)) is.shows).0)

    only-one : IsSoInLists sha256 [] [] (last_thread sha256 front ∷ []) (λ family. hashed_texts sha256 [] (front ∷ family))
        (λ family. (other : History) × HasHistory family front.name other × Same front other (length front.steps))
    unfolding hashed_texts
    only-one family sound has carries =
        let other : History = carries.0.0 in
        let texts : List (List ℕ) = history_texts sha256 front ++ history_texts sha256 other in
        let all : List (List ℕ) = hashed_texts sha256 [] (front ∷ family) in
        let end : length front.steps ≤ length front.steps = omega arith in
        let one = same_to front other (length front.steps) kept.sound (sound_of family front.name other sound carries.0.1) end carries.0.2
        (sym carries.0.3) in
        let told = and_then sha256 texts (Same front other (length front.steps)) _ one (λ same. inl (other, carries.0.1, same)) in
        OrClash-wider sha256 texts all _
        (λ text there. Among-left text (family_texts sha256 (front ∷ family)) _
        (both_within (history_texts sha256 front) (history_texts sha256 other) (history_texts sha256 front) (family_texts sha256 family)
        (λ t is. is) (texts_within sha256 family front.name other carries.0.1) text there)) told

    adoption-says : (shown_by : List Receiving) → IsHistoryFileOf whole h → AreGood sha256 held h proofs shown_by
        → Each (λ (s : Receiving). step_of s ≤ step_of r) shown_by → IsAdoptionShown sha256 h held proofs (adopted_by h r)
        → bytes ≡ history_bytes front → IsPlainAdoption sha256 whole (file_lines lines) proofs bytes
    adoption-says shown_by file good most last written = record {
      history = front;
      tells = subst (λ b. Spells history_layout b front) (sym written) (front-spelled h whole (step_of r) file.spelled);
      sound = kept.sound;
      front = (h, file.spelled, subst (λ n. Same h front n) (sym kept.last) kept.same);
      received = each-received proofs shown_by good most;
      last = last-received last;
      only = only-one;
    }

-- ---- the run

tell-all : (told : Option Files) (files proofs : List (List ℕ)) → map (file_bytes told) files ≡ map Some proofs → TellAll told files proofs
tell-all told [] [] same = tt
tell-all told [] (p ∷ proofs) same = cc
tell-all told (f ∷ files) [] same = cc
tell-all told (f ∷ files) (p ∷ proofs) same =
    let first : file_bytes told f ≡ Some p = cc in
    let rest : map (file_bytes told) files ≡ map Some proofs = cc in
    (first, tell-all told files proofs rest)

history_in : Command → List ℕ
history_in (Adopt history lines proof more) = history
history_in _ = []

lines_of : Command → List ℕ
lines_of (Adopt history lines proof more) = lines
lines_of _ = []

proofs_of : Command → List (List ℕ)
proofs_of (Adopt history lines proof more) = proof ∷ more
proofs_of _ = []

module _ (so : (bytes file : List ℕ) (p : Proof) → Spells proof_layout bytes p → IsAccepted sha256 (map anchor_on (lines_in file)) p
    → IsSoByLines sha256 (file_lines file) (hashed_texts sha256 bytes) (report_of p))
    (readable : (bytes : List ℕ) (p : Proof) → Spells proof_layout bytes p → IsReport (report_of p))
    (same_to : (one other : History) (step : ℕ) → IsSound one → IsSound other → step ≤ length one.steps → step ≤ length other.steps
    → auth sha256 one step ≡ auth sha256 other step → OrClash sha256 (history_texts sha256 one ++ history_texts sha256 other) (Same one other step))
    (fronts : (g : History) (count step : ℕ) → step ≤ count → step ≤ length g.steps
    → Same g (first_steps g count) step × (auth sha256 (first_steps g count) step ≡ auth sha256 g step)) where
  -- what is taken over under the lines of the file
  over-says : (told : Option Files) (files proofs : List (List ℕ)) (whole lines bytes : List ℕ) (h : History) → IsHistoryFileOf whole h
      → TellAll told files proofs → IsTakenOver told (map anchor_on (lines_in lines)) files bytes h
      → IsPlainAdoption sha256 whole (file_lines lines) proofs bytes
  over-says told files proofs whole lines bytes h file all over =
      let is = over.answers proofs all in
      let r : Receiving = furthest is.0 is.1 in
      let held : List Thread = map anchor_on (lines_in lines) in
      let binds = over.binds proofs all in
      let kept : IsAdoptedKept sha256 h (adopted_by h r) = subst (λ (a : Adopted). IsAdoptedKept sha256 h a) is.3 binds.0 in
      let last : IsAdoptionShown sha256 h held proofs (adopted_by h r) = subst (λ (a : Adopted). IsAdoptionShown sha256 h held proofs a) is.3 binds.2 in
      adoption-says so readable h lines same_to fronts whole bytes proofs r kept (is.0 ∷ is.1) file is.2 (furthest-most is.0 is.1) last
      (over.file ∙ ap (λ (a : Adopted). history_bytes a.history) is.3)

  module _ {D : Type 0} (view : D → DiskView) (a : Around D) (status : ℕ) (run : EndsAllowed view a status) (zeroth : status ≡ 0)
      (history_name lines_name proof_name whole lines before : List ℕ) (more_names proofs : List (List ℕ)) where
    abbrev told : Option Files
    told = a.outside.inputs.told

    abbrev names : List (List ℕ)
    names = proof_name ∷ more_names

    abbrev Says : Type 0
    Says = (text : List ℕ) × (a.taken.after ≡ Some (before ++ text)) × IsPlainAdoption sha256 whole (file_lines lines) proofs text

    by_run : (one : IsAdoptedRun told a.words a.taken.before a.taken.after)
        → Adopt one.history one.file one.proof one.more ≡ Adopt history_name lines_name proof_name more_names
        → file_bytes told history_name ≡ Some whole → file_bytes told lines_name ≡ Some lines
        → map (file_bytes told) names ≡ map Some proofs → a.taken.before ≡ Some before → Says
    unfolding history_in lines_of proofs_of
    by_run one command whole_told lines_told proofs_told taken =
        let history_named : history_name ≡ one.history = sym (ap history_in command) in
        let lines_named : lines_name ≡ one.file = sym (ap lines_of command) in
        let proofs_named : one.proof ∷ one.more ≡ names = ap proofs_of command in
        let held : one.anchors ≡ map anchor_on (lines_in lines) =
        one.has_anchors.same lines (subst (λ name. file_bytes told name ≡ Some lines) lines_named lines_told) in
        let of = one.taken_over.holds whole (subst (λ name. file_bytes told name ≡ Some whole) history_named whole_told) in
        let over : IsTakenOver told (map anchor_on (lines_in lines)) names one.bytes of.0 =
        subst (λ (files : List (List ℕ)). IsTakenOver told (map anchor_on (lines_in lines)) files one.bytes of.0) proofs_named
        (subst (λ (anchors : List Thread). IsTakenOver told anchors (one.proof ∷ one.more) one.bytes of.0) held of.2) in
        (one.bytes, one.written before taken, over-says told names proofs whole lines one.bytes of.0 of.1 (tell-all told names proofs proofs_told) over)

    module _ (only_now : (d : D) (image : Image) → (view d).left_since (view d).moment image → (view d).may_leave image)
        (as_it_reads : (d : D) (image : Image) → (view d).content ≡ Some image → (view d).may_leave image) where
      pub plain_adoption : a.words ≡ codes "adopt" ∷ history_name ∷ lines_name ∷ proof_name ∷ more_names
          → file_bytes told history_name ≡ Some whole → file_bytes told lines_name ≡ Some lines
          → map (file_bytes told) names ≡ map Some proofs → a.taken.before ≡ Some before → Says
      plain_adoption are whole_told lines_told proofs_told taken =
          let is_done = done view only_now as_it_reads a status run zeroth in
          let found = some_of (λ (c : Command). (work view a.outside c).done is_done.0) (command_of a.words) is_done.1 in
          let tail : List (List ℕ) = history_name ∷ lines_name ∷ proof_name ∷ more_names in
          let asked : Adopt history_name lines_name proof_name more_names ≡ found.0 =
          adopt_words history_name lines_name proof_name more_names found.0 (sym (adopt_named tail) ∙ ap command_of (sym are) ∙ found.1) in
          let command : command_of a.words ≡ Some (Adopt history_name lines_name proof_name more_names) = found.1 ∙ ap Some (sym asked) in
          let one = adopted view a status run zeroth (subst (λ (o : Option Command). MatchOption o ⊥ AsksAdoption) (sym command) tt) in
          by_run one (same_some _ _ (sym one.is_command ∙ command)) whole_told lines_told proofs_told taken
