-- No two reports that a text can tell have one text.
use Rattle.std.proofs.Common.{◌≡◌, ◌≢◌, ℕ, ◌<◌, ◌^◌, List, [], ◌∷◌, ◌++◌, refl, ap, sym, ◌∙◌, subst, true}
use Rattle.std.specs.Prelude.{codes, decimal, slice_index, ◌-◌, ◌==◌, Option, Some, None, IfSome}
use Rattle.std.proofs.lemmas.List.{append_assoc}
use Rattle.tw_base.specs.declared.history.report.Claim.{Claim}
use Rattle.tw_base.specs.declared.history.report.Claim.TheVariants.{Exists, Precedes, Archived, Absent, Linked}
use Rattle.tw_base.specs.declared.history.report.Hop.{Hop}
use Rattle.tw_base.specs.declared.history.report.Report.{Report}
use Rattle.tw_base.specs.declared.history.report.Seen.{Seen}
use Rattle.tw_base.specs.declared.history.thread.Entry.{Entry}
use Rattle.tw_base.specs.declared.history.thread.Key.{Key}
use Rattle.tw_base.specs.declared.history.thread.Thread.{Thread}
use Rattle.tw_base.specs.kinds.Lists.{Each}
use Rattle.tw_base.specs.kinds.Names.{name_text}
use Rattle.tw_text.specs.Lines.{hex_text}
use Rattle.tw_text.specs.Reports.{report_text}
use Rattle.tw_plain.specs.Plain.{IsClaim, IsReport, IsSeen}
use Rattle.tw_plain.proofs.Cutting.{Line, same_lines}
use Rattle.tw_plain.proofs.ReportLines.{IsReadableHop, IsReadableThread, body_words, carried_words, event_words, hop_words, kind_of, kind_words}
use Rattle.tw_plain.proofs.ReportLines.{report-lines, report-text, report_words, seen_words, time_words, way_words}
use Rattle.tw_plain.proofs.Words.{hex-once, name-once, number-once}

-- no line of a time comes next
abbrev IsNoTime : List Line → Type 0
IsNoTime [] = Unit {0}
IsNoTime (l ∷ ls) = l.0 ≢ codes "time"

no_time-way : (hops : List Hop) (ts : List Thread) → IsNoTime (way_words hops ts)
no_time-way [] [] = tt
no_time-way [] (t ∷ ts) = λ same. cc
no_time-way (hop ∷ hops) ts = λ same. cc

head-is : (l : Line) (words : List (List ℕ)) → l ≡ (codes "time", words) → l.0 ≡ codes "time"
head-is l words same = ap (λ (line : Line). line.0) same

behind-is : (l m : Line) → l ≡ m → l.1 ≡ m.1
behind-is l m same = ap (λ (line : Line). line.1) same

times-once : (service other : List ℕ) (step next : ℕ) (time later : Option ℕ) (rest more : List Line)
    → IfSome time (λ t. t < 2 ^ 64) → IfSome later (λ t. t < 2 ^ 64) → IsNoTime rest → IsNoTime more
    → time_words service step time ++ rest ≡ time_words other next later ++ more → (time ≡ later) × (rest ≡ more)
times-once service other step next None None rest more s t r m same = (refl, same)
times-once service other step next None (Some later) [] more s t r m same = cc
times-once service other step next None (Some later) (l ∷ ls) more s t r m same = absurd (r (head-is l _ (let first : l ≡ (codes "time", name_text other ∷ decimal next ∷ decimal later ∷ []) = cc in first)))
times-once service other step next (Some time) None rest [] s t r m same = cc
times-once service other step next (Some time) None rest (l ∷ ls) s t r m same = absurd (m (head-is l _ (let first : (codes "time", name_text service ∷ decimal step ∷ decimal time ∷ []) ≡ l = cc in sym first)))
times-once service other step next (Some time) (Some later) rest more s t r m same =
    let line : (codes "time", name_text service ∷ decimal step ∷ decimal time ∷ [])
    ≡ (codes "time", name_text other ∷ decimal next ∷ decimal later ∷ []) = cc in
    let words : name_text service ∷ decimal step ∷ decimal time ∷ [] ≡ name_text other ∷ decimal next ∷ decimal later ∷ [] = behind-is _ _ line in
    (ap Some (number-once time later s t cc), cc)

seen_of : (service : List ℕ) (step index : ℕ) (event : List ℕ) (time : Option ℕ) → Seen
seen_of service step index event time =
    record { place = record { service = service; step = step; index = index }; event = event; time = time }

seen_of-same : (service other : List ℕ) (step next index at : ℕ) (event text : List ℕ) (time later : Option ℕ) → service ≡ other → step ≡ next
    → index ≡ at → event ≡ text → time ≡ later → seen_of service step index event time ≡ seen_of other next at text later
seen_of-same service other step next index at event text time later a b c d e = cc

seen-once : (one other : Seen) (rest more : List Line) → IsSeen one → IsSeen other → IsNoTime rest → IsNoTime more
    → seen_words one ++ rest ≡ seen_words other ++ more → (one ≡ other) × (rest ≡ more)
unfolding seen_of
seen-once one other rest more is are r m same =
    let first : event_words one ≡ event_words other = cc in
    let words = behind-is (event_words one) (event_words other) first in
    let tails : time_words one.place.service one.place.step one.time ++ rest ≡ time_words other.place.service other.place.step other.time ++ more = cc in
    let times = times-once one.place.service other.place.service one.place.step other.place.step one.time other.time rest more
    is.3 are.3 r m tails in (
      seen_of-same one.place.service other.place.service one.place.step other.place.step one.place.index other.place.index
          one.event other.event one.time other.time (name-once _ _ is.0.0 are.0.0 cc) (number-once _ _ is.0.1 are.0.1 cc)
          (number-once _ _ is.1 are.1 cc) (hex-once _ _ is.2 are.2 cc) times.0,
      times.1,
    )

hop-same : (from other : List ℕ) (step next : ℕ) (by_ to : List ℕ) (archived at : ℕ) → from ≡ other → step ≡ next → by_ ≡ to → archived ≡ at
    → (let one : Hop = record { from = from; step = step; by = by_; archived = archived } in one)
    ≡ record { from = other; step = next; by = to; archived = at }
hop-same from other step next by_ to archived at a b c d = cc

hop-once : (one other : Hop) → IsReadableHop one → IsReadableHop other → hop_words one ≡ hop_words other → one ≡ other
hop-once one other is are same =
    let words = behind-is (hop_words one) (hop_words other) same in
    hop-same one.from other.from one.step other.step one.by other.by one.archived other.archived
    (name-once _ _ is.0.0 are.0.0 cc) (number-once _ _ is.0.1 are.0.1 cc) (name-once _ _ is.1.0 are.1.0 cc) (number-once _ _ is.1.1 are.1.1 cc)

thread-same : (from other : List ℕ) (step next : ℕ) (auth text : List ℕ) → from ≡ other → step ≡ next → auth ≡ text
    → (let one : Thread = record { from = from; step = step; auth = auth } in one) ≡ record { from = other; step = next; auth = text }
thread-same from other step next auth text a b c = cc

thread-once : (one other : Thread) → IsReadableThread one → IsReadableThread other → carried_words one ≡ carried_words other → one ≡ other
thread-once one other is are same =
    let words = behind-is (carried_words one) (carried_words other) same in
    thread-same one.from other.from one.step other.step one.auth other.auth
    (name-once _ _ is.0.0 are.0.0 cc) (number-once _ _ is.0.1 are.0.1 cc) (hex-once _ _ is.1 are.1 cc)

no_hop : {P : Type 0} (t : Thread) (hop : Hop) → carried_words t ≡ hop_words hop → P
no_hop t hop same = let heads : codes "carried" ≡ codes "hop" = ap (λ (l : Line). l.0) same in absurd cc

way-once : (hops others : List Hop) (ts us : List Thread) → Each IsReadableHop hops → Each IsReadableHop others → Each IsReadableThread ts
    → Each IsReadableThread us → way_words hops ts ≡ way_words others us → (hops ≡ others) × (ts ≡ us)
way-once [] [] [] [] h i t u same = (refl, refl)
way-once [] [] [] (x ∷ us) h i t u same = cc
way-once [] [] (x ∷ ts) [] h i t u same = cc
way-once [] [] (x ∷ ts) (y ∷ us) h i t u same =
    let first : x ≡ y = thread-once x y t.0 u.0 cc in
    let later = way-once [] [] ts us h i t.1 u.1 cc in
    (refl, (let tails : ts ≡ us = later.1 in cc))
way-once [] (hop ∷ others) [] us h i t u same = cc
way-once [] (hop ∷ others) (x ∷ ts) us h i t u same = no_hop x hop cc
way-once (hop ∷ hops) [] ts [] h i t u same = cc
way-once (hop ∷ hops) [] ts (x ∷ us) h i t u same = no_hop x hop (let first : hop_words hop ≡ carried_words x = cc in sym first)
way-once (hop ∷ hops) (next ∷ others) ts us h i t u same =
    let first : hop ≡ next = hop-once hop next h.0 i.0 cc in
    let later = way-once hops others ts us h.1 i.1 t u cc in
    (let tails : hops ≡ others = later.0 in cc, later.1)

-- ---- claims

entry-same : (from other : List ℕ) (step next : ℕ) (auth text : List ℕ) (archived at : ℕ) → from ≡ other → step ≡ next → auth ≡ text → archived ≡ at
    → (let one : Entry = record { thread = record { from = from; step = step; auth = auth }; archived = archived } in one)
    ≡ record { thread = record { from = other; step = next; auth = text }; archived = at }
entry-same from other step next auth text archived at a b c d = cc

key-same : (from other : List ℕ) (step next : ℕ) → from ≡ other → step ≡ next
    → (let one : Key = record { from = from; step = step } in one) ≡ record { from = other; step = next }
key-same from other step next a b = cc

-- the only line of these claims
abbrev line_of : Claim → Line
line_of (Archived service step e) =
    (codes "thread", name_text service ∷ decimal step ∷ name_text e.thread.from ∷ decimal e.thread.step ∷ hex_text e.thread.auth ∷ decimal e.archived ∷ [])
line_of (Absent service step key) = (codes "absent", name_text service ∷ decimal step ∷ name_text key.from ∷ decimal key.step ∷ [])
line_of (Linked service step top auth) = (codes "link", name_text service ∷ decimal step ∷ decimal top ∷ hex_text auth ∷ [])
line_of _ = ([], [])

-- kinds are told apart by their first letters, counted from `a`
letter : Claim → ℕ
letter (Exists seen) = 5
letter (Precedes first second) = 16
letter (Archived service step e) = 20
letter (Absent service step key) = 1
letter (Linked service step top auth) = 12

letter-is : (claim : Claim) → slice_index (kind_of claim) 0 - 96 ≡ letter claim
unfolding letter
letter-is (Exists seen) = refl
letter-is (Precedes first second) = refl
letter-is (Archived service step e) = refl
letter-is (Absent service step key) = refl
letter-is (Linked service step top auth) = refl

letter-own : (claim : Claim) → (letter claim == letter claim) ≡ true
unfolding letter
letter-own (Exists seen) = refl
letter-own (Precedes first second) = refl
letter-own (Archived service step e) = refl
letter-own (Absent service step key) = refl
letter-own (Linked service step top auth) = refl

same_letter : (one other : Claim) → kind_of one ≡ kind_of other → (letter one == letter other) ≡ true
same_letter one other same =
    let letters : letter one ≡ letter other = sym (letter-is one) ∙ ap (λ kind. slice_index kind 0 - 96) same ∙ letter-is other in
    subst (λ n. (letter one == n) ≡ true) letters (letter-own one)

-- both claims are of one kind
abbrev AreOfOneKind : (one other : Claim) → Type 0
AreOfOneKind (Exists a) (Exists b) = Unit {0}
AreOfOneKind (Precedes a b) (Precedes c d) = Unit {0}
AreOfOneKind (Archived service step e) (Archived other next f) = Unit {0}
AreOfOneKind (Absent service step key) (Absent other next asked) = Unit {0}
AreOfOneKind (Linked service step top auth) (Linked other next last text) = Unit {0}
AreOfOneKind _ _ = ⊥

of_one_kind : (one other : Claim) → (letter one == letter other) ≡ true → AreOfOneKind one other
unfolding letter
of_one_kind (Exists a) (Exists b) same = tt
of_one_kind (Precedes a b) (Precedes c d) same = tt
of_one_kind (Archived service step e) (Archived other next f) same = tt
of_one_kind (Absent service step key) (Absent other next asked) same = tt
of_one_kind (Linked service step top auth) (Linked other next last text) same = tt
of_one_kind (Exists _) _ same = cc
of_one_kind (Precedes _ _) _ same = cc
of_one_kind (Archived _ _ _) _ same = cc
of_one_kind (Absent _ _ _) _ same = cc
of_one_kind (Linked _ _ _ _) _ same = cc

module _ (rest more : List Line) where
  archived-once : (service other : List ℕ) (step next : ℕ) (e f : Entry) → IsClaim (Archived service step e) → IsClaim (Archived other next f)
      → body_words (Archived service step e) ++ rest ≡ body_words (Archived other next f) ++ more → (Archived service step e ≡ Archived other next f) × (rest ≡ more)
  archived-once service other step next e f is are same =
      let words = behind-is _ _ (let line : line_of (Archived service step e) ≡ line_of (Archived other next f) = cc in line) in
      let named : service ≡ other = name-once _ _ is.0.0 are.0.0 cc in
      let at : step ≡ next = number-once _ _ is.0.1 are.0.1 cc in
      let entry : e ≡ f = entry-same e.thread.from f.thread.from e.thread.step f.thread.step e.thread.auth f.thread.auth e.archived f.archived
      (name-once _ _ is.1.0 are.1.0 cc) (number-once _ _ is.1.1 are.1.1 cc) (hex-once _ _ is.2 are.2 cc) (number-once _ _ is.3 are.3 cc) in
      (cc, cc)

  absent-once : (service other : List ℕ) (step next : ℕ) (key asked : Key) → IsClaim (Absent service step key) → IsClaim (Absent other next asked)
      → body_words (Absent service step key) ++ rest ≡ body_words (Absent other next asked) ++ more → (Absent service step key ≡ Absent other next asked) × (rest ≡ more)
  absent-once service other step next key asked is are same =
      let words = behind-is _ _ (let line : line_of (Absent service step key) ≡ line_of (Absent other next asked) = cc in line) in
      let named : service ≡ other = name-once _ _ is.0.0 are.0.0 cc in
      let at : step ≡ next = number-once _ _ is.0.1 are.0.1 cc in
      let keys : key ≡ asked = key-same key.from asked.from key.step asked.step (name-once _ _ is.1.0 are.1.0 cc) (number-once _ _ is.1.1 are.1.1 cc) in
      (cc, cc)

  linked-once : (service other : List ℕ) (step next top last : ℕ) (auth text : List ℕ) → IsClaim (Linked service step top auth) → IsClaim (Linked other next last text)
      → body_words (Linked service step top auth) ++ rest ≡ body_words (Linked other next last text) ++ more
      → (Linked service step top auth ≡ Linked other next last text) × (rest ≡ more)
  linked-once service other step next top last auth text is are same =
      let words = behind-is _ _ (let line : line_of (Linked service step top auth) ≡ line_of (Linked other next last text) = cc in line) in
      let named : service ≡ other = name-once _ _ is.0.0 are.0.0 cc in
      let at : step ≡ next = number-once _ _ is.0.1 are.0.1 cc in
      let upper : top ≡ last = number-once _ _ is.1 are.1 cc in
      let held : auth ≡ text = hex-once _ _ is.2 are.2 cc in
      (cc, cc)

  -- what stands behind the lines of a claim is no line of a time
  body-once : (one other : Claim) → IsClaim one → IsClaim other → IsNoTime rest → IsNoTime more → AreOfOneKind one other
      → body_words one ++ rest ≡ body_words other ++ more → (one ≡ other) × (rest ≡ more)
  body-once (Exists a) (Exists b) is are r m kinds same = let seen = seen-once a b rest more is are r m same in (ap Exists seen.0, seen.1)
  body-once (Precedes a b) (Precedes c d) is are r m kinds same =
      let moved = sym (append_assoc (seen_words a) (seen_words b) rest) ∙ same ∙ append_assoc (seen_words c) (seen_words d) more in
      let first = seen-once a c (seen_words b ++ rest) (seen_words d ++ more) is.0 are.0 (λ e. cc) (λ e. cc) moved in
      let second = seen-once b d rest more is.1 are.1 r m first.1 in
      (let one : a ≡ c = first.0 in let two : b ≡ d = second.0 in cc, second.1)
  body-once (Archived service step e) (Archived other next f) is are r m kinds same = archived-once service other step next e f is are same
  body-once (Absent service step key) (Absent other next asked) is are r m kinds same = absent-once service other step next key asked is are same
  body-once (Linked service step top auth) (Linked other next last text) is are r m kinds same =
      linked-once service other step next top last auth text is are same
  body-once (Exists _) _ is are r m kinds same = absurd kinds
  body-once (Precedes _ _) _ is are r m kinds same = absurd kinds
  body-once (Archived _ _ _) _ is are r m kinds same = absurd kinds
  body-once (Absent _ _ _) _ is are r m kinds same = absurd kinds
  body-once (Linked _ _ _ _) _ is are r m kinds same = absurd kinds

report-same : (claim other : Claim) (hops others : List Hop) (ts us : List Thread) → claim ≡ other → hops ≡ others → ts ≡ us
    → (let one : Report = record { claim = claim; hops = hops; carried = ts } in one) ≡ record { claim = other; hops = others; carried = us }
report-same claim other hops others ts us a b c = cc

kinds-are : (kind other : List ℕ) → kind_words kind ≡ kind_words other → kind ≡ other
kinds-are kind other same = let words = behind-is (kind_words kind) (kind_words other) same in cc

pub report-once : (one other : Report) → IsReport one → IsReport other → report_text one ≡ report_text other → one ≡ other
report-once one other is are same =
    let words = same_lines (report_words one) (report_words other) (report-lines one is) (report-lines other are)
    (sym (report-text one) ∙ same ∙ report-text other) in
    let first : kind_words (kind_of one.claim) ≡ kind_words (kind_of other.claim) = cc in
    let claims = body-once (way_words one.hops one.carried) (way_words other.hops other.carried) one.claim other.claim
    is.claim are.claim (no_time-way one.hops one.carried) (no_time-way other.hops other.carried) (of_one_kind one.claim other.claim (same_letter one.claim other.claim (kinds-are _ _ first))) cc in
    let ways = way-once one.hops other.hops one.carried other.carried is.hops are.hops is.carried are.carried claims.1 in
    report-same one.claim other.claim one.hops other.hops one.carried other.carried claims.0 ways.0 ways.1
