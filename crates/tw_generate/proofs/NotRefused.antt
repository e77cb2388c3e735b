-- No call of a schedule is refused.
use Rattle.std.proofs.Common.{◌≡◌, ◌≢◌, ◌⊎◌, ℕ, suc, zero, ◌+◌, ◌*◌, ◌≤◌, ◌<◌, List, [], ◌∷◌, ◌++◌, length, Bool, true}
use Rattle.std.proofs.Common.{false, refl, ap, sym, ◌∙◌, subst, inl, inr, arith}
use Rattle.std.specs.Prelude.{◌%◌, ◌&&◌, ◌==◌, Option, Some, None, MatchOption, nat_le, nat_lt, if◌then◌else◌}
use Rattle.std.specs.Str.{bytes_eq}
use Rattle.std.proofs.lemmas.Bool.{and_from, cases_lt, le-leb, le-ltb, lt-leb, lt-ltb}
use Rattle.std.proofs.lemmas.Slice.Eq.{bytes_eq-Decides}
use Rattle.tw_answers.specs.Limits.{append_refusal, archive_refusal, clock_refusal, events_size, first_long}
use Rattle.tw_answers.specs.Limits.{full_refusal, length_refusal, limits_refusal, link_refusal, or_else, order_refusal}
use Rattle.tw_answers.specs.Limits.{thread_refusal, top_refusal}
use Rattle.tw_base.specs.declared.history.refusal.Refusal.{Refusal}
use Rattle.tw_base.specs.declared.history.refusal.Refusal.TheVariants.{Full, NoStep, TooLong, TooMany}
use Rattle.tw_archive.specs.Judging.{kept_auth, last_entry_step, last_of_peer}
use Rattle.tw_base.specs.declared.history.question.Question.{Question}
use Rattle.tw_base.specs.declared.history.question.Question.TheVariants as ask
use Rattle.tw_base.specs.declared.history.thread.Entry.{Entry}
use Rattle.tw_base.specs.declared.history.thread.Thread.{Thread}
use Rattle.tw_base.specs.declared.kinds.limits.TheConstants.{LAST_STEP, MOST_EVENTS, MOST_EVENT_BYTES, MOST_STEP_BYTES}
use Rattle.tw_base.specs.history.Auth.{auth, auths}
use Rattle.tw_base.specs.history.Family.{HasThread}
use Rattle.tw_base.specs.history.History.{History}
use Rattle.tw_base.specs.history.Limits.{IsEntryInRange, MayRecord}
use Rattle.tw_base.specs.history.Sound.{IsSound}
use Rattle.tw_base.specs.history.Tree.{IsRising, entries, tree}
use Rattle.tw_base.specs.kinds.Lists.{Each, In}
use Rattle.tw_base.specs.kinds.Texts.{genesis_text}
use Rattle.tw_msg.specs.HistoryMessages.{IsMessageOf, thread_at_step}
use Rattle.tw_msg.specs.declared.message.Message.{Message}
use Rattle.tw_service.specs.EventStep.{with_events_at}
use Rattle.tw_service.specs.Machine.{RepliesTo, append_table, received_as}
use Rattle.tw_service.specs.Machine.Call.{Append, Ask, Receive}
use Rattle.tw_service.specs.Machine.Reply.{Refused}
use Rattle.tw_service.specs.Questions.{AreInOrder, history_refusal, pages_refusal, question_refusal}
use Rattle.tw_service.specs.Stands.{greatest_time}
use Rattle.tw_service.specs.Tops.{top_or_last}
use Rattle.tw_service.specs.declared.receiving.Reception.{Reception}
use Rattle.tw_service.specs.declared.receiving.Reception.TheVariants.{Archive, Known}
use Rattle.tw_generate.specs.Coming.{AllCanBeDone, CanBeDone, IsNotRefused}
use Rattle.tw_generate.specs.Draws.{after_step, step_events}
use Rattle.tw_generate.specs.Schedules.{IsDone, LeadTo, ScheduledAct, Trio, Who, after_rounds, all_append, all_tell}
use Rattle.tw_generate.specs.Schedules.{alpha_name, beta_name, end_event, gamma_name, last_heard, no_steps}
use Rattle.tw_generate.specs.Schedules.{round_of_acts, rounds_of, schedule, trio_history, with_history}
use Rattle.tw_generate.specs.Schedules.ScheduledAct.{Appends, Tells}
use Rattle.tw_generate.specs.Schedules.Who.{Alpha, Beta, Gamma}
use Rattle.tw_generate.specs.Summing.{last, trio_family}
use Rattle.tw_generate.proofs.Accepted.{own-had}
use Rattle.tw_generate.proofs.Acts.{done-moves, done-stand, front-stands, no-clock, rounds-length, rounds-may}
use Rattle.tw_generate.proofs.DrawnEvents.{end-may, step-may}
use Rattle.tw_generate.proofs.FirstEntries.{received-at}
use Rattle.tw_generate.proofs.LastHeard.{last-entry, last-heard}
use Rattle.tw_generate.proofs.Ends.{has-step}
use Rattle.tw_generate.proofs.Leading.{with_steps}
use Rattle.tw_generate.proofs.Standing.{AllHad, AreNamed, Stand, each-who}

-- ---- the tables

not-full : (n : ℕ) → n < LAST_STEP → full_refusal n ≡ None
not-full n room = ap (λ b. if b then Some Full else None) (lt-leb LAST_STEP n room)

none-long : (events : List (List ℕ)) → Each (λ (event : List ℕ). length event ≤ MOST_EVENT_BYTES) events
    → first_long events ≡ None
none-long [] sizes = refl
none-long (event ∷ events) sizes = ap (λ b. if b then Some event else first_long events)
    (le-ltb MOST_EVENT_BYTES (length event) sizes.0) ∙ none-long events sizes.1

within-limits : (events : List (List ℕ)) → MayRecord events → limits_refusal events ≡ None
unfolding limits_refusal
within-limits events may =
    ap (λ b. if b then Some (TooMany (length events)) else length_refusal (first_long events) (events_size events))
    (le-ltb MOST_EVENTS (length events) may.are.count)
    ∙ ap (λ o. length_refusal o (events_size events)) (none-long events may.are.sizes)
    ∙ ap (λ b. if b then Some (TooLong (events_size events)) else None) (le-ltb MOST_STEP_BYTES (events_size events)
    may.fit)

may-append : (n : ℕ) (clock : Option ℕ) (events : List (List ℕ)) → n < LAST_STEP → MayRecord events
    → append_refusal false n clock events None ≡ None
unfolding append_refusal
may-append n clock events room may =
    ap (λ o. or_else o (or_else (limits_refusal events) (clock_refusal clock None))) (not-full n room)
    ∙ ap (λ o. or_else o (clock_refusal clock None)) (within-limits events may) ∙ no-clock clock

may-archive : (n : ℕ) (clock : Option ℕ) → n < LAST_STEP → archive_refusal n clock None ≡ None
unfolding archive_refusal
may-archive n clock room = ap (λ o. or_else o (clock_refusal clock None)) (not-full n room) ∙ no-clock clock

-- steps in order are refused by no table of a question
passes : (a b : Bool) (n : ℕ) → a ≡ true → b ≡ true → (if a && b then None else Some (NoStep n)) ≡ None
passes a b n one other = ap (λ c. if c then None else Some (NoStep n)) (and_from a b one other)

steps-pass : (n step top : ℕ) → (1 ≤ step) × (step ≤ top) × (top ≤ n) → order_refusal false n step top ≡ None
unfolding order_refusal
steps-pass n step top order =
    passes (nat_le 1 step && nat_le step top) (nat_le top n) n (and_from (nat_le 1 step) (nat_le step top)
    (le-leb 1 step order.0) (le-leb step top order.1)) (le-leb top n order.2)

in-order : (n : ℕ) (q : Question) → AreInOrder n q → question_refusal false n q ≡ None
unfolding question_refusal link_refusal thread_refusal top_refusal
in-order n (ask.Link step top) order =
    passes (nat_le step (top_or_last top n)) (nat_le 1 (top_or_last top n) && nat_le (top_or_last top n) n) n
    (le-leb step (top_or_last top n) order.1)
    (and_from (nat_le 1 (top_or_last top n)) (nat_le (top_or_last top n) n) (le-leb 1 (top_or_last top n) order.0)
    (le-leb (top_or_last top n) n order.2))
in-order n (ask.High step peer top) order = passes (nat_le 1 (top_or_last top n)) (nat_le (top_or_last top n) n) n
    (le-leb 1 (top_or_last top n) order.0) (le-leb (top_or_last top n) n order.1)
in-order n (ask.ThreadOut since) order = passes (nat_lt 0 n) (nat_le since n) n (lt-ltb 0 n (omega (arith, order.0)))
    (le-leb since n order.1)
in-order n ask.Export order = refl
in-order n (ask.Event step index top) order = steps-pass n step (top_or_last top n) order
in-order n (ask.Thread step key top) order = steps-pass n step (top_or_last top n) order
in-order n (ask.Absent step key top) order = steps-pass n step (top_or_last top n) order
in-order n (ask.Low step peer top) order = steps-pass n step (top_or_last top n) order

-- where the table has no refusal none is answered
by-table : (P : Type 0) (Q : Refusal → Type 0) (o : Option Refusal) → o ≡ None → (P → ⊥) → MatchOption o P Q → ⊥
by-table P Q None is never made = never made
by-table P Q (Some r) is never made = cc

-- ---- names

abbrev name_of : Who → List ℕ
name_of Alpha = alpha_name
name_of Beta = beta_name
name_of Gamma = gamma_name

named : (who : Who) (t : Trio) → AreNamed t → (trio_history who t).name ≡ name_of who
named Alpha t names = names.alpha
named Beta t names = names.beta
named Gamma t names = names.gamma

abbrev AreApart : (from to : Who) → Type 0
AreApart from to = bytes_eq (name_of from) (name_of to) ≡ false

apart : (from to : Who) (t : Trio) → AreNamed t → AreApart from to → (trio_history from t).name
    ≢ (trio_history to t).name
apart from to t names differ same =
    let equal : name_of from ≡ name_of to = sym (named from t names) ∙ same ∙ named to t names in
    let yes_it : bytes_eq (name_of from) (name_of to) ≡ true = (bytes_eq-Decides (name_of from) (name_of to)).1 equal in
    let bad : true ≡ false = sym yes_it ∙ differ in cc

module _ (dig : List ℕ → List ℕ) where
  append-goes : (h : History) (events : List (List ℕ)) → last h < LAST_STEP → MayRecord events
      → IsNotRefused dig h (Append events None)
  append-goes h events room may refusal next step =
      by-table _ _ (append_table h events None) (may-append (last h) (greatest_time h) events room may)
      (λ made. let bad = made.1 in cc) step

  -- a question whose steps are in order is answered, where pages refuse nothing
  pub question-goes : (h : History) (q : Question) → AreInOrder (last h) q → pages_refusal h q ≡ None
      → IsNotRefused dig h (Ask q)
  question-goes h q order none refusal next step =
      by-table _ _ (history_refusal h q) (ap (λ o. or_else o (pages_refusal h q)) (in-order (last h) q order) ∙ none)
      (λ made. let bad = made.2 in cc) step.1

  genesis : (h : History) → auth dig h 0 ≡ dig (genesis_text h.name)
  unfolding auth auths
  genesis h = refl

  not-refused : (h : History) (m : Message) (refusal : Refusal) (next : History) (x : Reception) → (x ≡ Archive)
      ⊎ ((archived : ℕ) × (x ≡ Known archived))
      → RepliesTo dig h m None (Refused refusal) next x → ⊥
  not-refused h m refusal next x (inl is) step = let done : RepliesTo dig h m None (Refused refusal) next Archive =
      subst (RepliesTo dig h m None (Refused refusal) next) is step in (let bad = done.2 in cc)
  not-refused h m refusal next x (inr is) step =
      let done : RepliesTo dig h m None (Refused refusal) next (Known is.0) =
      subst (RepliesTo dig h m None (Refused refusal) next) is.1 step in (let bad = done.1 in cc)

  module _ (last_law : (es : List Entry) (peer : List ℕ) (e : Entry) → IsRising es → Each IsEntryInRange es
      → last_of_peer es peer ≡ Some e
      → In e es × (e.thread.from ≡ peer) × ((f : Entry) → In f es → f.thread.from ≡ peer
      → (f ≡ e) ⊎ (f.thread.step < e.thread.step)))
      (no_last_law : (es : List Entry) (peer : List ℕ) → IsRising es → Each IsEntryInRange es → last_of_peer es peer
      ≡ None → (f : Entry) → In f es → f.thread.from ≡ peer → ⊥)
      (accepts_law : (h peer : History) (since : ℕ) (m : Message) (time : Option ℕ) → IsSound h → peer.name ≢ h.name
      → IsMessageOf dig peer since m →
      last_entry_step (last_of_peer (entries (tree h (last h))) peer.name) ≡ since → kept_auth dig peer.name
      (last_of_peer (entries (tree h (last h))) peer.name) ≡ auth dig peer since → since < last peer →
      archive_refusal (last h) (greatest_time h) time ≡ None → received_as dig h m time ≡ Archive)
      (knows_law : (h : History) (m : Message) (time : Option ℕ) (e : Entry) → IsSound h → m.thread.from ≢ h.name
      → In e (entries (tree h (last h))) → e.thread ≡ m.thread →
      received_as dig h m time ≡ Known e.archived) where
    module _ (t : Trio) (most : ℕ) (s : Stand dig t most) (some : (who : Who) → 0 < last (trio_history who t))
        (from to : Who) (differ : AreApart from to) where
      abbrev a : History
      a = trio_history from t

      abbrev b : History
      b = trio_history to t

      abbrev es : List Entry
      es = entries (tree b (last b))

      sound : IsSound b
      sound = each-who dig IsSound to t s.sound

      abbrev found : Option Entry
      found = last_of_peer es a.name

      found-is : last_entry_step found ≡ last_heard b a.name
      found-is = last-heard a.name (λ xs e. last_law xs a.name e) (λ xs. no_last_law xs a.name) b sound

      -- what is found is a thread that the other history has
      found-had : (e : Entry) → found ≡ Some e → In e es × (e.thread.from ≡ a.name) × (e.thread.step ≤ last a)
          × (auth dig a e.thread.step ≡ e.thread.auth)
      found-had e is =
          let there = last-entry a.name (λ xs x. last_law xs a.name x) (λ xs. no_last_law xs a.name) b sound e is in
          let at = received-at b (last b) e there.1 in
          let has : HasThread dig (trio_family t) e.thread = each-who dig (AllHad dig (trio_family t)) to t s.had
          e.archived e at.0 in
          let own = own-had dig from t e.thread s.names has there.2 in
          (there.0, there.2, own.0, own.1)

      order : last_heard b a.name ≤ last a
      order = by found refl
        where
          by : (o : Option Entry) → found ≡ o → last_heard b a.name ≤ last a
          by None is = omega (arith, sym found-is, ap last_entry_step is)
          by (Some e) is = omega (arith, sym found-is, ap last_entry_step is, (found-had e is).2)

      kept-is : (o : Option Entry) → found ≡ o → kept_auth dig a.name o ≡ auth dig a (last_entry_step o)
      kept-is None is = sym (genesis a)
      kept-is (Some e) is = sym (found-had e is).3

      receive-goes : (m : Message) → IsMessageOf dig a (last_heard b a.name) m → last b < LAST_STEP
          → IsNotRefused dig b (Receive m None)
      receive-goes m is room refusal next step = not-refused b m refusal next (received_as dig b m None) answer step
        where
          known : (o : Option Entry) → found ≡ o → last a ≤ last_heard b a.name → (archived : ℕ)
              × (received_as dig b m None ≡ Known archived)
          known None none all = absurd (omega (arith, all, sym found-is, ap last_entry_step none, is.some))
          known (Some e) found_e all =
              let had = found-had e found_e in
              let at : e.thread.step ≡ last a = omega (arith, all, sym found-is, ap last_entry_step found_e, had.2) in
              let same : e.thread ≡ thread_at_step dig a (last a) =
              (λ j. record { from = had.1 j; step = at j; auth = (sym had.3 ∙ ap (auth dig a) at) j }) in
              let other : m.thread.from ≢ b.name = λ eq. apart from to t s.names differ
              (sym (ap (λ (x : Thread). x.from) is.thread) ∙ eq) in
              (e.archived, knows_law b m None e sound other had.0 (same ∙ sym is.thread))

          answer : (received_as dig b m None ≡ Archive) ⊎ ((archived : ℕ) × (received_as dig b m None ≡ Known archived))
          answer = elim (cases_lt (last_heard b a.name) (last a)) [
            | inl more ↦ inl (accepts_law b a (last_heard b a.name) m None sound (apart from to t s.names differ) is
                found-is
                (kept-is found refl ∙ ap (auth dig a) found-is) more (may-archive (last b) (greatest_time b) room))
            | inr all ↦ inr (known found refl all)
          ]

      tells-go : last b < LAST_STEP → CanBeDone dig (Tells from to) t
      unfolding pages_refusal
      tells-go room = (
        question-goes a (ask.ThreadOut (last_heard b a.name)) (some from, order) refl,
        λ m is. receive-goes m is room,
      )

    -- ---- all acts

    few : (t : Trio) (most : ℕ) → Stand dig t most → (who : Who) → last (trio_history who t) ≤ most
    few t most s who = each-who dig (λ (h : History). length h.steps ≤ most) who t s.few

    abbrev IsTold : ScheduledAct → Type 0
    IsTold (Appends who events) = ⊥
    IsTold (Tells from to) = AreApart from to

    abbrev HaveSteps : Trio → Type 0
    HaveSteps t = (who : Who) → 0 < last (trio_history who t)

    put-steps : (who : Who) (t : Trio) (h : History) → last (trio_history who t) ≤ last h → HaveSteps t
        → HaveSteps (with_history who h t)
    put-steps Alpha t h longer some = λ who. (elim who as (λ w. 0 < last (trio_history w (with_history Alpha h t)))
        [ Alpha ↦ omega (arith, longer, some Alpha) | Beta ↦ some Beta | Gamma ↦ some Gamma ])
    put-steps Beta t h longer some = λ who. (elim who as (λ w. 0 < last (trio_history w (with_history Beta h t)))
        [ Alpha ↦ some Alpha | Beta ↦ omega (arith, longer, some Beta) | Gamma ↦ some Gamma ])
    put-steps Gamma t h longer some = λ who. (elim who as (λ w. 0 < last (trio_history w (with_history Gamma h t)))
        [ Alpha ↦ some Alpha | Beta ↦ some Beta | Gamma ↦ omega (arith, longer, some Gamma) ])

    done-steps : (act : ScheduledAct) (t next : Trio) → IsDone dig act t next → HaveSteps t → HaveSteps next
    done-steps act t next done some = let m = done-moves dig act t next done in subst HaveSteps (sym m.is)
        (put-steps m.who t m.history m.on.longer some)

    all-told : (acts : List ScheduledAct) (t : Trio) (most : ℕ) → Each IsTold acts → most + length acts ≤ LAST_STEP
        → Stand dig t most → HaveSteps t → AllCanBeDone dig acts t
    unfolding AllCanBeDone
    all-told [] t most told room s some = tt
    all-told (Appends who events ∷ acts) t most told room s some = absurd told.0
    all-told (Tells from to ∷ acts) t most told room s some = (
      tells-go t most s some from to told.0 (omega (arith, room, few t most s to)),
      λ next done. all-told acts next (suc most) told.1 (omega (arith, room)) (done-stand dig (Tells from to) t next
          most done tt (omega (arith, room)) s) (done-steps (Tells from to) t next done some),
    )

    appends-go : (who : Who) (events : List (List ℕ)) (t : Trio) (most : ℕ) → MayRecord events → most < LAST_STEP
        → Stand dig t most → CanBeDone dig (Appends who events) t
    appends-go who events t most may room s = append-goes (trio_history who t) events
        (omega (arith, room, few t most s who)) may

    -- each appends, and then what goes on
    all-appended : (x y z : List (List ℕ)) (acts : List ScheduledAct) (t : Trio) (most : ℕ) → MayRecord x → MayRecord y
        → MayRecord z → most + 3 ≤ LAST_STEP → Stand dig t most
        → ((next : Trio) → Stand dig next (most + 3) → HaveSteps next → AllCanBeDone dig acts next)
        → AllCanBeDone dig (all_append x y z ++ acts) t
    unfolding AllCanBeDone
    all-appended x y z acts t most may_x may_y may_z room s rest = (
      appends-go Alpha x t most may_x (omega (arith, room)) s,
      λ one done_one.
          let s_one = done-stand dig (Appends Alpha x) t one most done_one may_x (omega (arith, room)) s in (
            appends-go Beta y one (suc most) may_y (omega (arith, room)) s_one,
            λ two done_two.
                let s_two = done-stand dig (Appends Beta y) one two (suc most) done_two may_y (omega (arith, room))
                s_one in (
                  appends-go Gamma z two (suc (suc most)) may_z (omega (arith, room)) s_two,
                  λ next done.
                      let s_next = done-stand dig (Appends Gamma z) two next (suc (suc most)) done may_z
                      (omega (arith, room)) s_two in
                      rest next (subst (λ n. Stand dig next n) (omega arith) s_next)
                      (subst HaveSteps
                      (sym (done ∙ ap (λ (u : Trio). with_history Gamma (with_events_at u.gamma z None) u)
                      (done_two ∙ ap (λ (u : Trio). with_history Beta (with_events_at u.beta y None) u) done_one)))
                      (λ who. (elim who as (λ w. 0 < last (trio_history w (with_steps dig t x y z)))
                      [ Alpha ↦ has-step t.alpha x | Beta ↦ has-step t.beta y | Gamma ↦ has-step t.gamma z ]))),
                ),
          ),
    )

    messages-go : (told : Bool) (t : Trio) (most : ℕ) → most + 6 ≤ LAST_STEP → Stand dig t most → HaveSteps t
        → AllCanBeDone dig (if told then all_tell else []) t
    messages-go true t most room s some = all-told all_tell t most (refl, (refl, (refl, (refl, (refl, (refl, tt))))))
        room s some
    messages-go false t most room s some = all-told [] t most tt (omega (arith, room)) s some

    round-goes : (x number : ℕ) (t : Trio) (most : ℕ) → most + 9 ≤ LAST_STEP → Stand dig t most
        → AllCanBeDone dig (round_of_acts x number) t
    round-goes x number t most room s =
        all-appended (step_events x) (step_events (after_step x)) (step_events (after_step (after_step x)))
        (if number % 50 == 0 then all_tell else []) t most
        (step-may x) (step-may (after_step x)) (step-may (after_step (after_step x))) (omega (arith, room)) s
        (λ next stand some. messages-go (number % 50 == 0) next (most + 3) (omega (arith, room)) stand some)

    -- acts, and then others wherever they led
    all-on : (xs ys : List ScheduledAct) (t : Trio) → AllCanBeDone dig xs t
        → ((u : Trio) → LeadTo dig xs t u → AllCanBeDone dig ys u) → AllCanBeDone dig (xs ++ ys) t
    unfolding AllCanBeDone LeadTo
    all-on [] ys t all rest = rest t refl
    all-on (act ∷ xs) ys t all rest =
        (all.0, λ next done. all-on xs ys next (all.1 next done) (λ u lead. rest u (next, done, lead)))

    stands-after : (number n : ℕ) (u : Trio) → 9 * n + 9 ≤ LAST_STEP → LeadTo dig (rounds_of number n) no_steps u
        → Stand dig u (length (rounds_of number n))
    stands-after number n u room lead = front-stands dig (rounds_of number n) u (rounds-may dig number n)
        (omega (arith, room, rounds-length number n)) lead

    rounds-go : (number n : ℕ) → 9 * n ≤ LAST_STEP → AllCanBeDone dig (rounds_of number n) no_steps
    unfolding rounds_of AllCanBeDone
    rounds-go number zero room = tt
    rounds-go number (suc n) room =
        all-on (rounds_of number n) (round_of_acts (after_rounds number n) (suc n)) no_steps
        (rounds-go number n (omega (arith, room)))
        (λ u lead. round-goes (after_rounds number n) (suc n) u (length (rounds_of number n))
        (omega (arith, room, rounds-length number n)) (stands-after number n u (omega (arith, room)) lead))

    end-goes : (t : Trio) (most : ℕ) → most + 3 ≤ LAST_STEP → Stand dig t most
        → AllCanBeDone dig (all_append end_event end_event end_event) t
    end-goes t most room s = all-appended end_event end_event end_event [] t most end-may end-may end-may room s
        (λ next stand some. all-told [] next (most + 3) tt (omega (arith, room)) stand some)

    pub schedule-goes : (number rounds : ℕ) → rounds ≤ 10000 → AllCanBeDone dig (schedule number rounds) no_steps
    schedule-goes number rounds short =
        all-on (rounds_of number rounds) (all_append end_event end_event end_event) no_steps
        (rounds-go number rounds (omega (arith, short)))
        (λ u lead. end-goes u (length (rounds_of number rounds)) (omega (arith, short, rounds-length number rounds))
        (stands-after number rounds u (omega (arith, short)) lead))
