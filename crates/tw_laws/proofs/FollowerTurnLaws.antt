-- No told head is lost over runs on one disk: behind each of them all images go on from one list, in which all is that
-- was told.
use Rattle.std.proofs.Common.{◌≡◌, ◌∙◌, ℕ, List, [], ◌∷◌, ◌++◌, refl, ap, sym, subst, inl, inr, ⊎_elim}
use Rattle.std.specs.Prelude.{Option, Some, None, Result, Ok, Err, MatchOption, map}
use Rattle.std.proofs.lemmas.Grind.{flat_map-append}
use Rattle.sha2.specs.Sha256.{sha256}
use Rattle.tw_base.specs.declared.history.thread.Thread.{Thread}
use Rattle.tw_base.specs.format.Formats.{Spells}
use Rattle.tw_base.specs.kinds.Lists.{Each, In}
use Rattle.tw_disk.specs.Disk.{DiskView}
use Rattle.tw_disk.specs.Image.{Image}
use Rattle.tw_pages.specs.Runs.{GoesOnFrom, HoldsOnly}
use Rattle.tw_pages.specs.Runs as kept
use Rattle.tw_msg.specs.declared.message.Message.{Message}
use Rattle.tw_msg.specs.Messages.{message_layout}
use Rattle.tw_outside.specs.Files.{Files}
use Rattle.tw_pages.specs.Slots.{IsTaken}
use Rattle.tw_pages.specs.declared.open.StoreFault.{StoreFault}
use Rattle.tw_service.specs.Stands.{IsNotOpenedFor as IsNoService}
use Rattle.tw_text.specs.declared.fault.CommandFault.{CommandFault}
use Rattle.tw_follow.specs.declared.judging.Offered.{Offered}
use Rattle.tw_follow.specs.declared.judging.Offered.TheVariants.{Known, Moves}
use Rattle.tw_base.specs.declared.history.refusal.FollowRefusal.{FollowRefusal}
use Rattle.tw_follow.specs.DiskRuns.{IsImageOfList, KeepsAll}
use Rattle.tw_follow.specs.HeadLists.{Kept, last_head, with_head}
use Rattle.tw_follow.specs.Offers.{judged_offer}
use Rattle.tw_follow.specs.Runs.{GoesByMove, MayMove, Move, MovesBy, RunsByMoves}
use Rattle.tw_follow.specs.Runs.Move.{Answered, Stopped as StoppedOffer}
use Rattle.tw_follow.specs.Stands.{StandsFor, StandsForOneOf}
use Rattle.tw_text.specs.Lines.{anchor_text}
use Rattle.tw_follow.proofs.DiskRunning.{both, has_on, none}
use Rattle.tw_follow.proofs.Offering.{moved-is}
use Rattle.tw_follow.proofs.Running.{runs-answered, runs-grow, runs-rise}
use Rattle.tw_follow.proofs.Standing.{stands_rising}
use Rattle.tw_diskcmd.specs.FollowerDisks.{IsLeft, ReadsAsHeads, RestsAtHeads}
use Rattle.tw_diskcmd.specs.Heads.{HeadsComes, HeadsLeaves, head_lines}
use Rattle.tw_diskcmd.specs.Offering.{OfferComes, OfferLeaves, OfferSafe, list_after, next_list, offer_as_told}
use Rattle.tw_pages.proofs.AtRest.{untouched_left}
use Rattle.tw_diskcmd.specs.Files.{IsMessageIn}
use Rattle.tw_diskcmd.proofs.FollowerAtRest.{stands_taken}
use Rattle.tw_words.specs.CommandLine.{command_of}
use Rattle.tw_words.specs.declared.command.Command.{Command}
use Rattle.tw_words.specs.declared.command.Command.TheVariants as command
use Rattle.tw_app.specs.declared.outcome.Outcome.{Outcome}
use Rattle.tw_app.specs.declared.outcome.Outcome.TheVariants.{Made, Written as WrittenOut}
use Rattle.tw_app.specs.Around.{Outside, found_around}
use Rattle.tw_app.specs.Outcomes.{outcome_by}
use Rattle.tw_app.specs.Running.{HaveNoForm, IsDiskUntouched, work}
use Rattle.tw_app.proofs.Commands.{rows}
use Rattle.tw_laws.specs.FollowerTurns.{AreRunsFrom, GoesOnByOffered, GoesOnFromLines, IsListedByCommand, IsListedIn}
use Rattle.tw_laws.specs.FollowerTurns.{IsListedInRuns, IsOfferedByCommand, IsOfferedIn, IsOfferedInRuns, KeepsOffered}
use Rattle.tw_laws.specs.FollowerTurns.{IsToldByCommand, IsToldIn, IsToldInRuns, IsListText, KeepsLists, LeadsByRun}
use Rattle.tw_laws.specs.FollowerTurns.{NeverFalls, Run, RunBehind, disk_behind_runs}
use Rattle.tw_laws.specs.FollowerTurns.Run.{Ran, Stopped}
use Rattle.tw_laws.specs.Turns.{IsWorkOn}
use Rattle.tw_laws.proofs.OtherStores.{list_closed}

ok-is : (lines later : List ℕ) → ◌≡◌ {A = Result (List ℕ) CommandFault} (Ok lines) (Ok later) → lines ≡ later
ok-is lines later is = cc

written-is : (lines bytes : List ℕ) → IsListText (WrittenOut bytes) lines → lines ≡ bytes
written-is lines bytes is = is

each_both : {X : Type 0} (P : X → Type 0) (xs ys : List X) → Each P xs → Each P ys → Each P (xs ++ ys)
each_both P [] ys first second = second
each_both P (x ∷ xs) ys first second = (first.0, each_both P xs ys first.1 second)

-- a message that the file's bytes spell is one of the file
of_bytes : (told : Option Files) (file : List ℕ) (m other : Message) (is : IsMessageIn told file m)
    → Spells message_layout is.bytes other → IsMessageIn told file other
of_bytes told file m other is spelled =
    record { there = is.there; bytes = is.bytes; spelled = spelled; same = is.same }

-- one move, with the message by which the list grew, if it did
one_offered : (FromFile : Message → Type 0) (k : Kept) (move : Move) (next : Kept) → GoesByMove sha256 k move next
    → ((m : Message) → MayMove sha256 k move m next → FromFile m)
    → (moved : List Message) × RunsByMoves sha256 k (move ∷ []) moved next × Each FromFile moved
unfolding RunsByMoves
one_offered FromFile k move next (inl stay) own = ([], inl (stay.0, (refl, stay.1)), tt)
one_offered FromFile k move next (inr (m, may)) own =
    (m ∷ [], inr (m, [], next, refl, may, (refl, refl)), (own m may, tt))

-- ---- lists that go on by a message

module _ (k : Kept) (bytes : List ℕ) (m : Message) (spells : Spells message_layout bytes m) where
  -- the list moves by the message where that is judged to move it
  moved-by : (thread : Thread) → judged_offer sha256 (last_head sha256 k) m ≡ Ok (Moves thread)
      → MovesBy sha256 k bytes m (with_head k thread)
  moved-by thread is =
      let same : thread ≡ m.thread = (moved-is sha256 (last_head sha256 k) m thread is).thread_is in
      record {
        spelled = spells;
        moves = is ∙ ap (λ (t : Thread). Ok (Moves t)) same;
        adds = ap (λ (t : Thread). with_head k t) same;
      }

  goes_by : (r : Result Offered FollowRefusal) → judged_offer sha256 (last_head sha256 k) m ≡ r
      → GoesByMove sha256 k (StoppedOffer bytes) (list_after k r)
  goes_by (Ok (Moves thread)) is = inr (m, moved-by thread is)
  goes_by (Ok Known) is = inl (tt, refl)
  goes_by (Err refusal) is = inl (tt, refl)

  answers_by : (thread : Thread) (r : Result Offered FollowRefusal) → judged_offer sha256 (last_head sha256 k) m ≡ r
      → ◌≡◌ {A = Result Thread CommandFault} (Ok thread) (offer_as_told (last_head sha256 k) r)
      → GoesByMove sha256 k (Answered bytes (Ok thread)) (list_after k r)
  answers_by thread (Ok (Moves later)) is told =
      let same : later ≡ m.thread = (moved-is sha256 (last_head sha256 k) m later is).thread_is in
      let answer : thread ≡ later = cc in
      inr (m, (moved-by later is, answer ∙ same))
  answers_by thread (Ok Known) is told =
      let answer : thread ≡ last_head sha256 k = cc in
      inl (((m, spells, is), answer), refl)
  answers_by thread (Err refusal) is told = absurd cc

module _ {D : Type 0} (view : D → DiskView)
    (only_now : (d : D) (image : Image) → (view d).left_since (view d).moment image → (view d).may_leave image)
    (as_it_reads : (d : D) (image : Image) → (view d).content ≡ Some image → (view d).may_leave image)
    (FromFile : Message → Type 0) where
  abbrev GoesOn : (k next : Kept) → Type 0
  GoesOn k next = GoesOnByOffered FromFile k next

  abbrev GoesFrom : Kept → Image → Type 0
  GoesFrom k image = GoesOnFrom (IsImageOfList sha256) GoesOn view k image

  abbrev Wavers : D → Kept → Type 0
  Wavers disk k = kept.Wavers (IsImageOfList sha256) GoesOn view disk k

  stays_on : (k : Kept) → GoesOn k k
  stays_on k = ([], [], none sha256 k, tt)

  goes_then : (a b c : Kept) → GoesOn a b → GoesOn b c → GoesOn a c
  goes_then a b c first second = (
    first.0 ++ second.0,
    first.1 ++ second.1,
    both sha256 a first.0 first.1 b second.0 second.1 c first.2 second.2,
    each_both FromFile first.1 second.1 first.3 second.3,
  )

  has_still : (k next : Kept) (t : Thread) → GoesOn k next → In t k.heads → In t next.heads
  has_still k next t on there = has_on sha256 k next t (on.0, on.1, on.2) there

  holds : (disk : D) (P : Image → Type 0) (k : Kept) → ((c : Image) → P c → GoesFrom k c) → HoldsOnly view P disk
      → Wavers disk k
  holds disk P k goes is =
      (record { image = is.0.image; told = is.0.told; has = goes is.0.image is.0.has }, λ c left. goes c (is.1 c left))

  rests_waver : (disk : D) (k : Kept) → RestsAtHeads view disk k → Wavers disk k
  rests_waver disk k rests =
      let own : (c : Image) → (view disk).may_leave c → GoesFrom k c =
      λ c left. (k, rests.stands.each c left, stays_on k) in (
        record {
          image = rests.stands.image;
          told = rests.stands.told;
          has = own rests.stands.image (as_it_reads disk rests.stands.image rests.stands.told);
        },
        own,
      )

  module _ (o : Outside D) where
    -- what a run leaves: a disk whose images go on from a list that goes on from this one and has all that the run
    -- tells; and at any moment
    -- images that go on from this one
    record Left (k : Kept) (Tells : Thread → Type 0) : Type 0 where
      now : Kept
      goes_on : GoesOn k now
      settled : Wavers o.disk.after now
      any_moment : (c : Image) → (view o.disk.after).left_since (view o.disk.before).moment c → GoesFrom k c
      tells : (t : Thread) → Tells t → In t now.heads

    module _ (k : Kept) (waver : Wavers o.disk.before k) where
      abbrev read : Kept
      read = waver.0.has.0

      abbrev reads : ReadsAsHeads (view o.disk.before).content read
      reads = record { image = waver.0.image; told = waver.0.told; stands = waver.0.has.1 }

      -- nothing was written, and nothing is told
      idle : (Tells : Thread → Type 0) → IsLeft view o.disk.before o.disk.after → ((t : Thread) → Tells t → ⊥)
          → Left k Tells
      idle Tells left nothing = record {
        now = k;
        goes_on = stays_on k;
        settled = (
          record { image = waver.0.image; told = left.0 ∙ waver.0.told; has = waver.0.has },
          λ c may. waver.1 c (left.1.now c may),
        );
        any_moment = λ c since. waver.1 c (left.1.each c since);
        tells = λ t told. absurd (nothing t told);
      }

      taken : IsTaken waver.0.image
      taken = stands_taken read waver.0.image waver.0.has.1

      abbrev Does : Command → Outcome → Type 0
      Does c outcome = (work view o c).does outcome

      abbrev By : Command → Outcome → Type 0
      By c outcome = Left k (IsToldByCommand c outcome)

      -- ---- an offer

      module _ (file : List ℕ) (outcome : Outcome) (safe : OfferSafe view o.disk.before o.disk.after o.inputs.told
          file) (own : (m : Message) → IsMessageIn o.inputs.told file m → FromFile m) where
        one_goes : (m : Message) → IsMessageIn o.inputs.told file m → (next : Kept) → next ≡ next_list read m
            → (c : Image) → StandsForOneOf sha256 read next c → GoesFrom k c
        one_goes m is next same c each = ⊎_elim
            (λ was. (read, was, waver.0.has.2))
            (λ now.
            let step = goes_by read is.bytes m is.spelled (judged_offer sha256 (last_head sha256 read) m) refl in
            let on = one_offered FromFile read (StoppedOffer is.bytes) (next_list read m) step
            (λ other may. own other (of_bytes o.inputs.told file m other is may.spelled)) in (
              next_list read m,
              subst (λ (x : Kept). StandsFor sha256 c x) same now,
              goes_then k read (next_list read m) waver.0.has.2 (StoppedOffer is.bytes ∷ [], on.0, on.1, on.2),
            ))
            each

        moments : (c : Image) → (view o.disk.after).left_since (view o.disk.before).moment c → GoesFrom k c
        moments c since = ⊎_elim
            (λ stayed. waver.1 c (stayed.0.each c since))
            (λ may. ⊎_elim (λ was. waver.1 c was) (λ each. one_goes may.0 may.1 may.2 may.3 c each)
            (may.4.each c since))
            ((safe.1 read).0 reads)

        still : Wavers o.disk.after k
        still = ⊎_elim
            (λ stayed. (
              record { image = stayed.1.image; told = stayed.1.told; has = (read, stayed.1.stands, waver.0.has.2) },
              λ c may. waver.1 c (stayed.0.now c may),
            ))
            (λ may. (
              record {
                image = may.5.image;
                told = may.5.told;
                has = one_goes may.0 may.1 may.2 may.3 may.5.image may.5.has;
              },
              λ c left. ⊎_elim (λ was. waver.1 c was) (λ each. one_goes may.0 may.1 may.2 may.3 c each)
                  (may.4.now c left),
            ))
            ((safe.1 read).0 reads)

        untold : (Tells : Thread → Type 0) → ((t : Thread) → Tells t → ⊥) → Left k Tells
        untold Tells nothing =
            record {
              now = k;
              goes_on = stays_on k;
              settled = still;
              any_moment = moments;
              tells = λ t told. absurd (nothing t told);
            }

        of_result : (r : Result Thread CommandFault)
            → OfferComes o.inputs (found_around view o) file r × OfferLeaves view o.disk.before o.disk.after
            o.inputs.told file r
            → outcome ≡ outcome_by Made r → By (command.Offer file) outcome
        of_result (Ok thread) may is =
            let m = may.1.0.0 in
            let there = may.1.0.1 in
            let moved = may.1.0.2.1 read reads in
            let step = answers_by read there.bytes m there.spelled thread (judged_offer sha256 (last_head sha256 read)
            m) refl (may.1.0.2.0.list read reads) in
            let on = one_offered FromFile read (Answered there.bytes (Ok thread)) (next_list read m) step
            (λ other may. own other (of_bytes o.inputs.told file m other there may.0.spelled)) in
            let has = runs-answered sha256 there.bytes thread read (Answered there.bytes (Ok thread) ∷ []) on.0
            (next_list read m) on.1 (inl refl) in
            subst (λ (x : Outcome). By (command.Offer file) x) (sym is) (record {
              now = next_list read m;
              goes_on = goes_then k read (next_list read m) waver.0.has.2
                  (Answered there.bytes (Ok thread) ∷ [], on.0, on.1, on.2);
              settled = rests_waver o.disk.after (next_list read m) (subst (λ (x : Kept). RestsAtHeads view o.disk.after x)
                  moved.1 moved.2.0);
              any_moment = moments;
              tells = λ t told. subst (λ (u : Thread). In u (next_list read m).heads) (sym told) has;
            })
        of_result (Err f) may is =
            subst (λ (x : Outcome). By (command.Offer file) x) (sym is) (untold (λ t. ⊥) (λ t told. told))

      -- ---- each command

      closed : (why : StoreFault) × IsNoService waver.0.image why
      closed = list_closed waver.0.image read waver.0.has.1

      leaves : (c : Command) (outcome : Outcome) → ((m : Message) → IsOfferedByCommand o.inputs.told c m → FromFile m)
          → Does c outcome → By c outcome
      leaves (command.Offer file) outcome own came = of_result file outcome
          ((rows view only_now as_it_reads o (command.Offer file)).safe outcome came) own came.0 came.1 came.2
      leaves (command.Init of) outcome own came =
          idle (λ t. ⊥) (((rows view only_now as_it_reads o (command.Init of)).safe outcome came).2 waver.0.image
          waver.0.told taken) (λ t told. told)
      leaves (command.Watch of) outcome own came =
          idle (λ t. ⊥) (((rows view only_now as_it_reads o (command.Watch of)).safe outcome came).2 waver.0.image
          waver.0.told taken) (λ t told. told)
      leaves (command.Append file time) outcome own came =
          idle (λ t. ⊥) (((rows view only_now as_it_reads o (command.Append file time)).safe outcome came).0
          waver.0.image closed.0 waver.0.told closed.1) (λ t told. told)
      leaves (command.Receive file time) outcome own came =
          idle (λ t. ⊥) (((rows view only_now as_it_reads o (command.Receive file time)).safe outcome came).0
          waver.0.image closed.0 waver.0.told closed.1) (λ t told. told)
      leaves command.Heads outcome own came = idle (λ t. ⊥) ((rows view only_now as_it_reads o command.Heads).safe outcome
          came).0 (λ t told. told)
      leaves (command.Thread since) outcome own came =
          idle (λ t. ⊥) ((rows view only_now as_it_reads o (command.Thread since)).safe outcome came).0 (λ t told. told)
      leaves (command.ProveEvent step index top) outcome own came =
          idle (λ t. ⊥) ((rows view only_now as_it_reads o (command.ProveEvent step index top)).safe outcome came).0
          (λ t told. told)
      leaves (command.ProveThread step peer j top) outcome own came =
          idle (λ t. ⊥) ((rows view only_now as_it_reads o (command.ProveThread step peer j top)).safe outcome came).0
          (λ t told. told)
      leaves (command.ProveAbsent step peer j top) outcome own came =
          idle (λ t. ⊥) ((rows view only_now as_it_reads o (command.ProveAbsent step peer j top)).safe outcome came).0
          (λ t told. told)
      leaves (command.ProveLink step top) outcome own came =
          idle (λ t. ⊥) ((rows view only_now as_it_reads o (command.ProveLink step top)).safe outcome came).0
          (λ t told. told)
      leaves (command.MapLow step peer top) outcome own came =
          idle (λ t. ⊥) ((rows view only_now as_it_reads o (command.MapLow step peer top)).safe outcome came).0
          (λ t told. told)
      leaves (command.MapHigh step peer top) outcome own came =
          idle (λ t. ⊥) ((rows view only_now as_it_reads o (command.MapHigh step peer top)).safe outcome came).0
          (λ t told. told)
      leaves command.Export outcome own came = idle (λ t. ⊥) ((rows view only_now as_it_reads o command.Export).safe outcome
          came).0 (λ t told. told)
      leaves c outcome own came = idle (IsToldByCommand c outcome) (untouched_left view o.disk.before o.disk.after only_now
          ((rows view only_now as_it_reads o c).safe outcome came).0) (λ t told. told)

  -- ---- a run, and what is there behind it

  of_words : (words : List (List ℕ)) (o : Outside D) (outcome : Outcome) (k : Kept) → Wavers o.disk.before k
      → (asked : Option Command)
      → ((m : Message) → MatchOption asked ⊥ (λ c. IsOfferedByCommand o.inputs.told c m) → FromFile m)
      → MatchOption asked (HaveNoForm words outcome × IsDiskUntouched view o) (λ c. (work view o c).does outcome)
      → Left o k (λ t. MatchOption asked ⊥ (λ c. IsToldByCommand c outcome t))
  of_words words o outcome k waver None own came = idle o k waver (λ t. ⊥) (untouched_left view o.disk.before o.disk.after
      only_now came.1) (λ t told. told)
  of_words words o outcome k waver (Some c) own came = leaves o k waver c outcome own came

  of_run : (disk : D) (words : List (List ℕ)) (o : Outside D) (outcome : Outcome) (k : Kept) → Wavers disk k
      → ((m : Message) → MatchOption (command_of words) ⊥ (λ c. IsOfferedByCommand o.inputs.told c m) → FromFile m)
      → IsWorkOn view disk words o outcome
      → Left o k (λ t. MatchOption (command_of words) ⊥ (λ c. IsToldByCommand c outcome t))
  of_run disk words o outcome k waver own run = of_words words o outcome k
      (subst (λ (d : D). Wavers d k) (sym run.on) waver) (command_of words) own run.comes

  -- ---- what `heads` writes is the list that the disk then stands for

  record Lists (o : Outside D) (k : Kept) (Tells : Thread → Type 0) (Written : List ℕ → Type 0) : Type 0 where
    left : Left o k Tells
    listed : (lines : List ℕ) → Written lines → lines ≡ head_lines left.now.heads

  no_lists : (o : Outside D) (k : Kept) (Tells : Thread → Type 0) (Written : List ℕ → Type 0) → Left o k Tells
      → ((lines : List ℕ) → Written lines → ⊥) → Lists o k Tells Written
  no_lists o k Tells Written left none = record { left = left; listed = λ lines is. absurd (none lines is) }

  module _ (o : Outside D) (k : Kept) (waver : Wavers o.disk.before k) (outcome : Outcome) where
    of_heads : (r : Result (List ℕ) CommandFault)
        → HeadsComes (found_around view o) r × HeadsLeaves view o.disk.before o.disk.after r
        → outcome ≡ outcome_by WrittenOut r
        → Lists o k (IsToldByCommand command.Heads outcome) (IsListedByCommand command.Heads outcome)
    of_heads (Ok lines) may is =
        let kept = read o k waver in
        let left = may.1.0 in
        let own : lines ≡ head_lines kept.heads = ok-is lines (head_lines kept.heads) (may.0.list kept (reads o k waver)) in
        record {
          left = record {
            now = kept;
            goes_on = waver.0.has.2;
            settled = rests_waver o.disk.after kept (may.1.1.0 kept (reads o k waver));
            any_moment = λ c since. waver.1 c (left.1.each c since);
            tells = λ t told. absurd told;
          };
          listed = λ later written. written-is later lines (subst (λ (x : Outcome). IsListText x later) is written) ∙ own;
        }
    of_heads (Err f) may is =
        no_lists o k (IsToldByCommand command.Heads outcome) (IsListedByCommand command.Heads outcome)
        (leaves o k waver command.Heads outcome (λ m no. absurd no) (Err f, may, is))
        (λ lines written. subst (λ (x : Outcome). IsListText x lines) is written)

    all_listed : (c : Command) → ((m : Message) → IsOfferedByCommand o.inputs.told c m → FromFile m)
        → (work view o c).does outcome → Lists o k (IsToldByCommand c outcome) (IsListedByCommand c outcome)
    all_listed command.Heads own came = of_heads came.0 came.1 came.2
    all_listed c own came = no_lists o k (IsToldByCommand c outcome) (IsListedByCommand c outcome)
        (leaves o k waver c outcome own came) (λ lines written. written)

    words_listed : (words : List (List ℕ)) (asked : Option Command)
        → ((m : Message) → MatchOption asked ⊥ (λ c. IsOfferedByCommand o.inputs.told c m) → FromFile m)
        → MatchOption asked (HaveNoForm words outcome × IsDiskUntouched view o) (λ c. (work view o c).does outcome)
        → Lists o k (λ t. MatchOption asked ⊥ (λ c. IsToldByCommand c outcome t))
        (λ lines. MatchOption asked ⊥ (λ c. IsListedByCommand c outcome lines))
    words_listed words None own came = no_lists o k (λ t. ⊥) (λ lines. ⊥)
        (of_words words o outcome k waver None own came) (λ lines written. written)
    words_listed words (Some c) own came = all_listed c own came

  run_listed : (disk : D) (words : List (List ℕ)) (o : Outside D) (outcome : Outcome) (k : Kept) → Wavers disk k
      → ((m : Message) → MatchOption (command_of words) ⊥ (λ c. IsOfferedByCommand o.inputs.told c m) → FromFile m)
      → IsWorkOn view disk words o outcome
      → Lists o k (λ t. MatchOption (command_of words) ⊥ (λ c. IsToldByCommand c outcome t))
      (λ lines. MatchOption (command_of words) ⊥ (λ c. IsListedByCommand c outcome lines))
  run_listed disk words o outcome k waver own run = words_listed o k
      (subst (λ (d : D). Wavers d k) (sym run.on) waver) outcome words (command_of words) own run.comes

  record GoesTo (run : Run D) (left : D) (k : Kept) : Type 0 where
    now : Kept
    goes_on : GoesOn k now
    is : Wavers left now
    tells : (t : Thread) → IsToldIn run t → In t now.heads
    listed : (lines : List ℕ) → IsListedIn run lines → lines ≡ head_lines now.heads

  goes : (run : Run D) (disk left : D) (k : Kept) → Wavers disk k → ((m : Message) → IsOfferedIn run m → FromFile m)
      → LeadsByRun view run disk left → GoesTo run left k
  goes (Ran words o outcome) disk left k waver own leads =
      let all = run_listed disk words o outcome k waver own leads.0 in
      let b = all.left in
      record {
        now = b.now;
        goes_on = b.goes_on;
        is = ⊎_elim (λ same. subst (λ (d : D). Wavers d b.now) (sym same) b.settled)
            (λ only. holds left (view o.disk.after).may_leave b.now b.settled.1 only) leads.1;
        tells = b.tells;
        listed = all.listed;
      }
  goes (Stopped words o outcome) disk left k waver own leads =
      let b = of_run disk words o outcome k waver own leads.0 in
      record {
        now = k;
        goes_on = stays_on k;
        is = holds left ((view o.disk.after).left_since (view disk).moment) k
            (λ c since. b.any_moment c (subst (λ (d : D). (view o.disk.after).left_since (view d).moment c)
            (sym leads.0.on) since)) leads.1;
        tells = λ t told. absurd told;
        listed = λ lines written. absurd written;
      }

  -- the lines of a list that goes on from another one go on from the other's
  lines_on : (k next : Kept) → GoesOn k next
      → GoesOnFromLines (head_lines k.heads) (head_lines next.heads)
  lines_on k next on =
      let more = map (λ (m : Message). m.thread) on.1 in (
        more,
        ap (λ (hs : List Thread). head_lines hs) (runs-grow sha256 k on.0 on.1 next on.2).1
            ∙ flat_map-append (λ (head : Thread). anchor_text head) k.heads more,
      )

  record Ends (disk : D) (runs : List (RunBehind D)) (k : Kept) : Type 0 where
    now : Kept
    goes_on : GoesOn k now
    is : Wavers (disk_behind_runs disk runs) now
    tells : (t : Thread) → IsToldInRuns runs t → In t now.heads
    -- each list that is written stands between the first one and the last
    listed : (lines : List ℕ) → IsListedInRuns runs lines → (between : Kept) × GoesOn k between × GoesOn between now
        × (lines ≡ head_lines between.heads)
    rises : NeverFalls runs

  all_runs : (disk : D) (runs : List (RunBehind D)) (k : Kept) → Wavers disk k
      → ((m : Message) → IsOfferedInRuns runs m → FromFile m) → AreRunsFrom view disk runs → Ends disk runs k
  all_runs disk [] k waver own leads = record {
    now = k;
    goes_on = stays_on k;
    is = waver;
    tells = λ t told. absurd told;
    listed = λ lines written. absurd written;
    rises = tt;
  }
  all_runs disk (x ∷ runs) k waver own leads =
      let first = goes x.run disk x.left k waver (λ m by. own m (inl by)) leads.0 in
      let rest = all_runs x.left runs first.now first.is (λ m later. own m (inr later)) leads.1 in
      record {
        now = rest.now;
        goes_on = goes_then k first.now rest.now first.goes_on rest.goes_on;
        is = rest.is;
        tells = λ t told. ⊎_elim (λ by. has_still first.now rest.now t rest.goes_on (first.tells t by))
            (λ later. rest.tells t later) told;
        listed = λ lines written. ⊎_elim
            (λ by. (first.now, first.goes_on, rest.goes_on, first.listed lines by))
            (λ later.
            let one = rest.listed lines later in
            (one.0, goes_then k first.now one.0 first.goes_on one.1, one.2, one.3)) written;
        rises = (
          λ lines later by behind.
              let one = rest.listed later behind in
              let on = lines_on first.now one.0 one.1 in
              (on.0, one.3 ∙ on.1 ∙ ap (λ (ls : List ℕ). ls ++ head_lines on.0) (sym (first.listed lines by))),
          rest.rises,
        );
      }

  -- from a disk that stands for a list for good
  all_from : (disk : D) (first : Kept) (runs : List (RunBehind D))
      → HoldsOnly view (λ i. StandsFor sha256 i first) disk → ((m : Message) → IsOfferedInRuns runs m → FromFile m)
      → AreRunsFrom view disk runs → Ends disk runs first
  all_from disk first runs is own leads = all_runs disk runs first
      (holds disk (λ i. StandsFor sha256 i first) first (λ i stands. (first, stands, stays_on first)) is) own leads

  -- what holds of each list that goes on from the last one holds of what the last disk may hold
  at_end : (P : Image → Type 0) (disk : D) (runs : List (RunBehind D)) (k : Kept) (end : Ends disk runs k)
      → ((i : Image) → GoesFrom end.now i → P i) → HoldsOnly view P (disk_behind_runs disk runs)
  at_end P disk runs k end all = (
    record { image = end.is.0.image; told = end.is.0.told; has = all end.is.0.image end.is.0.has },
    λ c may. all c (end.is.1 c may),
  )

module _ {D : Type 0} (view : D → DiskView)
    (only_now : (d : D) (image : Image) → (view d).left_since (view d).moment image → (view d).may_leave image)
    (as_it_reads : (d : D) (image : Image) → (view d).content ≡ Some image → (view d).may_leave image)
    (disk : D) (first : Kept) (runs : List (RunBehind D)) (is : HoldsOnly view (λ i. StandsFor sha256 i first) disk)
    (leads : AreRunsFrom view disk runs) where
  abbrev FromFile : Message → Type 0
  FromFile m = IsOfferedInRuns runs m

  end : Ends view only_now as_it_reads FromFile disk runs first
  end = all_from view only_now as_it_reads FromFile disk first runs is (λ m by. by) leads

  abbrev Goes : Image → Type 0
  Goes i = GoesFrom view only_now as_it_reads FromFile end.now i

  on_from_first : (i : Image) (on : Goes i) → GoesOnByOffered FromFile first on.0
  on_from_first i on = goes_then view only_now as_it_reads FromFile first end.now on.0 end.goes_on on.2

  pub lists_rise : NeverFalls runs
  lists_rise = end.rises

  pub no_list_lost : HoldsOnly view (KeepsLists runs) (disk_behind_runs disk runs)
  no_list_lost =
      let all : (i : Image) → Goes i → KeepsLists runs i = λ i on. (
        on.0,
        on.1,
        λ lines written.
            let one = end.listed lines written in
            let after = lines_on view only_now as_it_reads FromFile one.0 on.0
            (goes_then view only_now as_it_reads FromFile one.0 end.now on.0 one.2 on.2) in
            (after.0, after.1 ∙ ap (λ (ls : List ℕ). ls ++ head_lines after.0) (sym one.3)),
      ) in
      at_end view only_now as_it_reads FromFile (KeepsLists runs) disk runs first end all

  pub no_head_lost : HoldsOnly view (KeepsAll sha256 first (IsToldInRuns runs)) (disk_behind_runs disk runs)
  no_head_lost =
      let all : (i : Image) → Goes i → KeepsAll sha256 first (IsToldInRuns runs) i = λ i on.
      let whole = on_from_first i on in (
        on.0,
        on.1,
        (whole.0, whole.1, whole.2),
        runs-rise sha256 first whole.0 whole.1 on.0 (stands_rising sha256 is.0.image first is.0.has) whole.2,
        λ t told. has_still view only_now as_it_reads FromFile end.now on.0 t on.2 (end.tells t told),
      ) in
      at_end view only_now as_it_reads FromFile (KeepsAll sha256 first (IsToldInRuns runs)) disk runs first end all

  pub moves_offered : HoldsOnly view (KeepsOffered first runs) (disk_behind_runs disk runs)
  moves_offered =
      at_end view only_now as_it_reads FromFile (KeepsOffered first runs) disk runs first end
      (λ i on. (on.0, on.1, on_from_first i on))
