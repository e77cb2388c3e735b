-- No second authenticator over turns on one disk: behind each of them all images go on from one history, of which all
-- is that is published.
use Rattle.std.proofs.Common.{◌≡◌, ◌⊎◌, ◌∙◌, ◌<◌, ◌≤◌, ℕ, List, [], ◌∷◌, refl, ap, arith, length, sym, subst, ⊎_elim}
use Rattle.std.specs.Prelude.{Option, Some, None, Result, Ok, Err, MatchOption}
use Rattle.sha2.specs.Sha256.{sha256}
use Rattle.tw_base.specs.declared.history.thread.Thread.{Thread}
use Rattle.tw_base.specs.history.History.{History}
use Rattle.tw_disk.specs.Disk.{DiskView}
use Rattle.tw_disk.specs.Image.{Image}
use Rattle.tw_service.specs.declared.service.Service.{Service}
use Rattle.tw_service.specs.Machine.{last_thread}
use Rattle.tw_service.specs.Stands.{StandsFor, no_history}
use Rattle.tw_text.specs.declared.fault.CommandFault.{CommandFault}
use Rattle.tw_diskcmd.specs.Init.{InitComes, InitLeaves}
use Rattle.tw_pages.proofs.AtRest.{untouched_left}
use Rattle.tw_words.specs.CommandLine.{command_of}
use Rattle.tw_words.specs.declared.command.Command.{Command}
use Rattle.tw_app.specs.declared.outcome.Outcome.{Outcome}
use Rattle.tw_app.specs.declared.outcome.Outcome.TheVariants.{Made}
use Rattle.tw_app.specs.Around.{Outside, found_around}
use Rattle.tw_app.specs.Outcomes.{outcome_by}
use Rattle.tw_app.specs.Running.{HaveNoForm, IsDiskUntouched, IsOutcomeOf, work}
use Rattle.tw_laws.specs.Acknowledged.{AppendsRise, Extends, HasAnswered, HasOfAll, HasOfTurn, IsAppended}
use Rattle.tw_laws.specs.Acknowledged.{IsAppendedByAny, IsAppendedIn, KeepsAcknowledged, TurnRises}
use Rattle.tw_laws.proofs.GoingOn.{longer_on, run_on, then_on, thread_on, words_on}
use Rattle.tw_laws.proofs.ServedRuns.{closed_run}
use Rattle.tw_laws.specs.Published.{IsThreadOf}
use Rattle.tw_pages.specs.Runs.{HoldsOnly}
use Rattle.tw_laws.specs.Runs.{HasOneAuthenticator}
use Rattle.tw_laws.proofs.Threads.{last_own}
use Rattle.tw_laws.proofs.Wavering.{GoesOnFrom, Has, Wavers, holds, one_for, same_has}
use Rattle.tw_laws.specs.Publishing.{IsOutBy}
use Rattle.tw_laws.specs.Turns.{AreTurnsFrom, HasOne, IsMadeFirst, IsMaking, IsOut, IsOutIn, IsWorkOn, LeadsTo, StartsAs}
use Rattle.tw_laws.specs.Turns.{Turn, TurnBehind, last_disk}
use Rattle.tw_laws.specs.Turns.Turn.{Runs, StopsBefore, Serves}
use Rattle.tw_laws.proofs.CommandTurns.{Behind, keeps_answers, left_behind, same_made, made_undone, stands_wavers}

module _ {D : Type 0} (view : D → DiskView) (name : List ℕ)
    (only_now : (d : D) (image : Image) → (view d).left_since (view d).moment image → (view d).may_leave image)
    (as_it_reads : (d : D) (image : Image) → (view d).content ≡ Some image → (view d).may_leave image) where
  -- ---- a run of the program

  module _ (words : List (List ℕ)) (o : Outside D) (outcome : Outcome) (h : History)
      (waver : Wavers sha256 view name o.disk.before h) where
    -- what is left, and what is acknowledged of it
    record Acknowledges (asked : Option Command) : Type 0 where
      left : Behind view name only_now as_it_reads o h
          (λ t. MatchOption asked ⊥ (λ command. IsOutBy command outcome t))
      has : MatchOption asked (Unit {0}) (λ command. HasAnswered o.inputs.told command outcome left.now)
      above : (t : Thread) → MatchOption asked ⊥ (λ command. IsAppended command outcome t)
          → (length h.steps < t.step) × (t.step ≤ length left.now.steps)

    -- what words come to, of a command or of no form
    behind : (asked : Option Command) → MatchOption asked (HaveNoForm words outcome × IsDiskUntouched view o)
        (λ command. (work view o command).does outcome)
        → Acknowledges asked
    behind None came = record {
      left = left_behind view name only_now as_it_reads o h waver (λ t. ⊥) (untouched_left view o.disk.before
          o.disk.after only_now came.1) (λ t told. told);
      has = tt;
      above = λ t line. absurd line;
    }
    behind (Some command) came =
        let kept = keeps_answers view name only_now as_it_reads o h waver command outcome came in
        record { left = kept.left; has = kept.has; above = kept.above }

  of_run : (disk : D) (words : List (List ℕ)) (o : Outside D) (outcome : Outcome) (h : History)
      → (waver : Wavers sha256 view name disk h) → (run : IsWorkOn view disk words o outcome)
      → Acknowledges words o outcome h (subst (λ (d : D). Wavers sha256 view name d h) (sym run.on) waver)
      (command_of words)
  of_run disk words o outcome h waver run =
      behind words o outcome h (subst (λ (d : D). Wavers sha256 view name d h) (sym run.on) waver)
      (command_of words) run.comes

  -- the disk that is there behind a run, or what a crash then left
  left_on : (after left : D) (now : History) → Wavers sha256 view name after now → (left ≡ after) ⊎ HoldsOnly view
      (view after).may_leave left → Wavers sha256 view name left now
  left_on after left now waver is =
      ⊎_elim (λ same. subst (λ (d : D). Wavers sha256 view name d now) (sym same) waver)
      (λ only. holds sha256 view name left (view after).may_leave now waver.1 only) is

  -- ---- a turn

  module _ {H : Type 0} {g : _} {k : _} where
    record Goes (turn : Turn D (Service D H g k)) (disk left : D) (h : History) : Type 0 where
      now : History
      keeps : Has sha256 view name h now
      is : Wavers sha256 view name left now
      tells : (t : Thread) → IsOutIn turn disk t → IsThreadOf sha256 now t
      has : HasOfTurn turn now
      above : (t : Thread) → IsAppendedIn turn t → (length h.steps < t.step) × (t.step ≤ length now.steps)

    goes : (turn : Turn D (Service D H g k)) (disk left : D) (h : History) → Wavers sha256 view name disk h
        → LeadsTo view turn disk left → Goes turn disk left h
    goes (Runs words o outcome) disk left h waver leads =
        let all = of_run disk words o outcome h waver leads.0 in
        let b = all.left in
        record {
          now = b.now;
          keeps = b.keeps;
          is = left_on o.disk.after left b.now b.settled leads.1;
          tells = b.tells;
          has = all.has;
          above = all.above;
        }
    goes (StopsBefore words o outcome) disk left h waver leads =
        let b = (of_run disk words o outcome h waver leads.0).left in
        let moments : (c : Image) → (view o.disk.after).left_since (view disk).moment c → GoesOnFrom sha256 view
        name h c =
        λ c since. b.any_moment c (subst (λ (d : D). (view o.disk.after).left_since (view d).moment c)
        (sym leads.0.on) since) in
        record {
          now = h;
          keeps = same_has sha256 view name h;
          is = holds sha256 view name left ((view o.disk.after).left_since (view disk).moment) h moments
              leads.1;
          tells = λ t told. absurd told;
          has = tt;
          above = λ t line. absurd line;
        }
    goes (Serves run) disk left h waver leads =
        let end = closed_run view name only_now disk run h waver leads.0 in
        record {
          now = end.now;
          keeps = end.keeps;
          is = subst (λ (d : D). Wavers sha256 view name d end.now) (sym leads.1) end.is;
          tells = end.tells;
          has = end.has;
          above = end.above;
        }

    -- the lines of services rise
    turn_rises : (turn : Turn D (Service D H g k)) (disk left : D) (h : History) → Wavers sha256 view name disk h
        → LeadsTo view turn disk left → TurnRises turn
    turn_rises (Serves run) disk left h waver leads = (closed_run view name only_now disk run h waver leads.0).rises
    turn_rises (Runs words o outcome) disk left h waver leads = tt
    turn_rises (StopsBefore words o outcome) disk left h waver leads = tt

    -- what a turn acknowledged stays
    turn_on : (turn : Turn D (Service D H g k)) (h later : History) → Extends h later → HasOfTurn turn h
        → HasOfTurn turn later
    turn_on (Runs words o outcome) h later on has = words_on o.inputs.told outcome h later on (command_of words) has
    turn_on (StopsBefore words o outcome) h later on has = has
    turn_on (Serves run) h later on has = run_on run h later on has

    all_on : (moves : List (TurnBehind D (Service D H g k))) (h later : History) → Extends h later → HasOfAll moves h
        → HasOfAll moves later
    all_on [] h later on has = tt
    all_on (x ∷ moves) h later on has = (turn_on x.turn h later on has.0, all_on moves h later on has.1)

    -- ---- turns

    record Ends (disk : D) (moves : List (TurnBehind D (Service D H g k))) (h : History) : Type 0 where
      now : History
      keeps : Has sha256 view name h now
      is : Wavers sha256 view name (last_disk disk moves) now
      tells : (t : Thread) → IsOut disk moves t → IsThreadOf sha256 now t
      has : HasOfAll moves now
      above : (t : Thread) → IsAppendedByAny moves t → length h.steps < t.step
      rises : AppendsRise moves

    and_then : (disk : D) (x : TurnBehind D (Service D H g k)) (moves : List (TurnBehind D (Service D H g k)))
        (h : History) → TurnRises x.turn → (first : Goes x.turn disk x.left h) → Ends x.left moves first.now
        → Ends disk (x ∷ moves) h
    and_then disk x moves h rising first rest = record {
      now = rest.now;
      keeps = then_on h first.now rest.now first.keeps rest.keeps;
      is = rest.is;
      tells = λ t told. ⊎_elim (λ by. thread_on sha256 first.now rest.now rest.keeps t (first.tells t by))
          (λ later. rest.tells t later) told;
      has = (turn_on x.turn first.now rest.now rest.keeps first.has, rest.has);
      above = λ t line. ⊎_elim (λ by. (first.above t by).0)
          (λ later. omega (arith, longer_on h first.now first.keeps, rest.above t later)) line;
      rises = (
        λ one later by behind. omega (arith, (first.above one by).1, rest.above later behind),
        rising,
        rest.rises,
      );
    }

    all_turns : (disk : D) (moves : List (TurnBehind D (Service D H g k))) (h : History) → Wavers sha256 view name disk
        h → AreTurnsFrom view disk moves → Ends disk moves h
    all_turns disk [] h waver turns =
        record {
          now = h;
          keeps = same_has sha256 view name h;
          is = waver;
          tells = λ t told. absurd told;
          has = tt;
          above = λ t line. absurd line;
          rises = tt;
        }
    all_turns disk (x ∷ moves) h waver turns =
        let first = goes x.turn disk x.left h waver turns.0 in
        and_then disk x moves h (turn_rises x.turn disk x.left h waver turns.0) first
        (all_turns x.left moves first.now first.is turns.1)

    -- ---- a list that begins with the making of a service

    made : (turn : Turn D (Service D H g k)) (disk left : D) (image : Image) → (view disk).content ≡ Some image
        → IsMaking view name turn → LeadsTo view turn disk left → Goes turn disk left (no_history name)
    made (Runs words o (Made thread)) disk left image told is leads = of_result does.0 does.1 does.2
      where
        does : IsOutcomeOf Made (λ r. InitComes (found_around view o) name r × InitLeaves view
            o.disk.before o.disk.after name r) (Made thread)
        does =
            subst (λ (asked : Option Command). MatchOption asked (HaveNoForm words (Made thread) × IsDiskUntouched
            view o) (λ command. (work view o command).does (Made thread)))
            is leads.0.comes

        of_result : (r : Result Thread CommandFault) → InitComes (found_around view o) name r × InitLeaves view
            o.disk.before o.disk.after name r
            → Made thread ≡ outcome_by Made r → Goes (Runs words o (Made thread)) disk left (no_history name)
        of_result (Ok first) may same =
            let rests = may.1.0.1 image (ap (λ (d : D). (view d).content) leads.0.on ∙ told) in
            let line : thread ≡ last_thread sha256 (no_history name) = same_made thread first same ∙ may.0.first in
            record {
              now = no_history name;
              keeps = same_has sha256 view name (no_history name);
              is = left_on o.disk.after left (no_history name) (stands_wavers view name only_now as_it_reads
                  o.disk.after (no_history name) refl rests.stands) leads.1;
              tells = λ t published.
                  let told : t ≡ thread = subst (λ (asked : Option Command). MatchOption asked ⊥
                  (λ command. IsOutBy command (Made thread) t)) is published in
                  subst (λ (u : Thread). IsThreadOf sha256 (no_history name) u) (sym (told ∙ line))
                  (last_own sha256 (no_history name));
              has = subst (λ (asked : Option Command). MatchOption asked (Unit {0})
                  (λ command. HasAnswered o.inputs.told command (Made thread) (no_history name))) (sym is) tt;
              above = λ t appended. absurd (subst (λ (asked : Option Command). MatchOption asked ⊥
                  (λ command. IsAppended command (Made thread) t)) is appended);
            }
        of_result (Err f) may same = absurd (made_undone thread f same)
    made _ disk left image told is leads = absurd is

    making_rises : (turn : Turn D (Service D H g k)) → IsMaking view name turn → TurnRises turn
    making_rises (Runs words o outcome) is = tt
    making_rises (StopsBefore words o outcome) is = tt
    making_rises (Serves run) is = absurd is

    -- ---- the law

    steps_kept : (disk : D) (moves : List (TurnBehind D (Service D H g k))) (first : History) → first.name ≡ name
        → Ends disk moves first → AppendsRise moves × HoldsOnly view (KeepsAcknowledged first moves) (last_disk disk moves)
    steps_kept disk moves first named end =
        let each : (c : Image) → GoesOnFrom sha256 view name end.now c → KeepsAcknowledged first moves c = λ c goes. (
          goes.0,
          subst (λ (n : List ℕ). StandsFor sha256 c n goes.0) (sym named) goes.1,
          then_on first end.now goes.0 end.keeps goes.2,
          all_on moves end.now goes.0 goes.2 end.has,
        ) in (
          end.rises,
          (
            record { image = end.is.0.image; told = end.is.0.told; has = each end.is.0.image end.is.0.has },
            λ c may. each c (end.is.1 c may),
          ),
        )

    by_end : (disk : D) (moves : List (TurnBehind D (Service D H g k))) (first : History) → Ends disk moves first
        → HasOneAuthenticator sha256 view name first (IsOut disk moves) (last_disk disk moves)
    by_end disk moves first end = one_for sha256 view name first (IsOut disk moves) (last_disk disk moves) end.now
        end.is end.keeps end.tells

    from_making : (disk : D) (moves : List (TurnBehind D (Service D H g k))) (image : Image)
        → (view disk).content ≡ Some image → IsMadeFirst view name moves → AreTurnsFrom view disk moves
        → Ends disk moves (no_history name)
    from_making disk [] image told is turns = absurd is
    from_making disk (x ∷ moves) image told is turns =
        let first = made x.turn disk x.left image told is turns.0 in
        and_then disk x moves (no_history name) (making_rises x.turn is) first
        (all_turns x.left moves first.now first.is turns.1)

module _ {D H : Type 0} {g : _} {k : _} (view : D → DiskView)
    (only_now : (d : D) (image : Image) → (view d).left_since (view d).moment image → (view d).may_leave image)
    (as_it_reads : (d : D) (image : Image) → (view d).content ≡ Some image → (view d).may_leave image) where
  ends_of : (disk : D) (first : History) (moves : List (TurnBehind D (Service D H g k)))
      → StartsAs view first disk moves → AreTurnsFrom view disk moves
      → Ends view first.name only_now as_it_reads disk moves first
  ends_of disk first moves starts turns =
      let name = first.name in
      ⊎_elim
      (λ stands. all_turns view name only_now as_it_reads disk moves first (stands_wavers view name only_now as_it_reads
      disk first refl stands) turns)
      (λ making. subst (λ (h : History). Ends view name only_now as_it_reads disk moves h) (sym making.2)
      (from_making view name only_now as_it_reads disk moves making.0 making.1 making.3 turns))
      starts

  pub one_authenticator : (disk : D) (first : History) (moves : List (TurnBehind D (Service D H g k)))
      → StartsAs view first disk moves → AreTurnsFrom view disk moves → HasOne view first disk moves
  one_authenticator disk first moves starts turns =
      by_end view first.name only_now as_it_reads disk moves first (ends_of disk first moves starts turns)

  pub acknowledged_stay : (disk : D) (first : History) (moves : List (TurnBehind D (Service D H g k)))
      → StartsAs view first disk moves → AreTurnsFrom view disk moves
      → AppendsRise moves × HoldsOnly view (KeepsAcknowledged first moves) (last_disk disk moves)
  acknowledged_stay disk first moves starts turns =
      steps_kept view first.name only_now as_it_reads disk moves first refl (ends_of disk first moves starts turns)
