-- What the lines of acts do to a world of the three services.
use Rattle.std.proofs.Common.{◌≡◌, ℕ, suc, List, [], ◌∷◌, ◌++◌, length, replicate, false, refl, ap, sym, ◌∙◌, subst}
use Rattle.std.proofs.Common.{inl, arith}
use Rattle.std.specs.Prelude.{◌-◌, codes, slice_get, Option, Some, None, MatchOption}
use Rattle.std.proofs.lemmas.List.{length_push}
use Rattle.tw_base.specs.declared.history.refusal.Refusal.{Refusal}
use Rattle.tw_base.specs.declared.history.question.Question.TheVariants.{ThreadOut}
use Rattle.tw_base.specs.format.Formats.{Spells}
use Rattle.tw_base.specs.history.Family.{AllSound}
use Rattle.tw_base.specs.history.History.{History}
use Rattle.tw_base.specs.history.Sound.{IsSound}
use Rattle.tw_base.specs.kinds.Bytes.{AreBytes}
use Rattle.tw_base.specs.kinds.Lists.{Each}
use Rattle.tw_generate.specs.Coming.{AllCanBeDone, CanBeDone, IsNotRefused}
use Rattle.tw_generate.specs.Schedules.{Hears, LeadTo, ScheduledAct, Trio, Who, alpha_name, beta_name, gamma_name}
use Rattle.tw_generate.specs.Schedules.{last_heard, no_steps, trio_history, with_history}
use Rattle.tw_generate.specs.Schedules.ScheduledAct.{Appends, Tells}
use Rattle.tw_generate.specs.Summing.{trio_family}
use Rattle.tw_msg.specs.HistoryMessages.{IsMessageOf}
use Rattle.tw_msg.specs.Messages.{message_bytes, message_layout}
use Rattle.tw_msg.specs.declared.message.Message.{Message}
use Rattle.tw_msg.specs.declared.receipt.Receipt.{Receipt}
use Rattle.tw_script.specs.declared.line.Line.{Line}
use Rattle.tw_script.specs.declared.line.Line.TheVariants.{Append, Send, Deliver}
use Rattle.tw_service.specs.EventStep.{with_events_at}
use Rattle.tw_service.specs.Machine.{IsStepOf, Makes, RepliesTo, append_table, last_thread, received_as}
use Rattle.tw_service.specs.Machine.Call.{Append as AppendEvents, Ask}
use Rattle.tw_service.specs.Machine.Reply.{OfBytes, OfReceipt, OfThread, Refused}
use Rattle.tw_service.specs.Questions.{history_refusal}
use Rattle.tw_service.specs.declared.receiving.Reception.{Reception}
use Rattle.tw_service.specs.declared.receiving.Reception.TheVariants.{Archive, Known, Refuse}
use Rattle.tw_world.specs.Hosts.{claims_none}
use Rattle.tw_world.specs.Runs.{IsDelivered, IsLineTold, IsMember, IsReached, RunsLines}
use Rattle.tw_world.specs.Worlds.{Mail, Member, World, after_line, family, histories_of, member_of, moved, no_world}
use Rattle.tw_world.specs.Worlds.{put_member, with_message, with_service}
use Rattle.tw_world.specs.Worlds.Mail.{Made}
use Rattle.tw_world.specs.declared.told.Answer.TheVariants as answer
use Rattle.tw_world.specs.declared.told.Told.{Told}
use Rattle.tw_world.specs.declared.told.Told.TheVariants.{Plain}
use Rattle.tw_laws.specs.ScheduledLines.{AreLinesOf, IsLineTaken, IsScriptRunOf, service_lines, who_name}
use Rattle.tw_laws.proofs.ActBytes.{HasBytes}
use Rattle.tw_laws.proofs.ThreeServices.{AreNamed, Births, births_of, each-who, found, members_of, named, names-put}
use Rattle.tw_laws.proofs.ThreeServices.{one_of, put, with_births}

get-last : {X : Type 0} (xs : List X) (x : X) → slice_get (xs ++ x ∷ []) (length xs) ≡ Some x
get-last [] x = refl
get-last (y ∷ xs) x = get-last xs x

-- where the table refuses nothing
unrefused : (P : Type 0) (Q : Refusal → Type 0) (o : Option Refusal) → ((r : Refusal) → o ≡ Some r → ⊥) → P
    → MatchOption o P Q
unrefused P Q None never made = made
unrefused P Q (Some r) never made = absurd (never r refl)

-- where it refuses, that is the reply
refused-so : (P : Type 0) (o : Option Refusal) (r : Refusal) → o ≡ Some r
    → MatchOption o P (λ refusal. Refused r ≡ Refused refusal)
refused-so P o r is = subst (λ (x : Option Refusal). MatchOption x P (λ refusal. Refused r ≡ Refused refusal)) (sym is)
    refl

module _ (dig : List ℕ → List ℕ) where
  -- ---- what the services do

  appended : (h : History) (events : List (List ℕ)) → IsNotRefused dig h (AppendEvents events None)
      → IsStepOf dig h (AppendEvents events None) (OfThread (last_thread dig (with_events_at h events None)))
      (with_events_at h events None)
  appended h events goes = unrefused _ _ (append_table h events None) never (refl, refl)
    where
      never : (r : Refusal) → append_table h events None ≡ Some r → ⊥
      never r is =
          goes r h
          (subst (λ (o : Option Refusal). MatchOption o ((h ≡ with_events_at h events None)
          × (Refused r ≡ OfThread (last_thread dig h))) (λ refusal. (h ≡ h) × (Refused r ≡ Refused refusal))) (sym is)
          (refl, refl))

  told_thread : (h : History) (since : ℕ) (m : Message) → IsNotRefused dig h (Ask (ThreadOut since))
      → IsMessageOf dig h since m → Spells message_layout (message_bytes m) m
      → IsStepOf dig h (Ask (ThreadOut since)) (OfBytes (message_bytes m)) h
  unfolding Makes
  told_thread h since m goes is spelled =
      (refl, unrefused _ _ (history_refusal h (ThreadOut since)) never (message_bytes m, (m, spelled, is), refl))
    where
      never : (r : Refusal) → history_refusal h (ThreadOut since) ≡ Some r → ⊥
      never r none = goes r h (refl, refused-so _ (history_refusal h (ThreadOut since)) r none)

  heard-name : (h : History) (m : Message) (r : Receipt) (next : History) (x : Reception) → RepliesTo dig h m None
      (OfReceipt r) next x → next.name ≡ h.name
  heard-name h m r next (Refuse refusal) reply = (let bad : OfReceipt r ≡ Refused refusal = reply.1 in cc)
  heard-name h m r next (Known archived) reply = ap (λ (g : History). g.name) reply.0
  heard-name h m r next Archive reply = ap (λ (g : History). g.name) reply.0.1

  -- ---- one line more

  runs-more : (w : World) (lines : List Line) (told : List Told) (v : World) (line : Line) (one : Told) (end : World)
      → RunsLines dig claims_none w lines told v
      → IsLineTold dig claims_none v line one end → RunsLines dig claims_none w (lines ++ line ∷ []) (told ++ one ∷ [])
      end
  unfolding RunsLines
  runs-more w [] [] v line one end run is =
      (end, subst (λ (u : World). IsLineTold dig claims_none u line one end) (sym run) is, refl)
  runs-more w [] (t ∷ told) v line one end run is = absurd run
  runs-more w (l ∷ lines) [] v line one end run is = absurd run
  runs-more w (l ∷ lines) (t ∷ told) v line one end run is =
      (run.0, run.1, runs-more run.0 lines told v line one end run.2 is)

  reach-more : (w : World) (line : Line) (one : Told) (next : World) → IsReached dig claims_none w
      → IsLineTold dig claims_none w line one next → IsReached dig claims_none next
  reach-more w line one next r is =
      (r.0 ++ line ∷ [], r.1 ++ one ∷ [], runs-more no_world r.0 r.1 w line one next r.2 is)

  -- ---- worlds of the three services

  record Stands (t : Trio) (w : World) : Type 0 where
    births : Births
    members : w.members ≡ members_of t births
    names : AreNamed t
    reached : IsReached dig claims_none w

  member : (who : Who) (t : Trio) (w : World) (s : Stands t w) → IsMember w (who_name who) (one_of who t s.births)
  member who t w s = ap (λ (ms : List Member). member_of ms (who_name who)) s.members ∙ found t s.births s.names who

  -- the world in which one of them goes on
  abbrev onward : (who : Who) (t : Trio) (w : World) → Births → History → World
  onward who t w b h = after_line (moved w (one_of who t b) h)

  stands-on : (who : Who) (t : Trio) (w : World) (s : Stands t w) (h : History) → h.name ≡ who_name who
      → IsReached dig claims_none (onward who t w s.births h)
      → Stands (with_history who h t) (onward who t w s.births h)
  stands-on who t w s h own reached =
      let births : List ℕ = births_of who s.births ++ replicate (length h.steps - length (trio_history who t).steps)
      w.place in
      record {
        births = with_births who births s.births;
        members = ap (λ (ms : List Member). put_member ms (record { history = h; births = births; waits = false }))
            s.members ∙ put t s.births s.names h births who own;
        names = names-put who t h own s.names;
        reached = reached;
      }

  append-line : (who : Who) (events : List (List ℕ)) (t : Trio) (w : World) (s : Stands t w) → Each AreBytes events
      → CanBeDone dig (Appends who events) t
      → IsLineTold dig claims_none w (Append (who_name who) events)
      (Plain (answer.Stepped (length (with_events_at (trio_history who t) events None).steps)))
      (onward who t w s.births (with_events_at (trio_history who t) events None))
  append-line who events t w s bytes can = (
    bytes,
    (
      one_of who t s.births,
      member who t w s,
      inl (record {
        reply = OfThread (last_thread dig (with_events_at (trio_history who t) events None));
        history = with_events_at (trio_history who t) events None;
        replies = (None, refl, tt, appended (trio_history who t) events can);
        tells = refl;
        becomes = refl;
      }),
    ),
  )

  -- the world in which a message more was made
  abbrev mailed : World → Message → World
  mailed w m = after_line (with_message w (Made (message_bytes m)))

  send-line : (from : Who) (since : ℕ) (m : Message) (t : Trio) (w : World) (s : Stands t w)
      → IsNotRefused dig (trio_history from t) (Ask (ThreadOut since))
      → IsMessageOf dig (trio_history from t) since m → Spells message_layout (message_bytes m) m
      → IsLineTold dig claims_none w (Send (who_name from) since) (Plain (answer.Sent (suc (length w.messages))))
      (mailed w m)
  send-line from since m t w s goes is spelled = (
    one_of from t s.births,
    member from t w s,
    (OfBytes (message_bytes m), told_thread (trio_history from t) since m goes is spelled, refl, refl),
  )

  stands-mailed : (t : Trio) (w : World) (m : Message) (s : Stands t w) → IsReached dig claims_none (mailed w m)
      → Stands t (mailed w m)
  stands-mailed t w m s reached = record { births = s.births; members = s.members; names = s.names; reached = reached }

  deliver-line : (from to : Who) (t : Trio) (w : World) (next : History) (hears : Hears dig (trio_history from t)
      (trio_history to t) next) (s : Stands t (mailed w hears.message))
      → Spells message_layout (message_bytes hears.message) hears.message
      → IsLineTold dig claims_none (mailed w hears.message) (Deliver (suc (length w.messages)) (who_name to))
      (Plain (answer.Archived hears.receipt.by.step))
      (onward to t (mailed w hears.message) s.births next)
  deliver-line from to t w next hears s spelled =
      let v : World = mailed w hears.message in
      let mail : Mail = Made (message_bytes hears.message) in
      let told : Told = Plain (answer.Archived hears.receipt.by.step) in (
        one_of to t s.births,
        member to t v s,
        subst (λ (o : Option Mail). MatchOption o ⊥ (λ x. IsDelivered dig claims_none v x (one_of to t s.births) told
            (onward to t v s.births next))) (sym (get-last w.messages mail))
            (inl (record {
              reply = OfReceipt hears.receipt;
              history = next;
              replies = (None, refl, tt, inl (hears.message, spelled, hears.receives));
              tells = refl;
              becomes = refl;
            })),
      )

  -- ---- all acts

  record Played (acts : List ScheduledAct) (w : World) (t : Trio) : Type 0 where
    lines : List Line
    told : List Told
    end : World
    are : AreLinesOf (length w.messages) acts lines
    runs : RunsLines dig claims_none w lines told end
    taken : Each IsLineTaken told
    histories : family end ≡ trio_family t

  module _ (Counted : World → Type 0) (sound_law : (w : World) → IsReached dig claims_none w → AllSound (family w)
      × Counted w)
      (spelled_law : (h : History) (since : ℕ) (m : Message) → IsSound h → IsMessageOf dig h since m
      → Spells message_layout (message_bytes m) m) where
    sound : (who : Who) (t : Trio) (w : World) → Stands t w → IsSound (trio_history who t)
    sound who t w s = each-who IsSound who t (subst AllSound (ap histories_of s.members) (sound_law w s.reached).0)

    play : (acts : List ScheduledAct) (t end : Trio) (w : World) → LeadTo dig acts t end → AllCanBeDone dig acts t
        → Each HasBytes acts → Stands t w → Played acts w end
    unfolding LeadTo AllCanBeDone AreLinesOf RunsLines
    play [] t end w lead can bytes s =
        record {
          lines = [];
          told = [];
          end = w;
          are = refl;
          runs = refl;
          taken = tt;
          histories = ap histories_of s.members ∙ ap trio_family lead;
        }
    play (Appends who events ∷ acts) t end w lead can bytes s =
        let h : History = with_events_at (trio_history who t) events None in
        let v : World = onward who t w s.births h in
        let line = append-line who events t w s bytes.0 can.0 in
        let stands : Stands (with_history who h t) v = stands-on who t w s h (named who t s.names)
        (reach-more w (Append (who_name who) events) (Plain (answer.Stepped (length h.steps))) v s.reached line) in
        let rest : Played acts v end =
        play acts lead.0 end v lead.2 (can.1 lead.0 lead.1) bytes.1 (subst (λ (u : Trio). Stands u v) (sym lead.1)
        stands) in
        record {
          lines = Append (who_name who) events ∷ rest.lines;
          told = Plain (answer.Stepped (length h.steps)) ∷ rest.told;
          end = rest.end;
          are = (rest.lines, refl, rest.are);
          runs = (v, line, rest.runs);
          taken = (tt, rest.taken);
          histories = rest.histories;
        }
    play (Tells from to ∷ acts) t end w lead can bytes s =
        let a : History = trio_history from t in
        let b : History = trio_history to t in
        let next : History = lead.1.0 in
        let hears : Hears dig a b next = lead.1.1 in
        let m : Message = hears.message in
        let since : ℕ = last_heard b a.name in
        let v : World = mailed w m in
        let spelled = spelled_law a since m (sound from t w s) hears.is_message in
        let sent = send-line from since m t w s can.0.0 hears.is_message spelled in
        let between : Stands t v = stands-mailed t w m s (reach-more w (Send (who_name from) since)
        (Plain (answer.Sent (suc (length w.messages)))) v s.reached sent) in
        let line = deliver-line from to t w next hears between spelled in
        let x : World = onward to t v between.births next in
        let archived : Told = Plain (answer.Archived hears.receipt.by.step) in
        let own : next.name ≡ who_name to = heard-name b m hears.receipt next (received_as dig b m None) hears.receives
        ∙ named to t s.names in
        let stands : Stands (with_history to next t) x = stands-on to t v between next own
        (reach-more v (Deliver (suc (length w.messages)) (who_name to)) archived x between.reached line) in
        let rest : Played acts x end =
        play acts lead.0 end x lead.2 (can.1 lead.0 lead.1) bytes.1 (subst (λ (u : Trio). Stands u x) (sym lead.1.2)
        stands) in
        let count : length (w.messages ++ Made (message_bytes m) ∷ []) ≡ suc (length w.messages) =
        omega (arith, length_push w.messages (Made (message_bytes m))) in
        let lines : List Line = Send (who_name from) since ∷ Deliver (suc (length w.messages)) (who_name to)
        ∷ rest.lines in
        record {
          lines = lines;
          told = Plain (answer.Sent (suc (length w.messages))) ∷ archived ∷ rest.told;
          end = rest.end;
          are = (since, (rest.lines, refl {a = lines}, subst (λ n. AreLinesOf n acts rest.lines) count rest.are));
          runs = (v, sent, (x, line, rest.runs));
          taken = (tt, (tt, rest.taken));
          histories = rest.histories;
        }

    -- ---- from the start

    abbrev begun : World → List ℕ → World
    begun w name = after_line (with_service w name)

    abbrev first : World
    first = begun (begun (begun no_world alpha_name) beta_name) gamma_name

    abbrev done : Told
    done = Plain answer.Done

    begin-runs : (lines : List Line) (told : List Told) (end : World) → RunsLines dig claims_none first lines told end
        → RunsLines dig claims_none no_world (service_lines ++ lines) (done ∷ done ∷ done ∷ told) end
    unfolding RunsLines
    begin-runs lines told end run = (
      begun no_world alpha_name,
      (((codes "alpha", refl, refl), refl, λ bad. bad), refl, refl),
      (
        begun (begun no_world alpha_name) beta_name,
        (((codes "beta", refl, refl), refl, λ bad. bad), refl, refl),
        (first, (((codes "gamma", refl, refl), refl, λ bad. bad), refl, refl), run),
      ),
    )

    none-run : RunsLines dig claims_none first [] [] first
    unfolding RunsLines
    none-run = refl

    begin-stands : Stands no_steps first
    begin-stands = record {
      births = record { alpha = []; beta = []; gamma = [] };
      members = refl;
      names = record { alpha = refl; beta = refl; gamma = refl };
      reached = (service_lines, done ∷ done ∷ done ∷ [], begin-runs [] [] first none-run);
    }

    pub is-run : (acts : List ScheduledAct) (t : Trio) → LeadTo dig acts no_steps t → AllCanBeDone dig acts no_steps
        → Each HasBytes acts → IsScriptRunOf dig acts t
    is-run acts t lead can bytes =
        let played : Played acts first t = play acts no_steps t first lead can bytes begin-stands in
        record {
          lines = played.lines;
          told = done ∷ done ∷ done ∷ played.told;
          end = played.end;
          are = played.are;
          runs = begin-runs played.lines played.told played.end played.runs;
          taken = (tt, (tt, (tt, played.taken)));
          histories = played.histories;
        }
