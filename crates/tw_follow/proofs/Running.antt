-- What runs come to.
use Rattle.std.proofs.Common.{◌≡◌, ℕ, List, [], ◌∷◌, ◌++◌, length, refl, ap, sym, ◌∙◌, subst, arith, inl, inr}
use Rattle.std.proofs.Common.{append-nil, append_assoc}
use Rattle.std.specs.Prelude.{Ok, Err, map}
use Rattle.tw_base.specs.declared.history.thread.Thread.{Thread}
use Rattle.tw_base.specs.history.Auth.{auth}
use Rattle.tw_base.specs.history.History.{History}
use Rattle.tw_base.specs.history.HistoryTexts.{history_texts}
use Rattle.tw_base.specs.history.Sound.{IsSound}
use Rattle.tw_base.specs.kinds.Bytes.{AreBytes}
use Rattle.tw_base.specs.kinds.Clash.{OrClash}
use Rattle.tw_base.specs.kinds.Lists.{Each, In}
use Rattle.tw_base.specs.format.Formats.{Spells}
use Rattle.tw_base.proofs.lemmas.format.CodecLaws.{spelled-fits}
use Rattle.tw_base.proofs.lemmas.kinds.Clashes.{and_then, Among-left, Among-right, OrClash-wider, both_within}
use Rattle.tw_msg.specs.declared.message.Message.{Message}
use Rattle.tw_msg.specs.Messages.{message_codec, message_layout, message_texts}
use Rattle.tw_msg.proofs.MessageCodec.{message-lawful, message-within}
use Rattle.tw_skipproof.proofs.PathBinding.{climb-binds}
use Rattle.tw_base.specs.declared.history.refusal.FollowRefusal.TheVariants.{DiskFault}
use Rattle.tw_follow.specs.HeadLists.{AreHeadsRising, HasHead, Kept, last_head}
use Rattle.tw_follow.specs.Runs.{MayMove, MayStay, Move, MovesBy, RunsByMoves, moved_texts}
use Rattle.tw_follow.specs.Runs.Move.{Answered, Reopened, Stopped}
use Rattle.tw_follow.proofs.Lists.{head-in, head-named, head-with, rising-with}
use Rattle.tw_follow.proofs.Offering.{IsMoved, known-is, message-thread, moved-is}

in-left : {X : Type 0} (x : X) (xs ys : List X) → In x xs → In x (xs ++ ys)
in-left x [] ys there = absurd there
in-left x (y ∷ xs) ys (inl is) = inl is
in-left x (y ∷ xs) ys (inr there) = inr (in-left x xs ys there)

in-last : {X : Type 0} (x : X) (xs : List X) → In x (xs ++ x ∷ [])
in-last x [] = inl refl
in-last x (y ∷ xs) = inr (in-last x xs)

abbrev threads : List Message → List Thread
threads moved = map (λ m. m.thread) moved

module _ (dig : List ℕ → List ℕ) where
  -- each move that changes the list has the bytes of the message
  moved-by : (k : Kept) (move : Move) (m : Message) (next : Kept) → MayMove dig k move m next → (bytes : List ℕ)
      × MovesBy dig k bytes m next
  moved-by k (Answered bytes (Ok thread)) m next may = (bytes, may.0)
  moved-by k (Answered bytes (Err DiskFault)) m next may = (bytes, may)
  moved-by k (Answered bytes (Err refusal)) m next may = absurd may
  moved-by k (Stopped bytes) m next may = (bytes, may)
  moved-by k Reopened m next may = absurd may

  is-moved : (k : Kept) (bytes : List ℕ) (m : Message) (next : Kept) → MovesBy dig k bytes m next
      → IsMoved dig (last_head dig k) m m.thread
  is-moved k bytes m next by = moved-is dig (last_head dig k) m m.thread by.moves

  pub runs-grow : (k : Kept) (moves : List Move) (moved : List Message) (last : Kept) → RunsByMoves dig k moves moved
      last → (last.name ≡ k.name) × (last.heads ≡ k.heads ++ threads moved)
  unfolding RunsByMoves
  runs-grow k [] moved last run = (
    ap (λ (x : Kept). x.name) run.1,
    ap (λ (x : Kept). x.heads) run.1 ∙ sym (append-nil k.heads) ∙ ap (λ (ms : List Message). k.heads ++ threads ms)
        (sym run.0),
  )
  runs-grow k (move ∷ moves) moved last (inl stay) = runs-grow k moves moved last stay.1
  runs-grow k (move ∷ moves) moved last (inr (m, others, next, is, may, rest)) =
      let adds = (moved-by k move m next may).1.adds in
      let on = runs-grow next moves others last rest in (
        on.0 ∙ ap (λ (x : Kept). x.name) adds,
        on.1 ∙ ap (λ (x : Kept). x.heads ++ threads others) adds ∙ append_assoc k.heads (m.thread ∷ []) (threads others)
            ∙ ap (λ (ms : List Message). k.heads ++ threads ms) (sym is),
      )

  pub runs-rise : (k : Kept) (moves : List Move) (moved : List Message) (last : Kept) → AreHeadsRising k
      → RunsByMoves dig k moves moved last → AreHeadsRising last
  unfolding RunsByMoves
  runs-rise k [] moved last rising run = subst AreHeadsRising (sym run.1) rising
  runs-rise k (move ∷ moves) moved last rising (inl stay) = runs-rise k moves moved last rising stay.1
  runs-rise k (move ∷ moves) moved last rising (inr (m, others, next, is, may, rest)) =
      let own = moved-by k move m next may in
      let moves_it = is-moved k own.0 m next own.1 in
      runs-rise next moves others last (subst AreHeadsRising (sym own.1.adds)
      (rising-with dig k m.thread rising (moves_it.from ∙ head-named dig k rising) moves_it.above)) rest

  module _ (bytes : List ℕ) (thread : Thread) where
    -- a head that is one of a list is one from then on
    stays : (k : Kept) (moves : List Move) (moved : List Message) (last : Kept) → RunsByMoves dig k moves moved last
        → In thread k.heads → In thread last.heads
    stays k moves moved last run there =
        subst (λ (hs : List Thread). In thread hs) (sym (runs-grow k moves moved last run).1)
        (in-left thread k.heads (threads moved) there)

    known-in : (k : Kept) → MayStay dig k (Answered bytes (Ok thread)) → In thread k.heads
    known-in k may =
        let own = known-is dig (last_head dig k) may.0.0 may.0.2 in
        let some = (message-thread bytes may.0.0 may.0.1).1 in
        let is : (last_head dig k).step ≡ may.0.0.thread.step = ap (λ (t : Thread). t.step) (sym own) in
        subst (λ (t : Thread). In t k.heads) (sym may.1) (head-in dig k.name k.heads (omega (arith, some, is)))

    moved-in : (k : Kept) (m : Message) (next : Kept) → MayMove dig k (Answered bytes (Ok thread)) m next
        → In thread next.heads
    moved-in k m next may =
        subst (λ (x : Kept). In thread x.heads) (sym may.0.adds)
        (subst (λ (t : Thread). In t (k.heads ++ m.thread ∷ [])) (sym may.1) (in-last m.thread k.heads))

    pub runs-answered : (k : Kept) (moves : List Move) (moved : List Message) (last : Kept) → RunsByMoves dig k moves
        moved last → In (Answered bytes (Ok thread)) moves → In thread last.heads
    unfolding RunsByMoves
    runs-answered k [] moved last run there = absurd there
    runs-answered k (move ∷ moves) moved last (inl stay) (inl is) = stays k moves moved last stay.1
        (known-in k (subst (λ (x : Move). MayStay dig k x) (sym is) stay.0))
    runs-answered k (move ∷ moves) moved last (inl stay) (inr there) = runs-answered k moves moved last stay.1 there
    runs-answered k (move ∷ moves) moved last (inr (m, others, next, own, may, rest)) (inl is) =
        stays next moves others last rest
        (moved-in k m next (subst (λ (x : Move). MayMove dig k x m next) (sym is) may))
    runs-answered k (move ∷ moves) moved last (inr (m, others, next, own, may, rest)) (inr there) =
        runs-answered next moves others last rest there

  -- the bytes spell the message, which moves this head
  record MovesOn (head : Thread) (bytes : List ℕ) (m : Message) : Type 0 where
    pub spelled : Spells message_layout bytes m
    pub moved : IsMoved dig head m m.thread

  module _ (size : (text : List ℕ) → length (dig text) ≡ 32) (are : (text : List ℕ) → AreBytes (dig text)) (h : History)
      (sound : IsSound h) where
    -- one climb: a history that has the message's thread has the head before
    one-climb : (head : Thread) (bytes : List ℕ) (m : Message) → AreBytes head.auth → MovesOn head bytes m
        → HasHead dig h m.thread
        → OrClash dig (history_texts dig h ++ message_texts dig head.auth m) (HasHead dig h head)
    one-climb head bytes m bytes_are on has =
        let within = message-within m (spelled-fits message_codec message-lawful bytes m on.spelled) in
        and_then dig (history_texts dig h ++ message_texts dig head.auth m) _ _
        (climb-binds dig size are h m.link.links m.thread.step m.since head.auth sound bytes_are within.2 within.0.link
        within.0.since has.within (on.moved.reaches ∙ sym has.has))
        (λ same. inl (record {
          within = omega (arith, on.moved.above, has.within);
          has = ap (auth dig h) (sym on.moved.since) ∙ sym same;
        }))

    pub runs-bind : (k : Kept) (moves : List Move) (moved : List Message) (last : Kept) → RunsByMoves dig k moves moved
        last → AreBytes (last_head dig k).auth → HasHead dig h (last_head dig last)
        → OrClash dig (history_texts dig h ++ moved_texts dig (last_head dig k) moved) (HasHead dig h (last_head dig k)
        × Each (HasHead dig h) (threads moved))
    unfolding RunsByMoves
    runs-bind k [] moved last run bytes_are has =
        inl (
          subst (λ (x : Kept). HasHead dig h (last_head dig x)) run.1 has,
          subst (λ (ms : List Message). Each (HasHead dig h) (threads ms)) (sym run.0) tt,
        )
    runs-bind k (move ∷ moves) moved last (inl stay) bytes_are has = runs-bind k moves moved last stay.1 bytes_are has
    runs-bind k (move ∷ moves) moved last (inr (m, others, next, is, may, rest)) bytes_are has =
        let own = moved-by k move m next may in
        let head : Thread = last_head dig k in
        let is_next : last_head dig next ≡ m.thread = ap (last_head dig) own.1.adds ∙ head-with dig k m.thread in
        let thread = message-thread own.0 m own.1.spelled in
        let on = runs-bind next moves others last rest (subst (λ (t : Thread). AreBytes t.auth) (sym is_next) thread.4)
        has in
        let own_texts : List (List ℕ) = history_texts dig h in
        let climb : List (List ℕ) = message_texts dig head.auth m in
        let behind : List (List ℕ) = moved_texts dig m.thread others in
        subst (λ (ms : List Message). OrClash dig (history_texts dig h ++ moved_texts dig head ms)
        (HasHead dig h head × Each (HasHead dig h) (threads ms))) (sym is)
        (and_then dig (own_texts ++ (climb ++ behind)) (HasHead dig h m.thread × Each (HasHead dig h)
        (threads others)) _
        (OrClash-wider dig (own_texts ++ behind) (own_texts ++ (climb ++ behind))
        (HasHead dig h m.thread × Each (HasHead dig h) (threads others))
        (both_within own_texts behind own_texts (climb ++ behind) (λ text a. a) (λ text a. Among-right text climb behind
        a))
        (subst (λ (t : Thread). OrClash dig (history_texts dig h ++ moved_texts dig t others)
        (HasHead dig h t × Each (HasHead dig h) (threads others))) is_next on))
        (λ both. and_then dig (own_texts ++ (climb ++ behind)) (HasHead dig h head) _
        (OrClash-wider dig (own_texts ++ climb) (own_texts ++ (climb ++ behind)) (HasHead dig h head)
        (both_within own_texts climb own_texts (climb ++ behind) (λ text a. a)
        (λ text a. Among-left text climb behind a))
        (one-climb head own.0 m bytes_are (record { spelled = own.1.spelled; moved = is-moved k own.0 m next own.1 })
        both.0))
        (λ own_head. inl (own_head, both))))
