-- Runs of followers on a disk: what is to be shown of them.
use Rattle.std.proofs.Common.{◌≡◌, ℕ, List, [], ◌∷◌, ◌++◌, refl, ap, sym, ◌∙◌, subst, inl, inr, ◌⊎◌, ⊎_elim, Bool, true}
use Rattle.std.proofs.Common.{append_assoc}
use Rattle.std.specs.Prelude.{IfErr, IfOk, IsTrue, Some, Result, Ok, Err, map}
use Rattle.tw_base.specs.declared.history.thread.Thread.{Thread}
use Rattle.tw_base.specs.kinds.Lists.{In}
use Rattle.tw_disk.specs.Disk.{DiskView, IsAtRest, IsSameDisk, LeavesOnly, Reads}
use Rattle.tw_disk.specs.Image.{Image}
use Rattle.tw_disk.proofs.Moments.{leaves_weaker}
use Rattle.tw_pages.specs.Disks.{OneOf}
use Rattle.tw_pages.specs.Runs.{Acted, GoesOnFrom, Happening, HoldsOnly, IsRunFrom, Laws, disk_at, end_of}
use Rattle.tw_pages.specs.Runs.State.{Closed}
use Rattle.tw_pages.proofs.Wavering.{ends, holds, wavers_at}
use Rattle.tw_pages.proofs.States.{serves_for_good}
use Rattle.tw_msg.specs.declared.message.Message.{Message}
use Rattle.tw_follow.specs.declared.follower.Follower.{Follower}
use Rattle.tw_base.specs.declared.history.refusal.FollowRefusal.{FollowRefusal}
use Rattle.tw_base.specs.declared.history.refusal.FollowRefusal.TheVariants.{DiskFault, Reopen}
use Rattle.tw_follow.specs.Calls.{Offers, TellsHeads}
use Rattle.tw_follow.specs.DiskRuns.{Act, Does, GoesOnByMoves, HasHeadIn, IsFollowerOpened, IsImageOfList}
use Rattle.tw_follow.specs.DiskRuns.{IsToldByFollowers, KeepsAll, ShowsNone, TellsHead, followers}
use Rattle.tw_follow.specs.DiskRuns.Act.{Offered, ToldHeads}
use Rattle.tw_follow.specs.Follows.{Follows, HasSameDisk, disk_of, has_failed, head_of}
use Rattle.tw_follow.specs.HeadLists.{Kept}
use Rattle.tw_follow.specs.Offers.{AnswersOffer}
use Rattle.tw_follow.specs.Runs.{GoesByMove, Move, RunsByMoves}
use Rattle.tw_follow.specs.Runs.Move.{Answered, Stopped}
use Rattle.tw_follow.specs.Stands.{KeepsList, StandsFor, root_kind}
use Rattle.tw_follow.proofs.Answering.{reopen_is_none, same_refusal}
use Rattle.tw_follow.proofs.Running.{runs-answered, runs-grow, runs-rise}
use Rattle.tw_follow.proofs.Standing.{stands_rising}

in-left : {X : Type 0} (x : X) (xs ys : List X) → In x xs → In x (xs ++ ys)
in-left x [] ys there = absurd there
in-left x (y ∷ xs) ys (inl is) = inl is
in-left x (y ∷ xs) ys (inr there) = inr (in-left x xs ys there)

module _ (dig : List ℕ → List ℕ) where
  -- ---- lists that go on

  pub none : (k : Kept) → RunsByMoves dig k [] [] k
  unfolding RunsByMoves
  none k = (refl, refl)

  pub one : (k : Kept) (move : Move) (next : Kept) → GoesByMove dig k move next → (moved : List Message) × RunsByMoves
      dig k (move ∷ []) moved next
  unfolding RunsByMoves
  one k move next (inl stay) = ([], inl (stay.0, (refl, stay.1)))
  one k move next (inr (m, may)) = (m ∷ [], inr (m, [], next, refl, may, (refl, refl)))

  pub both : (k : Kept) (first : List Move) (moved : List Message) (mid : Kept) (second : List Move)
      (more : List Message) (last : Kept) → RunsByMoves dig k first moved mid → RunsByMoves dig mid second more last
      → RunsByMoves dig k (first ++ second) (moved ++ more) last
  unfolding RunsByMoves
  both k [] moved mid second more last run rest =
      subst (λ (x : Kept). RunsByMoves dig x second (moved ++ more) last) run.1
      (subst (λ (ms : List Message). RunsByMoves dig mid second (ms ++ more) last) (sym run.0) rest)
  both k (move ∷ moves) moved mid second more last (inl stay) rest =
      inl (stay.0, both k moves moved mid second more last stay.1 rest)
  both k (move ∷ moves) moved mid second more last (inr (m, others, next, is, may, run)) rest =
      inr (
        m,
        others ++ more,
        next,
        ap (λ (ms : List Message). ms ++ more) is,
        may,
        both next moves others mid second more last run rest,
      )

  pub has_on : (k next : Kept) (t : Thread) → GoesOnByMoves dig k next → In t k.heads → In t next.heads
  has_on k next t on there = subst (λ (hs : List Thread). In t hs) (sym (runs-grow dig k on.0 on.1 next on.2).1)
      (in-left t k.heads (map (λ m. m.thread) on.1) there)

  module _ {D H : Type 0} {g : _} {k : _} (view : D → DiskView) where
    -- an offer over a list that is kept
    offered : (bytes : List ℕ) (result : Result Thread FollowRefusal) (old new : Follower D H g k) (s : Kept)
        → Offers dig view bytes old new result → Follows dig view old s
        → Acted view (followers dig view) (IsImageOfList dig) (GoesOnByMoves dig) (Follows dig view) HasHeadIn ShowsNone
        TellsHead (Offered bytes result) old new s
    offered bytes (Ok thread) old new s o follows =
        let st = o.steps s follows in
        let on = one s (Answered bytes (Ok thread)) st.next st.done.0 in
        record {
          next = st.next;
          goes = (Answered bytes (Ok thread) ∷ [], on.0, on.1);
          any_moment = st.any_moment;
          told = st.told;
          done = inl (
            st.done.1,
            λ t e. subst (λ (u : Thread). In u st.next.heads) (sym e)
                (runs-answered dig bytes thread s (Answered bytes (Ok thread) ∷ []) on.0 st.next on.1 (inl refl)),
          );
        }
    offered bytes (Err r) old new s o follows =
        let st = o.steps s follows in
        let on = one s (Stopped bytes) st.next st.goes in
        record {
          next = st.next;
          goes = (Stopped bytes ∷ [], on.0, on.1);
          any_moment = st.any_moment;
          told = st.told;
          done = ⊎_elim
              (λ e. inr
              (inr (o.broken.1 (inr (ap (λ (x : FollowRefusal). Err x) e)), λ t told. told, λ t shown. shown)))
              (λ kept. inr (inl (kept.0, λ t told. absurd told))) st.refused;
        }

    -- the telling of the heads
    told_heads : (result : Result (List Thread) FollowRefusal) (old new : Follower D H g k) (s : Kept)
        → TellsHeads dig view old new result → Follows dig view old s
        → Acted view (followers dig view) (IsImageOfList dig) (GoesOnByMoves dig) (Follows dig view) HasHeadIn ShowsNone
        TellsHead (ToldHeads result) old new s
    told_heads result old new s o follows =
        let still = o.still s follows in
        let rest = serves_for_good (root_kind dig) KeepsList view new.recorded.store new.recorded.root s still.0 in
        record {
          next = s;
          goes = ([], [], none s);
          any_moment = leaves_weaker (view (disk_of old)) (view (disk_of new)) (λ i. StandsFor dig i s)
              (OneOf (IsImageOfList dig) s s) (λ i is. inl is) still.1;
          told = record { image = rest.image; told = rest.told; has = inl rest.has };
          done = inr (inl (still.0, λ t tells. told_in result o.heads t tells));
        }
      where
        told_in : (r : Result (List Thread) FollowRefusal) → IfOk r (λ heads. (kept : Kept) → Follows dig view old kept
            → heads ≡ kept.heads) → (t : Thread) → TellsHead (ToldHeads r) t → In t s.heads
        told_in (Ok hs) is t tells = subst (λ (xs : List Thread). In t xs) (is s follows) tells
        told_in (Err r) is t tells = absurd tells

    acts : (a : Act) (old new : Follower D H g k) (s : Kept) → Does dig view a old new → Follows dig view old s
        → Acted view (followers dig view) (IsImageOfList dig) (GoesOnByMoves dig) (Follows dig view) HasHeadIn ShowsNone
        TellsHead a old new s
    acts (Offered bytes result) old new s o follows = offered bytes result old new s o follows
    acts (ToldHeads result) old new s o follows = told_heads result old new s o follows

    -- ---- after a disk fault

    reopens : (bytes : List ℕ) (result : Result Thread FollowRefusal) (old new : Follower D H g k)
        → Offers dig view bytes old new result → has_failed old ≡ true → result ≡ Err Reopen
    reopens bytes result old new o failed = subst (λ (b : Bool). AnswersOffer dig b (head_of old) bytes result) failed
        o.table

    same_of : (bytes : List ℕ) (result : Result Thread FollowRefusal) (old new : Follower D H g k)
        → Offers dig view bytes old new result → result ≡ Err Reopen → HasSameDisk view old new
    same_of bytes result old new o is =
        ⊎_elim (λ e. absurd (reopen_is_none e)) (λ same. same)
        (subst (λ (r : Result Thread FollowRefusal). IfErr r (λ refusal. (refusal ≡ DiskFault) ⊎ HasSameDisk view old
        new)) is o.unwritten)

    after_fault : (a : Act) (old new : Follower D H g k) → Does dig view a old new → has_failed old ≡ true
        → (has_failed new ≡ true) × IsSameDisk (view (disk_of old)) (view (disk_of new)) × ((t : Thread) → TellsHead a t
        → ⊥) × ((t : Thread) → ShowsNone new t → ShowsNone old t)
    after_fault (Offered bytes result) old new o failed =
        let is = reopens bytes result old new o failed in (
          o.broken.1 (inl failed),
          (same_of bytes result old new o is).disk,
          λ t told. subst (λ (r : Result Thread FollowRefusal). TellsHead (Offered bytes r) t) is told,
          λ t shown. shown,
        )
    after_fault (ToldHeads result) old new o failed = (
      o.broken.1 (inl failed),
      o.unwritten.disk,
      λ t told. subst (λ (r : Result (List Thread) FollowRefusal). TellsHead (ToldHeads r) t) (o.reopen.1 failed) told,
      λ t shown. shown,
    )

    pub follower_laws : Laws view (followers dig {D = D} {H = H} {g = g} {k = k} view) (IsImageOfList dig)
        (GoesOnByMoves dig) (Follows dig view) HasHeadIn ShowsNone TellsHead
    follower_laws = record {
      same = λ s. ([], [], none s);
      on = λ a b c first second.
          (first.0 ++ second.0, first.1 ++ second.1, both a first.0 first.1 b second.0 second.1 c first.2 second.2);
      keeps = λ s next t on there. has_on s next t on there;
      rests = λ v s follows. serves_for_good (root_kind dig) KeepsList view v.recorded.store v.recorded.root s follows;
      shows = λ v s t follows shown. absurd shown;
      opens = λ disk v image s opened told is. opened.follows image s told is;
      acts = λ a old new s does whole follows. acts a old new s does follows;
      stays = λ a old new does failed. after_fault a old new does failed;
    }

    -- over every run
    module _ (only_now : (d : D) (c : Image) → (view d).left_since (view d).moment c → (view d).may_leave c) where
      pub from_first : (disk : D) (first : Kept) (run : List (Happening D (Follower D H g k) Act))
          → HoldsOnly view (λ i. StandsFor dig i first) disk
          → IsRunFrom view (followers dig view) (Closed disk) run
          → HoldsOnly view (KeepsAll dig first (IsToldByFollowers dig view disk run))
          (disk_at view (followers dig view) (end_of (Closed disk) run))
      from_first disk first run is leads =
          let start = holds view (followers dig view) (IsImageOfList dig) (GoesOnByMoves dig) (Follows dig view)
          HasHeadIn ShowsNone TellsHead follower_laws only_now disk (λ i. StandsFor dig i first) first
          (λ i stands. (first, stands, ([], [], none first))) is in
          let end = ends view (followers dig view) (IsImageOfList dig) (GoesOnByMoves dig) (Follows dig view) HasHeadIn
          ShowsNone TellsHead follower_laws only_now (Closed disk) run first start leads in
          let left = wavers_at view (followers dig view) (IsImageOfList dig) (GoesOnByMoves dig) (Follows dig view)
          HasHeadIn ShowsNone TellsHead follower_laws only_now (end_of (Closed disk) run) end.now end.is in
          let all : (i : Image) → GoesOnFrom (IsImageOfList dig) (GoesOnByMoves dig) view end.now i
          → KeepsAll dig first (IsToldByFollowers dig view disk run) i = λ i goes.
          let on : GoesOnByMoves dig first goes.0 = (
            end.goes_on.0 ++ goes.2.0,
            end.goes_on.1 ++ goes.2.1,
            both first end.goes_on.0 end.goes_on.1 end.now goes.2.0 goes.2.1 goes.0 end.goes_on.2 goes.2.2,
          ) in (
            goes.0,
            goes.1,
            on,
            runs-rise dig first on.0 on.1 goes.0 (stands_rising dig is.0.image first is.0.has) on.2,
            λ t told. has_on end.now goes.0 t goes.2 (end.tells t told),
          ) in (
            record { image = left.0.image; told = left.0.told; has = all left.0.image left.0.has },
            λ c may. all c (left.1 c may),
          )
