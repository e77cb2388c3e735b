-- Worlds of which one service goes on: with the same history, or with one more step that was made at this line.
use Rattle.std.proofs.Common.{◌≡◌, ◌⊎◌, ℕ, suc, zero, ◌+◌, ◌-◌, List, [], ◌∷◌, ◌++◌, length, refl, ap, sym, ◌∙◌, subst}
use Rattle.std.proofs.Common.{inl, inr, arith}
use Rattle.std.specs.Prelude.{Option, Some, None, option_and_then, replicate, slice_get, false}
use Rattle.std.proofs.lemmas.List.{append-nil, length_push}
use Rattle.tw_base.specs.declared.history.thread.Entry.{Entry}
use Rattle.tw_base.specs.declared.history.thread.Thread.{Thread}
use Rattle.tw_base.specs.history.History.{History, Step, entry_at, plus, thread_of}
use Rattle.tw_base.specs.history.Sound.{IsSound}
use Rattle.tw_world.specs.Order.{IsEarlier}
use Rattle.tw_world.specs.Worlds.{Member, World, born_of, member_of, moved, after_line, numbered, put_member}
use Rattle.tw_world.proofs.Births.{RiseBelow, below-numbered, get-cases, get-last, numbered-there, rise-later}
use Rattle.tw_world.proofs.Births.{rise-more}
use Rattle.tw_world.proofs.Members.{each-member, named, put-found}
use Rattle.tw_world.proofs.Ordered.{GoOn, IsBorn, IsHonest, IsOrdered, IsOrderedWorld, IsOwn, Prolongs, StandsBehind}
use Rattle.tw_world.proofs.Ordered.{born-on, ordered-put, own-on, prolongs-plus, prolongs-same, put-goes}

-- ---- what one more step received

abbrev entry_of : ℕ → Option Thread → Option Entry
entry_of i o = option_and_then (λ t. Some (record { thread = t; archived = i })) o

record IsNewEntry (h : History) (s : Step) (step : ℕ) (e : Entry) : Type 0 where
  at : step ≡ suc (length h.steps)
  thread : thread_of (Some s) ≡ Some e.thread

of-thread : (i : ℕ) (o : Option Thread) (e : Entry) → entry_of i o ≡ Some e → o ≡ Some e.thread
of-thread i None e is = cc
of-thread i (Some t) e is = let same : record { thread = t; archived = i } ≡ e = cc in ap (λ (x : Entry). Some x.thread)
    same

-- it was received before, or is what the new step received
entry-cases : (h : History) (s : Step) (step : ℕ) (e : Entry) → entry_at (plus h s) step ≡ Some e
    → (entry_at h step ≡ Some e) ⊎ IsNewEntry h s step e
entry-cases h s zero e is = cc
entry-cases h s (suc i) e is = by (slice_get (h.steps ++ s ∷ []) i) refl is
  where
    by : (o : Option Step) → slice_get (h.steps ++ s ∷ []) i ≡ o → entry_of (suc i) (thread_of o) ≡ Some e
        → (entry_at h (suc i) ≡ Some e) ⊎ IsNewEntry h s (suc i) e
    by None at is = cc
    by (Some x) at is =
        elim (get-cases h.steps s i x at) [
          | inl old ↦ inl (ap (λ (o : Option Step). entry_of (suc i) (thread_of o)) old ∙ is)
          | inr new ↦ inr (record {
            at = ap suc new.0;
            thread = of-thread (suc i) (thread_of (Some s)) e (ap (λ (y : Step). entry_of (suc i) (thread_of (Some y)))
                (sym new.1) ∙ is);
          })
        ]

-- ---- births of a service that goes on

births-same : (births : List ℕ) (h g : History) (place : ℕ) → g ≡ h
    → births ++ replicate (length g.steps - length h.steps) place ≡ births
births-same births h g place same =
    let none : length g.steps - length h.steps ≡ 0 = ap (λ (x : History). length x.steps - length h.steps) same
    ∙ omega arith in
    ap (λ n. births ++ replicate n place) none ∙ append-nil births

births-more : (births : List ℕ) (h g : History) (s : Step) (place : ℕ) → g ≡ plus h s
    → births ++ replicate (length g.steps - length h.steps) place ≡ births ++ place ∷ []
births-more births h g s place more =
    let one : length g.steps - length h.steps ≡ 1 = ap (λ (x : History). length x.steps - length h.steps) more
    ∙ omega (arith, length_push h.steps s) in
    ap (λ n. births ++ replicate n place) one

module _ (dig : List ℕ → List ℕ) (w : World) (o : IsOrderedWorld dig w) (name : List ℕ) (m : Member)
    (is : member_of w.members name ≡ Some m) where
  there : (n : Member) → n.history.name ≡ m.history.name → member_of w.members n.history.name ≡ Some m
  there n same = ap (member_of w.members) (same ∙ named w.members name m is) ∙ is

  born : IsBorn dig w.members w.hostile w.place m
  born = each-member (IsBorn dig w.members w.hostile w.place) w.members name m o.births is

  sound : IsSound m.history
  sound = each-member (λ (k : Member). IsSound k.history) w.members name m o.sound is

  later-born : (k : Member) → IsBorn dig w.members w.hostile w.place k → IsBorn dig w.members w.hostile (w.place + 1) k
  later-born k b = (b.0, rise-later w.place k.births b.1)

  -- it has the same history
  pub put-same : (n : Member) → n.history ≡ m.history → n.births ≡ m.births → IsOrdered dig (put_member w.members n)
      w.hostile w.messages w.anchors (w.place + 1)
  put-same n histories births =
      let names : n.history.name ≡ m.history.name = ap (λ (h : History). h.name) histories in
      let bound : IsBorn dig w.members w.hostile (w.place + 1) n = (
        ap (λ (bs : List ℕ). length bs) births ∙ born.0 ∙ ap (λ (h : History). length h.steps) (sym histories),
        subst (λ bs. RiseBelow (w.place + 1) bs) (sym births) (rise-later w.place m.births born.1),
      ) in
      ordered-put dig w.members w.hostile w.messages w.anchors w.place o m n (there n names)
      (prolongs-same dig m n histories births) (w.place + 1) later-born
      (subst IsSound (sym histories) sound) bound
      (λ step e entry. inl (ap (λ (h : History). entry_at h step) (sym histories) ∙ entry))

  -- it has one more step, which received nothing, or an honest thread
  module _ (n : Member) (s : Step) (histories : n.history ≡ plus m.history s) (births : n.births ≡ m.births ++ w.place
      ∷ []) where
    names : n.history.name ≡ m.history.name
    names = ap (λ (h : History). h.name) histories

    abbrev others : List Member
    others = put_member w.members n

    goes : Prolongs dig m n
    goes = prolongs-plus dig m n s w.place histories births

    on-goes : GoOn dig w.members others
    on-goes = put-goes dig w.members w.hostile w.messages w.anchors w.place o m n (there n names) goes

    -- the new step is born now
    new-born : (step : ℕ) → step ≡ suc (length m.history.steps)
        → born_of others (record { from = n.history.name; step = step }) ≡ Some w.place
    new-born step at =
        ap (λ (x : Option Member). option_and_then (λ (k : Member). numbered k.births step) x)
        (put-found w.members n m (there n names))
        ∙ ap (λ (bs : List ℕ). numbered bs step) births
        ∙ ap (λ i. numbered (m.births ++ w.place ∷ []) i) (at ∙ ap suc (sym born.0))
        ∙ get-last m.births w.place

    -- a service's own step was born before
    own-behind : (t : Thread) (step : ℕ) → step ≡ suc (length m.history.steps) → IsOwn dig w.members t
        → IsEarlier (born_of others (record { from = t.from; step = t.step }))
        (born_of others (record { from = n.history.name; step = step }))
    own-behind t step at own =
        let b = each-member (IsBorn dig w.members w.hostile w.place) w.members t.from own.member o.births own.is in
        let a = numbered-there own.member.births t.step own.some (omega (arith, own.within, b.0)) in
        let was : born_of w.members (record { from = t.from; step = t.step }) ≡ Some a.0 =
        ap (λ (x : Option Member). option_and_then (λ (k : Member). numbered k.births t.step) x) own.is ∙ a.1 in (
          a.0,
          w.place,
          born-on dig w.members others on-goes (record { from = t.from; step = t.step }) a.0 was,
          new-born step at,
          below-numbered w.place own.member.births b.1 t.step a.0 a.1,
        )

    pub put-more : IsSound n.history → ((t : Thread) → thread_of (Some s) ≡ Some t → IsHonest dig w.members w.hostile t)
        → IsOrdered dig others w.hostile w.messages w.anchors (w.place + 1)
    put-more is_sound honest =
        let one : length n.births ≡ length (m.births ++ w.place ∷ []) = ap (λ (bs : List ℕ). length bs) births in
        let other : length n.history.steps ≡ length (m.history.steps ++ s ∷ []) = ap (λ (h : History). length h.steps)
        histories in
        let length_is : length n.births ≡ length n.history.steps =
        omega (arith, one, other, born.0, length_push m.births w.place, length_push m.history.steps s) in
        ordered-put dig w.members w.hostile w.messages w.anchors w.place o m n (there n names) goes (w.place + 1)
        later-born is_sound
        (length_is, subst (λ bs. RiseBelow (w.place + 1) bs) (sym births) (rise-more w.place m.births born.1)) receives
      where
        stands : (t : Thread) (step : ℕ) → step ≡ suc (length m.history.steps) → IsHonest dig w.members w.hostile t
            → StandsBehind dig others w.hostile (record { from = n.history.name; step = step }) t
        stands t step at (inl own) = inl (own-on dig w.members others on-goes t own, own-behind t step at own)
        stands t step at (inr lies) = inr lies

        receives : (step : ℕ) (e : Entry) → entry_at n.history step ≡ Some e
            → (entry_at m.history step ≡ Some e) ⊎ StandsBehind dig others w.hostile
            (record { from = n.history.name; step = step }) e.thread
        receives step e entry =
            elim (entry-cases m.history s step e (ap (λ (h : History). entry_at h step) (sym histories) ∙ entry)) [
              | inl old ↦ inl old
              | inr new ↦ inr (stands e.thread step new.at (honest e.thread new.thread))
            ]

  -- ---- as a line moves it

  pub moved-same : (h : History) → h ≡ m.history → IsOrderedWorld dig (after_line (moved w m h))
  moved-same h same =
      put-same (record
      { history = h; births = m.births ++ replicate (length h.steps - length m.history.steps) w.place; waits = false })
      same (births-same m.births m.history h w.place same)

  pub moved-more : (h : History) (s : Step) → h ≡ plus m.history s → IsSound h
      → ((t : Thread) → thread_of (Some s) ≡ Some t → IsHonest dig w.members w.hostile t)
      → IsOrderedWorld dig (after_line (moved w m h))
  moved-more h s more is_sound honest =
      put-more (record
      { history = h; births = m.births ++ replicate (length h.steps - length m.history.steps) w.place; waits = false })
      s more (births-more m.births m.history h s w.place more) is_sound honest
