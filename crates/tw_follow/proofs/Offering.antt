-- What the table says of a message.
use Rattle.std.proofs.Common.{◌≡◌, ◌≢◌, ℕ, ◌<◌, ◌≤◌, List, Bool, true, false, length, refl, ap, sym, ◌∙◌, subst, arith}
use Rattle.std.proofs.Common.{inl, inr, ◌⊎◌}
use Rattle.std.specs.Prelude.{cond, not, nat_lt, ◌==◌, ◌&&◌, Result, Ok, Err}
use Rattle.std.specs.Str.{bytes_eq}
use Rattle.std.proofs.lemmas.Bool.{eqb-false, eqb-true, le-ltb, ltb-false, ne_eqb}
use Rattle.std.proofs.lemmas.Bool.Decides.{Decides-eqb}
use Rattle.std.proofs.lemmas.Slice.Eq.{bytes_eq-Decides}
use Rattle.tw_base.specs.declared.history.thread.Thread.{Thread}
use Rattle.tw_base.specs.format.Formats.{IsPlace, Spells, SpellsNothing}
use Rattle.tw_base.specs.history.Auth.{auth}
use Rattle.tw_base.specs.history.History.{History}
use Rattle.tw_base.specs.history.Limits.{IsThread}
use Rattle.tw_base.proofs.lemmas.format.CodecLaws.{spelled-fits, unambiguous}
use Rattle.tw_msg.specs.declared.message.Message.{Message}
use Rattle.tw_msg.specs.HistoryMessages.{IsMessageOf, thread_at_step}
use Rattle.tw_msg.specs.Messages.{Leads, message_codec, message_layout}
use Rattle.tw_msg.proofs.MessageCodec.{message-lawful, message-within}
use Rattle.tw_msg.proofs.OwnMessages.{leads-own}
use Rattle.tw_skipproof.specs.Paths.{climbed}
use Rattle.tw_follow.specs.declared.judging.Offered.{Offered}
use Rattle.tw_follow.specs.declared.judging.Offered.TheVariants.{Known, Moves}
use Rattle.tw_base.specs.declared.history.refusal.FollowRefusal.{FollowRefusal}
use Rattle.tw_base.specs.declared.history.refusal.FollowRefusal.TheVariants.{Malformed, Other, Stale, Forked, BadLink}
use Rattle.tw_base.specs.declared.history.refusal.FollowRefusal.TheVariants.{BadPage, DiskFault, Reopen, NoMemory}
use Rattle.tw_follow.specs.HeadLists.{HasHead}
use Rattle.tw_follow.specs.Offers.{AnswersOffer, JudgesOffer, answer_to, judge_later, judge_same, judged_offer}
use Rattle.tw_follow.specs.Offers.{leads_from_head}

pub message-thread : (bytes : List ℕ) (m : Message) → Spells message_layout bytes m → IsThread m.thread
message-thread bytes m s = (message-within m (spelled-fits message_codec message-lawful bytes m s)).1

pub one-message : (bytes : List ℕ) (m n : Message) → Spells message_layout bytes m → Spells message_layout bytes n
    → m ≡ n
one-message bytes m n s t = (unambiguous message_codec message-lawful).one_value bytes m n s t

-- what a table of messages never says
abbrev pub IsOfTable : Result Offered FollowRefusal → Type 0
IsOfTable (Err (Malformed place)) = ⊥
IsOfTable (Err NoMemory) = ⊥
IsOfTable (Err DiskFault) = ⊥
IsOfTable (Err Reopen) = ⊥
IsOfTable (Err (BadPage page)) = ⊥
IsOfTable result = Unit {0}

module _ (dig : List ℕ → List ℕ) (head : Thread) (m : Message) where
  -- the table by its four tests
  abbrev pub by_tests : (other below same : Bool) → Result Offered FollowRefusal
  by_tests other below same = cond (not other) (Err (Other m.thread.from))
      (cond below (Err (Stale head.step)) (cond same (judge_same dig head m) (judge_later dig head m)))

  pub table : judged_offer dig head m ≡ by_tests (bytes_eq m.thread.from head.from) (nat_lt m.thread.step head.step)
      (m.thread.step == head.step)
  unfolding judged_offer
  table = refl

  -- a message that isn't refused is of the service
  same-of : judge_same dig head m ≡ Ok Known → m.thread.auth ≡ head.auth
  same-of is = by (bytes_eq m.thread.auth head.auth) refl is
    where
      by : (b : Bool) → bytes_eq m.thread.auth head.auth ≡ b
          → cond b (Ok Known) (Err (Forked head.step head.auth m.thread.auth)) ≡ Ok Known → m.thread.auth ≡ head.auth
      by true e found = (bytes_eq-Decides m.thread.auth head.auth).0 e
      by false e found = cc

  same-not_moved : (thread : Thread) → judge_same dig head m ≡ Ok (Moves thread) → ⊥
  same-not_moved thread is = by (bytes_eq m.thread.auth head.auth) is
    where
      by : (b : Bool) → cond b (Ok Known) (Err (Forked head.step head.auth m.thread.auth)) ≡ Ok (Moves thread) → ⊥
      by true found = cc
      by false found = cc

  later-not_known : judge_later dig head m ≡ Ok Known → ⊥
  later-not_known is = by (leads_from_head dig head m) is
    where
      by : (b : Bool) → cond b (Ok (Moves m.thread)) (Err (BadLink head.step head.auth)) ≡ Ok Known → ⊥
      by true found = cc
      by false found = cc

  -- a known message is the head
  pub known-is : judged_offer dig head m ≡ Ok Known → m.thread ≡ head
  known-is is = by (bytes_eq m.thread.from head.from) refl (nat_lt m.thread.step head.step) (m.thread.step == head.step)
      refl (sym table ∙ is)
    where
      by : (a : Bool) → bytes_eq m.thread.from head.from ≡ a → (b c : Bool) → (m.thread.step == head.step) ≡ c
          → by_tests a b c ≡ Ok Known → m.thread ≡ head
      by false e b c f found = absurd cc
      by true e true c f found = absurd cc
      by true e false true f found =
          λ i. record {
            from = (bytes_eq-Decides m.thread.from head.from).0 e i;
            step = eqb-true m.thread.step head.step f i;
            auth = same-of found i;
          }
      by true e false false f found = absurd (later-not_known found)

  -- what a message says that moves the head
  pub record IsMoved (thread : Thread) : Type 0 where
    pub thread_is : thread ≡ m.thread
    pub from : m.thread.from ≡ head.from
    pub above : head.step < m.thread.step
    pub since : m.since ≡ head.step
    pub reaches : climbed dig m.link.links m.thread.step m.since head.auth ≡ m.thread.auth

  later-is : (thread : Thread) → judge_later dig head m ≡ Ok (Moves thread)
      → (thread ≡ m.thread) × (m.since ≡ head.step) × (climbed dig m.link.links m.thread.step m.since head.auth
      ≡ m.thread.auth)
  later-is thread is = by (m.since == head.step) refl (bytes_eq climbs m.thread.auth) refl is
    where
      climbs : List ℕ
      climbs = climbed dig m.link.links m.thread.step m.since head.auth

      by : (b : Bool) → (m.since == head.step) ≡ b → (c : Bool) → bytes_eq climbs m.thread.auth ≡ c
          → cond (b && c) (Ok (Moves m.thread)) (Err (BadLink head.step head.auth)) ≡ Ok (Moves thread)
          → (thread ≡ m.thread) × (m.since ≡ head.step) × (climbs ≡ m.thread.auth)
      by true e true f found = (
        let one : thread ≡ m.thread = cc in one,
        eqb-true m.since head.step e,
        (bytes_eq-Decides climbs m.thread.auth).0 f,
      )
      by true e false f found = absurd cc
      by false e c f found = absurd cc

  above_of : (step last : ℕ) → last ≤ step → (step ≡ last → ⊥) → last < step
  above_of step last low other = omega (arith, low, other)

  pub moved-is : (thread : Thread) → judged_offer dig head m ≡ Ok (Moves thread) → IsMoved thread
  moved-is thread is = by (bytes_eq m.thread.from head.from) refl (nat_lt m.thread.step head.step) refl
      (m.thread.step == head.step) refl (sym table ∙ is)
    where
      by : (a : Bool) → bytes_eq m.thread.from head.from ≡ a → (b : Bool) → nat_lt m.thread.step head.step ≡ b
          → (c : Bool) → (m.thread.step == head.step) ≡ c → by_tests a b c ≡ Ok (Moves thread) → IsMoved thread
      by false e b f c g found = absurd cc
      by true e true f c g found = absurd cc
      by true e false f true g found = absurd (same-not_moved thread found)
      by true e false f false g found =
          let parts = later-is thread found in
          let low = ltb-false m.thread.step head.step f in
          let other = eqb-false m.thread.step head.step g in
          record {
            thread_is = parts.0;
            from = (bytes_eq-Decides m.thread.from head.from).0 e;
            above = above_of m.thread.step head.step low other;
            since = parts.1;
            reaches = parts.2;
          }

  -- what moves the head is a later thread of its service
  pub moved-next : (thread : Thread) → IsThread m.thread → judged_offer dig head m ≡ Ok (Moves thread)
      → (thread.from ≡ head.from) × (head.step < thread.step) × IsThread thread
  moved-next thread within e =
      let is = moved-is thread e in
      subst (λ (t : Thread). (t.from ≡ head.from) × (head.step < t.step) × IsThread t) (sym is.thread_is)
      (is.from, is.above, within)

  -- the table refuses nothing but as it says
  pub of-table : IsOfTable (judged_offer dig head m)
  of-table = subst IsOfTable (sym table) (by (bytes_eq m.thread.from head.from) (nat_lt m.thread.step head.step)
      (m.thread.step == head.step) (bytes_eq m.thread.auth head.auth) (leads_from_head dig head m))
    where
      by : (a b c d e : Bool) → IsOfTable (cond (not a) (Err (Other m.thread.from)) (cond b (Err (Stale head.step))
          (cond c (cond d (Ok Known) (Err (Forked head.step head.auth m.thread.auth)))
          (cond e (Ok (Moves m.thread)) (Err (BadLink head.step head.auth))))))
      by false b c d e = tt
      by true true c d e = tt
      by true false true true e = tt
      by true false true false e = tt
      by true false false d true = tt
      by true false false d false = tt

module _ (dig : List ℕ → List ℕ) (head : Thread) (bytes : List ℕ) where
  -- ---- what becomes of bytes

  place-once : (one other : ℕ) → IsPlace message_layout bytes one → IsPlace message_layout bytes other → one ≡ other
  place-once one other p q =
      let low = p.longest other q.within q.good in
      let high = q.longest one p.within p.good in
      omega (arith, low, high)

  -- they are no message, or the table says so of theirs
  abbrev pub IsJudged : Result Offered FollowRefusal → Type 0
  IsJudged r = ((place : ℕ) × (r ≡ Err (Malformed place)) × SpellsNothing message_layout bytes × IsPlace message_layout
      bytes place)
      ⊎ ((m : Message) × Spells message_layout bytes m × (judged_offer dig head m ≡ r))

  pub sort_of : (r : Result Offered FollowRefusal) → JudgesOffer dig head bytes r → (r ≡ Err NoMemory) ⊎ IsJudged r
  sort_of (Err (Malformed place)) j = inr (inl (place, refl, j.0, j.1))
  sort_of (Err NoMemory) j = inl refl
  sort_of r j = inr (inr j)

  pub judges-once : (one other : Result Offered FollowRefusal) → JudgesOffer dig head bytes one → JudgesOffer dig head
      bytes other → one ≢ Err NoMemory → other ≢ Err NoMemory → one ≡ other
  judges-once one other j k free also = by (sort_of one j) (sort_of other k)
    where
      by : (one ≡ Err NoMemory) ⊎ IsJudged one → (other ≡ Err NoMemory) ⊎ IsJudged other → one ≡ other
      by (inl e) b = absurd (free e)
      by (inr a) (inl e) = absurd (also e)
      by (inr (inl a)) (inr (inl b)) = a.1 ∙ ap (λ (p : ℕ). Err (Malformed p)) (place-once a.0 b.0 a.3 b.3) ∙ sym b.1
      by (inr (inl a)) (inr (inr b)) = absurd (a.2 b.0 b.1)
      by (inr (inr a)) (inr (inl b)) = absurd (b.2 a.0 a.1)
      by (inr (inr a)) (inr (inr b)) = sym a.2 ∙ ap (λ (m : Message). judged_offer dig head m)
          (one-message bytes a.0 b.0 a.1 b.1) ∙ b.2

  -- what the table says of a message is what becomes of its bytes
  pub judges-table : (r : Result Offered FollowRefusal) (m : Message) → Spells message_layout bytes m
      → judged_offer dig head m ≡ r → JudgesOffer dig head bytes r
  judges-table (Err (Malformed place)) m s e = absurd (subst IsOfTable e (of-table dig head m))
  judges-table (Err NoMemory) m s e = tt
  judges-table r m s e = (m, s, e)

  -- a refusal is none that comes of the disk
  pub not_fault : JudgesOffer dig head bytes (Err DiskFault) → ⊥
  not_fault j = subst IsOfTable j.2 (of-table dig head j.0)

  pub no_fault : (r : FollowRefusal) → JudgesOffer dig head bytes (Err r) → r ≢ DiskFault
  no_fault r j e = not_fault (subst (λ (x : FollowRefusal). JudgesOffer dig head bytes (Err x)) e j)

  pub refused-answer : (r : FollowRefusal) → JudgesOffer dig head bytes (Err r) → AnswersOffer dig false head bytes
      (Err r)
  refused-answer DiskFault j = absurd (not_fault j)
  refused-answer r j = j

-- ---- the message that a history has since a head

module _ (dig : List ℕ → List ℕ) (h : History) (head : Thread) (m : Message) (name : h.name ≡ head.from)
    (has : HasHead dig h head) (is : IsMessageOf dig h head.step m) where
  abbrev count : ℕ
  count = length h.steps

  from-is : m.thread.from ≡ head.from
  from-is = ap (λ (t : Thread). t.from) is.thread ∙ name

  step-is : m.thread.step ≡ count
  step-is = ap (λ (t : Thread). t.step) is.thread

  not_below : nat_lt m.thread.step head.step ≡ false
  not_below = le-ltb m.thread.step head.step (omega (arith, step-is, has.within))

  known : count ≡ head.step → judged_offer dig head m ≡ Ok Known
  known same =
      table dig head m
      ∙ (λ i. by_tests dig head m ((bytes_eq-Decides m.thread.from head.from).1 from-is i) (not_below i)
      ((Decides-eqb m.thread.step head.step).1 (step-is ∙ same) i))
      ∙ ap (λ (b : Bool). cond b (Ok Known) (Err (Forked head.step head.auth m.thread.auth)))
      ((bytes_eq-Decides m.thread.auth head.auth).1 (ap (λ (t : Thread). t.auth) is.thread ∙ ap (auth dig h) same
      ∙ has.has))

  moves : (count ≡ head.step → ⊥) → judged_offer dig head m ≡ Ok (Moves m.thread)
  moves other =
      let climbs : List ℕ = climbed dig m.link.links m.thread.step m.since head.auth in
      let leads_it = subst (λ (k : List ℕ). Leads dig k m) has.has
      (subst (λ (s : ℕ). Leads dig (auth dig h s) m) is.at_since
      (leads-own dig h m.since m (subst (λ (s : ℕ). IsMessageOf dig h s m) (sym is.at_since) is))) in
      table dig head m
      ∙ (λ i. by_tests dig head m ((bytes_eq-Decides m.thread.from head.from).1 from-is i) (not_below i)
      (ne_eqb m.thread.step head.step (λ e. other (sym step-is ∙ e)) i))
      ∙ (λ i. cond ((Decides-eqb m.since head.step).1 is.at_since i && (bytes_eq-Decides climbs m.thread.auth).1
      leads_it.reaches i) (Ok (Moves m.thread)) (Err (BadLink head.step head.auth)))

  pub own-judged : (offered : Offered) × (judged_offer dig head m ≡ Ok offered)
      × (answer_to head offered ≡ thread_at_step dig h count)
  own-judged = by (count == head.step) refl
    where
      by : (b : Bool) → (count == head.step) ≡ b → (offered : Offered) × (judged_offer dig head m ≡ Ok offered)
          × (answer_to head offered ≡ thread_at_step dig h count)
      by true e =
          let same = eqb-true count head.step e in (
            Known,
            known same,
            (λ i. record { from = sym name i; step = sym same i; auth = (sym has.has ∙ ap (auth dig h) (sym same)) i }),
          )
      by false e = (Moves m.thread, moves (eqb-false count head.step e), is.thread)
