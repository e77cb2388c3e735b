-- One service's last step is told to the two other ones: where that leads, and that it can be done.
use Rattle.std.proofs.Common.{◌≡◌, ℕ, List, [], ◌∷◌, ◌++◌, refl, ap, sym, ◌∙◌}
use Rattle.tw_base.specs.history.History.{History}
use Rattle.tw_disk.specs.Disk.{DiskView}
use Rattle.tw_service.specs.declared.service.Service.{Service}
use Rattle.tw_generate.specs.Coming.{AllCanBeDone, CanTell}
use Rattle.tw_generate.specs.Playing.{ArePlaying, HasTold, LeadsByActs, PlaysHistory}
use Rattle.tw_generate.specs.Schedules.{Hears, IsDone, LeadTo, ScheduledAct, Trio, Who, last_heard, trio_history}
use Rattle.tw_generate.specs.Schedules.{with_history}
use Rattle.tw_generate.specs.Schedules.ScheduledAct.{Tells}
use Rattle.tw_generate.specs.Schedules.Who.{Alpha, Beta, Gamma}
use Rattle.tw_generate.specs.Unrefused.{CanHearBoth, CanPlay}
use Rattle.tw_generate.specs.declared.services.Services.{Services}
use Rattle.tw_generate.proofs.Leading.{heard-one, heard-other, none-lead, one-leads}
use Rattle.tw_generate.proofs.Unrefused.{can-on}

-- the two others, in the order in which they are told
abbrev pub one_of : Who → Who
one_of Alpha = Beta
one_of Beta = Alpha
one_of Gamma = Alpha

abbrev pub other_of : Who → Who
other_of Alpha = Gamma
other_of Beta = Gamma
other_of Gamma = Beta

abbrev pub tells_of : Who → List ScheduledAct
tells_of who = Tells who (one_of who) ∷ Tells who (other_of who) ∷ []

module _ {D H : Type 0} {g : _} {k : _} where
  abbrev pub service_of : Who → Services D H g k → Service D H g k
  service_of Alpha s = s.alpha
  service_of Beta s = s.beta
  service_of Gamma s = s.gamma

  -- the last step of it that each of the others has heard of
  abbrev pub one_heard : Who → Services D H g k → ℕ
  one_heard Alpha s = s.heard.beta_of_alpha
  one_heard Beta s = s.heard.alpha_of_beta
  one_heard Gamma s = s.heard.alpha_of_gamma

  abbrev pub other_heard : Who → Services D H g k → ℕ
  other_heard Alpha s = s.heard.gamma_of_alpha
  other_heard Beta s = s.heard.gamma_of_beta
  other_heard Gamma s = s.heard.beta_of_gamma

  -- the services once it has told both
  abbrev pub told_by : Who → Services D H g k → (from one other : Service D H g k) → (of_one of_other : ℕ)
      → Services D H g k
  told_by Alpha s from one other m n =
      record { alpha = from; beta = one; gamma = other; heard = record s.heard { beta_of_alpha = m; gamma_of_alpha = n } }
  told_by Beta s from one other m n =
      record { alpha = one; beta = from; gamma = other; heard = record s.heard { alpha_of_beta = m; gamma_of_beta = n } }
  told_by Gamma s from one other m n =
      record { alpha = one; beta = other; gamma = from; heard = record s.heard { alpha_of_gamma = m; beta_of_gamma = n } }

module _ (dig : List ℕ → List ℕ) where
  two-lead : (one two : ScheduledAct) (t u v : Trio) → IsDone dig one t u → IsDone dig two u v
      → LeadTo dig (one ∷ two ∷ []) t v
  two-lead one two t u v first second = one-leads dig one (two ∷ []) t u v first
      (one-leads dig two [] u v v second (none-lead dig v))

  leads-both : (who : Who) (t : Trio) (one other : History)
      → Hears dig (trio_history who t) (trio_history (one_of who) t) one
      → Hears dig (trio_history who t) (trio_history (other_of who) t) other → LeadTo dig (tells_of who) t
      (with_history (other_of who) other (with_history (one_of who) one t))
  leads-both Alpha t h e one other = two-lead (Tells Alpha Beta) (Tells Alpha Gamma) t (with_history Beta h t)
      (with_history Gamma e (with_history Beta h t)) (h, one, refl) (e, other, refl)
  leads-both Beta t h e one other = two-lead (Tells Beta Alpha) (Tells Beta Gamma) t (with_history Alpha h t)
      (with_history Gamma e (with_history Alpha h t)) (h, one, refl) (e, other, refl)
  leads-both Gamma t h e one other = two-lead (Tells Gamma Alpha) (Tells Gamma Beta) t (with_history Alpha h t)
      (with_history Beta e (with_history Alpha h t)) (h, one, refl) (e, other, refl)

  -- what the one heard is nothing to the other
  still-can : (who : Who) (t : Trio) (h : History) → CanTell dig (trio_history who (with_history (one_of who) h t))
      (trio_history (other_of who) (with_history (one_of who) h t))
      → CanTell dig (trio_history who t) (trio_history (other_of who) t)
  still-can Alpha t h can = can
  still-can Beta t h can = can
  still-can Gamma t h can = can

module _ {D H : Type 0} {g : _} {k : _} (dig : List ℕ → List ℕ) (view : D → DiskView) where
  -- whatever histories these play, the one has told its last step to both others
  abbrev pub ToldBoth : (who : Who) (s : Services D H g k) (from one other : Service D H g k) (of_one of_other : ℕ)
      → Type 0
  ToldBoth who s from one other of_one of_other = (a b e : History) → PlaysHistory dig view (service_of who s) a
      → PlaysHistory dig view (service_of (one_of who) s) b → PlaysHistory dig view (service_of (other_of who) s) e
      → one_heard who s ≡ last_heard b a.name → other_heard who s ≡ last_heard e a.name
      → PlaysHistory dig view from a × HasTold dig view a b one of_one × HasTold dig view a e other of_other

  -- ---- before

  module _ (s : Services D H g k) (t : Trio) (p : ArePlaying dig view s t) where
    plays_of : (who : Who) → PlaysHistory dig view (service_of who s) (trio_history who t)
    plays_of Alpha = p.alpha
    plays_of Beta = p.beta
    plays_of Gamma = p.gamma

    one_is : (who : Who) → one_heard who s ≡ last_heard (trio_history (one_of who) t) (trio_history who t).name
    one_is Alpha = p.beta_heard.one_is ∙ ap (last_heard t.beta) (sym p.alpha_heard.name)
    one_is Beta = p.alpha_heard.one_is ∙ ap (last_heard t.alpha) (sym p.beta_heard.name)
    one_is Gamma = p.alpha_heard.other_is ∙ ap (last_heard t.alpha) (sym p.gamma_heard.name)

    other_is : (who : Who) → other_heard who s ≡ last_heard (trio_history (other_of who) t) (trio_history who t).name
    other_is Alpha = p.gamma_heard.one_is ∙ ap (last_heard t.gamma) (sym p.alpha_heard.name)
    other_is Beta = p.gamma_heard.other_is ∙ ap (last_heard t.gamma) (sym p.beta_heard.name)
    other_is Gamma = p.beta_heard.other_is ∙ ap (last_heard t.beta) (sym p.gamma_heard.name)

    -- ---- afterwards

    -- the histories, with what each of the others heard
    abbrev after : Who → (one other : History) → Trio
    after who one other = with_history (other_of who) other (with_history (one_of who) one t)

    plays_after : (who : Who) (from : Service D H g k) {one other : Service D H g k} {of_one of_other : ℕ}
        → PlaysHistory dig view from (trio_history who t)
        → (h : HasTold dig view (trio_history who t) (trio_history (one_of who) t) one of_one)
        → (e : HasTold dig view (trio_history who t) (trio_history (other_of who) t) other of_other) → ArePlaying dig view (told_by who s from one other of_one of_other) (after who h.heard e.heard)
    plays_after Alpha from plays h e = record {
      alpha = plays;
      beta = h.receiver;
      gamma = e.receiver;
      alpha_heard = p.alpha_heard;
      beta_heard = heard-one p.beta_heard h.has_heard refl p.alpha_heard.name;
      gamma_heard = heard-one p.gamma_heard e.has_heard refl p.alpha_heard.name;
    }
    plays_after Beta from plays h e = record {
      alpha = h.receiver;
      beta = plays;
      gamma = e.receiver;
      alpha_heard = heard-one p.alpha_heard h.has_heard refl p.beta_heard.name;
      beta_heard = p.beta_heard;
      gamma_heard = heard-other p.gamma_heard e.has_heard refl p.beta_heard.name;
    }
    plays_after Gamma from plays h e = record {
      alpha = h.receiver;
      beta = e.receiver;
      gamma = plays;
      alpha_heard = heard-other p.alpha_heard h.has_heard refl p.gamma_heard.name;
      beta_heard = heard-other p.beta_heard e.has_heard refl p.gamma_heard.name;
      gamma_heard = p.gamma_heard;
    }

  pub tells-both : (who : Who) (s : Services D H g k) (from one other : Service D H g k) (of_one of_other : ℕ)
      → ToldBoth who s from one other of_one of_other
      → LeadsByActs dig view (tells_of who) s (told_by who s from one other of_one of_other)
  tells-both who s from one other of_one of_other told = λ t plays.
      let both = told (trio_history who t) (trio_history (one_of who) t) (trio_history (other_of who) t)
      (plays_of s t plays who) (plays_of s t plays (one_of who)) (plays_of s t plays (other_of who))
      (one_is s t plays who) (other_is s t plays who) in (
        with_history (other_of who) both.2.heard (with_history (one_of who) both.1.heard t),
        leads-both dig who t both.1.heard both.2.heard both.1.hears both.2.hears,
        plays_after s t plays who from both.0 both.1 both.2,
      )

  pub may-tell-both : (who : Who) (acts : List ScheduledAct) (s : Services D H g k)
      → CanPlay dig view (tells_of who ++ acts) s → CanHearBoth dig view (service_of who s) (service_of (one_of who) s)
      (service_of (other_of who) s) (one_heard who s) (other_heard who s)
  unfolding AllCanBeDone
  may-tell-both who acts s can =
      let t = can.0 in
      record {
        teller = trio_history who t;
        first = trio_history (one_of who) t;
        second = trio_history (other_of who) t;
        plays = plays_of s t can.1 who;
        plays_first = plays_of s t can.1 (one_of who);
        plays_second = plays_of s t can.1 (other_of who);
        first_is = one_is s t can.1 who;
        second_is = other_is s t can.1 who;
        can_first = can.2.0;
        can_second = λ h hears. still-can dig who t h (can.2.1 (with_history (one_of who) h t) (h, hears, refl)).0;
      }

  -- and then they play what is left
  pub both-told : (who : Who) (acts : List ScheduledAct) (s : Services D H g k) → CanPlay dig view (tells_of who ++ acts) s
      → (from one other : Service D H g k) (of_one of_other : ℕ) → ToldBoth who s from one other of_one of_other
      → CanPlay dig view acts (told_by who s from one other of_one of_other)
  both-told who acts s can from one other of_one of_other told =
      can-on dig view (tells_of who) acts s (told_by who s from one other of_one of_other)
      (tells-both who s from one other of_one of_other told) can
