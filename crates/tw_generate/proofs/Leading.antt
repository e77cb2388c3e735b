-- Where acts of services lead.
use Rattle.std.proofs.Common.{◌≡◌, ℕ, ◌+◌, List, [], ◌∷◌, ◌++◌, false, refl, ap, sym, ◌∙◌, subst, add-one}
use Rattle.std.specs.Prelude.{None, Result, Ok, Err, OnOk}
use Rattle.std.specs.Str.{bytes_eq}
use Rattle.tw_base.specs.history.History.{History, received, root_of, step_at}
use Rattle.tw_disk.specs.Disk.{DiskView}
use Rattle.tw_service.specs.EventStep.{event_step, with_events_at}
use Rattle.tw_service.specs.Stands.{no_history}
use Rattle.tw_generate.specs.Draws.{after_step}
use Rattle.tw_generate.specs.Playing.{HasHeard, HasHeardOf, LeadsByActs}
use Rattle.tw_generate.specs.Schedules.{IsDone, LeadTo, ScheduledAct, Trio, after_rounds, all_append, last_heard}
use Rattle.tw_generate.specs.Schedules.{round_of_acts, rounds_of, with_history}
use Rattle.tw_generate.specs.Schedules.Who.{Beta, Gamma}
use Rattle.tw_generate.specs.declared.services.Services.{Services}
use Rattle.tw_generate.proofs.HeardSteps.{heard-nothing}
use Rattle.std.specs.Prelude.{length}

module _ (dig : List ℕ → List ℕ) where
  pub none-lead : (t : Trio) → LeadTo dig [] t t
  unfolding LeadTo
  none-lead t = refl

  pub one-leads : (act : ScheduledAct) (acts : List ScheduledAct) (t next end : Trio) → IsDone dig act t next
      → LeadTo dig acts next end → LeadTo dig (act ∷ acts) t end
  unfolding LeadTo
  one-leads act acts t next end done lead = (next, done, lead)

  pub lead-on : (xs ys : List ScheduledAct) (t u v : Trio) → LeadTo dig xs t u → LeadTo dig ys u v
      → LeadTo dig (xs ++ ys) t v
  unfolding LeadTo
  lead-on [] ys t u v one other = subst (λ (w : Trio). LeadTo dig ys w v) (sym one) other
  lead-on (act ∷ xs) ys t u v one other = (one.0, one.1, lead-on xs ys one.0 u v one.2 other)

  -- and back
  pub lead-split : (xs ys : List ScheduledAct) (t v : Trio) → LeadTo dig (xs ++ ys) t v → (u : Trio) × LeadTo dig xs t u
      × LeadTo dig ys u v
  unfolding LeadTo
  lead-split [] ys t v lead = (t, refl, lead)
  lead-split (act ∷ xs) ys t v lead = let rest = lead-split xs ys lead.0 v lead.2 in
      (rest.0, (lead.0, lead.1, rest.1), rest.2)

  -- the histories with a step more each
  abbrev pub with_steps : Trio → (alpha beta gamma : List (List ℕ)) → Trio
  with_steps t alpha beta gamma =
      record {
        alpha = with_events_at t.alpha alpha None;
        beta = with_events_at t.beta beta None;
        gamma = with_events_at t.gamma gamma None;
      }

  pub append-ends : (alpha beta gamma : List (List ℕ)) (t end : Trio) → LeadTo dig (all_append alpha beta gamma) t end
      → end ≡ with_steps t alpha beta gamma
  unfolding LeadTo
  append-ends alpha beta gamma t end lead =
      sym lead.2.2.2 ∙ lead.2.2.1 ∙ ap (λ (u : Trio). with_history Gamma (with_events_at u.gamma gamma None) u)
      (lead.2.1 ∙ ap (λ (u : Trio). with_history Beta (with_events_at u.beta beta None) u) lead.1)

  pub all-append : (t : Trio) (alpha beta gamma : List (List ℕ)) → LeadTo dig (all_append alpha beta gamma) t
      (with_steps t alpha beta gamma)
  unfolding LeadTo
  all-append t alpha beta gamma = (_, refl, (_, refl, (_, refl, refl)))

module _ {D H : Type 0} {g : _} {k : _} (dig : List ℕ → List ℕ) (view : D → DiskView) where
  pub leads-none : (s : Services D H g k) → LeadsByActs dig view [] s s
  leads-none s = λ t plays. (t, none-lead dig t, plays)

  pub leads-on : (xs ys : List ScheduledAct) (a b c : Services D H g k) → LeadsByActs dig view xs a b
      → LeadsByActs dig view ys b c → LeadsByActs dig view (xs ++ ys) a c
  leads-on xs ys a b c one other = λ t plays.
      let first = one t plays in
      let second = other first.0 first.2 in
      (second.0, lead-on dig xs ys t first.0 second.0 first.1 second.1, second.2)

-- ---- what is heard

-- a step of events
pub heard-events : (own one other : List ℕ) (h : History) (of_one of_other : ℕ) (events : List (List ℕ))
    → HasHeardOf own one other h of_one of_other
    → HasHeardOf own one other (with_events_at h events None) of_one of_other
heard-events own one other h of_one of_other events before =
    let step = event_step (root_of (step_at h (length h.steps))) events None in
    record {
      name = before.name;
      one_is = before.one_is ∙ sym (heard-nothing h step refl one);
      other_is = before.other_is ∙ sym (heard-nothing h step refl other);
    }

module _ {own one other : List ℕ} {from before after : History} {of_one of_other last : ℕ}
    (was : HasHeardOf own one other before of_one of_other) (now : HasHeard from before after last) where
  -- a message of the first of the others
  pub heard-one : bytes_eq one other ≡ false → from.name ≡ one → HasHeardOf own one other after last of_other
  heard-one apart is = record {
    name = now.name ∙ was.name;
    one_is = now.last_is ∙ ap (last_heard after) is;
    other_is = was.other_is ∙ sym (now.others other (ap (λ n. bytes_eq n other) is ∙ apart));
  }

  -- a message of the second
  pub heard-other : bytes_eq other one ≡ false → from.name ≡ other → HasHeardOf own one other after of_one last
  heard-other apart is = record {
    name = now.name ∙ was.name;
    one_is = was.one_is ∙ sym (now.others one (ap (λ n. bytes_eq n one) is ∙ apart));
    other_is = now.last_is ∙ ap (last_heard after) is;
  }

-- nothing at the start
pub heard-none : (own one other : List ℕ) → HasHeardOf own one other (no_history own) 0 0
unfolding received
heard-none own one other = record { name = refl; one_is = refl; other_is = refl }

-- ---- rounds

pub rounds-none : (number : ℕ) → rounds_of number 0 ≡ []
unfolding rounds_of
rounds-none number = refl

pub after-none : (number : ℕ) → after_rounds number 0 ≡ number
unfolding after_rounds
after-none number = refl

pub rounds-more : (number n : ℕ) → rounds_of number (n + 1) ≡ rounds_of number n ++ round_of_acts
    (after_rounds number n) (n + 1)
unfolding rounds_of
rounds-more number n = ap (rounds_of number) (add-one n)
    ∙ ap (λ m. rounds_of number n ++ round_of_acts (after_rounds number n) m) (sym (add-one n))

pub after-more : (number n : ℕ) → after_rounds number (n + 1) ≡ after_step
    (after_step (after_step (after_rounds number n)))
unfolding after_rounds
after-more number n = ap (after_rounds number) (add-one n)

-- ---- answers

pub on-ok : {T E : Type 0} {P Q : Type 0} (r : Result T E) → (P → Q) → OnOk r P → OnOk r Q
on-ok (Ok v) goes is = goes is
on-ok (Err e) goes is = tt
