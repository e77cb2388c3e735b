-- What the values of last lines have no part of, and the services in them, one after another.
use Rattle.std.proofs.Common.{◌≡◌, ℕ, suc, ◌+◌, ◌<◌, List, [], ◌∷◌, length, drop, get_or, ap, ◌∙◌, sym, add-one, refl}
use Rattle.std.proofs.Common.{Bool, true, false}
use Rattle.std.specs.Prelude.{◌||◌, Option, Some, None}
use Rattle.std.specs.Cmp.Lexicographic.{slice_cmp}
use Rattle.std.specs.Ordering.{match_ordering, nat_cmp}
use Rattle.std.specs.declared.cmp.Ordering.{Ordering}
use Rattle.std.specs.declared.cmp.Ordering.TheVariants.{Less, Equal, Greater}
use Rattle.std.proofs.Math.Seq.{drop-cons}
use Rattle.serde_json.specs.Data.{Members, array, item, member, no_items, no_members, put}
use Rattle.serde_json.specs.Written.{has_float, items_have_float, members_have_float}
use Rattle.tw_base.specs.declared.history.thread.Key.{Key}
use Rattle.tw_base.specs.kinds.Names.{name_text}
use Rattle.tw_text.specs.Summaries.{count, counts_of_steps, generated_data, replayed_data, with_services}

with_services-cons : (named : Members) (service : Key) (services : List Key)
    → with_services named (service ∷ services) ≡ with_services (put (name_text service.from) (count service.step) named)
    services
unfolding with_services
with_services-cons named service services = refl

pub with_services-drop : (named : Members) (services : List Key) (i : ℕ) (service : Key) → i < length services
    → get_or services i service ≡ service →
    with_services named (drop i services) ≡ with_services (put (name_text service.from) (count service.step) named)
    (drop (i + 1) services)
with_services-drop named services i service within at =
    ap (with_services named) (drop-cons services i service within ∙ ap (λ s. s ∷ drop (suc i) services) at)
    ∙ ap (λ j. with_services named (service ∷ drop j services)) (sym (add-one i))
    ∙ with_services-cons named service (drop (i + 1) services)

pub with_services-nil : (named : Members) → with_services named [] ≡ named
unfolding with_services
with_services-nil named = refl

-- ---- no number is a float

either-false : (a b : Bool) → (a || b) ≡ false → (a ≡ false) × (b ≡ false)
either-false true b is = absurd cc
either-false false b is = (refl, is)

put-no-float : (key : List ℕ) (n : ℕ) (ms : Members) → members_have_float ms ≡ false
    → members_have_float (put key (count n) ms) ≡ false
put-no-float key n no_members is = refl
put-no-float key n (member l e ms) is = by (slice_cmp nat_cmp key l)
    (put-no-float key n ms (either-false (has_float e) (members_have_float ms) is).1)
  where
    parts : (has_float e ≡ false) × (members_have_float ms ≡ false)
    parts = either-false (has_float e) (members_have_float ms) is

    by : (o : Ordering) → members_have_float (put key (count n) ms) ≡ false → members_have_float
        (match_ordering o (member key (count n) (member l e ms)) (member l (count n) ms)
        (member l e (put key (count n) ms))) ≡ false
    by Less rest = is
    by Equal rest = parts.1
    by Greater rest = ap (λ b. b || members_have_float (put key (count n) ms)) parts.0 ∙ rest

services-no-float : (services : List Key) (named : Members) → members_have_float named ≡ false
    → members_have_float (with_services named services) ≡ false
unfolding with_services
services-no-float [] named is = is
services-no-float (service ∷ services) named is =
    services-no-float services (put (name_text service.from) (count service.step) named)
    (put-no-float (name_text service.from) service.step named is)

pub replayed-whole : (accepted none refused rejected : ℕ) (services : List Key)
    → has_float (replayed_data accepted none refused rejected services) ≡ false
replayed-whole accepted none refused rejected services = ap (λ b. b || false) (services-no-float services no_members refl)

steps-whole : (steps : List ℕ) → items_have_float (counts_of_steps steps) ≡ false
steps-whole [] = refl
steps-whole (n ∷ ns) = steps-whole ns

pub generated-whole : (stands : Bool) (high : Option ℕ) (hops low : ℕ) (steps : List ℕ) (threads : ℕ)
    → has_float (generated_data stands high hops low steps threads) ≡ false
unfolding generated_data
generated-whole stands None hops low steps threads = ap (λ b. b || false) (steps-whole steps)
generated-whole stands (Some bound) hops low steps threads = ap (λ b. b || false) (steps-whole steps)
