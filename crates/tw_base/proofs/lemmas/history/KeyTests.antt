-- What the tests of two keys say of their order.
use Rattle.std.proofs.Common.{◌≡◌, true, false, refl, ap, sym, ◌∙◌}
use Rattle.std.specs.declared.cmp.Ordering.{Ordering}
use Rattle.std.specs.declared.cmp.Ordering.TheVariants.{Less, Equal, Greater}
use Rattle.std.specs.Ordering.{is_eq, is_lt, ordering_reverse}
use Rattle.tw_base.specs.declared.history.thread.Key.{Key}
use Rattle.tw_base.specs.history.Entries.{KeyBelow, key_cmp}
use Rattle.tw_base.proofs.lemmas.history.Keys.{KeyBelow-trans, KeyBelow-turned, key_cmp_total}

-- the key below another one is not above it
pub turned : (a b : Key) → KeyBelow b a → key_cmp a b ≡ Greater
turned a b below = key_cmp_total.antisymm a b ∙ ap ordering_reverse below

pub same_key : (a : Key) → key_cmp a a ≡ Equal
same_key a = by (key_cmp a a) refl
  where
    by : (o : Ordering) → key_cmp a a ≡ o → key_cmp a a ≡ Equal
    by Less is = absurd (let no : Less ≡ Greater = sym is ∙ turned a a is in cc)
    by Equal is = is
    by Greater is = absurd (let no : Greater ≡ Less = sym is ∙ KeyBelow-turned a a is in cc)

pub lt-below : (a b : Key) → KeyBelow a b → is_lt (key_cmp a b) ≡ true
lt-below a b below = ap is_lt below

pub lt-above : (a b : Key) → KeyBelow b a → is_lt (key_cmp a b) ≡ false
lt-above a b above = ap is_lt (turned a b above)

pub eq-below : (a b : Key) → KeyBelow a b → is_eq (key_cmp a b) ≡ false
eq-below a b below = ap is_eq below

pub eq-above : (a b : Key) → KeyBelow b a → is_eq (key_cmp a b) ≡ false
eq-above a b above = ap is_eq (turned a b above)

pub below-lt : (a b : Key) → is_lt (key_cmp a b) ≡ true → KeyBelow a b
below-lt a b sure = by (key_cmp a b) refl sure
  where
    by : (o : Ordering) → key_cmp a b ≡ o → is_lt o ≡ true → key_cmp a b ≡ Less
    by Less is test = is
    by Equal is test = cc
    by Greater is test = cc

-- a key that is not below another one is one with it, or above
pub data NotBelow (a b : Key) : Type 0 where
  One : key_cmp a b ≡ Equal → NotBelow a b
  Over : KeyBelow b a → NotBelow a b

pub not_below : (a b : Key) → is_lt (key_cmp a b) ≡ false → NotBelow a b
not_below a b never = by (key_cmp a b) refl never
  where
    by : (o : Ordering) → key_cmp a b ≡ o → is_lt o ≡ false → NotBelow a b
    by Less is test = cc
    by Equal is test = One is
    by Greater is test = Over (KeyBelow-turned a b is)

-- a key below one that is not below another
pub below-other : (f e key : Key) → KeyBelow f e → is_lt (key_cmp key e) ≡ false → KeyBelow f key
below-other f e key less never = by (not_below key e never)
  where
    by : NotBelow key e → KeyBelow f key
    by (One is) = let back : key_cmp f key ≡ key_cmp f e = key_cmp_total.antisymm f key ∙ ap ordering_reverse
        (key_cmp_total.congr key e f is) ∙ sym (key_cmp_total.antisymm f e) in back ∙ less
    by (Over more) = KeyBelow-trans f e key less more
