-- What is found in a page, and what comes of one entry more.
use Rattle.std.specs.Prelude.{◌≡◌, ℕ, ◌+◌, ◌-◌, ◌<◌, ◌≤◌, List, [], ◌∷◌, ◌++◌, length, take, drop, slice_get, Some}
use Rattle.tw_base.specs.declared.history.thread.Entry.{Entry}
use Rattle.tw_base.specs.declared.history.thread.Key.{Key}
use Rattle.std.specs.declared.cmp.Ordering.TheVariants.{Equal}
use Rattle.tw_base.specs.history.Entries.{key_cmp, key_of}
use Rattle.tw_rbnode.specs.declared.limits.TheConstants.{MOST_KEYS}
use Rattle.tw_rbnode.specs.declared.child.Child.{Child}
use Rattle.tw_rbnode.specs.declared.node.Added.{Added}
use Rattle.tw_rbnode.specs.declared.node.Added.TheVariants.{One, Two}
use Rattle.tw_rbnode.specs.declared.node.Found.{Found}
use Rattle.tw_rbnode.specs.declared.node.Found.TheVariants.{At, Between}
use Rattle.tw_rbnode.specs.Page.{TreePage, IsBetween}

-- the slot has the key
pub record HasKey (es : List Entry) (slot : ℕ) (key : Key) : Type 0 where
  pub entry : Entry
  pub counted : 0 < slot
  pub there : slice_get es (slot - 1) ≡ Some entry
  pub key_is : key_cmp key (key_of entry) ≡ Equal

-- the slot that has the key, or the place where it would stand
abbrev pub IsFound : List Entry → Key → Found → Type 0
IsFound es key (At slot) = HasKey es slot key
IsFound es key (Between place) = IsBetween es place key

-- the slot is one of them, or the place one beside them
abbrev pub IsThereAsFound : List Entry → Found → Type 0
IsThereAsFound es (At slot) = (0 < slot) × (slot ≤ length es)
IsThereAsFound es (Between place) = place ≤ length es

-- the entries with one more at the place
abbrev pub more_entries : List Entry → (place : ℕ) → Entry → List Entry
more_entries es place entry = take place es ++ entry ∷ [] ++ drop place es

-- the children with two in place of the one at the place
abbrev pub more_children : List Child → (place : ℕ) → (left right : Child) → List Child
more_children cs place left right = take place cs ++ (left ∷ right ∷ []) ++ drop (place + 1) cs

module _ (p : TreePage) (place : ℕ) (entry : Entry) (left right : Child) where
  -- one page, which has the entry at the place between the two children
  pub record IsOne (one : TreePage) : Type 0 where
    pub fewer : length p.entries < MOST_KEYS
    pub level : one.level ≡ p.level
    pub entries : one.entries ≡ more_entries p.entries place entry
    pub children : one.children ≡ more_children p.children place left right

  -- two pages of 12 entries, and the entry between them; together they have the same
  pub record IsTwo (first : TreePage) (middle : Entry) (second : TreePage) : Type 0 where
    pub full : length p.entries ≡ MOST_KEYS
    pub levels : (first.level ≡ p.level) × (second.level ≡ p.level)
    pub counts : (length first.entries ≡ 12) × (length second.entries ≡ 12)
    pub entries : first.entries ++ middle ∷ [] ++ second.entries ≡ more_entries p.entries place entry
    pub children : first.children ++ second.children ≡ more_children p.children place left right

  -- two pages exactly where the page was full
  abbrev pub IsAdded : Added → Type 0
  IsAdded (One one) = IsOne one
  IsAdded (Two first middle second) = IsTwo first middle second
