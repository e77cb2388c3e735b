-- What lines have made, by the rules of scripts, and the worlds that they lead to.
use Rattle.std.proofs.Common.{◌≡◌, ◌⊎◌, ℕ, suc, zero, ◌+◌, ◌-◌, ◌<◌, List, [], ◌∷◌, ◌++◌, length, map, Bool, true}
use Rattle.std.proofs.Common.{false, not, ◌&&◌, ◌||◌, nat_le, nat_lt, Option, Some, None, if◌then◌else◌, refl, ap, sym}
use Rattle.std.proofs.Common.{◌∙◌, inl, inr, arith}
use Rattle.std.specs.Prelude.{IsSome, is_some, slice_get, slice_index_or, slice_set}
use Rattle.std.specs.List.{list_all, list_any}
use Rattle.std.specs.Str.{bytes_eq}
use Rattle.std.proofs.lemmas.Bool.{and_parts, leb-true, not-true, or_parts, or_right}
use Rattle.std.proofs.lemmas.List.{length_push, map-set, map_push}
use Rattle.std.proofs.lemmas.List.Folds.{list_any-append}
use Rattle.std.proofs.lemmas.Slice.Eq.{bytes_eq-Decides}
use Rattle.tw_base.specs.declared.history.thread.Thread.{Thread}
use Rattle.tw_base.specs.kinds.Lists.{Each, In}
use Rattle.tw_base.proofs.lemmas.kinds.ListLemmas.{In-cases_append, In-left, In-right}
use Rattle.tw_script.specs.Allowed as allowed
use Rattle.tw_script.specs.Allowed.{is_file, is_hostile, is_message, is_name_free, is_service, nothing_made}
use Rattle.tw_script.specs.declared.limits.TheConstants.{MOST_SCRIPT_NAMES}
use Rattle.tw_script.specs.declared.made.Declared.{Declared}
use Rattle.tw_script.specs.declared.made.Made.{Made}
use Rattle.tw_world.specs.Players.{HasMember, IsMessage}
use Rattle.tw_world.specs.Runs.{loss_answer}
use Rattle.tw_world.specs.Worlds.{Mail, Member, World, after_line, member_of, no_world, numbered, put_member}
use Rattle.tw_world.specs.Worlds.{with_anchor, with_file, with_hostile, with_member, with_message, with_service}
use Rattle.tw_world.specs.Worlds.{without_message}
use Rattle.tw_world.specs.Worlds.Mail.{Made as MadeMail, Unmade, Dropped}
use Rattle.tw_world.proofs.Members.{is_same}

-- the message can be used
abbrev pub is_there : Mail → Bool
is_there (MadeMail bytes) = true
is_there Unmade = true
is_there Dropped = false

-- the world has the services, the names that lie, the messages and the files that lines made
pub record HasMade (made : Made) (w : World) : Type 0 where
  pub services : (name : List ℕ) → is_service made name ≡ is_some (member_of w.members name)
  pub hostile : (name : List ℕ) → is_hostile made name ≡ true → In name w.hostile
  pub lies : (name : List ℕ) → In name w.hostile → is_hostile made name ≡ true
  pub messages : made.messages ≡ map is_there w.messages
  pub files : made.files ≡ length w.files

pub nothing-made : HasMade nothing_made no_world
nothing-made = record {
  services = λ name. refl;
  hostile = λ name is. absurd (cc);
  lies = λ name is. absurd is;
  messages = refl;
  files = refl;
}

-- ---- services

is-some-if : (b : Bool) (m : Member) → is_some (if b then Some m else None) ≡ b
is-some-if true m = refl
is-some-if false m = refl

-- one of another name more
member-more : (members : List Member) (m : Member) (name : List ℕ)
    → is_some (member_of (members ++ m ∷ []) name) ≡ (is_some (member_of members name) || bytes_eq m.history.name name)
member-more [] m name = is-some-if (bytes_eq m.history.name name) m
member-more (n ∷ members) m name = by (bytes_eq n.history.name name) (member-more members m name)
  where
    by : (b : Bool) → is_some (member_of (members ++ m ∷ []) name) ≡ (is_some (member_of members name) || bytes_eq
        m.history.name name)
        → is_some (if b then Some n else member_of (members ++ m ∷ []) name)
        ≡ (is_some (if b then Some n else member_of members name) || bytes_eq m.history.name name)
    by true rest = refl
    by false rest = rest

-- another state of one
member-put : (members : List Member) (one : Member) (name : List ℕ) → is_some (member_of (put_member members one) name)
    ≡ is_some (member_of members name)
member-put [] one name = refl
member-put (m ∷ members) one name = by (bytes_eq m.history.name one.history.name) refl (bytes_eq m.history.name name)
    refl (member-put members one name)
  where
    kept : (b : Bool) → is_some (if b then Some one else member_of members name) ≡ is_some
        (if b then Some m else member_of members name)
    kept true = refl
    kept false = refl

    by : (b : Bool) → bytes_eq m.history.name one.history.name ≡ b → (c : Bool) → bytes_eq m.history.name name ≡ c
        → is_some (member_of (put_member members one) name) ≡ is_some (member_of members name)
        → is_some (member_of (if b then one ∷ members else m ∷ put_member members one) name) ≡ is_some
        (if c then Some m else member_of members name)
    by true same c is rest =
        let name-is : bytes_eq one.history.name name ≡ c = ap (λ (n : List ℕ). bytes_eq n name)
        (sym ((bytes_eq-Decides m.history.name one.history.name).0 same)) ∙ is in
        ap (λ (d : Bool). is_some (if d then Some one else member_of members name)) name-is ∙ kept c
    by false other true is rest =
        ap (λ (d : Bool). is_some (if d then Some m else member_of (put_member members one) name)) is
    by false other false is rest =
        ap (λ (d : Bool). is_some (if d then Some m else member_of (put_member members one) name)) is ∙ rest

-- ---- names

or-false : (b : Bool) → (b || false) ≡ b
or-false true = refl
or-false false = refl

and-true : (b : Bool) → (b && true) ≡ b
and-true true = refl
and-true false = refl

and-false : (b : Bool) → (b && false) ≡ false
and-false true = refl
and-false false = refl

module _ (made : Made) (new name : List ℕ) where
  -- a service's name more
  service-more : is_service (allowed.with_name made new false) name ≡ (is_service made name || bytes_eq new name)
  service-more =
      list_any-append (λ (d : Declared). bytes_eq d.name name && not d.hostile) made.names
      (record { name = new; hostile = false } ∷ [])
      ∙ ap (λ (b : Bool). is_service made name || b) (or-false (bytes_eq new name && true)
      ∙ and-true (bytes_eq new name))

  -- a hostile name more
  service-same : is_service (allowed.with_name made new true) name ≡ is_service made name
  service-same =
      list_any-append (λ (d : Declared). bytes_eq d.name name && not d.hostile) made.names
      (record { name = new; hostile = true } ∷ [])
      ∙ ap (λ (b : Bool). is_service made name || b) (or-false (bytes_eq new name && false) ∙ and-false
      (bytes_eq new name)) ∙ or-false (is_service made name)

  hostile-more : is_hostile (allowed.with_name made new true) name ≡ (is_hostile made name || bytes_eq new name)
  hostile-more =
      list_any-append (λ (d : Declared). bytes_eq d.name name && d.hostile) made.names
      (record { name = new; hostile = true } ∷ [])
      ∙ ap (λ (b : Bool). is_hostile made name || b) (or-false (bytes_eq new name && true)
      ∙ and-true (bytes_eq new name))

  hostile-same : is_hostile (allowed.with_name made new false) name ≡ is_hostile made name
  hostile-same =
      list_any-append (λ (d : Declared). bytes_eq d.name name && d.hostile) made.names
      (record { name = new; hostile = false } ∷ [])
      ∙ ap (λ (b : Bool). is_hostile made name || b) (or-false (bytes_eq new name && false) ∙ and-false
      (bytes_eq new name)) ∙ or-false (is_hostile made name)

-- ---- a line more

module _ (made : Made) (w : World) (o : HasMade made w) where
  pub made-later : HasMade made (after_line w)
  made-later =
      record { services = o.services; hostile = o.hostile; lies = o.lies; messages = o.messages; files = o.files }

  pub made-member : (m : Member) → HasMade made (after_line (with_member w m))
  made-member m = record {
    services = λ name. o.services name ∙ sym (member-put w.members m name);
    hostile = o.hostile;
    lies = o.lies;
    messages = o.messages;
    files = o.files;
  }

  pub made-service : (new : List ℕ) → HasMade (allowed.with_name made new false) (after_line (with_service w new))
  made-service new = record {
    services = λ name. service-more made new name ∙ ap (λ (b : Bool). b || bytes_eq new name) (o.services name)
        ∙ sym (member-more w.members
        (record { history = record { name = new; steps = [] }; births = []; waits = false }) name);
    hostile = λ name is. o.hostile name (sym (hostile-same made new name) ∙ is);
    lies = λ name is. hostile-same made new name ∙ o.lies name is;
    messages = o.messages;
    files = o.files;
  }

  pub made-hostile : (new : List ℕ) → HasMade (allowed.with_name made new true) (after_line (with_hostile w new))
  made-hostile new = record {
    services = λ name. service-same made new name ∙ o.services name;
    hostile = λ name is. told name (is_hostile made name) refl (sym (hostile-more made new name) ∙ is);
    lies = λ name is. lied name (In-cases_append name w.hostile (new ∷ []) is);
    messages = o.messages;
    files = o.files;
  }
    where
      told : (name : List ℕ) (b : Bool) → is_hostile made name ≡ b → (b || bytes_eq new name) ≡ true
          → In name (w.hostile ++ new ∷ [])
      told name true is either = In-left name w.hostile (new ∷ []) (o.hostile name is)
      told name false is either = In-right name w.hostile (new ∷ []) (inl (sym ((bytes_eq-Decides new name).0 either)))

      lied : (name : List ℕ) → In name w.hostile ⊎ In name (new ∷ []) → is_hostile (allowed.with_name made new true)
          name ≡ true
      lied name (inl old) = hostile-more made new name ∙ ap (λ (b : Bool). b || bytes_eq new name) (o.lies name old)
      lied name (inr (inl is)) =
          hostile-more made new name ∙ or_right (is_hostile made name) (bytes_eq new name)
          (ap (λ (n : List ℕ). bytes_eq new n) is ∙ is_same new)
      lied name (inr (inr none)) = absurd none

  pub made-mail : (one : Mail) → is_there one ≡ true → HasMade (allowed.with_made_message made)
      (after_line (with_message w one))
  made-mail one is = record {
    services = o.services;
    hostile = o.hostile;
    lies = o.lies;
    messages = ap (λ (there : List Bool). there ++ true ∷ []) o.messages
        ∙ ap (λ (b : Bool). map is_there w.messages ++ b ∷ []) (sym is) ∙ sym (map_push is_there w.messages one);
    files = o.files;
  }

  pub made-lost : (number : ℕ) → HasMade (allowed.without_made_message made number)
      (after_line (without_message w number))
  made-lost number = record {
    services = o.services;
    hostile = o.hostile;
    lies = o.lies;
    messages = ap (λ (there : List Bool). slice_set there (number - 1) false) o.messages
        ∙ sym (map-set is_there w.messages (number - 1) Dropped);
    files = o.files;
  }

  pub made-file : (file : Option (List ℕ)) → HasMade (allowed.with_made_file made) (after_line (with_file w file))
  made-file file = record {
    services = o.services;
    hostile = o.hostile;
    lies = o.lies;
    messages = o.messages;
    files = ap (λ (n : ℕ). n + 1) o.files ∙ sym (length_push w.files file);
  }

  pub made-anchor : (t : Thread) → HasMade made (after_line (with_anchor w t))
  made-anchor t =
      record { services = o.services; hostile = o.hostile; lies = o.lies; messages = o.messages; files = o.files }

  -- ---- what may follow

  -- the name is new
  narrower : (name : List ℕ) (ds : List Declared) (p : Declared → Bool) → ((d : Declared) → bytes_eq d.name name ≡ false
      → p d ≡ false)
      → list_any (λ (d : Declared). bytes_eq d.name name) ds ≡ false → list_any p ds ≡ false
  narrower name [] p others none = refl
  narrower name (d ∷ ds) p others none =
      let parts = or_parts (bytes_eq d.name name) (list_any (λ (d : Declared). bytes_eq d.name name) ds) none in
      ap (λ (b : Bool). b || list_any p ds) (others d parts.0) ∙ narrower name ds p others parts.1

  and-no : (a b : Bool) → a ≡ false → (a && b) ≡ false
  and-no a b is = ap (λ (c : Bool). c && b) is

  pub free-new : (name : List ℕ) → is_name_free made name ≡ true → (is_some (member_of w.members name) ≡ false)
      × (In name w.hostile → ⊥)
  free-new name free =
      let none : list_any (λ (d : Declared). bytes_eq d.name name) made.names ≡ false =
      not-true (list_any (λ (d : Declared). bytes_eq d.name name) made.names)
      (and_parts (nat_lt (length made.names) MOST_SCRIPT_NAMES)
      (not (list_any (λ (d : Declared). bytes_eq d.name name) made.names)) free).1 in (
        sym (o.services name) ∙ narrower name made.names (λ (d : Declared). bytes_eq d.name name && not d.hostile)
            (λ d is. and-no (bytes_eq d.name name) (not d.hostile) is) none,
        λ lies.
            let both : true ≡ false = sym (o.lies name lies)
            ∙ narrower name made.names (λ (d : Declared). bytes_eq d.name name && d.hostile)
            (λ d is. and-no (bytes_eq d.name name) d.hostile is) none in cc,
      )

  -- the files are there
  numbered-some : (files : List (Option (List ℕ))) (index : ℕ) → index < length files → IsSome (slice_get files index)
  numbered-some [] index within = absurd (omega (arith, within))
  numbered-some (f ∷ files) zero within = refl
  numbered-some (f ∷ files) (suc index) within = numbered-some files index (omega (arith, within))

  pub file-there : (n : ℕ) → is_file made n ≡ true → IsSome (numbered w.files n)
  file-there zero is = absurd (cc)
  file-there (suc index) is =
      let parts = and_parts (nat_le 1 (suc index)) (nat_le (suc index) made.files) is in
      let within = leb-true (suc index) made.files parts.1 in
      let many = o.files in
      numbered-some w.files index (omega (arith, within, many))

  pub files-there : (numbers : List ℕ) → list_all (is_file made) numbers ≡ true
      → Each (λ (n : ℕ). IsSome (numbered w.files n)) numbers
  files-there [] all = tt
  files-there (n ∷ numbers) all =
      let parts = and_parts (is_file made n) (list_all (is_file made) numbers) all in
      (file-there n parts.0, files-there numbers parts.1)

  -- so is the service
  pub service-there : (name : List ℕ) → is_service made name ≡ true → HasMember w name
  service-there name is = sym (o.services name) ∙ is

  -- and so is the message
  there-at : (mails : List Mail) (index : ℕ) → slice_index_or (map is_there mails) index false ≡ true → (mail : Mail)
      × (slice_get mails index ≡ Some mail) × IsSome (loss_answer mail)
  there-at [] index is = cc
  there-at (MadeMail bytes ∷ mails) zero is = (MadeMail bytes, refl, refl)
  there-at (Unmade ∷ mails) zero is = (Unmade, refl, refl)
  there-at (Dropped ∷ mails) zero is = cc
  there-at (m ∷ mails) (suc index) is = there-at mails index is

  pub message-there : (number : ℕ) → is_message made number ≡ true → IsMessage w number
  message-there zero is = cc
  message-there (suc index) is =
      let parts = and_parts (nat_le 1 (suc index) && nat_le (suc index) (length made.messages))
      (slice_index_or made.messages (suc index - 1) false) is in
      there-at w.messages index (ap (λ (there : List Bool). slice_index_or there index false) (sym o.messages)
      ∙ ap (λ i. slice_index_or made.messages i false) (omega arith) ∙ parts.1)
