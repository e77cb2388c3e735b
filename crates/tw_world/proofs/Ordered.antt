-- What each world that a schedule reaches has, so that the order of recording can be told: its parts are the services,
-- the names that lie, the messages,
-- and the place of the next line.
use Rattle.std.proofs.Common.{◌≡◌, ◌≢◌, ◌⊎◌, ℕ, suc, zero, ◌+◌, ◌≤◌, List, [], ◌∷◌, ◌++◌, length, refl, ap, sym, ◌∙◌}
use Rattle.std.proofs.Common.{subst, inl, inr, arith, lit≤}
use Rattle.std.specs.Prelude.{Option, Some, None, option_and_then, slice_set, Bool, true, false, if◌then◌else◌}
use Rattle.std.specs.List.{filter}
use Rattle.std.proofs.lemmas.List.{length_push}
use Rattle.tw_base.specs.declared.history.thread.Entry.{Entry}
use Rattle.tw_base.specs.declared.history.thread.Key.{Key}
use Rattle.tw_base.specs.declared.history.thread.Thread.{Thread}
use Rattle.tw_base.specs.format.Formats.{Spells}
use Rattle.tw_base.specs.history.Auth.{auth}
use Rattle.tw_base.specs.history.History.{History, Step, entry_at, plus}
use Rattle.tw_base.specs.history.Sound.{IsSound}
use Rattle.tw_base.specs.kinds.Lists.{Each, In}
use Rattle.tw_base.specs.kinds.Names.{IsName}
use Rattle.tw_base.proofs.lemmas.kinds.Clashes.{same_or_other}
use Rattle.tw_base.proofs.lemmas.history.Plus.{auth-plus}
use Rattle.tw_base.proofs.lemmas.kinds.ListLemmas.{Each-append, Each-map, In-cases_append, In-left}
use Rattle.tw_msg.specs.Messages.{message_layout}
use Rattle.tw_msg.specs.declared.message.Message.{Message}
use Rattle.tw_world.specs.Order.{IsEarlier}
use Rattle.tw_world.specs.Worlds.{Mail, Member, World, born_of, member_of, numbered, put_member}
use Rattle.tw_world.specs.Worlds.Mail.{Made, Unmade, Dropped}
use Rattle.tw_world.proofs.Births.{RiseBelow, each-set, no-births, numbered-left, rise-later}
use Rattle.tw_world.proofs.Members.{AreDistinct, distinct-more, distinct-put, more-cases, named, put-cases, put-each}
use Rattle.tw_world.proofs.Members.{put-found, put-other, still-there}

module _ (dig : List ℕ → List ℕ) where
  -- the thread is that of a service's own step
  pub record IsOwn (members : List Member) (t : Thread) : Type 0 where
    pub member : Member
    pub is : member_of members t.from ≡ Some member
    pub some : 1 ≤ t.step
    pub within : t.step ≤ length member.history.steps
    pub present : auth dig member.history t.step ≡ t.auth

  module _ (members : List Member) (hostile : List (List ℕ)) where
    -- a service's own, or one of a name that lies
    abbrev pub IsHonest : Thread → Type 0
    IsHonest t = IsOwn members t ⊎ In t.from hostile

    -- and what the message spells, if it spells one
    abbrev pub IsHonestMail : Mail → Type 0
    IsHonestMail (Made bytes) = (m : Message) → Spells message_layout bytes m → IsHonest m.thread
    IsHonestMail Unmade = Unit {0}
    IsHonestMail Dropped = Unit {0}

    -- a step that received the thread came behind it
    abbrev pub StandsBehind : (by : Key) → Thread → Type 0
    StandsBehind by t =
        (IsOwn members t × IsEarlier (born_of members (record { from = t.from; step = t.step })) (born_of members by))
        ⊎ In t.from hostile

    abbrev pub HasEntry : (name : List ℕ) → (step : ℕ) → Entry → Type 0
    HasEntry name step e = (m : Member) × (member_of members name ≡ Some m) × (entry_at m.history step ≡ Some e)

    abbrev pub IsBorn : (place : ℕ) → Member → Type 0
    IsBorn place m = (length m.births ≡ length m.history.steps) × RiseBelow place m.births

    pub record IsOrdered (messages : List Mail) (anchors : List Thread) (place : ℕ) : Type 0 where
      pub distinct : AreDistinct members
      pub sound : Each (λ (m : Member). IsSound m.history) members
      pub births : Each (IsBorn place) members
      pub apart : (name : List ℕ) (m : Member) → member_of members name ≡ Some m → In name hostile → ⊥
      pub received : (name : List ℕ) (step : ℕ) (e : Entry) → HasEntry name step e
          → StandsBehind (record { from = name; step = step }) e.thread
      pub honest : Each IsHonestMail messages
      pub anchored : Each (IsOwn members) anchors

  -- ---- a service whose history goes on

  -- what it had stays
  pub record Prolongs (m n : Member) : Type 0 where
    pub longer : length m.history.steps ≤ length n.history.steps
    pub same : (step : ℕ) → step ≤ length m.history.steps → auth dig n.history step ≡ auth dig m.history step
    pub births : (step a : ℕ) → numbered m.births step ≡ Some a → numbered n.births step ≡ Some a

  pub prolongs-same : (m n : Member) → n.history ≡ m.history → n.births ≡ m.births → Prolongs m n
  prolongs-same m n histories births = record {
    longer = subst (λ (h : History). length m.history.steps ≤ length h.steps) (sym histories) (omega arith);
    same = λ step within. ap (λ (h : History). auth dig h step) histories;
    births = λ step a is. ap (λ (bs : List ℕ). numbered bs step) births ∙ is;
  }

  pub prolongs-plus : (m n : Member) (s : Step) (place : ℕ) → n.history ≡ plus m.history s
      → n.births ≡ m.births ++ place ∷ [] → Prolongs m n
  prolongs-plus m n s place histories births = record {
    longer = subst (λ (h : History). length m.history.steps ≤ length h.steps) (sym histories)
        (omega (arith, length_push m.history.steps s));
    same = λ step within. ap (λ (h : History). auth dig h step) histories ∙ auth-plus m.history s dig step within;
    births = λ step a is. ap (λ (bs : List ℕ). numbered bs step) births ∙ numbered-left m.births place step a is;
  }

  -- each service goes on
  abbrev pub GoOn : (members others : List Member) → Type 0
  GoOn members others = (name : List ℕ) (m : Member) → member_of members name ≡ Some m → (n : Member)
      × (member_of others name ≡ Some n) × Prolongs m n

  module _ (members others : List Member) (on : GoOn members others) where
    pub own-on : (t : Thread) → IsOwn members t → IsOwn others t
    own-on t own =
        let next = on t.from own.member own.is in
        record {
          member = next.0;
          is = next.1;
          some = own.some;
          within = omega (arith, own.within, next.2.longer);
          present = next.2.same t.step own.within ∙ own.present;
        }

    abbrev born_in : Key → Option Member → Option ℕ
    born_in key o = option_and_then (λ (m : Member). numbered m.births key.step) o

    pub born-on : (key : Key) (a : ℕ) → born_of members key ≡ Some a → born_of others key ≡ Some a
    born-on key a is = by (member_of members key.from) refl is
      where
        by : (o : Option Member) → member_of members key.from ≡ o → born_in key o ≡ Some a → born_of others key ≡ Some a
        by None e is = cc
        by (Some m) e is = let next = on key.from m e in ap (born_in key) next.1 ∙ next.2.births key.step a is

    earlier-on : (one other : Key) → IsEarlier (born_of members one) (born_of members other)
        → IsEarlier (born_of others one) (born_of others other)
    earlier-on one other is = (is.0, is.1, born-on one is.0 is.2, born-on other is.1 is.3, is.4)

    module _ (hostile : List (List ℕ)) where
      pub honest-on : (t : Thread) → IsHonest members hostile t → IsHonest others hostile t
      honest-on t (inl own) = inl (own-on t own)
      honest-on t (inr lies) = inr lies

      pub mail-on : (mail : Mail) → IsHonestMail members hostile mail → IsHonestMail others hostile mail
      mail-on (Made bytes) honest = λ m spells. honest-on m.thread (honest m spells)
      mail-on Unmade honest = tt
      mail-on Dropped honest = tt

      pub behind-on : (by : Key) (t : Thread) → StandsBehind members hostile by t → StandsBehind others hostile by t
      behind-on by t (inl own) = inl (own-on t own.0, earlier-on (record { from = t.from; step = t.step }) by own.1)
      behind-on by t (inr lies) = inr lies

  -- ---- what lines change

  module _ (members : List Member) (hostile : List (List ℕ)) (messages : List Mail) (anchors : List Thread) (place : ℕ)
      (o : IsOrdered members hostile messages anchors place) where
    pub ordered-later : IsOrdered members hostile messages anchors (place + 1)
    ordered-later = record {
      distinct = o.distinct;
      sound = o.sound;
      births = Each-map (IsBorn members hostile place) (IsBorn members hostile (place + 1)) members
          (λ m b. (b.0, rise-later place m.births b.1)) o.births;
      apart = o.apart;
      received = o.received;
      honest = o.honest;
      anchored = o.anchored;
    }

    pub ordered-mail : (mail : Mail) → IsHonestMail members hostile mail → IsOrdered members hostile
        (messages ++ mail ∷ []) anchors place
    ordered-mail mail honest = record {
      distinct = o.distinct;
      sound = o.sound;
      births = o.births;
      apart = o.apart;
      received = o.received;
      honest = Each-append (IsHonestMail members hostile) messages (mail ∷ []) o.honest (honest, tt);
      anchored = o.anchored;
    }

    pub ordered-lost : (i : ℕ) → IsOrdered members hostile (slice_set messages i Dropped) anchors place
    ordered-lost i = record {
      distinct = o.distinct;
      sound = o.sound;
      births = o.births;
      apart = o.apart;
      received = o.received;
      honest = each-set (IsHonestMail members hostile) messages i Dropped tt o.honest;
      anchored = o.anchored;
    }

    pub ordered-hostile : (name : List ℕ) → member_of members name ≡ None → IsOrdered members (hostile ++ name ∷ [])
        messages anchors place
    ordered-hostile name none = record {
      distinct = o.distinct;
      sound = o.sound;
      births = o.births;
      apart = λ one m is lies. apart one m is (In-cases_append one hostile (name ∷ []) lies);
      received = λ one step e has. received (record { from = one; step = step }) e.thread (o.received one step e has);
      honest = Each-map (IsHonestMail members hostile) (IsHonestMail members (hostile ++ name ∷ [])) messages honest
          o.honest;
      anchored = o.anchored;
    }
      where
        apart : (one : List ℕ) (m : Member) → member_of members one ≡ Some m → In one hostile ⊎ In one (name ∷ []) → ⊥
        apart one m is (inl old) = o.apart one m is old
        apart one m is (inr (inl same)) = let both : None ≡ Some m = sym none ∙ ap (member_of members) (sym same)
            ∙ is in cc
        apart one m is (inr (inr never)) = never

        received : (by : Key) (t : Thread) → StandsBehind members hostile by t → StandsBehind members
            (hostile ++ name ∷ []) by t
        received by t (inl own) = inl own
        received by t (inr lies) = inr (In-left t.from hostile (name ∷ []) lies)

        thread : (t : Thread) → IsHonest members hostile t → IsHonest members (hostile ++ name ∷ []) t
        thread t (inl own) = inl own
        thread t (inr lies) = inr (In-left t.from hostile (name ∷ []) lies)

        honest : (mail : Mail) → IsHonestMail members hostile mail → IsHonestMail members (hostile ++ name ∷ []) mail
        honest (Made bytes) is = λ m spells. thread m.thread (is m spells)
        honest Unmade is = tt
        honest Dropped is = tt

    -- a service's own step is held in place of another one of it
    each-filter : (P : Thread → Type 0) (f : Thread → Bool) (threads : List Thread) → Each P threads
        → Each P (filter f threads)
    each-filter P f [] all = tt
    each-filter P f (t ∷ threads) all = by (f t) (each-filter P f threads all.1)
      where
        by : (b : Bool) → Each P (filter f threads) → Each P (if b then t ∷ filter f threads else filter f threads)
        by true rest = (all.0, rest)
        by false rest = rest

    pub ordered-anchor : (f : Thread → Bool) (t : Thread) → IsOwn members t → IsOrdered members hostile messages
        (filter f anchors ++ t ∷ []) place
    ordered-anchor f t own = record {
      distinct = o.distinct;
      sound = o.sound;
      births = o.births;
      apart = o.apart;
      received = o.received;
      honest = o.honest;
      anchored = Each-append (IsOwn members) (filter f anchors) (t ∷ [])
          (each-filter (IsOwn members) f anchors o.anchored) (own, tt);
    }

    -- a service more
    module _ (name : List ℕ) (is_name : IsName name) (none : member_of members name ≡ None) (new : In name hostile
        → ⊥) where
      abbrev one : Member
      one = record { history = record { name = name; steps = [] }; births = []; waits = false }

      service-goes : GoOn members (members ++ one ∷ [])
      service-goes at m is = (m, still-there members one at m is, prolongs-same m m refl refl)

      no-entry : (step : ℕ) (e : Entry) → entry_at one.history step ≡ Some e → ⊥
      no-entry zero e is = cc
      no-entry (suc i) e is = cc

      pub ordered-service : IsOrdered (members ++ one ∷ []) hostile messages anchors place
      ordered-service = record {
        distinct = distinct-more members one none o.distinct;
        sound = Each-append (λ (m : Member). IsSound m.history) members (one ∷ []) o.sound
            (record { name = is_name; length = lit≤ tt; steps = λ i s is. cc }, tt);
        births = Each-append (IsBorn members hostile place) members (one ∷ []) o.births ((refl, no-births place), tt);
        apart = λ at m is lies. apart at m is lies (more-cases members one at m is);
        received = λ at step e has. received at step e has.0 has.2 has.1 (more-cases members one at has.0 has.1);
        honest = Each-map (IsHonestMail members hostile) (IsHonestMail (members ++ one ∷ []) hostile) messages
            (mail-on members (members ++ one ∷ []) service-goes hostile) o.honest;
        anchored = Each-map (IsOwn members) (IsOwn (members ++ one ∷ [])) anchors
            (own-on members (members ++ one ∷ []) service-goes) o.anchored;
      }
        where
          apart : (at : List ℕ) (m : Member) → member_of (members ++ one ∷ []) at ≡ Some m → In at hostile
              → (member_of members at ≡ Some m) ⊎ (m ≡ one) → ⊥
          apart at m is lies (inl old) = o.apart at m old lies
          apart at m is lies (inr same) =
              new (subst (λ n. In n hostile) (sym (named (members ++ one ∷ []) at m is)
              ∙ ap (λ (k : Member). k.history.name) same) lies)

          received : (at : List ℕ) (step : ℕ) (e : Entry) (m : Member) → entry_at m.history step ≡ Some e
              → member_of (members ++ one ∷ []) at ≡ Some m
              → (member_of members at ≡ Some m) ⊎ (m ≡ one) → StandsBehind (members ++ one ∷ []) hostile
              (record { from = at; step = step }) e.thread
          received at step e m entry is (inl old) =
              behind-on members (members ++ one ∷ []) service-goes hostile (record { from = at; step = step }) e.thread
              (o.received at step e (m, old, entry))
          received at step e m entry is (inr same) =
              absurd (no-entry step e (ap (λ (k : Member). entry_at k.history step) (sym same) ∙ entry))

    -- a service goes on
    module _ (m n : Member) (there : member_of members n.history.name ≡ Some m) (prolongs : Prolongs m n) where
      abbrev others : List Member
      others = put_member members n

      pub put-goes : GoOn members others
      put-goes name k is =
          elim (same_or_other n.history.name name) [
            | inl same ↦
                let same_one : m ≡ k = same-found name k same is in (
                  n,
                  ap (member_of others) (sym same) ∙ put-found members n m there,
                  subst (λ (x : Member). Prolongs x n) same_one prolongs,
                )
            | inr other ↦ (k, put-other members n name other ∙ is, prolongs-same k k refl refl)
          ]
        where
          same-found : (name : List ℕ) (k : Member) → n.history.name ≡ name → member_of members name ≡ Some k → m ≡ k
          same-found name k same is = let both : Some m ≡ Some k = sym there ∙ ap (member_of members) same ∙ is in cc

      -- what it received was received before, or stands behind
      abbrev pub ReceivesBehind : Type 0
      ReceivesBehind = (step : ℕ) (e : Entry) → entry_at n.history step ≡ Some e
          → (entry_at m.history step ≡ Some e) ⊎ StandsBehind others hostile
          (record { from = n.history.name; step = step }) e.thread

      pub ordered-put : (later : ℕ) → ((k : Member) → IsBorn members hostile place k → IsBorn members hostile later k)
          → IsSound n.history → IsBorn members hostile later n → ReceivesBehind
          → IsOrdered others hostile messages anchors later
      ordered-put later births sound born behind = record {
        distinct = distinct-put members n o.distinct;
        sound = put-each (λ (k : Member). IsSound k.history) members n o.sound sound;
        births = put-each (IsBorn members hostile later) members n (Each-map (IsBorn members hostile place)
            (IsBorn members hostile later) members births o.births) born;
        apart = λ name k is lies. apart name k lies (put-cases members n m k name there is);
        received = λ name step e has. received name step e has.0 has.2 (put-cases members n m has.0 name there has.1);
        honest = Each-map (IsHonestMail members hostile) (IsHonestMail others hostile) messages
            (mail-on members others put-goes hostile) o.honest;
        anchored = Each-map (IsOwn members) (IsOwn others) anchors (own-on members others put-goes) o.anchored;
      }
        where
          apart : (name : List ℕ) (k : Member) → In name hostile → ((k ≡ n) × (name ≡ n.history.name))
              ⊎ ((member_of members name ≡ Some k) × (n.history.name ≢ name)) → ⊥
          apart name k lies (inl own) = o.apart n.history.name m there (subst (λ x. In x hostile) own.1 lies)
          apart name k lies (inr old) = o.apart name k old.0 lies

          own : (step : ℕ) (e : Entry) → (entry_at m.history step ≡ Some e) ⊎ StandsBehind others hostile
              (record { from = n.history.name; step = step }) e.thread
              → StandsBehind others hostile (record { from = n.history.name; step = step }) e.thread
          own step e (inl old) = behind-on members others put-goes hostile
              (record { from = n.history.name; step = step }) e.thread
              (o.received n.history.name step e (m, there, old))
          own step e (inr new) = new

          received : (name : List ℕ) (step : ℕ) (e : Entry) (k : Member) → entry_at k.history step ≡ Some e
              → ((k ≡ n) × (name ≡ n.history.name)) ⊎ ((member_of members name ≡ Some k) × (n.history.name ≢ name))
              → StandsBehind others hostile (record { from = name; step = step }) e.thread
          received name step e k entry (inl is) =
              subst (λ x. StandsBehind others hostile (record { from = x; step = step }) e.thread) (sym is.1)
              (own step e (behind step e (ap (λ (x : Member). entry_at x.history step) (sym is.0) ∙ entry)))
          received name step e k entry (inr old) =
              behind-on members others put-goes hostile (record { from = name; step = step }) e.thread
              (o.received name step e (k, old.0, entry))

  -- ---- worlds

  abbrev pub IsOrderedWorld : World → Type 0
  IsOrderedWorld w = IsOrdered w.members w.hostile w.messages w.anchors w.place
