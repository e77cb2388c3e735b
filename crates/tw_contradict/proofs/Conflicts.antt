-- Two files that break a rule leave no sound history for their lines; and which rule is named, or that none is broken.
use Rattle.std.proofs.Common.{◌≡◌, ℕ, List, [], ◌∷◌, ◌++◌, length, refl, ◌∙◌, subst, inl, inr}
use Rattle.std.specs.Prelude.{Bool, true, false, Option, Some, None, if◌then◌else◌}
use Rattle.std.specs.Option.{option_or}
use Rattle.std.specs.Str.{bytes_eq}
use Rattle.std.proofs.lemmas.Bool.{both_ways}
use Rattle.std.proofs.lemmas.Slice.Eq.{bytes_eq-Decides}
use Rattle.tw_base.specs.declared.history.thread.Thread.{Thread}
use Rattle.tw_base.specs.history.Family.{AllSound, HasHistory, family_texts, history_of}
use Rattle.tw_base.specs.history.History.{History}
use Rattle.tw_base.specs.history.HistoryTexts.{history_texts}
use Rattle.tw_base.specs.history.Sound.{IsSound}
use Rattle.tw_base.specs.kinds.Bytes.{AreBytes}
use Rattle.tw_base.specs.kinds.Clash.{OrClash, Within}
use Rattle.tw_base.specs.kinds.Lists.{Each, In}
use Rattle.tw_base.proofs.lemmas.history.Families.{sound_of, texts_within}
use Rattle.tw_base.proofs.lemmas.kinds.Clashes.{Among-left, Among-right, and_then}
use Rattle.tw_base.proofs.lemmas.kinds.ListLemmas.{Each-in}
use Rattle.tw_chain.proofs.CheckBinds.{setting_of}
use Rattle.tw_contradict.specs.ArchiveFiles.{archive_texts}
use Rattle.tw_contradict.specs.Rules.{BreakNone, IsBroken, breaks, broken, conflict_of, first_broken, rule_texts, rules}
use Rattle.tw_contradict.specs.Verdicts.{NoneHas, Says}
use Rattle.tw_contradict.specs.declared.facts.Conflict.{Conflict}
use Rattle.tw_contradict.specs.declared.facts.Facts.{Facts}
use Rattle.tw_contradict.specs.declared.facts.Rule.{Rule}
use Rattle.tw_contradict.specs.declared.facts.Rule.TheVariants as rule
use Rattle.tw_contradict.proofs.BoundFiles.{FactsStand, Stands, one-history, says-stands}
use Rattle.tw_contradict.proofs.BrokenRules.{never-breaks}

-- ---- which rule is named, and that none is broken

-- each rule is on the list
listed : (r : Rule) → In r rules
listed rule.Denied = inl refl
listed rule.OwnThread = inr (inl refl)
listed rule.ReceivedLater = inr (inr (inl refl))
listed rule.TwoEntries = inr (inr (inr (inl refl)))
listed rule.TwoAtOneStep = inr (inr (inr (inr (inl refl))))
listed rule.StepsFall = inr (inr (inr (inr (inr (inl refl)))))
listed rule.EventsToo = inr (inr (inr (inr (inr (inr (inl refl))))))
listed rule.ClockBack = inr (inr (inr (inr (inr (inr (inr (inl refl)))))))
listed rule.TwoAuthenticators = inr (inr (inr (inr (inr (inr (inr (inr (inl refl))))))))
listed rule.OtherThanLine = inr (inr (inr (inr (inr (inr (inr (inr (inr (inl refl)))))))))
listed rule.TwoLines = inr (inr (inr (inr (inr (inr (inr (inr (inr (inr (inl refl))))))))))
listed rule.OtherBefore = inr (inr (inr (inr (inr (inr (inr (inr (inr (inr (inr (inl refl)))))))))))
listed rule.OtherBeforeLine = inr (inr (inr (inr (inr (inr (inr (inr (inr (inr (inr (inr (inl refl))))))))))))
listed rule.OtherGenesis = inr (inr (inr (inr (inr (inr (inr (inr (inr (inr (inr (inr (inr (inl refl)))))))))))))
listed rule.OtherEmptyRoot =
    inr (inr (inr (inr (inr (inr (inr (inr (inr (inr (inr (inr (inr (inr (inl refl))))))))))))))

module _ (dig : List ℕ → List ℕ) (one other : Facts) where
  -- the files break the rule in neither order
  abbrev Unbroken : Rule → Type 0
  Unbroken r = (breaks dig r one other ≡ false) × (breaks dig r other one ≡ false)

  abbrev made : Rule → Facts → Facts → Conflict
  made r first second = record { rule = r; one = first; other = second }

  broken-names : one.service ≡ other.service → (r : Rule) (c : Conflict) → broken dig r one other ≡ Some c
      → IsBroken dig one other c
  unfolding broken
  broken-names service r c is = by (breaks dig r one other) refl (breaks dig r other one) refl is
    where
      by : (b : Bool) → breaks dig r one other ≡ b → (d : Bool) → breaks dig r other one ≡ d
          → (if b then Some (made r one other) else (if d then Some (made r other one) else None)) ≡ Some c
          → IsBroken dig one other c
      by true first d second is =
          let same : made r one other ≡ c = cc in
          subst (IsBroken dig one other) same
          (record { service = service; files = inl (refl, refl); breaks = first })
      by false first true second is =
          let same : made r other one ≡ c = cc in
          subst (IsBroken dig one other) same
          (record { service = service; files = inr (refl, refl); breaks = second })
      by false first false second is = absurd (cc)

  broken-free : (r : Rule) → broken dig r one other ≡ None → Unbroken r
  unfolding broken
  broken-free r is = by (breaks dig r one other) refl (breaks dig r other one) refl is
    where
      by : (b : Bool) → breaks dig r one other ≡ b → (d : Bool) → breaks dig r other one ≡ d
          → (if b then Some (made r one other) else (if d then Some (made r other one) else None)) ≡ None
          → Unbroken r
      by true first d second is = absurd (cc)
      by false first true second is = absurd (cc)
      by false first false second is = (first, second)

  unbroken-none : (r : Rule) → Unbroken r → broken dig r one other ≡ None
  unfolding broken
  unbroken-none r free = rw free.0 (rw free.1 refl)

  first-names : one.service ≡ other.service → (rs : List Rule) (c : Conflict) → first_broken dig rs one other ≡ Some c
      → IsBroken dig one other c
  unfolding first_broken
  first-names service [] c is = absurd (cc)
  first-names service (r ∷ rs) c is = by (broken dig r one other) refl is (first-names service rs c)
    where
      by : (o : Option Conflict) → broken dig r one other ≡ o → option_or o (first_broken dig rs one other) ≡ Some c
          → (first_broken dig rs one other ≡ Some c → IsBroken dig one other c) → IsBroken dig one other c
      by None first is more = more is
      by (Some d) first is more = broken-names service r c (first ∙ is)

  first-free : (rs : List Rule) → first_broken dig rs one other ≡ None → Each Unbroken rs
  unfolding first_broken
  first-free [] is = tt
  first-free (r ∷ rs) is = by (broken dig r one other) refl is (first-free rs)
    where
      by : (o : Option Conflict) → broken dig r one other ≡ o → option_or o (first_broken dig rs one other) ≡ None
          → (first_broken dig rs one other ≡ None → Each Unbroken rs) → Unbroken r × Each Unbroken rs
      by None first is more = (broken-free r first, more is)
      by (Some d) first is more = absurd (cc)

  free-first : (rs : List Rule) → ((r : Rule) → Unbroken r) → first_broken dig rs one other ≡ None
  unfolding first_broken
  free-first [] free = refl
  free-first (r ∷ rs) free = rw (unbroken-none r (free r)) (free-first rs free)

  -- the rule that is named is broken
  pub conflict-names : (c : Conflict) → conflict_of dig one other ≡ Some c → IsBroken dig one other c
  unfolding conflict_of
  conflict-names c is = by (bytes_eq one.service other.service) refl is
    where
      by : (b : Bool) → bytes_eq one.service other.service ≡ b
          → (if b then first_broken dig rules one other else None) ≡ Some c → IsBroken dig one other c
      by false same is = absurd (cc)
      by true same is = first-names ((bytes_eq-Decides one.service other.service).0 same) rules c is

  -- where none is named, none of the list is broken
  pub conflict-free : conflict_of dig one other ≡ None → BreakNone dig one other
  unfolding conflict_of
  conflict-free is service r = by (bytes_eq one.service other.service) refl is
    where
      by : (b : Bool) → bytes_eq one.service other.service ≡ b
          → (if b then first_broken dig rules one other else None) ≡ None → Unbroken r
      by false test is =
          absurd (both_ways (bytes_eq one.service other.service) test
          ((bytes_eq-Decides one.service other.service).1 service))
      by true same is = Each-in Unbroken rules r (first-free rules is) (listed r)

  -- and where none is broken, none is named
  pub free-conflict : BreakNone dig one other → conflict_of dig one other ≡ None
  unfolding conflict_of
  free-conflict free = by (bytes_eq one.service other.service) refl
    where
      by : (b : Bool) → bytes_eq one.service other.service ≡ b
          → (if b then first_broken dig rules one other else None) ≡ None
      by false test = refl
      by true same = free-first rules (free ((bytes_eq-Decides one.service other.service).0 same))

-- ---- one family

-- the family's history of a service has its name
history-name : (family : List History) (service : List ℕ) (h : History) → HasHistory family service h
    → h.name ≡ service
history-name [] service h has = absurd (cc)
history-name (g ∷ family) service h has = by (bytes_eq g.name service) refl has (history-name family service h)
  where
    by : (b : Bool) → bytes_eq g.name service ≡ b → (if b then Some g else history_of family service) ≡ Some h
        → (history_of family service ≡ Some h → h.name ≡ service) → h.name ≡ service
    by true same is more =
        let one : g ≡ h = cc in
        subst (λ (k : History). k.name ≡ service) one ((bytes_eq-Decides g.name service).0 same)
    by false other is more = more is

module _ (dig : List ℕ → List ℕ) (size : (text : List ℕ) → length (dig text) ≡ 32) (are : (text : List ℕ)
    → AreBytes (dig text)) where
  never-named : (h : History) → IsSound h → (texts : List (List ℕ)) → Within (history_texts dig h) texts
      → (one other : Facts) → h.name ≡ one.service → Stands dig h one → Stands dig h other → (c : Conflict)
      → Within (rule_texts c.rule) texts → c.one ≡ one → c.other ≡ other → breaks dig c.rule c.one c.other ≡ true
      → OrClash dig texts ⊥
  never-named h sound texts within one other name says also c has first second is =
      never-breaks dig h sound one other name says also size are texts within c.rule has
      (subst (λ (f : Facts). breaks dig c.rule f other ≡ true) first
      (subst (λ (f : Facts). breaks dig c.rule c.one f ≡ true) second is))

  -- files of a sound family break no rule, or texts clash
  never-conflict : (family : List History) → AllSound family → (texts : List (List ℕ))
      → Within (family_texts dig family) texts → (one other : Facts) (c : Conflict) → Within (rule_texts c.rule) texts
      → FactsStand dig family one → FactsStand dig family other → IsBroken dig one other c → OrClash dig texts ⊥
  never-conflict family sound texts within one other c has says also named =
      let h : History = says.history in
      let own : HasHistory family other.service h =
      subst (λ (n : List ℕ). HasHistory family n h) named.service says.has in
      let stands : Stands dig h other =
      subst (λ (g : History). Stands dig g other) (one-history family other.service also.history h also.has own)
      also.stands in
      let kept : IsSound h = sound_of family one.service h sound says.has in
      let name : h.name ≡ one.service = history-name family one.service h says.has in
      let known : Within (history_texts dig h) texts = λ t a.
      within t (texts_within dig family one.service h says.has t a) in
      elim named.files [
        | inl ways ↦ never-named h kept texts known one other name says.stands stands c has ways.0 ways.1 named.breaks
        | inr ways ↦ never-named h kept texts known other one (name ∙ named.service) stands says.stands c has ways.0
            ways.1 named.breaks
      ]

  -- ---- both lines

  -- no sound histories have both lines of files that break a rule, whatever more texts there are
  pub both-none : (anchors others : List Thread) (first second : List ℕ) (one other : Facts) (c : Conflict)
      (more : List (List ℕ))
      → (said : Says dig anchors first one) → (also : Says dig others second other) → IsBroken dig one other c
      → NoneHas dig (one.line ∷ other.line ∷ [])
      (archive_texts dig said.proof ++ (archive_texts dig also.proof ++ (rule_texts c.rule ++ more)))
  both-none anchors others first second one other c more said also named family sound has =
      let of_one : List (List ℕ) = archive_texts dig said.proof in
      let of_other : List (List ℕ) = archive_texts dig also.proof in
      let of_rule : List (List ℕ) = rule_texts c.rule in
      let texts : List (List ℕ) = of_one ++ (of_other ++ (of_rule ++ more)) in
      let own : List (List ℕ) = family_texts dig family in
      let all : List (List ℕ) = own ++ texts in
      and_then dig all _ _
      (says-stands (setting_of dig size are anchors family sound texts) first one said has.0
      (λ t a. Among-right t own texts (Among-left t of_one (of_other ++ (of_rule ++ more)) a)))
      (λ says. and_then dig all _ _
      (says-stands (setting_of dig size are others family sound texts) second other also has.1.0
      (λ t a. Among-right t own texts (Among-right t of_one (of_other ++ (of_rule ++ more))
      (Among-left t of_other (of_rule ++ more) a))))
      (λ denies. never-conflict family sound all (λ t a. Among-left t own texts a) one other c
      (λ t a. Among-right t own texts (Among-right t of_one (of_other ++ (of_rule ++ more))
      (Among-right t of_other (of_rule ++ more) (Among-left t of_rule more a)))) says denies named))
