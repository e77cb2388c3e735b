-- What an accepted proof's report says, by the lines of the services that it names.
use Rattle.std.proofs.Common.{◌≡◌, ℕ, ◌+◌, List, [], ◌∷◌, ◌++◌, length, ap, sym, ◌∙◌, subst, inl, inr}
use Rattle.std.proofs.Common.{append-nil}
use Rattle.std.specs.Prelude.{map, reverse}
use Rattle.std.specs.List.{slice_split}
use Rattle.std.proofs.lemmas.List.{reverse-append, reverse-reverse}
use Rattle.tw_base.specs.declared.history.thread.Thread.{Thread}
use Rattle.tw_base.specs.format.Formats.{Spells, front}
use Rattle.tw_base.specs.format.Formats.Reading.{Took}
use Rattle.tw_base.specs.history.Facts.{Facts, TimesRise}
use Rattle.tw_base.specs.history.Family.{HasThread, family_texts}
use Rattle.tw_base.specs.history.History.{History}
use Rattle.tw_base.specs.kinds.Bytes.{AreBytes}
use Rattle.tw_base.specs.kinds.Clash.{OrClash}
use Rattle.tw_base.specs.kinds.Lists.{Each, In}
use Rattle.tw_base.proofs.lemmas.format.FormatLaws.{front-whole}
use Rattle.tw_base.proofs.lemmas.kinds.ListLemmas.{Each-in}
use Rattle.tw_chain.specs.declared.proof.Proof.{Proof}
use Rattle.tw_chain.specs.Accepting.{IsAccepted, carried, held, proof_texts, report_of}
use Rattle.tw_chain.specs.Proofs.{proof_layout}
use Rattle.tw_chain.specs.Services.{IsOfThese}
use Rattle.tw_chain.proofs.Headline.{headline}
use Rattle.tw_chain.proofs.HeldServices.{accepted-holds}
use Rattle.tw_msg.specs.AnchorsFile.{anchor_on, is_line_feed, lines, lines_of_parts}
use Rattle.tw_plain.specs.Hashed.{hashed_texts, texts_read}
use Rattle.tw_plain.specs.Plain.{IsSoByLines, file_lines, services_named}
use Rattle.tw_plain.proofs.HeldNamed.{held-named}

-- ---- a list the other way round has the same elements

last : {X : Type 0} (P : X → Type 0) (x : X) (xs : List X) → Each P (xs ++ x ∷ []) → P x × Each P xs
last P x [] all = (all.0, tt)
last P x (y ∷ xs) all = let rest = last P x xs all.1 in (rest.0, (all.0, rest.1))

unturned : {X : Type 0} (P : X → Type 0) (xs : List X) → Each P (reverse xs) → Each P xs
unturned P [] all = tt
unturned P (x ∷ xs) all =
    let parts = last P x (reverse xs) (subst (Each P) (reverse-append (x ∷ []) xs) all) in
    (parts.0, unturned P xs parts.1)

pub turned : {X : Type 0} (P : X → Type 0) (xs : List X) → Each P xs → Each P (reverse xs)
turned P xs all = unturned P (reverse xs) (subst (Each P) (sym (reverse-reverse xs)) all)

-- ---- the texts that are named are those of the histories and of the proof

texts-are : (dig : List ℕ → List ℕ) (bytes : List ℕ) (p : Proof) (family : List History) → Spells proof_layout bytes p
    → hashed_texts dig bytes family ≡ family_texts dig family ++ proof_texts dig p
unfolding hashed_texts
texts-are dig bytes p family spelled =
    let same : bytes ++ [] ≡ bytes = append-nil bytes in
    let read : front proof_layout bytes 0 ≡ Took p (0 + length bytes) =
    ap (λ b. front proof_layout b 0) (sym same) ∙ front-whole proof_layout bytes [] 0 p spelled in
    ap (λ r. family_texts dig family ++ texts_read dig r) read

-- ---- what is held is what the family has

module _ (dig : List ℕ → List ℕ) (family : List History) where
  abbrev Has : Thread → Type 0
  Has t = HasThread dig family t

  -- a line of a service that is named
  pub line-has : (services : List (List ℕ)) (t : Thread) → In t.from services → Each (λ service. t.from ≡ service → Has t) services → Has t
  line-has [] t is all = absurd is
  line-has (service ∷ services) t (inl is) all = all.0 is
  line-has (service ∷ services) t (inr is) all = line-has services t is all.1

  held-has : (services : List (List ℕ)) (lines carried held : List Thread)
      → Each (λ (t : Thread). Each (λ service. t.from ≡ service → Has t) services) lines → Each Has carried
      → Each (IsOfThese lines carried) held → Each (λ (t : Thread). In t.from services) held → Each Has held
  held-has services lines carried [] has carries only named = tt
  held-has services lines carried (t ∷ ts) has carries only named = (
    elim only.0 [
      | inl line ↦ line-has services t named.0 (Each-in (λ (l : Thread). Each (λ service. l.from ≡ service → Has l) services) lines t has line)
      | inr told ↦ Each-in Has carried t carries told
    ],
    held-has services lines carried ts has carries only.1 named.1,
  )

-- ---- each line of a file stands between its line feeds

pub parts-each : (P : Thread → Type 0) (parts : List (List ℕ)) → Each P (map anchor_on parts) → Each P (map anchor_on (lines_of_parts parts))
parts-each P [] all = tt
parts-each P ([] ∷ []) all = tt
parts-each P ((b ∷ bs) ∷ []) all = (all.0, tt)
parts-each P (line ∷ next ∷ more) all = (all.0, parts-each P (next ∷ more) all.1)

-- ---- what the report says

module _ (dig : List ℕ → List ℕ) (size : (text : List ℕ) → length (dig text) ≡ 32) (are : (text : List ℕ) → AreBytes (dig text))
    (bytes : List ℕ) (p : Proof) (spelled : Spells proof_layout bytes p) where
  pub plain-held : (lines : List Thread) → IsAccepted dig lines p → IsSoByLines dig lines (hashed_texts dig bytes) (report_of p)
  plain-held lines accepted family sound has carries =
      let holds = accepted-holds lines dig p accepted in
      let services : List (List ℕ) = services_named (report_of p) in
      let all : Each (HasThread dig family) (held lines p) = held-has dig family services lines (carried p) (held lines p)
      has (unturned (HasThread dig family) (carried p) carries) holds.only (held-named lines p) in
      let Said : Type 0 = Facts dig family (report_of p).hops (report_of p).claim × TimesRise (report_of p).hops (report_of p).claim in
      subst (λ texts. OrClash dig texts Said) (sym (texts-are dig bytes p family spelled))
      (headline dig size are lines bytes p spelled accepted family sound all)

  pub plain : (file : List ℕ) → IsAccepted dig (map anchor_on (lines file)) p
      → IsSoByLines dig (file_lines file) (hashed_texts dig bytes) (report_of p)
  plain file accepted family sound has carries =
      let Has : Thread → Type 0 = λ t. Each (λ service. t.from ≡ service → HasThread dig family t) (services_named (report_of p)) in
      plain-held (map anchor_on (lines file)) accepted family sound (parts-each Has (slice_split is_line_feed file) has) carries
