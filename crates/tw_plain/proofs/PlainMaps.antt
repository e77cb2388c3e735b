-- What the printed bounds of accepted map files say, by the lines of both services.
use Rattle.std.proofs.Common.{◌≡◌, ℕ, ◌+◌, ◌<◌, ◌^◌, List, [], ◌∷◌, ◌++◌, length, refl, ap, sym, ◌∙◌, subst, inl, inr, arith}
use Rattle.std.proofs.Common.{append-nil}
use Rattle.std.specs.Prelude.{map, Bool, true, false, Option, Some, None, ◌==◌, ◌&&◌, if◌then◌else◌}
use Rattle.std.specs.List.{flat_map, slice_split}
use Rattle.std.specs.Option.{option_map_or, option_to_list}
use Rattle.std.specs.Str.{bytes_eq}
use Rattle.std.proofs.lemmas.Bool.{and_parts}
use Rattle.std.proofs.lemmas.Slice.Eq.{bytes_eq-Decides}
use Rattle.tw_base.specs.declared.history.thread.Thread.{Thread}
use Rattle.tw_base.specs.format.Codecs.{behind, name_codec, number_codec, pair, seen}
use Rattle.tw_base.specs.format.Formats.{Spells, front}
use Rattle.tw_base.specs.format.Formats.Reading.{Took}
use Rattle.tw_base.specs.history.Anchors.{anchor_of, is_at}
use Rattle.tw_base.specs.history.Family.{HasThread, family_texts}
use Rattle.tw_base.specs.history.History.{History}
use Rattle.tw_base.specs.kinds.Bytes.{AreBytes}
use Rattle.tw_base.specs.kinds.Clash.{OrClash}
use Rattle.tw_base.specs.kinds.Lists.{Each, In}
use Rattle.tw_base.specs.kinds.Names.{IsName}
use Rattle.tw_base.proofs.lemmas.format.CodecLaws.{spelled-fits, written-as}
use Rattle.tw_base.proofs.lemmas.format.FormatLaws.{front-whole}
use Rattle.tw_base.proofs.lemmas.history.Anchoring.{anchor_of-is}
use Rattle.tw_base.proofs.lemmas.kinds.ListLemmas.{Each-append}
use Rattle.tw_chain.specs.Checks.{Check}
use Rattle.tw_chain.specs.Checks.Check.{CarriesThread, NeedsAnchor}
use Rattle.tw_chain.specs.Passing.{anchor_at, held_by}
use Rattle.tw_msg.specs.AnchorsFile.{anchor_on, is_line_feed, lines}
use Rattle.tw_tmap.specs.declared.map_file.HighFile.{HighFile}
use Rattle.tw_tmap.specs.declared.map_file.LowFile.{LowFile}
use Rattle.tw_tmap.specs.declared.map_file.LowPart.{LowPart}
use Rattle.tw_tmap.specs.declared.map_verdict.MapVerdict.TheVariants.{Yes}
use Rattle.tw_tmap.specs.Bounds.{IsBetweenSteps}
use Rattle.tw_tmap.specs.Checking.{before_checks, fit, high_checks, low_checks, map_checks, map_held, map_texts, map_verdict}
use Rattle.tw_tmap.specs.MapFiles.{high_codec, high_layout, low_codec, low_layout}
use Rattle.tw_tmap.specs.Texts.{map_text}
use Rattle.tw_tmap.proofs.MapBinds.{verdict-binds}
use Rattle.tw_tmap.proofs.MapChecks.{yes-accepted}
use Rattle.tw_tmap.proofs.MapCodec.{high-fields, high-lawful, low-fields, low-lawful}
use Rattle.tw_plain.specs.Hashed.{hashed_by_maps, maps_read}
use Rattle.tw_plain.specs.Maps.{AreBounds, IsPlainMap, low_map}
use Rattle.tw_plain.specs.Plain.{IsSoInLists, file_lines}
use Rattle.tw_plain.proofs.Bounds.{are-bounds}
use Rattle.tw_plain.proofs.PlainReports.{line-has, parts-each}

-- ---- what is held is of the lines, and of both services

module _ (services : List (List ℕ)) where
  -- the anchor that the check needs is of one of them
  abbrev Names : Check → Type 0
  Names (NeedsAnchor key) = In key.from services
  Names (CarriesThread t) = ⊥
  Names _ = Unit {0}

module _ (dig : List ℕ → List ℕ) (family : List History) (services : List (List ℕ)) where
  abbrev Has : Thread → Type 0
  Has t = HasThread dig family t

  -- each line of a service that is named
  abbrev OfNamed : Thread → Type 0
  OfNamed t = Each (λ service. t.from ≡ service → Has t) services

  found-has : (held : List Thread) (service : List ℕ) (step : ℕ) (t : Thread) → Each OfNamed held → anchor_of held service step ≡ Some t
      → OfNamed t
  found-has [] service step t all found = cc
  found-has (u ∷ held) service step t all found = by (is_at service step u) found (λ is. found-has held service step t all.1 is)
    where
      by : (b : Bool) → (if b then Some u else anchor_of held service step) ≡ Some t → (anchor_of held service step ≡ Some t → OfNamed t)
          → OfNamed t
      by true is rest = let same : u ≡ t = cc in subst OfNamed same all.0
      by false is rest = rest is

  check-has : (held : List Thread) → Each OfNamed held → (c : Check) → Names services c → Each Has (held_by held c)
  check-has held all (NeedsAnchor key) named = by (anchor_at held key) refl
    where
      by : (o : Option Thread) → anchor_at held key ≡ o → Each Has (option_to_list o)
      by None found = tt
      by (Some t) found =
          let of : In t.from services = subst (λ from. In from services) (sym (anchor_of-is held key.from key.step t found).0) named in
          (line-has dig family services t of (found-has held key.from key.step t all found), tt)
  check-has held all (CarriesThread t) named = absurd named
  check-has held all _ named = tt

  checks-have : (held : List Thread) → Each OfNamed held → (cs : List Check) → Each (Names services) cs → Each Has (flat_map (held_by held) cs)
  checks-have held all [] named = tt
  checks-have held all (c ∷ cs) named =
      Each-append Has (held_by held c) (flat_map (held_by held) cs) (check-has held all c named.0) (checks-have held all cs named.1)

-- ---- both files name both services

module _ (low : LowFile) (high : HighFile) where
  abbrev services : List (List ℕ)
  services = low.service ∷ low.peer ∷ []

  low-names : Each (Names services) (low_checks low)
  low-names = (tt, by low.shown)
    where
      by : (shown : Option LowPart)
          → Each (Names services) (option_map_or (before_checks low) shown (NeedsAnchor (record { from = low.service; step = low.top }) ∷ []))
      by None = (inl refl, tt)
      by (Some p) = (tt, (inl refl, (tt, (tt, tt))))

  high-names : high.service ≡ low.peer → Each (Names services) (high_checks high)
  high-names same = (tt, (inr (inl same), (tt, (tt, tt))))

  -- they are of one peer
  peer-is : fit low high ≡ true → high.service ≡ low.peer
  peer-is fits =
      let names = and_parts (bytes_eq low.service high.peer) (low.step == high.step && bytes_eq low.peer high.service) fits in
      let others = and_parts (low.step == high.step) (bytes_eq low.peer high.service) names.1 in
      sym ((bytes_eq-Decides low.peer high.service).0 others.1)

  map-names : fit low high ≡ true → Each (Names services) (map_checks low high)
  map-names fits = Each-append (Names services) (low_checks low) (high_checks high) low-names (high-names (peer-is fits))

-- ---- the texts that are named

texts-are : (dig : List ℕ → List ℕ) (low_bytes high_bytes : List ℕ) (low : LowFile) (high : HighFile) (family : List History)
    → Spells low_layout low_bytes low → Spells high_layout high_bytes high
    → hashed_by_maps dig low_bytes high_bytes family ≡ family_texts dig family ++ map_texts dig low high
unfolding hashed_by_maps
texts-are dig low_bytes high_bytes low high family low_spelled high_spelled =
    let one : front low_layout low_bytes 0 ≡ Took low (0 + length low_bytes) =
    ap (λ b. front low_layout b 0) (sym (append-nil low_bytes)) ∙ front-whole low_layout low_bytes [] 0 low low_spelled in
    let other : front high_layout high_bytes 0 ≡ Took high (0 + length high_bytes) =
    ap (λ b. front high_layout b 0) (sym (append-nil high_bytes)) ∙ front-whole high_layout high_bytes [] 0 high high_spelled in
    ap (λ r. family_texts dig family ++ maps_read dig r (front high_layout high_bytes 0)) one
    ∙ ap (λ r. family_texts dig family ++ maps_read dig (Took low (0 + length low_bytes)) r) other

-- ---- what the first bytes of the low file name

abbrev Front : LowFile → List ℕ → Type 0
Front low bytes = (rest : List ℕ) × (bytes ≡ low_map low.service low.step low.peer rest)

front-of : (bytes : List ℕ) (low : LowFile) → Spells low_layout bytes low → Front low bytes
unfolding low_codec behind seen pair name_codec number_codec
front-of bytes low spelled = (_, written-as low_codec low-lawful bytes low spelled)

abbrev IsNamed : LowFile → Type 0
IsNamed low = (IsName low.service × (low.step < 2 ^ 64)) × IsName low.peer

named-of : (bytes : List ℕ) (low : LowFile) → Spells low_layout bytes low → IsNamed low
unfolding low_codec behind seen pair name_codec number_codec
named-of bytes low spelled =
    let fits = spelled-fits low_codec low-lawful bytes low spelled in
    ((fits.0, omega (arith, fits.1.0.1)), fits.1.1.0)

-- ---- what is printed

module _ (dig : List ℕ → List ℕ) (size : (text : List ℕ) → length (dig text) ≡ 32) (are : (text : List ℕ) → AreBytes (dig text))
    (low_bytes high_bytes file : List ℕ) (low : LowFile) (high : HighFile) (low_spelled : Spells low_layout low_bytes low)
    (high_spelled : Spells high_layout high_bytes high) where
  abbrev held : List Thread
  held = map anchor_on (lines file)

  abbrev named : List (List ℕ)
  named = services low high

  so-of : (l : ℕ) (h : Option ℕ) (upto : ℕ) → map_verdict dig held low high ≡ Yes l h upto
      → IsSoInLists dig (file_lines file) named [] (hashed_by_maps dig low_bytes high_bytes)
      (λ family. IsBetweenSteps family low.service low.step low.peer l h upto)
  so-of l h upto verdict family sound has carries =
      let OfFamily : Thread → Type 0 = λ t. Each (λ service. t.from ≡ service → HasThread dig family t) named in
      let fits = (yes-accepted dig held low high l h upto verdict).0.0 in
      let low_fits = low-fields low (spelled-fits low_codec low-lawful low_bytes low low_spelled) in
      let high_fits = high-fields high (spelled-fits high_codec high-lawful high_bytes high high_spelled) in
      let all : Each (HasThread dig family) (map_held held low high) =
      checks-have dig family named held (parts-each OfFamily (slice_split is_line_feed file) has) (map_checks low high)
      (map-names low high fits) in
      subst (λ texts. OrClash dig texts (IsBetweenSteps family low.service low.step low.peer l h upto))
      (sym (texts-are dig low_bytes high_bytes low high family low_spelled high_spelled))
      (verdict-binds dig size are held low high low_fits high_fits (Yes l h upto) (sym verdict) family sound all)

  pub plain-map : (l : ℕ) (h : Option ℕ) (upto : ℕ) → map_verdict dig held low high ≡ Yes l h upto
      → IsPlainMap dig low_bytes high_bytes (file_lines file) (map_text (Yes l h upto))
  plain-map l h upto verdict =
      let yes = yes-accepted dig held low high l h upto verdict in
      let low_fits = low-fields low (spelled-fits low_codec low-lawful low_bytes low low_spelled) in
      let high_fits = high-fields high (spelled-fits high_codec high-lawful high_bytes high high_spelled) in
      let told = are-bounds low high low_fits high_fits in
      let front = front-of low_bytes low low_spelled in
      record {
        service = low.service;
        step = low.step;
        peer = low.peer;
        rest = front.0;
        low = l;
        high = h;
        upto = upto;
        names = named-of low_bytes low low_spelled;
        of = front.1;
        readable = subst (λ (b : ℕ × (Option ℕ × ℕ)). AreBounds b.0 b.1.0 b.1.1) (λ k. (sym yes.1 k, (sym yes.2 k, sym yes.3 k))) told;
        tells = refl;
        so = so-of l h upto verdict;
      }
