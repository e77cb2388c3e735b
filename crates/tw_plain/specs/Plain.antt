-- What a printed report says by the reader's own lines, without a word of how proofs are checked.
use Rattle.std.specs.Prelude.{◌≡◌, ℕ, ◌<◌, ◌^◌, List, [], ◌∷◌, ◌++◌, map, IfSome}
use Rattle.std.specs.List.{flat_map, slice_split}
use Rattle.tw_base.specs.declared.history.report.Claim.{Claim}
use Rattle.tw_base.specs.declared.history.report.Claim.TheVariants.{Exists, Precedes, Archived, Absent, Linked}
use Rattle.tw_base.specs.declared.history.report.Hop.{Hop}
use Rattle.tw_base.specs.declared.history.report.Report.{Report}
use Rattle.tw_base.specs.declared.history.report.Seen.{Seen}
use Rattle.tw_base.specs.declared.history.thread.Thread.{Thread}
use Rattle.tw_base.specs.history.Facts.{Facts, TimesRise}
use Rattle.tw_base.specs.history.Family.{HasThread}
use Rattle.tw_base.specs.history.History.{History}
use Rattle.tw_base.specs.history.Sound.{IsSound}
use Rattle.tw_base.specs.kinds.Bytes.{AreBytes}
use Rattle.tw_base.specs.kinds.Clash.{OrClash}
use Rattle.tw_base.specs.kinds.Lists.{Each}
use Rattle.tw_base.specs.kinds.Names.{IsName, padded_name}
use Rattle.tw_chain.specs.Services.{services_of}
use Rattle.tw_msg.specs.AnchorsFile.{anchor_on, is_line_feed}
use Rattle.tw_plain.specs.Hashed.{hashed_texts}
use Rattle.tw_text.specs.Reports.{report_text}
use Rattle.tw_text.specs.Words.{word_digest, word_number}

-- ---- what a text can tell: names that are names, numbers of 64 bits, and bytes

abbrev pub IsNamedStep : (service : List ℕ) (step : ℕ) → Type 0
IsNamedStep service step = IsName service × (step < 2 ^ 64)

abbrev pub IsSeen : Seen → Type 0
IsSeen seen =
    IsNamedStep seen.place.service seen.place.step × (seen.place.index < 2 ^ 64) × AreBytes seen.event × IfSome seen.time (λ t. t < 2 ^ 64)

abbrev pub IsClaim : Claim → Type 0
IsClaim (Exists seen) = IsSeen seen
IsClaim (Precedes first second) = IsSeen first × IsSeen second
IsClaim (Archived service step e) =
    IsNamedStep service step × IsNamedStep e.thread.from e.thread.step × AreBytes e.thread.auth × (e.archived < 2 ^ 64)
IsClaim (Absent service step key) = IsNamedStep service step × IsNamedStep key.from key.step
IsClaim (Linked service step top auth) = IsNamedStep service step × (top < 2 ^ 64) × AreBytes auth

pub record IsReport (report : Report) : Type 0 where
  pub claim : IsClaim report.claim
  pub hops : Each (λ (hop : Hop). IsNamedStep hop.from hop.step × IsNamedStep hop.by hop.archived) report.hops
  pub carried : Each (λ (t : Thread). IsNamedStep t.from t.step × AreBytes t.auth) report.carried

-- ---- the reader's lines

-- the lines of a file: what stands between its line feeds, and behind the last one, where nothing stands, which is of no service
abbrev pub file_lines : List ℕ → List Thread
file_lines file = map anchor_on (slice_split is_line_feed file)

-- the line of three words: a name, a step and a digest
abbrev pub line_of_words : (name step hex : List ℕ) → Thread
line_of_words name step hex = record { from = padded_name name; step = word_number step; auth = word_digest hex }

-- ---- what it says

-- the services of whose histories the report speaks: those of its claim, and both of each hop
abbrev pub services_named : Report → List (List ℕ)
services_named report = services_of report.claim ++ flat_map (λ (hop : Hop). hop.from ∷ hop.by ∷ []) report.hops

module _ (dig : List ℕ → List ℕ) where
  -- in every list of sound histories that has each of these lines that is of one of these services, and each of these carried threads,
  -- this is so of the list; or two different texts of those that are named have one digest
  abbrev pub IsSoInLists : (held : List Thread) (services : List (List ℕ)) (carried : List Thread) → (List History → List (List ℕ)) → (List History → Type 0) → Type 0
  IsSoInLists held services carried texts IsSo =
      (family : List History) → Each IsSound family
      → Each (λ (line : Thread). Each (λ service. line.from ≡ service → HasThread dig family line) services) held
      → Each (HasThread dig family) carried → OrClash dig (texts family) (IsSo family)

  -- so is what the report claims, by its own hops: the services are those that it names, and the carried threads those that it tells as
  -- carried
  abbrev pub IsSoByLines : (held : List Thread) (texts : List History → List (List ℕ)) → Report → Type 0
  IsSoByLines held texts report =
      IsSoInLists held (services_named report) report.carried texts
      (λ family. Facts dig family report.hops report.claim × TimesRise report.hops report.claim)

  -- the text is a report's, and what that says of the proof of these bytes is so by the lines that are held
  pub record IsPlain (proof : List ℕ) (held : List Thread) (text : List ℕ) : Type 0 where
    pub report : Report
    pub readable : IsReport report
    pub tells : text ≡ report_text report
    pub so : IsSoByLines held (hashed_texts dig proof) report
