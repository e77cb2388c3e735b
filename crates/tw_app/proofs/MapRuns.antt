-- What a run of `checkmap` says by itself.
use Rattle.std.proofs.Common.{◌≡◌, ◌∙◌, ℕ, List, sym, subst, arith}
use Rattle.std.specs.Prelude.{Some, Result, Ok, Err}
use Rattle.sha2.specs.Sha256.{sha256}
use Rattle.tw_disk.specs.Disk.{DiskView}
use Rattle.tw_words.specs.CommandLine.{command_of}
use Rattle.tw_words.specs.declared.command.Command.{Command}
use Rattle.tw_words.specs.declared.command.Command.TheVariants.{CheckMap}
use Rattle.tw_text.specs.declared.fault.CommandFault.{CommandFault}
use Rattle.tw_tmap.specs.declared.map_verdict.MapVerdict.{MapVerdict}
use Rattle.tw_tmap.specs.declared.map_verdict.MapVerdict.TheVariants.{Yes}
use Rattle.tw_tmap.specs.Binding.{BindsMap}
use Rattle.tw_tmap.specs.Checking.{high_told, low_told}
use Rattle.tw_tmap.specs.Texts.{map_text}
use Rattle.tw_tmap.proofs.MapChecks.{yes-accepted}
use Rattle.tw_reachcmd.specs.CheckMap.{CheckMapComes}
use Rattle.tw_app.specs.declared.outcome.Outcome.{Outcome}
use Rattle.tw_app.specs.declared.outcome.Outcome.TheVariants.{Undone}
use Rattle.tw_app.specs.Around.{Around, Writes}
use Rattle.tw_app.specs.MapRuns.{AsksMap, IsMapRun}
use Rattle.tw_app.specs.Outcomes.{of_mapped, outcome_by, status_of, text_of}
use Rattle.tw_app.specs.Running.{EndsAllowed, work}
use Rattle.tw_app.specs.Statuses.{AreWordsOf}
use Rattle.tw_app.proofs.AskedRuns.{asked_for, told_as}
use Rattle.tw_app.proofs.Commands.{fault_not_zero}

module _ {D : Type 0} (view : D → DiskView) (a : Around D) (status : ℕ) (run : EndsAllowed view a status) where
  pub between : status ≡ 0 → AreWordsOf AsksMap a.words → IsMapRun a.outside.inputs.told a.words a.taken.before
      a.taken.after
  between zeroth asks = asked_for view a status run AsksMap asks by
    where
      told : (o : Outcome) → run.0 ≡ o → (status ≡ status_of o) × Writes a (text_of o)
      told = told_as view a status run (λ cut. omega (arith, zeroth, cut.0))

      of : (low high anchors : List ℕ) → command_of a.words ≡ Some (CheckMap low high anchors)
          → (r : Result MapVerdict CommandFault) → CheckMapComes a.outside.inputs low high anchors r
          → run.0 ≡ outcome_by of_mapped r → IsMapRun a.outside.inputs.told a.words a.taken.before a.taken.after
      of low high anchors is (Ok (Yes l h upto)) (low_map, high_map, held, (hold, has, judged)) came =
          let all = yes-accepted sha256 held low_map high_map l h upto (sym judged.is_verdict) in
          let same : Yes l h upto ≡ Yes (low_told low_map) (high_told high_map) high_map.top =
          (λ k. Yes (all.1 k) (all.2 k) (all.3 k)) in
          record {
            low_file = low;
            high_file = high;
            anchors_file = anchors;
            is_command = is;
            low = low_map;
            high = high_map;
            anchors = held;
            hold = hold;
            has_anchors = has;
            accepted = all.0;
            written = subst (λ (v : MapVerdict). Writes a (map_text v)) same (told (of_mapped (Yes l h upto)) came).1;
            binds = subst (λ (v : MapVerdict). BindsMap sha256 held low_map high_map v) same judged.binds;
          }
      of low high anchors is (Ok v) comes came = absurd (omega (arith, zeroth, (told (of_mapped v) came).0))
      of low high anchors is (Err f) comes came = absurd (fault_not_zero f (sym (told (Undone f) came).0 ∙ zeroth))

      by : (c : Command) → command_of a.words ≡ Some c → AsksMap c → (work view a.outside c).does run.0
          → IsMapRun a.outside.inputs.told a.words a.taken.before a.taken.after
      by (CheckMap low high anchors) is asks came = of low high anchors is came.0 came.1.0 came.2
      by _ is asks came = absurd asks
