use Rattle.std.proofs.Common.{◌≡◌, ◌∙◌, ◌++◌, List, [], length, ap, subst, sym}
use Rattle.std.proofs.lemmas.List.{length-map}
use Rattle.sha2.specs.Sha256.{sha256}
use Rattle.tw_script.specs.declared.script.NumberedLine.{NumberedLine}
use Rattle.tw_world.specs.Hosts.{claims_none, hosts_line}
use Rattle.tw_world.specs.PlayedLines.{HasPlayed, PlaysOn}
use Rattle.tw_world.specs.Players.{AreHostsOf}
use Rattle.tw_world.specs.Playing.{counts_of, script_lines}
use Rattle.tw_world.specs.Telling.{told_lines}
use Rattle.tw_world.specs.Worlds.{World, family, no_world}
use Rattle.tw_world.specs.declared.host.Host.{Host}
use Rattle.tw_world.specs.declared.told.Told.{Told}
use Rattle.tw_world.proofs.PlayedDisks.{disks-are, hosts-counted, own-histories}
use Rattle.tw_world.proofs.PlayedRuns.{runs-length}
use Rattle.tw_world.proofs.PlayedTexts.{played-text}
use Rattle.tw_world.proofs.replaying.play.Goals as goal

pub print_all-requires : goal.print_all-requires
print_all-requires c =
    let script : List NumberedLine = c.args.script.now in
    let played : HasPlayed (script_lines script) c.in_ok-told.told c.play_lines.new.self = c.in_ok-told.ensures in
    ap length c.as_slice-2.ensures ∙ runs-length sha256 claims_none (script_lines script) c.in_ok-told.told no_world
    played.0 played.1
    ∙ length-map script (λ (l : NumberedLine). l.line)

pub returns : goal.returns
returns c =
    let told : List Told = c.in_ok-told.told in
    let hosts : List Host = c.into_hosts-hosts.result.items in
    let played : HasPlayed (script_lines c.args.script.now) told c.play_lines.new.self = c.in_ok-told.ensures in
    let end : World = played.0 in
    let are : AreHostsOf hosts end.members = subst (λ hs. AreHostsOf hs.items end.members)
    (sym c.into_hosts-hosts.ensures) played.2.hosts in
    let counts : c.of-counts.result ≡ counts_of told = c.of-counts.ensures ∙ ap counts_of c.as_slice.ensures in record {
      told = told;
      end = end;
      runs = played.1;
      text = played-text c.args.script.now told c.of-counts.result hosts (family end) c.in_ok-text.text
          (hosts-counted hosts end.members are) counts
          (c.in_ok-text.ensures ∙ ap (λ (ts : List Told). told_lines c.args.script.now ts ++ hosts_line c.of-counts.result
          c.deref.result.now) c.as_slice-2.ensures
          ∙ ap (λ (hs : List Host). told_lines c.args.script.now told ++ hosts_line c.of-counts.result hs)
          c.deref.ensures.value);
      counts = counts;
      disks = disks-are end.members hosts c.in_ok-disks.disks are (own-histories (script_lines c.args.script.now) told
          end played.1) c.in_ok-disks.ensures;
      hosts = hosts;
      plays = subst (λ hs. PlaysOn no_world [] (script_lines c.args.script.now) told end hs.items)
          (sym c.into_hosts-hosts.ensures) played.3;
      over = c.in_ok-disks.ensures;
    }
