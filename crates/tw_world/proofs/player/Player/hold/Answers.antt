use Rattle.std.proofs.Common.{List, [], ◌∷◌, ◌++◌, ap, refl, ◌∙◌, rules}
use Rattle.std.specs.List.{filter}
use Rattle.std.specs.Prelude.{not}
use Rattle.std.specs.Str.{bytes_eq}
use Rattle.std.proofs.lemmas.Fn.{filter_same}
use Rattle.tw_base.specs.declared.history.thread.Thread.{Thread}
use Rattle.tw_world.specs.declared.host.Host.{Host}
use Rattle.tw_world.proofs.player.Player.hold.Goals as goal

pub returns : goal.returns
returns c w f =
    let kept = filter_same _ (λ (a : Thread). not (bytes_eq a.from c.args.anchor.from)) _ (λ x b g k. search rules) _ _
    c.retain.ensures.filtered in (
      record {
        hosts = f.hosts;
        messages = f.messages;
        files = f.files;
        proofs = f.proofs;
        anchors = c.in_ok-push.ensures.items
            ∙ ap (λ (xs : List Thread). xs ++ c.args.anchor ∷ [])
            (kept ∙ ap (filter (λ (a : Thread). not (bytes_eq a.from c.args.anchor.from))) f.anchors);
      },
      refl {A = List Host},
    )
