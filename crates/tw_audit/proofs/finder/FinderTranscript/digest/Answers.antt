use Rattle.std.proofs.Common.{[], ◌∷◌, true, false, ap, sym, ◌∙◌, subst}
use Rattle.std.proofs.lemmas.List.{append-nil}
use Rattle.tw_audit.specs.KeyLists.{doubtful, is_among_keys}
use Rattle.tw_audit.specs.Tables.{Took}
use Rattle.tw_audit.proofs.Doubtful.{kept-push}
use Rattle.tw_audit.proofs.FinderLaws.{behind-more}
use Rattle.tw_audit.proofs.finder.FinderTranscript.digest.Goals as goal

pub returns-then-has-clause-took : goal.returns-then-has-clause-took
returns-then-has-clause-took g c =
    record {
      behind = λ before took.
          behind-more g.H.Hasher.dig c.args.self.now.repeated c.args.self.now.table c.take.new.self before
          (c.args.text.now ∷ []) took (λ texts own.
          subst (Took g.H.Hasher.dig c.take.new.self)
          (sym (kept-push g.H.Hasher.dig (is_among_keys c.args.self.now.repeated) texts c.args.text.now true
          (ap (is_among_keys c.args.self.now.repeated) (sym c.digest-digest.ensures) ∙ sym c.has.ensures
          ∙ c.if-has.true)))
          (c.take.ensures g.H.Hasher.dig (doubtful g.H.Hasher.dig c.args.self.now.repeated texts)
          (λ text. (g.met.H.Hasher.size text, g.met.H.Hasher.bytes text)) c.digest-digest.ensures own));
    }

pub returns-else-has-clause-took : goal.returns-else-has-clause-took
returns-else-has-clause-took g c =
    record {
      behind = λ before took.
          behind-more g.H.Hasher.dig c.args.self.now.repeated c.args.self.now.table c.args.self.now.table before
          (c.args.text.now ∷ []) took (λ texts own.
          subst (Took g.H.Hasher.dig c.args.self.now.table)
          (sym (kept-push g.H.Hasher.dig (is_among_keys c.args.self.now.repeated) texts c.args.text.now false
          (ap (is_among_keys c.args.self.now.repeated) (sym c.digest-digest.ensures) ∙ sym c.has.ensures
          ∙ c.if-has.false)
          ∙ append-nil (doubtful g.H.Hasher.dig c.args.self.now.repeated texts)))
          own);
    }
