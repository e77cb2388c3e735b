use Rattle.std.proofs.Common.{◌≡◌, List, subst, sym, true}
use Rattle.std.specs.Prelude.{Ok}
use Rattle.tw_audit.specs.Auditing.{IsAudit}
use Rattle.tw_base.specs.declared.history.thread.Thread.{Thread}
use Rattle.tw_base.specs.history.History.{History}
use Rattle.tw_chain.specs.Reasons.{IsVerdict}
use Rattle.tw_chain.specs.declared.verdict.Verdict.TheVariants.{Yes}
use Rattle.tw_generate.specs.Summing.{trio_family, trio_heads}
use Rattle.tw_generate.proofs.generating.summarize.Goals as goal

pub returns : goal.returns
returns g c = λ t plays.
    let dig = g.H.Hasher.dig in
    let claimed = c.in_ok-claimed.claimed in
    let heads_are : c.in_ok-heads.heads ≡ trio_heads dig t = c.in_ok-heads.ensures t plays in
    let told = c.in_ok-claimed.ensures t plays in
    let mapped = c.in_ok-bounds.ensures t told.0 heads_are in
    let judged = c.in_ok-hops.ensures in
    let hops = judged.0 in
    let stands = judged.1 in (
      mapped.0,
      record {
        proof = claimed.proof;
        claimed = told.1;
        report = hops.0;
        accepted = subst (λ (hs : List Thread). IsVerdict dig hs true claimed.proof (Yes hops.0)) heads_are hops.1;
        hops = hops.2;
        map = mapped.1;
        finding = stands.0;
        audited = subst (λ (hs : List Thread). IsAudit dig (trio_family t) hs claimed.proof (Ok stands.0)) heads_are
            (subst (λ (fam : List History). IsAudit dig fam c.in_ok-heads.heads claimed.proof (Ok stands.0)) told.2
            stands.1);
        stands = stands.2;
        alpha = c.steps.ensures.served t.alpha mapped.0.0.0;
        beta = c.steps-2.ensures.served t.beta mapped.0.1.0;
        gamma = c.steps-3.ensures.served t.gamma mapped.0.2.0;
        threads = told.3;
      },
    )

pub claimed-requires : goal.claimed-requires
claimed-requires g c = c.requires

pub map-requires : goal.map-requires
map-requires g c =
    let can = c.requires in
    let t = can.1 in
    let plays = can.2.0 in
    let told = c.in_ok-claimed.ensures t plays in
    (can.0, c.args.rounds, t, (told.0, can.2.1), c.in_ok-heads.ensures t plays)

pub judged-requires-clause-accepted : goal.judged-requires-clause-accepted
judged-requires-clause-accepted g c =
    let dig = g.H.Hasher.dig in
    let can = c.requires in
    let t = can.1 in
    let plays = can.2.0 in
    let proof = c.in_ok-claimed.claimed.proof in
    let told = c.in_ok-claimed.ensures t plays in
    let accepted = c.generate_laws.ensures.accepted can.0 c.args.rounds t proof can.2.1 told.1 in (
      accepted.0,
      subst (λ (hs : List Thread). IsVerdict dig hs true proof (Yes accepted.0)) (sym (c.in_ok-heads.ensures t plays))
          accepted.1,
    )

pub judged-requires-clause-audited : goal.judged-requires-clause-audited
judged-requires-clause-audited g c = λ result audited.
    let dig = g.H.Hasher.dig in
    let can = c.requires in
    let t = can.1 in
    let plays = can.2.0 in
    let proof = c.in_ok-claimed.claimed.proof in
    let told = c.in_ok-claimed.ensures t plays in
    c.generate_laws.ensures.audited can.0 c.args.rounds t proof result can.2.1 told.1
    (subst (λ (hs : List Thread). IsAudit dig (trio_family t) hs proof result) (c.in_ok-heads.ensures t plays)
    (subst (λ (fam : List History). IsAudit dig fam c.in_ok-heads.heads proof result) told.2 audited))
