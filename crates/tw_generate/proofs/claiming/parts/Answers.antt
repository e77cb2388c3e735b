use Rattle.std.proofs.Common.{◌≡◌, ◌∙◌, ◌++◌, ◌-◌, List, [], ◌∷◌, ℕ, length, ap, refl, subst, sym}
use Rattle.std.specs.Prelude.{Some}
use Rattle.tw_base.specs.declared.history.question.Question.{Question}
use Rattle.tw_base.specs.declared.history.question.Question.TheVariants as ask
use Rattle.tw_base.specs.declared.history.thread.Key.{Key}
use Rattle.tw_chain.specs.declared.proof.Proof.{Proof}
use Rattle.tw_generate.specs.Summing.{IsPartAsked}
use Rattle.tw_disk.specs.Disk.{DiskView}
use Rattle.tw_service.specs.declared.service.Service.{Service}
use Rattle.tw_generate.specs.Unrefused.{CanProve}
use Rattle.tw_generate.proofs.AskedParts.{threads-may}
use Rattle.tw_generate.proofs.claiming.parts.Goals as goal

-- a list with one more element
more : (before after now : List Proof) (p : Proof) → after ≡ before ++ p ∷ [] → before ≡ now → after ≡ now ++ p ∷ []
more before after now p is same = is ∙ ap (λ (ps : List Proof). ps ++ p ∷ []) same

-- the step before one, and the questions, by other words for steps and tops
before_of : (step n m : ℕ) → step ≡ n - 1 → n ≡ m → step ≡ m - 1
before_of step n m is same = is ∙ ap (λ k. k - 1) same

event_of : (q : Question) (n m : ℕ) → q ≡ ask.Event n 0 (Some n) → n ≡ m → q ≡ ask.Event m 0 (Some m)
event_of q n m is same = is ∙ (λ j. ask.Event (same j) 0 (Some (same j)))

thread_of : (q : Question) (n m top end : ℕ) (key : Key) → q ≡ ask.Thread n key (Some top) → n ≡ m → top ≡ end
    → q ≡ ask.Thread m key (Some end)
thread_of q n m top end key is step same = is ∙ (λ j. ask.Thread (step j) key (Some (same j)))

link_of : (q : Question) (n top end : ℕ) → q ≡ ask.Link n (Some top) → top ≡ end → q ≡ ask.Link n (Some end)
link_of q n top end is same = is ∙ (λ j. ask.Link n (Some (same j)))

pub returns : goal.returns
returns g c = λ t plays.
    let dig : List ℕ → List ℕ = g.H.Hasher.dig in
    let alpha : c.steps-top.result ≡ length t.alpha.steps = c.steps-top.ensures.served t.alpha plays.0.0 in
    let beta : c.steps-last.result ≡ length t.beta.steps = c.steps-last.ensures.served t.beta plays.1.0 in
    let gamma : c.steps-end.result ≡ length t.gamma.steps = c.steps-end.ensures.served t.gamma plays.2.0 in
    let before : c.step_before-before.result ≡ length t.gamma.steps - 1 =
    before_of _ _ _ c.step_before-before.ensures gamma in
    let second = c.in_ok-add_part.ensures t.gamma plays.2 in
    let at_gamma = c.in_ok-add_part-2.ensures t.gamma second.0 in
    let in_beta = c.in_ok-add_part-3.ensures t.beta plays.1 in
    let at_beta = c.in_ok-add_part-4.ensures t.beta in_beta.0 in
    let in_alpha = c.in_ok-add_part-5.ensures t.alpha plays.0 in
    let first = c.in_ok-add_part-6.ensures t.alpha in_alpha.0 in (
      (first.0, at_beta.0, at_gamma.0),
      record {
        second = second.1.0;
        is_second = subst (λ (q : Question). IsPartAsked dig t.gamma q second.1.0)
            (event_of _ _ _ c.event.ensures gamma) second.1.1;
        at_gamma = at_gamma.1.0;
        is_at_gamma = subst (λ (q : Question). IsPartAsked dig t.gamma q at_gamma.1.0)
            (thread_of _ _ _ _ _ _ c.thread.ensures before gamma) at_gamma.1.1;
        in_beta = in_beta.1.0;
        is_in_beta = subst (λ (q : Question). IsPartAsked dig t.beta q in_beta.1.0)
            (link_of _ _ _ _ c.link.ensures beta) in_beta.1.1;
        at_beta = at_beta.1.0;
        is_at_beta = subst (λ (q : Question). IsPartAsked dig t.beta q at_beta.1.0)
            (thread_of _ _ _ _ _ _ c.thread-2.ensures refl beta) at_beta.1.1;
        in_alpha = in_alpha.1.0;
        is_in_alpha = subst (λ (q : Question). IsPartAsked dig t.alpha q in_alpha.1.0)
            (link_of _ _ _ _ c.link-2.ensures alpha) in_alpha.1.1;
        first = first.1.0;
        is_first = subst (λ (q : Question). IsPartAsked dig t.alpha q first.1.0) c.event-2.ensures first.1.1;
        parts_are =
            more _ _ _ _ first.1.2 (more _ _ _ _ in_alpha.1.2 (more _ _ _ _ at_beta.1.2
            (more _ _ _ _ in_beta.1.2 (more _ _ _ _ at_gamma.1.2 (more _ _ _ _ second.1.2 c.new-parts.ensures)))));
      },
    )

-- a question that is this one
as_asked : {D H : Type 0} {g : _} {k : _} (dig : List ℕ → List ℕ) (view : D → DiskView) (service : Service D H g k)
    (q asked : Question) → asked ≡ q → CanProve dig view q service → CanProve dig view asked service
as_asked dig view service q asked is can = subst (λ (q : Question). CanProve dig view q service) (sym is) can

pub add_part-requires : goal.add_part-requires
add_part-requires g c =
    let dig : List ℕ → List ℕ = g.H.Hasher.dig in
    let view = g.D.Disk.view in
    let can = c.requires in
    let t = can.2 in
    let plays = can.3.0 in
    let gamma : c.steps-end.result ≡ length t.gamma.steps = c.steps-end.ensures.served t.gamma plays.2.0 in
    as_asked dig view c.args.services.now.gamma _ c.event.result
    (event_of _ _ _ c.event.ensures gamma)
    (record {
      history = t.gamma;
      plays = plays.2;
      may = tt;
      asks = tt;
      goes = (c.generate_laws.ensures.asked can.0 can.1 t can.3.1).0;
    })

pub add_part-requires-2 : goal.add_part-requires-2
add_part-requires-2 g c =
    let dig : List ℕ → List ℕ = g.H.Hasher.dig in
    let view = g.D.Disk.view in
    let can = c.requires in
    let t = can.2 in
    let plays = can.3.0 in
    let gamma : c.steps-end.result ≡ length t.gamma.steps = c.steps-end.ensures.served t.gamma plays.2.0 in
    let before : c.step_before-before.result ≡ length t.gamma.steps - 1 =
    before_of _ _ _ c.step_before-before.ensures gamma in
    let may = threads-may dig can.0 can.1 t can.3.1 c.args.of_alpha.now c.args.of_beta.now can.4 can.5 in
    as_asked dig view c.add_part.new.service _ c.thread.result
    (thread_of _ _ _ _ _ _ c.thread.ensures before gamma)
    (record {
      history = t.gamma;
      plays = (c.in_ok-add_part.ensures t.gamma plays.2).0;
      may = may.1;
      asks = tt;
      goes = (c.generate_laws.ensures.asked_parts can.0 can.1 t c.args.of_alpha.now c.args.of_beta.now can.3.1 can.4
          can.5).0;
    })

pub add_part-requires-3 : goal.add_part-requires-3
add_part-requires-3 g c =
    let dig : List ℕ → List ℕ = g.H.Hasher.dig in
    let view = g.D.Disk.view in
    let can = c.requires in
    let t = can.2 in
    let plays = can.3.0 in
    let beta : c.steps-last.result ≡ length t.beta.steps = c.steps-last.ensures.served t.beta plays.1.0 in
    as_asked dig view c.args.services.now.beta _ c.link.result
    (link_of _ _ _ _ c.link.ensures beta)
    (record {
      history = t.beta;
      plays = plays.1;
      may = tt;
      asks = tt;
      goes = (c.generate_laws.ensures.asked_parts can.0 can.1 t c.args.of_alpha.now c.args.of_beta.now can.3.1 can.4
          can.5).1;
    })

pub add_part-requires-4 : goal.add_part-requires-4
add_part-requires-4 g c =
    let dig : List ℕ → List ℕ = g.H.Hasher.dig in
    let view = g.D.Disk.view in
    let can = c.requires in
    let t = can.2 in
    let plays = can.3.0 in
    let beta : c.steps-last.result ≡ length t.beta.steps = c.steps-last.ensures.served t.beta plays.1.0 in
    let may = threads-may dig can.0 can.1 t can.3.1 c.args.of_alpha.now c.args.of_beta.now can.4 can.5 in
    as_asked dig view c.add_part-3.new.service _ c.thread-2.result
    (thread_of _ _ _ _ _ _ c.thread-2.ensures refl beta)
    (record {
      history = t.beta;
      plays = (c.in_ok-add_part-3.ensures t.beta plays.1).0;
      may = may.0;
      asks = tt;
      goes = (c.generate_laws.ensures.asked_parts can.0 can.1 t c.args.of_alpha.now c.args.of_beta.now can.3.1 can.4
          can.5).2;
    })

pub add_part-requires-5 : goal.add_part-requires-5
add_part-requires-5 g c =
    let dig : List ℕ → List ℕ = g.H.Hasher.dig in
    let view = g.D.Disk.view in
    let can = c.requires in
    let t = can.2 in
    let plays = can.3.0 in
    let alpha : c.steps-top.result ≡ length t.alpha.steps = c.steps-top.ensures.served t.alpha plays.0.0 in
    as_asked dig view c.args.services.now.alpha _ c.link-2.result
    (link_of _ _ _ _ c.link-2.ensures alpha)
    (record {
      history = t.alpha;
      plays = plays.0;
      may = tt;
      asks = tt;
      goes = (c.generate_laws.ensures.asked_parts can.0 can.1 t c.args.of_alpha.now c.args.of_beta.now can.3.1 can.4
          can.5).3;
    })

pub add_part-requires-6 : goal.add_part-requires-6
add_part-requires-6 g c =
    let dig : List ℕ → List ℕ = g.H.Hasher.dig in
    let view = g.D.Disk.view in
    let can = c.requires in
    let t = can.2 in
    let plays = can.3.0 in
    as_asked dig view c.add_part-5.new.service _ c.event-2.result c.event-2.ensures
    (record {
      history = t.alpha;
      plays = (c.in_ok-add_part-5.ensures t.alpha plays.0).0;
      may = tt;
      asks = tt;
      goes = (c.generate_laws.ensures.asked_parts can.0 can.1 t c.args.of_alpha.now c.args.of_beta.now can.3.1 can.4
          can.5).4;
    })
