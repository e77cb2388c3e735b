use Rattle.std.proofs.Common.{◌≡◌, ◌∙◌, List, ℕ, ap, sym}
use Rattle.std.specs.Prelude.{Option, Some}
use Rattle.tw_base.specs.declared.history.thread.Entry.{Entry}
use Rattle.tw_base.specs.history.History.{History}
use Rattle.tw_tmap.specs.Bounds.{first_from}
use Rattle.tw_generate.specs.Summing.{received_by}
use Rattle.tw_generate.proofs.Results.{if-ok}
use Rattle.tw_generate.proofs.claiming.precedence.Goals as goal

-- what is found by another word for the name and the history
found_by : (name other : List ℕ) (least : ℕ) (h k : History) (e : Entry) → name ≡ other → h ≡ k → first_from other least
    (received_by k) ≡ Some e → first_from name least (received_by h) ≡ Some e
found_by name other least h k e named same is = ap (λ n. first_from n least (received_by h)) named
    ∙ ap (λ (x : History). first_from other least (received_by x)) same ∙ is

one_entry : (x y : Entry) (o : Option Entry) → o ≡ Some x → o ≡ Some y → x ≡ y
one_entry x y o is other = let both : Some x ≡ Some y = sym is ∙ other in cc

pub returns : goal.returns
returns g c = λ t plays beta gamma.
    let parts = c.in_ok-parts.ensures t plays in
    let of_alpha = c.found-of_alpha.result in
    if-ok c.joined_bytes.result (λ bytes joined. (
      parts.0,
      record {
        of_alpha = of_alpha;
        is_of_alpha = found_by _ _ 1 _ _ of_alpha (sym (c.name-alpha_name.ensures.served t.alpha plays.0.0)) (sym beta)
            c.found-of_alpha.ensures;
        of_beta = c.found-of_beta.result;
        is_of_beta = found_by _ _ of_alpha.archived _ _ c.found-of_beta.result
            (sym (c.name-beta_name.ensures.served t.beta plays.1.0)) (sym gamma) c.found-of_beta.ensures;
        parts = c.in_ok-parts.parts;
        are_parts = parts.1;
        joined = joined;
      },
    )) c.joined_bytes.ensures

pub found-of_alpha-requires : goal.found-of_alpha-requires
found-of_alpha-requires g c =
    let can = c.requires in
    let law = c.generate_laws.ensures.found can.0 can.1 can.2 can.3.1 can.4 in
    (law.0, found_by _ _ 1 _ _ law.0 (c.name-alpha_name.ensures.served can.2.alpha can.3.0.0.0) can.5 law.2)

pub found-of_beta-requires : goal.found-of_beta-requires
found-of_beta-requires g c =
    let can = c.requires in
    let t = can.2 in
    let law = c.generate_laws.ensures.found can.0 can.1 t can.3.1 can.4 in
    let first = found_by _ _ 1 _ _ law.0 (c.name-alpha_name.ensures.served t.alpha can.3.0.0.0) can.5 law.2 in
    let same = one_entry c.found-of_alpha.result law.0 _ c.found-of_alpha.ensures first in (
      law.1,
      found_by _ _ c.found-of_alpha.result.archived _ _ law.1 (c.name-beta_name.ensures.served t.beta can.3.0.1.0) can.6
          (ap (λ (e : Entry). first_from t.beta.name e.archived (received_by t.gamma)) same ∙ law.3),
    )

pub parts-requires : goal.parts-requires
parts-requires g c =
    let can = c.requires in
    let t = can.2 in
    let plays = can.3.0 in (
      can.0,
      can.1,
      t,
      can.3,
      found_by _ _ 1 _ _ c.found-of_alpha.result (sym (c.name-alpha_name.ensures.served t.alpha plays.0.0)) (sym can.5)
          c.found-of_alpha.ensures,
      found_by _ _ c.found-of_alpha.result.archived _ _ c.found-of_beta.result
          (sym (c.name-beta_name.ensures.served t.beta plays.1.0)) (sym can.6) c.found-of_beta.ensures,
    )

pub joined_bytes-requires : goal.joined_bytes-requires
joined_bytes-requires g c =
    let can = c.requires in
    let t = can.2 in
    let plays = can.3.0 in
    c.generate_laws.ensures.joined can.0 can.1 t c.found-of_alpha.result c.found-of_beta.result c.in_ok-parts.parts
    can.3.1
    (found_by _ _ 1 _ _ c.found-of_alpha.result (sym (c.name-alpha_name.ensures.served t.alpha plays.0.0)) (sym can.5)
    c.found-of_alpha.ensures)
    (found_by _ _ c.found-of_alpha.result.archived _ _ c.found-of_beta.result
    (sym (c.name-beta_name.ensures.served t.beta plays.1.0)) (sym can.6) c.found-of_beta.ensures)
    (c.in_ok-parts.ensures t plays).1
