-- One side of an audit path further down.
use Rattle.std.proofs.Common.{◌≡◌, ℕ, ◌+◌, ◌-◌, ◌<◌, ◌≤◌, List, [], ◌∷◌, ◌++◌, length, reverse, ap, sym, ◌∙◌}
use Rattle.std.proofs.Common.{append_assoc, arith}
use Rattle.std.proofs.lemmas.List.{length-reverse, reverse-append}
use Rattle.tw_base.specs.declared.events.side.Side.{Side}
use Rattle.tw_base.specs.declared.events.side.Side.TheVariants.{Left, Right}
use Rattle.tw_base.specs.events.AuditPath.{path_length, path_sides}
use Rattle.tw_base.specs.events.EventTree.{largest_power_below}
use Rattle.tw_base.proofs.lemmas.events.AuditPaths.{path_length-left, path_length-right, path_sides-left}
use Rattle.tw_base.proofs.lemmas.events.AuditPaths.{path_sides-right}

-- one side further down
pub room-left : (count index half size : ℕ) → 1 < count → half ≡ largest_power_below count → index < half
    → size + path_length count index ≤ 10
    → (size + 1) + path_length half index ≤ 10
room-left count index half size more h less room =
    let e = path_length-left count index more (omega arith) in
    let f : path_length half index ≡ path_length (largest_power_below count) index = ap (λ x. path_length x index) h in
    omega arith

pub room-right : (count index half size : ℕ) → 1 < count → half ≡ largest_power_below count → half ≤ index
    → size + path_length count index ≤ 10
    → (size + 1) + path_length (count - half) (index - half) ≤ 10
room-right count index half size more h past room =
    let e = path_length-right count index more (omega arith) in
    let f : path_length (count - half) (index - half) ≡ path_length (count - largest_power_below count)
    (index - largest_power_below count) =
    ap (λ x. path_length (count - x) (index - x)) h in
    omega arith

pub sides-step : (sides lower pushed : List Side) (side : Side) (items goal : List Side) → sides ≡ lower ++ side ∷ []
    → pushed ≡ items ++ side ∷ []
    → sides ++ reverse items ≡ goal → lower ++ reverse pushed ≡ goal
sides-step sides lower pushed side items goal s p e =
    ap (λ x. lower ++ reverse x) p ∙ ap (λ x. lower ++ x) (reverse-append items (side ∷ []))
    ∙ sym (append_assoc lower (side ∷ []) (reverse items)) ∙ ap (λ x. x ++ reverse items) (sym s) ∙ e

pub sides-left : (count index half : ℕ) → 1 < count → half ≡ largest_power_below count → index < half
    → path_sides count index ≡ path_sides half index ++ Right ∷ []
sides-left count index half more h less = path_sides-left count index more (omega arith)
    ∙ ap (λ x. path_sides x index ++ Right ∷ []) (sym h)

pub sides-right : (count index half : ℕ) → 1 < count → half ≡ largest_power_below count → half ≤ index
    → path_sides count index ≡ path_sides (count - half) (index - half) ++ Left ∷ []
sides-right count index half more h past = path_sides-right count index more (omega arith)
    ∙ ap (λ x. path_sides (count - x) (index - x) ++ Left ∷ []) (sym h)

pub length-reversed : (items : List Side) (count index : ℕ) → reverse items ≡ path_sides count index
    → length items ≡ path_length count index
unfolding path_length
length-reversed items count index e = sym (length-reverse items) ∙ ap length e
