-- What is told of a file's bytes while a text is written, a part at a time.
use borrow.Rule.Slice.PartMut.{mid_of}
use Rattle.std.proofs.Common.{◌≡◌, ℕ, ◌+◌, ◌≤◌, List, [], ◌++◌, length, take, drop, take-add, refl, sym, ap, ◌∙◌, subst, arith}
use Rattle.std.specs.Prelude.{Option, Some, None, IfSome, IsSomeAnd, MatchOption}
use Rattle.std.specs.Option.{option_map}
use Rattle.std.proofs.lemmas.List.{length-take-le, take-append-drop, take-take}
use Rattle.tw_hostio.specs.FileBytes.{put_bytes, TornBytes}
use Rattle.tw_hostio.specs.FileStepsSteps.{TornBytes-put}
use Rattle.tw_hostio.proofs.ByteLaws.{length-put_bytes, TornBytes-within, TornBytes-wider, put_twice}

put_none : (at : ℕ) (file : List ℕ) → put_bytes at [] file ≡ file
unfolding put_bytes
put_none at file =
    let same : at + 0 ≡ at = omega arith in
    ap (λ (k : ℕ). take at file ++ drop k file) same ∙ take-append-drop at file

abbrev pub Joins : ℕ → Option (List ℕ) → Type 0
Joins at old = IfSome old (λ bytes. at ≤ length bytes)

abbrev pub IsTornAt : (at n : ℕ) → (old new : Option (List ℕ)) → Type 0
IsTornAt at n old new = MatchOption old (new ≡ None) (λ bytes. IsSomeAnd new (TornBytes at n bytes))

-- before the first part
pub told_none : (old : Option (List ℕ)) (at : ℕ) (text : List ℕ) → old ≡ option_map (put_bytes at (take 0 text)) old
told_none None at text = refl
told_none (Some file) at text = ap (λ (b : List ℕ). Some b) (sym (put_none at file))

-- one part more
pub told_more : (old mid new : Option (List ℕ)) (at done n : ℕ) (text : List ℕ) → Joins at old → done ≤ length text
    → mid ≡ option_map (put_bytes at (take done text)) old → new ≡ option_map (put_bytes (at + done) (take n (drop done text))) mid
    → new ≡ option_map (put_bytes at (take (done + n) text)) old
told_more None mid new at done n text joins within first second = second ∙ ap (option_map (put_bytes (at + done) (take n (drop done text)))) first
told_more (Some file) mid new at done n text joins within first second =
    let size : length (take done text) ≡ done = length-take-le done text within in
    second ∙ ap (option_map (put_bytes (at + done) (take n (drop done text)))) first
    ∙ ap (λ (b : List ℕ). Some b) (
    ap (λ (k : ℕ). put_bytes (at + k) (take n (drop done text)) (put_bytes at (take done text) file)) (sym size)
    ∙ put_twice at (take done text) (take n (drop done text)) file joins
    ∙ ap (λ (t : List ℕ). put_bytes at t file) (sym (take-add done n text)))

-- one part more, of what is left of a text
pub told_part : (old mid new : Option (List ℕ)) (at done n k : ℕ) (text : List ℕ) → Joins at old → done ≤ length text → n ≤ k
    → mid ≡ option_map (put_bytes at (take done text)) old → new ≡ option_map (put_bytes (at + done) (take n (mid_of done k text))) mid
    → new ≡ option_map (put_bytes at (take (done + n) text)) old
told_part old mid new at done n k text joins within few first second =
    told_more old mid new at done n text joins within first (second ∙ ap (λ (t : List ℕ). option_map (put_bytes (at + done) t) mid) (take-take n k (drop done text) few))

-- the next part begins no further than at the end
pub told_joins : (old mid : Option (List ℕ)) (at done : ℕ) (text : List ℕ) → Joins at old → done ≤ length text
    → mid ≡ option_map (put_bytes at (take done text)) old → Joins (at + done) mid
told_joins None mid at done text joins within first = subst (λ (m : Option (List ℕ)). Joins (at + done) m) (sym first) tt
told_joins (Some file) mid at done text joins within first =
    let size : length (take done text) ≡ done = length-take-le done text within in
    let there : at + done ≤ length (put_bytes at (take done text) file) = omega (arith, length-put_bytes at (take done text) file joins, size) in
    subst (λ (m : Option (List ℕ)). Joins (at + done) m) (sym first) there

-- what was written is torn at most
pub told_torn : (old new : Option (List ℕ)) (at done n : ℕ) (text : List ℕ) → Joins at old → done ≤ length text → done ≤ n
    → new ≡ option_map (put_bytes at (take done text)) old → IsTornAt at n old new
told_torn None new at done n text joins within few first = first
told_torn (Some file) new at done n text joins within few first =
    let size : length (take done text) ≡ done = length-take-le done text within in
    let put = put_bytes at (take done text) file in
    let torn : TornBytes at (length (take done text)) file put = TornBytes-put at (take done text) file in
    let wide : TornBytes at n file put = TornBytes-wider at (length (take done text)) n file put (omega (arith, size, few)) torn in
    subst (λ (m : Option (List ℕ)). IsSomeAnd m (TornBytes at n file)) (sym first) wide

-- and so is what a write tore behind it
pub torn_on : (old mid new : Option (List ℕ)) (at n from m : ℕ) → at ≤ from → from + m ≤ at + n
    → IsTornAt at n old mid → IsTornAt from m mid new → IsTornAt at n old new
torn_on None mid new at n from m low high first second = subst (λ (o : Option (List ℕ)). IsTornAt from m o new) first second
torn_on (Some file) None new at n from m low high first second = absurd first
torn_on (Some file) (Some between) None new n from m low high first second = absurd second
torn_on (Some file) (Some between) (Some new) at n from m low high first second = TornBytes-within at n from m file between new low high first second
