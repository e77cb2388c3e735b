-- Lines of words: what is written of them is written of no others. A word's bytes are above that of a blank.
use Rattle.std.proofs.Common.{◌≡◌, ℕ, ◌<◌, ◌≤◌, List, [], ◌∷◌, ◌++◌, refl, ap, sym, ◌∙◌, arith, lit≤}
use Rattle.std.proofs.lemmas.List.{append_assoc}
use Rattle.tw_base.specs.kinds.Lists.{Each}

abbrev pub IsWord : List ℕ → Type 0
IsWord word = Each (λ b. 32 < b) word

-- it begins with a blank, a line feed or another byte that stands in no word
abbrev IsBehind : List ℕ → Type 0
IsBehind [] = ⊥
IsBehind (b ∷ bs) = b ≤ 32

-- a word and what stands behind it
cut : (one other rest more : List ℕ) → IsWord one → IsWord other → IsBehind rest → IsBehind more
    → one ++ rest ≡ other ++ more → (one ≡ other) × (rest ≡ more)
cut [] [] rest more w v r m same = (refl, same)
cut [] (b ∷ bs) [] more w v r m same = absurd r
cut [] (b ∷ bs) (c ∷ cs) more w v r m same = let at : c ≡ b = cc in absurd (omega (arith, at, v.0, r))
cut (b ∷ bs) [] rest [] w v r m same = absurd m
cut (b ∷ bs) [] rest (c ∷ cs) w v r m same = let at : b ≡ c = cc in absurd (omega (arith, at, w.0, m))
cut (b ∷ bs) (c ∷ cs) rest more w v r m same =
    let tails : bs ++ rest ≡ cs ++ more = cc in
    let head : b ≡ c = cc in
    let inner = cut bs cs rest more w.1 v.1 r m tails in
    (let first : bs ≡ cs = inner.0 in cc, inner.1)

-- words with a blank before each
abbrev pub words_text : List (List ℕ) → List ℕ
words_text [] = []
words_text (word ∷ words) = 32 ∷ (word ++ words_text words)

-- what stands behind words: the next one, or the line's end
behind : (words : List (List ℕ)) (rest : List ℕ) → IsBehind (words_text words ++ 10 ∷ rest)
behind [] rest = lit≤ tt
behind (word ∷ words) rest = lit≤ tt

same_words : (one other : List (List ℕ)) (rest more : List ℕ) → Each IsWord one → Each IsWord other
    → words_text one ++ 10 ∷ rest ≡ words_text other ++ 10 ∷ more → (one ≡ other) × (rest ≡ more)
same_words [] [] rest more w v same = (refl, cc)
same_words [] (word ∷ words) rest more w v same = cc
same_words (word ∷ words) [] rest more w v same = cc
same_words (word ∷ words) (next ∷ others) rest more w v same =
    let tails : (word ++ words_text words) ++ 10 ∷ rest ≡ (next ++ words_text others) ++ 10 ∷ more = cc in
    let moved : word ++ (words_text words ++ 10 ∷ rest) ≡ next ++ (words_text others ++ 10 ∷ more) =
    sym (append_assoc word (words_text words) (10 ∷ rest)) ∙ tails ∙ append_assoc next (words_text others) (10 ∷ more) in
    let here = cut word next _ _ w.0 v.0 (behind words rest) (behind others more) moved in
    let there = same_words words others rest more w.1 v.1 here.1 in
    (let first : word ≡ next = here.0 in let later : words ≡ others = there.0 in cc, there.1)

-- ---- lines

-- a line: its first word, and the others
abbrev pub Line : Type 0
Line = List ℕ × List (List ℕ)

abbrev pub IsLine : Line → Type 0
IsLine l = IsWord l.0 × Each IsWord l.1

abbrev pub line_text : Line → List ℕ
line_text l = l.0 ++ (words_text l.1 ++ 10 ∷ [])

abbrev pub lines_text : List Line → List ℕ
lines_text [] = []
lines_text (l ∷ ls) = line_text l ++ lines_text ls

-- a line and what stands behind it
moved : (l : Line) (rest : List ℕ) → line_text l ++ rest ≡ l.0 ++ (words_text l.1 ++ 10 ∷ rest)
moved l rest =
    append_assoc l.0 (words_text l.1 ++ 10 ∷ []) rest
    ∙ ap (λ t. l.0 ++ t) (append_assoc (words_text l.1) (10 ∷ []) rest)

same_line : (l m : Line) (rest more : List ℕ) → IsLine l → IsLine m → line_text l ++ rest ≡ line_text m ++ more
    → (l ≡ m) × (rest ≡ more)
same_line (first, words) (next, others) rest more is are same =
    let l : Line = (first, words) in
    let m : Line = (next, others) in
    let cut_at = cut l.0 m.0 _ _ is.0 are.0 (behind l.1 rest) (behind m.1 more) (sym (moved l rest) ∙ same ∙ moved m more) in
    let behind_it = same_words words others rest more is.1 are.1 cut_at.1 in
    (let one : first ≡ next = cut_at.0 in let all : words ≡ others = behind_it.0 in cc, behind_it.1)

-- no line is empty
no_line : (l : Line) (rest : List ℕ) → IsLine l → [] ≡ line_text l ++ rest → ⊥
no_line ([], []) rest is same = cc
no_line ([], word ∷ words) rest is same = cc
no_line (b ∷ bs, words) rest is same = cc

pub same_lines : (ls ms : List Line) → Each IsLine ls → Each IsLine ms → lines_text ls ≡ lines_text ms → ls ≡ ms
same_lines [] [] is are same = refl
same_lines [] (m ∷ ms) is are same = absurd (no_line m (lines_text ms) are.0 same)
same_lines (l ∷ ls) [] is are same = absurd (no_line l (lines_text ls) is.0 (sym same))
same_lines (l ∷ ls) (m ∷ ms) is are same =
    let here = same_line l m (lines_text ls) (lines_text ms) is.0 are.0 same in
    let first : l ≡ m = here.0 in
    let later : ls ≡ ms = same_lines ls ms is.1 are.1 here.1 in
    cc

pub lines_text-append : (ls ms : List Line) → lines_text (ls ++ ms) ≡ lines_text ls ++ lines_text ms
lines_text-append [] ms = refl
lines_text-append (l ∷ ls) ms =
    ap (λ t. line_text l ++ t) (lines_text-append ls ms) ∙ sym (append_assoc (line_text l) (lines_text ls) (lines_text ms))
