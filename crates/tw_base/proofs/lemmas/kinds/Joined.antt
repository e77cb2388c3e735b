-- Joined lists of parts.
use Rattle.std.proofs.Common.{◌≡◌, ℕ, ◌+◌, ◌<◌, List, [], ◌∷◌, ◌++◌, length, get_or, take, ap, sym, ◌∙◌, append_assoc}
use Rattle.std.proofs.Common.{subst}
use Rattle.std.proofs.lemmas.List.{append-nil, take_more}
use Rattle.tw_base.specs.kinds.Texts.{joined}
use Rattle.tw_base.specs.kinds.Bytes.{HasBytes}
use Rattle.tw_base.specs.kinds.Digests.{AllDigests}

pub joined-push : (parts : List (List ℕ)) (part : List ℕ) → joined (parts ++ part ∷ []) ≡ joined parts ++ part
joined-push [] part = append-nil part
joined-push (p ∷ parts) part = ap (λ x. p ++ x) (joined-push parts part) ∙ sym (append_assoc p (joined parts) part)

pub joined-more : (ds : List (List ℕ)) (i : ℕ) (d : List ℕ) → i < length ds → joined (take (i + 1) ds) ≡ joined
    (take i ds) ++ get_or ds i d
joined-more ds i d h = ap joined (take_more ds i d h) ∙ joined-push (take i ds) (get_or ds i d)

pub AllDigests-push : (parts : List (List ℕ)) (part : List ℕ) → AllDigests parts → HasBytes 32 part
    → AllDigests (parts ++ part ∷ [])
AllDigests-push [] part p n = (n, tt)
AllDigests-push (q ∷ parts) part p n = (p.0, AllDigests-push parts part p.1 n)

pub AllDigests-more : (ds : List (List ℕ)) (i : ℕ) (d : List ℕ) → i < length ds → AllDigests (take i ds)
    → HasBytes 32 (get_or ds i d) → AllDigests (take (i + 1) ds)
AllDigests-more ds i d h p n = subst AllDigests (sym (take_more ds i d h)) (AllDigests-push (take i ds) (get_or ds i d)
    p n)

pub ruleset more = (joined-more, AllDigests-more)
