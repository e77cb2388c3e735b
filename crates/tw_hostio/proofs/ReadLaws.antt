-- What is told of a piece that is read, a part at a time.
use borrow.Rule.Slice.PartMut.{put_mid, post_of}
use Rattle.std.proofs.Common.{◌≡◌, ℕ, ◌+◌, ◌<◌, ◌≤◌, List, ◌++◌, length, take, drop, take-add, sym, ap, ◌∙◌, subst, arith}
use Rattle.std.specs.Prelude.{Option, Some, None, IfSome}
use Rattle.std.proofs.lemmas.List.{length-take, length-take-le, length-drop, drop-drop, drop_at, take_at, take_all, take-append-le}
use Rattle.tw_outside.specs.Files.{Came}

-- the first bytes of the piece are those of the file from this place on, and the file has so many there
pub record IsRead (bytes : List ℕ) (at done : ℕ) (into : List ℕ) : Type 0 where
  pub there : 0 < done → at + done ≤ length bytes
  pub same : take done into ≡ take done (drop at bytes)

module _ (bytes into piece : List ℕ) (at done n k : ℕ) (room : done ≤ length into) (some : 0 < n) (fits : n ≤ length piece) (before : IsRead bytes at done into) (came : Came bytes (at + done) piece n) where
  -- one part more
  read_more : IsRead bytes at (done + n) (put_mid done k into piece)
  read_more =
      let count : length (take n (drop (at + done) bytes)) ≡ n = ap length (sym came.given) ∙ length-take-le n piece fits in
      let size : length (take done into) ≡ done = length-take-le done into room in
      let rest = piece ++ post_of done k into in
      record {
        there = λ _. omega (arith, count, length-take n (drop (at + done) bytes), length-drop (at + done) bytes, some);
        same =
            take-add done n (take done into ++ rest)
            ∙ ap (λ (f : List ℕ). f ++ take n (drop done (take done into ++ rest))) (take_at (take done into) rest done size ∙ before.same)
            ∙ ap (λ (r : List ℕ). take done (drop at bytes) ++ r) (ap (take n) (drop_at (take done into) rest done size) ∙ take-append-le n piece (post_of done k into) fits ∙ came.given ∙ ap (take n) (sym (drop-drop done at bytes)))
            ∙ sym (take-add done n (drop at bytes));
      }

-- one part more, where the file tells its bytes
pub told_read_more : (old mid : Option (List ℕ)) (into piece : List ℕ) (at done n k : ℕ) → mid ≡ old → done ≤ length into → 0 < n → n ≤ length piece
    → IfSome old (λ bytes. IsRead bytes at done into) → IfSome mid (λ bytes. Came bytes (at + done) piece n)
    → IfSome old (λ bytes. IsRead bytes at (done + n) (put_mid done k into piece))
told_read_more None mid into piece at done n k same room some fits before came = tt
told_read_more (Some bytes) mid into piece at done n k same room some fits before came =
    read_more bytes into piece at done n k room some fits before (subst (λ (m : Option (List ℕ)). IfSome m (λ b. Came b (at + done) piece n)) same came)

-- no part, though the rest of the piece may have changed
pub told_read_same : (old : Option (List ℕ)) (into piece : List ℕ) (at done k : ℕ) → done ≤ length into → IfSome old (λ bytes. IsRead bytes at done into)
    → IfSome old (λ bytes. IsRead bytes at done (put_mid done k into piece))
told_read_same None into piece at done k room before = tt
told_read_same (Some bytes) into piece at done k room before = record {
  there = before.there;
  same = take_at (take done into) (piece ++ post_of done k into) done (length-take-le done into room) ∙ before.same;
}

-- all parts
pub told_read_all : (old : Option (List ℕ)) (into : List ℕ) (at done n : ℕ) → done ≡ n → 0 < n → length into ≡ n → IfSome old (λ bytes. IsRead bytes at done into)
    → IfSome old (λ bytes. (at + n ≤ length bytes) × (into ≡ take n (drop at bytes)))
told_read_all None into at done n all some size read = tt
told_read_all (Some bytes) into at done n all some size read =
    let whole : IsRead bytes at n into = subst (λ (k : ℕ). IsRead bytes at k into) all read in
    (whole.there some, sym (take_all n into (omega (arith, size))) ∙ whole.same)
