-- The last entry of a peer, and the entry of a key.
use Rattle.std.proofs.Common.{◌≡◌, ◌≢◌, ◌⊎◌, ℕ, ◌<◌, ◌^◌, ◌+◌, List, [], ◌∷◌, Bool, true, false, refl, ap, sym, ◌∙◌}
use Rattle.std.proofs.Common.{subst, arith, inl, inr}
use Rattle.std.specs.Prelude.{Option, Some, None, cond, nat_lt}
use Rattle.std.specs.FinMap.{nat_cmp-IsAntisymmetric, slice_cmp-IsAntisymmetric}
use Rattle.std.specs.declared.cmp.Ordering.{Ordering}
use Rattle.std.specs.declared.cmp.Ordering.TheVariants.{Less, Equal, Greater}
use Rattle.std.specs.Cmp.Lexicographic.{slice_cmp}
use Rattle.std.specs.Ordering.{is_eq, nat_cmp, ordering_then}
use Rattle.std.specs.Str.{bytes_eq}
use Rattle.std.proofs.lemmas.Bool.{ltb-true}
use Rattle.std.proofs.lemmas.Slice.Eq.{bytes_eq-Decides}
use Rattle.tw_base.specs.declared.history.thread.Entry.{Entry}
use Rattle.tw_base.specs.declared.history.thread.Key.{Key}
use Rattle.tw_base.specs.history.Asking.{entry_with, last_below}
use Rattle.tw_base.specs.history.Entries.{key_cmp, key_of, of_peer}
use Rattle.tw_base.specs.kinds.Lists.{Each, In}
use Rattle.tw_base.proofs.lemmas.history.Members.{without-each}
use Rattle.tw_archive.specs.Judging.{last_entry_step, last_of_peer, peer_end}

pub each-of : {X : Type 0} (P : X → Type 0) (xs : List X) → ((x : X) → In x xs → P x) → Each P xs
each-of P [] all = tt
each-of P (x ∷ xs) all = (all x (inl refl), each-of P xs (λ y there. all y (inr there)))

equal-key : (a b : Key) → key_cmp a b ≡ Equal → a ≡ b
equal-key a b is = by (slice_cmp nat_cmp a.from b.from) refl is
  where
    both : a.from ≡ b.from → a.step ≡ b.step → a ≡ b
    both from step = λ i. record { from = from i; step = step i }

    by : (o : Ordering) → slice_cmp nat_cmp a.from b.from ≡ o → ordering_then o (nat_cmp a.step b.step) ≡ Equal → a ≡ b
    by Less names steps = cc
    by Equal names steps = both (slice_cmp-IsAntisymmetric nat_cmp-IsAntisymmetric a.from b.from names)
        (nat_cmp-IsAntisymmetric a.step b.step steps)
    by Greater names steps = cc

-- an entry that is answered has the key
pub with-key : (es : List Entry) (key : Key) (e : Entry) → entry_with es key ≡ Some e → key_of e ≡ key
with-key [] key e is = cc
with-key (f ∷ es) key e is = by (key_cmp key (key_of f)) refl (with-key es key e) is
  where
    on : (o : Ordering) → key_cmp key (key_of f) ≡ o → is_eq o ≡ false → (entry_with es key ≡ Some e → key_of e ≡ key)
        → entry_with (f ∷ es) key ≡ Some e → key_of e ≡ key
    on o compared other rest found =
        rest (sym (ap (λ b. cond b (Some f) (entry_with es key)) (ap is_eq compared ∙ other)) ∙ found)

    by : (o : Ordering) → key_cmp key (key_of f) ≡ o → (entry_with es key ≡ Some e → key_of e ≡ key)
        → entry_with (f ∷ es) key ≡ Some e → key_of e ≡ key
    by Less compared rest found = on Less compared refl rest found
    by Equal compared rest found =
        let some : Some f ≡ Some e = sym (ap (λ b. cond b (Some f) (entry_with es key)) (ap is_eq compared)) ∙ found in
        let one : f ≡ e = cc in ap key_of (sym one) ∙ sym (equal-key key (key_of f) compared)
    by Greater compared rest found = on Greater compared refl rest found

module _ (peer : List ℕ) where
  -- an entry that is answered is the peer's
  pub of-peer : (o : Option Entry) (e : Entry) → of_peer peer o ≡ Some e → (o ≡ Some e) × (e.thread.from ≡ peer)
  of-peer None e is = cc
  of-peer (Some f) e is = by (bytes_eq f.thread.from peer) refl is
    where
      by : (b : Bool) → bytes_eq f.thread.from peer ≡ b → cond b (Some f) None ≡ Some e → (Some f ≡ Some e)
          × (e.thread.from ≡ peer)
      by true same found = let one : f ≡ e = cc in
          (found, ap (λ (x : Entry). x.thread.from) (sym one) ∙ (bytes_eq-Decides f.thread.from peer).0 same)
      by false same found = cc

  pub peer-of : (e : Entry) → e.thread.from ≡ peer → of_peer peer (Some e) ≡ Some e
  peer-of e same = ap (λ b. cond b (Some e) None) ((bytes_eq-Decides e.thread.from peer).1 same)

  -- `latest` is what holds of the entries of a tree in pages
  module _ (es : List Entry) where
    abbrev pub IsLatest : Entry → Type 0
    IsLatest e =
        (last : Entry) × (last_below es (record { from = peer; step = 2 ^ 40 }) ≡ Some last) × In last es
        × (last.thread.from ≡ peer) × ((e ≡ last) ⊎ (e.thread.step < last.thread.step))

    module _ (latest : (e : Entry) → In e es → e.thread.from ≡ peer → IsLatest e) where
      -- where the peer has an entry, it has a last one
      pub has-last : (f : Entry) → In f es → f.thread.from ≡ peer →
          (e : Entry) × (last_of_peer es peer ≡ Some e) × In e es × (e.thread.from ≡ peer)
          × ((f ≡ e) ⊎ (f.thread.step < e.thread.step))
      has-last f there same =
          let l = latest f there same in
          (l.0, ap (of_peer peer) l.1 ∙ peer-of l.0 l.3, l.2, l.3, l.4)

      pub without-last : last_of_peer es peer ≡ None → (f : Entry) → In f es → f.thread.from ≡ peer → ⊥
      without-last none f there same = let l = has-last f there same in let never : Some l.0 ≡ None = sym l.1 ∙ none in
          cc

      -- no entry of the peer is above its last one
      pub up-to-last : (f : Entry) → In f es → f.thread.from ≡ peer → f.thread.step < last_entry_step
          (last_of_peer es peer) + 1
      up-to-last f there same =
          let l = has-last f there same in
          let is : last_entry_step (last_of_peer es peer) ≡ l.0.thread.step = ap last_entry_step l.1 in
          elim l.4 [
            | inl one ↦ (let steps : f.thread.step ≡ l.0.thread.step = ap (λ (x : Entry). x.thread.step) one in
                omega (arith, is, steps))
            | inr less ↦ omega (arith, is, less)
          ]

      pub above-last : (step : ℕ) → nat_lt (last_entry_step (last_of_peer es peer)) step ≡ true
          → entry_with es (record { from = peer; step = step }) ≡ None
      above-last step above =
          without-each es (record { from = peer; step = step })
          (each-of (λ (f : Entry). key_of f ≢ record { from = peer; step = step }) es never)
        where
          never : (f : Entry) → In f es → key_of f ≢ record { from = peer; step = step }
          never f there is =
              let low = up-to-last f there (ap (λ (k : Key). k.from) is) in
              let same : f.thread.step ≡ step = ap (λ (k : Key). k.step) is in
              let less = ltb-true (last_entry_step (last_of_peer es peer)) step above in
              omega (arith, low, same, less)

      pub last-is : (e : Entry) → (last_below es (peer_end peer) ≡ Some e → In e es) → last_of_peer es peer ≡ Some e →
          In e es × (e.thread.from ≡ peer) × ((f : Entry) → In f es → f.thread.from ≡ peer
          → (f ≡ e) ⊎ (f.thread.step < e.thread.step))
      last-is e has is =
          let o = of-peer (last_below es (peer_end peer)) e is in (
            has o.0,
            o.1,
            λ f there same. (let l = has-last f there same in let some : Some l.0 ≡ Some e = sym l.1 ∙ is in
                let one : l.0 ≡ e = cc in
                subst (λ (x : Entry). (f ≡ x) ⊎ (f.thread.step < x.thread.step)) one l.4),
          )
