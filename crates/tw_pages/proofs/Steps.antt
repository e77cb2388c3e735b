-- What one torn or good write does to an image that opens.
use Rattle.std.proofs.Common.{◌≡◌, ◌≢◌, inl, inr, ◌⊎◌, ⊎_elim, ℕ, ◌+◌, ◌-◌, ◌<◌, ◌≤◌, List, length, take, get_or, []}
use Rattle.std.proofs.Common.{◌++◌, length-append, slice_index, refl, sym, ◌∙◌, ap, arith}
use Rattle.std.proofs.lemmas.Bool.{cases_eq, cases_lt}
use Rattle.std.proofs.lemmas.List.{get_or-replicate, get_or_append_left, get_or-append_right, get_or-take}
use Rattle.std.proofs.lemmas.List.{length-take-le}
use Rattle.tw_disk.specs.Image.{Image, Torn, put, page_at}
use Rattle.tw_disk.specs.PutSteps.{length-put, page_at-put_same, page_at-put_other}
use Rattle.tw_disk.proofs.Puts.{torn_put}
use Rattle.tw_pages.specs.Store.{Opening, StandsInImage, IsClosed, OpensAs, OpensAlone, OpensAboveOlder}
use Rattle.tw_pages.specs.Store.{used_of, spare_of, body_page, open_gate_page, closed_gate_page, IsBody}
use Rattle.tw_pages.specs.CommitSteps.{IsReady, HoldsPages, IsNext}

-- the same body on a disk of no fewer pages
pub body_moved : (count count' : ℕ) (page page' : List ℕ) (generation used : ℕ) (root : List ℕ) → page' ≡ page
    → count ≤ count' → IsBody count page generation used root → IsBody count' page' generation used root
body_moved count count' page page' generation used root same le is =
    record { is = record { bytes = same ∙ is.is.bytes; fits = is.is.fits }; room = omega (arith, is.room, le) }

-- a page that the slot doesn't use
pub record IsElsewhere (o : Opening) (page : ℕ) : Type 0 where
  pub no_gate : page ≢ o.slot
  pub no_body : page ≢ 2 + o.slot
  pub no_page : (page < 4) ⊎ (used_of o ≤ page)

module _ (o : Opening) (page : ℕ) (d c : Image) (torn : Torn page d c) where
  same : (k : ℕ) → k < length d → k ≢ page → page_at c k ≡ page_at d k
  same k lt ne = torn.others k lt ne

  committed : IsElsewhere o page → (k : ℕ) → k < length o.pages → 4 + k ≢ page
  committed elsewhere k lt = ⊎_elim (λ low. (λ is. absurd (omega arith))) (λ high. (λ is. absurd (omega arith)))
      elsewhere.no_page

  pub stands_elsewhere : IsElsewhere o page → StandsInImage o d → StandsInImage o c
  stands_elsewhere elsewhere s = record {
    which = s.which;
    room = omega (arith, s.room, torn.no_shorter);
    gate = ap (λ (p : List ℕ). get_or p 0 0) (same o.slot (omega (arith, s.which, s.room))
        (λ is. elsewhere.no_gate (sym is))) ∙ s.gate;
    body = body_moved (length d) (length c) (page_at d (2 + o.slot)) (page_at c (2 + o.slot)) o.generation (used_of o)
        o.root (same (2 + o.slot) (omega (arith, s.which, s.room)) (λ is. elsewhere.no_body (sym is))) torn.no_shorter
        s.body;
    pages = λ k lt. same (4 + k) (omega (arith, s.room, lt)) (committed elsewhere k lt) ∙ s.pages k lt;
  }

  pub closed_elsewhere : (slot : ℕ) → slot < length d → slot ≢ page → IsClosed slot d → IsClosed slot c
  closed_elsewhere slot lt ne closed is = closed (ap (λ (p : List ℕ). get_or p 0 0) (sym (same slot lt ne)) ∙ is)

  alone_elsewhere : IsElsewhere o page → page ≢ spare_of o → OpensAlone o d → OpensAlone o c
  alone_elsewhere elsewhere ne opens = let low : o.slot < 2 = opens.stands.which in record {
    stands = stands_elsewhere elsewhere opens.stands;
    closed = closed_elsewhere (spare_of o) (omega (arith, opens.stands.room)) (λ e. ne (sym e)) opens.closed;
  }

  -- a torn write of the spare body
  pub torn_body : page ≡ 2 + spare_of o → OpensAlone o d → OpensAlone o c
  torn_body is opens = let low : o.slot < 2 = opens.stands.which in alone_elsewhere
      (record { no_gate = λ e. absurd (omega arith); no_body = λ e. absurd (omega arith); no_page = inl (omega arith) })
      (λ e. absurd (omega arith)) opens

  -- a torn write of a page behind the committed ones
  pub torn_page : used_of o ≤ page → OpensAlone o d → OpensAlone o c
  torn_page behind opens = let low : o.slot < 2 = opens.stands.which in alone_elsewhere
      (record { no_gate = λ e. absurd (omega arith); no_body = λ e. absurd (omega arith); no_page = inr behind })
      (λ e. absurd (omega arith)) opens

-- the spare gate closed
pub closed : (o : Opening) (gate : ℕ) (c : Image) → gate ≡ spare_of o → StandsInImage o c
    → OpensAlone o (put gate closed_gate_page c)
unfolding closed_gate_page
closed o gate c is stands =
    let low : o.slot < 2 = stands.which in
    let fits : gate ≤ length c = omega (arith, stands.room) in
    record {
      stands = stands_elsewhere o gate c (put gate closed_gate_page c) (torn_put gate closed_gate_page c fits)
          (record {
            no_gate = λ e. absurd (omega arith);
            no_body = λ e. absurd (omega arith);
            no_page = inl (omega arith);
          }) stands;
      closed = λ opened.
          let zero_byte : get_or (page_at (put gate closed_gate_page c) (spare_of o)) 0 0 ≡ 0 =
          ap (λ (k : ℕ). get_or (page_at (put gate closed_gate_page c) k) 0 0) (sym is)
          ∙ ap (λ (p : List ℕ). get_or p 0 0) (page_at-put_same gate closed_gate_page c fits) ∙ get_or-replicate 4096 0
          0 0 (omega arith) in
          absurd (omega (arith, opened, zero_byte));
    }

-- the spare body written
pub readied : (old new : Opening) (staged : Image) (page : ℕ) (c : Image) → page ≡ 2 + spare_of old
    → IsNext old staged new → OpensAlone old c → HoldsPages (used_of old) staged c
    → IsReady old new (put page (body_page new.generation (used_of new) new.root) c)
readied old new staged page c is step opens holds =
    let low : old.slot < 2 = opens.stands.which in
    let fits : page ≤ length c = omega (arith, opens.stands.room) in
    let body = body_page new.generation (used_of new) new.root in
    let count : length new.pages ≡ length old.pages + length staged = ap length step.pages ∙ length-append old.pages
    staged in
    record {
      alone = torn_body old page c (put page body c) (torn_put page body c fits) is opens;
      other = step.other;
      next = step.next;
      room = omega (arith, count, holds.room, length-put page body c fits);
      body = record {
        is = record {
          bytes = ap (λ (k : ℕ). page_at (put page body c) k) (omega (arith, step.other)) ∙ page_at-put_same page body c
              fits;
          fits = step.fits;
        };
        room = omega (arith, count, holds.room, length-put page body c fits);
      };
      pages = λ k lt. page_at-put_other page body c (4 + k) fits (λ e. absurd (omega arith)) ∙ placed k
          (omega (arith, count)) (cases_lt k (length old.pages)) ∙ ap (λ (ps : Image). page_at ps k) (sym step.pages);
    }
  where
    placed : (k : ℕ) → k < length old.pages + length staged → (k < length old.pages) ⊎ (length old.pages ≤ k)
        → page_at c (4 + k) ≡ page_at (old.pages ++ staged) k
    placed k lt (inl low) = opens.stands.pages k low ∙ sym (get_or_append_left old.pages staged [] k low)
    placed k lt (inr high) =
        let at : 4 + k ≡ used_of old + (k - length old.pages) = omega arith in
        ap (λ (j : ℕ). page_at c j) at ∙ holds.each (k - length old.pages) (omega arith)
        ∙ sym (get_or-append_right old.pages staged (length old.pages) k [] refl high)

-- the spare gate written over a ready image, torn or not
module _ (old new : Opening) (d c : Image) (ready : IsReady old new d) (torn : Torn new.slot d c) where
  pub opened : slice_index (page_at c new.slot) 0 ≡ 1 → OpensAboveOlder new c
  opened is =
      let low : old.slot < 2 = ready.alone.stands.which in
      let other = ready.other in
      let room = ready.room in
      record {
        stands = record {
          which = omega arith;
          room = omega (arith, torn.no_shorter);
          gate = is;
          body = body_moved (length d) (length c) (page_at d (2 + new.slot)) (page_at c (2 + new.slot)) new.generation
              (used_of new) new.root (torn.others (2 + new.slot) (omega arith) (λ e. absurd (omega arith)))
              torn.no_shorter ready.body;
          pages = λ k lt. torn.others (4 + k) (omega arith) (λ e. absurd (omega arith)) ∙ ready.pages k lt;
        };
        older = record {
          generation = old.generation;
          used = used_of old;
          root = old.root;
          body = body_moved (length d) (length c) (page_at d (2 + old.slot)) (page_at c (2 + spare_of new))
              old.generation (used_of old) old.root (ap (λ (k : ℕ). page_at c k) (omega arith) ∙ torn.others
              (2 + old.slot) (omega arith) (λ e. absurd (omega arith))) torn.no_shorter ready.alone.stands.body;
          lower = omega (arith, ready.next);
        };
      }

pub opened_put : (old new : Opening) (d : Image) → IsReady old new d
    → OpensAboveOlder new (put new.slot open_gate_page d)
unfolding open_gate_page
opened_put old new d ready =
    let low : old.slot < 2 = ready.alone.stands.which in
    let other = ready.other in
    let fits : new.slot ≤ length d = omega (arith, ready.room) in
    opened old new d (put new.slot open_gate_page d) ready (torn_put new.slot open_gate_page d fits)
    (ap (λ (p : List ℕ). get_or p 0 0) (page_at-put_same new.slot open_gate_page d fits))

-- one page more
pub holds_more : (used at i : ℕ) (staged : Image) (page : List ℕ) (c : Image) → at ≡ used + i → i < length staged
    → page ≡ get_or staged i [] → HoldsPages used (take i staged) c → HoldsPages used (take (i + 1) staged)
    (put at page c)
holds_more used at i staged page c is lt read holds =
    let size : length (take i staged) ≡ i = length-take-le i staged (omega arith) in
    let more : length (take (i + 1) staged) ≡ i + 1 = length-take-le (i + 1) staged (omega arith) in
    let fits : at ≤ length c = omega (arith, holds.room, size, is) in
    record {
      room = omega (arith, more, holds.room, size, is, length-put at page c fits);
      each = λ k below. elim (cases_eq k i) [
        | inl same ↦ let there : used + k ≡ at = omega (arith, is, same) in
            ap (λ (j : ℕ). page_at (put at page c) j) there ∙ page_at-put_same at page c fits ∙ read
            ∙ sym (ap (λ (j : ℕ). get_or (take (i + 1) staged) j []) same ∙ get_or-take (i + 1) staged i []
            (omega arith))
        | inr other ↦ page_at-put_other at page c (used + k) fits (λ e. absurd (omega arith)) ∙ holds.each k
            (omega (arith, below, more, size)) ∙ get_or-take i staged k [] (omega (arith, below, more))
            ∙ sym (get_or-take (i + 1) staged k [] (omega (arith, below, more)))
      ];
    }

pub alone_opens : (o : Opening) (c : Image) → OpensAlone o c → OpensAs o c
alone_opens o c opens = record { stands = opens.stands; counts = inl opens.closed }
