-- What the phases that make a store leave.
use Rattle.std.proofs.Common.{◌≡◌, ◌≢◌, ℕ, ◌+◌, ◌<◌, ◌≤◌, List, length, get_or, refl, sym, ◌∙◌, ap, arith}
use Rattle.std.proofs.lemmas.List.{get_or-replicate}
use Rattle.tw_base.specs.kinds.Bytes.{AreBytes}
use Rattle.tw_disk.specs.Image.{Image, put, page_at}
use Rattle.tw_disk.specs.PutSteps.{length-put, page_at-put_same, page_at-put_other}
use Rattle.tw_pages.specs.Store.{OpensAboveOlder, IsBody, open_gate_page, closed_gate_page, body_page}
use Rattle.tw_pages.specs.InitSteps.{BothClosed, HasBodies}
use Rattle.tw_pages.specs.Init.{first_opening}
use Rattle.tw_pages.proofs.Steps.{body_moved}
use Rattle.tw_pages.proofs.Bodies.{body-fits}

-- two pages put side by side
module _ (at : ℕ) (one other : List ℕ) (c : Image) (fits : at ≤ length c) where
  abbrev pub pair : Image
  pair = put (at + 1) other (put at one c)

  next : at + 1 ≤ length (put at one c)
  next = omega (arith, length-put at one c fits)

  pub length_pair : at + 2 ≤ length pair
  length_pair = omega (arith, length-put at one c fits, length-put (at + 1) other (put at one c) next)

  pub no_shorter_pair : length c ≤ length pair
  no_shorter_pair = omega (arith, length-put at one c fits, length-put (at + 1) other (put at one c) next)

  pub first_of_pair : page_at pair at ≡ one
  first_of_pair = page_at-put_other (at + 1) other (put at one c) at next (λ e. absurd (omega arith)) ∙ page_at-put_same
      at one c fits

  pub second_of_pair : page_at pair (at + 1) ≡ other
  second_of_pair = page_at-put_same (at + 1) other (put at one c) next

  pub others_of_pair : (k : ℕ) → k ≢ at → k ≢ at + 1 → page_at pair k ≡ page_at c k
  others_of_pair k ne ne' = page_at-put_other (at + 1) other (put at one c) k next ne' ∙ page_at-put_other at one c k
      fits ne

closed_byte : get_or closed_gate_page 0 0 ≡ 0
unfolding closed_gate_page
closed_byte = get_or-replicate 4096 0 0 0 (omega arith)

open_byte : get_or open_gate_page 0 0 ≡ 1
unfolding open_gate_page
open_byte = refl

closed_page : (page : List ℕ) → page ≡ closed_gate_page → get_or page 0 0 ≢ 1
closed_page page is opened = let byte : get_or page 0 0 ≡ 0 = ap (λ (p : List ℕ). get_or p 0 0) is ∙ closed_byte in
    absurd (omega (arith, byte, opened))

pub gates_closed : (c : Image) → BothClosed (put 1 closed_gate_page (put 0 closed_gate_page c))
gates_closed c =
    let low : 0 ≤ length c = omega arith in
    record {
      first = closed_page _ (first_of_pair 0 closed_gate_page closed_gate_page c low);
      second = closed_page _ (second_of_pair 0 closed_gate_page closed_gate_page c low);
      room = length_pair 0 closed_gate_page closed_gate_page c low;
    }

body_here : (count : ℕ) (page : List ℕ) (generation : ℕ) (root : List ℕ) → page ≡ body_page generation 4 root
    → generation < 2 → 4 ≤ count → length root ≤ 512 → AreBytes root → IsBody count page generation 4 root
body_here count page generation root is low room few bytes =
    record {
      is = record {
        bytes = is;
        fits = body-fits generation 4 root (omega arith) (omega arith) (omega arith) few bytes;
      };
      room = room;
    }

pub bodies_stand : (root : List ℕ) (c : Image) → length root ≤ 512 → AreBytes root → BothClosed c
    → BothClosed (put 3 (body_page 0 4 root) (put 2 (body_page 1 4 root) c)) × HasBodies root
    (put 3 (body_page 0 4 root) (put 2 (body_page 1 4 root) c))
bodies_stand root c few bytes closed =
    let one = body_page 1 4 root in
    let other = body_page 0 4 root in (
      record {
        first = λ e. closed.first (ap (λ (p : List ℕ). get_or p 0 0)
            (sym (others_of_pair 2 one other c closed.room 0 (λ e. absurd (omega arith)) (λ e. absurd (omega arith))))
            ∙ e);
        second = λ e. closed.second (ap (λ (p : List ℕ). get_or p 0 0)
            (sym (others_of_pair 2 one other c closed.room 1 (λ e. absurd (omega arith)) (λ e. absurd (omega arith))))
            ∙ e);
        room = omega (arith, length_pair 2 one other c closed.room);
      },
      record {
        first = body_here _ _ 1 root (first_of_pair 2 one other c closed.room) (omega arith)
            (length_pair 2 one other c closed.room) few bytes;
        second = body_here _ _ 0 root (second_of_pair 2 one other c closed.room) (omega arith)
            (length_pair 2 one other c closed.room) few bytes;
      },
    )

pub gates_opened : (root : List ℕ) (c : Image) → HasBodies root c → OpensAboveOlder (first_opening root)
    (put 1 open_gate_page (put 0 open_gate_page c))
gates_opened root c bodies =
    let low : 0 ≤ length c = omega arith in
    let grows = no_shorter_pair 0 open_gate_page open_gate_page c low in
    record {
      stands = record {
        which = omega arith;
        room = omega (arith, grows, bodies.first.room);
        gate = ap (λ (p : List ℕ). get_or p 0 0) (first_of_pair 0 open_gate_page open_gate_page c low) ∙ open_byte;
        body = body_moved _ _ _ _ _ _ _ (others_of_pair 0 open_gate_page open_gate_page c low 2
            (λ e. absurd (omega arith)) (λ e. absurd (omega arith))) grows bodies.first;
        pages = λ k lt. absurd (omega arith);
      };
      older = record {
        generation = 0;
        used = 4;
        root = root;
        body = body_moved _ _ _ _ _ _ _ (others_of_pair 0 open_gate_page open_gate_page c low 3
            (λ e. absurd (omega arith)) (λ e. absurd (omega arith))) grows bodies.second;
        lower = omega arith;
      };
    }
