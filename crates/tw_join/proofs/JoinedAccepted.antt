-- A proof that parts join to, which the services of a sound family made, is accepted under the family's anchors.
use Rattle.std.proofs.Common.{◌≡◌, ℕ, suc, ◌-◌, ◌<◌, List, [], ◌∷◌, ◌++◌, length, refl, sym, ap, ◌∙◌, subst, arith}
use Rattle.std.specs.Prelude.{Bool, true, false, Option, Some, None, IfSome, ◌==◌, if◌then◌else◌}
use Rattle.std.specs.List.{flat_map}
use Rattle.std.proofs.lemmas.List.{append_assoc}
use Rattle.tw_base.specs.declared.history.thread.Entry.{Entry}
use Rattle.tw_base.specs.declared.history.thread.Key.{Key}
use Rattle.tw_base.specs.declared.history.thread.Thread.{Thread}
use Rattle.tw_base.specs.declared.history.tree_proof.Ask.TheVariants as ask
use Rattle.tw_base.specs.history.Anchors.{anchor_of}
use Rattle.tw_base.specs.history.Auth.{auth}
use Rattle.tw_base.specs.history.Family.{AllSound, HasHistory, HasThread, history_of}
use Rattle.tw_base.specs.history.History.{History, entry_at}
use Rattle.tw_base.specs.kinds.Lists.{Each}
use Rattle.tw_base.proofs.lemmas.history.Anchoring.{anchor_of-is}
use Rattle.tw_base.proofs.lemmas.history.Families.{sound_of}
use Rattle.tw_base.proofs.lemmas.kinds.ListLemmas.{Each-append, Each-parts}
use Rattle.tw_skipproof.specs.declared.existence.ExistenceProof.{ExistenceProof}
use Rattle.tw_skipproof.specs.declared.opening.Opening.{Opening}
use Rattle.tw_skipproof.specs.Acceptance.{Reaches}
use Rattle.tw_skipproof.specs.Openings.{IsOpeningAt, opening_auth}
use Rattle.tw_skipproof.proofs.ExistenceOf.{accepted-made}
use Rattle.tw_skipproof.proofs.OwnPaths.{opening-of}
use Rattle.tw_chain.specs.declared.proof.HopPart.{HopPart}
use Rattle.tw_chain.specs.declared.proof.LinkProof.{LinkProof}
use Rattle.tw_chain.specs.declared.proof.PrecedenceProof.{PrecedenceProof}
use Rattle.tw_chain.specs.declared.proof.Proof.{Proof}
use Rattle.tw_chain.specs.declared.proof.Proof.TheVariants.{Exists, Precedes, Archived, Linked}
use Rattle.tw_chain.specs.declared.proof.Tail.{Tail}
use Rattle.tw_chain.specs.declared.proof.ThreadProof.{ThreadProof}
use Rattle.tw_chain.specs.Accepting.{IsAccepted}
use Rattle.tw_chain.specs.Checks.{Check, bind_checks, bind_of, checks, end_of_order, hops_checks, link_checks, link_top}
use Rattle.tw_chain.specs.Checks.{opening_checks, opening_root, start_of, tail_at, tail_checks, top_of, under_anchor}
use Rattle.tw_chain.specs.Checks.Check.{AnswerOf, CarriesThread, EventOf, InOrder}
use Rattle.tw_join.specs.Joining.{Joint, hop_of, hops_before, joined_of, wanted}
use Rattle.tw_join.specs.OwnParts.{HopOfPartStands, IsMade, JoinedIsAccepted}
use Rattle.tw_chain.specs.Passing.{Passes, anchor_at, needed_by}
use Rattle.tw_chain.proofs.Completeness.{entry-shown, from_1_of_entry, own-accepted}
use Rattle.tw_join.proofs.JoinedHops.{come_to, last-thread}
use Rattle.tw_join.proofs.JoinedParts.{JointFits, JointsFit, LinkFits, WholeFits, joined-fits}

pub each-both : (P Q : Proof → Type 0) (parts : List Proof) → Each P parts → Each Q parts
    → Each (λ part. P part × Q part) parts
each-both P Q [] ps qs = tt
each-both P Q (part ∷ parts) ps qs = ((ps.0, qs.0), each-both P Q parts ps.1 qs.1)

each-flat_map : (P : Key → Type 0) (cs : List Check) → Each P (flat_map needed_by cs) → Each (λ c. Each P (needed_by c))
    cs
each-flat_map P [] all = tt
each-flat_map P (c ∷ cs) all = let both = Each-parts P (needed_by c) (flat_map needed_by cs) all in
    (both.0, each-flat_map P cs both.1)

module _ (dig : List ℕ → List ℕ) (family : List History) (sound : AllSound family) where
  -- a service made the part, and the hop that it shows stands
  abbrev OwnPart : Proof → Type 0
  OwnPart part = IsMade dig family part × HopOfPartStands dig family part

  same_history : (a b : List ℕ) (g h : History) → HasHistory family a g → HasHistory family b h → a ≡ b → g ≡ h
  same_history a b g h one other same =
      let e : Some g ≡ Some h = sym one ∙ ap (history_of family) same ∙ other in cc

  -- ---- threads that the family has

  -- that of an entry
  entry-thread : (t : ThreadProof) → OwnPart (Archived t) → HasThread dig family t.entry.thread
  entry-thread t own =
      let made = own.0 in
      let hop = own.1 in
      let same : made.history ≡ hop.archive = same_history made.history.name t.at.service made.history hop.archive
      made.has hop.has_archive (sym made.own.at.service) in
      let thread : Thread =
      record { from = t.entry.thread.from; step = t.entry.thread.step; auth = auth dig hop.source t.entry.thread.step }
      in
      let both : Some t.entry ≡ Some (record { thread = thread; archived = t.entry.archived }) =
      sym made.own.received ∙ ap (λ h. entry_at h t.entry.archived) same ∙ hop.received in
      let entry : t.entry ≡ record { thread = thread; archived = t.entry.archived } = cc in
      (hop.source, hop.has_source, hop.within, sym (ap (λ (e : Entry). e.thread.auth) entry))

  -- that of the step before an event's
  start-thread : (p : ExistenceProof) → OwnPart (Exists p)
      → HasThread dig family (record { from = p.at.service; step = p.at.step - 1; auth = p.at.opening.prev })
  start-thread p own =
      let made = own.0 in
      let at = made.own.1.at in (
        made.history,
        subst (λ name. HasHistory family name made.history) (sym at.service) made.has,
        omega (arith, at.at_step, made.order, made.within),
        ap (λ s. auth dig made.history (s - 1)) at.at_step ∙ at.opening.binds.prev,
      )

  -- ---- an opening, and the first event, under such a thread

  opens : (n : ℕ) (t : Thread) (p : ThreadProof) → HasThread dig family t → OwnPart (Archived p) → t.from ≡ p.at.service
      → t.step ≡ p.at.step
      → (anchors : List Thread) → Each (Passes dig anchors) (opening_checks n t (Some p.at.opening))
  opens n t p has own service step anchors =
      let made = own.0 in
      let is = made.own in
      let h = made.history in
      let o : Opening = p.at.opening in
      let from_1 : 0 < made.step = omega (arith, from_1_of_entry h p.entry.archived p.entry is.received, is.before) in
      let same : has.0 ≡ h = same_history t.from h.name has.0 h has.1 made.has (service ∙ is.at.service) in
      let at : t.step ≡ made.step = step ∙ is.at.at_step in
      let here = opening-of dig h made.step o from_1 is.at.opening in
      let opened : opening_auth dig t.step o ≡ t.auth =
      ap (λ s. opening_auth dig s o) at ∙ here.1 ∙ ap (auth dig h) (sym at) ∙ ap (λ g. auth dig g t.step) (sym same)
      ∙ has.3 in
      (omega (arith, at, from_1), ((subst (λ s. IsOpeningAt s o) (sym at) here.0, opened), tt))

  first-passes : (n : ℕ) (t : Thread) (p : ExistenceProof) → HasThread dig family t → OwnPart (Exists p)
      → t.from ≡ p.at.service → t.step ≡ p.at.top
      → (anchors : List Thread)
      → Each (Passes dig anchors)
      (tail_checks n t (record { step = p.at.step; path = p.at.path; opening = p.at.opening; event = p.event }))
  first-passes n t p has own service top anchors =
      let made = own.0 in
      let is = made.own.1 in
      let h = made.history in
      let same : has.0 ≡ h = same_history t.from h.name has.0 h has.1 made.has (service ∙ is.at.service) in
      let at : t.step ≡ made.top = top ∙ is.at.at_top in
      let passes = accepted-made dig h made.step made.own.0 made.top p is made.order in
      let upper : auth dig h made.top ≡ t.auth = ap (auth dig h) (sym at) ∙ ap (λ g. auth dig g t.step) (sym same)
      ∙ has.3 in
      let tail : Tail = record { step = p.at.step; path = p.at.path; opening = p.at.opening; event = p.event } in
      let part : p.at ≡ tail_at t tail =
      (λ k. record {
        service = sym service k;
        step = p.at.step;
        top = sym top k;
        path = p.at.path;
        opening = p.at.opening;
      }) in
      let reaches : Reaches dig (tail_at t tail) t.auth = subst (λ a. Reaches dig a t.auth) part
      (subst (Reaches dig p.at) upper passes.path) in
      (omega (arith, passes.order, top), (reaches, (passes.event, tt)))

  -- ---- under the anchors that the family has

  module _ (anchors : List Thread) where
    abbrev Anchored : Key → Type 0
    Anchored key = (anchor : Thread) × (anchor_at anchors key ≡ Some anchor) × HasThread dig family anchor

    -- a part that was made is accepted under the anchor of its top
    part-accepted : (part : Proof) (made : IsMade dig family part) (key : Key) → key.from ≡ made.history.name
        → key.step ≡ made.top → Anchored key → IsAccepted dig anchors part
    part-accepted part made key from step has =
        let h = made.history in
        let anchor : Thread = has.0 in
        let at = anchor_of-is anchors key.from key.step anchor has.1 in
        let thread = has.2 in
        let same : thread.0 ≡ h = same_history anchor.from h.name thread.0 h thread.1 made.has (at.0 ∙ from) in
        let held : anchor_of anchors h.name made.top ≡ Some anchor = (λ k. anchor_of anchors (sym from k) (sym step k))
        ∙ has.1 in
        let reached : anchor.auth ≡ auth dig h made.top =
        sym thread.3 ∙ ap (λ g. auth dig g anchor.step) same ∙ ap (auth dig h) (at.1 ∙ step) in
        own-accepted dig h made.step made.top made.order anchors anchor held reached
        (sound_of family h.name h sound made.has) made.within part made.own

    -- each of the checks passes where the anchors are held that they need
    abbrev Hold : List Check → Type 0
    Hold cs = Each (λ c. Each Anchored (needed_by c)) cs → Each (Passes dig anchors) cs

    both-hold : (xs ys : List Check) → Hold xs → Hold ys → Hold (xs ++ ys)
    both-hold xs ys first second needed =
        let both = Each-parts (λ c. Each Anchored (needed_by c)) xs ys needed in
        Each-append (Passes dig anchors) xs ys (first both.0) (second both.1)

    -- ---- a hop

    link-holds : (n : ℕ) (l : LinkProof) → OwnPart (Linked l) → Hold (link_checks n l)
    link-holds n l own needed =
        let accepted = part-accepted (Linked l) own.0 (link_top l) own.0.own.service own.0.own.at_top needed.1.0.0 in
        (accepted.0, (accepted.1.0, (accepted.1.1.0, tt)))

    bind-holds : (n : ℕ) (t : ThreadProof) (link : Option LinkProof) (behind : Option Opening)
        → IfSome link (LinkFits OwnPart t.entry.thread)
        → Hold (bind_checks n (hop_of (record { thread = t; link = link }) behind))
    bind-holds n t None behind fits = (λ needed. (tt, tt))
    bind-holds n t (Some l) behind fits = by (l.top == 0)
      where
        is : l ≡ bind_of (hop_of (record { thread = t; link = Some l }) behind)
        is = (λ k.
            record {
              service = sym fits.from k;
              step = sym fits.step k;
              top = l.top;
              auth = sym fits.auth k;
              path = l.path;
            })

        by : (b : Bool) → Hold (if b then CarriesThread t.entry.thread ∷ [] else link_checks n
            (bind_of (hop_of (record { thread = t; link = Some l }) behind)))
        by true = (λ needed. (tt, tt))
        by false = subst (λ m. Hold (link_checks n m)) is (link-holds n l fits.part)

    -- the opening behind a thread, and the hops from there
    abbrev Behind : Thread → Option Opening → List HopPart → Type 0
    Behind t before hops = (n : ℕ) → Hold (opening_checks n t before ++ hops_checks (suc n) t.step (opening_root before)
        hops)

    hop-holds : (t : Thread) (joint : Joint) (before : Option Opening) (hops : List HopPart) → HasThread dig family t
        → JointFits OwnPart (record { from = t.from; step = t.step }) joint → Behind joint.thread.entry.thread before
        hops
        → Behind t (Some joint.thread.at.opening) (hop_of joint before ∷ hops)
    hop-holds t joint before hops has fits behind n =
        let p : ThreadProof = joint.thread in
        let hop : HopPart = hop_of joint before in
        let made = fits.part.0 in
        let bind : List Check = bind_checks (suc n) hop in
        let opening : List Check = opening_checks (suc n) p.entry.thread before in
        let onward : List Check = hops_checks (suc (suc n)) p.entry.thread.step (opening_root before) hops in
        let answer : List Check = InOrder p.entry.archived t.step ∷ AnswerOf (suc n) p.at.opening.archive_root
        (ask.Present p.entry) p.shown ∷ [] in
        let shown = entry-shown dig made.history made.step made.top (sound_of family made.history.name made.history
        sound made.has) (omega (arith, made.order, made.within)) p made.own in
        let answers : Hold answer = (λ needed. (omega (arith, shown.0, fits.step), (shown.1, tt))) in
        let rest : Hold ((bind ++ opening) ++ onward) =
        subst Hold (sym (append_assoc bind opening onward))
        (both-hold bind (opening ++ onward) (bind-holds (suc n) p joint.link before fits.link) (behind (suc n))) in
        both-hold (opening_checks n t (Some p.at.opening)) (answer ++ ((bind ++ opening) ++ onward))
        (λ needed. opens n t p has fits.part fits.service fits.step anchors)
        (both-hold answer ((bind ++ opening) ++ onward) answers rest)

    -- ---- all hops

    module _ (second : ExistenceProof) (own : OwnPart (Exists second)) where
      abbrev start : Thread
      start = record { from = second.at.service; step = second.at.step - 1; auth = second.at.opening.prev }

      come_to-thread : (joints : List Joint) → JointsFit OwnPart second joints → HasThread dig family
          (come_to start joints)
      come_to-thread [] fits = start-thread second own
      come_to-thread (joint ∷ joints) fits = entry-thread joint.thread fits.0.part

      come_to-key : (joints : List Joint) → wanted second joints
          ≡ record { from = (come_to start joints).from; step = (come_to start joints).step }
      come_to-key [] = refl
      come_to-key (joint ∷ joints) = refl

      hops-hold : (joints : List Joint) (before : Option Opening) (hops : List HopPart) → JointsFit OwnPart second
          joints → Behind (come_to start joints) before hops
          → let all = hops_before joints before hops in Behind start all.0 all.1
      hops-hold [] before hops fits behind = behind
      hops-hold (joint ∷ joints) before hops fits behind =
          hops-hold joints (Some joint.thread.at.opening) (hop_of joint before ∷ hops) fits.2
          (hop-holds (come_to start joints) joint before hops (come_to-thread joints fits.2)
          (subst (λ key. JointFits OwnPart key joint) (come_to-key joints) fits.0) behind)

    -- ---- the whole

    second-holds : (p : ExistenceProof) → OwnPart (Exists p)
        → Hold (under_anchor 0 p.at ++ EventOf 0 p.at.opening p.event ∷ [])
    second-holds p own needed = part-accepted (Exists p) own.0 (top_of p.at) own.0.own.1.at.service
        own.0.own.1.at.at_top needed.1.0.0

    whole-holds : (second : ExistenceProof) (joints : List Joint) (first : ExistenceProof) → WholeFits OwnPart second
        joints first
        → Hold (checks (Precedes (joined_of second joints first)))
    whole-holds second joints first fits =
        let p : PrecedenceProof = joined_of second joints first in
        let own = fits.second_part in
        let opening : List Check = opening_checks 0 (start_of p) p.before in
        let onward : List Check = hops_checks 1 (start_of p).step (opening_root p.before) p.hops in
        let n : ℕ = suc (length p.hops) in
        let key = come_to-key second own joints in
        let last : Thread = come_to (start_of p) joints in
        let tail : Hold (tail_checks n (end_of_order p) p.tail) =
        subst (λ t. Hold (tail_checks n t p.tail)) (sym (last-thread (start_of p) joints None []))
        (λ needed. first-passes n last first (come_to-thread second own joints fits.joints_fit) fits.first_part
        (sym (ap (λ (k : Key). k.from) key) ∙ fits.service) (sym (ap (λ (k : Key). k.step) key) ∙ fits.top) anchors) in
        let hops : Hold (opening ++ onward) = hops-hold second own joints None [] fits.joints_fit (λ m needed. tt) 0 in
        both-hold (under_anchor 0 second.at ++ EventOf 0 second.at.opening second.event ∷ [])
        (opening ++ (onward ++ tail_checks n (end_of_order p) p.tail)) (second-holds second own)
        (subst Hold (append_assoc opening onward (tail_checks n (end_of_order p) p.tail))
        (both-hold (opening ++ onward) (tail_checks n (end_of_order p) p.tail) hops tail))

pub joined-accepted : (dig : List ℕ → List ℕ) → JoinedIsAccepted dig
joined-accepted dig family parts p anchors sound made stand is anchored =
    let all = each-both (IsMade dig family) (HopOfPartStands dig family) parts made stand in
    let had = joined-fits (OwnPart dig family sound) parts p all is in
    let whole = whole-holds dig family sound anchors had.second had.joints had.first had.fits in
    subst (λ (q : PrecedenceProof). Hold dig family sound anchors (checks (Precedes q))) (sym had.is) whole
    (each-flat_map (Anchored dig family sound anchors) (checks (Precedes p)) anchored)
