-- The formats of proofs as chains of segments: what stands behind each segment is the rest of the next stage.
use Rattle.std.proofs.Common.{◌≡◌, ℕ, suc, ◌+◌, ◌-◌, ◌<◌, ◌≤◌, List, [], ◌∷◌, ◌++◌, length, replicate, refl, sym}
use Rattle.std.proofs.Common.{ap, ◌∙◌, append_assoc, arith}
use Rattle.std.specs.Prelude.{Bool, true, false, Option, Some, None, nat_lt, ◌==◌, if◌then◌else◌}
use Rattle.std.proofs.lemmas.Bool.{le-ltb, lt-ltb}
use Rattle.std.proofs.lemmas.List.{append-nil, length-replicate}
use Rattle.tw_base.specs.declared.events.event_part.EventPart.{EventPart}
use Rattle.tw_base.specs.declared.kinds.limits.TheConstants.{LAST_STEP, MOST_HOPS}
use Rattle.tw_base.specs.declared.history.thread.Entry.{Entry}
use Rattle.tw_base.specs.declared.history.thread.Thread.{Thread}
use Rattle.tw_base.specs.declared.history.tree_proof.Ancestor.{Ancestor}
use Rattle.tw_base.specs.declared.history.tree_proof.TreeProof.{TreeProof}
use Rattle.tw_base.specs.declared.history.tree_proof.TreeProof.TheVariants.{Present, Gap}
use Rattle.tw_base.specs.format.Codecs.{Codec, choose, counted, digest_codec, each, each_format, many, name_codec}
use Rattle.tw_base.specs.format.Codecs.{number_codec, optional, pair, text_codec}
use Rattle.tw_base.specs.history.EntryCodec.{entry_codec}
use Rattle.tw_base.specs.format.Formats.{Format, then_by}
use Rattle.tw_base.specs.format.Formats.Format.{Done}
use Rattle.tw_pieces.proofs.SegmentLaws.{then_absent, then_behind, then_each, then_kind, then_many}
use Rattle.tw_pieces.proofs.SegmentLaws.{then_none, then_pair, then_present, then_seen, then_variant}
use Rattle.tw_skipproof.specs.declared.existence.Part.{Part}
use Rattle.tw_skipproof.specs.declared.opening.Opening.{Opening}
use Rattle.tw_skipproof.specs.declared.path.Link.{Link}
use Rattle.tw_skipproof.specs.Codecs.{event_part_codec, existence_body, link_bytes, link_codec, opening_codec}
use Rattle.tw_skipproof.specs.Codecs.{part_codec, path_codec, proof_magic, step_number_codec}
use Rattle.tw_skipproof.specs.Paths.{greedy_steps, hop}
use Rattle.tw_skipproof.proofs.GreedySteps.{greedy_steps-more, greedy_steps-none}
use Rattle.tw_treeproof.specs.declared.limits.TheConstants.{MOST_ABOVE_ENTRY, MOST_ABOVE_PLACE}
use Rattle.tw_treeproof.specs.Codecs.{PresentParts, ancestor_codec, gap_codec, gap_of, parts_codec, parts_of}
use Rattle.tw_treeproof.specs.Codecs.{present_codec}
use Rattle.tw_verifier.specs.declared.chain.Chain.{Chain}
use Rattle.tw_verifier.specs.declared.judgement.Judgement.{Judgement}
use Rattle.tw_chain.specs.declared.proof.HopPart.{HopPart}
use Rattle.tw_chain.specs.declared.proof.PrecedenceProof.{PrecedenceProof}
use Rattle.tw_chain.specs.declared.proof.Proof.{Proof}
use Rattle.tw_chain.specs.declared.proof.Proof.TheVariants.{Exists, Precedes, Archived, Absent, Linked}
use Rattle.tw_chain.specs.declared.proof.Tail.{Tail}
use Rattle.tw_verifier.specs.Chaining.{behind_chain, chain_of, closed, with_hop}
use Rattle.tw_chain.specs.Checks.{last_hop_thread}
use Rattle.tw_verifier.specs.Judgements.{judged_layout}
use Rattle.tw_chain.specs.Proofs.{absence_body, absence_of, behind_codec, body_of_kind, existence_of, following}
use Rattle.tw_chain.specs.Proofs.{hop_bytes, hop_codec, hops_codec, key_codec, kind_codec, kinds_codec, last_step}
use Rattle.tw_chain.specs.Proofs.{link_body, link_of, precedence_body, precedence_of, proof_codec, proof_kind}
use Rattle.tw_chain.specs.Proofs.{tail_codec, thread_body, thread_proof_of}
use Rattle.tw_verifier.specs.Stages.{behind_absent, behind_archived, behind_before, behind_kind}
use Rattle.tw_verifier.specs.Stages.{behind_only, behind_second, behind_shown, counted_hops}
use Rattle.tw_verifier.specs.Stages.{event_stage, gap_head, head_stage, judged_stage, kind_head, link_head, link_stage}
use Rattle.tw_verifier.specs.Stages.{nodes_of, part_head, part_stage, path_of, present_head, tail_of, with_tree_nodes}
use Rattle.tw_verifier.proofs.ChainSteps.{closed-hop}
use Rattle.tw_verifier.proofs.HeadStep.{judgement-chain}

-- ---- what may be there or not

module _ {X Z : Type 0} where
  pub optional-some : (n : ℕ) (c : Codec X) (h : Option X → Format Z) → 0 < n → then_by (optional (nat_lt 0 n) c).format
      h ≡ then_by c.format (λ x. h (Some x))
  optional-some n c h some = ap (λ is. then_by (optional is c).format h) (lt-ltb 0 n some) ∙ then_present c h

  pub optional-none : (n : ℕ) (c : Codec X) (h : Option X → Format Z) → n ≤ 0 → then_by (optional (nat_lt 0 n) c).format
      h ≡ h None
  optional-none n c h none = ap (λ is. then_by (optional is c).format h) (le-ltb 0 n none) ∙ then_absent c h

-- ---- paths

module _ {Z : Type 0} (links : List Link) (at to : ℕ) (next : List Link → Format Z) where
  pub path-more : to < at → path_of links at to next ≡ then_by (link_codec at).format
      (λ l. path_of (links ++ l ∷ []) (hop at to) to next)
  path-more less =
      let more : List ℕ = greedy_steps (hop at to) to in
      ap (λ steps. then_by (each_format link_bytes link_codec steps) (λ ls. next (links ++ ls)))
      (greedy_steps-more at to less)
      ∙ then_each link_bytes link_codec at more (λ ls. next (links ++ ls))
      ∙ (λ k. then_by (link_codec at).format (λ l. then_by (each_format link_bytes link_codec more)
      (λ ls. next (sym (append_assoc links (l ∷ []) ls) k))))

  pub path-none : at ≤ to → path_of links at to next ≡ next links
  path-none none =
      ap (λ steps. then_by (each_format link_bytes link_codec steps) (λ ls. next (links ++ ls)))
      (greedy_steps-none at to none)
      ∙ ap next (append-nil links)

-- ---- parts

module _ {Z : Type 0} (least : ℕ) (h : Part → Format Z) where
  pub part-flat : then_by (part_codec least).format h ≡ head_stage least h
  unfolding part_codec part_head path_codec each
  part-flat =
      let to : (List ℕ × (ℕ × (ℕ × (List Link × Opening)))) → Part =
      λ t. record {
        service = t.0;
        step = t.1.0;
        top = t.1.1.0;
        path = record { links = t.1.1.1.0 };
        opening = t.1.1.1.1;
      } in
      let path_at = λ (step top : ℕ). pair (path_codec top step) (λ links. opening_codec least step) in
      let top_at = λ (step : ℕ). pair step_number_codec (path_at step) in
      let step_at = λ (service : List ℕ). pair step_number_codec top_at in
      let steps = λ (service : List ℕ). pair step_number_codec (λ step. step_number_codec) in
      let end = λ (t : List ℕ × (ℕ × ℕ)). part_stage least h t.0 t.1.0 t.1.1 in
      then_seen to _ (pair name_codec step_at) h
      ∙ then_pair name_codec step_at (λ t. h (to t))
      ∙ (λ k. then_by name_codec.format (λ service. (
      then_pair step_number_codec top_at (λ y. h (to (service, y)))
      ∙ (λ k. then_by step_number_codec.format (λ step. (
      then_pair step_number_codec (path_at step) (λ y. h (to (service, (step, y))))
      ∙ (λ k. then_by step_number_codec.format (λ top. then_pair (path_codec top step)
      (λ links. opening_codec least step) (λ y. h (to (service, (step, (top, y))))) k))) k))
      ∙ sym (then_pair step_number_codec (λ step. step_number_codec) (λ y. end (service, y)))) k))
      ∙ sym (then_pair name_codec steps end)

-- ---- tree proofs

module _ {Z : Type 0} where
  pub present-flat : (h : TreeProof → Format Z)
      → then_by present_codec.format h ≡ then_by present_head.format (λ t. then_by (many t.0 ancestor_codec).format
      (λ up. h (with_tree_nodes (Present t.1.0 t.1.1 []) up)))
  unfolding present_codec present_head
  present-flat h =
      let count = number_codec 1 0 MOST_ABOVE_ENTRY in
      let to : PresentParts → TreeProof = λ t. Present t.0 t.1.0 t.1.1 in
      let labels = λ (n : ℕ). pair digest_codec (λ left. digest_codec) in
      let end = λ (t : ℕ × (List ℕ × List ℕ)). then_by (many t.0 ancestor_codec).format
      (λ up. h (Present t.1.0 t.1.1 up)) in
      then_variant to parts_of _ h
      ∙ then_kind (λ (t : PresentParts). length t.1.1) count parts_codec (λ t. h (to t))
      ∙ (λ k. then_by count.format (λ n. (
      then_pair digest_codec (λ left. pair digest_codec (λ right. many n ancestor_codec)) (λ t. h (to t))
      ∙ (λ k. then_by digest_codec.format (λ left. then_pair digest_codec (λ right. many n ancestor_codec)
      (λ y. h (to (left, y))) k))
      ∙ sym (then_pair digest_codec (λ left. digest_codec) (λ y. end (n, y)))) k))
      ∙ sym (then_pair count labels end)

  pub gap-flat : (h : TreeProof → Format Z)
      → then_by gap_codec.format h ≡ then_by gap_head.format (λ n. then_by (many n ancestor_codec).format
      (λ up. h (with_tree_nodes (Gap []) up)))
  unfolding gap_codec gap_head counted
  gap-flat h =
      then_variant Gap gap_of _ h ∙ then_kind length (number_codec 1 0 MOST_ABOVE_PLACE) (λ n. many n ancestor_codec)
      (λ up. h (Gap up))

with-nodes : (shown : TreeProof) (a : Ancestor) (up : List Ancestor) → with_tree_nodes shown (a ∷ up) ≡ with_tree_nodes
    (with_tree_nodes shown (a ∷ [])) up
with-nodes (Present left right have) a up = ap (Present left right) (sym (append_assoc have (a ∷ []) up))
with-nodes (Gap have) a up = ap Gap (sym (append_assoc have (a ∷ []) up))

with-none : (shown : TreeProof) → with_tree_nodes shown [] ≡ shown
with-none (Present left right have) = ap (Present left right) (append-nil have)
with-none (Gap have) = ap Gap (append-nil have)

-- ---- bodies

module _ (dig : List ℕ → List ℕ) (anchors : List Thread) where
  abbrev judge : Proof → Format Judgement
  judge = judged_stage dig anchors

  nodes-one : (next : TreeProof → Format Judgement) (shown : TreeProof) (more : ℕ)
      → nodes_of dig anchors next shown (suc more) ≡ then_by ancestor_codec.format
      (λ a. nodes_of dig anchors next (with_tree_nodes shown (a ∷ [])) more)
  nodes-one next shown more =
      then_many more ancestor_codec (λ up. next (with_tree_nodes shown up))
      ∙ (λ k. then_by ancestor_codec.format (λ a. then_by (many more ancestor_codec).format
      (λ up. next (with-nodes shown a up k))))

  pub nodes-more : (next : TreeProof → Format Judgement) (shown : TreeProof) (more : ℕ) → 0 < more
      → nodes_of dig anchors next shown more ≡ then_by ancestor_codec.format
      (λ a. nodes_of dig anchors next (with_tree_nodes shown (a ∷ [])) (more - 1))
  nodes-more next shown more some =
      let is : more ≡ suc (more - 1) = omega (arith, some) in
      ap (nodes_of dig anchors next shown) is ∙ nodes-one next shown (more - 1)

  pub nodes-none : (next : TreeProof → Format Judgement) (shown : TreeProof) (more : ℕ) → more ≤ 0
      → nodes_of dig anchors next shown more ≡ next shown
  nodes-none next shown more none =
      let zero_more : more ≡ 0 = omega (arith, none) in
      ap (nodes_of dig anchors next shown) zero_more ∙ then_none ancestor_codec (λ up. next (with_tree_nodes shown up))
      ∙ ap next (with-none shown)

  existence-flat : then_by existence_body.format (λ p. judge (Exists p)) ≡ head_stage 1
      (event_stage (behind_only dig anchors))
  unfolding existence_body
  existence-flat =
      let events = λ (at : Part). event_part_codec at.opening.count in
      then_seen _ _ (pair (part_codec 1) events) (λ p. judge (Exists p))
      ∙ then_pair (part_codec 1) events (λ t. judge (Exists (record { at = t.0; event = t.1 })))
      ∙ part-flat 1 (event_stage (behind_only dig anchors))

  -- a step under a top, what is asked of its archive, and the tree proof
  answer-flat : {X : Type 0} (c : Codec X) (shown : Codec TreeProof) (make : Part → X → TreeProof → Proof)
      → then_by (pair (part_codec 0) (λ at. pair c (λ asked. shown))).format (λ t. judge (make t.0 t.1.0 t.1.1))
      ≡ head_stage 0 (λ at. then_by c.format (λ asked. then_by shown.format (λ s. judge (make at asked s))))
  answer-flat c shown make =
      then_pair (part_codec 0) (λ at. pair c (λ asked. shown)) (λ t. judge (make t.0 t.1.0 t.1.1))
      ∙ (λ k. then_by (part_codec 0).format (λ at. then_pair c (λ asked. shown) (λ y. judge (make at y.0 y.1)) k))
      ∙ part-flat 0 (λ at. then_by c.format (λ asked. then_by shown.format (λ s. judge (make at asked s))))

  thread-flat : then_by thread_body.format (λ p. judge (Archived p)) ≡ head_stage 0
      (λ at. then_by entry_codec.format (behind_archived dig anchors at))
  unfolding thread_body
  thread-flat =
      then_seen _ _ (pair (part_codec 0) (λ at. pair entry_codec (λ entry. present_codec))) (λ p. judge (Archived p))
      ∙ answer-flat entry_codec present_codec
      (λ at entry shown. Archived (record { at = at; entry = entry; shown = shown }))

  absence-flat : then_by absence_body.format (λ p. judge (Absent p)) ≡ head_stage 0
      (λ at. then_by key_codec.format (behind_absent dig anchors at))
  unfolding absence_body
  absence-flat =
      then_seen _ _ (pair (part_codec 0) (λ at. pair key_codec (λ key. gap_codec))) (λ p. judge (Absent p))
      ∙ answer-flat key_codec gap_codec (λ at key shown. Absent (record { at = at; key = key; shown = shown }))

  link-flat : then_by link_body.format (λ p. judge (Linked p)) ≡ link_stage dig anchors
  unfolding link_body link_head path_codec each
  link-flat =
      let zero_step = number_codec 8 0 LAST_STEP in
      let links_at = λ (step top : ℕ) (auth : List ℕ). path_codec top step in
      let auth_at = λ (step top : ℕ). pair digest_codec (links_at step top) in
      let top_at = λ (step : ℕ). pair step_number_codec (auth_at step) in
      let step_at = λ (service : List ℕ). pair zero_step top_at in
      let h = λ (t : List ℕ × (ℕ × (ℕ × (List ℕ × List Link)))). judge
      (Linked (record
      { service = t.0; step = t.1.0; top = t.1.1.0; auth = t.1.1.1.0; path = record { links = t.1.1.1.1 } })) in
      let auth_only = λ (top : ℕ). digest_codec in
      let top_only = λ (step : ℕ). pair step_number_codec auth_only in
      let step_only = λ (service : List ℕ). pair zero_step top_only in
      let end = λ (t : List ℕ × (ℕ × (ℕ × List ℕ))). path_of [] t.1.1.0 t.1.0
      (λ links. h (t.0, (t.1.0, (t.1.1.0, (t.1.1.1, links))))) in
      then_seen _ _ (pair name_codec step_at) (λ p. judge (Linked p))
      ∙ then_pair name_codec step_at h
      ∙ (λ k. then_by name_codec.format (λ service. (
      then_pair zero_step top_at (λ y. h (service, y))
      ∙ (λ k. then_by zero_step.format (λ step. (
      then_pair step_number_codec (auth_at step) (λ y. h (service, (step, y)))
      ∙ (λ k. then_by step_number_codec.format (λ top. then_pair digest_codec (links_at step top)
      (λ y. h (service, (step, (top, y)))) k))
      ∙ sym (then_pair step_number_codec auth_only (λ y. end (service, (step, y))))) k))
      ∙ sym (then_pair zero_step top_only (λ y. end (service, y)))) k))
      ∙ sym (then_pair name_codec step_only end)

  abbrev proof : Part → EventPart → Option Opening → List HopPart → Tail → Format Judgement
  proof head e before hops tail =
      judge (Precedes (record { head = head; event = e; before = before; hops = hops; tail = tail }))

  hops-flat : (n : ℕ) → then_by (hops_codec n).format (λ p. judge (Precedes p)) ≡ head_stage 1
      (event_stage (behind_second dig anchors n))
  unfolding hops_codec behind_codec
  hops-flat n =
      let opening = λ (head : Part). optional (nat_lt 0 n) (opening_codec 0 (head.step - 1)) in
      let list = each hop_bytes hop_codec (following n) in
      let tail = λ (head : Part) (hops : List HopPart). tail_codec (last_step (head.step - 1) hops) in
      let rest = λ (head : Part) (before : Option Opening). pair list (tail head) in
      let behind = λ (head : Part) (e : EventPart). pair (opening head) (rest head) in
      let event = λ (head : Part). pair (event_part_codec head.opening.count) (behind head) in
      then_seen _ _ (pair (part_codec 1) event) (λ p. judge (Precedes p))
      ∙ then_pair (part_codec 1) event (λ t. proof t.0 t.1.0 t.1.1.0 t.1.1.1.0 t.1.1.1.1)
      ∙ (λ k. then_by (part_codec 1).format (λ head. (
      then_pair (event_part_codec head.opening.count) (behind head) (λ y. proof head y.0 y.1.0 y.1.1.0 y.1.1.1)
      ∙ (λ k. then_by (event_part_codec head.opening.count).format (λ e. (
      then_pair (opening head) (rest head) (λ y. proof head e y.0 y.1.0 y.1.1)
      ∙ (λ k. then_by (opening head).format (λ before. then_pair list (tail head) (λ y. proof head e before y.0 y.1)
      k))) k))) k))
      ∙ part-flat 1 (event_stage (behind_second dig anchors n))

  precedence-flat : then_by precedence_body.format (λ p. judge (Precedes p)) ≡ counted_hops dig anchors
  unfolding precedence_body hops_codec behind_codec
  precedence-flat =
      then_kind (λ p. length p.hops) (number_codec 1 0 MOST_HOPS) hops_codec (λ p. judge (Precedes p))
      ∙ (λ k. then_by (number_codec 1 0 MOST_HOPS).format (λ n. hops-flat n k))

  chosen : (b : Bool) (one other : Codec Proof) (f g : Format Judgement) → then_by one.format judge ≡ f
      → then_by other.format judge ≡ g
      → then_by (choose b one other).format judge ≡ (if b then f else g)
  chosen true one other f g e d = e
  chosen false one other f g e d = d

  bodies : (kind : ℕ) → then_by (body_of_kind kind).format judge ≡ behind_kind dig anchors kind
  bodies kind =
      chosen (kind == 1) _ _ _ _ (then_variant Exists existence_of existence_body judge ∙ existence-flat)
      (chosen (kind == 2) _ _ _ _ (then_variant Precedes precedence_of precedence_body judge ∙ precedence-flat)
      (chosen (kind == 3) _ _ _ _ (then_variant Archived thread_proof_of thread_body judge ∙ thread-flat)
      (chosen (kind == 4) _ _ _ _ (then_variant Absent absence_of absence_body judge ∙ absence-flat)
      (then_variant Linked link_of link_body judge ∙ link-flat))))

  -- the words of proofs begin with the magic and the kind
  pub begun : judged_layout dig anchors ≡ then_by kind_head.format (behind_kind dig anchors)
  unfolding judged_layout proof_codec kinds_codec kind_head
  begun =
      then_behind proof_magic kinds_codec judge
      ∙ (λ k. then_by (text_codec proof_magic).format (λ t. (
      then_kind proof_kind kind_codec body_of_kind judge
      ∙ (λ k. then_by kind_codec.format (λ kind. bodies kind k))) k))
      ∙ sym (then_behind proof_magic kind_codec (behind_kind dig anchors))

  -- ---- chains

  tail-flat : (c : Chain) → then_by (tail_codec c.known.step).format (λ tail. Done (closed dig anchors c [] tail))
      ≡ tail_of dig anchors c
  unfolding tail_codec path_codec each
  tail-flat c =
      let event = λ (step : ℕ) (opening : Opening). event_part_codec opening.count in
      let opening = λ (step : ℕ) (links : List Link). pair (opening_codec 1 step) (event step) in
      let links = λ (step : ℕ). pair (path_codec c.known.step step) (opening step) in
      let h = λ (t : ℕ × (List Link × (Opening × EventPart))). Done
      (closed dig anchors c []
      (record { step = t.0; path = record { links = t.1.0 }; opening = t.1.1.0; event = t.1.1.1 })) in
      then_seen _ _ (pair step_number_codec links) (λ tail. Done (closed dig anchors c [] tail))
      ∙ then_pair step_number_codec links h
      ∙ (λ k. then_by step_number_codec.format (λ step. (
      then_pair (path_codec c.known.step step) (opening step) (λ y. h (step, y))
      ∙ (λ k. then_by (path_codec c.known.step step).format (λ ls. then_pair (opening_codec 1 step) (event step)
      (λ y. h (step, (ls, y))) k))) k))

  abbrev behind_hops : Chain → List HopPart → Format Judgement
  behind_hops c hops = then_by (tail_codec (last_hop_thread c.known hops).step).format
      (λ tail. Done (closed dig anchors c hops tail))

  -- where no hop follows, the first event does
  pub chain-tail : (c : Chain) → c.more ≤ 0 → behind_chain dig anchors c ≡ tail_of dig anchors c
  unfolding behind_chain
  chain-tail c none =
      let zero_more : c.more ≡ 0 = omega (arith, none) in
      ap (λ n. then_by (each_format hop_bytes hop_codec (following n)) (behind_hops c)) zero_more ∙ tail-flat c

  chain-hop : (c : Chain) (more : ℕ) → c.more ≡ suc more → behind_chain dig anchors c ≡ then_by (hop_codec more).format
      (λ hop. behind_chain dig anchors (with_hop dig anchors c hop more))
  unfolding behind_chain
  chain-hop c more is =
      ap (λ n. then_by (each_format hop_bytes hop_codec (following n)) (behind_hops c)) is
      ∙ then_each hop_bytes hop_codec more (following more) (behind_hops c)
      ∙ (λ k. then_by (hop_codec more).format (λ hop. then_by (each_format hop_bytes hop_codec (following more))
      (λ hops.
      then_by (tail_codec (last_hop_thread hop.entry.thread hops).step).format
      (λ tail. Done (closed-hop dig anchors c hop hops tail more k)))))

  hop-flat : (more : ℕ) (h : HopPart → Format Judgement) → then_by (hop_codec more).format h
      ≡ then_by entry_codec.format (λ entry. then_by present_codec.format
      (λ shown. then_by (number_codec 8 0 LAST_STEP).format (λ bind. path_of [] bind entry.thread.step (λ links.
      then_by (optional (nat_lt 0 more) (opening_codec 0 entry.thread.step)).format (λ o.
      h (record { entry = entry; shown = shown; bind = bind; link = record { links = links }; opening = o }))))))
  unfolding hop_codec path_codec each
  hop-flat more h =
      let last = λ (entry : Entry) (links : List Link). optional (nat_lt 0 more) (opening_codec 0 entry.thread.step) in
      let path = λ (entry : Entry) (bind : ℕ). pair (path_codec bind entry.thread.step) (last entry) in
      let bind = λ (entry : Entry) (shown : TreeProof). pair (number_codec 8 0 LAST_STEP) (path entry) in
      let tree = λ (entry : Entry). pair present_codec (bind entry) in
      let g = λ (t : Entry × (TreeProof × (ℕ × (List Link × Option Opening)))). h
      (record { entry = t.0; shown = t.1.0; bind = t.1.1.0; link = record { links = t.1.1.1.0 }; opening = t.1.1.1.1 })
      in
      then_seen _ _ (pair entry_codec tree) h
      ∙ then_pair entry_codec tree g
      ∙ (λ k. then_by entry_codec.format (λ entry. (
      then_pair present_codec (bind entry) (λ y. g (entry, y))
      ∙ (λ k. then_by present_codec.format (λ shown. (
      then_pair (number_codec 8 0 LAST_STEP) (path entry) (λ y. g (entry, (shown, y)))
      ∙ (λ k. then_by (number_codec 8 0 LAST_STEP).format (λ b. then_pair (path_codec b entry.thread.step) (last entry)
      (λ y. g (entry, (shown, (b, y)))) k))) k))) k))

  -- where a hop follows, its entry does
  pub chain-entry : (c : Chain) → 0 < c.more → behind_chain dig anchors c ≡ then_by entry_codec.format
      (λ entry. then_by present_codec.format (behind_shown dig anchors c entry))
  chain-entry c some =
      let more : ℕ = c.more - 1 in
      let is : c.more ≡ suc (c.more - 1) = omega (arith, some) in
      chain-hop c more is ∙ hop-flat more (λ hop. behind_chain dig anchors (with_hop dig anchors c hop more))

  last-step : (t : Thread) (hops : List HopPart) → last_step t.step hops ≡ (last_hop_thread t hops).step
  last-step t [] = refl
  last-step t (hop ∷ hops) = last-step hop.entry.thread hops

  module _ (head : Part) (e : EventPart) (before : Option Opening) where
    abbrev proof_of : List HopPart → Tail → PrecedenceProof
    proof_of hops tail = record { head = head; event = e; before = before; hops = hops; tail = tail }

    second-begins : (hops : List HopPart) (tail : Tail) → behind_before dig anchors head e (length hops) before
        ≡ behind_chain dig anchors (chain_of dig anchors (proof_of hops tail))
    unfolding behind_chain each
    second-begins hops tail =
        let start : Thread = (chain_of dig anchors (proof_of hops tail)).known in
        λ k. then_by (each_format hop_bytes hop_codec (following (length hops)))
        (λ list. then_by (tail_codec (last-step start list k)).format
        (λ t. Done (judgement-chain dig anchors (proof_of list t) k)))

-- ---- the chain that stands behind the second event

any-tail : Tail
any-tail = record {
  step = 0;
  path = record { links = [] };
  opening = record { event_root = []; archive_root = []; count = 0; time = None; prev = []; others = [] };
  event = record { index = 0; event = []; path = [] };
}

any-hop : HopPart
any-hop = record {
  entry = record { thread = record { from = []; step = 0; auth = [] }; archived = 0 };
  shown = Gap [];
  bind = 0;
  link = record { links = [] };
  opening = None;
}

module _ (dig : List ℕ → List ℕ) (anchors : List Thread) (c : Chain) (head : Part) (e : EventPart) (hops : ℕ)
    (before : Option Opening)
    (is : (list : List HopPart) (tail : Tail) → length list ≡ hops → c ≡ chain_of dig anchors
    (proof_of dig anchors head e before list tail)) where
  abbrev list : List HopPart
  list = replicate hops any-hop

  size : length list ≡ hops
  size = length-replicate {A = HopPart} hops any-hop

  begun-is : c ≡ chain_of dig anchors (proof_of dig anchors head e before list any-tail)
  begun-is = is list any-tail size

  pub begun-fits : hops ≤ MOST_HOPS → head.step ≤ LAST_STEP → (c.part + c.more ≤ 65) × (c.known.step ≤ LAST_STEP)
  begun-fits few within = (
    omega (arith, few, size, ap (λ (d : Chain). d.part) begun-is, ap (λ (d : Chain). d.more) begun-is),
    omega (arith, within, ap (λ (d : Chain). d.known.step) begun-is),
  )

  pub begun-rest : behind_chain dig anchors c ≡ behind_before dig anchors head e hops before
  begun-rest =
      ap (behind_chain dig anchors) begun-is ∙ sym (second-begins dig anchors head e before list any-tail)
      ∙ ap (λ n. behind_before dig anchors head e n before) size
