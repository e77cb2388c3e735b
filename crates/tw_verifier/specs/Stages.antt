-- What may follow what a verifier in pieces has taken of a proof, each word with its judgement: a segment, and what stands behind it.
use Rattle.std.specs.Prelude.{ℕ, ◌-◌, ◌==◌, List, [], ◌∷◌, ◌++◌, Bool, nat_lt, Option, Some, None, if◌then◌else◌}
use Rattle.tw_base.specs.declared.kinds.limits.TheConstants.{LAST_STEP, MOST_HOPS}
use Rattle.tw_base.specs.declared.events.event_part.EventPart.{EventPart}
use Rattle.tw_base.specs.declared.history.thread.Entry.{Entry}
use Rattle.tw_base.specs.declared.history.thread.Key.{Key}
use Rattle.tw_base.specs.declared.history.thread.Thread.{Thread}
use Rattle.tw_base.specs.declared.history.tree_proof.Ancestor.{Ancestor}
use Rattle.tw_base.specs.declared.history.tree_proof.TreeProof.{TreeProof}
use Rattle.tw_base.specs.declared.history.tree_proof.TreeProof.TheVariants.{Present, Gap}
use Rattle.tw_base.specs.format.Codecs.{Codec, behind, digest_codec, each, each_format, many, name_codec, number_codec, optional, pair}
use Rattle.tw_base.specs.format.Formats.{Format, then_by}
use Rattle.tw_base.specs.format.Formats.Format.{Done as End}
use Rattle.tw_base.specs.history.EntryCodec.{entry_codec}
use Rattle.tw_skipproof.specs.declared.existence.Part.{Part}
use Rattle.tw_skipproof.specs.declared.opening.Opening.{Opening}
use Rattle.tw_skipproof.specs.declared.path.Link.{Link}
use Rattle.tw_skipproof.specs.Codecs.{event_part_codec, link_bytes, link_codec, opening_codec, proof_magic, step_number_codec}
use Rattle.tw_skipproof.specs.Paths.{greedy_steps, hop}
use Rattle.tw_treeproof.specs.declared.limits.TheConstants.{MOST_ABOVE_ENTRY, MOST_ABOVE_PLACE}
use Rattle.tw_treeproof.specs.Codecs.{ancestor_codec, gap_codec, present_codec}
use Rattle.tw_verifier.specs.declared.chain.Chain.{Chain}
use Rattle.tw_verifier.specs.declared.judgement.Judgement.{Judgement}
use Rattle.tw_chain.specs.declared.proof.HopPart.{HopPart}
use Rattle.tw_chain.specs.declared.proof.PrecedenceProof.{PrecedenceProof}
use Rattle.tw_chain.specs.declared.proof.Proof.{Proof}
use Rattle.tw_chain.specs.declared.proof.Proof.TheVariants as proofs
use Rattle.tw_verifier.specs.declared.stage.Asked.{Asked}
use Rattle.tw_verifier.specs.declared.stage.Asked.TheVariants as asked
use Rattle.tw_verifier.specs.declared.stage.Goal.{Goal}
use Rattle.tw_verifier.specs.declared.stage.Goal.TheVariants as goal
use Rattle.tw_verifier.specs.declared.stage.Opens.{Opens}
use Rattle.tw_verifier.specs.declared.stage.Opens.TheVariants as opens
use Rattle.tw_verifier.specs.declared.stage.Role.{Role}
use Rattle.tw_verifier.specs.declared.stage.Role.TheVariants as role
use Rattle.tw_verifier.specs.declared.stage.Shower.{Shower}
use Rattle.tw_verifier.specs.declared.stage.Shower.TheVariants as shower
use Rattle.tw_verifier.specs.declared.stage.Stage.{Stage}
use Rattle.tw_verifier.specs.declared.stage.Stage.TheVariants as stage
use Rattle.tw_verifier.specs.declared.stage.Way.{Way}
use Rattle.tw_verifier.specs.declared.stage.Way.TheVariants as way
use Rattle.tw_verifier.specs.Chaining.{behind_chain, closed, with_hop}
use Rattle.tw_verifier.specs.Judgements.{judgement_of}
use Rattle.tw_chain.specs.Proofs.{following, hop_bytes, hop_codec, key_codec, kind_codec, last_step, tail_codec}

-- ---- segments

-- the magic and the kind
unfoldable pub kind_head : Codec ℕ
kind_head = behind proof_magic kind_codec

-- a service, its step and a top
unfoldable pub part_head : Codec (List ℕ × (ℕ × ℕ))
part_head = pair name_codec (λ service. pair step_number_codec (λ step. step_number_codec))

-- a service, its step, which may be 0, a top, and the authenticator of the step
unfoldable pub link_head : Codec (List ℕ × (ℕ × (ℕ × List ℕ)))
link_head = pair name_codec (λ service. pair (number_codec 8 0 LAST_STEP) (λ step. pair step_number_codec (λ top. digest_codec)))

-- of a tree proof of an entry: the number of its nodes, and the labels of the sides of the entry's node
unfoldable pub present_head : Codec (ℕ × (List ℕ × List ℕ))
present_head = pair (number_codec 1 0 MOST_ABOVE_ENTRY) (λ n. pair digest_codec (λ left. digest_codec))

-- of a tree proof of an empty place: the number of its nodes
unfoldable pub gap_head : Codec ℕ
gap_head = number_codec 1 0 MOST_ABOVE_PLACE

-- ---- what is at hand

-- the least count of events of the opening: 1 where an event follows
abbrev pub least_of : Goal → ℕ
least_of (goal.Event r) = 1
least_of goal.Archived = 0
least_of goal.Absent = 0

abbrev pub least_opened : Opens → ℕ
least_opened (opens.Part g under links) = least_of g
least_opened (opens.Before s) = 0
least_opened (opens.Hop h links) = 0

-- the step whose opening is at hand
abbrev pub step_opened : Opens → ℕ
step_opened (opens.Part g under links) = under.step
step_opened (opens.Before s) = s.head.part.step - 1
step_opened (opens.Hop h links) = h.hop.entry.thread.step

-- the tree proof with more nodes above
abbrev pub with_tree_nodes : TreeProof → List Ancestor → TreeProof
with_tree_nodes (Present left right have) up = Present left right (have ++ up)
with_tree_nodes (Gap have) up = Gap (have ++ up)

-- ---- what stands behind

-- behind these links of a path, which lead down to this step: the links to come, and what follows all of them
abbrev pub path_of : {Z : Type 0} → (links : List Link) (at to : ℕ) → (List Link → Format Z) → Format Z
path_of links at to next = then_by (each_format link_bytes link_codec (greedy_steps at to)) (λ more. next (links ++ more))

-- a path and an opening, and what follows the part
abbrev pub part_stage : {Z : Type 0} → (least : ℕ) → (Part → Format Z) → (service : List ℕ) (step top : ℕ) → Format Z
part_stage least next service step top =
    path_of [] top step (λ links. then_by (opening_codec least step).format (λ o.
    next (record { service = service; step = step; top = top; path = record { links = links }; opening = o })))

-- a whole part, and what follows it
abbrev pub head_stage : {Z : Type 0} → (least : ℕ) → (Part → Format Z) → Format Z
head_stage least next = then_by part_head.format (λ t. part_stage least next t.0 t.1.0 t.1.1)

-- an event of a part, and what follows it
abbrev pub event_stage : {Z : Type 0} → (Part → EventPart → Format Z) → Part → Format Z
event_stage next at = then_by (event_part_codec at.opening.count).format (next at)

module _ (dig : List ℕ → List ℕ) (anchors : List Thread) where
  abbrev pub judged_stage : Proof → Format Judgement
  judged_stage p = End (judgement_of dig anchors p)

  -- behind the second event and the opening of the step before it, if there is one: so many hops and the first event
  abbrev pub behind_before : Part → EventPart → (hops : ℕ) → Option Opening → Format Judgement
  behind_before head e hops before =
      then_by (each hop_bytes hop_codec (following hops)).format (λ list.
      then_by (tail_codec (last_step (head.step - 1) list)).format (λ tail.
      judged_stage (proofs.Precedes (record { head = head; event = e; before = before; hops = list; tail = tail }))))

  -- behind the second event
  abbrev pub behind_second : (hops : ℕ) → Part → EventPart → Format Judgement
  behind_second hops head e =
      then_by (optional (nat_lt 0 hops) (opening_codec 0 (head.step - 1))).format (behind_before head e hops)

  -- behind the first event, which stands behind a chain
  abbrev pub behind_first : Chain → Part → EventPart → Format Judgement
  behind_first c at e = End (closed dig anchors c [] (record { step = at.step; path = at.path; opening = at.opening; event = e }))

  abbrev pub behind_only : Part → EventPart → Format Judgement
  behind_only at e = judged_stage (proofs.Exists (record { at = at; event = e }))

  abbrev pub behind_event : Role → Part → EventPart → Format Judgement
  behind_event role.Only = behind_only
  behind_event (role.Second hops) = behind_second hops.count
  behind_event (role.First onward) = behind_first onward.chain.value

  -- behind the path of the first event
  abbrev pub behind_links_of : Chain → (step : ℕ) → List Link → Format Judgement
  behind_links_of c step links =
      then_by (opening_codec 1 step).format (λ o.
      event_stage (behind_first c) (record { service = c.known.from; step = step; top = c.known.step; path = record { links = links }; opening = o }))

  -- the first event of a proof, behind a chain
  abbrev pub tail_of : Chain → Format Judgement
  tail_of c = then_by step_number_codec.format (λ step. part_stage 1 (event_stage (behind_first c)) c.known.from step c.known.step)

  -- the chain with a hop more
  abbrev pub chain_with : Chain → Entry → TreeProof → (bind : ℕ) → List Link → Option Opening → Chain
  chain_with c entry shown bind links o =
      with_hop dig anchors c (record { entry = entry; shown = shown; bind = bind; link = record { links = links }; opening = o }) (c.more - 1)

  -- behind the path of a hop: the opening of the thread's step where another hop follows, and what stands behind the hop
  abbrev pub behind_link : Chain → Entry → TreeProof → (bind : ℕ) → List Link → Format Judgement
  behind_link c entry shown bind links =
      then_by (optional (nat_lt 0 (c.more - 1)) (opening_codec 0 entry.thread.step)).format (λ o.
      behind_chain dig anchors (chain_with c entry shown bind links o))

  -- behind the tree proof of a hop: its bind, the path from there down to the thread's step, and the rest of the hop
  abbrev pub behind_shown : Chain → Entry → TreeProof → Format Judgement
  behind_shown c entry shown =
      then_by (number_codec 8 0 LAST_STEP).format (λ bind. path_of [] bind entry.thread.step (behind_link c entry shown bind))

  abbrev pub behind_tree : Asked → TreeProof → Format Judgement
  behind_tree (asked.Archived at entry) shown = judged_stage (proofs.Archived (record { at = at.part; entry = entry; shown = shown }))
  behind_tree (asked.Absent at key) shown = judged_stage (proofs.Absent (record { at = at.part; key = key; shown = shown }))
  behind_tree (asked.Hop h) shown = behind_shown h.further.onward.chain.value h.entry shown

  -- so many nodes more of a tree proof, and what stands behind it
  abbrev pub nodes_of : (TreeProof → Format Judgement) → TreeProof → (more : ℕ) → Format Judgement
  nodes_of next shown more = then_by (many more ancestor_codec).format (λ up. next (with_tree_nodes shown up))

  abbrev pub behind_archived : Part → Entry → Format Judgement
  behind_archived at entry = then_by present_codec.format (λ shown. judged_stage (proofs.Archived (record { at = at; entry = entry; shown = shown })))

  abbrev pub behind_absent : Part → Key → Format Judgement
  behind_absent at key = then_by gap_codec.format (λ shown. judged_stage (proofs.Absent (record { at = at; key = key; shown = shown })))

  abbrev pub behind_entry : Shower → Entry → Format Judgement
  behind_entry (shower.At r) entry = behind_archived r.part entry
  behind_entry (shower.Behind f) entry = then_by present_codec.format (behind_shown f.onward.chain.value entry)

  -- behind the opening of a part
  abbrev pub behind_part : Goal → Part → Format Judgement
  behind_part (goal.Event r) = event_stage (behind_event r)
  behind_part goal.Archived = λ at. then_by entry_codec.format (behind_archived at)
  behind_part goal.Absent = λ at. then_by key_codec.format (behind_absent at)

  abbrev pub behind_opening : Opens → Opening → Format Judgement
  behind_opening (opens.Part g under links) o =
      behind_part g (record { service = under.service; step = under.step; top = under.top; path = record { links = links }; opening = o })
  behind_opening (opens.Before s) o = behind_before s.head.part s.event s.hops.count (Some o)
  behind_opening (opens.Hop h links) o =
      behind_chain dig anchors (chain_with h.hop.further.onward.chain.value h.hop.entry h.shown h.bind links (Some o))

  abbrev pub behind_path : Way → List Link → Format Judgement
  behind_path (way.Part g under) links =
      then_by (opening_codec (least_of g) under.step).format (λ o.
      behind_part g (record { service = under.service; step = under.step; top = under.top; path = record { links = links }; opening = o }))
  behind_path (way.Bind h) links = behind_link h.hop.further.onward.chain.value h.hop.entry h.shown h.bind links
  behind_path (way.Link l) links =
      judged_stage (proofs.Linked (record { service = l.service; step = l.step; top = l.top; auth = l.auth; path = record { links = links } }))

  -- a proof of kind 5
  abbrev pub link_stage : Format Judgement
  link_stage =
      then_by link_head.format (λ t. path_of [] t.1.1.0 t.1.0 (λ links.
      judged_stage (proofs.Linked (record { service = t.0; step = t.1.0; top = t.1.1.0; auth = t.1.1.1; path = record { links = links } }))))

  -- a proof of kind 2
  abbrev pub counted_hops : Format Judgement
  counted_hops = then_by (number_codec 1 0 MOST_HOPS).format (λ n. head_stage 1 (event_stage (behind_second n)))

  abbrev pub behind_kind : (kind : ℕ) → Format Judgement
  behind_kind kind =
      if kind == 1 then head_stage 1 (event_stage behind_only)
      else (if kind == 2 then counted_hops
      else (if kind == 3 then head_stage 0 (behind_part goal.Archived)
      else (if kind == 4 then head_stage 0 (behind_part goal.Absent) else link_stage)))

  -- what may follow
  abbrev pub rest : Stage → Format Judgement
  rest stage.Begun = then_by kind_head.format behind_kind
  rest stage.Counted = counted_hops
  rest (stage.Head g) = head_stage (least_of g) (behind_part g)
  rest stage.LinkHead = link_stage
  rest (stage.Path p) = then_by (link_codec p.at).format (λ l. path_of (p.links ++ l ∷ []) (hop p.at p.to) p.to (behind_path p.way))
  rest (stage.Opening o) = then_by (opening_codec (least_opened o) (step_opened o)).format (behind_opening o)
  rest (stage.Event e) = event_stage (behind_event e.role) e.at.part
  rest (stage.Entry s) = then_by entry_codec.format (behind_entry s)
  rest (stage.Key r) = then_by key_codec.format (behind_absent r.part)
  rest (stage.Tree (asked.Archived at entry)) = behind_archived at.part entry
  rest (stage.Tree (asked.Absent at key)) = behind_absent at.part key
  rest (stage.Tree (asked.Hop h)) = then_by present_codec.format (behind_shown h.further.onward.chain.value h.entry)
  rest (stage.Nodes c) = then_by ancestor_codec.format (λ a. nodes_of (behind_tree c.asked) (with_tree_nodes c.shown (a ∷ [])) (c.more - 1))
  rest (stage.Bind h shown) = behind_shown h.further.onward.chain.value h.entry shown
  rest (stage.Tail onward) = tail_of onward.chain.value
  rest (stage.Done j) = End j
