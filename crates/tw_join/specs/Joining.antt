-- The proof from event to event that parts join to. The parts are proofs of the other kinds, numbered from 1: that of the second
-- event; for each hop that of its thread, and where the hop is bound that of the link; and that of the first event.
use Rattle.std.specs.Prelude.{◌≡◌, ℕ, ◌+◌, ◌-◌, List, [], ◌∷◌, length, Bool, Option, Some, None, Result, Ok, Err, is_none, nat_lt, ◌==◌, ◌&&◌, if◌then◌else◌}
use Rattle.std.specs.Option.{option_map_or}
use Rattle.std.specs.Str.{bytes_eq}
use Rattle.tw_base.specs.declared.kinds.limits.TheConstants.{MOST_HOPS}
use Rattle.tw_base.specs.declared.history.report.Hop.{Hop}
use Rattle.tw_base.specs.declared.history.thread.Key.{Key}
use Rattle.tw_base.specs.declared.history.thread.Thread.{Thread}
use Rattle.tw_base.specs.history.Entries.{key_of}
use Rattle.tw_skipproof.specs.declared.existence.ExistenceProof.{ExistenceProof}
use Rattle.tw_skipproof.specs.declared.opening.Opening.{Opening}
use Rattle.tw_join.specs.declared.joining.JoinFault.{JoinFault}
use Rattle.tw_join.specs.declared.joining.JoinFault.TheVariants.{Gap, NoMemory}
use Rattle.tw_chain.specs.declared.proof.HopPart.{HopPart}
use Rattle.tw_chain.specs.declared.proof.LinkProof.{LinkProof}
use Rattle.tw_chain.specs.declared.proof.PrecedenceProof.{PrecedenceProof}
use Rattle.tw_chain.specs.declared.proof.Proof.{Proof}
use Rattle.tw_chain.specs.declared.proof.Proof.TheVariants.{Exists, Precedes, Archived, Linked}
use Rattle.tw_chain.specs.declared.proof.ThreadProof.{ThreadProof}
use Rattle.tw_chain.specs.Checks.{link_top, top_of}

-- the parts of a hop
pub record Joint : Type 0 where
  pub thread : ThreadProof
  pub link : Option LinkProof

-- the parts taken so far: none; the second event's and those of hops, the last hop first; or all, with the first event's
pub data Taken : Type 0 where
  Nothing : Taken
  Hops : ExistenceProof → List Joint → Taken
  Whole : ExistenceProof → List Joint → ExistenceProof → Taken

-- ---- which part fits next

-- the service and step whose archive shows the next hop, and which is the first event's top where none follows: that of the last
-- hop's thread, or the step before the second event's
abbrev pub wanted : ExistenceProof → List Joint → Key
wanted second [] = record { from = second.at.service; step = second.at.step - 1 }
wanted second (joint ∷ joints) = key_of joint.thread.entry

abbrev pub is_key : Key → (service : List ℕ) (step : ℕ) → Bool
is_key key service step = bytes_eq key.from service && key.step == step

-- the link is of the thread
abbrev pub is_link_of : Thread → LinkProof → Bool
is_link_of t l = bytes_eq t.from l.service && (t.step == l.step && bytes_eq t.auth l.auth)

abbrev pub only_if : Bool → Taken → Option Taken
only_if fits taken = if fits then Some taken else None

-- what is taken with one part more, or none where the part doesn't fit: a thread of the archive that is wanted, at most 64 of them; a
-- link of the thread just before, which has none yet; an event under the step that is wanted, which is the last part
abbrev pub with_part : Taken → Proof → Option Taken
with_part Nothing (Exists second) = Some (Hops second [])
with_part (Hops second joints) (Archived t) =
    only_if (nat_lt (length joints) MOST_HOPS && is_key (wanted second joints) t.at.service t.at.step)
    (Hops second (record { thread = t; link = None } ∷ joints))
with_part (Hops second (joint ∷ joints)) (Linked l) =
    only_if (is_none joint.link && is_link_of joint.thread.entry.thread l)
    (Hops second (record { thread = joint.thread; link = Some l } ∷ joints))
with_part (Hops second joints) (Exists first) =
    only_if (is_key (wanted second joints) first.at.service first.at.top) (Whole second joints first)
with_part _ _ = None

-- ---- what they join to

-- the hop of these parts, and the opening behind it: of the thread's proof the entry and the tree proof; of the link the top,
-- which binds the thread, and the path
abbrev pub hop_of : Joint → (behind : Option Opening) → HopPart
hop_of joint behind = record {
  entry = joint.thread.entry;
  shown = joint.thread.shown;
  bind = option_map_or (λ (l : LinkProof). l.top) joint.link 0;
  link = option_map_or (λ (l : LinkProof). l.path) joint.link (record { links = [] });
  opening = behind;
}

-- the hops of these parts before others, and the opening before them all; each opening is that of the next thread's proof
abbrev pub hops_before : List Joint → (before : Option Opening) → List HopPart → Option Opening × List HopPart
hops_before [] before hops = (before, hops)
hops_before (joint ∷ joints) before hops = hops_before joints (Some joint.thread.at.opening) (hop_of joint before ∷ hops)

abbrev pub joined_of : ExistenceProof → List Joint → ExistenceProof → PrecedenceProof
joined_of second joints first =
    let all : Option Opening × List HopPart = hops_before joints None [] in record {
      head = second.at;
      event = second.event;
      before = all.0;
      hops = all.1;
      tail = record { step = first.at.step; path = first.at.path; opening = first.at.opening; event = first.event };
    }

-- the proof of all parts; or the number of the first part that doesn't fit, which is one more than there are where the last one
-- is missing
abbrev pub joined_proof : Taken → (number : ℕ) → List Proof → Result PrecedenceProof ℕ
joined_proof (Whole second joints first) number [] = Ok (joined_of second joints first)
joined_proof _ number [] = Err number
joined_proof taken number (part ∷ parts) = option_map_or (λ next. joined_proof next (number + 1) parts) (with_part taken part) (Err number)

-- what joining answers. Want of memory is free
abbrev pub Joins : List Proof → Result Proof JoinFault → Type 0
Joins parts (Ok p) = (whole : PrecedenceProof) × (joined_proof Nothing 1 parts ≡ Ok whole) × (p ≡ Precedes whole)
Joins parts (Err (Gap place)) = joined_proof Nothing 1 parts ≡ Err place
Joins parts (Err NoMemory) = Unit {0}

-- ---- the hops that they tell

-- the hop that a proof of a thread shows
abbrev pub shown_hop : ThreadProof → Hop
shown_hop t = record {
  from = t.entry.thread.from;
  step = t.entry.thread.step;
  by = t.at.service;
  archived = t.entry.archived;
}

-- the hops that the parts show, in their order
abbrev pub shown_hops : List Proof → List Hop
shown_hops [] = []
shown_hops (Archived t ∷ parts) = shown_hop t ∷ shown_hops parts
shown_hops (_ ∷ parts) = shown_hops parts

-- ---- the tops that they name

-- the tops of the links, in their order; top 0, which the bytes of a link can't have, binds nothing
abbrev pub link_tops : List Proof → List Key
link_tops [] = []
link_tops (Linked l ∷ parts) = if l.top == 0 then link_tops parts else link_top l ∷ link_tops parts
link_tops (_ ∷ parts) = link_tops parts

-- the top of the first part, which is the second event's, and those of the links
abbrev pub tops_of : List Proof → List Key
tops_of (Exists second ∷ parts) = top_of second.at ∷ link_tops parts
tops_of _ = []
