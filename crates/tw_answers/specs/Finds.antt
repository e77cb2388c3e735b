-- What is found in the pages of a service by the calls that only read, whether or not these keep a history.
use Rattle.std.specs.Prelude.{ℕ, ◌==◌, ◌&&◌, List, Bool, true, false, Option, Some, None, Result, Ok, Err}
use Rattle.std.specs.Str.{bytes_eq}
use Rattle.tw_base.specs.declared.history.root.Root.{Root}
use Rattle.tw_base.specs.declared.history.thread.Entry.{Entry}
use Rattle.tw_base.specs.declared.history.thread.Key.{Key}
use Rattle.tw_base.specs.declared.history.tree_proof.Ask.{Ask}
use Rattle.tw_base.specs.declared.history.tree_proof.Ask.TheVariants as ask
use Rattle.tw_base.specs.declared.history.tree_proof.TreeProof.{TreeProof}
use Rattle.tw_disk.specs.Answers.{AnswersOr, RefusesAs}
use Rattle.tw_disk.specs.Found.{Found, when, ◌>>=◌}
use Rattle.tw_disk.specs.Found.Found.{Is}
use Rattle.tw_disk.specs.Image.{Image}
use Rattle.tw_chain.specs.declared.proof.LinkProof.{LinkProof}
use Rattle.tw_chain.specs.declared.proof.Proof.TheVariants.{Archived, Absent, Linked}
use Rattle.tw_chain.specs.Proofs.{proof_bytes as bytes_of_proof}
use Rattle.tw_rbtree.specs.Paths.{found_tree_path}
use Rattle.tw_rbtree.specs.Ways.{found_with}
use Rattle.tw_skipproof.specs.declared.existence.Part.{Part}
use Rattle.tw_skipproof.specs.declared.path.Path.{Path}
use Rattle.tw_skipproof.specs.Existence.{existence_bytes, existence_of_part}
use Rattle.tw_skiplist.specs.declared.head.Head.{Head}
use Rattle.tw_skiplist.specs.declared.info.StepLink.{StepLink}
use Rattle.tw_skiplist.specs.declared.info.StepProof.{StepProof}
use Rattle.tw_skiplist.specs.Events.{events_of_info}
use Rattle.tw_skiplist.specs.Readings.{found_link, found_proof, found_skip_path}
use Rattle.tw_base.specs.declared.history.refusal.Refusal.{Refusal}
use Rattle.tw_base.specs.declared.history.refusal.Refusal.TheVariants.{NoThread, HasThread}
use Rattle.tw_answers.specs.declared.showing.EntryShown.{EntryShown}
use Rattle.tw_answers.specs.Limits.{event_refusal}
use Rattle.tw_answers.specs.Refusals.{service_refusals}

module _ {X : Type 0} where
  -- the refusal of a table, where there is one, and else what is found
  abbrev pub unless : Option Refusal → Found (Result X Refusal) → Found (Result X Refusal)
  unless (Some refusal) found = Is (Err refusal)
  unless None found = found

  -- a refusal is what is found, and BadPage tells the page that is; a failed device call and want of memory are excepted
  abbrev pub IsRefusalFound : Refusal → Found (Result X Refusal) → Type 0
  IsRefusalFound refusal found = RefusesAs service_refusals (service_refusals refusal) refusal found

  -- an answer is what is found, with these exceptions
  abbrev pub IsFoundAnswer : Result X Refusal → Found (Result X Refusal) → Type 0
  IsFoundAnswer result found = AnswersOr service_refusals (λ value. value) result found

-- the part of a step under a top, as they are told
abbrev pub part_to_step : (name : List ℕ) → (top : ℕ) → StepProof → Part
part_to_step name top proof = record { service = name; step = proof.info.step; top = top; path = proof.path; opening = proof.info.opening }

-- the bytes of the proof of the event at the index, made of what is told of the step
abbrev pub event_proof_bytes : (dig : List ℕ → List ℕ) → (name : List ℕ) → (top index : ℕ) → StepProof → (events : List (List ℕ)) → List ℕ
event_proof_bytes dig name top index proof events = existence_bytes (existence_of_part dig (part_to_step name top proof) events index)

-- the proof of a step's authenticator under a top, as they are told
abbrev pub link_to_step : (name : List ℕ) → (step top : ℕ) → StepLink → LinkProof
link_to_step name step top link = record { service = name; step = step; top = top; auth = link.auth; path = link.path }

module _ (dig : List ℕ → List ℕ) (pages : Image) (head : Head) where
  -- the path from the last step down to an earlier one
  unfoldable pub path_down : (since : ℕ) → Found (Result Path Refusal)
  path_down since = found_skip_path dig pages head head.step since >>= (λ path. Is (Ok path))

-- whether two entries are the same
abbrev pub same_entry : Entry → Entry → Bool
same_entry e f =
    (bytes_eq e.thread.from f.thread.from && (e.thread.step == f.thread.step)) && (bytes_eq e.thread.auth f.thread.auth && (e.archived == f.archived))

-- whether what is asked of an entry, or of a key, is so where its way met this entry or none
abbrev pub is_so_at : Ask → (met : Option Entry) → Bool
is_so_at (ask.Present e) (Some f) = same_entry f e
is_so_at (ask.Present e) None = false
is_so_at (ask.Absent key) (Some f) = false
is_so_at _ met = true

-- the bytes of the proof of an entry of a step's archive, and that it has none of the key, as they are told
abbrev pub thread_bytes : (name : List ℕ) → (top : ℕ) → StepProof → EntryShown → List ℕ
thread_bytes name top proof shown = bytes_of_proof (Archived (record { at = part_to_step name top proof; entry = shown.entry; shown = shown.tree }))

abbrev pub absence_bytes : (name : List ℕ) → Key → (top : ℕ) → StepProof → TreeProof → List ℕ
absence_bytes name key top proof tree = bytes_of_proof (Absent (record { at = part_to_step name top proof; key = key; shown = tree }))

module _ (dig : List ℕ → List ℕ) (pages : Image) (root : Root) where
  -- what is asked is so at the end of its way, and this is the way's proof; where it isn't so, the pages told otherwise before, so they
  -- don't fit one another, and the root's page is told
  unfoldable pub tree_shown : Ask → Found TreeProof
  tree_shown asked = found_tree_path dig pages asked root >>= (λ shown. when (is_so_at asked shown.met) root.page shown.proof)

  -- the entry of the key with its place, or that there is none
  abbrev pub entry_thread : Option Entry → Found (Result EntryShown Refusal)
  entry_thread None = Is (Err NoThread)
  entry_thread (Some e) = tree_shown (ask.Present e) >>= (λ tree. Is (Ok (record { entry = e; tree = tree })))

  unfoldable pub found_thread_of : Key → Found (Result EntryShown Refusal)
  found_thread_of key = found_with dig pages root key >>= entry_thread

  -- the empty place of the key, or the step that received a thread of it
  abbrev pub absence_in : Key → Option Entry → Found (Result TreeProof Refusal)
  absence_in key (Some e) = Is (Err (HasThread e.archived))
  absence_in key None = tree_shown (ask.Absent key) >>= (λ tree. Is (Ok tree))

  unfoldable pub found_absence_of : Key → Found (Result TreeProof Refusal)
  found_absence_of key = found_with dig pages root key >>= absence_in key

-- what is shown goes into the bytes of the proof; a refusal stays
abbrev pub written_found : {X : Type 0} → (bytes_of : X → List ℕ) → Result X Refusal → Found (Result (List ℕ) Refusal)
written_found bytes_of (Ok shown) = Is (Ok (bytes_of shown))
written_found bytes_of (Err refusal) = Is (Err refusal)

module _ (dig : List ℕ → List ℕ) (pages : Image) (name : List ℕ) (head : Head) where
  -- the bytes of the proof of a step's authenticator under a top: the link that leads to the step has it, and its page isn't read
  unfoldable pub link_proof : (step top : ℕ) → Found (Result (List ℕ) Refusal)
  link_proof step top = found_link dig pages head top step >>= (λ link. Is (Ok (bytes_of_proof (Linked (link_to_step name step top link)))))

  module _ (step index top : ℕ) where
    -- the step under the top is read; where its page tells of an event at the index, so are its events
    unfoldable pub event_proof : Found (Result (List ℕ) Refusal)
    event_proof =
        found_proof dig pages head top step
        >>= (λ proof. unless (event_refusal proof.info.count index)
        (events_of_info pages proof.info >>= (λ events. Is (Ok (event_proof_bytes dig name top index proof events)))))

  module _ (step : ℕ) (key : Key) (top : ℕ) where
    -- the step under the top is read, then the entry of the key in its archive, and then the way to it, or to its empty place
    unfoldable pub thread_proof : Found (Result (List ℕ) Refusal)
    thread_proof = found_proof dig pages head top step >>= (λ proof. found_thread_of dig pages proof.info.archive key >>= written_found (thread_bytes name top proof))

    unfoldable pub absence_proof : Found (Result (List ℕ) Refusal)
    absence_proof = found_proof dig pages head top step >>= (λ proof. found_absence_of dig pages proof.info.archive key >>= written_found (absence_bytes name key top proof))
