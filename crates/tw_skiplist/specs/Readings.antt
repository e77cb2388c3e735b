-- What is read of pages under a head, for steps that are there, in their order.
use Rattle.std.specs.Prelude.{ℕ, List}
use Rattle.tw_disk.specs.Image.{Image}
use Rattle.tw_skipproof.specs.declared.path.Path.{Path}
use Rattle.tw_skiplist.specs.declared.collecting.Collected.{Collected}
use Rattle.tw_skiplist.specs.declared.head.Head.{Head}
use Rattle.tw_skiplist.specs.declared.info.StepInfo.{StepInfo}
use Rattle.tw_skiplist.specs.declared.info.StepLink.{StepLink}
use Rattle.tw_skiplist.specs.declared.info.StepProof.{StepProof}
use Rattle.tw_skiplist.specs.Events.{events_of_info}
use Rattle.tw_disk.specs.Found.{Found, ◌>>=◌}
use Rattle.tw_disk.specs.Found.Found.{Is}
use Rattle.tw_skiplist.specs.Walks.{collected, head_ref, info_in, walk}

module _ (dig : List ℕ → List ℕ) (pages : Image) (head : Head) where
  -- a step, by the walk from the head down to it
  unfoldable pub found_step : (i : ℕ) → Found StepInfo
  found_step i = walk pages (head_ref head) head.step i >>= (λ link. info_in dig pages link.page i)

  -- the way from a step n down to a step i: its links, and the one that leads to i, whose page isn't read
  unfoldable pub found_way : (n i : ℕ) → Found Collected
  found_way n i = walk pages (head_ref head) head.step n >>= (λ middle. collected dig pages middle n i)

  -- the path of these links, and the authenticator that the last one leads to
  unfoldable pub found_link : (n i : ℕ) → Found StepLink
  found_link n i = found_way n i >>= (λ way. Is (record { path = record { links = way.links }; auth = way.last.auth }))

  -- the path alone
  unfoldable pub found_skip_path : (n i : ℕ) → Found Path
  found_skip_path n i = found_link n i >>= (λ link. Is link.path)

  -- the path from a top down to a step, and the step
  unfoldable pub found_proof : (top i : ℕ) → Found StepProof
  found_proof top i =
      found_way top i >>= (λ way. info_in dig pages way.last.page i >>= (λ info. Is (record { path = record { links = way.links }; info = info })))

  -- the events of a step
  unfoldable pub found_events : (i : ℕ) → Found (List (List ℕ))
  found_events i = found_step i >>= events_of_info pages
