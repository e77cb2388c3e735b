-- The forms of the program's command line.
use Rattle.std.specs.Prelude.{◌≡◌, ℕ, ◌+◌, ◌-◌, ◌≤◌, List, [], ◌∷◌, ◌++◌, length, take, codes, Option, Some, None, IsSome}
use Rattle.std.specs.Result.{result_ok}
use Rattle.tw_base.specs.declared.kinds.limits.TheConstants.{LAST_STEP, LAST_TIME}
use Rattle.tw_words.specs.Forms.{Form, any_paths, at_most_paths, choose_form, digest_form, either, end, maybe, maybe_up_to, name_form, number_form, path}
use Rattle.tw_words.specs.declared.command.Command.{Command}
use Rattle.tw_words.specs.declared.command.Command.TheVariants.{Init, Append, Thread, Receive, ProveEvent, ProveThread, ProveAbsent, ProveLink, MapLow, MapHigh, Export, Show, Join, VerifyFile, VerifyOne, Strict, CheckMap, Audit, Atlas, Accuse, CheckFork, Adopt, Watch, Offer, Heads, Replay, Generate}
use Rattle.tw_words.specs.declared.limits.TheConstants.{MOST_ADOPTING, MOST_GENERATED, MOST_HISTORIES, MOST_RECEIPT_FILES}
use Rattle.tw_words.specs.declared.words.WordFault.{WordFault}
use Rattle.tw_words.specs.declared.words.WordFault.TheVariants.{BadWord, NoMemory}

-- ---- parts

-- any number of 64 bits
abbrev pub any_number : (ℕ → Form) → Form
any_number = number_form 0 0xffff_ffff_ffff_ffff

-- the number of a step from 1 on
abbrev pub step_number : (ℕ → Form) → Form
step_number = number_form 1 LAST_STEP

-- ---- forms behind their first word

unfoldable pub init : Form
init = path (λ dir. name_form (λ name. end (Init name)))

unfoldable pub append : Form
append = path (λ dir. path (λ file. maybe_up_to LAST_TIME (λ time. Append file time)))

unfoldable pub thread : Form
thread = path (λ dir. any_number (λ since. end (Thread since)))

unfoldable pub receive : Form
receive = path (λ dir. path (λ file. maybe_up_to LAST_TIME (λ time. Receive file time)))

-- `prove DIR event`, and the other kinds of proofs
unfoldable pub prove_event : Form
prove_event = any_number (λ step. any_number (λ index. maybe (λ top. ProveEvent step index top)))

unfoldable pub prove_thread : Form
prove_thread = any_number (λ step. name_form (λ peer. step_number (λ k. maybe (λ top. ProveThread step peer k top))))

unfoldable pub prove_absent : Form
prove_absent = any_number (λ step. name_form (λ peer. step_number (λ k. maybe (λ top. ProveAbsent step peer k top))))

unfoldable pub prove_link : Form
prove_link = any_number (λ step. maybe (λ top. ProveLink step top))

abbrev pub proofs : List (List ℕ × Form)
proofs = (codes "event", prove_event) ∷ (codes "thread", prove_thread) ∷ (codes "absent", prove_absent) ∷ (codes "link", prove_link) ∷ []

unfoldable pub prove : Form
prove = path (λ dir. choose_form proofs)

-- `map DIR low` and `map DIR high`
unfoldable pub map_low : Form
map_low = any_number (λ step. name_form (λ peer. maybe (λ top. MapLow step peer top)))

unfoldable pub map_high : Form
map_high = step_number (λ pos. name_form (λ peer. maybe (λ top. MapHigh pos peer top)))

abbrev pub bounds : List (List ℕ × Form)
bounds = (codes "low", map_low) ∷ (codes "high", map_high) ∷ []

unfoldable pub map : Form
map = path (λ dir. choose_form bounds)

unfoldable pub export : Form
export = path (λ dir. end Export)

unfoldable pub show : Form
show = path (λ history. any_number (λ step. any_number (λ index. end (Show history step index))))

-- at least two files
unfoldable pub join : Form
join = path (λ one. path (λ two. any_paths (λ more. Join (one ∷ two ∷ more))))

-- `verify PROOF`: then a file of anchors, or one anchor
unfoldable pub verify_file : (proof : List ℕ) → Form
verify_file proof = path (λ anchors. end (VerifyFile proof anchors))

unfoldable pub verify_one : (proof : List ℕ) → Form
verify_one proof =
    name_form (λ from. step_number (λ step. digest_form (λ auth. end (VerifyOne proof (record { from = from; step = step; auth = auth })))))

unfoldable pub verify : Form
verify = path (λ proof. either (verify_file proof) (verify_one proof))

unfoldable pub strict : Form
strict = path (λ proof. path (λ anchors. end (Strict proof anchors)))

unfoldable pub check_map : Form
check_map = path (λ low. path (λ high. path (λ anchors. end (CheckMap low high anchors))))

-- at least one history
unfoldable pub audit : Form
audit = path (λ proof. path (λ anchors. path (λ one. at_most_paths (MOST_HISTORIES - 1) (λ more. Audit proof anchors (one ∷ more)))))

-- at least one file
unfoldable pub atlas : Form
atlas = name_form (λ start. step_number (λ pos. path (λ one. at_most_paths (MOST_RECEIPT_FILES - 1) (λ more. Atlas start pos (one ∷ more)))))

-- `accuse PROOF PROOF`, and with a link
unfoldable pub accuse_two : (first second : List ℕ) → Form
accuse_two first second = end (Accuse first second None)

unfoldable pub accuse_linked : (first second : List ℕ) → Form
accuse_linked first second = path (λ link. end (Accuse first second (Some link)))

unfoldable pub accuse : Form
accuse = path (λ first. path (λ second. either (accuse_two first second) (accuse_linked first second)))

unfoldable pub check_fork : Form
check_fork = path (λ file. path (λ anchors. end (CheckFork file anchors)))

-- at least one proof
unfoldable pub adopt : Form
adopt = path (λ history. path (λ anchors. path (λ proof. at_most_paths (MOST_ADOPTING - 1) (λ more. Adopt history anchors proof more))))

unfoldable pub watch : Form
watch = path (λ dir. name_form (λ name. end (Watch name)))

unfoldable pub offer : Form
offer = path (λ dir. path (λ file. end (Offer file)))

unfoldable pub heads : Form
heads = path (λ dir. end Heads)

unfoldable pub replay : Form
replay = path (λ file. end (Replay file))

unfoldable pub generate : Form
generate = any_number (λ seed. number_form 1 MOST_GENERATED (λ steps. end (Generate seed steps)))

-- ---- all forms, by their first word

-- those over a store
abbrev pub store_commands : List (List ℕ × Form)
store_commands =
    (codes "init", init) ∷ (codes "append", append) ∷ (codes "thread", thread) ∷ (codes "receive", receive) ∷ (codes "prove", prove)
    ∷ (codes "map", map) ∷ (codes "export", export) ∷ (codes "watch", watch) ∷ (codes "offer", offer) ∷ (codes "heads", heads) ∷ []

-- those over files alone
abbrev pub file_commands : List (List ℕ × Form)
file_commands =
    (codes "show", show) ∷ (codes "join", join) ∷ (codes "verify", verify) ∷ (codes "strict", strict)
    ∷ (codes "replay", replay) ∷ (codes "generate", generate) ∷ []

-- those over files that reach beyond one proof
abbrev pub reach_commands : List (List ℕ × Form)
reach_commands =
    (codes "checkmap", check_map) ∷ (codes "audit", audit) ∷ (codes "atlas", atlas) ∷ (codes "accuse", accuse) ∷ (codes "checkfork", check_fork) ∷ (codes "adopt", adopt) ∷ []

abbrev pub commands : List (List ℕ × Form)
commands = store_commands ++ file_commands ++ reach_commands

-- ---- the meaning of words

-- the command that the words have a form of
abbrev pub command_of : List (List ℕ) → Option Command
command_of words = result_ok (choose_form commands words)

-- the words are the front of some words that have a form
abbrev pub AreFrontWords : List (List ℕ) → Type 0
AreFrontWords words = (rest : List (List ℕ)) × IsSome (command_of (words ++ rest))

-- the number of the first word, counted from 1, at which no form goes on, and one more than there are words where some form
-- would go on: before it ends the longest front of the words that is the front of a command
pub record IsFirstBadWord (words : List (List ℕ)) (number : ℕ) : Type 0 where
  pub front : ℕ
  pub next : number ≡ front + 1
  pub within : front ≤ length words
  pub good : AreFrontWords (take front words)
  pub longest : (n : ℕ) → n ≤ length words → AreFrontWords (take n words) → n ≤ front

-- the fault names the first word at which no form goes on
abbrev pub IsBadWord : List (List ℕ) → WordFault → Type 0
IsBadWord words (BadWord number) = IsFirstBadWord words number
IsBadWord words NoMemory = ⊥
