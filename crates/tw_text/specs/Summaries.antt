-- The last line of a script that was played, and that of a generated schedule: compact JSON whose keys are sorted.
use Rattle.std.specs.Prelude.{ℕ, List, [], ◌∷◌, ◌++◌, codes, Bool, if◌then◌else◌, Option}
use Rattle.std.specs.Option.{option_map_or}
use Rattle.serde_json.specs.Data.{Data, Items, Members, array, item, member, no_items, no_members, null, number, object, put, string, unsigned}
use Rattle.serde_json.specs.Written.{compact_text}
use Rattle.tw_base.specs.declared.history.thread.Key.{Key}
use Rattle.tw_base.specs.kinds.Names.{name_text}

abbrev pub count : ℕ → Data
count n = number (unsigned n)

-- ---- of a script that was played

-- the numbers of steps of services, by their names, beside what is there; each service is a key of its name and its last step
unfoldable pub with_services : Members → List Key → Members
with_services named [] = named
with_services named (service ∷ services) = with_services (put (name_text service.from) (count service.step) named) services

abbrev pub replayed_of_values : (accepted none refused rejected : ℕ) (services : Data) → Data
replayed_of_values accepted none refused rejected services =
    object (member (codes "accepted") (count accepted)
    (member (codes "none") (count none)
    (member (codes "refused") (count refused)
    (member (codes "rejected") (count rejected)
    (member (codes "services") services no_members)))))

-- how many answers begin with each of the four words, and how many steps each service has
abbrev pub replayed_data : (accepted none refused rejected : ℕ) (services : List Key) → Data
replayed_data accepted none refused rejected services =
    replayed_of_values accepted none refused rejected (object (with_services no_members services))

abbrev pub replayed_line : (accepted none refused rejected : ℕ) (services : List Key) → List ℕ
replayed_line accepted none refused rejected services =
    compact_text (replayed_data accepted none refused rejected services) ++ codes "\n"

-- ---- of a generated schedule

-- the audit stands, or texts clash
abbrev pub audit_word : (stands : Bool) → List ℕ
audit_word stands = if stands then codes "stands" else codes "clash"

abbrev pub counts_of_steps : List ℕ → Items
counts_of_steps [] = no_items
counts_of_steps (n ∷ ns) = item (count n) (counts_of_steps ns)

abbrev pub generated_of_values : (audit : List ℕ) (high : Data) (hops low : ℕ) (steps : Data) (threads : ℕ) → Data
generated_of_values audit high hops low steps threads =
    object (member (codes "audit") (string audit)
    (member (codes "high") high
    (member (codes "hops") (count hops)
    (member (codes "low") (count low)
    (member (codes "steps") steps
    (member (codes "threads") (count threads)
    (member (codes "verdict") (string (codes "accepted")) no_members)))))))

-- where there is no high bound it is null
unfoldable pub generated_data : (stands : Bool) (high : Option ℕ) (hops low : ℕ) (steps : List ℕ) (threads : ℕ) → Data
generated_data stands high hops low steps threads =
    generated_of_values (audit_word stands) (option_map_or count high null) hops low (array (counts_of_steps steps)) threads

abbrev pub generated_line : (stands : Bool) (high : Option ℕ) (hops low : ℕ) (steps : List ℕ) (threads : ℕ) → List ℕ
generated_line stands high hops low steps threads = compact_text (generated_data stands high hops low steps threads) ++ codes "\n"
