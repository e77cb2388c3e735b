-- Which file is opened for the words of the program, and how.
use Rattle.std.specs.Prelude.{◌≡◌, ℕ, List, ◌++◌, Option, codes, string_bytes, MatchOption}
use Rattle.tw_app.specs.Stores.{IsStoreOf}
use Rattle.tw_app.specs.declared.store.Store.{Store}
use Rattle.tw_app.specs.declared.store.StoreAccess.{StoreAccess}
use Rattle.tw_app.specs.declared.store.StoreAccess.TheVariants as does
use Rattle.tw_hostio.specs.declared.access.Access.{Access}
use Rattle.tw_hostio.specs.declared.access.Access.TheVariants.{Read, Write}
use Rattle.timeweave.specs.declared.store_file.StoreFile.{StoreFile}

-- the store of a folder
abbrev pub store_path : (folder : List ℕ) → List ℕ
store_path folder = folder ++ codes "/timeline.tw"

-- a command that reads its store has the file opened to be read alone: so it makes none
abbrev pub file_access : StoreAccess → Access
file_access does.Read = Read
file_access does.Write = Write

-- the file is that of the store that the words ask for; where they ask for none, it is one to be read, of which no command makes a call
abbrev pub IsStoreFile : (words : List (List ℕ)) → StoreFile → Type 0
IsStoreFile words file =
    (store : Option Store) × IsStoreOf words store
    × MatchOption store (file.access ≡ Read) (λ (s : Store). (string_bytes file.path ≡ store_path s.folder.now) × (file.access ≡ file_access s.access))
