-- From what a service answers, or isn't opened for, to what a command comes to; and one answer over a told disk.
use Rattle.std.proofs.Common.{◌≡◌, ◌∙◌, ℕ, refl, ap, sym, subst, ◌⊎◌, inl, inr}
use Rattle.std.specs.Prelude.{Option, Some, None, Result, Ok, Err, IfErr, MatchOption, ◌≢◌}
use Rattle.sha2.specs.Sha256.{sha256}
use Rattle.tw_base.specs.kinds.Faults.{Rose}
use Rattle.tw_base.specs.history.History.{History}
use Rattle.tw_disk.specs.Image.{Image}
use Rattle.tw_pages.specs.declared.open.StoreFault.{StoreFault}
use Rattle.tw_pages.specs.declared.open.StoreFault.TheVariants as store
use Rattle.tw_disk.specs.Found.{Found}
use Rattle.tw_disk.specs.Found.Found.{Is}
use Rattle.tw_answers.specs.Finds.{IsRefusalFound}
use Rattle.tw_service.specs.Machine.{AnswersByMachine, Call, Reply}
use Rattle.tw_answers.specs.Refusals.{IsFault}
use Rattle.tw_service.specs.Stands.{IsNotOpenedFor}
use Rattle.tw_pages.specs.Records.{Served, written_record}
use Rattle.tw_pages.specs.Records.Served.{Opened, Unopened}
use Rattle.tw_base.specs.declared.history.refusal.Refusal.{Refusal}
use Rattle.tw_base.specs.declared.history.refusal.Refusal.TheVariants as service
use Rattle.tw_answers.specs.declared.root.RootRecord.{RootRecord}
use Rattle.tw_answers.proofs.TableAnswers.{Of}
use Rattle.tw_service.proofs.Standing.{served_once, stands_opened}
use Rattle.tw_text.specs.declared.refusal.StoreCause.{StoreCause}
use Rattle.tw_text.specs.declared.fault.CommandFault.{CommandFault}
use Rattle.tw_text.specs.declared.fault.CommandFault.TheVariants as fault
use Rattle.tw_diskcmd.specs.Answers.{ComesOver, ComesTo, IsOpened, IsResult, IsResultOver, IsTheAnswer, MachineRefuses}
use Rattle.tw_diskcmd.specs.Answers.{TableAnswersOr, TableRefuses, answer_over, result_of}
use Rattle.tw_diskcmd.specs.Disks.{FoundDisk, ReadsAsHistory, found_disk}
use Rattle.tw_diskcmd.specs.Comes.{TellsContent}
use Rattle.tw_diskcmd.specs.StoreFaults.{fault_of_store}
use Rattle.tw_diskcmd.proofs.Landings.{told_result, unopened_tells}
use Rattle.tw_diskcmd.specs.Faults.{fault_of_service}

-- ---- refusals

-- that tell of the disk's content
abbrev pub TellsOfDisk : Refusal → Type 0
TellsOfDisk service.DiskFault = ⊥
TellsOfDisk service.NoMemory = ⊥
TellsOfDisk service.Reopen = ⊥
TellsOfDisk (service.Malformed place) = ⊥
TellsOfDisk _ = Unit {0}

-- that never come of a service that was just opened, to a message that was read before
abbrev pub IsNever : Refusal → Type 0
IsNever service.Reopen = Unit {0}
IsNever (service.Malformed place) = Unit {0}
IsNever _ = ⊥

abbrev pub CanCome : Refusal → Type 0
CanCome r = IsNever r → ⊥

pub fault_can : (r : Refusal) → IsFault r → CanCome r
fault_can service.Reopen fault never = fault
fault_can (service.Malformed place) fault never = fault
fault_can _ fault never = never

module _ {X : Type 0} where
  -- one that is found is the answer
  found_result : (r : Refusal) (f : Found (Result X Refusal)) → TellsOfDisk r → IsRefusalFound r f
      → ◌≡◌ {A = Result X CommandFault} (Err (fault_of_service r)) (result_of f)
  found_result service.DiskFault f tells is = absurd tells
  found_result service.NoMemory f tells is = absurd tells
  found_result service.Reopen f tells is = absurd tells
  found_result (service.Malformed place) f tells is = absurd tells
  found_result _ f tells is = sym (ap result_of is)

  abbrev failed : Refusal → Result X Refusal
  failed r = Err r

  pub same_err : (r q : Refusal) → failed r ≡ failed q → q ≡ r
  same_err r q is = cc

-- what a service's table says of an answer: its refusal, where it has one, and else a refusal of another kind at most
abbrev pub IsByTable : {X : Type 0} → (Else : Refusal → Type 0) → Option Refusal → Result X Refusal → Type 0
IsByTable Else table result = MatchOption table (IfErr result Else) (λ refusal. result ≡ Err refusal)

pub allowed : {X : Type 0} (Else : Refusal → Type 0) (table : Option Refusal) (x : X) → IsByTable Else table (Ok x)
    → table ≡ None
allowed Else None x is = refl
allowed {X} Else (Some r) x is = let other : ◌≡◌ {A = Result X Refusal} (Ok x) (Err r) = is in cc

-- what never comes is refused by no table of a service that was just opened
pub no_never : (X : Type 0) (Else : Refusal → Type 0) (table : Option Refusal) → Of CanCome table
    → ((q : Refusal) → Else q → CanCome q) → (r : Refusal) → IsByTable {X = X} Else table (Err r) → CanCome r
no_never X Else None can others r is never = others r is never
no_never X Else (Some q) can others r is never = can (subst IsNever (sym (same_err {X = X} r q is)) never)

pub table_refuses : {S : Type 0} (table : S → Option Refusal) (last : S) (r : Refusal) → table last ≡ Some r
    → TableRefuses table (fault_of_service r)
table_refuses table last (service.BadPage page) is = tt
table_refuses table last r is = (r, refl, (last, is))

-- what a table beside which there are faults only says of an answer
abbrev pub Table : {X : Type 0} → Option Refusal → Result X Refusal → Type 0
Table = IsByTable IsFault

-- a fault that tells of the disk is a bad page, of which the table says nothing
page_free : {S : Type 0} (table : S → Option Refusal) (r : Refusal) → TellsOfDisk r → IsFault r
    → TableRefuses table (fault_of_service r)
page_free table (service.BadPage page) tells is = tt
page_free table service.DiskFault tells is = absurd tells
page_free table service.NoMemory tells is = absurd tells
page_free table _ tells is = absurd is

pub by_table : {S : Type 0} (X : Type 0) (table : S → Option Refusal) (at : S) (o : Option Refusal) → table at ≡ o
    → (r : Refusal) → TellsOfDisk r → Table {X = X} o (Err r)
    → TableRefuses table (fault_of_service r)
by_table X table at None none r tells is = page_free table r tells is
by_table X table at (Some q) some r tells is = table_refuses table at r
    (some ∙ ap (λ (x : Refusal). Some x) (same_err {X = X} r q is))

pub machine_refuses : {T : Type 0} (h : History) (call : Call) (reply : T → Reply) (Serves : History → Type 0)
    (r : Refusal) → TellsOfDisk r → AnswersByMachine sha256 h call reply (Err r) Serves → MachineRefuses h call
    (fault_of_service r)
machine_refuses h call reply Serves service.DiskFault tells is = absurd tells
machine_refuses h call reply Serves service.NoMemory tells is = absurd tells
machine_refuses h call reply Serves service.Reopen tells is = absurd tells
machine_refuses h call reply Serves (service.Malformed place) tells is = absurd tells
machine_refuses h call reply Serves (service.BadPage page) tells is = is
machine_refuses h call reply Serves r tells is = (r, refl, is.0)

-- ---- refusals besides those of a table

module _ (X : Type 0) (Further : Refusal → Type 0) (table : (last : ℕ) → Option Refusal) (last : ℕ) where
  abbrev Refuses : Refusal → Type 0
  Refuses r = TableAnswersOr {X = X} Further table (Err (fault_of_service r))

  further_refuses : (r : Refusal) → table last ≡ None → Further r → Refuses r
  further_refuses (service.BadPage page) none further = tt
  further_refuses r none further = (r, refl, (last, inr (none, further)))

  first_refuses : (r : Refusal) → table last ≡ Some r → Refuses r
  first_refuses (service.BadPage page) is = tt
  first_refuses r is = (r, refl, (last, inl is))

  fault_refuses : (r : Refusal) → TellsOfDisk r → IsFault r → Refuses r
  fault_refuses (service.BadPage page) tells fault = tt
  fault_refuses service.DiskFault tells fault = absurd tells
  fault_refuses service.NoMemory tells fault = absurd tells
  fault_refuses _ tells fault = absurd fault

  pub by_table_or : (T : Type 0) (o : Option Refusal) → table last ≡ o → (r : Refusal) → TellsOfDisk r
      → IsByTable {X = T} (λ why. IsFault why ⊎ Further why) o (Err r) → Refuses r
  by_table_or T None none r tells (inl fault) = fault_refuses r tells fault
  by_table_or T None none r tells (inr further) = further_refuses r none further
  by_table_or T (Some q) some r tells is =
      first_refuses r (some ∙ ap (λ (x : Refusal). Some x) (same_err {X = T} r q is))

-- ---- what a command comes to

module _ {X : Type 0} (Over : Served RootRecord → Result X CommandFault → Type 0) (ByTable : Result X CommandFault → Type 0)
    (ByMachine : History → Result X CommandFault → Type 0) where
  abbrev pub ComesBy : FoundDisk → Result X CommandFault → Type 0
  ComesBy t result = ComesOver Over ByTable ByMachine t result

  abbrev IsOneOver : Option Image → Result X CommandFault → Type 0
  IsOneOver found result = IsResultOver Over ByTable ByMachine found result

  -- of a service that was opened
  module _ (t : FoundDisk) (root : RootRecord) (pages : Option Image) (opens : IsOpened t.found root pages) where
    pub opened_result : (r : Result X CommandFault) → ((ps : Image) → pages ≡ Some ps → Over (Opened (written_record root ps)) r)
        → ByTable r → ((h : History) → ReadsAsHistory t.found h → ByMachine h r) → IsOneOver t.found r
    opened_result r is table machine = record {
      answer = λ image told. let o = opens image told in (Opened (written_record root o.0), o.1, is o.0 o.2);
      table = table;
      machine = machine;
    }

    by_refusal : (r : Refusal) → CanCome r → (failed {X = X} r ≡ Err service.DiskFault → Rose t.before t.after)
        → (TellsOfDisk r → IsOneOver t.found (Err (fault_of_service r)))
        → ComesBy t (Err (fault_of_service r))
    by_refusal service.DiskFault other rose tells = rose refl
    by_refusal service.NoMemory other rose tells = tt
    by_refusal service.Reopen other rose tells = absurd (other tt)
    by_refusal (service.Malformed place) other rose tells = absurd (other tt)
    by_refusal _ other rose tells = tells tt

    pub opened_refusal : (r : Refusal) (came : CommandFault) → came ≡ fault_of_service r → CanCome r
        → (failed {X = X} r ≡ Err service.DiskFault → Rose t.before t.after)
        → (TellsOfDisk r → IsOneOver t.found (Err (fault_of_service r))) → ComesBy t (Err came)
    opened_refusal r came same other rose tells = subst (λ (f : CommandFault). ComesBy t (Err f)) (sym same)
        (by_refusal r other rose tells)

  -- of a disk that isn't opened
  pub unopened_comes : (told_so : (g : StoreFault) → Over (Unopened g) (Err (fault_of_store g)))
      (free : (cause : StoreCause) → ByTable (Err (fault.Unserved cause))) (found : Option Image) (before after : ℕ)
      (f : StoreFault) → ((image : Image) → found ≡ Some image → (f ≡ store.DiskFault) ⊎ IsNotOpenedFor image f)
      → (f ≢ store.Taken) × (f ≢ store.NoMemory) → (f ≡ store.DiskFault → Rose before after) → (came : CommandFault)
      → came ≡ fault_of_store f → ComesBy (found_disk found before after) (Err came)
  unopened_comes told_so free found before after f unopened answers rose came is =
      subst (λ (w : CommandFault). ComesBy (found_disk found before after) (Err w)) (sym is)
      (unopened_tells (λ w. ComesBy (found_disk found before after) (Err w)) IsNotOpenedFor found f
      (λ cause same none. record {
        answer = λ image told.
            (Unopened f, none image told, subst (λ (w : CommandFault). Over (Unopened f) (Err w)) same (told_so f));
        table = free cause;
        machine = λ h reads. absurd (stands_opened sha256 reads.image h.name h f reads.stands
            (none reads.image reads.told));
      }) unopened answers rose)

-- the same of a command whose answer is a function of what the disk is served as
module _ {X : Type 0} (finds : RootRecord → Image → Found (Result X Refusal)) (ByTable : Result X CommandFault → Type 0)
    (ByMachine : History → Result X CommandFault → Type 0) where
  -- of a service that was opened, and what it found
  module _ (t : FoundDisk) (root : RootRecord) (pages : Option Image) (opens : IsOpened t.found root pages) where
    pub done : (x : X) → ((ps : Image) → pages ≡ Some ps → finds root ps ≡ Is (Ok x)) → ByTable (Ok x)
        → ((h : History) → ReadsAsHistory t.found h → ByMachine h (Ok x)) → ComesTo finds ByTable ByMachine t (Ok x)
    done x is table machine = opened_result (IsTheAnswer finds) ByTable ByMachine t root pages opens (Ok x)
        (λ ps told. sym (ap result_of (is ps told))) table machine

    pub refused : (r : Refusal) (came : CommandFault) → came ≡ fault_of_service r → CanCome r
        → (failed {X = X} r ≡ Err service.DiskFault → Rose t.before t.after)
        → ((ps : Image) → pages ≡ Some ps → IsRefusalFound r (finds root ps))
        → (TellsOfDisk r → ByTable (Err (fault_of_service r)))
        → (TellsOfDisk r → (h : History) → ReadsAsHistory t.found h → ByMachine h (Err (fault_of_service r)))
        → ComesTo finds ByTable ByMachine t (Err came)
    refused r came same other rose is table machine =
        opened_refusal (IsTheAnswer finds) ByTable ByMachine t root pages opens r came same other rose (λ tells.
        opened_result (IsTheAnswer finds) ByTable ByMachine t root pages opens (Err (fault_of_service r))
        (λ ps told. found_result r (finds root ps) tells (is ps told)) (table tells) (machine tells))

  pub unserved : (free : (cause : StoreCause) → ByTable (Err (fault.Unserved cause))) (found : Option Image)
      (before after : ℕ) (f : StoreFault)
      → ((image : Image) → found ≡ Some image → (f ≡ store.DiskFault) ⊎ IsNotOpenedFor image f) → (f ≢ store.Taken)
      × (f ≢ store.NoMemory) → (f ≡ store.DiskFault → Rose before after)
      → (came : CommandFault) → came ≡ fault_of_store f
      → ComesTo finds ByTable ByMachine (found_disk found before after) (Err came)
  unserved free found before after f unopened answers rose came is = unopened_comes (IsTheAnswer finds) ByTable
      ByMachine (λ g. refl) free found before after f unopened answers rose came is

  -- ---- one answer

  module _ (image : Image) (before after : ℕ) where
    pub one_answer : (one other : Result X CommandFault) → TellsContent one → TellsContent other
        → ComesTo finds ByTable ByMachine (found_disk (Some image) before after) one
        → ComesTo finds ByTable ByMachine (found_disk (Some image) before after) other
        → one ≡ other
    one_answer one other tells tells' a b =
        let Is : Option Image → Result X CommandFault → Type 0 = IsResult finds ByTable ByMachine in
        let x = (told_result Is (found_disk (Some image) before after) one tells a).answer image refl in
        let y = (told_result Is (found_disk (Some image) before after) other tells' b).answer image refl in
        x.2 ∙ ap (λ (s : Served RootRecord). answer_over finds s) (served_once image x.0 y.0 x.1 y.1) ∙ sym y.2
