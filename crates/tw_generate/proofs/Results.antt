-- What holds of an answer, where another thing did.
use Rattle.std.proofs.Common.{◌≡◌, ℕ, ◌≤◌, List, [], ◌∷◌, length, Bool, true, false, refl, sym, subst, inl, inr}
use Rattle.std.proofs.Common.{◌⊎◌, ◌∙◌, arith}
use Rattle.std.specs.Prelude.{Option, Result, Ok, Err, IfErr, IfOk, MatchBool, Some}
use Rattle.tw_base.specs.declared.kinds.failure.ReadFault.{ReadFault}
use Rattle.tw_base.specs.declared.kinds.failure.ReadFault.TheVariants.{Malformed, NoMemory}
use Rattle.tw_base.specs.format.Formats.{Format, ReadsAs, Spells}
use Rattle.tw_base.specs.declared.history.report.Report.{Report}
use Rattle.tw_base.specs.declared.history.thread.Thread.{Thread}
use Rattle.tw_base.specs.format.Codecs.{IsUnambiguous}
use Rattle.tw_base.specs.history.History.{History}
use Rattle.tw_base.specs.history.HistoryCodec.{history_codec}
use Rattle.tw_base.specs.history.Sound.{IsSound}
use Rattle.tw_chain.specs.Reasons.{IsVerdict}
use Rattle.tw_chain.specs.declared.verdict.Verdict.{Verdict}
use Rattle.tw_chain.specs.declared.verdict.Verdict.TheVariants.{No, Yes}
use Rattle.tw_disk.specs.Disk.{DiskView, IsAtRest}
use Rattle.tw_disk.specs.Image.{Image}
use Rattle.tw_disk.specs.MemDisk.{mem_disk_view, pages_of}
use Rattle.tw_disk.specs.declared.limits.TheConstants.{FIRST_PAGE}
use Rattle.tw_disk.specs.declared.memory_disk.MemDisk.{MemDisk}
use Rattle.tw_chain.specs.declared.proof.PrecedenceProof.{PrecedenceProof}
use Rattle.tw_chain.specs.declared.proof.Proof.{Proof}
use Rattle.tw_history.specs.Refusals.{ReadsHistory}
use Rattle.tw_join.specs.Joining.{Joins, joined_proof}
use Rattle.tw_join.specs.Joining.Taken.{Nothing}
use Rattle.tw_join.specs.declared.joining.JoinFault.{JoinFault}
use Rattle.tw_join.specs.declared.joining.JoinFault.TheVariants as join
use Rattle.tw_history.specs.declared.fault.HistoryFault.{HistoryFault}
use Rattle.tw_history.specs.declared.fault.HistoryFault.TheVariants as history
use Rattle.tw_pages.specs.Slots.{IsTaken}
use Rattle.tw_pages.specs.declared.open.StoreFault.{StoreFault}
use Rattle.tw_pages.specs.declared.open.StoreFault.TheVariants.{DiskFault, Taken}
use Rattle.tw_service.specs.Serves.{Serves, name_of}
use Rattle.tw_service.specs.Stands.{StandsFor}
use Rattle.tw_service.specs.declared.service.Service.{Service}
use Rattle.tw_generate.specs.Generating.{IsHeld}

pub if-ok : {T E : Type 0} {P Q : T → Type 0} (r : Result T E) → ((v : T) → P v → Q v) → IfOk r P → IfOk r Q
if-ok (Ok v) goes is = goes v is
if-ok (Err e) goes is = tt

pub list-same : {T : Type 0} (a b c x y z : T) → a ≡ x → b ≡ y → c ≡ z → a ∷ b ∷ c ∷ [] ≡ x ∷ y ∷ z ∷ []
list-same a b c x y z p q r = cc

pub first-case : (b : Bool) (P Q : Type 0) → b ≡ true → P → MatchBool b P Q
first-case b P Q is p = subst (λ t. MatchBool t P Q) (sym is) p

pub second-case : (b : Bool) (P Q : Type 0) → b ≡ false → Q → MatchBool b P Q
second-case b P Q is q = subst (λ t. MatchBool t P Q) (sym is) q

-- a disk that stands for the history of its service
pub held : {D H : Type 0} {g : _} {k : _} (dig : List ℕ → List ℕ) (view : D → DiskView) (s : Service D H g k)
    (d : DiskView) (h : History)
    → Serves dig view s h → IsAtRest d (λ image. StandsFor dig image (name_of s) h) → IsHeld dig d h
held dig view s d h serves rest = record {
  image = rest.image;
  told = rest.told;
  only = rest.only;
  has = subst (λ n. StandsFor dig rest.image n h) (sym serves.keeps.named) rest.has;
}

-- ---- what is read of bytes that are a word of the format

-- there may be no memory for it, and nothing else stops it
pub read-only : {X Y : Type 0} (view : Y → X) (f : Format X) (bytes : List ℕ) (x : X) (result : Result Y ReadFault)
    → Spells f bytes x → ReadsAs view f bytes result
    → IfErr result (λ fault. fault ≡ NoMemory)
read-only view f bytes x (Ok y) spelled reads = tt
read-only view f bytes x (Err (Malformed place)) spelled reads = absurd (reads.0 x spelled)
read-only view f bytes x (Err NoMemory) spelled reads = refl

-- and the bytes spell it
pub read-is : {X Y : Type 0} (view : Y → X) (f : Format X) (bytes : List ℕ) (y : Y) (result : Result Y ReadFault)
    → result ≡ Ok y → ReadsAs view f bytes result → Spells f bytes (view y)
read-is view f bytes y result is reads = subst (ReadsAs view f bytes) is reads

-- so do the bytes that it was read of
pub spelled-by : {X : Type 0} (f : Format X) (slice bytes : List ℕ) (x : X) (result : Result X ReadFault)
    → slice ≡ bytes → result ≡ Ok x → ReadsAs (λ (y : X). y) f slice result → Spells f bytes x
spelled-by {X = X} f slice bytes x result same is reads =
    subst (λ (b : List ℕ). Spells f b x) same (read-is (λ (y : X). y) f slice x result is reads)

-- a file that has a history is refused for want of memory alone
pub history-only : (laws : IsUnambiguous history_codec) (bytes : List ℕ) (h : History)
    (result : Result History HistoryFault) → ReadsHistory bytes (Ok h) → ReadsHistory bytes result
    → IfErr result (λ fault. fault ≡ history.NoMemory)
history-only laws bytes h (Ok k) is reads = tt
history-only laws bytes h (Err (history.TooLong count)) is reads = absurd (omega (arith, is.0, reads.0))
history-only laws bytes h (Err (history.Malformed place)) is reads = absurd (reads.1 h is.1)
history-only laws bytes h (Err (history.Unsound step rule)) is reads =
    let same : h ≡ reads.1.0 = laws.one_value bytes h reads.1.0 is.1 reads.1.1 in
    let sound : IsSound reads.1.0 = subst IsSound same is.2 in
    let first = reads.1.2 in
    absurd (first.broken ((sound.steps first.i first.s first.there.1).rules first.broken_rule))
history-only laws bytes h (Err history.NoMemory) is reads = refl

-- parts that fit together are refused for want of memory alone
pub joined-only : (parts : List Proof) (whole : PrecedenceProof) (result : Result Proof JoinFault)
    → joined_proof Nothing 1 parts ≡ Ok whole → Joins parts result → IfErr result (λ fault. fault ≡ join.NoMemory)
joined-only parts whole (Ok proof) fit joins = tt
joined-only parts whole (Err (join.Gap place)) fit joins =
    absurd (let clash : ◌≡◌ {A = Result PrecedenceProof ℕ} (Ok whole) (Err place) = sym fit ∙ joins in cc)
joined-only parts whole (Err join.NoMemory) fit joins = refl

-- ---- verdicts

-- what is accepted isn't rejected
pub accepted-only : (dig : List ℕ → List ℕ) (anchors : List Thread) (strict : Bool) (bytes : List ℕ) (report : Report)
    (verdict : Verdict)
    → IsVerdict dig anchors strict bytes (Yes report) → IsVerdict dig anchors strict bytes verdict
    → (told : Report) × (verdict ≡ Yes told)
accepted-only dig anchors strict bytes report (Yes told) is other = (told, refl)
accepted-only dig anchors strict bytes report (No reason) is other =
    let carries = other.0 is.0 in absurd (carries.1 (is.1 carries.0))

-- ---- disks

-- a new disk has no store
pub blank : (disk : MemDisk) → pages_of disk ≡ [] → (image : Image) × ((mem_disk_view disk).content ≡ Some image)
    × (IsTaken image → ⊥)
blank disk none = (
  pages_of disk,
  refl,
  λ taken. subst (λ (image : Image). FIRST_PAGE ≤ length image → ⊥) (sym none) (λ four. omega (arith, four)) taken.0,
)

-- where a disk has no store, none is made but for a fault of the disk
pub disk-only : {S D : Type 0} (content : Option Image) (image : Image) (result : Result S (D × StoreFault))
    → content ≡ Some image → (IsTaken image → ⊥)
    → IfErr result (λ e. e.1 ≡ Taken → (c : Image) → content ≡ Some c → IsTaken c)
    → IfErr result (λ e. (e.1 ≡ Taken) ⊎ (e.1 ≡ DiskFault))
    → IfErr result (λ e. e.1 ≡ DiskFault)
disk-only content image (Ok s) is free taken answers = tt
disk-only content image (Err e) is free taken answers = elim answers [
  | inl was ↦ absurd (free (taken was image is))
  | inr fault ↦ fault
]
