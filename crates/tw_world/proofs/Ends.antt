-- How a line ends that may have added a step.
use Rattle.std.proofs.Common.{◌≡◌, ◌⊎◌, ℕ, length, refl, ap, ◌∙◌, subst, inl, inr, true, false}
use Rattle.std.specs.Prelude.{Option, Some, None}
use Rattle.sha2.specs.Sha256.{sha256}
use Rattle.tw_base.specs.history.History.{History}
use Rattle.tw_disk.specs.Disk.{IsAtRest}
use Rattle.tw_disk.specs.Image.{Image}
use Rattle.tw_disk.specs.MemDisk.{mem_disk_view}
use Rattle.tw_disk.specs.declared.memory_disk.MemDisk.{MemDisk}
use Rattle.tw_service.specs.Serves.{Serves, disk_of, name_of}
use Rattle.tw_service.specs.Stands.{IsImageOfHistory, StandsFor}
use Rattle.tw_service.specs.declared.service.Service.{Service}
use Rattle.tw_world.specs.Hosts.{Answered, Given, LineEnds, RestsAs, StandsForGood, crash_told, own_answer}
use Rattle.tw_world.specs.Runs.{answer_to_reply}
use Rattle.tw_world.specs.declared.told.Answer.{Answer}
use Rattle.tw_world.specs.declared.told.Told.{Told}
use Rattle.tw_world.specs.declared.told.Told.TheVariants.{Crashed, Plain, Stopped}
use Rattle.tw_world.proofs.Resting.{stands-closed, stands-each}

module _ {H : Type 0} {g : _} {k : _} (given : Given) (h : History) (service : Service MemDisk H g k) (after : MemDisk)
    (steps : ℕ) (told : Told) where
  -- no crash waited
  pub ends-plain : (a : Answer) → told ≡ Plain a → ((x : History) → Serves sha256 mem_disk_view service x
      → RestsAs after steps x) → Answered given h service (Some a) → LineEnds given false h told after steps
  ends-plain a is rests answered =
      record {
        next = answered.next;
        named = answered.named;
        goes = inl (answered.reply, answered.takes, is ∙ ap Plain answered.is);
        rests = rests answered.next answered.serves;
      }

  module _ (disk : MemDisk) (closed : disk ≡ disk_of service)
      (stands : (x : History) → Serves sha256 mem_disk_view service x → IsAtRest (mem_disk_view disk)
      (λ i. StandsFor sha256 i (name_of service) x))
      (reopens : (one other : History) → ((c : Image) → (mem_disk_view disk).may_leave c → IsImageOfHistory sha256 one c
      ⊎ IsImageOfHistory sha256 other c) → RestsAs after steps one ⊎ RestsAs after steps other) where
    -- it was opened again as this history
    as-one : (x : History) → RestsAs after steps x ⊎ RestsAs after steps x → RestsAs after steps x
    as-one x (inl r) = r
    as-one x (inr r) = r

    -- a crash waited, and came after the answer
    answered-crash : (a : Answer) → told ≡ Crashed a steps → Answered given h service (Some a) → LineEnds given true h
        told after steps
    answered-crash a is answered =
        let next : History = answered.next in
        let good : StandsForGood disk next = stands-closed disk (name_of service) next (stands next answered.serves) in
        let rests : RestsAs after steps next =
        as-one next (reopens next next (λ c may. inl (stands-each disk next good c may))) in
        record {
          next = next;
          named = answered.named;
          goes = inl (
            answered.reply,
            answered.takes,
            inl (is ∙ ap (λ x. Crashed x steps) answered.is
                ∙ ap (Crashed (answer_to_reply (own_answer given next answered.reply) answered.reply)) rests.0),
          );
          rests = rests;
        }

    -- nothing was done
    undone : told ≡ Stopped steps → (x : History) → x ≡ h → RestsAs after steps x → LineEnds given true h told after
        steps
    undone is x same rests = record {
      next = x;
      named = ap (λ (y : History). y.name) same;
      goes = inr (refl, same, is ∙ ap Stopped (rests.0 ∙ ap (λ (y : History). length y.steps) same));
      rests = rests;
    }

    -- it stopped the line
    stopped-crash : told ≡ Stopped steps → Answered given h service None → LineEnds given true h told after steps
    stopped-crash is answered =
        let next : History = answered.next in
        let leaves : (c : Image) → (mem_disk_view disk).may_leave c → IsImageOfHistory sha256 h c ⊎ IsImageOfHistory sha256 next c =
        λ c may. answered.leaves c (subst (λ (d : MemDisk). (mem_disk_view d).may_leave c) closed may) in
        elim (reopens h next leaves) [
          | inl rests ↦ undone is h refl rests
          | inr rests ↦ elim answered.is_next [
            | inl same ↦ undone is next same rests
            | inr replied ↦
                record {
                  next = next;
                  named = answered.named;
                  goes = inl (replied.0, replied.1, inr (is ∙ ap Stopped rests.0));
                  rests = rests;
                }
          ]
        ]

    pub ends-crashed : (answer : Option Answer) → told ≡ crash_told answer steps → Answered given h service answer
        → LineEnds given true h told after steps
    ends-crashed (Some a) is answered = answered-crash a is answered
    ends-crashed None is answered = stopped-crash is answered

module _ {H : Type 0} {g : _} {k : _} (given : Given) (h : History) (service : Service MemDisk H g k) (disk : MemDisk)
    (closed : disk ≡ disk_of service)
    (stands : (x : History) → Serves sha256 mem_disk_view service x → IsAtRest (mem_disk_view disk)
    (λ i. StandsFor sha256 i (name_of service) x)) where
  -- what a crash may leave stands for a history that it has, or for the next one
  pub may-leave : (answer : Option Answer) → Answered given h service answer
      → (one : History) × (other : History) × ((c : Image) → (mem_disk_view disk).may_leave c → IsImageOfHistory sha256 one c
      ⊎ IsImageOfHistory sha256 other c)
  may-leave (Some a) answered =
      let next : History = answered.next in
      let good : StandsForGood disk next = stands-closed disk (name_of service) next (stands next answered.serves) in
      (next, next, λ c may. inl (stands-each disk next good c may))
  may-leave None answered =
      (h, answered.next, λ c may. answered.leaves c (subst (λ (d : MemDisk). (mem_disk_view d).may_leave c) closed may))
