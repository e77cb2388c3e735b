-- What a history has heard of other services, with one more step.
use Rattle.std.proofs.Common.{◌≡◌, ◌⊎◌, ℕ, suc, List, [], ◌∷◌, ◌++◌, length, Bool, true, false, refl, ap, sym, ◌∙◌, inl}
use Rattle.std.proofs.Common.{inr, arith}
use Rattle.std.specs.Prelude.{Option, Some, None, find, nat_lt, reverse, if◌then◌else◌}
use Rattle.std.specs.Option.{option_map_or, option_to_list}
use Rattle.std.specs.Str.{bytes_eq}
use Rattle.std.proofs.lemmas.Bool.{le-ltb, lt-ltb}
use Rattle.std.proofs.lemmas.Slice.Eq.{bytes_eq-Decides}
use Rattle.std.proofs.lemmas.List.{append-nil, length_push, reverse-append}
use Rattle.tw_base.specs.declared.history.content.Content.{Content}
use Rattle.tw_base.specs.declared.history.content.Content.TheVariants.{Received}
use Rattle.tw_base.specs.declared.history.thread.Entry.{Entry}
use Rattle.tw_base.specs.declared.history.thread.Thread.{Thread}
use Rattle.tw_base.specs.history.History.{History, Step, plus, received, thread_of}
use Rattle.tw_generate.specs.Playing.{HasHeard}
use Rattle.tw_generate.specs.Schedules.{last_heard, last_received_step}
use Rattle.tw_generate.proofs.Onward.{entry_of, received-more}

last_step-more : (from : List ℕ) (es : List Entry) (e : Entry) → last_received_step from (es ++ e ∷ [])
    ≡ (if bytes_eq e.thread.from from then e.thread.step else last_received_step from es)
last_step-more from es e =
    ap (λ (l : List Entry). option_map_or (λ (x : Entry). x.thread.step)
    (find (λ (x : Entry). bytes_eq x.thread.from from) l) 0) (reverse-append es (e ∷ []))
    ∙ by (bytes_eq e.thread.from from) (find (λ (x : Entry). bytes_eq x.thread.from from) (reverse es))
  where
    by : (b : Bool) (o : Option Entry) → option_map_or (λ (x : Entry). x.thread.step) (if b then Some e else o) 0
        ≡ (if b then e.thread.step else option_map_or (λ (x : Entry). x.thread.step) o 0)
    by true o = refl
    by false o = refl

module _ (h : History) (s : Step) where
  abbrev with_thread : Option Thread → List Entry
  with_thread o = received h (length h.steps) ++ option_to_list (entry_of (suc (length h.steps)) o)

  -- a step that received nothing
  pub heard-nothing : thread_of (Some s) ≡ None → (n : List ℕ) → last_heard (plus h s) n ≡ last_heard h n
  heard-nothing none n =
      ap (last_received_step n) (received-more h s ∙ ap with_thread none ∙ append-nil (received h (length h.steps)))

  -- a step that received a thread
  pub heard-thread : (t : Thread) → s.content ≡ Received t → (n : List ℕ) → last_heard (plus h s) n
      ≡ (if bytes_eq t.from n then t.step else last_heard h n)
  heard-thread t is n =
      let some : thread_of (Some s) ≡ Some t =
      ap (λ (c : Content). thread_of (Some (record { content = c; time = s.time; fresh = s.fresh; root = s.root })))
      is in
      ap (last_received_step n) (received-more h s ∙ ap with_thread some)
      ∙ last_step-more n (received h (length h.steps)) (record { thread = t; archived = suc (length h.steps) })

pub same-name : (n : List ℕ) → bytes_eq n n ≡ true
same-name n = (bytes_eq-Decides n n).1 refl

not-less : (n : ℕ) → nat_lt n n ≡ false
not-less n = le-ltb n n (omega arith)

if-true : (b : Bool) (x y : ℕ) → b ≡ true → (if b then x else y) ≡ x
if-true b x y is = rw is

if-false : (b : Bool) (x y : ℕ) → b ≡ false → (if b then x else y) ≡ y
if-false b x y is = rw is

-- a message of a service's last step, which its receiver knew or archives
pub has-heard : (a b next : History) (t : Thread) (Rest : Type 0) (Sound : Type 0) → t.from ≡ a.name
    → t.step ≡ length a.steps
    → (next ≡ b) ⊎ (Rest × ((s : Step) × (next ≡ plus b s) × (s.content ≡ Received t) × (s.time ≡ None)) × Sound)
    → (last : ℕ) → last ≡ last_heard b a.name → HasHeard a b next (if nat_lt (length b.steps) (length next.steps)
    then length a.steps else last)
has-heard a b next t Rest Sound from at goes last is = elim goes [
  | inl same ↦
      let still : nat_lt (length b.steps) (length next.steps) ≡ false =
      ap (λ (h : History). nat_lt (length b.steps) (length h.steps)) same ∙ not-less (length b.steps) in
      record {
        name = ap (λ (h : History). h.name) same;
        last_is = if-false _ (length a.steps) last still ∙ is ∙ ap (λ (h : History). last_heard h a.name) (sym same);
        others = λ n apart. ap (λ (h : History). last_heard h n) same;
      }
  | inr more ↦
      let s : Step = more.1.0 in
      let grown : next ≡ plus b s = more.1.1 in
      let longer : nat_lt (length b.steps) (length next.steps) ≡ true =
      ap (λ (h : History). nat_lt (length b.steps) (length h.steps)) grown ∙ lt-ltb (length b.steps)
      (length (b.steps ++ s ∷ [])) (omega (arith, length_push b.steps s)) in
      record {
        name = ap (λ (h : History). h.name) grown;
        last_is =
            if-true _ (length a.steps) last longer ∙ sym at
            ∙ sym (if-true (bytes_eq t.from a.name) t.step (last_heard b a.name) (ap (λ n. bytes_eq n a.name) from
            ∙ same-name a.name))
            ∙ sym (heard-thread b s t more.1.2 a.name)
            ∙ ap (λ (h : History). last_heard h a.name) (sym grown);
        others = λ n apart.
            ap (λ (h : History). last_heard h n) grown ∙ heard-thread b s t more.1.2 n
            ∙ if-false (bytes_eq t.from n) t.step (last_heard b n) (ap (λ m. bytes_eq m n) from ∙ apart);
      }
]
