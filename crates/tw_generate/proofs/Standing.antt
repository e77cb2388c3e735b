-- What holds of three histories wherever acts lead: they are sound, short, and each thread that one of them received is
-- one of theirs.
use Rattle.std.proofs.Common.{◌≡◌, ℕ, suc, ◌≤◌, List, [], ◌∷◌, length, Bool, false, refl, ap, ◌∙◌, arith}
use Rattle.std.specs.Prelude.{Option, Some, if◌then◌else◌}
use Rattle.std.specs.Str.{bytes_eq}
use Rattle.tw_base.specs.declared.history.thread.Entry.{Entry}
use Rattle.tw_base.specs.history.Auth.{auth}
use Rattle.tw_base.specs.history.Family.{AllSound, HasHistory, HasThread, history_of}
use Rattle.tw_base.specs.history.History.{History, entry_at}
use Rattle.tw_base.specs.history.Sound.{IsSound}
use Rattle.tw_base.specs.kinds.Lists.{Each}
use Rattle.tw_generate.specs.Schedules.{Trio, Who, alpha_name, beta_name, gamma_name, trio_history, with_history}
use Rattle.tw_generate.specs.Schedules.Who.{Alpha, Beta, Gamma}
use Rattle.tw_generate.specs.Summing.{trio_family}
use Rattle.tw_generate.proofs.HeardSteps.{same-name}
use Rattle.tw_generate.proofs.Onward.{AllGoOn, GoesOn, on-same, thread-on}

-- ---- their names

pub record AreNamed (t : Trio) : Type 0 where
  pub alpha : t.alpha.name ≡ alpha_name
  pub beta : t.beta.name ≡ beta_name
  pub gamma : t.gamma.name ≡ gamma_name

abbrev first_of : (a : History) (family : List History) (n : List ℕ) → Bool → Option History
first_of a family n b = if b then Some a else history_of family n

-- each is found by its name
pub has-own : (who : Who) (t : Trio) → AreNamed t → HasHistory (trio_family t) (trio_history who t).name
    (trio_history who t)
has-own Alpha t names = ap (first_of t.alpha (t.beta ∷ t.gamma ∷ []) t.alpha.name) (same-name t.alpha.name)
has-own Beta t names =
    let apart : bytes_eq t.alpha.name t.beta.name ≡ false = ap (λ n. bytes_eq n t.beta.name) names.alpha
    ∙ ap (bytes_eq alpha_name) names.beta in
    ap (first_of t.alpha (t.beta ∷ t.gamma ∷ []) t.beta.name) apart ∙ ap (first_of t.beta (t.gamma ∷ []) t.beta.name)
    (same-name t.beta.name)
has-own Gamma t names =
    let one : bytes_eq t.alpha.name t.gamma.name ≡ false = ap (λ n. bytes_eq n t.gamma.name) names.alpha
    ∙ ap (bytes_eq alpha_name) names.gamma in
    let two : bytes_eq t.beta.name t.gamma.name ≡ false = ap (λ n. bytes_eq n t.gamma.name) names.beta
    ∙ ap (bytes_eq beta_name) names.gamma in
    ap (first_of t.alpha (t.beta ∷ t.gamma ∷ []) t.gamma.name) one ∙ ap (first_of t.beta (t.gamma ∷ []) t.gamma.name)
    two
    ∙ ap (first_of t.gamma [] t.gamma.name) (same-name t.gamma.name)

module _ (dig : List ℕ → List ℕ) where
  -- each thread that the history received is one of the family's
  abbrev pub AllHad : List History → History → Type 0
  AllHad fam h = (k : ℕ) (e : Entry) → entry_at h k ≡ Some e → HasThread dig fam e.thread

  had-on : (before after : List History) (h : History) → AllGoOn dig before after → AllHad before h → AllHad after h
  had-on before after h on had k e is = thread-on dig before after on e.thread (had k e is)

  -- the histories have these names, are sound, have at most so many steps, and received each other's threads alone
  pub record Stand (t : Trio) (most : ℕ) : Type 0 where
    pub names : AreNamed t
    pub sound : AllSound (trio_family t)
    pub few : Each (λ (h : History). length h.steps ≤ most) (trio_family t)
    pub had : Each (AllHad (trio_family t)) (trio_family t)

  pub each-who : (P : History → Type 0) (who : Who) (t : Trio) → Each P (trio_family t) → P (trio_history who t)
  each-who P Alpha t all = all.0
  each-who P Beta t all = all.1.0
  each-who P Gamma t all = all.1.1.0

  -- the thread of a step
  pub own-thread : (who : Who) (t : Trio) (step : ℕ) → AreNamed t → step ≤ length (trio_history who t).steps
      → HasThread dig (trio_family t)
      (record { from = (trio_history who t).name; step = step; auth = auth dig (trio_history who t) step })
  own-thread who t step names within = (trio_history who t, has-own who t names, within, refl)

  -- ---- where one of them goes on

  pub put-on : (who : Who) (t : Trio) (h : History) → GoesOn dig (trio_history who t) h → AllGoOn dig (trio_family t)
      (trio_family (with_history who h t))
  put-on Alpha t h on = (on, (on-same dig t.beta, (on-same dig t.gamma, tt)))
  put-on Beta t h on = (on-same dig t.alpha, (on, (on-same dig t.gamma, tt)))
  put-on Gamma t h on = (on-same dig t.alpha, (on-same dig t.beta, (on, tt)))

  each-put : (P Q : History → Type 0) (who : Who) (t : Trio) (h : History) → ((g : History) → P g → Q g) → Q h
      → Each P (trio_family t) → Each Q (trio_family (with_history who h t))
  each-put P Q Alpha t h more here all = (here, (more t.beta all.1.0, (more t.gamma all.1.1.0, tt)))
  each-put P Q Beta t h more here all = (more t.alpha all.0, (here, (more t.gamma all.1.1.0, tt)))
  each-put P Q Gamma t h more here all = (more t.alpha all.0, (more t.beta all.1.0, (here, tt)))

  names-put : (who : Who) (t : Trio) (h : History) → h.name ≡ (trio_history who t).name → AreNamed t
      → AreNamed (with_history who h t)
  names-put Alpha t h same names = record { alpha = same ∙ names.alpha; beta = names.beta; gamma = names.gamma }
  names-put Beta t h same names = record { alpha = names.alpha; beta = same ∙ names.beta; gamma = names.gamma }
  names-put Gamma t h same names = record { alpha = names.alpha; beta = names.beta; gamma = same ∙ names.gamma }

  pub stand-put : (who : Who) (t : Trio) (h : History) (most : ℕ) → Stand t most → GoesOn dig (trio_history who t) h
      → IsSound h
      → length h.steps ≤ suc (length (trio_history who t).steps) → AllHad (trio_family (with_history who h t)) h
      → Stand (with_history who h t) (suc most)
  stand-put who t h most s on sound short had =
      let before : length (trio_history who t).steps ≤ most = each-who (λ (g : History). length g.steps ≤ most) who t
      s.few in record {
        names = names-put who t h on.name s.names;
        sound = each-put IsSound IsSound who t h (λ g is. is) sound s.sound;
        few = each-put (λ (g : History). length g.steps ≤ most) (λ (g : History). length g.steps ≤ suc most) who t h
            (λ g few. omega (arith, few)) (omega (arith, short, before)) s.few;
        had = each-put (AllHad (trio_family t)) (AllHad (trio_family (with_history who h t))) who t h
            (λ g all. had-on (trio_family t) (trio_family (with_history who h t)) g (put-on who t h on) all) had s.had;
      }
