-- The rows of monitors and processes: each has its own shared words.
use Rattle.std.proofs.Common.{◌≡◌, ◌≤◌, inl, inr, ℕ, zero, suc, ◌+◌, List, [], ◌∷◌, Option, Some, None, refl, ap, subst, slice_get, length, arith}
use Rattle.cp_model.specs.Types.{GlobalScope}
use Rattle.cp_model_program.specs.Programs as code
use Rattle.cp_model_program.specs.Layout.{component_words}
use Rattle.cp_model_program.specs.Plans.{plan_of_component}
use Rattle.cp_model_program.specs.IsProgramFor.{Apart}
use Rattle.cp_model_program.specs.Compile.{Owner, monitors_at, processes_at, sum_words, waiting_words}

module _ (g : GlobalScope) where
  -- ---- Monitors

  abbrev pub monitor_row : ℕ → Owner → code.Monitor
  monitor_row at x = record { start = at; body = x.body; words = component_words g x.system; starts = plan_of_component g x.system }

  pub monitor_there : (xs : List Owner) (at i : ℕ) (x : Owner) → slice_get xs i ≡ Some x
      → (n : ℕ) × (slice_get (monitors_at g at xs) i ≡ Some (monitor_row n x)) × (n + component_words g x.system ≤ at + sum_words (component_words g) xs)
  monitor_there [] at i x h = absurd (cc)
  monitor_there (y ∷ ys) at zero x h =
      (at, ap (λ o. elim o [ None ↦ None | Some z ↦ Some (monitor_row at z) ]) h, omega (arith, ap (size_in x) h))
    where
      size_in : Owner → Option Owner → ℕ
      size_in z None = component_words g z.system
      size_in z (Some w) = component_words g w.system
  monitor_there (y ∷ ys) at (suc i) x h =
      let k = monitor_there ys (at + component_words g y.system) i x h in (k.0, k.1, omega (arith, k.2))

  pub monitors_counted : (xs : List Owner) (at : ℕ) → length (monitors_at g at xs) ≡ length xs
  monitors_counted [] at = refl
  monitors_counted (y ∷ ys) at = ap suc (monitors_counted ys (at + component_words g y.system))

  abbrev MonitorWithin : ℕ → ℕ → code.Monitor → Type 0
  MonitorWithin low high r = (low ≤ r.start) × (r.start + r.words ≤ high)

  pub monitor_within : (xs : List Owner) (at i : ℕ) (r : code.Monitor) → slice_get (monitors_at g at xs) i ≡ Some r → MonitorWithin at (at + sum_words (component_words g) xs) r
  monitor_within [] at i r h = absurd (cc)
  monitor_within (y ∷ ys) at zero r h =
      subst (MonitorWithin at (at + sum_words (component_words g) (y ∷ ys))) (ap (row_in r) h) (omega arith, omega arith)
    where
      row_in : code.Monitor → Option code.Monitor → code.Monitor
      row_in z None = z
      row_in z (Some w) = w
  monitor_within (y ∷ ys) at (suc i) r h =
      let k = monitor_within ys (at + component_words g y.system) i r h in (omega (arith, k.0), omega (arith, k.1))

  pub monitors_apart : (xs : List Owner) (at i j : ℕ) (r q : code.Monitor) → slice_get (monitors_at g at xs) i ≡ Some r → slice_get (monitors_at g at xs) j ≡ Some q
      → (i ≡ j → ⊥) → Apart r.start r.words q.start q.words
  monitors_apart [] at i j r q h k ne = absurd (cc)
  monitors_apart (y ∷ ys) at zero zero r q h k ne = absurd (ne refl)
  monitors_apart (y ∷ ys) at zero (suc j) r q h k ne =
      let w = monitor_within ys (at + component_words g y.system) j q k in
      inl (subst (λ z. z.start + z.words ≤ q.start) (ap (row_in r) h) (omega (arith, w.0)))
    where
      row_in : code.Monitor → Option code.Monitor → code.Monitor
      row_in z None = z
      row_in z (Some w) = w
  monitors_apart (y ∷ ys) at (suc i) zero r q h k ne =
      let w = monitor_within ys (at + component_words g y.system) i r h in
      inr (subst (λ z. z.start + z.words ≤ r.start) (ap (row_in q) k) (omega (arith, w.0)))
    where
      row_in : code.Monitor → Option code.Monitor → code.Monitor
      row_in z None = z
      row_in z (Some w) = w
  monitors_apart (y ∷ ys) at (suc i) (suc j) r q h k ne = monitors_apart ys (at + component_words g y.system) i j r q h k (λ e. ne (ap suc e))

  -- ---- Processes

  abbrev pub process_row : ℕ → Owner → code.Process
  process_row at x =
      record { body = x.body; words = component_words g x.system; parameters = at; waiting = waiting_words g x.system; starts = plan_of_component g x.system }

  pub process_there : (xs : List Owner) (at i : ℕ) (x : Owner) → slice_get xs i ≡ Some x
      → (n : ℕ) × (slice_get (processes_at g at xs) i ≡ Some (process_row n x)) × (n + waiting_words g x.system ≤ at + sum_words (waiting_words g) xs)
  process_there [] at i x h = absurd (cc)
  process_there (y ∷ ys) at zero x h =
      (at, ap (λ o. elim o [ None ↦ None | Some z ↦ Some (process_row at z) ]) h, omega (arith, ap (size_in x) h))
    where
      size_in : Owner → Option Owner → ℕ
      size_in z None = waiting_words g z.system
      size_in z (Some w) = waiting_words g w.system
  process_there (y ∷ ys) at (suc i) x h =
      let k = process_there ys (at + waiting_words g y.system) i x h in (k.0, k.1, omega (arith, k.2))

  pub processes_counted : (xs : List Owner) (at : ℕ) → length (processes_at g at xs) ≡ length xs
  processes_counted [] at = refl
  processes_counted (y ∷ ys) at = ap suc (processes_counted ys (at + waiting_words g y.system))

  pub process_within : (xs : List Owner) (at i : ℕ) (r : code.Process) → slice_get (processes_at g at xs) i ≡ Some r → at ≤ r.parameters
  process_within [] at i r h = absurd (cc)
  process_within (y ∷ ys) at zero r h = subst (λ z. at ≤ z.parameters) (ap (row_in r) h) (omega arith)
    where
      row_in : code.Process → Option code.Process → code.Process
      row_in z None = z
      row_in z (Some w) = w
  process_within (y ∷ ys) at (suc i) r h = omega (arith, process_within ys (at + waiting_words g y.system) i r h)

  pub processes_apart : (xs : List Owner) (at i j : ℕ) (r q : code.Process) → slice_get (processes_at g at xs) i ≡ Some r → slice_get (processes_at g at xs) j ≡ Some q
      → (i ≡ j → ⊥) → Apart r.parameters r.waiting q.parameters q.waiting
  processes_apart [] at i j r q h k ne = absurd (cc)
  processes_apart (y ∷ ys) at zero zero r q h k ne = absurd (ne refl)
  processes_apart (y ∷ ys) at zero (suc j) r q h k ne =
      inl (subst (λ z. z.parameters + z.waiting ≤ q.parameters) (ap (row_in r) h) (omega (arith, process_within ys (at + waiting_words g y.system) j q k)))
    where
      row_in : code.Process → Option code.Process → code.Process
      row_in z None = z
      row_in z (Some w) = w
  processes_apart (y ∷ ys) at (suc i) zero r q h k ne =
      inr (subst (λ z. z.parameters + z.waiting ≤ r.parameters) (ap (row_in q) k) (omega (arith, process_within ys (at + waiting_words g y.system) i r h)))
    where
      row_in : code.Process → Option code.Process → code.Process
      row_in z None = z
      row_in z (Some w) = w
  processes_apart (y ∷ ys) at (suc i) (suc j) r q h k ne = processes_apart ys (at + waiting_words g y.system) i j r q h k (λ e. ne (ap suc e))
