-- Runs, and runs that are ordered by calls, on any kind of state.
--
-- A state is settled if no process has an eager step. A run by calls first settles. Then it makes one late
-- step after another, each followed by eager steps until the state is settled. So all that is chosen in it
-- is who calls next.
--
-- Nothing here knows the language.
use Rattle.std.specs.Prelude.{List, [], true, ℕ, ◌∷◌, ◌≡◌}
use Rattle.cp_model.specs.States.{is_in}
use Rattle.cp_law_calls.specs.Ways.{Eager, Idle, Late, Way}

pub record Machine (S : Type 0) : Type 0 where
  pub processes : List ℕ
  pub move : S → ℕ → S
  pub way : S → ℕ → Way

-- ---- Runs

-- Steps of these processes, one after another, lead from `s` to `u`.
abbrev pub Runs : {S : Type 0} → Machine S → S → List ℕ → S → Type 0
Runs M s [] u = s ≡ u
Runs M s (p ∷ ps) u = (is_in p M.processes ≡ true) × (M.way s p ≡ Idle → ⊥) × Runs M (M.move s p) ps u

-- Eager steps.
abbrev pub RunsEagerly : {S : Type 0} → Machine S → S → List ℕ → S → Type 0
RunsEagerly M s [] u = s ≡ u
RunsEagerly M s (p ∷ ps) u = (is_in p M.processes ≡ true) × (M.way s p ≡ Eager) × RunsEagerly M (M.move s p) ps u

abbrev pub caller : Way → ℕ → List ℕ → List ℕ
caller Late p ps = p ∷ ps
caller _ p ps = ps

-- The processes of a run that make late steps, in order.
abbrev pub callers : {S : Type 0} → Machine S → S → List ℕ → List ℕ
callers M s [] = []
callers M s (p ∷ ps) = caller (M.way s p) p (callers M (M.move s p) ps)

-- ---- Settled states

pub record IsSettled {S : Type 0} (M : Machine S) (s : S) : Type 0 where
  pub none : (p : ℕ) → is_in p M.processes ≡ true → M.way s p ≡ Eager → ⊥

-- Eager steps lead from `s` to `u`, which is settled.
pub record Settles {S : Type 0} (M : Machine S) (s u : S) : Type 0 where
  pub made : List ℕ
  pub run : RunsEagerly M s made u
  pub settled : IsSettled M u

-- ---- By calls

-- Late steps of these processes, each followed by settling, lead from the settled state `s` to `u`.
abbrev pub CallsLead : {S : Type 0} → Machine S → S → List ℕ → S → Type 0
CallsLead M s [] u = s ≡ u
CallsLead M s (p ∷ ps) u = (is_in p M.processes ≡ true) × (M.way s p ≡ Late) × (v : _) × Settles M (M.move s p) v × CallsLead M v ps u

pub record ByCalls {S : Type 0} (M : Machine S) (s : S) (calls : List ℕ) (u : S) : Type 0 where
  pub first : S
  pub settles : Settles M s first
  pub lead : CallsLead M first calls u

-- ---- Closed sets

-- The members of the set are settled. Each late step of a member leads to a member again, by eager steps.
pub record IsClosedByCalls {S : Type 0} (M : Machine S) (V : S → Type 0) : Type 0 where
  pub settled : (v : S) → V v → IsSettled M v
  pub calls : (v : S) (p : ℕ) → V v → is_in p M.processes ≡ true → M.way v p ≡ Late → (w : S) × V w × Settles M (M.move v p) w

-- ---- What steps of different processes have to do with each other

-- Let `Good` hold for the states that matter. An eager step changes places with each step of another
-- process, and no step changes the way of another process that has a next step.
pub record AreMovers {S : Type 0} (M : Machine S) (Good : S → Type 0) : Type 0 where
  pub good : (s : S) (p : ℕ) → Good s → is_in p M.processes ≡ true → (M.way s p ≡ Idle → ⊥) → Good (M.move s p)
  pub swap : (s : S) (p q : ℕ) → Good s → is_in p M.processes ≡ true → is_in q M.processes ≡ true → (p ≡ q → ⊥) → (M.way s p ≡ Idle → ⊥) → M.way s q ≡ Eager
      → M.move (M.move s p) q ≡ M.move (M.move s q) p
  pub stays : (s : S) (p q : ℕ) → Good s → (p ≡ q → ⊥) → (M.way s p ≡ Idle → ⊥) → (M.way s q ≡ Idle → ⊥) → M.way (M.move s p) q ≡ M.way s q

-- Late steps of two processes change places if `Apart` holds for them.
pub record CallsChangePlaces {S : Type 0} (M : Machine S) (Good : S → Type 0) (Apart : S → ℕ → ℕ → Type 0) : Type 0 where
  pub swap : (s : S) (p q : ℕ) → Good s → is_in p M.processes ≡ true → is_in q M.processes ≡ true → (p ≡ q → ⊥) → M.way s p ≡ Late → M.way s q ≡ Late → Apart s p q
      → M.move (M.move s p) q ≡ M.move (M.move s q) p
