-- The grasp of a process: what a step of it may read or write in the store.
--
-- It is the reach of the process. Process 1 also has in its grasp what isn't initialised yet, since only
-- process 1 initialises monitors and processes. Two ready processes have nothing in their grasp in common:
-- a gate has one holder, and what isn't initialised is in nobody's reach.
use Rattle.std.specs.Prelude.{Bool, List, None, Option, Some, [], false, if◌then◌else◌, nat_eq, not, refl, true, ℕ, ◌∷◌, ◌≡◌, ◌≢◌, ◌⊎◌}
use Rattle.std.proofs.Common.{ap, inl, inr, subst, sym, ◌∙◌}
use Rattle.std.proofs.lemmas.Bool.{eq-eqb, eqb-true, true≢false}
use Rattle.cp_model.specs.Locations.{Location, OfActivation, OfMonitor, OfProcess, Owner}
use Rattle.cp_model.specs.Stores.{Reference}
use Rattle.cp_model.specs.Environments.{Environment, Frame}
use Rattle.cp_model.specs.Continuations.{Do, EndBody, EndCall, EndProcess, ForNext, RepeatTest, Task, WhileTest, marked_monitors}
use Rattle.cp_model.specs.Configurations.{Ready, held_gates}
use Rattle.cp_model.specs.States.{HeldBy, State, is_in, is_set, is_started}
use Rattle.cp_model.specs.Reach.{in_reach}
use Rattle.cp_model.specs.Invariant.{EnvironmentIn, FrameIn, Invariant, IsActivation, TaskIn, TasksInReach}
use Rattle.cp_model.proofs.Lists.{in_more}
use Rattle.cp_model.proofs.MixedStores.{IsClosed}
use Rattle.cp_model.proofs.ActionReach.{ContinuationIn}
use Rattle.cp_model.proofs.StoreInvariants.{is_closed}
use Rattle.cp_law_calls.specs.Ways.{HoldsMarked}
use Rattle.cp_law_calls.proofs.Footing.{held_once}

-- Not set, or not started.
abbrev pub is_new : State → Owner → Bool
is_new s (OfProcess r) = not (is_started (s.status r))
is_new s (OfMonitor m) = not (is_set (s.gates m).holder)
is_new s (OfActivation r d) = false

abbrev pub grasp : State → ℕ → Owner → Bool
grasp s p o = if in_reach p (marked_monitors (s.continuation p)) o then true else (if nat_eq p 1 then is_new s o else false)

pub grasp_reach : (s : State) (p : ℕ) (o : Owner) → in_reach p (marked_monitors (s.continuation p)) o ≡ true → grasp s p o ≡ true
grasp_reach s p o h = rw h refl

pub grasp_new : (s : State) (p : ℕ) (o : Owner) → p ≡ 1 → is_new s o ≡ true → grasp s p o ≡ true
grasp_new s p o e h = by (in_reach p (marked_monitors (s.continuation p)) o) (nat_eq p 1) (eq-eqb p 1 e)
  where
    by : (a b : Bool) → b ≡ true → (if a then true else (if b then is_new s o else false)) ≡ true
    by true b f = refl
    by false true f = h
    by false false f = absurd (true≢false (sym f))

grasp_cases : (s : State) (p : ℕ) (o : Owner) → grasp s p o ≡ true
    → (in_reach p (marked_monitors (s.continuation p)) o ≡ true) ⊎ ((p ≡ 1) × (is_new s o ≡ true))
grasp_cases s p o h = by (in_reach p (marked_monitors (s.continuation p)) o) (nat_eq p 1) refl refl h
  where
    by : (a b : Bool) → in_reach p (marked_monitors (s.continuation p)) o ≡ a → nat_eq p 1 ≡ b → (if a then true else (if b then is_new s o else false)) ≡ true
        → (in_reach p (marked_monitors (s.continuation p)) o ≡ true) ⊎ ((p ≡ 1) × (is_new s o ≡ true))
    by true b e f g = inl e
    by false true e f g = inr (eqb-true p 1 f, g)
    by false false e f g = absurd (true≢false (sym g))

pub grasp_activation : (s : State) (p d : ℕ) → grasp s p (OfActivation p d) ≡ true
grasp_activation s p d = grasp_reach s p (OfActivation p d) (eq-eqb p p refl)

-- ---- It is closed

pub grasp_closed : (s : State) (p : ℕ) → Invariant s → IsClosed (grasp s p) s.store
grasp_closed s p i = record {
  references = λ l j g e. grasp_reach s p j.owner (go l j l.owner refl (grasp_cases s p l.owner g) e (i.store.references l j e));
  classes = λ l j g e. rw (i.store.classes l j e) g;
}
  where
    closed : IsClosed (in_reach p (marked_monitors (s.continuation p))) s.store
    closed = is_closed p s.store (s.continuation p) i.store (i.continuations p)

    go : (l j : Location) (w : Owner) → l.owner ≡ w
        → (in_reach p (marked_monitors (s.continuation p)) l.owner ≡ true) ⊎ ((p ≡ 1) × (is_new s l.owner ≡ true))
        → s.store l ≡ Reference j → IsActivation l.owner → in_reach p (marked_monitors (s.continuation p)) j.owner ≡ true
    go l j w f (inl h) e a = closed.references l j h e
    go l j (OfActivation r d) f (inr h) e a = absurd (true≢false (sym (ap (is_new s) (sym f) ∙ h.1)))
    go l j (OfProcess q) f (inr h) e a = absurd (subst (λ y. IsActivation y) f a)
    go l j (OfMonitor q) f (inr h) e a = absurd (subst (λ y. IsActivation y) f a)

-- ---- What is left to do is in it

environment_more : (t v : Owner → Bool) (env : Environment) → ((o : Owner) → t o ≡ true → v o ≡ true) → EnvironmentIn t env
    → EnvironmentIn v env
environment_more t v env h s = record { component = h env.component.owner s.component; frame = go env.frame s.frame }
  where
    go : (f : Option Frame) → FrameIn t f → FrameIn v f
    go None g = tt
    go (Some f) g = h f.owner g

task_more : (t v : Owner → Bool) (i : Task) → ((o : Owner) → t o ≡ true → v o ≡ true) → TaskIn t i → TaskIn v i
task_more t v (Do s env) h g = environment_more t v env h g
task_more t v (WhileTest now e s env) h g = environment_more t v env h g
task_more t v (RepeatTest now s e env) h g = environment_more t v env h g
task_more t v (ForNext x down n last s env) h g = environment_more t v env h g
task_more t v (EndCall env gate) h g = environment_more t v env h g
task_more t v (EndBody gate) h g = tt
task_more t v EndProcess h g = tt

marks_more : (m : ℕ) (i : Task) (k : List Task) → is_in m (marked_monitors k) ≡ true → is_in m (marked_monitors (i ∷ k)) ≡ true
marks_more m (Do s env) k h = h
marks_more m (WhileTest now e s env) k h = h
marks_more m (RepeatTest now s e env) k h = h
marks_more m (ForNext x down n last s env) k h = h
marks_more m (EndCall env None) k h = h
marks_more m (EndCall env (Some n)) k h = in_more m n (marked_monitors k) h
marks_more m (EndBody None) k h = h
marks_more m (EndBody (Some n)) k h = in_more m n (marked_monitors k) h
marks_more m EndProcess k h = h

reach_more : (p : ℕ) (ms ns : List ℕ) → ((m : ℕ) → is_in m ms ≡ true → is_in m ns ≡ true) → (o : Owner) → in_reach p ms o ≡ true → in_reach p ns o ≡ true
reach_more p ms ns h (OfProcess q) e = e
reach_more p ms ns h (OfActivation q d) e = e
reach_more p ms ns h (OfMonitor m) e = h m e

tasks_in : (p : ℕ) (v : Owner → Bool) (ns : List ℕ) → ((o : Owner) → in_reach p ns o ≡ true → v o ≡ true) → (k : List Task)
    → ((m : ℕ) → is_in m (marked_monitors k) ≡ true → is_in m ns ≡ true) → TasksInReach p k → ContinuationIn v k
tasks_in p v ns f [] h g = tt
tasks_in p v ns f (i ∷ k) h g = (
  task_more (in_reach p (marked_monitors (i ∷ k))) v i (λ o e. f o (reach_more p (marked_monitors (i ∷ k)) ns h o e)) g.0,
  tasks_in p v ns f k (λ m e. h m (marks_more m i k e)) g.1,
)

pub in_grasp : (s : State) (p : ℕ) → Invariant s → ContinuationIn (grasp s p) (s.continuation p)
in_grasp s p i =
    tasks_in p (grasp s p) (marked_monitors (s.continuation p)) (λ o h. grasp_reach s p o h) (s.continuation p) (λ m e. e) (i.continuations p).tasks

pub in_own_reach : (s : State) (p : ℕ) → Invariant s → ContinuationIn (in_reach p (marked_monitors (s.continuation p))) (s.continuation p)
in_own_reach s p i =
    tasks_in p (in_reach p (marked_monitors (s.continuation p))) (marked_monitors (s.continuation p)) (λ o h. h) (s.continuation p) (λ m e. e)
    (i.continuations p).tasks

-- ---- Two ready processes grasp nothing together

pub marked_held : (s : State) (p m : ℕ) → HoldsMarked s → s.status p ≡ Ready → is_in m (marked_monitors (s.continuation p)) ≡ true → (s.gates m).holder ≡ HeldBy p
marked_held s p m h ready e = h.holder p m (subst (λ x. is_in m (held_gates x (s.continuation p)) ≡ true) (sym ready) e)

module _ (s : State) (h : HoldsMarked s) where
  reaches_apart : (p q : ℕ) → p ≢ q → s.status p ≡ Ready → s.status q ≡ Ready → (o : Owner) → in_reach p (marked_monitors (s.continuation p)) o ≡ true
      → in_reach q (marked_monitors (s.continuation q)) o ≡ true → ⊥
  reaches_apart p q d a b (OfProcess r) e f = d (eqb-true p r e ∙ sym (eqb-true q r f))
  reaches_apart p q d a b (OfActivation r k) e f = d (eqb-true p r e ∙ sym (eqb-true q r f))
  reaches_apart p q d a b (OfMonitor m) e f =
      d (held_once s.gates s.status m p q (marked_held s p m h a e) (marked_held s q m h b f))

  reach_old : (p : ℕ) → s.status p ≡ Ready → (o : Owner) → in_reach p (marked_monitors (s.continuation p)) o ≡ true → is_new s o ≡ true → ⊥
  reach_old p a (OfProcess r) e n =
      true≢false (sym n ∙ ap (λ x. not (is_started (s.status x))) (sym (eqb-true p r e)) ∙ ap (λ x. not (is_started x)) a)
  reach_old p a (OfActivation r d) e n = true≢false (sym n)
  reach_old p a (OfMonitor m) e n = true≢false (sym n ∙ ap (λ x. not (is_set x)) (marked_held s p m h a e))

  both_apart : (p q : ℕ) → p ≢ q → s.status p ≡ Ready → s.status q ≡ Ready → (o : Owner)
      → (in_reach p (marked_monitors (s.continuation p)) o ≡ true) ⊎ ((p ≡ 1) × (is_new s o ≡ true))
      → (in_reach q (marked_monitors (s.continuation q)) o ≡ true) ⊎ ((q ≡ 1) × (is_new s o ≡ true)) → ⊥
  both_apart p q d a b o (inl e) (inl f) = reaches_apart p q d a b o e f
  both_apart p q d a b o (inl e) (inr f) = reach_old p a o e f.1
  both_apart p q d a b o (inr e) (inl f) = reach_old q b o f e.1
  both_apart p q d a b o (inr e) (inr f) = d (e.0 ∙ sym f.0)

  pub grasps_apart : (p q : ℕ) → p ≢ q → s.status p ≡ Ready → s.status q ≡ Ready → (o : Owner) → grasp s p o ≡ true → grasp s q o ≡ true → ⊥
  grasps_apart p q d a b o e f = both_apart p q d a b o (grasp_cases s p o e) (grasp_cases s q o f)
