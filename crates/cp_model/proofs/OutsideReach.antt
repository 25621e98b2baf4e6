-- What a step of one process leaves unchanged of the reach of another.
use Rattle.std.specs.Prelude.{Bool, List, None, Option, Some, [], false, nat_eq, not, refl, true, ℕ, ◌∷◌, ◌≡◌, ◌≢◌}
use Rattle.std.proofs.Common.{ap, arith, subst, sym, ◌∙◌}
use Rattle.std.proofs.lemmas.Bool.{eq-eqb, eqb-true, ne_eqb}
use Rattle.cp_model.specs.Locations.{Location, OfActivation, OfMonitor, OfProcess, Owner}
use Rattle.cp_model.specs.Stores.{Reference}
use Rattle.cp_model.specs.Environments.{Environment, Frame}
use Rattle.cp_model.specs.Continuations.{Do, EndBody, EndCall, EndProcess, ForNext, RepeatTest, Task, WhileTest, marked_monitors}
use Rattle.cp_model.specs.Configurations.{Asking, Delayed, Ended, Faulted, Fresh, Ready, Status, Unstarted, Waiting}
use Rattle.cp_model.specs.States.{State}
use Rattle.cp_model.specs.Rounds.{after_closing, close_round}
use Rattle.cp_model.specs.Reach.{in_reach}
use Rattle.cp_model.specs.Invariant.{EnvironmentIn, FrameIn, Invariant, IsActivation, IsBlocked, TaskIn, TasksInReach}
use Rattle.cp_model.specs.Parts.{is_own}
use Rattle.cp_model.proofs.StateMaps.{is_foreign}
use Rattle.cp_model.proofs.MixedStores.{IsClosed}
use Rattle.cp_model.proofs.ActionReach.{ContinuationIn}
use Rattle.cp_model.proofs.QuietSteps.{no_gates-tail}
use Rattle.cp_model.proofs.OwnSteps.{MayCommute, kind_private}
use Rattle.cp_model.proofs.StoreInvariants.{is_closed}

in_reach_own : (p : ℕ) (o : Owner) → in_reach p [] o ≡ is_own p o
in_reach_own p (OfProcess q) = refl
in_reach_own p (OfActivation q d) = refl
in_reach_own p (OfMonitor m) = refl

in_reach_foreign : (p r : ℕ) (ms : List ℕ) (o : Owner) → p ≢ r → in_reach r ms o ≡ true → is_foreign p o ≡ true
in_reach_foreign p r ms (OfProcess q) d h = rw (ne_eqb p q (λ e. d (e ∙ sym (eqb-true r q h)))) refl
in_reach_foreign p r ms (OfActivation q k) d h = rw (ne_eqb p q (λ e. d (e ∙ sym (eqb-true r q h)))) refl
in_reach_foreign p r ms (OfMonitor m) d h = refl

environment_more : (t v : Owner → Bool) (env : Environment) → ((o : Owner) → t o ≡ true → v o ≡ true) → EnvironmentIn t env
    → EnvironmentIn v env
environment_more t v env h s = record { component = h env.component.owner s.component; frame = go env.frame s.frame }
  where
    go : (f : Option Frame) → FrameIn t f → FrameIn v f
    go None g = tt
    go (Some f) g = h f.owner g

task_more : (t v : Owner → Bool) (i : Task) → ((o : Owner) → t o ≡ true → v o ≡ true) → TaskIn t i → TaskIn v i
task_more t v (Do s env) h g = environment_more t v env h g
task_more t v (WhileTest now e s env) h g = environment_more t v env h g
task_more t v (RepeatTest now s e env) h g = environment_more t v env h g
task_more t v (ForNext x down n last s env) h g = environment_more t v env h g
task_more t v (EndCall env gate) h g = environment_more t v env h g
task_more t v (EndBody gate) h g = tt
task_more t v EndProcess h g = tt

tasks_own : (p : ℕ) (k : List Task) → marked_monitors k ≡ [] → TasksInReach p k → ContinuationIn (is_own p) k
tasks_own p [] g h = tt
tasks_own p (i ∷ k) g h = (
  task_more (in_reach p (marked_monitors (i ∷ k))) (is_own p) i
      (λ o e. sym (in_reach_own p o) ∙ (subst (λ ms. in_reach p ms o ≡ true) g e)) h.0,
  tasks_own p k (no_gates-tail i k g) h.1,
)

pub tasks_more : (p : ℕ) (v : Owner → Bool) (k : List Task) → ((ms : List ℕ) (o : Owner) → in_reach p ms o ≡ true → v o ≡ true)
    → TasksInReach p k → ContinuationIn v k
tasks_more p v [] h g = tt
tasks_more p v (i ∷ k) h g = (
  task_more (in_reach p (marked_monitors (i ∷ k))) v i (h (marked_monitors (i ∷ k))) g.0,
  tasks_more p v k h
      g.1,
)

-- The owners that pass `v` are closed if they include, with each activation, all that its process
-- can reach.
pub closed_but : (s : State) → Invariant s → (v : Owner → Bool)
    → ((r d : ℕ) (ms : List ℕ) (o : Owner) → v (OfActivation r d) ≡ true → in_reach r ms o ≡ true → v o ≡ true)
    → IsClosed v s.store
closed_but s i v h = record {
  references = λ l j g e. go l j l.owner refl g e (i.store.references l j e);
  classes = λ l j g e. rw (i.store.classes l j e) g;
}
  where
    go : (l j : Location) (w : Owner) → l.owner ≡ w → v l.owner ≡ true → s.store l ≡ Reference j → IsActivation l.owner
        → v j.owner ≡ true
    go l j (OfActivation r d) f g e a =
        h r d (marked_monitors (s.continuation r)) j.owner (subst (λ y. v y ≡ true) f g)
        ((is_closed r s.store (s.continuation r) i.store (i.continuations r)).references l j (rw f (eq-eqb r r refl)) e)
    go l j (OfProcess q) f g e a = absurd (subst (λ y. IsActivation y) f a)
    go l j (OfMonitor q) f g e a = absurd (subst (λ y. IsActivation y) f a)

pub may_commute : (s : State) → Invariant s → MayCommute s
may_commute s i = record {
  own = λ p k.
      let g = (kind_private (s.status p) (s.continuation p) k).1 in
      let c = is_closed p s.store (s.continuation p) i.store (i.continuations p) in (
        record {
          references = λ l j h e. sym (in_reach_own p j.owner) ∙ subst (λ ms. in_reach p ms j.owner ≡ true) g (c.references l j (subst (λ ms. in_reach p ms l.owner ≡ true) (sym g) (in_reach_own p l.owner ∙ h)) e);
          classes = λ l j h e. rw (i.store.classes l j e) h;
        },
        tasks_own p (s.continuation p) g (i.continuations p).tasks,
      );
  others = λ p q d k. (
    closed_but s i (is_foreign p) (λ r n ms o h e. in_reach_foreign p r ms o (not_mine p r h) e),
    tasks_more q (is_foreign p) (s.continuation q) (λ ms o e. in_reach_foreign p q ms o d e) (i.continuations q).tasks,
  );
  blocked = i.blocked;
}
  where
    not_mine : (p r : ℕ) → not (nat_eq p r) ≡ true → p ≢ r
    not_mine p r h e = clash (sym (ap not (eq-eqb p r e)) ∙ h)
      where
        clash : false ≡ true → ⊥
        clash x = Prim.grind arith

pub close_round_keeps : (s : State) → Invariant s → Invariant (close_round s)
close_round_keeps s i = record {
  store = i.store;
  continuations = i.continuations;
  blocked = λ p h. i.blocked p (at (s.status p) h);
  unstarted = λ p h. i.unstarted p (flat (s.status p) h);
}
  where
    at : (x : Status) → IsBlocked (after_closing x) → IsBlocked x
    at Unstarted h = h
    at Fresh h = h
    at Ready h = h
    at Ended h = h
    at Waiting h = h
    at (Asking m) h = h
    at (Delayed m q) h = h
    at (Faulted n) h = h

    flat : (x : Status) → after_closing x ≡ Unstarted → x ≡ Unstarted
    flat Unstarted h = refl
    flat Fresh h = absurd (Prim.grind arith)
    flat Ready h = h
    flat Ended h = h
    flat Waiting h = h
    flat (Asking m) h = h
    flat (Delayed m q) h = h
    flat (Faulted n) h = h
