-- A result that replaces its call, and a return, keep the invariant.
use Rattle.std.specs.Prelude.{Bool, List, None, Option, Some, [], false, nat_eq, refl, suc, true, ℕ, ◌∷◌, ◌≡◌, ◌≤◌}
use Rattle.std.proofs.Common.{ap, arith, sym, ◌∙◌}
use Rattle.std.proofs.lemmas.Bool.{eqb-false, eqb-true}
use Rattle.cp_model.specs.Abstract.{Expression, Name, Statement}
use Rattle.cp_model.specs.Locations.{ByName, Location, OfActivation, Owner}
use Rattle.cp_model.specs.Stores.{Absent, ClassRight, Initialised, MonitorRight, Ordinal, QueueHolds, Reference, Store, Value, forget}
use Rattle.cp_model.specs.Outcomes.{Gives, Outcome}
use Rattle.cp_model.specs.Environments.{Environment, Frame}
use Rattle.cp_model.specs.Continuations.{Do, EndBody, EndCall, EndProcess, ForNext, RepeatTest, Task, WhileTest, depth, is_in_monitor}
use Rattle.cp_model.specs.Calls.{Found, call_in_statement, call_in_task, first_call, in_context}
use Rattle.cp_model.specs.Configurations.{Configuration, Delays, Effect, Enters, Starts}
use Rattle.cp_model.specs.CallSteps.{innermost_call, return_value, returns, with_answer}
use Rattle.cp_model.specs.Invariant.{ContinuationInvariant, FramesInvariant, IsFrameOf, StoreInvariant, TasksInReach}
use Rattle.cp_model.proofs.ExpressionReach.{IfGives}
use Rattle.cp_model.proofs.StoreInvariants.{forget_no_new_reference, forget_store, forgotten, frames_keep_store}

-- What a started process has left to do.
pub record StartedContinuation (r : ℕ) (k : List Task) : Type 0 where
  pub tasks : TasksInReach r k
  pub deep : depth k ≡ 0
  pub frames : (st : Store) → FramesInvariant r st k

abbrev pub EffectInvariant : List Task → Effect → Type 0
EffectInvariant k (Enters m) = is_in_monitor k ≡ true
EffectInvariant k (Delays m q) = is_in_monitor k ≡ true
EffectInvariant k (Starts r l) = StartedContinuation r l
EffectInvariant k _ = Unit {0}

pub record StepInvariant (p : ℕ) (x : Configuration × Effect) : Type 0 where
  pub store : StoreInvariant x.0.store
  pub ok : ContinuationInvariant p x.0.store x.0.continuation
  pub effect : EffectInvariant x.0.continuation x.1

pub record ConfigurationInvariant (p : ℕ) (r : Configuration) : Type 0 where
  pub store : StoreInvariant r.store
  pub ok : ContinuationInvariant p r.store r.continuation

-- ---- Lists

abbrev NoMark : Task → Type 0
NoMark (EndCall env gate) = ⊥
NoMark _ = Unit {0}

pub continuation_tail : (p : ℕ) (st : Store) (i : Task) (k : List Task) → NoMark i → ContinuationInvariant p st (i ∷ k)
    → ContinuationInvariant p st k
continuation_tail p st (EndCall env gate) k n o = absurd n
continuation_tail p st (Do s env) k n o = record { tasks = o.tasks.1; frames = o.frames; beyond = o.beyond }
continuation_tail p st (WhileTest now e s env) k n o = record { tasks = o.tasks.1; frames = o.frames; beyond = o.beyond }
continuation_tail p st (RepeatTest now s e env) k n o = record { tasks = o.tasks.1; frames = o.frames; beyond = o.beyond }
continuation_tail p st (ForNext v down x last s env) k n o = record
    { tasks = o.tasks.1; frames = o.frames; beyond = o.beyond }
continuation_tail p st (EndBody gate) k n o = record { tasks = o.tasks.1; frames = o.frames; beyond = o.beyond }
continuation_tail p st EndProcess k n o = record { tasks = o.tasks.1; frames = o.frames; beyond = o.beyond }

-- The innermost call's end.
abbrev pub CallEndInvariant : ℕ → Store → Option (Environment × Option ℕ × List Task) → Type 0
CallEndInvariant p st None = Unit {0}
CallEndInvariant p st (Some e) = ContinuationInvariant p st (EndCall e.0 e.1 ∷ e.2)

pub call_end : (p : ℕ) (st : Store) (k : List Task) → ContinuationInvariant p st k → CallEndInvariant p st (innermost_call k)
call_end p st [] o = tt
call_end p st (EndCall env gate ∷ k) o = o
call_end p st (Do s env ∷ k) o = call_end p st k (continuation_tail p st (Do s env) k tt o)
call_end p st (WhileTest now e s env ∷ k) o = call_end p st k (continuation_tail p st (WhileTest now e s env) k tt o)
call_end p st (RepeatTest now s e env ∷ k) o = call_end p st k (continuation_tail p st (RepeatTest now s e env) k tt o)
call_end p st (ForNext v down x last s env ∷ k) o = call_end p st k
    (continuation_tail p st (ForNext v down x last s env) k tt o)
call_end p st (EndBody gate ∷ k) o = call_end p st k (continuation_tail p st (EndBody gate) k tt o)
call_end p st (EndProcess ∷ k) o = call_end p st k (continuation_tail p st EndProcess k tt o)

-- Replacing a call by a value changes no environment and no end mark.
with_answer_continuation : (p : ℕ) (st : Store) (v : Expression) (k : List Task) → ContinuationInvariant p st k
    → ContinuationInvariant p st (with_answer v k)
with_answer_continuation p st v [] o = o
with_answer_continuation p st v (i ∷ k) o = go i o
  where
    in_stat : (s : Statement) (env : Environment) (f : Found Statement) → ContinuationInvariant p st (Do s env ∷ k)
        → ContinuationInvariant p st (elim (in_context (λ y. Do y env) f) as (λ x. List Task) [ None ↦ Do s env ∷ k | Some g ↦ g.1 ∷ k ])
    in_stat s env None o = o
    in_stat s env (Some g) o = record { tasks = o.tasks; frames = o.frames; beyond = o.beyond }

    in_loop : (now e : Expression) (s : Statement) (env : Environment) (f : Found Expression)
        → ContinuationInvariant p st (WhileTest now e s env ∷ k)
        → ContinuationInvariant p st (elim (in_context (λ y. WhileTest y e s env) f) as (λ x. List Task) [ None ↦ WhileTest now e s env ∷ k | Some g ↦ g.1 ∷ k ])
    in_loop now e s env None o = o
    in_loop now e s env (Some g) o = record { tasks = o.tasks; frames = o.frames; beyond = o.beyond }

    in_until : (now : Expression) (s : Statement) (e : Expression) (env : Environment) (f : Found Expression)
        → ContinuationInvariant p st (RepeatTest now s e env ∷ k)
        → ContinuationInvariant p st (elim (in_context (λ y. RepeatTest y s e env) f) as (λ x. List Task) [ None ↦ RepeatTest now s e env ∷ k | Some g ↦ g.1 ∷ k ])
    in_until now s e env None o = o
    in_until now s e env (Some g) o = record { tasks = o.tasks; frames = o.frames; beyond = o.beyond }

    go : (i : Task) → ContinuationInvariant p st (i ∷ k)
        → ContinuationInvariant p st (elim (call_in_task v i) as (λ x. List Task) [ None ↦ i ∷ k | Some f ↦ f.1 ∷ k ])
    go (Do s env) o = in_stat s env (call_in_statement env v s) o
    go (WhileTest now e s env) o = in_loop now e s env (first_call env v now) o
    go (RepeatTest now s e env) o = in_until now s e env (first_call env v now) o
    go (ForNext x down n last s env) o = o
    go (EndCall env gate) o = o
    go (EndBody gate) o = o
    go EndProcess o = o

-- ---- Returns

forget_frame : (p : ℕ) (st : Store) (env : Environment) (gate : Option ℕ) (k : List Task) (o : Owner)
    → o ≡ OfActivation p (depth k) → ContinuationInvariant p st (EndCall env gate ∷ k)
    → ContinuationInvariant p (forget o st) k
forget_frame p st env gate k o h ok = record {
  tasks = ok.tasks.1;
  frames = frames_keep_store p st (forget o st) k (forget_no_new_reference o st) ok.frames.1;
  beyond = λ l j d n e f. go l j d (nat_eq d (depth k)) refl n e f;
}
  where
    go : (l j : Location) (d : ℕ) (b : Bool) → nat_eq d (depth k) ≡ b → depth k ≤ d → l.owner ≡ OfActivation p d
        → forget o st l ≡ Reference j → ⊥
    go l j d true g n e f = forgotten o st l j (e ∙ ap (λ x. OfActivation p x) (eqb-true d (depth k) g) ∙ sym h) f
    go l j d false g n e f = ok.beyond l j d (more (eqb-false d (depth k) g) n) e (forget_no_new_reference o st l j f)
      where
        more : (d ≡ depth k → ⊥) → depth k ≤ d → suc (depth k) ≤ d
        more x y = Prim.grind arith

pub returns_configuration : (p : ℕ) (config : Configuration) (env : Environment) (gate : Option ℕ) (k : List Task)
    → StoreInvariant config.store → ContinuationInvariant p config.store (EndCall env gate ∷ k)
    → IfGives (ConfigurationInvariant p) (returns config env k)
returns_configuration p config env gate k s o = go env.frame o.frames.0.frame
  where
    result : (f : Frame) (x : Name) (v : Value) → f.owner ≡ OfActivation p (depth k)
        → IfGives (ConfigurationInvariant p) (return_value config env f.owner k x v)
    result f x (Ordinal n) h = record {
      store = forget_store f.owner config.store s;
      ok = with_answer_continuation p
          (forget f.owner config.store) _ k (forget_frame p config.store env gate k f.owner h o);
    }
    result f x Absent h = tt
    result f x (QueueHolds w) h = tt
    result f x (MonitorRight m) h = tt
    result f x (ClassRight l) h = tt
    result f x (Reference l) h = tt
    result f x (Initialised b) h = tt

    by_result : (f : Frame) (r : Option Name) → f.owner ≡ OfActivation p (depth k)
        → IfGives (ConfigurationInvariant p) (elim r
        as (λ x. Outcome Configuration) [ None ↦ Gives (record config { store = forget f.owner config.store; continuation = k }) | Some x ↦ return_value config env f.owner k x (config.store (record { owner = f.owner; path = ByName f.routine.name ∷ [] })) ])
    by_result f None h = record {
      store = forget_store f.owner config.store s;
      ok = forget_frame p config.store env gate k
          f.owner h o;
    }
    by_result f (Some x) h = result f x (config.store (record { owner = f.owner; path = ByName f.routine.name ∷ [] })) h

    go : (f : Option Frame) → IsFrameOf f (OfActivation p (depth k))
        → IfGives (ConfigurationInvariant p) (elim f
        as (λ x. Outcome Configuration) [ None ↦ Gives config | Some f ↦ elim f.routine.result as (λ x. Outcome Configuration) [ None ↦ Gives (record config { store = forget f.owner config.store; continuation = k }) | Some x ↦ return_value config env f.owner k x (config.store (record { owner = f.owner; path = ByName f.routine.name ∷ [] })) ] ])
    go None h = absurd h
    go (Some f) h = by_result f f.routine.result h
