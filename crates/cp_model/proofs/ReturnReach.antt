-- A return commutes with a change of the store outside its reach.
use Rattle.std.specs.Prelude.{Bool, List, None, Option, Some, [], false, if◌then◌else◌, refl, true, ◌∷◌, ◌≡◌}
use Rattle.std.proofs.Common.{ap, ◌∙◌}
use Rattle.cp_model.specs.Abstract.{Name}
use Rattle.cp_model.specs.Locations.{ByName, Owner}
use Rattle.cp_model.specs.Stores.{Absent, ClassRight, Initialised, MonitorRight, Ordinal, QueueHolds, Reference, Store, Value, forget}
use Rattle.cp_model.specs.Outcomes.{Fault, Gives, Outcome, and_then}
use Rattle.cp_model.specs.Environments.{Environment, Frame}
use Rattle.cp_model.specs.Continuations.{Task}
use Rattle.cp_model.specs.Configurations.{Configuration, StepResult}
use Rattle.cp_model.specs.CallSteps.{return_value, returns}
use Rattle.cp_model.specs.Invariant.{FrameIn}
use Rattle.cp_model.proofs.MixedStores.{forget_mix, get_mix, mix}
use Rattle.cp_model.proofs.ExpressionReach.{IfGives}

-- ---- Configurations

abbrev pub with_mixed_store : (Owner → Bool) → Store → Configuration → Configuration
with_mixed_store t b r = record r { store = mix t r.store b }

abbrev pub result_mixed : (Owner → Bool) → Store → StepResult → StepResult
result_mixed t b (Fault n) = Fault n
result_mixed t b (Gives x) = Gives (with_mixed_store t b x.0, x.1)

pub then_moved : {A : Type 0} (t : Owner → Bool) (b : Store) (Q : A → Type 0) (o u : Outcome A) (f g : A → StepResult)
    → o ≡ u → IfGives Q u → ((x : A) → Q x → f x ≡ result_mixed t b (g x)) → and_then o f ≡ result_mixed t b (and_then u g)
then_moved t b Q o (Fault n) f g e h k = ap (λ x. and_then x f) e
then_moved t b Q o (Gives y) f g e h k = ap (λ x. and_then x f) e ∙ k y h

pub if_moved : (t : Owner → Bool) (b : Store) (x : Bool) (o u p q : StepResult) → o ≡ result_mixed t b u
    → p ≡ result_mixed t b q → (if x then o else p) ≡ result_mixed t b (if x then u else q)
if_moved t b true o u p q h k = h
if_moved t b false o u p q h k = k

-- ---- Returns

abbrev pub configuration_moved : (Owner → Bool) → Store → Outcome Configuration → Outcome Configuration
configuration_moved t b (Fault n) = Fault n
configuration_moved t b (Gives x) = Gives (with_mixed_store t b x)

return_value_same : (t : Owner → Bool) (b : Store) (config : Configuration) (env : Environment) (o : Owner) (k : List Task)
    (x : Name) (v : Value) → t o ≡ true
    → return_value (with_mixed_store t b config) env o k x v ≡ configuration_moved t b (return_value config env o k x v)
return_value_same t b config env o k x (Ordinal n) h = rw (forget_mix t o config.store b h) refl
return_value_same t b config env o k x Absent h = refl
return_value_same t b config env o k x (QueueHolds y) h = refl
return_value_same t b config env o k x (MonitorRight m) h = refl
return_value_same t b config env o k x (ClassRight l) h = refl
return_value_same t b config env o k x (Reference l) h = refl
return_value_same t b config env o k x (Initialised y) h = refl

pub returns_same : (t : Owner → Bool) (b : Store) (config : Configuration) (env : Environment) (k : List Task)
    → FrameIn t env.frame
    → returns (with_mixed_store t b config) env k ≡ configuration_moved t b (returns config env k)
returns_same t b config env k h = go env.frame h
  where
    by_result : (f : Frame) (r : Option Name) → t f.owner ≡ true
        → (elim r as (λ x. Outcome Configuration) [ None ↦ Gives (record (with_mixed_store t b config) { store = forget f.owner (mix t config.store b); continuation = k }) | Some x ↦ return_value (with_mixed_store t b config) env f.owner k x (mix t config.store b (record { owner = f.owner; path = ByName f.routine.name ∷ [] })) ])
        ≡ configuration_moved t b (elim r as (λ x. Outcome Configuration) [ None ↦ Gives (record config { store = forget f.owner config.store; continuation = k }) | Some x ↦ return_value config env f.owner k x (config.store (record { owner = f.owner; path = ByName f.routine.name ∷ [] })) ])
    by_result f None h = rw (forget_mix t f.owner config.store b h) refl
    by_result f (Some x) h = rw (get_mix t config.store b (record { owner = f.owner; path = ByName f.routine.name ∷ [] }) h)
        (return_value_same t b config env f.owner k x (config.store
        (record { owner = f.owner; path = ByName f.routine.name ∷ [] })) h)

    go : (f : Option Frame) → FrameIn t f → (elim f
        as (λ x. Outcome Configuration) [ None ↦ Gives (with_mixed_store t b config) | Some f ↦ elim f.routine.result as (λ x. Outcome Configuration) [ None ↦ Gives (record (with_mixed_store t b config) { store = forget f.owner (mix t config.store b); continuation = k }) | Some x ↦ return_value (with_mixed_store t b config) env f.owner k x (mix t config.store b (record { owner = f.owner; path = ByName f.routine.name ∷ [] })) ] ])
        ≡ configuration_moved t b (elim f as (λ x. Outcome Configuration) [ None ↦ Gives config | Some f ↦ elim f.routine.result as (λ x. Outcome Configuration) [ None ↦ Gives (record config { store = forget f.owner config.store; continuation = k }) | Some x ↦ return_value config env f.owner k x (config.store (record { owner = f.owner; path = ByName f.routine.name ∷ [] })) ] ])
    go None h = refl
    go (Some f) h = by_result f f.routine.result h
