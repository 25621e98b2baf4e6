-- Actions that start no process.
use Rattle.std.proofs.Common.{◌≡◌, List, ◌∷◌, Bool, false, Option, Some, None, refl}
use Rattle.cp_model.specs.Abstract as a
use Rattle.cp_model.specs.Abstract.{Process}
use Rattle.cp_model.specs.Actions.{Action, Acts, Calls, action}
use Rattle.cp_model.specs.Calls.{Found, UserCall, call_in_task, procedure_call}
use Rattle.cp_model.specs.Components.{component_named, same_sort}
use Rattle.cp_model.specs.Continuations.{Do, Task}

-- The `init` of a process starts it.
abbrev pub starts : Action → Bool
starts (Acts (Do (a.Init x es) env) k) = elim (component_named env x) [ None ↦ false | Some n ↦ same_sort Process n.system.sort ]
starts _ = false

pub task_starts : (i : Task) (k : List Task) → starts (Acts i k) ≡ false → starts (action (i ∷ k)) ≡ false
task_starts i k none = by (call_in_task (a.Literal 0) i) (procedure_call i)
  where
    by : (f : Found Task) (u : Option UserCall)
        → starts (elim f as (λ x. Action) [ Some y ↦ Calls y.0 (i ∷ k) | None ↦ elim u as (λ x. Action) [ Some v ↦ Calls v k | None ↦ Acts i k ] ]) ≡ false
    by (Some y) u = refl
    by None (Some v) = refl
    by None None = none

-- If a call comes first, it starts no process.
pub call_starts : (i : Task) (k : List Task) (f : UserCall × Task) → call_in_task (a.Literal 0) i ≡ Some f → starts (action (i ∷ k)) ≡ false
call_starts i k f found = λ z. starts (elim (found z) as (λ x. Action) [
  | Some y ↦ Calls y.0 (i ∷ k)
  | None ↦ elim (procedure_call i) as (λ x. Action) [ Some v ↦ Calls v k | None ↦ Acts i k ]
])
