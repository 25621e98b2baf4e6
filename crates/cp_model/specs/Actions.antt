-- The next action of a continuation, and whether it belongs to the kernel.
use Rattle.std.specs.Prelude.{Bool, List, None, Some, [], false, not, true, ◌∷◌}
use Rattle.cp_model.specs.Abstract.{Class, Init, Literal, Name}
use Rattle.cp_model.specs.Environments.{Environment}
use Rattle.cp_model.specs.Continuations.{Do, Task}
use Rattle.cp_model.specs.Components.{component_named, same_sort}
use Rattle.cp_model.specs.Calls.{UserCall, call_in_task, is_monitor_call, procedure_call}

-- `Rests` means that nothing is left to do. `Calls` makes a call, and the tasks `k` are left after
-- it. `Acts` executes the first task itself.
pub data Action : Type 0 where
  Rests : Action
  Calls : (u : UserCall) (k : List Task) → Action
  Acts : (i : Task) (k : List Task) → Action

abbrev pub action : List Task → Action
action [] = Rests
action (i ∷ k) =
    elim (call_in_task (Literal 0) i) [
      | Some f ↦ Calls f.0 (i ∷ k)
      | None ↦ elim (procedure_call i) [ Some u ↦ Calls u k | None ↦ Acts i k ]
    ]

abbrev pub is_init_of_class : Environment → Name → Bool
is_init_of_class env x = elim (component_named env x) [ None ↦ true | Some c ↦ same_sort Class c.system.sort ]

-- Calls of a monitor, and `init` of a monitor or a process, belong to the kernel. This depends only
-- on the type of the component.
abbrev pub is_kernel_action : Action → Bool
is_kernel_action Rests = false
is_kernel_action (Calls u k) = is_monitor_call u.callee
is_kernel_action (Acts (Do (Init x arguments) env) k) = not (is_init_of_class env x)
is_kernel_action (Acts i k) = false
