-- The gates and stages of a kernel are still those of the state after a step with all words in
-- reach.
use Rattle.std.proofs.Common.{◌≡◌, ℕ, ℤ, List}
use Rattle.cp_model.specs.Actions.{action}
use Rattle.cp_model.specs.Configurations.{Ready}
use Rattle.cp_model.specs.Continuations.{Task}
use Rattle.cp_model.specs.States.{State, monitor_count, process_count}
use Rattle.cp_model.specs.Stores.{Store}
use Rattle.cp_model_machine.specs.Addresses.{Ground, activations}
use Rattle.cp_model_machine.specs.EffectOf.{IsNumber}
use Rattle.cp_model_machine.specs.KernelOf.{GatesRepresent, kernel_ground}
use Rattle.cp_model_machine.specs.KernelSteps.{Kernel, apply_effect}
use Rattle.cp_model_machine.specs.PartOf.{RunsOn}
use Rattle.cp_model_machine.specs.PrivateStates.{StepContext, PrivateState}
use Rattle.cp_model_machine.specs.Steps.{act}
use Rattle.cp_model_machine.proofs.KernelKept.{kernel_kept}
use Rattle.cp_model_machine.proofs.MonitorsThere.{process_below}
use Rattle.cp_model_machine.proofs.RunningOn.{runs_stacked}
use Rattle.cp_model_machine.proofs.Stacks.{process_of_stack}
use Rattle.cp_model_machine.proofs.Stepping.{AroundAll, Stepped, acted, does}

-- A process that runs has a number.
pub runs_numbered : (G : Ground) (store : Store) (o : PrivateState) (k : List Task) → RunsOn G store o k → IsNumber (process_count G.setup) G.p
runs_numbered G store o k R =
    let s = process_of_stack G _ (activations o.base o.frames k) (runs_stacked G store o k R).stack in process_below G.setup G.p s.0 s.1

module _ (G : Ground) where
  abbrev pub Represent : State → Kernel → Type 0
  Represent s k = GatesRepresent (kernel_ground G.program G.texts G.setup) (monitor_count G.setup) (process_count G.setup) s k

  -- Gates and stages don't depend on the shared words.
  pub represent_beside : (s : State) (k : Kernel) (us : List ℤ) → Represent s k → Represent s (record k { shared = us })
  represent_beside s k us S = record {
    gate_count = S.gate_count;
    stage_count = S.stage_count;
    gates = S.gates;
    stages = S.stages;
    askers = S.askers;
  }

  pub effects_kept : (s : State) (w : StepContext) (before : List ℕ) (o : PrivateState) (S : Stepped G s w before o) → AroundAll G s w → IsNumber (process_count G.setup) G.p → s.status G.p ≡ Ready
      → (k : Kernel) → Represent s k → Represent (acted G s) (apply_effect w.own G.p (act G.program w o S.operation).1 k)
  effects_kept s w before o S all number ready k K =
      kernel_kept (kernel_ground G.program G.texts G.setup) (monitor_count G.setup) (process_count G.setup) s k w.own G.p number ready K (does G s (action (s.continuation G.p)))
      (act G.program w o S.operation).1 (S.effect all)
