-- The kind of a process's next step.
use Rattle.std.specs.Prelude.{if◌then◌else◌}
use Rattle.cp_model_program.specs.Programs.{Program}
use Rattle.cp_model_machine.specs.KernelSteps.{needs_kernel}
use Rattle.cp_model_machine.specs.PrivateStates.{PrivateState, is_running}
use Rattle.cp_model_machine.specs.Steps.{is_private, operation_of}
use Rattle.cp_private.specs.declared.kind.Kind.{Kind}
use Rattle.cp_private.specs.declared.kind.Kind.TheVariants as kind

abbrev pub kind_of : Program → PrivateState → Kind
kind_of program o =
    let x = operation_of program o in
    if is_running o.activity
    then (if is_private o x then kind.Private else (if needs_kernel o x then kind.Kernel else kind.None))
    else kind.None
