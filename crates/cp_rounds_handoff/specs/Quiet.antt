-- Processes that have no kernel turn to make, whatever the kernel is.
use Rattle.std.specs.Prelude.{ℕ, Bool, true, false, List, [], ◌∷◌}
use Rattle.cp_model_program.specs.Programs.{Program}
use Rattle.cp_model_machine.specs.PrivateStates.{PrivateState}
use Rattle.cp_private.specs.Kinds.{kind_of}
use Rattle.cp_private.specs.declared.kind.Kind.{Kind}
use Rattle.cp_private.specs.declared.kind.Kind.TheVariants as kind

abbrev pub needs_no_kernel_by : Kind → List ℕ → Bool
needs_no_kernel_by kind.Private [] = true
needs_no_kernel_by kind.Private (b ∷ written) = false
needs_no_kernel_by kind.Kernel written = false
needs_no_kernel_by kind.None [] = true
needs_no_kernel_by kind.None (b ∷ written) = false

-- No step of the kernel is next, and nothing that was written is left.
abbrev pub needs_no_kernel : Program → PrivateState → Bool
needs_no_kernel program o = needs_no_kernel_by (kind_of program o) o.output
