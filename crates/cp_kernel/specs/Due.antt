-- Whether a step is the kernel's.
use Rattle.std.specs.Prelude.{Bool, true, false}
use Rattle.cp_private.specs.declared.kind.Kind.{Kind}
use Rattle.cp_private.specs.declared.kind.Kind.TheVariants as kind

abbrev pub is_kernel : Kind → Bool
is_kernel kind.Kernel = true
is_kernel _ = false
