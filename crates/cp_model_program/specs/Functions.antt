-- What the standard functions of a program return.
use Rattle.std.specs.Prelude.{Bool, ℤ, pos, negsuc, ◌+ℤ◌, nat_abs, Result, Ok, Err, if◌then◌else◌}
use Rattle.cp_model.specs.Places.{within}
use Rattle.cp_model.specs.declared.state.Fault.{Fault}
use Rattle.cp_model.specs.declared.state.Fault.TheVariants as fault
use Rattle.cp_model_program.specs.Terms.{Abs, Chr, Function, Ord, Shift}

abbrev pub unless : {A : Type 0} → Bool → Fault → A → Result A Fault
unless b f x = if b then Ok x else Err f

abbrev pub in_range : ℤ → Result ℤ Fault
in_range n = unless (within (negsuc 32767) (pos 32767) n) fault.Overflow n

abbrev pub standard : Function → ℤ → Result ℤ Fault
standard Abs n = in_range (pos (nat_abs n))
standard Ord n = in_range n
standard Chr n = unless (within (pos 0) (pos 127) n) fault.Range n
standard (Shift by low high) n = unless (within low high (n +ℤ by)) fault.Range (n +ℤ by)
