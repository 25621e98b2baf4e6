-- What is left to read of a source.
use Rattle.std.specs.Prelude.{ℕ, List, Option, Some}
use Rattle.std.specs.Io.Cursor.{cursor_remaining}
use Rattle.cp_cli_sources.specs.declared.opening.Source.{Source}
use Rattle.cp_cli_sources.specs.declared.opening.Source.TheVariants as source

abbrev pub remaining_of : {F : Type 0} → {I : Type 0} → (F → Option (List ℕ)) → (I → Option (List ℕ)) → Source F I → Option (List ℕ)
remaining_of of_file of_input (source.File file) = of_file file
remaining_of of_file of_input (source.StandardInput input) = of_input input
remaining_of of_file of_input (source.Bytes bytes) = cursor_remaining (λ v. Some v.items) bytes
