-- Declared names as members.
use Rattle.std.specs.Prelude.{Bool, ℕ, List, filter, is_none}
use Rattle.cp_model.specs.Abstract.{Name}
use Rattle.cp_compile_symbols.specs.declared.types.Types.{Types}
use Rattle.cp_compile_symbols.specs.declared.variables.Declared.{Declared}
use Rattle.cp_compile_symbols.specs.Numbering.{system_of}
use Rattle.cp_compile_symbols.specs.Representing.{row_at}

-- The name of a declared variable and the number of its type.
abbrev pub member_of : Declared → Name × ℕ
member_of d = (d.name.now, d.of)

-- Whether a declared name isn't that of a component.
abbrev pub is_own : Types → Declared → Bool
is_own types d = is_none (system_of (row_at types d.of))

abbrev pub own_of : Types → List Declared → List Declared
own_of types ds = filter (is_own types) ds
