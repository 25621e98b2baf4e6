-- When a table is right about what a declared name is, and how many components come before it.
use Rattle.std.specs.Prelude.{◌≡◌, ℕ, List, Option, None, Some}
use Rattle.cp_model.specs.Abstract.{Monitor, Name, Process}
use Rattle.cp_model.specs.Components.{count_before}
use Rattle.cp_model.specs.Declarations.{Variable}
use Rattle.cp_model.specs.Names.{lookup}
use Rattle.cp_compile_symbols.specs.declared.numbering.Numbered.{Numbered}
use Rattle.cp_compile_symbols.specs.declared.types.TypeRow.{TypeRow}
use Rattle.cp_compile_symbols.specs.declared.types.TypeRow.TheVariants as row
use Rattle.cp_compile_symbols.specs.declared.types.Types.{Types}
use Rattle.cp_compile_symbols.specs.Representing.{Represents}
use Rattle.cp_compile_symbols.specs.Variables.{AreDeclared, Entry}

abbrev pub system_of : Option TypeRow → Option ℕ
system_of (Some (row.Component k members)) = Some k
system_of _ = None

-- The name `x` is declared as `v`, after `n.monitors` monitors and `n.processes` processes.
pub record IsNumbered (types : Types) (vs : List (Name × Variable)) (x : Name) (n : Numbered) (v : Variable) : Type 0 where
  pub type : Represents types n.of v.type
  pub monitors : count_before Monitor x vs ≡ n.monitors
  pub processes : count_before Process x vs ≡ n.processes

abbrev pub NumberedIs : Types → List (Name × Variable) → Name → Option Numbered → Option Variable → Type 0
NumberedIs types vs x None None = Unit {0}
NumberedIs types vs x (Some n) (Some v) = IsNumbered types vs x n v
NumberedIs types vs x _ _ = ⊥

abbrev pub AreNumbered : Types → List Entry → List (Name × Numbered) → Type 0
AreNumbered types list names = (vs : List (Name × Variable)) → AreDeclared types list vs → (x : Name) → NumberedIs types vs x (lookup x names) (lookup x vs)
