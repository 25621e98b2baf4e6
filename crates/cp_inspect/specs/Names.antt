-- Which component a name means. Names are the same if they differ only in the case of letters.
use Rattle.std.specs.Prelude.{ℕ, suc, Bool, List, [], ◌∷◌, Option, None, Some, codes, filter, if◌then◌else◌, map, option_map}
use Rattle.std.specs.Option.{option_or}
use Rattle.std.specs.Str.{str_eq_ignore_ascii_case}
use Rattle.cp_model.specs.Abstract.{Name, Sort, Tree}
use Rattle.cp_model.specs.Components.{is_component_of}
use Rattle.cp_model.specs.Declarations.{declarations, globals}
use Rattle.cp_compile_symbols.specs.declared.types.Field.{Field}
use Rattle.cp_inspect.specs.declared.place.Owner.{Owner}
use Rattle.cp_inspect.specs.declared.place.Owner.TheVariants as owner

abbrev pub is_same_name : Name → Name → Bool
is_same_name = str_eq_ignore_ascii_case

-- The number of the first of these names that is the same as `x`. The first of all has the number `n`.
abbrev pub number_from : ℕ → Name → List Name → Option ℕ
number_from n x [] = None
number_from n x (y ∷ ys) = if is_same_name y x then Some n else number_from (suc n) x ys

-- The process that a name means, among processes with these names from number 2 on. Process 1 is
-- `initial`, unless another process has that name.
abbrev pub process_named : Name → List Name → Option ℕ
process_named x processes = option_or (number_from 2 x processes) (if is_same_name x (codes "initial") then Some 1 else None)

-- The monitor that a name means, or else the process.
abbrev pub owner_named : Name → List Name → List Name → Option Owner
owner_named x monitors processes = option_or (option_map owner.Monitor (number_from 1 x monitors)) (option_map owner.Process (process_named x processes))

abbrev pub names_of : List Field → List Name
names_of fields = map (λ (f : Field). f.name.now) fields

-- The names of the components of a sort in a text, in the order in which they are declared.
abbrev pub component_names : Tree → Sort → List Name
component_names t z = map (λ v. v.0) (filter (λ v. is_component_of z v.1.type) (declarations (globals t) t.initial.variables))
