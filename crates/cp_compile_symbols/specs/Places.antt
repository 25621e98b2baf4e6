-- The types of places.
use Rattle.std.specs.Prelude.{◌≡◌, Bool, true, false, ℕ, Option, None, Some}
use Rattle.cp_model.specs.Abstract as a
use Rattle.cp_model.specs.Types.{NoType, RecordOf, ResolvedType}
use Rattle.cp_law_typing.specs.StaticTypes.{place_type}
use Rattle.cp_model_program.specs.Scopes as code
use Rattle.cp_model_program.specs.Scopes.{environment}
use Rattle.cp_compile_symbols.specs.declared.places.Elements.{Elements}
use Rattle.cp_compile_symbols.specs.declared.scope.Scope.{Scope}
use Rattle.cp_compile_symbols.specs.declared.types.TypeRow.{TypeRow}
use Rattle.cp_compile_symbols.specs.declared.types.TypeRow.TheVariants as row
use Rattle.cp_compile_symbols.specs.declared.types.Types.{Types}
use Rattle.cp_compile_symbols.specs.Representing.{Represents}

abbrev pub is_record : ResolvedType → Bool
is_record (RecordOf ms) = true
is_record t = false

abbrev pub elements_of : Option TypeRow → Option Elements
elements_of (Some (row.Array low high e)) = Some (record { low = low; high = high; of = e })
elements_of r = None

-- `Some` has the number of the type `t`, and `None` means that there is no type.
abbrev pub TypeIs : Types → Option ℕ → ResolvedType → Type 0
TypeIs types None t = t ≡ NoType
TypeIs types (Some n) t = Represents types n t

-- `of` describes the type of the place of the designator `d`.
abbrev pub PlaceIs : Scope → code.Scope → Option ℕ → a.Designator → Type 0
PlaceIs scope s of d = TypeIs scope.tables.now.types of (place_type (environment s) d)
