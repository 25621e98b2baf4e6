-- Where variables begin.
use Rattle.std.proofs.Common.{◌≡◌, ℕ, Option, None, Some, ap}
use Rattle.cp_model.specs.Declarations.{Variable}
use Rattle.cp_model_program.specs.Layout as layout
use Rattle.cp_model_program.specs.Scopes.{root_of_local, root_or_member}
use Rattle.cp_model_program.specs.Terms as plain
use Rattle.cp_compile_symbols.specs.declared.layout.Part.{Part}
use Rattle.cp_compile_symbols.specs.declared.locals.Local.{Local}
use Rattle.cp_compile_symbols.specs.declared.types.Types.{Types}
use Rattle.cp_compile_symbols.specs.Layouts.{PartIs}
use Rattle.cp_compile_symbols.specs.Locals.{LocalIs}

pub local_begins : (types : Types) (local : Local) (r : plain.Root) (l : Option (ℕ × Variable)) (m : Option layout.Part)
    → ((types : Types) (q : ℕ × Variable) → LocalIs types (Some local) (Some q) → r ≡ root_of_local q)
    → LocalIs types (Some local) l → Some r ≡ root_or_member l m
local_begins types local r None m f h = absurd h
local_begins types local r (Some q) m f h = ap Some (f types q h)

pub member_begins : (types : Types) (part : Part) (r : plain.Root) (l : Option (ℕ × Variable)) (m : Option layout.Part)
    → ((types : Types) (q : layout.Part) → PartIs types (Some part) (Some q) → r ≡ plain.Member q.0)
    → LocalIs types None l → PartIs types (Some part) m → Some r ≡ root_or_member l m
member_begins types part r (Some q) m f h g = absurd h
member_begins types part r None None f h g = absurd g
member_begins types part r None (Some q) f h g = ap Some (f types q g)
