use Rattle.cp_law_typing.specs.StaticTypes.{place_type}
use Rattle.cp_model_program.specs.Scopes.{environment}
use Rattle.cp_compile_symbols.proofs.Parts.{field_selected}
use Rattle.cp_compile_symbols.proofs.scope.Scope.selected_type.Goals as goal

pub returns-in-Field : goal.returns-in-Field
returns-in-Field c =
    rw c.in-Field.is
    (λ s d i typed.
    field_selected c.args.self.now s c.field_type.result d c.in-Field.at c.in-Field.name
    ((rw c.as_bytes.ensures at c.field_type.ensures) s (place_type (environment s) d) i typed))
