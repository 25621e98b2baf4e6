use Rattle.std.proofs.Common.{refl}
use Rattle.cp_law_typing.specs.StaticTypes.{place_type}
use Rattle.cp_model_program.specs.Scopes.{environment}
use Rattle.cp_model.specs.Locations.{ByName}
use Rattle.std.proofs.Common.{◌∷◌, []}
use Rattle.cp_model_program.specs.Layout.{part}
use Rattle.cp_compile_lower.proofs.PartsMade.{field_made}
use Rattle.cp_compile_lower.proofs.translator.Translator.field.Goals as goal

pub returns : goal.returns
returns c = λ calls s low before d scope place.
    let of = c.args.of in
    let types = c.args.self.now.scope.tables.now.types in
    let t = place_type (environment s) d in
    let begins = c.in_ok-at.ensures types (part s.globals t (ByName c.args.name.now ∷ [])) (c.part.ensures s t scope place.typed) in
    let place_expression = rw c.in_ok-place_expression.ensures.ok_part at c.advance.ensures in
    field_made c.args.self.now.scope s low before calls d c.args.name.now of
    (record { place_expression = c.in_ok-place_expression.place_expression; temps = of.temps; of = c.field_type.result }) c.in_ok-at.at begins place_expression
    refl (c.field_type.ensures s t scope place.typed) place
