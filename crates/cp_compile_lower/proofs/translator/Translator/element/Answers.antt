use Rattle.std.proofs.Common.{rules, ◌≡◌, ◌∙◌, Some, refl, subst, sym}
use Rattle.std.specs.Int.{w32}
use Rattle.std.specs.Prelude.{FitsSigned}
use Rattle.std.proofs.lemmas.Int.{to_z-of_z}
use Rattle.cp_model_program.specs.Terms as plain
use Rattle.cp_program.specs.View as view
use Rattle.cp_law_typing.specs.StaticTypes.{element_type, place_type}
use Rattle.cp_law_typing.specs.Words.{words}
use Rattle.cp_model_program.specs.CodedTerms.{coded_place_expression, coded_term}
use Rattle.cp_model_program.specs.Scopes.{environment}
use Rattle.cp_compile_symbols.specs.Places.{TypeIs}
use Rattle.cp_compile_lower.proofs.PartsMade.{element_made, elements_there}
use Rattle.cp_compile_lower.proofs.translator.Translator.element.Goals as goal

pub returns : goal.returns
returns c = λ s low before old new d e there scope place term.
    let of = c.args.of in
    let elements = c.args.elements in
    let types = c.args.self.now.scope.tables.now.types in
    let t = place_type (environment s) d in
    let array = elements_there types of.of elements t place.typed there in
    let long : c.in_ok-size.size ≡ words s.globals array.element = c.in_ok-size.ensures s array.element scope array.represents in
    let fits : FitsSigned w32 elements.low = search rules in
    let high_fits : FitsSigned w32 elements.high = search rules in
    let made = c.in_ok-place_expression.ensures in
    record {
      place_expression =
          element_made s.globals before old new of
          (record { place_expression = c.in_ok-place_expression.place_expression; temps = c.args.index.temps; of = Some elements.of }) c.args.index (coded_place_expression s d low)
          (coded_term s e) t array.element elements.low elements.high c.in_ok-size.size array.is long
          (made ∙ (λ i. plain.Element (view.place_expression of.place_expression) (to_z-of_z w32 elements.low fits i) (to_z-of_z w32 elements.high high_fits i) c.in_ok-size.size 0 (view.term c.args.index.term)))
          refl place.place_expression term;
      typed = subst (λ u. TypeIs types (Some elements.of) (element_type u)) (sym array.is) array.represents;
    }
