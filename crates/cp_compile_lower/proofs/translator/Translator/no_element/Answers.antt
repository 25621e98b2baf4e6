use Rattle.std.proofs.Common.{None, subst, sym}
use Rattle.cp_law_typing.specs.StaticTypes.{place_type}
use Rattle.cp_model_program.specs.CodedTerms.{coded_place_expression, coded_term}
use Rattle.cp_model_program.specs.Scopes.{environment}
use Rattle.cp_compile_lower.specs.Translated.{IsPlaceExpression}
use Rattle.cp_compile_lower.proofs.PartsMade.{no_elements}
use Rattle.cp_compile_lower.proofs.translator.Translator.no_element.Goals as goal

pub returns : goal.returns
returns c = λ s low before calls d e none place.
    let of = c.args.of in
    let c0 = coded_place_expression s d low in
    let other = no_elements c.args.self.now.scope.tables.now.types of.of (place_type (environment s) d) place.typed none s.globals c0 (coded_term s e c0.temps) in
    record {
      place_expression = subst (IsPlaceExpression before calls (record of { of = None })) (sym other.0) (record { place_expression = place.place_expression.place_expression; calls = place.place_expression.calls; temps = place.place_expression.temps });
      typed = other.1;
    }
