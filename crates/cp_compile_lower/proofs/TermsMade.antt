-- The terms of expressions.
use Rattle.std.proofs.Common.{◌≡◌, true, ℕ, List, map, refl, subst, sym}
use Rattle.std.proofs.lemmas.List.{append-nil}
use Rattle.cp_model.specs.Abstract as a
use Rattle.cp_model.specs.Erase as erase
use Rattle.cp_model.specs.Syntax as syntax
use Rattle.cp_model_program.specs.CodedTerms as coded
use Rattle.cp_model_program.specs.CodedTerms.{coded_term, name_or_item}
use Rattle.cp_model_program.specs.Scopes as code
use Rattle.cp_model_program.specs.Terms as plain
use Rattle.cp_compile_emit.specs.Emission.{coded_call}
use Rattle.cp_compile_emit.specs.declared.call.MadeTerm.{MadeTerm}
use Rattle.cp_compile_emit.specs.declared.emitter.CodedCall.{CodedCall}
use Rattle.cp_compile_symbols.specs.Designators.{is_part}
use Rattle.cp_program.specs.View as view
use Rattle.cp_compile_lower.specs.Translated.{IsTerm}

-- A term that needs no calls.
pub lone_made : (calls : List CodedCall) (made : MadeTerm) (t : plain.Term) (low : ℕ) → view.term made.term ≡ t → made.temps ≡ low
    → IsTerm (map coded_call calls) calls made (coded.lone_term t low)
lone_made calls made t low is temps = record { term = is; calls = sym (append-nil (map coded_call calls)); temps = temps }

pub seen_as : (before : List coded.CodedCall) (after : List CodedCall) (made : MadeTerm) (s : code.Scope) (low : ℕ) (x y : syntax.Expression) → x ≡ y
    → IsTerm before after made (coded_term s (erase.expression y) low) → IsTerm before after made (coded_term s (erase.expression x) low)
seen_as before after made s low x y same h = subst (λ z. IsTerm before after made (coded_term s (erase.expression z) low)) (sym same) h

pub part_held : (s : code.Scope) (d : a.Designator) (c : coded.CodedPlaceExpression) (low : ℕ) → is_part d ≡ true
    → name_or_item s d c low ≡ record { term = plain.Item c.place_expression; calls = c.calls; temps = c.temps }
part_held s (a.Plain x) c low part = absurd (cc)
part_held s (a.Part d x) c low part = refl
part_held s (a.At d e) c low part = refl
