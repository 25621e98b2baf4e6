-- When the code makes terms, place expressions and arguments as the compiler's definition does.
use Rattle.std.specs.Prelude.{◌≡◌, ℕ, List, ◌++◌, Option, None, Some, map}
use Rattle.cp_model.specs.Abstract as a
use Rattle.cp_model.specs.Abstract.{Name}
use Rattle.cp_model.specs.Erase as erase
use Rattle.cp_model.specs.Syntax as syntax
use Rattle.cp_model.specs.Syntax.{chain_of}
use Rattle.cp_model_program.specs.CodedTerms as coded
use Rattle.cp_model_program.specs.CodedTerms.{coded_arguments, coded_place_expression, coded_term, coded_variable}
use Rattle.cp_model_program.specs.Scopes as code
use Rattle.cp_program.specs.View as view
use Rattle.cp_compile_symbols.specs.declared.scope.Scope.{Scope}
use Rattle.cp_compile_symbols.specs.declared.places.Elements.{Elements}
use Rattle.cp_compile_symbols.specs.declared.types.Types.{Types}
use Rattle.cp_compile_symbols.specs.Places.{PlaceIs, elements_of}
use Rattle.cp_compile_symbols.specs.Scopes.{IsScope}
use Rattle.cp_compile_symbols.specs.Representing.{row_at}
use Rattle.cp_compile_emit.specs.Emission.{coded_call}
use Rattle.cp_compile_emit.specs.declared.call.MadeTerm.{MadeTerm}
use Rattle.cp_compile_emit.specs.declared.emitter.CodedCall.{CodedCall}
use Rattle.cp_compile_lower.specs.declared.made.MadeArgument.{MadeArgument}
use Rattle.cp_compile_lower.specs.declared.made.MadeArguments.{MadeArguments}
use Rattle.cp_compile_lower.specs.declared.made.MadePlaceExpression.{MadePlaceExpression}

-- ---- What is made, with its calls after those in `before`

pub record IsTerm (before : List coded.CodedCall) (after : List CodedCall) (made : MadeTerm) (t : coded.CodedTerm)
    : Type 0 where
  pub term : view.term made.term ≡ t.term
  pub calls : map coded_call after ≡ before ++ t.calls
  pub temps : made.temps ≡ t.temps

pub record IsPlaceExpression (before : List coded.CodedCall) (after : List CodedCall) (made : MadePlaceExpression) (t : coded.CodedPlaceExpression)
    : Type 0 where
  pub place_expression : view.place_expression made.place_expression ≡ t.place_expression
  pub calls : map coded_call after ≡ before ++ t.calls
  pub temps : made.temps ≡ t.temps

pub record IsArgument (before : List coded.CodedCall) (after : List CodedCall)
    (made : MadeArgument) (t : coded.CodedArgument) : Type 0 where
  pub argument : view.argument made.argument ≡ t.argument
  pub calls : map coded_call after ≡ before ++ t.calls
  pub temps : made.temps ≡ t.temps

pub record AreArguments (before : List coded.CodedCall) (after : List CodedCall)
    (made : MadeArguments) (t : coded.CodedArguments) : Type 0 where
  pub arguments : map view.argument made.arguments.items ≡ t.arguments
  pub calls : map coded_call after ≡ before ++ t.calls
  pub temps : made.temps ≡ t.temps

-- The place expression of a designator and the type of its place.
pub record IsPlace (scope : Scope) (s : code.Scope) (low : ℕ) (before : List coded.CodedCall) (after : List CodedCall)
    (d : a.Designator) (made : MadePlaceExpression) : Type 0 where
  pub place_expression : IsPlaceExpression before after made (coded_place_expression s d low)
  pub typed : PlaceIs scope s made.of d

-- The elements of a value of the type with this number, if it is an array.
abbrev pub elements_at : Types → Option ℕ → Option Elements
elements_at types None = None
elements_at types (Some n) = elements_of (row_at types n)

-- ---- What functions make

-- The term of an expression, in each scope that has this table.
abbrev pub TermOf : Scope → List CodedCall → List CodedCall → a.Expression → ℕ → MadeTerm → Type 0
TermOf scope old new e low made =
    (s : code.Scope) → IsScope scope s → IsTerm (map coded_call old) new made (coded_term s e low)

-- The place expression of an argument that is a variable.
abbrev pub VariableOf : Scope → List CodedCall → List CodedCall → a.Expression → ℕ → MadePlaceExpression → Type 0
VariableOf scope old new e low made =
    (s : code.Scope) → IsScope scope s → IsPlaceExpression (map coded_call old) new made (coded_variable s e low)

abbrev pub PlaceExpressionOf : Scope → List CodedCall → List CodedCall → a.Designator → ℕ → MadePlaceExpression → Type 0
PlaceExpressionOf scope old new d low made =
    (s : code.Scope) → IsScope scope s → IsPlace scope s low (map coded_call old) new d made

-- The place expression of a part of a place, if `of` is the place expression of that place.
abbrev pub PartOf : Scope → List CodedCall → List CodedCall → MadePlaceExpression → (a.Designator → a.Designator) → MadePlaceExpression
    → Type 0
PartOf scope old new of part made =
    (s : code.Scope) (low : ℕ) (before : List coded.CodedCall) (d : a.Designator) → IsScope scope s
    → IsPlace scope s low before old d of → IsPlace scope s low before new (part d) made

-- The term of a chain, if `first` is the term of its first operand.
abbrev pub ChainOf : Scope → List CodedCall → List CodedCall → MadeTerm → List syntax.Operation → MadeTerm → Type 0
ChainOf scope old new first rest made =
    (s : code.Scope) (low : ℕ) (before : List coded.CodedCall) (e : syntax.Expression) → IsScope scope s
    → IsTerm before old first (coded_term s (erase.expression e) low)
    → IsTerm before new made (coded_term s (erase.expression (chain_of e rest)) low)
