-- Calls, and standard functions.
use Rattle.std.proofs.Common.{◌≡◌, ◌≤◌, ◌∷◌, ℕ, List, [], Option, None, Some, true, false, if◌then◌else◌, ap, arith, codes, drop, length, map, refl, slice_index_or, subst, sym}
use Rattle.std.specs.Str.{bytes_eq}
use Rattle.std.proofs.lemmas.List.{append-nil}
use Rattle.cp_model.specs.Abstract as a
use Rattle.cp_model.specs.Abstract.{BaseType, MoreExpressions, Name, NoExpression}
use Rattle.cp_model.specs.Calls as model
use Rattle.cp_model.specs.Calls.{callee}
use Rattle.cp_model.specs.Declarations.{Variable}
use Rattle.cp_model.specs.Erase as erase
use Rattle.cp_model.specs.Expressions.{name_of}
use Rattle.cp_model.specs.Types.{GlobalScope, ResolvedType, base_of_type}
use Rattle.cp_law_typing.specs.StaticTypes.{expression_type}
use Rattle.cp_model_program.specs.CodedTerms as coded
use Rattle.cp_model_program.specs.CodedTerms.{argument_of, by_value, called_term, coded_arguments, coded_place_expression, coded_standard, coded_term, coded_variable, function_call, function_named, parameters_of, standard_term, used_term}
use Rattle.cp_model_program.specs.Scopes as code
use Rattle.cp_model_program.specs.Scopes.{environment}
use Rattle.cp_model_program.specs.Sites.{first_parameter}
use Rattle.cp_model_program.specs.Terms as plain
use Rattle.cp_compile_emit.specs.Emission.{coded_call}
use Rattle.cp_compile_emit.specs.declared.emitter.CodedCall.{CodedCall}
use Rattle.cp_compile_symbols.specs.declared.scope.Callee.{Callee}
use Rattle.cp_compile_symbols.specs.declared.scope.Scope.{Scope}
use Rattle.cp_compile_symbols.specs.Scopes.{CalleeIs, IsCallee}
use Rattle.cp_program.specs.View as view
use Rattle.cp_compile_lower.specs.declared.made.MadeArgument.{MadeArgument}
use Rattle.cp_compile_lower.specs.declared.made.MadeArguments.{MadeArguments}
use Rattle.cp_compile_lower.specs.Translated.{AreArguments, IsArgument}

-- ---- Callees

pub record CalledBy (scope : Scope) (s : code.Scope) (f : Callee) (o : Option model.Callee) : Type 0 where
  pub callee : model.Callee
  pub is : o ≡ Some callee
  pub represents : IsCallee scope s f callee

pub called_by : (scope : Scope) (s : code.Scope) (f : Callee) (o : Option model.Callee) → CalleeIs scope s (Some f) o → CalledBy scope s f o
called_by scope s f None h = absurd h
called_by scope s f (Some c) h = record { callee = c; is = refl; represents = h }

pub none_called : (scope : Scope) (s : code.Scope) (o : Option model.Callee) → CalleeIs scope s None o → o ≡ None
none_called scope s None h = refl
none_called scope s (Some c) h = absurd h

pub called_as : (s : code.Scope) (d : a.Designator) (es : a.Expressions) (low : ℕ) (c : model.Callee) → callee (environment s) d ≡ Some c
    → coded_term s (erase.call_or_name d es) low ≡ function_call s c (coded_arguments s es (parameters_of s c) (first_parameter c) low) low
called_as s d NoExpression low c is = ap (used_term s d low (coded_place_expression s d low)) is
called_as s d (MoreExpressions e es) low c is =
    ap
    (called_term s low (coded_standard s (name_of d) (MoreExpressions e es) low)
    (λ o. coded_arguments s (MoreExpressions e es) (parameters_of s o) (first_parameter o) low))
    is

pub nothing_passed : (calls : List CodedCall) (made : MadeArguments) (low : ℕ) → made.arguments.items ≡ [] → made.temps ≡ low
    → AreArguments (map coded_call calls) calls made (coded.no_arguments low)
nothing_passed calls made low none temps = record {
  arguments = ap (map view.argument) none;
  calls = sym (append-nil (map coded_call calls));
  temps = temps;
}

-- ---- Standard functions

pub first_at : {A : Type 0} (xs : List A) (x : A) → 1 ≤ length xs → x ≡ slice_index_or xs 0 x → xs ≡ x ∷ drop 1 xs
first_at [] x some is = absurd (omega (arith, some))
first_at (y ∷ ys) x some is = ap (λ z. z ∷ ys) (sym is)

pub standard_as : (s : code.Scope) (d : a.Designator) (e : a.Expression) (es : a.Expressions) (low : ℕ) → callee (environment s) d ≡ None
    → coded_term s (erase.call_or_name d (MoreExpressions e es)) low
    ≡ standard_term (name_of d) (base_of_type (expression_type (environment s) e)) (coded_term s e low) (coded_variable s e low)
standard_as s d e es low none =
    ap
    (called_term s low (coded_standard s (name_of d) (MoreExpressions e es) low)
    (λ o. coded_arguments s (MoreExpressions e es) (parameters_of s o) (first_parameter o) low))
    none

pub standard_empty : (x : Name) (b : BaseType) (t : coded.CodedTerm) (c : coded.CodedPlaceExpression) → bytes_eq x (codes "empty") ≡ true
    → standard_term x b t c ≡ record { term = plain.Empty c.place_expression; calls = c.calls; temps = c.temps }
standard_empty x b t c is = rw is refl

pub standard_other : (x : Name) (b : BaseType) (t : coded.CodedTerm) (c : coded.CodedPlaceExpression) → bytes_eq x (codes "empty") ≡ false
    → standard_term x b t c ≡ record t { term = plain.Standard (function_named x b) t.term }
standard_other x b t c is = rw is refl

-- ---- Values

pub valued : (before : List coded.CodedCall) (after : List CodedCall) (one : MadeArgument) (g : GlobalScope) (v : Variable) (at : ℕ) (t : coded.CodedTerm)
    (c : coded.CodedPlaceExpression) (type : ResolvedType) → v.by_reference ≡ false → type ≡ v.type → IsArgument before after one (by_value g type at t c)
    → IsArgument before after one (argument_of g v at t c)
valued before after one g v at t c type value same h =
    subst
    (λ b. IsArgument before after one
    (if b then record { argument = plain.Reference at c.place_expression; calls = c.calls; temps = c.temps } else by_value g v.type at t c)) (sym value)
    (subst (λ u. IsArgument before after one (by_value g u at t c)) same h)
