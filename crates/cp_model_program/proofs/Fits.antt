-- The temps that the operations of a unit use are within what the unit needs.
use Rattle.std.proofs.Common.{ℕ, suc, ◌≤◌, ◌+◌, List, [], ◌∷◌, ◌++◌, Option, Some, None, Bool, true, false, if◌then◌else◌, bytes_eq, codes}
use Rattle.cp_model.specs.Abstract as a
use Rattle.cp_model.specs.Abstract.{BaseType, Name}
use Rattle.cp_model.specs.Types.{ArrayOf, ComponentOf, GlobalScope, NoType, Queue, RecordOf, ResolvedType, Simple, base_of_type}
use Rattle.cp_model.specs.Declarations.{Variable}
use Rattle.cp_model.specs.Calls.{Callee, callee}
use Rattle.cp_model.specs.Expressions.{name_of}
use Rattle.cp_law_typing.specs.StaticTypes.{expression_type, place_type}
use Rattle.cp_model_program.specs.Terms.{Empty, Standard}
use Rattle.cp_model_program.specs.Layout.{local_words}
use Rattle.cp_model_program.specs.Sites.{first_parameter}
use Rattle.cp_model_program.specs.Scopes.{Scope, environment}
use Rattle.cp_model_program.specs.CodedTerms.{CodedArguments, CodedCall, CodedPlaceExpression, CodedTerm, argument_of, by_value, called_term, coded_arguments, coded_place_expression, coded_standard, coded_term, coded_variable, element_part, function_call, function_named, name_or_item, no_arguments, parameters_of, standard_term, used_term}

module _ (m : ℕ) where
  abbrev pub AllBelow : List CodedCall → Type 0
  AllBelow [] = Unit {0}
  AllBelow (c ∷ cs) = (suc c.into ≤ m) × AllBelow cs

  pub below_split : (cs ds : List CodedCall) → AllBelow (cs ++ ds) → AllBelow cs × AllBelow ds
  below_split [] ds h = (tt, h)
  below_split (c ∷ cs) ds h = let k : AllBelow cs × AllBelow ds = below_split cs ds h.1 in ((h.0, k.0), k.1)

  name_fits : (scope : Scope) (d : a.Designator) (s : CodedPlaceExpression) (low : ℕ) → low ≤ m → (AllBelow s.calls → s.temps ≤ m)
      → AllBelow (name_or_item scope d s low).calls → (name_or_item scope d s low).temps ≤ m
  name_fits scope (a.Plain x) s low h k all = h
  name_fits scope (a.Part d x) s low h k all = k all
  name_fits scope (a.At d e) s low h k all = k all

  element_fits : (g : GlobalScope) (t : ResolvedType) (s : CodedPlaceExpression) (i : CodedTerm) → (AllBelow s.calls → s.temps ≤ m)
      → (s.temps ≤ m → AllBelow i.calls → i.temps ≤ m) → AllBelow (element_part g t s i).calls → (element_part g t s i).temps ≤ m
  element_fits g (ArrayOf lower upper t) s i h k all = let both = below_split s.calls i.calls all in k (h both.0) both.1
  element_fits g (Simple b lower upper start) s i h k all = h all
  element_fits g (RecordOf ms) s i h k all = h all
  element_fits g Queue s i h k all = h all
  element_fits g (ComponentOf r inner) s i h k all = h all
  element_fits g NoType s i h k all = h all

  standard_fits : (x : Name) (b : BaseType) (t : CodedTerm) (s : CodedPlaceExpression) → (AllBelow t.calls → t.temps ≤ m) → (AllBelow s.calls → s.temps ≤ m)
      → AllBelow (standard_term x b t s).calls → (standard_term x b t s).temps ≤ m
  standard_fits x b t s h k = go (bytes_eq x (codes "empty"))
    where
      made : Bool → CodedTerm
      made c = if c then record { term = Empty s.place_expression; calls = s.calls; temps = s.temps } else record t { term = Standard (function_named x b) t.term }

      go : (c : Bool) → AllBelow (made c).calls → (made c).temps ≤ m
      go true = k
      go false = h

  value_fits : (g : GlobalScope) (type : ResolvedType) (at : ℕ) (t : CodedTerm) (s : CodedPlaceExpression) → (AllBelow t.calls → t.temps ≤ m) → (AllBelow s.calls → s.temps ≤ m)
      → AllBelow (by_value g type at t s).calls → (by_value g type at t s).temps ≤ m
  value_fits g (Simple b lower upper start) at t s h k = h
  value_fits g (ArrayOf lower upper u) at t s h k = k
  value_fits g (RecordOf ms) at t s h k = k
  value_fits g Queue at t s h k = k
  value_fits g (ComponentOf r inner) at t s h k = k
  value_fits g NoType at t s h k = k

  argument_fits : (g : GlobalScope) (b : Bool) (type : ResolvedType) (at : ℕ) (t : CodedTerm) (s : CodedPlaceExpression) → (AllBelow t.calls → t.temps ≤ m)
      → (AllBelow s.calls → s.temps ≤ m)
      → AllBelow (argument_of g (record { by_reference = b; type = type }) at t s).calls → (argument_of g (record { by_reference = b; type = type }) at t s).temps ≤ m
  argument_fits g true type at t s h k = k
  argument_fits g false type at t s h k = value_fits g type at t s h k

  module _ (scope : Scope) where
    call_fits : (c : Callee) (xs : CodedArguments) (low : ℕ) → AllBelow (function_call scope c xs low).calls → (function_call scope c xs low).temps ≤ m
    call_fits c xs low all = (below_split xs.calls _ all).1.0

    use_fits : (d : a.Designator) (low : ℕ) (s : CodedPlaceExpression) (c : Option Callee) → low ≤ m → (AllBelow s.calls → s.temps ≤ m)
        → AllBelow (used_term scope d low s c).calls → (used_term scope d low s c).temps ≤ m
    use_fits d low s None h k all = name_fits scope d s low h k all
    use_fits d low s (Some r) h k all = call_fits r (no_arguments low) low all

    called_fits : (low : ℕ) (t : CodedTerm) (xs : Callee → CodedArguments) (c : Option Callee) → (AllBelow t.calls → t.temps ≤ m)
        → AllBelow (called_term scope low t xs c).calls → (called_term scope low t xs c).temps ≤ m
    called_fits low t xs None h all = h all
    called_fits low t xs (Some r) h all = call_fits r (xs r) low all

    mutual
      pub term_fits : (e : a.Expression) (low : ℕ) → low ≤ m → AllBelow (coded_term scope e low).calls → (coded_term scope e low).temps ≤ m
      term_fits (a.Literal n) low h all = h
      term_fits (a.Letter n) low h all = h
      term_fits (a.Known b n) low h all = h
      term_fits (a.Use d) low h all = use_fits d low (coded_place_expression scope d low) (callee (environment scope) d) h (place_expression_fits d low h) all
      term_fits (a.Call d es) low h all =
          called_fits low (coded_standard scope (name_of d) es low) (λ c. coded_arguments scope es (parameters_of scope c) (first_parameter c) low)
          (callee (environment scope) d) (standard_call_fits (name_of d) es low h) all
      term_fits (a.Not e) low h all = term_fits e low h all
      term_fits (a.Negative e) low h all = term_fits e low h all
      term_fits (a.Positive e) low h all = term_fits e low h all
      term_fits (a.Binary o e f) low h all =
          let both = below_split (coded_term scope e low).calls (coded_term scope f (coded_term scope e low).temps).calls all in
          term_fits f (coded_term scope e low).temps (term_fits e low h both.0) both.1

      pub place_expression_fits : (d : a.Designator) (low : ℕ) → low ≤ m → AllBelow (coded_place_expression scope d low).calls → (coded_place_expression scope d low).temps ≤ m
      place_expression_fits (a.Plain x) low h all = h
      place_expression_fits (a.Part d x) low h all = place_expression_fits d low h all
      place_expression_fits (a.At d e) low h all =
          element_fits scope.globals (place_type (environment scope) d) (coded_place_expression scope d low) (coded_term scope e (coded_place_expression scope d low).temps)
          (place_expression_fits d low h) (term_fits e (coded_place_expression scope d low).temps) all

      pub variable_fits : (e : a.Expression) (low : ℕ) → low ≤ m → AllBelow (coded_variable scope e low).calls → (coded_variable scope e low).temps ≤ m
      variable_fits (a.Use d) low h all = place_expression_fits d low h all
      variable_fits (a.Literal n) low h all = h
      variable_fits (a.Letter n) low h all = h
      variable_fits (a.Known b n) low h all = h
      variable_fits (a.Call d es) low h all = h
      variable_fits (a.Not e) low h all = h
      variable_fits (a.Negative e) low h all = h
      variable_fits (a.Positive e) low h all = h
      variable_fits (a.Binary o e f) low h all = h

      standard_call_fits : (x : Name) (es : a.Expressions) (low : ℕ) → low ≤ m → AllBelow (coded_standard scope x es low).calls → (coded_standard scope x es low).temps ≤ m
      standard_call_fits x a.NoExpression low h all = h
      standard_call_fits x (a.MoreExpressions e es) low h all =
          standard_fits x (base_of_type (expression_type (environment scope) e)) (coded_term scope e low) (coded_variable scope e low) (term_fits e low h) (variable_fits e low h) all

      pub arguments_fit : (es : a.Expressions) (ps : List (Name × Variable)) (n low : ℕ) → low ≤ m → AllBelow (coded_arguments scope es ps n low).calls
          → (coded_arguments scope es ps n low).temps ≤ m
      arguments_fit a.NoExpression ps n low h all = h
      arguments_fit (a.MoreExpressions e es) [] n low h all = h
      arguments_fit (a.MoreExpressions e es) (q ∷ qs) n low h all =
          let c = argument_of scope.globals q.1 n (coded_term scope e low) (coded_variable scope e low) in
          let n' = n + local_words scope.globals q.1 in
          let both = below_split c.calls (coded_arguments scope es qs n' c.temps).calls all in
          arguments_fit es qs n' c.temps
          (argument_fits scope.globals q.1.by_reference q.1.type n (coded_term scope e low) (coded_variable scope e low) (term_fits e low h) (variable_fits e low h) both.0)
          both.1
