-- Terms, place expressions and arguments use temps from the first free one on.
use Rattle.std.proofs.Common.{ℕ, ◌≤◌, ◌+◌, List, [], ◌∷◌, Option, Some, None, Bool, true, false, if◌then◌else◌, arith, bytes_eq, codes}
use Rattle.cp_model.specs.Abstract as a
use Rattle.cp_model.specs.Abstract.{BaseType, Name}
use Rattle.cp_model.specs.Types.{ArrayOf, ComponentOf, GlobalScope, NoType, Queue, RecordOf, ResolvedType, Simple, base_of_type}
use Rattle.cp_model.specs.Declarations.{Variable}
use Rattle.cp_model.specs.Calls.{Callee, callee}
use Rattle.cp_model.specs.Expressions.{name_of}
use Rattle.cp_law_typing.specs.StaticTypes.{expression_type, place_type}
use Rattle.cp_model_program.specs.Terms.{Empty, Standard}
use Rattle.cp_model_program.specs.Layout.{local_words}
use Rattle.cp_model_program.specs.Sites.{first_parameter}
use Rattle.cp_model_program.specs.Scopes.{Scope, environment}
use Rattle.cp_model_program.specs.CodedTerms.{CodedArguments, CodedPlaceExpression, CodedTerm, argument_of, by_value, called_term, coded_arguments, coded_place_expression, coded_standard, coded_term, coded_variable, element_part, function_named, name_or_item, parameters_of, standard_term, used_term}

name_grows : (scope : Scope) (d : a.Designator) (s : CodedPlaceExpression) (low : ℕ) → low ≤ s.temps → low ≤ (name_or_item scope d s low).temps
name_grows scope (a.Plain x) s low h = omega arith
name_grows scope (a.Part d x) s low h = h
name_grows scope (a.At d e) s low h = h

element_grows : (g : GlobalScope) (t : ResolvedType) (s : CodedPlaceExpression) (i : CodedTerm) (low : ℕ) → low ≤ s.temps → s.temps ≤ i.temps
    → low ≤ (element_part g t s i).temps
element_grows g (ArrayOf lower upper t) s i low h k = omega (arith, h, k)
element_grows g (Simple b lower upper start) s i low h k = h
element_grows g (RecordOf ms) s i low h k = h
element_grows g Queue s i low h k = h
element_grows g (ComponentOf r inner) s i low h k = h
element_grows g NoType s i low h k = h

standard_grows : (x : Name) (b : BaseType) (t : CodedTerm) (s : CodedPlaceExpression) (low : ℕ) → low ≤ t.temps → low ≤ s.temps → low ≤ (standard_term x b t s).temps
standard_grows x b t s low h k = go (bytes_eq x (codes "empty"))
  where
    go : (c : Bool) → low ≤ (if c then record { term = Empty s.place_expression; calls = s.calls; temps = s.temps } else record t { term = Standard (function_named x b) t.term }).temps
    go true = k
    go false = h

value_grows : (g : GlobalScope) (type : ResolvedType) (at : ℕ) (t : CodedTerm) (s : CodedPlaceExpression) (low : ℕ) → low ≤ t.temps → low ≤ s.temps
    → low ≤ (by_value g type at t s).temps
value_grows g (Simple b lower upper start) at t s low h k = h
value_grows g (ArrayOf lower upper u) at t s low h k = k
value_grows g (RecordOf ms) at t s low h k = k
value_grows g Queue at t s low h k = k
value_grows g (ComponentOf r inner) at t s low h k = k
value_grows g NoType at t s low h k = k

argument_grows : (g : GlobalScope) (b : Bool) (type : ResolvedType) (at : ℕ) (t : CodedTerm) (s : CodedPlaceExpression) (low : ℕ) → low ≤ t.temps → low ≤ s.temps
    → low ≤ (argument_of g (record { by_reference = b; type = type }) at t s).temps
argument_grows g true type at t s low h k = k
argument_grows g false type at t s low h k = value_grows g type at t s low h k

module _ (scope : Scope) where
  use_grows : (d : a.Designator) (low : ℕ) (s : CodedPlaceExpression) (c : Option Callee) → low ≤ s.temps → low ≤ (used_term scope d low s c).temps
  use_grows d low s None h = name_grows scope d s low h
  use_grows d low s (Some r) h = omega arith

  call_grows : (low : ℕ) (t : CodedTerm) (xs : Callee → CodedArguments) (c : Option Callee) → low ≤ t.temps → ((r : Callee) → low ≤ (xs r).temps)
      → low ≤ (called_term scope low t xs c).temps
  call_grows low t xs None h k = h
  call_grows low t xs (Some r) h k = omega (arith, k r)

  mutual
    pub term_grows : (e : a.Expression) (low : ℕ) → low ≤ (coded_term scope e low).temps
    term_grows (a.Literal n) low = omega arith
    term_grows (a.Letter n) low = omega arith
    term_grows (a.Known b n) low = omega arith
    term_grows (a.Use d) low = use_grows d low (coded_place_expression scope d low) (callee (environment scope) d) (place_expression_grows d low)
    term_grows (a.Call d es) low =
        call_grows low (coded_standard scope (name_of d) es low) (λ c. coded_arguments scope es (parameters_of scope c) (first_parameter c) low)
        (callee (environment scope) d) (standard_call_grows (name_of d) es low) (λ c. arguments_grow es (parameters_of scope c) (first_parameter c) low)
    term_grows (a.Not e) low = term_grows e low
    term_grows (a.Negative e) low = term_grows e low
    term_grows (a.Positive e) low = term_grows e low
    term_grows (a.Binary o e f) low = omega (arith, term_grows e low, term_grows f (coded_term scope e low).temps)

    pub place_expression_grows : (d : a.Designator) (low : ℕ) → low ≤ (coded_place_expression scope d low).temps
    place_expression_grows (a.Plain x) low = omega arith
    place_expression_grows (a.Part d x) low = place_expression_grows d low
    place_expression_grows (a.At d e) low =
        element_grows scope.globals (place_type (environment scope) d) (coded_place_expression scope d low) (coded_term scope e (coded_place_expression scope d low).temps) low
        (place_expression_grows d low) (term_grows e (coded_place_expression scope d low).temps)

    pub variable_grows : (e : a.Expression) (low : ℕ) → low ≤ (coded_variable scope e low).temps
    variable_grows (a.Use d) low = place_expression_grows d low
    variable_grows (a.Literal n) low = omega arith
    variable_grows (a.Letter n) low = omega arith
    variable_grows (a.Known b n) low = omega arith
    variable_grows (a.Call d es) low = omega arith
    variable_grows (a.Not e) low = omega arith
    variable_grows (a.Negative e) low = omega arith
    variable_grows (a.Positive e) low = omega arith
    variable_grows (a.Binary o e f) low = omega arith

    standard_call_grows : (x : Name) (es : a.Expressions) (low : ℕ) → low ≤ (coded_standard scope x es low).temps
    standard_call_grows x a.NoExpression low = omega arith
    standard_call_grows x (a.MoreExpressions e es) low =
        standard_grows x (base_of_type (expression_type (environment scope) e)) (coded_term scope e low) (coded_variable scope e low) low (term_grows e low) (variable_grows e low)

    pub arguments_grow : (es : a.Expressions) (ps : List (Name × Variable)) (n low : ℕ) → low ≤ (coded_arguments scope es ps n low).temps
    arguments_grow a.NoExpression ps n low = omega arith
    arguments_grow (a.MoreExpressions e es) [] n low = omega arith
    arguments_grow (a.MoreExpressions e es) (p ∷ ps) n low =
        let x = argument_of scope.globals p.1 n (coded_term scope e low) (coded_variable scope e low) in
        omega (
          arith,
          argument_grows scope.globals p.1.by_reference p.1.type n (coded_term scope e low) (coded_variable scope e low) low (term_grows e low) (variable_grows e low),
          arguments_grow es ps (n + local_words scope.globals p.1) x.temps,
        )
