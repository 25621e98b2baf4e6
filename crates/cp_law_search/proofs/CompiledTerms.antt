-- The compiler reads the clock only for the name `realtime`.
--
-- So the terms, places and arguments of expressions without that name are timeless, and so are the calls
-- that are made before them.
use Rattle.std.specs.Prelude.{Bool, List, None, Option, Some, [], codes, false, if◌then◌else◌, not, refl, true, ℕ, ◌+◌, ◌++◌, ◌∷◌, ◌≡◌}
use Rattle.std.proofs.Common.{subst, sym, ◌∙◌}
use Rattle.std.proofs.lemmas.Bool.{true≢false}
use Rattle.std.specs.Str.{bytes_eq}
use Rattle.cp_model.specs.Abstract as a
use Rattle.cp_model.specs.Abstract.{BaseType, Name, System}
use Rattle.cp_model.specs.Names.{lookup}
use Rattle.cp_model.specs.Types.{ArrayOf, ComponentOf, GlobalScope, NoType, Queue, RecordOf, ResolvedType, Simple, base_of_type}
use Rattle.cp_model.specs.Declarations.{Variable}
use Rattle.cp_model.specs.Calls.{Callee, callee}
use Rattle.cp_model.specs.Expressions.{name_of}
use Rattle.cp_law_typing.specs.StaticTypes.{expression_type, is_clock, place_type}
use Rattle.cp_model_program.specs.Layout.{local_words}
use Rattle.cp_model_program.specs.Scopes.{Scope, environment, root_named}
use Rattle.cp_model_program.specs.Sites.{first_parameter}
use Rattle.cp_model_program.specs.Terms as term
use Rattle.cp_model_program.specs.Terms.{Element, PlaceExpression, Root, Rooted, Term}
use Rattle.cp_model_program.specs.TermsFor.{move_place_expression}
use Rattle.cp_model_program.specs.CodedTerms.{CodedArgument, CodedArguments, CodedCall, CodedPlaceExpression, CodedTerm, argument_of, by_value, called_term, coded_arguments, coded_place_expression, coded_standard, coded_term, coded_variable, element_part, field_part, function_call, function_named, init_argument, init_arguments, lone_term, name_or_item, no_arguments, ordinal_or_zero, parameters_of, standard_term, term_of_name, used_term, variable_or_number, with_argument}
use Rattle.cp_law_calls.specs.Clocks.{designator_is_timeless, expression_is_timeless, expressions_are_timeless, use_is_timeless}
use Rattle.cp_law_calls.proofs.Calm.{both, together}
use Rattle.cp_law_cores.specs.Clocks.{argument_is_timeless, arguments_are_timeless, place_expression_is_timeless, term_is_timeless}

-- ---- What is made

abbrev pub CallsTimeless : List CodedCall → Type 0
CallsTimeless [] = Unit {0}
CallsTimeless (c ∷ cs) = (arguments_are_timeless c.call.arguments ≡ true) × CallsTimeless cs

pub record TermTimeless (t : CodedTerm) : Type 0 where
  pub term : term_is_timeless t.term ≡ true
  pub calls : CallsTimeless t.calls

pub record PlaceTimeless (s : CodedPlaceExpression) : Type 0 where
  pub place : place_expression_is_timeless s.place_expression ≡ true
  pub calls : CallsTimeless s.calls

pub record ArgumentTimeless (x : CodedArgument) : Type 0 where
  pub argument : argument_is_timeless x.argument ≡ true
  pub calls : CallsTimeless x.calls

pub record ArgumentsTimeless (xs : CodedArguments) : Type 0 where
  pub arguments : arguments_are_timeless xs.arguments ≡ true
  pub calls : CallsTimeless xs.calls

pub calls_join : (xs ys : List CodedCall) → CallsTimeless xs → CallsTimeless ys → CallsTimeless (xs ++ ys)
calls_join [] ys h k = k
calls_join (x ∷ xs) ys h k = (h.0, calls_join xs ys h.1 k)

-- ---- Names and parts

term_alone : (t : Term) (low : ℕ) → term_is_timeless t ≡ true → TermTimeless (lone_term t low)
term_alone t low h = record { term = h; calls = tt }

moved : (n : ℕ) (s : PlaceExpression) → place_expression_is_timeless (move_place_expression n s) ≡ place_expression_is_timeless s
moved n (Rooted r) = refl
moved n (Element s low high size plus e) = refl

field_timeless : (g : GlobalScope) (t : ResolvedType) (x : Name) (s : CodedPlaceExpression) → PlaceTimeless s → PlaceTimeless (field_part g t x s)
field_timeless g t x s h = record { place = moved _ s.place_expression ∙ h.place; calls = h.calls }

element_timeless : (g : GlobalScope) (t : ResolvedType) (s : CodedPlaceExpression) (i : CodedTerm) → PlaceTimeless s → TermTimeless i → PlaceTimeless (element_part g t s i)
element_timeless g (ArrayOf low high t) s i h k = record { place = together _ _ h.place k.term; calls = calls_join s.calls i.calls h.calls k.calls }
element_timeless g (Simple b low high start) s i h k = h
element_timeless g (RecordOf ms) s i h k = h
element_timeless g Queue s i h k = h
element_timeless g (ComponentOf c inner) s i h k = h
element_timeless g NoType s i h k = h

name_timeless : (scope : Scope) (x : Name) → not (is_clock x) ≡ true → term_is_timeless (term_of_name scope x) ≡ true
name_timeless scope x h = by (is_clock x) (root_named scope x) h
  where
    by : (b : Bool) (r : Option Root) → not b ≡ true
        → term_is_timeless (if b then term.Realtime else variable_or_number r (ordinal_or_zero (lookup x scope.globals.constants))) ≡ true
    by true r h = absurd (true≢false (sym h))
    by false None h = refl
    by false (Some r) h = refl

-- A designator that is timeless as an expression is timeless as a place.
pub use_place : (d : a.Designator) → use_is_timeless d ≡ true → designator_is_timeless d ≡ true
use_place (a.Plain x) h = refl
use_place (a.Part d x) h = h
use_place (a.At d e) h = h

named_timeless : (scope : Scope) (d : a.Designator) (s : CodedPlaceExpression) (low : ℕ) → use_is_timeless d ≡ true → PlaceTimeless s → TermTimeless (name_or_item scope d s low)
named_timeless scope (a.Plain x) s low h k = term_alone (term_of_name scope x) low (name_timeless scope x h)
named_timeless scope (a.Part d x) s low h k = record { term = k.place; calls = k.calls }
named_timeless scope (a.At d e) s low h k = record { term = k.place; calls = k.calls }

-- ---- Calls and arguments

nothing_passed : (low : ℕ) → ArgumentsTimeless (no_arguments low)
nothing_passed low = record { arguments = refl; calls = tt }

function_timeless : (scope : Scope) (c : Callee) (xs : CodedArguments) (low : ℕ) → ArgumentsTimeless xs → TermTimeless (function_call scope c xs low)
function_timeless scope c xs low h = record { term = refl; calls = calls_join xs.calls _ h.calls (h.arguments, tt) }

standard_timeless : (x : Name) (b : BaseType) (t : CodedTerm) (s : CodedPlaceExpression) → TermTimeless t → PlaceTimeless s → TermTimeless (standard_term x b t s)
standard_timeless x b t s h k = by (bytes_eq x (codes "empty"))
  where
    by : (e : Bool) → TermTimeless (if e then record { term = term.Empty s.place_expression; calls = s.calls; temps = s.temps } else record t { term = term.Standard (function_named x b) t.term })
    by true = record { term = k.place; calls = k.calls }
    by false = record { term = h.term; calls = h.calls }

argument_timeless : (g : GlobalScope) (v : Variable) (at : ℕ) (t : CodedTerm) (s : CodedPlaceExpression) → TermTimeless t → PlaceTimeless s → ArgumentTimeless (argument_of g v at t s)
argument_timeless g v at t s h k = by v.by_reference
  where
    value : (type : ResolvedType) → ArgumentTimeless (by_value g type at t s)
    value (Simple b low high start) = record { argument = h.term; calls = h.calls }
    value (ArrayOf low high of) = record { argument = k.place; calls = k.calls }
    value (RecordOf ms) = record { argument = k.place; calls = k.calls }
    value Queue = record { argument = k.place; calls = k.calls }
    value (ComponentOf c inner) = record { argument = k.place; calls = k.calls }
    value NoType = record { argument = k.place; calls = k.calls }

    by : (b : Bool) → ArgumentTimeless (if b then record { argument = term.Reference at s.place_expression; calls = s.calls; temps = s.temps } else by_value g v.type at t s)
    by true = record { argument = k.place; calls = k.calls }
    by false = value v.type

argument_first : (x : CodedArgument) (xs : CodedArguments) → ArgumentTimeless x → ArgumentsTimeless xs → ArgumentsTimeless (with_argument x xs)
argument_first x xs h k = record { arguments = together _ _ h.argument k.arguments; calls = calls_join x.calls xs.calls h.calls k.calls }

-- ---- Expressions

module _ (scope : Scope) where
  mutual
    pub term_timeless : (e : a.Expression) (low : ℕ) → expression_is_timeless e ≡ true → TermTimeless (coded_term scope e low)
    term_timeless (a.Literal n) low h = term_alone _ low refl
    term_timeless (a.Letter n) low h = term_alone _ low refl
    term_timeless (a.Known b n) low h = term_alone _ low refl
    term_timeless (a.Use d) low h = by (place_timeless d low (use_place d h)) (callee (environment scope) d)
      where
        by : PlaceTimeless (coded_place_expression scope d low) → (c : Option Callee) → TermTimeless (used_term scope d low (coded_place_expression scope d low) c)
        by k None = named_timeless scope d (coded_place_expression scope d low) low h k
        by k (Some c) = function_timeless scope c (no_arguments low) low (nothing_passed low)
    term_timeless (a.Call d es) low h =
        let k = both (designator_is_timeless d) (expressions_are_timeless es) h in
        by (standard_called (name_of d) es low k.1) (λ ps at. arguments_timeless es ps at low k.1) (callee (environment scope) d)
      where
        by : TermTimeless (coded_standard scope (name_of d) es low)
            → ((ps : List (Name × Variable)) (at : ℕ) → ArgumentsTimeless (coded_arguments scope es ps at low)) → (c : Option Callee)
            → TermTimeless (called_term scope low (coded_standard scope (name_of d) es low)
            (λ c. coded_arguments scope es (parameters_of scope c) (first_parameter c) low) c)
        by standard xs None = standard
        by standard xs (Some c) =
            function_timeless scope c (coded_arguments scope es (parameters_of scope c) (first_parameter c) low) low
            (xs (parameters_of scope c) (first_parameter c))
    term_timeless (a.Not e) low h = let t = term_timeless e low h in record { term = t.term; calls = t.calls }
    term_timeless (a.Negative e) low h = let t = term_timeless e low h in record { term = t.term; calls = t.calls }
    term_timeless (a.Positive e) low h = term_timeless e low h
    term_timeless (a.Binary o e f) low h =
        let k = both (expression_is_timeless e) (expression_is_timeless f) h in
        let x = term_timeless e low k.0 in
        let y = term_timeless f (coded_term scope e low).temps k.1 in
        record { term = together _ _ x.term y.term; calls = calls_join _ _ x.calls y.calls }

    pub place_timeless : (d : a.Designator) (low : ℕ) → designator_is_timeless d ≡ true → PlaceTimeless (coded_place_expression scope d low)
    place_timeless (a.Plain x) low h = record { place = refl; calls = tt }
    place_timeless (a.Part d x) low h =
        field_timeless scope.globals (place_type (environment scope) d) x (coded_place_expression scope d low) (place_timeless d low h)
    place_timeless (a.At d e) low h =
        let k = both (designator_is_timeless d) (expression_is_timeless e) h in
        let s = coded_place_expression scope d low in
        element_timeless scope.globals (place_type (environment scope) d) s (coded_term scope e s.temps) (place_timeless d low k.0) (term_timeless e s.temps k.1)

    pub variable_timeless : (e : a.Expression) (low : ℕ) → expression_is_timeless e ≡ true → PlaceTimeless (coded_variable scope e low)
    variable_timeless (a.Use d) low h = place_timeless d low (use_place d h)
    variable_timeless (a.Literal n) low h = record { place = refl; calls = tt }
    variable_timeless (a.Letter n) low h = record { place = refl; calls = tt }
    variable_timeless (a.Known b n) low h = record { place = refl; calls = tt }
    variable_timeless (a.Call d es) low h = record { place = refl; calls = tt }
    variable_timeless (a.Not e) low h = record { place = refl; calls = tt }
    variable_timeless (a.Negative e) low h = record { place = refl; calls = tt }
    variable_timeless (a.Positive e) low h = record { place = refl; calls = tt }
    variable_timeless (a.Binary o e f) low h = record { place = refl; calls = tt }

    standard_called : (x : Name) (es : a.Expressions) (low : ℕ) → expressions_are_timeless es ≡ true → TermTimeless (coded_standard scope x es low)
    standard_called x a.NoExpression low h = term_alone _ low refl
    standard_called x (a.MoreExpressions e es) low h =
        let k = both (expression_is_timeless e) (expressions_are_timeless es) h in
        standard_timeless x (base_of_type (expression_type (environment scope) e)) (coded_term scope e low) (coded_variable scope e low)
        (term_timeless e low k.0) (variable_timeless e low k.0)

    pub arguments_timeless : (es : a.Expressions) (ps : List (Name × Variable)) (at low : ℕ) → expressions_are_timeless es ≡ true
        → ArgumentsTimeless (coded_arguments scope es ps at low)
    arguments_timeless a.NoExpression ps at low h = nothing_passed low
    arguments_timeless (a.MoreExpressions e es) [] at low h = nothing_passed low
    arguments_timeless (a.MoreExpressions e es) (p ∷ qs) at low h =
        let k = both (expression_is_timeless e) (expressions_are_timeless es) h in
        let x = argument_of scope.globals p.1 at (coded_term scope e low) (coded_variable scope e low) in
        argument_first x (coded_arguments scope es qs (at + local_words scope.globals p.1) x.temps)
        (argument_timeless scope.globals p.1 at (coded_term scope e low) (coded_variable scope e low) (term_timeless e low k.0) (variable_timeless e low k.0))
        (arguments_timeless es qs (at + local_words scope.globals p.1) x.temps k.1)

  -- ---- The arguments of an `init`

  init_argument_timeless : (s : System) (p : Name × Variable) (e : a.Expression) (low : ℕ) → expression_is_timeless e ≡ true
      → ArgumentTimeless (init_argument scope s p e low)
  init_argument_timeless s p e low h = by p.1.type refl
    where
      by : (t : ResolvedType) → p.1.type ≡ t → ArgumentTimeless (init_argument scope s p e low)
      by t is = subst (λ z. ArgumentTimeless (init_argument scope s (p.0, record p.1 { type = z }) e low)) (sym is) (on t)
        where
          on : (t : ResolvedType) → ArgumentTimeless (init_argument scope s (p.0, record p.1 { type = t }) e low)
          on (Simple b lower upper start) = let x = term_timeless e low h in record { argument = x.term; calls = x.calls }
          on (ComponentOf r inner) = record { argument = refl; calls = tt }
          on (ArrayOf lower upper of) = record { argument = refl; calls = tt }
          on (RecordOf ms) = record { argument = refl; calls = tt }
          on Queue = record { argument = refl; calls = tt }
          on NoType = record { argument = refl; calls = tt }

  pub init_arguments_timeless : (s : System) (es : a.Expressions) (ps : List (Name × Variable)) (low : ℕ) → expressions_are_timeless es ≡ true
      → ArgumentsTimeless (init_arguments scope s es ps low)
  init_arguments_timeless s a.NoExpression ps low h = nothing_passed low
  init_arguments_timeless s (a.MoreExpressions e es) [] low h = nothing_passed low
  init_arguments_timeless s (a.MoreExpressions e es) (p ∷ qs) low h =
      let k = both (expression_is_timeless e) (expressions_are_timeless es) h in
      let x = init_argument scope s p e low in
      argument_first x (init_arguments scope s es qs x.temps) (init_argument_timeless s p e low k.0) (init_arguments_timeless s es qs x.temps k.1)
