-- The terms, place expressions and arguments of expressions, designators and actual arguments, with
-- the calls that are made before them.
--
-- The values of calls go to consecutive temps from `low` on. A call keeps the temps below `low` for
-- its caller.
use Rattle.std.specs.Prelude.{ℕ, suc, ◌+◌, ℤ, pos, negsuc, List, [], ◌∷◌, ◌++◌, Option, None, Some, if◌then◌else◌, codes}
use Rattle.std.specs.Str.{bytes_eq}
use Rattle.cp_model.specs.Abstract as a
use Rattle.cp_model.specs.Abstract.{BaseType, Name, System}
use Rattle.cp_model.specs.Names.{lookup}
use Rattle.cp_model.specs.Types.{ArrayOf, ComponentOf, GlobalScope, ResolvedType, Simple, base_of_type, first_ordinal, last_ordinal}
use Rattle.cp_model.specs.Declarations.{Variable, declarations}
use Rattle.cp_model.specs.Environments.{Environment}
use Rattle.cp_model.specs.Locations.{ByName}
use Rattle.cp_model.specs.Arguments.{designator_of}
use Rattle.cp_model.specs.Components.{component_named}
use Rattle.cp_model.specs.Calls.{Callee, callee}
use Rattle.cp_model.specs.Expressions.{name_of}
use Rattle.cp_law_typing.specs.StaticTypes.{expression_type, is_clock, place_type}
use Rattle.cp_law_typing.specs.Words.{words}
use Rattle.cp_model_program.specs.Terms as term
use Rattle.cp_model_program.specs.Terms.{Abs, Argument, Binary, Chr, Copy, Element, Empty, Function, Item, Local, Made, Negative, Not, Number, Ord, Realtime, Reference, Right, Root, Rooted, Shift, PlaceExpression, Standard, Target, Term, Value}
use Rattle.cp_model_program.specs.Programs.{Call}
use Rattle.cp_model_program.specs.Layout.{local_words, member, part, passed_parameters, right}
use Rattle.cp_model_program.specs.Sites.{first_parameter}
use Rattle.cp_model_program.specs.TermsFor.{move_place_expression}
use Rattle.cp_model_program.specs.Scopes.{Scope, environment, part_start, right_start, root_named, target_of, unit_of}

-- ---- What is made

-- A call, and the temp that gets its value.
pub record CodedCall : Type 0 where
  pub call : Call
  pub into : ℕ

-- The calls are in the order in which they are made, and `temps` is the first temp after their
-- values.
pub record CodedTerm : Type 0 where
  pub term : Term
  pub calls : List CodedCall
  pub temps : ℕ

pub record CodedPlaceExpression : Type 0 where
  pub place_expression : PlaceExpression
  pub calls : List CodedCall
  pub temps : ℕ

pub record CodedArgument : Type 0 where
  pub argument : Argument
  pub calls : List CodedCall
  pub temps : ℕ

pub record CodedArguments : Type 0 where
  pub arguments : List Argument
  pub calls : List CodedCall
  pub temps : ℕ

abbrev pub lone_term : Term → ℕ → CodedTerm
lone_term t low = record { term = t; calls = []; temps = low }

abbrev pub lone_place_expression : PlaceExpression → ℕ → CodedPlaceExpression
lone_place_expression s low = record { place_expression = s; calls = []; temps = low }

abbrev pub no_arguments : ℕ → CodedArguments
no_arguments low = record { arguments = []; calls = []; temps = low }

-- ---- Names

abbrev pub root_or_first : Option Root → Root
root_or_first None = Local 0
root_or_first (Some r) = r

abbrev pub ordinal_or_zero : Option (BaseType × ℤ) → ℤ
ordinal_or_zero None = pos 0
ordinal_or_zero (Some c) = c.1

abbrev pub variable_or_number : Option Root → ℤ → Term
variable_or_number (Some r) n = Item (Rooted r)
variable_or_number None n = Number n

abbrev pub term_of_name : Scope → Name → Term
term_of_name scope x =
    if is_clock x then Realtime
    else variable_or_number (root_named scope x) (ordinal_or_zero (lookup x scope.globals.constants))

abbrev pub name_or_item : Scope → a.Designator → CodedPlaceExpression → ℕ → CodedTerm
name_or_item scope (a.Plain x) s low = lone_term (term_of_name scope x) low
name_or_item scope d s low = record { term = Item s.place_expression; calls = s.calls; temps = s.temps }

-- ---- Parts

abbrev pub field_part : GlobalScope → ResolvedType → Name → CodedPlaceExpression → CodedPlaceExpression
field_part g t x s = record s { place_expression = move_place_expression (part_start (part g t (ByName x ∷ []))) s.place_expression }

abbrev pub element_part : GlobalScope → ResolvedType → CodedPlaceExpression → CodedTerm → CodedPlaceExpression
element_part g (ArrayOf low high t) s i =
    record { place_expression = Element s.place_expression low high (words g t) 0 i.term; calls = s.calls ++ i.calls; temps = i.temps }
element_part g t s i = s

-- ---- Operators and standard functions

abbrev pub with_operator : a.Operator → CodedTerm → CodedTerm → CodedTerm
with_operator o x y = record { term = Binary o x.term y.term; calls = x.calls ++ y.calls; temps = y.temps }

-- The last case is `chr`.
abbrev pub function_named : Name → BaseType → Function
function_named x b =
    if bytes_eq x (codes "abs") then Abs
    else if bytes_eq x (codes "succ") then Shift (pos 1) (first_ordinal b) (last_ordinal b)
    else if bytes_eq x (codes "pred") then Shift (negsuc 0) (first_ordinal b) (last_ordinal b)
    else if bytes_eq x (codes "ord") then Ord
    else Chr

abbrev pub standard_term : Name → BaseType → CodedTerm → CodedPlaceExpression → CodedTerm
standard_term x b t s =
    if bytes_eq x (codes "empty")
    then record { term = Empty s.place_expression; calls = s.calls; temps = s.temps }
    else record t { term = Standard (function_named x b) t.term }

-- ---- Arguments

-- Arrays and records are copied.
abbrev pub by_value : GlobalScope → ResolvedType → ℕ → CodedTerm → CodedPlaceExpression → CodedArgument
by_value g (Simple b low high start) at t s = record { argument = Value at low high t.term; calls = t.calls; temps = t.temps }
by_value g type at t s = record { argument = Copy at (words g type) s.place_expression; calls = s.calls; temps = s.temps }

abbrev pub argument_of : GlobalScope → Variable → ℕ → CodedTerm → CodedPlaceExpression → CodedArgument
argument_of g v at t s =
    if v.by_reference
    then record { argument = Reference at s.place_expression; calls = s.calls; temps = s.temps }
    else by_value g v.type at t s

abbrev pub with_argument : CodedArgument → CodedArguments → CodedArguments
with_argument x xs = record { arguments = x.argument ∷ xs.arguments; calls = x.calls ++ xs.calls; temps = xs.temps }

-- ---- Calls

abbrev pub call_of : Scope → ℕ → Target → List Argument → ℕ → Call
call_of scope n t xs low = record { routine = n; target = t; arguments = xs; words = scope.words; temps = low }

abbrev pub function_call : Scope → Callee → CodedArguments → ℕ → CodedTerm
function_call scope c xs low =
    let call = call_of scope (unit_of scope c) (target_of (environment scope) c.of) xs.arguments low in
    record { term = Made xs.temps; calls = xs.calls ++ (record { call = call; into = xs.temps } ∷ []); temps = suc xs.temps }

abbrev pub parameters_of : Scope → Callee → List (Name × Variable)
parameters_of scope c = passed_parameters scope.globals c.routine

-- A designator without arguments, by what it calls.
abbrev pub used_term : Scope → a.Designator → ℕ → CodedPlaceExpression → Option Callee → CodedTerm
used_term scope d low s None = name_or_item scope d s low
used_term scope d low s (Some c) = function_call scope c (no_arguments low) low

-- A call of a standard function, or of a user's function with these arguments.
abbrev pub called_term : Scope → ℕ → CodedTerm → (Callee → CodedArguments) → Option Callee → CodedTerm
called_term scope low standard xs None = standard
called_term scope low standard xs (Some c) = function_call scope c (xs c) low

-- ---- Expressions

abbrev mutual
  pub coded_term : Scope → a.Expression → ℕ → CodedTerm
  coded_term scope (a.Literal n) low = lone_term (Number (pos n)) low
  coded_term scope (a.Letter n) low = lone_term (Number (pos n)) low
  coded_term scope (a.Known b n) low = lone_term (Number n) low
  coded_term scope (a.Use d) low = used_term scope d low (coded_place_expression scope d low) (callee (environment scope) d)
  coded_term scope (a.Call d es) low =
      called_term scope low (coded_standard scope (name_of d) es low)
      (λ c. coded_arguments scope es (parameters_of scope c) (first_parameter c) low) (callee (environment scope) d)
  coded_term scope (a.Not e) low = let t = coded_term scope e low in record t { term = Not t.term }
  coded_term scope (a.Negative e) low = let t = coded_term scope e low in record t { term = Negative t.term }
  coded_term scope (a.Positive e) low = coded_term scope e low
  coded_term scope (a.Binary o e f) low = let t = coded_term scope e low in with_operator o t (coded_term scope f t.temps)

  pub coded_place_expression : Scope → a.Designator → ℕ → CodedPlaceExpression
  coded_place_expression scope (a.Plain x) low = lone_place_expression (Rooted (root_or_first (root_named scope x))) low
  coded_place_expression scope (a.Part d x) low =
      field_part scope.globals (place_type (environment scope) d) x (coded_place_expression scope d low)
  coded_place_expression scope (a.At d e) low =
      let s = coded_place_expression scope d low in
      element_part scope.globals (place_type (environment scope) d) s (coded_term scope e s.temps)

  -- The place expression of an argument that is a variable.
  pub coded_variable : Scope → a.Expression → ℕ → CodedPlaceExpression
  coded_variable scope (a.Use d) low = coded_place_expression scope d low
  coded_variable scope e low = lone_place_expression (Rooted (Local 0)) low

  pub coded_standard : Scope → Name → a.Expressions → ℕ → CodedTerm
  coded_standard scope x a.NoExpression low = lone_term (Number (pos 0)) low
  coded_standard scope x (a.MoreExpressions e es) low =
      standard_term x (base_of_type (expression_type (environment scope) e)) (coded_term scope e low) (coded_variable scope e low)

  -- The first parameter is at `at` in the new activation.
  pub coded_arguments : Scope → a.Expressions → List (Name × Variable) → ℕ → ℕ → CodedArguments
  coded_arguments scope a.NoExpression ps at low = no_arguments low
  coded_arguments scope (a.MoreExpressions e es) ps at low = elim ps [
    | [] ↦ no_arguments low
    | p ∷ qs ↦
        let x = argument_of scope.globals p.1 at (coded_term scope e low) (coded_variable scope e low) in
        with_argument x (coded_arguments scope es qs (at + local_words scope.globals p.1) x.temps)
  ]

-- ---- The arguments of an `init`

abbrev pub target_named : Environment → a.Expression → Target
target_named env e = target_of env (component_named env (name_of (designator_of e)))

-- The argument for a parameter of a component. A right has no calls.
abbrev pub init_argument : Scope → System → Name × Variable → a.Expression → ℕ → CodedArgument
init_argument scope s p e low = elim p.1.type [
  | ComponentOf r inner ↦
      record {
        argument = Right (right_start (right scope.globals s p.0)) (target_named (environment scope) e);
        calls = [];
        temps = low;
      }
  | Simple b lower upper start ↦
      let t = coded_term scope e low in
      record { argument = Value (part_start (member scope.globals s p.0)) lower upper t.term; calls = t.calls; temps = t.temps }
  | _ ↦ record { argument = Right 0 term.Own; calls = []; temps = low }
]

abbrev pub init_arguments : Scope → System → a.Expressions → List (Name × Variable) → ℕ → CodedArguments
init_arguments scope s a.NoExpression ps low = no_arguments low
init_arguments scope s (a.MoreExpressions e es) ps low = elim ps [
  | [] ↦ no_arguments low
  | p ∷ qs ↦ let x = init_argument scope s p e low in with_argument x (init_arguments scope s es qs x.temps)
]
