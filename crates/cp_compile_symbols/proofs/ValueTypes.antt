-- The types of the values of chains, of designators that are more than a bare name, and of function
-- results.
use Rattle.std.proofs.Common.{◌≡◌, ◌∷◌, ◌∙◌, ◌≤◌, true, false, Global, Box, Vec, List, [], Option, None, Some, ap, arith, length, map, refl, slice_index_or, subst, sym}
use Rattle.cp_model.specs.Abstract as a
use Rattle.cp_model.specs.Abstract.{Name}
use Rattle.cp_model.specs.Calls as calls
use Rattle.cp_model.specs.Environments.{Environment}
use Rattle.cp_model.specs.Erase as erase
use Rattle.cp_model.specs.Expressions.{name_of}
use Rattle.cp_model.specs.Syntax as s
use Rattle.cp_model.specs.Types.{ResolvedType}
use Rattle.cp_model.specs.View as view
use Rattle.cp_model.specs.declared.tree.Designator.{Designator}
use Rattle.cp_model.specs.declared.tree.Expression.{Expression}
use Rattle.cp_model.specs.declared.tree.Expression.TheVariants as tree
use Rattle.cp_model.specs.declared.tree.Operation.{Operation}
use Rattle.cp_model.proofs.Views.{view_call, view_designator, view_operation}
use Rattle.cp_law_typing.specs.StaticTypes.{answer_type, called_type, operator_type, own_value_type, place_type}
use Rattle.cp_model_program.specs.Scopes as code
use Rattle.cp_model_program.specs.Scopes.{environment}
use Rattle.cp_compile_symbols.specs.declared.scope.Callee.{Callee}
use Rattle.cp_compile_symbols.specs.declared.scope.Scope.{Scope}
use Rattle.cp_compile_symbols.specs.declared.types.Simple as plain
use Rattle.cp_compile_symbols.specs.Designators.{Selects, is_part}
use Rattle.cp_compile_symbols.specs.Expressions.{SimpleIs, ValueIs}
use Rattle.cp_compile_symbols.specs.Scopes.{CalleeIs, IsCallee}

-- ---- Chains

-- The first operands of a chain have a value of this type.
pub record PartlyChained (t : code.Scope) (of : Option plain.Simple) (left : List Operation) (all : s.Expression) : Type 0 where
  pub so_far : s.Expression
  pub typed : ValueIs t of so_far
  pub rest : s.chain_of so_far (map view.operation left) ≡ all

pub one_operator : (t : code.Scope) (before after : Option plain.Simple) (o : Operation) (left : List Operation) (all : s.Expression)
    → SimpleIs after (operator_type (erase.operator_of o.operator)) → PartlyChained t before (o ∷ left) all → PartlyChained t after left all
one_operator t before after o left all of some = record {
  so_far = s.Binary some.so_far o.operator o.at (view.expression o.operand);
  typed = of;
  rest = subst (λ (p : s.Operation). s.chain_of some.so_far (p ∷ map view.operation left) ≡ all) (view_operation o) some.rest;
}

-- ---- Designators

part_indexed : (d : a.Designator) (is : s.Indices) → is_part d ≡ true → is_part (erase.with_indices d is) ≡ true
part_indexed d s.NoIndices h = h
part_indexed d (s.MoreIndices at e is) h = part_indexed (a.At d (erase.expression e)) is refl

pub part_selected : (d : a.Designator) (ss : s.Selectors) → is_part d ≡ true → is_part (erase.with_selectors d ss) ≡ true
part_selected d s.NoSelectors h = h
part_selected d (s.MoreSelectors (s.Field at x) ss) h = part_selected (a.Part d x.name) ss refl
part_selected d (s.MoreSelectors (s.Indexed is) ss) h = part_selected (erase.with_indices d is) ss (part_indexed d is h)

pub selects_part : (x : Name) (y : s.Selector) → Selects y → is_part (erase.select (a.Plain x) y) ≡ true
selects_part x (s.Field at y) selects = refl
selects_part x (s.Indexed s.NoIndices) selects = absurd selects
selects_part x (s.Indexed (s.MoreIndices at e is)) selects = part_indexed (a.At (a.Plain x) (erase.expression e)) is refl

pub part_typed : (env : Environment) (d : a.Designator) → is_part d ≡ true → own_value_type env d ≡ place_type env d
part_typed env (a.Plain x) is = absurd (cc)
part_typed env (a.Part d x) is = refl
part_typed env (a.At d e) is = refl

pub part_has_no_name : (d : a.Designator) → is_part d ≡ true → name_of d ≡ []
part_has_no_name (a.Plain x) is = absurd (cc)
part_has_no_name (a.Part d x) is = refl
part_has_no_name (a.At d e) is = refl

indexed_whole : (d : a.Designator) (is : s.Indices) → is_part (erase.with_indices d is) ≡ false → erase.with_indices d is ≡ d
indexed_whole d s.NoIndices h = refl
indexed_whole d (s.MoreIndices at e is) h =
    absurd (let both = sym (part_indexed (a.At d (erase.expression e)) is refl) ∙ h in cc)

selected_whole : (d : a.Designator) (ss : s.Selectors) → is_part (erase.with_selectors d ss) ≡ false → erase.with_selectors d ss ≡ d
selected_whole d s.NoSelectors h = refl
selected_whole d (s.MoreSelectors (s.Field at x) ss) h =
    absurd (let both = sym (part_selected (a.Part d x.name) ss refl) ∙ h in cc)
selected_whole d (s.MoreSelectors (s.Indexed is) ss) h =
    let here = selected_whole (erase.with_indices d is) ss h in
    here ∙ indexed_whole d is (ap is_part (sym here) ∙ h)

-- A designator that isn't more than a bare name is that name.
pub is_name : (d : Designator) → is_part (erase.designator (view.designator d)) ≡ false → erase.designator (view.designator d) ≡ a.Plain d.root.name
is_name d h =
    let whole = ap erase.designator (view_designator d) in
    whole ∙ selected_whole (a.Plain d.root.name) (view.selectors_of (map view.selector d.selectors.items)) (ap is_part (sym whole) ∙ h)

-- ---- Functions

pub user_answers : (scope : Scope) (t : code.Scope) (f : Callee) (o : Option calls.Callee) (of : Option plain.Simple) (other : ResolvedType)
    → CalleeIs scope t (Some f) o → ((c : calls.Callee) → IsCallee scope t f c → SimpleIs of (answer_type t.globals c.routine.result))
    → SimpleIs of (called_type t.globals o other)
user_answers scope t f None of other h gives = absurd h
user_answers scope t f (Some c) of other h gives = gives c h

pub nothing_called : (scope : Scope) (t : code.Scope) (o : Option calls.Callee) (of : Option plain.Simple) (other : ResolvedType)
    → CalleeIs scope t None o → SimpleIs of other → SimpleIs of (called_type t.globals o other)
nothing_called scope t None of other h typed = typed
nothing_called scope t (Some c) of other h typed = absurd h

-- A call with at least one argument has a first one.
pub first_argument : (d : Box Designator Global) (list : Vec Expression Global) (ss : List Expression) (x : Expression) → ss ≡ list.items → 1 ≤ length ss
    → x ≡ slice_index_or ss 0 x
    → (es : s.Expressions) × (view.expression (tree.Call d list) ≡ s.Call (view.designator d.value) (s.MoreExpressions (view.expression x) es))
first_argument d list ss x all long is =
    let found = go list.items (subst (λ ts. 1 ≤ length ts) all long) (subst (λ ts. x ≡ slice_index_or ts 0 x) all is) in
    (found.0, view_call d list ∙ ap (s.Call (view.designator d.value)) found.1)
  where
    go : (ts : List Expression) → 1 ≤ length ts → x ≡ slice_index_or ts 0 x
        → (es : s.Expressions) × (view.expressions_of (map view.expression ts) ≡ s.MoreExpressions (view.expression x) es)
    go [] long is = absurd (omega (arith, long))
    go (u ∷ ts) long is = (_, ap (λ (v : Expression). s.MoreExpressions (view.expression v) (view.expressions_of (map view.expression ts))) (sym is))
