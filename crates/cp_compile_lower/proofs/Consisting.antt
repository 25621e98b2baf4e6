-- Which expressions are designators.
use Rattle.std.proofs.Common.{◌≡◌, ◌≤◌, ◌<◌, ◌∷◌, ◌∙◌, Box, Global, Vec, ℕ, List, [], ap, arith, length, map, refl, subst, sym}
use Rattle.cp_model.proofs.Views.{view_call, view_chain, view_character, view_not, view_number, view_signed}
use Rattle.cp_model.specs.Abstract as a
use Rattle.cp_model.specs.Arguments.{designator_of}
use Rattle.cp_model.specs.Erase as erase
use Rattle.cp_model.specs.Expressions.{name_of}
use Rattle.cp_model.specs.Syntax as syntax
use Rattle.cp_model.specs.Syntax.{chain_of}
use Rattle.cp_model.specs.View as tree
use Rattle.cp_model.specs.declared.tree.Designator.{Designator}
use Rattle.cp_model.specs.declared.tree.Expression.{Expression}
use Rattle.cp_model.specs.declared.tree.Expression.TheVariants as written
use Rattle.cp_model.specs.declared.tree.Operation.{Operation}
use Rattle.cp_model.specs.declared.tree.Sign.{Sign}
use Rattle.cp_model.specs.declared.tree.Sign.TheVariants as sign
use Rattle.cp_model_program.specs.CodedTerms.{coded_variable, lone_place_expression}
use Rattle.cp_model_program.specs.Scopes.{Scope}
use Rattle.cp_model_program.specs.Terms.{Local, Rooted}
use Rattle.cp_compile_emit.specs.Emission.{coded_call}
use Rattle.cp_compile_emit.specs.declared.emitter.CodedCall.{CodedCall}
use Rattle.cp_compile_lower.specs.declared.made.MadePlaceExpression.{MadePlaceExpression}
use Rattle.cp_compile_lower.specs.Translated.{IsPlaceExpression}

abbrev pub IsNoUse : a.Expression → Type 0
IsNoUse (a.Use d) = ⊥
IsNoUse e = Unit {0}

abbrev pub meant : Expression → a.Expression
meant e = erase.expression (tree.expression e)

-- A call without arguments is its designator.
pub bare_call : (d : Box Designator Global) (es : Vec Expression Global) → length es.items < 1 → meant (written.Call d es) ≡ a.Use (erase.designator (tree.designator d.value))
bare_call d es none = ap erase.expression (view_call d es) ∙ go es.items none
  where
    go : (xs : List Expression) → length xs < 1
        → erase.expression (syntax.Call (tree.designator d.value) (tree.expressions_of (map tree.expression xs))) ≡ a.Use (erase.designator (tree.designator d.value))
    go [] h = refl
    go (x ∷ xs) h = absurd (omega (arith, h))

pub no_bare_call : (d : Box Designator Global) (es : Vec Expression Global) → 1 ≤ length es.items → IsNoUse (meant (written.Call d es))
no_bare_call d es some = subst (λ x. IsNoUse (erase.expression x)) (sym (view_call d es)) (go es.items some)
  where
    go : (xs : List Expression) → 1 ≤ length xs → IsNoUse (erase.expression (syntax.Call (tree.designator d.value) (tree.expressions_of (map tree.expression xs))))
    go [] h = absurd (omega (arith, h))
    go (x ∷ xs) h = tt

-- A chain without operators is its operand.
pub bare_chain : (first : Box Expression Global) (rest : Vec Operation Global) → length rest.items < 1 → meant (written.Chain first rest) ≡ meant first.value
bare_chain first rest none = ap erase.expression (view_chain first rest) ∙ go rest.items none
  where
    go : (os : List Operation) → length os < 1 → erase.expression (chain_of (tree.expression first.value) (map tree.operation os)) ≡ meant first.value
    go [] h = refl
    go (o ∷ os) h = absurd (omega (arith, h))

binary_chain : (l : syntax.Expression) (o : syntax.Operation) (os : List syntax.Operation) → IsNoUse (erase.expression (chain_of l (o ∷ os)))
binary_chain l o [] = tt
binary_chain l o (p ∷ ps) = binary_chain (syntax.Binary l o.operator o.at o.operand) p ps

pub no_bare_chain : (first : Box Expression Global) (rest : Vec Operation Global) → 1 ≤ length rest.items → IsNoUse (meant (written.Chain first rest))
no_bare_chain first rest some = subst (λ x. IsNoUse (erase.expression x)) (sym (view_chain first rest)) (go rest.items some)
  where
    go : (os : List Operation) → 1 ≤ length os → IsNoUse (erase.expression (chain_of (tree.expression first.value) (map tree.operation os)))
    go [] h = absurd (omega (arith, h))
    go (o ∷ os) h = binary_chain (tree.expression first.value) (tree.operation o) (map tree.operation os)

pub no_number : (at n : ℕ) → IsNoUse (meant (written.Number at n))
no_number at n = subst (λ x. IsNoUse (erase.expression x)) (sym (view_number at n)) tt

pub no_character : (at n : ℕ) → IsNoUse (meant (written.Character at n))
no_character at n = subst (λ x. IsNoUse (erase.expression x)) (sym (view_character at n)) tt

pub no_not : (at : ℕ) (e : Box Expression Global) → IsNoUse (meant (written.Not at e))
no_not at e = subst (λ x. IsNoUse (erase.expression x)) (sym (view_not at e)) tt

pub no_signed : (s : Sign) (at : ℕ) (e : Box Expression Global) → IsNoUse (meant (written.Signed s at e))
no_signed s at e = subst (λ x. IsNoUse (erase.expression x)) (sym (view_signed s at e)) (go s)
  where
    go : (z : Sign) → IsNoUse (erase.with_sign z (meant e.value))
    go sign.Plus = tt
    go sign.Minus = tt

-- ---- What other expressions represent

pub no_variable : (s : Scope) (e : a.Expression) (low : ℕ) → IsNoUse e → coded_variable s e low ≡ lone_place_expression (Rooted (Local 0)) low
no_variable s (a.Literal n) low bare = refl
no_variable s (a.Letter n) low bare = refl
no_variable s (a.Known b n) low bare = refl
no_variable s (a.Use d) low bare = absurd bare
no_variable s (a.Call d es) low bare = refl
no_variable s (a.Not e) low bare = refl
no_variable s (a.Negative e) low bare = refl
no_variable s (a.Positive e) low bare = refl
no_variable s (a.Binary o e f) low bare = refl

-- The place expression of any other expression.
pub other_place_expression : (calls : List CodedCall) (made : MadePlaceExpression) (s : Scope) (e x : Expression) (low : ℕ) → e ≡ x → IsNoUse (meant x)
    → IsPlaceExpression (map coded_call calls) calls made (lone_place_expression (Rooted (Local 0)) low)
    → IsPlaceExpression (map coded_call calls) calls made (coded_variable s (meant e) low)
other_place_expression calls made s e x low is bare h =
    subst (λ y. IsPlaceExpression (map coded_call calls) calls made (coded_variable s (meant y) low)) (sym is)
    (subst (IsPlaceExpression (map coded_call calls) calls made) (sym (no_variable s (meant x) low bare)) h)

no_name : (e : a.Expression) → IsNoUse e → name_of (designator_of e) ≡ []
no_name (a.Literal n) bare = refl
no_name (a.Letter n) bare = refl
no_name (a.Known b n) bare = refl
no_name (a.Use d) bare = absurd bare
no_name (a.Call d es) bare = refl
no_name (a.Not e) bare = refl
no_name (a.Negative e) bare = refl
no_name (a.Positive e) bare = refl
no_name (a.Binary o e f) bare = refl

pub other_name : (e x : Expression) → e ≡ x → IsNoUse (meant x) → [] ≡ name_of (designator_of (meant e))
other_name e x is bare = sym (ap (λ y. name_of (designator_of (meant y))) is ∙ no_name (meant x) bare)
