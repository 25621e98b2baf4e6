-- What names and designators mean doesn't depend on where a component is or who owns an
-- activation.
use Rattle.std.proofs.Common.{◌≡◌, Option, Some, None, refl, ap, ◌∙◌, if◌then◌else◌}
use Rattle.cp_model.specs.Abstract as a
use Rattle.cp_model.specs.Abstract.{BaseType, Integer, Name, Routine}
use Rattle.cp_model.specs.Names.{lookup}
use Rattle.cp_model.specs.Types.{full_range}
use Rattle.cp_model.specs.Declarations.{Variable}
use Rattle.cp_model.specs.Environments.{Environment, IsVariable, Meaning, local_variables, meaning, permanent_variables, variable_or}
use Rattle.cp_model.specs.Expressions.{name_of}
use Rattle.cp_model.specs.Locations.{Location, OfProcess, Owner, Path}
use Rattle.cp_model.specs.Calls.{callee}
use Rattle.cp_model.specs.Places.{field_type}
use Rattle.cp_law_typing.specs.StaticTypes.{called_type, element_type, expression_type, first_type, is_clock, own_value_type, place_type, place_type_meant, standard_type, value_type_meant}
use Rattle.cp_model_program.specs.Scopes.{Scope, environment}
pub use Rattle.cp_model_program.specs.Scopes.{environment_at, frame_at}

module _ (scope : Scope) (at : Location) (o : Owner) where
  abbrev env : Environment
  env = environment_at scope at o

  abbrev of_routine : Option Routine → Scope
  of_routine r = record scope { routine = r }

  called_plain : (x : Name) (r : Option Routine)
      → callee (environment (of_routine r)) (a.Plain x) ≡ callee (environment_at (of_routine r) at o) (a.Plain x)
  called_plain x None = refl
  called_plain x (Some r) = refl

  pub callee_same : (d : a.Designator) → callee (environment scope) d ≡ callee env d
  callee_same (a.Plain x) = called_plain x scope.routine
  callee_same (a.Part (a.Plain x) y) = refl
  callee_same (a.Part (a.Part d x) y) = refl
  callee_same (a.Part (a.At d e) y) = refl
  callee_same (a.At d e) = refl

  module _ {A : Type 0} (f : Meaning → A) (same : (l k : Location) (v : Variable) → f (IsVariable l v) ≡ f (IsVariable k v)) where
    variable_same : (x : Name) (w : Option Variable) (p q : Owner) (path way : Path) (m n : Meaning) → f m ≡ f n
        → f (variable_or w p path x m) ≡ f (variable_or w q way x n)
    variable_same x (Some v) p q path way m n h = same _ _ v
    variable_same x None p q path way m n h = h

    meant_in : (x : Name) (r : Option Routine) → f (meaning (environment (of_routine r)) x) ≡ f (meaning (environment_at (of_routine r) at o) x)
    meant_in x None = variable_same x (lookup x (permanent_variables scope.globals scope.system)) (OfProcess 0) at.owner _ at.path _ _ refl
    meant_in x (Some r) =
        variable_same x (lookup x (local_variables scope.globals r)) (OfProcess 0) o _ _ _ _
        (variable_same x (lookup x (permanent_variables scope.globals scope.system)) (OfProcess 0) at.owner _ at.path _ _ refl)

    pub meant_same : (x : Name) → f (meaning (environment scope) x) ≡ f (meaning env x)
    meant_same x = meant_in x scope.routine

  pub place_type_same : (d : a.Designator) → place_type (environment scope) d ≡ place_type env d
  place_type_same (a.Plain x) = meant_same place_type_meant (λ l k v. refl) x
  place_type_same (a.Part d x) = ap (field_type x) (place_type_same d)
  place_type_same (a.At d e) = ap element_type (place_type_same d)

  own_type_same : (d : a.Designator) → own_value_type (environment scope) d ≡ own_value_type env d
  own_type_same (a.Plain x) =
      ap (λ t. if is_clock x then full_range Integer else t) (meant_same value_type_meant (λ l k v. refl) x)
  own_type_same (a.Part d x) = place_type_same (a.Part d x)
  own_type_same (a.At d e) = place_type_same (a.At d e)

  mutual
    pub type_same : (e : a.Expression) → expression_type (environment scope) e ≡ expression_type env e
    type_same (a.Literal n) = refl
    type_same (a.Letter n) = refl
    type_same (a.Use d) =
        ap (λ c. called_type scope.globals c (own_value_type (environment scope) d)) (callee_same d)
        ∙ ap (called_type scope.globals (callee env d)) (own_type_same d)
    type_same (a.Call d es) =
        ap (λ c. called_type scope.globals c (standard_type (name_of d) (first_type (environment scope) es))) (callee_same d)
        ∙ ap (λ t. called_type scope.globals (callee env d) (standard_type (name_of d) t)) (first_same es)
    type_same (a.Not e) = refl
    type_same (a.Negative e) = refl
    type_same (a.Positive e) = type_same e
    type_same (a.Binary p e f) = refl
    type_same (a.Known b n) = refl

    first_same : (es : a.Expressions) → first_type (environment scope) es ≡ first_type env es
    first_same a.NoExpression = refl
    first_same (a.MoreExpressions e es) = type_same e
