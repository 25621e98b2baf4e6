-- What `init` passes on: each right to a monitor that the initial process passes to a monitor is
-- to one whose type was defined earlier.
use Rattle.std.specs.Prelude.{List, None, Option, Some, false, ℕ, ◌<◌, ◌≡◌, ◌∷◌}
use Rattle.cp_model.specs.Abstract.{Arms, Assign, Case, Cycle, Expression, Expressions, For, If, Init, Monitor, MoreArms, MoreExpressions, Name, NoArm, Nothing, Perform, Plain, Repeat, Seq, Statement, Use, While}
use Rattle.cp_model.specs.Types.{ComponentOf, ResolvedType}
use Rattle.cp_model.specs.Declarations.{Variable, declarations}
use Rattle.cp_model.specs.Environments.{Environment}
use Rattle.cp_model.specs.Components.{Component, component_named, declared_monitor}
use Rattle.cp_model.specs.Calls.{callee}
use Rattle.cp_model.specs.Start.{initial_environment}
use Rattle.cp_model.specs.States.{Setup}

-- ---- Arguments

-- A component of the initial process itself, and before place `n` if it is a monitor.
abbrev pub IsEarlier : (ℕ → ℕ) → Environment → ℕ → Option Component → Type 0
IsEarlier place env n None = Unit {0}
IsEarlier place env n (Some c) = (c.is_parameter ≡ false) × (c.system.sort ≡ Monitor → place (declared_monitor env c) < n)

abbrev pub PassesEarlier : (ℕ → ℕ) → Environment → ℕ → ResolvedType → Expression → Type 0
PassesEarlier place env n (ComponentOf s inner) (Use (Plain x)) = (callee env (Plain x) ≡ None) × IsEarlier place env n (component_named env x)
PassesEarlier place env n (ComponentOf s inner) _ = ⊥
PassesEarlier place env n _ e = Unit {0}

abbrev pub AllPassEarlier : (ℕ → ℕ) → Environment → ℕ → List (Name × Variable) → Expressions → Type 0
AllPassEarlier place env n (v ∷ vs) (MoreExpressions e es) = PassesEarlier place env n v.1.type e × AllPassEarlier place env n vs es
AllPassEarlier place env n _ _ = Unit {0}

-- ---- Items

abbrev pub ItemPassesEarlier : (ℕ → ℕ) → Environment → Option Component → Expressions → Type 0
ItemPassesEarlier place env None es = Unit {0}
ItemPassesEarlier place env (Some c) es =
    c.system.sort ≡ Monitor → AllPassEarlier place env (place (declared_monitor env c)) (declarations env.globals c.system.parameters) es

-- `P` holds of each component that is initialised, and of its arguments.
abbrev mutual
  pub EachInit : (Name → Expressions → Type 0) → Statement → Type 0
  EachInit P (Seq a b) = EachInit P a × EachInit P b
  EachInit P (If e a b) = EachInit P a × EachInit P b
  EachInit P (Case e arms) = EachInitIn P arms
  EachInit P (While e s) = EachInit P s
  EachInit P (Repeat s e) = EachInit P s
  EachInit P (For v down a b s) = EachInit P s
  EachInit P (Cycle s) = EachInit P s
  EachInit P (Init x es) = P x es
  EachInit P Nothing = Unit {0}
  EachInit P (Assign d e) = Unit {0}
  EachInit P (Perform d es) = Unit {0}

  pub EachInitIn : (Name → Expressions → Type 0) → Arms → Type 0
  EachInitIn P NoArm = Unit {0}
  EachInitIn P (MoreArms ls s rest) = EachInit P s × EachInitIn P rest

abbrev pub PassesInOrder : (ℕ → ℕ) → Setup → Type 0
PassesInOrder place setup =
    EachInit (λ x es. ItemPassesEarlier place (initial_environment setup) (component_named (initial_environment setup) x) es) setup.tree.initial.body
