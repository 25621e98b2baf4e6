-- The need of statements: the words of the activations that they make, one inside the other. The
-- need of a body is the greatest need among the routines called in it and the bodies of classes and
-- monitors initialised in it, or 0.
use Rattle.std.specs.Prelude.{ℕ, max, List, [], ◌∷◌, Option, None, Some}
use Rattle.cp_model.specs.Syntax as s
use Rattle.cp_model.specs.declared.tree.Sort.{Sort}
use Rattle.cp_model.specs.declared.tree.Sort.TheVariants as sort
use Rattle.cp_model.specs.declared.rules.Entity.{Entity}
use Rattle.cp_model.specs.declared.rules.Entity.TheVariants as entity
use Rattle.cp_model.specs.declared.rules.SystemRow.{SystemRow}
use Rattle.cp_model.specs.RulesJudged.{Judged, Sound}
use Rattle.cp_model.specs.RulesEnvironment.{Environment, routine_of, system_of, system_row, c1_named}
use Rattle.cp_model.specs.RulesExpressions.{designate}

-- ---- expressions

abbrev pub need_called : Environment → Judged Entity → ℕ
need_called env (Sound (entity.Routine r)) = (routine_of env r).need
need_called env (Sound (entity.Entry r)) = (routine_of env r).need
need_called env j = 0

abbrev mutual
  pub need_expression : Environment → s.Expression → ℕ
  need_expression env (s.Number at n) = 0
  need_expression env (s.Character at n) = 0
  need_expression env (s.Designated d) = need_designator env d
  need_expression env (s.Call d es) = max (need_designator env d) (need_expressions env es)
  need_expression env (s.Parenthesized at e) = need_expression env e
  need_expression env (s.Not at e) = need_expression env e
  need_expression env (s.Signed sign at e) = need_expression env e
  need_expression env (s.Binary a o at b) = max (need_expression env a) (need_expression env b)

  pub need_expressions : Environment → s.Expressions → ℕ
  need_expressions env s.NoExpressions = 0
  need_expressions env (s.MoreExpressions e es) = max (need_expression env e) (need_expressions env es)

  -- a routine that the designator names is called
  pub need_designator : Environment → s.Designator → ℕ
  need_designator env (s.Designate x ss) = max (need_called env (designate env (s.Designate x ss))) (need_selectors env ss)

  pub need_selectors : Environment → s.Selectors → ℕ
  need_selectors env s.NoSelectors = 0
  need_selectors env (s.MoreSelectors y ys) = max (need_selector env y) (need_selectors env ys)

  pub need_selector : Environment → s.Selector → ℕ
  need_selector env (s.Field at x) = 0
  need_selector env (s.Indexed is) = need_indices env is

  pub need_indices : Environment → s.Indices → ℕ
  need_indices env s.NoIndices = 0
  need_indices env (s.MoreIndices at e is) = max (need_expression env e) (need_indices env is)

-- ---- statements

-- a process runs its body itself, so its `init` needs no words
abbrev pub need_body_of : SystemRow → Sort → ℕ
need_body_of y sort.Process = 0
need_body_of y sort.Monitor = y.body_need
need_body_of y sort.Class = y.body_need

abbrev pub need_system : Environment → Option ℕ → ℕ
need_system env None = 0
need_system env (Some y) = need_body_of (system_row env y) (system_row env y).sort

abbrev pub need_initialised : Environment → Judged Entity → ℕ
need_initialised env (Sound (entity.Variable t a)) = need_system env (system_of env t)
need_initialised env j = 0

abbrev pub need_items : Environment → List s.InitItem → ℕ
need_items env [] = 0
need_items env (i ∷ is) = max (max (need_initialised env (c1_named env i.component)) (need_expressions env i.arguments)) (need_items env is)

abbrev mutual
  pub need_statement : Environment → s.Statement → ℕ
  need_statement env s.Empty = 0
  need_statement env (s.Assign d at e) = max (need_designator env d) (need_expression env e)
  need_statement env (s.Perform d es) = max (need_designator env d) (need_expressions env es)
  need_statement env (s.Compound l) = need_statements env l
  need_statement env (s.If e x) = max (need_expression env e) (need_statement env x)
  need_statement env (s.IfElse e x y) = max (need_expression env e) (max (need_statement env x) (need_statement env y))
  need_statement env (s.Case e a) = max (need_expression env e) (need_arms env a)
  need_statement env (s.While e x) = max (need_expression env e) (need_statement env x)
  need_statement env (s.Repeat l e) = max (need_statements env l) (need_expression env e)
  need_statement env (s.For v a direction b x) = max (max (need_expression env a) (need_expression env b)) (need_statement env x)
  need_statement env (s.Cycle l) = need_statements env l
  need_statement env (s.Init at is) = need_items env is

  pub need_statements : Environment → s.Statements → ℕ
  need_statements env s.NoStatements = 0
  need_statements env (s.MoreStatements x xs) = max (need_statement env x) (need_statements env xs)

  pub need_arms : Environment → s.Arms → ℕ
  need_arms env s.NoArms = 0
  need_arms env (s.MoreArms cs x a) = max (need_statement env x) (need_arms env a)
