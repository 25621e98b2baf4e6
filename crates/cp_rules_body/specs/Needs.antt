-- The parts of a need that single functions of the code compute.
use Rattle.std.specs.Prelude.{ℕ, max, List, [], ◌∷◌, Option, Some}
use Rattle.cp_model.specs.Syntax as s
use Rattle.cp_model.specs.declared.rules.Entity.{Entity}
use Rattle.cp_model.specs.declared.rules.Entity.TheVariants as entity
use Rattle.cp_model.specs.RulesEnvironment.{Environment, routine_of, c1_named}
use Rattle.cp_model.specs.RulesNeeds.{need_expression, need_expressions, need_initialised}

-- The need of the right operands of a chain.
abbrev pub need_operations : Environment → List s.Operation → ℕ
need_operations env [] = 0
need_operations env (o ∷ os) = max (need_expression env o.operand) (need_operations env os)

-- The need of what a designator represents, if that is a routine.
abbrev pub need_if_called : Environment → Option Entity → ℕ
need_if_called env (Some (entity.Routine r)) = (routine_of env r).need
need_if_called env (Some (entity.Entry r)) = (routine_of env r).need
need_if_called env e = 0

-- The need of one component that an `init` names, and of its arguments.
abbrev pub need_item : Environment → s.InitItem → ℕ
need_item env i = max (need_initialised env (c1_named env i.component)) (need_expressions env i.arguments)
