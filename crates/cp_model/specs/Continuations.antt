-- Continuations: what a process has left to do, as a list of tasks.
--
-- Putting a statement before a continuation unfolds it at no cost: a compound statement becomes its
-- statements, an empty one vanishes, and a `repeat` becomes its statements and its test. So each
-- task costs a step.
use Rattle.std.specs.Prelude.{Bool, List, Option, Some, [], false, suc, true, ℕ, ℤ, ◌∷◌}
use Rattle.cp_model.specs.Abstract.{Expression, Name, Nothing, Repeat, Seq, Statement, While}
use Rattle.cp_model.specs.Environments.{Environment}

-- A task is a statement in its environment, a test, or an end mark. The test of a `while` or
-- `repeat` keeps the whole test next to `now`, in which some calls may already have been made. The
-- next test of a `for` has its counter, which is kept apart from the variable. There are end marks
-- of a routine, of the body of a class or monitor, and of the body of a process. An end mark of a
-- monitor's entry or body names that monitor, whose gate is held until then.
pub data Task : Type 0 where
  Do : (s : Statement) (env : Environment) → Task
  WhileTest : (now e : Expression) (s : Statement) (env : Environment) → Task
  RepeatTest : (now : Expression) (s : Statement) (e : Expression) (env : Environment) → Task
  ForNext : (v : Name) (down : Bool) (counter last : ℤ) (s : Statement) (env : Environment) → Task
  EndCall : (env : Environment) (gate : Option ℕ) → Task
  EndBody : (gate : Option ℕ) → Task
  EndProcess : Task

-- Puts a statement before a continuation.
abbrev pub push : Statement → Environment → List Task → List Task
push Nothing env k = k
push (Seq a b) env k = push a env (push b env k)
push (While e s) env k = WhileTest e e s env ∷ k
push (Repeat s e) env k = push s env (RepeatTest e s e env ∷ k)
push s env k = Do s env ∷ k

-- The monitors that end marks name, innermost first.
abbrev pub marked_monitors : List Task → List ℕ
marked_monitors [] = []
marked_monitors (EndCall env (Some m) ∷ k) = m ∷ marked_monitors k
marked_monitors (EndBody (Some m) ∷ k) = m ∷ marked_monitors k
marked_monitors (_ ∷ k) = marked_monitors k

-- Whether an end mark of a monitor is left.
abbrev pub is_in_monitor : List Task → Bool
is_in_monitor k = elim (marked_monitors k) [ [] ↦ false | m ∷ ms ↦ true ]

-- The number of activations. The body of a component isn't one.
abbrev pub depth : List Task → ℕ
depth [] = 0
depth (EndCall env gate ∷ k) = suc (depth k)
depth (_ ∷ k) = depth k
