-- The standard procedures: `display`, `accept`, `delay`, `continue` and `wait`.
--
-- A step that faults takes no input and writes nothing.
use Rattle.std.specs.Prelude.{List, None, Option, Some, [], codes, if◌then◌else◌, negsuc, pos, slice_get, suc, ℕ, ℤ, ◌%◌, ◌++◌, ◌∷◌}
use Rattle.cp_model.specs.Abstract.{Char, Designator, Expression, Expressions, MoreExpressions, Name, NoExpression}
use Rattle.std.specs.Str.{bytes_eq}
use Rattle.cp_model.specs.Locations.{Location}
use Rattle.cp_model.specs.Stores.{QueueHolds, Value, put}
use Rattle.cp_model.specs.Outcomes.{Fault, Gives, and_then}
use Rattle.cp_model.specs.Environments.{Environment}
use Rattle.cp_model.specs.Places.{TypedValue, base_of_value, ordinal_of, simple_value}
use Rattle.cp_model.specs.Expressions.{name_of}
use Rattle.cp_model.specs.Continuations.{Task, marked_monitors}
use Rattle.cp_model.specs.Configurations.{Configuration, Context, Continues, Delays, StepResult, Waits, designation, evaluation, own_step, with_continuation, with_writes}
use Rattle.cp_model.specs.Assignments.{writes_of}
use Rattle.cp_model.specs.Arguments.{designator_of}
use Rattle.cp_model.specs.CallSteps.{innermost_call, returns}
use Rattle.cp_model.specs.Decimal.{decimal}

-- ---- display and accept

-- Each character is a byte. Of a larger number the lowest eight bits are taken, and a negative one
-- gives 0, so a transcript has only bytes.
abbrev pub byte : ℤ → ℕ
byte (pos n) = n % 256
byte (negsuc n) = 0

-- A character is displayed as its byte, any other simple value as the decimal number of its ordinal.
abbrev pub display_text : TypedValue → List ℕ
display_text v = elim (base_of_value v) [ Char ↦ byte (ordinal_of v) ∷ [] | _ ↦ decimal (ordinal_of v) ]

-- The next character of the input, which is 25 at the end.
abbrev pub next_input : List ℕ → ℕ → ℤ
next_input input i = elim (slice_get input i) [ None ↦ pos 25 | Some b ↦ pos b ]

-- The place in the input after one more `accept`. At the end of the input nothing is taken.
abbrev pub next_place : List ℕ → ℕ → ℕ
next_place input i = elim (slice_get input i) [ None ↦ i | Some b ↦ suc i ]

-- ---- delay and continue

abbrev pub process_in_queue : Value → Option ℕ
process_in_queue (QueueHolds p) = p
process_in_queue _ = None

-- Enters a queue in which no process is. A taken queue is fault 5.
abbrev pub enqueue : ℕ → Configuration → List Task → Location → ℕ → Option ℕ → StepResult
enqueue p config k q m (Some r) = Fault 5
enqueue p config k q m None = Gives (with_writes config ((q, QueueHolds (Some p)) ∷ []) k, Delays m q)

-- The process is in the queue, and the kernel passes on the gate of the innermost monitor. The
-- outer gates stay held.
abbrev pub delay : ℕ → Configuration → List Task → Location → List ℕ → StepResult
delay p config k q [] = own_step config
delay p config k q (m ∷ ms) = enqueue p config k q m (process_in_queue (config.store q))

-- The entry routine returns at once, and the queue becomes empty. A process that was in it
-- resumes.
abbrev pub continue : Configuration → Location → Option (Environment × Option ℕ × List Task) → StepResult
continue config q (Some (env, Some m, k)) =
    and_then (returns (record config { store = put q (QueueHolds None) config.store }) env k)
    (λ after. Gives (after, Continues m (process_in_queue (config.store q))))
continue config q _ = own_step config

-- ---- All of them

abbrev pub standard_procedure : Context → Configuration → Environment → List Task → Name → Expression → StepResult
standard_procedure context config env k x e =
    if bytes_eq x (codes "display")
    then and_then (evaluation context config env e) (λ v.
    own_step (record config { continuation = k; transcript = config.transcript ++ display_text v }))
    else if bytes_eq x (codes "accept")
    then and_then (designation context config env (designator_of e)) (λ at.
    and_then (writes_of at.at at.type (simple_value Char (next_input context.input config.consumed))) (λ ws.
    own_step (record (with_writes config ws k) { consumed = next_place context.input config.consumed })))
    else if bytes_eq x (codes "delay")
    then and_then (designation context config env (designator_of e)) (λ at.
    delay context.process config k at.at (marked_monitors k))
    else and_then (designation context config env (designator_of e)) (λ at.
    continue config at.at (innermost_call k))

-- `wait` is the only one without an argument. The process then waits for the clock.
abbrev pub standard_statement
    : Context → Configuration → Environment → List Task → Designator → Expressions → StepResult
standard_statement context config env k d NoExpression = Gives (with_continuation config k, Waits)
standard_statement context config env k d (MoreExpressions e es) = standard_procedure context config env k (name_of d) e
