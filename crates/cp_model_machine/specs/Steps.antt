-- The steps of a process as plain data.
--
-- In a private step, the words are the process's own. In a kernel step, the shared words of all
-- monitors follow them. One function thus serves both kinds of step: an address at or above the
-- number of own words is in a monitor.
use Rattle.std.specs.Prelude.{Bool, true, false, not, ℕ, zero, suc, ◌+◌, ℤ, pos, [], ◌∷◌, ◌++◌, Option, None, Some, if◌then◌else◌, int_le, length, nat_lt, slice_get}
use Rattle.cp_model.specs.Decimal.{decimal}
use Rattle.cp_model.specs.Integers.{same_integer}
use Rattle.cp_model.specs.Places.{within}
use Rattle.cp_model.specs.StandardCalls.{byte, next_input, next_place}
use Rattle.cp_model.specs.StatementSteps.{is_past, next_counter}
use Rattle.cp_model.specs.declared.state.Fault.TheVariants as fault
use Rattle.cp_model_program.specs.Terms as target
use Rattle.cp_model_program.specs.Terms.{PlaceExpression, Target, Term}
use Rattle.cp_model_program.specs.Programs as op
use Rattle.cp_model_program.specs.Programs.{Counting, Operation, Program}
use Rattle.cp_model_program.specs.Starts.{block, paste, word}
use Rattle.cp_model_program.specs.Tables.{place_in}
use Rattle.cp_model_machine.specs.Values.{place_of, root_place, value_of}
use Rattle.cp_model_machine.specs.PrivateStates.{Acting, Continues, Delays, Ended, Leaves, StepContext, PrivateState, Waiting, fault_in, go_to, is_running, private_outcome, guard, set_temp, set_word, view_of, with_result}
use Rattle.cp_model_machine.specs.Passing.{component_called}
use Rattle.cp_model_machine.specs.Calling.{call_step, gate_effect, init_class, init_monitor, init_process, leave, return_with, with_frame}

abbrev pub with_value : StepContext → PrivateState → Term → (ℤ → Acting) → Acting
with_value w o e go = with_result o (value_of (view_of w o) e) go

abbrev pub with_place : StepContext → PrivateState → PlaceExpression → (ℕ → Acting) → Acting
with_place w o s go = with_result o (place_of (view_of w o) s) go

-- ---- Assignments

abbrev pub set_within : PrivateState → ℤ → ℤ → ℕ → ℤ → ℕ → Acting
set_within o low high at n next =
    guard (within low high n) o fault.Range (private_outcome (go_to next (set_word o at n)))

abbrev pub copy_words : PrivateState → ℕ → ℕ → ℕ → ℕ → Acting
copy_words o to from size next =
    private_outcome (go_to next (record o { words = paste to (block o.words from size) o.words }))

-- ---- Case and for

abbrev pub go_to_arm : PrivateState → Option ℕ → Acting
go_to_arm o None = fault_in o fault.NoLabel
go_to_arm o (Some place) = private_outcome (go_to place o)

-- Sets the variable and the two temps, and continues with the body.
abbrev pub count_to : StepContext → PrivateState → Counting → ℤ → ℤ → Acting
count_to w o c n last =
    let counted = set_word o (root_place (view_of w o) c.variable) n in
    let temps = set_temp (set_temp counted (o.temp + c.temp) n) (o.temp + c.temp + 1) last in
    guard (within c.low c.high n) o fault.Range (private_outcome (go_to c.body temps))

abbrev pub first_count : StepContext → PrivateState → Counting → ℤ → ℤ → Acting
first_count w o c n last = if is_past c.down n last then private_outcome (go_to c.next o) else count_to w o c n last

abbrev pub next_count : StepContext → PrivateState → Counting → ℤ → ℤ → Acting
next_count w o c n last =
    if same_integer n last then private_outcome (go_to c.next o) else count_to w o c (next_counter c.down n) last

-- ---- Standard procedures

abbrev pub display : PrivateState → ℤ → Bool → ℕ → Acting
display o n as_byte next =
    private_outcome (go_to next (record o { output = o.output ++ (if as_byte then byte n ∷ [] else decimal n) }))

abbrev pub accept : PrivateState → ℕ → ℤ → ℤ → ℕ → Acting
accept o at low high next =
    let n = next_input o.input o.consumed in
    let taken = record (set_word o at n) { consumed = next_place o.input o.consumed } in
    guard (within low high n) o fault.Range (private_outcome (go_to next taken))

abbrev pub is_held : ℕ → Bool
is_held zero = false
is_held (suc g) = true

-- Outside all monitors, nothing is done.
abbrev pub in_monitor : PrivateState → Acting → Acting
in_monitor o x = if is_held o.gate then x else private_outcome o

-- If the queue doesn't exist, the process isn't delayed.
abbrev pub delay : PrivateState → ℕ → ℕ → Acting
delay o at next =
    in_monitor o
    (if nat_lt at (length o.words)
    then guard (int_le (word o.words at) (pos 0)) o fault.QueueTaken
    (go_to next (set_word o at (pos o.number)), Delays o.gate at)
    else private_outcome o)

-- If the call of the running routine entered no monitor, nothing is done.
abbrev pub continue : PrivateState → ℕ → Bool → Acting
continue o at function =
    with_frame o o.frames (λ f fs.
    if is_held f.gate
    then return_with o (set_word o at (pos 0)) f fs function (Continues f.gate (word o.words at))
    else private_outcome o)

-- ---- All operations

abbrev pub act : Program → StepContext → PrivateState → Operation → Acting
act program w o (op.Set to low high value next) =
    with_place w o to (λ at. with_value w o value (λ n. set_within o low high at n next))
act program w o (op.SetResult low high value next) =
    with_value w o value (λ n. set_within o low high o.base n next)
act program w o (op.CopyWords to from size next) =
    with_place w o to (λ at. with_place w o from (λ b. copy_words o at b size next))
act program w o (op.Test value yes' no') =
    with_value w o value (λ n. private_outcome (go_to (if same_integer n (pos 1) then yes' else no') o))
act program w o (op.Case value table) = with_value w o value (λ n. go_to_arm o (place_in table n))
act program w o (op.For c first last) =
    with_value w o first (λ n. with_value w o last (λ m. first_count w o c n m))
act program w o (op.ForNext c) =
    next_count w o c (word o.temps (o.temp + c.temp)) (word o.temps (o.temp + c.temp + 1))
act program w o (op.Cycle body) = private_outcome (go_to body o)
act program w o (op.Procedure call next) = call_step program w o call (record { counter = next; into = 0 })
act program w o (op.Function call into next) = call_step program w o call (record { counter = next; into = into })
act program w o (op.Return function) =
    with_frame o o.frames (λ f fs. return_with o o f fs function (gate_effect f.gate Leaves))
act program w o (op.InitClass call next) =
    init_class program w o call (component_called program w o call.target).component next
act program w o (op.InitMonitor call next) =
    init_monitor program w o call (component_called program w o call.target).gate next
act program w o (op.InitProcess r arguments words next) = init_process program w o r arguments words next
act program w o op.EndBody = with_frame o o.frames (λ f fs. (leave o f fs, gate_effect f.gate Leaves))
act program w o op.End = private_outcome (record o { activity = Ended })
act program w o (op.Display value as_byte next) = with_value w o value (λ n. display o n as_byte next)
act program w o (op.Accept to low high next) = with_place w o to (λ at. accept o at low high next)
act program w o (op.Delay queue next) = with_place w o queue (λ at. delay o at next)
act program w o (op.Continue queue function) = with_place w o queue (λ at. continue o at function)
act program w o (op.Wait next) = private_outcome (go_to next (record o { activity = Waiting }))

-- ---- Kinds of steps

abbrev pub is_monitor : Target → Bool
is_monitor (target.Monitor m) = true
is_monitor (target.MonitorRight at) = true
is_monitor _ = false

abbrev pub is_kernel_operation : Operation → Bool
is_kernel_operation (op.Procedure call next) = is_monitor call.target
is_kernel_operation (op.Function call into next) = is_monitor call.target
is_kernel_operation (op.InitMonitor call next) = true
is_kernel_operation (op.InitProcess r arguments words next) = true
is_kernel_operation _ = false

-- `init` of a process belongs to the kernel, but needs no gate.
abbrev pub is_start_operation : Operation → Bool
is_start_operation (op.InitProcess r arguments words next) = true
is_start_operation _ = false

abbrev pub operation_of : Program → PrivateState → Option Operation
operation_of program o = slice_get program.operations o.counter

abbrev pub is_private : PrivateState → Option Operation → Bool
is_private o None = false
is_private o (Some x) = if is_held o.gate then false else not (is_kernel_operation x)

-- ---- Steps

abbrev pub act_on : Program → StepContext → PrivateState → Option Operation → Acting
act_on program w o None = private_outcome o
act_on program w o (Some x) = act program w o x

-- A private step reads nothing of the kernel.
abbrev pub alone : ℕ → PrivateState → StepContext
alone clock o = record { clock = clock; own = length o.words; is_set = λ m. false; is_started = λ r. true }

-- One step if the next one is private, and otherwise nothing.
abbrev pub private_step : Program → ℕ → PrivateState → PrivateState
private_step program clock o =
    let x = operation_of program o in
    if is_running o.activity
    then (if is_private o x then (act_on program (alone clock o) o x).0 else o)
    else o

-- At most `n` steps, as long as the next one is private.
abbrev pub private_steps : Program → ℕ → ℕ → PrivateState → PrivateState
private_steps program clock zero o = o
private_steps program clock (suc n) o = private_steps program clock n (private_step program clock o)

-- One step of a running process, with the shared words in reach.
abbrev pub step_with : Program → StepContext → PrivateState → Acting
step_with program w o = act_on program w o (operation_of program o)
