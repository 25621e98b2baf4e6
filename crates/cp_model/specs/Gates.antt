-- The gates of monitors, and the effect of a step on them.
--
-- When a gate is passed on, the first asker leaves the list, holds the gate and is ready. If there
-- is no asker, the gate becomes free. An asker's activation was made when it asked, so being given
-- the gate costs no step.
use Rattle.std.specs.Prelude.{List, None, Option, Some, [], ℕ, ◌++◌, ◌∷◌}
use Rattle.cp_model.specs.Continuations.{Task}
use Rattle.cp_model.specs.Configurations.{Asking, Continues, Delayed, Delays, Effect, Ended, Ends, Enters, Fresh, Leaves, Opens, Own, Ready, Starts, Status, Unstarted, Waiting, Waits}
use Rattle.cp_model.specs.States.{Free, HeldBy, Holder, State, set_status, with_at}

abbrev pub set_gate : ℕ → Holder → List ℕ → State → State
set_gate m h askers s = record s { gates = with_at m (record { holder = h; askers = askers }) s.gates }

-- A process that is asking or delayed becomes ready. Any other status stays.
abbrev pub made_ready : Status → Status
made_ready (Asking m) = Ready
made_ready (Delayed m q) = Ready
made_ready x = x

abbrev pub make_ready : ℕ → State → State
make_ready r s = set_status r (made_ready (s.status r)) s

abbrev pub pass_to : ℕ → List ℕ → State → State
pass_to m [] s = set_gate m Free [] s
pass_to m (r ∷ rs) s = make_ready r (set_gate m (HeldBy r) rs s)

abbrev pub pass_on : ℕ → State → State
pass_on m s = pass_to m (s.gates m).askers s

-- If the gate is held, the process asks for it and becomes the last asker. Otherwise it holds the
-- gate.
abbrev pub enter : ℕ → ℕ → Holder → State → State
enter p m (HeldBy q) s = set_status p (Asking m) (set_gate m (HeldBy q) ((s.gates m).askers ++ p ∷ []) s)
enter p m h s = set_gate m (HeldBy p) (s.gates m).askers s

-- A process that was in the queue holds the gate, ahead of all askers. If there was none, the
-- gate is passed on.
abbrev pub resume : ℕ → Option ℕ → State → State
resume m None s = pass_on m s
resume m (Some r) s = make_ready r (set_gate m (HeldBy r) (s.gates m).askers s)

-- An unstarted process becomes fresh, with the continuation `k`. Any other process stays as it is.
abbrev pub start_process : ℕ → List Task → Status → State → State
start_process r k Unstarted s = set_status r Fresh (record s { continuation = with_at r k s.continuation })
start_process r k _ s = s

abbrev pub apply_effect : ℕ → Effect → State → State
apply_effect p Own s = s
apply_effect p Ends s = set_status p Ended s
apply_effect p Waits s = set_status p Waiting s
apply_effect p (Enters m) s = enter p m (s.gates m).holder s
apply_effect p (Leaves m) s = pass_on m s
apply_effect p (Delays m q) s = pass_on m (set_status p (Delayed m q) s)
apply_effect p (Continues m r) s = resume m r s
apply_effect p (Opens m) s = set_gate m (HeldBy p) [] s
apply_effect p (Starts r k) s = start_process r k (s.status r) s
