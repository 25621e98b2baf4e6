-- A process that has no private step to make stays as it is.
use Rattle.std.proofs.Common.{◌≡◌, ℕ, zero, suc, Bool, true, false, List, refl, ap}
use Rattle.std.specs.Prelude.{Option, None, Some, if◌then◌else◌}
use Rattle.cp_model_program.specs.Programs.{Operation, Program}
use Rattle.cp_model_machine.specs.Machines.{awake, wake_one}
use Rattle.cp_model_machine.specs.PrivateStates.{PrivateState, is_running}
use Rattle.cp_model_machine.specs.Steps.{act_on, alone, is_private, operation_of, private_step, private_steps}
use Rattle.cp_private.specs.Resting.{is_idle, is_idle_while}
use Rattle.cp_private.specs.States.{activity, private_of}
use Rattle.cp_private.specs.declared.private.Activity.{Activity}
use Rattle.cp_private.specs.declared.private.Activity.TheVariants as activity_case
use Rattle.cp_private.specs.declared.private.Private.{Private}
use Rattle.cp_private.proofs.Lasting.{steps_rest}

held_is_not_private : (o : PrivateState) (g : ℕ) (x : Option Operation) → o.gate ≡ suc g → is_private o x ≡ false
held_is_not_private o g None e = refl
held_is_not_private o g (Some y) e = rw e refl

not_private : (program : Program) (clock : ℕ) (o : PrivateState) → is_private o (operation_of program o) ≡ false → private_step program clock o ≡ o
not_private program clock o h = by (is_running o.activity)
  where
    by : (b : Bool) → (if b then (if is_private o (operation_of program o) then (act_on program (alone clock o) o (operation_of program o)).0 else o) else o) ≡ o
    by true = rw h refl
    by false = refl

not_running : (program : Program) (clock : ℕ) (o : PrivateState) → is_running o.activity ≡ false → private_step program clock o ≡ o
not_running program clock o h = rw h refl

resting_step : (wakes : Bool) (a : Activity) (gate : ℕ) (program : Program) (clock : ℕ) (o : PrivateState) → o.activity ≡ activity a → o.gate ≡ gate
    → is_idle_while wakes gate a ≡ true → private_step program clock o ≡ o
resting_step wakes activity_case.NotBegun gate program clock o ea eg h = not_running program clock o (rw ea refl)
resting_step wakes activity_case.Running zero program clock o ea eg h = absurd (cc)
resting_step wakes activity_case.Running (suc g) program clock o ea eg h =
    not_private program clock o (held_is_not_private o g (operation_of program o) eg)
resting_step wakes activity_case.Waiting gate program clock o ea eg h = not_running program clock o (rw ea refl)
resting_step wakes activity_case.Ended gate program clock o ea eg h = not_running program clock o (rw ea refl)
resting_step wakes (activity_case.Faulted f) gate program clock o ea eg h = not_running program clock o (rw ea refl)

pub resting_steps : (wakes : Bool) (x : Private) → is_idle wakes x ≡ true → (program : Program) (clock n : ℕ) (input : List ℕ)
    → private_steps program clock n (private_of x input) ≡ private_of x input
resting_steps wakes x h program clock n input =
    steps_rest program clock n (private_of x input) (resting_step wakes x.activity x.gate program clock (private_of x input) refl refl h)

sleeping : (wakes : Bool) (a : Activity) (gate : ℕ) → is_idle_while wakes gate a ≡ true → wakes ≡ true → awake (activity a) ≡ activity a
sleeping wakes activity_case.NotBegun gate h e = refl
sleeping wakes activity_case.Running gate h e = refl
sleeping wakes activity_case.Waiting gate h e = absurd (cc)
sleeping wakes activity_case.Ended gate h e = refl
sleeping wakes (activity_case.Faulted f) gate h e = refl

pub resting_sleeps : (wakes : Bool) (x : Private) → is_idle wakes x ≡ true → wakes ≡ true → (input : List ℕ) → wake_one (private_of x input) ≡ private_of x input
resting_sleeps wakes x h e input = ap (λ v. record (private_of x input) { activity = v }) (sleeping wakes x.activity x.gate h e)
