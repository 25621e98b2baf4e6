-- The targets of calls, over words, and the arguments that are passed.
use Rattle.std.specs.Prelude.{Bool, true, not, ◌&&◌, ℕ, ◌+◌, ◌-◌, ℤ, pos, ◌+ℤ◌, ◌-ℤ◌, List, [], ◌∷◌, Option, None, Some, Result, Ok, Err, if◌then◌else◌, length, nat_le, nat_lt, slice_get}
use Rattle.cp_model.specs.Integers.{same_integer}
use Rattle.cp_model.specs.Places.{within}
use Rattle.cp_model.specs.declared.state.Fault.{Fault}
use Rattle.cp_model.specs.declared.state.Fault.TheVariants as fault
use Rattle.cp_model_program.specs.Terms as target
use Rattle.cp_model_program.specs.Terms.{Argument, Copy, Reference, Right, Target, Value}
use Rattle.cp_model_program.specs.Programs.{Program}
use Rattle.cp_model_program.specs.Layout.{natural}
use Rattle.cp_model_program.specs.Starts.{block, paste, word}
use Rattle.cp_model_machine.specs.Values.{place_of, value_of}
use Rattle.cp_model_machine.specs.PrivateStates.{Acting, StepContext, PrivateState, fault_in, set_word, view_of}

-- ---- Targets

-- The component that is called: where it begins, whether it is initialised, and the monitor that is
-- entered, or 0.
pub record Called : Type 0 where
  pub component : ℕ
  pub is_set : Bool
  pub gate : ℕ

abbrev pub monitor_start : Program → ℕ → ℕ
monitor_start program m = elim (slice_get program.monitors (m - 1)) [ None ↦ 0 | Some x ↦ x.start ]

abbrev pub monitor_called : Program → StepContext → ℕ → Called
monitor_called program w m = record { component = w.own + monitor_start program m; is_set = w.is_set m; gate = m }

abbrev pub class_called : PrivateState → ℕ → Called
class_called o at = record { component = at; is_set = not (same_integer (word o.words at) (pos 0)); gate = 0 }

-- A right to a class holds the distance of the class from the right itself.
abbrev pub class_right : PrivateState → ℕ → ℕ
class_right o at = natural (pos (o.component + at) +ℤ word o.words (o.component + at))

abbrev pub component_called : Program → StepContext → PrivateState → Target → Called
component_called program w o target.Own = record { component = o.component; is_set = true; gate = 0 }
component_called program w o (target.Class at) = class_called o (o.component + at)
component_called program w o (target.ClassRight at) = class_called o (class_right o at)
component_called program w o (target.Monitor m) = monitor_called program w m
component_called program w o (target.MonitorRight at) = monitor_called program w (natural (word o.words (o.component + at)))

-- ---- Places and numbers as words
--
-- Words have 32 bits, and there are fewer than 2 ^ 31 of them. What doesn't exist is represented by
-- 0.

abbrev pub reference_word : PrivateState → ℕ → ℤ
reference_word o at = if nat_le at (length o.words) then pos at else pos 0

-- The distance from the word `from` to a class that begins at `at`.
abbrev pub distance_word : PrivateState → ℕ → ℕ → ℤ
distance_word o at from =
    if nat_le at (length o.words) && nat_le from (length o.words) then pos at -ℤ pos from else pos 0

abbrev pub monitor_word : ℕ → ℤ
monitor_word m = if nat_lt m 2147483648 then pos m else pos 0

-- A right to the target, as it is stored in the word `to`.
abbrev pub right_word : PrivateState → ℕ → Target → ℤ
right_word o to target.Own = pos 0
right_word o to (target.Class at) = distance_word o (o.component + at) to
right_word o to (target.ClassRight at) = distance_word o (class_right o at) to
right_word o to (target.Monitor m) = monitor_word m
right_word o to (target.MonitorRight at) = word o.words (o.component + at)

-- ---- Arguments

-- The state after arguments are passed, and the fault, if one occurred.
pub record Passing : Type 0 where
  pub own : PrivateState
  pub fault : Option Fault

abbrev pub pass_result : {A : Type 0} → PrivateState → Result A Fault → (A → Passing) → Passing
pass_result o (Ok x) go = go x
pass_result o (Err f) go = record { own = o; fault = Some f }

abbrev pub pass_word : PrivateState → ℕ → ℤ → Passing
pass_word o at n = record { own = set_word o at n; fault = None }

abbrev pub pass_value : PrivateState → ℕ → ℤ → ℤ → ℤ → Passing
pass_value o at low high n = if within low high n then pass_word o at n else record { own = o; fault = Some fault.Range }

abbrev pub pass_copy : PrivateState → ℕ → ℕ → ℕ → Passing
pass_copy o at size from = record { own = record o { words = paste at (block o.words from size) o.words }; fault = None }

-- Passes an argument to a word that counts from `to`. The words from `to` on finally become those
-- of a component or activation that begins at `home`.
abbrev pub pass_one : StepContext → ℕ → ℕ → PrivateState → Argument → Passing
pass_one w to home o (Value at low high e) =
    pass_result o (value_of (view_of w o) e) (λ n. pass_value o (to + at) low high n)
pass_one w to home o (Copy at size from) =
    pass_result o (place_of (view_of w o) from) (λ a. pass_copy o (to + at) size a)
pass_one w to home o (Reference at s) =
    pass_result o (place_of (view_of w o) s) (λ a. pass_word o (to + at) (reference_word o a))
pass_one w to home o (Right at t) = pass_word o (to + at) (right_word o (home + at) t)

abbrev pub unless_fault : Passing → (PrivateState → Passing) → Passing
unless_fault p go = elim p.fault [ None ↦ go p.own | Some f ↦ p ]

abbrev pub pass_all : StepContext → ℕ → ℕ → List Argument → PrivateState → Passing
pass_all w to home [] o = record { own = o; fault = None }
pass_all w to home (x ∷ xs) o = unless_fault (pass_one w to home o x) (pass_all w to home xs)

-- A fault of an argument ends the step. What was passed before it remains after the running
-- activation, where no variables are.
abbrev pub when_passed : Passing → (PrivateState → Acting) → Acting
when_passed p go = elim p.fault [ None ↦ go p.own | Some f ↦ fault_in p.own f ]
