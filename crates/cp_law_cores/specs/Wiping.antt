-- Wiping dead words: what a callee leaves behind, and nothing reads again.
--
-- If a process runs in its body, its words after its component are dead. If it calls a procedure there, and
-- no argument holds the value of a call, its temps after those that the call keeps are dead, too.
use Rattle.std.specs.Prelude.{Bool, List, Option, Some, [], false, if◌then◌else◌, map, pos, suc, true, zero, ℕ, ℤ, ◌+◌, ◌∷◌}
use Rattle.cp_model_program.specs.Programs as op
use Rattle.cp_model_program.specs.Programs.{Operation, Program}
use Rattle.cp_model_program.specs.Terms.{Argument, Binary, Copy, Element, Empty, Item, Made, Negative, Not, Number, Realtime, Reference, Right, Rooted, PlaceExpression, Standard, Term, Value}
use Rattle.cp_model_machine.specs.PrivateStates.{Activity, PrivateState, Running}
use Rattle.cp_model_machine.specs.Steps.{operation_of}
use Rattle.cp_law_cores.specs.Cores.{Core}

-- ---- Terms without values of calls

abbrev mutual
  pub term_is_free : Term → Bool
  term_is_free (Number n) = true
  term_is_free (Made t) = false
  term_is_free (Item s) = place_expression_is_free s
  term_is_free (Not e) = term_is_free e
  term_is_free (Negative e) = term_is_free e
  term_is_free (Binary o a b) = if term_is_free a then term_is_free b else false
  term_is_free (Standard f e) = term_is_free e
  term_is_free (Empty s) = place_expression_is_free s
  term_is_free Realtime = true

  pub place_expression_is_free : PlaceExpression → Bool
  place_expression_is_free (Rooted r) = true
  place_expression_is_free (Element s low high size plus e) = if place_expression_is_free s then term_is_free e else false

abbrev pub argument_is_free : Argument → Bool
argument_is_free (Value at low high e) = term_is_free e
argument_is_free (Copy at size from) = place_expression_is_free from
argument_is_free (Reference at to) = place_expression_is_free to
argument_is_free (Right at t) = true

abbrev pub arguments_are_free : List Argument → Bool
arguments_are_free [] = true
arguments_are_free (x ∷ xs) = if argument_is_free x then arguments_are_free xs else false

-- ---- Wiping

-- The first `n` stay.
abbrev pub cleared : ℕ → List ℤ → List ℤ
cleared n [] = []
cleared zero (x ∷ xs) = pos 0 ∷ cleared zero xs
cleared (suc n) (x ∷ xs) = x ∷ cleared n xs

abbrev pub temps_at : PrivateState → Option Operation → List ℤ
temps_at o (Some (op.Procedure call next)) = if arguments_are_free call.arguments then cleared (o.temp + call.temps) o.temps else o.temps
temps_at o _ = o.temps

abbrev pub wiped_body : PrivateState → Option Operation → PrivateState
wiped_body o x = record o { words = cleared o.base o.words; temps = temps_at o x }

abbrev pub wiped_in : Program → PrivateState → Activity → PrivateState
wiped_in program o Running = elim o.frames [ [] ↦ wiped_body o (operation_of program o) | f ∷ fs ↦ o ]
wiped_in program o _ = o

abbrev pub wiped : Program → PrivateState → PrivateState
wiped program o = wiped_in program o o.activity

abbrev pub wiped_core : Program → Core → Core
wiped_core program c = record c { parts = map (wiped program) c.parts }
