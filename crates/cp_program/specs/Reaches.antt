-- What evaluation reads, as the view of the definitions, and how the code represents places that
-- are too large.
use Rattle.std.specs.Prelude.{ℕ, ◌++◌, ◌-◌, ◌^◌, min, List, [], ◌∷◌, Result, Ok, Err, ℤ, ◌+◌, ◌*◌}
use Rattle.cp_model.specs.declared.state.Fault.{Fault}
use Rattle.cp_model.specs.declared.state.Fault.TheVariants as fault
use Rattle.cp_model.specs.Places.{within}
use Rattle.cp_model_program.specs.Functions.{unless}
use Rattle.cp_model_program.specs.Layout.{distance}
use Rattle.cp_model_program.specs.Starts.{word}
use Rattle.cp_model_machine.specs.Values.{View, apply, bind, root_place, value_of}
use Rattle.cp_program.specs.declared.reach.Memory.{Memory}
use Rattle.cp_program.specs.declared.reach.Reach.{Reach}
use Rattle.cp_program.specs.View.{After, Before, PlainApplication, PlainIndex}

abbrev pub view_with : Memory → List ℤ → ℕ → View
view_with m shared clock = record {
  words = m.words.items ++ shared;
  temps = m.temps.items;
  base = m.base;
  temp = m.temp;
  component = m.component;
  clock = clock;
}

abbrev pub view_of : Reach → View
view_of r = view_with r.memory.now r.shared.now r.clock

-- A place that doesn't fit in 64 bits is represented by the greatest number that does.
abbrev pub cap_place : ℕ → ℕ
cap_place n = min n (2 ^ 64 - 1)

abbrev pub capped_result : Result ℕ Fault → Result ℕ Fault
capped_result (Ok n) = Ok (cap_place n)
capped_result (Err f) = Err f

-- The value of an operator, if the chain before it has the value `x`.
abbrev pub apply_operation : View → ℤ → PlainApplication → Result ℤ Fault
apply_operation v x (After o right) = bind (value_of v right) (λ y. apply o x y)
apply_operation v x (Before o left) = apply o (word v.words (root_place v left)) x

-- The value of a chain whose first operands have the value `x`.
abbrev pub chain_value : View → ℤ → List PlainApplication → Result ℤ Fault
chain_value v x [] = Ok x
chain_value v x (o ∷ os) = bind (apply_operation v x o) (λ z. chain_value v z os)

-- The distance in words to the part that an index of the value `n` selects.
abbrev pub offset_of : PlainIndex → ℤ → Result ℕ Fault
offset_of i n = unless (within i.low i.high n) fault.Index (distance i.low n * i.size + i.plus)

-- The distance in words to the part that an index selects.
abbrev pub index_offset : View → PlainIndex → Result ℕ Fault
index_offset v i = bind (value_of v i.value) (offset_of i)

-- The place to which the indices lead, starting from the place `at`.
abbrev pub elements_place : View → ℕ → List PlainIndex → Result ℕ Fault
elements_place v at [] = Ok at
elements_place v at (i ∷ is) = bind (index_offset v i) (λ far. elements_place v (at + far) is)
