-- What each process of a text reads, and which bytes it can't read.
use Rattle.std.specs.Prelude.{◌&&◌, ℕ, suc, Bool, not, List, [], ◌∷◌, Option, None, Some, if◌then◌else◌, nat_eq, nat_le}
use Rattle.cp_model.specs.Input.{cut}
use Rattle.cp_frontend.specs.declared.inputs.ProcessInput.{ProcessInput}
use Rattle.cp_frontend.specs.declared.inputs.ProcessInputs.{ProcessInputs}
use Rattle.cp_frontend.specs.declared.inputs.ProcessInputs.TheVariants as inputs

-- The bytes of the last of these inputs that has the number of a process, or `found` if none has it.
abbrev pub given : List ℕ → List ProcessInput → ℕ → List ℕ
given found [] p = found
given found (i ∷ is) p = given (if nat_eq i.process p then i.bytes.items else found) is p

-- What each process reads, by its number.
abbrev pub inputs_of : ProcessInputs → ℕ → List ℕ
inputs_of (inputs.Joined all) = cut all.items
inputs_of (inputs.Named named) = given [] named.items

-- A byte of an input.
abbrev pub is_input : ℕ → Bool
is_input b = nat_le b 127 && not (nat_eq b 28)

-- The place of the first byte that can't be in an input. It is counted from `at`.
abbrev pub misplaced_from : ℕ → List ℕ → Option ℕ
misplaced_from at [] = None
misplaced_from at (b ∷ bs) = if is_input b then misplaced_from (suc at) bs else Some at
