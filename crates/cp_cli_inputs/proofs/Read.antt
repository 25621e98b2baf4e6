-- Inputs that were read, one after another.
use Rattle.std.proofs.Common.{◌≡◌, ◌≤◌, ℕ, List, [], ◌∷◌, ◌++◌, Option, None, Some, IfSome, length}
use Rattle.cp_model.specs.Abstract.{Name}
use Rattle.cp_frontend.specs.Takings.{front}
use Rattle.cp_frontend.proofs.TextRefusals.{whole}
use Rattle.cp_cli_inputs.specs.Readings.{AreRead, IsRead}
use Rattle.cp_frontend.specs.declared.inputs.ProcessInput.{ProcessInput}
use Rattle.cp_cli_inputs.specs.declared.reading.InputOf.{InputOf}

pub read_more : {R : Type 0} (remaining : R → Option (List ℕ)) (processes : List Name) (os : List (InputOf R)) (is : List ProcessInput) (o : InputOf R) (i : ProcessInput)
    → AreRead remaining processes os is → IsRead remaining processes o i → AreRead remaining processes (os ++ o ∷ []) (is ++ i ∷ [])
read_more remaining processes [] [] o i are one = (one, tt)
read_more remaining processes (p ∷ os) (j ∷ is) o i are one = (are.0, read_more remaining processes os is o i are.1 one)
read_more remaining processes [] (j ∷ is) o i are one = absurd are
read_more remaining processes (p ∷ os) [] o i are one = absurd are

-- Bytes within the limit are all that the reader had.
pub all_read : (known : Option (List ℕ)) (bytes : List ℕ) → length bytes ≤ 1048576 → IfSome known (λ xs. bytes ≡ front xs) → IfSome known (λ xs. bytes ≡ xs)
all_read None bytes within is = tt
all_read (Some xs) bytes within is = whole bytes xs is within
