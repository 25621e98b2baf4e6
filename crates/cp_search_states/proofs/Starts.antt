-- The first state.
use Rattle.std.specs.Prelude.{◌≡◌, ◌+◌, refl, ℕ, suc, List, [], ◌∷◌, length, Some, slice_get}
use Rattle.std.proofs.Common.{◌∙◌, ap, arith}
use Rattle.cp_model_program.specs.Programs as code
use Rattle.cp_model_program.specs.Programs.{Program}
use Rattle.cp_model_machine.specs.Machines.{first_part, first_parts}
use Rattle.cp_private.specs.States.{private_of}
use Rattle.cp_private.specs.declared.private.Private.{Private}
use Rattle.cp_kernel.specs.Turns.{parts_of}
use Rattle.cp_search_states.specs.Verdicts.{AreFirst}

from : (program : Program) (inputs : ℕ → List ℕ) (p : ℕ) (rows : List code.Process) (xs : List Private) → length xs ≡ length rows
    → ((i : ℕ) (x : Private) (row : code.Process) → slice_get xs i ≡ Some x → slice_get rows i ≡ Some row
    → (input : List ℕ) → private_of x input ≡ first_part program (λ q. input) (p + i) row)
    → parts_of inputs p xs ≡ first_parts program inputs p rows
from program inputs p [] [] n each = refl
from program inputs p [] (x ∷ xs) n each = absurd (omega (arith, n))
from program inputs p (row ∷ rows) [] n each = absurd (omega (arith, n))
from program inputs p (row ∷ rows) (x ∷ xs) n each =
    let at : p + 0 ≡ p = omega arith in
    let first : private_of x (inputs p) ≡ first_part program inputs p row =
    each 0 x row refl refl (inputs p) ∙ ap (λ q. first_part program (λ r. inputs p) q row) at in
    let rest = from program inputs (suc p) rows xs (omega (arith, n))
    (λ i y r e f input. let next : p + suc i ≡ suc p + i = omega arith in each (suc i) y r e f input ∙ ap (λ q. first_part program (λ z. input) q r) next) in
    λ j. first j ∷ rest j

pub first_parts_are : (program : Program) (inputs : ℕ → List ℕ) (xs : List Private) → length xs ≡ length program.processes → AreFirst program xs
    → parts_of inputs 1 xs ≡ first_parts program inputs 1 program.processes
first_parts_are program inputs xs n first =
    from program inputs 1 program.processes xs n
    (λ i x row e f input. let next : suc i ≡ 1 + i = omega arith in first i x row e f input ∙ ap (λ q. first_part program (λ z. input) q row) next)
