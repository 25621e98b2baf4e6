-- A machine starts with the inputs of its processes.
use Rattle.std.proofs.Common.{◌≡◌, ◌-◌, ◌≤◌, ℕ, zero, suc, List, length, ap, ◌∙◌, arith}
use Rattle.std.specs.Prelude.{slice_get}
use Rattle.cp_model_program.specs.Programs.{Program}
use Rattle.cp_model.specs.States.{Setup}
use Rattle.cp_rounds.specs.InStates.{HaveInputs}
use Rattle.cp_rounds_handoff.specs.Inputs.{bytes_or_none, input_of}
use Rattle.cp_rounds_handoff.proofs.Lists.{got_at}
use Rattle.cp_frontend.specs.Cutting.{AreInputs, Bytes}

pub input_is : (inputs : ℕ → List ℕ) (n : ℕ) (all : List Bytes) → AreInputs inputs n all → (p : ℕ) → 1 ≤ p → p ≤ n → input_of all p ≡ inputs p
input_is inputs n all are zero first last = absurd (Prim.omega (arith, first))
input_is inputs n all are (suc i) first last =
    let count = are.count in
    let found = got_at all i (Prim.omega (arith, last, count)) in
    let place : suc i - 1 ≡ i = Prim.omega arith in
    ap (λ k. bytes_or_none (slice_get all k)) place ∙ (ap bytes_or_none found.1 ∙ are.each i found.0 found.1)

-- The machine starts with the inputs of the system.
pub have_inputs : (program : Program) (setup : Setup) (all : List Bytes) → AreInputs setup.inputs (length program.processes) all → HaveInputs program all setup
have_inputs program setup all are p first last = input_is setup.inputs (length program.processes) all are p first last
