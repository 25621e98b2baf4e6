-- A process at its start, in every text that its program represents.
use Rattle.std.proofs.Common.{◌≡◌, ◌≤◌, ◌-◌, ℕ, List, [], Result, Ok, Err, IfOk, length, subst, sym, arith}
use Rattle.std.specs.Prelude.{slice_get, Some}
use Rattle.cp_model.specs.States.{process_count}
use Rattle.cp_model.specs.Start.{start}
use Rattle.cp_model_program.specs.Programs as code
use Rattle.cp_model_machine.specs.Beginning.{Begins}
use Rattle.cp_model_machine.specs.KernelSteps.{Kernel}
use Rattle.cp_model_machine.specs.Laws.{StartIsPart, ground_of}
use Rattle.cp_model_machine.specs.Machines.{first_part}
use Rattle.cp_model_machine.specs.PartOf.{PartOf}
use Rattle.cp_model_machine.specs.PrivateStates.{PrivateState}
use Rattle.cp_program.specs.declared.program.Program.{Program}
use Rattle.cp_program.specs.View as view
use Rattle.cp_private.specs.Promises.{IsAtStart}
use Rattle.cp_private.specs.States.{private_of}
use Rattle.cp_private.specs.declared.private.Private.{Private}

pub is_at_start : {E : Type 0} (program : Program) (p : ℕ) (r : Result Private E) → StartIsPart
    → 1 ≤ p → p ≤ length (view.program program).processes
    → IfOk r (λ x. (input : List ℕ) (row : code.Process) → slice_get (view.program program).processes (p - 1) ≡ Some row
    → private_of x input ≡ first_part (view.program program) (λ q. input) p row)
    → IfOk r (IsAtStart program p)
is_at_start program p (Err e) law first last made = tt
is_at_start program p (Ok x) law first last made = λ setup F.
    let few : p ≤ process_count setup = omega (arith, last, F.process_rows) in
    let P = F.processes p first few in
    subst (λ (o : PrivateState).
    PartOf (ground_of (view.program program) setup F p (length o.words)) (start setup) [] o
    × ((k : Kernel) → 2 ≤ p → Begins (ground_of (view.program program) setup F p (length o.words)) (start setup) k o))
    (sym (made (setup.inputs p) P.row P.there))
    (law (view.program program) setup F p P.row first few P.there)
