-- The first core.
use Rattle.std.specs.Prelude.{List, [], map, refl, suc, zero, ℕ, ◌∷◌, ◌≡◌}
use Rattle.std.proofs.Common.{ap}
use Rattle.cp_model_program.specs.Programs as code
use Rattle.cp_model_program.specs.Programs.{Program}
use Rattle.cp_model_machine.specs.KernelSteps.{Begun, Fresh, Unstarted, stage_of}
use Rattle.cp_model_machine.specs.Machines.{first_part, first_parts, first_stages}
use Rattle.cp_law_cores.specs.Cores.{silent}
use Rattle.cp_law_cores.specs.Laws.{first_core}
use Rattle.cp_law_cores.proofs.Turns.{close_nobody}
use Rattle.cp_law_exploring.specs.Laws.{FirstIsClosed}

begun_fresh : Begun ≡ Fresh → ⊥
begun_fresh e = cc

none_fresh : (xs : List code.Process) (p : ℕ) → stage_of (first_stages xs) p ≡ Fresh → ⊥
none_fresh xs zero e = begun_fresh e
none_fresh [] (suc i) e = begun_fresh e
none_fresh (x ∷ xs) (suc zero) e = begun_fresh e
none_fresh (x ∷ xs) (suc (suc i)) e = on xs i e
  where
    on : (ys : List code.Process) (i : ℕ) → stage_of (map (λ y. Unstarted) ys) (suc i) ≡ Fresh → ⊥
    on [] i e = begun_fresh e
    on (y ∷ ys) zero e = cc
    on (y ∷ ys) (suc i) e = on ys i e

pub first_is_closed : FirstIsClosed
first_is_closed program setup = close_nobody program (first_core program setup) (record { none = none_fresh program.processes })

pub first_silent : (program : Program) (inputs : ℕ → List ℕ) (p : ℕ) (xs : List code.Process) → map silent (first_parts program inputs p xs) ≡ first_parts program inputs p xs
first_silent program inputs p [] = refl
first_silent program inputs p (x ∷ xs) = ap (λ l. first_part program inputs p x ∷ l) (first_silent program inputs (suc p) xs)
