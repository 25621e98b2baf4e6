-- In the first machine nobody waits.
use Rattle.std.specs.Prelude.{List, [], false, refl, suc, true, zero, ℕ, ◌∷◌, ◌≡◌}
use Rattle.cp_model_program.specs.Programs as code
use Rattle.cp_model_program.specs.Programs.{Program}
use Rattle.cp_model_machine.specs.Machines.{first_activity, first_machine, first_parts}
use Rattle.cp_law_cores.specs.Clocks.{is_timeless}
use Rattle.cp_law_cores.specs.Cores.{core}
use Rattle.cp_law_cores.proofs.Seen.{Sees}
use Rattle.cp_law_cores.specs.CoresOfStates.{AreAwake, waits}

module _ (program : Program) (inputs : ℕ → List ℕ) where
  first_awake : (p : ℕ) → waits (first_activity p) ≡ false
  first_awake zero = refl
  first_awake (suc zero) = refl
  first_awake (suc (suc p)) = refl

  parts_awake : (p : ℕ) (xs : List code.Process) → AreAwake (first_parts program inputs p xs)
  parts_awake p [] = tt
  parts_awake p (x ∷ xs) = (first_awake p, parts_awake (suc p) xs)

  pub first_sees : (tick : ℕ) → is_timeless program ≡ true
      → Sees program (first_machine program tick inputs) (core (first_machine program tick inputs))
  first_sees tick h = record {
    timeless = record { program_is = refl; timeless = h; awake = parts_awake 1 program.processes };
    sees = refl;
  }
