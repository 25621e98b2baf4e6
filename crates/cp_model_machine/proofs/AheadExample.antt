-- What the definition says of a process that counts forever, computed: `cycle x := x + 1 end`. In
-- turns of one step it is quiet after each, and two rounds ahead it has counted once.
use Rattle.std.specs.Prelude.{refl, ℕ, [], ◌∷◌, pos}
use Rattle.cp_model.specs.Abstract.{Add}
use Rattle.cp_model_program.specs.Programs as op
use Rattle.cp_model_program.specs.Programs.{Program}
use Rattle.cp_model_program.specs.Terms as term
use Rattle.cp_model_machine.specs.PrivateStates.{PrivateState, Running}
use Rattle.cp_model_machine.specs.Ahead.{IsAhead, NeedsNoKernel}

abbrev counting : Program
counting = record {
  operations =
      op.Set (term.Rooted (term.Member 0)) (pos 0) (pos 9) (term.Binary Add (term.Item (term.Rooted (term.Member 0))) (term.Number (pos 1))) 1
      ∷ op.Cycle 0 ∷ [];
  units = [];
  monitors = [];
  processes = [];
  shared = 0;
}

abbrev state : (counter n : ℕ) → PrivateState
state counter n = record {
  number = 1;
  activity = Running;
  counter = counter;
  base = 1;
  temp = 0;
  component = 0;
  gate = 0;
  words = pos n ∷ [];
  temps = [];
  frames = [];
  limit = 0;
  output = [];
  input = [];
  consumed = 0;
}

quiet : NeedsNoKernel counting (state 0 0)
quiet = record { next = λ runs. refl; silent = refl }

two_ahead : IsAhead counting 1 1 0 2 (state 0 0) (state 0 1)
two_ahead = (quiet, (record { next = λ runs. refl; silent = refl }, refl))
