-- The core of each state that rounds reach.
--
-- The machine of the program makes the rounds, in kernel turns of one step. Its core makes the same
-- acts from the first core on, and the machine is in the state that is reached.
use Rattle.std.specs.Prelude.{List, refl, true, ℕ, ◌≡◌}
use Rattle.std.proofs.Common.{subst}
use Rattle.cp_model.specs.Orders.{replay}
use Rattle.cp_model.specs.Rounds.{Event}
use Rattle.cp_model.specs.Start.{start}
use Rattle.cp_model.specs.States.{Setup, State, processes}
use Rattle.cp_model_program.specs.Programs.{Program}
use Rattle.cp_model_program.specs.IsProgramFor.{IsProgramFor}
use Rattle.cp_model_machine.specs.InState.{IsIn}
use Rattle.cp_model_machine.specs.Machines.{Machine, first_machine}
use Rattle.cp_model_machine.proofs.MachineStarts.{start_is_in}
use Rattle.cp_law_stillness.specs.Stillness.{AreAllOfProcesses}
use Rattle.cp_law_cores.specs.Clocks.{is_timeless}
use Rattle.cp_law_cores.specs.Cores.{Core, core}
use Rattle.cp_law_cores.specs.CoresOfStates.{IsCoreIn, IsCoreOf, with_one}
use Rattle.cp_law_cores.specs.Laws.{ReachedStatesHaveCores, first_core}
use Rattle.cp_law_cores.proofs.Acts.{Act, AreOf, after}
use Rattle.cp_law_cores.proofs.Runs.{acts_of, acts_within, all_ones, all_ones_within, made, made_is_in, made_sees, replay_ones}
use Rattle.cp_law_cores.proofs.Starting.{first_sees}

module _ (program : Program) (setup : Setup) (F : IsProgramFor program setup) (timeless : is_timeless program ≡ true) where
  abbrev first : Machine
  first = first_machine program setup.tick setup.inputs

  inside_first : IsIn first setup (start setup)
  inside_first = start_is_in program setup F

  pub first_in : IsCoreIn program setup (start setup) (first_core program setup)
  first_in = record {
    machine = first;
    program_is = refl;
    awake = (first_sees program setup.inputs setup.tick timeless).timeless.awake;
    inside = inside_first;
    is = refl;
  }

  module _ (rounds : List (ℕ × List Event)) (within : AreAllOfProcesses setup rounds) where
    abbrev ones : List (List Event)
    ones = all_ones rounds

    abbrev pub acts : List Act
    acts = acts_of ones

    abbrev pub last_core : Core
    last_core = after program (first_core program setup) acts

    ones_within : AreAllOfProcesses setup (with_one ones)
    ones_within = all_ones_within setup rounds within

    pub acts_are_of : AreOf (processes setup) acts
    acts_are_of = acts_within setup ones ones_within

    pub last_in : IsCoreIn program setup (replay setup (start setup) rounds) last_core
    last_in =
        let sees = made_sees program setup ones first (core first) ones_within (first_sees program setup.inputs setup.tick timeless) in
        subst (λ (z : State). IsCoreIn program setup z last_core) (replay_ones setup rounds (start setup))
        (record {
          machine = made setup first ones;
          program_is = sees.timeless.program_is;
          awake = sees.timeless.awake;
          inside = made_is_in setup ones first (start setup) ones_within inside_first;
          is = sees.sees;
        })

pub reached_states_have_cores : ReachedStatesHaveCores
reached_states_have_cores program setup rounds F timeless within = (last_core program setup F timeless rounds within, last_in program setup F timeless rounds within)

-- `IsCoreIn` says more than `IsCoreOf`.
pub as_core_of : (program : Program) (setup : Setup) (s : State) (c : Core) → IsCoreIn program setup s c → IsCoreOf setup s c
as_core_of program setup s c h = record { machine = h.machine; inside = h.inside; is = h.is }
