-- A core of a state is also one of the state with any other count of rounds.
use Rattle.std.specs.Prelude.{refl, ℕ}
use Rattle.cp_model.specs.States.{Setup, State}
use Rattle.cp_model_program.specs.Programs.{Program}
use Rattle.cp_model_machine.specs.InState.{IsIn, PartRepresents}
use Rattle.cp_model_machine.specs.Machines.{Machine}
use Rattle.cp_model_machine.specs.PrivateStates.{PrivateState}
use Rattle.cp_law_calls.specs.Ways.{IsGood}
use Rattle.cp_law_calls.proofs.Good.{count_good}
use Rattle.cp_law_cores.specs.Cores.{Core}
use Rattle.cp_law_cores.specs.CoresOfStates.{IsCoreIn}

module _ (m : Machine) (setup : Setup) (s : State) (n : ℕ) (I : IsIn m setup s) where
  part_again : (p : ℕ) (o : PrivateState) → PartRepresents m setup I.represents s p o → PartRepresents (record m { rounds = n }) setup I.represents (record s { rounds = n }) p o
  part_again p o h = record {
    part = record {
      number = h.part.number;
      input = h.part.input;
      consumed = h.part.consumed;
      transcript = h.part.transcript;
      status = h.part.status;
      count = h.part.count;
      data_means = h.part.data_means;
      runs_on = h.part.runs_on;
    };
    begins = λ e. let b = h.begins e in record { activity_is = b.activity_is; at_start = b.at_start; unstarted = b.unstarted; fresh = b.fresh };
  }

  recounted : IsGood setup s → IsIn (record m { rounds = n }) setup (record s { rounds = n })
  recounted g = record {
    represents = I.represents;
    tick = I.tick;
    rounds = refl;
    part_count = I.part_count;
    transcript_count = I.transcript_count;
    parts = λ p o one there. part_again p o (I.parts p o one there);
    kernel = record {
      word_count = I.kernel.word_count;
      gates_represent = record {
        gate_count = I.kernel.gates_represent.gate_count;
        stage_count = I.kernel.gates_represent.stage_count;
        gates = I.kernel.gates_represent.gates;
        stages = I.kernel.gates_represent.stages;
        askers = I.kernel.gates_represent.askers;
      };
      data_means = I.kernel.data_means;
    };
    order = (count_good setup s n g).in_order;
  }

pub recount : (program : Program) (setup : Setup) (s : State) (c : Core) (n : ℕ) → IsGood setup s → IsCoreIn program setup s c → IsCoreIn program setup (record s { rounds = n }) c
recount program setup s c n g h = record {
  machine = record h.machine { rounds = n };
  program_is = h.program_is;
  awake = h.awake;
  inside = recounted h.machine setup s n h.inside g;
  is = h.is;
}
