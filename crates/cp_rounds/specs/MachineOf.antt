-- The code's machine as the plain data of the definitions.
use Rattle.std.specs.Prelude.{ℕ, List}
use Rattle.cp_kernel.specs.KernelOf.{kernel_of, transcripts_of}
use Rattle.cp_kernel.specs.Turns.{parts_of}
use Rattle.cp_kernel.specs.declared.kernel.Kernel.{Kernel}
use Rattle.cp_private.specs.declared.private.Private.{Private}
use Rattle.cp_model_machine.specs.Machines as plain
use Rattle.cp_program.specs.View as view
use Rattle.cp_rounds_handoff.specs.Inputs.{input_of}
use Rattle.cp_rounds_handoff.specs.declared.config.MachineConfig.{MachineConfig}

-- The machine with this configuration after `rounds` rounds, with these private states by number,
-- from 1.
abbrev pub machine_with : MachineConfig → ℕ → List Private → Kernel → plain.Machine
machine_with g rounds xs k = record {
  program = view.program g.program;
  tick = g.tick.rounds;
  kernel = kernel_of k;
  parts = parts_of (input_of g.inputs.items) 1 xs;
  transcripts = transcripts_of k;
  rounds = rounds;
}
