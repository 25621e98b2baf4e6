-- Rounds that were made, and rounds that were undone.
use Rattle.std.proofs.Common.{◌≡◌, ℕ, length, ap, sym, ◌∙◌, arith}
use Rattle.cp_model.specs.States.{numbers_from}
use Rattle.cp_model_machine.specs.Machines as plain
use Rattle.cp_rounds_handoff.specs.Inputs.{input_of}
use Rattle.cp_rounds.specs.Checkpoints.{IsCopyOf}
use Rattle.cp_rounds.specs.MachineOf.{machine_with}
use Rattle.cp_rounds.specs.Views.{IsAfter, KeepsText, machine_of, processes_of}
use Rattle.cp_rounds.specs.declared.checkpoint.Checkpoint.{Checkpoint}
use Rattle.cp_rounds.specs.declared.machine.Machine.{Machine}
use Rattle.cp_rounds.specs.declared.parts.Parts.{Parts}
use Rattle.cp_rounds.proofs.After.{text_kept_more}
use Rattle.cp_rounds.proofs.AheadPasses.{has_made}
use Rattle.cp_rounds.proofs.Made.{parts_count}

pub is_after : (t n : ℕ) (old new : Machine)
    → machine_of new ≡ plain.phased_rounds t (numbers_from 1 (processes_of old)) n (machine_of old) → processes_of new ≡ processes_of old
    → KeepsText old new → IsAfter t n old new
is_after t n old new made processes text =
    let all = parts_count (input_of old.config.inputs.items) 1 old.parts.privates.items in
    record {
      made = made;
      processes = processes;
      rounds = ap (λ (m : plain.Machine). m.rounds) made ∙ (has_made t (processes_of old) n (machine_of old) (sym all)).rounds;
      text = text;
    }

-- A machine that is put back as it was.
pub put_back : (t : ℕ) (old mid new : Machine) (copy : Checkpoint) → IsCopyOf old copy → KeepsText old mid → new.parts ≡ copy.parts
    → new.rounds ≡ copy.rounds → KeepsText mid new → IsAfter t 0 old new
put_back t old mid new copy is first parts rounds then =
    let text = text_kept_more old mid new first then in
    let count = is.rounds in
    record {
      made = (λ i. machine_with (text.config i) (rounds i) (parts i).privates.items (parts i).kernel) ∙ is.machine;
      processes = ap (λ (p : Parts). length p.privates.items) parts ∙ is.processes;
      rounds = Prim.omega (arith, rounds, count);
      text = text;
    }
