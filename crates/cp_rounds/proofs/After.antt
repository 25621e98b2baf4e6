-- Rounds of a machine after other rounds.
use Rattle.std.specs.Prelude.{refl, ℕ, ◌+◌}
use Rattle.std.proofs.Common.{sym, ◌∙◌, arith}
use Rattle.cp_model.specs.States.{numbers_from}
use Rattle.cp_model_machine.specs.Machines.{phased_rounds}
use Rattle.cp_rounds.specs.Views.{IsAfter, KeepsText, machine_of, processes_of}
use Rattle.cp_rounds.specs.declared.machine.Machine.{Machine}
use Rattle.cp_rounds.proofs.Rounds.{rounds_after}

pub text_kept : (a : Machine) → KeepsText a a
text_kept a = record { config = refl; tables = refl }

pub text_kept_more : (a b c : Machine) → KeepsText a b → KeepsText b c → KeepsText a c
text_kept_more a b c first then = record { config = then.config ∙ first.config; tables = then.tables ∙ first.tables }

pub after_none : (t : ℕ) (a : Machine) → IsAfter t 0 a a
after_none t a = record { made = refl; processes = refl; rounds = Prim.omega arith; text = text_kept a }

-- First m rounds, and then n more.
pub after_more : (t m n : ℕ) (a b c : Machine) → IsAfter t m a b → IsAfter t n b c → IsAfter t (m + n) a c
after_more t m n a b c first then = record {
  made = then.made
      ∙ ((λ i. phased_rounds t (numbers_from 1 (first.processes i)) n (first.made i)) ∙ sym (rounds_after t m n (numbers_from 1 (processes_of a)) (machine_of a)));
  processes = then.processes ∙ first.processes;
  rounds = let x = first.rounds in let y = then.rounds in Prim.omega (arith, x, y);
  text = text_kept_more a b c first.text then.text;
}
