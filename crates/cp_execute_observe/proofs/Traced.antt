-- A traced machine: why its trace ends early, and what is due.
use Rattle.std.proofs.Common.{◌≡◌, List, ℕ, Ok, Option, None, Some, IfSome, inl, inr, sym, subst}
use Rattle.cp_model.specs.Input.{cut}
use Rattle.cp_model.specs.Syntax as s
use Rattle.cp_rounds.specs.declared.finished_machine.FinishedMachine.{FinishedMachine}
use Rattle.cp_frontend.specs.Cutting.{judge_input}
use Rattle.cp_frontend.specs.KnownRefusals.{IsFault, RefusesRun, RefusesText}
use Rattle.cp_frontend.specs.Takings.{TakesFront, TakesInputAt, concern}
use Rattle.cp_frontend.specs.Texts.{IsAccepted}
use Rattle.cp_frontend.specs.declared.refusal.Refusal.{Refusal}
use Rattle.cp_frontend.specs.declared.refusal.Refusal.TheVariants as refusal
use Rattle.cp_execute_observe.specs.Writing.{IsMemoryOrWrite}
use Rattle.cp_execute_observe.specs.Traces.{IsTraced, Traces}
use Rattle.cp_base_config.specs.declared.trace.Tracing.{Tracing}
use Rattle.cp_frontend.proofs.Faults.{memory_fault, write_fault}
use Rattle.cp_frontend.proofs.Takings.{memory_at}
use Rattle.cp_frontend.proofs.TextRefusals.{of_known}

-- ---- Why it ends before

pub fault_is : (e : Refusal) → IsMemoryOrWrite e → IsFault e
fault_is e (inl memory) = memory_fault e memory
fault_is e (inr write) = write_fault e write

pub fault_refused : (text input : Option (List ℕ)) (e : Refusal) → IsMemoryOrWrite e → (e ≡ refusal.Write → ⊥) → IfSome text (λ xs. RefusesRun xs input e)
fault_refused None input e of other = tt
fault_refused (Some xs) input e (inl memory) other = inl (subst (λ (r : Refusal). RefusesText xs r) (sym memory) tt)
fault_refused (Some xs) input e (inr write) other = absurd (other write)

pub fault_input : (old new : Option (List ℕ)) (e : Refusal) → IsMemoryOrWrite e → TakesFront old new → TakesInputAt old new (concern e)
fault_input old new e (inl memory) taken = memory_at old new e memory taken
fault_input old new e (inr write) taken = subst (λ (r : Refusal). TakesInputAt old new (concern r)) (sym write) taken

-- ---- What is due

pub trace_due : (how : Tracing) (machine : FinishedMachine) (text input : Option (List ℕ)) (t : s.Tree) (bytes : List ℕ)
    → IfSome text (λ xs. IsAccepted xs t) → IfSome input (λ ys. bytes ≡ ys) → judge_input bytes ≡ Ok tt → IsTraced how t (cut bytes) machine → Traces how machine text input
trace_due how machine text input t bytes accepted same fit made xs is =
    (t, of_known (λ zs. IsAccepted zs t) text xs accepted is, of_input)
  where
    of_input : (ys : List ℕ) → input ≡ Some ys → (judge_input ys ≡ Ok tt) × IsTraced how t (cut ys) machine
    of_input ys given =
        let known = of_known (λ (bs : List ℕ). bytes ≡ bs) input ys same given in
        (subst (λ (bs : List ℕ). judge_input bs ≡ Ok tt) known fit, subst (λ (bs : List ℕ). IsTraced how t (cut bs) machine) known made)
