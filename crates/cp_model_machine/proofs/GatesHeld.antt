-- A process in a monitor holds its gate in the machine too, because there is no monitor 0.
use Rattle.std.proofs.Common.{◌≡◌, ℕ, zero, suc, ◌≤◌, ℤ, List, [], ◌∷◌, true, Some, None, refl, ap, sym, subst, ◌∙◌, arith}
use Rattle.cp_model.specs.Continuations.{Do, EndBody, EndCall, EndProcess, ForNext, RepeatTest, Task, WhileTest, marked_monitors}
use Rattle.cp_model.specs.Stores.{Store}
use Rattle.cp_model_program.specs.TermsFor.{Knowns, nothing_known}
use Rattle.cp_model_machine.specs.PrivateStates as machine
use Rattle.cp_model_machine.specs.PrivateStates.{PrivateState}
use Rattle.cp_model_machine.specs.Steps as steps
use Rattle.cp_model_machine.specs.Addresses.{Ground}
use Rattle.cp_model_machine.specs.Remaining.{IsGate, Remaining, Running, innermost_gate, kept_below}
use Rattle.cp_model_machine.specs.PartOf.{RunsOn}
use Rattle.cp_model_machine.proofs.Finding.{cons_is_not_nil, some_is_not_none}

-- There is no monitor 0.
pub monitor_numbered : (G : Ground) (m : ℕ) → IsGate G (Some m) → 1 ≤ m
monitor_numbered G zero h = absurd (some_is_not_none h.0 (sym h.1))
monitor_numbered G (suc m) h = omega arith

-- What is left to do names only monitors of the text.
pub gates_there : (G : Ground) (temps : List ℤ) (limit : ℕ) (K : Knowns) (R : Running) (fs : List machine.Frame) (place low : ℕ) (k : List Task) (m : ℕ) (ms : List ℕ)
    → Remaining G temps limit K R fs place low k → marked_monitors k ≡ m ∷ ms → IsGate G (Some m)
gates_there G temps limit K R fs place low [] m ms h e = absurd h
gates_there G temps limit K R fs place low (Do s env ∷ k) m ms h e = gates_there G temps limit nothing_known R fs h.2.0 h.2.1 k m ms h.2.4 e
gates_there G temps limit K R fs place low (WhileTest now x s env ∷ k) m ms h e = gates_there G temps limit nothing_known R fs h.1.0 h.1.1 k m ms h.1.4 e
gates_there G temps limit K R fs place low (RepeatTest now s x env ∷ k) m ms h e = gates_there G temps limit nothing_known R fs h.1.0 h.1.1 k m ms h.1.4 e
gates_there G temps limit K R fs place low (ForNext x down n last s env ∷ k) m ms h e = gates_there G temps limit nothing_known R fs h.1.0 h.1.1 k m ms h.1.4 e
gates_there G temps limit K R (f ∷ fs) place low (EndCall env None ∷ k) m ms h e =
    let c = h.3 in gates_there G temps limit (kept_below c.2 c.3 temps c.0.temp) c.0 fs c.1 c.2 k m ms c.7 e
gates_there G temps limit K R (f ∷ fs) place low (EndCall env (Some n) ∷ k) m ms h e = subst (λ z. IsGate G (Some z)) (ap innermost_gate e) h.2.2
gates_there G temps limit K R (f ∷ fs) place low (EndBody None ∷ k) m ms h e =
    let c = h.3 in gates_there G temps limit nothing_known c.0 fs f.counter c.1 k m ms c.4 e
gates_there G temps limit K R (f ∷ fs) place low (EndBody (Some n) ∷ k) m ms h e = subst (λ z. IsGate G (Some z)) (ap innermost_gate e) h.2.2
gates_there G temps limit K R fs place low (EndProcess ∷ k) m ms h e = absurd (cons_is_not_nil m ms (sym e ∙ ap marked_monitors h.1))
gates_there G temps limit K R [] place low (EndCall env gate ∷ k) m ms h e = absurd h
gates_there G temps limit K R [] place low (EndBody gate ∷ k) m ms h e = absurd h

pub is_held_at_least : (g : ℕ) → 1 ≤ g → steps.is_held g ≡ true
is_held_at_least zero h = absurd (omega (arith, h))
is_held_at_least (suc g) h = refl

pub gate_is_held : (G : Ground) (store : Store) (o : PrivateState) (k : List Task) (m : ℕ) (ms : List ℕ) → RunsOn G store o k → marked_monitors k ≡ m ∷ ms → steps.is_held o.gate ≡ true
gate_is_held G store o k m ms R marks =
    is_held_at_least o.gate
    (subst (λ z. 1 ≤ z) (sym (R.gate ∙ ap innermost_gate marks))
    (monitor_numbered G m (gates_there G o.temps o.limit _ R.running o.frames o.counter R.running.unit.temps k m ms R.left marks)))
