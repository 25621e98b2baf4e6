-- `continue`: the running entry routine returns at once, and the queue becomes empty.
use Rattle.std.proofs.Common.{◌≡◌, ℕ, ◌≤◌, ℤ, List, [], ◌∷◌, Option, Some, None, refl, ap, sym, subst, ◌∙◌, arith}
use Rattle.cp_model.specs.CallSteps.{innermost_call}
use Rattle.cp_model.specs.Continuations.{Do, EndBody, EndCall, EndProcess, ForNext, RepeatTest, Task, WhileTest, marked_monitors}
use Rattle.cp_model.specs.Environments.{Environment, Frame}
use Rattle.cp_model.specs.Gates.{resume}
use Rattle.cp_model.specs.States.{State}
use Rattle.cp_model.specs.Stores.{Store}
use Rattle.cp_model_program.specs.TermsFor.{Knowns, nothing_known}
use Rattle.cp_model_machine.specs.PrivateStates as machine
use Rattle.cp_model_machine.specs.PrivateStates.{PrivateState}
use Rattle.cp_model_machine.specs.Addresses.{Ground, activations, in_sight}
use Rattle.cp_model_machine.specs.Remaining.{Remaining, Running}
use Rattle.cp_model_machine.specs.PartOf.{ActivationsMean, DataMeans, PartOf, RunsOn}
use Rattle.cp_model_machine.proofs.Finding.{some_is_not_none}
use Rattle.cp_model_machine.proofs.Stepping.{gate_passed}
use Rattle.cp_model.specs.Parts.{HasBegun, private_status}

-- ---- the routine that runs

-- The end mark of the running routine is the innermost one, and `k` is left to do after it.
pub record Innermost (G : Ground) (temps : List ℤ) (limit : ℕ) (R : Running) (fs : List machine.Frame) (high : ℕ) (k : List Task) : Type 1 where
  pub env : Environment
  pub gate : Option ℕ
  pub rest : List Task
  pub is : innermost_call k ≡ Some (env, gate, rest)
  pub marks : marked_monitors k ≡ marked_monitors (EndCall env gate ∷ rest)
  pub same : (b : ℕ) → activations b fs (EndCall env gate ∷ rest) ≡ activations b fs k
  pub means : (store : Store) (words : List ℤ) (b : ℕ) → ActivationsMean G store words b fs (EndCall env gate ∷ rest) ≡ ActivationsMean G store words b fs k
  pub counter : ℕ
  pub low : ℕ
  pub fits : low ≤ high
  pub left : Remaining G temps limit nothing_known R fs counter low (EndCall env gate ∷ rest)

module _ (G : Ground) (temps : List ℤ) (limit : ℕ) (R : Running) (F : Frame) (runs : R.env.frame ≡ Some F) where
  pub innermost : (K : Knowns) (fs : List machine.Frame) (place low high : ℕ) (k : List Task) → low ≤ high → Remaining G temps limit K R fs place low k → Innermost G temps limit R fs high k
  innermost K fs place low high [] up h = absurd h
  innermost K fs place low high (Do s e ∷ k) up h =
      let I = innermost nothing_known fs h.2.0 h.2.1 high k (omega (arith, up, h.2.2)) h.2.4 in
      record { env = I.env; gate = I.gate; rest = I.rest; is = I.is; marks = I.marks; same = I.same; means = I.means; counter = I.counter; low = I.low; fits = I.fits; left = I.left }
  innermost K fs place low high (WhileTest now e s env ∷ k) up h =
      let I = innermost nothing_known fs h.1.0 h.1.1 high k (omega (arith, up, h.1.2)) h.1.4 in
      record { env = I.env; gate = I.gate; rest = I.rest; is = I.is; marks = I.marks; same = I.same; means = I.means; counter = I.counter; low = I.low; fits = I.fits; left = I.left }
  innermost K fs place low high (RepeatTest now s e env ∷ k) up h =
      let I = innermost nothing_known fs h.1.0 h.1.1 high k (omega (arith, up, h.1.2)) h.1.4 in
      record { env = I.env; gate = I.gate; rest = I.rest; is = I.is; marks = I.marks; same = I.same; means = I.means; counter = I.counter; low = I.low; fits = I.fits; left = I.left }
  innermost K fs place low high (ForNext x down n last s env ∷ k) up h =
      let I = innermost nothing_known fs h.1.0 h.1.1 high k (omega (arith, up, h.1.2)) h.1.4 in
      record { env = I.env; gate = I.gate; rest = I.rest; is = I.is; marks = I.marks; same = I.same; means = I.means; counter = I.counter; low = I.low; fits = I.fits; left = I.left }
  innermost K (f ∷ fs) place low high (EndCall env gate ∷ k) up h =
      record { env = env; gate = gate; rest = k; is = refl; marks = refl; same = λ b. refl; means = λ store words b. refl; counter = place; low = low; fits = up; left = h }
  innermost K (f ∷ fs) place low high (EndBody gate ∷ k) up h = absurd (some_is_not_none F (sym runs ∙ h.0))
  innermost K fs place low high (EndProcess ∷ k) up h = absurd (some_is_not_none F (sym runs ∙ h.0))
  innermost K [] place low high (EndCall env gate ∷ k) up h = absurd h
  innermost K [] place low high (EndBody gate ∷ k) up h = absurd h

-- ---- states that are the same for one process

pub part_same : (G : Ground) (before : List ℕ) (o : PrivateState) (u s : State) → s.store ≡ u.store → s.continuation G.p ≡ u.continuation G.p → s.transcript G.p ≡ u.transcript G.p
    → s.consumed G.p ≡ u.consumed G.p → s.status G.p ≡ u.status G.p → PartOf G u before o → PartOf G s before o
part_same G before o u s store continuation transcript consumed status P = record {
  number = P.number;
  input = P.input;
  consumed = P.consumed ∙ sym consumed;
  transcript = transcript ∙ P.transcript;
  status = ap private_status status ∙ P.status;
  count = P.count;
  data_means = λ begun. subst (λ z. DataMeans G (activations o.base o.frames z) (in_sight G) s.store o.words) (sym continuation)
      (subst (λ z. DataMeans G (activations o.base o.frames (u.continuation G.p)) (in_sight G) z o.words) (sym store) (P.data_means (subst (λ z. HasBegun (private_status z)) status begun)));
  runs_on = λ goes. subst (RunsOn G s.store o) (sym continuation) (subst (λ z. RunsOn G z o (u.continuation G.p)) (sym store) (P.runs_on goes));
}

-- A private state doesn't depend on which process is resumed or on whether a gate is passed on.
pub resumed_part : (G : Ground) (before : List ℕ) (o : PrivateState) (m : ℕ) (r : Option ℕ) (u : State) → PartOf G u before o → PartOf G (resume m r u) before o
resumed_part G before o m None u P = gate_passed G before o m (u.gates m).askers u P
resumed_part G before o m (Some r) u P = gate_passed G before o m (r ∷ (u.gates m).askers) u P
