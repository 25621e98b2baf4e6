-- A step of a process that holds no gate is a private step in both the meaning and the machine, or
-- a kernel step in both.
use Rattle.std.proofs.Common.{inl, ◌≡◌, refl, ℕ, List, [], ◌∷◌, Bool, true, false, Some, ap, sym, subst, ◌∙◌}
use Rattle.std.specs.Prelude.{◌||◌, if◌then◌else◌, not}
use Rattle.cp_model.specs.Actions.{Action, action, is_kernel_action}
use Rattle.cp_model.specs.Configurations.{Ready}
use Rattle.cp_model.specs.Continuations.{Task, marked_monitors}
use Rattle.cp_model.specs.Operators.{realtime}
use Rattle.cp_model.specs.States.{Setup, State, configuration, context}
use Rattle.cp_model.specs.Step.{take_action}
use Rattle.cp_model.specs.Turns.{Kernel, Private, after_step, if_private, kind, kind_of, private_step}
use Rattle.cp_model_program.specs.Programs.{Operation}
use Rattle.cp_model_program.specs.Sites.{operation_at}
use Rattle.cp_model_machine.specs.PrivateStates as machine
use Rattle.cp_model_machine.specs.PrivateStates.{PrivateState}
use Rattle.cp_model_machine.specs.Steps as steps
use Rattle.cp_model_machine.specs.Steps.{act, act_on, alone}
use Rattle.cp_model_machine.specs.Addresses.{Ground}
use Rattle.cp_model_machine.specs.PartOf.{PartOf}
use Rattle.cp_model_machine.proofs.Stepping.{Stepped, acted, clock_of}

-- ---- the two steps

-- The meaning's step of a ready process that holds no gate.
pub meaning_steps : (setup : Setup) (s : State) (p : ℕ) (k : List Task) (x : Action) → s.continuation p ≡ k → s.status p ≡ Ready → marked_monitors k ≡ []
    → action k ≡ x → is_kernel_action x ≡ false
    → private_step setup s p ≡ after_step s p (take_action (context setup s p) (configuration s p) x)
meaning_steps setup s p k x left ready marks acts own =
    (λ i. if_private (kind_is i) (after_step s p (take_action (context setup s p) (configuration s p) (action (left i)))) s)
    ∙ ap (λ y. after_step s p (take_action (context setup s p) (configuration s p) y)) acts
  where
    kind_is : kind s p ≡ Private
    kind_is =
        (λ i. kind_of (ready i) (left i))
        ∙ ((λ i. if (elim (marks i) as (λ x. Bool) [ [] ↦ false | m ∷ ms ↦ true ]) || is_kernel_action (acts i) then Kernel else Private)
        ∙ ap (λ b. if b then Kernel else Private) own)

-- The machine's step of a private operation.
pub machine_steps : (G : Ground) (clock : ℕ) (o : PrivateState) (x : Operation) → o.activity ≡ machine.Running → o.gate ≡ 0
    → operation_at G.program o.counter ≡ Some x → steps.is_kernel_operation x ≡ false
    → steps.private_step G.program clock o ≡ (act G.program (alone clock o) o x).0
machine_steps G clock o x running gate there own =
    (λ i. if machine.is_running (running i) then (if steps.is_private o (there i) then (act_on G.program (alone clock o) o (there i)).0 else o) else o)
    ∙ ((λ i. if (if steps.is_held (gate i) then false else not (steps.is_kernel_operation x)) then (act G.program (alone clock o) o x).0 else o)
    ∙ ap (λ b. if not b then (act G.program (alone clock o) o x).0 else o) own)

-- ---- both

-- The private state after the machine's private step is that of the process after the meaning's.
abbrev pub StepsAlone : Ground → State → List ℕ → PrivateState → Type 0
StepsAlone G s before o =
    PartOf G (private_step G.setup s G.p) before (steps.private_step G.program (realtime (clock_of G s)) o)

pub steps_alone : (G : Ground) (s : State) (before : List ℕ) (o : PrivateState) → PartOf G s before o → s.status G.p ≡ Ready → marked_monitors (s.continuation G.p) ≡ []
    → o.activity ≡ machine.Running → o.gate ≡ 0 → Stepped G s (alone (realtime (clock_of G s)) o) before o → StepsAlone G s before o
steps_alone G s before o part ready marks running gate S = by (steps.is_kernel_operation S.operation) refl
  where
    by : (b : Bool) → steps.is_kernel_operation S.operation ≡ b → StepsAlone G s before o
    by false own =
        subst (λ (u : State). PartOf G u before (steps.private_step G.program (realtime (clock_of G s)) o))
        (sym (meaning_steps G.setup s G.p (s.continuation G.p) (action (s.continuation G.p)) refl ready marks refl (S.same_kind ∙ own)))
        (subst (PartOf G (acted G s) before) (sym (machine_steps G (realtime (clock_of G s)) o S.operation running gate S.there own)) (S.part (inl own)))
    by true own =
        subst (λ (u : State). PartOf G u before (steps.private_step G.program (realtime (clock_of G s)) o)) (sym meaning_rests)
        (subst (PartOf G s before) (sym machine_rests) part)
      where
        meaning_rests : private_step G.setup s G.p ≡ s
        meaning_rests =
            ap (λ z. if_private z (acted G s) s)
            ((λ z. kind_of (ready z) (s.continuation G.p))
            ∙ ((λ z. if (elim (marks z) as (λ x. Bool) [ [] ↦ false | m ∷ ms ↦ true ]) || is_kernel_action (action (s.continuation G.p)) then Kernel else Private)
            ∙ ap (λ b. if b then Kernel else Private) (S.same_kind ∙ own)))

        machine_rests : steps.private_step G.program (realtime (clock_of G s)) o ≡ o
        machine_rests =
            (λ z. if machine.is_running (running z) then (if steps.is_private o (S.there z) then (act_on G.program (alone (realtime (clock_of G s)) o) o (S.there z)).0 else o) else o)
            ∙ ((λ z. if (if steps.is_held (gate z) then false else not (steps.is_kernel_operation S.operation)) then (act G.program (alone (realtime (clock_of G s)) o) o S.operation).0 else o)
            ∙ ap (λ b. if not b then (act G.program (alone (realtime (clock_of G s)) o) o S.operation).0 else o) own)
