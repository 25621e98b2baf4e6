-- Whole private steps of `case`.
use Rattle.std.proofs.Common.{◌≡◌, ℕ, ℤ, List, ◌∷◌, Bool, true, false, Option, None, Some, Result, Ok, Err, refl, ap, sym, subst, ◌∙◌}
use Rattle.std.specs.Prelude.{if◌then◌else◌}
use Rattle.cp_model.specs.Abstract as a
use Rattle.cp_model.specs.Calls.{first_call}
use Rattle.cp_model.specs.Configurations.{StepResult, own_step, with_continuation}
use Rattle.cp_model.specs.Continuations.{Do, Task, push}
use Rattle.cp_model.specs.Environments.{Environment}
use Rattle.cp_model.specs.Outcomes.{Fault, Gives, Outcome, and_then}
use Rattle.cp_model.specs.Places.{TypedValue, ordinal_of}
use Rattle.cp_model.specs.StatementSteps.{chosen_arm, has_label}
use Rattle.cp_model.specs.States.{State, configuration}
use Rattle.cp_model.specs.Turns.{after_step}
use Rattle.cp_model.specs.declared.state.Fault as machine
use Rattle.cp_model.specs.declared.state.Fault.TheVariants as fault
use Rattle.cp_model_program.specs.Programs as op
use Rattle.cp_model_program.specs.Sites.{Site, operation_at}
use Rattle.cp_model_program.specs.Tables.{place_in}
use Rattle.cp_model_program.specs.TermsFor.{Agrees, nothing_known}
use Rattle.cp_model_program.specs.StatementsFor.{ArmFor, CodeFor, either}
use Rattle.cp_model_machine.specs.PrivateStates.{StepContext, PrivateState, go_to, with_result}
use Rattle.cp_model_machine.specs.Steps.{go_to_arm}
use Rattle.cp_model_machine.specs.Addresses.{Ground}
use Rattle.cp_model_machine.specs.Remaining.{site}
use Rattle.cp_model_machine.specs.PartOf.{PartOf}
use Rattle.cp_model_machine.proofs.Doing.{Ready, quietly, statement_steps, value_here}
use Rattle.cp_model_machine.proofs.Evaluates.{ordinal_is}
use Rattle.cp_model_machine.proofs.Finding.{in_context_none}
use Rattle.cp_model_machine.proofs.RunningOn.{runs_pushed}
use Rattle.cp_model_machine.proofs.Stepping.{Stepped, faulted, went}

abbrev Chosen : Site → ℕ → ℕ → Option ℕ → Option a.Statement → Type 0
Chosen site next low found None = found ≡ None
Chosen site next low found (Some s) = (at : ℕ) × (found ≡ Some at) × CodeFor site nothing_known s at next low

chosen : (site : Site) (arms : a.Arms) (n : ℤ) (found : Option ℕ) (next low : ℕ) → ArmFor site arms n found next low
    → Chosen site next low found (chosen_arm site.env.globals n arms)
chosen site a.NoArm n found next low h = h
chosen site (a.MoreArms labels s rest) n found next low h = by (has_label site.env.globals n labels) h (chosen site rest n found next low)
  where
    by : (b : Bool) → either b ((at : ℕ) × (found ≡ Some at) × CodeFor site nothing_known s at next low) (ArmFor site rest n found next low)
        → (ArmFor site rest n found next low → Chosen site next low found (chosen_arm site.env.globals n rest))
        → Chosen site next low found (if b then Some s else chosen_arm site.env.globals n rest)
    by true h go = h
    by false h go = go h

pub case_steps : (G : Ground) (s : State) (w : StepContext) (before : List ℕ) (o : PrivateState) (e : a.Expression) (arms : a.Arms) (env : Environment) (k : List Task)
    → Ready G s w before o (a.Case e arms) env k → Stepped G s w before o
case_steps G s w before o e arms env k Y =
    let N = Y.now in
    let h = N.on.left.2.3 in
    statement_steps G s w before o (a.Case e arms) env k Y (op.Case h.1 h.3) refl refl (ap (operation_at G.program) Y.counter ∙ h.4) refl
    (by _ _ (value_here G s w before o (Do (a.Case e arms) env) k N N.sees e h.1 h.2 o.counter h.0 N.on.left.2.1 N.on.running.unit.temps h.5
    (in_context_none (λ y. a.Case y arms) (first_call N.on.running.env (a.Literal 0) e) Y.none)))
    (quietly G s w before o (a.Case e arms) env k Y (op.Case h.1 h.3) tt tt)
  where
    here : Environment
    here = Y.now.on.running.env

    picked : Option a.Statement → StepResult
    picked x = elim x [ None ↦ Fault 8 | Some st ↦ own_step (with_continuation (configuration s G.p) (push st here k)) ]

    arm : (x : Option a.Statement) (found : Option ℕ) → Chosen (site G Y.now.on.running) Y.now.on.left.2.0 Y.now.on.left.2.1 found x
        → PartOf G (after_step s G.p (picked x)) before (go_to_arm o found).0
    arm None found h =
        subst (λ z. PartOf G (after_step s G.p (picked None)) before (go_to_arm o z).0) (sym h)
        (faulted G s w before o (Do (a.Case e arms) env) k Y.now 8 fault.NoLabel refl)
    arm (Some st) found h =
        subst (λ z. PartOf G (after_step s G.p (picked (Some st))) before (go_to_arm o z).0) (sym h.1)
        (went G s before o Y.now.part s.store (go_to h.0 o) (push st here k)
        (runs_pushed G s.store o (Do (a.Case e arms) env ∷ k) k st h.0 Y.now.on.left.2.0 Y.now.on.left.2.1 Y.now.on refl refl refl h.2 Y.now.on.left.2.4 Y.now.on.left.2.2)
        record { number = refl; input = refl; consumed = refl; output = refl; activity = refl })

    by : (O : Outcome TypedValue) (r : Result ℤ machine.Fault) → Agrees Y.now.on.left.2.3.2 O r
        → PartOf G (after_step s G.p (and_then O (λ v. picked (chosen_arm here.globals (ordinal_of v) arms)))) before
        (with_result o r (λ n. go_to_arm o (place_in Y.now.on.left.2.3.3 n))).0
    by (Gives v) (Ok n) h =
        subst (λ z. PartOf G (after_step s G.p (picked (chosen_arm here.globals z arms))) before (go_to_arm o (place_in Y.now.on.left.2.3.3 n)).0) (sym (ordinal_is v n h.1))
        (arm (chosen_arm here.globals n arms) (place_in Y.now.on.left.2.3.3 n)
        (chosen (site G Y.now.on.running) arms n (place_in Y.now.on.left.2.3.3 n) Y.now.on.left.2.0 Y.now.on.left.2.1 (Y.now.on.left.2.3.6 n)))
    by (Fault n) (Err f) h = faulted G s w before o (Do (a.Case e arms) env) k Y.now n f h
    by (Gives v) (Err f) h = absurd h
    by (Fault n) (Ok m) h = absurd h
