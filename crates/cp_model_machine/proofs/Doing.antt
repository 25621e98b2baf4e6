-- What all private steps of tasks in an environment have in common.
use Rattle.std.proofs.Common.{◌≡◌, ℕ, List, ◌∷◌, false, Some, None, refl, ap, ◌∙◌}
use Rattle.cp_model.specs.Abstract as a
use Rattle.cp_model.specs.Abstract.{BaseType}
use Rattle.cp_model.specs.Actions.{Action, Acts, Calls, action, is_kernel_action}
use Rattle.cp_model.specs.Calls.{call_in_designator, call_in_statement, call_in_task, first_call, in_context, procedure_call}
use Rattle.cp_model.specs.Configurations.{StepResult}
use Rattle.cp_model.specs.Continuations.{Do, Task}
use Rattle.cp_model.specs.Environments.{Environment}
use Rattle.cp_model.specs.Expressions.{place, value}
use Rattle.cp_model.specs.States.{State, configuration, context}
use Rattle.cp_model.specs.StatementSteps.{execute}
use Rattle.cp_model.specs.Turns.{after_step}
use Rattle.cp_model.specs.Types.{ResolvedType}
use Rattle.cp_model_program.specs.Terms.{PlaceExpression, Term}
use Rattle.cp_model_program.specs.Programs.{Operation}
use Rattle.cp_model_program.specs.Sites.{operation_at}
use Rattle.cp_model_program.specs.TermsFor.{Agrees, Knowns, PlaceExpressionFor, TermFor}
use Rattle.cp_model_machine.specs.PrivateStates.{StepContext, PrivateState, go_to, view_of}
use Rattle.cp_model_machine.specs.Steps as steps
use Rattle.cp_model_machine.specs.Steps.{act}
use Rattle.cp_model_machine.specs.Values.{View, place_of, value_of}
use Rattle.cp_model_machine.specs.Means.{PlaceAgrees}
use Rattle.cp_model_machine.specs.Addresses.{Ground, activations, in_sight, lies_in_sight}
use Rattle.cp_model_machine.specs.Remaining.{held_below, site}
use Rattle.cp_model_machine.specs.PartOf.{PartOf, RunsOn}
use Rattle.cp_model_machine.proofs.Effects.{EffectAgrees, quiet_agrees}
use Rattle.cp_model_machine.proofs.Evaluates.{place_agrees, value_agrees}
use Rattle.cp_model_machine.proofs.Heres.{Sees}
use Rattle.cp_model_machine.proofs.QuietOperations.{IsQuietOperation, IsQuietStatement, operation_quiet, statement_quiet}
use Rattle.cp_model_machine.proofs.RunningOn.{runs_here, runs_moved}
use Rattle.cp_model_machine.proofs.StatementCalls.{own_place}
use Rattle.cp_model_machine.proofs.Stepping.{AroundAll, Now, Stepped, both_step, clock_of}

-- What a task does if it makes no call.
pub acts_itself : (i : Task) (k : List Task) → call_in_task (a.Literal 0) i ≡ None → procedure_call i ≡ None → action (i ∷ k) ≡ Acts i k
acts_itself i k none procedure =
    (λ j. elim (none j) as (λ x. Action) [
      | Some f ↦ Calls f.0 (i ∷ k)
      | None ↦ elim (procedure_call i) as (λ x. Action) [ Some u ↦ Calls u k | None ↦ Acts i k ]
    ])
    ∙ λ j. elim (procedure j) as (λ x. Action) [ Some u ↦ Calls u k | None ↦ Acts i k ]

module _ (G : Ground) (s : State) (w : StepContext) (before : List ℕ) (o : PrivateState) (i : Task) (k : List Task) (N : Now G s w before o i k) where
  abbrev pub known : Knowns
  known = held_below N.on.live o.temps N.on.running.temp

  abbrev pub view : View
  view = view_of w o

  pub value_here : Sees G (in_sight G) s.store N.on.running.env → (e : a.Expression) (c : Term) (b : BaseType) (at next low high : ℕ) → TermFor (site G N.on.running) known e c b at next low high
      → first_call N.on.running.env (a.Literal 0) e ≡ None → Agrees b (value (clock_of G s) N.on.running.env s.store e) (value_of view c)
  value_here sees e c b at next low high h n =
      value_agrees (site G N.on.running) (clock_of G s) s.store view _ _ (runs_here G s.store w o (i ∷ k) (clock_of G s) N.around.clock N.on sees) e c b at next low high h n

  pub place_here : Sees G (in_sight G) s.store N.on.running.env → (d : a.Designator) (c : PlaceExpression) (t : ResolvedType) (at next low high : ℕ) → PlaceExpressionFor (site G N.on.running) known d c t at next low high
      → call_in_designator N.on.running.env (a.Literal 0) d ≡ None
      → PlaceAgrees (lies_in_sight (in_sight G) G (activations o.base o.frames (i ∷ k))) t (place (clock_of G s) N.on.running.env s.store d) (place_of view c)
  place_here sees d c t at next low high h n =
      place_agrees (site G N.on.running) (clock_of G s) s.store view _ _ (runs_here G s.store w o (i ∷ k) (clock_of G s) N.around.clock N.on sees) d c t at next low high h n

-- A statement that has no more calls to make.
pub record Ready (G : Ground) (s : State) (w : StepContext) (before : List ℕ) (o : PrivateState) (st : a.Statement) (env : Environment) (k : List Task) : Type 0 where
  pub now : Now G s w before o (Do st env) k
  pub counter : o.counter ≡ own_place (site G now.on.running) (held_below now.on.live o.temps now.on.running.temp) st o.counter now.on.left.2.0 now.on.left.2.1 now.on.left.2.3
  pub none : call_in_statement now.on.running.env (a.Literal 0) st ≡ None

module _ (G : Ground) (s : State) (w : StepContext) (before : List ℕ) (o : PrivateState) (st : a.Statement) (env : Environment) (k : List Task) (Y : Ready G s w before o st env k) where
  abbrev pub here : Environment
  here = Y.now.on.running.env

  abbrev pub executed : StepResult
  executed = execute (context G.setup s G.p) (configuration s G.p) here k st

  pub statement_steps : (y : Operation) → procedure_call (Do st here) ≡ None → is_kernel_action (Acts (Do st here) k) ≡ false
      → operation_at G.program o.counter ≡ Some y → steps.is_kernel_operation y ≡ false
      → PartOf G (after_step s G.p executed) before (act G.program w o y).0
      → (AroundAll G s w → EffectAgrees G w.own executed (act G.program w o y).1)
      → Stepped G s w before o
  statement_steps y procedure private there own P effect =
      both_step G s w before o (Do st env) k Y.now (Acts (Do st here) k) y
      (ap (λ e. action (Do st e ∷ k)) Y.now.on.left.0 ∙ acts_itself (Do st here) k (ap (in_context (λ z. Do z here)) Y.none) procedure)
      private there own P effect

  -- Nothing is left to the kernel, whichever gate is held.
  pub quietly : (y : Operation) → IsQuietStatement st → IsQuietOperation y → AroundAll G s w → EffectAgrees G w.own executed (act G.program w o y).1
  quietly y statement operation all =
      quiet_agrees G w.own executed (act G.program w o y).1 (statement_quiet (context G.setup s G.p) (configuration s G.p) here k st statement) (operation_quiet G.program w o y operation)

  -- What follows the statement is left to do.
  pub goes_next : RunsOn G s.store (go_to Y.now.on.left.2.0 o) k
  goes_next =
      runs_moved G s.store o (Do st env ∷ k) k Y.now.on.left.2.0 Y.now.on.left.2.1 Y.now.on refl refl refl Y.now.on.left.2.4 Y.now.on.left.2.2
