-- Whole private steps of assignments to the result of a function.
use Rattle.std.proofs.Common.{◌≡◌, ℕ, ℤ, List, [], ◌∷◌, Bool, true, false, Some, Result, Ok, Err, refl, ap, sym, subst, ◌∙◌}
use Rattle.std.specs.Prelude.{if◌then◌else◌}
use Rattle.cp_model.specs.Abstract as a
use Rattle.cp_model.specs.Abstract.{Name}
use Rattle.cp_model.specs.Assignments.{writes_of}
use Rattle.cp_model.specs.Calls.{first_call}
use Rattle.cp_model.specs.CallSteps.{result_location}
use Rattle.cp_model.specs.Configurations.{StepResult, own_step, with_writes}
use Rattle.cp_model.specs.Continuations.{Do, Task}
use Rattle.cp_model.specs.Environments.{Environment, meaning}
use Rattle.cp_model.specs.Expressions.{value}
use Rattle.cp_model.specs.Locations.{ByName}
use Rattle.cp_model.specs.Outcomes as outcomes
use Rattle.cp_model.specs.Outcomes.{Fault, Gives, Outcome, and_then}
use Rattle.cp_model.specs.Places.{Place, TypedValue, place_of_meaning, referent, within}
use Rattle.cp_model.specs.States.{State, configuration}
use Rattle.cp_model.specs.Stores.{Ordinal, Writes, put}
use Rattle.cp_model.specs.Turns.{after_step}
use Rattle.cp_model.specs.Types.{Simple, named_type}
use Rattle.cp_model.specs.declared.state.Fault as machine
use Rattle.cp_model.specs.declared.state.Fault.TheVariants as fault
use Rattle.cp_model_program.specs.Terms.{Term}
use Rattle.cp_model_program.specs.Programs as op
use Rattle.cp_model_program.specs.Layout.{local}
use Rattle.cp_model_program.specs.Sites.{local_location, operation_at}
use Rattle.cp_model_program.specs.IsProgramFor.{IsProgramFor}
use Rattle.cp_model_program.specs.StatementsFor.{AssignsBy, NamesResult}
use Rattle.cp_model_program.specs.TermsFor.{Agrees}
use Rattle.cp_model_machine.specs.PrivateStates.{StepContext, PrivateState, go_to, private_outcome, guard, set_word, with_result}
use Rattle.cp_model_machine.specs.Steps.{act}
use Rattle.cp_model_machine.specs.Addresses.{Ground}
use Rattle.cp_model_machine.specs.Remaining.{site}
use Rattle.cp_model_machine.specs.PartOf.{PartOf, RunsOn}
use Rattle.cp_model_machine.proofs.Doing.{Ready, known, quietly, statement_steps, value_here}
use Rattle.cp_model_machine.proofs.Evaluates.{ordinal_is}
use Rattle.cp_model_machine.proofs.Finding.{in_context_none}
use Rattle.cp_model_machine.proofs.Resulting.{runs_resulted}
use Rattle.cp_model_machine.proofs.RunningOn.{runs_moved}
use Rattle.cp_model_machine.proofs.Stepping.{Stepped, clock_of, faulted, went}

pub result_steps : (G : Ground) (s : State) (w : StepContext) (before : List ℕ) (o : PrivateState) (x : Name) (e : a.Expression) (env : Environment) (k : List Task)
    → IsProgramFor G.program G.setup → (Y : Ready G s w before o (a.Assign (a.Plain x) e) env k) (lower upper : ℤ) (c : Term) (n : ℕ)
    → operation_at G.program o.counter ≡ Some (op.SetResult lower upper c n)
    → AssignsBy (site G Y.now.on.running) (known G s w before o (Do (a.Assign (a.Plain x) e) env) k Y.now) (a.Plain x) e (op.SetResult lower upper c n) o.counter Y.now.on.left.2.3.0 Y.now.on.left.2.0 Y.now.on.left.2.1
    → Stepped G s w before o
result_steps G s w before o x e env k F Y lower upper c n there h =
    let N = Y.now in
    statement_steps G s w before o (a.Assign (a.Plain x) e) env k Y (op.SetResult lower upper c n) refl refl there refl
    (subst (λ p. PartOf G (after_step s G.p (and_then (Gives p) (λ at. and_then (value (clock_of G s) here s.store e) (λ v. and_then (writes_of at.at at.type v) goes)))) before
    (act G.program w o (op.SetResult lower upper c n)).0) (sym place_is)
    (by _ _ (value_here G s w before o (Do (a.Assign (a.Plain x) e) env) k N N.sees e c h.0 o.counter N.on.left.2.3.0 N.on.left.2.1 N.on.running.unit.temps h.3
    (in_context_none (a.Assign (a.Plain x)) (first_call N.on.running.env (a.Literal 0) e) Y.none))))
    (quietly G s w before o (a.Assign (a.Plain x) e) env k Y (op.SetResult lower upper c n) tt tt)
  where
    here : Environment
    here = Y.now.on.running.env

    M : NamesResult here x lower upper
    M = h.2

    P : Place
    P = record { at = result_location M.frame; type = Simple M.base lower upper M.start }

    place_is : place_of_meaning here s.store (meaning here x) ≡ P
    place_is =
        ap (place_of_meaning here s.store) M.means
        ∙ ((λ i. record { at = (if M.reference i then referent (local_location M.frame x) (s.store (local_location M.frame x)) else local_location M.frame x); type = M.type i })
        ∙ (λ i. record { at = record { owner = M.frame.owner; path = ByName (M.is_name i) ∷ [] }; type = Simple M.base lower upper M.start }))

    goes : Writes → StepResult
    goes ws = own_step (with_writes (configuration s G.p) ws k)

    stored : (v : ℤ) (b : Bool) → within lower upper v ≡ b
        → PartOf G (after_step s G.p (and_then (outcomes.guard b 1 ((result_location M.frame, Ordinal v) ∷ [])) goes)) before
        (guard b o fault.Range (private_outcome (go_to n (set_word o o.base v)))).0
    stored v false q = faulted G s w before o (Do (a.Assign (a.Plain x) e) env) k Y.now 1 fault.Range refl
    stored v true q =
        went G s before o Y.now.part (put (result_location M.frame) (Ordinal v) s.store) (go_to n (set_word o o.base v)) k
        (subst (λ z. RunsOn G (put (result_location M.frame) (Ordinal v) s.store) (go_to z (set_word o o.base v)) k) (sym h.1)
        (runs_moved G (put (result_location M.frame) (Ordinal v) s.store) (set_word o o.base v) (Do (a.Assign (a.Plain x) e) env ∷ k) k Y.now.on.left.2.0 Y.now.on.left.2.1
        (runs_resulted G s.store o (Do (a.Assign (a.Plain x) e) env ∷ k) Y.now.on M.frame M.function.0 v M.runs M.function.1
        (ap (λ g. local g M.frame.routine M.frame.routine.name) (sym Y.now.on.runs.globals) ∙ M.no_local)
        (F.set_apart M.function.0 M.base lower upper M.start v (ap (λ g. named_type g M.function.0) (sym Y.now.on.runs.globals) ∙ M.named) q))
        refl refl refl Y.now.on.left.2.4 Y.now.on.left.2.2))
        record { number = refl; input = refl; consumed = refl; output = refl; activity = refl }

    by : (O : Outcome TypedValue) (r : Result ℤ machine.Fault) → Agrees h.0 O r
        → PartOf G (after_step s G.p (and_then (Gives P) (λ at. and_then O (λ v. and_then (writes_of at.at at.type v) goes)))) before
        (with_result o r (λ v. guard (within lower upper v) o fault.Range (private_outcome (go_to n (set_word o o.base v))))).0
    by (Fault i) (Err f) g = faulted G s w before o (Do (a.Assign (a.Plain x) e) env) k Y.now i f g
    by (Fault i) (Ok v) g = absurd g
    by (Gives w) (Err f) g = absurd g
    by (Gives w) (Ok v) g =
        subst (λ z. PartOf G (after_step s G.p (and_then (outcomes.guard (within lower upper z) 1 ((result_location M.frame, Ordinal z) ∷ [])) goes)) before (guard (within lower upper v) o fault.Range (private_outcome (go_to n (set_word o o.base v)))).0) (sym (ordinal_is w v g.1))
        (stored v (within lower upper v) refl)
