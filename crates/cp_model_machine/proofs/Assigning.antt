-- Whole private steps that store simple values: assignments to variables, and `accept`.
use Rattle.std.proofs.Common.{◌≡◌, ℕ, ℤ, List, [], ◌∷◌, Bool, true, false, Some, Result, Ok, Err, refl, sym, subst}
use Rattle.cp_model.specs.Abstract as a
use Rattle.cp_model.specs.Abstract.{BaseType}
use Rattle.cp_model.specs.Assignments.{writes_of}
use Rattle.cp_model.specs.Calls.{call_in_designator, first_call, in_context}
use Rattle.cp_model.specs.Configurations.{StepResult, own_step, with_writes}
use Rattle.cp_model.specs.Continuations.{Do, Task}
use Rattle.cp_model.specs.Environments.{Environment}
use Rattle.cp_model.specs.Locations.{Location}
use Rattle.cp_model.specs.Outcomes as outcomes
use Rattle.cp_model.specs.Outcomes.{Fault, Gives, Outcome, and_then}
use Rattle.cp_model.specs.Places.{Place, TypedValue, within}
use Rattle.cp_model.specs.States.{State, configuration}
use Rattle.cp_model.specs.Stores.{Ordinal, Writes, put}
use Rattle.cp_model.specs.Turns.{after_step}
use Rattle.cp_model.specs.Types.{Simple}
use Rattle.cp_model.specs.declared.state.Fault as machine
use Rattle.cp_model.specs.declared.state.Fault.TheVariants as fault
use Rattle.cp_model_program.specs.Terms.{PlaceExpression, Term}
use Rattle.cp_model_program.specs.Programs as op
use Rattle.cp_model_program.specs.Sites.{operation_at}
use Rattle.cp_model_program.specs.TermsFor.{Agrees}
use Rattle.cp_model_program.specs.StatementsFor.{AssignsBy}
use Rattle.cp_model_machine.specs.PrivateStates.{StepContext, PrivateState, go_to, private_outcome, guard, set_word, with_result}
use Rattle.cp_model_machine.specs.Means.{PlaceAgrees}
use Rattle.cp_model_machine.specs.Addresses.{Ground, activations, in_sight, lies, lies_in_sight}
use Rattle.cp_model_machine.specs.Remaining.{site}
use Rattle.cp_model_machine.specs.PartOf.{PartOf, RunsOn}
use Rattle.cp_model_machine.proofs.Doing.{Ready, known, place_here, quietly, statement_steps, value_here}
use Rattle.cp_model_machine.proofs.Evaluates.{ordinal_is}
use Rattle.cp_model_machine.proofs.Finding.{in_context_none, or_else_none}
use Rattle.cp_model_machine.proofs.Heres.{seen_mine}
use Rattle.cp_model_machine.proofs.RunningOn.{runs_moved, runs_written}
use Rattle.cp_model_machine.proofs.Stepping.{Now, Stepped, faulted, went}

module _ (G : Ground) (s : State) (w : StepContext) (before : List ℕ) (o : PrivateState) (i : Task) (k : List Task) (N : Now G s w before o i k) where
  -- What both sides do when a value is stored in a variable.
  abbrev pub Stores : PrivateState → (Writes → StepResult) → ℕ → BaseType → ℤ → ℤ → ℤ → ℤ → Type 0
  Stores after go n b lower upper start v =
      (l : Location) → in_sight G l.owner ≡ true → lies G (activations o.base o.frames (i ∷ k)) l ≡ Some (n, Simple b lower upper start)
      → PartOf G (after_step s G.p (go ((l, Ordinal v) ∷ []))) before after

  -- The meaning and the machine store the same value at the same place.
  pub stores : (after : PrivateState) (go : Writes → StepResult) (b of : BaseType) (lower upper start : ℤ) (n : ℕ) (m : ℤ)
      → (P : Outcome Place) → PlaceAgrees (lies_in_sight (in_sight G) G (activations o.base o.frames (i ∷ k))) (Simple b lower upper start) P (Ok n)
      → (v : TypedValue) → Agrees of (Gives v) (Ok m)
      → Stores after go n b lower upper start m
      → PartOf G (after_step s G.p (and_then P (λ at. and_then (writes_of at.at at.type v) go))) before
      (guard (within lower upper m) o fault.Range (private_outcome after)).0
  stores after go b of lower upper start n m (Fault f) h v g stored = absurd h
  stores after go b of lower upper start n m (Gives p) h v g stored =
      subst (λ t. PartOf G (after_step s G.p (and_then (writes_of p.at t v) go)) before (guard (within lower upper m) o fault.Range (private_outcome after)).0) (sym h.1)
      (subst (λ z. PartOf G (after_step s G.p (and_then (outcomes.guard (within lower upper z) 1 ((p.at, Ordinal z) ∷ [])) go)) before (guard (within lower upper m) o fault.Range (private_outcome after)).0) (sym (ordinal_is v m g.1))
      (by (within lower upper m)))
    where
      there : (in_sight G p.at.owner ≡ true) × (lies G (activations o.base o.frames (i ∷ k)) p.at ≡ Some (n, Simple b lower upper start))
      there = seen_mine (in_sight G) G (activations o.base o.frames (i ∷ k)) p.at (n, Simple b lower upper start) h.0

      by : (t : Bool) → PartOf G (after_step s G.p (and_then (outcomes.guard t 1 ((p.at, Ordinal m) ∷ [])) go)) before (guard t o fault.Range (private_outcome after)).0
      by false = faulted G s w before o i k N 1 fault.Range refl
      by true = stored p.at there.0 there.1

-- An assignment of a simple value to a variable.
pub set_steps : (G : Ground) (s : State) (w : StepContext) (before : List ℕ) (o : PrivateState) (d : a.Designator) (e : a.Expression) (env : Environment) (k : List Task)
    → (Y : Ready G s w before o (a.Assign d e) env k) (to : PlaceExpression) (lower upper : ℤ) (c : Term) (n : ℕ)
    → operation_at G.program o.counter ≡ Some (op.Set to lower upper c n)
    → AssignsBy (site G Y.now.on.running) (known G s w before o (Do (a.Assign d e) env) k Y.now) d e (op.Set to lower upper c n) o.counter Y.now.on.left.2.3.0 Y.now.on.left.2.0 Y.now.on.left.2.1
    → Stepped G s w before o
set_steps G s w before o d e env k Y to lower upper c n there h =
    let N = Y.now in
    let here = N.on.running.env in
    let none = or_else_none (in_context (λ y. a.Assign y e) (call_in_designator here (a.Literal 0) d)) (in_context (a.Assign d) (first_call here (a.Literal 0) e)) Y.none in
    statement_steps G s w before o (a.Assign d e) env k Y (op.Set to lower upper c n) refl refl there refl
    (by _ _ _ _
    (place_here G s w before o (Do (a.Assign d e) env) k N N.sees d to (Simple h.0 lower upper h.2) o.counter h.3 N.on.left.2.1 h.4 h.8 (in_context_none (λ y. a.Assign y e) (call_in_designator here (a.Literal 0) d) none.0))
    (value_here G s w before o (Do (a.Assign d e) env) k N N.sees e c h.1 h.3 N.on.left.2.3.0 h.4 N.on.running.unit.temps h.9 (in_context_none (a.Assign d) (first_call here (a.Literal 0) e) none.1)))
    (quietly G s w before o (a.Assign d e) env k Y (op.Set to lower upper c n) tt tt)
  where
    goes : Writes → StepResult
    goes ws = own_step (with_writes (configuration s G.p) ws k)

    by : (P : Outcome Place) (r : Result ℕ machine.Fault) (O : Outcome TypedValue) (q : Result ℤ machine.Fault)
        → PlaceAgrees (lies_in_sight (in_sight G) G (activations o.base o.frames (Do (a.Assign d e) env ∷ k))) (Simple h.0 lower upper h.2) P r → Agrees h.1 O q
        → PartOf G (after_step s G.p (and_then P (λ at. and_then O (λ v. and_then (writes_of at.at at.type v) goes)))) before
        (with_result o r (λ at. with_result o q (λ v. guard (within lower upper v) o fault.Range (private_outcome (go_to n (set_word o at v)))))).0
    by (Fault i) (Err f) O q g r2 = faulted G s w before o (Do (a.Assign d e) env) k Y.now i f g
    by (Fault i) (Ok at) O q g r2 = absurd g
    by (Gives p) (Err f) O q g r2 = absurd g
    by (Gives p) (Ok at) (Fault i) (Err f) g r2 = faulted G s w before o (Do (a.Assign d e) env) k Y.now i f r2
    by (Gives p) (Ok at) (Gives v) (Err f) g r2 = absurd r2
    by (Gives p) (Ok at) (Fault i) (Ok v) g r2 = absurd r2
    by (Gives p) (Ok at) (Gives x) (Ok v) g r2 =
        stores G s w before o (Do (a.Assign d e) env) k Y.now (go_to n (set_word o at v)) goes h.0 h.1 lower upper h.2 at v (Gives p) g x r2
        (λ l own is. went G s before o Y.now.part (put l (Ordinal v) s.store) (go_to n (set_word o at v)) k
        (subst (λ z. RunsOn G (put l (Ordinal v) s.store) (go_to z (set_word o at v)) k) (sym h.5)
        (runs_moved G (put l (Ordinal v) s.store) (set_word o at v) (Do (a.Assign d e) env ∷ k) k Y.now.on.left.2.0 Y.now.on.left.2.1
        (runs_written G s.store o (Do (a.Assign d e) env ∷ k) Y.now.on l at h.0 lower upper h.2 v own is) refl refl refl Y.now.on.left.2.4 Y.now.on.left.2.2))
        record { number = refl; input = refl; consumed = refl; output = refl; activity = refl })
