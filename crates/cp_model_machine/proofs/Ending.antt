-- Whole private steps at the ends of bodies: that of a class, after its `init`, and that of the
-- process.
use Rattle.std.proofs.Common.{List, Option, [], ap, arith, refl, subst, sym, ℕ, ◌∙◌, ◌∷◌}
use Rattle.cp_model.specs.Actions.{Acts}
use Rattle.cp_model.specs.Configurations as stage
use Rattle.cp_model.specs.Continuations.{EndBody, EndProcess, Task}
use Rattle.cp_model.specs.Parts.{private_status}
use Rattle.cp_model.specs.States.{State}
use Rattle.cp_model.proofs.StateMaps.{with_at_here}
use Rattle.cp_model_program.specs.Programs as op
use Rattle.cp_model_machine.specs.PrivateStates as private
use Rattle.cp_model_machine.specs.PrivateStates.{StepContext, PrivateState}
use Rattle.cp_model_machine.specs.Calling.{leave}
use Rattle.cp_model_machine.specs.Addresses.{Ground, activations, in_sight}
use Rattle.cp_model_machine.specs.PartOf.{DataMeans}
use Rattle.cp_model_machine.proofs.Doing.{acts_itself}
use Rattle.cp_model_machine.proofs.RunningOn.{left_afresh}
use Rattle.cp_model_machine.proofs.Stepping.{Now, Stepped, both_step, gate_left, went}
use Rattle.cp_model_machine.proofs.Effects.{leaves}

-- The end of a process.
pub process_ends : (G : Ground) (s : State) (w : StepContext) (before : List ℕ) (o : PrivateState) (k : List Task) → Now G s w before o EndProcess k → Stepped G s w before o
process_ends G s w before o k N =
    both_step G s w before o EndProcess k N (Acts EndProcess k) op.End (acts_itself EndProcess k refl refl) refl N.on.left.3 refl
    record {
      number = N.part.number;
      input = N.part.input;
      consumed = N.part.consumed ∙ sym (with_at_here G.p (s.consumed G.p) s.consumed);
      transcript = with_at_here G.p (s.transcript G.p) s.transcript ∙ N.part.transcript;
      status = ap private_status (with_at_here G.p stage.Ended s.status);
      count = N.on.count;
      data_means = λ begun. subst (λ x. DataMeans G (activations o.base o.frames x) (in_sight G) s.store o.words) (sym (with_at_here G.p k s.continuation)) N.on.data_means;
      runs_on = λ goes. absurd goes;
    }
    (λ all. tt)

-- The end of the body of a class or a monitor: its `init` is done.
pub body_ends : (G : Ground) (s : State) (w : StepContext) (before : List ℕ) (o : PrivateState) (gate : Option ℕ) (k : List Task) → Now G s w before o (EndBody gate) k → Stepped G s w before o
body_ends G s w before o gate k N = by o.frames N
  where
    by : (gs : List private.Frame) → Now G s w before (record o { frames = gs }) (EndBody gate) k → Stepped G s w before (record o { frames = gs })
    by [] N = absurd N.on.left
    by (f ∷ fs) N =
        let P = record o { frames = f ∷ fs } in
        let c = N.on.left.3 in
        both_step G s w before P (EndBody gate) k N (Acts (EndBody gate) k) op.EndBody (acts_itself (EndBody gate) k refl refl) refl N.on.left.1 refl
        (gate_left G s before gate _ _
        (went G s before P N.part s.store (leave P f fs) k
        record {
          at = record {
            running = c.0;
            runs = c.2;
            base = c.3.base;
            temp = c.3.temp;
            component = c.3.component;
            gate = N.on.left.2.1;
            live = 0;
            left = left_afresh G o.temps o.limit 0 c.0 fs f.counter c.1 k c.3.kept_fit c.4;
            next_value = λ d n m e. omega arith;
          };
          words_mean = record { count = N.on.count; activations_mean = N.on.activations_mean; data_means = N.on.data_means; given = N.on.given.1 };
        }
        record { number = refl; input = refl; consumed = refl; output = refl; activity = refl }))
        (λ all. leaves G w.own gate f.gate N.on.left.2.0 N.on.left.2.2)
