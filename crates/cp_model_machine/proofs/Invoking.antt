-- A call in the meaning and in the machine, given what the new activation opens with.
--
-- Both sides test the same target, bind only what belongs to the new activation, and enter the
-- same gate. So all that differs from call to call is that the activation opens, which is a
-- premise here.
use Rattle.cp_law_typing.specs.Needs.{WordsFit}
use Rattle.cp_model_machine.proofs.OwnersFit.{component_room}
use Rattle.std.proofs.Common.{Bool, List, None, Some, [], ap, arith, false, inl, inr, length, refl, subst, sym, true, ℕ, ℤ, ◌++◌, ◌+◌, ◌∙◌, ◌∷◌, ◌≡◌, ◌≤◌}
use Rattle.std.specs.Prelude.{if◌then◌else◌}
use Rattle.std.proofs.lemmas.Bool.{true≢false}
use Rattle.cp_model.specs.Abstract as a
use Rattle.cp_model.specs.Abstract.{Name, System}
use Rattle.cp_model.specs.Arguments.{argument_writes, bind, designator_of, reference_writes}
use Rattle.cp_model.specs.Assignments.{starting_writes, writes_of}
use Rattle.cp_model.specs.Calls.{UserCall, call_in_arguments}
use Rattle.cp_model.specs.CallSteps as calls
use Rattle.cp_model.specs.CallSteps.{activation_environment, called_configuration, entering, target}
use Rattle.cp_model.specs.Continuations.{EndCall, Task, depth, push}
use Rattle.cp_model.specs.Declarations as declared
use Rattle.cp_model.specs.Declarations.{declarations}
use Rattle.cp_model.specs.Environments.{Environment}
use Rattle.cp_model.specs.Expressions.{place, value}
use Rattle.cp_model.specs.Locations.{Location, OfActivation, Owner, root, same_location, same_owner, under}
use Rattle.cp_model.specs.Operators.{Clock}
use Rattle.cp_model.specs.Outcomes.{Fault, Gives, Outcome, and_then}
use Rattle.cp_model.specs.Places.{Place, TypedValue}
use Rattle.cp_model.specs.States.{State, configuration, context}
use Rattle.cp_model.specs.Stores.{Store, Writes, forget, put, put_all}
use Rattle.cp_model.specs.Turns.{after_step}
use Rattle.cp_model.specs.Types.{GlobalScope, ResolvedType}
use Rattle.cp_model.specs.declared.state.Fault.TheVariants as fault
use Rattle.cp_model.proofs.ExpressionReach.{IfGives}
use Rattle.cp_model.proofs.WriteReach.{WritesIn, bind_in, starting_writes_in, writes_in}
use Rattle.cp_law_typing.specs.Declared.{Distinct}
use Rattle.cp_model_program.specs.Programs.{Call, CodeUnit}
use Rattle.cp_model_program.specs.Layout.{activation_words, locals_words, part}
use Rattle.cp_model_program.specs.Sites as sites
use Rattle.cp_model_program.specs.Sites.{RoutineOf, first_parameter, parameters, system_of_callee}
use Rattle.cp_model_program.specs.IsProgramFor.{UnitRepresents}
use Rattle.cp_model_program.specs.Starts.{carry_out}
use Rattle.cp_model_program.specs.TermsFor.{ArgumentsFor}
use Rattle.cp_model_machine.specs.PrivateStates.{Acting, Effect, Enters, StepContext, PrivateState, fault_in, private_outcome, guard}
use Rattle.cp_model_machine.specs.Passing.{Called, Passing, component_called, pass_all, when_passed}
use Rattle.cp_model_machine.specs.Calling.{Back, call_step, enter, frame_of, gate_effect, has_room, start_words}
use Rattle.cp_model_machine.specs.Addresses.{ClassHasRights, ComponentLies, Ground, activations, in_sight, scope, lies_in_sight, whole}
use Rattle.cp_model_machine.specs.Remaining.{CallerAt, IsGate, gate_number, held_below, kept_below, site}
use Rattle.cp_model_machine.specs.PartOf.{DataMeans, PartOf, RunsOn}
use Rattle.cp_model_machine.proofs.Entering.{Opened, Waits, entered_on, environment_of_call, owner_of_call}
use Rattle.cp_model_machine.proofs.Heres.{Sees, depth_is, seen_is, seen_mine}
use Rattle.cp_model_machine.proofs.Layouts.{PartsLie, lies_under}
use Rattle.cp_model_machine.proofs.Holding.{SameBelow, SameLive}
use Rattle.cp_model_machine.proofs.Passing.{Bound, KeptOutside, PassingAgrees, Stays, passes}
use Rattle.cp_model_machine.proofs.Returning.{forgotten}
use Rattle.cp_model_machine.proofs.Rooms.{room_for}
use Rattle.cp_model_machine.proofs.RunningOn.{runs_here, runs_over, runs_stacked}
use Rattle.cp_model_machine.proofs.Owned.{result_inside}
use Rattle.cp_model_machine.proofs.Separate.{part_below}
use Rattle.cp_model_machine.proofs.Stepping.{Now, beyond, clock_of, faulted, gate_entered, stopped, went}
use Rattle.cp_law_typing.proofs.Locations.{location_is, owner_is, same_owner_itself}
use Rattle.cp_model_machine.proofs.Stacks.{own_in_whole}
use Rattle.cp_model_machine.proofs.Effects.{EffectAgrees, LeavesIt, Means, WentOn, enters, going, passed_leaves, provided_leaves, then_means, reported}
use Rattle.cp_model.specs.Configurations.{StepResult}

-- ---- writes of one owner

pub argument_in : (t : Owner → Bool) (clock : Clock) (env : Environment) (store : Store) (l : Location) (v : declared.Variable) (e : a.Expression) → t l.owner ≡ true
    → IfGives (WritesIn t) (argument_writes clock env store l v e)
argument_in t clock env store l v e h = by v.by_reference (place clock env store (designator_of e)) (value clock env store e)
  where
    by : (b : Bool) (P : Outcome Place) (O : Outcome TypedValue) → IfGives (WritesIn t) (if b then reference_writes l P else and_then O (writes_of l v.type))
    by true (Gives p) O = (h, tt)
    by true (Fault i) O = tt
    by false P (Gives x) = writes_in t l v.type x h
    by false P (Fault i) = tt

pub put_outside : (t : Owner → Bool) (ws : Writes) (st : Store) (l : Location) → WritesIn t ws → t l.owner ≡ false → put_all ws st l ≡ st l
put_outside t [] st l h n = refl
put_outside t (w ∷ ws) st l h n = put_outside t ws (put w.0 w.1 st) l h.1 n ∙ by (same_location w.0 l) refl
  where
    by : (b : Bool) → same_location w.0 l ≡ b → (if b then w.1 else st l) ≡ st l
    by true e = absurd (true≢false (sym h.0 ∙ (ap (λ (k : Location). t k.owner) (location_is w.0 l e) ∙ n)))
    by false e = refl

pub locals_two : (g : GlobalScope) (xs ys : List (Name × declared.Variable)) → locals_words g (xs ++ ys) ≡ locals_words g xs + locals_words g ys
locals_two g [] ys = omega arith
locals_two g (x ∷ xs) ys = let e = locals_two g xs ys in omega (arith, e)

-- ---- targets

-- The machine calls the component that the meaning calls, and enters the same gate.
pub record TargetIs (G : Ground) (store : Store) (t : calls.Target) (c : Called) (s : System) : Type 0 where
  pub set_is : c.is_set ≡ t.is_callable
  pub there : c.component ≤ whole G
  pub system : t.system ≡ s
  pub lies_there : t.is_callable ≡ true → ComponentLies G t.component s c.component
  pub given : t.is_callable ≡ true → ClassHasRights G store c.component
  pub gate : c.gate ≡ gate_number t.gate
  pub is_gate : t.is_callable ≡ true → IsGate G t.gate

-- ---- calls

module _ (G : Ground) (s : State) (w : StepContext) (before : List ℕ) (o : PrivateState) (i : Task) (l : List Task) (N : Now G s w before o i l) (sees : Sees G (in_sight G) s.store N.on.running.env)
    (k : List Task) (v : UserCall) (call : Call) (back : Back) (place kept live : ℕ) where
  abbrev pub callee_system : System
  callee_system = system_of_callee N.on.running.env v.callee.of

  abbrev pub opened_store : Writes → Store
  opened_store ws =
      put_all (starting_writes (root (owner_of_call G k)) (declarations N.on.running.env.globals v.callee.routine.variables)) (put_all ws (forget (owner_of_call G k) s.store))

  abbrev pub Bounds : Writes → List ℤ → Type 0
  Bounds ws new =
      Bound (site G N.on.running) (lies_in_sight (in_sight G) G (activations o.base o.frames (i ∷ l))) (owner_of_call G k) (o.base + (site G N.on.running).words) (first_parameter v.callee)
      (parameters (site G N.on.running) v.callee) ws o.words new

  -- What remains to be proved of a routine: its new activation holds its parameters, its start
  -- values and no result.
  abbrev pub Opens : CodeUnit → Type 0
  Opens u =
      (ws : Writes) (new : List ℤ) → length new ≡ length o.words → Bounds ws new
      → Opened G (activations o.base o.frames k) (opened_store ws) (carry_out (o.base + call.words) u.starts new) (o.base + call.words) (record { owner = owner_of_call G k; routine = v.callee.routine })

  -- What a call needs.
  pub record Invocation (from last low high : ℕ) : Type 1 where
    pub few : WordsFit G.setup
    pub waits : Waits G o (i ∷ l) k N.on.running place kept live
    pub runs : sites.Runs (site G N.on.running) (RoutineOf callee_system v.callee.routine) kept call
    pub represents : UnitRepresents G.program G.texts (scope G) runs.unit (RoutineOf callee_system v.callee.routine)
    pub arguments : ArgumentsFor (site G N.on.running) (held_below N.on.live o.temps N.on.running.temp) (parameters (site G N.on.running) v.callee) v.arguments call.arguments (first_parameter v.callee) from last low high
    pub made : call_in_arguments N.on.running.env (a.Literal 0) v.arguments ≡ None
    pub where_is : v.environment ≡ N.on.running.env
    pub distinct : Distinct (parameters (site G N.on.running) v.callee)
    pub target_is : TargetIs G s.store (target (context G.setup s G.p) s.store N.on.running.env v.callee.of) (component_called G.program w o call.target) callee_system
    pub caller : CallerAt G call.routine kept live v.callee.routine.result (frame_of o (component_called G.program w o call.target) back) place
    pub opens : Opens runs.unit

  -- What a call does in the meaning.
  abbrev pub called : Environment → StepResult
  called e = calls.call (context G.setup s G.p) (configuration s G.p) (record v { environment = e }) k

  pub invoked : (from last low high : ℕ) → Invocation from last low high
      → PartOf G (after_step s G.p (called v.environment)) before (call_step G.program w o call back).0 × EffectAgrees G w.own (called v.environment) (call_step G.program w o call back).1
  invoked from last low high I = (part, reported G w.own s before N.ready (called v.environment) entered_gate (call_step G.program w o call back) part means leaves_it)
    where
      t : calls.Target
      t = target (context G.setup s G.p) s.store N.on.running.env v.callee.of

      c : Called
      c = component_called G.program w o call.target

      owner : Owner
      owner = owner_of_call G k

      top : ℕ
      top = o.base + (site G N.on.running).words

      entered_gate : Effect
      entered_gate = gate_effect c.gate Enters

      defined : Environment → State
      defined e = after_step s G.p (called e)

      entering_by : CodeUnit → PrivateState → Acting
      entering_by u p = (enter (start_words (o.base + call.words) u p) c u call back, entered_gate)

      passing : Acting
      passing = when_passed (pass_all w (o.base + call.words) (o.base + call.words) call.arguments o) (entering_by I.runs.unit)

      room : has_room w o call I.runs.unit c.component ≡ true
      room =
          room_for w o call I.runs.unit c.component (omega (arith, N.on.runs.frames_fit, I.runs.fits.frames))
          (omega (arith, N.on.base, N.around.own, N.on.runs.words_fit, I.runs.fits.words, I.runs.words)) (omega (arith, N.on.temp, N.on.runs.temps_fit, I.runs.fits.temps, I.runs.temps))
          (omega (arith, I.target_is.there, N.on.count))

      computed : call_step G.program w o call back ≡ guard c.is_set o fault.NotInitialised passing
      computed =
          (λ z. elim (I.runs.there z) as (λ x. Acting) [
            | None ↦ private_outcome o
            | Some u ↦ if has_room w o call u c.component then guard c.is_set o fault.NotInitialised (when_passed (pass_all w (o.base + call.words) (o.base + call.words) call.arguments o) (entering_by u)) else private_outcome o
          ])
          ∙ ap (λ b. if b then guard c.is_set o fault.NotInitialised passing else private_outcome o) room

      -- The meaning enters the gate that the frame keeps.
      means : IfGives (λ y. Means G w.own y.1 entered_gate) (called v.environment)
      means = subst (λ e. IfGives (λ y. Means G w.own y.1 entered_gate) (called e)) (sym I.where_is) (here t.is_callable refl)
        where
          bound : Outcome Writes
          bound = bind (argument_writes (clock_of G s) N.on.running.env s.store) (root owner) (parameters (site G N.on.running) v.callee) v.arguments

          after : Writes → StepResult
          after ws = Gives (called_configuration (configuration s G.p) (record v { environment = N.on.running.env }) k t owner ws)

          here : (b : Bool) → t.is_callable ≡ b → IfGives (λ y. Means G w.own y.1 entered_gate) (if b then and_then bound after else Fault 6)
          here true e = then_means G w.own entered_gate bound after (λ ws. enters G w.own t.gate c.gate I.target_is.gate (I.target_is.is_gate e))
          here false e = tt

      leaves_it : LeavesIt entered_gate (call_step G.program w o call back)
      leaves_it =
          subst (LeavesIt entered_gate) (sym computed)
          (provided_leaves c.is_set o fault.NotInitialised entered_gate passing
          (passed_leaves w (o.base + call.words) (o.base + call.words) call.arguments o entered_gate (entering_by I.runs.unit) (going G s before o N.part N.ready) (λ p on. WentOn refl on)))

      deep : depth k ≡ length (activations o.base o.frames (i ∷ l))
      deep =
          sym (depth_is G o.temps o.limit o.base (kept_below kept live o.temps N.on.running.temp) N.on.running o.frames place kept k I.waits.left) ∙ ap length I.waits.same

      live_same : (ws : Writes) → WritesIn (same_owner owner) ws → SameLive G (activations o.base o.frames (i ∷ l)) s.store (opened_store ws)
      live_same ws inside at h =
          put_outside (same_owner owner) (starting_writes (root owner) vars) (put_all ws (forget owner s.store)) at (starting_writes_in (same_owner owner) (root owner) vars (same_owner_itself owner)) other
          ∙ (put_outside (same_owner owner) ws (forget owner s.store) at inside other ∙ forgotten G (activations o.base o.frames (i ∷ l)) owner s.store (ap (OfActivation G.p) deep) at h)
        where
          vars : List (Name × declared.Variable)
          vars = declarations N.on.running.env.globals v.callee.routine.variables

          other : same_owner owner at.owner ≡ false
          other = inner (same_owner owner at.owner) refl
            where
              inner : (b : Bool) → same_owner owner at.owner ≡ b → b ≡ false
              inner false e = refl
              inner true e = absurd (omega (arith, h (depth k) (sym (owner_is owner at.owner e)), deep))

      stays : Stays N.on.running.env (clock_of G s) s.store w (held_below N.on.live o.temps N.on.running.temp) (lies_in_sight (in_sight G) G (activations o.base o.frames (i ∷ l))) top o
      stays ws len same =
          runs_here G s.store w (record o { words = ws }) (i ∷ l) (clock_of G s) N.around.clock (runs_over G s.store s.store o ws (i ∷ l) N.on (λ at h. refl) (λ n q. same n (beyond G s w N.around top n q)) len) sees

      sized : top + (first_parameter v.callee + locals_words N.on.running.env.globals (parameters (site G N.on.running) v.callee)) ≤ w.own
      sized =
          let g = ap (λ z. locals_words z (declarations z v.callee.routine.parameters)) N.on.runs.globals in
          omega (arith, g, locals_two (scope G) (declarations (scope G) v.callee.routine.parameters) (declarations (scope G) v.callee.routine.variables), I.represents.1, I.runs.fits.words, N.on.runs.words_fit, N.around.own, N.on.base)

      parts_lie : PartsLie N.on.running.env.globals (lies_in_sight (in_sight G) G (activations o.base o.frames (i ∷ l)))
      parts_lie at path n m t u is there =
          let z = seen_mine (in_sight G) G (activations o.base o.frames (i ∷ l)) at (n, t) is in
          seen_is (in_sight G) G (activations o.base o.frames (i ∷ l)) (under at path) (n + m, u) z.0
          (lies_under G (activations o.base o.frames (i ∷ l)) at path n m t u z.1 (ap (λ g. part g t path) (sym N.on.runs.globals) ∙ there))

      lying_there : (j : Location) (m : ℕ) (u : ResolvedType) → lies_in_sight (in_sight G) G (activations o.base o.frames (i ∷ l)) j ≡ Some (m, u) → m ≤ length o.words
      lying_there j m u is =
          let z = seen_mine (in_sight G) G (activations o.base o.frames (i ∷ l)) j (m, u) is in
          omega (arith, part_below G (activations o.base o.frames (i ∷ l)) top (runs_stacked G s.store o (i ∷ l) N.on) j m u z.0 z.1, N.on.count)

      passed_ok : PassingAgrees Bounds (KeptOutside top w.own o.words) o
          (bind (argument_writes (clock_of G s) N.on.running.env s.store) (root owner) (parameters (site G N.on.running) v.callee) v.arguments)
          (pass_all w top top call.arguments o)
      passed_ok =
          passes (site G N.on.running) (clock_of G s) s.store w (held_below N.on.live o.temps N.on.running.temp) (lies_in_sight (in_sight G) G (activations o.base o.frames (i ∷ l))) owner top o stays parts_lie lying_there
          (parameters (site G N.on.running) v.callee) v.arguments call.arguments (first_parameter v.callee) from last low high o.words I.arguments I.made I.distinct sized (omega (arith, N.around.own, N.on.count, own_in_whole G)) refl (λ z q. refl)

      env : Environment
      env = environment_of_call G k callee_system v.callee.routine t.component

      env_is : activation_environment (record v { environment = N.on.running.env }) t owner ≡ env
      env_is = λ z. record { globals = N.on.runs.globals z; system = I.target_is.system z; component = t.component; frame = Some (record { owner = owner; routine = v.callee.routine }) }

      entered : (ws : Writes) (new : List ℤ) → WritesIn (same_owner owner) ws → Bounds ws new → t.is_callable ≡ true
          → PartOf G (after_step s G.p (Gives (called_configuration (configuration s G.p) (record v { environment = N.on.running.env }) k t owner ws))) before
          (enter (record o { words = carry_out (o.base + call.words) I.runs.unit.starts new }) c I.runs.unit call back)
      entered ws new inside B callable =
          subst (λ e. PartOf G (after_step s G.p (Gives (record (configuration s G.p) { store = opened_store ws; continuation = push v.callee.routine.body e (EndCall e t.gate ∷ k) }, entering t.gate))) before after) (sym env_is)
          (gate_entered G s before t.gate after _ N.ready
          (went G s before o N.part (opened_store ws) after (push v.callee.routine.body env (EndCall env t.gate ∷ k))
          (entered_on G s.store (opened_store ws) o new_words (i ∷ l) k N.on call back callee_system v.callee.routine t.component c t.gate place kept live I.waits
          (record { runs = I.runs; represents = I.represents; room = component_room G I.few t.component callee_system c.component (I.target_is.lies_there callable); lies_there = I.target_is.lies_there callable; same_gate = I.target_is.gate; is_gate = I.target_is.is_gate callable })
          I.caller (I.target_is.given callable) (live_same ws inside) below (I.represents.0.length_is (o.base + call.words) new ∙ B.length_is) (I.opens ws new B.length_is B))
          record { number = refl; input = refl; consumed = refl; output = refl; activity = refl }))
        where
          new_words : List ℤ
          new_words = carry_out (o.base + call.words) I.runs.unit.starts new

          after : PrivateState
          after = enter (record o { words = carry_out (o.base + call.words) I.runs.unit.starts new }) c I.runs.unit call back

          start_room : o.base + call.words + activation_words (scope G) v.callee.routine ≤ length new
          start_room = omega (arith, I.represents.1, I.runs.fits.words, N.on.runs.words_fit, N.on.count, N.on.base, I.runs.words, B.length_is, own_in_whole G)

          below : SameBelow G (o.base + (site G N.on.running).words) o.words (carry_out (o.base + call.words) I.runs.unit.starts new)
          below z (inl q) =
              I.represents.0.outside (o.base + call.words) new z start_room
              (inl (omega (arith, q, I.runs.words))) (λ n e f. absurd (omega (arith, q, f, I.runs.words)))
              ∙ B.outside z (inl (omega (arith, q)))
          below z (inr q) =
              I.represents.0.outside (o.base + call.words) new z start_room
              (inr (omega (arith, q, I.represents.1, I.runs.fits.words, N.on.runs.words_fit, N.on.base, I.runs.words)))
              (λ n e f. absurd (omega (arith, q, f, result_inside (scope G) v.callee.routine n e, I.represents.1, I.runs.fits.words, N.on.runs.words_fit, N.on.base, I.runs.words)))
              ∙ B.outside z (inr (omega (arith, q, sized, N.around.own)))

      by : (b : Bool) → t.is_callable ≡ b
          → PartOf G (after_step s G.p (if b then and_then (bind (argument_writes (clock_of G s) N.on.running.env s.store) (root owner) (parameters (site G N.on.running) v.callee) v.arguments)
          (λ ws. Gives (called_configuration (configuration s G.p) (record v { environment = N.on.running.env }) k t owner ws)) else Fault 6)) before
          (guard b o fault.NotInitialised passing).0
      by false e = faulted G s w before o i l N 6 fault.NotInitialised refl
      by true e =
          inner (bind (argument_writes (clock_of G s) N.on.running.env s.store) (root owner) (parameters (site G N.on.running) v.callee) v.arguments)
          (pass_all w (o.base + call.words) (o.base + call.words) call.arguments o)
          (bind_in (same_owner owner) (argument_writes (clock_of G s) N.on.running.env s.store) (λ at d x h. argument_in (same_owner owner) (clock_of G s) N.on.running.env s.store at d x h) (root owner)
          (parameters (site G N.on.running) v.callee) v.arguments (same_owner_itself owner))
          (subst (λ z. PassingAgrees Bounds (KeptOutside top w.own o.words) o
          (bind (argument_writes (clock_of G s) N.on.running.env s.store) (root owner) (parameters (site G N.on.running) v.callee) v.arguments)
          (pass_all w z z call.arguments o)) (ap (λ z. o.base + z) (sym I.runs.words)) passed_ok)
        where
          inner : (O : Outcome Writes) (P : Passing) → IfGives (WritesIn (same_owner owner)) O → PassingAgrees Bounds (KeptOutside top w.own o.words) o O P
              → PartOf G (after_step s G.p (and_then O (λ ws. Gives (called_configuration (configuration s G.p) (record v { environment = N.on.running.env }) k t owner ws)))) before (when_passed P (entering_by I.runs.unit)).0
          inner (Fault j) P inside h =
              subst (λ x. PartOf G (after_step s G.p (Fault j)) before (elim x as (λ y. Acting) [ None ↦ entering_by I.runs.unit P.own | Some f ↦ fault_in P.own f ]).0) (sym h.1)
              (subst (λ p. PartOf G (after_step s G.p (Fault j)) before (fault_in p h.0).0) (sym h.3)
              (stopped G s before o N.part P.own.words j h.0 h.2 over.count
              (subst (λ x. DataMeans G (activations o.base o.frames x) (in_sight G) s.store P.own.words) (sym N.left) over.data_means)))
            where
              over : RunsOn G s.store (record o { words = P.own.words }) (i ∷ l)
              over = runs_over G s.store s.store o P.own.words (i ∷ l) N.on (λ at q. refl) (λ n q. h.4.1 n (beyond G s w N.around top n q)) h.4.0
          inner (Gives ws) P inside h =
              subst (λ x. PartOf G (after_step s G.p (Gives (called_configuration (configuration s G.p) (record v { environment = N.on.running.env }) k t owner ws))) before (elim x as (λ y. Acting) [ None ↦ entering_by I.runs.unit P.own | Some f ↦ fault_in P.own f ]).0) (sym h.0)
              (subst (λ p. PartOf G (after_step s G.p (Gives (called_configuration (configuration s G.p) (record v { environment = N.on.running.env }) k t owner ws))) before (entering_by I.runs.unit p).0) (sym h.1)
              (entered ws P.own.words inside h.2 e))

      part : PartOf G (defined v.environment) before (call_step G.program w o call back).0
      part =
          subst (λ e. PartOf G (defined e) before (call_step G.program w o call back).0) (sym I.where_is)
          (subst (λ (x : Acting). PartOf G (defined N.on.running.env) before x.0) (sym computed)
          (subst (λ b. PartOf G (defined N.on.running.env) before (guard b o fault.NotInitialised passing).0) (sym I.target_is.set_is) (by t.is_callable refl)))
