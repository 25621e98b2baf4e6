-- Whole private steps of the `init` of a class. The arguments are passed beyond all activations and moved
-- to the words after the mark (`Settling`). The mark is stored. The body has its caller's activations.
use Rattle.cp_model_machine.proofs.OwnersFit.{component_room}
use Rattle.std.proofs.Common.{Bool, List, None, Option, Some, [], ap, arith, false, inl, inr, length, pos, refl, subst, sym, true, ℕ, ℤ, ◌+◌, ◌<◌, ◌∙◌, ◌∷◌, ◌≡◌, ◌≤◌, ◌⊎◌}
use Rattle.std.specs.Prelude.{if◌then◌else◌, not}
use Rattle.cp_model.specs.Abstract as a
use Rattle.cp_model.specs.Abstract.{Class, Name, System}
use Rattle.cp_model.specs.Arguments.{bind, init_argument_writes}
use Rattle.cp_model.specs.CallSteps.{is_initialised}
use Rattle.cp_model.specs.Components.{Component, class_location, class_or_here, component_named, name_location, same_sort}
use Rattle.cp_model.specs.Configurations.{StepResult, own_step, with_continuation}
use Rattle.cp_model.specs.Continuations.{Do, EndBody, Task, marked_monitors, push}
use Rattle.cp_model.specs.Calls.{call_in_arguments}
use Rattle.cp_model.specs.Declarations.{Variable, declarations, is_component, reported_members}
use Rattle.cp_model.specs.Environments.{Environment}
use Rattle.cp_model.specs.Initialisation.{body_environment, init_arguments, init_component}
use Rattle.cp_model.specs.Integers.{same_integer}
use Rattle.cp_model.specs.Invariant.{StoreInvariant}
use Rattle.cp_model.specs.Locations.{Location}
use Rattle.cp_model.specs.Outcomes.{Fault, Gives, Outcome, and_then}
use Rattle.cp_model.specs.States.{State, configuration, context}
use Rattle.cp_model.specs.Stores.{Initialised, Store, Writes, put, put_all}
use Rattle.cp_model.specs.Turns.{after_step}
use Rattle.cp_model.specs.Types.{ComponentOf}
use Rattle.cp_model.specs.declared.state.Fault.TheVariants as fault
use Rattle.cp_model_program.specs.Terms as target
use Rattle.cp_model_program.specs.Terms.{Argument}
use Rattle.cp_model_program.specs.Programs as op
use Rattle.cp_model_program.specs.Programs.{Call, CodeUnit}
use Rattle.cp_law_typing.specs.Declared.{Distinct}
use Rattle.cp_law_typing.specs.StartValues.{IsIn}
use Rattle.cp_law_typing.specs.Words.{words}
use Rattle.cp_model_program.specs.Layout.{Part, member, component_words, most_words}
use Rattle.cp_model_program.specs.Sites as sites
use Rattle.cp_model_program.specs.Sites.{BodyOf, TargetOf, operation_at}
use Rattle.cp_model_program.specs.IsProgramFor.{UnitRepresents, end_of}
use Rattle.cp_model_program.specs.Starts.{block, paste, word}
use Rattle.cp_model_program.specs.StatementsFor.{InitArgumentsFor, InitsBy}
use Rattle.cp_model_program.specs.TermsFor.{Knowns, nothing_known}
use Rattle.cp_model_machine.specs.PrivateStates as machine
use Rattle.cp_model_machine.specs.PrivateStates.{Acting, Effect, StepContext, PrivateState, fault_in, private_outcome, guard, set_word}
use Rattle.cp_model_machine.specs.Passing.{Passing, component_called, pass_all, when_passed}
use Rattle.cp_model_machine.specs.Calling.{Back, class_at, enter, frame_of, has_room, init_class, settle}
use Rattle.cp_model_machine.specs.Addresses.{Activation, ClassLies, Ground, HasRights, activations, component_type, in_sight, lies, scope, lies_in_sight, whole}
use Rattle.cp_model_machine.specs.Remaining.{Remaining, Running, Runs, innermost_gate, site}
use Rattle.cp_model_machine.specs.PartOf.{ActivationsMean, DataMeans, PartOf, RunsOn}
use Rattle.cp_model_machine.proofs.Apart.{IsCell, IsClass}
use Rattle.cp_model_machine.proofs.CallSteps.{UnitsRepresent}
use Rattle.cp_model_machine.proofs.Doing.{Ready, known, statement_steps}
use Rattle.cp_model_machine.proofs.Given.{KeepsGiven, class_has_rights, system_same}
use Rattle.cp_model_machine.proofs.Heres.{lies_any}
use Rattle.cp_model_machine.proofs.Holding.{written_keeps}
use Rattle.cp_model_machine.proofs.Pushing.{marks_push, push_left}
use Rattle.cp_model_machine.proofs.Copying.{copied_length}
use Rattle.cp_model_machine.proofs.Declared.{distinct_first}
use Rattle.cp_model_machine.proofs.Declares.{Declares}
use Rattle.cp_model_machine.proofs.Finding.{in_context_none}
use Rattle.cp_model_machine.proofs.InitOffsets.{Offset}
use Rattle.cp_model_machine.proofs.InitPassing.{InitAgrees, InitBound, passes_init}
use Rattle.cp_model_machine.proofs.InitRights.{given}
use Rattle.cp_model_machine.proofs.InitSettled.{component_below, init_count, init_offsets, init_settled, init_values}
use Rattle.cp_model_machine.proofs.Placing.{Placed, class_placed}
use Rattle.cp_model_machine.proofs.ProcessRights.{NoClassRights}
use Rattle.cp_model_machine.proofs.Rooms.{room_for}
use Rattle.cp_model_machine.proofs.RunningOn.{left_afresh, runs_here, runs_over, runs_stacked, runs_stored, words_of_body}
use Rattle.cp_model_machine.proofs.Settling.{Settled, has_settled, runs_settled}
use Rattle.cp_model_machine.proofs.Stacks.{Stacked, own_in_whole}
use Rattle.cp_model_machine.proofs.Stepping.{Stepped, beyond, clock_of, faulted, stopped, went}
use Rattle.cp_model_machine.proofs.Targets.{class_lies, lies_below, mark_is}
use Rattle.cp_model_machine.specs.Means.{MarkMeans}
use Rattle.cp_model_machine.proofs.Effects.{quiet_agrees}
use Rattle.cp_model_machine.proofs.QuietOperations.{operation_quiet}
use Rattle.cp_model.proofs.QuietSteps.{Quietly, if_quiet, then_quiet}

-- The body of a class.
abbrev body_of_class : Ground → System → Location → Environment
body_of_class G s at = record { globals = scope G; system = s; component = at; frame = None }

-- The process runs on in the body, where the mark is set.
body_entered : (G : Ground) (store : Store) (o : PrivateState) (i : Task) (k : List Task) (R : RunsOn G store o (i ∷ k)) (call : Call) (back : Back) (s : System) (at : Location) (n kept : ℕ)
    → (C : sites.Runs (site G R.running) (BodyOf s) kept call) → UnitRepresents G.program G.texts (scope G) C.unit (BodyOf s) → component_words (scope G) s ≤ most_words → s.sort ≡ Class → in_sight G at.owner ≡ true → lies G [] at ≡ Some (n, component_type G s) → HasRights G store at s
    → activations o.base o.frames (i ∷ k) ≡ activations o.base o.frames k → ActivationsMean G (put at (Initialised true) store) (set_word o n (pos 1)).words o.base o.frames (i ∷ k) ≡ ActivationsMean G (put at (Initialised true) store) (set_word o n (pos 1)).words o.base o.frames k
    → marked_monitors (i ∷ k) ≡ marked_monitors k
    → Remaining G o.temps o.limit nothing_known R.running o.frames back.counter kept k → kept ≤ R.running.unit.temps
    → RunsOn G (put at (Initialised true) store) (enter (set_word o n (pos 1)) (class_at n) C.unit call back) (push s.body (body_of_class G s at) (EndBody None ∷ k))
body_entered G store o i k R call back s at n kept C represents room sort own there has same means marks left fits = record {
  at = record {
    running = N;
    runs = new_runs;
    base = omega (arith, R.base);
    temp = omega (arith, R.temp);
    component = refl;
    gate = held ∙ ap innermost_gate (sym (marks_push s.body env (EndBody None ∷ k)));
    live = 0;
    left = left_afresh G o.temps o.limit 0 N (f ∷ o.frames) C.unit.start 0 (push s.body env (EndBody None ∷ k)) (omega arith)
        (push_left G o.temps o.limit N (f ∷ o.frames) s.body C.unit.start (represents.2 room at).0 0 (EndBody None ∷ k) (represents.2 room at).2 (
          refl,
          (represents.2 room at).1 ∙ ap (λ z. Some (end_of z)) sort,
          (refl, held, tt),
          (
            R.running,
            kept,
            R.runs,
            record {
              base = R.base;
              temp = R.temp;
              component = R.component;
              words_apart = omega (arith, C.words);
              temps_apart = omega (arith, C.temps);
              kept_fit = fits;
            },
            left,
          ),
        ));
    next_value = λ d m q e. omega arith;
  };
  words_mean = words_of_body G (put at (Initialised true) store) (set_word o n (pos 1)).words (o.base + call.words) n f o.frames s.body env None i k same means
      (class_has_rights G ys top stack at s n own sort there (put at (Initialised true) store) (written at s n sort there has)) S.words_mean;
}
  where
    N : Running
    N = record {
      number = call.routine;
      unit = C.unit;
      text = BodyOf s;
      env = body_of_class G s at;
      base = R.running.base + call.words;
      temp = R.running.temp + call.temps;
      component = n;
    }

    env : Environment
    env = body_of_class G s at

    f : machine.Frame
    f = frame_of o (class_at n) back

    is_cell : IsCell (component_type G s)
    is_cell = subst IsClass (sym sort) tt

    S : RunsOn G (put at (Initialised true) store) (set_word o n (pos 1)) (i ∷ k)
    S =
        runs_stored G store o (i ∷ k) R at n (component_type G s) (Initialised true) (pos 1) is_cell
        (subst (λ z. MarkMeans z (Initialised true) (pos 1)) (sym sort) refl) own (lies_any G (activations o.base o.frames (i ∷ k)) at _ there)
        (λ r class' type set. subst (HasRights G store at) (system_same G s r type) has)

    ys : List Activation
    ys = activations o.base o.frames (i ∷ k)

    top : ℕ
    top = o.base + (site G R.running).words

    stack : Stacked G top ys
    stack = runs_stacked G store o (i ∷ k) R

    written : KeepsGiven G store (put at (Initialised true) store)
    written = written_keeps G ys top stack store o.words at n (component_type G s) (Initialised true) (pos 1) is_cell (subst (λ z. MarkMeans z (Initialised true) (pos 1)) (sym sort) refl) own (lies_any G ys at _ there)

    held : o.gate ≡ innermost_gate (marked_monitors k)
    held = R.gate ∙ ap innermost_gate marks

    new_runs : Runs G (length o.temps) o.limit N (f ∷ o.frames)
    new_runs = record {
      unit = C.there;
      text = C.text;
      globals = refl;
      system = refl;
      frame = tt;
      component = ClassLies sort there;
      words_fit = omega (arith, R.runs.words_fit, C.fits.words, C.words);
      temps_fit = omega (arith, R.runs.temps_fit, C.fits.temps, C.temps);
      frames_fit = omega (arith, R.runs.frames_fit, C.fits.frames);
      activation_fits = omega arith;
    }

pub init_steps : (G : Ground) (s : State) (w : StepContext) (before : List ℕ) (o : PrivateState) (x : Name) (es : a.Expressions) (env : Environment) (k : List Task) → StoreInvariant s.store → UnitsRepresent G
    → (Y : Ready G s w before o (a.Init x es) env k) (call : Call) (next : ℕ) → operation_at G.program o.counter ≡ Some (op.InitClass call next)
    → InitsBy (site G Y.now.on.running) (known G s w before o (Do (a.Init x es) env) k Y.now) Y.now.on.left.2.3.2 es (op.InitClass call next) o.counter Y.now.on.left.2.3.0 Y.now.on.left.2.0 Y.now.on.left.2.1
    → NoClassRights G → Declares G Y.now.on.running.env → Stepped G s w before o
init_steps G s w before o x es env k I units Y call next there h none declares =
    statement_steps G s w before o (a.Init x es) env k Y (op.InitClass call next) refl private there refl
    (subst (λ (z : Option Component). PartOf G (after_step s G.p (elim z as (λ y. StepResult) [ None ↦ own_step (with_continuation (configuration s G.p) k) | Some m ↦ init_component m.system.sort (context G.setup s G.p) (configuration s G.p) here k es m ])) before computed)
    (sym Y.now.on.left.2.3.4)
    (subst (λ z. PartOf G (after_step s G.p (init_component z (context G.setup s G.p) (configuration s G.p) here k es n)) before computed) (sym h.0)
    (subst (λ b. PartOf G (after_step s G.p (inits (if b then class_or_here (name_location here n) (s.store (name_location here n)) else name_location here n) (declarations here.globals n.system.parameters) es)) before computed) (sym h.2.own)
    (by_target call.target target_for refl))))
    (λ all. quiet_agrees G w.own _ computed_effect
    (subst (λ (z : Option Component). Quietly (elim z as (λ y. StepResult) [ None ↦ own_step (with_continuation (configuration s G.p) k) | Some m ↦ init_component m.system.sort (context G.setup s G.p) (configuration s G.p) here k es m ]))
    (sym Y.now.on.left.2.3.4)
    (subst (λ z. Quietly (init_component z (context G.setup s G.p) (configuration s G.p) here k es n)) (sym h.0)
    (if_quiet (is_initialised (s.store (class_location here s.store n))) _ _ tt
    (then_quiet (init_arguments (context G.setup s G.p) (configuration s G.p) here es n (class_location here s.store n)) _ (λ ws. tt)))))
    (operation_quiet G.program w o (op.InitClass call next) tt))
  where
    here : Environment
    here = Y.now.on.running.env

    n : Component
    n = Y.now.on.left.2.3.2

    computed : PrivateState
    computed = (init_class G.program w o call (component_called G.program w o call.target).component next).0

    computed_effect : Effect
    computed_effect = (init_class G.program w o call (component_called G.program w o call.target).component next).1

    private : not (elim (component_named here x) as (λ y. Bool) [ None ↦ true | Some c ↦ same_sort a.Class c.system.sort ]) ≡ false
    private =
        ap (λ (z : Option Component). not (elim z as (λ y. Bool) [ None ↦ true | Some c ↦ same_sort a.Class c.system.sort ])) Y.now.on.left.2.3.4
        ∙ ap (λ z. not (same_sort a.Class z)) h.0

    inits : Location → List (Name × Variable) → a.Expressions → StepResult
    inits at ps es =
        if is_initialised (s.store at) then Fault 7
        else and_then (bind (λ l v e. init_argument_writes n.system.sort (context G.setup s G.p).clock here s.store l v.type e) at ps es) (λ ws.
        own_step (record (configuration s G.p) {
          store = put at (Initialised true) (put_all ws s.store);
          continuation = push n.system.body (body_environment here n.system at) (EndBody None ∷ k);
        }))

    target_for : TargetOf here n Class false call.target
    target_for = subst (λ z. TargetOf here n z false call.target) h.0 (subst (λ b. TargetOf here n n.system.sort b call.target) h.2.own h.2.target)

    started : ℕ → List Argument → CodeUnit → Acting
    started at xs u =
        guard (same_integer (word o.words at) (pos 0)) o fault.InitialisedTwice
        (when_passed (pass_all w (o.base + call.words) at xs o) (λ p.
        private_outcome (enter (set_word (settle p (o.base + call.words) at (length xs)) at (pos 1)) (class_at at) u call (record { counter = next; into = 0 }))))

    has_unit : (at : ℕ) → at ≤ whole G → (init_class G.program w o call at next).0 ≡ (started at call.arguments h.2.runs.unit).0
    has_unit at there =
        (λ z. (elim (h.2.runs.there z) as (λ x. Acting) [ None ↦ private_outcome o | Some u ↦ if has_room w o call u at then started at call.arguments u else private_outcome o ]).0)
        ∙ ap (λ b. (if b then started at call.arguments h.2.runs.unit else private_outcome o).0) room
      where
        room : has_room w o call h.2.runs.unit at ≡ true
        room =
            room_for w o call h.2.runs.unit at (omega (arith, Y.now.on.runs.frames_fit, h.2.runs.fits.frames))
            (omega (arith, Y.now.on.base, Y.now.around.own, Y.now.on.runs.words_fit, h.2.runs.fits.words, h.2.runs.words))
            (omega (arith, Y.now.on.temp, Y.now.on.runs.temps_fit, h.2.runs.fits.temps, h.2.runs.temps)) (omega (arith, there, Y.now.on.count))

    first : Task
    first = Do (a.Init x es) env

    top : ℕ
    top = o.base + (site G Y.now.on.running).words

    passed : List (Name × Variable)
    passed = declarations (scope G) n.system.parameters

    known_here : Knowns
    known_here = known G s w before o first k Y.now

    lying' : Location → Option Part
    lying' = lies_in_sight (in_sight G) G (activations o.base o.frames (first ∷ k))

    back : Back
    back = record { counter = next; into = 0 }

    represents : UnitRepresents G.program G.texts (scope G) h.2.runs.unit (BodyOf n.system)
    represents = units.1 call.routine h.2.runs.unit (BodyOf n.system) h.2.runs.there h.2.runs.text

    names : Distinct (declarations (scope G) n.system.parameters)
    names = distinct_first (declarations (scope G) n.system.parameters) (declarations (scope G) n.system.variables) represents.1

    arguments : InitArgumentsFor (site G Y.now.on.running) known_here n.system passed es call.arguments o.counter Y.now.on.left.2.3.0 Y.now.on.left.2.1 Y.now.on.running.unit.temps
    arguments =
        subst (λ g. InitArgumentsFor (site G Y.now.on.running) known_here n.system (declarations g n.system.parameters) es call.arguments o.counter Y.now.on.left.2.3.0 Y.now.on.left.2.1 Y.now.on.running.unit.temps)
        Y.now.on.runs.globals h.3

    count : length call.arguments ≡ length passed
    count = init_count (site G Y.now.on.running) known_here n.system passed es call.arguments o.counter Y.now.on.left.2.3.0 Y.now.on.left.2.1 Y.now.on.running.unit.temps arguments

    one : (p : Name × Variable) → IsIn p (declarations (scope G) n.system.parameters) → is_component p.1.type ≡ false → (words (scope G) p.1.type ≡ 1) × IsCell p.1.type
    one p i component =
        init_values (site G Y.now.on.running) known_here n.system passed es call.arguments o.counter Y.now.on.left.2.3.0 Y.now.on.left.2.1 Y.now.on.running.unit.temps arguments (scope G) p i component

    offsets : (p : Name × Variable) → IsIn p (declarations (scope G) n.system.parameters) → (k : ℕ) × Offset (scope G) n.system p k
    offsets p i =
        init_offsets (scope G) (site G Y.now.on.running) known_here n.system Y.now.on.runs.globals names one passed es call.arguments o.counter Y.now.on.left.2.3.0 Y.now.on.left.2.1 Y.now.on.running.unit.temps arguments (λ q j. j) p i

    -- The arguments are passed to the words after the running activation.
    passed_ok : (c : ℕ) → c + length passed ≤ length o.words
        → InitAgrees G n.system (name_location here n) c (o.base + call.words) names one passed w.own (record o { words = o.words }) o.words
        (bind (λ l v e. init_argument_writes n.system.sort (clock_of G s) here s.store l v.type e) (name_location here n) passed es) (pass_all w (o.base + call.words) c call.arguments o)
    passed_ok c there =
        subst (λ z. InitAgrees G n.system (name_location here n) c (o.base + z) names one passed w.own (record o { words = o.words }) o.words
        (bind (λ l v e. init_argument_writes n.system.sort (clock_of G s) here s.store l v.type e) (name_location here n) passed es) (pass_all w (o.base + z) c call.arguments o)) (sym h.2.runs.words)
        (passes_init G n.system (name_location here n) c top names one (site G Y.now.on.running) (clock_of G s) s.store w known_here lying' o
        (λ ws len same. runs_here G s.store w (record o { words = ws }) (first ∷ k) (clock_of G s) Y.now.around.clock (runs_over G s.store s.store o ws (first ∷ k) Y.now.on (λ at q. refl) (λ j q. same j (beyond G s w Y.now.around top j q)) len) Y.now.sees)
        Y.now.on.runs.globals
        (λ m t f y named ws same len j inner l room z u right type. given G s w before o first k Y.now Y.now.sees I none declares n.system c m (λ e. h.0) t f y named ws (λ z q. same z (beyond G s w Y.now.around top z q)) len j inner l room)
        there
        passed es call.arguments o.counter Y.now.on.left.2.3.0 Y.now.on.left.2.1 Y.now.on.running.unit.temps o.words arguments
        (in_context_none (a.Init x) (call_in_arguments here (a.Literal 0) es) Y.none) names (λ p i. i)
        (omega (arith, h.2.room, count, Y.now.on.runs.words_fit, Y.now.around.own, Y.now.on.base)) (omega (arith, Y.now.around.own, Y.now.on.count, own_in_whole G)) refl (λ z q. refl))

    -- The mark is tested, the arguments become the parameters, the mark is set, and the body is
    -- entered.
    begins : (off : ℕ) → member here.globals here.system n.name ≡ Some (off, ComponentOf n.system (reported_members here.globals n.system))
        → PartOf G (after_step s G.p (inits (name_location here n) (declarations here.globals n.system.parameters) es)) before (started (o.component + off) call.arguments h.2.runs.unit).0
    begins off f =
        subst (λ g. PartOf G (after_step s G.p (inits (name_location here n) (declarations g n.system.parameters) es)) before (started (o.component + off) call.arguments h.2.runs.unit).0) (sym Y.now.on.runs.globals)
        (subst (λ z. PartOf G (after_step s G.p (if z then Fault 7 else meant)) before (started (o.component + off) call.arguments h.2.runs.unit).0) mark
        (by (same_integer (word o.words (o.component + off)) (pos 0))))
      where
        c : ℕ
        c = o.component + off

        at : Location
        at = name_location here n

        lying : lies G [] (name_location here n) ≡ Some (o.component + off, component_type G n.system)
        lying = class_lies G s w before o first k Y.now Y.now.sees I n off f

        placed : Placed G (activations o.base o.frames (first ∷ k)) top (name_location here n) (o.component + off) n.system
        placed =
            class_placed G (activations o.base o.frames (first ∷ k)) top (runs_stacked G s.store o (first ∷ k) Y.now.on) (name_location here n) (o.component + off) n.system Y.now.sees.component h.0 lying

        mark : not (same_integer (word o.words (o.component + off)) (pos 0)) ≡ is_initialised (s.store (name_location here n))
        mark = mark_is G (activations o.base o.frames (first ∷ k)) s.store o.words Y.now.on.data_means (name_location here n) (o.component + off) n.system Y.now.sees.component h.0 lying

        -- The body is left to do, with these parameters.
        after_writes : Writes → StepResult
        after_writes ws = own_step (record (configuration s G.p) {
          store = put (name_location here n) (Initialised true) (put_all ws s.store);
          continuation = push n.system.body (body_environment here n.system (name_location here n)) (EndBody None ∷ k);
        })

        meant : StepResult
        meant = and_then (bind (λ l v e. init_argument_writes n.system.sort (clock_of G s) here s.store l v.type e) (name_location here n) passed es) after_writes

        begun : PrivateState → Acting
        begun p = private_outcome (enter (set_word (settle p (o.base + call.words) (o.component + off) (length call.arguments)) (o.component + off) (pos 1)) (class_at (o.component + off)) h.2.runs.unit call back)

        env_is : body_environment here n.system (name_location here n) ≡ body_of_class G n.system (name_location here n)
        env_is = λ z. record { globals = Y.now.on.runs.globals z; system = n.system; component = name_location here n; frame = None }

        moved : List ℤ → List ℤ
        moved us = paste (o.component + off + 1) (block us (o.base + call.words + 1) (length passed)) us

        entered : (ws : Writes) (us : List ℤ) → InitBound G n.system (name_location here n) (o.component + off) (o.base + call.words) names one passed ws o.words us
            → PartOf G (after_step s G.p (after_writes ws)) before (begun (record o { words = us })).0
        entered ws us B =
            subst (λ z. PartOf G (after_step s G.p (after_writes ws)) before
            (enter (set_word (settle (record o { words = us }) (o.base + call.words) (o.component + off) z) (o.component + off) (pos 1)) (class_at (o.component + off)) h.2.runs.unit call back)) (sym count)
            (subst (λ y. PartOf G (after_step s G.p (own_step (record (configuration s G.p) {
              store = put (name_location here n) (Initialised true) (put_all ws s.store);
              continuation = push n.system.body y (EndBody None ∷ k);
            }))) before result) (sym env_is)
            (went G s before o Y.now.part (put (name_location here n) (Initialised true) (put_all ws s.store)) result (push n.system.body (body_of_class G n.system (name_location here n)) (EndBody None ∷ k))
            (body_entered G (put_all ws s.store) (record o { words = moved us }) first k
            (runs_settled G s.store (put_all ws s.store) o (moved us) (first ∷ k) Y.now.on (name_location here n) (o.component + off) n.system placed represents.1 one offsets settled
            (copied_length us us (o.component + off + 1) (o.base + call.words + 1) (length passed) ∙ B.length_is))
            call back n.system (name_location here n) (o.component + off) Y.now.on.left.2.1 h.2.runs represents (component_room G units.0 (name_location here n) n.system (o.component + off) (ClassLies h.0 lying)) h.0 Y.now.sees.component lying
            (has_settled G (activations o.base o.frames (first ∷ k)) top (runs_stacked G s.store o (first ∷ k) Y.now.on) s.store (put_all ws s.store) o.words (moved us) (name_location here n) (o.component + off) n.system placed represents.1 one offsets settled)
            refl refl refl
            (subst (λ z. Remaining G o.temps o.limit nothing_known Y.now.on.running o.frames z Y.now.on.left.2.1 k) (sym h.1) Y.now.on.left.2.4) Y.now.on.left.2.2)
            record { number = refl; input = refl; consumed = refl; output = refl; activity = refl }))
          where
            settled : Settled G top s.store (put_all ws s.store) o.words (moved us) (name_location here n) (o.component + off) n.system
            settled =
                init_settled G (activations o.base o.frames (first ∷ k)) top (runs_stacked G s.store o (first ∷ k) Y.now.on) (name_location here n) (o.component + off) (o.base + call.words) n.system placed names one
                s.store o.words us ws B (ap (λ z. o.base + z) h.2.runs.words) (omega (arith, h.2.room, h.2.runs.words, count, Y.now.on.runs.words_fit, Y.now.on.base)) (B.length_is ∙ Y.now.on.count)

            result : PrivateState
            result = enter (set_word (record o { words = moved us }) (o.component + off) (pos 1)) (class_at (o.component + off)) h.2.runs.unit call back

        inner : (O : Outcome Writes) (P : Passing)
            → InitAgrees G n.system (name_location here n) (o.component + off) (o.base + call.words) names one passed w.own (record o { words = o.words }) o.words O P
            → PartOf G (after_step s G.p (and_then O after_writes)) before (when_passed P begun).0
        inner (Fault j) P g =
            subst (λ y. PartOf G (after_step s G.p (Fault j)) before (elim y as (λ z. Acting) [ None ↦ begun P.own | Some e ↦ fault_in P.own e ]).0) (sym g.1)
            (subst (λ p. PartOf G (after_step s G.p (Fault j)) before (fault_in p g.0).0) (sym g.3)
            (stopped G s before o Y.now.part P.own.words j g.0 g.2 over.count
            (subst (λ y. DataMeans G (activations o.base o.frames y) (in_sight G) s.store P.own.words) (sym Y.now.left) over.data_means)))
          where
            behind : (z : ℕ) → (z < top) ⊎ (w.own ≤ z) → (z < o.base + call.words) ⊎ (w.own ≤ z)
            behind z (inl q) = inl (omega (arith, q, h.2.runs.words))
            behind z (inr q) = inr q

            over : RunsOn G s.store (record o { words = P.own.words }) (first ∷ k)
            over = runs_over G s.store s.store o P.own.words (first ∷ k) Y.now.on (λ l q. refl) (λ z q. g.4.1 z (behind z (beyond G s w Y.now.around top z q))) g.4.0
        inner (Gives ws) P g =
            subst (λ y. PartOf G (after_step s G.p (after_writes ws)) before (elim y as (λ z. Acting) [ None ↦ begun P.own | Some e ↦ fault_in P.own e ]).0) (sym g.0)
            (subst (λ p. PartOf G (after_step s G.p (after_writes ws)) before (begun p).0) (sym g.1) (entered ws P.own.words g.2))

        by : (b : Bool) → PartOf G (after_step s G.p (if not b then Fault 7 else meant)) before
            (guard b o fault.InitialisedTwice (when_passed (pass_all w (o.base + call.words) (o.component + off) call.arguments o) begun)).0
        by false = faulted G s w before o first k Y.now 7 fault.InitialisedTwice refl
        by true = inner (bind (λ l v e. init_argument_writes n.system.sort (clock_of G s) here s.store l v.type e) (name_location here n) passed es) (pass_all w (o.base + call.words) (o.component + off) call.arguments o)
            (passed_ok (o.component + off)
            (omega (arith, component_below G (activations o.base o.frames (first ∷ k)) top (runs_stacked G s.store o (first ∷ k) Y.now.on) (name_location here n) (o.component + off) top n.system placed names one, Y.now.on.count)))

    by_target : (t : target.Target) → TargetOf here n Class false t → call.target ≡ t
        → PartOf G (after_step s G.p (inits (name_location here n) (declarations here.globals n.system.parameters) es)) before computed
    by_target (target.Class off) f e =
        subst (λ z. PartOf G (after_step s G.p (inits (name_location here n) (declarations here.globals n.system.parameters) es)) before (init_class G.program w o call (component_called G.program w o z).component next).0) (sym e)
        (subst (PartOf G (after_step s G.p (inits (name_location here n) (declarations here.globals n.system.parameters) es)) before) (sym (has_unit (o.component + off) (lies_below G s w before o first k Y.now Y.now.sees I (name_location here n) (o.component + off) _ Y.now.sees.component (class_lies G s w before o first k Y.now Y.now.sees I n off f))))
        (begins off f))
    by_target _ f e = absurd f
