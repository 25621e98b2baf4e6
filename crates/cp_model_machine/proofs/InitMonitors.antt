-- The `init` of a monitor, with all words in reach: its parameters are stored in it, and its body
-- is entered while its gate is held.
use Rattle.cp_model_machine.proofs.OwnersFit.{component_room}
use Rattle.std.proofs.Common.{suc, zero, Bool, List, None, Option, Some, [], ap, arith, false, inl, inr, length, refl, subst, sym, true, ℕ, ℤ, ◌+◌, ◌<◌, ◌∙◌, ◌∷◌, ◌≡◌, ◌≤◌, ◌⊎◌}
use Rattle.std.specs.Prelude.{if◌then◌else◌, not}
use Rattle.cp_model.specs.Abstract as a
use Rattle.cp_model.specs.Abstract.{Class, Monitor, Name, System}
use Rattle.cp_model.specs.Arguments.{bind, init_argument_writes}
use Rattle.cp_model.specs.Components.{Component, declared_monitor, monitor_location, monitor_right, name_location}
use Rattle.cp_model.specs.Configurations.{Opens, StepResult, own_step, with_continuation}
use Rattle.cp_model.specs.Continuations.{Do, EndBody, Task, marked_monitors, push}
use Rattle.cp_model.specs.Calls.{call_in_arguments}
use Rattle.cp_model.specs.Declarations.{Variable, declarations, is_component}
use Rattle.cp_model.specs.Environments.{Environment}
use Rattle.cp_model.specs.Initialisation.{body_environment, init_component}
use Rattle.cp_model.specs.Invariant.{StoreInvariant}
use Rattle.cp_model.specs.Locations.{Location, OfMonitor}
use Rattle.cp_model.specs.Outcomes.{Fault, Gives, Outcome, and_then}
use Rattle.cp_model.specs.States.{HeldBy, State, configuration, context, is_set}
use Rattle.cp_model.specs.Stores.{Store, Writes, put_all}
use Rattle.cp_model.specs.Turns.{after_step}
use Rattle.cp_model.specs.declared.state.Fault.TheVariants as fault
use Rattle.cp_model_program.specs.Terms as target
use Rattle.cp_model_program.specs.Terms.{Argument}
use Rattle.cp_model_program.specs.Programs as op
use Rattle.cp_model_program.specs.Programs.{Call}
use Rattle.cp_law_typing.specs.Declared.{Distinct}
use Rattle.cp_law_typing.specs.StartValues.{IsIn}
use Rattle.cp_law_typing.specs.Words.{words}
use Rattle.cp_model_program.specs.Layout.{Part, component_words, most_words}
use Rattle.cp_model_program.specs.Sites as sites
use Rattle.cp_model_program.specs.Sites.{BodyOf, TargetOf}
use Rattle.cp_model_program.specs.IsProgramFor.{UnitRepresents, end_of, system_of_monitor}
use Rattle.cp_model_program.specs.Starts.{block, paste}
use Rattle.cp_model_program.specs.StatementsFor.{InitArgumentsFor, InitsBy}
use Rattle.cp_model_program.specs.TermsFor.{Knowns, nothing_known}
use Rattle.cp_model_machine.specs.PrivateStates as machine
use Rattle.cp_model_machine.specs.PrivateStates.{Acting, StepContext, PrivateState, fault_in, private_outcome, guard}
use Rattle.cp_model_machine.specs.Passing.{Called, Passing, component_called, monitor_called, monitor_start, pass_all, when_passed}
use Rattle.cp_model_machine.specs.Calling.{Back, enter, frame_of, has_room, init_monitor, innermost, settle}
use Rattle.cp_model_machine.specs.Addresses.{Activation, ClassHasRights, Ground, HasRights, MonitorLies, activations, in_sight, lies, scope, lies_in_sight, whole, words_seen}
use Rattle.cp_model_machine.specs.Remaining.{Remaining, Running, Runs, innermost_gate, site}
use Rattle.cp_model_machine.specs.PartOf.{ActivationsMean, DataMeans, PartOf, RunsOn}
use Rattle.cp_model_machine.proofs.Apart.{IsCell}
use Rattle.cp_model_machine.proofs.CallSteps.{UnitsRepresent}
use Rattle.cp_model_machine.proofs.Doing.{Ready, executed, known}
use Rattle.cp_model_machine.proofs.Pushing.{marks_push, push_left}
use Rattle.cp_model_machine.proofs.Copying.{copied_length}
use Rattle.cp_model_machine.proofs.Declared.{distinct_first}
use Rattle.cp_model_machine.proofs.Declares.{Declares}
use Rattle.cp_model_machine.proofs.Finding.{in_context_none}
use Rattle.cp_model_machine.proofs.InitOffsets.{Offset}
use Rattle.cp_model_machine.proofs.InitPassing.{InitAgrees, InitBound, passes_init}
use Rattle.cp_model_machine.proofs.InitRights.{given}
use Rattle.cp_model_machine.proofs.InitSettled.{component_below, init_count, init_offsets, init_settled, init_values}
use Rattle.cp_model_machine.proofs.Placing.{Placed, monitor_placed}
use Rattle.cp_model_machine.proofs.ProcessRights.{NoClassRights}
use Rattle.cp_model_machine.proofs.Rooms.{room_for}
use Rattle.cp_model_machine.proofs.RunningOn.{left_afresh, runs_here, runs_over, runs_stacked, words_of_body}
use Rattle.cp_model_machine.proofs.Settling.{Settled, runs_settled}
use Rattle.cp_model_machine.proofs.Stacks.{Stacked, own_in_whole}
use Rattle.cp_model_machine.proofs.Stepping.{AroundAll, beyond, clock_of, faulted, stopped, went}
use Rattle.cp_model.specs.Gates.{set_gate}
use Rattle.cp_model_machine.specs.Addresses as addresses
use Rattle.cp_model_machine.specs.Steps.{act}
use Rattle.cp_model_machine.proofs.GatesHeld.{monitor_numbered}
use Rattle.cp_model_machine.proofs.Targets.{no_class_begins}
use Rattle.cp_model_machine.proofs.Effects.{EffectAgrees, LeavesIt, Means, WentOn, going, passed_leaves, provided_leaves, then_means, reported}
use Rattle.cp_model_machine.proofs.MonitorsThere.{monitor_below}
use Rattle.cp_model.proofs.ExpressionReach.{IfGives}

abbrev body_of_monitor : Ground → System → ℕ → Environment
body_of_monitor G s m = record { globals = scope G; system = s; component = monitor_location m; frame = None }

-- The process runs on in the body, and holds the gate.
body_entered : (G : Ground) (store : Store) (o : PrivateState) (i : Task) (k : List Task) (R : RunsOn G store o (i ∷ k)) (call : Call) (back : Back) (s : System) (m : ℕ) (c : Called) (kept : ℕ)
    → (C : sites.Runs (site G R.running) (BodyOf s) kept call) → UnitRepresents G.program G.texts (scope G) C.unit (BodyOf s) → component_words (scope G) s ≤ most_words → s.sort ≡ Monitor → system_of_monitor G.setup m ≡ Some s
    → c.component ≡ G.own + monitor_start G.program m → c.gate ≡ m → ClassHasRights G store c.component
    → activations o.base o.frames (i ∷ k) ≡ activations o.base o.frames k → ActivationsMean G store o.words o.base o.frames (i ∷ k) ≡ ActivationsMean G store o.words o.base o.frames k
    → marked_monitors (i ∷ k) ≡ marked_monitors k
    → Remaining G o.temps o.limit nothing_known R.running o.frames back.counter kept k → kept ≤ R.running.unit.temps
    → RunsOn G store (enter o c C.unit call back) (push s.body (body_of_monitor G s m) (EndBody (Some m) ∷ k))
body_entered G store o i k R call back s m c kept C represents room sort is from gate has same means marks left fits = record {
  at = record {
    running = N;
    runs = new_runs;
    base = omega (arith, R.base);
    temp = omega (arith, R.temp);
    component = refl;
    gate = ap (λ g. innermost g o.gate) gate ∙ (entered m (monitor_numbered G m (s, is)) ∙ ap innermost_gate (sym (marks_push s.body env (EndBody (Some m) ∷ k))));
    live = 0;
    left = left_afresh G o.temps o.limit 0 N (f ∷ o.frames) C.unit.start 0 (push s.body env (EndBody (Some m) ∷ k)) (omega arith)
        (push_left G o.temps o.limit N (f ∷ o.frames) s.body C.unit.start (represents.2 room at).0 0 (EndBody (Some m) ∷ k) (represents.2 room at).2 (
          refl,
          (represents.2 room at).1 ∙ ap (λ z. Some (end_of z)) sort,
          (gate, held, (s, is)),
          (
            R.running,
            kept,
            R.runs,
            record {
              base = R.base;
              temp = R.temp;
              component = R.component;
              words_apart = omega (arith, C.words);
              temps_apart = omega (arith, C.temps);
              kept_fit = fits;
            },
            left,
          ),
        ));
    next_value = λ d n q e. omega arith;
  };
  words_mean = words_of_body G store o.words (o.base + call.words) c.component f o.frames s.body env (Some m) i k same means has R.words_mean;
}
  where
    at : Location
    at = monitor_location m

    N : Running
    N = record {
      number = call.routine;
      unit = C.unit;
      text = BodyOf s;
      env = body_of_monitor G s m;
      base = R.running.base + call.words;
      temp = R.running.temp + call.temps;
      component = c.component;
    }

    env : Environment
    env = body_of_monitor G s m

    f : machine.Frame
    f = frame_of o c back

    held : o.gate ≡ innermost_gate (marked_monitors k)
    held = R.gate ∙ ap innermost_gate marks

    entered : (g : ℕ) → 1 ≤ g → innermost g o.gate ≡ g
    entered zero h = absurd (omega (arith, h))
    entered (suc g) h = refl

    new_runs : Runs G (length o.temps) o.limit N (f ∷ o.frames)
    new_runs = record {
      unit = C.there;
      text = C.text;
      globals = refl;
      system = refl;
      frame = tt;
      component = MonitorLies m refl is from;
      words_fit = omega (arith, R.runs.words_fit, C.fits.words, C.words);
      temps_fit = omega (arith, R.runs.temps_fit, C.fits.temps, C.temps);
      frames_fit = omega (arith, R.runs.frames_fit, C.fits.frames);
      activation_fits = omega arith;
    }

-- The private state is still right once its process holds the gate of the monitor.
opened_part : (G : Ground) (before : List ℕ) (after : PrivateState) (m : ℕ) (u : State) → PartOf G u before after → PartOf G (set_gate m (HeldBy G.p) [] u) before after
opened_part G before after m u P = record {
  number = P.number;
  input = P.input;
  consumed = P.consumed;
  transcript = P.transcript;
  status = P.status;
  count = P.count;
  data_means = P.data_means;
  runs_on = P.runs_on;
}

pub monitor_inits : (G : Ground) (s : State) (w : StepContext) (before : List ℕ) (o : PrivateState) (x : Name) (es : a.Expressions) (env : Environment) (k : List Task) → StoreInvariant s.store → UnitsRepresent G → AroundAll G s w
    → (Y : Ready G s w before o (a.Init x es) env k) (call : Call) (next : ℕ)
    → InitsBy (site G Y.now.on.running) (known G s w before o (Do (a.Init x es) env) k Y.now) Y.now.on.left.2.3.2 es (op.InitMonitor call next) o.counter Y.now.on.left.2.3.0 Y.now.on.left.2.0 Y.now.on.left.2.1
    → NoClassRights G → Declares G Y.now.on.running.env
    → PartOf G (after_step s G.p (executed G s w before o (a.Init x es) env k Y)) before (act G.program w o (op.InitMonitor call next)).0
    × EffectAgrees G w.own (executed G s w before o (a.Init x es) env k Y) (act G.program w o (op.InitMonitor call next)).1
monitor_inits G s w before o x es env k I units K Y call next h none declares =
    (part, reported G w.own s before Y.now.ready (executed G s w before o (a.Init x es) env k Y) (machine.Opens m) (act G.program w o (op.InitMonitor call next)) part means leaves_it)
  where
    here : Environment
    here = Y.now.on.running.env

    n : Component
    n = Y.now.on.left.2.3.2

    m : ℕ
    m = declared_monitor here n

    at : Location
    at = monitor_location m

    c : Called
    c = monitor_called G.program w m

    computed : PrivateState
    computed = (init_monitor G.program w o call (component_called G.program w o call.target).gate next).0

    is : system_of_monitor G.setup m ≡ Some n.system
    is = declares.monitors x n Y.now.on.left.2.3.4 h.2.own h.0

    gate_is : (component_called G.program w o call.target).gate ≡ m
    gate_is = by_target call.target (subst (λ z. TargetOf here n z false call.target) h.0 (subst (λ b. TargetOf here n n.system.sort b call.target) h.2.own h.2.target))
      where
        by_target : (t : target.Target) → TargetOf here n Monitor false t → (component_called G.program w o t).gate ≡ m
        by_target (target.Monitor j) f = sym f
        by_target _ f = absurd f

    inits : ℕ → List (Name × Variable) → StepResult
    inits j ps =
        if is_set (s.gates j).holder then Fault 7
        else and_then (bind (λ l v e. init_argument_writes n.system.sort (clock_of G s) here s.store l v.type e) (monitor_location j) ps es) (λ ws.
        Gives (
          record (configuration s G.p) { store = put_all ws s.store; continuation = push n.system.body (body_environment here n.system (monitor_location j)) (EndBody (Some j) ∷ k) },
          Opens j,
        ))

    first : Task
    first = Do (a.Init x es) env

    top : ℕ
    top = o.base + (site G Y.now.on.running).words

    passed : List (Name × Variable)
    passed = declarations (scope G) n.system.parameters

    known_here : Knowns
    known_here = known G s w before o first k Y.now

    lying' : Location → Option Part
    lying' = lies_in_sight (in_sight G) G (activations o.base o.frames (first ∷ k))

    back : Back
    back = record { counter = next; into = 0 }

    begun : PrivateState → Acting
    begun p = (enter (settle p (o.base + call.words) c.component (length call.arguments)) c h.2.runs.unit call back, machine.Opens m)

    passing : Acting
    passing = when_passed (pass_all w (o.base + call.words) c.component call.arguments o) begun

    below_whole : c.component ≤ whole G
    below_whole = omega (arith, Y.now.around.own, K.starts m, ap (λ v. words_seen v G.program G.own) K.sight)

    has_unit : init_monitor G.program w o call m next ≡ guard (not c.is_set) o fault.InitialisedTwice passing
    has_unit =
        (λ z. elim (h.2.runs.there z) as (λ y. Acting) [
          | None ↦ private_outcome o
          | Some u ↦ if has_room w o call u c.component then guard (not c.is_set) o fault.InitialisedTwice (when_passed (pass_all w (o.base + call.words) c.component call.arguments o) (λ p.
              (enter (settle p (o.base + call.words) c.component (length call.arguments)) c u call back, machine.Opens m))) else private_outcome o
        ])
        ∙ ap (λ b. if b then guard (not c.is_set) o fault.InitialisedTwice passing else private_outcome o) room
      where
        room : has_room w o call h.2.runs.unit c.component ≡ true
        room =
            room_for w o call h.2.runs.unit c.component (omega (arith, Y.now.on.runs.frames_fit, h.2.runs.fits.frames))
            (omega (arith, Y.now.on.base, Y.now.around.own, Y.now.on.runs.words_fit, h.2.runs.fits.words, h.2.runs.words))
            (omega (arith, Y.now.on.temp, Y.now.on.runs.temps_fit, h.2.runs.fits.temps, h.2.runs.temps)) (omega (arith, below_whole, Y.now.on.count))

    stack : Stacked G top (activations o.base o.frames (first ∷ k))
    stack = runs_stacked G s.store o (first ∷ k) Y.now.on

    placed : Placed G (activations o.base o.frames (first ∷ k)) top at c.component n.system
    placed = monitor_placed G (activations o.base o.frames (first ∷ k)) top stack m c.component n.system (ap (λ v. addresses.sees v G.p (OfMonitor m)) K.sight) is (omega (arith, Y.now.around.own))

    represents : UnitRepresents G.program G.texts (scope G) h.2.runs.unit (BodyOf n.system)
    represents = units.1 call.routine h.2.runs.unit (BodyOf n.system) h.2.runs.there h.2.runs.text

    names : Distinct (declarations (scope G) n.system.parameters)
    names = distinct_first (declarations (scope G) n.system.parameters) (declarations (scope G) n.system.variables) represents.1

    arguments : InitArgumentsFor (site G Y.now.on.running) known_here n.system passed es call.arguments o.counter Y.now.on.left.2.3.0 Y.now.on.left.2.1 Y.now.on.running.unit.temps
    arguments =
        subst (λ g. InitArgumentsFor (site G Y.now.on.running) known_here n.system (declarations g n.system.parameters) es call.arguments o.counter Y.now.on.left.2.3.0 Y.now.on.left.2.1 Y.now.on.running.unit.temps)
        Y.now.on.runs.globals h.3

    count : length call.arguments ≡ length passed
    count = init_count (site G Y.now.on.running) known_here n.system passed es call.arguments o.counter Y.now.on.left.2.3.0 Y.now.on.left.2.1 Y.now.on.running.unit.temps arguments

    one : (p : Name × Variable) → IsIn p (declarations (scope G) n.system.parameters) → is_component p.1.type ≡ false → (words (scope G) p.1.type ≡ 1) × IsCell p.1.type
    one p i component =
        init_values (site G Y.now.on.running) known_here n.system passed es call.arguments o.counter Y.now.on.left.2.3.0 Y.now.on.left.2.1 Y.now.on.running.unit.temps arguments (scope G) p i component

    offsets : (p : Name × Variable) → IsIn p (declarations (scope G) n.system.parameters) → (k : ℕ) × Offset (scope G) n.system p k
    offsets p i =
        init_offsets (scope G) (site G Y.now.on.running) known_here n.system Y.now.on.runs.globals names one passed es call.arguments o.counter Y.now.on.left.2.3.0 Y.now.on.left.2.1 Y.now.on.running.unit.temps arguments (λ q j. j) p i

    passed_ok : InitAgrees G n.system at c.component (o.base + call.words) names one passed w.own (record o { words = o.words }) o.words
        (bind (λ l v e. init_argument_writes n.system.sort (clock_of G s) here s.store l v.type e) at passed es) (pass_all w (o.base + call.words) c.component call.arguments o)
    passed_ok =
        subst (λ z. InitAgrees G n.system at c.component (o.base + z) names one passed w.own (record o { words = o.words }) o.words
        (bind (λ l v e. init_argument_writes n.system.sort (clock_of G s) here s.store l v.type e) at passed es) (pass_all w (o.base + z) c.component call.arguments o)) (sym h.2.runs.words)
        (passes_init G n.system at c.component top names one (site G Y.now.on.running) (clock_of G s) s.store w known_here lying' o
        (λ ws len same. runs_here G s.store w (record o { words = ws }) (first ∷ k) (clock_of G s) Y.now.around.clock (runs_over G s.store s.store o ws (first ∷ k) Y.now.on (λ l q. refl) (λ j q. same j (beyond G s w Y.now.around top j q)) len) Y.now.sees)
        Y.now.on.runs.globals
        (λ d t f y named ws same len j inner l room z u right type.
        given G s w before o first k Y.now Y.now.sees I none declares n.system c.component d (λ e. absurd (none.1 m n.system is j z u d.system inner right type e)) t f y named ws (λ v q. same v (beyond G s w Y.now.around top v q)) len j inner l room)
        (omega (arith, component_below G (activations o.base o.frames (first ∷ k)) top stack at c.component top n.system placed names one, Y.now.on.count))
        passed es call.arguments o.counter Y.now.on.left.2.3.0 Y.now.on.left.2.1 Y.now.on.running.unit.temps o.words arguments
        (in_context_none (a.Init x) (call_in_arguments here (a.Literal 0) es) Y.none) names (λ p i. i)
        (omega (arith, h.2.room, count, Y.now.on.runs.words_fit, Y.now.around.own, Y.now.on.base)) (omega (arith, Y.now.around.own, Y.now.on.count, own_in_whole G)) refl (λ z q. refl))

    after_writes : Writes → StepResult
    after_writes ws = Gives (
      record (configuration s G.p) { store = put_all ws s.store; continuation = push n.system.body (body_environment here n.system at) (EndBody (Some m) ∷ k) },
      Opens m,
    )

    env_is : body_environment here n.system at ≡ body_of_monitor G n.system m
    env_is = λ z. record { globals = Y.now.on.runs.globals z; system = n.system; component = at; frame = None }

    moved : List ℤ → List ℤ
    moved us = paste (c.component + 1) (block us (o.base + call.words + 1) (length passed)) us

    entered : (ws : Writes) (us : List ℤ) → InitBound G n.system at c.component (o.base + call.words) names one passed ws o.words us
        → PartOf G (after_step s G.p (after_writes ws)) before (begun (record o { words = us })).0
    entered ws us B =
        subst (λ z. PartOf G (after_step s G.p (after_writes ws)) before (enter (settle (record o { words = us }) (o.base + call.words) c.component z) c h.2.runs.unit call back)) (sym count)
        (subst (λ y. PartOf G (after_step s G.p (Gives (record (configuration s G.p) { store = put_all ws s.store; continuation = push n.system.body y (EndBody (Some m) ∷ k) }, Opens m))) before result) (sym env_is)
        (opened_part G before result m _
        (went G s before o Y.now.part (put_all ws s.store) result (push n.system.body (body_of_monitor G n.system m) (EndBody (Some m) ∷ k))
        (body_entered G (put_all ws s.store) (record o { words = moved us }) first k
        (runs_settled G s.store (put_all ws s.store) o (moved us) (first ∷ k) Y.now.on at c.component n.system placed represents.1 one offsets settled
        (copied_length us us (c.component + 1) (o.base + call.words + 1) (length passed) ∙ B.length_is))
        call back n.system m c Y.now.on.left.2.1 h.2.runs represents (component_room G units.0 (monitor_location m) n.system (G.own + monitor_start G.program m) (MonitorLies m refl is refl)) h.0 is (omega (arith, Y.now.around.own)) refl
        (no_class_begins G s w before o first k Y.now Y.now.sees I K (put_all ws s.store) m n.system is)
        refl refl refl
        (subst (λ z. Remaining G o.temps o.limit nothing_known Y.now.on.running o.frames z Y.now.on.left.2.1 k) (sym h.1) Y.now.on.left.2.4) Y.now.on.left.2.2)
        record { number = refl; input = refl; consumed = refl; output = refl; activity = refl })))
      where
        settled : Settled G top s.store (put_all ws s.store) o.words (moved us) at c.component n.system
        settled =
            init_settled G (activations o.base o.frames (first ∷ k)) top stack at c.component (o.base + call.words) n.system placed names one
            s.store o.words us ws B (ap (λ z. o.base + z) h.2.runs.words) (omega (arith, h.2.room, h.2.runs.words, count, Y.now.on.runs.words_fit, Y.now.on.base)) (B.length_is ∙ Y.now.on.count)

        result : PrivateState
        result = enter (record o { words = moved us }) c h.2.runs.unit call back

    inner : (O : Outcome Writes) (P : Passing)
        → InitAgrees G n.system at c.component (o.base + call.words) names one passed w.own (record o { words = o.words }) o.words O P
        → PartOf G (after_step s G.p (and_then O after_writes)) before (when_passed P begun).0
    inner (Fault j) P g =
        subst (λ y. PartOf G (after_step s G.p (Fault j)) before (elim y as (λ z. Acting) [ None ↦ begun P.own | Some e ↦ fault_in P.own e ]).0) (sym g.1)
        (subst (λ p. PartOf G (after_step s G.p (Fault j)) before (fault_in p g.0).0) (sym g.3)
        (stopped G s before o Y.now.part P.own.words j g.0 g.2 over.count
        (subst (λ y. DataMeans G (activations o.base o.frames y) (in_sight G) s.store P.own.words) (sym Y.now.left) over.data_means)))
      where
        behind : (z : ℕ) → (z < top) ⊎ (w.own ≤ z) → (z < o.base + call.words) ⊎ (w.own ≤ z)
        behind z (inl q) = inl (omega (arith, q, h.2.runs.words))
        behind z (inr q) = inr q

        over : RunsOn G s.store (record o { words = P.own.words }) (first ∷ k)
        over = runs_over G s.store s.store o P.own.words (first ∷ k) Y.now.on (λ l q. refl) (λ z q. g.4.1 z (behind z (beyond G s w Y.now.around top z q))) g.4.0
    inner (Gives ws) P g =
        subst (λ y. PartOf G (after_step s G.p (after_writes ws)) before (elim y as (λ z. Acting) [ None ↦ begun P.own | Some e ↦ fault_in P.own e ]).0) (sym g.0)
        (subst (λ p. PartOf G (after_step s G.p (after_writes ws)) before (begun p).0) (sym g.1) (entered ws P.own.words g.2))

    by : (b : Bool) → PartOf G (after_step s G.p (if b then Fault 7 else and_then (bind (λ l v e. init_argument_writes n.system.sort (clock_of G s) here s.store l v.type e) at passed es) after_writes)) before
        (guard (not b) o fault.InitialisedTwice passing).0
    by true = faulted G s w before o first k Y.now 7 fault.InitialisedTwice refl
    by false = inner (bind (λ l v e. init_argument_writes n.system.sort (clock_of G s) here s.store l v.type e) at passed es) (pass_all w (o.base + call.words) c.component call.arguments o) passed_ok

    part : PartOf G (after_step s G.p (executed G s w before o (a.Init x es) env k Y)) before (act G.program w o (op.InitMonitor call next)).0
    part =
        subst (λ (z : Option Component). PartOf G (after_step s G.p (elim z as (λ y. StepResult) [ None ↦ own_step (with_continuation (configuration s G.p) k) | Some c ↦ init_component c.system.sort (context G.setup s G.p) (configuration s G.p) here k es c ])) before computed)
        (sym Y.now.on.left.2.3.4)
        (subst (λ z. PartOf G (after_step s G.p (init_component z (context G.setup s G.p) (configuration s G.p) here k es n)) before computed) (sym h.0)
        (subst (λ b. PartOf G (after_step s G.p (inits (if b then monitor_right (s.store (name_location here n)) else declared_monitor here n) (declarations here.globals n.system.parameters))) before computed) (sym h.2.own)
        (subst (λ g. PartOf G (after_step s G.p (inits m (declarations g n.system.parameters))) before computed) (sym Y.now.on.runs.globals)
        (subst (λ (y : Acting). PartOf G (after_step s G.p (inits m passed)) before y.0) (sym (ap (λ z. init_monitor G.program w o call z next) gate_is ∙ has_unit))
        (subst (λ b. PartOf G (after_step s G.p (inits m passed)) before (guard (not b) o fault.InitialisedTwice passing).0) (sym (K.set_is m)) (by (is_set (s.gates m).holder)))))))

    means : IfGives (λ y. Means G w.own y.1 (machine.Opens m)) (executed G s w before o (a.Init x es) env k Y)
    means =
        subst (λ (z : Option Component). Opening (elim z as (λ y. StepResult) [ None ↦ own_step (with_continuation (configuration s G.p) k) | Some c ↦ init_component c.system.sort (context G.setup s G.p) (configuration s G.p) here k es c ]))
        (sym Y.now.on.left.2.3.4)
        (subst (λ z. Opening (init_component z (context G.setup s G.p) (configuration s G.p) here k es n)) (sym h.0)
        (subst (λ b. Opening (inits (if b then monitor_right (s.store (name_location here n)) else declared_monitor here n) (declarations here.globals n.system.parameters))) (sym h.2.own)
        (opens (is_set (s.gates m).holder))))
      where
        Opening : StepResult → Type 0
        Opening r = IfGives (λ y. Means G w.own y.1 (machine.Opens m)) r

        bound : Outcome Writes
        bound = bind (λ l v e. init_argument_writes n.system.sort (clock_of G s) here s.store l v.type e) at (declarations here.globals n.system.parameters) es

        opens : (b : Bool) → Opening (if b then Fault 7 else and_then bound after_writes)
        opens true = tt
        opens false = then_means G w.own (machine.Opens m) bound after_writes (λ ws. (refl, monitor_below G.setup m n.system is))

    leaves_it : LeavesIt (machine.Opens m) (act G.program w o (op.InitMonitor call next))
    leaves_it =
        subst (LeavesIt (machine.Opens m)) (sym (ap (λ z. init_monitor G.program w o call z next) gate_is ∙ has_unit))
        (provided_leaves (not c.is_set) o fault.InitialisedTwice (machine.Opens m) passing
        (passed_leaves w (o.base + call.words) c.component call.arguments o (machine.Opens m) begun (going G s before o Y.now.part Y.now.ready) (λ p on. WentOn refl on)))
