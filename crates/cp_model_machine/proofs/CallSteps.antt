-- Whole private steps of calls: of functions, which any task can make, and of procedures.
--
-- The callee's unit represents its routine, so what is passed and then started opens an
-- activation (`Opening`), and `Invoking` has the rest. A function's caller keeps its task, a
-- procedure's continues.
use Rattle.cp_law_typing.specs.Needs.{WordsFit}
use Rattle.std.proofs.Common.{◌≡◌, inl, inr, ℕ, ◌+◌, List, [], ◌∷◌, length, Bool, true, false, Option, Some, None, refl, ap, sym, subst, ◌∙◌, arith}
use Rattle.std.specs.Prelude.{◌++◌, if◌then◌else◌, slice_get}
use Rattle.std.proofs.lemmas.Bool.{true≢false}
use Rattle.std.specs.Str.{bytes_eq}
use Rattle.cp_model.specs.Abstract as a
use Rattle.cp_model.specs.Abstract.{BaseType, Name, Sort}
use Rattle.cp_model.specs.Actions as actions
use Rattle.cp_model.specs.Actions.{Action, Acts, action}
use Rattle.cp_model.specs.Assignments.{starting_writes}
use Rattle.cp_model.specs.Calls.{Callee, UserCall, call_in_arguments, call_in_task, in_context, is_monitor_call, procedure_call}
use Rattle.cp_model.specs.CallSteps as calls
use Rattle.cp_model.specs.CallSteps.{target}
use Rattle.cp_model.specs.Components.{Component, same_sort}
use Rattle.cp_model.specs.Continuations.{Do, Task, depth}
use Rattle.cp_model.specs.Declarations as declared
use Rattle.cp_model.specs.Declarations.{declarations}
use Rattle.cp_model.specs.Environments.{Environment, local_variables, permanent_variables, result_variable}
use Rattle.cp_model.specs.Invariant.{StoreInvariant}
use Rattle.cp_model.specs.Locations.{OfActivation, root}
use Rattle.cp_model.specs.Names.{lookup}
use Rattle.cp_model.specs.States.{State, context}
use Rattle.cp_model.specs.Turns.{after_step}
use Rattle.cp_model.specs.Stores.{Store, forget, put_all}
use Rattle.cp_model.specs.Types.{GlobalScope}
use Rattle.cp_model.proofs.Options.{same_some}
use Rattle.cp_law_typing.specs.Declared.{Distinct}
use Rattle.cp_law_typing.specs.Needs.{result_words}
use Rattle.cp_model_program.specs.Terms as terms
use Rattle.cp_model_program.specs.Terms.{Argument, Copy, Reference, Value}
use Rattle.cp_model_program.specs.Programs as op
use Rattle.cp_model_program.specs.Programs.{Call, CodeUnit}
use Rattle.cp_model_program.specs.Layout.{local_at, local_words, natural}
use Rattle.cp_model_program.specs.Sites as sites
use Rattle.cp_model_program.specs.Sites.{RoutineOf, Site, UnitText, TargetFor, TargetOf, first_parameter, operation_at, parameters, system_of_callee}
use Rattle.cp_model_program.specs.IsProgramFor.{UnitRepresents}
use Rattle.cp_model_program.specs.Starts.{carry_out, word}
use Rattle.cp_model_program.specs.StatementsFor.{PerformsBy}
use Rattle.cp_model_program.specs.TermsFor.{ArgumentsFor, Knowns, nothing_known}
use Rattle.cp_model_machine.specs.PrivateStates.{StepContext, PrivateState}
use Rattle.cp_model_machine.specs.Passing.{component_called}
use Rattle.cp_model_machine.specs.Calling.{Back, frame_of}
use Rattle.cp_model_machine.specs.PartOf.{PartOf}
use Rattle.cp_model_machine.specs.Steps.{act, is_monitor}
use Rattle.cp_model_machine.specs.Addresses.{Ground, activations, in_sight, lies, scope, lies_in_sight}
use Rattle.cp_model_machine.specs.Remaining.{CallerAt, Remaining, held_below, kept_below, site}
use Rattle.cp_model_machine.proofs.Declared.{distinct_first}
use Rattle.cp_model_program.proofs.CallsRepresent.{callee_of}
use Rattle.cp_model_machine.proofs.Declares.{Declares}
use Rattle.cp_model_machine.proofs.Doing.{Ready, known}
use Rattle.cp_model_machine.proofs.Entering.{Opened, Waits, owner_of_call}
use Rattle.cp_model_machine.proofs.Finding.{in_context_none, some_is_not_none}
use Rattle.cp_model_machine.proofs.Heres.{Sees, depth_is, seen_mine}
use Rattle.cp_model_machine.proofs.Invoking.{Opens, TargetIs, invoked}
use Rattle.cp_model_machine.proofs.RemainingKept.{left_kept}
use Rattle.cp_model_machine.proofs.NextCalls.{CallReady}
use Rattle.cp_model_machine.proofs.Opening.{HoldsValues, opened}
use Rattle.cp_model_machine.proofs.Passing.{Has, ParameterHas, parameter_at}
use Rattle.cp_model_machine.proofs.StartLeaves.{IsSimple}
use Rattle.cp_model_machine.proofs.Stepping.{AroundAll, Now, Stepped, both_step, does, kernel_step}
use Rattle.cp_model_machine.proofs.Targets.{monitor_is, target_is}
use Rattle.cp_model_machine.proofs.Stacks.{own_in_whole}
use Rattle.cp_model_machine.proofs.Effects.{EffectAgrees}

-- ---- parameters

-- A parameter that is passed by value holds only simple values.
parameters_plain : (site : Site) (K : Knowns) (ps : List (Name × declared.Variable)) (es : a.Expressions) (xs : List Argument) (at from last low high : ℕ) → ArgumentsFor site K ps es xs at from last low high
    → (g : GlobalScope) (n : ℕ) (x : Name) (k : ℕ) (d : declared.Variable) → local_at g n ps x ≡ Some (k, d) → d.by_reference ≡ false → HoldsValues d.type
parameters_plain site K [] a.NoExpression [] at from last low high h g n x k d e by_value = absurd (some_is_not_none _ (sym e))
parameters_plain site K (p ∷ ps) (a.MoreExpressions y es) (Value to lower upper c ∷ xs) at from last low high h g n x k d e by_value =
    by (bytes_eq x p.0) e (λ q. parameters_plain site K ps es xs (at + local_words site.env.globals p.1) h.2 last h.3 high h.10 g (n + local_words g p.1) x k d q by_value)
  where
    by : (b : Bool) → (if b then Some (n, p.1) else local_at g (n + local_words g p.1) ps x) ≡ Some (k, d) → (local_at g (n + local_words g p.1) ps x ≡ Some (k, d) → HoldsValues d.type) → HoldsValues d.type
    by true e go = subst (λ (v : declared.Variable). HoldsValues v.type) (ap (λ z. z.1) (same_some {A = ℕ × declared.Variable} (n, p.1) (k, d) e)) (inl (subst IsSimple (sym h.6) tt))
    by false e go = go e
parameters_plain site K (p ∷ ps) (a.MoreExpressions (a.Use y) es) (Reference to s ∷ xs) at from last low high h g n x k d e by_value =
    by (bytes_eq x p.0) e (λ q. parameters_plain site K ps es xs (at + local_words site.env.globals p.1) h.0 last h.1 high h.8 g (n + local_words g p.1) x k d q by_value)
  where
    by : (b : Bool) → (if b then Some (n, p.1) else local_at g (n + local_words g p.1) ps x) ≡ Some (k, d) → (local_at g (n + local_words g p.1) ps x ≡ Some (k, d) → HoldsValues d.type) → HoldsValues d.type
    by true e go =
        absurd (true≢false (sym h.3 ∙ (ap (λ z. z.1.by_reference) (same_some {A = ℕ × declared.Variable} (n, p.1) (k, d) e) ∙ by_value)))
    by false e go = go e
parameters_plain site K (p ∷ ps) (a.MoreExpressions (a.Use y) es) (Copy to size s ∷ xs) at from last low high h g n x k d e by_value =
    by (bytes_eq x p.0) e (λ q. parameters_plain site K ps es xs (at + local_words site.env.globals p.1) h.0 last h.1 high h.11 g (n + local_words g p.1) x k d q by_value)
  where
    by : (b : Bool) → (if b then Some (n, p.1) else local_at g (n + local_words g p.1) ps x) ≡ Some (k, d) → (local_at g (n + local_words g p.1) ps x ≡ Some (k, d) → HoldsValues d.type) → HoldsValues d.type
    by true e go = subst (λ (v : declared.Variable). HoldsValues v.type) (ap (λ z. z.1) (same_some {A = ℕ × declared.Variable} (n, p.1) (k, d) e)) (inr (h.5.0, h.5.1))
    by false e go = go e
parameters_plain site K _ _ _ at from last low high h g n x k d e by_value = absurd h

-- ---- kinds

-- The meaning enters a monitor if and only if the machine does.
kinds_agree : (env : Environment) (c : Callee) (x : terms.Target) → TargetFor env c.of x → is_monitor_call c ≡ is_monitor x
kinds_agree env c x h = by c.of x h
  where
    inner : (n : Component) (z : Sort) (b : Bool) (x : terms.Target) → TargetOf env n z b x → same_sort a.Monitor z ≡ is_monitor x
    inner n a.Class false (terms.Class at) h = refl
    inner n a.Class true (terms.ClassRight at) h = refl
    inner n a.Monitor false (terms.Monitor m) h = refl
    inner n a.Monitor true (terms.MonitorRight at) h = refl
    inner n _ _ _ h = absurd h

    by : (of : Option Component) (x : terms.Target) → TargetFor env of x → (elim of [ None ↦ false | Some n ↦ same_sort a.Monitor n.system.sort ]) ≡ is_monitor x
    by None x h = ap is_monitor (sym h)
    by (Some n) x h = inner n n.system.sort n.is_parameter x h

-- ---- what opens the activation

module _ (G : Ground) (s : State) (w : StepContext) (before : List ℕ) (o : PrivateState) (i : Task) (l : List Task) (N : Now G s w before o i l) (sees : Sees G (in_sight G) s.store N.on.running.env)
    (k : List Task) (v : UserCall) (call : Call) (back : Back) (place kept live : ℕ) (W : Waits G o (i ∷ l) k N.on.running place kept live)
    (C : sites.Runs (site G N.on.running) (RoutineOf (system_of_callee N.on.running.env v.callee.of) v.callee.routine) kept call)
    (represents : UnitRepresents G.program G.texts (scope G) C.unit (RoutineOf (system_of_callee N.on.running.env v.callee.of) v.callee.routine))
    (from last low high : ℕ) (args : ArgumentsFor (site G N.on.running) (held_below N.on.live o.temps N.on.running.temp) (parameters (site G N.on.running) v.callee) v.arguments call.arguments (first_parameter v.callee) from last low high) where
  deep : depth k ≡ length (activations o.base o.frames k)
  deep = sym (depth_is G o.temps o.limit o.base (kept_below kept live o.temps N.on.running.temp) N.on.running o.frames place kept k W.left)

  pub opens : Opens G s w before o i l N sees k v call back place kept live C.unit
  opens ws new len B =
      subst (λ g. Opened G (activations o.base o.frames k)
      (put_all (starting_writes (root (owner_of_call G k)) (declarations g v.callee.routine.variables)) (put_all ws (forget (owner_of_call G k) s.store))) (carry_out (o.base + call.words) C.unit.starts new) (o.base + call.words) (record { owner = owner_of_call G k; routine = v.callee.routine })) (sym N.on.runs.globals)
      (subst (λ d. Opened G (activations o.base o.frames k)
      (put_all (starting_writes (root (OfActivation G.p d)) (declarations (scope G) v.callee.routine.variables)) (put_all ws (forget (OfActivation G.p d) s.store))) (carry_out (o.base + call.words) C.unit.starts new) (o.base + call.words) (record { owner = OfActivation G.p d; routine = v.callee.routine })) (sym deep)
      (opened G (activations o.base o.frames k) (system_of_callee N.on.running.env v.callee.of) v.callee.routine C.unit represents (o.base + call.words) s.store ws new
      (omega (arith, represents.1, C.fits.words, C.words, N.on.runs.words_fit, N.on.count, N.on.base, len, own_in_whole G))
      (λ x n d e. subst (λ z. ParameterHas (scope G) (lies G (activations o.base o.frames k)) d (parameter_at (OfActivation G.p z) x) (put_all ws (forget (OfActivation G.p z) s.store)) new (o.base + call.words + n)) deep (holds x n d e))
      (λ x e. subst (λ z. put_all ws (forget (OfActivation G.p z) s.store) (parameter_at (OfActivation G.p z) x) ≡ forget (OfActivation G.p z) s.store (parameter_at (OfActivation G.p z) x)) deep
      (B.names x [] (forget (owner_of_call G k) s.store) (ap (λ g. lookup x (declarations g v.callee.routine.parameters)) N.on.runs.globals ∙ e)))
      (λ x n d e by_value. parameters_plain (site G N.on.running) (held_below N.on.live o.temps N.on.running.temp) (parameters (site G N.on.running) v.callee) v.arguments call.arguments (first_parameter v.callee) from last low high args
      (scope G) (result_words v.callee.routine.result) x n d (ap (λ g. local_at (scope G) (result_words v.callee.routine.result) (declarations g v.callee.routine.parameters) x) N.on.runs.globals ∙ e) by_value)))
    where
      bound : Store
      bound = put_all ws (forget (owner_of_call G k) s.store)

      -- What a parameter refers to is where the caller sees it.
      converted : (d : declared.Variable) (x : Name) (at : ℕ) (b : Bool)
          → Has b (scope G) (lies_in_sight (in_sight G) G (activations o.base o.frames (i ∷ l))) d.type (parameter_at (owner_of_call G k) x) bound new at
          → Has b (scope G) (lies G (activations o.base o.frames k)) d.type (parameter_at (owner_of_call G k) x) bound new at
      converted d x at true h =
          (h.0, h.1, ap (λ xs. lies G xs h.0) W.same ∙ (seen_mine (in_sight G) G (activations o.base o.frames (i ∷ l)) h.0 (natural (word new at), d.type) h.2).1)
      converted d x at false h = h

      holds : (x : Name) (n : ℕ) (d : declared.Variable) → local_at (scope G) (result_words v.callee.routine.result) (declarations (scope G) v.callee.routine.parameters) x ≡ Some (n, d)
          → ParameterHas (scope G) (lies G (activations o.base o.frames k)) d (parameter_at (owner_of_call G k) x) bound new (o.base + call.words + n)
      holds x n d e =
          subst (λ z. ParameterHas (scope G) (lies G (activations o.base o.frames k)) d (parameter_at (owner_of_call G k) x) bound new (o.base + z + n)) (sym C.words)
          (converted d x (o.base + (site G N.on.running).words + n) d.by_reference
          (subst (λ g. ParameterHas g (lies_in_sight (in_sight G) G (activations o.base o.frames (i ∷ l))) d (parameter_at (owner_of_call G k) x) bound new (o.base + (site G N.on.running).words + n)) N.on.runs.globals
          (B.parameters x n d (forget (owner_of_call G k) s.store) (ap (λ g. local_at g (result_words v.callee.routine.result) (declarations g v.callee.routine.parameters) x) N.on.runs.globals ∙ e))))

-- ---- steps

-- The units of the program represent their texts, and each owner has few words.
abbrev pub UnitsRepresent : Ground → Type 0
UnitsRepresent G =
    WordsFit G.setup × ((n : ℕ) (u : CodeUnit) (t : UnitText) → slice_get G.program.units n ≡ Some u → slice_get G.texts n ≡ Some t → UnitRepresents G.program G.texts (scope G) u t)

parameters_distinct : (G : Ground) (g : GlobalScope) (c : Callee) (y : a.System) → g ≡ scope G → Distinct (local_variables (scope G) c.routine ++ permanent_variables (scope G) y) → Distinct (declarations g c.routine.parameters)
parameters_distinct G g c y same h =
    subst (λ z. Distinct (declarations z c.routine.parameters)) (sym same)
    (distinct_first (declarations (scope G) c.routine.parameters) (declarations (scope G) c.routine.variables ++ result_variable (scope G) c.routine.name c.routine.result)
    (distinct_first (local_variables (scope G) c.routine) (permanent_variables (scope G) y) h))

-- A function that a task calls.
pub function_steps : (G : Ground) (s : State) (w : StepContext) (before : List ℕ) (o : PrivateState) (i : Task) (l : List Task) (N : Now G s w before o i l) → Sees G (in_sight G) s.store N.on.running.env → StoreInvariant s.store → UnitsRepresent G
    → (v : UserCall) (temp after : ℕ) (base : BaseType) (C : CallReady (site G N.on.running) (held_below N.on.live o.temps N.on.running.temp) v o.counter temp after base) (j : Task) → call_in_task (a.Literal 0) i ≡ Some (v, j)
    → Remaining G o.temps o.limit (kept_below C.low N.on.live o.temps N.on.running.temp) N.on.running o.frames o.counter C.low (i ∷ l) → Declares G N.on.running.env
    → Stepped G s w before o
function_steps G s w before o i l N sees I units v temp after base C j found left declares = by (is_monitor C.call.target) refl
  where
    acts : action (i ∷ l) ≡ actions.Calls v (i ∷ l)
    acts = λ z. elim (found z) as (λ x. Action) [
      | Some f ↦ actions.Calls f.0 (i ∷ l)
      | None ↦ elim (procedure_call i) as (λ x. Action) [ Some u ↦ actions.Calls u l | None ↦ Acts i l ]
    ]

    kinds : is_monitor_call v.callee ≡ is_monitor C.call.target
    kinds = kinds_agree N.on.running.env v.callee C.call.target C.calls.target

    target_here : calls.Target
    target_here = target (context G.setup s G.p) s.store N.on.running.env v.callee.of

    Called : Type 0
    Called =
        PartOf G (after_step s G.p (does G s (actions.Calls v (i ∷ l)))) before (act G.program w o (op.Function C.call temp after)).0
        × EffectAgrees G w.own (does G s (actions.Calls v (i ∷ l))) (act G.program w o (op.Function C.call temp after)).1

    called : TargetIs G s.store target_here (component_called G.program w o C.call.target) (system_of_callee N.on.running.env v.callee.of) → Called
    called T =
        let back : Back = record { counter = after; into = temp } in
        let W : Waits G o (i ∷ l) (i ∷ l) N.on.running o.counter C.low N.on.live = record { same = refl; means = λ store words. refl; marks = refl; left = left; kept_fit = omega (arith, C.calls.runs.fits.temps) } in
        let represents = units.1 C.call.routine C.calls.runs.unit (RoutineOf (system_of_callee N.on.running.env v.callee.of) v.callee.routine) C.calls.runs.there C.calls.runs.text in
        invoked G s w before o i l N sees (i ∷ l) v C.call back o.counter C.low N.on.live C.from o.counter C.low C.high
        record {
          few = units.0;
          waits = W;
          runs = C.calls.runs;
          represents = represents;
          arguments = C.arguments;
          made = C.made;
          where_is = C.where_is;
          distinct = parameters_distinct G N.on.running.env.globals v.callee (system_of_callee N.on.running.env v.callee.of) N.on.runs.globals represents.2;
          target_is = T;
          caller = subst (λ z. CallerAt G C.call.routine C.low N.on.live z (frame_of o (component_called G.program w o C.call.target) back) o.counter) (sym C.answers.1)
              (C.call, temp, refl, C.calls.runs.temps, N.on.next_value C.call temp after C.op, C.op, refl);
          opens = opens G s w before o i l N sees (i ∷ l) v C.call back o.counter C.low N.on.live W C.calls.runs represents C.from o.counter C.low C.high C.arguments;
        }

    by : (b : Bool) → is_monitor C.call.target ≡ b → Stepped G s w before o
    by true e =
        kernel_step G s w before o i l N (actions.Calls v (i ∷ l)) (op.Function C.call temp after) acts (kinds ∙ e) C.op e refl
        (λ K. (enters K).0) (λ K. (enters K).1)
      where
        enters : AroundAll G s w → Called
        enters K = called (monitor_is G s w before o i l N sees I K declares v.callee.of C.call.target C.calls.target (λ n is. callee_of N.on.running.env C.named v.callee n C.calls.means is) e)
    by false e =
        both_step G s w before o i l N (actions.Calls v (i ∷ l)) (op.Function C.call temp after) acts (kinds ∙ e) C.op e
        both.0 (λ K. both.1)
      where
        both : Called
        both = called (target_is G s w before o i l N sees I v.callee.of C.call.target C.calls.target e)

-- A procedure statement whose arguments contain no more calls.
pub procedure_steps : (G : Ground) (s : State) (w : StepContext) (before : List ℕ) (o : PrivateState) (d : a.Designator) (es : a.Expressions) (env : Environment) (k : List Task) → StoreInvariant s.store → UnitsRepresent G
    → (Y : Ready G s w before o (a.Perform d es) env k) (call : Call) (n : ℕ) → operation_at G.program o.counter ≡ Some (op.Procedure call n)
    → PerformsBy (site G Y.now.on.running) (known G s w before o (Do (a.Perform d es) env) k Y.now) d es (op.Procedure call n) o.counter Y.now.on.left.2.3.0 Y.now.on.left.2.0 Y.now.on.left.2.1
    → Declares G Y.now.on.running.env → Stepped G s w before o
procedure_steps G s w before o d es env k I units Y call n there h declares = by (is_monitor call.target) refl
  where
    here : Environment
    here = Y.now.on.running.env

    v : UserCall
    v = record { callee = h.0; arguments = es; environment = Y.now.on.running.env }

    acts : action (Do (a.Perform d es) env ∷ k) ≡ actions.Calls v k
    acts =
        ap (λ e. action (Do (a.Perform d es) e ∷ k)) Y.now.on.left.0
        ∙ ((λ z. elim (in_context (λ y. Do y here) (Y.none z)) as (λ x. Action) [
          | Some f ↦ actions.Calls f.0 (Do (a.Perform d es) here ∷ k)
          | None ↦ elim (procedure_call (Do (a.Perform d es) here)) as (λ x. Action) [ Some u ↦ actions.Calls u k | None ↦ Acts (Do (a.Perform d es) here) k ]
        ])
        ∙ λ z. elim (elim (h.2.means z) as (λ x. Option UserCall) [ None ↦ None | Some c ↦ Some (record { callee = c; arguments = es; environment = here }) ]) as (λ x. Action) [
          | Some u ↦ actions.Calls u k
          | None ↦ Acts (Do (a.Perform d es) here) k
        ])

    kinds : is_monitor_call h.0 ≡ is_monitor call.target
    kinds = kinds_agree Y.now.on.running.env h.0 call.target h.2.target

    Called : Type 0
    Called =
        PartOf G (after_step s G.p (does G s (actions.Calls v k))) before (act G.program w o (op.Procedure call n)).0
        × EffectAgrees G w.own (does G s (actions.Calls v k)) (act G.program w o (op.Procedure call n)).1

    called : TargetIs G s.store (target (context G.setup s G.p) s.store here h.0.of) (component_called G.program w o call.target) (system_of_callee here h.0.of) → Called
    called T =
        let N = Y.now in
        let i = Do (a.Perform d es) env in
        let left = N.on.left.2 in
        let back : Back = record { counter = n; into = 0 } in
        let rest = left_kept G o.temps o.temps o.limit refl nothing_known (kept_below left.1 0 o.temps N.on.running.temp) N.on.running o.frames left.0 left.1 k (λ m q z. absurd z) (λ m q. refl) left.4 in
        let W : Waits G o (i ∷ k) k N.on.running left.0 left.1 0 = record { same = refl; means = λ store words. refl; marks = refl; left = rest; kept_fit = left.2 } in
        let represents = units.1 call.routine h.2.runs.unit (RoutineOf (system_of_callee N.on.running.env h.0.of) h.0.routine) h.2.runs.there h.2.runs.text in
        invoked G s w before o i k N N.sees k v call back left.0 left.1 0 o.counter left.3.0 left.1 h.1
        record {
          few = units.0;
          waits = W;
          runs = h.2.runs;
          represents = represents;
          arguments = h.6;
          made = in_context_none (a.Perform d) (call_in_arguments here (a.Literal 0) es) Y.none;
          where_is = refl;
          distinct = parameters_distinct G N.on.running.env.globals h.0 (system_of_callee N.on.running.env h.0.of) N.on.runs.globals represents.2;
          target_is = T;
          caller = subst (λ z. CallerAt G call.routine left.1 0 z (frame_of o (component_called G.program w o call.target) back) left.0) (sym h.3)
              (sym h.4, refl);
          opens = opens G s w before o i k N N.sees k v call back left.0 left.1 0 W h.2.runs represents o.counter left.3.0 left.1 h.1 h.6;
        }

    by : (b : Bool) → is_monitor call.target ≡ b → Stepped G s w before o
    by true e =
        kernel_step G s w before o (Do (a.Perform d es) env) k Y.now (actions.Calls v k) (op.Procedure call n) acts (kinds ∙ e) there e refl
        (λ K. (enters K).0) (λ K. (enters K).1)
      where
        enters : AroundAll G s w → Called
        enters K = called (monitor_is G s w before o (Do (a.Perform d es) env) k Y.now Y.now.sees I K declares h.0.of call.target h.2.target (λ m is. callee_of here d h.0 m h.2.means is) e)
    by false e =
        both_step G s w before o (Do (a.Perform d es) env) k Y.now (actions.Calls v k) (op.Procedure call n) acts (kinds ∙ e) there e
        both.0 (λ K. both.1)
      where
        both : Called
        both = called (target_is G s w before o (Do (a.Perform d es) env) k Y.now Y.now.sees I h.0.of call.target h.2.target e)
