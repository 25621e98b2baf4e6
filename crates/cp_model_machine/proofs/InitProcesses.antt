-- The `init` of a process, with all words in reach: its parameters are stored for it, and are in
-- the words where they wait for it.
use Rattle.std.proofs.Common.{Bool, List, None, Option, Some, [], ap, arith, false, length, refl, subst, sym, true, ℕ, ℤ, ◌+◌, ◌∙◌, ◌∷◌, ◌≡◌, ◌≤◌}
use Rattle.std.specs.Prelude.{if◌then◌else◌, not, slice_get}
use Rattle.cp_model.specs.Abstract as a
use Rattle.cp_model.specs.Abstract.{Class, Name, Process, System}
use Rattle.cp_model.specs.Arguments.{bind, init_argument_writes}
use Rattle.cp_model.specs.Components.{Component, process_location}
use Rattle.cp_model.specs.Configurations as stage
use Rattle.cp_model.specs.Configurations.{StepResult, own_step, with_continuation}
use Rattle.cp_model.specs.Continuations.{Do, EndProcess, Task, push}
use Rattle.cp_model.specs.Calls.{call_in_arguments}
use Rattle.cp_model.specs.Declarations.{Variable, declarations, is_component}
use Rattle.cp_model.specs.Environments.{Environment}
use Rattle.cp_model.specs.Initialisation.{init_component}
use Rattle.cp_model.specs.Invariant.{StoreInvariant}
use Rattle.cp_model.specs.Locations.{Location}
use Rattle.cp_model.specs.Outcomes.{Fault, Gives, Outcome, and_then}
use Rattle.cp_model.specs.States.{State, configuration, context, is_started}
use Rattle.cp_model.specs.StatementSteps.{execute}
use Rattle.cp_model.specs.StateViews.{fault_number}
use Rattle.cp_model.specs.Stores.{Writes, put_all}
use Rattle.cp_model.specs.declared.state.Fault as faults
use Rattle.cp_model.specs.declared.state.Fault.TheVariants as fault
use Rattle.cp_model.proofs.Options.{same_some}
use Rattle.cp_law_typing.specs.Declared.{Distinct}
use Rattle.cp_law_typing.specs.StartValues.{IsIn}
use Rattle.cp_law_typing.specs.Words.{words}
use Rattle.cp_model_program.specs.Terms.{Argument}
use Rattle.cp_model_program.specs.Programs as op
use Rattle.cp_model_program.specs.Layout.{Part}
use Rattle.cp_model_program.specs.IsProgramFor.{IsInText, ProcessRepresents, IsProgramFor, body_environment, system_of_process}
use Rattle.cp_model_program.specs.Starts.{block, paste}
use Rattle.cp_model_program.specs.StatementsFor.{InitArgumentsFor, InitsBy}
use Rattle.cp_model_program.specs.TermsFor.{Knowns}
use Rattle.cp_model_machine.specs.PrivateStates as machine
use Rattle.cp_model_machine.specs.PrivateStates.{Acting, StepContext, PrivateState, fault_in, go_to, guard}
use Rattle.cp_model_machine.specs.Passing.{Passing, pass_all, when_passed}
use Rattle.cp_model_machine.specs.Calling.{init_process, parameters_start, settle}
use Rattle.cp_model_machine.specs.Steps.{act}
use Rattle.cp_model_machine.specs.Addresses.{Ground, activations, in_sight, scope, lies_in_sight, words_seen}
use Rattle.cp_model_machine.specs.Remaining.{site}
use Rattle.cp_model_machine.specs.PartOf.{RunsOn}
use Rattle.cp_model_machine.proofs.Apart.{IsCell}
use Rattle.cp_model_machine.proofs.Declared.{distinct_first}
use Rattle.cp_model_machine.proofs.Declares.{Declares}
use Rattle.cp_model_machine.proofs.Doing.{Ready, known}
use Rattle.cp_model_machine.proofs.Finding.{in_context_none}
use Rattle.cp_model_machine.proofs.InitOffsets.{Offset}
use Rattle.cp_model_machine.proofs.InitPassing.{InitAgrees, InitBound, passes_init}
use Rattle.cp_model_machine.proofs.InitRights.{given}
use Rattle.cp_model_machine.proofs.InitSettled.{init_count, init_offsets, init_values}
use Rattle.cp_model_machine.proofs.Passing.{KeptOutside}
use Rattle.cp_model_machine.proofs.ProcessRights.{NoClassRights, no_class_rights, process_without}
use Rattle.cp_model_machine.proofs.RunningOn.{runs_here, runs_over}
use Rattle.cp_model_machine.proofs.Stacks.{own_in_whole}
use Rattle.cp_model_machine.proofs.Stepping.{AroundAll, beyond, clock_of}
use Rattle.cp_model_machine.proofs.Waiting.{parameters_are, process_declared, process_names, process_represents}

-- The `init` of a process with all words in reach: the name and the arguments in the text, and the
-- operation.
pub record InitOfProcess (G : Ground) (s : State) (w : StepContext) (before : List ℕ) (o : PrivateState) : Type 0 where
  pub represents : IsProgramFor G.program G.setup
  pub texts : represents.texts ≡ G.texts
  pub stored : StoreInvariant s.store
  pub around : AroundAll G s w
  pub name : Name
  pub given : a.Expressions
  pub env : Environment
  pub rest : List Task
  pub ready : Ready G s w before o (a.Init name given) env rest
  pub declares : Declares G ready.now.on.running.env
  pub number : ℕ
  pub passes : List Argument
  pub words : ℕ
  pub next : ℕ
  pub by : InitsBy (site G ready.now.on.running) (known G s w before o (Do (a.Init name given) env) rest ready.now) ready.now.on.left.2.3.2 given (op.InitProcess number passes words next) o.counter
      ready.now.on.left.2.3.0 ready.now.on.left.2.0 ready.now.on.left.2.1

module _ {G : Ground} {s : State} {w : StepContext} {before : List ℕ} {o : PrivateState} (Z : InitOfProcess G s w before o) where
  abbrev pub on : RunsOn G s.store o (Do (a.Init Z.name Z.given) Z.env ∷ Z.rest)
  on = Z.ready.now.on

  abbrev pub here : Environment
  here = on.running.env

  abbrev pub component : Component
  component = on.left.2.3.2

  abbrev pub system : System
  system = component.system

  abbrev first : Task
  first = Do (a.Init Z.name Z.given) Z.env

  abbrev pub top : ℕ
  top = o.base + (site G on.running).words

  abbrev pub passed : List (Name × Variable)
  passed = declarations (scope G) system.parameters

  in_text : IsInText G.setup here.system
  in_text = subst (IsInText G.setup) (sym on.runs.system) (Z.represents.systems on.running.number on.running.text (ap (λ ts. slice_get ts on.running.number) Z.texts ∙ on.runs.text))

  -- The process that is started.
  pub is : system_of_process G.setup Z.number ≡ Some system
  is =
      ap (system_of_process G.setup) (sym Z.by.2)
      ∙ Z.declares.processes Z.name component on.left.2.3.4 (process_declared G Z.represents.typed here in_text on.runs.globals Z.name component on.left.2.3.4 Z.by.0) Z.by.0

  pub row_represents : ProcessRepresents G.program Z.represents.texts G.setup Z.number
  row_represents = process_represents G Z.represents Z.number system is

  pub same_system : row_represents.system ≡ system
  same_system = same_some row_represents.system system (sym row_represents.is_system ∙ is)

  -- Where the parameters wait.
  abbrev pub to : ℕ
  to = w.own + parameters_start G.program Z.number

  pub waits : to + (1 + length passed) ≤ G.own + G.program.shared
  waits =
      omega (
        arith,
        Z.ready.now.around.own,
        parameters_are G Z.represents Z.number row_represents,
        row_represents.waits,
        row_represents.waiting,
        ap (λ (y : System). length (declarations (scope G) y.parameters)) same_system,
      )

  pub names : Distinct (declarations (scope G) system.parameters)
  names =
      subst (λ (y : System). Distinct (declarations (scope G) y.parameters)) same_system
      (distinct_first (declarations (scope G) row_represents.system.parameters) (declarations (scope G) row_represents.system.variables) (process_names G Z.represents Z.number row_represents))

  abbrev known_here : Knowns
  known_here = known G s w before o first Z.rest Z.ready.now

  arguments : InitArgumentsFor (site G on.running) known_here system passed Z.given Z.passes o.counter on.left.2.3.0 on.left.2.1 on.running.unit.temps
  arguments =
      subst (λ g. InitArgumentsFor (site G on.running) known_here system (declarations g system.parameters) Z.given Z.passes o.counter on.left.2.3.0 on.left.2.1 on.running.unit.temps)
      on.runs.globals Z.by.5

  pub counted : length Z.passes ≡ length passed
  counted = init_count (site G on.running) known_here system passed Z.given Z.passes o.counter on.left.2.3.0 on.left.2.1 on.running.unit.temps arguments

  pub one : (p : Name × Variable) → IsIn p (declarations (scope G) system.parameters) → is_component p.1.type ≡ false → (words (scope G) p.1.type ≡ 1) × IsCell p.1.type
  one p i component' =
      init_values (site G on.running) known_here system passed Z.given Z.passes o.counter on.left.2.3.0 on.left.2.1 on.running.unit.temps arguments (scope G) p i component'

  pub offsets : (p : Name × Variable) → IsIn p (declarations (scope G) system.parameters) → (k : ℕ) × Offset (scope G) system p k
  offsets p i =
      init_offsets (scope G) (site G on.running) known_here system on.runs.globals names one passed Z.given Z.passes o.counter on.left.2.3.0 on.left.2.1 on.running.unit.temps arguments (λ q j. j) p i

  pub whole_is : length o.words ≡ G.own + G.program.shared
  whole_is = on.count ∙ ap (λ v. words_seen v G.program G.own) Z.around.sight

  pub room : top + (1 + length passed) ≤ G.own
  room = omega (arith, Z.by.4, counted, on.runs.words_fit, on.base)

  abbrev lying' : Location → Option Part
  lying' = lies_in_sight (in_sight G) G (activations o.base o.frames (first ∷ Z.rest))

  none : NoClassRights G
  none = no_class_rights G Z.represents.typed

  abbrev pub bound : Outcome Writes
  bound = bind (λ l v e. init_argument_writes system.sort (clock_of G s) here s.store l v.type e) (process_location Z.number) passed Z.given

  passed_ok : InitAgrees G system (process_location Z.number) to top names one passed w.own (record o { words = o.words }) o.words bound (pass_all w top to Z.passes o)
  passed_ok =
      passes_init G system (process_location Z.number) to top names one (site G on.running) (clock_of G s) s.store w known_here lying' o
      (λ ws len same. runs_here G s.store w (record o { words = ws }) (first ∷ Z.rest) (clock_of G s) Z.ready.now.around.clock (runs_over G s.store s.store o ws (first ∷ Z.rest) on (λ l q. refl) (λ j q. same j (beyond G s w Z.ready.now.around top j q)) len) Z.ready.now.sees)
      on.runs.globals
      (λ d t f y named ws same len j inner l room z u right type.
      given G s w before o first Z.rest Z.ready.now Z.ready.now.sees Z.stored none Z.declares system to d (λ e. absurd (process_without G.setup Z.represents.typed Z.number system is j z u d.system inner right type e)) t f y named ws (λ v q. same v (beyond G s w Z.ready.now.around top v q)) len j inner l room)
      (omega (arith, waits, whole_is))
      passed Z.given Z.passes o.counter on.left.2.3.0 on.left.2.1 on.running.unit.temps o.words arguments
      (in_context_none (a.Init Z.name) (call_in_arguments here (a.Literal 0) Z.given) Z.ready.none) names (λ p i. i)
      (omega (arith, room, Z.ready.now.around.own)) (omega (arith, Z.ready.now.around.own, on.count, own_in_whole G)) refl (λ z q. refl)

  -- The words, with the parameters moved to where they wait.
  abbrev pub moved : List ℤ → List ℤ
  moved us = paste (to + 1) (block us (top + 1) (length passed)) us

  abbrev pub body : List Task
  body = push system.body (body_environment (scope G) system (process_location Z.number)) (EndProcess ∷ [])

  -- ---- what becomes of both

  abbrev pub Kept : List ℤ → Type 0
  Kept us = KeptOutside top w.own o.words us

  abbrev pub Bound : Writes → List ℤ → Type 0
  Bound ws us = InitBound G system (process_location Z.number) to top names one passed ws o.words us

  -- Both sides stop at a fault, or the parameters are bound and wait.
  pub data BothInit (R : StepResult) (M : Acting) : Type 0 where
    BothFault : (n : ℕ) (f : faults.Fault) (us : List ℤ) → R ≡ Fault n → M ≡ fault_in (record o { words = us }) f → n ≡ fault_number f → Kept us → BothInit R M
    BothStart : (ws : Writes) (us : List ℤ) → is_started (s.status Z.number) ≡ false
        → R ≡ Gives (record (configuration s G.p) { store = put_all ws s.store; continuation = Z.rest }, stage.Starts Z.number body)
        → M ≡ (go_to Z.next (record o { words = moved us }), machine.Starts Z.number) → Bound ws us → BothInit R M

  abbrev starts : Writes → StepResult
  starts ws = Gives (record (configuration s G.p) { store = put_all ws s.store; continuation = Z.rest }, stage.Starts Z.number body)

  abbrev begun : PrivateState → Acting
  begun p = (go_to Z.next (settle p top to (length Z.passes)), machine.Starts Z.number)

  inner : is_started (s.status Z.number) ≡ false → (O : Outcome Writes) (P : Passing)
      → InitAgrees G system (process_location Z.number) to top names one passed w.own (record o { words = o.words }) o.words O P → BothInit (and_then O starts) (when_passed P begun)
  inner free (Fault j) P g =
      BothFault j g.0 P.own.words refl
      ((λ i. elim (g.1 i) as (λ z. Acting) [ None ↦ begun P.own | Some e ↦ fault_in P.own e ]) ∙ ap (λ p. fault_in p g.0) g.3) g.2 (g.4.0, g.4.1)
  inner free (Gives ws) P g =
      BothStart ws P.own.words free refl
      ((λ i. elim (g.0 i) as (λ z. Acting) [ None ↦ begun P.own | Some e ↦ fault_in P.own e ])
      ∙ (ap begun g.1 ∙ ap (λ z. (go_to Z.next (settle (record o { words = P.own.words }) top to z), machine.Starts Z.number)) counted)) g.2

  by_start : (b : Bool) → is_started (s.status Z.number) ≡ b
      → BothInit (if b then Fault 7 else and_then bound starts) (guard (not b) o fault.InitialisedTwice (when_passed (pass_all w top to Z.passes o) begun))
  by_start true e = BothFault 7 fault.InitialisedTwice o.words refl refl refl (refl, λ i q. refl)
  by_start false e = inner e bound (pass_all w top to Z.passes o) passed_ok

  abbrev inits : ℕ → List (Name × Variable) → Environment → StepResult
  inits j ps y =
      if is_started (s.status j) then Fault 7
      else and_then (bind (λ l v e. init_argument_writes system.sort (clock_of G s) here s.store l v.type e) (process_location j) ps Z.given) (λ ws.
      Gives (record (configuration s G.p) { store = put_all ws s.store; continuation = Z.rest }, stage.Starts j (push system.body y (EndProcess ∷ []))))

  pub both_init : BothInit (execute (context G.setup s G.p) (configuration s G.p) here Z.rest (a.Init Z.name Z.given)) (act G.program w o (op.InitProcess Z.number Z.passes Z.words Z.next))
  both_init =
      subst (λ (z : Option Component). BothInit (elim z as (λ y. StepResult) [ None ↦ own_step (with_continuation (configuration s G.p) Z.rest) | Some c ↦ init_component c.system.sort (context G.setup s G.p) (configuration s G.p) here Z.rest Z.given c ]) computed)
      (sym on.left.2.3.4)
      (subst (λ z. BothInit (init_component z (context G.setup s G.p) (configuration s G.p) here Z.rest Z.given component) computed) (sym Z.by.0)
      (subst (λ j. BothInit (inits j (declarations here.globals system.parameters) (record { globals = here.globals; system = system; component = process_location j; frame = None })) computed) (sym Z.by.2)
      (subst (λ g. BothInit (inits Z.number (declarations g system.parameters) (record { globals = g; system = system; component = process_location Z.number; frame = None })) computed) (sym on.runs.globals)
      (subst (λ z. BothInit (inits Z.number passed (body_environment (scope G) system (process_location Z.number))) (init_process G.program w o Z.number Z.passes z Z.next)) (sym Z.by.3)
      (subst (λ b. BothInit (inits Z.number passed (body_environment (scope G) system (process_location Z.number))) (guard (not b) o fault.InitialisedTwice (when_passed (pass_all w top to Z.passes o) begun))) (sym (Z.around.started_is Z.number system is))
      (by_start (is_started (s.status Z.number)) refl))))))
    where
      computed : Acting
      computed = init_process G.program w o Z.number Z.passes Z.words Z.next
