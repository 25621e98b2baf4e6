-- The `init` of a class or a monitor, as written in the text, changes no words but the process's
-- own and those of monitors.
use Rattle.std.proofs.Common.{◌≡◌, ℕ, ◌+◌, ◌≤◌, List, ◌∷◌, false, Some, refl, ap, sym, subst, ◌∙◌, arith, length}
use Rattle.cp_model.specs.Abstract as a
use Rattle.cp_model.specs.Abstract.{Class, Monitor, Name}
use Rattle.cp_model.specs.Components.{Component, declared_monitor, name_location}
use Rattle.cp_model.specs.Continuations.{Do, Task}
use Rattle.cp_model.specs.Declarations.{Variable, declarations, is_component}
use Rattle.cp_model.specs.Environments.{Environment}
use Rattle.cp_model.specs.Invariant.{StoreInvariant}
use Rattle.cp_model.specs.Locations.{OfMonitor, root}
use Rattle.cp_model.specs.States.{State}
use Rattle.cp_law_typing.specs.Declared.{Distinct}
use Rattle.cp_law_typing.specs.StartValues.{IsIn}
use Rattle.cp_law_typing.specs.Words.{words}
use Rattle.cp_model_program.specs.Programs as op
use Rattle.cp_model_program.specs.Programs.{Call}
use Rattle.cp_model_program.specs.Sites.{BodyOf, TargetOf}
use Rattle.cp_model_program.specs.IsProgramFor.{UnitRepresents, system_of_monitor}
use Rattle.cp_model_program.specs.StatementsFor.{InitArgumentsFor, InitCalls, InitsBy}
use Rattle.cp_model_program.specs.TermsFor.{Knowns}
use Rattle.cp_model_program.specs.Terms as target
use Rattle.cp_model_machine.specs.PrivateStates.{StepContext, PrivateState}
use Rattle.cp_model_machine.specs.Calling.{init_class, init_monitor}
use Rattle.cp_model_machine.specs.Passing.{component_called, monitor_start}
use Rattle.cp_model_machine.specs.Steps.{act}
use Rattle.cp_model_machine.specs.Addresses.{ClassLies, Ground, MonitorLies, activations, scope}
use Rattle.cp_model_machine.specs.Remaining.{site}
use Rattle.cp_model_machine.proofs.Apart.{IsCell}
use Rattle.cp_model_machine.proofs.CallSteps.{UnitsRepresent}
use Rattle.cp_model_machine.proofs.Declared.{distinct_first}
use Rattle.cp_model_machine.proofs.Declares.{Declares}
use Rattle.cp_model_machine.proofs.Doing.{Ready, known}
use Rattle.cp_model_machine.proofs.InitSettled.{init_count, init_values}
use Rattle.cp_model_machine.proofs.PassedWords.{LieBelow, init_below}
use Rattle.cp_model_machine.proofs.RunningOn.{runs_stacked}
use Rattle.cp_model_machine.proofs.Spares.{Spares}
use Rattle.cp_model_machine.proofs.SparingCalls.{class_spares, monitor_spares}
use Rattle.cp_model_machine.proofs.Targets.{class_lies}

module _ (G : Ground) (s : State) (w : StepContext) (before : List ℕ) (o : PrivateState) (x : Name) (es : a.Expressions) (env : Environment) (k : List Task) (I : StoreInvariant s.store) (units : UnitsRepresent G)
    (Y : Ready G s w before o (a.Init x es) env k) (call : Call) (next : ℕ) where
  abbrev first : Task
  first = Do (a.Init x es) env

  abbrev here : Environment
  here = Y.now.on.running.env

  abbrev n : Component
  n = Y.now.on.left.2.3.2

  abbrev passed : List (Name × Variable)
  passed = declarations (scope G) n.system.parameters

  abbrev known_here : Knowns
  known_here = known G s w before o first k Y.now

  module _ (C : InitCalls (site G Y.now.on.running) n Y.now.on.left.2.1 call)
      (given : InitArgumentsFor (site G Y.now.on.running) known_here n.system (declarations here.globals n.system.parameters) es call.arguments o.counter Y.now.on.left.2.3.0 Y.now.on.left.2.1 Y.now.on.running.unit.temps) where
    arguments : InitArgumentsFor (site G Y.now.on.running) known_here n.system passed es call.arguments o.counter Y.now.on.left.2.3.0 Y.now.on.left.2.1 Y.now.on.running.unit.temps
    arguments =
        subst (λ g. InitArgumentsFor (site G Y.now.on.running) known_here n.system (declarations g n.system.parameters) es call.arguments o.counter Y.now.on.left.2.3.0 Y.now.on.left.2.1 Y.now.on.running.unit.temps)
        Y.now.on.runs.globals given

    counted : length call.arguments ≡ length passed
    counted = init_count (site G Y.now.on.running) known_here n.system passed es call.arguments o.counter Y.now.on.left.2.3.0 Y.now.on.left.2.1 Y.now.on.running.unit.temps arguments

    one : (p : Name × Variable) → IsIn p (declarations (scope G) n.system.parameters) → is_component p.1.type ≡ false → (words (scope G) p.1.type ≡ 1) × IsCell p.1.type
    one p i component =
        init_values (site G Y.now.on.running) known_here n.system passed es call.arguments o.counter Y.now.on.left.2.3.0 Y.now.on.left.2.1 Y.now.on.running.unit.temps arguments (scope G) p i component

    represents : UnitRepresents G.program G.texts (scope G) C.runs.unit (BodyOf n.system)
    represents = units.1 call.routine C.runs.unit (BodyOf n.system) C.runs.there C.runs.text

    names : Distinct (declarations (scope G) n.system.parameters)
    names = distinct_first (declarations (scope G) n.system.parameters) (declarations (scope G) n.system.variables) represents.1

    below : LieBelow (1 + length passed) call.arguments
    below =
        init_below (scope G) (site G Y.now.on.running) known_here n.system Y.now.on.runs.globals names one passed es call.arguments o.counter Y.now.on.left.2.3.0 Y.now.on.left.2.1 Y.now.on.running.unit.temps arguments (λ p i. i)

    room : o.base + call.words + (1 + length passed) ≤ G.own
    room = omega (arith, C.room, C.runs.words, counted, Y.now.on.runs.words_fit, Y.now.on.base)

    -- A class is a variable of the running component.
    class_place : n.system.sort ≡ Class → Spares G o.words (init_class G.program w o call (component_called G.program w o call.target).component next).0.words
    class_place sort = by call.target (subst (λ z. TargetOf here n z false call.target) sort (subst (λ b. TargetOf here n n.system.sort b call.target) C.own C.target))
      where
        by : (t : target.Target) → TargetOf here n Class false t → Spares G o.words (init_class G.program w o call (component_called G.program w o t).component next).0.words
        by (target.Class at) t =
            let lying = class_lies G s w before o first k Y.now Y.now.sees I n at t in
            class_spares G (activations o.base o.frames (first ∷ k)) _ (runs_stacked G s.store o (first ∷ k) Y.now.on) (name_location here n) (o.component + at) n.system (ClassLies sort lying) names one w o call next
            C.runs.unit C.runs.there counted below room sort lying
        by _ t = absurd t

    monitor_place : n.system.sort ≡ Monitor → Declares G here → Spares G o.words (init_monitor G.program w o call (component_called G.program w o call.target).gate next).0.words
    monitor_place sort declares = by call.target (subst (λ z. TargetOf here n z false call.target) sort (subst (λ b. TargetOf here n n.system.sort b call.target) C.own C.target))
      where
        is : system_of_monitor G.setup (declared_monitor here n) ≡ Some n.system
        is = declares.monitors x n Y.now.on.left.2.3.4 C.own sort

        by : (t : target.Target) → TargetOf here n Monitor false t → Spares G o.words (init_monitor G.program w o call (component_called G.program w o t).gate next).0.words
        by (target.Monitor m) t =
            monitor_spares G (activations o.base o.frames (first ∷ k)) _ (runs_stacked G s.store o (first ∷ k) Y.now.on) (root (OfMonitor m)) (w.own + monitor_start G.program m) n.system
            (MonitorLies m refl (ap (system_of_monitor G.setup) (sym t) ∙ is) (omega (arith, Y.now.around.own))) names one w o call next C.runs.unit C.runs.there counted below room m refl
        by _ t = absurd t

  abbrev By : op.Operation → Type 0
  By y = InitsBy (site G Y.now.on.running) known_here n es y o.counter Y.now.on.left.2.3.0 Y.now.on.left.2.0 Y.now.on.left.2.1

  pub class_is_spared : By (op.InitClass call next) → Spares G o.words (act G.program w o (op.InitClass call next)).0.words
  class_is_spared h = class_place h.2 h.3 h.0

  pub monitor_is_spared : By (op.InitMonitor call next) → Declares G here → Spares G o.words (act G.program w o (op.InitMonitor call next)).0.words
  monitor_is_spared h declares = monitor_place h.2 h.3 h.0 declares
