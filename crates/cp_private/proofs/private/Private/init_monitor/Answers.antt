-- The step is the attempt with the monitor that the code finds, which is the definition's (`named`).
-- The lemmas of `Calling` say how it ends: without a unit, by a fault, or by entering the unit. Until
-- then only words are written, so the registers still have room for the unit.
use Rattle.std.proofs.Common.{rules, arith, ◌≡◌, ◌+◌, map, true, false, Err, length, refl, ap, sym, ◌∙◌}
use Rattle.std.proofs.lemmas.List.{length-map}
use Rattle.std.specs.Prelude.{not}
use Rattle.cp_model_machine.specs.PrivateStates.{Acting, Opens, StepContext, PrivateState}
use Rattle.cp_model_machine.specs.Calling.{enter, init_monitor, settle}
use Rattle.cp_model_machine.specs.Passing.{component_called}
use Rattle.cp_program.specs.View as view
use Rattle.cp_private.specs.Calls.{called_of, passing_of}
use Rattle.cp_private.specs.States.{join, outcome, outside_of}
use Rattle.cp_private.proofs.Calling.{FastPath, end_of, init_of_monitor, passed, refused, unfound}
use Rattle.cp_private.proofs.private.Private.init_monitor.Goals as goal
use Rattle.cp_private.proofs.private.Private.init_monitor.Goals.{After-monitor_callee-monitor}

module _ (c : After-monitor_callee-monitor) where
  abbrev w : StepContext
  w = outside_of c.args.outside.now (length c.args.self.now.memory.words.items)

  abbrev o : PrivateState
  o = join c.args.self.now c.args.outside.now.input.now c.args.shared.now

  abbrev fast_path : FastPath
  fast_path =
      init_of_monitor (view.program c.args.program.now) w o (view.call c.args.call.now) c.args.next c.callee-number.result.gate
      (called_of c.monitor_callee-monitor.result)

  abbrev defined : Acting
  defined =
      let program = view.program c.args.program.now in
      let call = view.call c.args.call.now in
      init_monitor program w o call (component_called program w o call.target).gate c.args.next

  named : end_of fast_path ≡ defined
  named =
      let program = view.program c.args.program.now in
      let call = view.call c.args.call.now in
      ap (λ k. end_of (init_of_monitor program w o call c.args.next c.callee-number.result.gate k)) c.monitor_callee-monitor.ensures
      ∙ ap (λ k. init_monitor program w o call k.gate c.args.next) (c.callee-number.ensures c.args.outside.now.input.now)

pub returns-in_default-clause-step : goal.returns-in_default-clause-step
returns-in_default-clause-step c =
    let k = (goal.at.returns-in_default-clause-step c).After-monitor_callee-monitor in
    unfound (fast_path k) (c.in_default.ensures.unit (w k) c.args.outside.now.input.now refl) ∙ named k

pub returns-then-monitor-clause-step : goal.returns-then-monitor-clause-step
returns-then-monitor-clause-step c =
    let k = (goal.at.returns-then-monitor-clause-step c).After-monitor_callee-monitor in
    let set : not c.monitor_callee-monitor.result.is_set ≡ false = search rules in
    let there = c.in-Some.ensures.unit (w k) c.args.outside.now.input.now refl in
    refused (fast_path k) (view.code_unit (view.plans_of c.args.program.now) c.in-Some.unit.now) there set ∙ named k

pub returns-in_err-pass_all-clause-step : goal.returns-in_err-pass_all-clause-step
returns-in_err-pass_all-clause-step c =
    let k = (goal.at.returns-in_err-pass_all-clause-step c).After-monitor_callee-monitor in
    let p = join c.pass_all.new.self c.args.outside.now.input.now c.pass_all.new.shared in
    let unset : not c.monitor_callee-monitor.result.is_set ≡ true = search rules in
    let there = c.in-Some.ensures.unit (w k) c.args.outside.now.input.now refl in
    let given : c.from_residual.result ≡ Err c.in_err-pass_all.field-0.0 = search rules in
    let passing = rw c.deref.ensures.value at c.pass_all.ensures.step (length c.args.self.now.memory.words.items) in
    ap (outcome p) given
    ∙ (passed (fast_path k) (view.code_unit (view.plans_of c.args.program.now) c.in-Some.unit.now) _ there unset (ap (passing_of p) (sym c.in_err-pass_all.was) ∙ passing) ∙ named k)

pub enter-requires : goal.enter-requires
enter-requires c =
    let room = c.in-Some.ensures.room in
    let passing = c.pass_all.ensures.kept in
    let settled = c.settle.ensures.kept in
    record {
      frame = omega (arith, room.frames, passing.depth, passing.frames, settled.depth, settled.frames);
      base = omega (arith, room.words, passing.base, settled.base, c.args.self.now.facts);
      temp = omega (arith, room.temps, passing.temp, settled.temp, c.args.self.now.facts);
      component = omega (arith, room.component, c.args.self.now.facts, c.requires);
    }

pub returns-clause-step : goal.returns-clause-step
returns-clause-step c =
    let k = (goal.at.returns-clause-step c).After-monitor_callee-monitor in
    let input = c.args.outside.now.input.now in
    let monitor = called_of c.monitor_callee-monitor.result in
    let from = (o k).base + (view.call c.args.call.now).words in
    let p = join c.pass_all.new.self input c.pass_all.new.shared in
    let unit = view.code_unit (view.plans_of c.args.program.now) c.in-Some.unit.now in
    let unset : not c.monitor_callee-monitor.result.is_set ≡ true = search rules in
    let there = c.in-Some.ensures.unit (w k) input refl in
    let passing = ap (passing_of p) (sym c.in_ok-pass_all.was) ∙ rw c.deref.ensures.value at c.pass_all.ensures.step (length c.args.self.now.memory.words.items) in
    let arguments = c.args.call.now.arguments.items in
    let count : c.len.result ≡ length (map view.argument arguments) = omega (arith, c.len.ensures, length-map arguments view.argument) in
    let settled = c.settle.ensures.step input ∙ ap (settle p from monitor.component) count in
    let entered = c.enter.ensures.step (view.plans_of c.args.program.now) input c.settle.new.shared
    ∙ ap (λ q. enter q monitor unit (view.call c.args.call.now) (record { counter = c.args.next; into = 0 })) settled in
    (λ i. (entered i, Opens c.callee-number.result.gate)) ∙ (passed (fast_path k) unit _ there unset passing ∙ named k)
