use Rattle.std.proofs.Common.{rules, ◌≡◌, Some, true, false, ap, sym, ◌∙◌}
use Rattle.std.specs.Prelude.{option_map, slice_get}
use Rattle.cp_program.specs.View as view
use Rattle.cp_private.specs.States.{join}
use Rattle.cp_private.proofs.Calling.{unit_full, unit_there}
use Rattle.cp_private.proofs.private.Private.unit_with_room.Goals as goal

pub returns-then-has_room-clause-unit : goal.returns-then-has_room-clause-unit
returns-then-has_room-clause-unit c =
    λ w input own go.
    let program = view.program c.args.program.now in
    let call = view.call c.args.call.now in
    let o = join c.args.self.now input c.args.shared.now in
    let there : slice_get program.units call.routine ≡ Some (view.code_unit (view.plans_of c.args.program.now) c.in_ok-unit.unit.now) = sym c.unit.ensures ∙ ap (option_map (λ u. view.code_unit (view.plans_of c.args.program.now) u.now)) c.in_ok-unit.was in
    let tested : c.has_room.result ≡ true = search rules in
    unit_there program w o call c.args.component go (view.code_unit (view.plans_of c.args.program.now) c.in_ok-unit.unit.now) there (sym (c.has_room.ensures.value (view.plans_of c.args.program.now) w input own) ∙ tested)

pub returns-else-has_room-clause-unit : goal.returns-else-has_room-clause-unit
returns-else-has_room-clause-unit c =
    λ w input own go.
    let program = view.program c.args.program.now in
    let call = view.call c.args.call.now in
    let o = join c.args.self.now input c.args.shared.now in
    let there : slice_get program.units call.routine ≡ Some (view.code_unit (view.plans_of c.args.program.now) c.in_ok-unit.unit.now) = sym c.unit.ensures ∙ ap (option_map (λ u. view.code_unit (view.plans_of c.args.program.now) u.now)) c.in_ok-unit.was in
    let tested : c.has_room.result ≡ false = search rules in
    unit_full program w o call c.args.component go (view.code_unit (view.plans_of c.args.program.now) c.in_ok-unit.unit.now) there (sym (c.has_room.ensures.value (view.plans_of c.args.program.now) w input own) ∙ tested)
