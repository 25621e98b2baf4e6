use Rattle.std.proofs.Common.{ap, sym}
use Rattle.cp_model_machine.specs.Values.{value_of}
use Rattle.cp_program.specs.Reaches.{view_with}
use Rattle.cp_program.specs.View as view
use Rattle.cp_program.proofs.Found.{found}
use Rattle.cp_program.proofs.element.Slot.fast_value.Goals as goal

pub returns-in-Local : goal.returns-in-Local
returns-in-Local g c clock =
    let v = view_with c.args.memory.now c.args.shared.now clock in
    found c.fast_local.result _ _ (ap (λ s. value_of v (view.slot s)) (sym c.in-Local.is)) (c.fast_local.ensures clock)

pub returns-in-Member : goal.returns-in-Member
returns-in-Member g c clock =
    let v = view_with c.args.memory.now c.args.shared.now clock in
    found c.fast_member.result _ _ (ap (λ s. value_of v (view.slot s)) (sym c.in-Member.is)) (c.fast_member.ensures clock)
