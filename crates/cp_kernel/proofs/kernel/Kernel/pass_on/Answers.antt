use Rattle.cp_kernel.proofs.Asking.{room_kept}
use Rattle.cp_kernel.proofs.kernel.Kernel.pass_on.Goals as goal

pub returns-in-Some-clause-room : goal.returns-in-Some-clause-room
returns-in-Some-clause-room c =
    λ n h. room_kept c.grant.new.self c.make_ready.new.self n c.make_ready.ensures.gates (c.grant.ensures.room n h)

pub returns-in-None-clause-room : goal.returns-in-None-clause-room
returns-in-None-clause-room c = λ n h. c.set_gate.ensures.room n (c.grant.ensures.room n h)
