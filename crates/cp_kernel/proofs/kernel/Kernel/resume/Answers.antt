use Rattle.cp_kernel.proofs.Asking.{room_kept}
use Rattle.cp_kernel.proofs.kernel.Kernel.resume.Goals as goal

pub returns-clause-room : goal.returns-clause-room
returns-clause-room c =
    λ n h. room_kept c.hold.new.self c.make_ready.new.self n c.make_ready.ensures.gates (c.hold.ensures.room n h)
