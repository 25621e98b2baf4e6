use Rattle.cp_kernel.proofs.Asking.{less, room_kept}
use Rattle.cp_kernel.proofs.kernel.Kernel.apply.Goals as goal

pub returns-in-Leaves-clause-room : goal.returns-in-Leaves-clause-room
returns-in-Leaves-clause-room c = λ n h. c.pass_on.ensures.room n (less c.args.self.now n h)

pub returns-in-Leaves-clause-kept : goal.returns-in-Leaves-clause-kept
returns-in-Leaves-clause-kept c = λ A n begun h. c.pass_on.ensures.room n h

pub returns-in-Opens-clause-room : goal.returns-in-Opens-clause-room
returns-in-Opens-clause-room c = λ n h. c.set_gate.ensures.room n (less c.args.self.now n h)

pub returns-in-Opens-clause-kept : goal.returns-in-Opens-clause-kept
returns-in-Opens-clause-kept c = λ A n begun h. c.set_gate.ensures.room n h

pub returns-in-Delays-clause-room : goal.returns-in-Delays-clause-room
returns-in-Delays-clause-room c =
    λ n h. c.pass_on-in-Delays.ensures.room n (room_kept c.args.self.now c.set_stage.new.self n c.set_stage.ensures.gates (less c.args.self.now n h))

pub returns-in-Delays-clause-kept : goal.returns-in-Delays-clause-kept
returns-in-Delays-clause-kept c =
    λ A n begun h. c.pass_on-in-Delays.ensures.room n (room_kept c.args.self.now c.set_stage.new.self n c.set_stage.ensures.gates h)

pub returns-in-Continues-clause-room : goal.returns-in-Continues-clause-room
returns-in-Continues-clause-room c = λ n h. c.resume.ensures.room n (less c.args.self.now n h)

pub returns-in-Continues-clause-kept : goal.returns-in-Continues-clause-kept
returns-in-Continues-clause-kept c = λ A n begun h. c.resume.ensures.room n h
