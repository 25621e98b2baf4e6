use Rattle.std.proofs.Common.{refl}
use Rattle.cp_rounds.proofs.Made.{same_machine_with}
use Rattle.cp_rounds.proofs.machine.Machine.checkpoint.Goals as goal

pub returns : goal.returns
returns c =
    let m = c.args.self.now in
    let copy = c.in_ok-parts.parts in
    let same = c.in_ok-parts.ensures in
    record {
      machine = same_machine_with m.config m.rounds m.parts.privates.items m.parts.kernel copy.privates.items copy.kernel same;
      processes = same.count;
      rounds = refl;
    }
