use Rattle.std.proofs.Common.{◌≡◌, ◌-◌, ℕ, sym, subst, arith}
use Rattle.cp_private.specs.States.{private_of}
use Rattle.cp_rounds_handoff.specs.Tasks.{AreMade, AreTaken}
use Rattle.cp_rounds_handoff.specs.declared.round_time.RoundTime.{RoundTime}
use Rattle.cp_rounds.proofs.finishing.take_from_handoff.Goals as goal

pub returns : goal.returns
returns g c =
    let taken = c.take.ensures in
    let one : c.take.result ≡ 1 = omega (arith, taken.some, taken.few) in
    let all =
    subst (λ (n : ℕ).
    AreTaken (AreMade g.C.Course.without_kernel g.C.Course.turned g.C.Course.round_time c.args.round.now.index n) (g.C.Course.input (c.args.process - 1)) g.C.Course.most
    c.args.round.now.start.value.items c.args.process c.take.new.private) one taken.taken in
    let input = g.C.Course.input (c.args.process - 1) in
    let y = c.take.new.private in
    record {
      number = all.number;
      comes = λ x e.
          subst (λ (m : RoundTime). private_of y input ≡ g.C.Course.turned m (private_of x input)) (sym c.args.round.now.time) (all.comes x e);
      room = all.room;
      short = all.short;
    }
