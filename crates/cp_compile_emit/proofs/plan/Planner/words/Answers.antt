use Rattle.cp_compile_emit.specs.Planning.{types_of}
use Rattle.cp_compile_emit.proofs.plan.Planner.words.Goals as goal

pub returns-in-Some : goal.returns-in-Some
returns-in-Some c = λ g t knows represents. (rw c.in-Some.is at c.in_ok-words.ensures) g (types_of c.args.self.now) t knows.laid represents
