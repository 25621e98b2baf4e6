use Rattle.cp_model_program.proofs.Negatives.{array_begins}
use Rattle.cp_model_program.proofs.numbers.+types.Goals as goal

pub returns-in-Array : goal.returns-in-Array
returns-in-Array t c =
    rw c.in-Array.is (array_begins 65535 c.in-Array.at c.in-Array.indices c.in-Array.element (rw c.deref-in-Array.ensures at c.read_type.ensures))
