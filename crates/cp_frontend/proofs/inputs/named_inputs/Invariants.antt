use Rattle.std.proofs.Common.{[]}
use Rattle.cp_frontend.specs.Cutting.{AreInputs}
use Rattle.cp_frontend.specs.Inputs.{given}
use Rattle.cp_frontend.proofs.inputs.named_inputs.Given as goal

abbrev pub invariant-loop-index : goal.invariant-loop-index
invariant-loop-index l = AreInputs (given [] l.inputs) l.index l.all.items
