use Rattle.std.proofs.Common.{◌≡◌, [], drop}
use Rattle.cp_frontend.specs.Inputs.{given}
use Rattle.cp_frontend.proofs.inputs.input_of.Given as goal

abbrev pub invariant-loop-input : goal.invariant-loop-input
invariant-loop-input l = given l.found (drop l.input-index l.inputs) l.process ≡ given [] l.inputs l.process
