use Rattle.std.proofs.Common.{drop}
use Rattle.cp_outcome.proofs.Sections.{LeadsTo}
use Rattle.cp_outcome.proofs.several.sections.Given as goal

-- the sections of the processes before this one are made
abbrev pub invariant-loop-process : goal.invariant-loop-process
invariant-loop-process l = LeadsTo l.processes l.machine (drop l.process-index l.processes) l.bytes.items
