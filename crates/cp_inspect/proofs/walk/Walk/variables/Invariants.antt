use Rattle.std.proofs.Common.{◌++◌, [], drop, map}
use Rattle.cp_model.specs.Types.{GlobalScope, Members}
use Rattle.cp_model_machine.specs.Reports.{visit_members}
use Rattle.cp_compile_symbols.specs.Representing.{AreMembers, ScopeRepresents}
use Rattle.cp_inspect.specs.Lists.{declared_member}
use Rattle.cp_inspect.specs.Sinks.{Sink, held_by, visit_into}
use Rattle.cp_inspect.proofs.MembersReported.{MembersToReport}
use Rattle.cp_inspect.proofs.walk.Walk.variables.Given as goal

-- What has been reported and the variables that are left make up the whole.
abbrev pub invariant-loop-declared : goal.invariant-loop-declared
invariant-loop-declared l =
    (s : Sink) (g : GlobalScope) (ms : Members) → ScopeRepresents l.tables.names l.tables.types g → AreMembers l.tables.types (map declared_member l.variables) ms
    → MembersToReport g (visit_into s l.walk_output) l.tables.types (map declared_member (drop l.declared-index l.variables)) l.self.at (held_by s l.self l.out.items)
    (held_by s l.fn.self l.fn.out.items ++ visit_members g (visit_into s l.walk_output) [] l.fn.self.at ms)
