use Rattle.std.proofs.Common.{◌++◌, [], drop, map}
use Rattle.cp_model.specs.Types.{GlobalScope, Members}
use Rattle.cp_model_machine.specs.Reports.{visit_members}
use Rattle.cp_compile_symbols.specs.Representing.{AreMembers, ScopeRepresents, entry}
use Rattle.cp_inspect.specs.Sinks.{Sink, held_by, visit_into}
use Rattle.cp_inspect.proofs.MembersReported.{MembersToReport}
use Rattle.cp_inspect.proofs.walk.Walk.members.Given as goal

-- What has been reported and the members that are left make up the whole.
abbrev pub invariant-loop-member : goal.invariant-loop-member
invariant-loop-member l =
    (s : Sink) (g : GlobalScope) (ms : Members) → ScopeRepresents l.tables.names l.tables.types g → AreMembers l.tables.types (map entry l.members) ms
    → MembersToReport g (visit_into s l.walk_output) l.tables.types (map entry (drop l.member-index l.members)) l.self.at (held_by s l.self l.out.items)
    (held_by s l.fn.self l.fn.out.items ++ visit_members g (visit_into s l.walk_output) [] l.fn.self.at ms)
