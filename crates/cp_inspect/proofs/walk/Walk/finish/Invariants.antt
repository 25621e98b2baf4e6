use Rattle.std.proofs.Common.{◌+◌, ◌++◌, List}
use Rattle.cp_model.specs.Types.{GlobalScope}
use Rattle.cp_compile_symbols.specs.Representing.{ScopeRepresents}
use Rattle.cp_inspect.specs.Remaining.{Remaining, left_text, left_words}
use Rattle.cp_inspect.specs.Sinks.{Sink, held_by, visit_into}
use Rattle.cp_inspect.specs.Walks.{Advances, WalkRepresents}
use Rattle.cp_inspect.proofs.walk.Walk.finish.Given as goal

-- What has been reported and what is left make up what was left at first.
abbrev pub invariant-loop-visit : goal.invariant-loop-visit
invariant-loop-visit l =
    (s : Sink) (g : GlobalScope) (rest : List Remaining) → ScopeRepresents l.tables.names l.tables.types g → WalkRepresents l.tables.types l.fn.self rest
    → Advances g (visit_into s l.walk_output) l.tables.types l.self (held_by s l.self l.out.items)
    (held_by s l.fn.self l.fn.out.items ++ left_text g (visit_into s l.walk_output) rest l.fn.self.at) (l.fn.self.at + left_words g rest)
