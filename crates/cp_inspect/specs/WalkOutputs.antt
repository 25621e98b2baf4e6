-- What is reported of a simple part or a queue.
use Rattle.std.specs.Prelude.{ℕ, ℤ, [], Option, ◌++◌, codes}
use Rattle.cp_model.specs.Decimal.{decimal}
use Rattle.cp_model.specs.Locations.{Path}
use Rattle.cp_model.specs.Report.{Text, line, occupant_text}
use Rattle.cp_model_machine.specs.Reports.{Visit, lines_visit, queue_visit}
use Rattle.cp_inspect.specs.LeafCodes.{leaf_visit}
use Rattle.cp_inspect.specs.declared.place.Kind.{Kind}
use Rattle.cp_inspect.specs.declared.place.Kind.TheVariants as kind
use Rattle.cp_inspect.specs.declared.place.Value.{Value}
use Rattle.cp_inspect.specs.declared.place.Value.TheVariants as value
use Rattle.cp_inspect.specs.declared.walk_output.WalkOutput.{WalkOutput}
use Rattle.cp_inspect.specs.declared.walk_output.WalkOutput.TheVariants as walk_output

-- Nothing is reported.
abbrev pub silent_visit : Visit
silent_visit = record { simple = λ path at. []; queue = λ path at. [] }

abbrev pub visit_of : WalkOutput → Visit
visit_of (walk_output.Lines ws) = lines_visit ws.now
visit_of (walk_output.PathOf at) = queue_visit at
visit_of walk_output.Leaves = silent_visit

-- What is kept as places.
abbrev pub kept_visit : WalkOutput → Visit
kept_visit (walk_output.Lines ws) = silent_visit
kept_visit (walk_output.PathOf at) = silent_visit
kept_visit walk_output.Leaves = leaf_visit

abbrev pub report_leaf : Visit → Kind → Path → ℕ → Text
report_leaf v kind.Simple path at = v.simple path at
report_leaf v kind.Queue path at = v.queue path at

-- The lines of a value and of a queue, given the text of the path.
abbrev pub value_line_of : Text → ℤ → Text
value_line_of path n = line (codes "var " ++ (path ++ (codes " = " ++ decimal n)))

abbrev pub queue_line_of : Text → Option ℕ → Text
queue_line_of path p = line (codes "queue " ++ (path ++ (codes " = " ++ occupant_text p)))

abbrev pub line_of : Text → Value → Text
line_of path (value.Ordinal n) = value_line_of path n
line_of path (value.Queue p) = queue_line_of path p
