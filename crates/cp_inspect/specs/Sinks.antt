-- What a walk adds to the text and to the places that it keeps.
use Rattle.cp_model.specs.Report.{Text}
use Rattle.cp_model_machine.specs.Reports.{Visit}
use Rattle.cp_inspect.specs.LeafCodes.{leaf_codes}
use Rattle.cp_inspect.specs.WalkOutputs.{kept_visit, visit_of}
use Rattle.cp_inspect.specs.declared.walk.Walk.{Walk}
use Rattle.cp_inspect.specs.declared.walk_output.WalkOutput.{WalkOutput}

pub data Sink : Type 0 where
  IntoText : Sink
  IntoLeaves : Sink

abbrev pub visit_into : Sink → WalkOutput → Visit
visit_into IntoText o = visit_of o
visit_into IntoLeaves o = kept_visit o

-- What is in the sink. Places are there as their codes.
abbrev pub held_by : Sink → Walk → Text → Text
held_by IntoText w out = out
held_by IntoLeaves w out = leaf_codes w.leaves.items

-- Each sink gets what its visit says.
abbrev pub FillsSinks : WalkOutput → Walk → Walk → Text → Text → (Visit → Text → Text → Type 0) → Type 0
FillsSinks o old new out after Adds = (s : Sink) → Adds (visit_into s o) (held_by s old out) (held_by s new after)
