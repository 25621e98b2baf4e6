-- What is left of a text while its definitions are judged, and what is reported with it.
use Rattle.std.specs.Prelude.{[], List, Option, map}
use Rattle.cp_model.specs.Syntax as s
use Rattle.cp_model.specs.View as view
use Rattle.cp_model.specs.declared.rules.Violation.{Violation}
use Rattle.cp_model.specs.RulesJudged.{least}
use Rattle.cp_rules_cutoff.specs.Rest.{Rest, rest_violations}
use Rattle.cp_rules.specs.Checking.{State}
use Rattle.cp_rules.specs.declared.remaining.Remaining.{Remaining}

-- These definitions and sections are left of a text, and the initial process.
abbrev pub rest_from : s.Tree → List s.TypeDefinition → List s.Section → Rest
rest_from t ds ss = record { definitions = ds; sections = ss; variables = t.variables; routines = t.routines; body = t.body }

abbrev pub rest_of : Remaining → Rest
rest_of l = rest_from (view.tree l.tree.now) (map view.type_definition l.definitions.now) (map view.section_of l.sections.now)

abbrev pub whole : s.Tree → Rest
whole t = rest_from t [] t.sections

-- The earliest violation of what was reported and of the rest.
abbrev pub reported_with : State → Rest → Option Violation
reported_with s r = least s.diagnostics (rest_violations s.env r)
