-- What is left of a text after some of its definitions: the rest of a section of types, further
-- sections, and the variables, the routines and the body of the initial process.
use Rattle.std.specs.Prelude.{Bool, List, ℕ, ◌&&◌, ◌+◌, ◌++◌}
use Rattle.cp_model.specs.Syntax as s
use Rattle.cp_model.specs.declared.rules.Position.TheVariants as position
use Rattle.cp_model.specs.declared.tree.Sort.TheVariants as sort
use Rattle.cp_model.specs.Rules.{c13_initial, define_as, define_each, define_section}
use Rattle.cp_model.specs.RulesDeclarations.{routines, variables}
use Rattle.cp_model.specs.RulesEnvironment.{Environment}
use Rattle.cp_model.specs.RulesJudged.{Violations}
use Rattle.cp_model.specs.RulesNeeds.{need_statements}
use Rattle.cp_model.specs.RulesStatements.{statements}
use Rattle.cp_rules_cutoff.specs.After.{all_after, body_after, routine_after, section_after, type_definition_after, variables_after}

pub record Rest : Type 0 where
  pub definitions : List s.TypeDefinition
  pub sections : List s.Section
  pub variables : List s.Variables
  pub routines : List s.Routine
  pub body : s.Body

-- The violations of the rest in the environment of what came before it.
abbrev pub rest_violations : Environment → Rest → Violations
rest_violations env r =
    let types = define_each (λ e d. define_as e d.name d.defined) env r.definitions in
    let defined = define_each define_section types.env r.sections in
    let own = variables defined.env position.InitialVariable r.variables in
    let all = routines own.env sort.Process r.routines in
    let body = statements all.env r.body.list in
    let words = 1 + own.words + need_statements all.env r.body.list in
    types.violations ++ defined.violations ++ own.violations ++ all.violations ++ body ++ c13_initial r.body.at words body

abbrev pub rest_after : ℕ → Rest → Bool
rest_after p r =
    all_after (type_definition_after p) r.definitions && all_after (section_after p) r.sections
    && all_after (variables_after p) r.variables && all_after (routine_after p) r.routines && body_after p r.body
