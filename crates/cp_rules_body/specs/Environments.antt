-- What declarations add to an environment.
use Rattle.std.specs.Prelude.{◌++◌, ◌∷◌, [], List}
use Rattle.cp_model.specs.RulesEnvironment.{Environment, Members}
use Rattle.cp_model.specs.declared.rules.ParameterRow.{ParameterRow}
use Rattle.cp_model.specs.declared.rules.RoutineRow.{RoutineRow}
use Rattle.cp_model.specs.declared.rules.SystemRow.{SystemRow}

abbrev pub with_members : Environment → Members → Environment
with_members env ms = record env { members = env.members ++ ms ∷ [] }

abbrev pub with_system : Environment → SystemRow → Environment
with_system env row = record env { systems = env.systems ++ row ∷ [] }

abbrev pub with_routine : Environment → RoutineRow → Environment
with_routine env row = record env { routines = env.routines ++ row ∷ [] }

abbrev pub with_parameters : Environment → List ParameterRow → Environment
with_parameters env rows = record env { parameters = env.parameters ++ rows }
