use Rattle.cp_compile_symbols.specs.Systems.{routines_of}
use Rattle.cp_compile_symbols.proofs.RoutinesNumbered.{none_named}
use Rattle.cp_compile_symbols.proofs.layout.Layouts.routine_names.Goals as goal

pub loop-i-init : goal.loop-i-init
loop-i-init c = none_named (routines_of c.args.texts.now) c.new-names.result c.new-names.ensures
