-- The heading of a routine as plain data.
use Rattle.std.specs.Prelude.{map}
use Rattle.cp_model.specs.View.{parameters}
use Rattle.cp_model_grammar.specs.Declarations as spec
use Rattle.cp_syntax.specs.declared.routines.Heading.{Heading}

abbrev pub heading : Heading → spec.Heading
heading h = record { entry = h.entry; name = h.name; parameters = map parameters h.parameters.items; result_type = h.result_type }
