-- The values of variables, by their words.
use Rattle.std.specs.Prelude.{ℤ}
use Rattle.cp_model_machine.specs.Means.{process_of_word}
use Rattle.cp_inspect.specs.declared.place.Kind.{Kind}
use Rattle.cp_inspect.specs.declared.place.Kind.TheVariants as kind
use Rattle.cp_inspect.specs.declared.place.Value.{Value}
use Rattle.cp_inspect.specs.declared.place.Value.TheVariants as value

-- What a word holds. The number 0 in a queue represents nobody.
abbrev pub value_in : Kind → ℤ → Value
value_in kind.Simple n = value.Ordinal n
value_in kind.Queue n = value.Queue (process_of_word n)
