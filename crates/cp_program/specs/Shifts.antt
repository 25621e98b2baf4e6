-- What the parts of an element have to do with each other.
use Rattle.std.specs.Prelude.{ℕ, ℤ, pos, neg_ℤ}
use Rattle.cp_program.specs.declared.element.Addend.{Addend}
use Rattle.cp_program.specs.declared.element.Addend.TheVariants as addend_case
use Rattle.cp_program.specs.declared.term.Root.{Root}
use Rattle.cp_program.specs.declared.term.Root.TheVariants as root_case

-- What is added to the word of an index.
abbrev pub added_by : Addend → ℤ
added_by addend_case.Nothing = pos 0
added_by (addend_case.Add n) = n
added_by (addend_case.Subtract n) = neg_ℤ n

-- How far a root is from where its variables begin.
abbrev pub distance_to : Root → ℕ
distance_to (root_case.Local at) = at
distance_to (root_case.Member at) = at
distance_to (root_case.Through parameter plus) = plus
