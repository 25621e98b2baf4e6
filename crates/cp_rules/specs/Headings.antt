-- Headings: what the code keeps of them, and the parts of a group of parameters.
use Rattle.std.specs.Prelude.{◌≡◌, ◌+◌, ◌++◌, ◌&&◌, is_some, not, Bool, true, false, ℕ, List, [], Option, None, Some, Result, Ok, Err, map, length, replicate}
use Rattle.std.specs.Borrow.{Bor}
use Rattle.cp_model.specs.Syntax as s
use Rattle.cp_model.specs.declared.tree.Identifier.{Identifier}
use Rattle.cp_model.specs.declared.tree.Sort.{Sort}
use Rattle.cp_model.specs.declared.rules.Entity.{Entity}
use Rattle.cp_model.specs.declared.rules.ParameterRow.{ParameterRow}
use Rattle.cp_model.specs.declared.rules.Violation.{Violation}
use Rattle.cp_model.specs.RulesJudged.{Judged, least, then_judge}
use Rattle.cp_model.specs.RulesEnvironment.{Environment}
use Rattle.cp_model.specs.RulesTypes.{cap_words, named_type}
use Rattle.cp_model.specs.RulesDeclarations as d
use Rattle.cp_rules.specs.Checking.{State}
use Rattle.cp_rules.specs.Declaring.{words_of_type}
use Rattle.cp_rules.specs.declared.headings.Heading.{Heading}

abbrev pub Bound : Type 0
Bound = List (Identifier × Entity)

abbrev pub lent : Bor Identifier × Entity → Identifier × Entity
lent b = (b.0.now, b.1)

-- What was collected of a heading. The words are counted up to one above the limit.
pub record Collected : Type 0 where
  pub bound : Bound
  pub rows : List ParameterRow
  pub words : ℕ

abbrev pub collection : Heading → Collected
collection h = record { bound = map lent h.bound.items; rows = h.rows.items; words = h.words }

abbrev pub nothing : Collected
nothing = record { bound = []; rows = []; words = 0 }

abbrev pub bound_as : Entity → List Identifier → Bound
bound_as e xs = map (λ x. (x, e)) xs

-- With these names added.
abbrev pub with_names : Collected → Entity → ParameterRow → List Identifier → Collected
with_names k e r xs = record { bound = k.bound ++ bound_as e xs; rows = k.rows ++ replicate (length xs) r; words = k.words }

-- With a heading or a part of one added.
abbrev pub with_part : Collected → d.Heading → Collected
with_part k h = record { bound = k.bound ++ h.bound; rows = k.rows ++ h.rows; words = cap_words (k.words + h.words) }

abbrev pub row_of_type : Bool → Result ℕ Violation → ParameterRow
row_of_type by_reference (Ok t) = record { by_reference = by_reference; of = Some t }
row_of_type by_reference (Err v) = record { by_reference = by_reference; of = None }

abbrev pub words_of_parameter : Environment → Bool → Result ℕ Violation → ℕ
words_of_parameter env true of = 1
words_of_parameter env false of = words_of_type env of

-- ---- a group

-- The type of a group, judged while its names are being defined.
abbrev pub parameter_judged : Environment → Option Sort → s.Parameters → Judged ℕ
parameter_judged env of g =
    then_judge (named_type (d.declare_all env d.unfinished_variable g.names).env g.of) (d.c7_c8_parameter env of g.of.at)

abbrev pub is_by_reference : Option Sort → s.Parameters → Bool
is_by_reference of g = is_some g.by_reference && not (is_some of)

-- The state when the type of a group is known and the names of the group are hidden.
abbrev pub hidden_group : State → Option Sort → Bool → s.Parameters → State
hidden_group old of is_function g =
    let one = d.parameter_group old.env of is_function g in
    record { env = one.env; diagnostics = least old.diagnostics one.violations }

-- ---- a heading

abbrev pub with_heading : State → d.Heading → State
with_heading old h = record { env = h.env; diagnostics = least old.diagnostics h.violations }

abbrev pub Heads : State → State → Heading → d.Heading → Type 0
Heads old new h all = (new ≡ with_heading old all) × (collection h ≡ with_part nothing all)
