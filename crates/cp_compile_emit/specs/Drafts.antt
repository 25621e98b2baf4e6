-- Plans in progress, as the plain data of the definitions.
use Rattle.std.specs.Prelude.{◌≡◌, ℕ, ℤ, List, Option, None, Some, reverse}
use Rattle.cp_model_program.specs.Plans.{fill_before}
use Rattle.cp_model_program.specs.Programs as code
use Rattle.cp_program.specs.declared.program.StartPiece.{StartPiece}
use Rattle.cp_program.specs.View as view
use Rattle.cp_compile_emit.specs.declared.draft.Draft.{Draft}

-- A plan of which a draft has the pieces in reverse order. The plans of its parts are among those
-- that are known.
abbrev pub starts_of : List code.StartPlan → List StartPiece → code.StartPlan
starts_of known xs = view.plan_of known (reverse xs)

abbrev pub plan_of : List code.StartPlan → Draft → code.StartPlan
plan_of known d = starts_of known d.starts.items

-- ---- Neighbours

-- The fill that combines a fill and the next piece, or else both, before other pieces.
abbrev pub joined_with : List code.StartPlan → Option StartPiece → (at count : ℕ) (value : ℤ) → StartPiece → code.StartPlan → code.StartPlan
joined_with known (Some both) at count value next rest = view.piece_before known both rest
joined_with known None at count value next rest = code.Fill at count value (view.piece_before known next rest)

abbrev pub Joins : (at count : ℕ) (value : ℤ) → StartPiece → Option StartPiece → Type 0
Joins at count value next both =
    (known : List code.StartPlan) (rest : code.StartPlan)
    → fill_before at count value (view.piece_before known next rest) ≡ joined_with known both at count value next rest
