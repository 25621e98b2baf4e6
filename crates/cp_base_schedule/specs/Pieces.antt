-- What comes after the first piece of a list of bytes.
use Rattle.std.specs.Prelude.{ℕ, List, [], ◌∷◌}
use Rattle.cp_model.specs.OrderText.{split_at_byte}

-- The pieces after the first one, if these bytes follow it. The first of these bytes is the
-- separator.
abbrev pub pieces_after : ℕ → List ℕ → List (List ℕ)
pieces_after b [] = []
pieces_after b (_ ∷ text) = split_at_byte b text
