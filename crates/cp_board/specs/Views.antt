-- What a seat knows at its start, how a step changes it, and how splits and joins change it.
use Rattle.std.specs.Prelude.{◌≡◌, ℕ, ◌+◌, ◌-◌, ◌/◌, ◌<◌, Bool, true, false, ◌||◌, List, [], ◌∷◌, ◌++◌, replicate, slice_index_or, slice_set}
use Rattle.cp_board.specs.declared.view.Shape.{Shape}
use Rattle.cp_board.specs.declared.view.TheConstants.{FULL_ALLOWANCE, MAX_STRIPES}
use Rattle.cp_board.specs.declared.view.View.{View}

-- whether the seat has found the stripe used up
abbrev pub is_used_up : View → ℕ → Bool
is_used_up v stripe = slice_index_or v.used_up stripe false

-- no stripe that was found used up is forgotten
abbrev pub KeepsMarks : View → View → Type 0
KeepsMarks old new = (stripe : ℕ) → is_used_up old stripe ≡ true → is_used_up new stripe ≡ true

-- the seat has found each stripe used up, so `claim` has returned `None`
abbrev pub IsDone : View → Type 0
IsDone v = (stripe : ℕ) → stripe < v.shape.stripes → is_used_up v stripe ≡ true

-- the first seat of a board has the whole allowance, and knows nothing yet
abbrev pub first_view : Shape → View
first_view shape = record {
  shape = shape;
  allowance = FULL_ALLOWANCE;
  draws = [];
  used_up = replicate MAX_STRIPES false;
  called_stop = false;
  seen_stop = false;
}

-- the number x was drawn
abbrev pub with_draw : View → ℕ → View
with_draw v x = record v { draws = v.draws ++ x ∷ [] }

-- the stripe was found used up
abbrev pub with_used_up : View → ℕ → View
with_used_up v stripe = record v { used_up = slice_set v.used_up stripe true }

-- a stop was seen
abbrev pub with_seen_stop : View → View
with_seen_stop v = record v { seen_stop = true }

-- the stop was called, and the seat that calls it has seen it
abbrev pub with_called_stop : View → View
with_called_stop v = record v { called_stop = true; seen_stop = true }

-- the first seat of a split keeps the larger half of the allowance, the draws and the calls of the
-- stop; both seats keep what has been seen
abbrev pub first_half : View → View
first_half v = record v { allowance = v.allowance - v.allowance / 2 }

abbrev pub second_half : View → View
second_half v = record v { allowance = v.allowance / 2; draws = []; called_stop = false }

-- the marks of two seats, combined stripe by stripe
abbrev pub or_each : List Bool → List Bool → List Bool
or_each [] ys = ys
or_each (x ∷ xs) [] = x ∷ xs
or_each (x ∷ xs) (y ∷ ys) = (x || y) ∷ or_each xs ys

-- a join adds the allowances, and combines what was drawn, called and seen
abbrev pub join_views : View → View → View
join_views v w = record {
  shape = v.shape;
  allowance = v.allowance + w.allowance;
  draws = v.draws ++ w.draws;
  used_up = or_each v.used_up w.used_up;
  called_stop = v.called_stop || w.called_stop;
  seen_stop = v.seen_stop || w.seen_stop;
}

-- what remains of the second seat of a join: no allowance, and nothing known
abbrev pub spent_view : View
spent_view = record {
  shape = record { numbers = 0; stripes = 0 };
  allowance = 0;
  draws = [];
  used_up = [];
  called_stop = false;
  seen_stop = false;
}
