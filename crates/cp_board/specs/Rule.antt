-- The rule of a board, over its words and the views of all its seats. It holds between any two
-- atomic steps.
-- The word of a stripe is the next ticket to be drawn there. The words between are never used.
use Rattle.std.specs.Prelude.{◌≡◌, ℕ, ◌+◌, ◌<◌, ◌≤◌, min, Bool, true, false, if◌then◌else◌, List, [], ◌∷◌, length, slice_index}
use mathlib.Core.Option.{some}
use lib.ListN.{get_elem?}
use Rattle.atomic_table.specs.Table.{State}
use Rattle.cp_board.specs.declared.view.Shape.{Shape}
use Rattle.cp_board.specs.declared.view.TheConstants.{FULL_ALLOWANCE}
use Rattle.cp_board.specs.declared.view.View.{View}
use Rattle.cp_board.specs.Draws.{times}
use Rattle.cp_board.specs.Stripes.{number_of, stripe_of, ticket_of, word_of}
use Rattle.cp_board.specs.Views.{is_used_up}

-- the sum of f over the list
abbrev pub total : {A : Type 0} → (A → ℕ) → List A → ℕ
total f [] = 0
total f (x ∷ xs) = f x + total f xs

abbrev pub weight : Bool → ℕ
weight b = if b then 1 else 0

-- the allowance of a seat that has found the stripe used up, and otherwise 0
abbrev pub marked_allowance : ℕ → View → ℕ
marked_allowance stripe v = if is_used_up v stripe then v.allowance else 0

-- What holds of each seat. A seat that a join has spent has no allowance: its shape means nothing,
-- and it has drawn and called nothing. If a seat has seen a stop, there was one, and no ticket
-- below n is left in a stripe that it has found used up.
pub record FitsWords (shape : Shape) (words : List ℕ) (v : View) : Type 0 where
  pub of_board : 0 < v.allowance → v.shape ≡ shape
  pub idle : v.allowance ≡ 0 → (v.draws ≡ []) × (v.called_stop ≡ false)
  pub reported : v.seen_stop ≡ true → slice_index words (word_of shape.stripes) ≡ 1
  pub used_up : (j : ℕ) → j < shape.stripes → is_used_up v j ≡ true → shape.numbers ≤ number_of shape j (slice_index words (word_of j))

-- What holds of all seats and words.
pub record KeepsRule (shape : Shape) (s : State (Unit {0}) View) : Type 0 where
  pub width : length s.words ≡ word_of (shape.stripes + 1)
  -- the stop word is 1 if a seat has called the stop, and 0 otherwise
  pub stop : slice_index s.words (word_of shape.stripes) ≡ min 1 (total (λ v. weight v.called_stop) s.views)
  pub allowance : total (λ v. v.allowance) s.views ≡ FULL_ALLOWANCE
  -- a number whose ticket is gone was drawn once, and no other number was drawn
  pub gone : (x : ℕ) → x < shape.numbers → ticket_of shape x < slice_index s.words (word_of (stripe_of shape x)) → total (λ v. times x v.draws) s.views ≡ 1
  pub left : (x : ℕ) → x < shape.numbers → slice_index s.words (word_of (stripe_of shape x)) ≤ ticket_of shape x → total (λ v. times x v.draws) s.views ≡ 0
  pub beyond : (x : ℕ) → shape.numbers ≤ x → total (λ v. times x v.draws) s.views ≡ 0
  -- a seat that draws past the end of a stripe marks it and draws no more there, so no word grows
  -- far past its end, and none wraps
  pub small : (j : ℕ) → j < shape.stripes → slice_index s.words (word_of j) ≤ shape.numbers + total (marked_allowance j) s.views
  pub each : (id : ℕ) (v : View) → get_elem? s.views id ≡ some v → FitsWords shape s.words v
