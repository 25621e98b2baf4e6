-- How the numbers of a board are spread over its stripes: ticket r of stripe j is the number r *
-- stripes + j. The ticket words of stripes are apart, and the stop word is where a stripe after the
-- last would have its own.
use Rattle.std.specs.Prelude.{ℕ, ◌+◌, ◌*◌, ◌/◌, ◌%◌}
use Rattle.cp_board.specs.declared.view.Shape.{Shape}
use Rattle.cp_board.specs.declared.view.TheConstants.{WORDS_APART}

-- the number of a stripe's ticket
abbrev pub number_of : Shape → ℕ → ℕ → ℕ
number_of shape stripe ticket = ticket * shape.stripes + stripe

-- the stripe of a number, and its ticket there
abbrev pub stripe_of : Shape → ℕ → ℕ
stripe_of shape x = x % shape.stripes

abbrev pub ticket_of : Shape → ℕ → ℕ
ticket_of shape x = x / shape.stripes

-- the word of a stripe, and the stripe of a word
abbrev pub word_of : ℕ → ℕ
word_of stripe = stripe * WORDS_APART

abbrev pub stripe_at : ℕ → ℕ
stripe_at word = word / WORDS_APART
