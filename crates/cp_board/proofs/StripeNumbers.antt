-- A number is one ticket of one stripe.
use Rattle.std.proofs.Common.{◌≡◌, ℕ, zero, suc, ◌*◌, ◌+◌, ◌<◌, ◌≤◌, sym, ap₂, ◌∙◌, arith}
use Rattle.std.proofs.lemmas.Nat.{mod-mul-add, div-mul-add, div-add-mod'}
use Rattle.std.proofs.Math.Nat.{mul-le-mul_right}
use Rattle.cp_board.specs.declared.view.Shape.{Shape}
use Rattle.cp_board.specs.Stripes.{number_of, stripe_of, ticket_of}

pub number_of-parts : (p : Shape) (x j r : ℕ) → stripe_of p x ≡ j → ticket_of p x ≡ r → x ≡ number_of p j r
number_of-parts p x j r in_stripe is = sym (div-add-mod' x p.stripes) ∙ ap₂ (λ a b. a * p.stripes + b) is in_stripe

pub stripe_of-number_of : (p : Shape) (j r : ℕ) → j < p.stripes → stripe_of p (number_of p j r) ≡ j
stripe_of-number_of p j r below = mod-mul-add r p.stripes j below

pub ticket_of-number_of : (p : Shape) (j r : ℕ) → j < p.stripes → ticket_of p (number_of p j r) ≡ r
ticket_of-number_of p j r below = div-mul-add r p.stripes j below

-- later tickets of a stripe have larger numbers
pub number_of-le : (p : Shape) (j q r : ℕ) → q ≤ r → number_of p j q ≤ number_of p j r
number_of-le p j q r le = let times : q * p.stripes ≤ r * p.stripes = mul-le-mul_right p.stripes le in omega arith

pub ticket_le : (p : Shape) (j r : ℕ) → 0 < p.stripes → r ≤ number_of p j r
ticket_le p j r some = let le = le_times p.stripes r some in omega arith
  where
    le_times : (s r : ℕ) → 0 < s → r ≤ r * s
    le_times (suc s) r some = grind arith
    le_times zero r some = absurd (omega arith)
