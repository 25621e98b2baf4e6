-- Worked rows of order texts, computed.
use Rattle.std.specs.Prelude.{[], codes, refl, ◌++◌, ◌∷◌, ◌≡◌}
use Rattle.cp_model.specs.Rounds.{KernelTurn, PrivateStep}
use Rattle.cp_model.specs.OrderText.{NotALine, Orders, order_text}

nothing : order_text 2 [] ≡ Orders []
nothing = refl

one_empty_line : order_text 2 (10 ∷ []) ≡ Orders ([] ∷ [])
one_empty_line = refl

no_line_feed : order_text 2 (codes "K1") ≡ Orders ((KernelTurn 1 ∷ []) ∷ [])
no_line_feed = refl

line_feed : order_text 2 (codes "K1" ++ (10 ∷ [])) ≡ Orders ((KernelTurn 1 ∷ []) ∷ [])
line_feed = refl

two_lines : order_text 2 (codes "P2 P1 K1" ++ (10 ∷ 10 ∷ []))
    ≡ Orders ((PrivateStep 2 ∷ PrivateStep 1 ∷ KernelTurn 1 ∷ []) ∷ [] ∷ [])
two_lines = refl

lone_space : order_text 2 (codes " ") ≡ NotALine 0
lone_space = refl

leading_zero : order_text 2 (codes "P01") ≡ NotALine 0
leading_zero = refl

zero_number : order_text 2 (codes "P1" ++ (10 ∷ codes "P0")) ≡ NotALine 3
zero_number = refl

no_number : order_text 2 (codes "P") ≡ NotALine 0
no_number = refl

small_letter : order_text 2 (codes "p1") ≡ NotALine 0
small_letter = refl

space_before : order_text 2 (codes " P1") ≡ NotALine 0
space_before = refl

space_behind : order_text 2 (codes "P1 ") ≡ NotALine 0
space_behind = refl

two_spaces : order_text 2 (codes "P1  P2") ≡ NotALine 0
two_spaces = refl

carriage_return : order_text 2 (codes "P1" ++ (13 ∷ 10 ∷ [])) ≡ NotALine 0
carriage_return = refl

-- A process that doesn't exist, a number of any length, and the first of two bad lines.
beyond : order_text 2 (10 ∷ (codes "P1 P3" ++ (10 ∷ codes "x"))) ≡ NotALine 1
beyond = refl

long_number : order_text 255 (codes "K255" ++ (10 ∷ codes "K100000000000000000000000000000255")) ≡ NotALine 5
long_number = refl
