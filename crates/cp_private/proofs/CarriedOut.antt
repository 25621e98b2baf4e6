-- Plans are carried out piece by piece.
use Rattle.std.proofs.Common.{◌≡◌, ◌≤◌, ◌<◌, ◌∙◌, ◌+◌, ◌-◌, ◌++◌, ◌∷◌, ℕ, suc, ℤ, List, [], Option, None, Some, IfSome, refl, ap, sym, subst, drop, length, arith}
use Rattle.std.proofs.lemmas.List.{drop_all}
use Rattle.cp_model_program.specs.Programs as code
use Rattle.cp_model_program.specs.Starts.{carry_out}
use Rattle.cp_program.specs.declared.program.StartPiece.{StartPiece}
use Rattle.cp_program.specs.declared.program.StartPiece.TheVariants as start
use Rattle.cp_program.specs.View.{piece_before, plan_at, plan_of}
use Rattle.cp_private.specs.declared.plans.Rest.{Rest}
use Rattle.cp_private.proofs.Blocks.{fill_beyond, repeated_beyond}

-- Behind all words nothing is written.
pub carried_beyond : (base : ℕ) (p : code.StartPlan) (ws : List ℤ) → length ws ≤ base → carry_out base p ws ≡ ws
carried_beyond base code.Done ws far = refl
carried_beyond base (code.Fill at count n rest) ws far =
    ap (carry_out base rest) (fill_beyond count (base + at) n ws (omega (arith, far))) ∙ carried_beyond base rest ws far
carried_beyond base (code.Repeat at size count rest) ws far =
    ap (carry_out base rest) (repeated_beyond (count - 1) (base + at) size ws (omega (arith, far))) ∙ carried_beyond base rest ws far
carried_beyond base (code.Part at p rest) ws far =
    ap (carry_out base rest) (carried_beyond (base + at) p ws (omega (arith, far))) ∙ carried_beyond base rest ws far

-- The first piece is carried out before the others.
pub first_piece : (known : List code.StartPlan) (base : ℕ) (x : StartPiece) (rest : code.StartPlan) (ws : List ℤ)
    → carry_out base (piece_before known x rest) ws ≡ carry_out base rest (carry_out base (piece_before known x code.Done) ws)
first_piece known base (start.Fill at count value) rest ws = refl
first_piece known base (start.Repeat at size count) rest ws = refl
first_piece known base (start.Part at plan) rest ws = refl

pub last_piece : (known : List code.StartPlan) (base : ℕ) (xs : List StartPiece) (x : StartPiece) (ws : List ℤ)
    → carry_out base (plan_of known (xs ++ x ∷ [])) ws ≡ carry_out base (piece_before known x code.Done) (carry_out base (plan_of known xs) ws)
last_piece known base [] x ws = refl
last_piece known base (y ∷ ys) x ws =
    first_piece known base y (plan_of known (ys ++ x ∷ [])) ws
    ∙ last_piece known base ys x (carry_out base (piece_before known y code.Done) ws)
    ∙ ap (carry_out base (piece_before known x code.Done)) (sym (first_piece known base y (plan_of known ys) ws))

-- ---- Pieces, one after another

-- Nothing is left of the pieces, so they have been carried out.
pub pieces_done : (known : List code.StartPlan) (base : ℕ) (xs : List StartPiece) (i : ℕ) (ws before : List ℤ) → length xs ≤ i
    → carry_out base (plan_of known (drop i xs)) ws ≡ carry_out base (plan_of known xs) before → ws ≡ carry_out base (plan_of known xs) before
pieces_done known base xs i ws before done is = ap (λ (ys : List StartPiece). carry_out base (plan_of known ys) ws) (sym (drop_all i xs done)) ∙ is

pub last_done : (known : List code.StartPlan) (base : ℕ) (all xs : List StartPiece) (x : StartPiece) (ws before : List ℤ) → all ≡ xs ++ x ∷ []
    → ws ≡ carry_out base (plan_of known xs) before → carry_out base (piece_before known x code.Done) ws ≡ carry_out base (plan_of known all) before
last_done known base all xs x ws before whole done =
    ap (carry_out base (piece_before known x code.Done)) done
    ∙ sym (last_piece known base xs x before) ∙ ap (λ (ys : List StartPiece). carry_out base (plan_of known ys) before) (sym whole)

pub last_part : (known : List code.StartPlan) (base : ℕ) (all xs : List StartPiece) (x : StartPiece) (at plan : ℕ) (ws before : List ℤ) → all ≡ xs ++ x ∷ []
    → x ≡ start.Part at plan → ws ≡ carry_out base (plan_of known xs) before → carry_out (base + at) (plan_at known plan) ws ≡ carry_out base (plan_of known all) before
last_part known base all xs x at plan ws before whole is done =
    ap (λ (y : StartPiece). carry_out base (piece_before known y code.Done) ws) (sym is) ∙ last_done known base all xs x ws before whole done

-- ---- What is left

abbrev pub left_over : Option Rest → ℕ
left_over None = 0
left_over (Some r) = suc r.below

pub less_left : (new old : Option Rest) (next : Rest) → old ≡ Some next → IfSome new (λ r. r.below < next.below) → left_over new < left_over old
less_left new old next is lower = subst (λ o. left_over new < left_over o) (sym is) (go new lower)
  where
    go : (o : Option Rest) → IfSome o (λ r. r.below < next.below) → left_over o < suc next.below
    go None h = omega arith
    go (Some r) h = omega (arith, h)
