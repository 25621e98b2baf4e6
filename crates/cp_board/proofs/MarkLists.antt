-- The marks of two seats, combined: a stripe that either seat has found used up stays used up.
use Rattle.std.proofs.Common.{◌≡◌, ℕ, zero, suc, ◌<◌, ◌≤◌, Bool, true, false, ◌||◌, List, [], ◌∷◌, length, get_or, refl, sym, ap, ◌∙◌, subst, arith}
use Rattle.cp_board.specs.declared.view.Shape.{Shape}
use Rattle.cp_board.specs.declared.view.View.{View}
use Rattle.cp_board.specs.Views.{is_used_up, IsDone, or_each, join_views}

pub get_or-or_each : (xs ys : List Bool) (j : ℕ) → get_or (or_each xs ys) j false ≡ (get_or xs j false || get_or ys j false)
get_or-or_each [] ys j = refl
get_or-or_each (x ∷ xs) [] j = or_false (get_or (x ∷ xs) j false)
  where
    or_false : (b : Bool) → b ≡ (b || false)
    or_false true = refl
    or_false false = refl
get_or-or_each (x ∷ xs) (y ∷ ys) zero = refl
get_or-or_each (x ∷ xs) (y ∷ ys) (suc j) = get_or-or_each xs ys j

pub length-or_each : (xs ys : List Bool) → length ys ≤ length xs → length (or_each xs ys) ≡ length xs
length-or_each [] [] shorter = refl
length-or_each [] (y ∷ ys) shorter = absurd (omega arith)
length-or_each (x ∷ xs) [] shorter = refl
length-or_each (x ∷ xs) (y ∷ ys) shorter = let rest = length-or_each xs ys (omega arith) in omega arith

pub done_first : (v w : View) → IsDone v → IsDone (join_views v w)
done_first v w done j below = get_or-or_each v.used_up w.used_up j ∙ ap (λ (b : Bool). b || is_used_up w j) (done j below)

pub done_second : (v w : View) → w.shape ≡ v.shape → IsDone w → IsDone (join_views v w)
done_second v w same done j below =
    let mark : is_used_up w j ≡ true = done j (subst (λ (p : Shape). j < p.stripes) (sym same) below) in
    get_or-or_each v.used_up w.used_up j ∙ (ap (λ (b : Bool). is_used_up v j || b) mark ∙ or_true (is_used_up v j))
  where
    or_true : (b : Bool) → (b || true) ≡ true
    or_true true = refl
    or_true false = refl
