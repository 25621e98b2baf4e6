-- The plans of a table: each is made of those before it.
use Rattle.std.proofs.Common.{◌≡◌, ◌≤◌, ◌<◌, ℕ, zero, suc, List, [], ◌∷◌, ◌++◌, Option, Some, None, refl, ap, sym, ◌∙◌, append-nil, append_assoc, length, arith}
use Rattle.std.specs.Prelude.{option_map, slice_get, take}
use Rattle.cp_model_program.specs.Plans.{count_pieces}
use Rattle.cp_model_program.specs.Programs as code
use Rattle.cp_program.specs.declared.program.StartPiece.{StartPiece}
use Rattle.cp_program.specs.declared.program.StartPiece.TheVariants as start_case
use Rattle.cp_program.specs.declared.program.StartPlan.{StartPlan}
use Rattle.cp_program.specs.View.{plan_at, plan_of, plan_or_none, plans_from, plans_in}

pub plans_length : (known : List code.StartPlan) (ps : List StartPlan) → length (plans_from known ps) ≡ length ps
plans_length known [] = refl
plans_length known (p ∷ ps) = ap suc (plans_length (known ++ plan_of known p.starts.items ∷ []) ps)

get_plan : (known : List code.StartPlan) (ps : List StartPlan) (n : ℕ) (p : StartPlan) → slice_get ps n ≡ Some p
    → slice_get (plans_from known ps) n ≡ Some (plan_of (known ++ take n (plans_from known ps)) p.starts.items)
get_plan known [] n p h = absurd (none n h)
  where
    none : (i : ℕ) → slice_get [] i ≡ Some p → ⊥
    none i e = absurd (cc)
get_plan known (q ∷ ps) zero p h =
    ap (option_map (λ (z : StartPlan). plan_of known z.starts.items)) h ∙ ap (λ k. Some (plan_of k p.starts.items)) (sym (append-nil known))
get_plan known (q ∷ ps) (suc n) p h =
    let t = plan_of known q.starts.items in
    get_plan (known ++ t ∷ []) ps n p h ∙ ap (λ k. Some (plan_of k p.starts.items)) (append_assoc known (t ∷ []) (take n (plans_from (known ++ t ∷ []) ps)))

no_plan : (known : List code.StartPlan) (ps : List StartPlan) (n : ℕ) → slice_get ps n ≡ None → slice_get (plans_from known ps) n ≡ None
no_plan known [] zero h = refl
no_plan known [] (suc n) h = refl
no_plan known (q ∷ ps) zero h = absurd (cc)
no_plan known (q ∷ ps) (suc n) h = no_plan (known ++ plan_of known q.starts.items ∷ []) ps n h

abbrev pub pieces_of : Option StartPlan → List StartPiece
pieces_of None = []
pieces_of (Some p) = p.starts.items

-- The plan with a number is that of its pieces, of which parts have plans before it.
pub plan_known : (ps : List StartPlan) (n : ℕ) (o : Option StartPlan) → slice_get ps n ≡ o
    → plan_of (take n (plans_in ps)) (pieces_of o) ≡ plan_at (plans_in ps) n
plan_known ps n None h = ap plan_or_none (sym (no_plan [] ps n h))
plan_known ps n (Some p) h = ap plan_or_none (sym (get_plan [] ps n p h))

-- ---- The plans before a number

pub plan_below : (known : List code.StartPlan) (below n : ℕ) → n < below → plan_at (take below known) n ≡ plan_at known n
plan_below known zero n less = absurd (omega (arith, less))
plan_below [] (suc below) n less = refl
plan_below (p ∷ known) (suc below) zero less = refl
plan_below (p ∷ known) (suc below) (suc n) less = plan_below known below n (omega (arith, less))

pub no_plan_below : (known : List code.StartPlan) (below n : ℕ) → below ≤ n → plan_at (take below known) n ≡ code.Done
no_plan_below known zero n less = refl
no_plan_below [] (suc below) n less = refl
no_plan_below (p ∷ known) (suc below) zero less = absurd (omega (arith, less))
no_plan_below (p ∷ known) (suc below) (suc n) less = no_plan_below known below n (omega (arith, less))

-- ---- More plans

pub more_plans : (known : List code.StartPlan) (ps qs : List StartPlan)
    → plans_from known (ps ++ qs) ≡ plans_from known ps ++ plans_from (known ++ plans_from known ps) qs
more_plans known [] qs = ap (λ k. plans_from k qs) (sym (append-nil known))
more_plans known (p ∷ ps) qs =
    let t = plan_of known p.starts.items in
    let more = plans_from (known ++ t ∷ []) ps in
    ap (λ l. t ∷ l) (more_plans (known ++ t ∷ []) ps qs
    ∙ ap (λ k. more ++ plans_from k qs) (append_assoc known (t ∷ []) more))

get_first : {A : Type 0} (xs ys : List A) (n : ℕ) → n < length xs → slice_get (xs ++ ys) n ≡ slice_get xs n
get_first [] ys n less = absurd (omega (arith, less))
get_first (x ∷ xs) ys zero less = refl
get_first (x ∷ xs) ys (suc n) less = get_first xs ys n (omega (arith, less))

get_last : {A : Type 0} (xs : List A) (x : A) → slice_get (xs ++ x ∷ []) (length xs) ≡ Some x
get_last [] x = refl
get_last (y ∷ xs) x = get_last xs x

-- A plan is the same in a longer table.
pub plan_kept : (ps qs : List StartPlan) (n : ℕ) → n < length (plans_in ps) → plan_at (plans_in (ps ++ qs)) n ≡ plan_at (plans_in ps) n
plan_kept ps qs n less = ap (λ k. plan_at k n) (more_plans [] ps qs) ∙ ap plan_or_none (get_first (plans_in ps) (plans_from (plans_in ps) qs) n less)

-- The last plan of a table has its parts among those before it.
pub last_plan : (ps : List StartPlan) (p : StartPlan) → plan_at (plans_in (ps ++ p ∷ [])) (length ps) ≡ plan_of (plans_in ps) p.starts.items
last_plan ps p =
    ap (plan_at (plans_in (ps ++ p ∷ []))) (sym (plans_length [] ps))
    ∙ ap (λ k. plan_at k (length (plans_in ps))) (more_plans [] ps (p ∷ []))
    ∙ ap plan_or_none (get_last (plans_in ps) (plan_of (plans_in ps) p.starts.items))

-- ---- Pieces

pub pieces_counted : (known : List code.StartPlan) (xs : List StartPiece) → count_pieces (plan_of known xs) ≡ length xs
pieces_counted known [] = refl
pieces_counted known (start_case.Fill at count value ∷ xs) = ap suc (pieces_counted known xs)
pieces_counted known (start_case.Repeat at size count ∷ xs) = ap suc (pieces_counted known xs)
pieces_counted known (start_case.Part at plan ∷ xs) = ap suc (pieces_counted known xs)
