-- Parts are placed, arranged and planned one by one.
use Rattle.std.proofs.Common.{◌≡◌, ◌≤◌, ◌<◌, ◌∙◌, ◌+◌, ◌++◌, ◌∷◌, ℕ, zero, suc, List, [], Bool, true, false, refl, ap, sym, subst, append-nil, get_or, if◌then◌else◌, length, map, take, arith}
use Rattle.std.specs.Prelude.{nat_le, nat_lt, slice_set, ◌&&◌}
use Rattle.std.proofs.lemmas.Option.{slice_get_past}
use Rattle.std.specs.List.{swap}
use Rattle.cp_model.specs.Abstract.{Name}
use Rattle.cp_model.specs.Types.{GlobalScope, Members, MoreMembers, NoMembers, ResolvedType}
use Rattle.cp_law_typing.specs.Words.{words}
use Rattle.cp_model_program.specs.Plans as text
use Rattle.cp_model_program.specs.Plans.{arranged, count_pieces, heaviest_last, is_flat, is_short, pieces_before, plan, plan_before, plan_in_order, placed, weight}
use Rattle.cp_model_program.specs.Programs as code
use Rattle.cp_program.specs.declared.program.StartPiece.{StartPiece}
use Rattle.cp_program.specs.declared.program.StartPlan.{StartPlan}
use Rattle.cp_program.specs.View.{plan_at, plan_of, plan_or_none, plans_in}
use Rattle.cp_program.proofs.PlansKnown.{pieces_counted, plans_length}
use Rattle.cp_compile_symbols.specs.declared.types.Field.{Field}
use Rattle.cp_compile_symbols.specs.declared.types.Types.{Types}
use Rattle.cp_compile_symbols.specs.Representing.{AreMembers, Represents}
use Rattle.cp_compile_emit.specs.declared.plan.Placed.{Placed}
use Rattle.cp_compile_emit.specs.Planning.{placed_in}

-- Placeholders for an index past the end of a list.
abbrev pub nothing : Field
nothing = record { name = record { ref_ptr = (0, 0); now = [] }; of = 0 }

abbrev pub nowhere : Placed
nowhere = record { at = 0; size = 0; plan = 0 }

-- ---- Short plans

-- A plan is short if it has few pieces.
pub short_is : (known : List code.StartPlan) (below : ℕ) (xs : List StartPiece) (p : code.StartPlan) → plan_of (take below known) xs ≡ p → is_short p ≡ nat_le (length xs) 8
short_is known below xs p is = ap (λ n. nat_le n 8) (ap count_pieces (sym is) ∙ pieces_counted (take below known) xs)

-- What is short and has no parts weighs nothing.
pub weight_is : (known : List code.StartPlan) (p : Placed) (b : Bool) → b ≡ (is_short (plan_at known p.plan) && is_flat (plan_at known p.plan))
    → weight (placed_in known p) ≡ (if b then 0 else p.size)
weight_is known p b is = ap (λ c. if c then 0 else p.size) (sym is)

pub put_pieces : (at : ℕ) (p rest : code.StartPlan) → is_short p ≡ true → plan_before at p rest ≡ pieces_before at p rest
put_pieces at p rest is = ap (λ b. if b then pieces_before at p rest else code.Part at p rest) is

pub put_part : (at : ℕ) (p rest : code.StartPlan) → is_short p ≡ false → plan_before at p rest ≡ code.Part at p rest
put_part at p rest is = ap (λ b. if b then pieces_before at p rest else code.Part at p rest) is

-- ---- The heaviest part

-- The first parts stay, and the others are arranged.
abbrev pub swept : ℕ → List text.Placed → List text.Placed
swept zero ps = arranged ps
swept (suc n) [] = []
swept (suc n) (p ∷ ps) = p ∷ swept n ps

get_any : {A : Type 0} (xs : List A) (n : ℕ) (a b : A) → n < length xs → get_or xs n a ≡ get_or xs n b
get_any [] n a b less = absurd (omega (arith, less))
get_any (x ∷ xs) zero a b less = refl
get_any (x ∷ xs) (suc n) a b less = get_any xs n a b (omega (arith, less))

swap_behind : {A : Type 0} (x : A) (xs : List A) (i j : ℕ) → i < length xs → j < length xs → swap (x ∷ xs) (suc i) (suc j) ≡ x ∷ swap xs i j
swap_behind x [] i j first second = absurd (omega (arith, first))
swap_behind x (y ∷ ys) i j first second =
    λ k. x ∷ slice_set (slice_set (y ∷ ys) i (get_any (y ∷ ys) j x y second k)) j (get_any (y ∷ ys) i x y first k)

-- One part more stays, once it has changed places with the one behind it if that is lighter.
pub one_swept : (f : Placed → text.Placed) (ps : List Placed) (n : ℕ) (b : Bool) (none : Placed) → suc n < length ps
    → b ≡ nat_lt (weight (f (get_or ps (suc n) none))) (weight (f (get_or ps n none)))
    → swept (suc n) (map f (if b then swap ps n (suc n) else ps)) ≡ swept n (map f ps)
one_swept f [] n b none less is = absurd (omega (arith, less))
one_swept f (p ∷ []) n b none less is = absurd (omega (arith, less))
one_swept f (p ∷ q ∷ qs) zero true none less is =
    ap (λ c. if c then f q ∷ heaviest_last (f p) (map f qs) else f p ∷ heaviest_last (f q) (map f qs)) is
one_swept f (p ∷ q ∷ qs) zero false none less is =
    ap (λ c. if c then f q ∷ heaviest_last (f p) (map f qs) else f p ∷ heaviest_last (f q) (map f qs)) is
one_swept f (p ∷ q ∷ qs) (suc n) true none less is =
    ap (λ (ps : List Placed). swept (suc (suc n)) (map f ps)) (swap_behind p (q ∷ qs) n (suc n) (omega (arith, less)) (omega (arith, less)))
    ∙ ap (λ ps. f p ∷ ps) (one_swept f (q ∷ qs) n true none (omega (arith, less)) is)
one_swept f (p ∷ q ∷ qs) (suc n) false none less is = ap (λ ps. f p ∷ ps) (one_swept f (q ∷ qs) n false none (omega (arith, less)) is)

pub all_swept : (ps : List text.Placed) (n : ℕ) → length ps ≤ suc n → swept n ps ≡ ps
all_swept [] zero few = refl
all_swept (p ∷ []) zero few = refl
all_swept (p ∷ q ∷ ps) zero few = absurd (omega (arith, few))
all_swept [] (suc n) few = refl
all_swept (p ∷ ps) (suc n) few = ap (λ qs. p ∷ qs) (all_swept ps n (omega (arith, few)))

first_taken : (xs ys : List Placed) → take (length xs) (xs ++ ys) ≡ xs
first_taken [] [] = refl
first_taken [] (y ∷ ys) = refl
first_taken (x ∷ xs) ys = ap (λ zs. x ∷ zs) (first_taken xs ys)

-- What a list of parts holds after as many of them have been changed.
pub take_first : (xs ys : List Placed) (n : ℕ) → n ≡ length xs → take n (xs ++ ys) ≡ xs
take_first xs ys n is = ap (λ k. take k (xs ++ ys)) is ∙ first_taken xs ys

-- ---- Members

module _ (zeros : Bool) (g : GlobalScope) (types : Types) (known : List code.StartPlan) where
  -- The first members are placed, and the others remain.
  pub record PartlyPlaced (ms : Members) (at next : ℕ) (fields : List (Name × ℕ)) (parts : List Placed) : Type 0 where
    pub others : Members
    pub represent : AreMembers types fields others
    pub all : map (placed_in known) parts ++ placed zeros g others next ≡ placed zeros g ms at

  pub none_placed : (ms : Members) (at : ℕ) (fields : List (Name × ℕ)) (parts : List Placed) → parts ≡ [] → AreMembers types fields ms → PartlyPlaced ms at at fields parts
  none_placed ms at fields parts none represent = record {
    others = ms;
    represent = represent;
    all = ap (λ (ps : List Placed). map (placed_in known) ps ++ placed zeros g ms at) none;
  }

  added_last : (parts : List Placed) (p : Placed) (rest : List text.Placed) → map (placed_in known) (parts ++ p ∷ []) ++ rest ≡ map (placed_in known) parts ++ placed_in known p ∷ rest
  added_last [] p rest = refl
  added_last (q ∷ parts) p rest = ap (λ ps. placed_in known q ∷ ps) (added_last parts p rest)

  pub one_placed : (ms : Members) (at now next size plan' : ℕ) (f : Name × ℕ) (fields : List (Name × ℕ)) (before after : List Placed)
      → after ≡ before ++ record { at = now; size = size; plan = plan' } ∷ [] → next ≡ now + size
      → ((t : ResolvedType) → Represents types f.1 t → size ≡ words g t)
      → ((t : ResolvedType) → Represents types f.1 t → plan_at known plan' ≡ plan zeros g t)
      → PartlyPlaced ms at now (f ∷ fields) before → PartlyPlaced ms at next fields after
  one_placed ms at now next size plan' f fields before after is lies sized planned some = go some.others some.represent some.all
    where
      go : (others : Members) → AreMembers types (f ∷ fields) others → map (placed_in known) before ++ placed zeros g others now ≡ placed zeros g ms at
          → PartlyPlaced ms at next fields after
      go NoMembers represent all = absurd represent
      go (MoreMembers x t others) represent all =
          let p : Placed = record { at = now; size = size; plan = plan' } in
          let rest = placed zeros g others next in
          let same : placed_in known p ≡ record { at = now; size = words g t; plan = plan zeros g t } =
          λ i. record { at = now; size = sized t represent.1 i; plan = planned t represent.1 i } in
          record {
            others = others;
            represent = represent.2;
            all =
                ap (λ (ps : List Placed). map (placed_in known) ps ++ rest) is
                ∙ added_last before p rest
                ∙ ap (λ q. map (placed_in known) before ++ q ∷ rest) same
                ∙ ap (λ n. map (placed_in known) before ++ record { at = now; size = words g t; plan = plan zeros g t } ∷ placed zeros g others n)
                (lies ∙ ap (λ n. now + n) (sized t represent.1))
                ∙ all;
          }

  pub all_placed : (ms : Members) (at next : ℕ) (fields : List (Name × ℕ)) (parts : List Placed) → fields ≡ [] → PartlyPlaced ms at next fields parts
      → map (placed_in known) parts ≡ placed zeros g ms at
  all_placed ms at next fields parts none some = go some.others (subst (λ fs. AreMembers types fs some.others) none some.represent) some.all
    where
      go : (others : Members) → AreMembers types [] others → map (placed_in known) parts ++ placed zeros g others next ≡ placed zeros g ms at
          → map (placed_in known) parts ≡ placed zeros g ms at
      go NoMembers represent all = sym (append-nil (map (placed_in known) parts)) ∙ all
      go (MoreMembers x t others) represent all = absurd represent

-- No plan has the number of the next one.
pub no_plan_past : (ps : List StartPlan) (n : ℕ) → n ≡ length ps → plan_at (plans_in ps) n ≡ code.Done
no_plan_past ps n is = ap plan_or_none (slice_get_past (plans_in ps) n (omega (arith, is, plans_length [] ps)))
