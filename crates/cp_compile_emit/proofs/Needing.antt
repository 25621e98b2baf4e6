-- The needs of operations, as an operation is emitted or completed.
use Rattle.std.proofs.Common.{◌≡◌, ℕ, zero, suc, List, [], ◌∷◌, ◌++◌, ◌+◌, Some, None, drop, length, map, max, refl, ap, sym, ◌∙◌, Option, arith}
use Rattle.std.specs.Prelude.{slice_get}
use Rattle.cp_model_program.specs.Layout.{capped}
use Rattle.cp_model_program.specs.CodeNeeds.{Need, greater_need, need_of, need_of_all, need_of_call, no_need, with_room, with_temps}
use Rattle.cp_model_program.specs.Programs as op
use Rattle.cp_model_program.specs.Programs.{CodeUnit, Operation}
use Rattle.cp_program.specs.declared.program.CodeUnit as emitted
use Rattle.cp_program.specs.View as view
use Rattle.cp_compile_emit.specs.Emission.{changed_at, with_body, with_repeated}

swap_max : (a b c : ℕ) → max a (max b c) ≡ max b (max a c)
swap_max a b c = omega arith

swap_greater : (x y z : Need) → greater_need x (greater_need y z) ≡ greater_need y (greater_need x z)
swap_greater x y z = λ i. record {
  words = swap_max x.words y.words z.words i;
  temps = swap_max x.temps y.temps z.temps i;
  frames = swap_max x.frames y.frames z.frames i;
}

pub need_more : (us : List CodeUnit) (w : ℕ) (os : List Operation) (o : Operation)
    → need_of_all us w (os ++ o ∷ []) ≡ greater_need (need_of us o) (need_of_all us w os)
need_more us w [] o = refl
need_more us w (p ∷ ps) o =
    ap (greater_need (need_of us p)) (need_more us w ps o) ∙ swap_greater (need_of us p) (need_of us o) (need_of_all us w ps)

pub need_changed : (us : List CodeUnit) (w : ℕ) (f : Operation → Operation) → ((o : Operation) → need_of us (f o) ≡ need_of us o)
    → (k n : ℕ) (os : List Operation) → need_of_all us w (drop k (changed_at n f os)) ≡ need_of_all us w (drop k os)
need_changed us w f same k n [] = refl
need_changed us w f same zero zero (o ∷ os) = ap (λ x. greater_need x (need_of_all us w os)) (same o)
need_changed us w f same zero (suc n) (o ∷ os) = ap (greater_need (need_of us o)) (need_changed us w f same zero n os)
need_changed us w f same (suc k) zero (o ∷ os) = refl
need_changed us w f same (suc k) (suc n) (o ∷ os) = need_changed us w f same k n os

pub need_with_body : (us : List CodeUnit) (body : ℕ) (o : Operation) → need_of us (with_body body o) ≡ need_of us o
need_with_body us body (op.Cycle b) = refl
need_with_body us body (op.ForNext c) = refl
need_with_body us body (op.Test t y n) = refl
need_with_body us body o = refl

pub need_with_repeated : (us : List CodeUnit) (body : ℕ) (o : Operation) → need_of us (with_repeated body o) ≡ need_of us o
need_with_repeated us body (op.Test t y n) = refl
need_with_repeated us body o = refl

-- ---- The plans of units make no difference

abbrev need_when_called : op.Call → Option CodeUnit → Need
need_when_called c None = no_need
need_when_called c (Some u) = record { words = capped (c.words + u.words); temps = c.temps + u.temps; frames = 1 + u.frames }

called_alike : (known : List op.StartPlan) (c : op.Call) (us : List emitted.CodeUnit) (n : ℕ)
    → need_when_called c (slice_get (map (view.code_unit known) us) n) ≡ need_when_called c (slice_get (map (view.code_unit []) us) n)
called_alike known c [] zero = refl
called_alike known c [] (suc n) = refl
called_alike known c (u ∷ us) zero = refl
called_alike known c (u ∷ us) (suc n) = called_alike known c us n

same_need : (units : List CodeUnit) (c : op.Call) → need_of_call units c ≡ need_when_called c (slice_get units c.routine)
same_need units c = go (slice_get units c.routine)
  where
    go : (o : Option CodeUnit)
        → elim o as (λ z. Need) [ None ↦ no_need | Some u ↦ record { words = capped (c.words + u.words); temps = c.temps + u.temps; frames = 1 + u.frames } ] ≡ need_when_called c o
    go None = refl
    go (Some u) = refl

call_needs : (known : List op.StartPlan) (us : List emitted.CodeUnit) (c : op.Call) → need_of_call (map (view.code_unit known) us) c ≡ need_of_call (map (view.code_unit []) us) c
call_needs known us c =
    same_need (map (view.code_unit known) us) c ∙ called_alike known c us c.routine ∙ sym (same_need (map (view.code_unit []) us) c)

operation_needs : (known : List op.StartPlan) (us : List emitted.CodeUnit) (o : Operation) → need_of (map (view.code_unit known) us) o ≡ need_of (map (view.code_unit []) us) o
operation_needs known us (op.Procedure c next) = call_needs known us c
operation_needs known us (op.Function c into next) = ap (with_temps (suc into)) (call_needs known us c)
operation_needs known us (op.InitClass c next) = ap (with_room c.words (length c.arguments)) (call_needs known us c)
operation_needs known us (op.InitMonitor c next) = ap (with_room c.words (length c.arguments)) (call_needs known us c)
operation_needs known us o = refl

pub all_needs : (known : List op.StartPlan) (us : List emitted.CodeUnit) (w : ℕ) (os : List Operation)
    → need_of_all (map (view.code_unit known) us) w os ≡ need_of_all (map (view.code_unit []) us) w os
all_needs known us w [] = refl
all_needs known us w (o ∷ os) = λ i. greater_need (operation_needs known us o i) (all_needs known us w os i)
