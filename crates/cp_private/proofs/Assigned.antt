-- Private states that are made the same as others.
use Rattle.std.proofs.Common.{List, [], ◌∷◌, ℕ, suc, refl, ap, sym, ◌≡◌, ◌+◌, ◌<◌, ◌∙◌, length, slice_set, arith}
use Rattle.std.specs.Prelude.{slice_index_or}
use Rattle.cp_private.specs.States.{frame, frames_in}
use Rattle.cp_private.specs.declared.private.Frame.{Frame}
use Rattle.cp_private.proofs.InUse.{frames_innermost, frames_more}

-- One more frame is copied.
pub frames_assigned : (n : ℕ) (fs gs : List Frame) (d : Frame) → n < length fs → n < length gs → frames_in n fs ≡ frames_in n gs
    → frames_in (n + 1) (slice_set fs n (slice_index_or gs n d)) ≡ frames_in (n + 1) gs
frames_assigned n fs gs d below there was =
    let next : n + 1 ≡ suc n = omega arith in
    let g = slice_index_or gs n d in
    ap (λ (k : ℕ). frames_in k (slice_set fs n g)) next
    ∙ (frames_more fs n g below ∙ ((λ i. frame g ∷ was i) ∙ (sym (frames_innermost gs n d there) ∙ ap (λ (k : ℕ). frames_in k gs) (sym next))))

pub none_written : (xs : List ℕ) → length xs ≡ 0 → [] ≡ xs
none_written [] e = refl
none_written (x ∷ xs) e = absurd (omega (arith, e))
