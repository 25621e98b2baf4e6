-- The frames in use.
use Rattle.std.proofs.Common.{◌≡◌, ℕ, ℤ, zero, suc, ◌≤◌, ◌<◌, List, [], ◌∷◌, Some, length, slice_set, refl, ap, sym, ◌∙◌, arith}
use Rattle.std.specs.Prelude.{slice_get, slice_index_or}
use Rattle.std.proofs.lemmas.List.{length-set}
use Rattle.smallvec.specs.SmallVec.{SmallVec, with_items}
use Rattle.smallvec.proofs.SmallVecLemmas.{items-with_items}
use Rattle.cp_model_machine.specs.Calling.{Back}
use Rattle.cp_model_machine.specs.Passing.{Called}
use Rattle.cp_private.specs.Calls.{HasKept}
use Rattle.cp_private.specs.Keeping.{ChangesOnlyWords}
use Rattle.cp_private.specs.States.{frame, frame_or_none, frames_in}
use Rattle.cp_private.specs.declared.private.Frame.{Frame}
use Rattle.cp_private.specs.declared.private.Private.{Private}

get_is : (fs : List Frame) (n : ℕ) (d : Frame) → n < length fs → slice_get fs n ≡ Some (slice_index_or fs n d)
get_is [] n d h = absurd (omega arith)
get_is (f ∷ fs) zero d h = refl
get_is (f ∷ fs) (suc n) d h = get_is fs n d (omega arith)

get_set : (fs : List Frame) (n : ℕ) (f : Frame) → n < length fs → slice_get (slice_set fs n f) n ≡ Some f
get_set [] n f h = absurd (omega arith)
get_set (x ∷ fs) zero f h = refl
get_set (x ∷ fs) (suc n) f h = get_set fs n f (omega arith)

get_other : (fs : List Frame) (n m : ℕ) (f : Frame) → m < n → slice_get (slice_set fs n f) m ≡ slice_get fs m
get_other [] n m f h = refl
get_other (x ∷ fs) zero m f h = absurd (omega arith)
get_other (x ∷ fs) (suc n) zero f h = refl
get_other (x ∷ fs) (suc n) (suc m) f h = get_other fs n m f (omega arith)

-- The innermost frame comes first.
pub frames_innermost : (fs : List Frame) (n : ℕ) (d : Frame) → n < length fs
    → frames_in (suc n) fs ≡ frame (slice_index_or fs n d) ∷ frames_in n fs
frames_innermost fs n d h = ap (λ o. frame_or_none o ∷ frames_in n fs) (get_is fs n d h)

frames_below : (m : ℕ) (fs : List Frame) (n : ℕ) (f : Frame) → m ≤ n → frames_in m (slice_set fs n f) ≡ frames_in m fs
frames_below zero fs n f h = refl
frames_below (suc m) fs n f h = λ i. frame_or_none (get_other fs n m f (omega arith) i) ∷ frames_below m fs n f (omega arith) i

-- A frame that is written above those in use leaves them, and how many there are, as they are. It is
-- written to the slice `rs` of all frames.
module _ (v : SmallVec Frame) (n : ℕ) (f : Frame) (rs : List Frame) (is : rs ≡ v.items) where
  written : (with_items v (slice_set rs n f)).items ≡ slice_set v.items n f
  written = items-with_items v (slice_set rs n f) (length-set rs n f ∙ ap length is) ∙ ap (λ ys. slice_set ys n f) is

  pub frames_kept : frames_in n (with_items v (slice_set rs n f)).items ≡ frames_in n v.items
  frames_kept = ap (frames_in n) written ∙ frames_below n v.items n f (omega arith)

  pub limit_kept : length (with_items v (slice_set rs n f)).items ≡ length v.items
  limit_kept = ap length written ∙ length-set v.items n f

-- A frame that is kept for a call stays there while only words change.
pub still_kept : (x y : Private) (before after : List ℤ) (c : Called) (b : Back) → ChangesOnlyWords x before y after → HasKept x c b → HasKept y c b
still_kept x y before after c b k h =
    (λ i. frame_or_none (slice_get (k.kept i).items (k.depth i)))
    ∙ (h ∙ λ i. record {
      counter = b.counter;
      base = sym k.base i;
      temp = sym k.temp i;
      component = sym k.component i;
      into = b.into;
      gate = c.gate;
      held = sym k.gate i;
    })

pub length-frames : (n : ℕ) (fs : List Frame) → length (frames_in n fs) ≡ n
length-frames zero fs = refl
length-frames (suc n) fs = ap suc (length-frames n fs)

-- A frame that is written above those in use is then the innermost one.
pub frames_more : (fs : List Frame) (n : ℕ) (f : Frame) → n < length fs → frames_in (suc n) (slice_set fs n f) ≡ frame f ∷ frames_in n fs
frames_more fs n f h = λ i. frame_or_none (get_set fs n f h i) ∷ frames_below n fs n f (omega arith) i
