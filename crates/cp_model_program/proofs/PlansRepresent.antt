-- The plan of a type writes its start values.
use Rattle.std.proofs.Common.{◌≡◌, ◌≤◌, ◌<◌, ℕ, suc, ◌+◌, ◌*◌, ℤ, pos, List, ◌++◌, refl, ap, sym, subst, ◌∙◌, Bool, true, length, arith}
use Rattle.std.specs.Prelude.{int_le, replicate, slice_index_or}
use Rattle.std.proofs.lemmas.List.{get_or-replicate, length-replicate}
use Rattle.cp_model.specs.Abstract.{Class, Monitor, Process, Sort, System}
use Rattle.cp_model.specs.Types.{ArrayOf, ComponentOf, GlobalScope, Members, MoreMembers, NoMembers, NoType, Queue, RecordOf, ResolvedType, Simple}
use Rattle.cp_law_typing.specs.Words.{component_words, rights_in, words, words_of_members}
use Rattle.cp_model_program.specs.Known.{Plannable, PlannableMembers}
use Rattle.cp_model_program.specs.Layout.{head_words}
use Rattle.cp_model_program.specs.Starts.{paste, word}
use Rattle.cp_model_program.specs.Plans.{placed, plan, plan_of_class, plan_of_elements, plan_of_parts, value_of_fill}
use Rattle.cp_model_program.proofs.Pasting.{copies, paste_append, paste_same}
use Rattle.cp_model_program.proofs.PlansWrite.{image_of_class, image, images, Blank, image_length, images_length, Writes, word_planned, blank_part}
use Rattle.cp_model_program.proofs.ArraysPlanned.{some_values, elements_planned}
use Rattle.cp_model_program.proofs.PartsPlanned.{WritesPart, Follow, parts_planned}

abbrev pub Planned : Bool → GlobalScope → ResolvedType → Type 0
Planned zeros g t = Writes zeros (words g t) (plan zeros g t) (image g t)

abbrev pub PlannedMembers : Bool → GlobalScope → Members → Type 0
PlannedMembers zeros g ms = (at : ℕ) → Follow zeros at (placed zeros g ms at) (images g ms)

abbrev pub planned_part : (zeros : Bool) (g : GlobalScope) (t : ResolvedType) (at : ℕ) → Planned zeros g t → WritesPart zeros (record { at = at; size = words g t; plan = plan zeros g t })
planned_part zeros g t at h = record { values = image g t; size_is = image_length g t; writes = h }

array_planned : (zeros : Bool) (g : GlobalScope) (low high : ℤ) (t : ResolvedType) → int_le low high ≡ true → Planned zeros g t → Planned zeros g (ArrayOf low high t)
array_planned zeros g low high t rises inner =
    let c = some_values low high rises in
    subst (λ n. Writes zeros (n * size) (plan_of_elements size n (value_of_fill size (plan zeros g t)) (plan zeros g t)) (copies n (image g t))) (sym c.1)
    (elements_planned zeros size c.0 (plan zeros g t) (image g t) (image_length g t) inner)
  where
    size : ℕ
    size = words g t

record_planned : (zeros : Bool) (g : GlobalScope) (ms : Members) → PlannedMembers zeros g ms → Planned zeros g (RecordOf ms)
record_planned zeros g ms members base ws room blank =
    parts_planned zeros base 0 (placed zeros g ms 0) (images g ms) ws (members 0) (omega (arith, room, images_length g ms))
    (subst (λ n. Blank zeros ws n (length (images g ms))) (sym (nothing_more base))
    (subst (Blank zeros ws base) (sym (images_length g ms)) blank))
    ∙ ap (λ n. paste n (images g ms) ws) (nothing_more base)
  where
    nothing_more : (a : ℕ) → a + 0 ≡ a
    nothing_more a = omega arith

class_planned : (g : GlobalScope) (s : System) (inner : Members) → PlannedMembers true g inner
    → Writes true (head_words g s + words_of_members g inner) (plan_of_parts (placed true g inner (head_words g s))) (replicate (head_words g s) (pos 0) ++ images g inner)
class_planned g s inner members base ws room blank =
    parts_planned true base head (placed true g inner head) (images g inner) ws (members head) (omega (arith, room, images_length g inner))
    (blank_part true ws base (head + words_of_members g inner) head (length (images g inner)) blank (omega (arith, images_length g inner)))
    ∙ sym (paste_append base zeros (images g inner) ws
    ∙ ap (paste (base + length zeros) (images g inner)) none
    ∙ ap (λ n. paste (base + n) (images g inner) ws) (length-replicate head (pos 0)))
  where
    head : ℕ
    head = head_words g s

    zeros : List ℤ
    zeros = replicate head (pos 0)

    none : paste base zeros ws ≡ ws
    none = paste_same base zeros ws at_zero
      where
        at_zero : (k : ℕ) → k < length zeros → word ws (base + k) ≡ slice_index_or zeros k (pos 0)
        at_zero k less =
            blank refl k (omega (arith, less, length-replicate head (pos 0))) ∙ sym (get_or-replicate head k (pos 0) (pos 0) (omega (arith, less, length-replicate head (pos 0))))

component_planned : (zeros : Bool) (g : GlobalScope) (s : System) (inner : Members) → zeros ≡ true → PlannedMembers true g inner → Planned zeros g (ComponentOf s inner)
component_planned zeros g s inner is members = subst (λ z. Planned z g (ComponentOf s inner)) (sym is) (go s.sort)
  where
    one_more : (n m : ℕ) → 1 + n + m ≡ suc n + m
    one_more n m = omega arith

    total : 1 + rights_in g s + words_of_members g inner ≡ head_words g s + words_of_members g inner
    total = one_more (rights_in g s) (words_of_members g inner)

    go : (sort : Sort) → Writes true (component_words sort (1 + rights_in g s + words_of_members g inner)) (plan_of_class sort (plan_of_parts (placed true g inner (head_words g s))))
        (image_of_class sort (replicate (head_words g s) (pos 0) ++ images g inner))
    go Class base ws room blank = class_planned g s inner members base ws (subst (λ n. base + n ≤ length ws) total room) (subst (Blank true ws base) total blank)
    go Process base ws room blank = refl
    go Monitor base ws room blank = refl

mutual
  pub planned : (zeros : Bool) (g : GlobalScope) (t : ResolvedType) → Plannable zeros t → Planned zeros g t
  planned zeros g (Simple b low high n) h = word_planned zeros n
  planned zeros g (ArrayOf low high t) h = array_planned zeros g low high t h.0 (planned zeros g t h.1)
  planned zeros g (RecordOf ms) h = record_planned zeros g ms (all_planned zeros g ms h)
  planned zeros g Queue h = word_planned zeros (pos 0)
  planned zeros g (ComponentOf s inner) h =
      component_planned zeros g s inner h.0 (all_planned true g inner (subst (λ z. PlannableMembers z inner) h.0 h.1))
  planned zeros g NoType h = λ base ws room blank. refl

  pub all_planned : (zeros : Bool) (g : GlobalScope) (ms : Members) → PlannableMembers zeros ms → PlannedMembers zeros g ms
  all_planned zeros g NoMembers h at = refl
  all_planned zeros g (MoreMembers x t ms) h at =
      (refl, planned_part zeros g t at (planned zeros g t h.0), images g ms, refl, all_planned zeros g ms h.1 (at + words g t))
