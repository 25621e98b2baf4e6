-- Lists of which each item has been tested, one after another.
use Rattle.std.specs.Prelude.{Bool, List, None, Some, [], drop, false, if◌then◌else◌, length, refl, slice_get, suc, true, zero, ℕ, ◌+◌, ◌∷◌, ◌≡◌, ◌≤◌}
use Rattle.std.proofs.Common.{Box, Global, ap, arith, subst, sym, ◌∙◌}
use Rattle.cp_model_program.specs.Terms as plain
use Rattle.cp_model_program.specs.Programs as code
use Rattle.cp_law_cores.specs.Clocks.{are_timeless, argument_is_timeless, arguments_are_timeless, operation_is_timeless, place_expression_is_timeless, term_is_timeless}
use Rattle.cp_law_cores.proofs.Parts.{none_is}
use Rattle.cp_model.proofs.Options.{same_some}
use Rattle.cp_program.specs.declared.element.Element.{Element}
use Rattle.cp_program.specs.declared.element.NearIndex.{NearIndex}
use Rattle.cp_program.specs.declared.element.Slot.{Slot}
use Rattle.cp_program.specs.declared.element.Slot.TheVariants as slot_case
use Rattle.cp_program.specs.declared.element.Addend.{Addend}
use Rattle.cp_program.specs.declared.element.Addend.TheVariants as addend_case
use Rattle.cp_program.specs.View as view
use Rattle.cp_program.specs.declared.term.Application.TheFolds.{fold-roll-Operand}
use Rattle.cp_program.specs.declared.term.Operand.TheVariants as operand_case
use Rattle.cp_program.specs.View.{After, Before, PlainApplication, PlainIndex, application_layer, chain_of, elements_of, index_layer, operand_layer, place_expression_layer, term_layer}
use Rattle.cp_search_clock.specs.Chains.{application_is_timeless, applications_are_timeless, indices_are_timeless}

module _ {X : Type 0} (test : X → Bool) (all : List X → Bool) (none : all [] ≡ true) (more : (x : X) (xs : List X) → test x ≡ true → all xs ≡ true → all (x ∷ xs) ≡ true) where
  -- What is left of the list passes if one more item and what is left after it pass.
  step : (xs : List X) (i : ℕ) (x : X) → slice_get xs i ≡ Some x → test x ≡ true → all (drop (suc i) xs) ≡ true → all (drop i xs) ≡ true
  step [] i x e h rest = absurd (none_is x e)
  step (y ∷ xs) zero x e h rest = more y xs (ap test (same_some y x e) ∙ h) rest
  step (y ∷ xs) (suc i) x e h rest = step xs i x e h rest

  pub left_more : (xs : List X) (i : ℕ) (x : X) → slice_get xs i ≡ Some x → test x ≡ true → (all (drop i xs) ≡ true → all xs ≡ true)
      → all (drop (i + 1) xs) ≡ true → all xs ≡ true
  left_more xs i x e h was rest =
      let next : i + 1 ≡ suc i = omega arith in
      was (step xs i x e h (subst (λ n. all (drop n xs) ≡ true) next rest))

  pub left_none : (xs : List X) (i : ℕ) → slice_get xs i ≡ None → all (drop i xs) ≡ true
  left_none [] zero e = none
  left_none [] (suc i) e = none
  left_none (y ∷ xs) zero e = absurd (none_is y (sym e))
  left_none (y ∷ xs) (suc i) e = left_none xs i e

  pub left_past : (xs : List X) (i : ℕ) → length xs ≤ i → all (drop i xs) ≡ true
  left_past [] zero past = none
  left_past [] (suc i) past = none
  left_past (y ∷ xs) zero past = absurd (omega (arith, past))
  left_past (y ∷ xs) (suc i) past = left_past xs i (omega (arith, past))

both : (a b : Bool) → a ≡ true → b ≡ true → (if a then b else false) ≡ true
both a b e f = ap (λ x. if x then b else false) e ∙ f

pub more_applications : (x : PlainApplication) (xs : List PlainApplication) → application_is_timeless x ≡ true → applications_are_timeless xs ≡ true → applications_are_timeless (x ∷ xs) ≡ true
more_applications x xs e f = both (application_is_timeless x) (applications_are_timeless xs) e f

pub more_arguments : (x : plain.Argument) (xs : List plain.Argument) → argument_is_timeless x ≡ true → arguments_are_timeless xs ≡ true → arguments_are_timeless (x ∷ xs) ≡ true
more_arguments x xs e f = both (argument_is_timeless x) (arguments_are_timeless xs) e f

pub more_operations : (x : code.Operation) (xs : List code.Operation) → operation_is_timeless x ≡ true → are_timeless xs ≡ true → are_timeless (x ∷ xs) ≡ true
more_operations x xs e f = both (operation_is_timeless x) (are_timeless xs) e f

pub more_indices : (i : PlainIndex) (is : List PlainIndex) → term_is_timeless i.value ≡ true → indices_are_timeless is ≡ true → indices_are_timeless (i ∷ is) ≡ true
more_indices i is e f = both (term_is_timeless i.value) (indices_are_timeless is) e f

-- ---- Chains

parts : (a b : Bool) → (if a then b else false) ≡ true → (a ≡ true) × (b ≡ true)
parts true b h = (refl, h)
parts false b h = (h, absurd (cc))

pub chain_passes : (e : plain.Term) (xs : List PlainApplication) → term_is_timeless e ≡ true → applications_are_timeless xs ≡ true → term_is_timeless (chain_of e xs) ≡ true
chain_passes e [] h all = h
chain_passes e (After o right ∷ xs) h all =
    let split = parts (term_is_timeless right) (applications_are_timeless xs) all in
    chain_passes (plain.Binary o e right) xs (both (term_is_timeless e) (term_is_timeless right) h split.0) split.1
chain_passes e (Before o left ∷ xs) h all = chain_passes (plain.Binary o (plain.Item (plain.Rooted left)) e) xs h all

pub elements_pass : (s : plain.PlaceExpression) (is : List PlainIndex) → place_expression_is_timeless s ≡ true → indices_are_timeless is ≡ true → place_expression_is_timeless (elements_of s is) ≡ true
elements_pass s [] h all = h
elements_pass s (i ∷ is) h all =
    let split = parts (term_is_timeless i.value) (indices_are_timeless is) all in
    elements_pass (plain.Element s i.low i.high i.size i.plus i.value) is (both (place_expression_is_timeless s) (term_is_timeless i.value) h split.0) split.1

-- An index that needs no chain, and an element, read no clock.
with_addend_passes : (s : Addend) (e : plain.Term) → term_is_timeless e ≡ true → term_is_timeless (view.with_addend s e) ≡ true
with_addend_passes addend_case.Nothing e h = h
with_addend_passes (addend_case.Add n) e h = both (term_is_timeless e) true h refl
with_addend_passes (addend_case.Subtract n) e h = both (term_is_timeless e) true h refl

slot_passes : (s : Slot) → term_is_timeless (view.slot s) ≡ true
slot_passes (slot_case.Local at) = refl
slot_passes (slot_case.Member at) = refl

pub near_passes : (i : NearIndex) → term_is_timeless (view.near_index i).value ≡ true
near_passes i = with_addend_passes i.addend (view.slot i.slot) (slot_passes i.slot)

pub element_passes : (e : Element) → place_expression_is_timeless (view.element e) ≡ true
element_passes e = near_passes e.index

pub element_operand : (e : Box Element Global) → view.operand (operand_case.Element e) ≡ plain.Item (view.element e.value)
element_operand e =
    ap view.operand (sym (operand_case.rolls-Element e))
    ∙ fold-roll-Operand PlainApplication PlainIndex plain.Term plain.PlaceExpression plain.Term application_layer index_layer operand_layer place_expression_layer term_layer _
