-- Chains of operands and of indices: what they are as terms and place expressions, and their
-- values.
use Rattle.std.proofs.Math.ListN.{get_or, set}
use Rattle.std.proofs.Common.{arith, Bool, true, false, zero, suc, length, ◌≡◌, ◌+◌, ◌*◌, ℕ, ℤ, map, List, [], ◌∷◌, ◌++◌, Result, Ok, Err, Vec, Global, refl, ap, sym, ◌∙◌}
use Rattle.cp_model.specs.declared.state.Fault.{Fault}
use Rattle.cp_model.specs.declared.state.Fault.TheVariants as fault
use Rattle.cp_model.specs.Places.{within}
use Rattle.cp_model_program.specs.Functions.{unless}
use Rattle.cp_model_program.specs.Layout.{distance}
use Rattle.cp_model_program.specs.Terms as plain
use Rattle.cp_model_program.specs.TermsFor.{move_place_expression}
use Rattle.cp_model_program.specs.Starts.{word}
use Rattle.cp_model_machine.specs.Values.{View, apply, bind, place_of, root_place, value_of}
use Rattle.cp_program.specs.declared.term.Operand.{Operand}
use Rattle.cp_program.specs.declared.term.Root.{Root}
use Rattle.cp_program.specs.declared.term.Term.{Term, out-Term, roll-Term}
use Rattle.cp_program.specs.declared.term.PlaceExpression.{PlaceExpression, out-PlaceExpression, roll-PlaceExpression}
use Rattle.cp_program.specs.declared.element.ElementPart.{ElementPart}
use Rattle.cp_program.specs.declared.element.NearIndex.{NearIndex}
use Rattle.cp_program.specs.declared.term.Index.{Index}
use Rattle.cp_program.specs.declared.term.Index.TheVariants as index_case
use Rattle.cp_program.specs.declared.term.Application.{Application}
use Rattle.cp_program.specs.declared.term.Application.TheFolds.{fold-roll-Index, fold-roll-PlaceExpression, fold-roll-Term, fold_out-PlaceExpression, fold_out-Term}
use Rattle.cp_program.specs.Reaches.{apply_operation, cap_place, capped_result, chain_value, elements_place, index_offset, offset_of}
use Rattle.cp_program.specs.View.{After, Before, PlainApplication, PlainIndex, application, application_layer, applied_to, chain_of, elements_of, index, index_after, index_layer, index_of, near_index, operand, operand_layer, root, place_expression, place_expression_layer, term, term_layer}

-- The value of a chain is computed from its first operand and then from the others.
pub value_chain : (v : View) (e : plain.Term) (xs : List PlainApplication)
    → value_of v (chain_of e xs) ≡ bind (value_of v e) (λ x. chain_value v x xs)
value_chain v e [] = keep (value_of v e)
  where
    keep : (r : Result ℤ Fault) → r ≡ bind r (λ x. Ok x)
    keep (Ok x) = refl
    keep (Err f) = refl
value_chain v e (After o right ∷ os) = value_chain v (plain.Binary o e right) os ∙ after (value_of v e)
  where
    after : (r : Result ℤ Fault)
        → bind (bind r (λ x. bind (value_of v right) (λ y. apply o x y))) (λ z. chain_value v z os)
        ≡ bind r (λ x. bind (apply_operation v x (After o right)) (λ z. chain_value v z os))
    after (Ok x) = refl
    after (Err f) = refl
value_chain v e (Before o left ∷ os) = value_chain v (plain.Binary o (plain.Item (plain.Rooted left)) e) os ∙ before (value_of v e)
  where
    before : (r : Result ℤ Fault)
        → bind (bind r (λ y. apply o (word v.words (root_place v left)) y)) (λ z. chain_value v z os)
        ≡ bind r (λ x. bind (apply_operation v x (Before o left)) (λ z. chain_value v z os))
    before (Ok x) = refl
    before (Err f) = refl

-- The place of an element is the place of the whole, moved on as far as the indices lead.
pub place_elements : (v : View) (s : plain.PlaceExpression) (is : List PlainIndex)
    → place_of v (elements_of s is) ≡ bind (place_of v s) (λ at. elements_place v at is)
place_elements v s [] = keep (place_of v s)
  where
    keep : (r : Result ℕ Fault) → r ≡ bind r (λ x. Ok x)
    keep (Ok x) = refl
    keep (Err f) = refl
place_elements v s (i ∷ is) = place_elements v (plain.Element s i.low i.high i.size i.plus i.value) is ∙ after (place_of v s)
  where
    moved : (b : Bool) (a far : ℕ) → unless b fault.Index (a + far) ≡ bind (unless b fault.Index far) (λ k. Ok (a + k))
    moved true a far = refl
    moved false a far = refl

    inner : (r : Result ℕ Fault) (a : ℕ)
        → bind (bind r (λ k. Ok (a + k))) (λ b. elements_place v b is) ≡ bind r (λ k. elements_place v (a + k) is)
    inner (Ok k) a = refl
    inner (Err f) a = refl

    last : (r : Result ℤ Fault) (a : ℕ)
        → bind (bind r (λ n. unless (within i.low i.high n) fault.Index (a + (distance i.low n * i.size + i.plus)))) (λ b. elements_place v b is)
        ≡ bind (bind r (offset_of i)) (λ k. elements_place v (a + k) is)
    last (Ok y) a =
        ap (λ s. bind s (λ b. elements_place v b is)) (moved (within i.low i.high y) a (distance i.low y * i.size + i.plus))
        ∙ inner (offset_of i y) a
    last (Err f) a = refl

    after : (r : Result ℕ Fault)
        → bind (bind r (λ a. bind (value_of v i.value) (λ n. unless (within i.low i.high n) fault.Index (a + (distance i.low n * i.size + i.plus))))) (λ b. elements_place v b is)
        ≡ bind r (λ a. bind (index_offset v i) (λ k. elements_place v (a + k) is))
    after (Ok x) = last (value_of v i.value) x
    after (Err f) = refl

-- Indices lead to the same capped place from a place that is capped itself.
pub elements_capped : (v : View) (a b : ℕ) (is : List PlainIndex) → cap_place a ≡ cap_place b
    → capped_result (elements_place v a is) ≡ capped_result (elements_place v b is)
elements_capped v a b [] h = ap (λ n. Ok n) h
elements_capped v a b (i ∷ is) h = next (index_offset v i) (λ k. elements_capped v (a + k) (b + k) is (farther a b k h))
  where
    farther : (a b far : ℕ) → cap_place a ≡ cap_place b → cap_place (a + far) ≡ cap_place (b + far)
    farther a b far e = omega arith

    next : (r : Result ℕ Fault) → ((k : ℕ) → capped_result (elements_place v (a + k) is) ≡ capped_result (elements_place v (b + k) is))
        → capped_result (bind r (λ k. elements_place v (a + k) is)) ≡ capped_result (bind r (λ k. elements_place v (b + k) is))
    next (Ok k) rest = rest k
    next (Err f) rest = refl

pub term_is : (t : Term) → term t ≡ chain_of (operand (out-Term t).first) (map application (out-Term t).rest.items)
term_is = fold_out-Term PlainApplication PlainIndex plain.Term plain.PlaceExpression plain.Term application_layer index_layer operand_layer place_expression_layer term_layer

pub place_expression_is : (s : PlaceExpression) → place_expression s ≡ elements_of (plain.Rooted (root (out-PlaceExpression s).root)) (map index (out-PlaceExpression s).indices.items)
place_expression_is = fold_out-PlaceExpression PlainApplication PlainIndex plain.Term plain.PlaceExpression plain.Term application_layer index_layer operand_layer place_expression_layer term_layer

-- ---- Chains that grow

pub chain_more : (e : plain.Term) (xs : List PlainApplication) (x : PlainApplication) → chain_of e (xs ++ x ∷ []) ≡ applied_to (chain_of e xs) x
chain_more e [] x = refl
chain_more e (y ∷ ys) x = chain_more (applied_to e y) ys x

pub elements_more : (s : plain.PlaceExpression) (is : List PlainIndex) (i : PlainIndex)
    → elements_of s (is ++ i ∷ []) ≡ plain.Element (elements_of s is) i.low i.high i.size i.plus i.value
elements_more s [] i = refl
elements_more s (j ∷ js) i = elements_more (plain.Element s j.low j.high j.size j.plus j.value) js i

pub term_rolled : (first : Operand) (rest : Vec Application Global)
    → term (roll-Term (record { first = first; rest = rest })) ≡ chain_of (operand first) (map application rest.items)
term_rolled first rest = fold-roll-Term PlainApplication PlainIndex plain.Term plain.PlaceExpression plain.Term application_layer index_layer operand_layer place_expression_layer term_layer _

pub place_expression_rolled : (r : Root) (is : Vec Index Global)
    → place_expression (roll-PlaceExpression (record { root = r; indices = is })) ≡ elements_of (plain.Rooted (root r)) (map index is.items)
place_expression_rolled r is = fold-roll-PlaceExpression PlainApplication PlainIndex plain.Term plain.PlaceExpression plain.Term application_layer index_layer operand_layer place_expression_layer term_layer _

pub index_near : (i : NearIndex) → index (index_case.Near i) ≡ near_index i
index_near i =
    ap index (sym (index_case.rolls-Near i))
    ∙ fold-roll-Index PlainApplication PlainIndex plain.Term plain.PlaceExpression plain.Term application_layer index_layer operand_layer place_expression_layer term_layer _

pub index_far : (p : ElementPart) (value : Term) → index (index_case.Far p value) ≡ index_of p (term value)
index_far p value =
    ap index (sym (index_case.rolls-Far p value))
    ∙ fold-roll-Index PlainApplication PlainIndex plain.Term plain.PlaceExpression plain.Term application_layer index_layer operand_layer place_expression_layer term_layer _

-- The last index can lead further on.
pub elements_moved : (n : ℕ) (s : plain.PlaceExpression) (xs : List Index) (j : ℕ) (y d : Index) → suc j ≡ length xs
    → index y ≡ index_after n (index (get_or xs j d))
    → elements_of s (map index (set xs j y)) ≡ move_place_expression n (elements_of s (map index xs))
elements_moved n s [] j y d h e = absurd (omega arith)
elements_moved n s (x ∷ []) zero y d h e = ap (λ i. plain.Element s i.low i.high i.size i.plus i.value) e
elements_moved n s (x ∷ []) (suc j) y d h e = absurd (omega arith)
elements_moved n s (x ∷ z ∷ zs) zero y d h e = absurd (omega arith)
elements_moved n s (x ∷ z ∷ zs) (suc j) y d h e =
    let i = index x in
    elements_moved n (plain.Element s i.low i.high i.size i.plus i.value) (z ∷ zs) j y d (omega arith) e
