-- Terms and place expressions over words have the values and places of expressions and designators.
--
-- By induction on the expression, along the code that represents it: operands are evaluated in
-- the same order, so the first fault is the same, and a name is read where `Here` says that it
-- is.
use Rattle.std.proofs.Common.{◌≡◌, ℕ, zero, suc, ◌+◌, ◌*◌, ℤ, pos, negsuc, [], ◌∷◌, map, Bool, true, false, Option, Some, None, Result, Ok, Err, refl, ap, sym, subst, ◌∙◌, arith}
use Rattle.std.specs.Prelude.{◌+ℤ◌, ◌-ℤ◌, ◌*ℤ◌, if◌then◌else◌, int_div, int_le, int_rem, neg_ℤ}
use Rattle.cp_model.specs.Abstract as a
use Rattle.cp_model.specs.Abstract.{BaseType, Integer, Name}
use Rattle.cp_model.specs.Calls.{call_in_arguments, call_in_designator, first_call, in_context, user_call}
use Rattle.cp_model.specs.Environments.{Environment, meaning}
use Rattle.cp_model.specs.Expressions.{place, value}
use Rattle.cp_model.specs.Leaves.{leaves}
use Rattle.cp_model.specs.Locations.{ByIndex, ByName, Location, under}
use Rattle.cp_model.specs.Operators.{Clock, apply_operator, integer_result, is_empty_queue, realtime, standard_function, with_divisor}
use Rattle.cp_model.specs.Outcomes.{Fault, Gives, Outcome, and_then, guard}
use Rattle.cp_model.specs.Places.{Place, TypedValue, base_of_value, element_place, field_place, field_type, head_value, indexed_place, ordinal_in, ordinal_of, head_or_absent, place_of_meaning, read, referent, value_of_meaning, within}
use Rattle.cp_model.specs.Stores.{Ordinal, QueueHolds, Store}
use Rattle.cp_model.specs.Types.{ArrayOf, Members, Queue, RecordOf, ResolvedType, Simple, base_of_type}
use Rattle.cp_model.specs.declared.state.Fault as machine
use Rattle.cp_model.specs.declared.state.Fault.TheVariants as fault
use Rattle.cp_model_program.specs.Terms as root
use Rattle.cp_model_program.specs.Terms.{Binary, Element, Empty, Item, Made, Negative, Not, Number, Realtime, Root, Rooted, PlaceExpression, Standard, Term}
use Rattle.cp_model_program.specs.Functions.{in_range, standard, unless}
use Rattle.cp_model_program.specs.Starts.{word}
use Rattle.cp_law_typing.specs.Words as typed
use Rattle.cp_model_machine.specs.Values.{View, apply, bind, place_of, root_place, truth, unless_zero, value_of}
use Rattle.cp_model_program.specs.Layout.{Part, distance, farther, natural, part}
use Rattle.cp_model_program.specs.Sites.{IsNoClock, NamesVariable, Site, local_location}
use Rattle.cp_model_program.specs.TermsFor.{Agrees, Knowns, PlaceExpressionFor, TermFor, move_place_expression, result_base}
use Rattle.cp_model_program.proofs.StandardRepresent.{integer_agrees}
use Rattle.cp_model.specs.Integers.{same_integer}
use Rattle.cp_model_machine.specs.Means.{Here, PlaceAgrees, process_of_word}
use Rattle.cp_model_machine.proofs.Finding.{called_is_found, in_context_none, member_has_type, or_else_none, part_whole, under_nothing}

-- ---- values

pub ordinal_is : (v : TypedValue) (n : ℤ) → v.values ≡ Ordinal n ∷ [] → ordinal_of v ≡ n
ordinal_is v n h = ap (λ vs. ordinal_in (head_or_absent vs)) h

divisor_agrees : (d : ℤ) (o : Outcome TypedValue) (r : Result ℤ machine.Fault) → Agrees Integer o r → Agrees Integer (with_divisor d o) (unless_zero d r)
divisor_agrees d o r h = by (same_integer d (pos 0))
  where
    by : (b : Bool) → Agrees Integer (if b then Fault 4 else o) (if b then Err fault.DivisionByZero else r)
    by true = refl
    by false = h

operator_agrees : (p : a.Operator) (v w : TypedValue) → Agrees (result_base p) (apply_operator p v w) (apply p (ordinal_of v) (ordinal_of w))
operator_agrees a.Add v w = integer_agrees (ordinal_of v +ℤ ordinal_of w)
operator_agrees a.Subtract v w = integer_agrees (ordinal_of v -ℤ ordinal_of w)
operator_agrees a.Multiply v w = integer_agrees (ordinal_of v *ℤ ordinal_of w)
operator_agrees a.Divide v w = divisor_agrees (ordinal_of w) _ _ (integer_agrees (int_div (ordinal_of v) (ordinal_of w)))
operator_agrees a.Modulo v w = divisor_agrees (ordinal_of w) _ _ (integer_agrees (int_rem (ordinal_of v) (ordinal_of w)))
operator_agrees a.And v w = (refl, refl)
operator_agrees a.Or v w = (refl, refl)
operator_agrees a.Equal v w = (refl, refl)
operator_agrees a.Unequal v w = (refl, refl)
operator_agrees a.Less v w = (refl, refl)
operator_agrees a.Greater v w = (refl, refl)
operator_agrees a.AtMost v w = (refl, refl)
operator_agrees a.AtLeast v w = (refl, refl)

pub then_agrees : (b c : BaseType) (o : Outcome TypedValue) (r : Result ℤ machine.Fault) (f : TypedValue → Outcome TypedValue) (g : ℤ → Result ℤ machine.Fault)
    → Agrees b o r → ((v : TypedValue) (n : ℤ) → base_of_value v ≡ b → v.values ≡ Ordinal n ∷ [] → Agrees c (f v) (g n))
    → Agrees c (and_then o f) (bind r g)
then_agrees b c (Gives v) (Ok n) f g h go = go v n h.0 h.1
then_agrees b c (Fault k) (Err e) f g h go = h
then_agrees b c (Gives v) (Err e) f g h go = absurd h
then_agrees b c (Fault k) (Ok n) f g h go = absurd h

pub with_place : (lies : Location → Option Part) (t : ResolvedType) (b : BaseType) (o : Outcome Place) (r : Result ℕ machine.Fault) (f : Place → Outcome TypedValue) (g : ℕ → Result ℤ machine.Fault)
    → PlaceAgrees lies t o r → ((p : Place) (n : ℕ) → lies p.at ≡ Some (n, t) → p.type ≡ t → Agrees b (f p) (g n))
    → Agrees b (and_then o f) (bind r g)
with_place lies t b (Gives v) (Ok n) f g h go = go v n h.0 h.1
with_place lies t b (Fault k) (Err e) f g h go = h
with_place lies t b (Gives v) (Err e) f g h go = absurd h
with_place lies t b (Fault k) (Ok n) f g h go = absurd h

pub then_place : (lies : Location → Option Part) (t u : ResolvedType) (o : Outcome Place) (r : Result ℕ machine.Fault) (f : Place → Outcome Place) (g : ℕ → Result ℕ machine.Fault)
    → PlaceAgrees lies t o r → ((p : Place) (n : ℕ) → lies p.at ≡ Some (n, t) → p.type ≡ t → PlaceAgrees lies u (f p) (g n))
    → PlaceAgrees lies u (and_then o f) (bind r g)
then_place lies t u (Gives v) (Ok n) f g h go = go v n h.0 h.1
then_place lies t u (Fault k) (Err e) f g h go = h
then_place lies t u (Gives v) (Err e) f g h go = absurd h
then_place lies t u (Fault k) (Ok n) f g h go = absurd h

pub value_then_place : (lies : Location → Option Part) (b : BaseType) (u : ResolvedType) (o : Outcome TypedValue) (r : Result ℤ machine.Fault) (f : TypedValue → Outcome Place) (g : ℤ → Result ℕ machine.Fault)
    → Agrees b o r → ((w : TypedValue) (n : ℤ) → base_of_value w ≡ b → w.values ≡ Ordinal n ∷ [] → PlaceAgrees lies u (f w) (g n))
    → PlaceAgrees lies u (and_then o f) (bind r g)
value_then_place lies b u (Gives v) (Ok n) f g h go = go v n h.0 h.1
value_then_place lies b u (Fault k) (Err e) f g h go = h
value_then_place lies b u (Gives v) (Err e) f g h go = absurd h
value_then_place lies b u (Fault k) (Ok n) f g h go = absurd h

read_then : {B : Type 0} (store : Store) (o : Outcome Place) (k : TypedValue → Outcome B)
    → and_then (and_then o (λ p. Gives (read store p))) k ≡ and_then o (λ p. k (read store p))
read_then store (Gives p) k = refl
read_then store (Fault f) k = refl

-- ---- places

-- The place a number of words further on.
moved_place : (v : View) (n : ℕ) (s : PlaceExpression) → place_of v (move_place_expression n s) ≡ bind (place_of v s) (λ m. Ok (m + n))
moved_place v n (Rooted (root.Local at)) = ap Ok (omega arith)
moved_place v n (Rooted (root.Member at)) = ap Ok (omega arith)
moved_place v n (Rooted (root.Through at plus)) = ap Ok (omega arith)
moved_place v n (Element s low high words plus e) = by (place_of v s)
  where
    last : (m : ℕ) (i : ℤ) (b : Bool)
        → unless b fault.Index (m + (distance low i * words + (plus + n))) ≡ bind (unless b fault.Index (m + (distance low i * words + plus))) (λ k. Ok (k + n))
    last m i true = ap Ok (omega arith)
    last m i false = refl

    within_index : (m : ℕ) (r : Result ℤ machine.Fault)
        → bind r (λ i. unless (within low high i) fault.Index (m + (distance low i * words + (plus + n))))
        ≡ bind (bind r (λ i. unless (within low high i) fault.Index (m + (distance low i * words + plus)))) (λ k. Ok (k + n))
    within_index m (Ok i) = last m i (within low high i)
    within_index m (Err f) = refl

    by : (r : Result ℕ machine.Fault)
        → bind r (λ m. bind (value_of v e) (λ i. unless (within low high i) fault.Index (m + (distance low i * words + (plus + n)))))
        ≡ bind (bind r (λ m. bind (value_of v e) (λ i. unless (within low high i) fault.Index (m + (distance low i * words + plus))))) (λ k. Ok (k + n))
    by (Ok m) = within_index m (value_of v e)
    by (Err f) = refl

queue_is : (n : ℤ) → is_empty_queue (QueueHolds (process_of_word n)) ≡ int_le n (pos 0)
queue_is (pos zero) = refl
queue_is (pos (suc n)) = Prim.grind arith
queue_is (negsuc n) = refl

module _ (site : Site) (clock : Clock) (store : Store) (v : View) (K : Knowns) (lies : Location → Option Part) (H : Here site.env clock store v K lies) where
  env : Environment
  env = site.env

  -- The value read from a simple variable is that of its word.
  read_agrees : (b : BaseType) (low high start : ℤ) (p : Place) (n : ℕ) → lies p.at ≡ Some (n, Simple b low high start) → p.type ≡ Simple b low high start
      → Agrees b (Gives (read store p)) (Ok (word v.words n))
  read_agrees b low high start p n h t = (
    ap base_of_type t,
    (λ i. map (λ leaf. store (under p.at leaf.0)) (leaves (t i)))
        ∙ ap (λ x. x ∷ []) (ap store (under_nothing p.at) ∙ H.cells p.at n (Simple b low high start) h),
  )

  empty_agrees : (p : Place) (n : ℕ) → lies p.at ≡ Some (n, Queue) → p.type ≡ Queue
      → is_empty_queue (head_value (read store p)) ≡ int_le (word v.words n) (pos 0)
  empty_agrees p n h t =
      ap (λ vs. is_empty_queue (head_or_absent vs))
      ((λ i. map (λ leaf. store (under p.at leaf.0)) (leaves (t i)))
      ∙ ap (λ x. x ∷ []) (ap store (under_nothing p.at) ∙ H.cells p.at n Queue h))
      ∙ queue_is (word v.words n)

  field_agrees : (x : Name) (ms : Members) (plus : ℕ) (t : ResolvedType) → part site.env.globals (RecordOf ms) (ByName x ∷ []) ≡ Some (plus, t)
      → (o : Outcome Place) (r : Result ℕ machine.Fault) → PlaceAgrees lies (RecordOf ms) o r
      → PlaceAgrees lies t (and_then o (λ p. Gives (field_place x p))) (bind r (λ m. Ok (m + plus)))
  field_agrees x ms plus t h (Gives p) (Ok n) q = (
    H.parts p.at n plus (RecordOf ms) t (ByName x) q.0 h,
    ap (field_type x) q.1 ∙ member_has_type site.env.globals 0 ms x plus t h,
  )
  field_agrees x ms plus t h (Fault k) (Err f) q = q
  field_agrees x ms plus t h (Gives p) (Err f) q = absurd q
  field_agrees x ms plus t h (Fault k) (Ok n) q = absurd q

  element_agrees : (lower upper : ℤ) (t : ResolvedType) (words plus : ℕ) → words ≡ typed.words site.env.globals t → plus ≡ 0
      → (p : Place) (n : ℕ) → lies p.at ≡ Some (n, ArrayOf lower upper t) → p.type ≡ ArrayOf lower upper t
      → (i : ℤ) → PlaceAgrees lies t (indexed_place p i) (unless (within lower upper i) fault.Index (n + (distance lower i * words + plus)))
  element_agrees lower upper t words plus hw hp p n h u i =
      subst (λ y. PlaceAgrees lies t (element_place p.at y i) (unless (within lower upper i) fault.Index (n + (distance lower i * words + plus)))) (sym u)
      (by (within lower upper i) refl)
    where
      by : (b : Bool) → within lower upper i ≡ b
          → PlaceAgrees lies t (guard b 2 (record { at = under p.at (ByIndex i ∷ []); type = t })) (unless b fault.Index (n + (distance lower i * words + plus)))
      by true e =
          let far : distance lower i * typed.words site.env.globals t + 0 ≡ distance lower i * words + plus
          = (λ j. distance lower i * sym hw j + sym hp j) in (
            H.parts p.at n (distance lower i * words + plus) (ArrayOf lower upper t) t (ByIndex i) h
                ((λ j. if e j then farther (distance lower i * typed.words site.env.globals t) (part_whole site.env.globals t j) else None)
                ∙ ap (λ k. Some (k, t)) far),
            refl,
          )
      by false e = refl

  named_agrees : (x : Name) (r : Root) (t : ResolvedType) → NamesVariable site.env x r t
      → PlaceAgrees lies t (place clock site.env store (a.Plain x)) (Ok (root_place v r))
  named_agrees x (root.Local at) t h =
      let l = local_location h.frame x in (
        ap (λ m. lies (place_of_meaning site.env store m).at) h.means
            ∙ (ap (λ b. lies (if b then referent l (store l) else l)) h.reference
            ∙ (H.locals h.frame x at h.variable h.runs h.lies h.reference ∙ ap (λ u. Some (v.base + at, u)) h.type)),
        ap (λ m. (place_of_meaning site.env store m).type) h.means ∙ h.type,
      )
  named_agrees x (root.Member at) t h =
      let l = under site.env.component (ByName x ∷ []) in (
        ap (λ m. lies (place_of_meaning site.env store m).at) h.means
            ∙ (ap (λ b. lies (if b then referent l (store l) else l)) h.reference
            ∙ H.members x at t h.lies),
        ap (λ m. (place_of_meaning site.env store m).type) h.means ∙ h.type,
      )
  named_agrees x (root.Through at plus) t h =
      let n = h.1 in
      let l = local_location n.frame x in
      let r = H.references n.frame x at n.variable n.runs n.lies n.reference in
      let far : natural (word v.words (v.base + at)) ≡ natural (word v.words (v.base + at)) + plus = omega (arith, h.0) in (
        ap (λ m. lies (place_of_meaning site.env store m).at) n.means
            ∙ (ap (λ b. lies (if b then referent l (store l) else l)) n.reference
            ∙ (ap (λ w. lies (referent l w)) r.1 ∙ (r.2 ∙ λ i. Some (far i, n.type i)))),
        ap (λ m. (place_of_meaning site.env store m).type) n.means ∙ n.type,
      )

  -- The value that is read from a variable.
  named_read : (x : Name) (r : Root) (t : ResolvedType) → NamesVariable site.env x r t
      → value_of_meaning site.env store (meaning site.env x) ≡ read store (place_of_meaning site.env store (meaning site.env x))
  named_read x (root.Local at) t h =
      ap (value_of_meaning site.env store) h.means ∙ sym (ap (λ m. read store (place_of_meaning site.env store m)) h.means)
  named_read x (root.Member at) t h =
      ap (value_of_meaning site.env store) h.means ∙ sym (ap (λ m. read store (place_of_meaning site.env store m)) h.means)
  named_read x (root.Through at plus) t h =
      ap (value_of_meaning site.env store) h.1.means ∙ sym (ap (λ m. read store (place_of_meaning site.env store m)) h.1.means)

  pub value_reads : (d : a.Designator) (s : PlaceExpression) (t : ResolvedType) (at next low high : ℕ) → IsNoClock d → PlaceExpressionFor site K d s t at next low high
      → value clock site.env store (a.Use d) ≡ and_then (place clock site.env store d) (λ p. Gives (read store p))
  value_reads (a.Plain x) (Rooted r) t at next low high away h =
      ap (λ b. if b then integer_result (pos (realtime clock)) else Gives (value_of_meaning site.env store (meaning site.env x))) away
      ∙ ap Gives (named_read x r t h.1)
  value_reads (a.Plain x) (Element of lower upper words plus i) t at next low high away h = absurd h
  value_reads (a.Part d x) s t at next low high away h = refl
  value_reads (a.At d e) s t at next low high away h = refl

  mutual
    pub value_agrees : (e : a.Expression) (c : Term) (b : BaseType) (at next low high : ℕ) → TermFor site K e c b at next low high
        → first_call site.env (a.Literal 0) e ≡ None → Agrees b (value clock site.env store e) (value_of v c)
    value_agrees (a.Literal n) (Number m) b at next low high h none = (sym h.1, ap (λ z. Ordinal z ∷ []) (sym h.0))
    value_agrees (a.Letter n) (Number m) b at next low high h none = (sym h.1, ap (λ z. Ordinal z ∷ []) (sym h.0))
    value_agrees (a.Known base n) (Number m) b at next low high h none = (sym h.1, ap (λ z. Ordinal z ∷ []) (sym h.0))
    value_agrees (a.Known base n) (Made t) b at next low high h none = (sym h.0, ap (λ z. Ordinal z ∷ []) (sym (H.knowns t n h.2)))
    value_agrees (a.Use d) (Made t) b at next low high h none =
        absurd (called_is_found site.env d a.NoExpression (a.Literal 0) h.0 h.3.means (or_else_none (in_context a.Use (call_in_designator site.env (a.Literal 0) d)) _ none).1)
    value_agrees (a.Use d) (Item s) b at next low high h none =
        let found = or_else_none (in_context a.Use (call_in_designator site.env (a.Literal 0) d)) (user_call site.env d a.NoExpression (a.Literal 0)) none in
        subst (λ o. Agrees b o (bind (place_of v s) (λ n. Ok (word v.words n)))) (sym (value_reads d s (Simple b h.0 h.1 h.2) at next low high h.4 h.5))
        (with_place lies (Simple b h.0 h.1 h.2) b _ (place_of v s) _ _
        (place_agrees d s (Simple b h.0 h.1 h.2) at next low high h.5 (in_context_none a.Use (call_in_designator site.env (a.Literal 0) d) found.0))
        (read_agrees b h.0 h.1 h.2))
    value_agrees (a.Use (a.Plain x)) (Number n) b at next low high h none =
        subst (λ o. Agrees b o (Ok n))
        (sym (ap (λ t. if t then integer_result (pos (realtime clock)) else Gives (value_of_meaning site.env store (meaning site.env x))) h.1
        ∙ ap (λ m. Gives (value_of_meaning site.env store m)) h.2))
        (refl, refl)
    value_agrees (a.Use (a.Plain x)) Realtime b at next low high h none =
        subst (λ o. Agrees b o (in_range (pos v.clock)))
        (sym (ap (λ t. if t then integer_result (pos (realtime clock)) else Gives (value_of_meaning site.env store (meaning site.env x))) h.1))
        (subst (λ t. Agrees t (integer_result (pos (realtime clock))) (in_range (pos v.clock))) (sym h.2)
        (subst (λ n. Agrees Integer (integer_result (pos (realtime clock))) (in_range (pos n))) (sym H.clock_is) (integer_agrees (pos (realtime clock)))))
    value_agrees (a.Call d es) (Made t) b at next low high h none =
        absurd (called_is_found site.env d es (a.Literal 0) h.0 h.5.means (or_else_none (in_context (a.Call d) (call_in_arguments site.env (a.Literal 0) es)) _ none).1)
    value_agrees (a.Call (a.Plain x) (a.MoreExpressions e a.NoExpression)) (Standard f c) b at next low high h none =
        let inside = or_else_none (in_context (a.Call (a.Plain x)) (call_in_arguments site.env (a.Literal 0) (a.MoreExpressions e a.NoExpression))) (user_call site.env (a.Plain x) (a.MoreExpressions e a.NoExpression) (a.Literal 0)) none in
        let arguments = in_context_none (a.Call (a.Plain x)) (call_in_arguments site.env (a.Literal 0) (a.MoreExpressions e a.NoExpression)) inside.0 in
        let first = or_else_none (in_context (λ y. a.MoreExpressions y a.NoExpression) (first_call site.env (a.Literal 0) e)) None arguments in
        then_agrees h.0 b (value clock site.env store e) (value_of v c) _ _
        (value_agrees e c h.0 at next low high h.3 (in_context_none (λ y. a.MoreExpressions y a.NoExpression) (first_call site.env (a.Literal 0) e) first.0))
        (λ w n p q. subst (λ z. Agrees b (standard_function x w) (standard f z)) (ordinal_is w n q) (h.2 w p))
    value_agrees (a.Call (a.Plain x) (a.MoreExpressions (a.Use d) a.NoExpression)) (Empty s) b at next low high h none =
        let inside = or_else_none (in_context (a.Call (a.Plain x)) (call_in_arguments site.env (a.Literal 0) (a.MoreExpressions (a.Use d) a.NoExpression))) (user_call site.env (a.Plain x) (a.MoreExpressions (a.Use d) a.NoExpression) (a.Literal 0)) none in
        let arguments = in_context_none (a.Call (a.Plain x)) (call_in_arguments site.env (a.Literal 0) (a.MoreExpressions (a.Use d) a.NoExpression)) inside.0 in
        let first = or_else_none (in_context (λ y. a.MoreExpressions y a.NoExpression) (first_call site.env (a.Literal 0) (a.Use d))) None arguments in
        let use' = in_context_none (λ y. a.MoreExpressions y a.NoExpression) (first_call site.env (a.Literal 0) (a.Use d)) first.0 in
        let found = or_else_none (in_context a.Use (call_in_designator site.env (a.Literal 0) d)) (user_call site.env d a.NoExpression (a.Literal 0)) use' in
        subst (λ o. Agrees b o (bind (place_of v s) (λ n. Ok (truth (int_le (word v.words n) (pos 0))))))
        (sym (ap (λ o. and_then o (standard_function x)) (value_reads d s Queue at next low high h.2 h.5)
        ∙ read_then store (place clock site.env store d) (standard_function x)))
        (with_place lies Queue b _ (place_of v s) _ _
        (place_agrees d s Queue at next low high h.5 (in_context_none a.Use (call_in_designator site.env (a.Literal 0) d) found.0))
        (λ p n l t. subst (λ o. Agrees b o (Ok (truth (int_le (word v.words n) (pos 0))))) (sym (h.3 (read store p)))
        (sym h.4, ap (λ z. Ordinal (truth z) ∷ []) (empty_agrees p n l t))))
    value_agrees (a.Not e) (Not c) b at next low high h none =
        then_agrees h.0 b (value clock site.env store e) (value_of v c) _ _
        (value_agrees e c h.0 at next low high h.2 (in_context_none a.Not (first_call site.env (a.Literal 0) e) none))
        (λ w n p q. (sym h.1, ap (λ z. Ordinal (truth (same_integer z (pos 0))) ∷ []) (ordinal_is w n q)))
    value_agrees (a.Negative e) (Negative c) b at next low high h none =
        then_agrees h.0 b (value clock site.env store e) (value_of v c) _ _
        (value_agrees e c h.0 at next low high h.2 (in_context_none a.Negative (first_call site.env (a.Literal 0) e) none))
        (λ w n p q. subst (λ o. Agrees o (integer_result (neg_ℤ (ordinal_of w))) (in_range (neg_ℤ n))) (sym h.1)
        (subst (λ z. Agrees Integer (integer_result (neg_ℤ (ordinal_of w))) (in_range (neg_ℤ z))) (ordinal_is w n q) (integer_agrees (neg_ℤ (ordinal_of w)))))
    value_agrees (a.Positive e) c b at next low high h none =
        value_agrees e c b at next low high h (in_context_none a.Positive (first_call site.env (a.Literal 0) e) none)
    value_agrees (a.Binary o e f) (Binary p c d) b at next low high h none =
        let both = or_else_none (in_context (λ x. a.Binary o x f) (first_call site.env (a.Literal 0) e)) (in_context (a.Binary o e) (first_call site.env (a.Literal 0) f)) none in
        then_agrees h.0 b (value clock site.env store e) (value_of v c) _ _
        (value_agrees e c h.0 at h.2 low h.3 h.8 (in_context_none (λ x. a.Binary o x f) (first_call site.env (a.Literal 0) e) both.0))
        (λ w n p1 q1. then_agrees h.1 b (value clock site.env store f) (value_of v d) _ _
        (value_agrees f d h.1 h.2 next h.3 high h.9 (in_context_none (a.Binary o e) (first_call site.env (a.Literal 0) f) both.1))
        (λ u m p2 q2.
        subst (λ y. Agrees y (apply_operator o w u) (apply p n m)) (sym h.5)
        (subst (λ q. Agrees (result_base q) (apply_operator q w u) (apply p n m)) h.4
        (subst (λ z. Agrees (result_base p) (apply_operator p w u) (apply p z m)) (ordinal_is w n q1)
        (subst (λ z. Agrees (result_base p) (apply_operator p w u) (apply p (ordinal_of w) z)) (ordinal_is u m q2)
        (operator_agrees p w u))))))
    value_agrees _ _ b at next low high h none = absurd h

    pub place_agrees : (d : a.Designator) (s : PlaceExpression) (t : ResolvedType) (at next low high : ℕ) → PlaceExpressionFor site K d s t at next low high
        → call_in_designator site.env (a.Literal 0) d ≡ None → PlaceAgrees lies t (place clock site.env store d) (place_of v s)
    place_agrees (a.Plain x) (Rooted r) t at next low high h none = named_agrees x r t h.1
    place_agrees (a.Part d x) s t at next low high h none =
        subst (λ r. PlaceAgrees lies t (and_then (place clock site.env store d) (λ p. Gives (field_place x p))) r)
        (sym (ap (place_of v) h.4 ∙ moved_place v h.1 h.2))
        (field_agrees x h.0 h.1 t h.3 (place clock site.env store d) (place_of v h.2)
        (place_agrees d h.2 (RecordOf h.0) at next low high h.5 (in_context_none (λ y. a.Part y x) (call_in_designator site.env (a.Literal 0) d) none)))
    place_agrees (a.At d e) (Element of lower upper words plus i) t at next low high h none =
        let both = or_else_none (in_context (λ y. a.At y e) (call_in_designator site.env (a.Literal 0) d)) (in_context (a.At d) (first_call site.env (a.Literal 0) e)) none in
        then_place lies (ArrayOf lower upper t) t (place clock site.env store d) (place_of v of) _ _
        (place_agrees d of (ArrayOf lower upper t) at h.1 low h.2 h.7 (in_context_none (λ y. a.At y e) (call_in_designator site.env (a.Literal 0) d) both.0))
        (λ p n l ty. value_then_place lies h.0 t (value clock site.env store e) (value_of v i) _ _
        (value_agrees e i h.0 h.1 next h.2 high h.8 (in_context_none (a.At d) (first_call site.env (a.Literal 0) e) both.1))
        (λ w k pb q. subst (λ z. PlaceAgrees lies t (indexed_place p (ordinal_of w)) (unless (within lower upper z) fault.Index (n + (distance lower z * words + plus)))) (ordinal_is w k q)
        (element_agrees lower upper t words plus h.3 h.4 p n l ty (ordinal_of w))))
    place_agrees _ _ t at next low high h none = absurd h
