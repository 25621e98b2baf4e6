-- Arguments are passed in the words of their parameters, whatever their values.
use Rattle.std.proofs.Common.{◌≡◌, ◌⊎◌, inl, inr, ℕ, ◌+◌, ◌≤◌, ◌<◌, ℤ, List, [], ◌∷◌, length, Bool, true, false, Option, Some, None, Result, Ok, Err, refl, ap, sym, subst, ◌∙◌, arith}
use Rattle.std.specs.Prelude.{if◌then◌else◌, slice_set}
use Rattle.std.proofs.lemmas.List.{length-set}
use Rattle.cp_model.specs.Abstract as a
use Rattle.cp_model.specs.Abstract.{Name, System}
use Rattle.cp_model.specs.Declarations.{Variable, declarations, is_component}
use Rattle.cp_model.specs.Places.{within}
use Rattle.cp_model.specs.Types.{GlobalScope}
use Rattle.cp_model.specs.declared.state.Fault.{Fault}
use Rattle.cp_model.specs.declared.state.Fault.TheVariants as fault
use Rattle.cp_law_typing.specs.Declared.{Distinct}
use Rattle.cp_law_typing.specs.StartValues.{IsIn}
use Rattle.cp_law_typing.specs.Words.{words}
use Rattle.cp_model_program.specs.Layout.{local_words, locals_words, member, right}
use Rattle.cp_model_program.specs.Sites.{Site}
use Rattle.cp_model_program.specs.Starts.{block, paste}
use Rattle.cp_model_program.specs.StatementsFor.{InitArgumentsFor}
use Rattle.cp_model_program.specs.Terms.{Argument, Copy, Reference, Right, Value}
use Rattle.cp_model_program.specs.TermsFor.{ArgumentsFor, Knowns}
use Rattle.cp_model_machine.specs.PrivateStates.{StepContext, PrivateState, view_of}
use Rattle.cp_model_machine.specs.Passing.{Passing, pass_all, pass_one, pass_result, pass_value, pass_word, unless_fault}
use Rattle.cp_model_machine.specs.Values.{place_of, value_of}
use Rattle.cp_model_machine.proofs.Apart.{IsCell}
use Rattle.cp_model_machine.proofs.Copying.{copied_length, copied_outside}
use Rattle.cp_model_machine.proofs.InitOffsets.{Offset, offset_within, right_of}
use Rattle.cp_model_machine.proofs.Passing.{KeptOutside}
use Rattle.cp_model_machine.proofs.Writing.{changed_other}

-- The arguments are passed to the first `n` words.
abbrev pub LieBelow : ℕ → List Argument → Type 0
LieBelow n [] = Unit {0}
LieBelow n (Value at low high e ∷ xs) = (at < n) × LieBelow n xs
LieBelow n (Copy at size from ∷ xs) = (at + size ≤ n) × LieBelow n xs
LieBelow n (Reference at s ∷ xs) = (at < n) × LieBelow n xs
LieBelow n (Right at t ∷ xs) = (at < n) × LieBelow n xs

module _ (w : StepContext) (to home n : ℕ) where
  abbrev Kept : List ℤ → List ℤ → Type 0
  Kept ws us = KeptOutside to (to + n) ws us

  unchanged : (ws : List ℤ) → Kept ws ws
  unchanged ws = (refl, λ i h. refl)

  word_kept : (ws : List ℤ) (at : ℕ) (m : ℤ) → at < n → Kept ws (slice_set ws (to + at) m)
  word_kept ws at m h = (length-set ws (to + at) m, λ i apart. changed_other ws i (to + at) m (λ e. by i e apart))
    where
      by : (i : ℕ) → i ≡ to + at → (i < to) ⊎ (to + n ≤ i) → ⊥
      by i e (inl q) = absurd (omega (arith, e, q))
      by i e (inr q) = absurd (omega (arith, e, q, h))

  result_kept : {A : Type 0} (o : PrivateState) (r : Result A Fault) (go : A → Passing) → ((x : A) → Kept o.words (go x).own.words) → Kept o.words (pass_result o r go).own.words
  result_kept o (Ok x) go h = h x
  result_kept o (Err f) go h = unchanged o.words

  value_kept : (o : PrivateState) (at : ℕ) (low high m : ℤ) → at < n → Kept o.words (pass_value o (to + at) low high m).own.words
  value_kept o at low high m h = by (within low high m)
    where
      by : (b : Bool) → Kept o.words (if b then pass_word o (to + at) m else record { own = o; fault = Some fault.Range }).own.words
      by true = word_kept o.words at m h
      by false = unchanged o.words

  then_kept : (ws : List ℤ) (P : Passing) (go : PrivateState → Passing) → Kept ws P.own.words → Kept P.own.words (go P.own).own.words → Kept ws (unless_fault P go).own.words
  then_kept ws P go first rest = by P.fault
    where
      by : (f : Option Fault) → Kept ws (elim f as (λ z. Passing) [ None ↦ go P.own | Some e ↦ P ]).own.words
      by None = (rest.0 ∙ first.0, λ i h. rest.1 i h ∙ first.1 i h)
      by (Some e) = first

  pub passes_below : (xs : List Argument) (o : PrivateState) → LieBelow n xs → Kept o.words (pass_all w to home xs o).own.words
  passes_below [] o h = unchanged o.words
  passes_below (Value at low high e ∷ xs) o h =
      let P = pass_one w to home o (Value at low high e) in
      then_kept o.words P (pass_all w to home xs) (result_kept o (value_of (view_of w o) e) _ (λ m. value_kept o at low high m h.0)) (passes_below xs P.own h.1)
  passes_below (Copy at size from ∷ xs) o h =
      let P = pass_one w to home o (Copy at size from) in
      then_kept o.words P (pass_all w to home xs) (result_kept o (place_of (view_of w o) from) _ (λ m. copied m)) (passes_below xs P.own h.1)
    where
      by : (i : ℕ) → (i < to) ⊎ (to + n ≤ i) → (i < to + at) ⊎ (to + at + size ≤ i)
      by i (inl q) = inl (omega (arith, q))
      by i (inr q) = inr (omega (arith, q, h.0))

      copied : (m : ℕ) → Kept o.words (paste (to + at) (block o.words m size) o.words)
      copied m = (copied_length o.words o.words (to + at) m size, λ i apart. copied_outside o.words o.words (to + at) m size i (by i apart))
  passes_below (Reference at s ∷ xs) o h =
      let P = pass_one w to home o (Reference at s) in
      then_kept o.words P (pass_all w to home xs) (result_kept o (place_of (view_of w o) s) _ (λ m. word_kept o.words at _ h.0)) (passes_below xs P.own h.1)
  passes_below (Right at t ∷ xs) o h =
      let P = pass_one w to home o (Right at t) in then_kept o.words P (pass_all w to home xs) (word_kept o.words at _ h.0) (passes_below xs P.own h.1)

-- ---- of a call

pub arguments_below : (site : Site) (K : Knowns) (ps : List (Name × Variable)) (es : a.Expressions) (xs : List Argument) (at place next low high n : ℕ) → ArgumentsFor site K ps es xs at place next low high
    → at + locals_words site.env.globals ps ≤ n → LieBelow n xs
arguments_below site K [] a.NoExpression [] at place next low high n h room = tt
arguments_below site K (p ∷ ps) (a.MoreExpressions e es) (Value to lower upper c ∷ xs) at place next low high n h room =
    let one : local_words site.env.globals p.1 ≡ 1 = ap (λ t. if t then 1 else words site.env.globals p.1.type) h.5 ∙ ap (words site.env.globals) h.6 in
    (omega (arith, h.4, room, one), arguments_below site K ps es xs (at + local_words site.env.globals p.1) h.2 next h.3 high n h.10 (omega (arith, room)))
arguments_below site K (p ∷ ps) (a.MoreExpressions (a.Use d) es) (Copy to size from ∷ xs) at place next low high n h room =
    let all : local_words site.env.globals p.1 ≡ size = ap (λ t. if t then 1 else words site.env.globals p.1.type) h.3 ∙ sym h.4 in
    (omega (arith, h.2, room, all), arguments_below site K ps es xs (at + local_words site.env.globals p.1) h.0 next h.1 high n h.11 (omega (arith, room)))
arguments_below site K (p ∷ ps) (a.MoreExpressions (a.Use d) es) (Reference to s ∷ xs) at place next low high n h room =
    let one : local_words site.env.globals p.1 ≡ 1 = ap (λ t. if t then 1 else words site.env.globals p.1.type) h.3 in
    (omega (arith, h.2, room, one), arguments_below site K ps es xs (at + local_words site.env.globals p.1) h.0 next h.1 high n h.8 (omega (arith, room)))
arguments_below site K _ _ _ at place next low high n h room = absurd h

-- ---- of an init

module _ (g : GlobalScope) (site : Site) (K : Knowns) (s : System) (same : site.env.globals ≡ g) (distinct : Distinct (declarations g s.parameters))
    (one : (p : Name × Variable) → IsIn p (declarations g s.parameters) → is_component p.1.type ≡ false → (words g p.1.type ≡ 1) × IsCell p.1.type) where
  pub init_below : (ps : List (Name × Variable)) (es : a.Expressions) (xs : List Argument) (place next low high : ℕ) → InitArgumentsFor site K s ps es xs place next low high
      → ((p : Name × Variable) → IsIn p ps → IsIn p (declarations g s.parameters)) → LieBelow (1 + length (declarations g s.parameters)) xs
  init_below [] a.NoExpression [] place next low high h all = tt
  init_below (p ∷ ps) (a.MoreExpressions e es) (Value to lower upper x ∷ xs) place next low high h all =
      let off : Offset g s p to = inr (ap is_component h.5, ap (λ z. member z s p.0) (sym same) ∙ h.4, subst IsCell (sym h.5) tt) in
      (omega (arith, (offset_within g s distinct one p to (all p (inl refl)) off).1), init_below ps es xs h.2 next h.3 high h.9 (λ q i. all q (inr i)))
  init_below (p ∷ ps) (a.MoreExpressions (a.Use (a.Plain x)) es) (Right to t ∷ xs) place next low high h all =
      let found : right g s p.0 ≡ Some (to, h.2) = ap (λ z. right z s p.0) (sym same) ∙ h.3 in
      let off : Offset g s p to = inl (ap is_component h.4, found ∙ ap (λ z. Some (to, z)) (right_of g s distinct one p to h.2 (all p (inl refl)) found)) in
      (omega (arith, (offset_within g s distinct one p to (all p (inl refl)) off).1), init_below ps es xs place next low high h.8 (λ q i. all q (inr i)))
  init_below _ _ _ place next low high h all = absurd h
