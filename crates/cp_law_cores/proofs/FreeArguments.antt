-- Arguments without values of calls represent the same whatever is known of the temps. A call of a
-- procedure whose arguments are such needs only the temps that it keeps.
use Rattle.std.proofs.Common.{◌≡◌, ℕ, ◌+◌, ℤ, List, [], ◌∷◌, true, Option, Some, length, refl, ap, sym, subst, ◌∙◌, arith}
use Rattle.std.proofs.lemmas.Bool.{true≢false}
use Rattle.cp_model.proofs.Options.{same_some}
use Rattle.cp_model.specs.Abstract as a
use Rattle.cp_model.specs.Abstract.{BaseType, Name}
use Rattle.cp_model.specs.Continuations.{Do, EndBody, EndCall, EndProcess, ForNext, RepeatTest, Task, WhileTest}
use Rattle.cp_model.specs.Declarations as declared
use Rattle.cp_model.specs.Types.{ArrayOf, Queue, RecordOf, ResolvedType, Simple}
use Rattle.cp_model_program.specs.Programs as op
use Rattle.cp_model_program.specs.Programs.{Call, Operation}
use Rattle.cp_model_program.specs.Terms.{Argument, Binary, Copy, Element, Empty, Item, Made, Negative, Not, Number, Realtime, Reference, Rooted, PlaceExpression, Standard, Term, Value}
use Rattle.cp_model_program.specs.Layout.{local_words}
use Rattle.cp_model_program.specs.TermsFor.{move_place_expression}
use Rattle.cp_model_program.specs.Sites.{Site, first_parameter, operation_at, parameters}
use Rattle.cp_model_program.specs.StatementsFor.{AssignsBy, CodeFor, InitsBy, PerformsBy}
use Rattle.cp_model_program.specs.TermsFor.{ArgumentsFor, Knowns, PlaceExpressionFor, TermFor, nothing_known}
use Rattle.cp_model_machine.specs.Addresses.{Ground}
use Rattle.cp_model_machine.specs.Remaining.{IsTask, Remaining, Loop, LoopRemaining, Running, While, Repeat, site}
use Rattle.cp_model_machine.specs.PrivateStates as machine
use Rattle.cp_model_machine.proofs.FirstCalls.{term_next}
use Rattle.cp_model_machine.proofs.RemainingKept.{SameBelow, left_kept}
use Rattle.cp_model_machine.proofs.NextCalls.{AllMade, Calling}
use Rattle.cp_model_machine.proofs.StatementCalls.{own_place, statement_next}
use Rattle.cp_law_cores.specs.Wiping.{arguments_are_free, place_expression_is_free, term_is_free}
use Rattle.cp_law_cores.proofs.Timeless.{both}

moved_free : (n : ℕ) (s : PlaceExpression) → place_expression_is_free (move_place_expression n s) ≡ place_expression_is_free s
moved_free n (Rooted r) = refl
moved_free n (Element s low high size plus e) = refl

module _ (site : Site) (K L : Knowns) where
  mutual
    term_freed : (e : a.Expression) (c : Term) (b : BaseType) (at next low high : ℕ) → term_is_free c ≡ true
        → TermFor site K e c b at next low high → TermFor site L e c b at next low high
    term_freed (a.Literal n) (Number m) b at next low high k h = h
    term_freed (a.Letter n) (Number m) b at next low high k h = h
    term_freed (a.Known base n) (Number m) b at next low high k h = h
    term_freed (a.Known base n) (Made t) b at next low high k h = absurd (true≢false (sym k))
    term_freed (a.Use d) (Made t) b at next low high k h = absurd (true≢false (sym k))
    term_freed (a.Use d) (Item s) b at next low high k h =
        (h.0, h.1, h.2, h.3, h.4, place_expression_freed d s (Simple b h.0 h.1 h.2) at next low high k h.5)
    term_freed (a.Use (a.Plain x)) (Number n) b at next low high k h = h
    term_freed (a.Use (a.Plain x)) Realtime b at next low high k h = h
    term_freed (a.Call d es) (Made t) b at next low high k h = absurd (true≢false (sym k))
    term_freed (a.Call (a.Plain x) (a.MoreExpressions e a.NoExpression)) (Standard f c) b at next low high k h =
        (h.0, h.1, h.2, term_freed e c h.0 at next low high k h.3)
    term_freed (a.Call (a.Plain x) (a.MoreExpressions (a.Use d) a.NoExpression)) (Empty s) b at next low high k h =
        (h.0, h.1, h.2, h.3, h.4, place_expression_freed d s Queue at next low high k h.5)
    term_freed (a.Not e) (Not c) b at next low high k h = (h.0, h.1, term_freed e c h.0 at next low high k h.2)
    term_freed (a.Negative e) (Negative c) b at next low high k h = (h.0, h.1, term_freed e c h.0 at next low high k h.2)
    term_freed (a.Positive e) c b at next low high k h = term_freed e c b at next low high k h
    term_freed (a.Binary o e f) (Binary p c d) b at next low high k h =
        let each = both (term_is_free c) (term_is_free d) k in (
          h.0,
          h.1,
          h.2,
          h.3,
          h.4,
          h.5,
          h.6,
          h.7,
          term_freed e c h.0 at h.2 low h.3 each.0 h.8,
          term_freed f d h.1 h.2 next h.3 high each.1 h.9,
        )
    term_freed _ _ b at next low high k h = absurd h

    place_expression_freed : (d : a.Designator) (s : PlaceExpression) (t : ResolvedType) (at next low high : ℕ) → place_expression_is_free s ≡ true
        → PlaceExpressionFor site K d s t at next low high → PlaceExpressionFor site L d s t at next low high
    place_expression_freed (a.Plain x) (Rooted r) t at next low high k h = h
    place_expression_freed (a.Part d x) s t at next low high k h =
        (h.0, h.1, h.2, h.3, h.4, place_expression_freed d h.2 (RecordOf h.0) at next low high (sym (moved_free h.1 h.2) ∙ (ap place_expression_is_free (sym h.4) ∙ k)) h.5)
    place_expression_freed (a.At d e) (Element of lower upper words plus i) t at next low high k h =
        let each = both (place_expression_is_free of) (term_is_free i) k in (
          h.0,
          h.1,
          h.2,
          h.3,
          h.4,
          h.5,
          h.6,
          place_expression_freed d of (ArrayOf lower upper t) at h.1 low h.2 each.0 h.7,
          term_freed e i h.0 h.1 next h.2 high each.1 h.8,
        )
    place_expression_freed _ _ t at next low high k h = absurd h

  arguments_freed : (ps : List (Name × declared.Variable)) (es : a.Expressions) (xs : List Argument) (to at next low high : ℕ) → arguments_are_free xs ≡ true
      → ArgumentsFor site K ps es xs to at next low high → ArgumentsFor site L ps es xs to at next low high
  arguments_freed [] a.NoExpression [] to at next low high k h = h
  arguments_freed (p ∷ ps) (a.MoreExpressions e es) (Value place lower upper c ∷ xs) to at next low high k h =
      let each = both (term_is_free c) (arguments_are_free xs) k in (
        h.0,
        h.1,
        h.2,
        h.3,
        h.4,
        h.5,
        h.6,
        h.7,
        h.8,
        term_freed e c h.0 at h.2 low h.3 each.0 h.9,
        arguments_freed ps es xs (to + local_words site.env.globals p.1) h.2 next h.3 high each.1 h.10,
      )
  arguments_freed (p ∷ ps) (a.MoreExpressions (a.Use d) es) (Copy place words from ∷ xs) to at next low high k h =
      let each = both (place_expression_is_free from) (arguments_are_free xs) k in (
        h.0,
        h.1,
        h.2,
        h.3,
        h.4,
        h.5,
        h.6,
        h.7,
        h.8,
        h.9,
        place_expression_freed d from p.1.type at h.0 low h.1 each.0 h.10,
        arguments_freed ps es xs (to + local_words site.env.globals p.1) h.0 next h.1 high each.1 h.11,
      )
  arguments_freed (p ∷ ps) (a.MoreExpressions (a.Use d) es) (Reference place s ∷ xs) to at next low high k h =
      let each = both (place_expression_is_free s) (arguments_are_free xs) k in (
        h.0,
        h.1,
        h.2,
        h.3,
        h.4,
        h.5,
        h.6,
        place_expression_freed d s p.1.type at h.0 low h.1 each.0 h.7,
        arguments_freed ps es xs (to + local_words site.env.globals p.1) h.0 next h.1 high each.1 h.8,
      )
  arguments_freed _ _ _ to at next low high k h = absurd h

-- ---- Which operation is there

abbrev IsProcedure : Option Operation → Type 0
IsProcedure (Some (op.Procedure call next)) = Unit {0}
IsProcedure _ = ⊥

module _ (site : Site) (K L : Knowns) (call : Call) (n place : ℕ) (there : operation_at site.program place ≡ Some (op.Procedure call n)) (free : arguments_are_free call.arguments ≡ true) where
  is_function : (c : Call) (into m : ℕ) → operation_at site.program place ≡ Some (op.Function c into m) → ⊥
  is_function c into m e = subst IsProcedure (sym there ∙ e) tt

  none : (x : Operation) → operation_at site.program place ≡ Some x → (IsProcedure (Some x) → ⊥) → ⊥
  none x e other = other (subst IsProcedure (sym there ∙ e) tt)

  own_code : (s : a.Statement) (next low : ℕ) → IsTask s → (h : CodeFor site K s place next low) → place ≡ own_place site K s place next low h
      → CodeFor site L s place next low × (call.temps ≡ low)
  own_code (a.Perform d es) next low t h m =
      let represents = ap (operation_at site.program) (sym m) ∙ there in
      let same : h.1 ≡ op.Procedure call n = same_some h.1 (op.Procedure call n) (sym h.2 ∙ represents) in
      let P = subst (λ o. PerformsBy site K d es o place h.0 next low) same h.3 in (
        (
          h.0,
          op.Procedure call n,
          represents,
          (P.0, P.1, P.2, P.3, P.4, P.5, arguments_freed site K L (parameters site P.0) es call.arguments (first_parameter P.0) place h.0 low P.1 free P.6),
        ),
        P.2.runs.temps,
      )
  own_code (a.Assign d e) next low t h m = absurd (none h.1 (ap (operation_at site.program) m ∙ h.2) (assigns d e h.1 h.3))
    where
      assigns : (d : a.Designator) (e : a.Expression) (o : Operation) → AssignsBy site K d e o place h.0 next low → IsProcedure (Some o) → ⊥
      assigns d e (op.Set to lower upper value k) g f = f
      assigns (a.Plain x) e (op.SetResult lower upper value k) g f = f
      assigns d (a.Use e) (op.CopyWords to from size k) g f = f
      assigns d e _ g f = absurd g
  own_code (a.If e s u) next low t h m = absurd (none (op.Test h.1 h.3 h.4) (ap (operation_at site.program) m ∙ h.5) (λ f. f))
  own_code (a.Case e arms) next low t h m = absurd (none (op.Case h.1 h.3) (ap (operation_at site.program) m ∙ h.4) (λ f. f))
  own_code (a.For x down e g s) next low t h m = absurd (none (op.For h.1 h.2 h.3) (ap (operation_at site.program) m ∙ h.8) (λ f. f))
  own_code (a.Init x es) next low t h m = absurd (none h.1 (ap (operation_at site.program) m ∙ h.3) (inits es h.1 h.5))
    where
      inits : (es : a.Expressions) (o : Operation) → InitsBy site K h.2 es o place h.0 next low → IsProcedure (Some o) → ⊥
      inits es (op.InitClass c k) g f = f
      inits es (op.InitMonitor c k) g f = f
      inits es (op.InitProcess r xs count k) g f = f
      inits es _ g f = absurd g
  own_code (a.Cycle s) next low t h m = absurd (none (op.Cycle h.0) h.1 (λ f. f))
  own_code a.Nothing next low t h m = absurd t
  own_code (a.Seq s u) next low t h m = absurd t
  own_code (a.While e s) next low t h m = absurd t
  own_code (a.Repeat s e) next low t h m = absurd t

  -- The code of a statement whose operation is there.
  code_freed : (s : a.Statement) (next low : ℕ) → IsTask s → CodeFor site K s place next low → CodeFor site L s place next low × (call.temps ≡ low)
  code_freed s next low t h = elim (statement_next site K s place next low t h) [
    | Calling N ↦ absurd (is_function N.ready.call N.temp N.after N.ready.op)
    | AllMade m q r ↦ own_code s next low t h m
  ]

-- ---- What is left to do

module _ (G : Ground) (ts us : List ℤ) (limit : ℕ) (same_length : length ts ≡ length us) (call : Call) (n : ℕ) (free : arguments_are_free call.arguments ≡ true) where
  loop_none : (loop : Loop) (s : Site) (K : Knowns) (now e : a.Expression) (body : a.Statement) (place next low : ℕ)
      → operation_at s.program place ≡ Some (op.Procedure call n) → LoopRemaining loop s K now e body place next low → ⊥
  loop_none loop s K now e body place next low there W = elim (term_next s K now W.term W.base place W.last low s.unit.temps W.rest) [
    | Calling N ↦ subst IsProcedure (sym there ∙ N.ready.op) tt
    | AllMade m q r ↦ subst IsProcedure (sym there ∙ (ap (operation_at s.program) m ∙ W.test)) tt
  ]

  -- It doesn't depend on temps that the call doesn't keep.
  pub left_freed : (K L : Knowns) (R : Running) (fs : List machine.Frame) (place low : ℕ) (k : List Task) → operation_at G.program place ≡ Some (op.Procedure call n)
      → SameBelow (R.temp + call.temps) ts us → Remaining G ts limit K R fs place low k → Remaining G us limit L R fs place low k
  left_freed K L R fs place low [] there same h = absurd h
  left_freed K L R fs place low (Do s e ∷ k) there same h =
      let c = code_freed (site G R) K L call n place there free s h.2.0 h.2.1 h.1 h.2.3 in
      let kept = c.1 in (
        h.0,
        h.1,
        (
          h.2.0,
          h.2.1,
          h.2.2,
          c.0,
          left_kept G ts us limit same_length nothing_known nothing_known R fs h.2.0 h.2.1 k (λ x m z. z) (λ i q. same i (omega (arith, q, kept))) h.2.4,
        ),
      )
  left_freed K L R fs place low (WhileTest now e s env ∷ k) there same h =
      absurd (loop_none While (site G R) K now e s place h.1.0 h.1.1 there h.1.3)
  left_freed K L R fs place low (RepeatTest now s e env ∷ k) there same h =
      absurd (loop_none Repeat (site G R) K now e s place h.1.0 h.1.1 there h.1.3)
  left_freed K L R fs place low (ForNext x down m last s env ∷ k) there same h =
      absurd (subst IsProcedure (sym there ∙ h.1.3.test) tt)
  left_freed K L R (f ∷ fs) place low (EndCall env gate ∷ k) there same h = absurd (subst IsProcedure (sym there ∙ h.1.return) tt)
  left_freed K L R (f ∷ fs) place low (EndBody gate ∷ k) there same h = absurd (subst IsProcedure (sym there ∙ h.1) tt)
  left_freed K L R fs place low (EndProcess ∷ k) there same h = absurd (subst IsProcedure (sym there ∙ h.3) tt)
  left_freed K L R [] place low (EndCall env gate ∷ k) there same h = absurd h
  left_freed K L R [] place low (EndBody gate ∷ k) there same h = absurd h
