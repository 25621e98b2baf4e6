-- The first call of a procedure statement, and what is left to do once its value is known.
use Rattle.std.proofs.Common.{◌≡◌, ℕ, None, refl, ap, sym, subst, arith}
use Rattle.cp_model.specs.Abstract as a
use Rattle.cp_model.specs.Abstract.{Char, Name}
use Rattle.cp_model.specs.Calls.{first_call, in_context, or_else}
use Rattle.cp_model.specs.Types.{Queue, ResolvedType, Simple}
use Rattle.cp_model_program.specs.Terms.{PlaceExpression}
use Rattle.cp_model_program.specs.Programs as op
use Rattle.cp_model_program.specs.Programs.{Operation}
use Rattle.cp_model_program.specs.Sites.{Site, first_parameter, parameters}
use Rattle.cp_model_program.specs.TermsFor.{Knowns, PlaceExpressionFor}
use Rattle.cp_model_program.specs.StatementsFor.{CodeFor, PerformsBy, represents_at}
use Rattle.cp_model_machine.proofs.Indexed.{IsIndexed, indexed_is_no_call}
use Rattle.cp_model_machine.proofs.NextCalls.{Advance, AllMade, Calling, next_in, next_left}
use Rattle.cp_model_machine.proofs.FirstCalls.{arguments_next, term_next}
use Rattle.cp_model_machine.proofs.AssignCalls.{StatementAdvances, used_next}

module _ (site : Site) (K : Knowns) where
  one_argument : (x : Name) (e : a.Expression) (at last next low : ℕ) (For : Knowns → a.Expression → ℕ → Type 0) (Still : ℕ → Type 0)
      → Advance site K (λ v. first_call site.env v e) For Still at last low site.unit.temps
      → ((L : Knowns) (y : a.Expression) (after : ℕ) → For L y after → CodeFor site L (a.Perform (a.Plain x) (a.MoreExpressions y a.NoExpression)) after next low)
      → StatementAdvances site K (a.Perform (a.Plain x) (a.MoreExpressions e a.NoExpression)) at last next low
  one_argument x e at last next low For Still (Calling N) go =
      Calling (next_in site K (a.Perform (a.Plain x)) _ (λ L y after. (z : a.Expression) × (y ≡ a.MoreExpressions z a.NoExpression) × For L z after) _
      at low site.unit.temps low site.unit.temps (omega arith) (omega arith)
      (next_left site K _ (λ v. None) _ at low site.unit.temps
      (next_in site K (λ y. a.MoreExpressions y a.NoExpression) _ For _ at low site.unit.temps low site.unit.temps (omega arith) (omega arith) N
      (λ r. r) (λ L y after k g. (y, refl, g))))
      (λ r. r) (λ L y after k g. (subst (λ z. CodeFor site L (a.Perform (a.Plain x) z) after next low) (sym g.1) (go L g.0 after g.2), tt)))
  one_argument x e at last next low For Still (AllMade m q r) go =
      AllMade m (λ v. ap (λ z. in_context (a.Perform (a.Plain x)) (or_else (in_context (λ y. a.MoreExpressions y a.NoExpression) z) None)) (q v)) (λ z. tt)

  -- The one argument of a standard procedure is a lone designator.
  one_used : (x : Name) (d : a.Designator) (s : PlaceExpression) (t : ResolvedType) (at last next low : ℕ)
      → Rattle.cp_model.specs.Calls.callee site.env d ≡ None → PlaceExpressionFor site K d s t at last low site.unit.temps
      → ((L : Knowns) (z : a.Designator) (after : ℕ) → PlaceExpressionFor site L z s t after last low site.unit.temps → Rattle.cp_model.specs.Calls.callee site.env z ≡ None
      → CodeFor site L (a.Perform (a.Plain x) (a.MoreExpressions (a.Use z) a.NoExpression)) after next low)
      → StatementAdvances site K (a.Perform (a.Plain x) (a.MoreExpressions (a.Use d) a.NoExpression)) at last next low
  one_used x d s t at last next low none h go =
      one_argument x (a.Use d) at last next low
      (λ L y after. (z : a.Designator) × (y ≡ a.Use z) × PlaceExpressionFor site L z s t after last low site.unit.temps × IsIndexed z) _
      (used_next site K d s t at last low site.unit.temps none h)
      (λ L y after g. subst (λ z. CodeFor site L (a.Perform (a.Plain x) (a.MoreExpressions z a.NoExpression)) after next low) (sym g.1)
      (go L g.0 after g.2 (indexed_is_no_call site.env g.0 g.3)))

  pub performs_next : (d : a.Designator) (es : a.Expressions) (o : Operation) (at last next low : ℕ) → represents_at site last o → PerformsBy site K d es o at last next low
      → StatementAdvances site K (a.Perform d es) at last next low
  performs_next d es (op.Procedure call n) at last next low there h =
      elim (arguments_next site K (parameters site h.0) es call.arguments (first_parameter h.0) at last low h.1 h.6) [
        | Calling N ↦ Calling (next_in site K (a.Perform d) _ _ _ at low h.1 low site.unit.temps (omega arith) h.5 N
            (λ r. r) (λ L y after k g. ((last, op.Procedure call n, there, (h.0, h.1, h.2, h.3, h.4, h.5, g)), tt)))
        | AllMade m q r ↦ AllMade m (λ v. ap (in_context (a.Perform d)) (q v)) (λ z. tt)
      ]
  performs_next (a.Plain x) (a.MoreExpressions e a.NoExpression) (op.Display value as_byte n) at last next low there h =
      one_argument x e at last next low _ _ (term_next site K e value h.0 at last low site.unit.temps h.4)
      (λ L y after g. (last, op.Display value as_byte n, there, (h.0, h.1, h.2, h.3, g)))
  performs_next (a.Plain x) (a.MoreExpressions (a.Use d) a.NoExpression) (op.Accept to lower upper n) at last next low there h =
      one_used x d to (Simple Char lower upper h.0) at last next low h.3 h.4
      (λ L z after g none. (last, op.Accept to lower upper n, there, (h.0, h.1, h.2, none, g)))
  performs_next (a.Plain x) (a.MoreExpressions (a.Use d) a.NoExpression) (op.Delay queue n) at last next low there h =
      one_used x d queue Queue at last next low h.2 h.3
      (λ L z after g none. (last, op.Delay queue n, there, (h.0, h.1, none, g)))
  performs_next (a.Plain x) (a.MoreExpressions (a.Use d) a.NoExpression) (op.Continue queue function) at last next low there h =
      one_used x d queue Queue at last next low h.1 h.2
      (λ L z after g none. (last, op.Continue queue function, there, (h.0, none, g, h.3)))
  performs_next (a.Plain x) a.NoExpression (op.Wait n) at last next low there h = AllMade h.2 (λ v. refl) (λ z. tt)
  performs_next d es _ at last next low there h = absurd h
