-- The first call of a statement is the operation at its place, and its value leads to the next
-- call. Without a call, the statement's own operation is there.
use Rattle.std.proofs.Common.{ℕ, Option, Some, refl, ap, subst, ◌∙◌, arith}
use Rattle.cp_model.specs.Abstract as a
use Rattle.cp_model.specs.Calls.{first_call, in_context, or_else}
use Rattle.cp_model_program.specs.Programs as op
use Rattle.cp_model_program.specs.Programs.{Operation}
use Rattle.cp_model_program.specs.Sites.{Site, operation_at}
use Rattle.cp_model_program.specs.TermsFor.{Knowns}
use Rattle.cp_model_program.specs.StatementsFor.{AssignsBy, CodeFor, InitsBy, PerformsBy}
use Rattle.cp_model_machine.specs.Remaining.{IsTask}
use Rattle.cp_model_machine.proofs.CallsKept.{term_kept}
use Rattle.cp_model_machine.proofs.NextCalls.{AllMade, Calling, follows_on, next_in, next_left, next_right}
use Rattle.cp_model_machine.proofs.FirstCalls.{learnt_above, learnt_below, moved_to, term_next}
use Rattle.cp_model_machine.proofs.AssignCalls.{StatementAdvances, assigns_next}
use Rattle.cp_model_machine.proofs.PerformCalls.{performs_next}
use Rattle.cp_model_machine.proofs.InitCalls.{inits_next}

-- The place of the statement's own operation.
abbrev pub own_place : (site : Site) (K : Knowns) (s : a.Statement) (place next low : ℕ) → CodeFor site K s place next low → ℕ
own_place site K (a.Assign d e) place next low h = h.0
own_place site K (a.Perform d es) place next low h = h.0
own_place site K (a.If e s t) place next low h = h.0
own_place site K (a.Case e arms) place next low h = h.0
own_place site K (a.For x down e f s) place next low h = h.0
own_place site K (a.Init x es) place next low h = h.0
own_place site K _ place next low h = place

module _ (site : Site) (K : Knowns) where
  abbrev pub NextOfStatement : (s : a.Statement) (at next low : ℕ) → CodeFor site K s at next low → Type 1
  NextOfStatement s at next low h = StatementAdvances site K s at (own_place site K s at next low h) next low

  pub statement_next : (s : a.Statement) (at next low : ℕ) → IsTask s → (h : CodeFor site K s at next low) → NextOfStatement s at next low h
  statement_next (a.Assign d e) at next low t h = assigns_next site K d e h.1 at h.0 next low h.2 h.3
  statement_next (a.Perform d es) at next low t h = performs_next site K d es h.1 at h.0 next low h.2 h.3
  statement_next (a.If e s u) at next low t h =
      elim (term_next site K e h.1 h.2 at h.0 low site.unit.temps h.6) [
        | AllMade m q r ↦ AllMade m (λ v. ap (in_context (λ y. a.If y s u)) (q v)) (λ z. tt)
        | Calling N ↦ Calling (next_in site K (λ y. a.If y s u) _ _ _ at low site.unit.temps low site.unit.temps (omega arith) (omega arith) N
            (λ r. r) (λ L y after k g. ((h.0, h.1, h.2, h.3, h.4, h.5, g, h.7, h.8), tt)))
      ]
  statement_next (a.Case e arms) at next low t h =
      elim (term_next site K e h.1 h.2 at h.0 low site.unit.temps h.5) [
        | AllMade m q r ↦ AllMade m (λ v. ap (in_context (λ y. a.Case y arms)) (q v)) (λ z. tt)
        | Calling N ↦ Calling (next_in site K (λ y. a.Case y arms) _ _ _ at low site.unit.temps low site.unit.temps (omega arith) (omega arith) N
            (λ r. r) (λ L y after k g. ((h.0, h.1, h.2, h.3, h.4, g, h.6), tt)))
      ]
  statement_next (a.For x down e f s) at next low t h =
      elim (term_next site K e h.2 h.4 at h.5 low h.6 h.13) [
        | Calling N ↦ Calling (next_left site K _ (λ v. in_context (λ y. a.For x down e y s) (first_call site.env v f)) _ at low site.unit.temps
            (next_in site K (λ y. a.For x down y f s) _ _ _ at low h.6 low site.unit.temps (omega arith) h.12 N
            (follows_on site K _ _ _ N.temp N.after h.5 h.0 h.6 site.unit.temps N.upper (term_next site K f h.3 h.4 h.5 h.0 h.6 site.unit.temps h.14))
            (λ L y after k g. (
              (
                h.0,
                h.1,
                h.2,
                h.3,
                h.4,
                h.5,
                h.6,
                h.7,
                h.8,
                h.9,
                h.10,
                h.11,
                h.12,
                g,
                term_kept site K L f h.3 h.4 h.5 h.0 h.6 site.unit.temps (learnt_above K L N.ready.low N.temp h.6 site.unit.temps N.upper k) h.14,
                h.15,
              ),
              tt,
            ))))
        | AllMade m q r ↦ elim (term_next site K f h.3 h.4 h.5 h.0 h.6 site.unit.temps h.14) [
          | AllMade m2 q2 r2 ↦ AllMade (m ∙ m2) (λ v i. or_else (in_context (λ y. a.For x down y f s) (q v i)) (in_context (λ y. a.For x down e y s) (q2 v i))) (λ z. tt)
          | Calling N ↦ moved_to site K _ _ _ at h.5 h.0 low site.unit.temps m
              (Calling (next_right site K (λ v. in_context (λ y. a.For x down y f s) (first_call site.env v e)) _ _ h.5 low site.unit.temps
              (λ v. ap (in_context (λ y. a.For x down y f s)) (q v))
              (next_in site K (λ y. a.For x down e y s) _ _ _ h.5 h.6 site.unit.temps low site.unit.temps h.11 (omega arith) N
              (λ r. r) (λ L y after k g. (
                (
                  h.0,
                  h.1,
                  h.2,
                  h.3,
                  h.4,
                  after,
                  h.6,
                  h.7,
                  h.8,
                  h.9,
                  h.10,
                  h.11,
                  h.12,
                  term_kept site K L e h.2 h.4 after after low h.6 (learnt_below K L N.ready.low N.temp low h.6 N.keeps k) (r after),
                  g,
                  h.15,
                ),
                tt,
              )))))
        ]
      ]
  statement_next (a.Init x es) at next low t h = inits_next site K x h.2 es h.1 at h.0 next low h.3 h.4 h.5
  statement_next (a.Cycle s) at next low t h = AllMade refl (λ v. refl) (λ z. tt)
  statement_next a.Nothing at next low t h = absurd t
  statement_next (a.Seq s u) at next low t h = absurd t
  statement_next (a.While e s) at next low t h = absurd t
  statement_next (a.Repeat s e) at next low t h = absurd t

-- ---- a statement's own operation

abbrev pub IsFunction : Option Operation → Type 0
IsFunction (Some (op.Function call into next)) = Unit {0}
IsFunction _ = ⊥

-- The statement's own operation is no call of a function.
pub own_no_function : (site : Site) (K : Knowns) (s : a.Statement) (place next low : ℕ) (h : CodeFor site K s place next low) → IsTask s
    → IsFunction (operation_at site.program (own_place site K s place next low h)) → ⊥
own_no_function site K (a.Assign d e) place next low h t f = assigns d e h.1 h.3 (subst IsFunction h.2 f)
  where
    assigns : (d : a.Designator) (e : a.Expression) (o : Operation) → AssignsBy site K d e o place h.0 next low → IsFunction (Some o) → ⊥
    assigns d e (op.Set to lower upper value n) g f = f
    assigns (a.Plain x) e (op.SetResult lower upper value n) g f = f
    assigns d (a.Use e) (op.CopyWords to from size n) g f = f
    assigns d e _ g f = absurd g
own_no_function site K (a.Perform d es) place next low h t f = performs d es h.1 h.3 (subst IsFunction h.2 f)
  where
    performs : (d : a.Designator) (es : a.Expressions) (o : Operation) → PerformsBy site K d es o place h.0 next low → IsFunction (Some o) → ⊥
    performs d es (op.Procedure call n) g f = f
    performs (a.Plain x) (a.MoreExpressions e a.NoExpression) (op.Display value as_byte n) g f = f
    performs (a.Plain x) (a.MoreExpressions (a.Use d) a.NoExpression) (op.Accept to lower upper n) g f = f
    performs (a.Plain x) (a.MoreExpressions (a.Use d) a.NoExpression) (op.Delay queue n) g f = f
    performs (a.Plain x) (a.MoreExpressions (a.Use d) a.NoExpression) (op.Continue queue function) g f = f
    performs (a.Plain x) a.NoExpression (op.Wait n) g f = f
    performs d es _ g f = absurd g
own_no_function site K (a.If e s u) place next low h t f = subst IsFunction h.5 f
own_no_function site K (a.Case e arms) place next low h t f = subst IsFunction h.4 f
own_no_function site K (a.For x down e g s) place next low h t f = subst IsFunction h.8 f
own_no_function site K (a.Init x es) place next low h t f = inits es h.1 h.5 (subst IsFunction h.3 f)
  where
    inits : (es : a.Expressions) (o : Operation) → InitsBy site K h.2 es o place h.0 next low → IsFunction (Some o) → ⊥
    inits es (op.InitClass call m) g f = f
    inits es (op.InitMonitor call m) g f = f
    inits es (op.InitProcess r xs count m) g f = f
    inits es _ g f = absurd g
own_no_function site K (a.Cycle s) place next low h t f = subst IsFunction h.1 f
own_no_function site K a.Nothing place next low h t f = absurd t
own_no_function site K (a.Seq s u) place next low h t f = absurd t
own_no_function site K (a.While e s) place next low h t f = absurd t
own_no_function site K (a.Repeat s e) place next low h t f = absurd t
