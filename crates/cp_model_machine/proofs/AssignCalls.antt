-- The first call of an assignment, and what is left to do once its value is known.
use Rattle.std.proofs.Common.{◌≡◌, ℕ, None, refl, ap, sym, subst, ◌∙◌, arith}
use Rattle.cp_model.specs.Abstract as a
use Rattle.cp_model.specs.Calls.{call_in_designator, call_in_statement, callee, first_call, in_context, or_else, user_call}
use Rattle.cp_model.specs.Types.{ResolvedType, Simple}
use Rattle.cp_model_program.specs.Terms.{PlaceExpression}
use Rattle.cp_model_program.specs.Programs as op
use Rattle.cp_model_program.specs.Programs.{Operation}
use Rattle.cp_model_program.specs.Sites.{Site}
use Rattle.cp_model_program.specs.TermsFor.{Knowns, PlaceExpressionFor}
use Rattle.cp_model_program.specs.StatementsFor.{AssignsBy, CodeFor, represents_at}
use Rattle.cp_model_machine.specs.Remaining.{IsTask}
use Rattle.cp_model_machine.proofs.Finding.{user_call_none}
use Rattle.cp_model_machine.proofs.CallsKept.{place_expression_kept, term_kept}
use Rattle.cp_model_machine.proofs.Indexed.{IsIndexed, indexed_is_no_call, indexed_is_no_clock}
use Rattle.cp_model_machine.proofs.NextCalls.{Advance, AllMade, Calling, follows_on, next_in, next_left, next_right}
use Rattle.cp_model_machine.proofs.FirstCalls.{learnt_above, learnt_below, moved_to, place_expression_next, term_next}

module _ (site : Site) (K : Knowns) where
  abbrev pub StatementAdvances : a.Statement → ℕ → ℕ → ℕ → ℕ → Type 1
  StatementAdvances s at last next low =
      Advance site K (λ v. call_in_statement site.env v s) (λ L x after. CodeFor site L x after next low × IsTask x) (λ z. Unit {0}) at last low site.unit.temps

  -- A lone designator that is used as a value.
  abbrev pub UsedAdvances : a.Designator → PlaceExpression → ResolvedType → ℕ → ℕ → ℕ → ℕ → Type 1
  UsedAdvances d s t at next low high =
      Advance site K (λ v. first_call site.env v (a.Use d))
      (λ L x after. (z : a.Designator) × (x ≡ a.Use z) × PlaceExpressionFor site L z s t after next low high × IsIndexed z) (λ z. PlaceExpressionFor site K d s t z z low high) at next low high

  pub used_next : (d : a.Designator) (s : PlaceExpression) (t : ResolvedType) (at next low high : ℕ) → callee site.env d ≡ None → PlaceExpressionFor site K d s t at next low high
      → UsedAdvances d s t at next low high
  used_next d s t at next low high none h = elim (place_expression_next site K d s t at next low high h) [
    | Calling N ↦ Calling (next_left site K _ (λ v. user_call site.env d a.NoExpression v) _ at low high
        (next_in site K a.Use _ _ _ at low high low high (omega arith) (omega arith) N (λ r. r) (λ L y after k g. (y, refl, g.0, g.1))))
    | AllMade m q r ↦ AllMade m
        (λ v. ap (λ z. or_else (in_context a.Use z) (user_call site.env d a.NoExpression v)) (q v) ∙ user_call_none site.env d a.NoExpression v none) r
  ]

  pub assigns_next : (d : a.Designator) (e : a.Expression) (o : Operation) (at last next low : ℕ) → represents_at site last o → AssignsBy site K d e o at last next low
      → StatementAdvances (a.Assign d e) at last next low
  assigns_next d e (op.Set to lower upper value n) at last next low there h =
      elim (place_expression_next site K d to (Simple h.0 lower upper h.2) at h.3 low h.4 h.8) [
        | Calling N ↦ Calling (next_left site K _ (λ v. in_context (a.Assign d) (first_call site.env v e)) _ at low site.unit.temps
            (next_in site K (λ y. a.Assign y e) _ _ _ at low h.4 low site.unit.temps (omega arith) h.7 N
            (follows_on site K _ _ _ N.temp N.after h.3 last h.4 site.unit.temps N.upper (term_next site K e value h.1 h.3 last h.4 site.unit.temps h.9))
            (λ L y after k g. (
              (
                last,
                op.Set to lower upper value n,
                there,
                (
                  h.0,
                  h.1,
                  h.2,
                  h.3,
                  h.4,
                  h.5,
                  h.6,
                  h.7,
                  g.0,
                  term_kept site K L e value h.1 h.3 last h.4 site.unit.temps (learnt_above K L N.ready.low N.temp h.4 site.unit.temps N.upper k) h.9,
                ),
              ),
              tt,
            ))))
        | AllMade m q r ↦ elim (term_next site K e value h.1 h.3 last h.4 site.unit.temps h.9) [
          | AllMade m2 q2 r2 ↦ AllMade (m ∙ m2) (λ v i. or_else (in_context (λ y. a.Assign y e) (q v i)) (in_context (a.Assign d) (q2 v i))) (λ z. tt)
          | Calling N ↦ moved_to site K _ _ _ at h.3 last low site.unit.temps m
              (Calling (next_right site K (λ v. in_context (λ y. a.Assign y e) (call_in_designator site.env v d)) _ _ h.3 low site.unit.temps
              (λ v. ap (in_context (λ y. a.Assign y e)) (q v))
              (next_in site K (a.Assign d) _ _ _ h.3 h.4 site.unit.temps low site.unit.temps h.6 (omega arith) N
              (λ r. r) (λ L y after k g. (
                (
                  last,
                  op.Set to lower upper value n,
                  there,
                  (
                    h.0,
                    h.1,
                    h.2,
                    after,
                    h.4,
                    h.5,
                    h.6,
                    h.7,
                    place_expression_kept site K L d to (Simple h.0 lower upper h.2) after after low h.4 (learnt_below K L N.ready.low N.temp low h.4 N.keeps k) (r after),
                    g,
                  ),
                ),
                tt,
              )))))
        ]
      ]
  assigns_next (a.Plain x) e (op.SetResult lower upper value n) at last next low there h =
      elim (term_next site K e value h.0 at last low site.unit.temps h.3) [
        | Calling N ↦ Calling (next_in site K (a.Assign (a.Plain x)) _ _ _ at low site.unit.temps low site.unit.temps (omega arith) (omega arith) N
            (λ r. r) (λ L y after k g. ((last, op.SetResult lower upper value n, there, (h.0, h.1, h.2, g)), tt)))
        | AllMade m q r ↦ AllMade m (λ v. ap (in_context (a.Assign (a.Plain x))) (q v)) (λ z. tt)
      ]
  assigns_next d (a.Use e) (op.CopyWords to from size n) at last next low there h =
      elim (place_expression_next site K d to h.0 at h.1 low h.2 h.10) [
        | Calling N ↦ Calling (next_left site K _ (λ v. in_context (a.Assign d) (first_call site.env v (a.Use e))) _ at low site.unit.temps
            (next_in site K (λ y. a.Assign y (a.Use e)) _ _ _ at low h.2 low site.unit.temps (omega arith) h.5 N
            (follows_on site K _ _ _ N.temp N.after h.1 last h.2 site.unit.temps N.upper (used_next e from h.0 h.1 last h.2 site.unit.temps h.8 h.11))
            (λ L y after k g. (
              (
                last,
                op.CopyWords to from size n,
                there,
                (
                  h.0,
                  h.1,
                  h.2,
                  h.3,
                  h.4,
                  h.5,
                  h.6,
                  h.7,
                  h.8,
                  h.9,
                  g.0,
                  place_expression_kept site K L e from h.0 h.1 last h.2 site.unit.temps (learnt_above K L N.ready.low N.temp h.2 site.unit.temps N.upper k) h.11,
                ),
              ),
              tt,
            ))))
        | AllMade m q r ↦ elim (used_next e from h.0 h.1 last h.2 site.unit.temps h.8 h.11) [
          | AllMade m2 q2 r2 ↦ AllMade (m ∙ m2) (λ v i. or_else (in_context (λ y. a.Assign y (a.Use e)) (q v i)) (in_context (a.Assign d) (q2 v i))) (λ z. tt)
          | Calling N ↦ moved_to site K _ _ _ at h.1 last low site.unit.temps m
              (Calling (next_right site K (λ v. in_context (λ y. a.Assign y (a.Use e)) (call_in_designator site.env v d)) _ _ h.1 low site.unit.temps
              (λ v. ap (in_context (λ y. a.Assign y (a.Use e))) (q v))
              (next_in site K (a.Assign d) _ (λ L y after. (z : a.Designator) × (y ≡ a.Use z) × PlaceExpressionFor site L z from h.0 after last h.2 site.unit.temps × IsIndexed z) _ h.1 h.2 site.unit.temps low site.unit.temps h.4 (omega arith) N
              (λ r. r) (λ L y after k g. subst (λ z. CodeFor site L (a.Assign d z) after next low × Unit {0}) (sym g.1) (
                (
                  last,
                  op.CopyWords to from size n,
                  there,
                  (
                    h.0,
                    after,
                    h.2,
                    h.3,
                    h.4,
                    h.5,
                    h.6,
                    h.7,
                    indexed_is_no_call site.env g.0 g.3,
                    indexed_is_no_clock g.0 g.3,
                    place_expression_kept site K L d to h.0 after after low h.2 (learnt_below K L N.ready.low N.temp low h.2 N.keeps k) (r after),
                    g.2,
                  ),
                ),
                tt,
              )))))
        ]
      ]
  assigns_next d e _ at last next low there h = absurd h
