-- The first call of an `init`, and what is left to do once its value is known.
use Rattle.std.proofs.Common.{◌≡◌, ℕ, List, [], ◌∷◌, Some, refl, ap, ◌∙◌, arith}
use Rattle.cp_model.specs.Abstract as a
use Rattle.cp_model.specs.Abstract.{Name, System}
use Rattle.cp_model.specs.Calls.{call_in_arguments, first_call, in_context, or_else, user_call}
use Rattle.cp_model.specs.Components.{Component, component_named}
use Rattle.cp_model.specs.Declarations as declared
use Rattle.cp_model_program.specs.Terms.{Argument, Right, Value}
use Rattle.cp_model_program.specs.Programs as op
use Rattle.cp_model_program.specs.Programs.{Operation}
use Rattle.cp_model_program.specs.Sites.{Site}
use Rattle.cp_model_program.specs.TermsFor.{Knowns}
use Rattle.cp_model_program.specs.StatementsFor.{CodeFor, InitArgumentsFor, InitsBy, PassesBy, represents_at}
use Rattle.cp_model_machine.proofs.Finding.{user_call_none}
use Rattle.cp_model_machine.proofs.CallsKept.{term_kept}
use Rattle.cp_model_machine.proofs.CodeKept.{init_kept}
use Rattle.cp_model_machine.proofs.NextCalls.{Advance, AllMade, Calling, follows_on, next_in, next_left, next_right}
use Rattle.cp_model_machine.proofs.FirstCalls.{learnt_above, learnt_below, moved_to, term_next}
use Rattle.cp_model_machine.proofs.AssignCalls.{StatementAdvances}

module _ (site : Site) (K : Knowns) where
  abbrev InitAdvances : System → List (Name × declared.Variable) → a.Expressions → List Argument → ℕ → ℕ → ℕ → ℕ → Type 1
  InitAdvances s ps es xs at next low high =
      Advance site K (λ v. call_in_arguments site.env v es) (λ L y after. InitArgumentsFor site L s ps y xs after next low high) (λ z. Unit {0}) at next low high

  arguments_next : (s : System) (ps : List (Name × declared.Variable)) (es : a.Expressions) (xs : List Argument) (at next low high : ℕ)
      → InitArgumentsFor site K s ps es xs at next low high → InitAdvances s ps es xs at next low high
  arguments_next s [] a.NoExpression [] at next low high h = AllMade h (λ v. refl) (λ z. tt)
  arguments_next s (p ∷ ps) (a.MoreExpressions e es) (Value to lower upper c ∷ xs) at next low high h =
      elim (term_next site K e c h.0 at h.2 low h.3 h.8) [
        | Calling N ↦ Calling (next_left site K _ (λ v. in_context (a.MoreExpressions e) (call_in_arguments site.env v es)) _ at low high
            (next_in site K (λ y. a.MoreExpressions y es) _ _ _ at low h.3 low high (omega arith) h.7 N
            (follows_on site K _ _ _ N.temp N.after h.2 next h.3 high N.upper (arguments_next s ps es xs h.2 next h.3 high h.9))
            (λ L y after k g. (
              h.0,
              h.1,
              h.2,
              h.3,
              h.4,
              h.5,
              h.6,
              h.7,
              g,
              init_kept site K L s ps es xs h.2 next h.3 high (learnt_above K L N.ready.low N.temp h.3 high N.upper k) h.9,
            ))))
        | AllMade m q r ↦ elim (arguments_next s ps es xs h.2 next h.3 high h.9) [
          | AllMade m2 q2 r2 ↦ AllMade (m ∙ m2) (λ v i. or_else (in_context (λ y. a.MoreExpressions y es) (q v i)) (in_context (a.MoreExpressions e) (q2 v i))) (λ z. tt)
          | Calling N ↦ moved_to site K _ _ _ at h.2 next low high m (Calling (next_right site K (λ v. in_context (λ y. a.MoreExpressions y es) (first_call site.env v e)) _ _ h.2 low high
              (λ v. ap (in_context (λ y. a.MoreExpressions y es)) (q v))
              (next_in site K (a.MoreExpressions e) _ _ _ h.2 h.3 high low high h.6 (omega arith) N
              (λ r. r) (λ L y after k g. (
                h.0,
                h.1,
                after,
                h.3,
                h.4,
                h.5,
                h.6,
                h.7,
                term_kept site K L e c h.0 after after low h.3 (learnt_below K L N.ready.low N.temp low h.3 N.keeps k) (r after),
                g,
              )))))
        ]
      ]
  arguments_next s (p ∷ ps) (a.MoreExpressions (a.Use (a.Plain x)) es) (Right to t ∷ xs) at next low high h =
      elim (arguments_next s ps es xs at next low high h.8) [
        | AllMade m q r ↦ AllMade m
            (λ v. ap (λ z. or_else (in_context (λ y. a.MoreExpressions y es) z) (in_context (a.MoreExpressions (a.Use (a.Plain x))) (call_in_arguments site.env v es)))
            (user_call_none site.env (a.Plain x) a.NoExpression v h.7)
            ∙ ap (in_context (a.MoreExpressions (a.Use (a.Plain x)))) (q v)) (λ z. tt)
        | Calling N ↦ Calling (next_right site K (λ v. in_context (λ y. a.MoreExpressions y es) (user_call site.env (a.Plain x) a.NoExpression v)) _ _ at low high
            (λ v. ap (in_context (λ y. a.MoreExpressions y es)) (user_call_none site.env (a.Plain x) a.NoExpression v h.7))
            (next_in site K (a.MoreExpressions (a.Use (a.Plain x))) _ _ _ at low high low high (omega arith) (omega arith) N
            (λ r. r) (λ L y after k g. (h.0, h.1, h.2, h.3, h.4, h.5, h.6, h.7, g))))
      ]
  arguments_next s _ _ _ at next low high h = absurd h

  inits_by : (x : Name) (n : Component) (es : a.Expressions) (xs : List Argument) (at last next low : ℕ) → PassesBy site K n es xs at last low
      → ((L : Knowns) (y : a.Expressions) (after : ℕ) → PassesBy site L n y xs after last low → CodeFor site L (a.Init x y) after next low)
      → StatementAdvances site K (a.Init x es) at last next low
  inits_by x n es xs at last next low h go =
      elim (arguments_next n.system (declared.declarations site.env.globals n.system.parameters) es xs at last low site.unit.temps h) [
        | AllMade m q r ↦ AllMade m (λ v. ap (in_context (a.Init x)) (q v)) (λ z. tt)
        | Calling N ↦ Calling (next_in site K (a.Init x) _ _ _ at low site.unit.temps low site.unit.temps (omega arith) (omega arith) N
            (λ r. r) (λ L y after k g. (go L y after g, tt)))
      ]

  pub inits_next : (x : Name) (n : Component) (es : a.Expressions) (o : Operation) (at last next low : ℕ) → represents_at site last o → component_named site.env x ≡ Some n
      → InitsBy site K n es o at last next low → StatementAdvances site K (a.Init x es) at last next low
  inits_next x n es (op.InitClass call m) at last next low there named h =
      inits_by x n es call.arguments at last next low h.3 (λ L y after g. (last, op.InitClass call m, n, there, named, (h.0, h.1, h.2, g)))
  inits_next x n es (op.InitMonitor call m) at last next low there named h =
      inits_by x n es call.arguments at last next low h.3 (λ L y after g. (last, op.InitMonitor call m, n, there, named, (h.0, h.1, h.2, g)))
  inits_next x n es (op.InitProcess r xs count m) at last next low there named h =
      inits_by x n es xs at last next low h.5 (λ L y after g. (last, op.InitProcess r xs count m, n, there, named, (h.0, h.1, h.2, h.3, h.4, g)))
  inits_next x n es _ at last next low there named h = absurd h
