-- Typed statements keep the order of monitors, if what they initialise does.
use Rattle.std.proofs.Common.{◌≡◌, List, true, None, ap, sym, subst, ◌∙◌, inl, inr}
use Rattle.std.specs.Prelude.{if◌then◌else◌, slice_get, take}
use Rattle.std.specs.Str.{bytes_eq}
use Rattle.std.proofs.lemmas.Bool.{true≢false}
use Rattle.cp_model.specs.Abstract.{Arms, Definition, Assign, At, Binary, Call, Case, Class, Cycle, Designator, Expression, Expressions, For, Group, If, Init, Known, Letter, Literal, Monitor, MoreArms, MoreExpressions, Name, Negative, NoArm, NoExpression, Not, Nothing, Part, Perform, Plain, Positive, Process, Repeat, Routine, Seq, Sort, Statement, System, Use, While}
use Rattle.cp_model.specs.Types.{Queue}
use Rattle.cp_model.specs.Environments.{meaning}
use Rattle.cp_model.specs.Components.{component_named}
use Rattle.cp_law_typing.specs.Judgement.{Initialises, IsInMonitorRoutine, IsProcedureCall, IsQueueArgument, Place, TypedArms, TypedStatement}
use Rattle.cp_law_typing.specs.StaticTypes.{place_type}
use Rattle.cp_law_gates.specs.InOrder.{ArmsKeep, HasFrame, InitOf, Keeps, OwnQueue, OwnVariable, StandardFits, World, first_name, is_of_queues}
use Rattle.cp_law_typing.specs.PassedRights.{EachInit, EachInitIn}

module _ (w : World) (p : Place) (Early : Name → Expressions → Type 0)
    (inits : (x : Name) (es : Expressions) → Initialises p x es → Early x es → InitOf w p.env (component_named p.env x) es)
    (own_queue : (d : Designator) → place_type p.env d ≡ Queue → IsInMonitorRoutine p.env → OwnVariable p.env (meaning p.env (first_name d))) where
  queue : (e : Expression) → IsQueueArgument p.env e → (p.env.system.sort ≡ Monitor) × HasFrame p.env.frame × OwnQueue p.env e
  queue (Use d) h = (h.2.0, subst HasFrame (sym h.2.2) tt, (h.0, own_queue d h.1 h.2))
  queue (Literal n) h = absurd h
  queue (Letter n) h = absurd h
  queue (Call d es) h = absurd h
  queue (Not e) h = absurd h
  queue (Negative e) h = absurd h
  queue (Positive e) h = absurd h
  queue (Binary o a b) h = absurd h
  queue (Known b n) h = absurd h

  performs : (d : Designator) (es : Expressions) → IsProcedureCall p None d es → StandardFits p.env d es
  performs (Plain x) NoExpression h = h.1
  performs (Plain x) (MoreExpressions e NoExpression) h = λ q. one x e h q
    where
      one : (x : Name) (e : Expression) → IsProcedureCall p None (Plain x) (MoreExpressions e NoExpression) → is_of_queues x ≡ true → (p.env.system.sort ≡ Monitor) × HasFrame p.env.frame × OwnQueue p.env e
      one x e (inl h) q = absurd (true≢false (sym q ∙ ap is_of_queues h.0))
      one x e (inr (inl h)) q = absurd (true≢false (sym q ∙ ap is_of_queues h.0))
      one x e (inr (inr (inl h))) q = queue e h.1
      one x e (inr (inr (inr h))) q = queue e h.1
  performs (Plain x) (MoreExpressions e (MoreExpressions f es)) h = absurd h
  performs (Part d x) NoExpression h = absurd h
  performs (Part d x) (MoreExpressions e es) h = absurd h
  performs (At d i) NoExpression h = absurd h
  performs (At d i) (MoreExpressions e es) h = absurd h

  mutual
    pub typed_keeps : (s : Statement) → TypedStatement p s → EachInit Early s → Keeps w p.env s
    typed_keeps Nothing h k = tt
    typed_keeps (Seq a b) h k = (typed_keeps a h.0 k.0, typed_keeps b h.1 k.1)
    typed_keeps (Assign d e) h k = tt
    typed_keeps (Perform d es) h k = λ none. performs d es (subst (λ o. IsProcedureCall p o d es) none h.1)
    typed_keeps (If e a b) h k = (typed_keeps a h.2 k.0, typed_keeps b h.3 k.1)
    typed_keeps (Case e arms) h k = arms_keep arms h.1 _ h.3 k
    typed_keeps (While e s) h k = typed_keeps s h.2 k
    typed_keeps (Repeat s e) h k = typed_keeps s h.0 k
    typed_keeps (For v down a b s) h k = typed_keeps s h.6 k
    typed_keeps (Cycle s) h k = typed_keeps s h k
    typed_keeps (Init x es) h k = (h.outside, inits x es h k)

    arms_keep : (arms : Arms) (b : Rattle.cp_model.specs.Abstract.BaseType) (seen : List Rattle.std.specs.Prelude.ℤ) → TypedArms p b seen arms → EachInitIn Early arms → ArmsKeep w p.env arms
    arms_keep NoArm b seen h k = tt
    arms_keep (MoreArms ls s rest) b seen h k = (typed_keeps s h.1 k.0, arms_keep rest b _ h.2 k.1)

-- Anything holds of each `init`, where nothing is asked.
mutual
  pub nothing_early : (s : Statement) → EachInit (λ x es. Unit {0}) s
  nothing_early Nothing = tt
  nothing_early (Seq a b) = (nothing_early a, nothing_early b)
  nothing_early (Assign d e) = tt
  nothing_early (Perform d es) = tt
  nothing_early (If e a b) = (nothing_early a, nothing_early b)
  nothing_early (Case e arms) = nothing_early_arms arms
  nothing_early (While e s) = nothing_early s
  nothing_early (Repeat s e) = nothing_early s
  nothing_early (For v down a b s) = nothing_early s
  nothing_early (Cycle s) = nothing_early s
  nothing_early (Init x es) = tt

  nothing_early_arms : (arms : Arms) → EachInitIn (λ x es. Unit {0}) arms
  nothing_early_arms NoArm = tt
  nothing_early_arms (MoreArms ls s rest) = (nothing_early s, nothing_early_arms rest)
