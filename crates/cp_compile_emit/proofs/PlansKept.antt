-- What a planner knows stays known as plans are added.
use Rattle.std.proofs.Common.{◌≡◌, ◌<◌, ◌∙◌, ◌++◌, ◌∷◌, ℕ, List, [], Option, Some, refl, ap, sym, subst, append_assoc, append-nil, ⊎_elim, length, length-append, slice_get, ◌+◌, Bool, true, false, if◌then◌else◌, arith}
use Rattle.std.specs.Borrow.{Bor}
use Rattle.cp_model.specs.Types.{GlobalScope, ResolvedType}
use Rattle.cp_model_program.specs.Plans.{plan}
use Rattle.cp_model_program.specs.Programs as code
use Rattle.cp_program.specs.View.{plan_at, plan_of, plans_in}
use Rattle.cp_program.specs.declared.program.StartPlan.{StartPlan}
use Rattle.cp_program.proofs.PlansKnown as table
use Rattle.cp_compile_symbols.specs.declared.tables.Tables.{Tables}
use Rattle.cp_compile_symbols.specs.Layouts.{AreLaid}
use Rattle.cp_compile_symbols.specs.Representing.{ScopeRepresents, Represents}
use Rattle.cp_compile_symbols.proofs.Laying.{last_or_before}
use Rattle.cp_compile_emit.specs.declared.plan.Planner.{Planner}
use Rattle.cp_compile_emit.specs.declared.plan.TypePlans.{TypePlans}
use Rattle.cp_compile_emit.specs.Planning.{ArePlanned, Extends, Knows, known_of, types_of}

-- ---- More plans

pub same_planner : (p : Planner) → Extends p p
same_planner p = record { tables_are = refl; added = []; plans_are = sym (append-nil p.plans.items) }

pub extends_on : (a b c : Planner) → Extends a b → Extends b c → Extends a c
extends_on a b c first then' = record {
  tables_are = then'.tables_are ∙ first.tables_are;
  added = first.added ++ then'.added;
  plans_are =
      then'.plans_are ∙ ap (λ (ps : List StartPlan). ps ++ then'.added) first.plans_are ∙ append_assoc a.plans.items first.added then'.added;
}

pub plan_kept : (old new : Planner) (n : ℕ) → Extends old new → n < length (known_of old) → plan_at (known_of new) n ≡ plan_at (known_of old) n
plan_kept old new n e less =
    ap (λ (ps : List StartPlan). plan_at (plans_in ps) n) e.plans_are ∙ table.plan_kept old.plans.items e.added n less

longer : (xs ys zs : List StartPlan) (n : ℕ) → zs ≡ xs ++ ys → n < length (plans_in xs) → n < length (plans_in zs)
longer xs ys zs n is less =
    subst (λ k. n < k) (sym (table.plans_length [] zs ∙ ap (λ (ps : List StartPlan). length ps) is ∙ length-append xs ys))
    (below (length xs) (length ys) (subst (λ k. n < k) (table.plans_length [] xs) less))
  where
    below : (a b : ℕ) → n < a → n < a + b
    below a b h = omega (arith, h)

pub there_kept : (old new : Planner) (n : ℕ) → Extends old new → n < length (known_of old) → n < length (known_of new)
there_kept old new n e less = longer old.plans.items e.added new.plans.items n e.plans_are less

pub planned_kept : (old new : Planner) (g : GlobalScope) (p : TypePlans) (t : ResolvedType) → Extends old new → ArePlanned (known_of old) g p t → ArePlanned (known_of new) g p t
planned_kept old new g p t e are = record {
  plain_there = there_kept old new p.plain e are.plain_there;
  zeroed_there = there_kept old new p.zeroed e are.zeroed_there;
  plain = plan_kept old new p.plain e are.plain_there ∙ are.plain;
  zeroed = plan_kept old new p.zeroed e are.zeroed_there ∙ are.zeroed;
}

pub represents_before : (old new : Planner) (n : ℕ) (t : ResolvedType) → Extends old new → Represents (types_of new) n t → Represents (types_of old) n t
represents_before old new n t e represents = subst (λ (b : Bor Tables). Represents b.now.types n t) e.tables_are represents

pub knows_kept : (old new : Planner) (g : GlobalScope) → Extends old new → new.types.items ≡ old.types.items → Knows old g → Knows new g
knows_kept old new g e same k = record {
  scope = subst (λ (b : Bor Tables). ScopeRepresents b.now.names b.now.types g) (sym e.tables_are) k.scope;
  laid = subst (λ (b : Bor Tables). AreLaid g b.now.types b.now.layouts.rows.items) (sym e.tables_are) k.laid;
  planned = λ n numbers t there represents.
      planned_kept old new g numbers t e
      (k.planned n numbers t (ap (λ (xs : List (Option TypePlans)). slice_get xs n) (sym same) ∙ there) (represents_before old new n t e represents));
}

-- ---- One more type

pub type_added : (old new : Planner) (g : GlobalScope) (o : Option TypePlans) → Extends old new → new.types.items ≡ old.types.items ++ o ∷ []
    → ((p : TypePlans) (t : ResolvedType) → o ≡ Some p → Knows old g → Represents (types_of old) (length old.types.items) t → ArePlanned (known_of new) g p t)
    → Knows old g → Knows new g
type_added old new g o e all is k = record {
  scope = subst (λ (b : Bor Tables). ScopeRepresents b.now.names b.now.types g) (sym e.tables_are) k.scope;
  laid = subst (λ (b : Bor Tables). AreLaid g b.now.types b.now.layouts.rows.items) (sym e.tables_are) k.laid;
  planned = λ n numbers t there represents.
      let represents' = represents_before old new n t e represents in
      ⊎_elim
      (λ before. planned_kept old new g numbers t e (k.planned n numbers t before represents'))
      (λ last. is numbers t last.1 k (subst (λ m. Represents (types_of old) m t) last.0 represents'))
      (last_or_before old.types.items o n (Some numbers) (ap (λ (xs : List (Option TypePlans)). slice_get xs n) (sym all) ∙ there));
}

-- ---- One plan more

pub one_added : (old new : Planner) (p : StartPlan) → new.plans.items ≡ old.plans.items ++ p ∷ [] → plan_at (known_of new) (length old.plans.items) ≡ plan_of (known_of old) p.starts.items
one_added old new p is = ap (λ (ps : List StartPlan). plan_at (plans_in ps) (length old.plans.items)) is ∙ table.last_plan old.plans.items p

pub one_extends : (old new : Planner) (p : StartPlan) → new.tables ≡ old.tables → new.plans.items ≡ old.plans.items ++ p ∷ [] → Extends old new
one_extends old new p same is = record { tables_are = same; added = p ∷ []; plans_are = is }

pub number_there : (p : Planner) (n : ℕ) → n < length p.plans.items → n < length (known_of p)
number_there p n less = subst (λ k. n < k) (sym (table.plans_length [] p.plans.items)) less

pub number_planned : (known : List code.StartPlan) (g : GlobalScope) (zeros : Bool) (p : TypePlans) (t : ResolvedType) → ArePlanned known g p t
    → plan_at known (if zeros then p.zeroed else p.plain) ≡ plan zeros g t
number_planned known g true p t are = are.zeroed
number_planned known g false p t are = are.plain
