-- Definitions one after another, in which nothing is broken: each is known as by itself, in the
-- scope of those before it.
use Rattle.std.proofs.Common.{◌≡◌, ◌⊎◌, inl, inr, ℕ, zero, suc, List, [], ◌∷◌, ◌++◌, Some, slice_get, length, map, take, arith, refl, ap, sym, subst, ◌∙◌, append_assoc}
use Rattle.cp_model.specs.Syntax as s
use Rattle.cp_model.specs.Abstract as a
use Rattle.cp_model.specs.Erase as erase
use Rattle.cp_model.specs.declared.tree.ConstantDefinition.{ConstantDefinition}
use Rattle.cp_model.specs.declared.tree.Identifier.{Identifier}
use Rattle.cp_model.specs.RulesEnvironment.{Environment}
use Rattle.cp_model.specs.RulesDeclarations.{Declared}
use Rattle.cp_model.specs.Rules.{define_as, define_constant, define_each, define_section}
use Rattle.cp_model.specs.Types.{GlobalScope}
use Rattle.cp_model.specs.Declarations.{define, define_all}
use Rattle.cp_law_typing.specs.Systems.{systems_of}
use Rattle.cp_law_typing.specs.WellTyped.{Later}
use Rattle.cp_model.proofs.Judging.{first_empty, rest_empty}
use Rattle.cp_law_typing.proofs.TableMeanings.{Types}
use Rattle.cp_law_typing.proofs.TypeOrder.{ascend_kept, ascend_on, more_on, no_more}
use Rattle.cp_law_typing.proofs.Stages.{Defined, SchedulingState, SystemTyped, constant_defined, later_on, later_same, in_order_on, no_systems, type_defined, typed_later}
use Rattle.cp_law_typing.proofs.SystemTypes.{system_defined}
use Rattle.cp_law_typing.proofs.Enumerations.{enumeration_defined}

all_behind : (g : GlobalScope) (ds es : List a.Definition) → define_all g (ds ++ es) ≡ define_all (define_all g ds) es
all_behind g [] es = refl
all_behind g (d ∷ ds) es = all_behind (define g d) ds es

systems_behind : (ds es : List a.Definition) → systems_of (ds ++ es) ≡ systems_of ds ++ systems_of es
systems_behind [] es = refl
systems_behind (a.SystemDef x y ∷ ds) es = ap (λ l. y ∷ l) (systems_behind ds es)
systems_behind (a.ConstantDef x c ∷ ds) es = systems_behind ds es
systems_behind (a.TypeDef x t ∷ ds) es = systems_behind ds es
systems_behind (a.EnumDef x vs ∷ ds) es = systems_behind ds es

split_at : {A : Type 0} (xs zs : List A) (i : ℕ) (w : A) → slice_get (xs ++ zs) i ≡ Some w
    → ((slice_get xs i ≡ Some w) × (take i (xs ++ zs) ≡ take i xs)) ⊎ ((j : ℕ) × (slice_get zs j ≡ Some w) × (take i (xs ++ zs) ≡ xs ++ take j zs))
split_at [] zs i w h = inr (i, h, refl)
split_at (x ∷ xs) zs zero w h = inl (h, refl)
split_at (x ∷ xs) zs (suc i) w h = elim (split_at xs zs i w h) [
  | inl g ↦ inl (g.0, ap (λ l. x ∷ l) g.1)
  | inr g ↦ inr (g.0, g.1, ap (λ l. x ∷ l) g.2)
]

defined_on : (env mid after : Environment) (g : GlobalScope) (rs : Types) (ys : List a.System) (ds es : List a.Definition) → (d : Defined env g rs ys ds mid)
    → Defined mid (define_all g ds) d.more (ys ++ systems_of ds) es after → Defined env g rs ys (ds ++ es) after
defined_on env mid after g rs ys ds es d e =
    let scope : define_all g (ds ++ es) ≡ define_all (define_all g ds) es = all_behind g ds es in
    let systems : systems_of (ds ++ es) ≡ systems_of ds ++ systems_of es = systems_behind ds es in
    record {
      more = e.more;
      later = subst (Later g) (sym scope) (later_on g (define_all g ds) (define_all (define_all g ds) es) d.later e.later);
      stage = subst (λ l. SchedulingState after (define_all g (ds ++ es)) e.more (ys ++ l)) (sym systems)
          (subst (λ k. SchedulingState after k e.more (ys ++ (systems_of ds ++ systems_of es))) (sym scope)
          (subst (SchedulingState after (define_all (define_all g ds) es) e.more) (append_assoc ys (systems_of ds) (systems_of es)) e.stage));
      in_order = λ k l.
          let l2 : Later (define_all (define_all g ds) es) k = subst (λ z. Later z k) scope l in
          in_order_on k ds es g ys (d.in_order k (later_on (define_all g ds) (define_all (define_all g ds) es) k e.later l2)) (e.in_order k l2);
      added = more_on env.names mid.names after.names rs d.more e.more d.added e.added;
      ascend = ascend_on after.names e.more (length rs) (length d.more) (length e.more) ds es
          (ascend_kept mid.names after.names d.more e.more e.added (length rs) (length d.more) ds d.ascend) e.ascend;
      typed = λ i w h. go i w (split_at (systems_of ds) (systems_of es) i w (sym (ap (λ l. slice_get l i) systems) ∙ h));
    }
  where
    go : (i : ℕ) (w : a.System)
        → ((slice_get (systems_of ds) i ≡ Some w) × (take i (systems_of ds ++ systems_of es) ≡ take i (systems_of ds)))
        ⊎ ((j : ℕ) × (slice_get (systems_of es) j ≡ Some w) × (take i (systems_of ds ++ systems_of es) ≡ systems_of ds ++ take j (systems_of es)))
        → SystemTyped (define_all g (ds ++ es)) (ys ++ take i (systems_of (ds ++ es))) w
    go i w (inl h) =
        subst (λ l. SystemTyped (define_all g (ds ++ es)) (ys ++ l) w) (sym (ap (take i) (systems_behind ds es) ∙ h.1))
        (subst (λ k. SystemTyped k (ys ++ take i (systems_of ds)) w) (sym (all_behind g ds es))
        (typed_later (define_all g ds) (define_all (define_all g ds) es) (ys ++ take i (systems_of ds)) w e.later (d.typed i w h.0)))
    go i w (inr h) =
        subst (λ l. SystemTyped (define_all g (ds ++ es)) (ys ++ l) w) (sym (ap (take i) (systems_behind ds es) ∙ h.2))
        (subst (λ k. SystemTyped k (ys ++ (systems_of ds ++ take h.0 (systems_of es))) w) (sym (all_behind g ds es))
        (subst (λ l. SystemTyped (define_all (define_all g ds) es) l w) (append_assoc ys (systems_of ds) (take h.0 (systems_of es))) (e.typed h.0 w h.1)))

defined_none : (env : Environment) (g : GlobalScope) (rs : Types) (ys : List a.System) → SchedulingState env g rs ys → Defined env g rs ys [] env
defined_none env g rs ys stage = record { more = rs; later = later_same g; stage = subst (SchedulingState env g rs) (sym (no_systems ys)) stage; typed = λ i w h. absurd (cc); in_order = λ k l. tt; added = no_more env.names rs; ascend = omega arith }

constants_defined : (ds : List ConstantDefinition) (env : Environment) (g : GlobalScope) (rs : Types) (ys : List a.System) → SchedulingState env g rs ys
    → (define_each define_constant env ds).violations ≡ [] → Defined env g rs ys (map erase.constant_definition ds) (define_each define_constant env ds).env
constants_defined [] env g rs ys stage h = defined_none env g rs ys stage
constants_defined (d ∷ ds) env g rs ys stage h =
    let one : Declared = define_constant env d in
    let first : Defined env g rs ys (erase.constant_definition d ∷ []) one.env = constant_defined env g rs ys d stage (first_empty one.violations _ h) in
    defined_on env one.env _ g rs ys (erase.constant_definition d ∷ []) (map erase.constant_definition ds) first
    (constants_defined ds one.env (define_all g (erase.constant_definition d ∷ [])) first.more (ys ++ systems_of (erase.constant_definition d ∷ [])) first.stage (rest_empty one.violations _ h))

one_defined : (x : Identifier) (d : s.Defined) (env : Environment) (g : GlobalScope) (rs : Types) (ys : List a.System) → SchedulingState env g rs ys → (define_as env x d).violations ≡ []
    → Defined env g rs ys (erase.definition x d ∷ []) (define_as env x d).env
one_defined x (s.Written t) env g rs ys stage h = type_defined env g rs ys x t stage h
one_defined x (s.Enumeration xs) env g rs ys stage h = enumeration_defined env g rs ys x xs stage h
one_defined x (s.SystemType y) env g rs ys stage h = system_defined env g rs ys x y stage h

abbrev define_type_definition : Environment → s.TypeDefinition → Declared
define_type_definition e d = define_as e d.name d.defined

types_defined : (ds : List s.TypeDefinition) (env : Environment) (g : GlobalScope) (rs : Types) (ys : List a.System) → SchedulingState env g rs ys
    → (define_each define_type_definition env ds).violations ≡ [] → Defined env g rs ys (map erase.type_definition ds) (define_each define_type_definition env ds).env
types_defined [] env g rs ys stage h = defined_none env g rs ys stage
types_defined (d ∷ ds) env g rs ys stage h =
    let one : Declared = define_type_definition env d in
    let first : Defined env g rs ys (erase.type_definition d ∷ []) one.env = one_defined d.name d.defined env g rs ys stage (first_empty one.violations _ h) in
    defined_on env one.env _ g rs ys (erase.type_definition d ∷ []) (map erase.type_definition ds) first
    (types_defined ds one.env (define_all g (erase.type_definition d ∷ [])) first.more (ys ++ systems_of (erase.type_definition d ∷ [])) first.stage (rest_empty one.violations _ h))

section_defined : (x : s.Section) (env : Environment) (g : GlobalScope) (rs : Types) (ys : List a.System) → SchedulingState env g rs ys → (define_section env x).violations ≡ []
    → Defined env g rs ys (erase.section x) (define_section env x).env
section_defined (s.Constants ds) env g rs ys stage h = constants_defined ds env g rs ys stage h
section_defined (s.Types ds) env g rs ys stage h = types_defined ds env g rs ys stage h

pub sections_defined : (xs : List s.Section) (env : Environment) (g : GlobalScope) (rs : Types) (ys : List a.System) → SchedulingState env g rs ys
    → (define_each define_section env xs).violations ≡ [] → Defined env g rs ys (erase.sections xs) (define_each define_section env xs).env
sections_defined [] env g rs ys stage h = defined_none env g rs ys stage
sections_defined (x ∷ xs) env g rs ys stage h =
    let one : Declared = define_section env x in
    let first : Defined env g rs ys (erase.section x) one.env = section_defined x env g rs ys stage (first_empty one.violations _ h) in
    defined_on env one.env _ g rs ys (erase.section x) (erase.sections xs) first
    (sections_defined xs one.env (define_all g (erase.section x)) first.more (ys ++ systems_of (erase.section x)) first.stage (rest_empty one.violations _ h))
