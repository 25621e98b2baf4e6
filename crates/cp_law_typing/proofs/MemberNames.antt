-- The routines among the names of a component, which are the members of its type.
use Rattle.std.proofs.Common.{◌≡◌, ℕ, zero, suc, Bool, true, false, ◌||◌, List, [], ◌∷◌, ◌++◌, Option, Some, None, if◌then◌else◌, slice_get, map, drop, refl, ap, sym, subst, ◌∙◌, append_assoc, bytes_eq}
use Rattle.std.specs.Option.{option_or}
use Rattle.std.proofs.lemmas.Bool.{true≢false}
use Rattle.cp_model.specs.Abstract as a
use Rattle.cp_model.specs.declared.tree.Sort.{Sort}
use Rattle.cp_model.specs.declared.rules.Entity.{Entity}
use Rattle.cp_model.specs.declared.rules.Entity.TheVariants as entity
use Rattle.cp_model.specs.declared.rules.Member.{Member}
use Rattle.cp_model.specs.declared.rules.Member.TheVariants as member
use Rattle.cp_model.specs.RulesEnvironment.{Environment, Names, Text}
use Rattle.cp_model.specs.RulesTypes.{has_name}
use Rattle.cp_model.specs.Rules.{routine_member, routine_members}
use Rattle.cp_model.specs.Types.{GlobalScope}
use Rattle.cp_model.specs.Declarations.{Variable}
use Rattle.cp_model.specs.Names.{lookup}
use Rattle.cp_law_typing.proofs.Names.{AllDistinct, NewNames, bytes_same, keys, lookup-append, lookup_has}
use Rattle.cp_law_typing.proofs.TableMeanings.{RoutineOf, Types}
use Rattle.cp_law_typing.proofs.Visible.{some_same}
use Rattle.cp_law_typing.proofs.LayerNames.{FoundAs, variable_found}
use Rattle.cp_law_typing.proofs.Headings.{AllWritten}
use Rattle.cp_law_typing.proofs.ComponentScopes.{ComponentScope, KnownRoutine}

-- the routines among names that are distinct
pub routine_member_found : (x : Text) (m : Member) (vs : Names) → AllDistinct (keys vs) → lookup x (routine_members vs) ≡ Some m → (r : ℕ) × (m ≡ member.Routine r) × (lookup x vs ≡ Some (entity.Routine r))
routine_member_found x m [] d h = absurd (cc)
routine_member_found x m ((y, e) ∷ vs) d h = go e (routine_member_found x m vs d.1) h
  where
    other : (b : Bool) → bytes_eq x y ≡ b → (r : ℕ) → lookup x vs ≡ Some (entity.Routine r) → b ≡ false
    other false is r k = refl
    other true is r k = absurd (true≢false (sym (ap (λ z. has_name z (keys vs)) (sym (bytes_same x y is)) ∙ lookup_has x vs (entity.Routine r) k) ∙ d.0))

    later : (e : Entity) → (r : ℕ) × (m ≡ member.Routine r) × (lookup x vs ≡ Some (entity.Routine r)) → (r : ℕ) × (m ≡ member.Routine r) × (lookup x ((y, e) ∷ vs) ≡ Some (entity.Routine r))
    later e k = (k.0, k.1, ap (λ b. if b then Some e else lookup x vs) (other (bytes_eq x y) refl k.0 k.2) ∙ k.2)

    go : (e : Entity) → (lookup x (routine_members vs) ≡ Some m → (r : ℕ) × (m ≡ member.Routine r) × (lookup x vs ≡ Some (entity.Routine r)))
        → lookup x (routine_member y e ++ routine_members vs) ≡ Some m → (r : ℕ) × (m ≡ member.Routine r) × (lookup x ((y, e) ∷ vs) ≡ Some (entity.Routine r))
    go (entity.Routine r) rest h = by_name (bytes_eq x y) refl h
      where
        by_name : (b : Bool) → bytes_eq x y ≡ b → (if b then Some (member.Routine r) else lookup x (routine_members vs)) ≡ Some m
            → (r' : ℕ) × (m ≡ member.Routine r') × (lookup x ((y, entity.Routine r) ∷ vs) ≡ Some (entity.Routine r'))
        by_name true is h = (r, cc, ap (λ b. if b then Some (entity.Routine r) else lookup x vs) is)
        by_name false is h = later (entity.Routine r) (rest h)
    go (entity.Constant b n) rest h = later (entity.Constant b n) (rest h)
    go (entity.Type t) rest h = later (entity.Type t) (rest h)
    go (entity.Variable t q) rest h = later (entity.Variable t q) (rest h)
    go (entity.Entry r) rest h = later (entity.Entry r) (rest h)
    go (entity.Standard f) rest h = later (entity.Standard f) (rest h)
    go entity.UnfinishedConstant rest h = later entity.UnfinishedConstant (rest h)
    go entity.UnfinishedType rest h = later entity.UnfinishedType (rest h)
    go (entity.UnfinishedRoutine r) rest h = later (entity.UnfinishedRoutine r) (rest h)
    go entity.Hidden rest h = later entity.Hidden (rest h)
    go (entity.Broken w) rest h = later (entity.Broken w) (rest h)

pub dropped_distinct : (k : ℕ) (vs : Names) → AllDistinct (keys vs) → AllDistinct (keys (drop k vs))
dropped_distinct zero vs d = d
dropped_distinct (suc k) [] d = tt
dropped_distinct (suc k) (v ∷ vs) d = dropped_distinct k vs d.1

pub lookup_dropped : (k : ℕ) (vs : Names) (x : Text) (e : Entity) → AllDistinct (keys vs) → lookup x (drop k vs) ≡ Some e → lookup x vs ≡ Some e
lookup_dropped zero vs x e d h = h
lookup_dropped (suc k) [] x e d h = h
lookup_dropped (suc k) (v ∷ vs) x e d h = go (bytes_eq x v.0) refl (lookup_dropped k vs x e d.1 h)
  where
    go : (b : Bool) → bytes_eq x v.0 ≡ b → lookup x vs ≡ Some e → lookup x (v ∷ vs) ≡ Some e
    go false is h = ap (λ b. if b then Some v.1 else lookup x vs) is ∙ h
    go true is h = absurd (true≢false (sym (ap (λ z. has_name z (keys vs)) (sym (bytes_same x v.0 is)) ∙ lookup_has x vs e h) ∙ d.0))

pub new_fewer : (js ks xs : List Text) → NewNames (js ++ ks) xs → NewNames ks xs
new_fewer js ks [] h = tt
new_fewer js ks (x ∷ xs) h = (last js h.0, new_fewer js (ks ++ x ∷ []) xs (subst (λ l. NewNames l xs) (append_assoc js ks (x ∷ [])) h.1))
  where
    last : (js : List Text) → has_name x (js ++ ks) ≡ false → has_name x ks ≡ false
    last [] h = h
    last (j ∷ js) h = last js (rest (bytes_eq x j) h)
      where
        rest : (b : Bool) → (b || has_name x (js ++ ks)) ≡ false → has_name x (js ++ ks) ≡ false
        rest true h = absurd (true≢false h)
        rest false h = h

pub mapped_at : {A B : Type 0} (f : A → B) (xs : List A) (k : ℕ) (q : B) → slice_get (map f xs) k ≡ Some q → (x : A) × (slice_get xs k ≡ Some x) × (f x ≡ q)
mapped_at f [] k q h = absurd (cc)
mapped_at f (x ∷ xs) zero q h = (x, refl, some_same (Some (f x)) (f x) q refl h)
mapped_at f (x ∷ xs) (suc k) q h = mapped_at f xs k q h

pub all_by_value : (z : Sort) (ds : List (Text × Variable)) → AllWritten (Some z) false ds → (x : Text) (v : Variable) → lookup x ds ≡ Some v → v.by_reference ≡ false
all_by_value z [] h x v f = absurd (cc)
all_by_value z (d ∷ ds) h x v f = go (bytes_eq x d.0) f (all_by_value z ds h.1 x v)
  where
    go : (b : Bool) → (if b then Some d.1 else lookup x ds) ≡ Some v → (lookup x ds ≡ Some v → v.by_reference ≡ false) → v.by_reference ≡ false
    go true f rest = subst (λ k. k.by_reference ≡ false) (some_same (Some d.1) d.1 v refl f) h.0
    go false f rest = rest f

-- ---- a routine is found among the names of a component

pub known_among : (G : GlobalScope → Type 0) (ys : List a.System) (y : a.System) (env : Environment) (rs : Types) (k : ℕ) → (c : ComponentScope G ys y env rs k) → (x : Text) (r : ℕ)
    → lookup x env.names ≡ Some (entity.Routine r) → KnownRoutine G ys y env rs k x (entity.Routine r)
known_among G ys y env rs k c x r h = in_outer (lookup x c.outer) refl (sym (ap (lookup x) c.names ∙ lookup-append x c.outer _) ∙ h)
  where
    in_variables : (o : Option Entity) → lookup x c.variables ≡ o → option_or o (lookup x c.routines) ≡ Some (entity.Routine r) → KnownRoutine G ys y env rs k x (entity.Routine r)
    in_variables None is h = c.routines_as x (entity.Routine r) h
    in_variables (Some e) is h =
        let f : FoundAs false rs x (entity.Routine r) c.variables_declared = variable_found false rs x (entity.Routine r) c.variables c.variables_declared c.variables_as (is ∙ h) in absurd (cc f.is)

    in_parameters : (o : Option Entity) → lookup x c.parameters ≡ o → option_or o (lookup x (c.variables ++ c.routines)) ≡ Some (entity.Routine r) → KnownRoutine G ys y env rs k x (entity.Routine r)
    in_parameters None is h = in_variables (lookup x c.variables) refl (sym (lookup-append x c.variables c.routines) ∙ h)
    in_parameters (Some e) is h =
        let f : FoundAs true rs x (entity.Routine r) c.parameters_declared = variable_found true rs x (entity.Routine r) c.parameters c.parameters_declared c.parameters_as (is ∙ h) in absurd (cc f.is)

    in_outer : (o : Option Entity) → lookup x c.outer ≡ o → option_or o (lookup x (c.parameters ++ (c.variables ++ c.routines))) ≡ Some (entity.Routine r) → KnownRoutine G ys y env rs k x (entity.Routine r)
    in_outer None is h = in_parameters (lookup x c.parameters) refl (sym (lookup-append x c.parameters _) ∙ h)
    in_outer (Some e) is h = absurd (c.is_outer x (entity.Routine r) (is ∙ h))

-- A member that is a routine is one of the component, where the names before the component's are
-- left out.
pub member_known : (G : GlobalScope → Type 0) (ys : List a.System) (y : a.System) (env : Environment) (rs : Types) (k : ℕ) → ComponentScope G ys y env rs k → (before : ℕ) (x : Text) (m : Member)
    → lookup x (routine_members (drop before env.names)) ≡ Some m → (r : ℕ) × (m ≡ member.Routine r) × RoutineOf G env rs r x y
member_known G ys y env rs k c before x m h =
    let f = routine_member_found x m (drop before env.names) (dropped_distinct before env.names c.distinct) h in
    let n : KnownRoutine G ys y env rs k x (entity.Routine f.0) = known_among G ys y env rs k c x f.0 (lookup_dropped before env.names x (entity.Routine f.0) c.distinct f.2) in
    let same : n.number ≡ f.0 = cc (n.is) in
    (f.0, f.1, subst (λ j. RoutineOf G env rs j x y) same (record { within = n.within; place = n.place; routine = n.routine; there = n.there; named = n.named; meets = n.meets; need = n.need }))
