-- Where the type of a monitor variable is among the definitions: a monitor is numbered by its
-- variable, and the type names of the monitors are listed by the same numbers.
use Rattle.std.proofs.Common.{◌≡◌, ℕ, suc, ◌+◌, Bool, true, false, List, [], ◌∷◌, ◌++◌, Option, Some, None, if◌then◌else◌, slice_get, length, replicate, refl, ap, sym, ◌∙◌, arith, bytes_eq}
use Rattle.std.proofs.lemmas.Bool.{true≢false}
use Rattle.cp_model.specs.Abstract.{Group, Monitor, Name, TypeExpression, TypeName}
use Rattle.cp_model.specs.Names.{lookup}
use Rattle.cp_model.specs.Types.{GlobalScope, ResolvedType, resolved_type}
use Rattle.cp_model.specs.Declarations.{Variable, declarations, declared_group, globals}
use Rattle.cp_model.specs.Components.{count_before, is_component_of}
use Rattle.cp_model.specs.States.{Setup}
use Rattle.cp_law_typing.specs.TypePlaces.{monitor_types, place_of, type_place, written_name}

abbrev pub group_types : TypeExpression → List Name → List (Name × TypeExpression) → List (Name × TypeExpression)
group_types t [] rest = rest
group_types t (x ∷ xs) rest = (x, t) ∷ group_types t xs rest

-- The written type of each variable.
abbrev pub written_types : List Group → List (Name × TypeExpression)
written_types [] = []
written_types (d ∷ ds) = group_types d.type d.names (written_types ds)

module _ (x y : Name) (v : Variable) (monitor : is_component_of Monitor v.type ≡ true) where
  in_group : (t : TypeExpression) (r : ResolvedType) (q b : Bool) → is_component_of Monitor r ≡ b
      → (ws : List (Name × TypeExpression)) (vs : List (Name × Variable)) (ms : List Name)
      → (lookup x ws ≡ Some (TypeName y) → lookup x vs ≡ Some v → slice_get ms (count_before Monitor x vs) ≡ Some y)
      → (xs : List Name) → lookup x (group_types t xs ws) ≡ Some (TypeName y) → lookup x (declared_group q r xs vs) ≡ Some v
      → slice_get ((if b then replicate (length xs) (written_name t) else []) ++ ms) (count_before Monitor x (declared_group q r xs vs)) ≡ Some y
  in_group t r q true e ws vs ms rest [] h k = rest h k
  in_group t r q false e ws vs ms rest [] h k = rest h k
  in_group t r q b e ws vs ms rest (z ∷ zs) h k = go b e (bytes_eq x z) h k (in_group t r q b e ws vs ms rest zs)
    where
      type_in : Option Variable → ResolvedType
      type_in None = r
      type_in (Some w) = w.type

      name_in : Option TypeExpression → Name
      name_in None = []
      name_in (Some w) = written_name w

      go : (b : Bool) → is_component_of Monitor r ≡ b → (c : Bool)
          → (if c then Some t else lookup x (group_types t zs ws)) ≡ Some (TypeName y)
          → (if c then Some (record { by_reference = q; type = r }) else lookup x (declared_group q r zs vs)) ≡ Some v
          → (lookup x (group_types t zs ws) ≡ Some (TypeName y) → lookup x (declared_group q r zs vs) ≡ Some v
          → slice_get ((if b then replicate (length zs) (written_name t) else []) ++ ms) (count_before Monitor x (declared_group q r zs vs)) ≡ Some y)
          → slice_get ((if b then replicate (length (z ∷ zs)) (written_name t) else []) ++ ms)
          (if c then 0 else if is_component_of Monitor r then suc (count_before Monitor x (declared_group q r zs vs)) else count_before Monitor x (declared_group q r zs vs)) ≡ Some y
      go false e true h k later = absurd (true≢false (sym monitor ∙ ap (is_component_of Monitor) (sym (ap type_in k)) ∙ e))
      go true e true h k later = ap (λ n. Some n) (ap name_in h)
      go true e false h k later =
          ap (λ c. slice_get (replicate (length (z ∷ zs)) (written_name t) ++ ms) (if c then suc (count_before Monitor x (declared_group q r zs vs)) else count_before Monitor x (declared_group q r zs vs))) e
          ∙ later h k
      go false e false h k later =
          ap (λ c. slice_get ms (if c then suc (count_before Monitor x (declared_group q r zs vs)) else count_before Monitor x (declared_group q r zs vs))) e
          ∙ later h k

  -- The type of a monitor variable is listed by the number of the monitor.
  pub type_listed : (g : GlobalScope) (gs : List Group) → lookup x (written_types gs) ≡ Some (TypeName y) → lookup x (declarations g gs) ≡ Some v
      → slice_get (monitor_types g gs) (count_before Monitor x (declarations g gs)) ≡ Some y
  type_listed g [] h k = absurd (cc)
  type_listed g (d ∷ ds) h k =
      in_group d.type (resolved_type g d.type) d.by_reference (is_component_of Monitor (resolved_type g d.type)) refl
      (written_types ds) (declarations g ds) (monitor_types g ds) (type_listed g ds) d.names h k

-- The place of a monitor is that of the written name of its type.
pub monitor_place : (setup : Setup) (x y : Name) (v : Variable) → is_component_of Monitor v.type ≡ true
    → lookup x (written_types setup.tree.initial.variables) ≡ Some (TypeName y)
    → lookup x (declarations (globals setup.tree) setup.tree.initial.variables) ≡ Some v
    → type_place setup (1 + count_before Monitor x (declarations (globals setup.tree) setup.tree.initial.variables)) ≡ place_of y setup.tree.definitions
monitor_place setup x y v monitor h k =
    let gs : List Group = setup.tree.initial.variables in
    let n : ℕ = count_before Monitor x (declarations (globals setup.tree) gs) in
    ap (type_place setup) (next n) ∙ ap listed (type_listed x y v monitor (globals setup.tree) gs h k)
  where
    next : (n : ℕ) → 1 + n ≡ suc n
    next n = omega arith

    listed : Option Name → ℕ
    listed o = elim (elim o as (λ z. List Name) [ None ↦ [] | Some z ↦ z ∷ [] ]) as (λ z. ℕ) [ [] ↦ 0 | z ∷ zs ↦ place_of z setup.tree.definitions ]
