-- Each monitor that is numbered has a type among the definitions, and so a place after that of monitor 0.
use Rattle.std.proofs.Common.{◌≡◌, ℕ, zero, suc, ◌<◌, ◌≤◌, ◌+◌, List, [], ◌∷◌, ◌++◌, length, replicate, Bool, true, false, Option, Some, None, refl, ap, sym, ◌∙◌, arith}
use Rattle.std.specs.Prelude.{if◌then◌else◌, slice_get}
use Rattle.cp_model.specs.Abstract.{Group, Monitor, Name}
use Rattle.cp_model.specs.Types.{GlobalScope, ResolvedType, resolved_type}
use Rattle.cp_model.specs.Declarations.{Variable, declarations, declared_group, globals}
use Rattle.cp_model.specs.Components.{is_component_of}
use Rattle.cp_model.specs.States.{Setup, count_components, monitor_count}
use Rattle.cp_law_typing.specs.TypePlaces.{monitor_types, place_of, type_place, written_name}
use Rattle.cp_law_typing.proofs.TypeOrder.{place_positive}
use Rattle.std.proofs.lemmas.List.{length-append, length-replicate}
use Rattle.std.proofs.lemmas.Option.{slice_get-get_or}

group_count : (t : ResolvedType) (r : Bool) (xs : List Name) (vs : List (Name × Variable)) → count_components Monitor (declared_group r t xs vs) ≡ (if is_component_of Monitor t then length xs else 0) + count_components Monitor vs
group_count t r xs vs = by (is_component_of Monitor t) refl xs
  where
    by : (b : Bool) → is_component_of Monitor t ≡ b → (xs : List Name) → count_components Monitor (declared_group r t xs vs) ≡ (if b then length xs else 0) + count_components Monitor vs
    by b e [] = none b
      where
        none : (b : Bool) → count_components Monitor vs ≡ (if b then 0 else 0) + count_components Monitor vs
        none true = omega arith
        none false = omega arith
    by true e (x ∷ xs) = ap (λ b. if b then suc (count_components Monitor (declared_group r t xs vs)) else count_components Monitor (declared_group r t xs vs)) e ∙ more (by true e xs)
      where
        more : count_components Monitor (declared_group r t xs vs) ≡ length xs + count_components Monitor vs → suc (count_components Monitor (declared_group r t xs vs)) ≡ length (x ∷ xs) + count_components Monitor vs
        more h = omega (arith, h)
    by false e (x ∷ xs) = ap (λ b. if b then suc (count_components Monitor (declared_group r t xs vs)) else count_components Monitor (declared_group r t xs vs)) e ∙ by false e xs

type_count : (g : GlobalScope) (gs : List Group) → length (monitor_types g gs) ≡ count_components Monitor (declarations g gs)
type_count g [] = refl
type_count g (d ∷ ds) = by (is_component_of Monitor (resolved_type g d.type)) refl (type_count g ds)
  where
    by : (b : Bool) → is_component_of Monitor (resolved_type g d.type) ≡ b → length (monitor_types g ds) ≡ count_components Monitor (declarations g ds)
        → length ((if b then replicate (length d.names) (written_name d.type) else []) ++ monitor_types g ds) ≡ count_components Monitor (declared_group d.by_reference (resolved_type g d.type) d.names (declarations g ds))
    by b e h = length-append (if b then replicate (length d.names) (written_name d.type) else []) (monitor_types g ds)
        ∙ both b e
        ∙ sym (group_count (resolved_type g d.type) d.by_reference d.names (declarations g ds))
      where
        both : (b : Bool) → is_component_of Monitor (resolved_type g d.type) ≡ b → length (if b then replicate (length d.names) (written_name d.type) else []) + length (monitor_types g ds)
            ≡ (if is_component_of Monitor (resolved_type g d.type) then length d.names else 0) + count_components Monitor (declarations g ds)
        both true e = rw e (omega (arith, length-replicate (length d.names) (written_name d.type), h))
        both false e = rw e (omega (arith, h))

pub positive : (setup : Setup) (m : ℕ) → 1 ≤ m → m ≤ monitor_count setup → 0 < type_place setup m
positive setup zero low high = absurd (omega (arith, low))
positive setup (suc i) low high = by (slice_get (monitor_types (globals setup.tree) setup.tree.initial.variables) i) refl
  where
    by : (o : Option Name) → slice_get (monitor_types (globals setup.tree) setup.tree.initial.variables) i ≡ o
        → 0 < elim (elim o as (λ z. List Name) [ None ↦ [] | Some x ↦ x ∷ [] ]) as (λ z. ℕ) [ [] ↦ 0 | x ∷ xs ↦ place_of x setup.tree.definitions ]
    by None e = absurd (grind (arith, sym e ∙ slice_get-get_or (monitor_types (globals setup.tree) setup.tree.initial.variables) i [] (omega (arith, high, type_count (globals setup.tree) setup.tree.initial.variables))))
    by (Some x) e = let h = place_positive x setup.tree.definitions in omega (arith, h)
