-- What is reported of a name that is used: either at the name, or of a broken declaration that the
-- environment knows, and no such declaration is earlier.
use Rattle.std.proofs.Common.{Bool, List, None, Option, Some, [], false, get_or, refl, suc, true, zero, ℕ, ◌≡◌, ◌∷◌}
use Rattle.std.specs.Prelude.{if◌then◌else◌}
use Rattle.std.specs.Str.{bytes_eq}
use Rattle.std.proofs.lemmas.Bool.{and_from, and_parts}
use Rattle.cp_model.specs.declared.rules.Entity.{Entity}
use Rattle.cp_model.specs.declared.rules.Entity.TheVariants as entity
use Rattle.cp_model.specs.declared.rules.RoutineRow.{RoutineRow}
use Rattle.cp_model.specs.declared.rules.Violation.{Violation}
use Rattle.cp_model.specs.declared.tree.Constant.{Constant}
use Rattle.cp_model.specs.declared.tree.Constant.TheVariants as written
use Rattle.cp_model.specs.declared.tree.Identifier.{Identifier}
use Rattle.cp_model.specs.Names.{lookup}
use Rattle.cp_model.specs.RulesEnvironment.{Environment, Names, Text, c1_named, c4_c9_named, c4_unfinished, c9_standard, no_routine, resolve, routine_of}
use Rattle.cp_model.specs.RulesTypes.{c2_constant, constant}
use Rattle.cp_rules_cutoff.specs.After.{constant_after, name_after}
use Rattle.cp_rules_cutoff.specs.Later.{entity_later, environment_later, judged_later, names_later, returns_later, routines_later, violations_later}
use Rattle.cp_rules_cutoff.proofs.Combinators.{also_later, breaks_later, later_append, unless_later}
use Rattle.cp_rules_cutoff.proofs.Entities.{entity_judged, entity_reported, with_entity_later}

abbrev pub found_later : Violation → Option Entity → Bool
found_later w None = true
found_later w (Some e) = entity_later w e

module _ (w : Violation) where
  lookup_later : (x : Text) (names : Names) → names_later w names ≡ true → found_later w (lookup x names) ≡ true
  lookup_later x [] h = refl
  lookup_later x (e ∷ es) h =
      let parts = and_parts (entity_later w e.1) (names_later w es) h in go (bytes_eq x e.0) parts.0 (lookup_later x es parts.1)
    where
      go : (b : Bool) → entity_later w e.1 ≡ true → found_later w (lookup x es) ≡ true → found_later w (if b then Some e.1 else lookup x es) ≡ true
      go true one rest = one
      go false one rest = rest

  resolve_later : (x : Identifier) (o : Option Entity) → name_after w.at x ≡ true → found_later w o ≡ true → entity_judged w (resolve x o) ≡ true
  resolve_later x None h g = search breaks_later
  resolve_later x (Some entity.Hidden) h g = search breaks_later
  resolve_later x (Some (entity.Broken v)) h g = and_from _ true g refl
  resolve_later x (Some (entity.Constant base n)) h g = refl
  resolve_later x (Some (entity.Type t)) h g = refl
  resolve_later x (Some (entity.Variable t a)) h g = refl
  resolve_later x (Some (entity.Routine r)) h g = refl
  resolve_later x (Some (entity.Entry r)) h g = refl
  resolve_later x (Some (entity.Standard s)) h g = refl
  resolve_later x (Some entity.UnfinishedConstant) h g = refl
  resolve_later x (Some entity.UnfinishedType) h g = refl
  resolve_later x (Some (entity.UnfinishedRoutine r)) h g = g

  row_later : (rows : List RoutineRow) (r : ℕ) → routines_later w rows ≡ true → returns_later w (get_or rows r no_routine).returns ≡ true
  row_later [] r h = refl
  row_later (row ∷ rows) zero h = (and_parts (returns_later w row.returns) (routines_later w rows) h).0
  row_later (row ∷ rows) (suc r) h = row_later rows r (and_parts (returns_later w row.returns) (routines_later w rows) h).1

  pub unfinished_later : (x : Identifier) (e : Entity) → name_after w.at x ≡ true → violations_later w (c4_unfinished x e) ≡ true
  unfinished_later x entity.UnfinishedConstant h = search breaks_later
  unfinished_later x entity.UnfinishedType h = search breaks_later
  unfinished_later x (entity.UnfinishedRoutine r) h = search breaks_later
  unfinished_later x entity.Hidden h = refl
  unfinished_later x (entity.Broken v) h = refl
  unfinished_later x (entity.Constant base n) h = refl
  unfinished_later x (entity.Type t) h = refl
  unfinished_later x (entity.Variable t a) h = refl
  unfinished_later x (entity.Routine r) h = refl
  unfinished_later x (entity.Entry r) h = refl
  unfinished_later x (entity.Standard s) h = refl

  pub constant_named_later : (x : Identifier) (e : Entity) → name_after w.at x ≡ true → judged_later w (c2_constant x e) ≡ true
  constant_named_later x (entity.Constant base n) h = refl
  constant_named_later x entity.UnfinishedConstant h = search breaks_later
  constant_named_later x entity.UnfinishedType h = search (also_later, breaks_later)
  constant_named_later x (entity.UnfinishedRoutine r) h = search (also_later, breaks_later)
  constant_named_later x entity.Hidden h = search breaks_later
  constant_named_later x (entity.Broken v) h = search breaks_later
  constant_named_later x (entity.Type t) h = search breaks_later
  constant_named_later x (entity.Variable t a) h = search breaks_later
  constant_named_later x (entity.Routine r) h = search breaks_later
  constant_named_later x (entity.Entry r) h = search breaks_later
  constant_named_later x (entity.Standard s) h = search breaks_later

module _ (w : Violation) (env : Environment) where
  pub standard_later : (x : Identifier) (e : Entity) → name_after w.at x ≡ true → violations_later w (c9_standard env x e) ≡ true
  standard_later x (entity.Standard s) h = search unless_later
  standard_later x entity.UnfinishedConstant h = refl
  standard_later x entity.UnfinishedType h = refl
  standard_later x (entity.UnfinishedRoutine r) h = refl
  standard_later x entity.Hidden h = refl
  standard_later x (entity.Broken v) h = refl
  standard_later x (entity.Constant base n) h = refl
  standard_later x (entity.Type t) h = refl
  standard_later x (entity.Variable t a) h = refl
  standard_later x (entity.Routine r) h = refl
  standard_later x (entity.Entry r) h = refl

  pub always_later : (x : Identifier) (e : Entity) → name_after w.at x ≡ true → violations_later w (c4_c9_named env x e) ≡ true
  always_later x e h = later_append w (c4_unfinished x e) (c9_standard env x e) (unfinished_later w x e h) (standard_later x e h)

module _ (w : Violation) (env : Environment) (known : environment_later w env ≡ true) where
  pub routine_later : (r : ℕ) → returns_later w (routine_of env r).returns ≡ true
  routine_later r = row_later w env.routines r (and_parts (names_later w env.names) (routines_later w env.routines) known).1

  pub entity_named_later : (x : Identifier) → name_after w.at x ≡ true → entity_judged w (c1_named env x) ≡ true
  entity_named_later x h =
      resolve_later w x (lookup x.name env.names) h
      (lookup_later w x.name env.names (and_parts (names_later w env.names) (routines_later w env.routines) known).0)

  pub named_later : (x : Identifier) → name_after w.at x ≡ true → judged_later w (c1_named env x) ≡ true
  named_later x h = entity_reported w (c1_named env x) (entity_named_later x h)

  pub constant_later : (c : Constant) → constant_after w.at c ≡ true → judged_later w (constant env c) ≡ true
  constant_later (written.Number at n) h = refl
  constant_later (written.Negative at n) h = refl
  constant_later (written.Character at n) h = refl
  constant_later (written.Named x) h =
      with_entity_later w (c1_named env x) (c2_constant x) (entity_named_later x h) (λ e _. constant_named_later w x e h)
