-- What declared parameters and variables are: data, or components of system types that were defined before.
use Rattle.std.proofs.Common.{◌≡◌, ◌⊎◌, inl, inr, ℕ, Bool, true, false, ◌||◌, not, List, [], ◌∷◌, Some, None, slice_get, refl, ap, sym, subst, ◌∙◌}
use Rattle.std.proofs.lemmas.Bool.{true≢false}
use Rattle.cp_model.specs.Abstract as a
use Rattle.cp_model.specs.Erase as erase
use Rattle.cp_model.specs.declared.tree.Sort.{Sort}
use Rattle.cp_model.specs.declared.tree.Sort.TheVariants as sort
use Rattle.cp_model.specs.declared.rules.Entity.{Entity}
use Rattle.cp_model.specs.declared.rules.Entity.TheVariants as entity
use Rattle.cp_model.specs.declared.rules.Position.TheVariants as position
use Rattle.cp_model.specs.RulesEnvironment.{Environment, Names, Text, row_of}
use Rattle.cp_model.specs.RulesTypes.{allows_queues, allows_system}
use Rattle.cp_model.specs.RulesDeclarations.{allows_component}
use Rattle.cp_model.specs.Rules.{variable_position}
use Rattle.cp_model.specs.Types.{ArrayOf, ComponentOf, GlobalScope, Members, NoType, Queue, RecordOf, ResolvedType, Simple}
use Rattle.cp_model.specs.Declarations.{Variable, is_component}
use Rattle.cp_law_typing.specs.Judgement.{IsSimple, has_queues}
use Rattle.cp_law_typing.specs.SoundTypes.{SoundType}
use Rattle.cp_law_typing.specs.Declared.{Each, IsData, InitialVariable, IsSystem, MayBePassed, RoutineParameter, RoutineVariable, SystemParameter, SystemVariable, sort_of}
use Rattle.cp_law_typing.proofs.TableMeanings.{DataRow, RowAs, data_fits, row_data, Tables, TypeAt, Types}
use Rattle.cp_law_typing.proofs.LayerNames.{VariableEntry, VariablesAs}
use Rattle.cp_law_typing.proofs.DeclaredNames.{AllPlaced, AllowsSort, PlacedAs}
use Rattle.cp_law_typing.proofs.Headings.{AllParameters, AllWritten, ParameterAs, WrittenAs}

-- ---- positions

class_alone : (z w : Sort) → allows_system (variable_position z) w ≡ true → erase.sort_of w ≡ a.Class
class_alone z sort.Class h = refl
class_alone sort.Process sort.Process h = absurd (true≢false (sym h))
class_alone sort.Monitor sort.Process h = absurd (true≢false (sym h))
class_alone sort.Class sort.Process h = absurd (true≢false (sym h))
class_alone sort.Process sort.Monitor h = absurd (true≢false (sym h))
class_alone sort.Monitor sort.Monitor h = absurd (true≢false (sym h))
class_alone sort.Class sort.Monitor h = absurd (true≢false (sym h))

monitor_alone : (z : Sort) (b : Bool) → (allows_queues (variable_position z) || not b) ≡ true → b ≡ true → erase.sort_of z ≡ a.Monitor
monitor_alone sort.Monitor b h e = refl
monitor_alone sort.Process true h e = absurd (true≢false (sym h))
monitor_alone sort.Process false h e = absurd (true≢false (sym e))
monitor_alone sort.Class true h e = absurd (true≢false (sym h))
monitor_alone sort.Class false h e = absurd (true≢false (sym e))

no_queues : (b : Bool) → not b ≡ true → b ≡ false
no_queues true h = absurd (true≢false (sym h))
no_queues false h = refl

-- data, or a component of a known type
abbrev pub IsKnown : GlobalScope → List a.System → ResolvedType → Type 0
IsKnown h ys r = IsData h r ⊎ IsSystem h ys r

-- ---- what a type must be, by its place

by_sort : (z w : Sort) (r : ResolvedType) (v : a.System) (i : Members) → r ≡ ComponentOf v i → erase.sort_of w ≡ v.sort → allows_component z w ≡ true
    → MayBePassed (erase.sort_of z) (sort_of r)
by_sort z sort.Monitor r v i is s k = inl (ap sort_of is ∙ ap (λ b. Some b) (sym s))
by_sort sort.Class sort.Class r v i is s k = inr (refl, ap sort_of is ∙ ap (λ b. Some b) (sym s))
by_sort sort.Process sort.Class r v i is s k = absurd (true≢false (sym k))
by_sort sort.Monitor sort.Class r v i is s k = absurd (true≢false (sym k))
by_sort z sort.Process r v i is s k = absurd (true≢false (sym k))

module _ (h : GlobalScope) (ys : List a.System) where
  simple_is_data : (r : ResolvedType) → IsSimple r → IsKnown h ys r → IsData h r
  simple_is_data r s (inl k) = k
  simple_is_data r s (inr k) = absurd (subst (IsSystem h ys) s.1.is k)

  component_is_known : (r : ResolvedType) (v : a.System) (i : Members) → r ≡ ComponentOf v i → IsKnown h ys r → IsSystem h ys r
  component_is_known r v i is (inl k) = absurd (subst SoundType is k.0)
  component_is_known r v i is (inr k) = k

  system_parameter : (z : Sort) (v : Variable) → WrittenAs (Some z) false v.by_reference → ParameterAs (Some z) v.type → IsKnown h ys v.type → (x : Text)
      → SystemParameter h ys (erase.sort_of z) (x, v)
  system_parameter z v w p known x = (w, go p.0)
    where
      go : IsSimple v.type ⊎ ((y : a.System) × (inner : Members) × (v.type ≡ ComponentOf y inner) × (s : Sort) × (erase.sort_of s ≡ y.sort) × (allows_component z s ≡ true))
          → (IsSimple v.type × IsData h v.type) ⊎ (IsSystem h ys v.type × MayBePassed (erase.sort_of z) (sort_of v.type))
      go (inl s) = inl (s, simple_is_data v.type s known)
      go (inr c) = inr (component_is_known v.type c.0 c.1 c.2 known, by_sort z c.3 v.type c.0 c.1 c.2 c.4 c.5)

  system_variable : (z : Sort) (v : Variable) → v.by_reference ≡ false → PlacedAs (variable_position z) v.type → IsKnown h ys v.type → (x : Text)
      → SystemVariable h ys (erase.sort_of z) (x, v)
  system_variable z v w p (inl k) x = (w, inl (k, monitor_alone z (has_queues v.type) p.1))
  system_variable z v w p (inr k) x = (w, inr (k, class_of v.type k p.0))
    where
      class_of : (r : ResolvedType) → IsSystem h ys r → ((y : a.System) (inner : Members) → r ≡ ComponentOf y inner → AllowsSort (variable_position z) y.sort)
          → sort_of r ≡ Some a.Class
      class_of (ComponentOf y inner) k f =
          let s : AllowsSort (variable_position z) y.sort = f y inner refl in
          ap (λ b. Some b) (sym s.1 ∙ class_alone z s.0 s.2)
      class_of (Simple b low high start) k f = absurd k
      class_of (ArrayOf lo hi r) k f = absurd k
      class_of (RecordOf ps) k f = absurd k
      class_of Queue k f = absurd k
      class_of NoType k f = absurd k

  initial_variable : (v : Variable) → v.by_reference ≡ false → PlacedAs position.InitialVariable v.type → IsKnown h ys v.type → (x : Text) → InitialVariable h ys (x, v)
  initial_variable v w p (inl k) x = (w, inl (k, no_queues (has_queues v.type) p.1))
  initial_variable v w p (inr k) x = (w, inr k)

  known_is_data : (r : ResolvedType) → is_component r ≡ false → IsKnown h ys r → IsData h r
  known_is_data r alone (inl k) = k
  known_is_data (ComponentOf y inner) alone (inr k) = absurd (true≢false alone)
  known_is_data (Simple b low high start) alone (inr k) = absurd k
  known_is_data (ArrayOf lo hi r) alone (inr k) = absurd k
  known_is_data (RecordOf ps) alone (inr k) = absurd k
  known_is_data Queue alone (inr k) = absurd k
  known_is_data NoType alone (inr k) = absurd k

  routine_variable : (v : Variable) → v.by_reference ≡ false → PlacedAs position.RoutineVariable v.type → IsKnown h ys v.type → (x : Text) → RoutineVariable h (x, v)
  routine_variable v w p known x = (sound v.type p.0 known, no_queues (has_queues v.type) p.1, w)
    where
      sound : (r : ResolvedType) → ((y : a.System) (inner : Members) → r ≡ ComponentOf y inner → AllowsSort position.RoutineVariable y.sort) → IsKnown h ys r → IsData h r
      sound (ComponentOf y inner) f k = let s : AllowsSort position.RoutineVariable y.sort = f y inner refl in absurd (true≢false (sym s.2))
      sound (Simple b low high start) f k = known_is_data (Simple b low high start) refl k
      sound (ArrayOf lo hi r) f k = known_is_data (ArrayOf lo hi r) refl k
      sound (RecordOf ps) f k = known_is_data (RecordOf ps) refl k
      sound Queue f k = known_is_data Queue refl k
      sound NoType f k = known_is_data NoType refl k

-- ---- what tables say of declared types

module _ (G : GlobalScope → Type 0) (ys : List a.System) (env : Environment) (ts : Types) (tables : Tables G env ts)
    (systems : (t : ℕ) (w : a.System) (inner : Members) → TypeAt ts t (ComponentOf w inner) → (i : ℕ) × (slice_get ys i ≡ Some w)) (h : GlobalScope) (in_scope : G h) where
  type_known : (t : ℕ) (r : ResolvedType) → TypeAt ts t r → IsKnown h ys r
  type_known t r there = go r there (tables.rows t r there)
    where
      data_here : (r : ResolvedType) → RowAs G env ts (row_of env t) r → is_component r ≡ false → IsData h r
      data_here r row alone = let d : DataRow G (row_of env t) r = row_data G env ts (row_of env t) r row alone in data_fits G (row_of env t) r d h in_scope

      go : (r : ResolvedType) → TypeAt ts t r → RowAs G env ts (row_of env t) r → IsKnown h ys r
      go (ComponentOf y inner) there row = let k : (i : ℕ) × (slice_get ys i ≡ Some y) = systems t y inner there in inr (k.0, k.1, row.reported h in_scope)
      go (Simple b low high start) there row = inl (data_here (Simple b low high start) row refl)
      go (ArrayOf lo hi r) there row = inl (data_here (ArrayOf lo hi r) row refl)
      go (RecordOf ps) there row = inl (data_here (RecordOf ps) row refl)
      go Queue there row = inl (data_here Queue row refl)
      go NoType there row = inl (data_here NoType row refl)

  entry_known : (q : Bool) (e : Entity) (v : Variable) → VariableEntry q ts e v → IsKnown h ys v.type
  entry_known q (entity.Variable t acc) v k = type_known t v.type k.0
  entry_known q _ v k = absurd k

  entry_by_value : (e : Entity) (v : Variable) → VariableEntry false ts e v → v.by_reference ≡ false
  entry_by_value (entity.Variable t acc) v k = k.1.1
  entry_by_value _ v k = absurd k

  pub system_parameters : (z : Sort) (vs : Names) (ds : List (Text × Variable)) → AllParameters (Some z) ds → AllWritten (Some z) false ds → VariablesAs true ts vs ds
      → Each (SystemParameter h ys (erase.sort_of z)) ds
  system_parameters z [] [] p w m = tt
  system_parameters z (v ∷ vs) (d ∷ ds) p w m = (system_parameter h ys z d.1 w.0 p.0 (entry_known true v.1 d.1 m.1) d.0, system_parameters z vs ds p.1 w.1 m.2)
  system_parameters z [] (d ∷ ds) p w m = absurd m
  system_parameters z (v ∷ vs) [] p w m = absurd m

  pub system_variables : (z : Sort) (vs : Names) (ds : List (Text × Variable)) → AllPlaced (variable_position z) ds → VariablesAs false ts vs ds
      → Each (SystemVariable h ys (erase.sort_of z)) ds
  system_variables z [] [] p m = tt
  system_variables z (v ∷ vs) (d ∷ ds) p m = (system_variable h ys z d.1 (entry_by_value v.1 d.1 m.1) p.0 (entry_known false v.1 d.1 m.1) d.0, system_variables z vs ds p.1 m.2)
  system_variables z [] (d ∷ ds) p m = absurd m
  system_variables z (v ∷ vs) [] p m = absurd m

  pub initial_variables : (vs : Names) (ds : List (Text × Variable)) → AllPlaced position.InitialVariable ds → VariablesAs false ts vs ds → Each (InitialVariable h ys) ds
  initial_variables [] [] p m = tt
  initial_variables (v ∷ vs) (d ∷ ds) p m = (initial_variable h ys d.1 (entry_by_value v.1 d.1 m.1) p.0 (entry_known false v.1 d.1 m.1) d.0, initial_variables vs ds p.1 m.2)
  initial_variables [] (d ∷ ds) p m = absurd m
  initial_variables (v ∷ vs) [] p m = absurd m

  pub routine_parameters : (f : Bool) (vs : Names) (ds : List (Text × Variable)) → AllParameters None ds → AllWritten None f ds → VariablesAs true ts vs ds
      → Each (RoutineParameter h f) ds
  routine_parameters f [] [] p w m = tt
  routine_parameters f (v ∷ vs) (d ∷ ds) p w m =
      ((known_is_data h ys d.1.type p.0.0 (entry_known true v.1 d.1 m.1), p.0.1, w.0), routine_parameters f vs ds p.1 w.1 m.2)
  routine_parameters f [] (d ∷ ds) p w m = absurd m
  routine_parameters f (v ∷ vs) [] p w m = absurd m

  pub routine_variables : (vs : Names) (ds : List (Text × Variable)) → AllPlaced position.RoutineVariable ds → VariablesAs false ts vs ds → Each (RoutineVariable h) ds
  routine_variables [] [] p m = tt
  routine_variables (v ∷ vs) (d ∷ ds) p m = (routine_variable h ys d.1 (entry_by_value v.1 d.1 m.1) p.0 (entry_known false v.1 d.1 m.1) d.0, routine_variables vs ds p.1 m.2)
  routine_variables [] (d ∷ ds) p m = absurd m
  routine_variables (v ∷ vs) [] p m = absurd m
