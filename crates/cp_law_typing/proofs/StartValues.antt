-- At the start, each leaf of each variable has its start value.
--
-- Everything that is written at one location is one value: the leaves of one variable have distinct
-- paths, the names of one component differ, and the owners of different variables have different
-- numbers. What was written stays.
use Rattle.std.proofs.Common.{true, ◌≡◌, ◌⊎◌, inl, inr, ℕ, ◌+◌, List, [], ◌∷◌, ◌++◌, map, flat_map, refl, ap, sym, subst, ◌∙◌, arith}
use Rattle.cp_model.specs.Abstract.{Class, Monitor, Name, Process, Sort, System}
use Rattle.cp_model.specs.Names.{lookup}
use Rattle.cp_model.specs.Types.{ArrayOf, ComponentOf, GlobalScope, Members, NoMembers, NoType, Queue, RecordOf, ResolvedType, Simple}
use Rattle.cp_model.specs.Declarations.{Variable, declarations, globals}
use Rattle.cp_model.specs.Locations.{ByName, Location, OfMonitor, OfProcess, Owner, Path, root, under}
use Rattle.cp_model.specs.Stores.{Absent, Value, Writes}
use Rattle.cp_model.specs.Leaves.{Leaf, leaves, leaves_of_members}
use Rattle.cp_model.specs.Assignments.{starting_writes}
use Rattle.cp_model.specs.Environments.{Environment}
use Rattle.cp_model.specs.Components.{count_before, is_component_of, process_location, same_sort}
use Rattle.cp_model.specs.States.{Setup, initial_variables}
use Rattle.cp_model.specs.Start.{component_writes, initial_environment, initial_writes, variable_writes}
use Rattle.cp_law_typing.specs.Declared.{Distinct, Each, InitialVariable}
use Rattle.cp_law_typing.specs.SoundTypes.{SoundType}
use Rattle.cp_law_typing.specs.WellTyped.{WellTyped, text_systems}
use Rattle.cp_law_typing.specs.StartValues.{ComponentStarts, IsIn, StartsAt, VariablesStart, declared_component}
use Rattle.cp_law_typing.proofs.Visible.{some_same}
use Rattle.cp_law_typing.proofs.Leaves.{Functional, in_either, in_first, in_flat, in_mapped, in_second, members_functional, of_flat, of_mapped, step_same}
use Rattle.cp_law_typing.proofs.MemberLeaves.{all_good, initial_functional, system_good}
use Rattle.cp_law_typing.proofs.StartWrites.{OneValue, found_in, numbers_apart, written}

pub each_in : (P : Name × Variable → Type 0) (ds : List (Name × Variable)) (d : Name × Variable) → Each P ds → IsIn d ds → P d
each_in P [] d h g = absurd g
each_in P (e ∷ ds) d h (inl g) = subst P (sym g) h.0
each_in P (e ∷ ds) d h (inr g) = each_in P ds d h.1 g

-- the number of an owner
abbrev pub process_in : Owner → ℕ
process_in (OfProcess n) = n
process_in _ = 0

abbrev monitor_in : Owner → ℕ
monitor_in (OfMonitor n) = n
monitor_in _ = 0

pub name_same : (x y : Name) (p q : Path) → ByName x ∷ p ≡ ByName y ∷ q → (x ≡ y) × (p ≡ q)
name_same x y p q h = let k = step_same (ByName x) (ByName y) p q h in (cc k.0, k.1)

abbrev pub members_in : ResolvedType → Members
members_in (ComponentOf y ps) = ps
members_in _ = NoMembers

module _ (setup : Setup) (typed : WellTyped setup) where
  abbrev g : GlobalScope
  g = globals setup.tree

  abbrev env : Environment
  env = initial_environment setup

  abbrev ds : List (Name × Variable)
  ds = initial_variables setup

  abbrev pub own_writes : Writes
  own_writes = starting_writes (process_location 1) ds

  abbrev pub other_writes : Writes
  other_writes = flat_map (λ v. variable_writes env v.0 v.1.type) ds

  pub distinct : Distinct ds
  distinct = subst (λ ps. Distinct (declarations g ps ++ ds)) typed.initial_parameters typed.initial_bodies.distinct

  -- a name has one declaration
  pub same_variable : (x y : Name) (v w : Variable) → IsIn (x, v) ds → IsIn (y, w) ds → x ≡ y → v ≡ w
  same_variable x y v w h k is =
      some_same (lookup x ds) v w (found_in ds x v distinct h) (ap (λ z. lookup z ds) is ∙ found_in ds y w distinct k)

  functional : (x : Name) (v : Variable) → IsIn (x, v) ds → Functional (leaves v.type)
  functional x v h = each_in (λ d. Functional (leaves d.1.type)) ds (x, v) (initial_functional g (text_systems setup) (all_good setup typed) ds typed.initial_variables) h

  members_of_component : (x : Name) (v : Variable) (s : System) (inner : Members) → IsIn (x, v) ds → v.type ≡ ComponentOf s inner → Functional (leaves_of_members inner)
  members_of_component x v s inner h is =
      elim (each_in (InitialVariable g (text_systems setup)) ds (x, v) typed.initial_variables h).1 [
        | inl k ↦ absurd (subst SoundType is k.0.0)
        | inr k ↦ members_functional inner (system_good g (text_systems setup) (all_good setup typed) v.type k s inner is)
      ]

  -- ---- what was written at each location

  pub record OwnWrite (l : Location) (v : Value) : Type 0 where
    pub name : Name
    pub variable : Variable
    pub there : IsIn (name, variable) ds
    pub path : Path
    pub leaf : IsIn (path, v) (leaves variable.type)
    pub lies : l ≡ under (process_location 1) (ByName name ∷ path)

  pub own_write : (l : Location) (v : Value) → IsIn (l, v) own_writes → OwnWrite l v
  own_write l v h =
      let k = of_flat (λ d. map (λ leaf. (under (process_location 1) (ByName d.0 ∷ leaf.0), leaf.1)) (leaves d.1.type)) (l, v) ds h in
      let m = of_mapped (λ leaf. (under (process_location 1) (ByName k.0.0 ∷ leaf.0), leaf.1)) (l, v) (leaves k.0.1.type) k.2 in
      record {
        name = k.0.0;
        variable = k.0.1;
        there = k.1;
        path = m.0.0;
        leaf = subst (λ w. IsIn (m.0.0, w) (leaves k.0.1.type)) (sym (ap (λ z. z.1) m.2)) m.1;
        lies = ap (λ z. z.0) m.2;
      }

  abbrev pub IsOwnedBy : Sort → Name → Owner → Type 0
  IsOwnedBy Process x o = o ≡ OfProcess (2 + count_before Process x ds)
  IsOwnedBy Monitor x o = o ≡ OfMonitor (1 + count_before Monitor x ds)
  IsOwnedBy Class x o = ⊥

  pub record OtherWrite (x : Name) (t : ResolvedType) (l : Location) (v : Value) : Type 0 where
    pub system : System
    pub inner : Members
    pub type : t ≡ ComponentOf system inner
    pub leaf : IsIn (l.path, v) (leaves_of_members inner)
    pub owner : IsOwnedBy system.sort x l.owner

  -- the writes of a component at its root
  abbrev write_at : Owner → Leaf → Location × Value
  write_at o leaf = (under (root o) leaf.0, leaf.1)

  other_write : (x : Name) (t : ResolvedType) (l : Location) (v : Value) → IsIn (l, v) (variable_writes env x t) → OtherWrite x t l v
  other_write x (ComponentOf s inner) l v h = go s.sort refl h
    where
      owned : (z : Sort) → s.sort ≡ z → (o : Owner) → IsOwnedBy z x o → IsIn (l, v) (map (write_at o) (leaves_of_members inner))
          → OtherWrite x (ComponentOf s inner) l v
      owned z is o by h =
          let m : (leaf : Leaf) × IsIn leaf (leaves_of_members inner) × ((l, v) ≡ write_at o leaf) = of_mapped (write_at o) (l, v) (leaves_of_members inner) h in
          record {
            system = s;
            inner = inner;
            type = refl;
            leaf = subst (λ q. IsIn {A = Leaf} (q, v) (leaves_of_members inner)) (sym (ap (λ z. z.0.path) m.2))
                (subst (λ w. IsIn {A = Leaf} (m.0.0, w) (leaves_of_members inner)) (sym (ap (λ z. z.1) m.2)) m.1);
            owner = subst (λ z. IsOwnedBy z x l.owner) (sym is) (subst (IsOwnedBy z x) (sym (ap (λ z. z.0.owner) m.2)) by);
          }

      go : (z : Sort) → s.sort ≡ z → IsIn (l, v) (component_writes env (declared_component x s) z inner) → OtherWrite x (ComponentOf s inner) l v
      go Process is h = owned Process is (OfProcess (2 + count_before Process x ds)) refl h
      go Monitor is h = owned Monitor is (OfMonitor (1 + count_before Monitor x ds)) refl h
      go Class is h = absurd h
  other_write x (Simple b low high start) l v h = absurd h
  other_write x (ArrayOf lo hi t) l v h = absurd h
  other_write x (RecordOf ps) l v h = absurd h
  other_write x Queue l v h = absurd h
  other_write x NoType l v h = absurd h

  pub other_from : (l : Location) (v : Value) → IsIn (l, v) other_writes → (x : Name) × (w : Variable) × IsIn (x, w) ds × OtherWrite x w.type l v
  other_from l v h = let k = of_flat (λ d. variable_writes env d.0 d.1.type) (l, v) ds h in (k.0.0, k.0.1, k.1, other_write k.0.0 k.0.1.type l v k.2)

  -- no process or monitor has the number of the initial process
  pub not_first : (z : Sort) (x : Name) (o : Owner) → IsOwnedBy z x o → o ≡ OfProcess 1 → ⊥
  not_first Process x o h is = omega (arith, ap process_in (sym h ∙ is))
  not_first Monitor x o h is = cc
  not_first Class x o h is = h

  -- ---- the variables of the initial process

  own_value : (x : Name) (v : Variable) (path : Path) (w : Value) → IsIn (x, v) ds → IsIn (path, w) (leaves v.type)
      → OneValue (initial_writes setup) (under (process_location 1) (ByName x ∷ path)) w
  own_value x v path w there leaf u h = go (in_either _ own_writes other_writes h)
    where
      go : IsIn (under (process_location 1) (ByName x ∷ path), u) own_writes ⊎ IsIn (under (process_location 1) (ByName x ∷ path), u) other_writes → u ≡ w
      go (inl k) =
          let o : OwnWrite (under (process_location 1) (ByName x ∷ path)) u = own_write _ u k in
          let same : (x ≡ o.name) × (path ≡ o.path) = name_same x o.name path o.path (ap (λ l. l.path) o.lies) in
          let variable : o.variable ≡ v = same_variable o.name x o.variable v o.there there (sym same.0) in
          functional x v there path u w (subst (λ q. IsIn (q, u) (leaves v.type)) (sym same.1) (subst (λ z. IsIn (o.path, u) (leaves z.type)) variable o.leaf)) leaf
      go (inr k) = let o = other_from _ u k in absurd (not_first o.3.system.sort o.0 _ o.3.owner refl)

  initial_starts : (x : Name) (v : Variable) → IsIn (x, v) ds → StartsAt setup (under (process_location 1) (ByName x ∷ [])) (leaves v.type)
  initial_starts x v there path w leaf =
      written (initial_writes setup) (λ l. Absent) (under (process_location 1) (ByName x ∷ path)) w (own_value x v path w there leaf)
      (in_first _ own_writes other_writes
      (in_flat (λ d. map (λ leaf. (under (process_location 1) (ByName d.0 ∷ leaf.0), leaf.1)) (leaves d.1.type)) (x, v) _ ds there
      (in_mapped (λ leaf. (under (process_location 1) (ByName x ∷ leaf.0), leaf.1)) (path, w) (leaves v.type) leaf)))

  -- ---- processes and monitors

  is_of_sort : (s : Sort) (t : ResolvedType) (y : System) (inner : Members) → t ≡ ComponentOf y inner → y.sort ≡ s → is_component_of s t ≡ same_sort s s
  is_of_sort s t y inner is sort = ap (is_component_of s) is ∙ ap (same_sort s) sort

  -- an owner belongs to one variable
  one_name : (z : Sort) (x y : Name) (v w : Variable) (s r : System) (ps qs : Members) (o : Owner) → IsIn (x, v) ds → IsIn (y, w) ds → v.type ≡ ComponentOf s ps
      → w.type ≡ ComponentOf r qs → s.sort ≡ z → IsOwnedBy z x o → IsOwnedBy r.sort y o → x ≡ y
  one_name z x y v w s r ps qs o there too is type sort own other = go z r.sort refl own other sort
    where
      apart : (z : Sort) → same_sort z z ≡ true → s.sort ≡ z → r.sort ≡ z → count_before z x ds ≡ count_before z y ds → x ≡ y
      apart z truth sort other_sort same =
          numbers_apart z ds x y v w (found_in ds x v distinct there) (is_of_sort z v.type s ps is sort ∙ truth) (found_in ds y w distinct too)
          (is_of_sort z w.type r qs type other_sort ∙ truth) same

      go : (z k : Sort) → r.sort ≡ k → IsOwnedBy z x o → IsOwnedBy k y o → s.sort ≡ z → x ≡ y
      go Process Process e own other sort = apart Process refl sort e (omega (arith, ap process_in (sym own ∙ other)))
      go Monitor Monitor e own other sort = apart Monitor refl sort e (omega (arith, ap monitor_in (sym own ∙ other)))
      go Process Monitor e own other sort = absurd (cc (own, other))
      go Monitor Process e own other sort = absurd (cc (own, other))
      go Class k e own other sort = absurd own
      go z Class e own other sort = absurd other

  component_value : (z : Sort) (x : Name) (v : Variable) (s : System) (inner : Members) (o : Owner) (path : Path) (w : Value) → IsIn (x, v) ds → v.type ≡ ComponentOf s inner
      → s.sort ≡ z → IsOwnedBy z x o → IsIn (path, w) (leaves_of_members inner) → OneValue (initial_writes setup) (under (root o) path) w
  component_value z x v s inner o path w there is sort own leaf u h = go (in_either _ own_writes other_writes h)
    where
      go : IsIn (under (root o) path, u) own_writes ⊎ IsIn (under (root o) path, u) other_writes → u ≡ w
      go (inl k) = let m : OwnWrite (under (root o) path) u = own_write _ u k in absurd (not_first z x o own (ap (λ l. l.owner) m.lies))
      go (inr k) =
          let m : (y : Name) × (q : Variable) × IsIn (y, q) ds × OtherWrite y q.type (under (root o) path) u = other_from _ u k in
          let name : x ≡ m.0 = one_name z x m.0 v m.1 s m.3.system inner m.3.inner o there m.2 is m.3.type sort own m.3.owner in
          let variable : m.1 ≡ v = same_variable m.0 x m.1 v m.2 there (sym name) in
          let members : m.3.inner ≡ inner = ap members_in (sym m.3.type ∙ ap (λ q. q.type) variable ∙ is) in
          members_of_component x v s inner there is path u w (subst (λ ps. IsIn (path, u) (leaves_of_members ps)) members m.3.leaf) leaf

  starts_there : (z : Sort) (x : Name) (v : Variable) (s : System) (inner : Members) (o : Owner) → IsIn (x, v) ds → v.type ≡ ComponentOf s inner → s.sort ≡ z → IsOwnedBy z x o
      → component_writes env (declared_component x s) z inner ≡ map (write_at o) (leaves_of_members inner) → StartsAt setup (root o) (leaves_of_members inner)
  starts_there z x v s inner o there is sort own writes path w leaf =
      let among : IsIn (under (root o) path, w) (component_writes env (declared_component x s) z inner) =
      subst (IsIn (under (root o) path, w)) (sym writes) (in_mapped (write_at o) (path, w) (leaves_of_members inner) leaf) in
      let of_variable : IsIn (under (root o) path, w) (variable_writes env x v.type) =
      subst (λ t. IsIn (under (root o) path, w) (variable_writes env x t)) (sym is)
      (subst (λ k. IsIn (under (root o) path, w) (component_writes env (declared_component x s) k inner)) (sym sort) among) in
      written (initial_writes setup) (λ l. Absent) (under (root o) path) w (component_value z x v s inner o path w there is sort own leaf)
      (in_second _ own_writes other_writes (in_flat (λ d. variable_writes env d.0 d.1.type) (x, v) _ ds there of_variable))

  component_starts : (x : Name) (v : Variable) (s : System) (inner : Members) → IsIn (x, v) ds → v.type ≡ ComponentOf s inner → ComponentStarts setup x s inner
  component_starts x v s inner there is = record {
    process = λ sort. starts_there Process x v s inner (OfProcess (2 + count_before Process x ds)) there is sort refl refl;
    monitor = λ sort. starts_there Monitor x v s inner (OfMonitor (1 + count_before Monitor x ds)) there is sort refl refl;
  }

pub variables_start : (setup : Setup) → WellTyped setup → VariablesStart setup
variables_start setup typed = record { initial = initial_starts setup typed; components = component_starts setup typed }
