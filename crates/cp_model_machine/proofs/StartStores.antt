-- What the store of the start holds for a process or a monitor: the start value at each leaf of its
-- members, and nothing elsewhere.
use Rattle.std.proofs.Common.{◌≡◌, ◌⊎◌, inl, inr, ℕ, zero, suc, Bool, true, false, List, [], ◌∷◌, map, Some, refl, ap, sym, subst, ◌∙◌, arith}
use Rattle.std.specs.Prelude.{filter, if◌then◌else◌}
use Rattle.std.proofs.lemmas.Bool.{true≢false}
use Rattle.cp_model.specs.Abstract.{Class, Monitor, Name, Process, Sort, System}
use Rattle.cp_model.specs.Components.{count_before, is_component_of, process_location, same_sort}
use Rattle.cp_model.specs.Declarations.{Variable, globals, members_from, reported_members}
use Rattle.cp_model.specs.Leaves.{below_step, leaves, leaves_of_members}
use Rattle.cp_model.specs.Locations.{ByName, Location, OfMonitor, OfProcess, Owner, Path, root, under}
use Rattle.cp_model.specs.Report.{components_of}
use Rattle.cp_model.specs.Start.{initial_writes, start}
use Rattle.cp_model.specs.States.{Setup, initial_variables}
use Rattle.cp_model.specs.Stores.{Absent, Value}
use Rattle.cp_model.specs.Types.{ComponentOf, Members, NoMembers, ResolvedType}
use Rattle.cp_model.proofs.Options.{same_some}
use Rattle.cp_law_typing.specs.Declared.{Distinct, InitialVariable, IsData, IsSystem}
use Rattle.cp_law_typing.specs.Judgement.{has_queues}
use Rattle.cp_law_typing.specs.StartValues.{ComponentStarts, IsIn, StartsAt}
use Rattle.cp_law_typing.specs.WellTyped.{WellTyped, text_systems}
use Rattle.cp_law_typing.proofs.Leaves.{in_either, in_first, in_mapped, in_second, of_below}
use Rattle.cp_law_typing.proofs.Names.{bytes_eq-refl}
use Rattle.cp_law_typing.proofs.StartValues.{IsOwnedBy, OtherWrite, each_in, distinct, members_in, not_first, other_from, other_writes, own_write, own_writes, process_in, same_variable, variables_start}
use Rattle.cp_law_typing.proofs.StartWrites.{found_in, numbers_apart}
use Rattle.cp_model_program.specs.IsProgramFor.{component_at, component_in}
use Rattle.cp_model_machine.proofs.Finding.{some_is_not_none}
use Rattle.cp_model_machine.proofs.InitOffsets.{other_name}
use Rattle.cp_model_machine.proofs.Naming.{initial_reported, initial_system_named, system_named}
use Rattle.cp_model_machine.proofs.PartLeaves.{NamedMembers}
use Rattle.cp_model_machine.proofs.ProcessRights.{is_process}
use Rattle.cp_model_machine.proofs.StartLeaves.{not_written}

-- The process or monitor of this system type starts with these values.
pub record Owns (setup : Setup) (o : Owner) (s : System) : Type 0 where
  pub named : NamedMembers (reported_members (globals setup.tree) s)
  pub starts : (path : Path) (v : Value) → IsIn (path, v) (leaves_of_members (reported_members (globals setup.tree) s)) → (start setup).store (under (root o) path) ≡ v
  pub absent : (l : Location) → l.owner ≡ o → ((v : Value) → IsIn (l.path, v) (leaves_of_members (reported_members (globals setup.tree) s)) → ⊥)
      → (start setup).store l ≡ Absent

-- ---- the initial process

-- A leaf of declared members is one of a variable.
of_members : (vs : List (Name × Variable)) (path : Path) (v : Value) → IsIn (path, v) (leaves_of_members (members_from vs NoMembers))
    → (d : Name × Variable) × IsIn d vs × ((rest : Path) × (path ≡ ByName d.0 ∷ rest) × IsIn (rest, v) (leaves d.1.type))
of_members [] path v h = absurd h
of_members (d ∷ vs) path v h = by (in_either (path, v) (map (below_step (ByName d.0)) (leaves d.1.type)) (leaves_of_members (members_from vs NoMembers)) h) (of_members vs path v)
  where
    by : IsIn (path, v) (map (below_step (ByName d.0)) (leaves d.1.type)) ⊎ IsIn (path, v) (leaves_of_members (members_from vs NoMembers))
        → (IsIn (path, v) (leaves_of_members (members_from vs NoMembers)) → (e : Name × Variable) × IsIn e vs × ((rest : Path) × (path ≡ ByName e.0 ∷ rest) × IsIn (rest, v) (leaves e.1.type)))
        → (e : Name × Variable) × IsIn e (d ∷ vs) × ((rest : Path) × (path ≡ ByName e.0 ∷ rest) × IsIn (rest, v) (leaves e.1.type))
    by (inl k) go = (d, inl refl, of_below (ByName d.0) path v (leaves d.1.type) k)
    by (inr k) go = let r = go k in (r.0, inr r.1, r.2)

in_members : (vs : List (Name × Variable)) (d : Name × Variable) (rest : Path) (v : Value) → IsIn d vs → IsIn (rest, v) (leaves d.1.type)
    → IsIn (ByName d.0 ∷ rest, v) (leaves_of_members (members_from vs NoMembers))
in_members [] d rest v i h = absurd i
in_members (e ∷ vs) d rest v (inl i) h =
    in_first (ByName d.0 ∷ rest, v) (map (below_step (ByName e.0)) (leaves e.1.type)) (leaves_of_members (members_from vs NoMembers))
    (subst (λ (z : Name × Variable). IsIn (ByName d.0 ∷ rest, v) (map (below_step (ByName z.0)) (leaves z.1.type))) i (in_mapped (below_step (ByName d.0)) (rest, v) (leaves d.1.type) h))
in_members (e ∷ vs) d rest v (inr i) h =
    in_second (ByName d.0 ∷ rest, v) (map (below_step (ByName e.0)) (leaves e.1.type)) (leaves_of_members (members_from vs NoMembers)) (in_members vs d rest v i h)

pub initial_owns : (setup : Setup) → WellTyped setup → Owns setup (OfProcess 1) setup.tree.initial
initial_owns setup typed = record {
  named = initial_system_named setup typed (distinct setup typed);
  starts = λ path v h.
      let d = of_members (initial_variables setup) path v (subst (λ ms. IsIn (path, v) (leaves_of_members ms)) reported h) in
      ap (λ q. (start setup).store (under (process_location 1) q)) d.2.1 ∙ (variables_start setup typed).initial d.0.0 d.0.1 d.1 d.2.0 v d.2.2;
  absent = λ l owner none. not_written (initial_writes setup) (λ k. Absent) l (λ v h. by l owner none v (in_either (l, v) (own_writes setup typed) (other_writes setup typed) h));
}
  where
    reported : reported_members (globals setup.tree) setup.tree.initial ≡ members_from (initial_variables setup) NoMembers
    reported = initial_reported setup typed

    by : (l : Location) → l.owner ≡ OfProcess 1 → ((v : Value) → IsIn (l.path, v) (leaves_of_members (reported_members (globals setup.tree) setup.tree.initial)) → ⊥) → (v : Value)
        → IsIn (l, v) (own_writes setup typed) ⊎ IsIn (l, v) (other_writes setup typed) → ⊥
    by l owner none v (inl h) =
        let w = own_write setup typed l v h in
        none v (subst (λ ms. IsIn (l.path, v) (leaves_of_members ms)) (sym reported)
        (subst (λ q. IsIn (q, v) (leaves_of_members (members_from (initial_variables setup) NoMembers))) (sym (ap (λ (k : Location). k.path) w.lies))
        (in_members (initial_variables setup) (w.name, w.variable) w.path v w.there w.leaf)))
    by l owner none v (inr h) = let w = other_from setup typed l v h in not_first setup typed w.3.system.sort w.0 l.owner w.3.owner owner

-- ---- the others

-- The component with the number `k` among those of its sort has `k` such components before it.
numbered : (z : Sort) (ds : List (Name × Variable)) (k : ℕ) (s : System) → Distinct ds → component_at (filter (λ v. is_component_of z v.1.type) ds) k ≡ Some s
    → (d : Name × Variable) × IsIn d ds × (is_component_of z d.1.type ≡ true) × (component_in d.1.type ≡ Some s) × (count_before z d.0 ds ≡ k)
numbered z [] k s distinct' h = absurd (some_is_not_none s (sym h))
numbered z (e ∷ ds) k s distinct' h = by (is_component_of z e.1.type) refl k h (λ j q. numbered z ds j s distinct'.1 q)
  where
    Answer : ℕ → Type 0
    Answer j = (d : Name × Variable) × IsIn d (e ∷ ds) × (is_component_of z d.1.type ≡ true) × (component_in d.1.type ≡ Some s) × (count_before z d.0 (e ∷ ds) ≡ j)

    count_later : (d : Name × Variable) (b : Bool) → is_component_of z e.1.type ≡ b → IsIn d ds → count_before z d.0 (e ∷ ds) ≡ (if b then suc (count_before z d.0 ds) else count_before z d.0 ds)
    count_later d b is i = λ y. if other_name e d ds distinct' i y then 0 else if is y then suc (count_before z d.0 ds) else count_before z d.0 ds

    by : (b : Bool) → is_component_of z e.1.type ≡ b → (j : ℕ) → component_at (if b then e ∷ filter (λ v. is_component_of z v.1.type) ds else filter (λ v. is_component_of z v.1.type) ds) j ≡ Some s
        → ((i : ℕ) → component_at (filter (λ v. is_component_of z v.1.type) ds) i ≡ Some s → (d : Name × Variable) × IsIn d ds × (is_component_of z d.1.type ≡ true) × (component_in d.1.type ≡ Some s) × (count_before z d.0 ds ≡ i))
        → Answer j
    by true is zero h go =
        (e, inl refl, is, h, λ y. if bytes_eq-refl e.0 y then 0 else if is_component_of z e.1.type then suc (count_before z e.0 ds) else count_before z e.0 ds)
    by true is (suc j) h go = let r = go j h in (r.0, inr r.1, r.2, r.3, count_later r.0 true is r.1 ∙ ap suc r.4)
    by false is j h go = let r = go j h in (r.0, inr r.1, r.2, r.3, count_later r.0 false is r.1 ∙ r.4)

-- The number of a component of a sort is determined by its owner.
pub record IsNumbered (setup : Setup) (typed : WellTyped setup) (z : Sort) (k : ℕ) (o : Owner) : Type 0 where
  pub other : o ≡ OfProcess 1 → ⊥
  pub one : (x : Name) (y : Sort) → IsOwnedBy setup typed y x o → (y ≡ z) × (count_before z x (initial_variables setup) ≡ k)
  pub is_sort : (y : Sort) → same_sort z y ≡ true → y ≡ z
  pub starts : (x : Name) (s : System) (inner : Members) → ComponentStarts setup x s inner → s.sort ≡ z → count_before z x (initial_variables setup) ≡ k → StartsAt setup (root o) (leaves_of_members inner)

module _ (setup : Setup) (typed : WellTyped setup) (z : Sort) (itself : same_sort z z ≡ true) (k : ℕ) (o : Owner) (numbers : IsNumbered setup typed z k o) where
  pub component_owns : (s : System) → component_at (components_of setup z) k ≡ Some s → Owns setup o s
  component_owns s h =
      by d.0.1.type refl (each_in (InitialVariable (globals setup.tree) (text_systems setup)) (initial_variables setup) d.0 typed.initial_variables d.1).1 d.2 d.3
    where
      d : (d : Name × Variable) × IsIn d (initial_variables setup) × (is_component_of z d.1.type ≡ true) × (component_in d.1.type ≡ Some s) × (count_before z d.0 (initial_variables setup) ≡ k)
      d = numbered z (initial_variables setup) k s (distinct setup typed) h

      owns : (inner : Members) → d.0.1.type ≡ ComponentOf s inner → s.sort ≡ z → inner ≡ reported_members (globals setup.tree) s → NamedMembers (reported_members (globals setup.tree) s) → Owns setup o s
      owns inner type sort same named = record {
        named = named;
        starts = λ path v leaf.
            numbers.starts d.0.0 s inner ((variables_start setup typed).components d.0.0 d.0.1 s inner d.1 type) sort d.4 path v (subst (λ ms. IsIn (path, v) (leaves_of_members ms)) (sym same) leaf);
        absent = λ l owner none. not_written (initial_writes setup) (λ j. Absent) l (λ v w. elsewhere l owner none v (in_either (l, v) (own_writes setup typed) (other_writes setup typed) w));
      }
        where
          elsewhere : (l : Location) → l.owner ≡ o → ((v : Value) → IsIn (l.path, v) (leaves_of_members (reported_members (globals setup.tree) s)) → ⊥) → (v : Value)
              → IsIn (l, v) (own_writes setup typed) ⊎ IsIn (l, v) (other_writes setup typed) → ⊥
          elsewhere l owner none v (inl w) =
              let r = own_write setup typed l v w in numbers.other (sym owner ∙ ap (λ (j : Location). j.owner) r.lies)
          elsewhere l owner none v (inr w) = other (other_from setup typed l v w)
            where
              other : (x : Name) × (y : Variable) × IsIn (x, y) (initial_variables setup) × OtherWrite setup typed x y.type l v → ⊥
              other r =
                  let one = numbers.one r.0 r.3.system.sort (subst (IsOwnedBy setup typed r.3.system.sort r.0) owner r.3.owner) in
                  let name : r.0 ≡ d.0.0 =
                  numbers_apart z (initial_variables setup) r.0 d.0.0 r.1 d.0.1 (found_in (initial_variables setup) r.0 r.1 (distinct setup typed) r.2)
                  (ap (is_component_of z) r.3.type ∙ (ap (same_sort z) one.0 ∙ itself)) (found_in (initial_variables setup) d.0.0 d.0.1 (distinct setup typed) d.1) d.2 (one.1 ∙ sym d.4) in
                  let variable : r.1 ≡ d.0.1 = same_variable setup typed r.0 d.0.0 r.1 d.0.1 r.2 d.1 name in
                  let members : r.3.inner ≡ inner = ap members_in (sym r.3.type ∙ (ap (λ (q : Variable). q.type) variable ∙ type)) in
                  none v (subst (λ ms. IsIn (l.path, v) (leaves_of_members ms)) (members ∙ same) r.3.leaf)

      by : (t : ResolvedType) → d.0.1.type ≡ t → (IsData (globals setup.tree) t × (has_queues t ≡ false)) ⊎ IsSystem (globals setup.tree) (text_systems setup) t → is_component_of z t ≡ true
          → component_in t ≡ Some s → Owns setup o s
      by (ComponentOf r inner) type (inl q) is_z is = absurd q.0.0
      by (ComponentOf r inner) type (inr q) is_z is =
          let same : r ≡ s = same_some r s is in
          owns inner (subst (λ y. d.0.1.type ≡ ComponentOf y inner) same type) (subst (λ y. y.sort ≡ z) same (numbers.is_sort r.sort is_z))
          (subst (λ y. inner ≡ reported_members (globals setup.tree) y) same q.2) (subst (λ y. NamedMembers (reported_members (globals setup.tree) y)) same (system_named setup typed q.0 r q.1))
      by _ type q is_z is = absurd (some_is_not_none s (sym is))

pub process_owns : (setup : Setup) → WellTyped setup → (k : ℕ) (s : System) → component_at (components_of setup Process) k ≡ Some s → Owns setup (OfProcess (suc (suc k))) s
process_owns setup typed k = component_owns setup typed Process refl k (OfProcess (suc (suc k))) record {
  other = λ e. omega (arith, ap process_in e);
  one = one;
  is_sort = is_process;
  starts = λ x s inner starts sort count. subst (λ n. StartsAt setup (root (OfProcess n)) (leaves_of_members inner)) (omega (arith, count)) (starts.process sort);
}
  where
    one : (x : Name) (y : Sort) → IsOwnedBy setup typed y x (OfProcess (suc (suc k))) → (y ≡ Process) × (count_before Process x (initial_variables setup) ≡ k)
    one x Process h = (refl, omega (arith, ap process_in h))
    one x Monitor h = absurd (omega (arith, ap process_in h))
    one x Class h = absurd h

abbrev monitor_in : Owner → ℕ
monitor_in (OfMonitor m) = m
monitor_in _ = 0

is_monitor : (z : Sort) → same_sort Monitor z ≡ true → z ≡ Monitor
is_monitor Monitor h = refl
is_monitor Process h = absurd (true≢false (sym h))
is_monitor Class h = absurd (true≢false (sym h))

pub monitor_owns : (setup : Setup) → WellTyped setup → (k : ℕ) (s : System) → component_at (components_of setup Monitor) k ≡ Some s → Owns setup (OfMonitor (suc k)) s
monitor_owns setup typed k = component_owns setup typed Monitor refl k (OfMonitor (suc k)) record {
  other = λ e. omega (arith, ap process_in e);
  one = one;
  is_sort = is_monitor;
  starts = λ x s inner starts sort count. subst (λ n. StartsAt setup (root (OfMonitor n)) (leaves_of_members inner)) (omega (arith, count)) (starts.monitor sort);
}
  where
    one : (x : Name) (y : Sort) → IsOwnedBy setup typed y x (OfMonitor (suc k)) → (y ≡ Monitor) × (count_before Monitor x (initial_variables setup) ≡ k)
    one x Monitor h = (refl, omega (arith, ap monitor_in h))
    one x Process h = absurd (omega (arith, ap process_in h))
    one x Class h = absurd h
