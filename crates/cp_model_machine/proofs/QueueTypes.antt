-- Types that contain no queue: a routine, a class or a process declares only such types.
--
-- A variable's data has no queue, by the rules, and a class is declared before what contains it.
-- So this holds of all system types other than monitors, by induction on their number.
use Rattle.std.proofs.Common.{◌≡◌, ◌⊎◌, inl, inr, ◌<◌, ◌+◌, ◌*◌, ℕ, zero, suc, Bool, true, false, List, [], ◌∷◌, Option, Some, None, refl, ap, sym, subst, arith}
use Rattle.std.specs.Prelude.{filter, if◌then◌else◌, not, slice_get, take}
use Rattle.std.proofs.lemmas.Bool.{true≢false}
use Rattle.std.specs.Str.{bytes_eq}
use Rattle.cp_model.specs.Abstract.{Class, Monitor, Name, Process, Sort, System}
use Rattle.cp_model.specs.Components.{is_component_of}
use Rattle.cp_model.specs.Declarations.{Variable, declarations, globals, is_component, members_from, reported_members}
use Rattle.cp_model.specs.Locations.{ByIndex, ByName, Path}
use Rattle.cp_model.specs.Places.{within}
use Rattle.cp_model.specs.Report.{components_of}
use Rattle.cp_model.specs.States.{Setup, initial_variables}
use Rattle.cp_model.specs.Types.{ArrayOf, ComponentOf, GlobalScope, Members, MoreMembers, NoMembers, NoType, Queue, RecordOf, ResolvedType, Simple}
use Rattle.cp_model.proofs.Options.{same_some}
use Rattle.cp_law_typing.specs.Declared.{Each, InitialVariable, IsData, IsSystem, SystemParameter, SystemVariable}
use Rattle.cp_law_typing.specs.Judgement.{IsSimple, has_queues}
use Rattle.cp_law_typing.specs.SoundTypes.{SoundMembers, SoundType}
use Rattle.cp_law_typing.specs.StartValues.{IsIn}
use Rattle.cp_law_typing.specs.Words.{words}
use Rattle.cp_law_typing.specs.WellTyped.{TypedSystem, WellTyped, text_systems}
use Rattle.cp_law_typing.proofs.Facts.{taken}
use Rattle.cp_law_typing.proofs.StartValues.{each_in}
use Rattle.cp_model_program.specs.Layout.{distance, farther, head_words, member_part, of_class, part}
use Rattle.cp_model_program.specs.IsProgramFor.{component_in, system_of_process}
use Rattle.cp_model_machine.proofs.Finding.{some_is_not_none}
use Rattle.cp_model_machine.proofs.InitOffsets.{of_filter}
use Rattle.cp_model_machine.proofs.Layouts.{farther_some}
use Rattle.cp_model_machine.proofs.Naming.{initial_reported}
use Rattle.cp_model_machine.proofs.ProcessRights.{is_process, system_at}

-- ---- types

abbrev IfClass : Sort → Type 0 → Type 0
IfClass Class A = A
IfClass _ A = Unit {0}

-- Of all components, only classes are in their variables.
abbrev mutual
  pub NoQueues : ResolvedType → Type 0
  NoQueues (Simple b low high start) = Unit {0}
  NoQueues (ArrayOf low high t) = NoQueues t
  NoQueues (RecordOf ms) = NoneQueues ms
  NoQueues Queue = ⊥
  NoQueues (ComponentOf s inner) = IfClass s.sort (NoneQueues inner)
  NoQueues NoType = Unit {0}

  pub NoneQueues : Members → Type 0
  NoneQueues NoMembers = Unit {0}
  NoneQueues (MoreMembers x t ms) = NoQueues t × NoneQueues ms

is_queue : (t : ResolvedType) (n m : ℕ) → ◌≡◌ {A = Option (ℕ × ResolvedType)} (Some (n, t)) (Some (m, Queue)) → NoQueues t → ⊥
is_queue t n m e h = subst NoQueues (ap (λ z. z.1) (same_some {A = ℕ × ResolvedType} (n, t) (m, Queue) e)) h

-- So no part of such a type is a queue.
mutual
  pub part_no_queue : (g : GlobalScope) (t : ResolvedType) (path : Path) (n : ℕ) → NoQueues t → part g t path ≡ Some (n, Queue) → ⊥
  part_no_queue g (Simple b low high start) [] n h e = is_queue (Simple b low high start) 0 n e h
  part_no_queue g (ArrayOf low high t) [] n h e = is_queue (ArrayOf low high t) 0 n e h
  part_no_queue g (RecordOf ms) [] n h e = is_queue (RecordOf ms) 0 n e h
  part_no_queue g Queue [] n h e = h
  part_no_queue g (ComponentOf s inner) [] n h e = is_queue (ComponentOf s inner) 0 n e h
  part_no_queue g NoType [] n h e = is_queue NoType 0 n e h
  part_no_queue g (ArrayOf low high t) (ByIndex i ∷ p) n h e = by (within low high i) e (λ m q. part_no_queue g t p m h q)
    where
      by : (b : Bool) → (if b then farther (distance low i * words g t) (part g t p) else None) ≡ Some (n, Queue) → ((m : ℕ) → part g t p ≡ Some (m, Queue) → ⊥) → ⊥
      by true e go = let f = farther_some (distance low i * words g t) (part g t p) n Queue e in go f.0 f.1
      by false e go = some_is_not_none (n, Queue) (sym e)
  part_no_queue g (RecordOf ms) (ByName x ∷ p) n h e = member_no_queue g 0 ms x p n h e
  part_no_queue g (ComponentOf s inner) (ByName x ∷ p) n h e = by s.sort h e (λ m q. member_no_queue g (head_words g s) inner x p n m q)
    where
      by : (z : Sort) → IfClass z (NoneQueues inner) → of_class z (member_part g (head_words g s) inner x p) ≡ Some (n, Queue)
          → (NoneQueues inner → member_part g (head_words g s) inner x p ≡ Some (n, Queue) → ⊥) → ⊥
      by Class h e go = go h e
      by _ h e go = some_is_not_none (n, Queue) (sym e)
  part_no_queue g (Simple b low high start) (s ∷ p) n h e = some_is_not_none (n, Queue) (sym e)
  part_no_queue g Queue (s ∷ p) n h e = some_is_not_none (n, Queue) (sym e)
  part_no_queue g NoType (s ∷ p) n h e = some_is_not_none (n, Queue) (sym e)
  part_no_queue g (ArrayOf low high t) (ByName x ∷ p) n h e = some_is_not_none (n, Queue) (sym e)
  part_no_queue g (RecordOf ms) (ByIndex i ∷ p) n h e = some_is_not_none (n, Queue) (sym e)
  part_no_queue g (ComponentOf s inner) (ByIndex i ∷ p) n h e = some_is_not_none (n, Queue) (sym e)

  pub member_no_queue : (g : GlobalScope) (at : ℕ) (ms : Members) (x : Name) (p : Path) (n : ℕ) → NoneQueues ms → member_part g at ms x p ≡ Some (n, Queue) → ⊥
  member_no_queue g at NoMembers x p n h e = some_is_not_none (n, Queue) (sym e)
  member_no_queue g at (MoreMembers y t ms) x p n h e =
      by (bytes_eq x y) e (λ m q. part_no_queue g t p m h.0 q) (λ q. member_no_queue g (at + words g t) ms x p n h.1 q)
    where
      by : (b : Bool) → (if b then farther at (part g t p) else member_part g (at + words g t) ms x p) ≡ Some (n, Queue)
          → ((m : ℕ) → part g t p ≡ Some (m, Queue) → ⊥) → (member_part g (at + words g t) ms x p ≡ Some (n, Queue) → ⊥) → ⊥
      by true e first more = let f = farther_some at (part g t p) n Queue e in first f.0 f.1
      by false e first more = more e

-- ---- data

mutual
  pub data_no_queue : (t : ResolvedType) → SoundType t → has_queues t ≡ false → NoQueues t
  data_no_queue (Simple b low high start) h e = tt
  data_no_queue (ArrayOf low high t) h e = data_no_queue t h.1 e
  data_no_queue (RecordOf ms) h e = members_no_queue ms h
  data_no_queue Queue h e = absurd (true≢false e)
  data_no_queue (ComponentOf s inner) h e = absurd h
  data_no_queue NoType h e = tt

  members_no_queue : (ms : Members) → SoundMembers ms → NoneQueues ms
  members_no_queue NoMembers h = tt
  members_no_queue (MoreMembers x t ms) h = (data_no_queue t h.0 h.3, members_no_queue ms h.2)

-- ---- system types

abbrev AllNoQueues : List (Name × Variable) → Type 0
AllNoQueues vs = Each (λ v. NoQueues v.1.type) vs

each_from : (vs : List (Name × Variable)) (rest : Members) → AllNoQueues vs → NoneQueues rest → NoneQueues (members_from vs rest)
each_from [] rest h r = r
each_from (v ∷ vs) rest h r = (h.0, each_from vs rest h.1 r)

filtered : (f : Name × Variable → Bool) (vs : List (Name × Variable)) → AllNoQueues vs → AllNoQueues (filter f vs)
filtered f [] h = tt
filtered f (v ∷ vs) h = by (f v) (filtered f vs h.1)
  where
    by : (b : Bool) → AllNoQueues (filter f vs) → AllNoQueues (if b then v ∷ filter f vs else filter f vs)
    by true go = (h.0, go)
    by false go = go

-- Queues are only in monitors.
abbrev IsNoMonitor : Sort → Type 0
IsNoMonitor Monitor = ⊥
IsNoMonitor _ = Unit {0}

no_monitor : (z : Sort) → IsNoMonitor z → z ≡ Monitor → ⊥
no_monitor z h e = subst IsNoMonitor e h

abbrev Before : GlobalScope → List System → Type 0
Before g before = (j : ℕ) (s : System) → slice_get before j ≡ Some s → IsNoMonitor s.sort → NoneQueues (reported_members g s)

module _ (g : GlobalScope) (before : List System) (none : Before g before) where
  system_type : (t : ResolvedType) → IsSystem g before t → NoQueues t
  system_type (ComponentOf y inner) k = by y.sort (λ h. subst NoneQueues (sym k.2) (none k.0 y k.1 h))
    where
      by : (z : Sort) → (IsNoMonitor z → NoneQueues inner) → IfClass z (NoneQueues inner)
      by Class go = go tt
      by Monitor go = tt
      by Process go = tt
  system_type (Simple b low high start) k = absurd k
  system_type (ArrayOf low high t) k = absurd k
  system_type (RecordOf ms) k = absurd k
  system_type Queue k = absurd k
  system_type NoType k = absurd k

  simple_type : (t : ResolvedType) → IsSimple t → NoQueues t
  simple_type t h = subst NoQueues (sym h.1.is) tt

  parameters_none : (z : Sort) (ps : List (Name × Variable)) → Each (SystemParameter g before z) ps → AllNoQueues ps
  parameters_none z [] h = tt
  parameters_none z (p ∷ ps) h = (elim h.0.1 [ inl k ↦ simple_type p.1.type k.0 | inr k ↦ system_type p.1.type k.0 ], parameters_none z ps h.1)

  variables_none : (z : Sort) → IsNoMonitor z → (vs : List (Name × Variable)) → Each (SystemVariable g before z) vs → AllNoQueues vs
  variables_none z other [] h = tt
  variables_none z other (v ∷ vs) h = (
    elim h.0.1 [ inl k ↦ data_no_queue v.1.type k.0.0 (no_queue (has_queues v.1.type) (λ e. no_monitor z other (k.1 e))) | inr k ↦ system_type v.1.type k.0 ],
    variables_none z other vs h.1,
  )
    where
      no_queue : (b : Bool) → (b ≡ true → ⊥) → b ≡ false
      no_queue true h = absurd (h refl)
      no_queue false h = refl

  initial_none : (vs : List (Name × Variable)) → Each (InitialVariable g before) vs → AllNoQueues vs
  initial_none [] h = tt
  initial_none (v ∷ vs) h = (elim h.0.1 [ inl k ↦ data_no_queue v.1.type k.0.0 k.1 | inr k ↦ system_type v.1.type k ], initial_none vs h.1)

  members_none : (s : System) → IsNoMonitor s.sort → TypedSystem g before s → NoneQueues (reported_members g s)
  members_none s other t =
      each_from (filter (λ v. not (is_component v.1.type)) (declarations g s.parameters)) (members_from (declarations g s.variables) NoMembers)
      (filtered (λ v. not (is_component v.1.type)) (declarations g s.parameters) (parameters_none s.sort (declarations g s.parameters) t.parameters))
      (each_from (declarations g s.variables) NoMembers (variables_none s.sort other (declarations g s.variables) t.variables) tt)

-- By induction, this holds of all system types before number `n`.
systems_none : (setup : Setup) → WellTyped setup → (n i : ℕ) → i < n → (s : System) → slice_get (text_systems setup) i ≡ Some s → IsNoMonitor s.sort
    → NoneQueues (reported_members (globals setup.tree) s)
systems_none setup typed zero i h s there other = absurd (omega (arith, h))
systems_none setup typed (suc n) i h s there other =
    members_none (globals setup.tree) (take i (text_systems setup))
    (λ j r e k.
    let l = taken (text_systems setup) i j r e in
    systems_none setup typed n j (omega (arith, l.0, h)) r l.1 k) s other (typed.systems i s there)

pub system_none : (setup : Setup) → WellTyped setup → (i : ℕ) (s : System) → slice_get (text_systems setup) i ≡ Some s → IsNoMonitor s.sort → NoneQueues (reported_members (globals setup.tree) s)
system_none setup typed i s there other = systems_none setup typed (suc i) i (omega arith) s there other

-- ---- processes

pub process_none : (setup : Setup) → WellTyped setup → (p : ℕ) (s : System) → system_of_process setup p ≡ Some s → NoneQueues (reported_members (globals setup.tree) s)
process_none setup typed zero s h = absurd (some_is_not_none s (sym h))
process_none setup typed (suc zero) s h =
    subst (λ y. NoneQueues (reported_members (globals setup.tree) y)) (same_some setup.tree.initial s h)
    (subst NoneQueues (sym (initial_reported setup typed))
    (each_from (initial_variables setup) NoMembers
    (initial_none (globals setup.tree) (text_systems setup) (λ j y e k. system_none setup typed j y e k) (initial_variables setup) typed.initial_variables) tt))
process_none setup typed (suc (suc p)) s h = by found.0.1.type (each_in (InitialVariable (globals setup.tree) (text_systems setup)) (initial_variables setup) found.0 typed.initial_variables inside.0).1 inside.1 found.2
  where
    found : (v : Name × Variable) × IsIn v (components_of setup Process) × (component_in v.1.type ≡ Some s)
    found = system_at (components_of setup Process) p s h

    inside : IsIn found.0 (initial_variables setup) × (is_component_of Process found.0.1.type ≡ true)
    inside = of_filter (λ v. is_component_of Process v.1.type) (initial_variables setup) found.0 found.1

    by : (t : ResolvedType) → (IsData (globals setup.tree) t × (has_queues t ≡ false)) ⊎ IsSystem (globals setup.tree) (text_systems setup) t → is_component_of Process t ≡ true → component_in t ≡ Some s
        → NoneQueues (reported_members (globals setup.tree) s)
    by (ComponentOf r inner) (inl k) sort is = absurd k.0.0
    by (ComponentOf r inner) (inr k) sort is =
        subst (λ y. NoneQueues (reported_members (globals setup.tree) y)) (same_some r s is) (system_none setup typed k.0 r k.1 (subst IsNoMonitor (sym (is_process r.sort sort)) tt))
    by _ k sort is = absurd (some_is_not_none s (sym is))
