-- A component with an address has few words, since it is an owner or is in one.
use Rattle.std.proofs.Common.{◌≡◌, ◌≤◌, ◌∷◌, [], ℕ, zero, suc, ◌+◌, List, Bool, true, false, Option, Some, None, refl, ap, sym, subst, ◌∙◌, arith}
use Rattle.std.proofs.lemmas.Bool.{true≢false}
use Rattle.std.specs.Prelude.{filter, if◌then◌else◌, nat_eq}
use Rattle.cp_model.specs.Abstract.{Class, Monitor, Name, Process, Sort, System}
use Rattle.cp_model.specs.Components.{is_component_of, same_sort}
use Rattle.cp_model.specs.Declarations.{Variable, reported_members}
use Rattle.cp_model.specs.Locations.{ByIndex, ByName, Location, OfActivation, OfMonitor, OfProcess, Owner, Path}
use Rattle.cp_model.specs.States.{Setup, initial_variables}
use Rattle.cp_model.specs.Types.{ArrayOf, ComponentOf, GlobalScope, Members, NoType, Queue, RecordOf, ResolvedType, Simple}
use Rattle.cp_model.proofs.Options.{same_some}
use Rattle.cp_law_typing.specs.Words as class_words
use Rattle.cp_law_typing.specs.Words.{rights_in, words, words_of_members}
use Rattle.cp_law_typing.specs.Needs.{AllOwnersFit, OwnerFits, WordsFit, owner_words, words_as_owner}
use Rattle.cp_model_program.specs.Layout.{Part, component_words, head_words, member_part, most_words}
use Rattle.cp_model_program.specs.IsProgramFor.{component_at, component_in, system_of_monitor, system_of_process}
use Rattle.cp_model_machine.specs.Addresses.{ClassLies, ComponentLies, Ground, MonitorLies, ProcessLies, component_type, lies, part_at, scope}
use Rattle.cp_model_machine.proofs.Bounds.{member_fits}
use Rattle.cp_model_machine.proofs.Finding.{some_is_not_none}
use Rattle.cp_model_machine.proofs.Owned.{FoundMonitor, component_part, found_monitor}

-- Not a class.
abbrev IsOwner : Sort → Type 0
IsOwner Class = ⊥
IsOwner _ = Unit {0}

owner_is : (z y : Sort) → IsOwner z → same_sort z y ≡ true → IsOwner y
owner_is z Process h e = tt
owner_is z Monitor h e = tt
owner_is Process Class h e = absurd (true≢false (sym e))
owner_is Monitor Class h e = absurd (true≢false (sym e))
owner_is Class Class h e = absurd h

counted_words : (z : Sort) (n : ℕ) → IsOwner z → words_as_owner z n ≤ 65536 → n ≤ 65536
counted_words Process n h less = less
counted_words Monitor n h less = less
counted_words Class n h less = absurd h

owner_fits : (g : GlobalScope) (z : Sort) (t : ResolvedType) (s : System) → IsOwner z → OwnerFits 0 g t → is_component_of z t ≡ true → component_in t ≡ Some s → owner_words 0 g s ≤ 65536
owner_fits g z (ComponentOf r inner) s h f e i =
    subst (λ y. owner_words 0 g y ≤ 65536) (same_some r s i) (counted_words r.sort (owner_words 0 g r) (owner_is z r.sort h e) f)
owner_fits g z (Simple b low high start) s h f e i = absurd (some_is_not_none s (sym i))
owner_fits g z (ArrayOf low high t) s h f e i = absurd (some_is_not_none s (sym i))
owner_fits g z (RecordOf ms) s h f e i = absurd (some_is_not_none s (sym i))
owner_fits g z Queue s h f e i = absurd (some_is_not_none s (sym i))
owner_fits g z NoType s h f e i = absurd (some_is_not_none s (sym i))

-- The owners of a sort among the variables of the initial process.
owners_fit : (g : GlobalScope) (z : Sort) (vs : List (Name × Variable)) → IsOwner z → AllOwnersFit 0 g vs → (k : ℕ) (s : System)
    → component_at (filter (λ v. is_component_of z v.1.type) vs) k ≡ Some s → owner_words 0 g s ≤ 65536
owners_fit g z [] h fit k s is = absurd (some_is_not_none s (sym is))
owners_fit g z (v ∷ vs) h fit k s is = by (is_component_of z v.1.type) refl k (λ j. owners_fit g z vs h fit.1 j s) is
  where
    by : (b : Bool) → is_component_of z v.1.type ≡ b → (k : ℕ)
        → ((j : ℕ) → component_at (filter (λ w. is_component_of z w.1.type) vs) j ≡ Some s → owner_words 0 g s ≤ 65536)
        → component_at (if b then v ∷ filter (λ w. is_component_of z w.1.type) vs else filter (λ w. is_component_of z w.1.type) vs) k ≡ Some s
        → owner_words 0 g s ≤ 65536
    by true e zero rest i = owner_fits g z v.1.type s h fit.0 e i
    by true e (suc k) rest i = rest k i
    by false e k rest i = rest k i

own_words_fit : (g : GlobalScope) (s : System) → owner_words 0 g s ≤ 65536 → component_words g s ≤ most_words
own_words_fit g s h = omega (arith, h)

module _ (G : Ground) (few : WordsFit G.setup) where
  process_room : (p : ℕ) (s : System) → system_of_process G.setup p ≡ Some s → component_words (scope G) s ≤ most_words
  process_room zero s h = absurd (some_is_not_none s (sym h))
  process_room (suc zero) s h =
      subst (λ y. component_words (scope G) y ≤ most_words) (same_some G.setup.tree.initial s h) (own_words_fit (scope G) G.setup.tree.initial (few.initial 0))
  process_room (suc (suc k)) s h = own_words_fit (scope G) s (owners_fit (scope G) Process (initial_variables G.setup) tt (few.others 0) k s h)

  monitor_room : (m : ℕ) (s : System) → system_of_monitor G.setup m ≡ Some s → component_words (scope G) s ≤ most_words
  monitor_room zero s h = absurd (some_is_not_none s (sym h))
  monitor_room (suc k) s h = own_words_fit (scope G) s (owners_fit (scope G) Monitor (initial_variables G.setup) tt (few.others 0) k s h)

  -- A class has no more words than the owner that it is in.
  class_words_are : (s : System) → s.sort ≡ Class → words (scope G) (component_type G s) ≡ component_words (scope G) s
  class_words_are s sort =
      ap (λ z. class_words.component_words z (1 + rights_in (scope G) s + words_of_members (scope G) (reported_members (scope G) s))) sort ∙ omega arith

  class_room : (o : Owner) (path : Path) (s : System) (n : ℕ) → s.sort ≡ Class → part_at G [] o path ≡ Some (n, component_type G s) → component_words (scope G) s ≤ most_words
  class_room o [] s n sort h = absurd (some_is_not_none (n, component_type G s) (sym h))
  class_room o (ByIndex i ∷ path) s n sort h = absurd (some_is_not_none (n, component_type G s) (sym h))
  class_room (OfProcess q) (ByName x ∷ path) s n sort h =
      let C = component_part G [] q x path n (component_type G s) h in
      let y = C.1.0 in
      omega (arith, member_fits (scope G) (head_words (scope G) y) (reported_members (scope G) y) x path n (component_type G s) C.1.2, process_room q y C.1.1, class_words_are s sort)
  class_room (OfMonitor m) (ByName x ∷ path) s n sort h =
      let M = found_monitor G [] m x path n (component_type G s) h in
      omega (arith, M.fits, monitor_room m M.system M.is, class_words_are s sort)
  class_room (OfActivation q d) (ByName x ∷ path) s n sort h = by (nat_eq G.p q) h
    where
      by : (b : Bool) → if◌then◌else◌ {A = Option Part} b None None ≡ Some (n, component_type G s) → component_words (scope G) s ≤ most_words
      by true i = absurd (some_is_not_none (n, component_type G s) (sym i))
      by false i = absurd (some_is_not_none (n, component_type G s) (sym i))

  pub component_room : (at : Location) (s : System) (n : ℕ) → ComponentLies G at s n → component_words (scope G) s ≤ most_words
  component_room at s n (ProcessLies where' is from) = process_room G.p s is
  component_room at s n (MonitorLies m where' is from) = monitor_room m s is
  component_room at s n (ClassLies sort is) = class_room at.owner at.path s n sort is
