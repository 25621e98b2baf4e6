-- A look-up of a longer path continues from what the shorter one finds.
use Rattle.std.proofs.Common.{◌≡◌, ℕ, ◌+◌, ◌*◌, List, [], ◌∷◌, ◌++◌, Bool, true, false, Option, Some, None, refl, ap, sym, ◌∙◌, arith}
use Rattle.std.specs.Prelude.{if◌then◌else◌, nat_eq}
use Rattle.cp_model.specs.Abstract.{Class, Name, Sort, System}
use Rattle.cp_model.specs.Declarations as declared
use Rattle.cp_model.specs.Locations.{ByIndex, ByName, Location, OfActivation, OfMonitor, OfProcess, Owner, Path, under}
use Rattle.std.specs.Str.{bytes_eq}
use Rattle.cp_model.specs.Places.{within}
use Rattle.cp_model.specs.Types.{ArrayOf, ComponentOf, GlobalScope, Members, MoreMembers, NoMembers, NoType, Queue, RecordOf, ResolvedType, Simple}
use Rattle.cp_model.proofs.Options.{same_some}
use Rattle.cp_law_typing.specs.Words.{words}
use Rattle.cp_model_program.specs.Layout.{Part, distance, farther, head_words, local, member_part, of_class, part}
use Rattle.cp_model_machine.specs.Addresses.{Activation, Ground, activation_at, lies, part_at, part_of_activation, part_of_component, part_of_local, part_of_owner, scope}
use Rattle.cp_model_program.specs.IsProgramFor.{system_of_monitor, system_of_process}
use Rattle.cp_model_machine.specs.Passing.{monitor_start}
use Rattle.cp_model_machine.proofs.Finding.{some_is_not_none}
use Rattle.cp_model_machine.proofs.Layouts.{farther_some}

abbrev pub Advances : (Path → Option Part) → GlobalScope → Path → Path → Type 0
Advances look g p q = (n : ℕ) (u : ResolvedType) → look p ≡ Some (n, u) → look (p ++ q) ≡ farther n (part g u q)

farther_zero : (o : Option Part) → farther 0 o ≡ o
farther_zero None = refl
farther_zero (Some x) = ap (λ n. Some (n, x.1)) (omega arith)

farther_two : (a b : ℕ) (o : Option Part) → farther a (farther b o) ≡ farther (a + b) o
farther_two a b None = refl
farther_two a b (Some x) = ap (λ n. Some (n, x.1)) (omega arith)

whole_on : (g : GlobalScope) (t : ResolvedType) (q : Path) (n : ℕ) (u : ResolvedType) → ◌≡◌ {A = Option Part} (Some (0, t)) (Some (n, u)) → part g t q ≡ farther n (part g u q)
whole_on g t q n u h =
    let e : ◌≡◌ {A = Part} (0, t) (n, u) = same_some (0, t) (n, u) h in
    sym (farther_zero (part g t q)) ∙ ap (λ z. farther z.0 (part g z.1 q)) e

farther_on : (k : ℕ) (look : Path → Option Part) (g : GlobalScope) (p q : Path) → Advances look g p q → Advances (λ r. farther k (look r)) g p q
farther_on k look g p q go n u h =
    let s = farther_some k (look p) n u h in
    ap (farther k) (go s.0 u s.1) ∙ (farther_two k s.0 (part g u q) ∙ ap (λ z. farther z (part g u q)) (sym s.2))

if_on : (b : Bool) (look : Path → Option Part) (g : GlobalScope) (p q : Path) → Advances look g p q → Advances (λ r. if b then look r else None) g p q
if_on true look g p q go n u h = go n u h
if_on false look g p q go n u h = absurd (some_is_not_none (n, u) (sym h))

class_on : (s : Sort) (look : Path → Option Part) (g : GlobalScope) (p q : Path) → Advances look g p q → Advances (λ r. of_class s (look r)) g p q
class_on Class look g p q go n u h = go n u h
class_on _ look g p q go n u h = absurd (some_is_not_none (n, u) (sym h))

mutual
  pub part_on : (g : GlobalScope) (t : ResolvedType) (p q : Path) → Advances (part g t) g p q
  part_on g (Simple b low high start) [] q = λ n u h. whole_on g (Simple b low high start) q n u h
  part_on g (ArrayOf low high t) [] q = λ n u h. whole_on g (ArrayOf low high t) q n u h
  part_on g (RecordOf ms) [] q = λ n u h. whole_on g (RecordOf ms) q n u h
  part_on g Queue [] q = λ n u h. whole_on g Queue q n u h
  part_on g (ComponentOf s inner) [] q = λ n u h. whole_on g (ComponentOf s inner) q n u h
  part_on g NoType [] q = λ n u h. whole_on g NoType q n u h
  part_on g (ArrayOf low high t) (ByIndex i ∷ p) q =
      if_on (within low high i) (λ r. farther (distance low i * words g t) (part g t r)) g p q
      (farther_on (distance low i * words g t) (part g t) g p q (part_on g t p q))
  part_on g (RecordOf ms) (ByName x ∷ p) q = member_on g 0 ms x p q
  part_on g (ComponentOf s inner) (ByName x ∷ p) q =
      class_on s.sort (member_part g (head_words g s) inner x) g p q (member_on g (head_words g s) inner x p q)
  part_on g (Simple b low high start) (s ∷ p) q = λ n u h. absurd (some_is_not_none (n, u) (sym h))
  part_on g Queue (s ∷ p) q = λ n u h. absurd (some_is_not_none (n, u) (sym h))
  part_on g NoType (s ∷ p) q = λ n u h. absurd (some_is_not_none (n, u) (sym h))
  part_on g (ArrayOf low high t) (ByName x ∷ p) q = λ n u h. absurd (some_is_not_none (n, u) (sym h))
  part_on g (RecordOf ms) (ByIndex i ∷ p) q = λ n u h. absurd (some_is_not_none (n, u) (sym h))
  part_on g (ComponentOf s inner) (ByIndex i ∷ p) q = λ n u h. absurd (some_is_not_none (n, u) (sym h))

  pub member_on : (g : GlobalScope) (at : ℕ) (ms : Members) (x : Name) (p q : Path) → Advances (member_part g at ms x) g p q
  member_on g at NoMembers x p q = λ n u h. absurd (some_is_not_none (n, u) (sym h))
  member_on g at (MoreMembers y t ms) x p q = by (bytes_eq x y) (part_on g t p q) (member_on g (at + words g t) ms x p q)
    where
      by : (b : Bool) → Advances (part g t) g p q → Advances (member_part g (at + words g t) ms x) g p q
          → Advances (λ r. if b then farther at (part g t r) else member_part g (at + words g t) ms x r) g p q
      by true first more = farther_on at (part g t) g p q first
      by false first more = more

component_on : (g : GlobalScope) (s : Option System) (x : Name) (p q : Path) → Advances (part_of_component g s x) g p q
component_on g None x p q = λ n u h. absurd (some_is_not_none (n, u) (sym h))
component_on g (Some s) x p q = member_on g (head_words g s) (declared.reported_members g s) x p q

local_on : (g : GlobalScope) (v : Option (ℕ × declared.Variable)) (p q : Path) → Advances (part_of_local g v) g p q
local_on g None p q = λ n u h. absurd (some_is_not_none (n, u) (sym h))
local_on g (Some v) p q = by v.1.by_reference
  where
    by : (b : Bool) → Advances (λ r. if b then None else farther v.0 (part g v.1.type r)) g p q
    by true = λ n u h. absurd (some_is_not_none (n, u) (sym h))
    by false = farther_on v.0 (part g v.1.type) g p q (part_on g v.1.type p q)

activation_on : (g : GlobalScope) (z : Option Activation) (x : Name) (p q : Path) → Advances (part_of_activation g z x) g p q
activation_on g None x p q = λ n u h. absurd (some_is_not_none (n, u) (sym h))
activation_on g (Some z) x p q = farther_on z.base (part_of_local g (local g z.routine x)) g p q (local_on g (local g z.routine x) p q)

owner_on : (G : Ground) (xs : List Activation) (o : Owner) (x : Name) (p q : Path) → Advances (part_of_owner G xs o x) (scope G) p q
owner_on G xs (OfProcess r) x p q = if_on (nat_eq G.p r) (part_of_component (scope G) (system_of_process G.setup r) x) (scope G) p q (component_on (scope G) (system_of_process G.setup r) x p q)
owner_on G xs (OfMonitor m) x p q = farther_on (G.own + monitor_start G.program m) (part_of_component (scope G) (system_of_monitor G.setup m) x) (scope G) p q (component_on (scope G) (system_of_monitor G.setup m) x p q)
owner_on G xs (OfActivation r d) x p q = if_on (nat_eq G.p r) (part_of_activation (scope G) (activation_at d xs) x) (scope G) p q (activation_on (scope G) (activation_at d xs) x p q)

path_on : (G : Ground) (xs : List Activation) (o : Owner) (p q : Path) → Advances (part_at G xs o) (scope G) p q
path_on G xs o [] q = λ n u h. absurd (some_is_not_none (n, u) (sym h))
path_on G xs o (ByName x ∷ p) q = owner_on G xs o x p q
path_on G xs o (ByIndex i ∷ p) q = λ n u h. absurd (some_is_not_none (n, u) (sym h))

-- What is at a path below a variable is a part of it.
pub lies_on : (G : Ground) (xs : List Activation) (l : Location) (q : Path) (n : ℕ) (t : ResolvedType) → lies G xs l ≡ Some (n, t)
    → lies G xs (under l q) ≡ farther n (part (scope G) t q)
lies_on G xs l q n t h = path_on G xs l.owner l.path q n t h
