-- Parts of parts, and where variables are.
use Rattle.std.proofs.Common.{◌≡◌, ℕ, ◌+◌, ◌*◌, List, [], ◌∷◌, ◌++◌, Bool, true, false, Option, Some, None, ap, sym, ◌∙◌, arith}
use Rattle.std.specs.Prelude.{if◌then◌else◌, nat_eq}
use Rattle.cp_model.specs.Abstract.{Class, Name, Sort}
use Rattle.cp_model.specs.Locations.{ByIndex, ByName, Location, OfActivation, OfMonitor, OfProcess, Owner, Path, under}
use Rattle.std.specs.Str.{bytes_eq}
use Rattle.cp_model.specs.Places.{within}
use Rattle.cp_model.specs.Types.{ArrayOf, ComponentOf, GlobalScope, Members, MoreMembers, NoMembers, NoType, Queue, RecordOf, ResolvedType, Simple}
use Rattle.cp_law_typing.specs.Words.{words}
use Rattle.cp_model_program.specs.Layout.{Part, distance, farther, head_words, local, member_part, of_class, part}
use Rattle.cp_model_machine.specs.Addresses.{Activation, Ground, activation_at, lies, part_at, part_of_activation, part_of_component, part_of_local, part_of_owner, scope}
use Rattle.cp_model.specs.Abstract.{System}
use Rattle.cp_model.specs.Declarations as declared
use Rattle.cp_model.proofs.Options.{same_some}
use Rattle.cp_model_program.specs.IsProgramFor.{system_of_monitor, system_of_process}
use Rattle.cp_model_machine.specs.Passing.{monitor_start}
use Rattle.cp_model_machine.proofs.Finding.{some_is_not_none}

-- A part that is found farther on.
pub farther_some : (k : ℕ) (o : Option Part) (n : ℕ) (u : ResolvedType) → farther k o ≡ Some (n, u)
    → (m : ℕ) × (o ≡ Some (m, u)) × (n ≡ k + m)
farther_some k None n u h = absurd (some_is_not_none (n, u) (sym h))
farther_some k (Some x) n u h =
    let e : ◌≡◌ {A = Part} (k + x.0, x.1) (n, u) = same_some (k + x.0, x.1) (n, u) h in
    (x.0, (λ i. Some (x.0, (e i).1)), sym (ap (λ y. y.0) e))

-- If a look-up leads to a part, looking up `q` in that part leads to the same as looking up both
-- paths.
abbrev pub LeadsOn : (Path → Option Part) → GlobalScope → Path → Path → Type 0
LeadsOn look g p q = (n m : ℕ) (u w : ResolvedType) → look p ≡ Some (n, u) → part g u q ≡ Some (m, w) → look (p ++ q) ≡ Some (n + m, w)

whole_leads : (g : GlobalScope) (t : ResolvedType) (q : Path) (n m : ℕ) (u w : ResolvedType) → ◌≡◌ {A = Option Part} (Some (0, t)) (Some (n, u)) → part g u q ≡ Some (m, w)
    → part g t q ≡ Some (n + m, w)
whole_leads g t q n m u w h k =
    let e : ◌≡◌ {A = Part} (0, t) (n, u) = same_some (0, t) (n, u) h in
    let zero_is : 0 ≡ n = ap (λ y. y.0) e in
    (λ i. part g (e i).1 q) ∙ (k ∙ ap (λ z. Some (z, w)) (omega (arith, zero_is)))

pub farther_leads : (k : ℕ) (look : Path → Option Part) (g : GlobalScope) (p q : Path) → LeadsOn look g p q → LeadsOn (λ r. farther k (look r)) g p q
farther_leads k look g p q go n m u w h e =
    let s = farther_some k (look p) n u h in
    ap (farther k) (go s.0 m u w s.1 e) ∙ ap (λ z. Some (z, w)) (omega (arith, s.2))

if_leads : (b : Bool) (look : Path → Option Part) (g : GlobalScope) (p q : Path) → LeadsOn look g p q → LeadsOn (λ r. if b then look r else None) g p q
if_leads true look g p q go n m u w h e = go n m u w h e
if_leads false look g p q go n m u w h e = absurd (some_is_not_none (n, u) (sym h))

class_leads : (s : Sort) (look : Path → Option Part) (g : GlobalScope) (p q : Path) → LeadsOn look g p q → LeadsOn (λ r. of_class s (look r)) g p q
class_leads Class look g p q go n m u w h e = go n m u w h e
class_leads _ look g p q go n m u w h e = absurd (some_is_not_none (n, u) (sym h))

nothing_leads : (g : GlobalScope) (p q : Path) (look : Path → Option Part) → look p ≡ None → LeadsOn look g p q
nothing_leads g p q look none n m u w h e = absurd (some_is_not_none (n, u) (sym h ∙ none))

mutual
  pub part_leads : (g : GlobalScope) (t : ResolvedType) (p q : Path) → LeadsOn (part g t) g p q
  part_leads g (Simple b low high start) [] q = λ n m u w h e. whole_leads g (Simple b low high start) q n m u w h e
  part_leads g (ArrayOf low high t) [] q = λ n m u w h e. whole_leads g (ArrayOf low high t) q n m u w h e
  part_leads g (RecordOf ms) [] q = λ n m u w h e. whole_leads g (RecordOf ms) q n m u w h e
  part_leads g Queue [] q = λ n m u w h e. whole_leads g Queue q n m u w h e
  part_leads g (ComponentOf s inner) [] q = λ n m u w h e. whole_leads g (ComponentOf s inner) q n m u w h e
  part_leads g NoType [] q = λ n m u w h e. whole_leads g NoType q n m u w h e
  part_leads g (ArrayOf low high t) (ByIndex i ∷ p) q =
      if_leads (within low high i) (λ r. farther (distance low i * words g t) (part g t r)) g p q
      (farther_leads (distance low i * words g t) (part g t) g p q (part_leads g t p q))
  part_leads g (RecordOf ms) (ByName x ∷ p) q = member_leads g 0 ms x p q
  part_leads g (ComponentOf s inner) (ByName x ∷ p) q =
      class_leads s.sort (member_part g (head_words g s) inner x) g p q (member_leads g (head_words g s) inner x p q)
  part_leads g (Simple b low high start) (s ∷ p) q = λ n m u w h e. absurd (some_is_not_none (n, u) (sym h))
  part_leads g Queue (s ∷ p) q = λ n m u w h e. absurd (some_is_not_none (n, u) (sym h))
  part_leads g NoType (s ∷ p) q = λ n m u w h e. absurd (some_is_not_none (n, u) (sym h))
  part_leads g (ArrayOf low high t) (ByName x ∷ p) q = λ n m u w h e. absurd (some_is_not_none (n, u) (sym h))
  part_leads g (RecordOf ms) (ByIndex i ∷ p) q = λ n m u w h e. absurd (some_is_not_none (n, u) (sym h))
  part_leads g (ComponentOf s inner) (ByIndex i ∷ p) q = λ n m u w h e. absurd (some_is_not_none (n, u) (sym h))

  pub member_leads : (g : GlobalScope) (at : ℕ) (ms : Members) (x : Name) (p q : Path) → LeadsOn (member_part g at ms x) g p q
  member_leads g at NoMembers x p q = λ n m u w h e. absurd (some_is_not_none (n, u) (sym h))
  member_leads g at (MoreMembers y t ms) x p q = by (bytes_eq x y) (part_leads g t p q) (member_leads g (at + words g t) ms x p q)
    where
      by : (b : Bool) → LeadsOn (part g t) g p q → LeadsOn (member_part g (at + words g t) ms x) g p q
          → LeadsOn (λ r. if b then farther at (part g t r) else member_part g (at + words g t) ms x r) g p q
      by true first more = farther_leads at (part g t) g p q first
      by false first more = more

-- ---- where variables are

component_leads : (g : GlobalScope) (s : Option System) (x : Name) (p q : Path) → LeadsOn (part_of_component g s x) g p q
component_leads g None x p q = λ n m u w h e. absurd (some_is_not_none (n, u) (sym h))
component_leads g (Some s) x p q = member_leads g (head_words g s) (declared.reported_members g s) x p q

local_leads : (g : GlobalScope) (v : Option (ℕ × declared.Variable)) (p q : Path) → LeadsOn (part_of_local g v) g p q
local_leads g None p q = λ n m u w h e. absurd (some_is_not_none (n, u) (sym h))
local_leads g (Some v) p q = by v.1.by_reference
  where
    by : (b : Bool) → LeadsOn (λ r. if b then None else farther v.0 (part g v.1.type r)) g p q
    by true = λ n m u w h e. absurd (some_is_not_none (n, u) (sym h))
    by false = farther_leads v.0 (part g v.1.type) g p q (part_leads g v.1.type p q)

activation_leads : (g : GlobalScope) (z : Option Activation) (x : Name) (p q : Path) → LeadsOn (part_of_activation g z x) g p q
activation_leads g None x p q = λ n m u w h e. absurd (some_is_not_none (n, u) (sym h))
activation_leads g (Some z) x p q = farther_leads z.base (part_of_local g (local g z.routine x)) g p q (local_leads g (local g z.routine x) p q)

owner_leads : (G : Ground) (xs : List Activation) (o : Owner) (x : Name) (p q : Path) → LeadsOn (part_of_owner G xs o x) (scope G) p q
owner_leads G xs (OfProcess r) x p q = if_leads (nat_eq G.p r) (part_of_component (scope G) (system_of_process G.setup r) x) (scope G) p q (component_leads (scope G) (system_of_process G.setup r) x p q)
owner_leads G xs (OfMonitor m) x p q = farther_leads (G.own + monitor_start G.program m) (part_of_component (scope G) (system_of_monitor G.setup m) x) (scope G) p q (component_leads (scope G) (system_of_monitor G.setup m) x p q)
owner_leads G xs (OfActivation r d) x p q = if_leads (nat_eq G.p r) (part_of_activation (scope G) (activation_at d xs) x) (scope G) p q (activation_leads (scope G) (activation_at d xs) x p q)

path_leads : (G : Ground) (xs : List Activation) (o : Owner) (p q : Path) → LeadsOn (part_at G xs o) (scope G) p q
path_leads G xs o [] q = λ n m u w h e. absurd (some_is_not_none (n, u) (sym h))
path_leads G xs o (ByName x ∷ p) q = owner_leads G xs o x p q
path_leads G xs o (ByIndex i ∷ p) q = λ n m u w h e. absurd (some_is_not_none (n, u) (sym h))

-- The parts of a variable are in it.
abbrev pub PartsLie : GlobalScope → (Location → Option Part) → Type 0
PartsLie g lies = (l : Location) (path : Path) (n m : ℕ) (t u : ResolvedType) → lies l ≡ Some (n, t) → part g t path ≡ Some (m, u) → lies (under l path) ≡ Some (n + m, u)

-- A part of a variable is in that variable.
pub lies_under : (G : Ground) (xs : List Activation) (l : Location) (q : Path) (n m : ℕ) (t u : ResolvedType) → lies G xs l ≡ Some (n, t) → part (scope G) t q ≡ Some (m, u)
    → lies G xs (under l q) ≡ Some (n + m, u)
lies_under G xs l q n m t u h e = path_leads G xs l.owner l.path q n m t u h e
