-- What is in the component of a process, in its activations and in monitors, and in which words.
use Rattle.std.proofs.Common.{◌≡◌, ◌⊎◌, inl, inr, ℕ, ◌+◌, ◌≤◌, ◌<◌, List, [], ◌∷◌, Bool, true, false, Option, Some, None, refl, ap, sym, ◌∙◌, arith}
use Rattle.std.specs.Prelude.{if◌then◌else◌, nat_eq}
use Rattle.std.proofs.lemmas.Bool.{eqb-true}
use Rattle.cp_model.specs.Abstract as a
use Rattle.cp_model.specs.Abstract.{Name, System}
use Rattle.cp_model.specs.Declarations as declared
use Rattle.cp_model.specs.Locations.{ByName, OfActivation, OfMonitor, OfProcess, Path}
use Rattle.std.specs.Str.{bytes_eq}
use Rattle.cp_model.specs.Types.{GlobalScope, ResolvedType}
use Rattle.cp_model.proofs.Options.{same_some}
use Rattle.cp_law_typing.specs.Needs.{result_words}
use Rattle.cp_law_typing.specs.Words.{words}
use Rattle.cp_model_program.specs.Layout.{activation_words, component_words, farther, head_words, local, local_at, local_words, locals, locals_words, member_part, part}
use Rattle.cp_model_program.specs.IsProgramFor.{system_of_monitor, system_of_process}
use Rattle.cp_model_machine.specs.Addresses.{Activation, Ground, activation_at, in_sight, part_of_activation, part_of_component, part_of_local, part_of_owner, scope}
use Rattle.cp_model_machine.proofs.Apart.{InHead, head_inside, member_above, part_apart}
use Rattle.cp_model_machine.proofs.Bounds.{member_fits, part_fits}
use Rattle.cp_model_machine.proofs.Finding.{some_is_not_none}
use Rattle.cp_model_machine.proofs.Layouts.{farther_some}
use Rattle.cp_law_typing.proofs.Names.{bytes_same}
use Rattle.cp_model_machine.specs.Passing.{monitor_start}

-- ---- the variables of one activation

pub local_inside : (g : GlobalScope) (at : ℕ) (vs : List (Name × declared.Variable)) (x : Name) (k : ℕ) (v : declared.Variable) → local_at g at vs x ≡ Some (k, v)
    → (at ≤ k) × (k + local_words g v ≤ at + locals_words g vs)
local_inside g at [] x k v h = absurd (some_is_not_none (k, v) (sym h))
local_inside g at (y ∷ vs) x k v h = by (bytes_eq x y.0) h (local_inside g (at + local_words g y.1) vs x k v)
  where
    by : (b : Bool) → (if b then Some (at, y.1) else local_at g (at + local_words g y.1) vs x) ≡ Some (k, v)
        → (local_at g (at + local_words g y.1) vs x ≡ Some (k, v) → (at + local_words g y.1 ≤ k) × (k + local_words g v ≤ (at + local_words g y.1) + locals_words g vs))
        → (at ≤ k) × (k + local_words g v ≤ at + (local_words g y.1 + locals_words g vs))
    by true h go =
        let e : ◌≡◌ {A = ℕ × declared.Variable} (at, y.1) (k, v) = same_some (at, y.1) (k, v) h in
        let p : at ≡ k = ap (λ z. z.0) e in
        let q : local_words g y.1 ≡ local_words g v = ap (λ z. local_words g z.1) e in
        (omega (arith, p), omega (arith, p, q))
    by false h go = (omega (arith, (go h).0), omega (arith, (go h).1))

pub local_apart : (g : GlobalScope) (at : ℕ) (vs : List (Name × declared.Variable)) (x y : Name) (k l : ℕ) (v w : declared.Variable)
    → local_at g at vs x ≡ Some (k, v) → local_at g at vs y ≡ Some (l, w)
    → (x ≡ y) ⊎ ((k + local_words g v ≤ l) ⊎ (l + local_words g w ≤ k))
local_apart g at [] x y k l v w h e = absurd (some_is_not_none (k, v) (sym h))
local_apart g at (z ∷ vs) x y k l v w h e = by (bytes_eq x z.0) (bytes_eq y z.0) refl refl h e (local_apart g (at + local_words g z.1) vs x y k l v w)
  where
    here : (k : ℕ) (v : declared.Variable) → ◌≡◌ {A = Option (ℕ × declared.Variable)} (Some (at, z.1)) (Some (k, v)) → (at + local_words g z.1) ≡ (k + local_words g v)
    here k v h =
        let e : ◌≡◌ {A = ℕ × declared.Variable} (at, z.1) (k, v) = same_some (at, z.1) (k, v) h in
        ap (λ q. q.0 + local_words g q.1) e

    by : (a b : Bool) → bytes_eq x z.0 ≡ a → bytes_eq y z.0 ≡ b
        → (if a then Some (at, z.1) else local_at g (at + local_words g z.1) vs x) ≡ Some (k, v)
        → (if b then Some (at, z.1) else local_at g (at + local_words g z.1) vs y) ≡ Some (l, w)
        → (local_at g (at + local_words g z.1) vs x ≡ Some (k, v) → local_at g (at + local_words g z.1) vs y ≡ Some (l, w) → (x ≡ y) ⊎ ((k + local_words g v ≤ l) ⊎ (l + local_words g w ≤ k)))
        → (x ≡ y) ⊎ ((k + local_words g v ≤ l) ⊎ (l + local_words g w ≤ k))
    by true true a b h e go = inl (bytes_same x z.0 a ∙ sym (bytes_same y z.0 b))
    by true false a b h e go = inr (inl (omega (arith, here k v h, (local_inside g (at + local_words g z.1) vs y l w e).0)))
    by false true a b h e go = inr (inr (omega (arith, here l w e, (local_inside g (at + local_words g z.1) vs x k v h).0)))
    by false false a b h e go = go h e

-- What is found in an activation: the variable, and the part of it.
pub record FoundLocal (g : GlobalScope) (z : Activation) (x : Name) (path : Path) (n : ℕ) (u : ResolvedType) : Type 0 where
  pub at : ℕ
  pub variable : declared.Variable
  pub is : local g z.routine x ≡ Some (at, variable)
  pub far : ℕ
  pub there : part g variable.type path ≡ Some (far, u)
  pub place : n ≡ z.base + (at + far)
  pub words : local_words g variable ≡ words g variable.type
  pub passive : variable.by_reference ≡ false

pub found_local : (g : GlobalScope) (z : Activation) (x : Name) (path : Path) (n : ℕ) (u : ResolvedType) → part_of_activation g (Some z) x path ≡ Some (n, u) → FoundLocal g z x path n u
found_local g z x path n u h =
    let f = farther_some z.base (part_of_local g (local g z.routine x) path) n u h in by (local g z.routine x) refl f.0 f.1 f.2
  where
    by : (o : Option (ℕ × declared.Variable)) → local g z.routine x ≡ o → (m : ℕ) → part_of_local g o path ≡ Some (m, u) → n ≡ z.base + m → FoundLocal g z x path n u
    by None e m h p = absurd (some_is_not_none (m, u) (sym h))
    by (Some v) e m h p = inner v.1.by_reference refl h
      where
        inner : (b : Bool) → v.1.by_reference ≡ b → (if b then None else farther v.0 (part g v.1.type path)) ≡ Some (m, u) → FoundLocal g z x path n u
        inner true b h = absurd (some_is_not_none (m, u) (sym h))
        inner false b h =
            let f = farther_some v.0 (part g v.1.type path) m u h in
            record { at = v.0; variable = v.1; is = e; far = f.0; there = f.1; place = p ∙ ap (λ q. z.base + q) f.2; words = ap (λ t. if t then 1 else words g v.1.type) b; passive = b }

pub local_cell_inside : (g : GlobalScope) (z : Activation) (x : Name) (path : Path) (n : ℕ) (u : ResolvedType) (a : ℕ) → InHead g u a → FoundLocal g z x path n u
    → (z.base ≤ n + a) × (n + a < z.base + activation_words g z.routine)
local_cell_inside g z x path n u a c F =
    let i = local_inside g (result_words z.routine.result) (locals g z.routine) x F.at F.variable F.is in
    let p = part_fits g F.variable.type path F.far u F.there in
    (omega (arith, F.place), omega (arith, F.place, i.1, p, head_inside g u a c, F.words))

pub local_cells_apart : (g : GlobalScope) (z : Activation) (x y : Name) (p q : Path) (n m : ℕ) (u w : ResolvedType) (a b : ℕ) → InHead g u a → InHead g w b
    → FoundLocal g z x p n u → FoundLocal g z y q m w → n + a ≡ m + b → (ByName x ∷ p) ≡ (ByName y ∷ q)
local_cells_apart g z x y p q n m u w a b c d F E e = by (local_apart g (result_words z.routine.result) (locals g z.routine) x y F.at E.at F.variable E.variable F.is E.is)
  where
    by : (x ≡ y) ⊎ ((F.at + local_words g F.variable ≤ E.at) ⊎ (E.at + local_words g E.variable ≤ F.at)) → (ByName x ∷ p) ≡ (ByName y ∷ q)
    by (inl s) =
        let found : ◌≡◌ {A = ℕ × declared.Variable} (F.at, F.variable) (E.at, E.variable) = same_some (F.at, F.variable) (E.at, E.variable) (sym F.is ∙ (ap (local g z.routine) s ∙ E.is)) in
        let offsets : F.at ≡ E.at = ap (λ k. k.0) found in
        let there : part g F.variable.type q ≡ Some (E.far, w) = ap (λ k. part g k.1.type q) found ∙ E.there in
        let paths = part_apart g F.variable.type p q F.far E.far u w a b F.there there c d (omega (arith, e, F.place, E.place, offsets)) in
        λ i. ByName (s i) ∷ paths i
    by (inr (inl s)) = absurd (omega (arith, s, e, F.place, E.place, F.words, part_fits g F.variable.type p F.far u F.there, head_inside g u a c))
    by (inr (inr s)) = absurd (omega (arith, s, e, F.place, E.place, E.words, part_fits g E.variable.type q E.far w E.there, head_inside g w b d))

-- ---- all owners of a process

-- What is found in the process's own component.
pub component_part : (G : Ground) (xs : List Activation) (q : ℕ) (x : Name) (path : Path) (n : ℕ) (u : ResolvedType) → part_of_owner G xs (OfProcess q) x path ≡ Some (n, u)
    → (G.p ≡ q) × ((s : System) × (system_of_process G.setup q ≡ Some s) × (member_part (scope G) (head_words (scope G) s) (declared.reported_members (scope G) s) x path ≡ Some (n, u)))
component_part G xs q x path n u h = by (nat_eq G.p q) refl h
  where
    inner : (o : Option System) → system_of_process G.setup q ≡ o → part_of_component (scope G) o x path ≡ Some (n, u)
        → (s : System) × (system_of_process G.setup q ≡ Some s) × (member_part (scope G) (head_words (scope G) s) (declared.reported_members (scope G) s) x path ≡ Some (n, u))
    inner None e h = absurd (some_is_not_none (n, u) (sym h))
    inner (Some s) e h = (s, e, h)

    by : (b : Bool) → nat_eq G.p q ≡ b → (if b then part_of_component (scope G) (system_of_process G.setup q) x path else None) ≡ Some (n, u)
        → (G.p ≡ q) × ((s : System) × (system_of_process G.setup q ≡ Some s) × (member_part (scope G) (head_words (scope G) s) (declared.reported_members (scope G) s) x path ≡ Some (n, u)))
    by true e h = (eqb-true G.p q e, inner (system_of_process G.setup q) refl h)
    by false e h = absurd (some_is_not_none (n, u) (sym h))

pub component_cell : (G : Ground) (xs : List Activation) (top q : ℕ) (x : Name) (path : Path) (n : ℕ) (u : ResolvedType) (a : ℕ) → InHead (scope G) u a → part_of_owner G xs (OfProcess q) x path ≡ Some (n, u)
    → (G.p ≡ q) × ((s : System) × (system_of_process G.setup q ≡ Some s) × (member_part (scope G) (head_words (scope G) s) (declared.reported_members (scope G) s) x path ≡ Some (n, u)) × (head_words (scope G) s ≤ n) × (n + a < component_words (scope G) s))
component_cell G xs top q x path n u a c h =
    let C = component_part G xs q x path n u h in
    let s = C.1.0 in
    let at = head_words (scope G) s in
    let ms = declared.reported_members (scope G) s in
    (C.0, (s, C.1.1, C.1.2, member_above (scope G) at ms x path n u C.1.2, omega (arith, member_fits (scope G) at ms x path n u C.1.2, head_inside (scope G) u a c)))

-- What is found in an activation of the process.
pub record FoundActivation (G : Ground) (xs : List Activation) (q d : ℕ) (x : Name) (path : Path) (n : ℕ) (u : ResolvedType) : Type 0 where
  pub own : G.p ≡ q
  pub activation : Activation
  pub is : activation_at d xs ≡ Some activation
  pub found : FoundLocal (scope G) activation x path n u

pub activation_cell : (G : Ground) (xs : List Activation) (q d : ℕ) (x : Name) (path : Path) (n : ℕ) (u : ResolvedType) → part_of_owner G xs (OfActivation q d) x path ≡ Some (n, u)
    → FoundActivation G xs q d x path n u
activation_cell G xs q d x path n u h = by (nat_eq G.p q) refl h
  where
    inner : (o : Option Activation) → activation_at d xs ≡ o → part_of_activation (scope G) o x path ≡ Some (n, u) → G.p ≡ q → FoundActivation G xs q d x path n u
    inner None e h p = absurd (some_is_not_none (n, u) (sym h))
    inner (Some z) e h p = record { own = p; activation = z; is = e; found = found_local (scope G) z x path n u h }

    by : (b : Bool) → nat_eq G.p q ≡ b → (if b then part_of_activation (scope G) (activation_at d xs) x path else None) ≡ Some (n, u) → FoundActivation G xs q d x path n u
    by true e h = inner (activation_at d xs) refl h (eqb-true G.p q e)
    by false e h = absurd (some_is_not_none (n, u) (sym h))

-- What is found in a monitor.
pub record FoundMonitor (G : Ground) (m : ℕ) (x : Name) (path : Path) (n : ℕ) (u : ResolvedType) : Type 0 where
  pub system : System
  pub is : system_of_monitor G.setup m ≡ Some system
  pub far : ℕ
  pub there : member_part (scope G) (head_words (scope G) system) (declared.reported_members (scope G) system) x path ≡ Some (far, u)
  pub place : n ≡ G.own + monitor_start G.program m + far
  pub fits : far + words (scope G) u ≤ component_words (scope G) system

pub found_monitor : (G : Ground) (xs : List Activation) (m : ℕ) (x : Name) (path : Path) (n : ℕ) (u : ResolvedType) → part_of_owner G xs (OfMonitor m) x path ≡ Some (n, u)
    → FoundMonitor G m x path n u
found_monitor G xs m x path n u h =
    let f = farther_some (G.own + monitor_start G.program m) (part_of_component (scope G) (system_of_monitor G.setup m) x path) n u h in
    by (system_of_monitor G.setup m) refl f.0 f.1 f.2
  where
    by : (o : Option System) → system_of_monitor G.setup m ≡ o → (k : ℕ) → part_of_component (scope G) o x path ≡ Some (k, u) → n ≡ G.own + monitor_start G.program m + k → FoundMonitor G m x path n u
    by None e k h p = absurd (some_is_not_none (k, u) (sym h))
    by (Some s) e k h p = record {
      system = s;
      is = e;
      far = k;
      there = h;
      place = p;
      fits = member_fits (scope G) (head_words (scope G) s) (declared.reported_members (scope G) s) x path k u h;
    }

-- A right of the process's own component, or of a monitor's.
abbrev pub OwnRight : Ground → ℕ → Type 0
OwnRight G n =
    ((s : System) × (system_of_process G.setup G.p ≡ Some s) × (n < head_words (scope G) s))
    ⊎ ((m : ℕ) × (s : System) × (k : ℕ) × (in_sight G (OfMonitor m) ≡ true) × (system_of_monitor G.setup m ≡ Some s) × (k < head_words (scope G) s) × (n ≡ G.own + monitor_start G.program m + k))

-- The places of `var` parameters and the result in their activation.
pub reference_inside : (g : GlobalScope) (r : a.Routine) (x : Name) (at : ℕ) (v : declared.Variable) → local g r x ≡ Some (at, v) → v.by_reference ≡ true
    → (result_words r.result ≤ at) × (at < activation_words g r)
reference_inside g r x at v is by_reference =
    let i = local_inside g (result_words r.result) (locals g r) x at v is in
    let one : local_words g v ≡ 1 = ap (λ t. if t then 1 else words g v.type) by_reference in
    (i.0, omega (arith, i.1, one))

pub result_inside : (g : GlobalScope) (r : a.Routine) (t : Name) → r.result ≡ Some t → 0 < activation_words g r
result_inside g r t is = let one : result_words r.result ≡ 1 = ap result_words is in omega (arith, one)
