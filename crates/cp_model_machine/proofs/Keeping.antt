-- What the words mean stays the same if changes of the store and of words affect nothing that is in
-- use.
use Rattle.std.proofs.Common.{◌≡◌, ◌⊎◌, inl, inr, ℕ, suc, ◌+◌, ◌≤◌, ◌<◌, ℤ, List, [], ◌∷◌, length, Bool, true, false, Some, None, refl, ap, sym, subst, ◌∙◌, arith}
use Rattle.std.specs.Prelude.{if◌then◌else◌}
use Rattle.std.proofs.lemmas.Bool.{eq-eqb}
use Rattle.cp_model.specs.Abstract.{Class, Name, System}
use Rattle.cp_model.specs.CallSteps.{is_initialised, result_location}
use Rattle.cp_model.specs.Continuations.{Do, EndBody, EndCall, EndProcess, ForNext, RepeatTest, Task, WhileTest}
use Rattle.cp_model.specs.Declarations as declared
use Rattle.cp_model.specs.Declarations.{reported_members}
use Rattle.cp_model.specs.Environments.{Environment, Frame}
use Rattle.cp_model.specs.Locations.{ByName, Location, OfActivation, Owner, under}
use Rattle.std.specs.Str.{bytes_eq}
use Rattle.cp_model.specs.Stores.{Store}
use Rattle.cp_model.specs.Types.{ComponentOf, ResolvedType}
use Rattle.cp_model.proofs.Options.{same_some}
use Rattle.cp_model_program.specs.Layout.{farther, head_words, local, member, member_part, natural, of_class, right, right_at, rights}
use Rattle.cp_model_program.specs.Starts.{word}
use Rattle.cp_model_program.specs.TermsFor.{Knowns, nothing_known}
use Rattle.cp_model_machine.specs.Means.{CellMeans}
use Rattle.cp_model_machine.specs.PrivateStates as machine
use Rattle.cp_model_machine.specs.Addresses.{Activation, ClassLies, ComponentLies, Ground, MonitorLies, ProcessLies, RightMeans, activation_at, activation_of, activations, component_type, in_sight, lies, part_of_component, scope}
use Rattle.cp_model_machine.specs.Remaining.{Remaining, Running, kept_below}
use Rattle.cp_model_machine.specs.PartOf.{ActivationMeans, ActivationsMean, DataMeans, IfFrame, ResultMeans}
use Rattle.cp_model_program.specs.IsProgramFor.{system_of_process}
use Rattle.cp_model_machine.proofs.Apart.{InHead, IsCell, IsClass}
use Rattle.cp_model_machine.proofs.Finding.{some_is_not_none}
use Rattle.cp_model_machine.proofs.Given.{KeepsGiven, rights_kept}
use Rattle.cp_model_machine.proofs.Heres.{depth_is, found_behind, found_here, lies_any}
use Rattle.cp_model_machine.proofs.Leads.{lies_on}
use Rattle.cp_model_machine.proofs.Owned.{OwnRight}
use Rattle.cp_model_machine.proofs.Writing.{is_cell}
use Rattle.cp_model_machine.specs.Passing.{monitor_start}

-- ---- where rights are

pub right_within : (k : ℕ) (vs : List (Name × declared.Variable)) (x : Name) (m : ℕ) (v : declared.Variable) → right_at k vs x ≡ Some (m, v) → (k ≤ m) × (m < k + length vs)
right_within k [] x m v h = absurd (some_is_not_none (m, v) (sym h))
right_within k (y ∷ vs) x m v h = by (bytes_eq x y.0) h (right_within (suc k) vs x m v)
  where
    by : (b : Bool) → (if b then Some (k, y.1) else right_at (suc k) vs x) ≡ Some (m, v) → (right_at (suc k) vs x ≡ Some (m, v) → (suc k ≤ m) × (m < suc k + length vs))
        → (k ≤ m) × (m < k + suc (length vs))
    by true h go =
        let e : k ≡ m = ap (λ z. z.0) (same_some {A = ℕ × declared.Variable} (k, y.1) (m, v) h) in
        (omega (arith, e), omega (arith, e))
    by false h go = (omega (arith, (go h).0), omega (arith, (go h).1))

-- The place of a right of the process's own component, or of a class.
pub right_place : (G : Ground) (xs : List Activation) (at : Location) (s : System) (n m : ℕ) (x : Name) (v : declared.Variable)
    → in_sight G at.owner ≡ true → ComponentLies G at s n → right (scope G) s x ≡ Some (m, v)
    → OwnRight G (n + m) ⊎ ((lies G xs at ≡ Some (n, ComponentOf s (reported_members (scope G) s))) × InHead (scope G) (ComponentOf s (reported_members (scope G) s)) m × (1 ≤ m))
right_place G xs at s n m x v mine (ProcessLies where' is zero') r =
    let w = right_within 1 (rights (scope G) s) x m v r in
    inl (inl (s, is, omega (arith, w.1, zero')))
right_place G xs at s n m x v mine (MonitorLies k where' is from) r =
    let w = right_within 1 (rights (scope G) s) x m v r in
    inl (inr (k, s, m, sym (ap (λ (l : Location). in_sight G l.owner) where') ∙ mine, is, omega (arith, w.1), omega (arith, from)))
right_place G xs at s n m x v mine (ClassLies sort is) r =
    let w = right_within 1 (rights (scope G) s) x m v r in
    inr (lies_any G xs at _ is, (subst IsClass (sym sort) tt, omega (arith, w.1)), w.0)

-- No variable has the name of a right, unless it is a member.
pub right_no_variable : (G : Ground) (xs : List Activation) (at : Location) (s : System) (n : ℕ) (x : Name)
    → ComponentLies G at s n → member (scope G) s x ≡ None
    → lies G xs (under at (ByName x ∷ [])) ≡ None
right_no_variable G xs at s n x (ProcessLies where' is zero') none =
    ap (λ l. lies G xs (under l (ByName x ∷ []))) where'
    ∙ (ap (λ b. if b then part_of_component (scope G) (system_of_process G.setup G.p) x [] else None) (eq-eqb G.p G.p refl)
    ∙ (ap (λ z. part_of_component (scope G) z x []) is ∙ none))
right_no_variable G xs at s n x (MonitorLies k where' is from) none =
    ap (λ l. lies G xs (under l (ByName x ∷ []))) where'
    ∙ (ap (λ z. farther (G.own + monitor_start G.program k) (part_of_component (scope G) z x [])) is
    ∙ ap (farther (G.own + monitor_start G.program k)) none)
right_no_variable G xs at s n x (ClassLies sort is) none =
    lies_on G xs at (ByName x ∷ []) n (ComponentOf s (reported_members (scope G) s)) (lies_any G xs at _ is)
    ∙ ap (farther n) (ap (λ z. of_class z (member_part (scope G) (head_words (scope G) s) (reported_members (scope G) s) x [])) sort ∙ none)

-- ---- what is kept

abbrev pub depth_of : ℕ → Owner → ℕ
depth_of n (OfActivation p d) = d
depth_of n _ = n

abbrev pub local_named : Ground → ℕ → Name → Location
local_named G d x = record { owner = OfActivation G.p d; path = ByName x ∷ [] }

module _ (G : Ground) (store after : Store) (old new : List ℤ) where
  -- The `var` parameters and the result of the activation at a depth.
  abbrev pub KeepsActivation : ℕ → Activation → Type 0
  KeepsActivation d z =
      ((x : Name) (at : ℕ) (v : declared.Variable) → local (scope G) z.routine x ≡ Some (at, v) → v.by_reference ≡ true
      → (after (local_named G d x) ≡ store (local_named G d x)) × (word new (z.base + at) ≡ word old (z.base + at)))
      × ((t : Name) → z.routine.result ≡ Some t → local (scope G) z.routine z.routine.name ≡ None
      → (after (local_named G d z.routine.name) ≡ store (local_named G d z.routine.name)) × (word new z.base ≡ word old z.base))

  pub activation_kept : (xs : List Activation) (b d : ℕ) (f : Frame) → f.owner ≡ OfActivation G.p d → KeepsActivation d (record { base = b; routine = f.routine })
      → ActivationMeans G xs store old b f → ActivationMeans G xs after new b f
  activation_kept xs b d f owner keeps m = record {
    references = λ x at v is by_reference.
        let k = keeps.0 x at v is by_reference in
        let r = m.references x at v is by_reference in (
          r.0,
          ap (λ o. after (record { owner = o; path = ByName x ∷ [] })) owner ∙ (k.0 ∙ (ap (λ o. store (record { owner = o; path = ByName x ∷ [] })) (sym owner) ∙ r.1)),
          r.2 ∙ ap (λ z. Some (natural z, v.type)) (sym k.1),
        );
    result = λ t is none.
        let k = keeps.1 t is none in
        let same : after (result_location f) ≡ store (result_location f) =
        ap (λ o. after (record { owner = o; path = ByName f.routine.name ∷ [] })) owner ∙ (k.0 ∙ ap (λ o. store (record { owner = o; path = ByName f.routine.name ∷ [] })) (sym owner)) in
        subst (λ z. ResultMeans z (word new b)) (sym same) (subst (λ z. ResultMeans (store (result_location f)) z) (sym k.1) (m.result t is none));
  }

  -- What is proved of each activation that is found.
  abbrev pub EachKept : List Activation → Type 0
  EachKept xs =
      (rest : List Activation) (f : Frame) (c : ℕ) → f.owner ≡ OfActivation G.p (length rest)
      → activation_at (length rest) xs ≡ Some (record { base = c; routine = f.routine })
      → ActivationMeans G rest store old c f → ActivationMeans G rest after new c f

  pub each_kept : (xs : List Activation) → ((d : ℕ) (z : Activation) → activation_at d xs ≡ Some z → KeepsActivation d z) → EachKept xs
  each_kept xs keeps rest f c owner there = activation_kept rest c (length rest) f owner (keeps (length rest) (record { base = c; routine = f.routine }) there)

  -- The same for all activations.
  pub activations_kept : (temps : List ℤ) (limit b : ℕ) (K : Knowns) (R : Running) (fs : List machine.Frame) (place low : ℕ) (k : List Task)
      → Remaining G temps limit K R fs place low k → EachKept (activations b fs k)
      → ActivationsMean G store old b fs k → ActivationsMean G after new b fs k
  activations_kept temps limit b K R fs place low [] h keeps m = absurd h
  activations_kept temps limit b K R fs place low (Do s e ∷ k) h keeps m =
      activations_kept temps limit b nothing_known R fs h.2.0 h.2.1 k h.2.4 keeps m
  activations_kept temps limit b K R fs place low (WhileTest now e s env ∷ k) h keeps m =
      activations_kept temps limit b nothing_known R fs h.1.0 h.1.1 k h.1.4 keeps m
  activations_kept temps limit b K R fs place low (RepeatTest now s e env ∷ k) h keeps m =
      activations_kept temps limit b nothing_known R fs h.1.0 h.1.1 k h.1.4 keeps m
  activations_kept temps limit b K R fs place low (ForNext x down n last s env ∷ k) h keeps m =
      activations_kept temps limit b nothing_known R fs h.1.0 h.1.1 k h.1.4 keeps m
  activations_kept temps limit b K R (f ∷ fs) place low (EndCall env gate ∷ k) h keeps m =
      let c = h.3 in
      let own : Frame = h.1.frame in
      let rest = activations f.base fs k in
      let inner : Knowns = kept_below c.2 c.3 temps c.0.temp in
      let here : env.frame ≡ Some own = ap (λ (y : Environment). y.frame) h.0 ∙ h.1.runs in
      let owner : own.owner ≡ OfActivation G.p (length rest)
      = h.1.owner ∙ ap (OfActivation G.p) (sym (depth_is G temps limit f.base inner c.0 fs c.1 c.2 k c.7)) in
      let top : Activation = record { base = b; routine = own.routine } in
      let are : activations b (f ∷ fs) (EndCall env gate ∷ k) ≡ top ∷ rest = ap (λ z. activation_of b z rest) here in (
        subst (λ z. IfFrame z (ActivationMeans G rest after new b)) (sym here)
            (keeps rest own b owner (ap (activation_at (length rest)) are ∙ found_here (length rest) top rest refl)
            (subst (λ z. IfFrame z (ActivationMeans G rest store old b)) here m.0)),
        activations_kept temps limit f.base inner c.0 fs c.1 c.2 k c.7
            (λ below g a o e. keeps below g a o
            (ap (activation_at (length below)) are
            ∙ found_behind (length below) top rest (record { base = a; routine = g.routine }) e)) m.1,
      )
  activations_kept temps limit b K R (f ∷ fs) place low (EndBody gate ∷ k) h keeps m =
      let c = h.3 in activations_kept temps limit f.base nothing_known c.0 fs f.counter c.1 k c.4 keeps m
  activations_kept temps limit b K R fs place low (EndProcess ∷ k) h keeps m =
      subst (λ z. ActivationsMean G after new b fs z) (sym h.1) tt
  activations_kept temps limit b K R [] place low (EndCall env gate ∷ k) h keeps m = absurd h
  activations_kept temps limit b K R [] place low (EndBody gate ∷ k) h keeps m = absurd h

  -- The variables and rights of a process.
  pub record KeepsData (xs : List Activation) : Type 0 where
    pub cells : (l : Location) (n : ℕ) (t : ResolvedType) → in_sight G l.owner ≡ true → IsCell t → lies G xs l ≡ Some (n, t) → CellMeans t (store l) (word old n) → CellMeans t (after l) (word new n)
    pub rights : (at : Location) (s : System) (n m : ℕ) (x : Name) (v : declared.Variable) → in_sight G at.owner ≡ true → ComponentLies G at s n
        → right (scope G) s x ≡ Some (m, v) → member (scope G) s x ≡ None
        → (after (under at (ByName x ∷ [])) ≡ store (under at (ByName x ∷ []))) × (word new (n + m) ≡ word old (n + m))
    pub stored : (at : Location) (s : System) (n : ℕ) (x : Name) → s.sort ≡ Class → lies G [] at ≡ Some (n, component_type G s) → member (scope G) s x ≡ None
        → after (under at (ByName x ∷ [])) ≡ store (under at (ByName x ∷ []))
    pub marks : (at : Location) (s : System) (n : ℕ) → in_sight G at.owner ≡ true → s.sort ≡ Class → lies G [] at ≡ Some (n, component_type G s) → after at ≡ store at

  pub keeps_given : (xs : List Activation) → KeepsData xs → KeepsGiven G store after
  keeps_given xs K at s n sort is = rights_kept G store after at s (λ m x v r none. K.stored at s n x sort is none)

  pub right_kept : (xs : List Activation) (at : Location) (s : System) (n m : ℕ) (x : Name) (v : declared.Variable)
      → (after (under at (ByName x ∷ [])) ≡ store (under at (ByName x ∷ []))) × (word new (n + m) ≡ word old (n + m))
      → RightMeans G v.type (store (under at (ByName x ∷ []))) (n + m) (word old (n + m)) → RightMeans G v.type (after (under at (ByName x ∷ []))) (n + m) (word new (n + m))
  right_kept xs at s n m x v k D =
      subst (λ z. RightMeans G v.type z (n + m) (word new (n + m))) (sym k.0)
      (subst (λ z. RightMeans G v.type (store (under at (ByName x ∷ []))) (n + m) z) (sym k.1) D)

  pub data_kept : (xs : List Activation) → KeepsData xs → DataMeans G xs (in_sight G) store old → DataMeans G xs (in_sight G) after new
  data_kept xs K D = record {
    cells = λ l n t mine h. by l n t mine h (is_cell t);
    rights = λ at s n m x v mine cl r none.
        right_kept xs at s n m x v (K.rights at s n m x v mine cl r none) (D.rights at s n m x v mine cl r none);
    given = λ at s n mine sort is set. keeps_given xs K at s n sort is (D.given at s n mine sort is (ap is_initialised (sym (K.marks at s n mine sort is)) ∙ set));
  }
    where
      by : (l : Location) (n : ℕ) (t : ResolvedType) → in_sight G l.owner ≡ true → lies G xs l ≡ Some (n, t)
          → IsCell t ⊎ ((v : Rattle.cp_model.specs.Stores.Value) (z : ℤ) → CellMeans t v z) → CellMeans t (after l) (word new n)
      by l n t mine h (inl c) = K.cells l n t mine c h (D.cells l n t mine h)
      by l n t mine h (inr f) = f (after l) (word new n)
