-- The component that a call goes to: where it begins, whether it is initialised, and which gate is
-- entered.
use Rattle.std.proofs.Common.{◌≡◌, ◌⊎◌, inl, inr, ℕ, ◌+◌, ◌≤◌, ◌<◌, ℤ, pos, List, [], ◌∷◌, Bool, true, false, Option, Some, None, refl, ap, sym, subst, ◌∙◌, arith}
use Rattle.std.specs.Prelude.{if◌then◌else◌, nat_eq, not, ◌+ℤ◌}
use Rattle.std.proofs.lemmas.Bool.{eq-eqb, lt-ltb, true≢false}
use Rattle.std.proofs.lemmas.Int.{ints}
use Rattle.cp_model.specs.Abstract as a
use Rattle.cp_model.specs.Abstract.{Class, Sort, System}
use Rattle.cp_model.specs.CallSteps.{component_target, is_initialised, target}
use Rattle.cp_model.specs.Components.{Component, class_or_here, component_named, declared_monitor, monitor_location, monitor_right, name_location}
use Rattle.cp_model.specs.Continuations.{Task}
use Rattle.cp_model.specs.Declarations.{reported_members}
use Rattle.cp_model.specs.Environments.{Environment}
use Rattle.cp_model.specs.Integers.{same_integer}
use Rattle.cp_model.specs.Invariant.{StoreInvariant}
use Rattle.cp_model.specs.Locations.{ByIndex, ByName, Location, OfActivation, OfMonitor, OfProcess, Owner, Path}
use Rattle.cp_model.specs.States.{State, context, is_set}
use Rattle.cp_model.specs.Stores.{Absent, ClassRight, MonitorRight, Store, Value}
use Rattle.cp_model.specs.Types.{ComponentOf, ResolvedType}
use Rattle.cp_model_program.specs.Terms as t
use Rattle.cp_model_program.specs.Layout.{Part, member, natural, right}
use Rattle.cp_model_program.specs.Sites.{RightTo, TargetFor, TargetOf, system_of_callee}
use Rattle.cp_model_program.specs.IsProgramFor.{system_of_monitor}
use Rattle.cp_model_program.specs.Starts.{word}
use Rattle.cp_model_machine.specs.PrivateStates.{StepContext, PrivateState}
use Rattle.cp_model_machine.specs.Passing.{Called, class_called, class_right, component_called, monitor_called, monitor_start, monitor_word}
use Rattle.cp_model_machine.specs.Steps.{is_monitor}
use Rattle.cp_model_machine.specs.Means.{MarkMeans}
use Rattle.cp_model_machine.specs.Addresses as addresses
use Rattle.cp_model_machine.specs.Addresses.{Activation, AllWords, ClassHasRights, ClassLies, ComponentLies, Ground, IsMonitor, MonitorLies, ProcessLies, RightMeans, RightOf, activations, component_type, in_sight, lies, part_at, scope, whole, words_seen}
use Rattle.cp_model_machine.specs.Remaining.{site}
use Rattle.cp_model_machine.specs.PartOf.{DataMeans}
use Rattle.cp_model_machine.proofs.Heres.{Sees, lies_any, member_lies}
use Rattle.cp_model_machine.proofs.Apart.{InHead}
use Rattle.cp_model_machine.proofs.Declares.{Declares}
use Rattle.cp_model_machine.proofs.Finding.{some_is_not_none}
use Rattle.cp_model_machine.proofs.Given.{class_has_rights, class_head}
use Rattle.cp_model_machine.proofs.Invoking.{TargetIs}
use Rattle.cp_model_machine.proofs.Keeping.{right_place}
use Rattle.cp_model_machine.proofs.RunningOn.{runs_stacked}
use Rattle.cp_model_machine.proofs.Owned.{OwnRight, component_part}
use Rattle.cp_model_machine.proofs.Separate.{cell_below, cell_inside, cell_no_own_right, own_right_below, own_right_inside, part_below}
use Rattle.cp_model_machine.proofs.Stepping.{AroundAll, Now}
use Rattle.cp_model_machine.proofs.Stacks.{monitor_seen}

-- The mark of a class shows whether it is initialised.
pub mark_is : (G : Ground) (xs : List Activation) (store : Store) (words : List ℤ) → DataMeans G xs (in_sight G) store words
    → (l : Location) (n : ℕ) (s : System) → in_sight G l.owner ≡ true → s.sort ≡ Class → lies G [] l ≡ Some (n, component_type G s)
    → not (same_integer (word words n) (pos 0)) ≡ is_initialised (store l)
mark_is G xs store words dm l n s m sort h =
    sym (ap is_initialised (subst (λ z. MarkMeans z (store l) (word words n)) sort (dm.cells l n (component_type G s) m (lies_any G xs l _ h))))

natural_same : (k : ℕ) → natural (pos k +ℤ pos 0) ≡ k
natural_same k = Prim.grind (arith, ints)

module _ (G : Ground) (s : State) (w : StepContext) (before : List ℕ) (o : PrivateState) (i : Task) (l : List Task) (N : Now G s w before o i l) (sees : Sees G (in_sight G) s.store N.on.running.env) (I : StoreInvariant s.store) where
  abbrev here : Environment
  here = N.on.running.env

  -- The machine's class is where the meaning's is.
  abbrev ClassTarget : Component → Location → Called → Type 0
  ClassTarget n at c =
      TargetIs G s.store (record { component = at; system = n.system; is_callable = is_initialised (s.store at); gate = None }) c n.system

  -- A class that is a variable of the running component is there.
  pub class_lies : (n : Component) (at : ℕ) → member here.globals here.system n.name ≡ Some (at, ComponentOf n.system (reported_members here.globals n.system))
      → lies G [] (name_location here n) ≡ Some (o.component + at, component_type G n.system)
  class_lies n at h =
      member_lies G [] here.component here.system N.on.running.component n.name at (component_type G n.system) N.on.runs.component
      (ap (λ g. member g here.system n.name) (sym N.on.runs.globals) ∙ (h ∙ ap (λ g. Some (at, ComponentOf n.system (reported_members g n.system))) N.on.runs.globals))
      ∙ ap (λ k. Some (k + at, component_type G n.system)) (sym N.on.component)

  abbrev right_there : ℕ → Type 0
  right_there off =
      OwnRight G (N.on.running.component + off)
      ⊎ ((lies G (activations o.base o.frames (i ∷ l)) here.component ≡ Some (N.on.running.component, component_type G here.system)) × InHead (scope G) (component_type G here.system) off × (1 ≤ off))

  right_is_there : (n : Component) (off : ℕ) → RightTo here n off → right_there off
  right_is_there n off r =
      right_place G (activations o.base o.frames (i ∷ l)) here.component here.system N.on.running.component off n.name r.variable sees.component N.on.runs.component
      (ap (λ g. right g here.system n.name) (sym N.on.runs.globals) ∙ r.lies)

  -- The word of a right of the running component is below what is passed, or in a monitor.
  pub right_below : (n : Component) (off : ℕ) → RightTo here n off → (o.component + off < o.base + (site G N.on.running).words) ⊎ (G.own ≤ o.component + off)
  right_below n off r =
      subst (λ z. (z + off < o.base + (site G N.on.running).words) ⊎ (G.own ≤ z + off)) (sym N.on.component) (by (right_is_there n off r))
    where
      by : right_there off → (N.on.running.component + off < o.base + (site G N.on.running).words) ⊎ (G.own ≤ N.on.running.component + off)
      by (inl q) = own_right_below G (activations o.base o.frames (i ∷ l)) _ (runs_stacked G s.store o (i ∷ l) N.on) (N.on.running.component + off) q
      by (inr q) =
          cell_below G (activations o.base o.frames (i ∷ l)) _ (runs_stacked G s.store o (i ∷ l) N.on) here.component N.on.running.component (component_type G here.system) off sees.component q.1 q.0

  right_inside : (n : Component) (off : ℕ) → RightTo here n off → o.component + off ≤ whole G
  right_inside n off r = by (right_is_there n off r)
    where
      by : right_there off → o.component + off ≤ whole G
      by (inl q) = omega (arith, N.on.component, own_right_inside G (activations o.base o.frames (i ∷ l)) _ (runs_stacked G s.store o (i ∷ l) N.on) (N.on.running.component + off) q)
      by (inr q) =
          omega (
            arith,
            N.on.component,
            cell_inside G (activations o.base o.frames (i ∷ l)) _ (runs_stacked G s.store o (i ∷ l) N.on) here.component N.on.running.component (component_type G here.system) off sees.component q.1 q.0,
          )

  -- What is outside the activations is among the words in reach.
  pub lies_below : (j : Location) (n : ℕ) (u : ResolvedType) → in_sight G j.owner ≡ true → lies G [] j ≡ Some (n, u) → n ≤ whole G
  lies_below j n u own is =
      part_below G (activations o.base o.frames (i ∷ l)) (o.base + (site G N.on.running).words) (runs_stacked G s.store o (i ∷ l) N.on) j n u own (lies_any G (activations o.base o.frames (i ∷ l)) j _ is)

  component_below : o.component ≤ whole G
  component_below = by N.on.runs.component
    where
      by : ComponentLies G here.component here.system N.on.running.component → o.component ≤ whole G
      by (ProcessLies where' is zero') = omega (arith, zero', N.on.component)
      by (MonitorLies m where' is from) =
          let S = monitor_seen G m (sym (ap (λ (at : Location). in_sight G at.owner) where') ∙ sees.component) in
          omega (arith, S.0.inside m here.system is, S.1, from, N.on.component)
      by (ClassLies sort is) = omega (arith, lies_below here.component N.on.running.component _ sees.component is, N.on.component)

  -- A class that was initialised has its rights.
  class_given : (j : Location) (n : ℕ) (y : System) → in_sight G j.owner ≡ true → y.sort ≡ Class → lies G [] j ≡ Some (n, component_type G y) → is_initialised (s.store j) ≡ true
      → ClassHasRights G s.store n
  class_given j n y own sort is set =
      class_has_rights G (activations o.base o.frames (i ∷ l)) (o.base + (site G N.on.running).words) (runs_stacked G s.store o (i ∷ l) N.on) j y n own sort is s.store (N.on.data_means.given j y n own sort is set)

  class_variable : (n : Component) (at : ℕ) → n.system.sort ≡ Class
      → member here.globals here.system n.name ≡ Some (at, ComponentOf n.system (reported_members here.globals n.system))
      → ClassTarget n (name_location here n) (class_called o (o.component + at))
  class_variable n at sort h = record {
    set_is = mark_is G (activations o.base o.frames (i ∷ l)) s.store o.words N.on.data_means (name_location here n) (o.component + at) n.system sees.component sort (class_lies n at h);
    there = lies_below (name_location here n) (o.component + at) _ sees.component (class_lies n at h);
    system = refl;
    lies_there = λ callable. ClassLies sort (class_lies n at h);
    given = λ callable. class_given (name_location here n) (o.component + at) n.system sees.component sort (class_lies n at h) callable;
    gate = refl;
    is_gate = λ callable. tt;
  }

  -- The word of a right means what is stored for it.
  pub right_held : (n : Component) (at : ℕ) → RightTo here n at → RightOf G n.system n.system.sort (s.store (name_location here n)) (o.component + at) (word o.words (o.component + at))
  right_held n at r =
      subst (λ z. RightMeans G z (s.store (name_location here n)) (o.component + at) (word o.words (o.component + at))) r.type
      (subst (λ k. RightMeans G r.variable.type (s.store (name_location here n)) (k + at) (word o.words (k + at))) (sym N.on.component)
      (N.on.data_means.rights here.component here.system N.on.running.component at n.name r.variable sees.component N.on.runs.component
      (ap (λ g. right g here.system n.name) (sym N.on.runs.globals) ∙ r.lies) (ap (λ g. member g here.system n.name) (sym N.on.runs.globals) ∙ r.no_member)))

  -- A class that a right of the running component names.
  class_by_right : (n : Component) (at : ℕ) → n.system.sort ≡ Class → RightTo here n at
      → ClassTarget n (class_or_here (name_location here n) (s.store (name_location here n))) (class_called o (class_right o at))
  class_by_right n at sort r = by (s.store (name_location here n)) refl (subst (λ z. RightOf G n.system z (s.store (name_location here n)) (o.component + at) (word o.words (o.component + at))) sort (right_held n at r))
    where
      by : (v : Value) → s.store (name_location here n) ≡ v → RightOf G n.system Class v (o.component + at) (word o.words (o.component + at))
          → ClassTarget n (class_or_here (name_location here n) v) (class_called o (class_right o at))
      by (ClassRight j) is h = record {
        set_is = mark_is G (activations o.base o.frames (i ∷ l)) s.store o.words N.on.data_means j (class_right o at) n.system
            (ap (in_sight G) (I.classes (name_location here n) j is) ∙ sees.component) sort h;
        there = lies_below j (class_right o at) _ (ap (in_sight G) (I.classes (name_location here n) j is) ∙ sees.component) h;
        system = refl;
        lies_there = λ callable. ClassLies sort h;
        given = λ callable. class_given j (class_right o at) n.system (ap (in_sight G) (I.classes (name_location here n) j is) ∙ sees.component) sort h callable;
        gate = refl;
        is_gate = λ callable. tt;
      }
      by Absent is h =
          let itself : class_right o at ≡ o.component + at = ap (λ z. natural (pos (o.component + at) +ℤ z)) h ∙ natural_same (o.component + at) in
          let unset : not (same_integer (word o.words (class_right o at)) (pos 0)) ≡ false
          = ap (λ k. not (same_integer (word o.words k) (pos 0))) itself ∙ ap (λ z. not (same_integer z (pos 0))) h in
          let nothing : is_initialised (s.store (name_location here n)) ≡ false = ap is_initialised is in
          record {
            set_is = unset ∙ sym nothing;
            there = omega (arith, itself, right_inside n at r);
            system = refl;
            lies_there = λ callable. absurd (true≢false (sym callable ∙ nothing));
            given = λ callable. absurd (true≢false (sym callable ∙ nothing));
            gate = refl;
            is_gate = λ callable. tt;
          }
      by _ is h = absurd h

  -- The target of a call that enters no monitor.
  pub target_is : (of : Option Component) (x : t.Target) → TargetFor here of x → is_monitor x ≡ false
      → TargetIs G s.store (target (context G.setup s G.p) s.store here of) (component_called G.program w o x) (system_of_callee here of)
  target_is None x h private =
      subst (λ z. TargetIs G s.store (target (context G.setup s G.p) s.store here None) (component_called G.program w o z) here.system) (sym h)
      record {
        set_is = refl;
        there = component_below;
        system = refl;
        lies_there = λ callable. subst (ComponentLies G here.component here.system) (sym N.on.component) N.on.runs.component;
        given = λ callable. N.on.given.0;
        gate = refl;
        is_gate = λ callable. tt;
      }
  target_is (Some n) x h private = by n.system.sort n.is_parameter refl refl x h private
    where
      by : (z : Sort) (b : Bool) → n.system.sort ≡ z → n.is_parameter ≡ b → (x : t.Target) → TargetOf here n z b x → is_monitor x ≡ false
          → TargetIs G s.store (component_target (context G.setup s G.p) here s.store z n) (component_called G.program w o x) n.system
      by a.Class false sort own (t.Class at) h private =
          subst (λ b. ClassTarget n (if b then class_or_here (name_location here n) (s.store (name_location here n)) else name_location here n) (class_called o (o.component + at))) (sym own)
          (class_variable n at sort h)
      by a.Class true sort own (t.ClassRight at) h private =
          subst (λ b. ClassTarget n (if b then class_or_here (name_location here n) (s.store (name_location here n)) else name_location here n) (class_called o (class_right o at))) (sym own)
          (class_by_right n at sort h)
      by a.Monitor false sort own (t.Monitor m) h private = absurd (true≢false private)
      by a.Monitor true sort own (t.MonitorRight at) h private = absurd (true≢false private)
      by _ _ sort own _ h private = absurd h

  -- ---- monitors

  module _ (K : AroundAll G s w) where
    seen_all : (j : Location) (v : Part) → lies G [] j ≡ Some v → in_sight G j.owner ≡ true
    seen_all j v h = subst (λ z. addresses.sees z G.p j.owner ≡ true) (sym K.sight) (by j.owner j.path h)
      where
        nowhere : (b : Bool) (x : Option Part) → x ≡ None → (if b then x else None) ≡ Some v → ⊥
        nowhere true x none e = some_is_not_none v (sym e ∙ none)
        nowhere false x none e = some_is_not_none v (sym e)

        by : (q : Owner) (path : Path) → part_at G [] q path ≡ Some v → addresses.sees AllWords G.p q ≡ true
        by q [] h = absurd (some_is_not_none v (sym h))
        by q (ByIndex z ∷ path) h = absurd (some_is_not_none v (sym h))
        by (OfProcess r) (ByName x ∷ path) h = eq-eqb G.p r (component_part G [] r x path v.0 v.1 h).0
        by (OfActivation r d) (ByName x ∷ path) h = absurd (nowhere (nat_eq G.p r) None refl h)
        by (OfMonitor m) (ByName x ∷ path) h = refl

    -- No class is where a monitor begins.
    pub no_class_begins : (store : Store) (m : ℕ) (y : System) → system_of_monitor G.setup m ≡ Some y → ClassHasRights G store (w.own + monitor_start G.program m)
    no_class_begins store m y is at r class' h =
        absurd (cell_no_own_right G (activations o.base o.frames (i ∷ l)) _ (runs_stacked G s.store o (i ∷ l) N.on) at (w.own + monitor_start G.program m) (G.own + monitor_start G.program m + 0)
        (component_type G r) 0 (seen_all at _ h) (class_head G r class') (lies_any G (activations o.base o.frames (i ∷ l)) at _ h)
        (inr (m, y, 0, ap (λ v. addresses.sees v G.p (OfMonitor m)) K.sight, is, omega arith, refl)) (omega (arith, N.around.own)))

    abbrev MonitorTarget : Component → ℕ → Called → Type 0
    MonitorTarget n m c = TargetIs G s.store (record { component = monitor_location m; system = n.system; is_callable = is_set (s.gates m).holder; gate = Some m }) c n.system

    monitor_target : (n : Component) (m : ℕ) → IsMonitor G m n.system → MonitorTarget n m (monitor_called G.program w m)
    monitor_target n m is = record {
      set_is = K.set_is m;
      there = omega (arith, N.around.own, K.starts m, ap (λ v. words_seen v G.program G.own) K.sight);
      system = refl;
      lies_there = λ callable. MonitorLies m refl (there callable) (omega (arith, N.around.own));
      given = λ callable. no_class_begins s.store m n.system (there callable);
      gate = refl;
      is_gate = λ callable. (n.system, there callable);
    }
      where
        there : is_set (s.gates m).holder ≡ true → system_of_monitor G.setup m ≡ Some n.system
        there callable = by is
          where
            by : IsMonitor G m n.system → system_of_monitor G.setup m ≡ Some n.system
            by (inl zero') = absurd (true≢false (sym callable ∙ (sym (K.set_is m) ∙ (ap w.is_set zero' ∙ K.none_set))))
            by (inr e) = e

    -- The number of a monitor is a word.
    numbered : (m : ℕ) (y : System) → IsMonitor G m y → natural (monitor_word m) ≡ m
    numbered m y h = ap (λ b. natural (if b then pos m else pos 0)) (lt-ltb m 2147483648 (by h))
      where
        by : IsMonitor G m y → m < 2147483648
        by (inl e) = omega (arith, e)
        by (inr e) = omega (arith, K.few m y e)

    -- The target of a call that enters a monitor.
    pub monitor_is : Declares G here → (of : Option Component) (x : t.Target) → TargetFor here of x → ((n : Component) → of ≡ Some n → component_named here n.name ≡ Some n) → is_monitor x ≡ true
        → TargetIs G s.store (target (context G.setup s G.p) s.store here of) (component_called G.program w o x) (system_of_callee here of)
    monitor_is D None x h named enters = absurd (true≢false (sym enters ∙ ap is_monitor h))
    monitor_is D (Some n) x h named enters = by n.system.sort n.is_parameter refl refl x h enters
      where
        by : (z : Sort) (b : Bool) → n.system.sort ≡ z → n.is_parameter ≡ b → (x : t.Target) → TargetOf here n z b x → is_monitor x ≡ true
            → TargetIs G s.store (component_target (context G.setup s G.p) here s.store z n) (component_called G.program w o x) n.system
        by a.Class false sort own (t.Class at) h enters = absurd (true≢false (sym enters))
        by a.Class true sort own (t.ClassRight at) h enters = absurd (true≢false (sym enters))
        by a.Monitor false sort own (t.Monitor m) h enters =
            subst (λ z. MonitorTarget n z (monitor_called G.program w m)) (sym (ap (λ b. if b then monitor_right (s.store (name_location here n)) else declared_monitor here n) own ∙ h))
            (monitor_target n m (inr (ap (system_of_monitor G.setup) (sym h) ∙ D.monitors n.name n (named n refl) own sort)))
        by a.Monitor true sort own (t.MonitorRight at) h enters =
            subst (λ b. MonitorTarget n (if b then monitor_right (s.store (name_location here n)) else declared_monitor here n) (monitor_called G.program w (natural (word o.words (o.component + at))))) (sym own)
            (held (s.store (name_location here n)) (subst (λ y. RightOf G n.system y (s.store (name_location here n)) (o.component + at) (word o.words (o.component + at))) sort (right_held n at h)))
          where
            held : (v : Value) → RightOf G n.system a.Monitor v (o.component + at) (word o.words (o.component + at))
                → MonitorTarget n (monitor_right v) (monitor_called G.program w (natural (word o.words (o.component + at))))
            held (MonitorRight m) r =
                subst (λ z. MonitorTarget n m (monitor_called G.program w z)) (sym (ap natural r.0 ∙ numbered m n.system r.1)) (monitor_target n m r.1)
            held Absent r = subst (λ z. MonitorTarget n 0 (monitor_called G.program w (natural z))) (sym r) (monitor_target n 0 (inl refl))
            held _ r = absurd r
        by _ _ sort own _ h enters = absurd h
