-- Rights that are passed to a component.
use Rattle.std.proofs.Common.{◌≡◌, inl, inr, ℕ, ◌+◌, ◌≤◌, ℤ, pos, List, [], ◌∷◌, length, Bool, true, false, Some, refl, ap, sym, subst, ◌∙◌, arith}
use Rattle.std.specs.Prelude.{if◌then◌else◌, ◌+ℤ◌, ◌-ℤ◌}
use Rattle.std.proofs.lemmas.Int.{ints}
use Rattle.cp_model.specs.Abstract as a
use Rattle.cp_model.specs.Abstract.{Class, Name, Sort, System}
use Rattle.cp_model.specs.Arguments.{right_writes}
use Rattle.cp_model.specs.Components.{Component, class_or_here, component_named, declared_monitor, monitor_right, name_location}
use Rattle.cp_model.specs.Continuations.{Task}
use Rattle.cp_model.specs.Environments.{Environment}
use Rattle.cp_model.specs.Invariant.{StoreInvariant}
use Rattle.cp_model.specs.Locations.{Location}
use Rattle.cp_model.specs.States.{State}
use Rattle.cp_model.specs.Stores.{Absent, ClassRight, MonitorRight, Value}
use Rattle.cp_model.specs.Types.{ComponentOf, Members}
use Rattle.cp_model_program.specs.Terms as t
use Rattle.cp_model_program.specs.Layout.{member, natural, right}
use Rattle.cp_model_program.specs.Sites.{RightTo, TargetFor, TargetOf}
use Rattle.cp_model_program.specs.Starts.{word}
use Rattle.cp_model_machine.specs.PrivateStates.{StepContext, PrivateState}
use Rattle.cp_model_machine.specs.Passing.{class_right, distance_word, monitor_word, right_word}
use Rattle.cp_model_machine.specs.Addresses.{ClassLies, ComponentLies, Ground, IsGiven, IsGivenTo, IsMonitor, MonitorLies, ProcessLies, RightMeans, RightOf, component_type, in_sight, lies, scope}
use Rattle.cp_model_machine.specs.Remaining.{site}
use Rattle.cp_model_program.specs.IsProgramFor.{system_of_monitor}
use Rattle.cp_model_machine.proofs.Declares.{Declares}
use Rattle.cp_model_machine.proofs.Heres.{Sees}
use Rattle.cp_model_machine.proofs.ProcessRights.{NoClassRights}
use Rattle.cp_model_machine.proofs.Rooms.{far}
use Rattle.cp_model_machine.proofs.Stepping.{Now}
use Rattle.cp_model_machine.proofs.Targets.{class_lies, lies_below, right_below, right_held}
use Rattle.cp_model_machine.proofs.Holding.{SameBelow}

back_again : (x y : ℕ) → natural (pos x +ℤ (pos y -ℤ pos x)) ≡ y
back_again x y = Prim.grind (arith, ints)

module _ (G : Ground) (s : State) (w : StepContext) (before : List ℕ) (o : PrivateState) (i : Task) (l : List Task) (N : Now G s w before o i l) (sees : Sees G (in_sight G) s.store N.on.running.env) (I : StoreInvariant s.store) where
  abbrev here : Environment
  here = N.on.running.env

  -- What a right to a monitor holds.
  monitor_held : (n : Component) (off : ℕ) → n.system.sort ≡ a.Monitor → RightTo here n off
      → RightOf G n.system a.Monitor (s.store (name_location here n)) (o.component + off) (word o.words (o.component + off))
  monitor_held n off sort r =
      subst (λ z. RightOf G n.system z (s.store (name_location here n)) (o.component + off) (word o.words (o.component + off))) sort (right_held G s w before o i l N sees I n off r)

  -- A right to a class that the running component has was given to it.
  class_set : NoClassRights G → (n : Component) (off : ℕ) → n.system.sort ≡ Class → RightTo here n off → IsGivenTo Class (s.store (name_location here n))
  class_set none n off sort r = subst (λ z. IsGivenTo z (s.store (name_location here n))) sort (subst (λ z. IsGiven z (s.store (name_location here n))) r.type (by N.on.runs.component))
    where
      lying : right (scope G) here.system n.name ≡ Some (off, r.variable)
      lying = ap (λ g. right g here.system n.name) (sym N.on.runs.globals) ∙ r.lies

      by : ComponentLies G here.component here.system N.on.running.component → IsGiven r.variable.type (s.store (name_location here n))
      by (ClassLies class' is) =
          N.on.given.0 here.component here.system class' (is ∙ ap (λ z. Some (z, component_type G here.system)) (sym N.on.component)) off n.name r.variable lying
          (ap (λ g. member g here.system n.name) (sym N.on.runs.globals) ∙ r.no_member)
      by (ProcessLies where' is zero') = absurd (none.0 here.system is off n.name r.variable n.system r.inner lying r.type sort)
      by (MonitorLies m where' is from) = absurd (none.1 m here.system is off n.name r.variable n.system r.inner lying r.type sort)

  -- A right, as the meaning and the machine pass it.
  pub given : NoClassRights G → Declares G here → (y : System) (c : ℕ) → (n : Component) → (n.system.sort ≡ Class → y.sort ≡ Class) → (x : t.Target) → TargetFor here (Some n) x → (named : Name) → component_named here named ≡ Some n → (ws : List ℤ)
      → SameBelow G (o.base + (site G N.on.running).words) o.words ws → length ws ≡ length o.words → (k : ℕ) (inner : Members) (at : Location)
      → c + k ≤ length o.words
      → (v : Value) × (right_writes here s.store y.sort at n.system.sort n ≡ (at, v) ∷ []) × RightMeans G (ComponentOf n.system inner) v (c + k) (right_word (record o { words = ws }) (c + k) x)
      × IsGiven (ComponentOf n.system inner) v
  given none declares y c n may x h named found ws same len k inner at room =
      by n.system.sort n.is_parameter refl refl x h
    where
      by : (z : Sort) (b : Bool) → n.system.sort ≡ z → n.is_parameter ≡ b → (x : t.Target) → TargetOf here n z b x
          → (v : Value) × (right_writes here s.store y.sort at z n ≡ (at, v) ∷ []) × RightOf G n.system z v (c + k) (right_word (record o { words = ws }) (c + k) x) × IsGivenTo z v
      by a.Class false sort own (t.Class off) h =
          let there = class_lies G s w before o i l N sees I n off h in
          subst (λ q. (v : Value) × (right_writes here s.store q at a.Class n ≡ (at, v) ∷ []) × RightOf G n.system a.Class v (c + k) (right_word (record o { words = ws }) (c + k) (t.Class off)) × IsGivenTo a.Class v) (sym (may sort)) (
            ClassRight (name_location here n),
            (λ j. (at, ClassRight (if own j then class_or_here (name_location here n) (s.store (name_location here n)) else name_location here n)) ∷ []),
            subst (λ z. lies G [] (name_location here n) ≡ Some (natural (pos (c + k) +ℤ z), component_type G n.system))
                (sym (far (record o { words = ws }) (o.component + off) (c + k) (omega (arith, len, N.on.count, lies_below G s w before o i l N sees I (name_location here n) (o.component + off) _ sees.component there)) (omega (arith, len, room))))
                (there ∙ ap (λ z. Some (z, component_type G n.system)) (sym (back_again (c + k) (o.component + off)))),
            tt,
          )
      by a.Class true sort own (t.ClassRight off) h =
          subst (λ q. (v : Value) × (right_writes here s.store q at a.Class n ≡ (at, v) ∷ []) × RightOf G n.system a.Class v (c + k) (right_word (record o { words = ws }) (c + k) (t.ClassRight off)) × IsGivenTo a.Class v) (sym (may sort))
          (handed (s.store (name_location here n)) (class_set none n off sort h)
          (subst (λ y. RightOf G n.system y (s.store (name_location here n)) (o.component + off) (word o.words (o.component + off))) sort (right_held G s w before o i l N sees I n off h)) refl)
        where
          to : ℕ
          to = class_right o off

          same_right : class_right (record o { words = ws }) off ≡ to
          same_right = ap (λ z. natural (pos (o.component + off) +ℤ z)) (same (o.component + off) (right_below G s w before o i l N sees I n off h))

          handed : (v : Value) → IsGivenTo Class v → RightOf G n.system Class v (o.component + off) (word o.words (o.component + off)) → s.store (name_location here n) ≡ v
              → (u : Value) × (right_writes here s.store Class at Class n ≡ (at, u) ∷ []) × RightOf G n.system Class u (c + k) (distance_word (record o { words = ws }) (class_right (record o { words = ws }) off) (c + k)) × IsGivenTo Class u
          handed (ClassRight j) set there is =
              let below = lies_below G s w before o i l N sees I j to _ (ap (in_sight G) (I.classes (name_location here n) j is) ∙ sees.component) there in (
                ClassRight j,
                (λ z. (at, ClassRight (if own z then class_or_here (name_location here n) (is z) else name_location here n)) ∷ []),
                subst (λ z. lies G [] j ≡ Some (natural (pos (c + k) +ℤ z), component_type G n.system))
                    (sym (ap (λ z. distance_word (record o { words = ws }) z (c + k)) same_right ∙ far (record o { words = ws }) to (c + k) (omega (arith, len, N.on.count, below)) (omega (arith, len, room))))
                    (there ∙ ap (λ z. Some (z, component_type G n.system)) (sym (back_again (c + k) to))),
                tt,
              )
          handed _ set there is = absurd set
      by a.Monitor false sort own (t.Monitor m) h = (
        MonitorRight m,
        (λ j. (at, MonitorRight (if own j then monitor_right (s.store (name_location here n)) else h j)) ∷ []),
        (refl, inr (ap (system_of_monitor G.setup) (sym h) ∙ declares.monitors named n found own sort)),
        tt,
      )
      by a.Monitor true sort own (t.MonitorRight off) h = (
        MonitorRight (monitor_right (s.store (name_location here n))),
        (λ j. (at, MonitorRight (if own j then monitor_right (s.store (name_location here n)) else declared_monitor here n)) ∷ []),
        subst (λ z. (z ≡ monitor_word (monitor_right (s.store (name_location here n)))) × IsMonitor G (monitor_right (s.store (name_location here n))) n.system)
            (sym (same (o.component + off) (right_below G s w before o i l N sees I n off h))) (held (s.store (name_location here n)) (monitor_held n off sort h)),
        tt,
      )
        where
          held : (v : Value) → RightOf G n.system a.Monitor v (o.component + off) (word o.words (o.component + off))
              → (word o.words (o.component + off) ≡ monitor_word (monitor_right v)) × IsMonitor G (monitor_right v) n.system
          held (MonitorRight m) r = r
          held Absent r = (r, inl refl)
          held _ r = absurd r
      by _ _ sort own _ h = absurd h
