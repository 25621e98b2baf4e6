-- Where the component of an `init` is: a class, or a monitor.
use Rattle.std.proofs.Common.{◌≡◌, ◌⊎◌, inl, inr, ℕ, suc, ◌+◌, ◌≤◌, ◌<◌, List, [], length, Bool, true, false, Some, refl, ap, sym, subst, ◌∙◌, arith}
use Rattle.std.specs.Prelude.{nat_eq}
use Rattle.std.proofs.lemmas.Bool.{eq-eqb, eqb-true, true≢false}
use Rattle.cp_model.specs.Abstract.{Class, Name, System}
use Rattle.cp_model.specs.Declarations.{Variable}
use Rattle.cp_model.specs.Locations.{Location, OfActivation, OfMonitor, OfProcess, Owner, root}
use Rattle.cp_model.specs.Types.{ResolvedType}
use Rattle.cp_model.proofs.Options.{same_some}
use Rattle.cp_model_program.specs.Layout.{Part, component_words, head_words, right, rights}
use Rattle.cp_model_program.specs.IsProgramFor.{Apart, system_of_monitor, system_of_process}
use Rattle.cp_model_machine.specs.Addresses.{Activation, ClassLies, ComponentLies, Ground, MonitorLies, ProcessLies, component_type, in_sight, lies, scope, whole}
use Rattle.cp_model_machine.specs.Passing.{monitor_start}
use Rattle.cp_model_machine.proofs.Apart.{InHead, IsClass}
use Rattle.cp_model_machine.proofs.Finding.{some_is_not_none}
use Rattle.cp_model_machine.proofs.Given.{system_same}
use Rattle.cp_model_machine.proofs.Heres.{lies_any}
use Rattle.cp_model_machine.proofs.Holding.{live_owner}
use Rattle.cp_model_machine.proofs.Keeping.{depth_of, right_place, right_within}
use Rattle.cp_model_machine.proofs.Owned.{OwnRight}
use Rattle.cp_model_machine.proofs.Separate.{cell_inside, cell_no_own_right, own_right_inside, separate}
use Rattle.cp_model_machine.proofs.Stacks.{Stacked, bottom_below, monitor_seen}

-- ---- where a component is

-- The words of a component's rights, which come after its mark.
abbrev pub IsRightWord : Ground → System → ℕ → Type 0
IsRightWord G s k = (1 ≤ k) × (k < head_words (scope G) s)

-- Where a component is. Its rights are separate from all other cells, from the rights of all
-- other components, and from the words of activations that aren't cells, which come after the
-- component of the process.
pub record Placed (G : Ground) (xs : List Activation) (top : ℕ) (at : Location) (c : ℕ) (s : System) : Type 0 where
  pub own : in_sight G at.owner ≡ true
  pub there : ComponentLies G at s c
  pub no_activation : (d : ℕ) → at.owner ≡ OfActivation G.p d → ⊥
  pub heads : (l : Location) (n : ℕ) (u : ResolvedType) (a k : ℕ) → in_sight G l.owner ≡ true → InHead (scope G) u a → lies G xs l ≡ Some (n, u) → IsRightWord G s k → n + a ≡ c + k → n ≡ c
  pub rights : (j : Location) (r : System) (n m k : ℕ) (x : Name) (v : Variable) → in_sight G j.owner ≡ true → ComponentLies G j r n → right (scope G) r x ≡ Some (m, v) → IsRightWord G s k → n + m ≡ c + k → j ≡ at
  pub beyond : (i k : ℕ) → i < top → ((y : System) → system_of_process G.setup G.p ≡ Some y → component_words (scope G) y ≤ i) → IsRightWord G s k → i ≡ c + k
      → ((l : Location) (n : ℕ) (u : ResolvedType) (a : ℕ) → in_sight G l.owner ≡ true → InHead (scope G) u a → lies G xs l ≡ Some (n, u) → n + a ≡ i → ⊥) → ⊥
  pub inside : (k : ℕ) → k < head_words (scope G) s → c + k < whole G

-- ---- one component at a location

abbrev monitor_in : Owner → ℕ
monitor_in (OfMonitor m) = m
monitor_in _ = 0

abbrev IsProcess : Owner → Type 0
IsProcess (OfProcess p) = Unit {0}
IsProcess _ = ⊥

pub component_same : (G : Ground) (j at : Location) (r s : System) (n c : ℕ) → ComponentLies G j r n → ComponentLies G at s c → j ≡ at → (n ≡ c) × (r ≡ s)
component_same G j at r s n c (ProcessLies a is z) (ProcessLies b is' z') e = (omega (arith, z, z'), same_some r s (sym is ∙ is'))
component_same G j at r s n c (MonitorLies m a is from) (MonitorLies k b is' from') e =
    let same : m ≡ k = ap (λ (l : Location). monitor_in l.owner) (sym a ∙ (e ∙ b)) in
    (omega (arith, from, from', ap (monitor_start G.program) same), same_some r s (sym is ∙ (ap (system_of_monitor G.setup) same ∙ is')))
component_same G j at r s n c (ClassLies class' is) (ClassLies class'' is') e =
    let found : ◌≡◌ {A = Part} (n, component_type G r) (c, component_type G s) = same_some (n, component_type G r) (c, component_type G s) (sym is ∙ (ap (lies G []) e ∙ is')) in
    (ap (λ z. z.0) found, system_same G r s (ap (λ z. z.1) found))
component_same G j at r s n c (ProcessLies a is z) (MonitorLies k b is' from') e = absurd (subst (λ (l : Location). IsProcess l.owner) (sym a ∙ (e ∙ b)) tt)
component_same G j at r s n c (MonitorLies m a is from) (ProcessLies b is' z') e = absurd (subst (λ (l : Location). IsProcess l.owner) (sym (sym a ∙ (e ∙ b))) tt)
component_same G j at r s n c (ClassLies class' is) (ProcessLies b is' z') e = absurd (some_is_not_none _ (sym is ∙ (ap (lies G []) e ∙ ap (lies G []) b)))
component_same G j at r s n c (ClassLies class' is) (MonitorLies k b is' from') e = absurd (some_is_not_none _ (sym is ∙ (ap (lies G []) e ∙ ap (lies G []) b)))
component_same G j at r s n c (ProcessLies a is z) (ClassLies class'' is') e = absurd (some_is_not_none _ (sym is' ∙ (ap (lies G []) (sym e) ∙ ap (lies G []) a)))
component_same G j at r s n c (MonitorLies m a is from) (ClassLies class'' is') e = absurd (some_is_not_none _ (sym is' ∙ (ap (lies G []) (sym e) ∙ ap (lies G []) a)))

-- ---- both

module _ (G : Ground) (xs : List Activation) (top : ℕ) (stack : Stacked G top xs) where
  pub class_placed : (at : Location) (c : ℕ) (s : System) → in_sight G at.owner ≡ true → s.sort ≡ Class → lies G [] at ≡ Some (c, component_type G s) → Placed G xs top at c s
  class_placed at c s own sort is = record {
    own = own;
    there = ClassLies sort is;
    no_activation = λ d e. absurd (omega (arith, live_owner G [] at _ d is e));
    heads = λ l n u a k mine head lying right e.
        let same : l ≡ at = separate G xs top stack l at n c u (component_type G s) a k mine own head (in_head k right.1) lying here e in
        ap (λ z. z.0) (same_some {A = Part} (n, u) (c, component_type G s) (sym lying ∙ (ap (lies G xs) same ∙ here)));
    rights = λ j r n m k x v mine cl is' right e. by j r n m k mine right.1 e (right_place G xs j r n m x v mine cl is');
    beyond = λ i k below behind right e none. none at c (component_type G s) k own (in_head k right.1) here (sym e);
    inside = λ k below. cell_inside G xs top stack at c (component_type G s) k own (in_head k below) here;
  }
    where
      here : lies G xs at ≡ Some (c, component_type G s)
      here = lies_any G xs at _ is

      in_head : (k : ℕ) → k < head_words (scope G) s → InHead (scope G) (component_type G s) k
      in_head k below = (subst IsClass (sym sort) tt, below)

      by : (j : Location) (r : System) (n m k : ℕ) → in_sight G j.owner ≡ true → k < head_words (scope G) s → n + m ≡ c + k
          → OwnRight G (n + m) ⊎ ((lies G xs j ≡ Some (n, component_type G r)) × InHead (scope G) (component_type G r) m × (1 ≤ m)) → j ≡ at
      by j r n m k mine below e (inl o) = absurd (cell_no_own_right G xs top stack at c (n + m) (component_type G s) k own (in_head k below) here o (sym e))
      by j r n m k mine below e (inr o) = separate G xs top stack j at n c (component_type G r) (component_type G s) m k mine own o.1 (in_head k below) o.0 here e

  pub monitor_placed : (m c : ℕ) (s : System) → in_sight G (OfMonitor m) ≡ true → system_of_monitor G.setup m ≡ Some s → c ≡ G.own + monitor_start G.program m → Placed G xs top (root (OfMonitor m)) c s
  monitor_placed m c s own is from = record {
    own = own;
    there = MonitorLies m refl is from;
    no_activation = λ d e. absurd (omega (arith, ap (depth_of (suc d)) e));
    heads = λ l n u a k mine head lying right e. absurd (cell_no_own_right G xs top stack l n (c + k) u a mine head lying (own_right k right.1) e);
    rights = λ j r n i k x v mine cl is' right e. by j r n i k mine (right_within 1 _ x i v is').1 right.1 e cl (right_place G xs j r n i x v mine cl is');
    beyond = λ i k below behind right e none. absurd (omega (arith, below, stack.fits, e, from));
    inside = λ k below. own_right_inside G xs top stack (c + k) (own_right k below);
  }
    where
      own_right : (k : ℕ) → k < head_words (scope G) s → OwnRight G (c + k)
      own_right k below = inr (m, s, k, own, is, below, omega (arith, from))

      by : (j : Location) (r : System) (n i k : ℕ) → in_sight G j.owner ≡ true → i < 1 + length (rights (scope G) r) → k < head_words (scope G) s → n + i ≡ c + k → ComponentLies G j r n
          → OwnRight G (n + i) ⊎ ((lies G xs j ≡ Some (n, component_type G r)) × InHead (scope G) (component_type G r) i × (1 ≤ i)) → j ≡ root (OfMonitor m)
      by j r n i k mine inside below e cl (inr o) = absurd (cell_no_own_right G xs top stack j n (c + k) (component_type G r) i mine o.1 o.0 (own_right k below) e)
      by j r n i k mine inside below e (ProcessLies where' is' zero') (inl o) = absurd (omega (arith, inside, zero', bottom_below G top xs stack.stack r is', stack.fits, e, from))
      by j r n i k mine inside below e (ClassLies class' lying) (inl o) =
          absurd (cell_no_own_right G xs top stack j n (c + k) (component_type G r) i mine (subst IsClass (sym class') tt, omega (arith, inside)) (lies_any G xs j _ lying) (own_right k below) e)
      by j r n i k mine inside below e (MonitorLies z where' is' from') (inl o) = inner (nat_eq z m) refl
        where
          inner : (b : Bool) → nat_eq z m ≡ b → j ≡ root (OfMonitor m)
          inner true t = where' ∙ ap (λ y. root (OfMonitor y)) (eqb-true z m t)
          inner false t = absurd (blocks ((monitor_seen G m own).0.apart z m r s is' is (λ q. true≢false (sym (eq-eqb z m q) ∙ t))))
            where
              blocks : Apart (monitor_start G.program z) (component_words (scope G) r) (monitor_start G.program m) (component_words (scope G) s) → ⊥
              blocks (inl q) = omega (arith, q, from, from', inside, below, e)
              blocks (inr q) = omega (arith, q, from, from', inside, below, e)
