-- Only the initial process declares monitors and processes, and each of them has its number.
use Rattle.std.proofs.Common.{◌≡◌, inl, inr, ℕ, suc, ◌+◌, List, [], ◌∷◌, Bool, true, false, Some, refl, ap, sym, subst, ◌∙◌, arith}
use Rattle.std.specs.Prelude.{filter, if◌then◌else◌, slice_get, take}
use Rattle.std.specs.Str.{bytes_eq}
use Rattle.std.proofs.lemmas.Bool.{true≢false}
use Rattle.cp_model.specs.Abstract.{Class, Monitor, Name, Process, Sort, System}
use Rattle.cp_model.specs.Components.{Component, component_named, count_before, declared_monitor, is_component_of, process_number, same_sort}
use Rattle.cp_model.specs.Declarations.{Variable, declarations}
use Rattle.cp_model.specs.Environments.{Environment}
use Rattle.cp_model.specs.Names.{lookup}
use Rattle.cp_model.specs.Report.{components_of}
use Rattle.cp_model.specs.States.{initial_variables}
use Rattle.cp_model.specs.Types.{ComponentOf, GlobalScope, Members}
use Rattle.cp_model.proofs.Options.{same_some}
use Rattle.cp_law_typing.specs.Declared.{SystemVariable, sort_of}
use Rattle.cp_law_typing.specs.SoundTypes.{SoundType}
use Rattle.cp_law_typing.specs.WellTyped.{WellTyped, text_systems}
use Rattle.cp_model_program.specs.IsProgramFor.{IsInText, IsProgramFor, component_at, component_in, system_of_monitor, system_of_process}
use Rattle.cp_law_typing.proofs.ComponentNames.{IsNamed, each_found, is_named}
use Rattle.cp_model_machine.specs.PrivateStates as machine
use Rattle.cp_model_machine.specs.Addresses.{Ground, scope}
use Rattle.cp_model_machine.specs.Remaining.{Running, Runs}
use Rattle.cp_model_machine.proofs.Finding.{some_is_not_none}

-- ---- what is declared

-- An environment declares no monitors but those of the text, and no processes.
pub record Declares (G : Ground) (env : Environment) : Type 0 where
  pub monitors : (x : Name) (n : Component) → component_named env x ≡ Some n → n.is_parameter ≡ false → n.system.sort ≡ Monitor → system_of_monitor G.setup (declared_monitor env n) ≡ Some n.system
  pub processes : (x : Name) (n : Component) → component_named env x ≡ Some n → n.is_parameter ≡ false → n.system.sort ≡ Process → system_of_process G.setup (process_number env n) ≡ Some n.system

-- The number of a component is the number of those of its sort before it.
counted_there : (z : Sort) (x : Name) (v : Variable) (s : System) (vs : List (Name × Variable)) → lookup x vs ≡ Some v → is_component_of z v.type ≡ true → component_in v.type ≡ Some s
    → component_at (filter (λ w. is_component_of z w.1.type) vs) (count_before z x vs) ≡ Some s
counted_there z x v s [] h sort is = absurd (some_is_not_none v (sym h))
counted_there z x v s (w ∷ vs) h sort is = by (bytes_eq x w.0) h (counted_there z x v s vs)
  where
    by : (b : Bool) → (if b then Some w.1 else lookup x vs) ≡ Some v
        → (lookup x vs ≡ Some v → is_component_of z v.type ≡ true → component_in v.type ≡ Some s → component_at (filter (λ y. is_component_of z y.1.type) vs) (count_before z x vs) ≡ Some s)
        → component_at (if is_component_of z w.1.type then w ∷ filter (λ y. is_component_of z y.1.type) vs else filter (λ y. is_component_of z y.1.type) vs)
        (if b then 0 else if is_component_of z w.1.type then suc (count_before z x vs) else count_before z x vs) ≡ Some s
    by true e later =
        let same : w.1 ≡ v = same_some w.1 v e in
        ap (λ b. component_at (if b then w ∷ filter (λ y. is_component_of z y.1.type) vs else filter (λ y. is_component_of z y.1.type) vs) 0) (ap (λ (y : Variable). is_component_of z y.type) same ∙ sort)
        ∙ (ap (λ (y : Variable). component_in y.type) same ∙ is)
    by false e later = inner (is_component_of z w.1.type) (later e sort is)
      where
        inner : (c : Bool) → component_at (filter (λ y. is_component_of z y.1.type) vs) (count_before z x vs) ≡ Some s
            → component_at (if c then w ∷ filter (λ y. is_component_of z y.1.type) vs else filter (λ y. is_component_of z y.1.type) vs) (if c then suc (count_before z x vs) else count_before z x vs) ≡ Some s
        inner true k = k
        inner false k = k

module _ (G : Ground) (W : WellTyped G.setup) (env : Environment) (there : IsInText G.setup env.system) (globals_are : env.globals ≡ scope G) where
  -- A system type declares no components except classes.
  of_class : (g : GlobalScope) (before : List System) (z : Sort) (r : System) (v : Variable) (inner : Members) → v.type ≡ ComponentOf r inner → SystemVariable g before z ([], v) → Some r.sort ≡ Some Class
  of_class g before z r v inner type h =
      elim h.1 [
        | inl k ↦ absurd (subst SoundType type k.0.0)
        | inr k ↦ ap sort_of (sym type) ∙ k.1
      ]

  sorted : (z : Sort) → (same_sort z Class ≡ false) → same_sort z z ≡ true → (x : Name) (n : Component) → component_named env x ≡ Some n → n.is_parameter ≡ false → n.system.sort ≡ z
      → component_at (components_of G.setup z) (count_before z n.name (declarations env.globals env.system.variables)) ≡ Some n.system
  sorted z no_class itself x n named own sort = by there
    where
      N : IsNamed env x n
      N = is_named env x n named

      found : lookup n.name (declarations env.globals env.system.variables) ≡ Some N.variable
      found = ap (λ y. lookup y (declarations env.globals env.system.variables)) N.name ∙ N.own own

      of_sort : is_component_of z N.variable.type ≡ true
      of_sort = ap (is_component_of z) N.type ∙ (ap (same_sort z) sort ∙ itself)

      by : IsInText G.setup env.system → component_at (components_of G.setup z) (count_before z n.name (declarations env.globals env.system.variables)) ≡ Some n.system
      by (inl is) =
          let all : declarations env.globals env.system.variables ≡ initial_variables G.setup = λ i. declarations (globals_are i) (is i).variables in
          subst (λ vs. component_at (components_of G.setup z) (count_before z n.name vs) ≡ Some n.system) (sym all)
          (counted_there z n.name N.variable n.system (initial_variables G.setup) (ap (lookup n.name) (sym all) ∙ found) of_sort (ap component_in N.type))
      by (inr is) =
          let held =
          each_found (λ y. SystemVariable (scope G) (take is.0 (text_systems G.setup)) env.system.sort ([], y)) (declarations (scope G) env.system.variables) n.name N.variable (W.systems is.0 env.system is.1).variables
          (ap (λ g. lookup n.name (declarations g env.system.variables)) (sym globals_are) ∙ found) in
          let class' : n.system.sort ≡ Class = same_some n.system.sort Class (of_class (scope G) (take is.0 (text_systems G.setup)) env.system.sort n.system N.variable N.inner N.type held) in
          absurd (true≢false (sym itself ∙ (ap (same_sort z) (sym sort ∙ class') ∙ no_class)))

  pub declares : Declares G env
  declares = record {
    monitors = λ x n named own sort.
        ap (system_of_monitor G.setup) (one_more (count_before Monitor n.name (declarations env.globals env.system.variables))) ∙ sorted Monitor refl refl x n named own sort;
    processes = λ x n named own sort.
        ap (system_of_process G.setup) (two_more (count_before Process n.name (declarations env.globals env.system.variables))) ∙ sorted Process refl refl x n named own sort;
  }
    where
      one_more : (n : ℕ) → 1 + n ≡ suc n
      one_more n = omega arith

      two_more : (n : ℕ) → 2 + n ≡ suc (suc n)
      two_more n = omega arith

-- The environment of a running unit declares no others.
pub runs_declares : (G : Ground) (F : IsProgramFor G.program G.setup) → F.texts ≡ G.texts → (temps limit : ℕ) (R : Running) (fs : List machine.Frame) → Runs G temps limit R fs → Declares G R.env
runs_declares G F texts temps limit R fs h =
    declares G F.typed R.env (subst (IsInText G.setup) (sym h.system) (F.systems R.number R.text (ap (λ ts. slice_get ts R.number) texts ∙ h.text))) h.globals
