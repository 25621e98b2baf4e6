-- Where the parameters of a process wait for it: in shared words that belong to no monitor.
use Rattle.std.proofs.Common.{◌≡◌, inl, inr, ℕ, List, [], Bool, true, false, Some, None, refl, ap, sym, subst, ◌∙◌, arith}
use Rattle.cp_model.specs.Abstract as a
use Rattle.cp_model.specs.Abstract.{Name, Process, Sort, System}
use Rattle.cp_model.specs.Components.{Component, component_named}
use Rattle.cp_model.specs.Declarations.{declarations}
use Rattle.cp_model.specs.Environments.{Environment, permanent_variables}
use Rattle.cp_model.specs.Names.{lookup}
use Rattle.cp_model.proofs.Options.{same_some}
use Rattle.cp_law_typing.specs.Declared.{Distinct, SystemParameter, sort_of}
use Rattle.cp_law_typing.specs.SoundTypes.{SoundType}
use Rattle.cp_law_typing.specs.WellTyped.{WellTyped, text_systems}
use Rattle.cp_model_program.specs.Layout.{component_words}
use Rattle.cp_model_program.specs.Sites.{BodyOf}
use Rattle.cp_model_program.specs.IsProgramFor.{Apart, IsInText, MonitorRepresents, ProcessRepresents, IsProgramFor, system_of_monitor, system_of_process}
use Rattle.cp_law_typing.proofs.ComponentNames.{IsNamed, each_found, is_named}
use Rattle.std.specs.Prelude.{take}
use Rattle.std.proofs.lemmas.Bool.{true≢false}
use Rattle.cp_model_machine.specs.Addresses.{Ground, scope}
use Rattle.cp_model_machine.specs.Calling.{parameters_start}
use Rattle.cp_model_machine.specs.Passing.{monitor_start}
use Rattle.cp_model_machine.proofs.Finding.{some_is_not_none}
use Rattle.cp_model_machine.proofs.KernelAround.{process_below}
use Rattle.cp_model_machine.proofs.MonitorsThere.{represents_there, start_is, system_is}

-- ---- the words

module _ (G : Ground) (F : IsProgramFor G.program G.setup) where
  pub process_represents : (r : ℕ) (y : System) → system_of_process G.setup r ≡ Some y → ProcessRepresents G.program F.texts G.setup r
  process_represents r y is = let within = process_below G.setup r y is in F.processes r within.0 within.1

  pub parameters_are : (r : ℕ) (P : ProcessRepresents G.program F.texts G.setup r) → parameters_start G.program r ≡ P.row.parameters
  parameters_are r P = λ i. elim (P.there i) as (λ z. ℕ) [ None ↦ 0 | Some x ↦ x.parameters ]

  pub waits_apart : (r : ℕ) (P : ProcessRepresents G.program F.texts G.setup r) (m : ℕ) (y : System) → system_of_monitor G.setup m ≡ Some y
      → Apart (monitor_start G.program m) (component_words (scope G) y) P.row.parameters P.row.waiting
  waits_apart r P m y is = by (F.both_apart m r M P)
    where
      M : MonitorRepresents G.program F.texts G.setup m
      M = represents_there G.program G.setup F m y is

      start : monitor_start G.program m ≡ M.row.start
      start = start_is G.program G.setup F m M

      size : M.row.words ≡ component_words (scope G) y
      size = M.words ∙ ap (component_words (scope G)) (system_is G.program G.setup F m y is M)

      by : Apart M.row.start M.row.words P.row.parameters P.row.waiting → Apart (monitor_start G.program m) (component_words (scope G) y) P.row.parameters P.row.waiting
      by (inl h) = inl (omega (arith, h, start, size))
      by (inr h) = inr (omega (arith, h, start))

  -- The names of a process's variables are distinct.
  pub process_names : (r : ℕ) (P : ProcessRepresents G.program F.texts G.setup r) → Distinct (permanent_variables (scope G) P.system)
  process_names r P = (F.units P.row.body P.unit (BodyOf P.system) P.unit_there P.body).1

-- ---- the name of a process

-- No parameter is a process.
module _ (G : Ground) (W : WellTyped G.setup) (env : Environment) (there : IsInText G.setup env.system) (globals_are : env.globals ≡ scope G) where
  pub process_declared : (x : Name) (n : Component) → component_named env x ≡ Some n → n.system.sort ≡ Process → n.is_parameter ≡ false
  process_declared x n named sort = by n.is_parameter refl
    where
      N : IsNamed env x n
      N = is_named env x n named

      is_process : Sort → Bool
      is_process Process = true
      is_process _ = false

      other : (z : Sort) → is_process z ≡ false → Some n.system.sort ≡ Some z → ⊥
      other z differs h = true≢false (ap is_process (sym sort ∙ same_some n.system.sort z h) ∙ differs)

      refused : (before : List System) (z : Sort) → SystemParameter (scope G) before z ([], N.variable) → ⊥
      refused before z h = elim h.1 [
        | inl k ↦ subst SoundType N.type k.1.0
        | inr k ↦ elim k.1 [
          | inl e ↦ other a.Monitor refl (ap sort_of (sym N.type) ∙ e)
          | inr e ↦ other a.Class refl (ap sort_of (sym N.type) ∙ e.1)
        ]
      ]

      by : (b : Bool) → n.is_parameter ≡ b → b ≡ false
      by false e = refl
      by true e = inner there
        where
          found : lookup x (declarations (scope G) env.system.parameters) ≡ Some N.variable
          found = ap (λ g. lookup x (declarations g env.system.parameters)) (sym globals_are) ∙ N.parameter e

          inner : IsInText G.setup env.system → true ≡ false
          inner (inl is) =
              absurd (some_is_not_none N.variable (sym found ∙ (ap (λ (y : System). lookup x (declarations (scope G) y.parameters)) is ∙ ap (λ ps. lookup x (declarations (scope G) ps)) W.initial_parameters)))
          inner (inr is) =
              let before = take is.0 (text_systems G.setup) in
              absurd (refused before env.system.sort
              (each_found (λ y. SystemParameter (scope G) before env.system.sort ([], y)) (declarations (scope G) env.system.parameters) x N.variable (W.systems is.0 env.system is.1).parameters found))
