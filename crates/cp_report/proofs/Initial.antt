-- What a text declares of its initial process.
use Rattle.std.proofs.Common.{◌≡◌, ◌++◌, ℕ, List, [], ◌∷◌, map, ap, sym, subst, ◌∙◌}
use Rattle.std.proofs.lemmas.List.{append_assoc}
use Rattle.cp_model.specs.Abstract.{Monitor, Name, Process, Sort}
use Rattle.cp_model.specs.Declarations.{Variable, declarations, globals, members_from, reported_members}
use Rattle.cp_model.specs.Erase as erase
use Rattle.cp_model.specs.Report.{Text, components_of}
use Rattle.cp_model.specs.States.{Setup, initial_variables}
use Rattle.cp_model.specs.Types.{GlobalScope, NoMembers}
use Rattle.cp_model.specs.View as view
use Rattle.cp_model.specs.declared.tree.Tree as tree
use Rattle.cp_model_program.specs.Layout.{head_words}
use Rattle.cp_model_machine.specs.Machines.{Machine}
use Rattle.cp_model_machine.specs.Reports.{monitors_lines, processes_lines}
use Rattle.cp_compile_symbols.specs.Representing.{AreMembers}
use Rattle.cp_compile_symbols.specs.Texts.{TablesRepresent}
use Rattle.cp_compile_symbols.specs.Variables.{AreDeclared, declared_entry, variables_of}
use Rattle.cp_compile_symbols.specs.declared.tables.Tables.{Tables}
use Rattle.cp_compile_symbols.specs.declared.types.Types.{Types}
use Rattle.cp_compile_symbols.specs.declared.variables.Declared.{Declared}
use Rattle.cp_inspect.specs.Lists.{AreListed, Lists, declared_member}
use Rattle.cp_report.specs.Lines.{rounds_line}

pub declared_members : (types : Types) (ds : List Declared) (vs : List (Name × Variable)) → AreDeclared types (map declared_entry ds) vs
    → AreMembers types (map declared_member ds) (members_from vs NoMembers)
declared_members types [] [] h = tt
declared_members types (d ∷ ds) (v ∷ vs) h = (h.0, h.2, declared_members types ds vs h.3)
declared_members types [] (v ∷ vs) h = absurd h
declared_members types (d ∷ ds) [] h = absurd h

module _ (setup : Setup) (text : tree.Tree) (is : setup.tree ≡ erase.abstract (view.tree text)) where
  -- The initial process has no parameters.
  pub initial_head : (g : GlobalScope) → head_words g setup.tree.initial ≡ 1
  initial_head g = ap (λ t. head_words g t.initial) is

  pub initial_members : (g : GlobalScope) → reported_members g setup.tree.initial ≡ members_from (variables_of g text.variables.items) NoMembers
  initial_members g = ap (λ t. reported_members g t.initial) is

  pub initial_declared : initial_variables setup ≡ variables_of (globals setup.tree) text.variables.items
  initial_declared = ap (λ t. declarations (globals setup.tree) t.initial.variables) is

  pub listed : (tables : Tables) (z : Sort) (es : List (Name × ℕ)) → TablesRepresent (globals setup.tree) tables text
      → Lists tables.types z (map declared_entry tables.initial.variables.items) es → AreListed tables.types es (components_of setup z)
  listed tables z es represent lists =
      lists (initial_variables setup) (subst (AreDeclared tables.types (map declared_entry tables.initial.variables.items)) (sym initial_declared) represent.initial.variables)

pub report_reported : (setup : Setup) (m : Machine) (rounds : ℕ) (initial out a b d e : Text) → rounds ≡ m.rounds → a ≡ out ++ rounds_line rounds → b ≡ a ++ initial
    → d ≡ b ++ processes_lines setup m 2 (components_of setup Process) → e ≡ d ++ monitors_lines setup m 1 (components_of setup Monitor)
    → e ≡ out ++ (rounds_line m.rounds ++ (initial ++ (processes_lines setup m 2 (components_of setup Process) ++ monitors_lines setup m 1 (components_of setup Monitor))))
report_reported setup m rounds initial out a b d e made first second third fourth =
    let ps = processes_lines setup m 2 (components_of setup Process) in
    let ms = monitors_lines setup m 1 (components_of setup Monitor) in
    fourth
    ∙ ((λ i. third i ++ ms)
    ∙ ((λ i. (second i ++ ps) ++ ms)
    ∙ ((λ i. ((first i ++ initial) ++ ps) ++ ms)
    ∙ ((λ i. (((out ++ rounds_line (made i)) ++ initial) ++ ps) ++ ms)
    ∙ joined (rounds_line m.rounds) ps ms))))
  where
    joined : (r ps ms : Text) → (((out ++ r) ++ initial) ++ ps) ++ ms ≡ out ++ (r ++ (initial ++ (ps ++ ms)))
    joined r ps ms =
        append_assoc ((out ++ r) ++ initial) ps ms ∙ (append_assoc (out ++ r) initial (ps ++ ms) ∙ append_assoc out r (initial ++ (ps ++ ms)))
