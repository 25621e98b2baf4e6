-- An accepted text is well typed: its definitions, and its initial process.
use Rattle.std.proofs.Common.{◌≡◌, ◌≤◌, ℕ, suc, ◌+◌, List, [], ◌++◌, length, arith, refl, ap, sym, subst, ◌∙◌, append-nil}
use Rattle.cp_model.specs.Syntax as s
use Rattle.cp_model.specs.Abstract as a
use Rattle.cp_model.specs.Erase as erase
use Rattle.cp_model.specs.declared.tree.Sort.TheVariants as sort
use Rattle.cp_model.specs.declared.rules.Position.TheVariants as position
use Rattle.cp_model.specs.RulesJudged.{Violations, unless}
use Rattle.cp_model.specs.RulesEnvironment.{standard_environment}
use Rattle.cp_model.specs.RulesNeeds.{need_statements}
use Rattle.cp_model.specs.RulesStatements.{statements}
use Rattle.cp_model.specs.RulesDeclarations.{Declared, Variables, routines, variables}
use Rattle.cp_model.specs.Rules.{Accepted, c13_initial, define_each, define_section}
use Rattle.cp_model.specs.Types.{GlobalScope, NoMembers, standard_scope}
use Rattle.cp_model.specs.Declarations.{declarations, globals}
use Rattle.cp_model.specs.RulesTypes.{is_within, word_limit}
use Rattle.cp_model.specs.declared.rules.Rule.TheVariants.{C13}
use Rattle.cp_model.specs.States.{count_components}
use Rattle.cp_law_typing.specs.Systems.{systems_of}
use Rattle.cp_law_typing.specs.Declared.{Each, InitialVariable}
use Rattle.cp_law_typing.specs.WellTyped.{Later, TypedBodies, WellTyped}
use Rattle.cp_law_typing.specs.Laws.{AcceptedTextsAreWellTyped}
use Rattle.cp_law_typing.specs.Words.{words_of_variables}
use Rattle.cp_law_typing.specs.Needs.{AllOwnersFit, owner_words}
use Rattle.cp_model.proofs.Judging.{first_empty, rest_empty}
use Rattle.cp_law_typing.proofs.DeclaredVariables.{VariablesMade, variables_made}
use Rattle.cp_law_typing.proofs.Stages.{Defined, SchedulingState, later_same}
use Rattle.cp_law_typing.proofs.ComponentBodies.{body_need, Inside, Opened, open_scope, bodies_typed}
use Rattle.cp_law_typing.proofs.VariableKinds.{initial_variables}
use Rattle.cp_law_typing.proofs.Bounds.{is_within_true}
use Rattle.cp_law_typing.proofs.Members.{members_words}
use Rattle.cp_law_typing.proofs.TypeRows.{holds}
use Rattle.cp_law_typing.proofs.Owners.{CountsMore}
use Rattle.cp_law_typing.proofs.Definitions.{sections_defined}
use Rattle.cp_law_typing.proofs.StandardNames.{standard_stage, standard_types}
use Rattle.cp_law_typing.specs.PassedRights.{PassesInOrder}
use Rattle.cp_law_typing.specs.TypePlaces.{type_place}
use Rattle.cp_law_typing.proofs.MonitorOrder.{passes_in_order}

module _ (t : s.Tree) (accepted : Accepted t) where
  abbrev defined : Declared
  defined = define_each define_section standard_environment t.sections

  abbrev own : Variables
  own = variables defined.env position.InitialVariable t.variables

  abbrev all : Declared
  all = routines own.env sort.Process t.routines

  abbrev body : Violations
  body = statements all.env t.body.list

  abbrev words : ℕ
  words = 1 + own.words + need_statements all.env t.body.list

  four : defined.violations ++ own.violations ++ all.violations ++ body ≡ []
  four = first_empty _ (c13_initial t.body.at words body) accepted

  three : defined.violations ++ own.violations ++ all.violations ≡ []
  three = first_empty _ body four

  two : defined.violations ++ own.violations ≡ []
  two = first_empty _ all.violations three

  abbrev ds : List a.Definition
  ds = erase.sections t.sections

  made : Defined standard_environment standard_scope standard_types [] ds defined.env
  made = sections_defined t.sections standard_environment standard_scope standard_types [] standard_stage (first_empty defined.violations own.violations two)

  abbrev g : GlobalScope
  g = globals (erase.abstract t)

  -- the initial process is a process type without parameters
  abbrev initial : s.System
  initial = record { sort = sort.Process; parameters = []; variables = t.variables; routines = t.routines; body = t.body }

  abbrev stage : SchedulingState defined.env g made.more (systems_of ds)
  stage = made.stage

  inside : Inside (Later g) (systems_of ds) initial defined.env made.more
  inside = record {
    outer = defined.env.names;
    bound = [];
    names = sym (append-nil defined.env.names);
    distinct = stage.distinct;
    globals = stage.globals;
    outer_as = stage.globals;
    is_outer = stage.is_outer;
    clock = stage.clock;
    declared = [];
    declares = λ h l. refl;
    meets = tt;
    by_value = λ x v h. absurd (cc);
    tables = stage.tables;
    systems = stage.systems;
    region = stage.region;
  }

  variables_are : VariablesMade (Later g) defined.env made.more position.InitialVariable t.variables own.env own.words
  variables_are = variables_made (Later g) t.variables defined.env made.more position.InitialVariable stage.globals stage.tables (rest_empty defined.violations own.violations two)

  routines_sound : all.violations ≡ []
  routines_sound = rest_empty (defined.violations ++ own.violations) all.violations three

  body_sound : body ≡ []
  body_sound = rest_empty (defined.violations ++ own.violations ++ all.violations) body four

  opened : Opened (Later g) (systems_of ds) initial position.InitialVariable own.env variables_are.more
  opened = open_scope (Later g) (systems_of ds) initial position.InitialVariable defined.env made.more inside variables_are routines_sound

  initial_bodies : TypedBodies g (systems_of ds) (erase.abstract t).initial
  initial_bodies = bodies_typed (Later g) (systems_of ds) initial position.InitialVariable own.env variables_are.more opened routines_sound body_sound g (later_same g)

  initial_variables_are : Each (InitialVariable g (systems_of ds)) (declarations g (erase.abstract t).initial.variables)
  initial_variables_are = subst (Each (InitialVariable g (systems_of ds))) (sym (variables_are.declares g (later_same g)))
      (initial_variables (Later g) (systems_of ds) own.env variables_are.more variables_are.tables (λ n w i h. stage.systems n w i (variables_are.components n w i h)) g (later_same g)
      variables_are.entries_of variables_are.declared variables_are.placed variables_are.meets)

  owners : CountsMore defined.env own.env (count_components a.Process variables_are.declared) (count_components a.Monitor variables_are.declared)
  owners = variables_are.counted (omega (arith, stage.processes)) (omega (arith, stage.monitors))

  processes_fit : suc (count_components a.Process (declarations g (erase.abstract t).initial.variables)) ≤ 255
  processes_fit = omega (arith, owners.processes, owners.processes_fit, stage.processes, ap (count_components a.Process) (variables_are.declares g (later_same g)))

  monitors_fit : count_components a.Monitor (declarations g (erase.abstract t).initial.variables) ≤ 255
  monitors_fit = omega (arith, owners.monitors, owners.monitors_fit, stage.monitors, ap (count_components a.Monitor) (variables_are.declares g (later_same g)))

  -- the initial process, including the need of its body
  initial_words : (n : ℕ) → owner_words n g (erase.abstract t).initial ≤ word_limit
  initial_words n =
      let judged : unless (is_within words) C13 t.body.at ≡ [] =
      sym (ap (c13_initial t.body.at words) body_sound) ∙ rest_empty (defined.violations ++ own.violations ++ all.violations ++ body) _ accepted in
      let fits : words ≤ word_limit = is_within_true words (holds (is_within words) C13 t.body.at judged) in
      omega (
        arith,
        fits,
        members_words g (declarations g (erase.abstract t).initial.variables) NoMembers,
        ap (words_of_variables g) (variables_are.declares g (later_same g)),
        variables_are.words g (later_same g) (omega (arith, fits)),
        body_need (Later g) (systems_of ds) initial position.InitialVariable own.env variables_are.more opened routines_sound body_sound n g (later_same g) (omega (arith, fits)),
      )

  others_fit : (n : ℕ) → AllOwnersFit n g (declarations g (erase.abstract t).initial.variables)
  others_fit n = subst (AllOwnersFit n g) (sym (variables_are.declares g (later_same g))) (variables_are.owners_fit n g (later_same g))

  passes : PassesInOrder (type_place (record { tree = erase.abstract t; inputs = λ p. []; tick = 0 })) (record { tree = erase.abstract t; inputs = λ p. []; tick = 0 })
  passes = passes_in_order t defined.env made.more stage (length standard_types) (length made.more) made.ascend own.env own.words variables_are opened routines_sound body_sound

  -- a setup with this text
  well_typed : (inputs : ℕ → List ℕ) (tick : ℕ) → WellTyped (record { tree = erase.abstract t; inputs = inputs; tick = tick })
  well_typed inputs tick = record {
    systems = λ i y h. made.typed i y h g (later_same g);
    initial_parameters = refl;
    initial_sort = refl;
    initial_variables = initial_variables_are;
    initial_bodies = initial_bodies;
    processes = processes_fit;
    monitors = monitors_fit;
    types = stage.types g (later_same g);
    in_order = made.in_order g (later_same g);
    passes = passes;
    words = record { initial = initial_words; others = others_fit };
  }

pub accepted_texts_are_well_typed : AcceptedTextsAreWellTyped
accepted_texts_are_well_typed t setup accepted of =
    subst (λ z. WellTyped (record { tree = z; inputs = setup.inputs; tick = setup.tick })) (sym of) (well_typed t accepted setup.inputs setup.tick)
