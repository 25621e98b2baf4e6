-- The emitted operations represent the typed statement, whatever its kind.
use Rattle.std.proofs.Common.{◌≡◌, ◌≤◌, ℕ, suc, ◌+◌, ℤ, List, [], ◌++◌, Option, Some, refl, ap, sym, subst, ◌∙◌, Bool, true, false, arith, length, if◌then◌else◌}
use Rattle.cp_model.specs.Abstract as a
use Rattle.cp_model.specs.Abstract.{BaseType, Boolean, Constant, Name, Plain, Sort, System}
use Rattle.cp_model.specs.Types.{Simple, base_of_type}
use Rattle.cp_model.specs.Declarations.{declarations, is_component}
use Rattle.cp_model.specs.Environments.{Environment}
use Rattle.cp_model.specs.Locations.{Location, Owner}
use Rattle.cp_model.specs.Components.{Component, component_named, process_number}
use Rattle.cp_model.specs.Calls.{callee}
use Rattle.cp_model.specs.StatementSteps.{has_label}
use Rattle.cp_law_typing.specs.Judgement.{Initialises, IsProcedureCall, IsSimple, Place, TypedArms, TypedExpression, TypedStatement}
use Rattle.cp_law_typing.specs.StaticTypes.{expression_type, place_type}
use Rattle.cp_model_program.specs.Programs as op
use Rattle.cp_model_program.specs.Programs.{CodeUnit, Operation, Program}
use Rattle.cp_model_program.specs.Sites as code
use Rattle.cp_model_program.specs.Sites.{BodyOf, FitsBehind, Runs, Site, TargetFor, UnitText}
use Rattle.cp_model_program.specs.TermsFor.{TermFor, nothing_known}
use Rattle.cp_model_program.specs.StatementsFor.{ArmFor, CodeFor, HasRoom, InitCalls, PassesBy, either}
use Rattle.cp_model_program.specs.Tables.{arm_at}
use Rattle.cp_model_program.specs.Scopes.{Scope, environment, root_named}
use Rattle.cp_model_program.specs.CodedTerms.{CodedArguments, CodedCall, coded_term, init_arguments, root_or_first}
use Rattle.cp_model_program.specs.CodedStatements.{calls_at, counting, emitted, emitted_arms, high_of, init_by, init_call, init_operation, is_result, low_of, table_of, with_calls}
use Rattle.cp_model_program.proofs.Environments.{callee_same, environment_at, place_type_same}
use Rattle.cp_model_program.proofs.Fits.{AllBelow, below_split, term_fits}
use Rattle.cp_model_program.proofs.NamesRepresent.{RootFor, uncalled_is_no_result}
use Rattle.cp_model_program.proofs.OperationsRepresent.{AllRepresent, calls_represent, represent_split, with_calls_represent}
use Rattle.cp_model_program.proofs.ResultRepresent.{bounds_are}
use Rattle.cp_model_program.proofs.Representing.{CallFits, Chained, InitRepresents, Representing, place_at, split}
use Rattle.cp_model_program.proofs.Temps.{term_grows}
use Rattle.cp_model_program.proofs.TermsRepresent.{term_represents}
use Rattle.cp_model_program.proofs.PlaceExpressionsRepresent.{variable_root}
use Rattle.cp_model_program.proofs.CallsRepresent.{named_target}
use Rattle.cp_model_program.proofs.InitRepresent.{all_found, init_arguments_represent, init_fits}
use Rattle.cp_model_program.proofs.AssignmentsRepresent.{arm_of, assign_represents, term_at}
use Rattle.cp_model_program.proofs.ProceduresRepresent.{perform_represents}
use Rattle.cp_model_program.proofs.TablesRepresent.{table_finds}

module _ (scope : Scope) (program : Program) (texts : List UnitText) (systems : List System) (routines : ℕ) (before : List CodeUnit) (unit : CodeUnit) (at : Location) (o : Owner)
    (standing : Representing scope program texts before systems routines) where
  abbrev env : Environment
  env = environment_at scope at o

  abbrev p : Place
  p = place_at scope systems routines at o

  abbrev site : Site
  site = record { program = program; texts = texts; env = env; unit = unit; words = scope.words }

  abbrev Chain : List CodedCall → ℕ → ℕ → Type 0
  Chain = Chained scope program texts before unit

  abbrev Represent : List Operation → ℕ → Type 0
  Represent = AllRepresent scope program texts before unit

  abbrev term_here : (e : a.Expression) (low place next : ℕ) → TypedExpression p e → IsSimple (expression_type env e) → low ≤ unit.temps
      → Chain (coded_term scope e low).calls place next → AllBelow unit.temps (coded_term scope e low).calls
      → TermFor site nothing_known e (coded_term scope e low).term (base_of_type (expression_type env e)) place next low unit.temps
  term_here = term_at scope program texts systems routines before unit at o standing

  abbrev StatementRepresents : a.Statement → Type 0
  StatementRepresents s = (low place next : ℕ) → TypedStatement p s → low ≤ unit.temps → Represent (emitted scope s low place next).operations place
      → CodeFor site nothing_known s (emitted scope s low place next).entry next low

  abbrev ArmsRepresent : a.Arms → Type 0
  ArmsRepresent arms = (b : BaseType) (seen : List ℤ) (low place next : ℕ) → TypedArms p b seen arms → low ≤ unit.temps
      → Represent (emitted_arms scope arms low place next).operations place
      → (n : ℤ) → ArmFor site arms n (arm_at (emitted_arms scope arms low place next).arms n) next low

  -- ---- Lists and choices

  seq_represents : (s t : a.Statement) → StatementRepresents s → StatementRepresents t → StatementRepresents (a.Seq s t)
  seq_represents s t first second low place next typed fits represent =
      let y = emitted scope t low place next in
      let x = emitted scope s low (place + length y.operations) y.entry in
      let k = represent_split scope program texts before unit y.operations x.operations place represent in
      (y.entry, first low (place + length y.operations) y.entry typed.0 fits k.1, second low place next typed.1 fits k.0)

  if_represents : (e : a.Expression) (s t : a.Statement) → StatementRepresents s → StatementRepresents t → StatementRepresents (a.If e s t)
  if_represents e s t first second low place next typed fits represent =
      let no' = emitted scope t low place next in
      let yes' = emitted scope s low (place + length no'.operations) next in
      let both = no'.operations ++ yes'.operations in
      let c = coded_term scope e low in
      let last = place + length both in
      let k = represent_split scope program texts before unit both (with_calls c.calls (op.Test c.term yes'.entry no'.entry) last).operations place represent in
      let m = represent_split scope program texts before unit no'.operations yes'.operations place k.0 in
      let w = with_calls_represent scope program texts before unit c.calls (op.Test c.term yes'.entry no'.entry) last k.1 in (
        last,
        c.term,
        base_of_type (expression_type env e),
        yes'.entry,
        no'.entry,
        w.there,
        term_here e low (with_calls c.calls (op.Test c.term yes'.entry no'.entry) last).entry last typed.0 (Boolean, typed.1) fits w.chain w.below,
        first low (place + length no'.operations) next typed.2 fits m.1,
        second low place next typed.3 fits m.0,
      )

  case_represents : (e : a.Expression) (arms : a.Arms) → ArmsRepresent arms → StatementRepresents (a.Case e arms)
  case_represents e arms all low place next typed fits represent =
      let x = emitted_arms scope arms low place next in
      let c = coded_term scope e low in
      let last = place + length x.operations in
      let o' = op.Case c.term (table_of x.arms) in
      let k = represent_split scope program texts before unit x.operations (with_calls c.calls o' last).operations place represent in
      let w = with_calls_represent scope program texts before unit c.calls o' last k.1 in (
        last,
        c.term,
        base_of_type (expression_type env e),
        table_of x.arms,
        w.there,
        term_here e low (with_calls c.calls o' last).entry last typed.0 (typed.1, typed.2) fits w.chain w.below,
        λ n. subst (λ z. ArmFor site arms n z next low) (sym (table_finds x.arms n)) (all typed.1 [] low place next typed.3 fits k.0 n),
      )

  arm_represents : (ls : List Constant) (s : a.Statement) (rest : a.Arms) → StatementRepresents s → ArmsRepresent rest → ArmsRepresent (a.MoreArms ls s rest)
  arm_represents ls s rest first others b seen low place next typed fits represent n =
      let x = emitted_arms scope rest low place next in
      let y = emitted scope s low (place + length x.operations) next in
      let k = represent_split scope program texts before unit x.operations y.operations place represent in
      subst (λ z. ArmFor site (a.MoreArms ls s rest) n z next low) (sym (arm_of scope.globals y.entry ls x.arms n))
      (go (has_label scope.globals n ls) y.entry (arm_at x.arms n) (first low (place + length x.operations) next typed.1 fits k.1)
      (others b _ low place next typed.2 fits k.0 n))
    where
      go : (h : Bool) (entry : ℕ) (found : Option ℕ) → CodeFor site nothing_known s entry next low → ArmFor site rest n found next low
          → either h ((place : ℕ) × ((if h then Some entry else found) ≡ Some place) × CodeFor site nothing_known s place next low) (ArmFor site rest n (if h then Some entry else found) next low)
      go true entry found c r = (entry, refl, c)
      go false entry found c r = r

  -- ---- Loops

  while_represents : (e : a.Expression) (s : a.Statement) → StatementRepresents s → StatementRepresents (a.While e s)
  while_represents e s body low place next typed fits represent =
      let c = coded_term scope e low in
      let calls = calls_at c.calls (suc place) place in
      let inside = emitted scope s low (suc place + length calls.operations) calls.entry in
      let k = represent_split scope program texts before unit calls.operations inside.operations (suc place) represent.2 in
      let w = calls_represent scope program texts before unit c.calls (suc place) place k.0 in (
        place,
        c.term,
        base_of_type (expression_type env e),
        inside.entry,
        represent.0,
        term_here e low calls.entry place typed.0 (Boolean, typed.1) fits w.0 w.1,
        body low (suc place + length calls.operations) calls.entry typed.2 fits k.1,
      )

  repeat_represents : (s : a.Statement) (e : a.Expression) → StatementRepresents s → StatementRepresents (a.Repeat s e)
  repeat_represents s e body low place next typed fits represent =
      let c = coded_term scope e low in
      let calls = calls_at c.calls (suc place) place in
      let inside = emitted scope s low (suc place + length calls.operations) calls.entry in
      let k = represent_split scope program texts before unit calls.operations inside.operations (suc place) represent.2 in
      let w = calls_represent scope program texts before unit c.calls (suc place) place k.0 in (
        calls.entry,
        place,
        c.term,
        base_of_type (expression_type env e),
        represent.0,
        term_here e low calls.entry place typed.1 (Boolean, typed.2) fits w.0 w.1,
        body low (suc place + length calls.operations) calls.entry typed.0 fits k.1,
      )

  cycle_represents : (s : a.Statement) → StatementRepresents s → StatementRepresents (a.Cycle s)
  cycle_represents s body low place next typed fits represent =
      ((emitted scope s low (suc place) place).entry, represent.0, body low (suc place) place typed fits represent.2)

  for_represents : (x : Name) (down : Bool) (e f : a.Expression) (s : a.Statement) → StatementRepresents s → StatementRepresents (a.For x down e f s)
  for_represents x down e f s body low place next typed fits represent =
      let inside = emitted scope s (low + 2) (suc place) place in
      let c = counting scope x down low inside.entry next in
      let first = coded_term scope e low in
      let last = coded_term scope f first.temps in
      let test = suc place + length inside.operations in
      let begin = with_calls (first.calls ++ last.calls) (op.For c first.term last.term) test in
      let k = represent_split scope program texts before unit inside.operations begin.operations (suc place) represent.2 in
      let w = with_calls_represent scope program texts before unit (first.calls ++ last.calls) (op.For c first.term last.term) test k.1 in
      let m = split scope program texts before unit first.calls last.calls begin.entry test w.chain in
      let below = below_split unit.temps first.calls last.calls w.below in
      let room : first.temps ≤ unit.temps = term_fits unit.temps scope e low fits below.0 in
      let type = place_type (environment scope) (Plain x) in
      let same : type ≡ place_type env (Plain x) = place_type_same scope at o (Plain x) in
      let simple : IsSimple (place_type env (Plain x)) = (typed.3.0, typed.3.1) in
      let bounds = bounds_are (place_type env (Plain x)) simple in
      let r : RootFor scope env x (place_type env (Plain x)) =
      variable_root scope program texts systems routines before unit at o standing nothing_known x typed.0 (uncalled_is_no_result scope at o x standing.running typed.1) (ap is_component typed.3.1.is) in (
        test,
        c,
        first.term,
        last.term,
        base_of_type (expression_type env e),
        m.0,
        first.temps,
        place,
        w.there,
        represent.0,
        record {
          base = base_of_type (place_type env (Plain x));
          start = bounds.0;
          variable =
              subst (λ z. code.NamesVariable env x (root_or_first (root_named scope x)) (Simple (base_of_type (place_type env (Plain x))) (low_of z) (high_of z) bounds.0)) (sym same)
              (subst (λ z. code.NamesVariable env x (root_or_first (root_named scope x)) z) bounds.1
              (subst (λ z. code.NamesVariable env x z (place_type env (Plain x))) (sym (ap root_or_first r.1)) r.2));
          way = refl;
          temp = refl;
          room = w.fits;
          next_is = refl;
        },
        term_grows scope e low,
        room,
        term_represents scope program texts systems routines before unit at o standing nothing_known e low begin.entry m.0 first.temps typed.4 (typed.3.0, typed.3.2) m.1 (omega arith),
        subst (λ b. TermFor site nothing_known f last.term b m.0 test first.temps unit.temps) (ap base_of_type typed.3.3.is ∙ sym (ap base_of_type typed.3.2.is))
            (term_here f first.temps m.0 test typed.5 (typed.3.0, typed.3.3) room m.2 below.1),
        body (low + 2) (suc place) place typed.6 w.fits k.0,
      )

  -- ---- Init

  abbrev InitRepresentsBy : Name → a.Expressions → Component → ℕ → ℕ → ℕ → Sort → Type 0
  InitRepresentsBy x es n low place next sort =
      let xs = init_arguments scope n.system es (declarations scope.globals n.system.parameters) low in
      n.system.sort ≡ sort → Represent (with_calls xs.calls (init_operation scope n sort xs low next) place).operations place
      → CodeFor site nothing_known (a.Init x es) (with_calls xs.calls (init_operation scope n sort xs low next) place).entry next low

  module _ (x : Name) (es : a.Expressions) (i : Initialises p x es) (low place next : ℕ) (fits : low ≤ unit.temps) where
    abbrev n : Component
    n = i.component

    abbrev xs : CodedArguments
    xs = init_arguments scope n.system es (declarations scope.globals n.system.parameters) low

    facts : InitRepresents scope program texts before n
    facts = standing.inits at o x es i

    passes : (first last : ℕ) → Chain xs.calls first last → AllBelow unit.temps xs.calls
        → PassesBy site nothing_known n es xs.arguments first last low
    passes first last chain below =
        init_arguments_represent scope program texts systems routines before unit at o standing nothing_known n.system facts.defined es (declarations scope.globals n.system.parameters) n.system.sort
        low first last unit.temps (all_found (declarations scope.globals n.system.parameters) facts.distinct) facts.each i.fit chain
        (init_fits unit.temps scope n.system es (declarations scope.globals n.system.parameters) low fits below)

    calls : (n.system.sort ≡ a.Process → ⊥) → CallFits scope program texts before unit (init_call scope n xs low)
        → HasRoom site xs.arguments → InitCalls site n low (init_call scope n xs low)
    calls some call room =
        let fit = call facts.body.unit facts.body.earlier in
        record {
          own = i.own;
          target = named_target scope at o standing.distinct standing.reported x n i.named some;
          runs = record {
            text = facts.body.text fit.3;
            unit = facts.body.unit;
            there = facts.body.there;
            fits = record { words = fit.0; temps = fit.1; frames = fit.2 };
            words = refl;
            temps = refl;
          };
          room = room;
        }

    init_as : (sort : Sort) → InitRepresentsBy x es n low place next sort
    init_as a.Class is represent =
        let o' = op.InitClass (init_call scope n xs low) next in
        let w = with_calls_represent scope program texts before unit xs.calls o' place represent in (
          place,
          o',
          n,
          w.there,
          i.named,
          (is, refl, calls (λ h. cc (h, is)) w.fits.0 w.fits.1, passes (with_calls xs.calls o' place).entry place w.chain w.below),
        )
    init_as a.Monitor is represent =
        let o' = op.InitMonitor (init_call scope n xs low) next in
        let w = with_calls_represent scope program texts before unit xs.calls o' place represent in (
          place,
          o',
          n,
          w.there,
          i.named,
          (is, refl, calls (λ h. cc (h, is)) w.fits.0 w.fits.1, passes (with_calls xs.calls o' place).entry place w.chain w.below),
        )
    init_as a.Process is represent =
        let o' = op.InitProcess (process_number (environment scope) n) xs.arguments scope.words next in
        let w = with_calls_represent scope program texts before unit xs.calls o' place represent in (
          place,
          o',
          n,
          w.there,
          i.named,
          (is, refl, refl, refl, w.fits, passes (with_calls xs.calls o' place).entry place w.chain w.below),
        )

    init_represents : Represent (init_by scope es low place next (component_named (environment scope) x)).operations place
        → CodeFor site nothing_known (a.Init x es) (init_by scope es low place next (component_named (environment scope) x)).entry next low
    init_represents =
        subst (λ c. Represent (init_by scope es low place next c).operations place → CodeFor site nothing_known (a.Init x es) (init_by scope es low place next c).entry next low)
        (sym i.named) (init_as n.system.sort refl)

  -- ---- All

  perform_here : (d : a.Designator) (es : a.Expressions) → StatementRepresents (a.Perform d es)
  perform_here d es low place next typed fits represent =
      let same : callee (environment scope) d ≡ callee env d = callee_same scope at o d in
      perform_represents scope program texts systems routines before unit at o standing d es low place next (callee (environment scope) d) (sym same) typed.0
      (subst (λ c. IsProcedureCall p c d es) (sym same) typed.1) fits represent

  mutual
    pub code_represents : (s : a.Statement) → StatementRepresents s
    code_represents a.Nothing low place next typed fits represent = refl
    code_represents (a.Seq s t) low place next typed fits represent = seq_represents s t (code_represents s) (code_represents t) low place next typed fits represent
    code_represents (a.Assign d e) low place next typed fits represent =
        assign_represents scope program texts systems routines before unit at o standing d e low place next (is_result scope d) refl typed fits represent
    code_represents (a.Perform d es) low place next typed fits represent = perform_here d es low place next typed fits represent
    code_represents (a.If e s t) low place next typed fits represent = if_represents e s t (code_represents s) (code_represents t) low place next typed fits represent
    code_represents (a.Case e arms) low place next typed fits represent = case_represents e arms (arms_represent arms) low place next typed fits represent
    code_represents (a.While e s) low place next typed fits represent = while_represents e s (code_represents s) low place next typed fits represent
    code_represents (a.Repeat s e) low place next typed fits represent = repeat_represents s e (code_represents s) low place next typed fits represent
    code_represents (a.For x down e f s) low place next typed fits represent = for_represents x down e f s (code_represents s) low place next typed fits represent
    code_represents (a.Cycle s) low place next typed fits represent = cycle_represents s (code_represents s) low place next typed fits represent
    code_represents (a.Init x es) low place next typed fits represent = init_represents x es typed low place next fits represent

    arms_represent : (arms : a.Arms) → ArmsRepresent arms
    arms_represent a.NoArm b seen low place next typed fits represent n = refl
    arms_represent (a.MoreArms ls s rest) b seen low place next typed fits represent n =
        arm_represents ls s rest (code_represents s) (arms_represent rest) b seen low place next typed fits represent n
