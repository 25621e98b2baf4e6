-- The operations of calls and of standard procedures represent them.
use Rattle.std.proofs.Common.{◌≡◌, ◌≤◌, inl, inr, ℕ, ℤ, List, [], Option, Some, None, refl, ap, sym, subst, ◌∙◌, false, arith, codes, if◌then◌else◌}
use Rattle.cp_model.specs.Abstract as a
use Rattle.cp_model.specs.Abstract.{BaseType, Boolean, Char, Integer, Enumeration, Constant, Name, Plain, Routine, Sort, System}
use Rattle.cp_model.specs.Types.{NoType, Queue, ResolvedType, Simple, base_of_type, full_range}
use Rattle.cp_model.specs.Declarations.{is_component}
use Rattle.cp_model.specs.Environments.{Environment, Frame, IsConstant, IsUnknown, IsVariable, Meaning, meaning}
use Rattle.cp_model.specs.Expressions.{name_of}
use Rattle.cp_model.specs.Locations.{Location, Owner}
use Rattle.cp_model.specs.Calls.{Callee, callee}
use Rattle.cp_law_typing.specs.Judgement.{AllFit, IsCharVariable, IsProcedureCall, IsQueueArgument, IsSimple, IsStandardStatement, IsUsedAs, NamesVariable, Place, TypedExpression, TypedExpressions, TypedPlace, TypedUse}
use Rattle.cp_law_typing.specs.Declared as declared
use Rattle.cp_law_typing.specs.Declared.{Each, RoutineParameter}
use Rattle.cp_law_typing.specs.StaticTypes.{called_type, expression_type, own_value_type, place_type, place_type_meant, value_type_meant}
use Rattle.cp_model_program.specs.Programs as op
use Rattle.cp_model_program.specs.Programs.{Arm, CodeUnit, Operation, Program}
use Rattle.cp_model_program.specs.Sites.{Site, UnitText, first_parameter}
use Rattle.cp_model_program.specs.TermsFor.{ArgumentsFor, PlaceExpressionFor, nothing_known}
use Rattle.cp_model_program.specs.StatementsFor.{CodeFor, IsByte, is_function}
use Rattle.cp_model_program.specs.Scopes.{Scope, environment, target_of, unit_of}
use Rattle.cp_model_program.specs.CodedTerms.{CodedCall, call_of, coded_arguments, coded_place_expression, coded_term, coded_variable, parameters_of}
use Rattle.cp_model_program.specs.CodedStatements.{Emitted, high_of, is_char, low_of, perform_by, runs_function, standard_procedure, standard_statement, with_calls}
use Rattle.cp_model_program.proofs.Environments.{environment_at, frame_at, type_same}
use Rattle.cp_model_program.proofs.Fits.{AllBelow, arguments_fit, place_expression_fits}
use Rattle.cp_model_program.proofs.OperationsRepresent.{AllRepresent, WithCalls, with_calls_represent}
use Rattle.cp_model_program.proofs.Representing.{Chained, Representing, place_at}
use Rattle.cp_model_program.proofs.TermsRepresent.{arguments_represent}
use Rattle.cp_model_program.proofs.CallsRepresent.{call_passes, call_represents}
use Rattle.cp_model_program.proofs.AssignmentsRepresent as assignments

byte_is_char : (b : BaseType) → IsByte b (is_char b)
byte_is_char Char = refl
byte_is_char Integer = refl
byte_is_char Boolean = refl
byte_is_char (Enumeration x n) = refl

module _ (scope : Scope) (program : Program) (texts : List UnitText) (systems : List System) (routines : ℕ) (before : List CodeUnit) (unit : CodeUnit) (at : Location) (o : Owner)
    (standing : Representing scope program texts before systems routines) where
  abbrev env : Environment
  env = environment_at scope at o

  abbrev p : Place
  p = place_at scope systems routines at o

  abbrev site : Site
  site = record { program = program; texts = texts; env = env; unit = unit; words = scope.words }

  abbrev Chain : List CodedCall → ℕ → ℕ → Type 0
  Chain = Chained scope program texts before unit

  abbrev Represent : List Operation → ℕ → Type 0
  Represent = AllRepresent scope program texts before unit

  abbrev With : List CodedCall → Operation → ℕ → Type 0
  With = WithCalls scope program texts before unit

  -- ---- Calls and standard procedures

  -- the value of a designator has the type of its place
  value_type_is : (d : a.Designator) → TypedPlace p d → own_value_type env d ≡ place_type env d
  value_type_is (a.Plain x) t =
      ap (λ b. if b then full_range Integer else value_type_meant (meaning env x)) (standing.no_clock at o x t)
      ∙ ap value_type_meant t.2 ∙ sym (ap place_type_meant t.2)
  value_type_is (a.Part d x) t = refl
  value_type_is (a.At d e) t = refl

  used_place : (d : a.Designator) → TypedUse p d → (place_type env d ≡ NoType → ⊥) → TypedPlace p d
  used_place (a.Plain x) t some = go (meaning env x) refl
    where
      go : (m : Meaning) → meaning env x ≡ m → NamesVariable env x
      go (IsVariable l v) e = (l, v, e)
      go (IsConstant b n) e = absurd (some (ap place_type_meant e))
      go IsUnknown e = absurd (some (ap place_type_meant e))
  used_place (a.Part d x) t some = t
  used_place (a.At d e) t some = t

  -- a variable that is an argument of a standard procedure
  pub record VariableAs (e : a.Expression) (t : ResolvedType) : Type 0 where
    pub designator : a.Designator
    pub is : e ≡ a.Use designator
    pub no_call : callee env designator ≡ None
    pub type : place_type env designator ≡ t
    pub typed : TypedPlace p designator

  variable_as : (e : a.Expression) (t : ResolvedType) (d : a.Designator) → e ≡ a.Use d → callee env d ≡ None → place_type env d ≡ t → (t ≡ NoType → ⊥) → TypedExpression p e
      → VariableAs e t
  variable_as e t d is none type some te =
      record {
        designator = d;
        is = is;
        no_call = none;
        type = type;
        typed = used_place d (subst (λ c. IsUsedAs p c d) none (subst (TypedExpression p) is te)) (λ h. some (sym type ∙ h));
      }

  queue_as : (e : a.Expression) → IsQueueArgument env e → TypedExpression p e → VariableAs e Queue
  queue_as (a.Use d) h te = variable_as (a.Use d) Queue d refl h.0 h.1 (λ z. cc) te
  queue_as (a.Literal n) h te = absurd h
  queue_as (a.Letter n) h te = absurd h
  queue_as (a.Known c n) h te = absurd h
  queue_as (a.Call d es) h te = absurd h
  queue_as (a.Not e) h te = absurd h
  queue_as (a.Negative e) h te = absurd h
  queue_as (a.Positive e) h te = absurd h
  queue_as (a.Binary q e f) h te = absurd h

  char_as : (e : a.Expression) → IsCharVariable env e → TypedExpression p e → (lower : ℤ) × (upper : ℤ) × (start : ℤ) × VariableAs e (Simple Char lower upper start)
  char_as (a.Use d) h te = (h.1.low, h.1.high, h.1.start, variable_as (a.Use d) (Simple Char h.1.low h.1.high h.1.start) d refl h.0 h.1.is (λ z. cc) te)
  char_as (a.Literal n) h te = absurd h
  char_as (a.Letter n) h te = absurd h
  char_as (a.Known c n) h te = absurd h
  char_as (a.Call d es) h te = absurd h
  char_as (a.Not e) h te = absurd h
  char_as (a.Negative e) h te = absurd h
  char_as (a.Positive e) h te = absurd h
  char_as (a.Binary q e f) h te = absurd h

  -- the place expression of an argument that is a bare variable
  place_expression_of : (d : a.Designator) (t : ResolvedType) (low place next : ℕ) → callee env d ≡ None → place_type env d ≡ t → is_component t ≡ false → TypedPlace p d → low ≤ unit.temps
      → Chain (coded_place_expression scope d low).calls place next → AllBelow unit.temps (coded_place_expression scope d low).calls
      → PlaceExpressionFor site nothing_known d (coded_place_expression scope d low).place_expression t place next low unit.temps
  place_expression_of d t low place next none type is_data td fits chain below =
      subst (λ z. PlaceExpressionFor site nothing_known d (coded_place_expression scope d low).place_expression z place next low unit.temps) type
      (assignments.place_expression_at scope program texts systems routines before unit at o standing d low place next unit.temps td (assignments.uncalled scope program texts systems routines before unit at o standing d none) (ap is_component type ∙ is_data) chain (place_expression_fits unit.temps scope d low fits below))

  abbrev procedure_code : Name → a.Expression → ℕ → ℕ → ℕ → Emitted
  procedure_code x e low place next =
      standard_procedure scope x (expression_type (environment scope) e) (coded_term scope e low) (coded_variable scope e low) place next

  abbrev ProcedureRepresents : a.Expression → ℕ → ℕ → ℕ → Name → Type 0
  ProcedureRepresents e low place next x =
      callee env (Plain x) ≡ None → low ≤ unit.temps → Represent (procedure_code x e low place next).operations place
      → CodeFor site nothing_known (a.Perform (Plain x) (a.MoreExpressions e a.NoExpression)) (procedure_code x e low place next).entry next low

  display_represents : (e : a.Expression) (low place next : ℕ) → TypedExpression p e → IsSimple (expression_type env e) → ProcedureRepresents e low place next (codes "display")
  display_represents e low place next te simple none fits represent =
      let c = coded_term scope e low in
      let byte = is_char (base_of_type (expression_type (environment scope) e)) in
      let w = with_calls_represent scope program texts before unit c.calls (op.Display c.term byte next) place represent in (
        place,
        op.Display c.term byte next,
        w.there,
        (
          base_of_type (expression_type env e),
          (none, refl),
          refl,
          subst (λ t. IsByte (base_of_type (expression_type env e)) (is_char (base_of_type t))) (sym (type_same scope at o e)) (byte_is_char (base_of_type (expression_type env e))),
          assignments.term_at scope program texts systems routines before unit at o standing e low (with_calls c.calls (op.Display c.term byte next) place).entry place te simple fits w.chain w.below,
        ),
      )

  accept_represents : (e : a.Expression) (low place next : ℕ) (lower upper start : ℤ) → VariableAs e (Simple Char lower upper start) → ProcedureRepresents e low place next (codes "accept")
  accept_represents e low place next lower upper start v =
      subst (λ z. ProcedureRepresents z low place next (codes "accept")) (sym v.is) (λ none fits represent.
      let d = v.designator in
      let s = coded_place_expression scope d low in
      let t = expression_type (environment scope) (a.Use d) in
      let w = with_calls_represent scope program texts before unit s.calls (op.Accept s.place_expression (low_of t) (high_of t) next) place represent in
      let type : t ≡ Simple Char lower upper start =
      type_same scope at o (a.Use d) ∙ ap (λ c. called_type scope.globals c (own_value_type env d)) v.no_call ∙ value_type_is d v.typed ∙ v.type in (
        place,
        op.Accept s.place_expression (low_of t) (high_of t) next,
        w.there,
        (
          start,
          (none, refl, refl),
          refl,
          v.no_call,
          place_expression_of d (Simple Char (low_of t) (high_of t) start) low (with_calls s.calls (op.Accept s.place_expression (low_of t) (high_of t) next) place).entry place v.no_call
              (v.type ∙ ap (λ l. Simple Char l upper start) (sym (ap low_of type)) ∙ ap (λ h. Simple Char (low_of t) h start) (sym (ap high_of type))) refl v.typed fits w.chain w.below,
        ),
      ))

  delay_represents : (e : a.Expression) (low place next : ℕ) → VariableAs e Queue → ProcedureRepresents e low place next (codes "delay")
  delay_represents e low place next v =
      subst (λ z. ProcedureRepresents z low place next (codes "delay")) (sym v.is) (λ none fits represent.
      let d = v.designator in
      let s = coded_place_expression scope d low in
      let w = with_calls_represent scope program texts before unit s.calls (op.Delay s.place_expression next) place represent in (
        place,
        op.Delay s.place_expression next,
        w.there,
        (
          (none, refl, refl, refl),
          refl,
          v.no_call,
          place_expression_of d Queue low (with_calls s.calls (op.Delay s.place_expression next) place).entry place v.no_call v.type refl v.typed fits w.chain w.below,
        ),
      ))

  runs_as : (w : Option Routine) (f : Frame) → frame_at o w ≡ Some f → runs_function w ≡ is_function f.routine.result
  runs_as None f h = absurd (cc)
  runs_as (Some r) f h = ap (λ z. elim z [ None ↦ is_function r.result | Some y ↦ is_function y.routine.result ]) h

  continue_represents : (e : a.Expression) (low place next : ℕ) (f : Frame) → env.frame ≡ Some f → VariableAs e Queue → ProcedureRepresents e low place next (codes "continue")
  continue_represents e low place next f runs v =
      subst (λ z. ProcedureRepresents z low place next (codes "continue")) (sym v.is) (λ none fits represent.
      let d = v.designator in
      let s = coded_place_expression scope d low in
      let w = with_calls_represent scope program texts before unit s.calls (op.Continue s.place_expression (runs_function scope.routine)) place represent in (
        place,
        op.Continue s.place_expression (runs_function scope.routine),
        w.there,
        (
          (none, refl, refl, refl),
          v.no_call,
          place_expression_of d Queue low (with_calls s.calls (op.Continue s.place_expression (runs_function scope.routine)) place).entry place v.no_call v.type refl v.typed fits w.chain w.below,
          (f, runs, runs_as scope.routine f runs),
        ),
      ))

  named_as : (x y : Name) (e : a.Expression) (low place next : ℕ) → x ≡ y → ProcedureRepresents e low place next y → ProcedureRepresents e low place next x
  named_as x y e low place next is h = subst (ProcedureRepresents e low place next) (sym is) h

  standard_represents : (d : a.Designator) (es : a.Expressions) (low place next : ℕ) → callee env d ≡ None → IsStandardStatement p d es → TypedExpressions p es → low ≤ unit.temps
      → Represent (standard_statement scope (name_of d) es low place next).operations place
      → CodeFor site nothing_known (a.Perform d es) (standard_statement scope (name_of d) es low place next).entry next low
  standard_represents (a.Plain x) a.NoExpression low place next none h te fits represent =
      let w = with_calls_represent scope program texts before unit [] (op.Wait next) place represent in
      (place, op.Wait next, w.there, (none, refl, refl))
  standard_represents (a.Plain x) (a.MoreExpressions e a.NoExpression) low place next none h te fits represent = elim h [
    | inl k ↦ named_as x (codes "display") e low place next k.0 (display_represents e low place next te.0 k.1) none fits represent
    | inr (inl k) ↦
        let c = char_as e k.1 te.0 in
        named_as x (codes "accept") e low place next k.0 (accept_represents e low place next c.0 c.1 c.2 c.3) none fits represent
    | inr (inr (inl k)) ↦ named_as x (codes "delay") e low place next k.0 (delay_represents e low place next (queue_as e k.1 te.0)) none fits represent
    | inr (inr (inr k)) ↦ named_as x (codes "continue") e low place next k.0 (continue_represents e low place next k.2.1 k.2.2 (queue_as e k.1 te.0)) none fits represent
  ]
  standard_represents (a.Plain x) (a.MoreExpressions e (a.MoreExpressions f es)) low place next none h te fits represent = absurd h
  standard_represents (a.Part d x) es low place next none h te fits represent = absurd h
  standard_represents (a.At d e) es low place next none h te fits represent = absurd h

  pub perform_represents : (d : a.Designator) (es : a.Expressions) (low place next : ℕ) (c : Option Callee) → callee env d ≡ c → TypedExpressions p es → IsProcedureCall p c d es → low ≤ unit.temps
      → Represent (perform_by scope d es low place next c).operations place
      → CodeFor site nothing_known (a.Perform d es) (perform_by scope d es low place next c).entry next low
  perform_represents d es low place next None means te call fits represent = standard_represents d es low place next means call te fits represent
  perform_represents d es low place next (Some c) means te call fits represent =
      let xs = coded_arguments scope es (parameters_of scope c) (first_parameter c) low in
      let k = call_of scope (unit_of scope c) (target_of (environment scope) c.of) xs.arguments low in
      let w = with_calls_represent scope program texts before unit xs.calls (op.Procedure k next) place represent in
      let same = call_passes scope program texts systems routines before unit at o standing d c low xs.arguments means call.0.may w.fits in (
        place,
        op.Procedure k next,
        w.there,
        (
          c,
          xs.temps,
          call_represents scope program texts systems routines before unit at o standing d c low xs.arguments means call.0.may w.fits,
          call.1,
          refl,
          arguments_fit unit.temps scope es (parameters_of scope c) (first_parameter c) low fits w.below,
          subst (λ ps. ArgumentsFor site nothing_known ps es xs.arguments (first_parameter c) (with_calls xs.calls (op.Procedure k next) place).entry place low xs.temps) same
              (arguments_represent scope program texts systems routines before unit at o standing nothing_known es (parameters_of scope c) (declared.is_function c.routine.result) (first_parameter c) low
              (with_calls xs.calls (op.Procedure k next) place).entry place xs.temps
              (subst (Each (RoutineParameter scope.globals (declared.is_function c.routine.result))) (sym same) (standing.parameters at o c.routine c.of call.0.may))
              (subst (λ ps. AllFit env ps es) (sym same) call.0.fit) te w.chain (omega arith)),
        ),
      )
