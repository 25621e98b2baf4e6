-- The compiled terms, place expressions and arguments represent the typed expressions, designators
-- and arguments.
--
-- The proof is a single induction over expressions. Whether something is a call is decided by the
-- meaning's own look-up, both in the compiler and in the judgement. So each case is split by the
-- result of the look-up, and the result at the compiler's place is carried over to every place.
use Rattle.std.proofs.Common.{◌≡◌, ◌≤◌, inl, inr, ℕ, ◌+◌, ℤ, List, [], ◌∷◌, Option, Some, None, refl, ap, sym, subst, ◌∙◌, Bool, true, false, arith}
use Rattle.std.proofs.lemmas.Bool.{true≢false}
use Rattle.cp_model.specs.Abstract as a
use Rattle.cp_model.specs.Abstract.{BaseType, Boolean, Integer, Name, Plain, System}
use Rattle.cp_model.specs.Types.{ArrayOf, ComponentOf, NoType, Queue, RecordOf, ResolvedType, Simple, base_of_type}
use Rattle.cp_model.specs.Declarations.{Variable, is_component}
use Rattle.cp_model.specs.Environments.{Environment}
use Rattle.cp_model.specs.Expressions.{name_of}
use Rattle.cp_model.specs.Locations.{Location, Owner}
use Rattle.cp_model.specs.Calls.{Callee, callee}
use Rattle.cp_law_typing.specs.Words.{words}
use Rattle.cp_law_typing.specs.Judgement as typed
use Rattle.cp_law_typing.specs.Judgement.{Agree, AllFit, Called, FitsBy, IsArray, IsFunction, IsFunctionCall, IsOfBase, IsSimple, IsStandardCall, IsUsedAs, IsVariableArgument, HasField, NamesValue, NamesVariable, OperandsFit, Place, StandardFits, TypedExpression, TypedExpressions, TypedPlace, TypedUse, find_member, function_name, has_queues, is_structured}
use Rattle.cp_law_typing.specs.Declared as declared
use Rattle.cp_law_typing.specs.Declared.{Each, IsData, RoutineParameter}
use Rattle.cp_law_typing.specs.SoundTypes.{SoundType}
use Rattle.cp_law_typing.specs.StaticTypes.{answer_type, called_type, expression_type, first_type, own_value_type, place_type, standard_type}
use Rattle.cp_law_typing.proofs.Facts.{structured_values}
use Rattle.cp_model_program.specs.Terms.{Argument, Copy}
use Rattle.cp_model_program.specs.Programs as op
use Rattle.cp_model_program.specs.Programs.{Call, CodeUnit, Program}
use Rattle.cp_model_program.specs.Layout.{local_words}
use Rattle.cp_model_program.specs.Sites as code
use Rattle.cp_model_program.specs.Sites.{IsNoClock, Site, UnitText, first_parameter, parameters}
use Rattle.cp_model_program.specs.TermsFor.{ArgumentsFor, Knowns, PlaceExpressionFor, TermFor}
use Rattle.cp_model_program.specs.Scopes.{Scope, environment, target_of, unit_of}
use Rattle.cp_model_program.specs.CodedTerms.{CodedCall, argument_of, call_of, called_term, coded_arguments, coded_place_expression, coded_standard, coded_term, coded_variable, function_call, parameters_of, standard_term}
use Rattle.cp_model_program.proofs.Environments.{callee_same, environment_at, place_type_same, type_same}
use Rattle.cp_model_program.proofs.Representing.{Chained, Representing, place_at, split}
use Rattle.cp_model_program.proofs.Temps.{arguments_grow, place_expression_grows, term_grows}
use Rattle.cp_model_program.proofs.StandardRepresent.{abs_represents, base_of_operator, chr_represents, empty_represents, ord_represents, pred_represents, succ_represents}
use Rattle.cp_model_program.proofs.CallsRepresent.{answers, call_passes, call_represents}
use Rattle.cp_model_program.proofs.PlaceExpressionsRepresent as place_expressions
use Rattle.cp_model_program.proofs.PlaceExpressionsRepresent.{member_there, operands, simple_full, simple_is, simple_is_no_component, simple_of}

module _ (scope : Scope) (program : Program) (texts : List UnitText) (systems : List System) (routines : ℕ) (before : List CodeUnit) (unit : CodeUnit) (at : Location) (o : Owner)
    (standing : Representing scope program texts before systems routines) (K : Knowns) where
  abbrev env : Environment
  env = environment_at scope at o

  abbrev p : Place
  p = place_at scope systems routines at o

  abbrev site : Site
  site = record { program = program; texts = texts; env = env; unit = unit; words = scope.words }

  abbrev Chain : List CodedCall → ℕ → ℕ → Type 0
  Chain = Chained scope program texts before unit

  abbrev TermRepresents : a.Expression → Type 0
  TermRepresents e = place_expressions.TermRepresents scope program texts systems routines before unit at o standing K e

  abbrev PlaceExpressionRepresents : a.Designator → Type 0
  PlaceExpressionRepresents e = place_expressions.PlaceExpressionRepresents scope program texts systems routines before unit at o standing K e

  abbrev VariableRepresents : a.Expression → Type 0
  VariableRepresents e = place_expressions.VariableRepresents scope program texts systems routines before unit at o standing K e

  -- ---- Standard functions

  abbrev StandardRepresents : a.Expressions → Type 0
  StandardRepresents es = (x : Name) (low place next high : ℕ) → callee env (Plain x) ≡ None → IsStandardCall env (Plain x) es → TypedExpressions p es
      → Chain (coded_standard scope x es low).calls place next → (coded_standard scope x es low).temps ≤ high
      → TermFor site K (a.Call (Plain x) es) (coded_standard scope x es low).term (base_of_type (standard_type x (first_type env es))) place next low high

  abbrev FunctionRepresents : a.Expression → ℕ → ℕ → ℕ → ℕ → BaseType → Name → Type 0
  FunctionRepresents e low place next high b x =
      callee env (Plain x) ≡ None → Chain (standard_term x b (coded_term scope e low) (coded_variable scope e low)).calls place next
      → (standard_term x b (coded_term scope e low) (coded_variable scope e low)).temps ≤ high
      → TermFor site K (a.Call (Plain x) (a.MoreExpressions e a.NoExpression)) (standard_term x b (coded_term scope e low) (coded_variable scope e low)).term
      (base_of_type (standard_type x (expression_type env e))) place next low high

  empty_of : (e : a.Expression) (low place next high : ℕ) (b : BaseType) → typed.IsQueueArgument env e → TypedExpression p e → VariableRepresents e
      → FunctionRepresents e low place next high b (function_name typed.Empty)
  empty_of (a.Use d) low place next high b fits t variable none chain room =
      let typed_place : TypedPlace p d = place_expressions.used_place scope program texts systems routines before unit at o standing K d (place_expressions.used_as scope program texts systems routines before unit at o standing K d fits.0 t) (λ h. absurd (cc (h, fits.1))) in (
        none,
        fits.0,
        place_expressions.is_no_clock scope program texts systems routines before unit at o standing K d typed_place,
        empty_represents,
        refl,
        subst (λ z. PlaceExpressionFor site K d (coded_place_expression scope d low).place_expression z place next low high) fits.1
            (variable low place next high typed_place (place_expressions.uncalled_has_no_result scope program texts systems routines before unit at o standing K d fits.0) (ap is_component fits.1) chain room),
      )
  empty_of (a.Literal n) low place next high b fits t variable none chain room = absurd fits
  empty_of (a.Letter n) low place next high b fits t variable none chain room = absurd fits
  empty_of (a.Known c n) low place next high b fits t variable none chain room = absurd fits
  empty_of (a.Call d es) low place next high b fits t variable none chain room = absurd fits
  empty_of (a.Not e) low place next high b fits t variable none chain room = absurd fits
  empty_of (a.Negative e) low place next high b fits t variable none chain room = absurd fits
  empty_of (a.Positive e) low place next high b fits t variable none chain room = absurd fits
  empty_of (a.Binary q e f) low place next high b fits t variable none chain room = absurd fits

  function_represents : (f : typed.StandardFunction) (e : a.Expression) (low place next high : ℕ) → StandardFits env f e → TypedExpression p e → TermRepresents e → VariableRepresents e
      → FunctionRepresents e low place next high (base_of_type (expression_type env e)) (function_name f)
  function_represents typed.Abs e low place next high fits t term variable none chain room =
      (base_of_type (expression_type env e), none, abs_represents (base_of_type (expression_type env e)), term low place next high t (simple_of Integer (expression_type env e) fits) chain room)
  function_represents typed.Succ e low place next high fits t term variable none chain room =
      (base_of_type (expression_type env e), none, succ_represents (base_of_type (expression_type env e)), term low place next high t fits chain room)
  function_represents typed.Pred e low place next high fits t term variable none chain room =
      (base_of_type (expression_type env e), none, pred_represents (base_of_type (expression_type env e)), term low place next high t fits chain room)
  function_represents typed.Ord e low place next high fits t term variable none chain room =
      (base_of_type (expression_type env e), none, ord_represents (base_of_type (expression_type env e)), term low place next high t fits chain room)
  function_represents typed.Chr e low place next high fits t term variable none chain room =
      (base_of_type (expression_type env e), none, chr_represents (base_of_type (expression_type env e)), term low place next high t (simple_of Integer (expression_type env e) fits) chain room)
  function_represents typed.Empty e low place next high fits t term variable none chain room =
      empty_of e low place next high (base_of_type (expression_type env e)) fits t variable none chain room

  standard_represents : (e : a.Expression) → TermRepresents e → VariableRepresents e → StandardRepresents (a.MoreExpressions e a.NoExpression)
  standard_represents e term variable x low place next high none fits t chain room =
      subst (λ y. FunctionRepresents e low place next high (base_of_type (expression_type (environment scope) e)) y) (sym fits.1)
      (subst (λ b. FunctionRepresents e low place next high b (function_name fits.0)) (sym (ap base_of_type (type_same scope at o e)))
      (function_represents fits.0 e low place next high fits.2 t.0 term variable))
      none chain room

  -- ---- Arguments

  abbrev ArgumentsRepresent : a.Expressions → Type 0
  ArgumentsRepresent es = (ps : List (Name × Variable)) (f : Bool) (n low place next high : ℕ) → Each (RoutineParameter scope.globals f) ps → AllFit env ps es
      → TypedExpressions p es → Chain (coded_arguments scope es ps n low).calls place next → (coded_arguments scope es ps n low).temps ≤ high
      → ArgumentsFor site K ps es (coded_arguments scope es ps n low).arguments n place next low high

  -- one argument, followed by the others
  module _ (x : Name) (n low place between next high : ℕ) (ps : List (Name × Variable)) (es : a.Expressions) (xs : List Argument) where
    abbrev ArgumentRepresents : Bool → ResolvedType → a.Expression → Type 0
    ArgumentRepresents b t e =
        let v : Variable = record { by_reference = b; type = t } in
        let c = argument_of scope.globals v n (coded_term scope e low) (coded_variable scope e low) in
        Chain c.calls place between → c.temps ≤ high → ArgumentsFor site K ps es xs (n + local_words scope.globals v) between next c.temps high
        → ArgumentsFor site K ((x, v) ∷ ps) (a.MoreExpressions e es) (c.argument ∷ xs) n place next low high

    reference_represents : (t : ResolvedType) (d : a.Designator) → SoundType t → IsVariableArgument env (a.Use d) t → TypedExpression p (a.Use d) → PlaceExpressionRepresents d
        → ArgumentRepresents true t (a.Use d)
    reference_represents t d sound fits te place_expression chain room rest =
        let some = place_expressions.sound_is_some scope program texts systems routines before unit at o standing K t sound in
        let typed_place : TypedPlace p d = place_expressions.used_place scope program texts systems routines before unit at o standing K d (place_expressions.used_as scope program texts systems routines before unit at o standing K d fits.0 te) (λ h. some.0 (sym fits.1 ∙ h)) in (
          between,
          (coded_place_expression scope d low).temps,
          refl,
          refl,
          fits.0,
          place_expression_grows scope d low,
          room,
          subst (λ z. PlaceExpressionFor site K d (coded_place_expression scope d low).place_expression z place between low (coded_place_expression scope d low).temps) fits.1
              (place_expression low place between (coded_place_expression scope d low).temps typed_place (place_expressions.uncalled_has_no_result scope program texts systems routines before unit at o standing K d fits.0) (ap is_component fits.1 ∙ some.1) chain (omega arith)),
          rest,
        )

    by_reference_represents : (t : ResolvedType) (e : a.Expression) → SoundType t → IsVariableArgument env e t → TypedExpression p e → VariableRepresents e → ArgumentRepresents true t e
    by_reference_represents t (a.Use d) sound fits te variable = reference_represents t d sound fits te variable
    by_reference_represents t (a.Literal n) sound fits te variable = absurd fits
    by_reference_represents t (a.Letter n) sound fits te variable = absurd fits
    by_reference_represents t (a.Known c n) sound fits te variable = absurd fits
    by_reference_represents t (a.Call d es) sound fits te variable = absurd fits
    by_reference_represents t (a.Not e) sound fits te variable = absurd fits
    by_reference_represents t (a.Negative e) sound fits te variable = absurd fits
    by_reference_represents t (a.Positive e) sound fits te variable = absurd fits
    by_reference_represents t (a.Binary q e f) sound fits te variable = absurd fits

    -- an array or a record, which is a variable
    abbrev CopyRepresents : ResolvedType → a.Expression → Type 0
    CopyRepresents t e =
        Chain (coded_variable scope e low).calls place between → (coded_variable scope e low).temps ≤ high
        → ArgumentsFor site K ps es xs (n + words scope.globals t) between next (coded_variable scope e low).temps high
        → ArgumentsFor site K ((x, record { by_reference = false; type = t }) ∷ ps) (a.MoreExpressions e es)
        (Copy n (words scope.globals t) (coded_variable scope e low).place_expression ∷ xs) n place next low high

    copy_of : (t : ResolvedType) (d : a.Designator) → SoundType t → has_queues t ≡ false → is_structured t ≡ true → callee env d ≡ None → TypedPlace p d → place_type env d ≡ t → PlaceExpressionRepresents d → CopyRepresents t (a.Use d)
    copy_of t d sound free structure none typed_place type place_expression chain room rest = (
      between,
      (coded_place_expression scope d low).temps,
      refl,
      refl,
      refl,
      (sound, free, structure),
      none,
      place_expressions.is_no_clock scope program texts systems routines before unit at o standing K d typed_place,
      place_expression_grows scope d low,
      room,
      subst (λ z. PlaceExpressionFor site K d (coded_place_expression scope d low).place_expression z place between low (coded_place_expression scope d low).temps) type
          (place_expression low place between (coded_place_expression scope d low).temps typed_place (place_expressions.uncalled_has_no_result scope program texts systems routines before unit at o standing K d none) (no_component (place_type env d) (ap is_structured type ∙ structure)) chain (omega arith)),
      rest,
    )
      where
        no_component : (t : ResolvedType) → is_structured t ≡ true → is_component t ≡ false
        no_component (ArrayOf lower upper t) h = refl
        no_component (RecordOf ms) h = refl
        no_component (Simple b lower upper start) h = refl
        no_component Queue h = refl
        no_component (ComponentOf r inner) h = absurd (true≢false (sym h))
        no_component NoType h = refl

    copy_represents : (t : ResolvedType) (e : a.Expression) → SoundType t → has_queues t ≡ false → is_structured t ≡ true → Agree t (expression_type env e) → TypedExpression p e → VariableRepresents e → CopyRepresents t e
    copy_represents t e sound free structure (inl b) te variable = absurd (true≢false (sym structure ∙ ap is_structured b.1.is))
    copy_represents t e sound free structure (inr same) te variable =
        let k = structured_values p e te (sym (ap is_structured same.0) ∙ structure) in
        subst (CopyRepresents t) (sym k.1) (copy_of t k.0 sound free structure k.2 k.3 (k.4 ∙ sym same.0) (subst VariableRepresents k.1 variable))

    value_represents : (b : BaseType) (lower upper start : ℤ) (e : a.Expression) → Agree (Simple b lower upper start) (expression_type env e) → TypedExpression p e → TermRepresents e
        → ArgumentRepresents false (Simple b lower upper start) e
    value_represents b lower upper start e (inr same) te term chain room rest = absurd (true≢false (sym same.1))
    value_represents b lower upper start e (inl c) te term chain room rest = (
      base_of_type (expression_type env e),
      start,
      between,
      (coded_term scope e low).temps,
      refl,
      refl,
      ap (λ z. Simple z lower upper start) (ap base_of_type c.1.is ∙ sym (ap base_of_type c.2.is)),
      term_grows scope e low,
      room,
      term low place between (coded_term scope e low).temps te (c.0, c.2) chain (omega arith),
      rest,
    )

    argument_represents : (b : Bool) (t : ResolvedType) (e : a.Expression) → SoundType t → has_queues t ≡ false → FitsBy b env t e → TypedExpression p e → TermRepresents e → VariableRepresents e
        → ArgumentRepresents b t e
    argument_represents true t e sound none fits te term variable = by_reference_represents t e sound fits te variable
    argument_represents false (Simple b lower upper start) e sound none fits te term variable = value_represents b lower upper start e fits te term
    argument_represents false (ArrayOf lower upper t) e sound none fits te term variable = copy_represents (ArrayOf lower upper t) e sound none refl fits te variable
    argument_represents false (RecordOf ms) e sound none fits te term variable = copy_represents (RecordOf ms) e sound none refl fits te variable
    argument_represents false Queue e sound none fits te term variable = absurd (true≢false none)
    argument_represents false (ComponentOf r inner) e sound none fits te term variable = absurd sound
    argument_represents false NoType e sound none fits te term variable = absurd sound

  no_arguments_represent : ArgumentsRepresent a.NoExpression
  no_arguments_represent [] f n low place next high each fit t chain room = chain
  no_arguments_represent (q ∷ qs) f n low place next high each fit t chain room = absurd fit

  more_arguments_represent : (e : a.Expression) (es : a.Expressions) → TermRepresents e → VariableRepresents e → ArgumentsRepresent es → ArgumentsRepresent (a.MoreExpressions e es)
  more_arguments_represent e es term variable rest [] f n low place next high each fit t chain room = absurd fit
  more_arguments_represent e es term variable rest (q ∷ qs) f n low place next high each fit t chain room =
      let c = argument_of scope.globals q.1 n (coded_term scope e low) (coded_variable scope e low) in
      let n' = n + local_words scope.globals q.1 in
      let others = coded_arguments scope es qs n' c.temps in
      let k = split scope program texts before unit c.calls others.calls place next chain in
      let grows : c.temps ≤ others.temps = arguments_grow scope es qs n' c.temps in
      argument_represents q.0 n low place k.0 next high qs es others.arguments q.1.by_reference q.1.type e each.0.0.0 each.0.1 fit.0 t.0 term variable
      k.1 (omega (arith, grows, room))
      (rest qs f n' c.temps k.0 next high each.1 fit.1 t.1 k.2 room)

  -- ---- Calls

  function_call_represents : (d : a.Designator) (es : a.Expressions) (low place next high : ℕ) (c : Callee) → callee env d ≡ Some c → Called p c es → IsFunction c.routine → TypedExpressions p es
      → ArgumentsRepresent es
      → Chain (function_call scope c (coded_arguments scope es (parameters_of scope c) (first_parameter c) low) low).calls place next
      → (function_call scope c (coded_arguments scope es (parameters_of scope c) (first_parameter c) low) low).temps ≤ high
      → TermFor site K (a.Call d es) (function_call scope c (coded_arguments scope es (parameters_of scope c) (first_parameter c) low) low).term
      (base_of_type (answer_type scope.globals c.routine.result)) place next low high
  function_call_represents d es low place next high c means called function t arguments chain room =
      let xs = coded_arguments scope es (parameters_of scope c) (first_parameter c) low in
      let call = call_of scope (unit_of scope c) (target_of (environment scope) c.of) xs.arguments low in
      let k = split scope program texts before unit xs.calls (record { call = call; into = xs.temps } ∷ []) place next chain in
      let same = call_passes scope program texts systems routines before unit at o standing d c low xs.arguments means called.may k.2.2 in (
        c,
        call,
        k.0,
        xs.temps,
        subst (λ m. code.operation_at program k.0 ≡ Some (op.Function call xs.temps m)) k.2.3 k.2.1,
        call_represents scope program texts systems routines before unit at o standing d c low xs.arguments means called.may k.2.2,
        subst (λ ps. ArgumentsFor site K ps es xs.arguments (first_parameter c) place k.0 low xs.temps) same
            (arguments (parameters_of scope c) (declared.is_function c.routine.result) (first_parameter c) low place k.0 xs.temps
            (subst (Each (RoutineParameter scope.globals (declared.is_function c.routine.result))) (sym same) (standing.parameters at o c.routine c.of called.may))
            (subst (λ ps. AllFit env ps es) (sym same) called.fit) t k.1 (omega arith)),
        answers scope program texts systems routines before unit at o standing c function,
        arguments_grow scope es (parameters_of scope c) (first_parameter c) low,
        omega arith,
        omega (arith, room),
      )

  called_represents : (d : a.Designator) (es : a.Expressions) (low place next high : ℕ) (c : Option Callee) → callee env d ≡ c → IsFunctionCall p c d es → TypedExpressions p es
      → StandardRepresents es → ArgumentsRepresent es
      → Chain (called_term scope low (coded_standard scope (name_of d) es low) (λ r. coded_arguments scope es (parameters_of scope r) (first_parameter r) low) c).calls place next
      → (called_term scope low (coded_standard scope (name_of d) es low) (λ r. coded_arguments scope es (parameters_of scope r) (first_parameter r) low) c).temps ≤ high
      → TermFor site K (a.Call d es)
      (called_term scope low (coded_standard scope (name_of d) es low) (λ r. coded_arguments scope es (parameters_of scope r) (first_parameter r) low) c).term
      (base_of_type (called_type scope.globals c (standard_type (name_of d) (first_type env es)))) place next low high
  called_represents d es low place next high (Some c) means call t standard arguments chain room =
      function_call_represents d es low place next high c means call.0 call.1 t arguments chain room
  called_represents (a.Plain x) es low place next high None means call t standard arguments chain room = standard x low place next high means call t chain room
  called_represents (a.Part d x) es low place next high None means call t standard arguments chain room = absurd call
  called_represents (a.At d e) es low place next high None means call t standard arguments chain room = absurd call

  -- ---- All

  binary_represents : (q : a.Operator) (e f : a.Expression) → TermRepresents e → TermRepresents f → TermRepresents (a.Binary q e f)
  binary_represents q e f first second low place next high t simple chain room =
      let c = coded_term scope e low in
      let b = coded_term scope f c.temps in
      let k = split scope program texts before unit c.calls b.calls place next chain in
      let fit = operands q (expression_type env e) (expression_type env f) t.2 in
      let grows : c.temps ≤ b.temps = term_grows scope f c.temps in (
        base_of_type (expression_type env e),
        base_of_type (expression_type env f),
        k.0,
        c.temps,
        refl,
        base_of_operator q,
        term_grows scope e low,
        omega (arith, grows, room),
        first low place k.0 c.temps t.0 fit.0 k.1 (omega arith),
        second c.temps k.0 next high t.1 fit.1 k.2 room,
      )

  used_represents : (d : a.Designator) → PlaceExpressionRepresents d → TermRepresents (a.Use d)
  used_represents d place_expression low place next high t simple chain room =
      let same : callee (environment scope) d ≡ callee env d = callee_same scope at o d in
      let own = own_value_type env d in
      subst (λ c. TermFor site K (a.Use d) (coded_term scope (a.Use d) low).term (base_of_type (called_type scope.globals c own)) place next low high) same
      (place_expressions.use_represents scope program texts systems routines before unit at o standing K d low place next high (callee (environment scope) d) (sym same) (subst (λ c. IsUsedAs p c d) (sym same) t)
      (subst (λ c. IsSimple (called_type scope.globals c own)) (sym same) simple) place_expression chain room)

  call_expression_represents : (d : a.Designator) (es : a.Expressions) → StandardRepresents es → ArgumentsRepresent es → TermRepresents (a.Call d es)
  call_expression_represents d es standard arguments low place next high t simple chain room =
      let same : callee (environment scope) d ≡ callee env d = callee_same scope at o d in
      subst (λ c. TermFor site K (a.Call d es) (coded_term scope (a.Call d es) low).term (base_of_type (called_type scope.globals c (standard_type (name_of d) (first_type env es)))) place next low high) same
      (called_represents d es low place next high (callee (environment scope) d) (sym same) (subst (λ c. IsFunctionCall p c d es) (sym same) t.1) t.0 standard arguments chain room)

  mutual
    pub term_represents : (e : a.Expression) → TermRepresents e
    term_represents (a.Literal n) low place next high t simple chain room = (refl, refl, chain)
    term_represents (a.Letter n) low place next high t simple chain room = (refl, refl, chain)
    term_represents (a.Known b n) low place next high t simple chain room = (refl, refl, chain)
    term_represents (a.Use d) low place next high t simple chain room = used_represents d (place_expression_represents d) low place next high t simple chain room
    term_represents (a.Call d es) low place next high t simple chain room =
        call_expression_represents d es (standard_call_represents es) (arguments_represent es) low place next high t simple chain room
    term_represents (a.Not e) low place next high t simple chain room =
        (base_of_type (expression_type env e), refl, term_represents e low place next high t.0 (simple_of Boolean (expression_type env e) t.1) chain room)
    term_represents (a.Negative e) low place next high t simple chain room =
        (base_of_type (expression_type env e), refl, term_represents e low place next high t.0 (simple_of Integer (expression_type env e) t.1) chain room)
    term_represents (a.Positive e) low place next high t simple chain room = term_represents e low place next high t.0 simple chain room
    term_represents (a.Binary q e f) low place next high t simple chain room =
        binary_represents q e f (term_represents e) (term_represents f) low place next high t simple chain room

    pub place_expression_represents : (d : a.Designator) → PlaceExpressionRepresents d
    place_expression_represents (a.Plain x) low place next high t no_result is_data chain room = place_expressions.plain_represents scope program texts systems routines before unit at o standing K x low place next high t no_result is_data chain room
    place_expression_represents (a.Part d x) low place next high t no_result is_data chain room = place_expressions.part_represents scope program texts systems routines before unit at o standing K d x (place_expression_represents d) low place next high t no_result is_data chain room
    place_expression_represents (a.At d e) low place next high t no_result is_data chain room =
        let s = coded_place_expression scope d low in
        let array = t.2 in
        place_expressions.element_represents scope program texts systems routines before unit at o standing K d e s (coded_term scope e s.temps) (place_type (environment scope) d) (place_type env d) array (place_type_same scope at o d) place next low high
        (place_expression_grows scope d low) (term_grows scope e s.temps)
        (λ middle c. place_expression_represents d low place middle s.temps t.0 (place_expressions.structured_has_no_result scope program texts systems routines before unit at o standing K d (ap is_structured array.is)) (ap is_component array.is) c (omega arith))
        (λ middle c. term_represents e s.temps middle next high t.1 t.3 c (place_expressions.element_room scope program texts systems routines before unit at o standing K d high s (coded_term scope e s.temps) array (place_type_same scope at o d) room))
        chain (place_expressions.element_room scope program texts systems routines before unit at o standing K d high s (coded_term scope e s.temps) array (place_type_same scope at o d) room)

    pub variable_represents : (e : a.Expression) → VariableRepresents e
    variable_represents (a.Use d) = place_expression_represents d
    variable_represents (a.Literal n) = tt
    variable_represents (a.Letter n) = tt
    variable_represents (a.Known b n) = tt
    variable_represents (a.Call d es) = tt
    variable_represents (a.Not e) = tt
    variable_represents (a.Negative e) = tt
    variable_represents (a.Positive e) = tt
    variable_represents (a.Binary q e f) = tt

    standard_call_represents : (es : a.Expressions) → StandardRepresents es
    standard_call_represents a.NoExpression x low place next high none call t chain room = absurd call
    standard_call_represents (a.MoreExpressions e a.NoExpression) x low place next high none call t chain room =
        standard_represents e (term_represents e) (variable_represents e) x low place next high none call t chain room
    standard_call_represents (a.MoreExpressions e (a.MoreExpressions f es)) x low place next high none call t chain room = absurd call

    pub arguments_represent : (es : a.Expressions) → ArgumentsRepresent es
    arguments_represent a.NoExpression ps f n low place next high each fit t chain room = no_arguments_represent ps f n low place next high each fit t chain room
    arguments_represent (a.MoreExpressions e es) ps f n low place next high each fit t chain room =
        more_arguments_represent e es (term_represents e) (variable_represents e) (arguments_represent es) ps f n low place next high each fit t chain room
