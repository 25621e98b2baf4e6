-- The operations of a typed statement need no more words than its calls, and the bodies that it starts.
use Rattle.std.proofs.Common.{◌≡◌, ◌≤◌, ℕ, zero, suc, ◌+◌, max, ℤ, List, [], ◌∷◌, ◌++◌, Option, Some, None, refl, ap, sym, subst, ◌∙◌, Bool, true, false, if◌then◌else◌, arith, bytes_eq, codes, length}
use Rattle.cp_model.specs.Abstract as a
use Rattle.cp_model.specs.Abstract.{BaseType, Name, Sort, System}
use Rattle.cp_model.specs.Calls.{Callee, callee, own_routine, is_local, routine_named}
use Rattle.cp_model.specs.Components.{Component, component_named}
use Rattle.cp_model.specs.Declarations.{Variable, declarations}
use Rattle.cp_model.specs.Environments.{Environment}
use Rattle.cp_model.specs.Expressions.{name_of}
use Rattle.cp_model.specs.Types.{ArrayOf, ComponentOf, GlobalScope, NoType, Queue, RecordOf, ResolvedType, Simple, base_of_type}
use Rattle.cp_law_typing.specs.Judgement.{AllInitFit, Called, InitFits, Initialises, IsFunctionCall, IsProcedureCall, IsUsedAs, Place, TypedArms, TypedExpression, TypedExpressions, TypedPlace, TypedStatement, TypedUse, labels_seen}
use Rattle.cp_law_typing.specs.Needs.{in_arms, in_designator, in_expression, in_expressions, in_statement, of_callee, of_component}
use Rattle.cp_law_typing.specs.Words.{words}
use Rattle.cp_law_typing.specs.StaticTypes.{expression_type, place_type}
use Rattle.cp_model_program.specs.Terms.{Argument, Empty, Standard, Target}
use Rattle.cp_model_program.specs.Programs as op
use Rattle.cp_model_program.specs.Programs.{CodeUnit, Operation}
use Rattle.cp_model_program.specs.Sites.{first_parameter}
use Rattle.cp_model_program.specs.Layout.{local_words}
use Rattle.cp_model_program.specs.Scopes.{Scope, environment, target_of, unit_of}
use Rattle.cp_model_program.specs.CodeNeeds.{need_of, need_of_all, need_of_call}
use Rattle.cp_model_program.specs.CodedTerms.{CodedArgument, CodedArguments, CodedCall, CodedPlaceExpression, CodedTerm, argument_of, by_value, call_of, called_term, coded_arguments, coded_place_expression, coded_standard, coded_term, coded_variable, element_part, function_call, function_named, init_argument, init_arguments, name_or_item, no_arguments, parameters_of, standard_term, used_term}
use Rattle.cp_model_program.specs.CodedStatements.{assign_by, counting, table_of, high_of, is_char, low_of, runs_function, behind, calls_at, emitted, emitted_arms, init_by, init_operation, is_result, perform_by, set_result, standard_procedure, standard_statement, store, with_calls}

module _ (before : List CodeUnit) where
  -- ---- Lists of calls and operations

  abbrev pub CallsWithin : ℕ → List CodedCall → Type 0
  CallsWithin b [] = Unit {0}
  CallsWithin b (c ∷ cs) = ((need_of_call before c.call).words ≤ b) × CallsWithin b cs

  abbrev pub Within : ℕ → List Operation → Type 0
  Within b [] = Unit {0}
  Within b (o ∷ os) = ((need_of before o).words ≤ b) × Within b os

  calls_both : (b : ℕ) (cs ds : List CodedCall) → CallsWithin b cs → CallsWithin b ds → CallsWithin b (cs ++ ds)
  calls_both b [] ds h k = k
  calls_both b (c ∷ cs) ds h k = (h.0, calls_both b cs ds h.1 k)

  calls_more : (b d : ℕ) (cs : List CodedCall) → b ≤ d → CallsWithin b cs → CallsWithin d cs
  calls_more b d [] q h = tt
  calls_more b d (c ∷ cs) q h = (omega (arith, q, h.0), calls_more b d cs q h.1)

  both : (b : ℕ) (os ps : List Operation) → Within b os → Within b ps → Within b (os ++ ps)
  both b [] ps h k = k
  both b (o ∷ os) ps h k = (h.0, both b os ps h.1 k)

  more : (b d : ℕ) (os : List Operation) → b ≤ d → Within b os → Within d os
  more b d [] q h = tt
  more b d (o ∷ os) q h = (omega (arith, q, h.0), more b d os q h.1)

  calls_made : (b : ℕ) (cs : List CodedCall) (at next : ℕ) → CallsWithin b cs → Within b (calls_at cs at next).operations
  calls_made b [] at next h = tt
  calls_made b (c ∷ cs) at next h = both b (calls_at cs at next).operations _ (calls_made b cs at next h.1) (h.0, tt)

  made_with : (b : ℕ) (cs : List CodedCall) (o : Operation) (at : ℕ) → (need_of before o).words ≤ b → CallsWithin b cs → Within b (with_calls cs o at).operations
  made_with b cs o at h k = (h, calls_made b cs (suc at) at k)

  pub all_within : (b words : ℕ) (os : List Operation) → words ≤ b → Within b os → (need_of_all before words os).words ≤ b
  all_within b words [] h k = h
  all_within b words (o ∷ os) h k = let rest = all_within b words os h k.1 in omega (arith, k.0, rest)

  -- ---- Statements

  module _ (scope : Scope) (systems : List System) (routines base : ℕ) (of_call : Callee → ℕ) (of_start : Component → ℕ) where
    abbrev env : Environment
    env = environment scope

    abbrev p : Place
    p = record { env = env; systems = systems; routines = routines }

    abbrev E : a.Expression → ℕ
    E e = in_expression of_call of_start env e

    abbrev Es : a.Expressions → ℕ
    Es es = in_expressions of_call of_start env es

    abbrev D : a.Designator → ℕ
    D d = in_designator of_call of_start env d

    abbrev S : a.Statement → ℕ
    S s = in_statement of_call of_start env s

    abbrev pub CallsLittle : Type 0
    CallsLittle =
        (d : a.Designator) (c : Callee) (es : a.Expressions) (xs : List Argument) (low : ℕ) → callee env d ≡ Some c → Called p c es
        → (need_of_call before (call_of scope (unit_of scope c) (target_of env c.of) xs low)).words ≤ base + of_call c

    abbrev pub StartsLittle : Type 0
    StartsLittle =
        (x : Name) (es : a.Expressions) (i : Initialises p x es) (xs : CodedArguments) (low next : ℕ)
        → length xs.arguments ≤ length (declarations scope.globals i.component.system.parameters)
        → (need_of before (init_operation scope i.component i.component.system.sort xs low next)).words ≤ base + of_start i.component

    module _ (calls : CallsLittle) (starts : StartsLittle) where
      no_calls : (d : a.Designator) (c : Callee) (low : ℕ) → callee env d ≡ Some c → (coded_place_expression scope d low).calls ≡ []
      no_calls (a.Plain x) c low h = refl
      no_calls (a.Part (a.Plain x) f) c low h = refl
      no_calls (a.Part (a.Part d x) f) c low h = absurd (cc)
      no_calls (a.Part (a.At d e) f) c low h = absurd (cc)
      no_calls (a.At d e) c low h = absurd (cc)

      element : (b : ℕ) (t : ResolvedType) (s : CodedPlaceExpression) (i : CodedTerm) → CallsWithin b s.calls → CallsWithin b i.calls
          → CallsWithin b (element_part scope.globals t s i).calls
      element b (ArrayOf lower upper t) s i h k = calls_both b s.calls i.calls h k
      element b (Simple z lower upper start) s i h k = h
      element b (RecordOf ms) s i h k = h
      element b Queue s i h k = h
      element b (ComponentOf r inner) s i h k = h
      element b NoType s i h k = h

      by_standard : (b : ℕ) (x : Name) (z : BaseType) (t : CodedTerm) (s : CodedPlaceExpression) → CallsWithin b t.calls → CallsWithin b s.calls
          → CallsWithin b (standard_term x z t s).calls
      by_standard b x z t s h k = go (bytes_eq x (codes "empty"))
        where
          made : Bool → CodedTerm
          made c = if c then record { term = Empty s.place_expression; calls = s.calls; temps = s.temps } else record t { term = Standard (function_named x z) t.term }

          go : (c : Bool) → CallsWithin b (made c).calls
          go true = k
          go false = h

      value : (b : ℕ) (type : ResolvedType) (n : ℕ) (t : CodedTerm) (s : CodedPlaceExpression) → CallsWithin b t.calls → CallsWithin b s.calls → CallsWithin b (by_value scope.globals type n t s).calls
      value b (Simple z lower upper start) n t s h k = h
      value b (ArrayOf lower upper u) n t s h k = k
      value b (RecordOf ms) n t s h k = k
      value b Queue n t s h k = k
      value b (ComponentOf r inner) n t s h k = k
      value b NoType n t s h k = k

      argument : (b : ℕ) (way : Bool) (type : ResolvedType) (n : ℕ) (t : CodedTerm) (s : CodedPlaceExpression) → CallsWithin b t.calls → CallsWithin b s.calls
          → CallsWithin b (argument_of scope.globals (record { by_reference = way; type = type }) n t s).calls
      argument b true type n t s h k = k
      argument b false type n t s h k = value b type n t s h k

      call_made : (b : ℕ) (d : a.Designator) (c : Callee) (es : a.Expressions) (xs : CodedArguments) (low : ℕ) → callee env d ≡ Some c → Called p c es → base + of_call c ≤ b
          → CallsWithin b xs.calls → CallsWithin b (function_call scope c xs low).calls
      call_made b d c es xs low means called q h = let one = calls d c es xs.arguments low means called in calls_both b xs.calls _ h (omega (arith, q, one), tt)

      named : (b : ℕ) (d : a.Designator) (s : CodedPlaceExpression) (low : ℕ) → CallsWithin b s.calls → CallsWithin b (name_or_item scope d s low).calls
      named b (a.Plain x) s low h = tt
      named b (a.Part d x) s low h = h
      named b (a.At d e) s low h = h

      used : (d : a.Designator) (low : ℕ) (s : CodedPlaceExpression) (o : Option Callee) → callee env d ≡ o → IsUsedAs p o d → (TypedUse p d → CallsWithin (base + D d) s.calls)
          → CallsWithin (base + max (of_callee of_call of_start env o) (D d)) (used_term scope d low s o).calls
      used d low s None means way place_expression = named _ d s low (calls_more (base + D d) _ s.calls (omega arith) (place_expression way))
      used d low s (Some c) means way place_expression = call_made _ d c a.NoExpression (no_arguments low) low means way.0 (omega arith) tt

      called : (d : a.Designator) (es : a.Expressions) (low : ℕ) (o : Option Callee) → callee env d ≡ o → IsFunctionCall p o d es
          → CallsWithin (base + Es es) (coded_standard scope (name_of d) es low).calls
          → ((c : Callee) → CallsWithin (base + Es es) (coded_arguments scope es (parameters_of scope c) (first_parameter c) low).calls)
          → CallsWithin (base + max (of_callee of_call of_start env o) (Es es))
          (called_term scope low (coded_standard scope (name_of d) es low) (λ c. coded_arguments scope es (parameters_of scope c) (first_parameter c) low) o).calls
      called d es low None means h one xs = calls_more (base + Es es) _ (coded_standard scope (name_of d) es low).calls (omega arith) one
      called d es low (Some c) means h one xs =
          let ys = coded_arguments scope es (parameters_of scope c) (first_parameter c) low in
          call_made _ d c es ys low means h.0 (omega arith) (calls_more (base + Es es) _ ys.calls (omega arith) (xs c))

      mutual
        pub term : (e : a.Expression) (low : ℕ) → TypedExpression p e → CallsWithin (base + E e) (coded_term scope e low).calls
        term (a.Literal n) low t = tt
        term (a.Letter n) low t = tt
        term (a.Known b n) low t = tt
        term (a.Use d) low t = used d low (coded_place_expression scope d low) (callee env d) refl t (use_place_expression d low)
        term (a.Call d es) low t = called d es low (callee env d) refl t.1 (standard (name_of d) es low t.0) (λ c. arguments es (parameters_of scope c) (first_parameter c) low t.0)
        term (a.Not e) low t = term e low t.0
        term (a.Negative e) low t = term e low t.0
        term (a.Positive e) low t = term e low t.0
        term (a.Binary o e f) low t =
            let c = coded_term scope e low in
            let d = coded_term scope f c.temps in
            calls_both _ c.calls d.calls (calls_more (base + E e) _ c.calls (omega arith) (term e low t.0)) (calls_more (base + E f) _ d.calls (omega arith) (term f c.temps t.1))

        use_place_expression : (d : a.Designator) (low : ℕ) → TypedUse p d → CallsWithin (base + D d) (coded_place_expression scope d low).calls
        use_place_expression (a.Plain x) low t = tt
        use_place_expression (a.Part d x) low t = place_expression d low t.0
        use_place_expression (a.At d e) low t =
            let s = coded_place_expression scope d low in
            let i = coded_term scope e s.temps in
            element _ (place_type env d) s i (calls_more (base + D d) _ s.calls (omega arith) (place_expression d low t.0)) (calls_more (base + E e) _ i.calls (omega arith) (term e s.temps t.1))

        pub place_expression : (d : a.Designator) (low : ℕ) → TypedPlace p d → CallsWithin (base + D d) (coded_place_expression scope d low).calls
        place_expression (a.Plain x) low t = tt
        place_expression (a.Part d x) low t = place_expression d low t.0
        place_expression (a.At d e) low t =
            let s = coded_place_expression scope d low in
            let i = coded_term scope e s.temps in
            element _ (place_type env d) s i (calls_more (base + D d) _ s.calls (omega arith) (place_expression d low t.0)) (calls_more (base + E e) _ i.calls (omega arith) (term e s.temps t.1))

        pub variable : (e : a.Expression) (low : ℕ) → TypedExpression p e → CallsWithin (base + E e) (coded_variable scope e low).calls
        variable (a.Use d) low t = by (callee env d) refl t (use_place_expression d low)
          where
            by : (o : Option Callee) → callee env d ≡ o → IsUsedAs p o d → (TypedUse p d → CallsWithin (base + D d) (coded_place_expression scope d low).calls)
                → CallsWithin (base + max (of_callee of_call of_start env o) (D d)) (coded_place_expression scope d low).calls
            by None means way h = calls_more (base + D d) _ (coded_place_expression scope d low).calls (omega arith) (h way)
            by (Some c) means way h = subst (CallsWithin _) (sym (no_calls d c low means)) tt
        variable (a.Literal n) low t = tt
        variable (a.Letter n) low t = tt
        variable (a.Known b n) low t = tt
        variable (a.Call d es) low t = tt
        variable (a.Not e) low t = tt
        variable (a.Negative e) low t = tt
        variable (a.Positive e) low t = tt
        variable (a.Binary o e f) low t = tt

        standard : (x : Name) (es : a.Expressions) (low : ℕ) → TypedExpressions p es → CallsWithin (base + Es es) (coded_standard scope x es low).calls
        standard x a.NoExpression low t = tt
        standard x (a.MoreExpressions e es) low t =
            by_standard _ x (base_of_type (expression_type env e)) (coded_term scope e low) (coded_variable scope e low)
            (calls_more (base + E e) _ (coded_term scope e low).calls (omega arith) (term e low t.0))
            (calls_more (base + E e) _ (coded_variable scope e low).calls (omega arith) (variable e low t.0))

        pub arguments : (es : a.Expressions) (ps : List (Name × Variable)) (n low : ℕ) → TypedExpressions p es → CallsWithin (base + Es es) (coded_arguments scope es ps n low).calls
        arguments a.NoExpression ps n low t = tt
        arguments (a.MoreExpressions e es) [] n low t = tt
        arguments (a.MoreExpressions e es) (q ∷ qs) n low t =
            let x = argument_of scope.globals q.1 n (coded_term scope e low) (coded_variable scope e low) in
            let rest = coded_arguments scope es qs (n + local_words scope.globals q.1) x.temps in
            calls_both _ x.calls rest.calls
            (argument _ q.1.by_reference q.1.type n (coded_term scope e low) (coded_variable scope e low)
            (calls_more (base + E e) _ (coded_term scope e low).calls (omega arith) (term e low t.0))
            (calls_more (base + E e) _ (coded_variable scope e low).calls (omega arith) (variable e low t.0)))
            (calls_more (base + Es es) _ rest.calls (omega arith) (arguments es qs (n + local_words scope.globals q.1) x.temps t.1))

      -- ---- Statements

      stored : (b : ℕ) (t : ResolvedType) (d : CodedPlaceExpression) (e : CodedTerm) (s : CodedPlaceExpression) (at next : ℕ) → CallsWithin b d.calls → CallsWithin b e.calls → CallsWithin b s.calls
          → Within b (store scope.globals t d e s at next).operations
      stored b (Simple z lower upper start) d e s at next h k l = made_with b (d.calls ++ e.calls) (op.Set d.place_expression lower upper e.term next) at (omega arith) (calls_both b d.calls e.calls h k)
      stored b (ArrayOf lower upper u) d e s at next h k l = made_with b (d.calls ++ s.calls) (op.CopyWords d.place_expression s.place_expression (words scope.globals (ArrayOf lower upper u)) next) at (omega arith) (calls_both b d.calls s.calls h l)
      stored b (RecordOf ms) d e s at next h k l = made_with b (d.calls ++ s.calls) (op.CopyWords d.place_expression s.place_expression (words scope.globals (RecordOf ms)) next) at (omega arith) (calls_both b d.calls s.calls h l)
      stored b Queue d e s at next h k l = made_with b (d.calls ++ s.calls) (op.CopyWords d.place_expression s.place_expression (words scope.globals (Queue)) next) at (omega arith) (calls_both b d.calls s.calls h l)
      stored b (ComponentOf r inner) d e s at next h k l = made_with b (d.calls ++ s.calls) (op.CopyWords d.place_expression s.place_expression (words scope.globals (ComponentOf r inner)) next) at (omega arith) (calls_both b d.calls s.calls h l)
      stored b NoType d e s at next h k l = made_with b (d.calls ++ s.calls) (op.CopyWords d.place_expression s.place_expression (words scope.globals (NoType)) next) at (omega arith) (calls_both b d.calls s.calls h l)

      assigned : (d : a.Designator) (e : a.Expression) (low at next : ℕ) (b : Bool) → TypedPlace p d → TypedExpression p e
          → Within (base + max (D d) (E e)) (assign_by scope d e low at next b).operations
      assigned d e low at next true h t =
          let c = coded_term scope e low in
          made_with _ c.calls (op.SetResult (low_of (place_type env d)) (high_of (place_type env d)) c.term next) at (omega arith) (calls_more (base + E e) _ c.calls (omega arith) (term e low t))
      assigned d e low at next false h t =
          let to = coded_place_expression scope d low in
          stored _ (place_type env d) to (coded_term scope e to.temps) (coded_variable scope e to.temps) at next (calls_more (base + D d) _ to.calls (omega arith) (place_expression d low h))
          (calls_more (base + E e) _ (coded_term scope e to.temps).calls (omega arith) (term e to.temps t))
          (calls_more (base + E e) _ (coded_variable scope e to.temps).calls (omega arith) (variable e to.temps t))

      by_procedure : (b : ℕ) (x : Name) (t : ResolvedType) (e : CodedTerm) (s : CodedPlaceExpression) (at next : ℕ) → CallsWithin b e.calls → CallsWithin b s.calls
          → Within b (standard_procedure scope x t e s at next).operations
      by_procedure b x t e s at next h k = go (bytes_eq x (codes "display")) (bytes_eq x (codes "accept")) (bytes_eq x (codes "delay"))
        where
          go : (i j l : Bool)
              → Within b (if i then with_calls e.calls (op.Display e.term (is_char (base_of_type t)) next) at
              else if j then with_calls s.calls (op.Accept s.place_expression (low_of t) (high_of t) next) at
              else if l then with_calls s.calls (op.Delay s.place_expression next) at
              else with_calls s.calls (op.Continue s.place_expression (runs_function scope.routine)) at).operations
          go true j l = made_with b e.calls (op.Display e.term (is_char (base_of_type t)) next) at (omega arith) h
          go false true l = made_with b s.calls (op.Accept s.place_expression (low_of t) (high_of t) next) at (omega arith) k
          go false false true = made_with b s.calls (op.Delay s.place_expression next) at (omega arith) k
          go false false false = made_with b s.calls (op.Continue s.place_expression (runs_function scope.routine)) at (omega arith) k

      by_standard_statement : (x : Name) (es : a.Expressions) (low at next : ℕ) → TypedExpressions p es → Within (base + Es es) (standard_statement scope x es low at next).operations
      by_standard_statement x a.NoExpression low at next t = made_with _ [] (op.Wait next) at (omega arith) tt
      by_standard_statement x (a.MoreExpressions e es) low at next t =
          by_procedure _ x (expression_type env e) (coded_term scope e low) (coded_variable scope e low) at next
          (calls_more (base + E e) _ (coded_term scope e low).calls (omega arith) (term e low t.0))
          (calls_more (base + E e) _ (coded_variable scope e low).calls (omega arith) (variable e low t.0))

      performed : (d : a.Designator) (es : a.Expressions) (low at next : ℕ) (o : Option Callee) → callee env d ≡ o → TypedExpressions p es → IsProcedureCall p o d es
          → Within (base + max (of_callee of_call of_start env o) (Es es)) (perform_by scope d es low at next o).operations
      performed d es low at next None means t h =
          more (base + Es es) _ (standard_statement scope (name_of d) es low at next).operations (omega arith) (by_standard_statement (name_of d) es low at next t)
      performed d es low at next (Some c) means t h =
          let xs = coded_arguments scope es (parameters_of scope c) (first_parameter c) low in
          let one = calls d c es xs.arguments low means h.0 in
          made_with _ xs.calls (op.Procedure (call_of scope (unit_of scope c) (target_of env c.of) xs.arguments low) next) at (omega (arith, one)) (calls_more (base + Es es) _ xs.calls (omega arith) (arguments es (parameters_of scope c) (first_parameter c) low t))

      init_item : (b : ℕ) (s : System) (x : Name) (way : Bool) (t : ResolvedType) (e : a.Expression) (low : ℕ) → (InitFits p t e) → base + E e ≤ b
          → CallsWithin b (init_argument scope s (x, record { by_reference = way; type = t }) e low).calls
      init_item b s x way (ComponentOf r inner) e low h q = tt
      init_item b s x way (Simple z lower upper start) e low h q = calls_more (base + E e) b (coded_term scope e low).calls q (term e low h.0)
      init_item b s x way (ArrayOf lower upper u) e low h q = tt
      init_item b s x way (RecordOf ms) e low h q = tt
      init_item b s x way Queue e low h q = tt
      init_item b s x way NoType e low h q = tt

      init_items : (s : System) (es : a.Expressions) (ps : List (Name × Variable)) (low : ℕ) → AllInitFit p ps es → CallsWithin (base + Es es) (init_arguments scope s es ps low).calls
      init_items s a.NoExpression ps low h = tt
      init_items s (a.MoreExpressions e es) [] low h = tt
      init_items s (a.MoreExpressions e es) (q ∷ qs) low h =
          let x = init_argument scope s q e low in
          let rest = init_arguments scope s es qs x.temps in
          calls_both _ x.calls rest.calls (init_item _ s q.0 q.1.by_reference q.1.type e low h.0 (omega arith)) (calls_more (base + Es es) _ rest.calls (omega arith) (init_items s es qs x.temps h.1))

      init_counted : (s : System) (es : a.Expressions) (ps : List (Name × Variable)) (low : ℕ) → length (init_arguments scope s es ps low).arguments ≤ length ps
      init_counted s a.NoExpression ps low = omega arith
      init_counted s (a.MoreExpressions e es) [] low = omega arith
      init_counted s (a.MoreExpressions e es) (q ∷ qs) low =
          let rest = init_counted s es qs (init_argument scope s q e low).temps in omega (arith, rest)

      initialised : (x : Name) (es : a.Expressions) (low at next : ℕ) (i : Initialises p x es) → Within (base + S (a.Init x es)) (init_by scope es low at next (component_named env x)).operations
      initialised x es low at next i =
          subst (λ o. Within (base + max (of_component of_call of_start env o) (Es es)) (init_by scope es low at next o).operations) (sym i.named)
          (let xs = init_arguments scope i.component.system es (declarations scope.globals i.component.system.parameters) low in
          let one = starts x es i xs low next (init_counted i.component.system es (declarations scope.globals i.component.system.parameters) low) in
          made_with _ xs.calls (init_operation scope i.component i.component.system.sort xs low next) at (omega (arith, one)) (calls_more (base + Es es) _ xs.calls (omega arith) (init_items i.component.system es (declarations scope.globals i.component.system.parameters) low i.fit)))

      mutual
        pub statement : (s : a.Statement) (low at next : ℕ) → TypedStatement p s → Within (base + S s) (emitted scope s low at next).operations
        statement a.Nothing low at next t = tt
        statement (a.Seq x y) low at next t =
            let second = emitted scope y low at next in
            let first = emitted scope x low (at + length second.operations) second.entry in
            both _ second.operations first.operations (more (base + S y) _ second.operations (omega arith) (statement y low at next t.1))
            (more (base + S x) _ first.operations (omega arith) (statement x low (at + length second.operations) second.entry t.0))
        statement (a.Assign d e) low at next t = assigned d e low at next (is_result scope d) t.0 t.1
        statement (a.Perform d es) low at next t = performed d es low at next (callee env d) refl t.0 t.1
        statement (a.If e x y) low at next t =
            let no = emitted scope y low at next in
            let yes = emitted scope x low (at + length no.operations) next in
            let c = coded_term scope e low in
            both _ (no.operations ++ yes.operations) _
            (both _ no.operations yes.operations (more (base + S y) _ no.operations (omega arith) (statement y low at next t.3))
            (more (base + S x) _ yes.operations (omega arith) (statement x low (at + length no.operations) next t.2)))
            (made_with _ c.calls (op.Test c.term yes.entry no.entry) _ (omega arith) (calls_more (base + E e) _ c.calls (omega arith) (term e low t.0)))
        statement (a.Case e xs) low at next t =
            let all = emitted_arms scope xs low at next in
            let c = coded_term scope e low in
            both _ all.operations _ (more (base + in_arms of_call of_start env xs) _ all.operations (omega arith) (arms xs t.1 [] low at next t.3))
            (made_with _ c.calls (op.Case c.term (table_of all.arms)) _ (omega arith) (calls_more (base + E e) _ c.calls (omega arith) (term e low t.0)))
        statement (a.While e x) low at next t =
            let c = coded_term scope e low in
            let cs = calls_at c.calls (suc at) at in
            let body = emitted scope x low (suc at + length cs.operations) cs.entry in (
              omega arith,
              both _ cs.operations body.operations (calls_made _ c.calls (suc at) at (calls_more (base + E e) _ c.calls (omega arith) (term e low t.0)))
                  (more (base + S x) _ body.operations (omega arith) (statement x low (suc at + length cs.operations) cs.entry t.2)),
            )
        statement (a.Repeat x e) low at next t =
            let c = coded_term scope e low in
            let cs = calls_at c.calls (suc at) at in
            let body = emitted scope x low (suc at + length cs.operations) cs.entry in (
              omega arith,
              both _ cs.operations body.operations (calls_made _ c.calls (suc at) at (calls_more (base + E e) _ c.calls (omega arith) (term e low t.1)))
                  (more (base + S x) _ body.operations (omega arith) (statement x low (suc at + length cs.operations) cs.entry t.0)),
            )
        statement (a.For x down e f y) low at next t =
            let body = emitted scope y (low + 2) (suc at) at in
            let first = coded_term scope e low in
            let last = coded_term scope f first.temps in (
              omega arith,
              both _ body.operations _ (more (base + S y) _ body.operations (omega arith) (statement y (low + 2) (suc at) at t.6))
                  (made_with _ (first.calls ++ last.calls) (op.For (counting scope x down low body.entry next) first.term last.term) _ (omega arith) (calls_both _ first.calls last.calls (calls_more (base + E e) _ first.calls (omega arith) (term e low t.4))
                  (calls_more (base + E f) _ last.calls (omega arith) (term f first.temps t.5)))),
            )
        statement (a.Cycle x) low at next t = (omega arith, statement x low (suc at) at t)
        statement (a.Init x es) low at next t = initialised x es low at next t

        arms : (xs : a.Arms) (b : BaseType) (seen : List ℤ) (low at next : ℕ) → TypedArms p b seen xs
            → Within (base + in_arms of_call of_start env xs) (emitted_arms scope xs low at next).operations
        arms a.NoArm b seen low at next t = tt
        arms (a.MoreArms ls x rest) b seen low at next t =
            let others = emitted_arms scope rest low at next in
            let own = emitted scope x low (at + length others.operations) next in
            both _ others.operations own.operations (more (base + in_arms of_call of_start env rest) _ others.operations (omega arith) (arms rest b (labels_seen scope.globals ls seen) low at next t.2))
            (more (base + S x) _ own.operations (omega arith) (statement x low (at + length others.operations) next t.1))
