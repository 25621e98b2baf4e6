-- The program of a text without the clock doesn't use the clock either.
--
-- The compiler emits `Wait` only for a statement without arguments that calls no procedure. In a typed
-- text this is `wait` itself, which a text without the clock doesn't have.
use Rattle.std.specs.Prelude.{Bool, List, None, Option, Some, [], codes, false, if◌then◌else◌, length, refl, slice_get, suc, true, ℕ, ◌+◌, ◌++◌, ◌∷◌, ◌≡◌}
use Rattle.std.specs.Str.{bytes_eq}
use Rattle.cp_model.specs.Abstract as a
use Rattle.cp_model.specs.Abstract.{Definition, Name, Routine, Sort, Statement, System, Tree}
use Rattle.cp_model.specs.Types.{ArrayOf, ComponentOf, GlobalScope, NoType, Queue, RecordOf, ResolvedType, Simple, base_of_type}
use Rattle.cp_model.specs.Calls.{Callee, callee}
use Rattle.cp_model.specs.Components.{Component, component_named}
use Rattle.cp_model.specs.Declarations.{declarations, globals}
use Rattle.cp_model.specs.Expressions.{name_of}
use Rattle.cp_model.specs.Locations.{OfProcess, root}
use Rattle.cp_model.specs.States.{Setup}
use Rattle.cp_law_typing.specs.Needs.{some_environment}
use Rattle.cp_law_typing.specs.StaticTypes.{expression_type, place_type}
use Rattle.cp_law_typing.specs.Systems.{systems_of}
use Rattle.cp_law_typing.specs.WellTyped.{TypedBodies, WellTyped, body_place, routine_place, text_systems}
use Rattle.cp_law_typing.specs.Words.{words}
use Rattle.cp_model_program.specs.IsProgramFor.{end_of}
use Rattle.cp_model_program.specs.Programs as op
use Rattle.cp_model_program.specs.Programs.{Done, Operation, Return, StartPlan}
use Rattle.cp_model_program.specs.Plans.{plan_of_routine}
use Rattle.cp_model_program.specs.Scopes.{Scope, activation_fits, component_fits, environment, target_of, unit_of}
use Rattle.cp_model_program.specs.Sites.{first_parameter}
use Rattle.cp_model_program.specs.StatementsFor.{is_function}
use Rattle.cp_model_program.specs.CodedTerms.{CodedArguments, CodedCall, CodedPlaceExpression, CodedTerm, call_of, coded_arguments, coded_place_expression, coded_term, coded_variable, init_arguments, parameters_of}
use Rattle.cp_model_program.specs.CodedStatements.{assign_by, calls_at, counting, emitted, emitted_arms, high_of, init_by, init_operation, is_char, is_result, low_of, perform_by, runs_function, standard_procedure, standard_statement, store, table_of, with_calls}
use Rattle.cp_model_program.specs.Compile.{Compiled, CompiledTypes, body_scope, compile, nothing_compiled, routine_scope, with_code, with_definition, with_definitions, with_nothing, with_routine, with_routines, with_stub, with_system, with_unit}
use Rattle.cp_law_calls.specs.Clocks.{routines_are_timeless, statement_is_timeless, system_is_timeless, systems_are_timeless, text_is_timeless}
use Rattle.cp_law_calls.proofs.Calm.{ArmsCalm, Calm, both, together}
use Rattle.cp_law_calls.proofs.TimelessTexts.{calm_typed, routine_at, system_at}
use Rattle.cp_law_cores.specs.Clocks.{are_timeless, arguments_are_timeless, is_timeless, operation_is_timeless}
use Rattle.cp_law_search.specs.Laws.{CompiledTextsAreClockless}
use Rattle.cp_law_search.proofs.CompiledTerms.{ArgumentsTimeless, CallsTimeless, PlaceTimeless, TermTimeless, arguments_timeless, calls_join, init_arguments_timeless, place_timeless, term_timeless, variable_timeless}

-- ---- Lists of operations

join : (xs ys : List Operation) → are_timeless xs ≡ true → are_timeless ys ≡ true → are_timeless (xs ++ ys) ≡ true
join [] ys h k = k
join (x ∷ xs) ys h k =
    let b = both (operation_is_timeless x) (are_timeless xs) h in
    together (operation_is_timeless x) (are_timeless (xs ++ ys)) b.0 (join xs ys b.1 k)

calls_emitted : (cs : List CodedCall) (at next : ℕ) → CallsTimeless cs → are_timeless (calls_at cs at next).operations ≡ true
calls_emitted [] at next h = refl
calls_emitted (c ∷ cs) at next h = join (calls_at cs at next).operations (op.Function c.call c.into (calls_at cs at next).entry ∷ []) (calls_emitted cs at next h.1)
    (together (arguments_are_timeless c.call.arguments) true h.0 refl)

with_calls_emitted : (cs : List CodedCall) (o : Operation) (at : ℕ) → CallsTimeless cs → operation_is_timeless o ≡ true
    → are_timeless (with_calls cs o at).operations ≡ true
with_calls_emitted cs o at h k = together (operation_is_timeless o) _ k (calls_emitted cs (suc at) at h)

-- ---- Statements

module _ (scope : Scope) where
  copy_emitted : (g : GlobalScope) (t : ResolvedType) (d s : CodedPlaceExpression) (at next : ℕ) → PlaceTimeless d → PlaceTimeless s
      → are_timeless (with_calls (d.calls ++ s.calls) (op.CopyWords d.place_expression s.place_expression (words g t) next) at).operations ≡ true
  copy_emitted g t d s at next h k =
      with_calls_emitted (d.calls ++ s.calls) (op.CopyWords d.place_expression s.place_expression (words g t) next) at
      (calls_join d.calls s.calls h.calls k.calls) (together _ _ h.place k.place)

  store_emitted : (g : GlobalScope) (t : ResolvedType) (d : CodedPlaceExpression) (e : CodedTerm) (s : CodedPlaceExpression) (at next : ℕ)
      → PlaceTimeless d → TermTimeless e → PlaceTimeless s → are_timeless (store g t d e s at next).operations ≡ true
  store_emitted g (Simple b low high start) d e s at next h k l =
      with_calls_emitted (d.calls ++ e.calls) (op.Set d.place_expression low high e.term next) at
      (calls_join d.calls e.calls h.calls k.calls) (together _ _ h.place k.term)
  store_emitted g (ArrayOf low high t) d e s at next h k l = copy_emitted g (ArrayOf low high t) d s at next h l
  store_emitted g (RecordOf ms) d e s at next h k l = copy_emitted g (RecordOf ms) d s at next h l
  store_emitted g Queue d e s at next h k l = copy_emitted g Queue d s at next h l
  store_emitted g (ComponentOf c inner) d e s at next h k l = copy_emitted g (ComponentOf c inner) d s at next h l
  store_emitted g NoType d e s at next h k l = copy_emitted g NoType d s at next h l

  assign_emitted : (d : a.Designator) (e : a.Expression) (low at next : ℕ) (b : Bool) → Calm (environment scope) (a.Assign d e)
      → are_timeless (assign_by scope d e low at next b).operations ≡ true
  assign_emitted d e low at next true h =
      let t = term_timeless scope e low h.1 in
      let type = place_type (environment scope) d in
      with_calls_emitted (coded_term scope e low).calls (op.SetResult (low_of type) (high_of type) (coded_term scope e low).term next) at t.calls t.term
  assign_emitted d e low at next false h =
      let to = coded_place_expression scope d low in
      store_emitted scope.globals (place_type (environment scope) d) to (coded_term scope e to.temps) (coded_variable scope e to.temps) at next
      (place_timeless scope d low h.0) (term_timeless scope e to.temps h.1) (variable_timeless scope e to.temps h.1)

  procedure_emitted : (x : Name) (t : ResolvedType) (e : CodedTerm) (s : CodedPlaceExpression) (at next : ℕ) → TermTimeless e → PlaceTimeless s
      → are_timeless (standard_procedure scope x t e s at next).operations ≡ true
  procedure_emitted x t e s at next h k = by (bytes_eq x (codes "display")) (bytes_eq x (codes "accept")) (bytes_eq x (codes "delay"))
    where
      by : (displays accepts delays : Bool)
          → are_timeless (if displays then with_calls e.calls (op.Display e.term (is_char (base_of_type t)) next) at
          else if accepts then with_calls s.calls (op.Accept s.place_expression (low_of t) (high_of t) next) at
          else if delays then with_calls s.calls (op.Delay s.place_expression next) at
          else with_calls s.calls (op.Continue s.place_expression (runs_function scope.routine)) at).operations ≡ true
      by true accepts delays = with_calls_emitted e.calls (op.Display e.term (is_char (base_of_type t)) next) at h.calls h.term
      by false true delays = with_calls_emitted s.calls (op.Accept s.place_expression (low_of t) (high_of t) next) at k.calls k.place
      by false false true = with_calls_emitted s.calls (op.Delay s.place_expression next) at k.calls k.place
      by false false false = with_calls_emitted s.calls (op.Continue s.place_expression (runs_function scope.routine)) at k.calls k.place

  standard_emitted : (x : Name) (d : a.Designator) (es : a.Expressions) (low at next : ℕ) → callee (environment scope) d ≡ None
      → Calm (environment scope) (a.Perform d es) → are_timeless (standard_statement scope x es low at next).operations ≡ true
  standard_emitted x d a.NoExpression low at next none h = absurd (h.1 none)
  standard_emitted x d (a.MoreExpressions e es) low at next none h =
      let k = both _ _ h.0 in
      procedure_emitted x (expression_type (environment scope) e) (coded_term scope e low) (coded_variable scope e low) at next
      (term_timeless scope e low k.0) (variable_timeless scope e low k.0)

  perform_emitted : (d : a.Designator) (es : a.Expressions) (low at next : ℕ) (c : Option Callee) → callee (environment scope) d ≡ c
      → Calm (environment scope) (a.Perform d es) → are_timeless (perform_by scope d es low at next c).operations ≡ true
  perform_emitted d es low at next None is h = standard_emitted (name_of d) d es low at next is h
  perform_emitted d es low at next (Some c) is h =
      let coded = coded_arguments scope es (parameters_of scope c) (first_parameter c) low in
      let xs = arguments_timeless scope es (parameters_of scope c) (first_parameter c) low h.0 in
      with_calls_emitted coded.calls (op.Procedure (call_of scope (unit_of scope c) (target_of (environment scope) c.of) coded.arguments low) next) at
      xs.calls xs.arguments

  init_operation_timeless : (n : Component) (s : Sort) (xs : CodedArguments) (low next : ℕ) → ArgumentsTimeless xs
      → operation_is_timeless (init_operation scope n s xs low next) ≡ true
  init_operation_timeless n a.Class xs low next h = h.arguments
  init_operation_timeless n a.Monitor xs low next h = h.arguments
  init_operation_timeless n a.Process xs low next h = h.arguments

  init_emitted : (x : Name) (es : a.Expressions) (low at next : ℕ) (n : Option Component) → Calm (environment scope) (a.Init x es)
      → are_timeless (init_by scope es low at next n).operations ≡ true
  init_emitted x es low at next None h = refl
  init_emitted x es low at next (Some n) h =
      let ps = declarations scope.globals n.system.parameters in
      let coded = init_arguments scope n.system es ps low in
      let xs = init_arguments_timeless scope n.system es ps low h in
      with_calls_emitted coded.calls (init_operation scope n n.system.sort coded low next) at xs.calls
      (init_operation_timeless n n.system.sort coded low next xs)

  mutual
    statement_emitted : (x : Statement) (low at next : ℕ) → Calm (environment scope) x → are_timeless (emitted scope x low at next).operations ≡ true
    statement_emitted a.Nothing low at next h = refl
    statement_emitted (a.Seq x y) low at next h =
        let second = emitted scope y low at next in
        join second.operations (emitted scope x low (at + length second.operations) second.entry).operations (statement_emitted y low at next h.1)
        (statement_emitted x low (at + length second.operations) second.entry h.0)
    statement_emitted (a.Assign d e) low at next h = assign_emitted d e low at next (is_result scope d) h
    statement_emitted (a.Perform d es) low at next h = perform_emitted d es low at next (callee (environment scope) d) refl h
    statement_emitted (a.If e x y) low at next h =
        let no' = emitted scope y low at next in
        let yes' = emitted scope x low (at + length no'.operations) next in
        let t = term_timeless scope e low h.0 in
        let both = no'.operations ++ yes'.operations in
        let c = coded_term scope e low in
        join both (with_calls c.calls (op.Test c.term yes'.entry no'.entry) (at + length both)).operations
        (join no'.operations yes'.operations (statement_emitted y low at next h.2) (statement_emitted x low (at + length no'.operations) next h.1))
        (with_calls_emitted c.calls (op.Test c.term yes'.entry no'.entry) (at + length both) t.calls t.term)
    statement_emitted (a.Case e arms) low at next h =
        let t = term_timeless scope e low h.0 in
        let all = emitted_arms scope arms low at next in
        let c = coded_term scope e low in
        let last = op.Case c.term (table_of all.arms) in
        join all.operations (with_calls c.calls last (at + length all.operations)).operations (arms_emitted arms low at next h.1)
        (with_calls_emitted c.calls last (at + length all.operations) t.calls t.term)
    statement_emitted (a.While e x) low at next h =
        let t = term_timeless scope e low h.0 in
        let calls = calls_at (coded_term scope e low).calls (suc at) at in
        together _ _ t.term
        (join calls.operations (emitted scope x low (suc at + length calls.operations) calls.entry).operations (calls_emitted (coded_term scope e low).calls (suc at) at t.calls) (statement_emitted x low (suc at + length calls.operations) calls.entry h.1))
    statement_emitted (a.Repeat x e) low at next h =
        let t = term_timeless scope e low h.0 in
        let calls = calls_at (coded_term scope e low).calls (suc at) at in
        together _ _ t.term
        (join calls.operations (emitted scope x low (suc at + length calls.operations) calls.entry).operations (calls_emitted (coded_term scope e low).calls (suc at) at t.calls) (statement_emitted x low (suc at + length calls.operations) calls.entry h.1))
    statement_emitted (a.For v down e f x) low at next h =
        let body = emitted scope x (low + 2) (suc at) at in
        let first = coded_term scope e low in
        let last = coded_term scope f first.temps in
        let t = term_timeless scope e low h.0 in
        let u = term_timeless scope f first.temps h.1 in
        let c = counting scope v down low body.entry next in
        let test = op.For c first.term last.term in
        let place = suc at + length body.operations in
        join (op.ForNext c ∷ body.operations) (with_calls (first.calls ++ last.calls) test place).operations
        (statement_emitted x (low + 2) (suc at) at h.2)
        (with_calls_emitted (first.calls ++ last.calls) test place (calls_join first.calls last.calls t.calls u.calls) (together _ _ t.term u.term))
    statement_emitted (a.Cycle x) low at next h = statement_emitted x low (suc at) at h
    statement_emitted (a.Init x es) low at next h = init_emitted x es low at next (component_named (environment scope) x) h

    arms_emitted : (arms : a.Arms) (low at next : ℕ) → ArmsCalm (environment scope) arms → are_timeless (emitted_arms scope arms low at next).operations ≡ true
    arms_emitted a.NoArm low at next h = refl
    arms_emitted (a.MoreArms ls x rest) low at next h =
        let others = emitted_arms scope rest low at next in
        join others.operations (emitted scope x low (at + length others.operations) next).operations (arms_emitted rest low at next h.1) (statement_emitted x low (at + length others.operations) next h.0)

-- ---- System types

code_emitted : (scope : Scope) (starts : StartPlan) (last : Operation) (x : Statement) (c : Compiled) → operation_is_timeless last ≡ true
    → Calm (environment scope) x → are_timeless c.operations ≡ true → are_timeless (with_code scope starts last x c).operations ≡ true
code_emitted scope starts last x c h k before =
    join c.operations _ before (together (operation_is_timeless last) _ h (statement_emitted scope x 0 (suc (length c.operations)) (length c.operations) k))

-- A unit without code adds no operation.
unit_emitted : (scope : Scope) (starts : StartPlan) (last : Operation) (x : Statement) (c : Compiled) → operation_is_timeless last ≡ true
    → Calm (environment scope) x → are_timeless c.operations ≡ true → are_timeless (with_unit scope starts last x c).operations ≡ true
unit_emitted scope starts last x c h k before = by (activation_fits scope) (component_fits scope)
  where
    by : (activation component : Bool)
        → are_timeless (if activation then (if component then with_code scope starts last x c else with_stub scope starts c) else with_nothing c).operations ≡ true
    by true true = code_emitted scope starts last x c h k before
    by true false = before
    by false component = before

end_timeless : (s : Sort) → operation_is_timeless (end_of s) ≡ true
end_timeless a.Process = refl
end_timeless a.Monitor = refl
end_timeless a.Class = refl

pub record SystemCalm (g : GlobalScope) (s : System) : Type 0 where
  pub body : Calm (some_environment g s None) s.body
  pub routines : (k : ℕ) (r : Routine) → slice_get s.routines k ≡ Some r → Calm (some_environment g s (Some r)) r.body

routines_emitted : (g : GlobalScope) (s : System) (firsts : List (Name × ℕ)) (first : ℕ) (rs : List Routine) (c : Compiled)
    → ((k : ℕ) (r : Routine) → slice_get rs k ≡ Some r → Calm (some_environment g s (Some r)) r.body) → are_timeless c.operations ≡ true
    → are_timeless (with_routines g s firsts first rs c).operations ≡ true
routines_emitted g s firsts first [] c h before = before
routines_emitted g s firsts first (r ∷ rs) c h before =
    routines_emitted g s firsts first rs (with_routine g s firsts first r c) (λ k q is. h (suc k) q is)
    (unit_emitted (routine_scope g s firsts first r) (plan_of_routine g r) (Return (is_function r.result)) r.body c refl (h 0 r refl) before)

system_emitted : (g : GlobalScope) (firsts : List (Name × ℕ)) (s : System) (c : Compiled) → SystemCalm g s → are_timeless c.operations ≡ true
    → are_timeless (with_system g firsts s c).operations ≡ true
system_emitted g firsts s c h before =
    unit_emitted (body_scope g s firsts (length c.units)) Done (end_of s.sort) s.body (with_routines g s firsts (length c.units) s.routines c)
    (end_timeless s.sort) h.body (routines_emitted g s firsts (length c.units) s.routines c h.routines before)

definitions_emitted : (g : GlobalScope) (ds : List Definition) (m : CompiledTypes)
    → ((i : ℕ) (s : System) → slice_get (systems_of ds) i ≡ Some s → SystemCalm g s) → are_timeless m.compiled.operations ≡ true
    → are_timeless (with_definitions g ds m).compiled.operations ≡ true
definitions_emitted g [] m h before = before
definitions_emitted g (a.SystemDef x s ∷ ds) m h before =
    definitions_emitted g ds (with_definition g (a.SystemDef x s) m) (λ i q is. h (suc i) q is) (system_emitted g m.firsts s m.compiled (h 0 s refl) before)
definitions_emitted g (a.TypeDef x t ∷ ds) m h before = definitions_emitted g ds (with_definition g (a.TypeDef x t) m) h before
definitions_emitted g (a.EnumDef x vs ∷ ds) m h before = definitions_emitted g ds (with_definition g (a.EnumDef x vs) m) h before
definitions_emitted g (a.ConstantDef x c ∷ ds) m h before = definitions_emitted g ds (with_definition g (a.ConstantDef x c) m) h before

-- ---- Texts

typed_calm : (g : GlobalScope) (before : List System) (s : System) → TypedBodies g before s → system_is_timeless s ≡ true → SystemCalm g s
typed_calm g before s typed h =
    let parts = both (statement_is_timeless s.body) (routines_are_timeless s.routines) h in
    record {
      body = calm_typed (body_place g before s (root (OfProcess 0))) s.body (typed.body (root (OfProcess 0))) parts.0;
      routines = λ k r is.
          calm_typed (routine_place g before s k r (root (OfProcess 0)) (OfProcess 0)) r.body
          ((typed.routines k r is).body (root (OfProcess 0)) (OfProcess 0)) (routine_at s.routines k r parts.1 is);
    }

compiled_timeless : (setup : Setup) → WellTyped setup → text_is_timeless setup.tree ≡ true → is_timeless (compile setup.tree) ≡ true
compiled_timeless setup W h =
    let g = globals setup.tree in
    let parts = both (system_is_timeless setup.tree.initial) (systems_are_timeless (text_systems setup)) h in
    let types = with_definitions g setup.tree.definitions nothing_compiled in
    system_emitted g types.firsts setup.tree.initial types.compiled (typed_calm g (text_systems setup) setup.tree.initial W.initial_bodies parts.0)
    (definitions_emitted g setup.tree.definitions nothing_compiled
    (λ i s is. typed_calm g _ s (W.systems i s is).bodies (system_at (text_systems setup) i s parts.1 is)) refl)

pub compiled_texts_are_clockless : CompiledTextsAreClockless
compiled_texts_are_clockless setup represents h = record { represents = represents; free = compiled_timeless setup represents.typed h }
