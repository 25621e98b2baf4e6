-- The operations of an assignment represent it.
use Rattle.std.proofs.Common.{◌≡◌, ◌≤◌, inl, inr, ℕ, ℤ, List, [], ◌∷◌, ◌++◌, Option, Some, None, refl, ap, sym, subst, ◌∙◌, Bool, true, false, arith, if◌then◌else◌, ◌||◌}
use Rattle.std.proofs.lemmas.Bool.{true≢false}
use Rattle.cp_model.specs.Abstract as a
use Rattle.cp_model.specs.Abstract.{BaseType, Boolean, Char, Integer, Enumeration, Constant, Name, Plain, Routine, Sort, System}
use Rattle.cp_model.specs.Types.{ArrayOf, ComponentOf, GlobalScope, NoType, Queue, RecordOf, ResolvedType, Simple, base_of_type, constant_value}
use Rattle.cp_model.specs.Declarations.{is_component}
use Rattle.cp_model.specs.Environments.{Environment}
use Rattle.cp_model.specs.Integers.{same_integer}
use Rattle.cp_model.specs.Locations.{Location, Owner}
use Rattle.cp_model.specs.Calls.{callee}
use Rattle.cp_model.specs.StatementSteps.{has_label}
use Rattle.cp_law_typing.specs.Words.{words}
use Rattle.cp_law_typing.specs.Judgement.{Agree, IsSimple, Place, TypedExpression, TypedPlace, TypedStatement, has_queues, is_structured}
use Rattle.cp_law_typing.specs.StaticTypes.{expression_type, place_type}
use Rattle.cp_law_typing.proofs.Facts.{structured_values}
use Rattle.cp_model_program.specs.Programs as op
use Rattle.cp_model_program.specs.Programs.{Arm, CodeUnit, Operation, Program}
use Rattle.cp_model_program.specs.Sites.{IsNoClock, Site, UnitText}
use Rattle.cp_model_program.specs.TermsFor.{IsPlain, PlaceExpressionFor, TermFor, nothing_known}
use Rattle.cp_model_program.specs.StatementsFor.{CodeFor, NamesResult}
use Rattle.cp_model_program.specs.Tables.{arm_at}
use Rattle.cp_model_program.specs.Scopes.{Scope, environment}
use Rattle.cp_model_program.specs.CodedTerms.{CodedCall, coded_place_expression, coded_term, coded_variable}
use Rattle.cp_model_program.specs.CodedStatements.{arms_at, assign_by, high_of, is_result, low_of, store, with_calls}
use Rattle.cp_model_program.proofs.Environments.{environment_at, place_type_same}
use Rattle.cp_model_program.proofs.Fits.{AllBelow, below_split, place_expression_fits, term_fits}
use Rattle.cp_model_program.proofs.NamesRepresent.{uncalled_is_no_result}
use Rattle.cp_model_program.proofs.OperationsRepresent.{AllRepresent, WithCalls, with_calls_represent}
use Rattle.cp_model_program.proofs.ResultRepresent.{result_represents}
use Rattle.cp_model_program.proofs.Representing.{Chained, Representing, place_at, split}
use Rattle.cp_model_program.proofs.Temps.{place_expression_grows}
use Rattle.cp_model_program.proofs.TermsRepresent.{place_expression_represents, term_represents}

-- ---- Arms

pub arm_of : (g : GlobalScope) (place : ℕ) (ls : List Constant) (rest : List Arm) (n : ℤ)
    → arm_at (arms_at g place ls rest) n ≡ (if has_label g n ls then Some place else arm_at rest n)
arm_of g place [] rest n = refl
arm_of g place (c ∷ cs) rest n = go (constant_value g c) (arm_of g place cs rest n)
  where
    go : (v : Option (BaseType × ℤ)) → arm_at (arms_at g place cs rest) n ≡ (if has_label g n cs then Some place else arm_at rest n)
        → arm_at (elim v [ None ↦ arms_at g place cs rest | Some b ↦ record { label = b.1; place = place } ∷ arms_at g place cs rest ]) n
        ≡ (if (elim v [ None ↦ has_label g n cs | Some b ↦ same_integer b.1 n || has_label g n cs ]) then Some place else arm_at rest n)
    go None h = h
    go (Some b) h = by (same_integer b.1 n)
      where
        by : (s : Bool) → (if s then Some place else arm_at (arms_at g place cs rest) n) ≡ (if s || has_label g n cs then Some place else arm_at rest n)
        by true = refl
        by false = h

module _ (scope : Scope) (program : Program) (texts : List UnitText) (systems : List System) (routines : ℕ) (before : List CodeUnit) (unit : CodeUnit) (at : Location) (o : Owner)
    (standing : Representing scope program texts before systems routines) where
  abbrev env : Environment
  env = environment_at scope at o

  abbrev p : Place
  p = place_at scope systems routines at o

  abbrev site : Site
  site = record { program = program; texts = texts; env = env; unit = unit; words = scope.words }

  abbrev Chain : List CodedCall → ℕ → ℕ → Type 0
  Chain = Chained scope program texts before unit

  abbrev Represent : List Operation → ℕ → Type 0
  Represent = AllRepresent scope program texts before unit

  abbrev With : List CodedCall → Operation → ℕ → Type 0
  With = WithCalls scope program texts before unit

  pub term_at : (e : a.Expression) (low place next : ℕ) → TypedExpression p e → IsSimple (expression_type env e) → low ≤ unit.temps
      → Chain (coded_term scope e low).calls place next → AllBelow unit.temps (coded_term scope e low).calls
      → TermFor site nothing_known e (coded_term scope e low).term (base_of_type (expression_type env e)) place next low unit.temps
  term_at e low place next t simple fits chain below =
      term_represents scope program texts systems routines before unit at o standing nothing_known e low place next unit.temps t simple chain (term_fits unit.temps scope e low fits below)

  pub place_expression_at : (d : a.Designator) (low place next high : ℕ) → TypedPlace p d → is_result scope d ≡ false → is_component (place_type env d) ≡ false
      → Chain (coded_place_expression scope d low).calls place next → (coded_place_expression scope d low).temps ≤ high
      → PlaceExpressionFor site nothing_known d (coded_place_expression scope d low).place_expression (place_type env d) place next low high
  place_expression_at = place_expression_represents scope program texts systems routines before unit at o standing nothing_known

  -- ---- Assignments

  sets_result : (d : a.Designator) (e : a.Expression) (low place next : ℕ) → TypedStatement p (a.Assign d e) → is_result scope d ≡ true → low ≤ unit.temps
      → Represent (assign_by scope d e low place next true).operations place
      → CodeFor site nothing_known (a.Assign d e) (assign_by scope d e low place next true).entry next low
  sets_result (a.Part d x) e low place next t is fits represent = absurd (true≢false (sym is))
  sets_result (a.At d i) e low place next t is fits represent = absurd (true≢false (sym is))
  sets_result (a.Plain x) e low place next t is fits represent =
      let type = place_type (environment scope) (Plain x) in
      let c = coded_term scope e low in
      let w = with_calls_represent scope program texts before unit c.calls (op.SetResult (low_of type) (high_of type) c.term next) place represent in
      let r = result_represents scope at o x standing.running is in
      let same : place_type (environment scope) (Plain x) ≡ place_type env (Plain x) = place_type_same scope at o (Plain x) in (
        place,
        op.SetResult (low_of type) (high_of type) c.term next,
        w.there,
        (
          base_of_type (expression_type env e),
          refl,
          subst (λ z. NamesResult env x (low_of z) (high_of z)) (sym same) r.names,
          term_at e low _ place t.1 (simple_side (place_type env (Plain x)) (expression_type env e) r.simple t.2) fits w.chain w.below,
        ),
      )
    where
      simple_side : (t u : ResolvedType) → IsSimple t → Agree t u → IsSimple u
      simple_side t u s (inl k) = (k.0, k.2)
      simple_side t u s (inr k) = absurd (true≢false (sym k.1 ∙ ap is_structured s.1.is))

  pub no_component : (t : ResolvedType) → is_structured t ≡ true → is_component t ≡ false
  no_component (ArrayOf lower upper t) h = refl
  no_component (RecordOf ms) h = refl
  no_component (Simple b lower upper start) h = refl
  no_component Queue h = refl
  no_component (ComponentOf r inner) h = absurd (true≢false (sym h))
  no_component NoType h = refl

  pub is_no_clock : (d : a.Designator) → TypedPlace p d → IsNoClock d
  is_no_clock (a.Plain x) t = standing.no_clock at o x t
  is_no_clock (a.Part d x) t = tt
  is_no_clock (a.At d e) t = tt

  pub uncalled : (d : a.Designator) → callee env d ≡ None → is_result scope d ≡ false
  uncalled (a.Plain x) h = uncalled_is_no_result scope at o x standing.running h
  uncalled (a.Part d x) h = refl
  uncalled (a.At d e) h = refl

  -- a simple value
  sets : (d : a.Designator) (e : a.Expression) (b : BaseType) (lower upper start : ℤ) (low place next : ℕ) → TypedPlace p d → TypedExpression p e
      → place_type env d ≡ Simple b lower upper start → IsSimple (expression_type env e) → is_result scope d ≡ false → low ≤ unit.temps
      → (let to = coded_place_expression scope d low in let c = coded_term scope e to.temps in
      With (to.calls ++ c.calls) (op.Set to.place_expression lower upper c.term next) place
      → CodeFor site nothing_known (a.Assign d e) (with_calls (to.calls ++ c.calls) (op.Set to.place_expression lower upper c.term next) place).entry next low)
  sets d e b lower upper start low place next td te type simple no_result fits w =
      let to = coded_place_expression scope d low in
      let c = coded_term scope e to.temps in
      let first = (with_calls (to.calls ++ c.calls) (op.Set to.place_expression lower upper c.term next) place).entry in
      let k = split scope program texts before unit to.calls c.calls first place w.chain in
      let both = below_split unit.temps to.calls c.calls w.below in
      let room : to.temps ≤ unit.temps = place_expression_fits unit.temps scope d low fits both.0 in (
        place,
        op.Set to.place_expression lower upper c.term next,
        w.there,
        (
          b,
          base_of_type (expression_type env e),
          start,
          k.0,
          to.temps,
          refl,
          place_expression_grows scope d low,
          room,
          subst (λ z. PlaceExpressionFor site nothing_known d to.place_expression z first k.0 low to.temps) type (place_expression_at d low first k.0 to.temps td no_result (ap is_component type) k.1 (omega arith)),
          term_at e to.temps k.0 place te simple room k.2 both.1,
        ),
      )

  -- an array or a record
  copies : (d f : a.Designator) (t : ResolvedType) (low place next : ℕ) → TypedPlace p d → TypedPlace p f → callee env f ≡ None → place_type env d ≡ t → place_type env f ≡ t
      → is_structured t ≡ true → has_queues t ≡ false → is_result scope d ≡ false → low ≤ unit.temps
      → (let to = coded_place_expression scope d low in let from = coded_place_expression scope f to.temps in
      With (to.calls ++ from.calls) (op.CopyWords to.place_expression from.place_expression (words scope.globals t) next) place
      → CodeFor site nothing_known (a.Assign d (a.Use f)) (with_calls (to.calls ++ from.calls) (op.CopyWords to.place_expression from.place_expression (words scope.globals t) next) place).entry next low)
  copies d f t low place next td tf none dt ft structure queues no_result fits w =
      let to = coded_place_expression scope d low in
      let from = coded_place_expression scope f to.temps in
      let first = (with_calls (to.calls ++ from.calls) (op.CopyWords to.place_expression from.place_expression (words scope.globals t) next) place).entry in
      let k = split scope program texts before unit to.calls from.calls first place w.chain in
      let both = below_split unit.temps to.calls from.calls w.below in
      let room : to.temps ≤ unit.temps = place_expression_fits unit.temps scope d low fits both.0 in (
        place,
        op.CopyWords to.place_expression from.place_expression (words scope.globals t) next,
        w.there,
        (
          t,
          k.0,
          to.temps,
          refl,
          place_expression_grows scope d low,
          room,
          ((subst IsPlain dt (standing.plain at o d td (ap is_structured dt ∙ structure) (ap has_queues dt ∙ queues))).0, queues, structure),
          refl,
          none,
          is_no_clock f tf,
          subst (λ z. PlaceExpressionFor site nothing_known d to.place_expression z first k.0 low to.temps) dt
              (place_expression_at d low first k.0 to.temps td no_result (no_component (place_type env d) (ap is_structured dt ∙ structure)) k.1 (omega arith)),
          subst (λ z. PlaceExpressionFor site nothing_known f from.place_expression z k.0 place to.temps unit.temps) ft
              (place_expression_at f to.temps k.0 place unit.temps tf (uncalled f none) (no_component (place_type env f) (ap is_structured ft ∙ structure)) k.2 (place_expression_fits unit.temps scope f to.temps room both.1)),
        ),
      )

  abbrev StoreRepresents : a.Designator → a.Expression → ℕ → ℕ → ℕ → ResolvedType → Type 0
  StoreRepresents d e low place next t =
      let to = coded_place_expression scope d low in
      Represent (store scope.globals t to (coded_term scope e to.temps) (coded_variable scope e to.temps) place next).operations place
      → CodeFor site nothing_known (a.Assign d e) (store scope.globals t to (coded_term scope e to.temps) (coded_variable scope e to.temps) place next).entry next low

  copy_represents : (d : a.Designator) (e : a.Expression) (low place next : ℕ) (t : ResolvedType) → place_type env d ≡ t → TypedPlace p d → TypedExpression p e → Agree t (expression_type env e)
      → has_queues t ≡ false → is_result scope d ≡ false → low ≤ unit.temps → is_structured t ≡ true
      → (let to = coded_place_expression scope d low in let s = coded_variable scope e to.temps in
      Represent (with_calls (to.calls ++ s.calls) (op.CopyWords to.place_expression s.place_expression (words scope.globals t) next) place).operations place
      → CodeFor site nothing_known (a.Assign d e) (with_calls (to.calls ++ s.calls) (op.CopyWords to.place_expression s.place_expression (words scope.globals t) next) place).entry next low)
  copy_represents d e low place next t type td te (inl k) queues no_result fits structure represent = absurd (true≢false (sym structure ∙ ap is_structured k.1.is))
  copy_represents d e low place next t type td te (inr same) queues no_result fits structure represent =
      let to = coded_place_expression scope d low in
      let k = structured_values p e te (sym (ap is_structured same.0) ∙ structure) in
      subst (λ z. Represent (with_calls (to.calls ++ (coded_variable scope z to.temps).calls) (op.CopyWords to.place_expression (coded_variable scope z to.temps).place_expression (words scope.globals t) next) place).operations place
      → CodeFor site nothing_known (a.Assign d z) (with_calls (to.calls ++ (coded_variable scope z to.temps).calls) (op.CopyWords to.place_expression (coded_variable scope z to.temps).place_expression (words scope.globals t) next) place).entry next low)
      (sym k.1)
      (λ represent.
      let from = coded_place_expression scope k.0 to.temps in
      copies d k.0 t low place next td k.3 k.2 type (k.4 ∙ sym same.0) structure queues no_result fits
      (with_calls_represent scope program texts before unit (to.calls ++ from.calls) (op.CopyWords to.place_expression from.place_expression (words scope.globals t) next) place represent))
      represent

  store_represents : (d : a.Designator) (e : a.Expression) (low place next : ℕ) (t : ResolvedType) → place_type env d ≡ t → TypedPlace p d → TypedExpression p e → Agree t (expression_type env e)
      → has_queues t ≡ false → is_result scope d ≡ false → low ≤ unit.temps → StoreRepresents d e low place next t
  store_represents d e low place next (Simple b lower upper start) type td te (inr same) queues no_result fits represent = absurd (true≢false (sym same.1))
  store_represents d e low place next (Simple b lower upper start) type td te (inl k) queues no_result fits represent =
      let to = coded_place_expression scope d low in
      let c = coded_term scope e to.temps in
      sets d e b lower upper start low place next td te type (k.0, k.2) no_result fits
      (with_calls_represent scope program texts before unit (to.calls ++ c.calls) (op.Set to.place_expression lower upper c.term next) place represent)
  store_represents d e low place next (ArrayOf lower upper t) type td te agree queues no_result fits represent =
      copy_represents d e low place next (ArrayOf lower upper t) type td te agree queues no_result fits refl represent
  store_represents d e low place next (RecordOf ms) type td te agree queues no_result fits represent =
      copy_represents d e low place next (RecordOf ms) type td te agree queues no_result fits refl represent
  store_represents d e low place next Queue type td te agree queues no_result fits represent = absurd (true≢false queues)
  store_represents d e low place next (ComponentOf r inner) type td te (inl k) queues no_result fits represent = absurd (cc (k.1.is))
  store_represents d e low place next (ComponentOf r inner) type td te (inr k) queues no_result fits represent = absurd (true≢false (sym k.1))
  store_represents d e low place next NoType type td te (inl k) queues no_result fits represent = absurd (cc (k.1.is))
  store_represents d e low place next NoType type td te (inr k) queues no_result fits represent = absurd (true≢false (sym k.1))

  pub assign_represents : (d : a.Designator) (e : a.Expression) (low place next : ℕ) (b : Bool) → is_result scope d ≡ b → TypedStatement p (a.Assign d e) → low ≤ unit.temps
      → Represent (assign_by scope d e low place next b).operations place
      → CodeFor site nothing_known (a.Assign d e) (assign_by scope d e low place next b).entry next low
  assign_represents d e low place next true is t fits represent = sets_result d e low place next t is fits represent
  assign_represents d e low place next false is t fits represent =
      subst (StoreRepresents d e low place next) (sym (place_type_same scope at o d))
      (store_represents d e low place next (place_type env d) refl t.0 t.1 t.2 t.4 is fits) represent
