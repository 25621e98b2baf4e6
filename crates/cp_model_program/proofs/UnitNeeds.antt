-- A compiled unit needs little more than it takes by the meaning.
use Rattle.std.proofs.Common.{◌≡◌, ◌≤◌, ◌<◌, ℕ, zero, suc, ◌+◌, List, [], ◌∷◌, Option, Some, None, refl, ap, sym, subst, ◌∙◌, slice_get, length, arith}
use Rattle.cp_model.specs.Abstract as a
use Rattle.cp_model.specs.Abstract.{Class, Monitor, Name, Process, Routine, Sort, Statement, System}
use Rattle.cp_model.specs.Calls.{Callee, callee}
use Rattle.cp_model.specs.Components.{Component}
use Rattle.cp_model.specs.Declarations.{declarations}
use Rattle.cp_model.specs.Environments.{Environment}
use Rattle.cp_model.specs.Locations.{OfProcess, root}
use Rattle.cp_model.specs.Types.{GlobalScope}
use Rattle.cp_law_typing.specs.Judgement.{Called, Initialises, MayBeCalled, Place, TypedStatement}
use Rattle.cp_law_typing.specs.Needs.{call_need, in_statement, of_body, start_need, statement_need}
use Rattle.cp_model_program.specs.Terms.{Argument, Target}
use Rattle.cp_model_program.specs.Programs.{CodeUnit, Operation, Program}
use Rattle.cp_model_program.specs.Sites.{BodyOf, RoutineOf, UnitText, system_of_callee}
use Rattle.cp_model_program.specs.Layout.{capped, most_arguments}
use Rattle.cp_model_program.specs.Scopes.{Scope, body_of, environment, environment_at, target_of, unit_of}
use Rattle.cp_model_program.specs.CodeNeeds.{Need, need_of, need_of_all, need_of_call, no_need}
use Rattle.cp_model_program.specs.CodedTerms.{CodedArguments, call_of}
use Rattle.cp_model_program.specs.CodedStatements.{init_call, init_operation}
use Rattle.cp_model_program.specs.Compile.{unit_code}
use Rattle.cp_model_program.proofs.CallsRepresent.{callee_of}
use Rattle.cp_model_program.proofs.NeedsWithin as needs
use Rattle.cp_model_program.proofs.Representing.{InitRepresents, Representing, UnitThere, place_at, takes}

-- The system types have few parameters.
abbrev pub Short : GlobalScope → List System → Type 0
Short g systems = (i : ℕ) (s : System) → slice_get systems i ≡ Some s → suc (length (declarations g s.parameters)) ≤ most_arguments

earlier_less : (us : List CodeUnit) (n : ℕ) (u : CodeUnit) → slice_get us n ≡ Some u → n < length us
earlier_less [] n u h = absurd (cc)
earlier_less (v ∷ us) zero u h = omega arith
earlier_less (v ∷ us) (suc n) u h = let rest = earlier_less us n u h in omega (arith, rest)

module _ (scope : Scope) (program : Program) (texts : List UnitText) (before : List CodeUnit) (systems : List System) (routines : ℕ)
    (standing : Representing scope program texts before systems routines) (short : Short scope.globals systems)
    (same : environment_at scope (root (OfProcess 0)) (OfProcess 0) ≡ environment scope) where
  abbrev g : GlobalScope
  g = scope.globals

  abbrev p : Environment → Place
  p e = record { env = e; systems = systems; routines = routines }

  need_is : (words temps n : ℕ) (xs : List Argument) (t : Target) (u : CodeUnit) → slice_get before n ≡ Some u
      → (need_of_call before (record { routine = n; target = t; arguments = xs; words = words; temps = temps })).words ≤ words + u.words
  need_is words temps n xs t u h =
      subst (λ (o : Option CodeUnit). (elim o as (λ z. Need) [ None ↦ no_need | Some v ↦ record { words = capped (words + v.words); temps = temps + v.temps; frames = 1 + v.frames } ]).words ≤ words + u.words)
      (sym h) (omega arith)

  may_be : (r : Routine) (of : Option Component) → MayBeCalled (p (environment scope)) r of → MayBeCalled (place_at scope systems routines (root (OfProcess 0)) (OfProcess 0)) r of
  may_be r None h = h
  may_be r (Some n) h = h

  takes_called : (of : Option Component) (r : Routine) (d : ℕ)
      → takes g d (RoutineOf (system_of_callee (environment_at scope (root (OfProcess 0)) (OfProcess 0)) of) r) ≡ call_need d g scope.system (record { routine = r; of = of })
  takes_called None r d = refl
  takes_called (Some n) r d = refl

  calls_little : (d : ℕ) → length before ≤ d
      → needs.CallsLittle before scope systems routines (scope.words + most_arguments) (call_need d g scope.system) (start_need d g)
  calls_little d deep e c es xs low means called =
      let there : UnitThere g program texts before (unit_of scope c) (RoutineOf (system_of_callee (environment_at scope (root (OfProcess 0)) (OfProcess 0)) c.of) c.routine) =
      standing.units (root (OfProcess 0)) (OfProcess 0) c.routine c.of (λ n is. callee_of (environment scope) e c n means is) (may_be c.routine c.of called.may) in
      let less = earlier_less before (unit_of scope c) there.unit there.earlier in
      let little = there.little d (omega (arith, less, deep)) in
      let one = need_is scope.words low (unit_of scope c) xs (target_of (environment scope) c.of) there.unit there.earlier in
      let counted = takes_called c.of c.routine d in
      omega (arith, little, one, counted)

  init_here : (x : Name) (es : a.Expressions) (i : Initialises (p (environment scope)) x es) → InitRepresents scope program texts before i.component
  init_here x es =
      subst (λ e. (i : Initialises (p e) x es) → InitRepresents scope program texts before i.component) same (λ i. standing.inits (root (OfProcess 0)) (OfProcess 0) x es i)

  by : (n : Component) (unit words need : ℕ) (xs : CodedArguments) (low next : ℕ) → words ≤ need + most_arguments
      → (need_of_call before (init_call scope n xs low)).words ≤ scope.words + words → suc (length xs.arguments) ≤ most_arguments
      → (z : Sort) → (need_of before (init_operation scope n z xs low next)).words ≤ scope.words + most_arguments + of_body z need
  by n unit words need xs low next little one few Class = omega (arith, little, one, few)
  by n unit words need xs low next little one few Monitor = omega (arith, little, one, few)
  by n unit words need xs low next little one few Process = omega (arith, few)

  starts_little : (d : ℕ) → length before ≤ d
      → needs.StartsLittle before scope systems routines (scope.words + most_arguments) (call_need d g scope.system) (start_need d g)
  starts_little d deep x es i xs low next count =
      let facts = init_here x es i in
      let less = earlier_less before (body_of scope i.component) facts.body.unit facts.body.earlier in
      let little = facts.body.little d (omega (arith, less, deep)) in
      let one = need_is scope.words low (body_of scope i.component) xs.arguments (target_of (environment scope) (Some i.component)) facts.body.unit facts.body.earlier in
      let few = short i.place i.component.system i.defined in
      by i.component (body_of scope i.component) facts.body.unit.words (statement_need d g i.component.system None i.component.system.body) xs low next little one (omega (arith, few, count))
      i.component.system.sort

  -- ---- The unit

  pub unit_needs : (last : Operation) (s : Statement) (at : ℕ) → (need_of before last).words ≡ 0 → TypedStatement (p (environment scope)) s → (d : ℕ) → length before < d
      → (need_of_all before scope.words (unit_code scope last s at).operations).words ≤ scope.words + statement_need d g scope.system scope.routine s + most_arguments
  unit_needs last s at quiet typed zero less = absurd (omega (arith, less))
  unit_needs last s at quiet typed (suc d) less =
      let all = needs.statement before scope systems routines (scope.words + most_arguments) (call_need d g scope.system) (start_need d g) (calls_little d (omega (arith, less)))
      (starts_little d (omega (arith, less))) s 0 (suc at) at typed in
      let most = needs.all_within before (scope.words + most_arguments + statement_need (suc d) g scope.system scope.routine s) scope.words (unit_code scope last s at).operations (omega arith)
      (omega (arith, quiet), all) in
      omega (arith, most)
