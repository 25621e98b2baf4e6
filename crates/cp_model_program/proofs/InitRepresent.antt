-- The compiled arguments of an `init` are passed to the parameters of the component.
use Rattle.std.proofs.Common.{◌≡◌, ◌≤◌, inl, inr, ℕ, ℤ, List, [], ◌∷◌, Option, Some, None, refl, ap, sym, subst, ◌∙◌, Bool, true, false, arith, if◌then◌else◌, bytes_eq}
use Rattle.std.proofs.lemmas.Bool.{true≢false}
use Rattle.cp_model.specs.Abstract as a
use Rattle.cp_model.specs.Abstract.{Name, Sort, System}
use Rattle.cp_model.specs.Names.{lookup}
use Rattle.cp_model.specs.Types.{ArrayOf, ComponentOf, Members, NoType, Queue, RecordOf, ResolvedType, Simple, base_of_type}
use Rattle.cp_model.specs.Declarations.{Variable, declarations, is_component}
use Rattle.cp_model.specs.Environments.{Environment, permanent_variables}
use Rattle.cp_model.specs.Locations.{Location, Owner}
use Rattle.cp_model.specs.Calls.{callee, is_local, own_routine}
use Rattle.cp_model.specs.Components.{Component, component_named}
use Rattle.cp_law_typing.specs.Judgement.{AllInitFit, InitFits, IsComponentArgument, Place}
use Rattle.cp_law_typing.specs.Declared.{Distinct, Each, MayBePassed, SystemParameter}
use Rattle.cp_law_typing.specs.StaticTypes.{expression_type}
use Rattle.cp_law_typing.proofs.Names.{bytes_eq-refl, bytes_same, lookup_first, lookup_later}
use Rattle.cp_model_program.specs.Terms.{Argument}
use Rattle.cp_model_program.specs.Programs.{CodeUnit, Program}
use Rattle.cp_model_program.specs.Layout.{rights}
use Rattle.cp_model_program.specs.Sites.{Site, TargetFor, UnitText}
use Rattle.cp_model_program.specs.TermsFor.{Knowns}
use Rattle.cp_model_program.specs.StatementsFor.{InitArgumentsFor}
use Rattle.cp_model_program.specs.Scopes.{Scope, environment, part_start, right_start, target_of}
use Rattle.cp_model_program.specs.CodedTerms.{CodedCall, coded_term, init_argument, init_arguments}
use Rattle.cp_model_program.proofs.Environments.{environment_at}
use Rattle.cp_model_program.proofs.Found.{kept_found, parameter_is_member, right_found}
use Rattle.cp_model_program.proofs.Fits.{AllBelow, below_split, term_fits}
use Rattle.cp_model_program.proofs.Representing.{Chained, Representing, place_at, split}
use Rattle.cp_model_program.proofs.Temps.{term_grows}
use Rattle.cp_model_program.proofs.TermsRepresent.{term_represents}
use Rattle.cp_law_typing.proofs.ComponentNames.{IsNamed, is_named}
use Rattle.cp_model_program.proofs.CallsRepresent.{named_target}

-- ---- Temps

argument_grows : (scope : Scope) (s : System) (x : Name) (b : Bool) (t : ResolvedType) (e : a.Expression) (low : ℕ)
    → low ≤ (init_argument scope s (x, record { by_reference = b; type = t }) e low).temps
argument_grows scope s x b (Simple c lower upper start) e low = term_grows scope e low
argument_grows scope s x b (ComponentOf r inner) e low = omega arith
argument_grows scope s x b (ArrayOf lower upper t) e low = omega arith
argument_grows scope s x b (RecordOf ms) e low = omega arith
argument_grows scope s x b Queue e low = omega arith
argument_grows scope s x b NoType e low = omega arith

pub init_grows : (scope : Scope) (s : System) (es : a.Expressions) (ps : List (Name × Variable)) (low : ℕ) → low ≤ (init_arguments scope s es ps low).temps
init_grows scope s a.NoExpression ps low = omega arith
init_grows scope s (a.MoreExpressions e es) [] low = omega arith
init_grows scope s (a.MoreExpressions e es) (q ∷ qs) low =
    let x = init_argument scope s q e low in
    omega (arith, argument_grows scope s q.0 q.1.by_reference q.1.type e low, init_grows scope s es qs x.temps)

argument_fits : (m : ℕ) (scope : Scope) (s : System) (x : Name) (b : Bool) (t : ResolvedType) (e : a.Expression) (low : ℕ) → low ≤ m
    → AllBelow m (init_argument scope s (x, record { by_reference = b; type = t }) e low).calls
    → (init_argument scope s (x, record { by_reference = b; type = t }) e low).temps ≤ m
argument_fits m scope s x b (Simple c lower upper start) e low h all = term_fits m scope e low h all
argument_fits m scope s x b (ComponentOf r inner) e low h all = h
argument_fits m scope s x b (ArrayOf lower upper t) e low h all = h
argument_fits m scope s x b (RecordOf ms) e low h all = h
argument_fits m scope s x b Queue e low h all = h
argument_fits m scope s x b NoType e low h all = h

pub init_fits : (m : ℕ) (scope : Scope) (s : System) (es : a.Expressions) (ps : List (Name × Variable)) (low : ℕ) → low ≤ m
    → AllBelow m (init_arguments scope s es ps low).calls → (init_arguments scope s es ps low).temps ≤ m
init_fits m scope s a.NoExpression ps low h all = h
init_fits m scope s (a.MoreExpressions e es) [] low h all = h
init_fits m scope s (a.MoreExpressions e es) (q ∷ qs) low h all =
    let x = init_argument scope s q e low in
    let both = below_split m x.calls (init_arguments scope s es qs x.temps).calls all in
    init_fits m scope s es qs x.temps (argument_fits m scope s q.0 q.1.by_reference q.1.type e low h both.0) both.1

-- ---- Parameters

-- Each of a list of distinct names is found.
abbrev pub AllFound : List (Name × Variable) → List (Name × Variable) → Type 0
AllFound all vs = Each (λ v. lookup v.0 all ≡ Some v.1) vs

found_behind : (w : Name × Variable) (all vs : List (Name × Variable)) → lookup w.0 vs ≡ None → Distinct vs → AllFound all vs → AllFound (w ∷ all) vs
found_behind w all [] none d h = tt
found_behind w all (v ∷ vs) none d h =
    (here (bytes_eq v.0 w.0) refl, found_behind w all vs (later (bytes_eq w.0 v.0) none) d.1 h.1)
  where
    later : (b : Bool) → (if b then Some v.1 else lookup w.0 vs) ≡ None → lookup w.0 vs ≡ None
    later true h = absurd (cc)
    later false h = h

    here : (b : Bool) → bytes_eq v.0 w.0 ≡ b → (if bytes_eq v.0 w.0 then Some w.1 else lookup v.0 all) ≡ Some v.1
    here true is =
        absurd (cc (
          none,
          ap (λ b. if b then Some v.1 else lookup w.0 vs) (ap (λ z. bytes_eq z v.0) (sym (bytes_same v.0 w.0 is)) ∙ bytes_eq-refl v.0),
        ))
    here false is = ap (λ b. if b then Some w.1 else lookup v.0 all) is ∙ h.0

pub all_found : (vs : List (Name × Variable)) → Distinct vs → AllFound vs vs
all_found [] d = tt
all_found (v ∷ vs) d =
    (ap (λ b. if b then Some v.1 else lookup v.0 vs) (bytes_eq-refl v.0), found_behind v vs vs d.0 d.1 (all_found vs d.1))

-- ---- Arguments

module _ (scope : Scope) (program : Program) (texts : List UnitText) (systems : List System) (routines : ℕ) (before : List CodeUnit) (unit : CodeUnit) (at : Location) (o : Owner)
    (standing : Representing scope program texts before systems routines) (K : Knowns) (s : System) (defined : List System) where
  abbrev env : Environment
  env = environment_at scope at o

  abbrev p : Place
  p = place_at scope systems routines at o

  abbrev site : Site
  site = record { program = program; texts = texts; env = env; unit = unit; words = scope.words }

  abbrev Chain : List CodedCall → ℕ → ℕ → Type 0
  Chain = Chained scope program texts before unit

  pub record NamedArgument (r : System) (e : a.Expression) : Type 0 where
    pub name : Name
    pub is : e ≡ a.Use (a.Plain name)
    pub component : Component
    pub named : component_named env name ≡ Some component
    pub system : component.system ≡ r

  named_argument : (r : System) (e : a.Expression) → IsComponentArgument env r e → NamedArgument r e
  named_argument r (a.Use (a.Plain x)) h = record { name = x; is = refl; component = h.1; named = h.2; system = h.3 }
  named_argument r (a.Use (a.Part d x)) h = absurd h
  named_argument r (a.Use (a.At d e)) h = absurd h
  named_argument r (a.Literal n) h = absurd h
  named_argument r (a.Letter n) h = absurd h
  named_argument r (a.Known c n) h = absurd h
  named_argument r (a.Call d es) h = absurd h
  named_argument r (a.Not e) h = absurd h
  named_argument r (a.Negative e) h = absurd h
  named_argument r (a.Positive e) h = absurd h
  named_argument r (a.Binary q e f) h = absurd h

  -- The name of a component isn't a call: no routine has it.
  not_called : (x : Name) (n : Component) → component_named env x ≡ Some n → callee env (a.Plain x) ≡ None
  not_called x n h = ap (λ r. elim r [ None ↦ None | Some q ↦ Some (record { routine = q; of = None }) ]) (own (is_local env.globals env.frame x))
    where
      k : IsNamed env x n
      k = is_named env x n h

      in_both : (q : Option Variable) → lookup x (declarations scope.globals scope.system.parameters) ≡ q → (b : Bool) → n.is_parameter ≡ b
          → (v : Variable) × (lookup x (permanent_variables scope.globals scope.system) ≡ Some v)
      in_both (Some v) found b is = (v, lookup_first x (declarations scope.globals scope.system.parameters) (declarations scope.globals scope.system.variables) v found)
      in_both None none true is = absurd (cc (none, k.parameter is))
      in_both None none false is =
          (k.variable, lookup_later x (declarations scope.globals scope.system.parameters) (declarations scope.globals scope.system.variables) none ∙ k.own is)

      own : (b : Bool) → own_routine b x scope.system ≡ None
      own true = refl
      own false = let v = in_both (lookup x (declarations scope.globals scope.system.parameters)) refl n.is_parameter refl in standing.no_routine x v.0 v.1

  passed_is_no_process : (sort of : Sort) → MayBePassed sort (Some of) → of ≡ a.Process → ⊥
  passed_is_no_process sort of (inl h) is = absurd (cc)
  passed_is_no_process sort of (inr h) is = absurd (cc (h.1))

  abbrev Goal : Name → Variable → a.Expression → ℕ → ℕ → ℕ → ℕ → ℕ → List (Name × Variable) → a.Expressions → List Argument → Type 0
  Goal x v e low place between next high ps es xs =
      let c = init_argument scope s (x, v) e low in
      Chain c.calls place between → c.temps ≤ high → InitArgumentsFor site K s ps es xs between next c.temps high
      → InitArgumentsFor site K s ((x, v) ∷ ps) (a.MoreExpressions e es) (c.argument ∷ xs) place next low high

  module _ (x : Name) (b : Bool) (e : a.Expression) (low place between next high : ℕ) (ps : List (Name × Variable)) (es : a.Expressions) (xs : List Argument) where
    abbrev v_of : ResolvedType → Variable
    v_of t = record { by_reference = b; type = t }

    value_represents : (c : a.BaseType) (lower upper start : ℤ) → lookup x (declarations scope.globals s.parameters) ≡ Some (v_of (Simple c lower upper start))
        → InitFits p (Simple c lower upper start) e → Goal x (v_of (Simple c lower upper start)) e low place between next high ps es xs
    value_represents c lower upper start found fits chain room rest = elim fits.1 [
      | inr same ↦ absurd (true≢false (sym same.1))
      | inl k ↦
          let t : ResolvedType = Simple c lower upper start in
          let m = parameter_is_member scope.globals s x (v_of t) found refl in (
            base_of_type (expression_type env e),
            start,
            between,
            (coded_term scope e low).temps,
            m.1 ∙ ap (λ z. Some (z, t)) (sym (ap part_start m.1)),
            ap (λ z. Simple z lower upper start) (ap base_of_type k.1.is ∙ sym (ap base_of_type k.2.is)),
            term_grows scope e low,
            room,
            term_represents scope program texts systems routines before unit at o standing K e low place between (coded_term scope e low).temps fits.0 (k.0, k.2) chain (omega arith),
            rest,
          )
    ]

    right_represents : (r : System) (inner : Members) (sort : Sort) → lookup x (declarations scope.globals s.parameters) ≡ Some (v_of (ComponentOf r inner))
        → MayBePassed sort (Some r.sort) → InitFits p (ComponentOf r inner) e → Goal x (v_of (ComponentOf r inner)) e low place between next high ps es xs
    right_represents r inner sort found passed fits =
        let k : NamedArgument r e = named_argument r e fits in
        subst (λ z. Goal x (v_of (ComponentOf r inner)) z low place between next high ps es xs) (sym k.is) (λ chain room rest.
        let m = right_found scope.globals x 1 (rights scope.globals s) (v_of (ComponentOf r inner))
        (kept_found x (λ v. is_component v.1.type) (declarations scope.globals s.parameters) (v_of (ComponentOf r inner)) found (λ y. refl)) in
        let target : TargetFor env (Some k.component) (target_of (environment scope) (Some k.component)) =
        named_target scope at o standing.distinct standing.reported k.name k.component k.named
        (λ h. passed_is_no_process sort r.sort passed (sym (ap (λ z. z.sort) k.system) ∙ h)) in (
          k.component,
          inner,
          v_of (ComponentOf r inner),
          m.1 ∙ ap (λ z. Some (z, v_of (ComponentOf r inner))) (sym (ap right_start m.1)),
          ap (λ z. ComponentOf z inner) (sym k.system),
          k.named,
          subst (λ z. TargetFor env (Some k.component) (target_of (environment scope) z)) (sym k.named) target,
          not_called k.name k.component k.named,
          subst (λ z. InitArgumentsFor site K s ps es xs z next low high) (sym chain) rest,
        ))

    argument_represents : (t : ResolvedType) (sort : Sort) → lookup x (declarations scope.globals s.parameters) ≡ Some (v_of t)
        → SystemParameter scope.globals defined sort (x, v_of t) → InitFits p t e → Goal x (v_of t) e low place between next high ps es xs
    argument_represents (Simple c lower upper start) sort found h fits = value_represents c lower upper start found fits
    argument_represents (ComponentOf r inner) sort found h fits = elim h.1 [
      | inl k ↦ absurd (true≢false (ap is_component k.0.1.is))
      | inr k ↦ right_represents r inner sort found k.1 fits
    ]
    argument_represents (ArrayOf lower upper t) sort found h fits = elim h.1 [ inl k ↦ absurd (cc (k.0.1.is)) | inr k ↦ absurd k.0 ]
    argument_represents (RecordOf ms) sort found h fits = elim h.1 [ inl k ↦ absurd (cc (k.0.1.is)) | inr k ↦ absurd k.0 ]
    argument_represents Queue sort found h fits = elim h.1 [ inl k ↦ absurd (cc (k.0.1.is)) | inr k ↦ absurd k.0 ]
    argument_represents NoType sort found h fits = elim h.1 [ inl k ↦ absurd (cc (k.0.1.is)) | inr k ↦ absurd k.0 ]

  pub init_arguments_represent : (es : a.Expressions) (ps : List (Name × Variable)) (sort : Sort) (low place next high : ℕ)
      → AllFound (declarations scope.globals s.parameters) ps → Each (SystemParameter scope.globals defined sort) ps → AllInitFit p ps es
      → Chain (init_arguments scope s es ps low).calls place next → (init_arguments scope s es ps low).temps ≤ high
      → InitArgumentsFor site K s ps es (init_arguments scope s es ps low).arguments place next low high
  init_arguments_represent a.NoExpression [] sort low place next high found each fit chain room = chain
  init_arguments_represent a.NoExpression (q ∷ qs) sort low place next high found each fit chain room = absurd fit
  init_arguments_represent (a.MoreExpressions e es) [] sort low place next high found each fit chain room = absurd fit
  init_arguments_represent (a.MoreExpressions e es) (q ∷ qs) sort low place next high found each fit chain room =
      let x = init_argument scope s q e low in
      let others = init_arguments scope s es qs x.temps in
      let k = split scope program texts before unit x.calls others.calls place next chain in
      argument_represents q.0 q.1.by_reference e low place k.0 next high qs es others.arguments q.1.type sort found.0 each.0 fit.0 k.1
      (omega (arith, init_grows scope s es qs x.temps, room))
      (init_arguments_represent es qs sort x.temps k.0 next high found.1 each.1 fit.1 k.2 room)
