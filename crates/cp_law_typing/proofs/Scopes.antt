-- What a body and a routine see: the layers of names, and so everything that statements need.
use Rattle.std.proofs.Common.{◌≡◌, ℕ, Bool, true, false, not, List, [], ◌∷◌, ◌++◌, Option, Some, None, if◌then◌else◌, slice_get, refl, ap, sym, subst, ◌∙◌, bytes_eq, is_some}
use Rattle.std.specs.Option.{option_or}
use Rattle.std.proofs.lemmas.Bool.{true≢false}
use Rattle.cp_model.specs.Abstract as a
use Rattle.cp_model.specs.declared.rules.Access.{Access}
use Rattle.cp_model.specs.declared.rules.Entity.{Entity}
use Rattle.cp_model.specs.declared.rules.Entity.TheVariants as entity
use Rattle.cp_model.specs.declared.rules.Returns.TheVariants as returns
use Rattle.cp_model.specs.declared.rules.RoutineRow.{RoutineRow}
use Rattle.cp_model.specs.RulesEnvironment.{Environment, Names, Text}
use Rattle.cp_model.specs.RulesDeclarations.{parameter_access}
use Rattle.cp_model.specs.RulesNames.{is_changeable}
use Rattle.cp_model.specs.Types.{GlobalScope, Members, ComponentOf, ResolvedType, named_type, or_no_type}
use Rattle.cp_model.specs.Declarations.{Variable, declarations, is_component}
use Rattle.cp_model.specs.Locations.{ByName, Location}
use Rattle.cp_model.specs.Environments.{Frame, IsVariable, Meaning, constant_or_unknown, local_or, local_variables, meaning, permanent_variables, result_variable, variable_or}
use Rattle.cp_model.specs.Calls.{is_local}
use Rattle.cp_model.specs.Names.{lookup}
use Rattle.cp_law_typing.specs.StaticTypes.{is_clock, place_type, place_type_meant}
use Rattle.cp_law_typing.specs.Judgement.{IsChangeable, Place, TypedPlace, frame_parameters, has_queues, is_value_parameter}
use Rattle.cp_law_typing.proofs.Names.{AllDistinct, keys, lookup-append, lookup_first, lookup_later}
use Rattle.cp_law_typing.proofs.TableMeanings.{NamesAs, ReturnsAs, Tables, TypeAt, Types}
use Rattle.cp_law_typing.proofs.Visible.{EntityAs, RegionAs, ResultAs, Visible, some_same}
use Rattle.cp_law_typing.proofs.Layers.{none_apart, Layers, entities, later_distinct, not_clock}
use Rattle.cp_law_typing.proofs.LayerNames.{FoundAs, VariablesAs, variable_found, variable_none, Outside, local_here, own_parameters, own_variables}

module _ (G : GlobalScope → Type 0) (env : Environment) (rs : Types) (p : Place) where
  -- everything but the names
  pub record Surroundings : Type 0 where
    pub globals : NamesAs G rs env.names
    pub tables : Tables G env rs
    pub systems : (t : ℕ) (y : a.System) (inner : Members) → TypeAt rs t (ComponentOf y inner) → (i : ℕ) × (slice_get p.systems i ≡ Some y)
    pub region : RegionAs G env rs p

  -- ---- a body

  body_outside : p.env.frame ≡ None → (z : Text) → Outside G env rs p z
  body_outside frame z = record {
    local = λ m. ap (λ f. local_or p.env.globals f z m) frame;
    not_local = ap (λ f. is_local p.env.globals f z) frame;
    no_parameter = ap (λ f. lookup z (frame_parameters p.env.globals f)) frame;
  }

  pub body_visible : p.env.frame ≡ None → Layers G env rs p [] → Surroundings → Visible G env rs p
  body_visible frame l around = record {
    names = entities G env rs p [] l (λ z h. body_outside frame z) (λ z e h. absurd (cc));
    globals = around.globals;
    tables = around.tables;
    scope = l.scope;
    systems = around.systems;
    region = around.region;
  }

  -- ---- a routine

  -- what the running routine declares
  pub record LocalNames (f : Frame) (row : RoutineRow) : Type 0 where
    pub parameters : Names
    pub variables : Names
    pub parameters_as : VariablesAs true rs parameters (declarations p.env.globals f.routine.parameters)
    pub variables_as : VariablesAs false rs variables (declarations p.env.globals f.routine.variables)
    pub parameters_alone : (z : Text) (v : Variable) → lookup z (declarations p.env.globals f.routine.parameters) ≡ Some v → is_component v.type ≡ false
    pub variables_alone : (z : Text) (v : Variable) → lookup z (declarations p.env.globals f.routine.variables) ≡ Some v → is_component v.type ≡ false
    pub returns : ReturnsAs G rs row.returns f.routine.result

  abbrev pub inner_names : (f : Frame) (row : RoutineRow) → LocalNames f row → Names
  inner_names f row n = (f.routine.name, entity.UnfinishedRoutine row) ∷ (n.parameters ++ n.variables)

  module _ (f : Frame) (frame : p.env.frame ≡ Some f) (row : RoutineRow) (n : LocalNames f row) (l : Layers G env rs p (inner_names f row n)) where
    abbrev g : GlobalScope
    g = p.env.globals

    abbrev ps : List (Text × Variable)
    ps = declarations g f.routine.parameters

    abbrev vs : List (Text × Variable)
    vs = declarations g f.routine.variables

    abbrev result : List (Text × Variable)
    result = result_variable g f.routine.name f.routine.result

    no_result : (z : Text) (o : Option a.Name) → bytes_eq z f.routine.name ≡ false → lookup z (result_variable g f.routine.name o) ≡ None
    no_result z None h = refl
    no_result z (Some t) h = ap (λ b. if b then Some (record { by_reference = false; type = named_type g t }) else None) h

    outside : (z : Text) → lookup z (inner_names f row n) ≡ None → Outside G env rs p z
    outside z h = go (bytes_eq z f.routine.name) refl h
      where
        rest : bytes_eq z f.routine.name ≡ false → lookup z (n.parameters ++ n.variables) ≡ None → Outside G env rs p z
        rest own none =
            let first : lookup z n.parameters ≡ None = none_first (lookup z n.parameters) refl (sym (lookup-append z n.parameters n.variables) ∙ none) in
            let second : lookup z n.variables ≡ None = sym (lookup_later z n.parameters n.variables first) ∙ none in
            let no_parameter : lookup z ps ≡ None = variable_none true rs z n.parameters ps n.parameters_as first in
            let no_variable : lookup z vs ≡ None = variable_none false rs z n.variables vs n.variables_as second in
            let nowhere : lookup z (local_variables g f.routine) ≡ None =
            lookup_later z ps (vs ++ result) no_parameter ∙ lookup_later z vs result no_variable ∙ no_result z f.routine.result own in
            record {
              local = λ m. ap (λ o. local_or g o z m) frame ∙ ap (λ w. variable_or w f.owner [] z m) nowhere;
              not_local = ap (λ o. is_local g o z) frame ∙ ap is_some (lookup_later z ps vs no_parameter ∙ no_variable);
              no_parameter = ap (λ o. lookup z (frame_parameters g o)) frame ∙ no_parameter;
            }
          where
            none_first : (o : Option Entity) → lookup z n.parameters ≡ o → option_or o (lookup z n.variables) ≡ None → o ≡ None
            none_first None is h = refl
            none_first (Some x) is h = h

        go : (b : Bool) → bytes_eq z f.routine.name ≡ b → (if b then Some (entity.UnfinishedRoutine row) else lookup z (n.parameters ++ n.variables)) ≡ None → Outside G env rs p z
        go true is h = absurd (cc)
        go false is h = rest is h

    distinct : AllDistinct (keys (inner_names f row n))
    distinct = later_distinct l.routines _ (later_distinct l.variables _ (later_distinct l.parameters _ (later_distinct l.outer _ l.distinct)))

    inside : (z : Text) (e : Entity) → lookup z (inner_names f row n) ≡ Some e → lookup z l.outer ≡ None → lookup z l.parameters ≡ None → lookup z l.variables ≡ None
        → EntityAs G env rs p z e
    inside z e h no_outer no_parameter no_variable = go (bytes_eq z f.routine.name) refl h
      where
        clock : is_clock z ≡ false
        clock = not_clock G env rs p (inner_names f row n) l z no_outer

        outer_parameter : lookup z (own_parameters G env rs p) ≡ None
        outer_parameter = variable_none true rs z l.parameters _ l.parameters_as no_parameter

        outer_variable : lookup z (own_variables G env rs p) ≡ None
        outer_variable = variable_none false rs z l.variables _ l.variables_as no_variable

        parameter : lookup z n.parameters ≡ Some e → EntityAs G env rs p z e
        parameter is =
            let k : FoundAs true rs z e ps = variable_found true rs z e n.parameters ps n.parameters_as is in
            let found : lookup z ps ≡ Some k.variable = k.found in
            subst (EntityAs G env rs p z) (sym k.is) (local_here G env rs p z true k.type k.access k.variable f frame
            (lookup_first z ps (vs ++ result) k.variable k.found)
            (lookup_first z ps vs k.variable k.found)
            outer_parameter outer_variable clock (n.parameters_alone z k.variable k.found) k.there
            (λ c. ap is_value_parameter found ∙ written k.access k.variable.by_reference k.as_access c))
          where
            written : (acc : Access) (b : Bool) → acc ≡ parameter_access b → is_changeable acc ≡ true → not b ≡ false
            written acc true h c = refl
            written acc false h c = absurd (true≢false (sym c ∙ ap is_changeable h))

        variable : lookup z n.parameters ≡ None → lookup z n.variables ≡ Some e → EntityAs G env rs p z e
        variable none is =
            let k : FoundAs false rs z e vs = variable_found false rs z e n.variables vs n.variables_as is in
            let first : lookup z ps ≡ None = variable_none true rs z n.parameters ps n.parameters_as none in
            subst (EntityAs G env rs p z) (sym k.is) (local_here G env rs p z false k.type k.access k.variable f frame
            (lookup_later z ps (vs ++ result) first ∙ lookup_first z vs result k.variable k.found)
            (lookup_later z ps vs first ∙ k.found)
            outer_parameter outer_variable clock (n.variables_alone z k.variable k.found) k.there
            (λ c. ap is_value_parameter (first)))

        in_parameters : (o : Option Entity) → lookup z n.parameters ≡ o → option_or o (lookup z n.variables) ≡ Some e → EntityAs G env rs p z e
        in_parameters (Some x) is h = parameter (is ∙ h)
        in_parameters None is h = variable is h

        -- the function's own name
        own : bytes_eq z f.routine.name ≡ true → ResultAs G env rs p z row
        own is t row_is = by_result f.routine.result refl (subst (λ k. ReturnsAs G rs k f.routine.result) row_is n.returns)
          where
            none : lookup z (n.parameters ++ n.variables) ≡ None
            none = none_apart f.routine.name z (n.parameters ++ n.variables) is distinct.0

            first : lookup z n.parameters ≡ None
            first = none_first (lookup z n.parameters) refl (sym (lookup-append z n.parameters n.variables) ∙ none)
              where
                none_first : (o : Option Entity) → lookup z n.parameters ≡ o → option_or o (lookup z n.variables) ≡ None → o ≡ None
                none_first None is h = refl
                none_first (Some x) is h = h

            no_ps : lookup z ps ≡ None
            no_ps = variable_none true rs z n.parameters ps n.parameters_as first

            no_vs : lookup z vs ≡ None
            no_vs = variable_none false rs z n.variables vs n.variables_as (sym (lookup_later z n.parameters n.variables first) ∙ none)

            by_result : (o : Option a.Name) → f.routine.result ≡ o → ReturnsAs G rs (returns.Value t) o
                → (r : ResolvedType) × TypeAt rs t r × (place_type p.env (a.Plain z) ≡ r) × TypedPlace p (a.Plain z) × IsChangeable p.env (a.Plain z) × (has_queues r ≡ false)
            by_result None e k = absurd k
            by_result (Some x) e k =
                let w : Variable = record { by_reference = false; type = named_type g x } in
                let found : lookup z result ≡ Some w = ap (λ o. lookup z (result_variable g f.routine.name o)) e ∙ ap (λ b. if b then Some w else None) is in
                let below : Meaning = variable_or (lookup z (permanent_variables g p.env.system)) p.env.component.owner p.env.component.path z (constant_or_unknown (lookup z g.constants)) in
                let at : Location = record { owner = f.owner; path = [] ++ (ByName z ∷ []) } in
                let meant_is : meaning p.env z ≡ IsVariable at w =
                ap (λ o. local_or g o z below) frame
                ∙ ap (λ q. variable_or q f.owner [] z below) (lookup_later z ps (vs ++ result) no_ps ∙ lookup_later z vs result no_vs ∙ found) in
                let type : named_type g x ≡ k.0 = ap or_no_type (k.2 g l.scope) in (
                  k.0,
                  k.1,
                  ap place_type_meant meant_is ∙ type,
                  (at, w, meant_is),
                  (ap (λ o. is_value_parameter (lookup z (frame_parameters g o))) frame ∙ ap is_value_parameter (no_ps), ap is_value_parameter outer_parameter),
                  ap has_queues k.3.1.is,
                )

        go : (b : Bool) → bytes_eq z f.routine.name ≡ b → (if b then Some (entity.UnfinishedRoutine row) else lookup z (n.parameters ++ n.variables)) ≡ Some e → EntityAs G env rs p z e
        go true is h = subst (EntityAs G env rs p z) (some_same (Some (entity.UnfinishedRoutine row)) (entity.UnfinishedRoutine row) e refl h) (own is)
        go false is h = in_parameters (lookup z n.parameters) refl (sym (lookup-append z n.parameters n.variables) ∙ h)

    pub routine_visible : Surroundings → Visible G env rs p
    routine_visible around = record {
      names = entities G env rs p (inner_names f row n) l outside inside;
      globals = around.globals;
      tables = around.tables;
      scope = l.scope;
      systems = around.systems;
      region = around.region;
    }
