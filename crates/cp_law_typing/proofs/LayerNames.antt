-- What the names of one layer represent, by the rules and by the meaning.
use Rattle.std.proofs.Common.{◌≡◌, ◌<◌, inr, ℕ, ℤ, Bool, true, false, List, [], ◌∷◌, ◌++◌, Option, Some, None, if◌then◌else◌, slice_get, refl, ap, ap₂, sym, subst, ◌∙◌, bytes_eq, is_some}
use Rattle.std.specs.Option.{option_or}
use Rattle.std.proofs.lemmas.Bool.{true≢false}
use Rattle.cp_model.specs.Abstract as a
use Rattle.cp_model.specs.declared.rules.Access.{Access}
use Rattle.cp_model.specs.declared.rules.Access.TheVariants as access
use Rattle.cp_model.specs.declared.rules.Entity.{Entity}
use Rattle.cp_model.specs.declared.rules.Entity.TheVariants as entity
use Rattle.cp_model.specs.RulesEnvironment.{Environment, Names, Text, routine_of}
use Rattle.cp_model.specs.RulesDeclarations.{parameter_access}
use Rattle.cp_model.specs.RulesNames.{is_changeable}
use Rattle.cp_model.specs.Types.{ArrayOf, ComponentOf, GlobalScope, NoType, Queue, RecordOf, ResolvedType, Simple, full_range}
use Rattle.cp_model.specs.Declarations.{Variable, declarations, is_component}
use Rattle.cp_model.specs.Locations.{ByName, Location}
use Rattle.cp_model.specs.Environments.{Environment as Here, Frame, IsVariable, Meaning, constant_or_unknown, local_or, local_variables, meaning, permanent_variables, variable_or}
use Rattle.cp_model.specs.Components.{Component, as_component, component_named}
use Rattle.cp_model.specs.Calls.{Callee, callee, is_local, own_routine, routine_named}
use Rattle.cp_model.specs.Names.{lookup}
use Rattle.cp_law_typing.specs.StaticTypes.{is_clock, place_type, place_type_meant, value_type_meant}
use Rattle.cp_law_typing.specs.Judgement.{Place, frame_parameters, has_queues, is_value_parameter}
use Rattle.cp_law_typing.proofs.TableMeanings.{NeedAs, RoutineAs, TypeAt, Types}
use Rattle.cp_law_typing.proofs.Visible.{ConstantHere, OwnAs, PartAs, component_of, some_same}

-- ---- variables of the rules and of the meaning

-- variables are a component's or a routine's own, and parameters are passed by value or by
-- reference
abbrev pub AccessAs : Bool → Access → Bool → Type 0
AccessAs false acc b = (acc ≡ access.Own) × (b ≡ false)
AccessAs true acc b = acc ≡ parameter_access b

abbrev pub VariableEntry : Bool → Types → Entity → Variable → Type 0
VariableEntry q rs (entity.Variable t acc) d = TypeAt rs t d.type × AccessAs q acc d.by_reference
VariableEntry q rs _ d = ⊥

abbrev pub VariablesAs : Bool → Types → Names → List (Text × Variable) → Type 0
VariablesAs q rs [] [] = Unit {0}
VariablesAs q rs (x ∷ vs) (d ∷ ds) = (x.0 ≡ d.0) × VariableEntry q rs x.1 d.1 × VariablesAs q rs vs ds
VariablesAs q rs _ _ = ⊥

pub record FoundAs (q : Bool) (rs : Types) (z : Text) (e : Entity) (ds : List (Text × Variable)) : Type 0 where
  pub type : ℕ
  pub access : Access
  pub is : e ≡ entity.Variable type access
  pub variable : Variable
  pub found : lookup z ds ≡ Some variable
  pub there : TypeAt rs type variable.type
  pub as_access : AccessAs q access variable.by_reference

pub entry_found : (q : Bool) (rs : Types) (z : Text) (e : Entity) (d : Variable) (ds : List (Text × Variable)) → VariableEntry q rs e d → lookup z ds ≡ Some d → FoundAs q rs z e ds
entry_found q rs z (entity.Variable t acc) d ds h f = record { type = t; access = acc; is = refl; variable = d; found = f; there = h.0; as_access = h.1 }
entry_found q rs z _ d ds h f = absurd h

pub variable_found : (q : Bool) (rs : Types) (z : Text) (e : Entity) (vs : Names) (ds : List (Text × Variable)) → VariablesAs q rs vs ds → lookup z vs ≡ Some e → FoundAs q rs z e ds
variable_found q rs z e [] [] h f = absurd (cc)
variable_found q rs z e (x ∷ vs) (d ∷ ds) h f = go (bytes_eq z x.0) refl f (variable_found q rs z e vs ds h.2)
  where
    go : (b : Bool) → bytes_eq z x.0 ≡ b → (if b then Some x.1 else lookup z vs) ≡ Some e → (lookup z vs ≡ Some e → FoundAs q rs z e ds) → FoundAs q rs z e (d ∷ ds)
    go true is f rest =
        entry_found q rs z e d.1 (d ∷ ds) (subst (λ k. VariableEntry q rs k d.1) (some_same (Some x.1) x.1 e refl f) h.1)
        (ap (λ b. if b then Some d.1 else lookup z ds) (sym (ap (bytes_eq z) h.0) ∙ is))
    go false is f rest =
        let k : FoundAs q rs z e ds = rest f in
        record {
          type = k.type;
          access = k.access;
          is = k.is;
          variable = k.variable;
          found = ap (λ b. if b then Some d.1 else lookup z ds) (sym (ap (bytes_eq z) h.0) ∙ is) ∙ k.found;
          there = k.there;
          as_access = k.as_access;
        }
variable_found q rs z e [] (d ∷ ds) h f = absurd h
variable_found q rs z e (x ∷ vs) [] h f = absurd h

pub variable_none : (q : Bool) (rs : Types) (z : Text) (vs : Names) (ds : List (Text × Variable)) → VariablesAs q rs vs ds → lookup z vs ≡ None → lookup z ds ≡ None
variable_none q rs z [] [] h f = refl
variable_none q rs z (x ∷ vs) (d ∷ ds) h f = go (bytes_eq z x.0) refl f (variable_none q rs z vs ds h.2)
  where
    go : (b : Bool) → bytes_eq z x.0 ≡ b → (if b then Some x.1 else lookup z vs) ≡ None → (lookup z vs ≡ None → lookup z ds ≡ None) → lookup z (d ∷ ds) ≡ None
    go true is f rest = absurd (cc)
    go false is f rest = ap (λ b. if b then Some d.1 else lookup z ds) (sym (ap (bytes_eq z) h.0) ∙ is) ∙ rest f
variable_none q rs z [] (d ∷ ds) h f = absurd h
variable_none q rs z (x ∷ vs) [] h f = absurd h

pub variables_append : (q : Bool) (rs : Types) (vs ws : Names) (ds es : List (Text × Variable)) → VariablesAs q rs vs ds → VariablesAs q rs ws es → VariablesAs q rs (vs ++ ws) (ds ++ es)
variables_append q rs [] ws [] es h g = g
variables_append q rs (x ∷ vs) ws (d ∷ ds) es h g = (h.0, h.1, variables_append q rs vs ws ds es h.2 g)
variables_append q rs [] ws (d ∷ ds) es h g = absurd h
variables_append q rs (x ∷ vs) ws [] es h g = absurd h

-- ---- what names mean here

module _ (G : GlobalScope → Type 0) (env : Environment) (rs : Types) (p : Place) where
  abbrev pub here : Here
  here = p.env

  -- the parts of the component, as the meaning lists them
  abbrev pub own_parameters : List (Text × Variable)
  own_parameters = declarations here.globals here.system.parameters

  abbrev pub own_variables : List (Text × Variable)
  own_variables = declarations here.globals here.system.variables

  -- the name isn't one of the running routine's names
  pub record Outside (z : Text) : Type 0 where
    pub local : (m : Meaning) → local_or here.globals here.frame z m ≡ m
    pub not_local : is_local here.globals here.frame z ≡ false
    pub no_parameter : lookup z (frame_parameters here.globals here.frame) ≡ None

  -- the name is neither that of a routine of the component nor the clock's
  pub record NoRoutine (z : Text) : Type 0 where
    pub no_routine : routine_named z here.system ≡ None
    pub no_clock : is_clock z ≡ false

  called_by : Option a.Routine → Option Callee
  called_by o = elim o [ None ↦ None | Some r ↦ Some (record { routine = r; of = None }) ]

  pub no_call : (z : Text) → Outside z → routine_named z here.system ≡ None → callee here (a.Plain z) ≡ None
  unfolding called_by
  no_call z o n = ap (λ b. called_by (own_routine b z here.system)) o.not_local ∙ ap called_by n

  pub constant_here : (z : Text) (base : ℕ) (n : ℤ) (b : a.BaseType) → Outside z → NoRoutine z → lookup z (permanent_variables here.globals here.system) ≡ None
      → TypeAt rs base (full_range b) → lookup z here.globals.constants ≡ Some (b, n) → ConstantHere G env rs p z base n
  constant_here z base n b o r none there found = record {
    of = b;
    there = there;
    meant = o.local _
        ∙ ap (λ k. variable_or k here.component.owner here.component.path z (constant_or_unknown (lookup z here.globals.constants))) none
        ∙ ap constant_or_unknown found;
    no_call = no_call z o r.no_routine;
    no_clock = r.no_clock;
  }

  -- the two lists of a component's variables, and the one that has the name
  pub record Permanent (z : Text) (q : Bool) (v : Variable) : Type 0 where
    pub found : lookup z (permanent_variables here.globals here.system) ≡ Some v
    pub component : component_named here z ≡ option_or (as_component z true (lookup z own_parameters)) (as_component z false (lookup z own_variables))
    pub parameter : lookup z own_parameters ≡ (if q then Some v else None)
    pub variable : lookup z own_variables ≡ (if q then None else Some v)

  component_is : (z : Text) (q : Bool) (acc : Access) (v : Variable) → AccessAs q acc v.by_reference → (q ≡ true → v.by_reference ≡ false)
      → option_or (as_component z true (if q then Some v else None)) (as_component z false (if q then None else Some v)) ≡ component_of z acc v.type
  component_is z true acc v h by_value = go v.type (h ∙ ap parameter_access (by_value refl))
    where
      as_type : ResolvedType → Option Component
      as_type r = elim r [ ComponentOf y inner ↦ Some (record { name = z; system = y; is_parameter = true }) | _ ↦ None ]

      go : (r : ResolvedType) → acc ≡ access.Passive → option_or (as_type r) None ≡ component_of z acc r
      go (ComponentOf y inner) e = ap (λ k. component_of z k (ComponentOf y inner)) (sym e)
      go (Simple b low high start) e = refl
      go (ArrayOf low high r) e = refl
      go (RecordOf ps) e = refl
      go Queue e = refl
      go NoType e = refl
  component_is z false acc v h by_value = go v.type h.0
    where
      as_type : ResolvedType → Option Component
      as_type r = elim r [ ComponentOf y inner ↦ Some (record { name = z; system = y; is_parameter = false }) | _ ↦ None ]

      go : (r : ResolvedType) → acc ≡ access.Own → as_type r ≡ component_of z acc r
      go (ComponentOf y inner) e = ap (λ k. component_of z k (ComponentOf y inner)) (sym e)
      go (Simple b low high start) e = refl
      go (ArrayOf low high r) e = refl
      go (RecordOf ps) e = refl
      go Queue e = refl
      go NoType e = refl

  -- a variable or parameter of the component
  pub permanent_here : (z : Text) (q : Bool) (t : ℕ) (acc : Access) (v : Variable) → Outside z → NoRoutine z → Permanent z q v → TypeAt rs t v.type
      → AccessAs q acc v.by_reference → v.by_reference ≡ false → PartAs G env rs p (a.Plain z) t acc
  permanent_here z q t acc v o r k there h by_value =
      let at : Location = record { owner = here.component.owner; path = here.component.path ++ (ByName z ∷ []) } in
      let is : meaning here z ≡ IsVariable at v =
      o.local _ ∙ ap (λ w. variable_or w here.component.owner here.component.path z (constant_or_unknown (lookup z here.globals.constants))) k.found in
      let place : place_type here (a.Plain z) ≡ v.type = ap place_type_meant is in
      record {
        type = v.type;
        there = there;
        place = place;
        value = ap (λ b. if b then full_range a.Integer else value_type_meant (meaning here z)) r.no_clock ∙ ap value_type_meant is;
        typed_place = (at, v, is);
        typed_use = inr (inr (r.no_clock, (at, v, is)));
        no_call = no_call z o r.no_routine;
        component = k.component ∙ ap₂ (λ x y. option_or (as_component z true x) (as_component z false y)) k.parameter k.variable
            ∙ component_is z q acc v h (λ e. by_value);
        changeable = λ c. (ap is_value_parameter o.no_parameter, ap is_value_parameter k.parameter ∙ not_passive q c h);
        free = λ f. ap has_queues (sym place) ∙ f;
      }
    where
      not_passive : (q : Bool) → is_changeable acc ≡ true → AccessAs q acc v.by_reference → is_value_parameter (if q then Some v else None) ≡ false
      not_passive false c h = refl
      not_passive true c h = absurd (true≢false (sym c ∙ ap is_changeable (h ∙ ap parameter_access by_value)))

  -- a routine of the component
  pub routine_here : (z : Text) (r : ℕ) (q : a.Routine) (k : ℕ) → Outside z → routine_named z here.system ≡ Some q → k < p.routines → slice_get here.system.routines k ≡ Some q
      → RoutineAs G env rs (routine_of env r) q → NeedAs G here.system (routine_of env r).need q → OwnAs G env rs p z r
  unfolding called_by
  routine_here z r q k o named before there meets need = record {
    routine = q;
    named = ap (λ b. called_by (own_routine b z here.system)) o.not_local ∙ ap called_by named;
    place = k;
    before = before;
    there = there;
    meets = meets;
    need = need;
  }

  -- a variable or parameter of the running routine
  pub local_here : (z : Text) (q : Bool) (t : ℕ) (acc : Access) (v : Variable) (f : Frame) → here.frame ≡ Some f
      → lookup z (local_variables here.globals f.routine) ≡ Some v
      → lookup z (declarations here.globals f.routine.parameters ++ declarations here.globals f.routine.variables) ≡ Some v
      → lookup z own_parameters ≡ None → lookup z own_variables ≡ None → is_clock z ≡ false → is_component v.type ≡ false → TypeAt rs t v.type
      → (is_changeable acc ≡ true → is_value_parameter (lookup z (declarations here.globals f.routine.parameters)) ≡ false) → PartAs G env rs p (a.Plain z) t acc
  unfolding called_by
  local_here z q t acc v f frame found found_too no_parameter no_variable no_clock alone there written =
      let at : Location = record { owner = f.owner; path = [] ++ (ByName z ∷ []) } in
      let below : Meaning = variable_or (lookup z (permanent_variables here.globals here.system)) here.component.owner here.component.path z (constant_or_unknown (lookup z here.globals.constants)) in
      let is : meaning here z ≡ IsVariable at v =
      ap (λ o. local_or here.globals o z below) frame ∙ ap (λ w. variable_or w f.owner [] z below) found in
      let place : place_type here (a.Plain z) ≡ v.type = ap place_type_meant is in
      let local : is_local here.globals here.frame z ≡ true = ap (λ o. is_local here.globals o z) frame ∙ ap is_some found_too in
      record {
        type = v.type;
        there = there;
        place = place;
        value = ap (λ b. if b then full_range a.Integer else value_type_meant (meaning here z)) no_clock ∙ ap value_type_meant is;
        typed_place = (at, v, is);
        typed_use = inr (inr (no_clock, (at, v, is)));
        no_call = ap (λ b. called_by (own_routine b z here.system)) local;
        component = ap₂ (λ x y. option_or (as_component z true x) (as_component z false y)) no_parameter no_variable ∙ sym (not_component v.type alone);
        changeable = λ c. (ap (λ o. is_value_parameter (lookup z (frame_parameters here.globals o))) frame ∙ written c, ap is_value_parameter no_parameter);
        free = λ h. ap has_queues (sym place) ∙ h;
      }
    where
      not_component : (r : ResolvedType) → is_component r ≡ false → component_of z acc r ≡ None
      not_component (ComponentOf y inner) h = absurd (true≢false h)
      not_component (Simple b low high start) h = refl
      not_component (ArrayOf low high r) h = refl
      not_component (RecordOf ps) h = refl
      not_component Queue h = refl
      not_component NoType h = refl
