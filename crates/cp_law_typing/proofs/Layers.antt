-- The layers of names that a statement sees, and what each name of a layer represents.
use Rattle.std.proofs.Common.{◌≡◌, ◌<◌, ℕ, Bool, true, false, ◌||◌, [], ◌∷◌, ◌++◌, Option, Some, None, if◌then◌else◌, slice_get, refl, ap, sym, subst, ◌∙◌, codes, bytes_eq}
use Rattle.std.specs.Option.{option_or}
use Rattle.std.proofs.lemmas.Bool.{true≢false}
use Rattle.cp_model.specs.Abstract as a
use Rattle.cp_model.specs.declared.rules.Entity.{Entity}
use Rattle.cp_model.specs.declared.rules.Entity.TheVariants as entity
use Rattle.cp_model.specs.declared.rules.Standard.TheVariants as standard
use Rattle.cp_model.specs.RulesEnvironment.{Environment, Names, Text, routine_of}
use Rattle.cp_model.specs.RulesTypes.{has_name}
use Rattle.cp_model.specs.Types.{GlobalScope}
use Rattle.cp_model.specs.Declarations.{Variable}
use Rattle.cp_model.specs.Environments.{permanent_variables}
use Rattle.cp_model.specs.Calls.{routine_named}
use Rattle.cp_model.specs.Names.{lookup}
use Rattle.cp_law_typing.specs.StaticTypes.{is_clock}
use Rattle.cp_law_typing.specs.Judgement.{Place}
use Rattle.cp_law_typing.proofs.Names.{AllDistinct, bytes_same, lookup_none, keys, lookup-append, lookup_first, lookup_later}
use Rattle.cp_law_typing.proofs.TableMeanings.{GlobalAs, NamesAs, NeedAs, RoutineAs, Types}
use Rattle.cp_law_typing.proofs.Visible.{EntityAs}
use Rattle.cp_law_typing.proofs.LayerNames.{VariablesAs, FoundAs, variable_found, variable_none, Outside, own_parameters, own_variables, constant_here, no_call, permanent_here, routine_here}

-- ---- names in layers

pub none_apart : (x z : Text) (vs : Names) → bytes_eq z x ≡ true → has_name x (keys vs) ≡ false → lookup z vs ≡ None
none_apart x z vs same h = ap (λ y. lookup y vs) (bytes_same z x same) ∙ lookup_none x vs h

has_last_part : (x : Text) (vs ws : Names) → has_name x (keys (vs ++ ws)) ≡ false → has_name x (keys ws) ≡ false
has_last_part x [] ws h = h
has_last_part x (v ∷ vs) ws h = has_last_part x vs ws (go (bytes_eq x v.0) h)
  where
    go : (b : Bool) → (b || has_name x (keys (vs ++ ws))) ≡ false → has_name x (keys (vs ++ ws)) ≡ false
    go true h = absurd (true≢false h)
    go false h = h

pub apart : (z : Text) (e : Entity) (vs ws : Names) → AllDistinct (keys (vs ++ ws)) → lookup z vs ≡ Some e → lookup z ws ≡ None
apart z e [] ws d h = absurd (cc)
apart z e (v ∷ vs) ws d h = go (bytes_eq z v.0) refl h (apart z e vs ws d.1)
  where
    go : (b : Bool) → bytes_eq z v.0 ≡ b → (if b then Some v.1 else lookup z vs) ≡ Some e → (lookup z vs ≡ Some e → lookup z ws ≡ None) → lookup z ws ≡ None
    go true is h rest = none_apart v.0 z ws is (has_last_part v.0 vs ws d.0)
    go false is h rest = rest h

pub later_distinct : (vs ws : Names) → AllDistinct (keys (vs ++ ws)) → AllDistinct (keys ws)
later_distinct [] ws d = d
later_distinct (v ∷ vs) ws d = later_distinct vs ws d.1

-- an entity of the outermost scope: a constant, a type or a standard routine
abbrev pub IsOuter : Entity → Type 0
IsOuter (entity.Variable t acc) = ⊥
IsOuter (entity.Routine r) = ⊥
IsOuter (entity.Entry r) = ⊥
IsOuter (entity.UnfinishedRoutine r) = ⊥
IsOuter _ = Unit {0}

module _ (G : GlobalScope → Type 0) (env : Environment) (rs : Types) (p : Place) where
  -- a routine of the component that was declared before
  pub record RoutineEntry (z : Text) (e : Entity) : Type 0 where
    pub number : ℕ
    pub is : e ≡ entity.Routine number
    pub routine : a.Routine
    pub named : routine_named z p.env.system ≡ Some routine
    pub place : ℕ
    pub before : place < p.routines
    pub there : slice_get p.env.system.routines place ≡ Some routine
    pub meets : RoutineAs G env rs (routine_of env number) routine
    pub need : NeedAs G p.env.system (routine_of env number).need routine

  -- the names that a statement sees: those of the outermost scope, the component's parameters,
  -- variables and routines, and inner ones
  pub record Layers (inner : Names) : Type 0 where
    pub outer : Names
    pub parameters : Names
    pub variables : Names
    pub routines : Names
    pub names : env.names ≡ outer ++ (parameters ++ (variables ++ (routines ++ inner)))
    pub distinct : AllDistinct (keys (outer ++ (parameters ++ (variables ++ (routines ++ inner)))))
    pub outer_as : NamesAs G rs outer
    pub is_outer : (z : Text) (e : Entity) → lookup z outer ≡ Some e → IsOuter e
    pub clock : lookup (codes "realtime") outer ≡ Some (entity.Standard standard.Realtime)
    pub parameters_as : VariablesAs true rs parameters (own_parameters G env rs p)
    pub by_value : (z : Text) (v : Variable) → lookup z (own_parameters G env rs p) ≡ Some v → v.by_reference ≡ false
    pub variables_as : VariablesAs false rs variables (own_variables G env rs p)
    pub routines_as : (z : Text) (e : Entity) → lookup z routines ≡ Some e → RoutineEntry z e
    pub no_routine : (z : Text) (e : Entity) → lookup z (outer ++ (parameters ++ variables)) ≡ Some e → routine_named z p.env.system ≡ None
    pub scope : G p.env.globals

  module _ (inner : Names) (l : Layers inner) where
    -- a name of an outer layer isn't an inner one
    pub not_clock : (z : Text) → lookup z l.outer ≡ None → is_clock z ≡ false
    not_clock z h = go (is_clock z) refl
      where
        go : (b : Bool) → is_clock z ≡ b → b ≡ false
        go false e = refl
        go true e = absurd (cc (ap (λ y. lookup y l.outer) (bytes_same z (codes "realtime") e), h, l.clock))

    pub entities : ((z : Text) → lookup z inner ≡ None → Outside G env rs p z) → ((z : Text) (e : Entity) → lookup z inner ≡ Some e
        → lookup z l.outer ≡ None → lookup z l.parameters ≡ None → lookup z l.variables ≡ None → EntityAs G env rs p z e)
        → (z : Text) (e : Entity) → lookup z env.names ≡ Some e → EntityAs G env rs p z e
    entities outside inside z e h = in_outer (lookup z l.outer) refl (sym (ap (lookup z) l.names ∙ lookup-append z l.outer _) ∙ h)
      where
        d1 : AllDistinct (keys (l.parameters ++ (l.variables ++ (l.routines ++ inner))))
        d1 = later_distinct l.outer _ l.distinct

        d2 : AllDistinct (keys (l.variables ++ (l.routines ++ inner)))
        d2 = later_distinct l.parameters _ d1

        d3 : AllDistinct (keys (l.routines ++ inner))
        d3 = later_distinct l.variables _ d2

        -- what isn't found in a longer list isn't found in its parts
        none_first : (vs ws : Names) → lookup z (vs ++ ws) ≡ None → lookup z vs ≡ None
        none_first vs ws h = go (lookup z vs) refl (sym (lookup-append z vs ws) ∙ h)
          where
            go : (o : Option Entity) → lookup z vs ≡ o → option_or o (lookup z ws) ≡ None → o ≡ None
            go None is h = refl
            go (Some x) is h = h

        none_last : (vs ws : Names) → lookup z (vs ++ ws) ≡ None → lookup z ws ≡ None
        none_last vs ws h = sym (lookup_later z vs ws (none_first vs ws h)) ∙ h

        no_permanent : lookup z l.parameters ≡ None → lookup z l.variables ≡ None → lookup z (permanent_variables p.env.globals p.env.system) ≡ None
        no_permanent f g =
            lookup_later z (own_parameters G env rs p) (own_variables G env rs p) (variable_none true rs z l.parameters _ l.parameters_as f)
            ∙ variable_none false rs z l.variables _ l.variables_as g

        outer_named : (e0 : Entity) → lookup z l.outer ≡ Some e0 → lookup z (l.parameters ++ (l.variables ++ (l.routines ++ inner))) ≡ None → IsOuter e0 → GlobalAs G rs z e0
            → EntityAs G env rs p z e0
        outer_named (entity.Constant base n) is none k c =
            let rest : lookup z (l.variables ++ (l.routines ++ inner)) ≡ None = none_last l.parameters _ none in
            constant_here G env rs p z base n c.0 (outside z (none_last l.routines _ (none_last l.variables _ rest)))
            (record { no_routine = l.no_routine z (entity.Constant base n) (lookup_first z l.outer _ _ is); no_clock = constant_clock is })
            (no_permanent (none_first l.parameters _ none) (none_first l.variables _ rest)) c.1 (c.2 p.env.globals l.scope)
          where
            constant_clock : lookup z l.outer ≡ Some (entity.Constant base n) → is_clock z ≡ false
            constant_clock is = go (is_clock z) refl
              where
                go : (b : Bool) → is_clock z ≡ b → b ≡ false
                go false e = refl
                go true e = absurd (cc (ap (λ y. lookup y l.outer) (bytes_same z (codes "realtime") e), is, l.clock))
        outer_named (entity.Standard f) is none k c =
            let rest : lookup z (l.variables ++ (l.routines ++ inner)) ≡ None = none_last l.parameters _ none in
            (c, no_call G env rs p z (outside z (none_last l.routines _ (none_last l.variables _ rest))) (l.no_routine z (entity.Standard f) (lookup_first z l.outer _ _ is)))
        outer_named (entity.Type t) is none k c = tt
        outer_named entity.UnfinishedConstant is none k c = tt
        outer_named entity.UnfinishedType is none k c = tt
        outer_named entity.Hidden is none k c = tt
        outer_named (entity.Broken w) is none k c = tt
        outer_named (entity.Variable t acc) is none k c = absurd k
        outer_named (entity.Routine r) is none k c = absurd k
        outer_named (entity.Entry r) is none k c = absurd k
        outer_named (entity.UnfinishedRoutine r) is none k c = absurd k

        parameter : lookup z l.outer ≡ None → lookup z l.parameters ≡ Some e → EntityAs G env rs p z e
        parameter no_outer is =
            let f : FoundAs true rs z e (own_parameters G env rs p) = variable_found true rs z e l.parameters _ l.parameters_as is in
            let none : lookup z (l.variables ++ (l.routines ++ inner)) ≡ None = apart z e l.parameters _ d1 is in
            let found : lookup z (own_parameters G env rs p) ≡ Some f.variable = f.found in
            let no_variable : lookup z (own_variables G env rs p) ≡ None =
            variable_none false rs z l.variables _ l.variables_as (none_first l.variables _ none) in
            let value : f.variable.by_reference ≡ false = l.by_value z f.variable f.found in
            subst (EntityAs G env rs p z) (sym f.is) (permanent_here G env rs p z true f.type f.access f.variable
            (outside z (none_last l.routines _ (none_last l.variables _ none)))
            (record {
              no_routine = l.no_routine z e (lookup_later z l.outer _ no_outer ∙ lookup_first z l.parameters l.variables e is);
              no_clock = not_clock z no_outer;
            })
            (record {
              found = lookup_first z (own_parameters G env rs p) (own_variables G env rs p) f.variable f.found;
              component = refl;
              parameter = found;
              variable = no_variable;
            }) f.there f.as_access value)

        variable : lookup z l.outer ≡ None → lookup z l.parameters ≡ None → lookup z l.variables ≡ Some e → EntityAs G env rs p z e
        variable no_outer no_parameter is =
            let f : FoundAs false rs z e (own_variables G env rs p) = variable_found false rs z e l.variables _ l.variables_as is in
            let none : lookup z (l.routines ++ inner) ≡ None = apart z e l.variables _ d2 is in
            let first : lookup z (own_parameters G env rs p) ≡ None = variable_none true rs z l.parameters _ l.parameters_as no_parameter in
            subst (EntityAs G env rs p z) (sym f.is) (permanent_here G env rs p z false f.type f.access f.variable
            (outside z (none_last l.routines _ none))
            (record {
              no_routine = l.no_routine z e (lookup_later z l.outer _ no_outer ∙ lookup_later z l.parameters l.variables no_parameter ∙ is);
              no_clock = not_clock z no_outer;
            })
            (record {
              found = lookup_later z (own_parameters G env rs p) (own_variables G env rs p) first ∙ f.found;
              component = refl;
              parameter = first;
              variable = f.found;
            }) f.there f.as_access f.as_access.1)

        routine : lookup z l.routines ≡ Some e → EntityAs G env rs p z e
        routine is =
            let r : RoutineEntry z e = l.routines_as z e is in
            subst (EntityAs G env rs p z) (sym r.is) (routine_here G env rs p z r.number r.routine r.place (outside z (apart z e l.routines inner d3 is)) r.named r.before r.there r.meets r.need)

        in_routines : (o : Option Entity) → lookup z l.outer ≡ None → lookup z l.parameters ≡ None → lookup z l.variables ≡ None → lookup z l.routines ≡ o
            → option_or o (lookup z inner) ≡ Some e → EntityAs G env rs p z e
        in_routines (Some x) f g k is h = routine (is ∙ h)
        in_routines None f g k is h = inside z e h f g k

        in_variables : (o : Option Entity) → lookup z l.outer ≡ None → lookup z l.parameters ≡ None → lookup z l.variables ≡ o
            → option_or o (lookup z (l.routines ++ inner)) ≡ Some e → EntityAs G env rs p z e
        in_variables (Some x) f g is h = variable f g (is ∙ h)
        in_variables None f g is h = in_routines (lookup z l.routines) f g is refl (sym (lookup-append z l.routines inner) ∙ h)

        in_parameters : (o : Option Entity) → lookup z l.outer ≡ None → lookup z l.parameters ≡ o
            → option_or o (lookup z (l.variables ++ (l.routines ++ inner))) ≡ Some e → EntityAs G env rs p z e
        in_parameters (Some x) f is h = parameter f (is ∙ h)
        in_parameters None f is h = in_variables (lookup z l.variables) f is refl (sym (lookup-append z l.variables _) ∙ h)

        in_outer : (o : Option Entity) → lookup z l.outer ≡ o → option_or o (lookup z (l.parameters ++ (l.variables ++ (l.routines ++ inner)))) ≡ Some e → EntityAs G env rs p z e
        in_outer (Some x) is h =
            outer_named e (is ∙ h) (apart z e l.outer _ l.distinct (is ∙ h)) (l.is_outer z e (is ∙ h)) (l.outer_as z e (is ∙ h))
        in_outer None is h = in_parameters (lookup z l.parameters) is refl (sym (lookup-append z l.parameters _) ∙ h)
