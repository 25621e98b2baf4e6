-- The root that a variable's name is compiled to is where the variable is.
use Rattle.std.proofs.Common.{◌≡◌, ◌⊎◌, inl, inr, ℕ, ℤ, List, [], ◌∷◌, ◌++◌, Option, Some, None, refl, ap, sym, subst, ◌∙◌, Bool, true, false, if◌then◌else◌, bytes_eq, append_assoc, is_some}
use Rattle.std.proofs.lemmas.Bool.{true≢false}
use Rattle.cp_model.specs.Abstract as a
use Rattle.cp_model.specs.Abstract.{Name, Plain, Routine, System}
use Rattle.cp_model.specs.Names.{lookup}
use Rattle.cp_model.specs.Types.{ResolvedType, named_type}
use Rattle.cp_model.specs.Declarations.{Variable, declarations, is_component}
use Rattle.cp_model.specs.Environments.{Environment, IsConstant, IsVariable, local_variables, meaning, permanent_variables, result_variable, variable_or}
use Rattle.cp_model.specs.Locations.{ByName, Location, Owner, root, under}
use Rattle.cp_model.specs.Calls.{Callee, callee, own_routine, routine_named}
use Rattle.cp_model.proofs.Options.{same_some}
use Rattle.cp_law_typing.specs.Judgement.{is_structured}
use Rattle.cp_law_typing.specs.Declared.{ResultFits}
use Rattle.cp_law_typing.specs.StaticTypes.{place_type, place_type_meant}
use Rattle.cp_law_typing.specs.Variables.{IsGlobalConstant, IsLocalVariable, IsOwnVariable, frame_variables}
use Rattle.cp_law_typing.specs.Needs.{result_words}
use Rattle.cp_law_typing.proofs.Facts.{constants_are_global, variables_lie}
use Rattle.cp_law_typing.proofs.Names.{bytes_same, lookup_first, lookup_later}
use Rattle.cp_model_program.specs.Terms.{Local, Member, Root, Through}
use Rattle.cp_model_program.specs.Layout.{local, locals, member}
use Rattle.cp_model_program.specs.Sites.{NamesLocal, NamesVariable}
use Rattle.cp_model_program.specs.StatementsFor.{is_function}
use Rattle.cp_model_program.specs.Scopes.{Scope, local_in, root_named, root_or_member}
use Rattle.cp_model_program.specs.CodedStatements.{is_result, is_result_of}
use Rattle.cp_model_program.proofs.Environments.{environment_at, frame_at}
use Rattle.cp_model_program.proofs.Found.{is_member, local_found, local_none, no_member}
use Rattle.cp_model_program.proofs.Representing.{RoutineHere}

abbrev pub NoResult : Scope → Name → Type 0
NoResult scope x = is_result scope (Plain x) ≡ false

-- a local's name isn't the name of the result
pub local_is_no_result : (o : Option (ℕ × Variable)) (v : ℕ × Variable) (b : Bool) → o ≡ Some v → elim o [ None ↦ b | Some w ↦ false ] ≡ false
local_is_no_result o v b h = ap (λ z. elim z [ None ↦ b | Some w ↦ false ]) h

abbrev chosen : Variable → Bool → Option Variable
chosen v b = if b then Some v else None

abbrev pub of_routine : Scope → Option Routine → Scope
of_routine scope w = record scope { routine = w }

-- ---- The result

module _ (scope : Scope) (at : Location) (o : Owner) (x : Name) where
  -- a name that calls nothing isn't the name of the running function
  uncalled : (w : Option Routine) → RoutineHere (of_routine scope w) w → callee (environment_at (of_routine scope w) at o) (Plain x) ≡ None
      → NoResult (of_routine scope w) x
  uncalled None here none = refl
  uncalled (Some r) here none = go (lookup x (locals scope.globals r)) refl
    where
      go : (v : Option Variable) → lookup x (locals scope.globals r) ≡ v → NoResult (of_routine scope (Some r)) x
      go (Some v) e =
          let k : (k : ℕ) × (local scope.globals r x ≡ Some (k, v)) = local_found scope.globals x (result_words r.result) (locals scope.globals r) v e in
          local_is_no_result (local scope.globals r x) (k.0, v) (is_result_of (Some r) x) k.1
      go None e =
          ap (λ z. elim z [ None ↦ is_result_of (Some r) x | Some w ↦ false ]) (local_none scope.globals x (result_words r.result) (locals scope.globals r) e)
          ∙ by (bytes_eq x r.name) refl
        where
          called_by : Option Routine → Option Callee
          called_by w = elim w [ None ↦ None | Some q ↦ Some (record { routine = q; of = None }) ]

          by : (b : Bool) → bytes_eq x r.name ≡ b → (if b then is_function r.result else false) ≡ false
          by false is = refl
          by true is =
              absurd (cc (
                ap (λ b. called_by (own_routine b x scope.system)) (ap is_some e),
                ap called_by (ap (λ z. routine_named z scope.system) (bytes_same x r.name is) ∙ here.0),
                none,
              ))

  -- nor is a name of an array or a record, since results are simple
  structured : (w : Option Routine) → RoutineHere (of_routine scope w) w → is_structured (place_type (environment_at (of_routine scope w) at o) (Plain x)) ≡ true
      → NoResult (of_routine scope w) x
  structured None here is = refl
  structured (Some r) here is = go (lookup x (locals scope.globals r)) refl
    where
      ps : List (Name × Variable)
      ps = declarations scope.globals r.parameters

      vs : List (Name × Variable)
      vs = declarations scope.globals r.variables

      go : (v : Option Variable) → lookup x (locals scope.globals r) ≡ v → NoResult (of_routine scope (Some r)) x
      go (Some v) e =
          let k : (k : ℕ) × (local scope.globals r x ≡ Some (k, v)) = local_found scope.globals x (result_words r.result) (locals scope.globals r) v e in
          local_is_no_result (local scope.globals r x) (k.0, v) (is_result_of (Some r) x) k.1
      go None e =
          ap (λ z. elim z [ None ↦ is_result_of (Some r) x | Some w ↦ false ]) (local_none scope.globals x (result_words r.result) (locals scope.globals r) e)
          ∙ by (bytes_eq x r.name) refl r.result refl
        where
          meant : Option Variable → ResolvedType
          meant v = place_type_meant (variable_or v o [] x (meaning (environment_at (of_routine scope None) at o) x))

          by : (b : Bool) → bytes_eq x r.name ≡ b → (t : Option Name) → r.result ≡ t → (if b then is_function t else false) ≡ false
          by false same t result = refl
          by true same None result = refl
          by true same (Some t) result =
              let all : lookup x (ps ++ (vs ++ result_variable scope.globals r.name r.result)) ≡ lookup x (result_variable scope.globals r.name r.result) =
              ap (lookup x) (sym (append_assoc ps vs (result_variable scope.globals r.name r.result))) ∙ lookup_later x (ps ++ vs) (result_variable scope.globals r.name r.result) e in
              let one : lookup x (result_variable scope.globals r.name r.result) ≡ Some (record { by_reference = false; type = named_type scope.globals t }) =
              ap (λ z. lookup x (result_variable scope.globals r.name z)) result ∙ ap (λ b. if b then Some (record { by_reference = false; type = named_type scope.globals t }) else None) same in
              let fits : ResultFits scope.globals (Some t) = subst (ResultFits scope.globals) result here.1 in
              absurd (true≢false (sym is ∙ ap (λ v. is_structured (meant v)) (all ∙ one) ∙ ap is_structured fits.0.1.is))

  pub uncalled_is_no_result : RoutineHere scope scope.routine → callee (environment_at scope at o) (Plain x) ≡ None → NoResult scope x
  uncalled_is_no_result here none = uncalled scope.routine here none

  pub structured_is_no_result : RoutineHere scope scope.routine → is_structured (place_type (environment_at scope at o) (Plain x)) ≡ true → NoResult scope x
  structured_is_no_result here is = structured scope.routine here is

-- ---- Variables

-- The root of the variable that a name means.
abbrev pub RootFor : Scope → Environment → Name → ResolvedType → Type 0
RootFor scope env x t = (r : Root) × (root_named scope x ≡ Some r) × NamesVariable env x r t

module _ (scope : Scope) (at : Location) (o : Owner) (x : Name) (l : Location) (v : Variable) where
  abbrev env_of : Option Routine → Environment
  env_of w = environment_at (of_routine scope w) at o

  of_local : (r : Routine) (k : ℕ) → meaning (env_of (Some r)) x ≡ IsVariable l v → l ≡ under (root o) (ByName x ∷ [])
      → local scope.globals r x ≡ Some (k, v) → RootFor (of_routine scope (Some r)) (env_of (Some r)) x v.type
  of_local r k means lies is = go v.by_reference refl
    where
      names : (b : Bool) → v.by_reference ≡ b → NamesLocal (env_of (Some r)) x k b v.type
      names b e = record {
        frame = record { owner = o; routine = r };
        runs = refl;
        variable = v;
        means = means ∙ ap (λ z. IsVariable z v) lies;
        lies = is;
        reference = e;
        type = refl;
      }

      go : (b : Bool) → v.by_reference ≡ b → RootFor (of_routine scope (Some r)) (env_of (Some r)) x v.type
      go true e =
          (Through k 0, ap (λ z. root_or_member z (member scope.globals scope.system x)) is ∙ ap (λ b. Some (if b then Through k 0 else Local k)) e, (refl, names true e))
      go false e =
          (Local k, ap (λ z. root_or_member z (member scope.globals scope.system x)) is ∙ ap (λ b. Some (if b then Through k 0 else Local k)) e, names false e)

  of_member : (w : Option Routine) → meaning (env_of w) x ≡ IsVariable l v → v.by_reference ≡ false → local_in (of_routine scope w) x ≡ None
      → IsOwnVariable (env_of w) x l v → is_component v.type ≡ false → RootFor (of_routine scope w) (env_of w) x v.type
  of_member w means value none own is_data =
      let k : (k : ℕ) × (member scope.globals scope.system x ≡ Some (k, v.type)) = is_member scope.globals scope.system x v own.found is_data in (
        Member k.0,
        ap (λ z. root_or_member z (member scope.globals scope.system x)) none ∙ ap (root_or_member None) k.1,
        record { variable = v; means = means ∙ ap (λ z. IsVariable z v) own.lies; lies = k.1; reference = value; type = refl },
      )

  rooted : (w : Option Routine) → RoutineHere (of_routine scope w) w → ((y : Name) (u : Variable) → lookup y (permanent_variables scope.globals scope.system) ≡ Some u → u.by_reference ≡ false)
      → meaning (env_of w) x ≡ IsVariable l v → NoResult (of_routine scope w) x → is_component v.type ≡ false
      → IsLocalVariable (env_of w) x l v ⊎ IsOwnVariable (env_of w) x l v → RootFor (of_routine scope w) (env_of w) x v.type
  rooted None here values means no_result is_data (inl h) = absurd (cc (h.running))
  rooted None here values means no_result is_data (inr h) = of_member None means (values x v h.found) refl h is_data
  rooted (Some r) here values means no_result is_data (inr h) =
      of_member (Some r) means (values x v h.found) (local_none scope.globals x (result_words r.result) (locals scope.globals r) none) h is_data
    where
      none : lookup x (locals scope.globals r) ≡ None
      none = go (lookup x (locals scope.globals r)) refl
        where
          go : (u : Option Variable) → lookup x (locals scope.globals r) ≡ u → u ≡ None
          go None e = refl
          go (Some u) e =
              absurd (cc (
                ap (lookup x) (sym (append_assoc (declarations scope.globals r.parameters) (declarations scope.globals r.variables) (result_variable scope.globals r.name r.result))),
                lookup_first x (locals scope.globals r) (result_variable scope.globals r.name r.result) u e,
                h.no_local,
              ))
  rooted (Some r) here values means no_result is_data (inl h) = go (lookup x (locals scope.globals r)) refl
    where
      frame_is : h.frame ≡ record { owner = o; routine = r }
      frame_is = sym (same_some (record { owner = o; routine = r }) h.frame h.running)

      found : lookup x (locals scope.globals r ++ result_variable scope.globals r.name r.result) ≡ Some v
      found =
          ap (lookup x) (append_assoc (declarations scope.globals r.parameters) (declarations scope.globals r.variables) (result_variable scope.globals r.name r.result))
          ∙ subst (λ f. lookup x (local_variables scope.globals f.routine) ≡ Some v) frame_is h.found

      lies : l ≡ under (root o) (ByName x ∷ [])
      lies = subst (λ f. l ≡ under (root f.owner) (ByName x ∷ [])) frame_is h.lies

      go : (u : Option Variable) → lookup x (locals scope.globals r) ≡ u → RootFor (of_routine scope (Some r)) (env_of (Some r)) x v.type
      go (Some u) e =
          let same : Some u ≡ Some v = sym (lookup_first x (locals scope.globals r) (result_variable scope.globals r.name r.result) u e) ∙ found in
          let k : (k : ℕ) × (local scope.globals r x ≡ Some (k, v)) = local_found scope.globals x (result_words r.result) (locals scope.globals r) v (e ∙ same) in
          of_local r k.0 means lies k.1
      go None e =
          absurd (true≢false (sym (by r.result refl (sym (lookup_later x (locals scope.globals r) (result_variable scope.globals r.name r.result) e) ∙ found)) ∙ no_result'))
        where
          no_result' : is_result_of (Some r) x ≡ false
          no_result' =
              sym (ap (λ z. elim z [ None ↦ is_result_of (Some r) x | Some w ↦ false ]) (local_none scope.globals x (result_words r.result) (locals scope.globals r) e))
              ∙ no_result

          by : (t : Option Name) → r.result ≡ t → lookup x (result_variable scope.globals r.name r.result) ≡ Some v → is_result_of (Some r) x ≡ true
          by None result h = absurd (cc (ap (λ z. lookup x (result_variable scope.globals r.name z)) result, h))
          by (Some t) result h = same (bytes_eq x r.name) refl
            where
              same : (b : Bool) → bytes_eq x r.name ≡ b → (if b then is_function r.result else false) ≡ true
              same true e = ap is_function result
              same false e =
                  absurd (cc (
                    ap (λ z. lookup x (result_variable scope.globals r.name z)) result,
                    ap (chosen (record { by_reference = false; type = named_type scope.globals t })) e,
                    h,
                  ))

  pub names_root : RoutineHere scope scope.routine → ((y : Name) (u : Variable) → lookup y (permanent_variables scope.globals scope.system) ≡ Some u → u.by_reference ≡ false)
      → meaning (environment_at scope at o) x ≡ IsVariable l v → NoResult scope x → is_component v.type ≡ false
      → RootFor scope (environment_at scope at o) x v.type
  names_root here values means no_result is_data =
      rooted scope.routine here values means no_result is_data (variables_lie (environment_at scope at o) x l v means)

-- ---- Constants

module _ (scope : Scope) (at : Location) (o : Owner) (x : Name) where
  rootless : (w : Option Routine) → lookup x (frame_variables scope.globals (frame_at o w)) ≡ None → lookup x (permanent_variables scope.globals scope.system) ≡ None
      → root_named (of_routine scope w) x ≡ None
  rootless None none own = ap (root_or_member None) (no_member scope.globals scope.system x own)
  rootless (Some r) none own =
      ap (λ z. root_or_member z (member scope.globals scope.system x)) (local_none scope.globals x (result_words r.result) (locals scope.globals r) no_local)
      ∙ ap (root_or_member None) (no_member scope.globals scope.system x own)
    where
      no_local : lookup x (locals scope.globals r) ≡ None
      no_local = go (lookup x (locals scope.globals r)) refl
        where
          go : (u : Option Variable) → lookup x (locals scope.globals r) ≡ u → u ≡ None
          go None e = refl
          go (Some u) e =
              absurd (cc (
                ap (lookup x) (sym (append_assoc (declarations scope.globals r.parameters) (declarations scope.globals r.variables) (result_variable scope.globals r.name r.result))),
                lookup_first x (locals scope.globals r) (result_variable scope.globals r.name r.result) u e,
                none,
              ))

  pub constant_has_no_root : (b : a.BaseType) (n : ℤ) → meaning (environment_at scope at o) x ≡ IsConstant b n
      → (root_named scope x ≡ None) × (lookup x scope.globals.constants ≡ Some (b, n))
  constant_has_no_root b n means =
      let h : IsGlobalConstant (environment_at scope at o) x b n = constants_are_global (environment_at scope at o) x b n means in
      (rootless scope.routine h.no_local h.no_own, h.found)
