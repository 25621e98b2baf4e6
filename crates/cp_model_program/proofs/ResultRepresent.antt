-- The name of a running function means its result, if it is compiled as a result.
use Rattle.std.proofs.Common.{◌≡◌, ℕ, ℤ, List, [], ◌++◌, Option, Some, None, refl, ap, sym, subst, ◌∙◌, Bool, true, false, if◌then◌else◌, bytes_eq, append_assoc}
use Rattle.std.proofs.lemmas.Bool.{true≢false}
use Rattle.cp_model.specs.Abstract.{Name, Plain, Routine}
use Rattle.cp_model.specs.Names.{lookup}
use Rattle.cp_model.specs.Types.{ResolvedType, Simple, base_of_type, named_type}
use Rattle.cp_model.specs.Declarations.{Variable, declarations}
use Rattle.cp_model.specs.Environments.{Environment, IsVariable, meaning, result_variable, variable_or}
use Rattle.cp_model.specs.Locations.{Location, Owner}
use Rattle.cp_law_typing.specs.Judgement.{IsSimple}
use Rattle.cp_law_typing.specs.Declared.{ResultFits}
use Rattle.cp_law_typing.specs.Needs.{result_words}
use Rattle.cp_law_typing.specs.StaticTypes.{place_type, place_type_meant}
use Rattle.cp_law_typing.proofs.Names.{bytes_same, lookup_later}
use Rattle.cp_model_program.specs.Layout.{local, locals}
use Rattle.cp_model_program.specs.Sites.{local_location}
use Rattle.cp_model_program.specs.StatementsFor.{NamesResult, is_function}
use Rattle.cp_model_program.specs.Scopes.{Scope}
use Rattle.cp_model_program.specs.CodedStatements.{high_of, is_result, is_result_of, low_of}
use Rattle.cp_model_program.proofs.Environments.{environment_at}
use Rattle.cp_model_program.proofs.Found.{local_found, local_none}
use Rattle.cp_model_program.proofs.NamesRepresent.{local_is_no_result, of_routine}
use Rattle.cp_model_program.proofs.Representing.{RoutineHere}
use Rattle.cp_model_program.proofs.PlaceExpressionsRepresent.{simple_is}

pub bounds_are : (t : ResolvedType) → IsSimple t → (start : ℤ) × (t ≡ Simple (base_of_type t) (low_of t) (high_of t) start)
bounds_are t s =
    let k = simple_is t s in (
      k.2,
      k.3 ∙ ap (λ l. Simple (base_of_type t) l k.1 k.2) (sym (ap low_of k.3)) ∙ ap (λ h. Simple (base_of_type t) (low_of t) h k.2) (sym (ap high_of k.3)),
    )

module _ (scope : Scope) (at : Location) (o : Owner) (x : Name) where
  abbrev env_of : Option Routine → Environment
  env_of w = environment_at (of_routine scope w) at o

  abbrev result : Name → Variable
  result t = record { by_reference = false; type = named_type scope.globals t }

  abbrev one : Variable → Bool → Option Variable
  one v b = if b then Some v else None

  -- its type is that of the result, with the same bounds
  pub record Resulting (w : Option Routine) : Type 0 where
    pub names : NamesResult (env_of w) x (low_of (place_type (env_of w) (Plain x))) (high_of (place_type (env_of w) (Plain x)))
    pub simple : IsSimple (place_type (env_of w) (Plain x))

  from_result : (r : Routine) (t : Name) → r.result ≡ Some t → x ≡ r.name → lookup x (locals scope.globals r) ≡ None → IsSimple (named_type scope.globals t)
      → meaning (env_of (Some r)) x ≡ IsVariable (local_location (record { owner = o; routine = r }) x) (result t) → Resulting (Some r)
  from_result r t of is none simple means =
      let type : place_type (env_of (Some r)) (Plain x) ≡ named_type scope.globals t = ap place_type_meant means in
      let k = bounds_are (named_type scope.globals t) simple in
      record {
        names = record {
          frame = record { owner = o; routine = r };
          runs = refl;
          is_name = is;
          variable = result t;
          means = means;
          reference = refl;
          base = base_of_type (named_type scope.globals t);
          start = k.0;
          function = (t, of);
          named = subst (λ z. named_type scope.globals t ≡ Simple (base_of_type (named_type scope.globals t)) (low_of z) (high_of z) k.0) (sym type) k.1;
          no_local = subst (λ y. local scope.globals r y ≡ None) is (local_none scope.globals x (result_words r.result) (locals scope.globals r) none);
          type = subst (λ z. named_type scope.globals t ≡ Simple (base_of_type (named_type scope.globals t)) (low_of z) (high_of z) k.0) (sym type) k.1;
        };
        simple = subst IsSimple (sym type) simple;
      }

  resulting : (w : Option Routine) → RoutineHere (of_routine scope w) w → is_result (of_routine scope w) (Plain x) ≡ true → Resulting w
  resulting None here is = absurd (true≢false (sym is))
  resulting (Some r) here is = go (lookup x (locals scope.globals r)) refl
    where
      own : List (Name × Variable)
      own = locals scope.globals r

      go : (v : Option Variable) → lookup x own ≡ v → Resulting (Some r)
      go (Some v) e =
          let k : (k : ℕ) × (local scope.globals r x ≡ Some (k, v)) = local_found scope.globals x (result_words r.result) own v e in
          absurd (true≢false (sym is ∙ local_is_no_result (local scope.globals r x) (k.0, v) (is_result_of (Some r) x) k.1))
      go None e =
          by (bytes_eq x r.name) refl r.result refl
          (sym (ap (λ z. elim z [ None ↦ is_result_of (Some r) x | Some w ↦ false ]) (local_none scope.globals x (result_words r.result) own e)) ∙ is)
        where
          by : (b : Bool) → bytes_eq x r.name ≡ b → (t : Option Name) → r.result ≡ t → is_result_of (Some r) x ≡ true → Resulting (Some r)
          by false same t of h = absurd (true≢false (sym h ∙ ap (λ b. if b then is_function r.result else false) same))
          by true same None of h =
              absurd (true≢false (sym h ∙ ap (λ b. if b then is_function r.result else false) same ∙ ap is_function of))
          by true same (Some t) of h =
              let fits : ResultFits scope.globals (Some t) = subst (ResultFits scope.globals) of here.1 in
              let all : lookup x (declarations scope.globals r.parameters ++ (declarations scope.globals r.variables ++ result_variable scope.globals r.name r.result)) ≡ Some (result t) =
              ap (lookup x) (sym (append_assoc (declarations scope.globals r.parameters) (declarations scope.globals r.variables) (result_variable scope.globals r.name r.result)))
              ∙ lookup_later x own (result_variable scope.globals r.name r.result) e
              ∙ ap (λ z. lookup x (result_variable scope.globals r.name z)) of ∙ ap (one (result t)) same in
              from_result r t of (bytes_same x r.name same) e fits.0 (ap (λ v. variable_or v o [] x (meaning (env_of None) x)) all)

  pub result_represents : RoutineHere scope scope.routine → is_result scope (Plain x) ≡ true → Resulting scope.routine
  result_represents here is = resulting scope.routine here is
