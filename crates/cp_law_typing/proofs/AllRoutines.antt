-- All routines of a component, one after another.
use Rattle.std.proofs.Common.{◌≡◌, ℕ, zero, suc, ◌+◌, List, [], ◌∷◌, ◌++◌, Some, slice_get, length, map, refl, ap, sym, subst, ◌∙◌, arith, append_assoc, length-append}
use Rattle.cp_model.specs.Syntax as s
use Rattle.cp_model.specs.Abstract as a
use Rattle.cp_model.specs.Erase as erase
use Rattle.cp_model.specs.declared.tree.Sort.{Sort}
use Rattle.cp_model.specs.RulesEnvironment.{Environment}
use Rattle.cp_model.specs.RulesDeclarations.{Declared, routine, routines}
use Rattle.cp_model.specs.Types.{GlobalScope}
use Rattle.cp_law_typing.specs.WellTyped.{TypedRoutine}
use Rattle.cp_law_typing.proofs.Names.{AllDistinct, NewNames}
use Rattle.cp_model.proofs.Judging.{first_empty, rest_empty}
use Rattle.cp_law_typing.proofs.TableMeanings.{Types, grows_on, grows_same}
use Rattle.cp_law_typing.proofs.RoutineNames.{routine_names}
use Rattle.cp_law_typing.proofs.ComponentScopes.{ComponentScope, with_routine, RoutinesMade}
use Rattle.cp_law_typing.proofs.Routines.{routine_made}

module _ (G : GlobalScope → Type 0) (ys : List a.System) (y : a.System) where
  names_behind : (xs : List a.Routine) (x : a.Routine) → routine_names (xs ++ x ∷ []) ≡ routine_names xs ++ x.name ∷ []
  names_behind [] x = refl
  names_behind (w ∷ xs) x = ap (λ l. w.name ∷ l) (names_behind xs x)

  abbrev Body : ℕ → s.Routine → Type 0
  Body j q = (g : GlobalScope) → G g → TypedRoutine g ys y j (erase.routine q)

  pub routines_made : (z : Sort) → erase.sort_of z ≡ y.sort → AllDistinct (routine_names y.routines) → (qs : List s.Routine) (env : Environment) (rs : Types) (k : ℕ) → ComponentScope G ys y env rs k → (routines env z qs).violations ≡ []
      → (before : List a.Routine) → y.routines ≡ before ++ map erase.routine qs → length before ≡ k → NewNames (routine_names before) (routine_names (map erase.routine qs))
      → RoutinesMade G ys y env rs k qs (routines env z qs).env
  routines_made z sort_is alone [] env rs k c h before here count new = record {
    more = rs;
    grows = grows_same env env rs refl refl refl refl refl;
    components = λ t w i e. e;
    longer = omega arith;
    behind = subst (ComponentScope G ys y env rs) (omega arith) c;
    same = refl;
    typed = λ i q e. absurd (cc);
    counted = (refl, refl);
  }
  routines_made z sort_is alone (r ∷ qs) env rs k c h before here count new =
      let one : Declared = routine env z r in
      let first : RoutinesMade G ys y env rs k (r ∷ []) one.env =
      routine_made G ys y z sort_is env rs k c r (first_empty one.violations _ h) alone before (map erase.routine qs) here count new.0 in
      let next : ComponentScope G ys y one.env first.more (suc k) = subst (ComponentScope G ys y one.env first.more) (omega arith) first.behind in
      let here_next : y.routines ≡ (before ++ erase.routine r ∷ []) ++ map erase.routine qs =
      here ∙ sym (append_assoc before (erase.routine r ∷ []) (map erase.routine qs)) in
      let rest : RoutinesMade G ys y one.env first.more (suc k) qs (routines one.env z qs).env =
      routines_made z sort_is alone qs one.env first.more (suc k) next (rest_empty one.violations _ h) (before ++ erase.routine r ∷ []) here_next
      (length-append before (erase.routine r ∷ []) ∙ omega (arith, count))
      (subst (λ l. NewNames l (routine_names (map erase.routine qs))) (sym (names_behind before (erase.routine r))) new.1) in
      record {
        more = rest.more;
        grows = grows_on env one.env (routines one.env z qs).env rs first.more rest.more first.longer first.grows rest.grows;
        components = λ t w i e. first.components t w i (rest.components t w i e);
        longer = omega (arith, first.longer, rest.longer);
        behind = subst (ComponentScope G ys y (routines one.env z qs).env rest.more) (omega arith) rest.behind;
        same = rest.same ∙ ap (λ e. with_routine G ys y e (routines one.env z qs).env) first.same;
        typed = λ i q e g in_scope. either first.typed rest.typed i q e g in_scope;
        counted = (rest.counted.0 ∙ first.counted.0, rest.counted.1 ∙ first.counted.1);
      }
    where
      either : ((i : ℕ) (q : s.Routine) → slice_get (r ∷ []) i ≡ Some q → Body (k + i) q) → ((i : ℕ) (q : s.Routine) → slice_get qs i ≡ Some q → Body (suc k + i) q)
          → (i : ℕ) (q : s.Routine) → slice_get (r ∷ qs) i ≡ Some q → Body (k + i) q
      either f h zero q e = f zero q e
      either f h (suc i) q e = subst (λ j. Body j q) (omega arith) (h i q e)
