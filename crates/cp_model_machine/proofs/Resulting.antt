-- Storing the result of the running function.
use Rattle.std.proofs.Common.{◌≡◌, ◌⊎◌, inl, inr, ℕ, suc, ◌+◌, ◌≤◌, ◌<◌, ℤ, pos, List, [], ◌∷◌, length, Bool, true, false, Some, None, refl, ap, sym, subst, ◌∙◌, arith}
use Rattle.std.specs.Prelude.{if◌then◌else◌, nat_eq, slice_set}
use Rattle.std.proofs.lemmas.Bool.{eqb-true, eq-eqb, true≢false}
use Rattle.std.proofs.lemmas.List.{get_or-set_same, length-set}
use Rattle.cp_model.specs.Abstract.{Name, System}
use Rattle.cp_model.specs.CallSteps.{result_location}
use Rattle.cp_model.specs.Continuations.{Task}
use Rattle.cp_model.specs.Declarations.{reported_members}
use Rattle.cp_model.specs.Environments.{Frame}
use Rattle.cp_model.specs.Locations.{ByName, Location, OfActivation, Path, same_location, under}
use Rattle.cp_model.specs.Stores.{Ordinal, Store, put}
use Rattle.cp_model.specs.Types.{ComponentOf}
use Rattle.cp_model.proofs.Options.{same_some}
use Rattle.cp_law_typing.specs.Needs.{result_words}
use Rattle.cp_model_program.specs.Layout.{local, natural}
use Rattle.cp_model_program.specs.Starts.{unset, word}
use Rattle.cp_model_machine.specs.PrivateStates.{PrivateState, set_word}
use Rattle.cp_model_machine.specs.Means.{CellMeans}
use Rattle.cp_model_machine.specs.Addresses.{Activation, ClassLies, ComponentLies, Ground, MonitorLies, ProcessLies, activation_at, activations, in_sight, lies, scope}
use Rattle.cp_model_machine.specs.Remaining.{held_below, site}
use Rattle.cp_model_machine.specs.PartOf.{ActivationMeans, ResultMeans, RunsOn}
use Rattle.cp_model_machine.proofs.Apart.{InHead, cell_head}
use Rattle.cp_model_machine.proofs.Finding.{some_is_not_none}
use Rattle.cp_model_machine.proofs.Heres.{Top, found_here, top_is}
use Rattle.cp_model_machine.proofs.Holding.{live_owner, put_apart, result_no_variable}
use Rattle.cp_model_machine.proofs.Keeping.{KeepsData, activation_kept, depth_of, local_named, right_place}
use Rattle.cp_model_machine.proofs.RunningOn.{runs_room, runs_stacked, runs_with_data}
use Rattle.cp_model_machine.proofs.Owned.{OwnRight, reference_inside, result_inside}
use Rattle.cp_model_machine.proofs.Separate.{cell_no_result, local_no_own_right, locals_apart}
use Rattle.cp_model_machine.proofs.Stacks.{Stacked, found_inside}
use Rattle.cp_law_typing.proofs.Locations.{location_itself}
use Rattle.cp_model_machine.proofs.Writing.{changed_other}

abbrev pub name_of_path : Name → Path → Name
name_of_path d (ByName x ∷ p) = x
name_of_path d _ = d

abbrev pub runs_resulted : (G : Ground) (store : Store) (o : PrivateState) (k : List Task) (R : RunsOn G store o k) (f : Frame) (t : Name) (v : ℤ)
    → R.running.env.frame ≡ Some f → f.routine.result ≡ Some t → local (scope G) f.routine f.routine.name ≡ None → (v ≡ unset → ⊥)
    → RunsOn G (put (result_location f) (Ordinal v) store) (set_word o o.base v) k
runs_resulted G store o k R f t v runs is none differs =
    runs_with_data G store after o new k R (length-set o.words o.base v) (λ rest g c owner there m. by rest g c owner there m (nat_eq (length rest) (length T.rest)) refl) keeps
  where
    xs : List Activation
    xs = activations o.base o.frames k

    top : ℕ
    top = o.base + (site G R.running).words

    stack : Stacked G top xs
    stack = runs_stacked G store o k R

    T : Top G o.temps o.limit o.base store o.words o.frames k f
    T = top_is G o.temps o.limit store o.words o.base (held_below R.live o.temps R.running.temp) R.running o.frames o.counter R.running.unit.temps k f R.left R.activations_mean runs

    z0 : Activation
    z0 = record { base = o.base; routine = f.routine }

    L : Location
    L = result_location f

    after : Store
    after = put (result_location f) (Ordinal v) store

    new : List ℤ
    new = slice_set o.words o.base v

    there0 : activation_at (length T.rest) xs ≡ Some z0
    there0 = ap (activation_at (length T.rest)) T.are ∙ found_here (length T.rest) z0 T.rest refl

    L_is : L ≡ local_named G (length T.rest) f.routine.name
    L_is = λ i. record { owner = T.owner i; path = ByName f.routine.name ∷ [] }

    no_variable : lies G xs L ≡ None
    no_variable = ap (lies G xs) L_is ∙ result_no_variable G xs (length T.rest) z0 f.routine.name there0 none

    owners : (at : Location) (s : System) (n : ℕ) → ComponentLies G at s n → at.owner ≡ OfActivation G.p (length T.rest) → ⊥
    owners at s n (ProcessLies w i z) e = absurd (omega (arith, ap (depth_of (suc (length T.rest))) (sym (ap (λ (l : Location). l.owner) w) ∙ e)))
    owners at s n (MonitorLies j w i z) e = absurd (omega (arith, ap (depth_of (suc (length T.rest))) (sym (ap (λ (l : Location). l.owner) w) ∙ e)))
    owners at s n (ClassLies c i) e = absurd (omega (arith, live_owner G [] at _ (length T.rest) i e))

    right_apart : (at : Location) (s : System) (n m : ℕ) → in_sight G at.owner ≡ true → n + m ≡ o.base
        → OwnRight G (n + m) ⊎ ((lies G xs at ≡ Some (n, ComponentOf s (reported_members (scope G) s))) × InHead (scope G) (ComponentOf s (reported_members (scope G) s)) m × (1 ≤ m)) → ⊥
    right_apart at s n m mine e (inl r) = local_no_own_right G xs top stack (length T.rest) (n + m) z0 there0 (omega (arith, e)) (omega (arith, e, result_inside (scope G) f.routine t is)) r
    right_apart at s n m mine e (inr r) = cell_no_result G xs top stack at n (ComponentOf s (reported_members (scope G) s)) m (length T.rest) z0 t mine r.1 r.0 there0 is e

    keeps : KeepsData G store after o.words new xs
    keeps = record {
      cells = λ l n u mine c h m.
          subst (λ z. CellMeans u z (word new n)) (sym (put_apart L l (Ordinal v) store (λ e. some_is_not_none _ (sym h ∙ (ap (lies G xs) (sym e) ∙ no_variable)))))
          (subst (λ z. CellMeans u (store l) z) (sym (changed_other o.words n o.base v (λ e. cell_no_result G xs top stack l n u 0 (length T.rest) z0 t mine (cell_head (scope G) u c) h there0 is (omega (arith, e))))) m);
      rights = λ at s n m x w mine cl r no. (
        put_apart L (under at (ByName x ∷ [])) (Ordinal v) store (λ e. owners at s n cl (sym (ap (λ (j : Location). j.owner) e) ∙ T.owner)),
        changed_other o.words (n + m) o.base v (λ e. right_apart at s n m mine e (right_place G xs at s n m x w mine cl r)),
      );
      stored = λ at s n x sort there no. put_apart L (under at (ByName x ∷ [])) (Ordinal v) store (λ e. owners at s n (ClassLies sort there) (sym (ap (λ (j : Location). j.owner) e) ∙ T.owner));
      marks = λ at s n mine sort there. put_apart L at (Ordinal v) store (λ e. owners at s n (ClassLies sort there) (sym (ap (λ (j : Location). j.owner) e) ∙ T.owner));
    }

    room : o.base < length o.words
    room = omega (arith, (found_inside G top (length T.rest) xs z0 stack.stack there0).0, result_inside (scope G) f.routine t is, runs_room G store o k R)

    -- What belongs to the running function: its `var` parameters and the new result.
    own : (rest : List Activation) (g : Frame) (c : ℕ) → g.owner ≡ OfActivation G.p (length T.rest) → ◌≡◌ {A = Activation} (record { base = c; routine = g.routine }) z0
        → ActivationMeans G rest store o.words c g → ActivationMeans G rest after new c g
    own rest g c owner same m = record {
      references = λ x at d found by_reference.
          let r = m.references x at d found by_reference in
          let found0 : local (scope G) f.routine x ≡ Some (at, d) = ap (λ (y : Activation). local (scope G) y.routine x) (sym same) ∙ found in (
            r.0,
            put_apart L (record { owner = g.owner; path = ByName x ∷ [] }) (Ordinal v) store
                (λ e. some_is_not_none (at, d) (sym found0 ∙ (ap (local (scope G) f.routine) (sym (ap (λ (j : Location). name_of_path [] j.path) e)) ∙ none))) ∙ r.1,
            r.2 ∙ ap (λ z. Some (natural z, d.type)) (sym (changed_other o.words (c + at) o.base v
                (λ e. absurd (omega (arith, e, ap (λ (y : Activation). y.base) same, (reference_inside (scope G) f.routine x at d found0 by_reference).0, ap result_words is))))),
          );
      result = λ u found no.
          let names : g.routine.name ≡ f.routine.name = ap (λ (y : Activation). y.routine.name) same in
          let loc : L ≡ result_location g = λ i. record { owner = (T.owner ∙ sym owner) i; path = ByName (sym names i) ∷ [] } in
          let stored : after (result_location g) ≡ Ordinal v = ap (λ b. if b then Ordinal v else store (result_location g)) (ap (same_location L) (sym loc) ∙ location_itself L) in
          let held : word new c ≡ v = ap (word new) (ap (λ (y : Activation). y.base) same) ∙ get_or-set_same o.words o.base v (pos 0) room in
          subst (λ z. ResultMeans z (word new c)) (sym stored) (held, λ e. differs (sym held ∙ e));
    }

    by : (rest : List Activation) (g : Frame) (c : ℕ) → g.owner ≡ OfActivation G.p (length rest) → activation_at (length rest) xs ≡ Some (record { base = c; routine = g.routine })
        → ActivationMeans G rest store o.words c g → (b : Bool) → nat_eq (length rest) (length T.rest) ≡ b → ActivationMeans G rest after new c g
    by rest g c owner there m true e =
        let d : length rest ≡ length T.rest = eqb-true (length rest) (length T.rest) e in
        own rest g c (owner ∙ ap (OfActivation G.p) d) (same_some {A = Activation} (record { base = c; routine = g.routine }) z0 (sym there ∙ (ap (λ n. activation_at n xs) d ∙ there0))) m
    by rest g c owner there m false e =
        activation_kept G store after o.words new rest c (length rest) g owner (
          λ x at d found by_reference. (
            put_apart L (local_named G (length rest) x) (Ordinal v) store (other x),
            changed_other o.words (c + at) o.base v (λ q. locals_apart G xs top stack (length rest) (length T.rest) (c + at) o.base (record { base = c; routine = g.routine }) z0 there there0 differ
                (omega arith) (omega (arith, (reference_inside (scope G) g.routine x at d found by_reference).1)) (omega arith) (omega (arith, result_inside (scope G) f.routine t is)) q),
          ),
          λ u found no. (
            put_apart L (local_named G (length rest) g.routine.name) (Ordinal v) store (other g.routine.name),
            changed_other o.words c o.base v (λ q. locals_apart G xs top stack (length rest) (length T.rest) c o.base (record { base = c; routine = g.routine }) z0 there there0 differ
                (omega arith) (omega (arith, result_inside (scope G) g.routine u found)) (omega arith) (omega (arith, result_inside (scope G) f.routine t is)) q),
          ),
        ) m
      where
        differ : length rest ≡ length T.rest → ⊥
        differ d = true≢false (sym (eq-eqb (length rest) (length T.rest) d) ∙ e)

        other : (x : Name) → L ≡ local_named G (length rest) x → ⊥
        other x q = differ (ap (depth_of 0) (sym (ap (λ (j : Location). j.owner) q) ∙ T.owner))
