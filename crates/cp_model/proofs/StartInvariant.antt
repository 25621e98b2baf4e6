-- The invariant holds at the start.
use Rattle.std.specs.Prelude.{Bool, List, [], false, flat_map, if◌then◌else◌, map, nat_eq, refl, true, ℕ, ◌++◌, ◌+◌, ◌∷◌, ◌≡◌}
use Rattle.std.proofs.Common.{arith, subst}
use Rattle.std.proofs.lemmas.Bool.{eqb-true}
use Rattle.cp_model.specs.Abstract.{Class, Monitor, Name, Process, Sort}
use Rattle.cp_model.specs.Types.{ArrayOf, ComponentOf, NoType, Queue, RecordOf, ResolvedType, Simple}
use Rattle.cp_model.specs.Declarations.{Variable, declarations}
use Rattle.cp_model.specs.Locations.{Location, under}
use Rattle.cp_model.specs.Stores.{Absent, ClassRight, Initialised, MonitorRight, Ordinal, QueueHolds, Reference, Store, Value, Writes, put_all}
use Rattle.cp_model.specs.Leaves.{Leaf, leaves_of_members}
use Rattle.cp_model.specs.Environments.{Environment}
use Rattle.cp_model.specs.Continuations.{EndProcess, Task, depth, push}
use Rattle.cp_model.specs.Components.{count_before, monitor_location, process_location, process_number}
use Rattle.cp_model.specs.Configurations.{Ready, Unstarted}
use Rattle.cp_model.specs.Assignments.{starting_writes}
use Rattle.cp_model.specs.States.{Setup, State, initial_variables}
use Rattle.cp_model.specs.Rounds.{Event, replay_round}
use Rattle.cp_model.specs.Start.{component_writes, initial_environment, initial_writes, start, variable_writes}
use Rattle.cp_model.specs.Orders.{replay}
use Rattle.cp_model.specs.Invariant.{ContinuationInvariant, Invariant, IsBlocked, StoreInvariant}
use Rattle.cp_model.proofs.StoreInvariants.{AllKeepStore, AllPlain, IsPlain, KeepsStore, continuation_keeps_store, leaves_of_members_plain, push_continuation, put_all_no_new_reference, put_all_store, starting_writes_keep}
use Rattle.cp_model.proofs.StateInvariant.{invariant_of, replay_round_keeps}

module _ (setup : Setup) where
  map_keep : (at : Location) (ps : List Leaf) → AllPlain ps → AllKeepStore (map (λ leaf. (under at leaf.0, leaf.1)) ps)
  map_keep at [] h = tt
  map_keep at (x ∷ ps) h = (plain x.1 h.0, map_keep at ps h.1)
    where
      plain : (v : Value) → IsPlain v → KeepsStore (under at x.0) v
      plain (Reference j) h = h
      plain (ClassRight j) h = absurd h
      plain Absent h = tt
      plain (Ordinal n) h = tt
      plain (QueueHolds w) h = tt
      plain (MonitorRight m) h = tt
      plain (Initialised b) h = tt

  append_keep : (ws vs : Writes) → AllKeepStore ws → AllKeepStore vs → AllKeepStore (ws ++ vs)
  append_keep [] vs h k = k
  append_keep (x ∷ ws) vs h k = (h.0, append_keep ws vs h.1 k)

  variable_writes_keep : (env : Environment) (x : Name) (y : ResolvedType) → AllKeepStore (variable_writes env x y)
  variable_writes_keep env x (ComponentOf sys ps) = by_sort sys.sort
    where
      by_sort : (z : Sort) → AllKeepStore (component_writes env (record { name = x; system = sys; is_parameter = false }) z
          ps)
      by_sort Process = map_keep (process_location (process_number env
          (record { name = x; system = sys; is_parameter = false }))) (leaves_of_members ps) (leaves_of_members_plain ps)
      by_sort Monitor = map_keep (monitor_location (1 + count_before Monitor x
          (declarations env.globals env.system.variables))) (leaves_of_members ps) (leaves_of_members_plain ps)
      by_sort Class = tt
  variable_writes_keep env x (Simple b low high st) = tt
  variable_writes_keep env x (ArrayOf low high e) = tt
  variable_writes_keep env x (RecordOf ps) = tt
  variable_writes_keep env x Queue = tt
  variable_writes_keep env x NoType = tt

  all_variable_writes_keep : (env : Environment) (vs : List (Name × Variable))
      → AllKeepStore (flat_map (λ v. variable_writes env v.0 v.1.type) vs)
  all_variable_writes_keep env [] = tt
  all_variable_writes_keep env (v ∷ vs) = append_keep (variable_writes env v.0 v.1.type) _
      (variable_writes_keep env v.0 v.1.type) (all_variable_writes_keep env vs)

  abbrev nowhere : Store
  nowhere l = Absent

  nowhere_store : StoreInvariant nowhere
  nowhere_store = record { references = λ l j e. absurd (Prim.grind arith); classes = λ l j e. absurd (Prim.grind arith) }

  first_continuation : List Task
  first_continuation = push setup.tree.initial.body (initial_environment setup) (EndProcess ∷ [])

  first_continuation_invariant : ContinuationInvariant 1 nowhere first_continuation
  unfolding first_continuation
  first_continuation_invariant = push_continuation 1 nowhere setup.tree.initial.body (initial_environment setup)
      (EndProcess ∷ []) (record { component = refl; frame = tt })
      (record { tasks = (tt, tt); frames = tt; beyond = λ l j d n e f. absurd (Prim.grind arith) })

  pub start_invariant : Invariant (start setup)
  unfolding first_continuation
  start_invariant = invariant_of setup (start setup) (put_all_store (initial_writes setup) nowhere writes nowhere_store)
      (λ p. ok p (nat_eq 1 p) refl) (λ p h. absurd (at (nat_eq 1 p) h)) (λ p h. flat (nat_eq 1 p) h)
    where
      writes : AllKeepStore (initial_writes setup)
      writes = append_keep (starting_writes (initial_environment setup).component (initial_variables setup)) _
          (starting_writes_keep (initial_environment setup).component (initial_variables setup))
          (all_variable_writes_keep (initial_environment setup) (initial_variables setup))

      ok : (p : ℕ) (b : Bool) → nat_eq 1 p ≡ b → ContinuationInvariant p (put_all (initial_writes setup) nowhere)
          (if b then first_continuation else [])
      ok p true e = subst (λ n. ContinuationInvariant n (put_all (initial_writes setup) nowhere) first_continuation) (eqb-true 1 p e) (continuation_keeps_store 1 nowhere (put_all (initial_writes setup) nowhere) first_continuation (put_all_no_new_reference (initial_writes setup) nowhere writes) first_continuation_invariant)
      ok p false e = record {
        tasks = tt;
        frames = tt;
        beyond = λ l j d n h f. absurd (empty l j (put_all_no_new_reference (initial_writes setup) nowhere writes l j f));
      }
        where
          empty : (l j : Location) → Absent ≡ Reference j → ⊥
          empty l j h = Prim.grind arith

      at : (b : Bool) → IsBlocked (if b then Ready else Unstarted) → ⊥
      at true h = h
      at false h = h

      flat : (b : Bool) → (if b then Ready else Unstarted) ≡ Unstarted → depth (if b then first_continuation else []) ≡ 0
      flat true h = absurd (Prim.grind arith)
      flat false h = refl

  pub replay_keeps : (rs : List (ℕ × List Event)) (s : State) → Invariant s → Invariant (replay setup s rs)
  replay_keeps [] s i = i
  replay_keeps (r ∷ rs) s i = replay_keeps rs (replay_round setup r.0 s r.1) (replay_round_keeps setup r.0 s r.1 i)
