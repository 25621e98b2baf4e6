-- Calls and the `init` of a class or a monitor change no words but the process's own and those of
-- monitors.
use Rattle.std.proofs.Common.{◌≡◌, ◌⊎◌, inl, inr, ℕ, suc, ◌+◌, ◌≤◌, ◌<◌, ℤ, pos, List, [], length, Bool, true, false, Option, Some, None, refl, ap, sym, subst, ◌∙◌, arith}
use Rattle.std.specs.Prelude.{if◌then◌else◌, not, slice_get}
use Rattle.cp_model.specs.Abstract.{Class, Name, Routine, System}
use Rattle.cp_model.specs.Declarations.{Variable, declarations, is_component}
use Rattle.cp_model.specs.Integers.{same_integer}
use Rattle.cp_model.specs.Locations.{Location}
use Rattle.cp_model.specs.declared.state.Fault.TheVariants as fault
use Rattle.cp_law_typing.specs.Declared.{Distinct}
use Rattle.cp_law_typing.specs.StartValues.{IsIn}
use Rattle.cp_law_typing.specs.Words.{words}
use Rattle.cp_model_program.specs.Layout.{activation_words, component_words, head_words, rights}
use Rattle.cp_model_program.specs.Programs.{Call, CodeUnit}
use Rattle.cp_model_program.specs.Sites.{RoutineOf}
use Rattle.cp_model_program.specs.IsProgramFor.{UnitRepresents}
use Rattle.cp_model_program.specs.Starts.{block, paste, carry_out, word}
use Rattle.cp_model_program.specs.Terms.{Argument}
use Rattle.cp_model_machine.specs.PrivateStates.{Acting, Enters, Opens, StepContext, PrivateState, private_outcome, guard, set_word}
use Rattle.cp_model_machine.specs.Passing.{Called, component_called, monitor_start, pass_all, when_passed}
use Rattle.cp_model_machine.specs.Calling.{Back, call_step, class_at, enter, gate_effect, has_room, init_class, init_monitor, settle, start_words}
use Rattle.cp_model_machine.specs.Addresses.{Activation, ClassLies, ComponentLies, Ground, MonitorLies, ProcessLies, component_type, lies, scope}
use Rattle.cp_model_machine.proofs.Apart.{IsClass, cell_has_word, head_inside}
use Rattle.cp_model_machine.proofs.Copying.{Inside, copied_outside, inside_or_not}
use Rattle.cp_model_machine.proofs.Heres.{lies_any, member_lies}
use Rattle.cp_model_machine.proofs.InitOffsets.{Offset, offset_at, right_is}
use Rattle.cp_model_machine.proofs.Apart.{IsCell}
use Rattle.cp_model_machine.proofs.Owned.{result_inside}
use Rattle.cp_model_machine.proofs.PassedWords.{LieBelow, passes_below}
use Rattle.cp_model_machine.proofs.Settling.{stored_at}
use Rattle.cp_model_machine.proofs.Spares.{IsSpared, Spares, part_spared, passed_spares, provided_spares, spares_trans, word_spares}
use Rattle.cp_model_machine.proofs.Stacks.{Stacked, bottom_below}

-- ---- what is passed

-- What is passed is among the process's own words.
pub passing_spares : (G : Ground) (w : StepContext) (to home n : ℕ) (xs : List Argument) (o : PrivateState) → to + n ≤ G.own → LieBelow n xs → Spares G o.words (pass_all w to home xs o).own.words
passing_spares G w to home n xs o room below i spared = (passes_below w to home n xs o below).1 i (inr (omega (arith, room, spared.0)))

-- A step that needs a unit, which is there.
unit_spares : (G : Ground) (w : StepContext) (o : PrivateState) (call : Call) (component : ℕ) (u : CodeUnit) (go : CodeUnit → Acting) → slice_get G.program.units call.routine ≡ Some u → Spares G o.words (go u).0.words
    → Spares G o.words (elim (slice_get G.program.units call.routine) as (λ z. Acting) [ None ↦ private_outcome o | Some v ↦ if has_room w o call v component then go v else private_outcome o ]).0.words
unit_spares G w o call component u go there h =
    subst (λ (z : Option CodeUnit). Spares G o.words (elim z as (λ y. Acting) [ None ↦ private_outcome o | Some v ↦ if has_room w o call v component then go v else private_outcome o ]).0.words) (sym there)
    (by (has_room w o call u component))
  where
    by : (b : Bool) → Spares G o.words (if b then go u else private_outcome o).0.words
    by true = h
    by false = λ i spared. refl

-- ---- calls

module _ (G : Ground) (w : StepContext) (o : PrivateState) (call : Call) (back : Back) (y : System) (r : Routine) (u : CodeUnit) (there : slice_get G.program.units call.routine ≡ Some u)
    (represents : UnitRepresents G.program G.texts (scope G) u (RoutineOf y r)) (room : o.base + call.words + u.words ≤ G.own) (enough : G.own ≤ length o.words)
    (below : LieBelow (activation_words (scope G) r) call.arguments) where
  abbrev to : ℕ
  to = o.base + call.words

  started_spares : (ws : List ℤ) → length ws ≡ length o.words → Spares G ws (carry_out to u.starts ws)
  started_spares ws same i spared =
      represents.0.outside to ws i (omega (arith, represents.1, room, same, enough)) (inr (omega (arith, represents.1, room, spared.0)))
      (λ t is e. absurd (omega (arith, e, spared.0, result_inside (scope G) r t is, represents.1, room)))

  pub call_spares : Spares G o.words (call_step G.program w o call back).0.words
  call_spares =
      unit_spares G w o call c.component u (λ v. guard c.is_set o fault.NotInitialised (when_passed (pass_all w to to call.arguments o) (entering v))) there
      (provided_spares G o c.is_set fault.NotInitialised (when_passed (pass_all w to to call.arguments o) (entering u))
      (passed_spares G o (pass_all w to to call.arguments o) (entering u)
      (passing_spares G w to to (activation_words (scope G) r) call.arguments o (omega (arith, represents.1, room)) below)
      (started_spares (pass_all w to to call.arguments o).own.words (passes_below w to to (activation_words (scope G) r) call.arguments o below).0)))
    where
      c : Called
      c = component_called G.program w o call.target

      entering : CodeUnit → PrivateState → Acting
      entering v p = (enter (start_words to v p) c v call back, gate_effect c.gate Enters)

-- ---- inits

module _ (G : Ground) (xs : List Activation) (top : ℕ) (stack : Stacked G top xs) (at : Location) (c : ℕ) (s : System) (there : ComponentLies G at s c) (distinct : Distinct (declarations (scope G) s.parameters))
    (one : (p : Name × Variable) → IsIn p (declarations (scope G) s.parameters) → is_component p.1.type ≡ false → (words (scope G) p.1.type ≡ 1) × IsCell p.1.type) where
  abbrev size : ℕ
  size = length (declarations (scope G) s.parameters)

  -- No spared word is one of the component's parameters.
  parameters_spared : (i : ℕ) → IsSpared G i → (i < c + 1) ⊎ (c + 1 + size ≤ i)
  parameters_spared i spared = by (inside_or_not (c + 1) size i)
    where
      member_apart : (k : ℕ) (p : Name × Variable) → IsCell p.1.type → i ≡ c + k → (i < c + k) ⊎ (c + k + words (scope G) p.1.type ≤ i) → ⊥
      member_apart k p cell e (inl q) = omega (arith, q, e)
      member_apart k p cell e (inr q) = omega (arith, q, e, cell_has_word (scope G) p.1.type cell)

      right_apart : (k : ℕ) → k < head_words (scope G) s → i ≡ c + k → ComponentLies G at s c → ⊥
      right_apart k inside e (ProcessLies where' is zero') = omega (arith, inside, e, zero', bottom_below G top xs stack.stack s is, stack.fits, spared.0)
      right_apart k inside e (MonitorLies m where' is from) = blocks (spared.1 m s is)
        where
          blocks : (i < G.own + monitor_start G.program m) ⊎ (G.own + monitor_start G.program m + component_words (scope G) s ≤ i) → ⊥
          blocks (inl q) = omega (arith, q, e, from)
          blocks (inr q) = omega (arith, q, e, from, inside)
      right_apart k inside e (ClassLies sort is) = blocks (part_spared G xs top stack at c (component_type G s) (lies_any G xs at _ is) i spared)
        where
          blocks : (i < c) ⊎ (c + words (scope G) (component_type G s) ≤ i) → ⊥
          blocks (inl q) = omega (arith, q, e)
          blocks (inr q) = omega (arith, q, e, head_inside (scope G) (component_type G s) k (subst IsClass (sym sort) tt, inside))

      inner : (k : ℕ) (p : Name × Variable) → Offset (scope G) s p k → i ≡ c + k → ⊥
      inner k p (inl h) e = right_apart k (omega (arith, (right_is 1 (rights (scope G) s) p.0 k p.1 h.1).1)) e there
      inner k p (inr h) e =
          member_apart k p h.2 e (part_spared G xs top stack (stored_at at p.0) (c + k) p.1.type (member_lies G xs at s c p.0 k p.1.type there h.1) i spared)

      by : Inside (c + 1) size i ⊎ ((i < c + 1) ⊎ (c + 1 + size ≤ i)) → (i < c + 1) ⊎ (c + 1 + size ≤ i)
      by (inr apart) = apart
      by (inl h) =
          let found = offset_at (scope G) s distinct one (suc h.0) (omega arith) (omega (arith, h.1)) in absurd (inner (suc h.0) found.0 found.2 (omega (arith, h.2)))

  module _ (w : StepContext) (o : PrivateState) (call : Call) (next : ℕ) (u : CodeUnit) (has : slice_get G.program.units call.routine ≡ Some u) (counted : length call.arguments ≡ size)
      (below : LieBelow (1 + size) call.arguments) (room : o.base + call.words + (1 + size) ≤ G.own) where
    abbrev from : ℕ
    from = o.base + call.words

    abbrev back : Back
    back = record { counter = next; into = 0 }

    settle_spares : (p : PrivateState) → Spares G p.words (settle p from c (length call.arguments)).words
    settle_spares p i spared =
        ap (λ z. word (paste (c + 1) (block p.words (from + 1) z) p.words) i) counted ∙ copied_outside p.words p.words (c + 1) (from + 1) size i (parameters_spared i spared)

    passed_on : Spares G o.words (pass_all w from c call.arguments o).own.words
    passed_on = passing_spares G w from c (1 + size) call.arguments o room below

    pub class_spares : s.sort ≡ Class → lies G [] at ≡ Some (c, component_type G s) → Spares G o.words (init_class G.program w o call c next).0.words
    class_spares sort is =
        unit_spares G w o call c u (λ v. guard (same_integer (word o.words c) (pos 0)) o fault.InitialisedTwice (when_passed (pass_all w from c call.arguments o) (entering v))) has
        (provided_spares G o (same_integer (word o.words c) (pos 0)) fault.InitialisedTwice (when_passed (pass_all w from c call.arguments o) (entering u))
        (passed_spares G o (pass_all w from c call.arguments o) (entering u) passed_on (marked (pass_all w from c call.arguments o).own)))
      where
        entering : CodeUnit → PrivateState → Acting
        entering v p = private_outcome (enter (set_word (settle p from c (length call.arguments)) c (pos 1)) (class_at c) v call back)

        marked : (p : PrivateState) → Spares G p.words (entering u p).0.words
        marked p =
            let q = settle p from c (length call.arguments) in
            spares_trans G p.words q.words (set_word q c (pos 1)).words (settle_spares p)
            (word_spares G xs top stack q.words at c (component_type G s) (pos 1) (subst IsClass (sym sort) tt) (lies_any G xs at _ is))

    pub monitor_spares : (m : ℕ) → c ≡ w.own + monitor_start G.program m → Spares G o.words (init_monitor G.program w o call m next).0.words
    monitor_spares m is =
        subst (λ z. Spares G o.words (elim (slice_get G.program.units call.routine) as (λ y. Acting) [ None ↦ private_outcome o | Some v ↦ if has_room w o call v z then going z v else private_outcome o ]).0.words) is
        (unit_spares G w o call c u (going c) has
        (provided_spares G o (not (w.is_set m)) fault.InitialisedTwice (when_passed (pass_all w from c call.arguments o) (entering c u))
        (passed_spares G o (pass_all w from c call.arguments o) (entering c u) passed_on (settle_spares (pass_all w from c call.arguments o).own))))
      where
        entering : ℕ → CodeUnit → PrivateState → Acting
        entering z v p = (enter (settle p from z (length call.arguments)) (record { component = z; is_set = w.is_set m; gate = m }) v call back, Opens m)

        going : ℕ → CodeUnit → Acting
        going z v = guard (not (w.is_set m)) o fault.InitialisedTwice (when_passed (pass_all w from z call.arguments o) (entering z v))
