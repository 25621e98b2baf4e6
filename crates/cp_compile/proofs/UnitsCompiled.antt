-- A unit is compiled after others.
use Rattle.std.proofs.Common.{◌≡◌, inl, inr, true, false, Bool, if◌then◌else◌, subst, sym, ◌∷◌, ◌++◌, ◌∙◌, ℕ, suc, List, [], ap, append_assoc, drop, length, length-append, arith}
use Rattle.std.specs.Prelude.{Result, Ok, Err, OnOk}
use Rattle.std.proofs.Math.Seq.{drop-append_seam}
use Rattle.cp_model.specs.Abstract as a
use Rattle.cp_model_program.specs.CodeNeeds.{need_of_all}
use Rattle.cp_model_program.specs.CodedStatements.{emitted}
use Rattle.cp_model_program.specs.Compile.{Compiled, code_unit, left_out, stub, unit_code, with_code, with_nothing, with_stub, with_unit}
use Rattle.cp_model_program.specs.Programs.{CodeUnit, Operation, StartPlan}
use Rattle.cp_model_program.specs.Scopes as code
use Rattle.cp_compile_emit.specs.declared.emitter.Emitter.{Emitter}
use Rattle.cp_compile_emit.specs.Emission.{operations_of, place_of, units_of}
use Rattle.cp_compile_emit.specs.Emission.{Continues}
use Rattle.cp_compile_emit.proofs.Continuing.{continues_after, continues_itself}
use Rattle.cp_compile.specs.Compiles.{IsCompiled, MayAdd}

-- The operations and units after `os` and `us` are those of the unit.
pub record Behind (s : code.Scope) (starts : StartPlan) (last : Operation) (body : a.Statement) (os : List Operation) (us : List CodeUnit) (operations : List Operation) (units : List CodeUnit) : Type 0 where
  pub operations_are : operations ≡ os ++ (unit_code s last body (length os)).operations
  pub units_are : units ≡ us ++ code_unit (unit_code s last body (length os)).entry starts
      (need_of_all us s.words (unit_code s last body (length os)).operations) ∷ []

pub unit_behind : (s : code.Scope) (starts : StartPlan) (last : Operation) (body : a.Statement) (os : List Operation) (us : List CodeUnit)
    (operations : List Operation) (units : List CodeUnit) (at here entry first words : ℕ) → at ≡ length os → here ≡ length (os ++ last ∷ [])
    → first ≡ length os → words ≡ s.words → entry ≡ (emitted s body 0 here at).entry
    → operations ≡ (os ++ last ∷ []) ++ (emitted s body 0 here at).operations
    → units ≡ us ++ code_unit entry starts (need_of_all us words (drop first operations)) ∷ []
    → Behind s starts last body os us operations units
unit_behind s starts last body os us operations units at here entry first words at_is here_is first_is words_is entry_is operations_is units_is =
    let after : here ≡ suc (length os) = here_is ∙ length-append os (last ∷ []) ∙ omega arith in
    let all : operations ≡ os ++ (unit_code s last body (length os)).operations =
    operations_is ∙ append_assoc os (last ∷ []) (emitted s body 0 here at).operations
    ∙ ap (λ n. os ++ (last ∷ (emitted s body 0 n at).operations)) after
    ∙ ap (λ n. os ++ (last ∷ (emitted s body 0 (suc (length os)) n).operations)) at_is in
    let own : drop first operations ≡ (unit_code s last body (length os)).operations =
    ap (λ n. drop n operations) first_is ∙ ap (drop (length os)) all ∙ drop-append_seam os (unit_code s last body (length os)).operations in
    let entered : entry ≡ (unit_code s last body (length os)).entry =
    entry_is ∙ ap (λ n. (emitted s body 0 n at).entry) after ∙ ap (λ n. (emitted s body 0 (suc (length os)) n).entry) at_is in
    record {
      operations_are = all;
      units_are =
          units_is ∙ ap (λ n. us ++ code_unit n starts (need_of_all us words (drop first operations)) ∷ []) entered
          ∙ ap (λ n. us ++ code_unit (unit_code s last body (length os)).entry starts (need_of_all us n (drop first operations)) ∷ []) words_is
          ∙ ap (λ xs. us ++ code_unit (unit_code s last body (length os)).entry starts (need_of_all us s.words xs) ∷ []) own;
    }

-- The same, for an emitter.
pub unit_compiled : (known : List StartPlan) (s : code.Scope) (starts : StartPlan) (last : Operation) (body : a.Statement) (old new : Emitter) (c : Compiled)
    (here at entry first words : ℕ) → at ≡ place_of old → here ≡ length (operations_of old ++ last ∷ [])
    → first ≡ place_of old → words ≡ s.words → entry ≡ (emitted s body 0 here at).entry
    → operations_of new ≡ (operations_of old ++ last ∷ []) ++ (emitted s body 0 here at).operations
    → units_of known new ≡ units_of known old ++ code_unit entry starts (need_of_all (units_of known old) words (drop first (operations_of new))) ∷ []
    → IsCompiled known old c → IsCompiled known new (with_code s starts last body c)
unit_compiled known s starts last body old new c here at entry first words at_is here_is first_is words_is entry_is operations_is units_is is =
    let one =
    unit_behind s starts last body (operations_of old) (units_of known old) (operations_of new) (units_of known new) at here entry first words at_is here_is first_is words_is
    entry_is operations_is units_is in
    record {
      operations = one.operations_are ∙ ap (λ os. os ++ (unit_code s last body (length os)).operations) is.operations;
      units =
          one.units_are
          ∙ ap (λ us. us ++ code_unit (unit_code s last body (place_of old)).entry starts
          (need_of_all us s.words (unit_code s last body (place_of old)).operations) ∷ []) is.units
          ∙ ap (λ os. c.units ++ code_unit (unit_code s last body (length os)).entry starts
          (need_of_all c.units s.words (unit_code s last body (length os)).operations) ∷ []) is.operations;
    }

-- ---- A unit that may be left out

module _ (known : List StartPlan) (s : code.Scope) (starts : StartPlan) (last : Operation) (body : a.Statement) (c : Compiled) where
  abbrev made : Bool → Bool → Compiled
  made b d = if b then (if d then with_code s starts last body c else with_stub s starts c) else with_nothing c

  abbrev chosen : (b d : Bool) → code.activation_fits s ≡ b → code.component_fits s ≡ d → with_unit s starts last body c ≡ made b d
  chosen b d e f = ap (λ x. made x (code.component_fits s)) e ∙ ap (made b) f

  -- It has room.
  pub whole_compiled : (new : Emitter) → code.activation_fits s ≡ true → code.component_fits s ≡ true → IsCompiled known new (with_code s starts last body c)
      → IsCompiled known new (with_unit s starts last body c)
  whole_compiled new e f is = subst (IsCompiled known new) (sym (chosen true true e f)) is

  -- Its component has none.
  pub stub_compiled : (old new : Emitter) (words : ℕ) (plan : StartPlan) → code.activation_fits s ≡ true → code.component_fits s ≡ false → words ≡ s.words → plan ≡ starts
      → operations_of new ≡ operations_of old → units_of known new ≡ units_of known old ++ stub words plan ∷ [] → IsCompiled known old c
      → IsCompiled known new (with_unit s starts last body c)
  stub_compiled old new words plan e f words_is plan_is operations units is =
      subst (IsCompiled known new) (sym (chosen true false e f))
      (record {
        operations = operations ∙ is.operations;
        units = units ∙ ap (λ us. us ++ stub words plan ∷ []) is.units ∙ ap (λ n. c.units ++ stub n plan ∷ []) words_is ∙ ap (λ p. c.units ++ stub s.words p ∷ []) plan_is;
      })

  -- Its activation has none.
  pub nothing_compiled : (old new : Emitter) → code.activation_fits s ≡ false → operations_of new ≡ operations_of old
      → units_of known new ≡ units_of known old ++ left_out ∷ [] → IsCompiled known old c → IsCompiled known new (with_unit s starts last body c)
  nothing_compiled old new e operations units is =
      subst (IsCompiled known new) (sym (ap (λ x. made x (code.component_fits s)) e))
      (record { operations = operations ∙ is.operations; units = units ∙ ap (λ us. us ++ left_out ∷ []) is.units })

-- Origins continue, whether the unit has code or not.
pub may_continue : (old : List ℕ) (at : ℕ) (new : List ℕ) → MayAdd at old new → Continues old new
may_continue old at new (inl same) = subst (Continues old) same (continues_itself old)
may_continue old at new (inr added) = continues_after old at new added

-- Two facts of a result together.
pub ok_both : {A E P Q R : Type 0} (r : Result A E) → (P → Q → R) → OnOk r P → OnOk r Q → OnOk r R
ok_both (Ok x) f p q = f p q
ok_both (Err e) f p q = tt
