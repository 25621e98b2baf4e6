-- The state of the emitter as the plain data of the definitions, and what each call adds to it.
use Rattle.std.specs.Prelude.{◌≡◌, ℕ, zero, suc, List, [], ◌∷◌, ◌++◌, drop, length, map}
use Rattle.cp_model_program.specs.Programs as op
use Rattle.cp_model_program.specs.CodedTerms as coded
use Rattle.cp_model_program.specs.CodeNeeds.{need_of_all}
use Rattle.cp_model_program.specs.CodedStatements.{Emitted, calls_at, with_calls}
use Rattle.cp_model_program.specs.Compile.{code_unit}
use Rattle.cp_program.specs.declared.operation.Operation.{Operation}
use Rattle.cp_program.specs.declared.program.StartPiece.{StartPiece}
use Rattle.cp_program.specs.View as view
use Rattle.cp_compile_emit.specs.declared.emitter.CodedCall.{CodedCall}
use Rattle.cp_compile_emit.specs.declared.emitter.Emitter.{Emitter}

abbrev pub coded_call : CodedCall → coded.CodedCall
coded_call c = record { call = view.call c.call; into = c.into }

abbrev pub operations_of : Emitter → List op.Operation
operations_of e = map view.operation e.operations.items

-- The units, whose parts have plans among those that are known.
abbrev pub units_of : List op.StartPlan → Emitter → List op.CodeUnit
units_of known e = map (view.code_unit known) e.units.items

-- The number of operations so far, which is the place of the next one.
abbrev pub place_of : Emitter → ℕ
place_of e = length (operations_of e)

-- Origins may have been added. Those that were there stay.
abbrev pub Continues : List ℕ → List ℕ → Type 0
Continues old new = (more : List ℕ) × (new ≡ old ++ more)

-- The operations become `operations`, and the units stay as they are.
pub record IsEmitted (old new : Emitter) (operations : List op.Operation) : Type 0 where
  pub operations_are : operations_of new ≡ operations
  pub origins_continue : Continues old.origins.items new.origins.items
  pub units_are : new.units ≡ old.units
  pub first_is : new.first ≡ old.first
  pub words_are : new.words ≡ old.words

-- The operations `os` are added at the end.
abbrev pub Emits : Emitter → Emitter → List op.Operation → Type 0
Emits old new os = IsEmitted old new (operations_of old ++ os)

-- The operations of calls that lead to the place `next`, and where they are entered.
abbrev pub calls_from : Emitter → List CodedCall → ℕ → Emitted
calls_from e cs next = calls_at (map coded_call cs) (place_of e) next

-- The operations of the calls `cs` and of `o`, and where they are entered.
abbrev pub operation_from : Emitter → List CodedCall → Operation → Emitted
operation_from e cs o = with_calls (map coded_call cs) (view.operation o) (place_of e)

-- The origins of the operations of calls.
abbrev pub origins_of_calls : List CodedCall → List ℕ
origins_of_calls [] = []
origins_of_calls (c ∷ cs) = origins_of_calls cs ++ c.at ∷ []

-- The unit in progress, once it ends.
abbrev pub unit_ended : List op.StartPlan → Emitter → ℕ → List StartPiece → op.CodeUnit
unit_ended known e entry starts =
    code_unit entry (view.plan_of known starts)
    (need_of_all (units_of known e) e.words (drop e.first (operations_of e)))

-- ---- Loops

-- The operation that closes a loop, once its body is known to begin at `body`. That of a `while`
-- leads to the body if its test holds.
abbrev pub with_body : ℕ → op.Operation → op.Operation
with_body body (op.Cycle b) = op.Cycle body
with_body body (op.ForNext c) = op.ForNext (record c { body = body })
with_body body (op.Test t y n) = op.Test t body n
with_body body o = o

-- The operation that closes a `repeat` leads to the body if its test doesn't hold.
abbrev pub with_repeated : ℕ → op.Operation → op.Operation
with_repeated body (op.Test t y n) = op.Test t y body
with_repeated body o = o

-- The item at place `n` is changed, if there is one.
abbrev pub changed_at : {A : Type 0} → ℕ → (A → A) → List A → List A
changed_at n f [] = []
changed_at zero f (x ∷ xs) = f x ∷ xs
changed_at (suc n) f (x ∷ xs) = x ∷ changed_at n f xs
