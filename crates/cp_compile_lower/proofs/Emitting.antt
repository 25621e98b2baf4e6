-- Operations that are emitted after the calls of their terms.
use Rattle.std.proofs.Common.{◌≡◌, ℕ, List, map, subst}
use Rattle.cp_model_program.specs.CodedStatements.{with_calls}
use Rattle.cp_model_program.specs.CodedTerms as coded
use Rattle.cp_model_program.specs.Programs as op
use Rattle.cp_compile_emit.specs.Emission.{Emits, coded_call, operation_from, place_of}
use Rattle.cp_compile_emit.specs.declared.emitter.CodedCall.{CodedCall}
use Rattle.cp_compile_emit.specs.declared.emitter.Emitter.{Emitter}
use Rattle.cp_program.specs.declared.operation.Operation.{Operation}
use Rattle.cp_program.specs.View as view
use Rattle.cp_compile_lower.specs.Statements.{Enters}

-- The emitted operation and its calls are those of the definition.
pub entered : (old new : Emitter) (place : ℕ) (cs : List CodedCall) (ds : List coded.CodedCall) (o : Operation) (p : op.Operation)
    → map coded_call cs ≡ ds → view.operation o ≡ p → place ≡ (operation_from old cs o).entry → Emits old new (operation_from old cs o).operations
    → Enters old new place (with_calls ds p (place_of old))
entered old new place cs ds o p calls is at emits =
    subst (Enters old new place) (λ i. with_calls (calls i) (is i) (place_of old)) (record { entry = at; emits = emits })
