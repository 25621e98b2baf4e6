-- Loops: the operation that closes a loop is emitted first, with its calls, and completed once the
-- body is emitted.
use Rattle.std.proofs.Common.{◌≡◌, ◌+◌, suc, List, ◌∷◌, ◌++◌, length, ap, ◌∙◌, append_assoc, arith, length-append}
use Rattle.cp_model_program.specs.CodedTerms.{CodedCall}
use Rattle.cp_model_program.specs.CodedStatements.{calls_at, with_calls}
use Rattle.cp_model_program.specs.Programs.{Operation}
use Rattle.cp_compile_emit.specs.Emission.{changed_at}
use Rattle.cp_compile_emit.proofs.Changing.{changed_between}

-- The place where the body of a loop begins.
pub place_of_body : (old : List Operation) (cs : List CodedCall) (o : Operation)
    → length (old ++ (with_calls cs o (length old)).operations)
    ≡ suc (length old) + length (calls_at cs (suc (length old)) (length old)).operations
place_of_body old cs o =
    let calls = (calls_at cs (suc (length old)) (length old)).operations in
    length-append old (o ∷ calls) ∙ omega arith

-- The operations that are emitted, once the closing operation is completed.
pub loop_closed : (f : Operation → Operation) (old : List Operation) (cs : List CodedCall) (o : Operation) (body : List Operation)
    → changed_at (length old) f ((old ++ (with_calls cs o (length old)).operations) ++ body)
    ≡ old ++ f o ∷ ((calls_at cs (suc (length old)) (length old)).operations ++ body)
loop_closed f old cs o body =
    let calls = (calls_at cs (suc (length old)) (length old)).operations in
    ap (changed_at (length old) f) (append_assoc old (o ∷ calls) body) ∙ changed_between f old o (calls ++ body)
