-- What is read of the inputs of the processes that are named.
use Rattle.std.specs.Prelude.{◌≡◌, ℕ, List, [], ◌∷◌, Option, None, Some, IfSome}
use Rattle.cp_model.specs.Abstract.{Name}
use Rattle.cp_frontend.specs.Inputs.{misplaced_from}
use Rattle.cp_frontend.specs.declared.inputs.ProcessInput.{ProcessInput}
use Rattle.cp_frontend.specs.declared.inputs.ProcessInputs.{ProcessInputs}
use Rattle.cp_frontend.specs.declared.inputs.ProcessInputs.TheVariants as inputs
use Rattle.cp_inspect.specs.Names.{process_named}
use Rattle.cp_cli_inputs.specs.declared.reading.InputOf.{InputOf}

-- The input is that of the process that is named. It has all bytes of the reader, if these are known,
-- and each can be in an input.
pub record IsRead {R : Type 0} (remaining : R → Option (List ℕ)) (processes : List Name) (named : InputOf R) (input : ProcessInput) : Type 0 where
  pub process : process_named named.process.now processes ≡ Some input.process
  pub bytes : IfSome (remaining named.reader) (λ xs. input.bytes.items ≡ xs)
  pub fit : misplaced_from 0 input.bytes.items ≡ None

-- These are the inputs that are named, one by one.
abbrev pub AreRead : {R : Type 0} → (R → Option (List ℕ)) → List Name → List (InputOf R) → List ProcessInput → Type 0
AreRead remaining processes [] [] = Unit {0}
AreRead remaining processes (o ∷ os) (i ∷ is) = IsRead remaining processes o i × AreRead remaining processes os is
AreRead remaining processes _ _ = ⊥

-- The processes read these inputs, and the others nothing.
abbrev pub ReadsNamed : {R : Type 0} → (R → Option (List ℕ)) → List Name → List (InputOf R) → ProcessInputs → Type 0
ReadsNamed remaining processes named (inputs.Named read) = AreRead remaining processes named read.items
ReadsNamed remaining processes named (inputs.Joined all) = ⊥
