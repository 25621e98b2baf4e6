-- Operations that are in a program from a place on, within what their unit needs.
use Rattle.std.proofs.Common.{◌≡◌, ◌≤◌, ℕ, suc, ◌+◌, List, [], ◌∷◌, ◌++◌, Some, refl, subst, length, arith}
use Rattle.cp_model_program.specs.Programs as op
use Rattle.cp_model_program.specs.Programs.{Call, CodeUnit, Operation, Program}
use Rattle.cp_model_program.specs.Sites.{UnitText, operation_at}
use Rattle.cp_model_program.specs.Scopes.{Scope}
use Rattle.cp_model_program.specs.CodedTerms.{CodedCall}
use Rattle.cp_model_program.specs.CodedStatements.{calls_at, with_calls}
use Rattle.cp_model_program.proofs.Fits.{AllBelow}
use Rattle.cp_model_program.proofs.Representing.{CallFits, Chained}

module _ (scope : Scope) (program : Program) (texts : List UnitText) (before : List CodeUnit) (unit : CodeUnit) where
  abbrev pub RoomFor : ℕ → ℕ → Type 0
  RoomFor words count = words + suc count ≤ unit.words

  -- The unit has what the operation needs.
  abbrev pub OperationFits : Operation → Type 0
  OperationFits (op.Function c into next) = CallFits scope program texts before unit c × (suc into ≤ unit.temps)
  OperationFits (op.Procedure c next) = CallFits scope program texts before unit c
  OperationFits (op.InitClass c next) = CallFits scope program texts before unit c × RoomFor c.words (length c.arguments)
  OperationFits (op.InitMonitor c next) = CallFits scope program texts before unit c × RoomFor c.words (length c.arguments)
  OperationFits (op.InitProcess n xs words next) = RoomFor words (length xs)
  OperationFits (op.For c first last) = c.temp + 2 ≤ unit.temps
  OperationFits _ = Unit {0}

  abbrev pub AllRepresent : List Operation → ℕ → Type 0
  AllRepresent [] at = Unit {0}
  AllRepresent (x ∷ xs) at = (operation_at program at ≡ Some x) × OperationFits x × AllRepresent xs (suc at)

  pub represent_split : (xs ys : List Operation) (at : ℕ) → AllRepresent (xs ++ ys) at → AllRepresent xs at × AllRepresent ys (at + length xs)
  represent_split [] ys at h = (tt, subst (AllRepresent ys) (nothing_more at) h)
    where
      nothing_more : (n : ℕ) → n ≡ n + 0
      nothing_more n = omega arith
  represent_split (x ∷ xs) ys at h =
      let rest : AllRepresent xs (suc at) × AllRepresent ys (suc at + length xs) = represent_split xs ys (suc at) h.2 in
      ((h.0, h.1, rest.0), subst (AllRepresent ys) (one_more at (length xs)) rest.1)
    where
      one_more : (n m : ℕ) → suc n + m ≡ n + suc m
      one_more n m = omega arith

  pub calls_represent : (cs : List CodedCall) (at next : ℕ) → AllRepresent (calls_at cs at next).operations at
      → Chained scope program texts before unit cs (calls_at cs at next).entry next × AllBelow unit.temps cs
  calls_represent [] at next h = (refl, tt)
  calls_represent (c ∷ cs) at next h =
      let rest = calls_at cs at next in
      let k = represent_split rest.operations (op.Function c.call c.into rest.entry ∷ []) at h in
      let others : Chained scope program texts before unit cs rest.entry next × AllBelow unit.temps cs = calls_represent cs at next k.0 in
      ((rest.entry, k.1.0, k.1.1.0, others.0), (k.1.1.1, others.1))

  -- an operation with the calls before it
  pub record WithCalls (cs : List CodedCall) (x : Operation) (at : ℕ) : Type 0 where
    pub there : operation_at program at ≡ Some x
    pub fits : OperationFits x
    pub chain : Chained scope program texts before unit cs (with_calls cs x at).entry at
    pub below : AllBelow unit.temps cs

  pub with_calls_represent : (cs : List CodedCall) (x : Operation) (at : ℕ) → AllRepresent (with_calls cs x at).operations at → WithCalls cs x at
  with_calls_represent cs x at h =
      let k = calls_represent cs (suc at) at h.2 in
      record { there = h.0; fits = h.1; chain = k.0; below = k.1 }
