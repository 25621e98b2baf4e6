-- Chains of askers: a process p and then, as long as the last process is asking, the holder of the
-- gate that it asks for.
--
-- Nothing bounds a chain here. That a chain ends, and soon, is a property of accepted texts and not
-- of the definition.
use Rattle.std.specs.Prelude.{List, None, Option, Some, [], option_map, suc, zero, ℕ, ◌≡◌, ◌∷◌}
use Rattle.cp_model.specs.Configurations.{Asking, Status}
use Rattle.cp_model.specs.States.{HeldBy, Holder, State}

abbrev pub holding_process : Holder → Option ℕ
holding_process (HeldBy p) = Some p
holding_process _ = None

-- The process that an asking process waits for.
abbrev pub holder_asked : State → Status → Option ℕ
holder_asked s (Asking m) = holding_process (s.gates m).holder
holder_asked s _ = None

-- A list of processes is the asking chain from p.
abbrev pub IsAskingChain : State → ℕ → List ℕ → Type 0
IsAskingChain s p [] = ⊥
IsAskingChain s p (q ∷ []) = (q ≡ p) × (holder_asked s (s.status p) ≡ None)
IsAskingChain s p (q ∷ r ∷ rs) = (q ≡ p) × (holder_asked s (s.status p) ≡ Some r) × IsAskingChain s r (r ∷ rs)

-- The chain from p, if it ends within n more processes.
abbrev pub chain_from : ℕ → State → ℕ → Option ℕ → Option (List ℕ)
chain_from n s p None = Some (p ∷ [])
chain_from zero s p (Some q) = None
chain_from (suc n) s p (Some q) = option_map (λ rs. p ∷ rs) (chain_from n s q (holder_asked s (s.status q)))

abbrev pub chain_within : ℕ → State → ℕ → Option (List ℕ)
chain_within n s p = chain_from n s p (holder_asked s (s.status p))
