-- Room for askers.
use Rattle.std.proofs.Common.{◌≡◌, ◌+◌, ℕ, List, sym, subst, arith}
use Rattle.std.specs.Prelude.{All}
use Rattle.cp_private.specs.declared.kernel_view.Gate.{Gate}
use Rattle.cp_kernel.specs.declared.kernel.Kernel.{Kernel}
use Rattle.cp_kernel.specs.KernelOf.{HasRoomForAskers, HasRoomToAsk}

less_in : (gs : List Gate) (n : ℕ) → All (HasRoomToAsk (n + 1)) gs → All (HasRoomToAsk n) gs
less_in gs n h = λ i d below. omega (arith, h i d below)

pub less : (k : Kernel) (n : ℕ) → HasRoomForAskers k (n + 1) → HasRoomForAskers k n
less k n h = less_in k.gates.items n h

pub room_kept : (k after : Kernel) (n : ℕ) → after.gates ≡ k.gates → HasRoomForAskers k n → HasRoomForAskers after n
room_kept k after n same h = subst (λ gs. All (HasRoomToAsk n) gs.items) (sym same) h
