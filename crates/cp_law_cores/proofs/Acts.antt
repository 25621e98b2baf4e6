-- What may happen to a core, one act after another.
use Rattle.std.specs.Prelude.{List, [], true, ℕ, ◌∷◌, ◌≡◌}
use Rattle.cp_model.specs.States.{is_in}
use Rattle.cp_model_program.specs.Programs.{Program}
use Rattle.cp_law_cores.specs.Cores.{Core, close, kernel_at, private_at}

pub data Act : Type 0 where
  PrivateStep : (p : ℕ) → Act
  KernelStep : (p : ℕ) → Act
  EndRound : Act

abbrev pub apply : Program → Core → Act → Core
apply program c (PrivateStep p) = private_at program c p
apply program c (KernelStep p) = kernel_at program c p
apply program c EndRound = close program c

abbrev pub after : Program → Core → List Act → Core
after program c [] = c
after program c (a ∷ rest) = after program (apply program c a) rest

-- Each act is that of one of these processes, or the end of a round.
abbrev pub IsOf : List ℕ → Act → Type 0
IsOf ps (PrivateStep p) = is_in p ps ≡ true
IsOf ps (KernelStep p) = is_in p ps ≡ true
IsOf ps EndRound = Unit {0}

abbrev pub AreOf : List ℕ → List Act → Type 0
AreOf ps [] = Unit {0}
AreOf ps (a ∷ rest) = IsOf ps a × AreOf ps rest
