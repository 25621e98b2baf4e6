-- Different kernels and private states by their numbers, and the numbers of the parts of a state.
use Rattle.std.specs.Prelude.{List, None, Option, Some, [], drop, length, map, slice_get, suc, take, ℕ, ◌*◌, ◌++◌, ◌<◌, ◌∷◌, ◌≡◌}
use Rattle.cp_model_machine.specs.KernelSteps as plain
use Rattle.cp_model_machine.specs.PrivateStates.{NotBegun, PrivateState}
use Rattle.cp_private.specs.States.{private_of}
use Rattle.cp_private.specs.declared.private.Private.{Private}
use Rattle.cp_kernel.specs.KernelOf.{kernel_of}
use Rattle.cp_kernel.specs.declared.kernel.Kernel.{Kernel}

-- Items come at the end.
pub record Extends {A : Type 0} (xs ys : List A) : Type 0 where
  pub more : List A
  pub is : ys ≡ xs ++ more

-- ---- Private states

abbrev pub no_part : PrivateState
no_part = record {
  number = 0;
  activity = NotBegun;
  counter = 0;
  base = 0;
  temp = 0;
  component = 0;
  gate = 0;
  words = [];
  temps = [];
  frames = [];
  limit = 0;
  output = [];
  input = [];
  consumed = 0;
}

abbrev pub part_or_none : Option Private → List ℕ → PrivateState
part_or_none None input = no_part
part_or_none (Some x) input = private_of x input

-- The private state with a number.
abbrev pub part_at : List Private → ℕ → List ℕ → PrivateState
part_at xs n input = part_or_none (slice_get xs n) input

-- The private states with these numbers, given the number of the process of the first one.
abbrev pub parts_at : (ℕ → List ℕ) → List Private → ℕ → List ℕ → List PrivateState
parts_at inputs xs p [] = []
parts_at inputs xs p (n ∷ ns) = part_at xs n (inputs p) ∷ parts_at inputs xs (suc p) ns

-- The private state with a number has the content of `x`.
pub record IsPartAt (xs : List Private) (n : ℕ) (x : Private) : Type 0 where
  pub within : n < length xs
  pub same : (input : List ℕ) → part_at xs n input ≡ private_of x input

-- The first `i` numbers are those of the first `i` private states.
pub record AreNumberedBelow (xs : List Private) (ns : List ℕ) (ys : List Private) (i : ℕ) : Type 0 where
  pub each : (j n : ℕ) (y : Private) → j < i → slice_get ns j ≡ Some n → slice_get ys j ≡ Some y → IsPartAt xs n y

-- The numbers are those of the private states.
pub record AreNumbered (xs : List Private) (ns : List ℕ) (ys : List Private) : Type 0 where
  pub count : length ns ≡ length ys
  pub each : AreNumberedBelow xs ns ys (length ns)

-- ---- Kernels

abbrev pub no_kernel : plain.Kernel
no_kernel = record { shared = []; gates = []; stages = [] }

abbrev pub kernel_or_none : Option Kernel → plain.Kernel
kernel_or_none None = no_kernel
kernel_or_none (Some k) = kernel_of k

-- The kernel with a number.
abbrev pub kernel_at : List Kernel → ℕ → plain.Kernel
kernel_at ks n = kernel_or_none (slice_get ks n)

-- The kernel with a number has the content of `k`.
pub record IsKernelAt (ks : List Kernel) (n : ℕ) (k : Kernel) : Type 0 where
  pub within : n < length ks
  pub same : kernel_at ks n ≡ kernel_of k

-- ---- Rows

-- The numbers of the private states of the state with an index.
abbrev pub row : ℕ → List ℕ → ℕ → List ℕ
row width ns i = take width (drop (i * width) ns)
