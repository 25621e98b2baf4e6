-- How words start: what a plan of fills, repeats and parts does to them, and when it is the plan of
-- a routine or of a component.
use Rattle.std.specs.Prelude.{◌≡◌, ◌≤◌, ◌<◌, ◌⊎◌, ℕ, zero, suc, ◌+◌, ◌-◌, ℤ, pos, negsuc, List, [], ◌∷◌, Some, length, slice_get, slice_set, slice_index_or}
use Rattle.cp_model.specs.Abstract.{BaseType, Class, Name, Routine, System}
use Rattle.cp_model.specs.Types.{ComponentOf, GlobalScope, Members, Queue, Simple}
use Rattle.cp_model.specs.Declarations.{Variable, declarations, reported_members}
use Rattle.cp_model.specs.Locations.{Path}
use Rattle.cp_law_typing.specs.Needs.{result_words}
use Rattle.cp_model_program.specs.Programs.{CodeUnit, Done, Fill, Part, Repeat, StartPlan}
use Rattle.cp_model_program.specs.Layout.{activation_words, component_words, head_words, local, locals_words, member_part, part}

-- ---- Words

-- A word that is missing reads as 0.
abbrev pub word : List ℤ → ℕ → ℤ
word ws at = slice_index_or ws at (pos 0)

-- The mark of a function's result that hasn't been set.
abbrev pub unset : ℤ
unset = negsuc 2147483647

abbrev pub block : List ℤ → ℕ → ℕ → List ℤ
block ws from zero = []
block ws from (suc n) = word ws from ∷ block ws (suc from) n

abbrev pub paste : ℕ → List ℤ → List ℤ → List ℤ
paste to [] ws = ws
paste to (n ∷ ns) ws = paste (suc to) ns (slice_set ws to n)

abbrev pub fill : ℕ → ℕ → ℤ → List ℤ → List ℤ
fill at zero n ws = ws
fill at (suc k) n ws = fill (suc at) k n (slice_set ws at n)

-- The words after the block of `size` words at `at` has been copied a number of times, each copy
-- after the one before.
abbrev pub repeat_block : ℕ → ℕ → ℕ → List ℤ → List ℤ
repeat_block at size zero ws = ws
repeat_block at size (suc k) ws = repeat_block (at + size) size k (paste (at + size) (block ws at size) ws)

-- The words after a plan has been carried out, counted from a base.
abbrev pub carry_out : ℕ → StartPlan → List ℤ → List ℤ
carry_out base Done ws = ws
carry_out base (Fill at count n rest) ws = carry_out base rest (fill (base + at) count n ws)
carry_out base (Repeat at size count rest) ws = carry_out base rest (repeat_block (base + at) size (count - 1) ws)
carry_out base (Part at plan rest) ws = carry_out base rest (carry_out (base + at) plan ws)

-- ---- Activations

-- The plan gives each simple part of a variable its start value and marks the result as unset. It
-- changes no parameter and nothing outside the activation.
pub record Starts (g : GlobalScope) (r : Routine) (u : CodeUnit) : Type 0 where
  pub length_is : (base : ℕ) (ws : List ℤ) → length (carry_out base u.starts ws) ≡ length ws
  pub variables : (base : ℕ) (ws : List ℤ) → base + activation_words g r ≤ length ws
      → (v : Name × Variable) (i at m : ℕ) (path : Path) (b : BaseType) (low high n : ℤ)
      → slice_get (declarations g r.variables) i ≡ Some v → local g r v.0 ≡ Some (at, v.1)
      → part g v.1.type path ≡ Some (m, Simple b low high n)
      → word (carry_out base u.starts ws) (base + (at + m)) ≡ n
  pub result : (base : ℕ) (ws : List ℤ) (t : Name) → base + activation_words g r ≤ length ws → r.result ≡ Some t
      → word (carry_out base u.starts ws) base ≡ unset
  pub outside : (base : ℕ) (ws : List ℤ) (i : ℕ) → base + activation_words g r ≤ length ws
      → (i < base + (result_words r.result + locals_words g (declarations g r.parameters))) ⊎ (base + activation_words g r ≤ i)
      → ((t : Name) → r.result ≡ Some t → i ≡ base → ⊥)
      → word (carry_out base u.starts ws) i ≡ word ws i

-- ---- Components

abbrev pub AreZero : GlobalScope → System → ℕ → List ℤ → Type 0
AreZero g s base ws = (i : ℕ) → i < component_words g s → word ws (base + i) ≡ pos 0

-- If all words were 0, the plan gives each simple part of a member its start value. Marks, rights
-- and queues stay 0, and nothing outside the component changes.
pub record StartsComponent (g : GlobalScope) (s : System) (plan : StartPlan) : Type 0 where
  pub length_is : (base : ℕ) (ws : List ℤ) → length (carry_out base plan ws) ≡ length ws
  pub cells : (base : ℕ) (ws : List ℤ) → base + component_words g s ≤ length ws → AreZero g s base ws
      → (x : Name) (path : Path) (m : ℕ) (b : BaseType) (low high n : ℤ)
      → member_part g (head_words g s) (reported_members g s) x path ≡ Some (m, Simple b low high n)
      → word (carry_out base plan ws) (base + m) ≡ n
  pub head : (base : ℕ) (ws : List ℤ) (room : base + component_words g s ≤ length ws) (i : ℕ) → AreZero g s base ws → i < head_words g s
      → word (carry_out base plan ws) (base + i) ≡ pos 0
  pub queues : (base : ℕ) (ws : List ℤ) (room : base + component_words g s ≤ length ws) (x : Name) (path : Path) (m : ℕ) → AreZero g s base ws
      → member_part g (head_words g s) (reported_members g s) x path ≡ Some (m, Queue)
      → word (carry_out base plan ws) (base + m) ≡ pos 0
  pub heads : (base : ℕ) (ws : List ℤ) (room : base + component_words g s ≤ length ws) (x : Name) (path : Path) (m i : ℕ) (r : System) (inner : Members) → AreZero g s base ws
      → member_part g (head_words g s) (reported_members g s) x path ≡ Some (m, ComponentOf r inner) → r.sort ≡ Class
      → i < head_words g r → word (carry_out base plan ws) (base + (m + i)) ≡ pos 0
  pub outside : (base : ℕ) (ws : List ℤ) (room : base + component_words g s ≤ length ws) (i : ℕ) → AreZero g s base ws → (i < base) ⊎ (base + component_words g s ≤ i)
      → word (carry_out base plan ws) i ≡ word ws i
