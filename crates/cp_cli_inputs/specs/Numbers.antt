-- What names mean in a text.
use Rattle.std.specs.List.{range_with_len}
use Rattle.std.specs.Prelude.{◌≡◌, ◌++◌, ◌+◌, ℕ, List, [], ◌∷◌, Option, None, Some, Result, Ok, Err, codes, if◌then◌else◌, is_some, length, map, option_map}
use Rattle.std.specs.Borrow.{Bor}
use Rattle.std.specs.Option.{option_or}
use Rattle.cp_model.specs.Abstract.{Name, Sort}
use Rattle.cp_model.specs.Erase as erase
use Rattle.cp_model.specs.View as view
use Rattle.cp_frontend.specs.declared.sources.AcceptedText.{AcceptedText}
use Rattle.cp_inspect.specs.Names.{component_names, is_same_name, owner_named, process_named}
use Rattle.cp_cli_inputs.specs.declared.error.InputError.{InputError}
use Rattle.cp_cli_inputs.specs.declared.error.InputError.TheVariants as error

-- The names of the components of a sort in a text. Those of processes are without the initial one.
abbrev pub names_in : AcceptedText → Sort → List Name
names_in text z = component_names (erase.abstract (view.tree text.tree)) z

abbrev pub texts_of : List (Bor (List ℕ)) → List Name
texts_of xs = map (λ (x : Bor (List ℕ)). x.now) xs

-- ---- Numbers of processes

-- A name means a process, or all of them if it is `all`.
abbrev pub numbers_meant : Name → List Name → Option (List ℕ)
numbers_meant x processes =
    option_or (option_map (λ p. p ∷ []) (process_named x processes))
    (if is_same_name x (codes "all") then Some (range_with_len 1 (length processes + 1)) else None)

-- The numbers that were found, and then those that these names mean, one name after another. Or the
-- first name that means none.
abbrev pub numbers_after : List ℕ → List Name → List Name → Result (List ℕ) Name
numbers_after found [] processes = Ok found
numbers_after found (x ∷ xs) processes = elim (numbers_meant x processes) [ None ↦ Err x | Some ns ↦ numbers_after (found ++ ns) xs processes ]

abbrev pub numbers_named : List Name → List Name → Result (List ℕ) Name
numbers_named = numbers_after []

-- A name that is reported is the first that means no process.
abbrev pub ReportsUnknown : Result (List ℕ) Name → InputError → Type 0
ReportsUnknown numbers (error.NoProcess x) = numbers ≡ Err x.now
ReportsUnknown numbers e = Unit {0}

-- ---- Unknown names

-- The first name that no monitor and no process has.
abbrev pub unknown_in : List Name → List Name → List Name → Option Name
unknown_in monitors processes [] = None
unknown_in monitors processes (x ∷ xs) = if is_some (owner_named x monitors processes) then unknown_in monitors processes xs else Some x
