-- When a walk represents what is left to be visited.
use Rattle.std.specs.Prelude.{◌≡◌, ◌≤◌, ◌+◌, ◌++◌, ℕ, ℤ, List, [], ◌∷◌, Option, None, Some, drop, length, map, reverse, take}
use Rattle.cp_model.specs.Abstract.{Class, Name, Sort, System}
use Rattle.cp_model.specs.Integers.{count_between}
use Rattle.cp_model.specs.Leaves.{integers_from}
use Rattle.cp_model.specs.Locations.{ByName, Path}
use Rattle.cp_model.specs.Report.{Text, path_text}
use Rattle.cp_model.specs.Types.{GlobalScope, Members, ResolvedType}
use Rattle.cp_law_typing.specs.Words.{words}
use Rattle.cp_model_program.specs.Layout.{head_words}
use Rattle.cp_model_machine.specs.Reports.{Visit, visit_component, visit_members, visit_type}
use Rattle.cp_compile_symbols.specs.Representing.{AreMembers, ScopeRepresents, Represents, entry, row_at}
use Rattle.cp_compile_symbols.specs.declared.tables.Tables.{Tables}
use Rattle.cp_compile_symbols.specs.declared.types.TypeRow.{TypeRow}
use Rattle.cp_compile_symbols.specs.declared.types.TypeRow.TheVariants as row
use Rattle.cp_compile_symbols.specs.declared.types.Types.{Types}
use Rattle.cp_inspect.specs.Remaining.{ElementsRemaining, IsNamed, Remaining, MembersRemaining, left_text, left_words, path_of}
use Rattle.cp_inspect.specs.declared.walk.Cursor.{Cursor}
use Rattle.cp_inspect.specs.declared.walk.Walk.{Walk}

-- The members of a record or component.
abbrev pub members_in : Option TypeRow → Option (List (Name × ℕ))
members_in (Some (row.Record fields)) = Some (map entry fields.items)
members_in (Some (row.Component k members)) = Some (map entry members.items)
members_in _ = None

-- The parts that are left are those of the row.
abbrev pub PartsRepresent : Types → Cursor → Remaining → Type 0
PartsRepresent types c (MembersRemaining path ms) =
    (es : List (Name × ℕ)) × (members_in (row_at types c.row) ≡ Some es) × AreMembers types (drop c.next es) ms
PartsRepresent types c (ElementsRemaining path is t) =
    (low high : ℤ) × (e : ℕ) × (row_at types c.row ≡ Some (row.Array low high e)) × Represents types e t
    × (is ≡ drop c.next (integers_from low (count_between low high)))

-- The buffer begins with the path of the variable.
pub record CursorRepresents (types : Types) (buffer : Text) (c : Cursor) (left : Remaining) : Type 0 where
  pub parts : PartsRepresent types c left
  pub named : IsNamed (path_of left)
  pub front : take c.path buffer ≡ path_text (path_of left)
  pub long : c.path ≡ length (path_text (path_of left))

-- The paths of the variables around it are not longer than n.
abbrev pub IsDeepest : ℕ → List Cursor → Type 0
IsDeepest n [] = Unit {0}
IsDeepest n (c ∷ cs) = c.path ≤ n

abbrev pub AllRepresent : Types → Text → List Cursor → List Remaining → Type 0
AllRepresent types buffer [] [] = Unit {0}
AllRepresent types buffer (c ∷ cs) (left ∷ rest) = CursorRepresents types buffer c left × IsDeepest c.path cs × AllRepresent types buffer cs rest
AllRepresent types buffer _ _ = ⊥

-- The innermost variable comes last on the stack.
abbrev pub WalkRepresents : Types → Walk → List Remaining → Type 0
WalkRepresents types w rest = AllRepresent types w.path.items (reverse w.stack.items) rest

-- The walk continues: the text reported so far followed by what is left is `text`, and the words that
-- are left end at `end`.
pub record Advances (g : GlobalScope) (v : Visit) (types : Types) (w : Walk) (out text : Text) (end : ℕ) : Type 0 where
  pub left : List Remaining
  pub represents : WalkRepresents types w left
  pub text_is : out ++ left_text g v left w.at ≡ text
  pub place : w.at + left_words g left ≡ end

abbrev pub cursor : (row next path : ℕ) → Cursor
cursor n next path = record { row = n; next = next; path = path }

-- ---- Steps of a walk

-- A class has this many words before its members.
abbrev pub HeadOf : GlobalScope → System → Sort → Option ℕ → Type 0
HeadOf g s Class head = head ≡ Some (head_words g s)
HeadOf g s _ head = head ≡ None

abbrev pub HeadIs : GlobalScope → System → Option ℕ → Type 0
HeadIs g s head = HeadOf g s s.sort head

-- First comes the variable whose path is in the buffer, and then what was left.
abbrev pub Enters : Tables → Visit → ℕ → Walk → Walk → Text → Text → Type 0
Enters tables v n old new out after =
    (g : GlobalScope) (t : ResolvedType) (p : Path) (rest : List Remaining) → ScopeRepresents tables.names tables.types g → Represents tables.types n t
    → IsNamed p → path_text p ≡ old.path.items → WalkRepresents tables.types old rest
    → Advances g v tables.types new after (out ++ (visit_type g v p old.at t ++ left_text g v rest (old.at + words g t)))
    (old.at + words g t + left_words g rest)

-- First come the parts of a variable that are left, and then what was left around it.
abbrev pub Continues : Tables → Visit → Cursor → Walk → Walk → Text → Text → Type 0
Continues tables v c old new out after =
    (g : GlobalScope) (left : Remaining) (rest : List Remaining) → ScopeRepresents tables.names tables.types g
    → AllRepresent tables.types old.path.items (c ∷ reverse old.stack.items) (left ∷ rest)
    → Advances g v tables.types new after (out ++ left_text g v (left ∷ rest) old.at) (old.at + left_words g (left ∷ rest))

-- Everything that is left is reported.
abbrev pub Finishes : Tables → Visit → Walk → Walk → Text → Text → Type 0
Finishes tables v old new out after =
    (g : GlobalScope) (rest : List Remaining) → ScopeRepresents tables.names tables.types g → WalkRepresents tables.types old rest
    → (after ≡ out ++ left_text g v rest old.at) × (new.at ≡ old.at + left_words g rest)

-- A whole variable with this name and type is reported.
abbrev pub Visits : Tables → Visit → Name → ℕ → ℕ → ℕ → Text → Text → Type 0
Visits tables v x n at end out after =
    (g : GlobalScope) (t : ResolvedType) → ScopeRepresents tables.names tables.types g → Represents tables.types n t
    → (after ≡ out ++ visit_type g v (ByName x ∷ []) at t) × (end ≡ at + words g t)

-- ---- Whole components

-- All members with these names and types are reported.
abbrev pub ReportsMembers : Tables → Visit → List (Name × ℕ) → ℕ → Text → Text → Type 0
ReportsMembers tables v es at out after =
    (g : GlobalScope) (ms : Members) → ScopeRepresents tables.names tables.types g → AreMembers tables.types es ms
    → after ≡ out ++ visit_members g v [] at ms

-- All variables of the component are reported. Its words begin at `start`.
abbrev pub ReportsComponent : Tables → Visit → ℕ → ℕ → Text → Text → Type 0
ReportsComponent tables v n start out after =
    (g : GlobalScope) (t : ResolvedType) → ScopeRepresents tables.names tables.types g → Represents tables.types n t
    → after ≡ out ++ visit_component g v start t
