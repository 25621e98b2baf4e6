-- What the stack of a walk represents when its buffer changes or the stack grows.
use Rattle.std.proofs.Common.{ℕ, ◌≤◌, List, [], ◌∷◌, ◌++◌, length, take, ap, sym, ◌∙◌, arith}
use Rattle.cp_model.specs.Report.{Text}
use Rattle.cp_compile_symbols.specs.declared.types.Types.{Types}
use Rattle.cp_inspect.specs.Remaining.{Remaining}
use Rattle.cp_inspect.specs.Walks.{AllRepresent, CursorRepresents, IsDeepest}
use Rattle.cp_inspect.specs.declared.walk.Cursor.{Cursor}
use Rattle.cp_inspect.proofs.Paths.{take_longer, take_short}

module _ (types : Types) where
  pub within_buffer : (buffer : Text) (c : Cursor) (left : Remaining) → CursorRepresents types buffer c left → c.path ≤ length buffer
  within_buffer buffer c left C = take_longer c.path buffer (C.long ∙ ap length (sym C.front))

  pub cursor_kept : (n : ℕ) (buffer more : Text) (c : Cursor) (left : Remaining) → c.path ≤ n → CursorRepresents types buffer c left → CursorRepresents types (take n buffer ++ more) c left
  cursor_kept n buffer more c left deep C = record {
    parts = C.parts;
    named = C.named;
    front = take_short n c.path buffer more deep (within_buffer buffer c left C) ∙ C.front;
    long = C.long;
  }

  -- Any text may follow the path of the innermost variable.
  pub all_kept : (n : ℕ) (buffer more : Text) (cs : List Cursor) (rest : List Remaining) → IsDeepest n cs → AllRepresent types buffer cs rest → AllRepresent types (take n buffer ++ more) cs rest
  all_kept n buffer more [] [] deep S = tt
  all_kept n buffer more [] (left ∷ rest) deep S = absurd S
  all_kept n buffer more (c ∷ cs) [] deep S = absurd S
  all_kept n buffer more (c ∷ cs) (left ∷ rest) deep S =
      (cursor_kept n buffer more c left deep S.0, S.1, all_kept n buffer more cs rest (less cs S.1) S.2)
    where
      less : (ds : List Cursor) → IsDeepest c.path ds → IsDeepest n ds
      less [] h = tt
      less (d ∷ ds) h = omega (arith, h, deep)

  pub deepest_of : (buffer : Text) (cs : List Cursor) (rest : List Remaining) → AllRepresent types buffer cs rest → IsDeepest (length buffer) cs
  deepest_of buffer [] rest S = tt
  deepest_of buffer (c ∷ cs) [] S = absurd S
  deepest_of buffer (c ∷ cs) (left ∷ rest) S = within_buffer buffer c left S.0
