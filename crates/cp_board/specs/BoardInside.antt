-- How the fields of a `Board` relate to its table.
use Rattle.std.specs.Prelude.{◌≡◌, ◌+◌, ◌<◌, ◌≤◌}
use Rattle.cp_board.specs.Models.{BoardModel}
use Rattle.cp_board.specs.Stripes.{word_of}
use Rattle.cp_board.specs.declared.board.Board.TheInside as board
use Rattle.cp_board.specs.declared.view.TheConstants.{MAX_TICKETS, MAX_STRIPES}

abbrev pub board_model : board.Inside → BoardModel
board_model b = record { table = b.table.shared.table_id; shape = b.shape }

-- the table has the words of all stripes and of the stop, and its rule reads the board's shape
pub record IsValidBoard (b : board.Inside) : Type 0 where
  pub key : b.table.shared.key ≡ b.shape
  pub words : b.table.shared.table_id.words ≡ word_of (b.shape.stripes + 1)
  pub slots : b.table.shared.table_id.slots ≡ 0
  pub numbers : b.shape.numbers ≤ MAX_TICKETS
  pub some : 0 < b.shape.stripes
  pub most : b.shape.stripes ≤ MAX_STRIPES
