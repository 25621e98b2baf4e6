use Rattle.cp_board.proofs.Opening.{opens}
use Rattle.cp_board.proofs.board.Board.new.Goals as goal

pub of_words-requires : goal.of_words-requires
of_words-requires c = opens (record { numbers = c.args.n; stripes = c.args.stripes }) c.requires.most
