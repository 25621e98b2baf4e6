use Rattle.std.proofs.Common.{◌+◌, sym, ◌∙◌, arith}
use Rattle.cp_search_states.proofs.state.SearchState.proceeds.Goals as goal

pub returns-then-can_move_at : goal.returns-then-can_move_at
returns-then-can_move_at c = λ e.
    let test = c.loop-i-test.true in
    let count = c.processes-i-end.ensures in
    record {
      process = c.loop-i.i + 1;
      first = omega arith;
      last = omega (arith, test, count);
      moves = λ inputs. sym (c.can_move_at.ensures inputs) ∙ c.if-can_move_at.true;
    }
