use Rattle.std.proofs.Common.{rules, ◌≡◌, [], length, sym, ◌∙◌}
use Rattle.std.proofs.lemmas.List.{nil_from_length}
use Rattle.cp_kernel.proofs.turns.has_nothing_to_do.Goals as goal

pub returns-then-is_empty-clause-empty : goal.returns-then-is_empty-clause-empty
returns-then-is_empty-clause-empty c = λ is.
    let none : length c.output.result.now ≡ 0 = search rules in
    sym (c.output.ensures []) ∙ nil_from_length c.output.result.now none
