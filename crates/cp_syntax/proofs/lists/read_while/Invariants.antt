use Rattle.std.proofs.Common.{◌≡◌, map, ◌-◌}
use Rattle.cp_model_grammar.specs.Reading as reading
use Rattle.cp_syntax.proofs.lists.read_while.Given as goal

-- what is still to be read completes the whole
abbrev pub invariant-loop-turn : goal.invariant-loop-turn
invariant-loop-turn g l = reading.repeat g.X.Item.begins (g.X.Node.reader l.rules) (l._turn-end - l._turn) (map g.X.Node.view l.found.items) l.rest ≡ reading.repeat_while g.X.Item.begins (g.X.Node.reader l.rules) (map g.X.Node.view l.fn.found.items) l.tokens
