use Rattle.std.proofs.Common.{◌≡◌, map, ◌-◌}
use Rattle.cp_model_grammar.specs.Kinds.{is_symbol}
use Rattle.cp_model_grammar.specs.Reading.{◌>>=◌, take_token, repeat}
use Rattle.cp_model_grammar.specs.Reading as reading
use Rattle.cp_syntax.proofs.lists.separated.Given as goal

-- what is still to be read completes the whole
abbrev pub invariant-loop-turn : goal.invariant-loop-turn
invariant-loop-turn g l = repeat (is_symbol l.symbol) (take_token >>= λ _. g.X.Node.reader l.rules) (l._turn-end - l._turn) (map g.X.Node.view l.found.items) l.rest ≡ reading.separated_by l.symbol (g.X.Node.reader l.rules) l.tokens
