use Rattle.std.proofs.Common.{List, Some, rules, length, slice_get, sym, ap, ◌<◌, ◌∙◌}
use Rattle.std.proofs.lemmas.Option.{slice_get-get_or}
use Rattle.cp_search_store.specs.declared.moves.Key.{Key}
use Rattle.cp_search_store.specs.declared.moves.Move.{Move}
use Rattle.cp_search_store.proofs.moves.Moves.at.Goals as goal

pub returns-else-not-is_same_key : goal.returns-else-not-is_same_key
returns-else-not-is_same_key c =
    let xs = c.deref.result.now in
    let i = c.args.index in
    let made = c.in-Some.made.now in
    let there = c.in-Some.ensures.lookup in
    let below : i < length xs = search rules in
    record {
      index = i;
      there = ap (λ (l : List Move). slice_get l i) (sym c.deref.ensures.value)
          ∙ (slice_get-get_or xs i made below
          ∙ (ap (λ (m : Move). Some m) (sym there.1)
          ∙ ap (λ (k : Key). Some (record made { key = k })) (c.is_same_key.ensures c.if-not-is_same_key.false)));
    }
