use Rattle.std.proofs.Common.{ℕ, Some, rules, length, sym, ap, ◌<◌, ◌∙◌}
use Rattle.std.proofs.lemmas.Option.{slice_get-get_or}
use Rattle.cp_search_store.proofs.rows.number_at.Goals as goal

pub returns-in-Some : goal.returns-in-Some
returns-in-Some c =
    let ns = c.args.numbers.now in
    let n = c.in-Some.number.now in
    let there = c.in-Some.ensures.lookup in
    let below : c.args.index < length ns = search rules in
    slice_get-get_or ns c.args.index n below ∙ ap (λ (m : ℕ). Some m) (sym there.1)
