use Rattle.std.proofs.Common.{rules, ◌≡◌, ◌<◌, ◌^◌, ◌++◌, length, ap, ◌∙◌, arith}
use Rattle.std.proofs.lemmas.List.{length-append, with_items_is}
use Rattle.cp_private.specs.States.{join}
use Rattle.cp_private.proofs.Blocks.{copied_capped}
use Rattle.cp_private.proofs.private.Private.move_words.Goals as goal

pub returns-clause-step : goal.returns-clause-step
returns-clause-step c =
    let old = c.args.self.now in
    let shared = c.args.shared.now in
    let ws = old.memory.words.items ++ shared in
    let small : length ws < 2 ^ 32 = omega (arith, length-append old.memory.words.items shared, c.requires, old.facts) in
    let same : length c.copy.new.own ≡ old.memory.words.len = search rules in
    λ input i j toward away.
    ap (λ us. record (join old input shared) { words = us })
    (ap (λ us. us ++ c.copy.new.shared) (with_items_is old.memory.words c.copy.new.own same)
    ∙ (rw c.deref_mut.ensures.value at c.copy.ensures.words ∙ copied_capped ws c.args.to c.args.from i j c.args.count small toward away))
