use Rattle.std.proofs.Common.{◌<◌, ◌^◌, ◌++◌, length, ◌∙◌, arith}
use Rattle.std.proofs.lemmas.List.{length-append}
use Rattle.cp_private.proofs.Blocks.{set_capped, set_neither, set_own, set_shared}
use Rattle.cp_private.proofs.words.write.Goals as goal

pub returns-then-at-count-clause-capped : goal.returns-then-at-count-clause-capped
returns-then-at-count-clause-capped c =
    let own = c.args.own.now in
    let shared = c.args.shared.now in
    let small : length (own ++ shared) < 2 ^ 32 = omega (arith, length-append own shared, c.requires) in
    λ place is. set_own own shared c.args.at c.args.n c.ranges.n c.if-at-count.true ∙ set_capped (own ++ shared) place c.args.at c.args.n small is

pub returns-then-behind-shared-clause-capped : goal.returns-then-behind-shared-clause-capped
returns-then-behind-shared-clause-capped c =
    let own = c.args.own.now in
    let shared = c.args.shared.now in
    let small : length (own ++ shared) < 2 ^ 32 = omega (arith, length-append own shared, c.requires) in
    λ place is. set_shared own shared c.args.at c.args.n c.ranges.n c.if-at-count.false ∙ set_capped (own ++ shared) place c.args.at c.args.n small is

pub returns-else-behind-shared-clause-capped : goal.returns-else-behind-shared-clause-capped
returns-else-behind-shared-clause-capped c =
    let own = c.args.own.now in
    let shared = c.args.shared.now in
    let small : length (own ++ shared) < 2 ^ 32 = omega (arith, length-append own shared, c.requires) in
    λ place is. set_neither own shared c.args.at c.args.n c.if-at-count.false c.if-behind-shared.false
    ∙ set_capped (own ++ shared) place c.args.at c.args.n small is
