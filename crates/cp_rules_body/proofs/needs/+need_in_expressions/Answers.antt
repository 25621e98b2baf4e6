use Rattle.std.proofs.Common.{◌≡◌, map, refl}
use Rattle.cp_model.specs.Syntax.{chain_of}
use Rattle.cp_model.specs.View.{expression, operation}
use Rattle.cp_rules_body.proofs.NeedsOfChains.{need_chain}
use Rattle.cp_model.proofs.Views.{view_chain}
use Rattle.cp_rules_body.proofs.needs.+need_in_expressions.Goals as goal

pub need_of_expression-returns-in-Chain : goal.need_of_expression-returns-in-Chain
need_of_expression-returns-in-Chain t c =
    let env = c.args.env.now in
    let e = expression c.in-Chain.first.value in
    let os = map operation c.in-Chain.rest.items in
    let v : expression c.args.value.now ≡ chain_of e os = rw c.in-Chain.is (view_chain c.in-Chain.first c.in-Chain.rest) in
    let first = rw c.deref-in-Chain.ensures at c.need_of_expression-in-Chain.ensures in
    let rest = rw c.deref-in-Chain-2.ensures.value at c.need_of_operations.ensures in
    rw (v, need_chain env e os, c.max-in-Chain.ensures, first, rest) refl
