use Rattle.std.proofs.Common.{◌≡◌, map}
use Rattle.cp_model.specs.Syntax.{chain_of}
use Rattle.cp_model.specs.View.{expression, operation}
use Rattle.cp_model.proofs.Views.{first_token_chain, view_chain}
use Rattle.cp_model.proofs.tree.Expression.+first_token.Goals as goal

pub returns-in-Chain : goal.returns-in-Chain
returns-in-Chain t c =
    let os = map operation c.in-Chain.rest.items in
    let v : expression c.args.self.now ≡ chain_of (expression c.in-Chain.first.value) os = rw c.in-Chain.is (view_chain c.in-Chain.first c.in-Chain.rest) in
    rw (v, first_token_chain (expression c.in-Chain.first.value) os) (rw c.deref-in-Chain.ensures at c.first_token.ensures)
