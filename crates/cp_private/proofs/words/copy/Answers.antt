use Rattle.std.proofs.Common.{◌≡◌, ◌-◌, ◌++◌, length, ◌∙◌, arith}
use Rattle.std.specs.Prelude.{min}
use Rattle.std.proofs.lemmas.List.{length-append}
use Rattle.cp_private.proofs.Blocks.{copied_there}
use Rattle.cp_private.proofs.words.copy.Goals as goal

pub returns-then-there-ne0-clause-words : goal.returns-then-there-ne0-clause-words
returns-then-there-ne0-clause-words c =
    let ws = c.args.own.now ++ c.args.shared.now in
    let there : c.min-there.result ≡ min c.args.count (length ws - c.args.to) = omega (arith, length-append c.args.own.now c.args.shared.now) in
    c.copy_there.ensures.words ∙ copied_there ws c.args.to c.args.from c.args.count c.min-there.result there

pub returns-else-there-ne0-clause-words : goal.returns-else-there-ne0-clause-words
returns-else-there-ne0-clause-words c =
    let ws = c.args.own.now ++ c.args.shared.now in
    let there : 0 ≡ min c.args.count (length ws - c.args.to) = omega (arith, length-append c.args.own.now c.args.shared.now) in
    copied_there ws c.args.to c.args.from c.args.count 0 there
