use Rattle.std.proofs.Common.{subst}
use Rattle.cp_cli.specs.Options.{HasNumbersOf}
use Rattle.cp_cli.proofs.reading.invocation_of.Goals as goal

pub returns-clause-numbers : goal.returns-clause-numbers
returns-clause-numbers c =
    subst (λ o. HasNumbersOf o c.in_ok-command.command) (rw c.in-Some.is at c.subcommand.ensures.rows) c.in_ok-command.ensures.numbers
