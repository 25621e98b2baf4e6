use Rattle.std.proofs.Common.{sym}
use Rattle.cp_rules_body.proofs.members.member.Goals as goal

pub returns-in-Record : goal.returns-in-Record
returns-in-Record c = rw (c.in-Variable.is, sym c.structure.ensures, c.in-Record.is, sym c.member.ensures) (c.entity_of_member.ensures c.args.env.now)

pub returns-in-System : goal.returns-in-System
returns-in-System c =
    rw (c.in-Variable.is, sym c.structure.ensures, c.in-System.is, sym c.system_row-k.ensures, sym c.member-in-System.ensures) (c.entity_of_member-in-System.ensures c.args.env.now)
