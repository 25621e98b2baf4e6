use Rattle.cp_syntax.proofs.types.+type_expression.Given as goal

abbrev pub decreases-type_expression : goal.decreases-type_expression
decreases-type_expression l = l.room
