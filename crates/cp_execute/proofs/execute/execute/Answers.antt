use Rattle.cp_execute.proofs.execute.execute.Goals as goal

pub returns-in-Run-clause-refused : goal.returns-in-Run-clause-refused
returns-in-Run-clause-refused g c = rw c.in-Run.is c.run_text.ensures.refused

pub returns-in-Run-clause-beginning : goal.returns-in-Run-clause-beginning
returns-in-Run-clause-beginning g c = rw c.in-Run.is c.run_text.ensures.beginning
