use Rattle.std.proofs.lemmas.Result.{err_from_is_err_and}
use Rattle.cp_frontend.proofs.Faults.{known_fault}
use Rattle.cp_execute.proofs.execute.check_text.Goals as goal

pub returns-in_err-read_accepted-clause-faults : goal.returns-in_err-read_accepted-clause-faults
returns-in_err-read_accepted-clause-faults g c =
    let p = err_from_is_err_and c.from_residual.result c.from_residual.ensures.1 in
    rw (p.1, p.2) (known_fault (g.R.Read.remaining c.args.text.now) c.in_err-read_accepted.field-0.0 c.in_err-read_accepted.ensures.refused)
