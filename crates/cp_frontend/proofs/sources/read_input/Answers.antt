use Rattle.std.proofs.Common.{rules, ◌≡◌, Ok, Err}
use Rattle.std.proofs.lemmas.Result.{err_from_is_err_and}
use Rattle.cp_frontend.specs.Cutting.{judge_input}
use Rattle.cp_frontend.specs.Takings.{concern}
use Rattle.cp_frontend.proofs.Takings.{input_at}
use Rattle.cp_frontend.proofs.TextRefusals.{input_known, refuses_input_of}
use Rattle.cp_frontend.proofs.sources.read_input.Goals as goal

pub returns-in_err-check_input-clause-refused : goal.returns-in_err-check_input-clause-refused
returns-in_err-check_input-clause-refused g c =
    let p = err_from_is_err_and c.from_residual-in_err-check_input.result c.from_residual-in_err-check_input.ensures.1 in
    let diagnostics : judge_input c.in_ok-bytes.bytes.items ≡ Err c.in_err-check_input.field-0.0 = search rules in
    rw (p.1, p.2) (refuses_input_of (g.S.Read.remaining c.args.input.now) c.in_ok-bytes.bytes.items c.in_err-check_input.field-0.0 c.in_ok-bytes.ensures.bytes diagnostics)

pub returns-in_err-check_input-clause-taken : goal.returns-in_err-check_input-clause-taken
returns-in_err-check_input-clause-taken g c =
    let p = err_from_is_err_and c.from_residual-in_err-check_input.result c.from_residual-in_err-check_input.ensures.1 in
    let diagnostics : judge_input c.in_ok-bytes.bytes.items ≡ Err c.in_err-check_input.field-0.0 = search rules in
    let refused = refuses_input_of (g.S.Read.remaining c.args.input.now) c.in_ok-bytes.bytes.items c.in_err-check_input.field-0.0 c.in_ok-bytes.ensures.bytes diagnostics in
    rw (p.1, p.2) (input_at _ _ (concern c.in_err-check_input.field-0.0) refused.0 c.in_ok-bytes.ensures.front)

pub returns-clause-input : goal.returns-clause-input
returns-clause-input g c =
    let judged : judge_input c.in_ok-bytes.bytes.items ≡ Ok tt = search rules in
    input_known (g.S.Read.remaining c.args.input.now) c.in_ok-bytes.bytes.items c.in_ok-bytes.ensures.bytes judged
