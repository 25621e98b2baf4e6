use Rattle.std.specs.Prelude.{Err, Ok}
use Rattle.std.proofs.lemmas.Result.{err_from_is_err_and}
use Rattle.cp_frontend.proofs.Takings.{text_taken}
use Rattle.cp_frontend.proofs.TextRefusals.{accepted_known, known_accepted, refused_is_about_text, refused_known}
use Rattle.cp_frontend.proofs.sources.read_accepted.Goals as goal

pub returns-in_err-accepted-clause-refused : goal.returns-in_err-accepted-clause-refused
returns-in_err-accepted-clause-refused g c =
    let p = err_from_is_err_and c.from_residual-in_err-accepted.result c.from_residual-in_err-accepted.ensures.1 in
    rw (p.1, p.2) (refused_known {A = Unit {0}} (Err c.in_err-accepted.field-0.0) (g.R.Read.remaining c.args.text.now) c.in_ok-bytes.bytes.items c.in_ok-bytes.ensures.bytes
    (rw c.deref.ensures.value at c.in_err-accepted.ensures.refused))

pub returns-in_err-accepted-clause-about_text : goal.returns-in_err-accepted-clause-about_text
returns-in_err-accepted-clause-about_text g c =
    let p = err_from_is_err_and c.from_residual-in_err-accepted.result c.from_residual-in_err-accepted.ensures.1 in
    rw (p.1, p.2) (refused_is_about_text {A = Unit {0}} (Err c.in_err-accepted.field-0.0) c.in_ok-bytes.bytes.items (rw c.deref.ensures.value at c.in_err-accepted.ensures.refused))

pub returns-in_err-accepted-clause-taken : goal.returns-in_err-accepted-clause-taken
returns-in_err-accepted-clause-taken g c =
    let p = err_from_is_err_and c.from_residual-in_err-accepted.result c.from_residual-in_err-accepted.ensures.1 in
    rw (p.1, p.2) (text_taken {T = Unit {0}} (Err c.in_err-accepted.field-0.0) (g.R.Read.remaining c.args.text.now) (g.R.Read.remaining c.read_text.new.reader) c.in_ok-bytes.ensures.front)

pub returns-clause-accepted : goal.returns-clause-accepted
returns-clause-accepted g c =
    rw c.new.ensures (known_accepted (Ok c.in_ok-accepted.accepted) c.in_ok-bytes.bytes.items (rw c.deref.ensures.value at c.in_ok-accepted.ensures.accepted))

pub returns-clause-text : goal.returns-clause-text
returns-clause-text g c =
    rw c.new.ensures (accepted_known (Ok c.in_ok-accepted.accepted) (g.R.Read.remaining c.args.text.now) c.in_ok-bytes.bytes.items c.in_ok-bytes.ensures.bytes
    (rw c.deref.ensures.value at c.in_ok-accepted.ensures.accepted))

pub returns-clause-taken : goal.returns-clause-taken
returns-clause-taken g c =
    text_taken (Ok c.in_ok-accepted.accepted) (g.R.Read.remaining c.args.text.now) (g.R.Read.remaining c.read_text.new.reader) c.in_ok-bytes.ensures.front
