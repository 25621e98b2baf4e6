use Rattle.cp_program.specs.View as view
use Rattle.cp_compile_lower.proofs.Beginning.{local_begins, member_begins}
use Rattle.cp_compile_lower.proofs.names.root_of.Goals as goal

pub returns-in_ok-root_of_local-in-Some-default : goal.returns-in_ok-root_of_local-in-Some-default
returns-in_ok-root_of_local-in-Some-default c = λ types l m local part.
    local_begins types c.in-Some-default.local (view.root c.in_ok-root_of_local-in-Some-default.field-0) l m c.in_ok-root_of_local-in-Some-default.ensures
    (rw c.in-Some-default.is-0 at local)

pub returns-in_ok-root_of_member-in-None-Some : goal.returns-in_ok-root_of_member-in-None-Some
returns-in_ok-root_of_member-in-None-Some c = λ types l m local part.
    member_begins types c.in-None-Some.part (view.root c.in_ok-root_of_member-in-None-Some.field-0) l m c.in_ok-root_of_member-in-None-Some.ensures
    (rw c.in-None-Some.is-0 at local) (rw c.in-None-Some.is-1 at part)
