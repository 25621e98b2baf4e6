use Rattle.std.proofs.Common.{sym, subst}
use Rattle.cp_frontend.specs.declared.refusal.Refusal.{Refusal}
use Rattle.cp_frontend.specs.Texts.{Refuses}
use Rattle.cp_frontend.proofs.TextRefusals.{refuses_tokens}
use Rattle.cp_frontend.proofs.checking.tree_of.Goals as goal

pub returns-clause-refused : goal.returns-clause-refused
returns-clause-refused c =
    let spelled = c.in-Ok.ensures.spelled in
    let refused = rw c.deref.ensures.value at c.in-Err-parse.ensures.refused in
    subst (λ (e : Refusal). Refuses c.args.text.now e) (sym c.syntax_refusal.ensures)
    (refuses_tokens c.args.text.now c.in-Ok.tokens.items c.in-Err-parse.error c.in-Ok.ensures.within spelled refused)
