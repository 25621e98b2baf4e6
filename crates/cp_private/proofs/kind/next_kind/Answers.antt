use Rattle.std.proofs.Common.{ap, sym, ◌∙◌}
use Rattle.cp_private.specs.Promises.{meaning_kind}
use Rattle.cp_private.specs.States.{private_of}
use Rattle.cp_program.specs.View as view
use Rattle.cp_private.proofs.KindsMeant.{blocked_is_kernel, kind_is_meant}
use Rattle.cp_private.proofs.kind.next_kind.Goals as goal

pub returns-clause-meaning : goal.returns-clause-meaning
returns-clause-meaning c = λ input setup F p own s before I part.
    let program = view.program c.args.program.now in
    let o = private_of c.args.private.now input in
    let is = c.kind_at_counter.ensures input in (
      (λ free. kind_is_meant program setup F p own s before o I part free ∙ ap meaning_kind (sym is)),
      (λ blocked. is ∙ blocked_is_kernel program setup F p own s before o I part blocked),
    )
