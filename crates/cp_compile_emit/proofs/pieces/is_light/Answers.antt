use Rattle.std.proofs.Common.{rules, ◌≡◌, ◌∙◌, true, false, ap, sym}
use Rattle.std.specs.Prelude.{◌&&◌}
use Rattle.cp_model_program.specs.Plans.{is_flat}
use Rattle.cp_program.specs.View.{plan_of}
use Rattle.cp_compile_emit.proofs.pieces.is_light.Goals as goal

pub returns-then-is_short : goal.returns-then-is_short
returns-then-is_short c = λ known.
    let short : c.is_short.result ≡ true = search rules in
    c.is_flat.ensures known
    ∙ sym (ap (λ b. b && is_flat (plan_of known c.args.pieces.now)) (sym (c.is_short.ensures known) ∙ short))

pub returns-else-is_short : goal.returns-else-is_short
returns-else-is_short c = λ known.
    let long : c.is_short.result ≡ false = search rules in
    sym (ap (λ b. b && is_flat (plan_of known c.args.pieces.now)) (sym (c.is_short.ensures known) ∙ long))
