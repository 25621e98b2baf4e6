use Rattle.std.proofs.Common.{rules, ◌≡◌, ◌∙◌, true, false, ap, sym, take, if◌then◌else◌}
use Rattle.std.specs.Prelude.{◌&&◌}
use Rattle.cp_model_program.specs.Plans.{is_flat, is_short}
use Rattle.cp_compile_emit.specs.Planning.{known_of}
use Rattle.cp_compile_emit.proofs.PartsPlanned.{weight_is}
use Rattle.cp_compile_emit.proofs.plan.Planner.weight.Goals as goal

pub returns-then-is_light : goal.returns-then-is_light
returns-then-is_light c =
    let known = known_of c.args.self.now in
    let is = c.is_light.ensures (take c.args.part.plan known) ∙ ap (λ p. is_short p && is_flat p) c.starts.ensures in
    let light : c.is_light.result ≡ true = search rules in
    sym (weight_is known c.args.part c.is_light.result is ∙ ap (λ b. if b then 0 else c.args.part.size) light)

pub returns-else-is_light : goal.returns-else-is_light
returns-else-is_light c =
    let known = known_of c.args.self.now in
    let is = c.is_light.ensures (take c.args.part.plan known) ∙ ap (λ p. is_short p && is_flat p) c.starts.ensures in
    let heavy : c.is_light.result ≡ false = search rules in
    sym (weight_is known c.args.part c.is_light.result is ∙ ap (λ b. if b then 0 else c.args.part.size) heavy)
