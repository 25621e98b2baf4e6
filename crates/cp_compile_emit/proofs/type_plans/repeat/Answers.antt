use Rattle.std.proofs.Common.{rules, ◌≡◌, ◌∙◌, true, false, ap, sym}
use Rattle.std.proofs.lemmas.Result.{on_ok_weaker}
use Rattle.cp_model_program.specs.Programs as code
use Rattle.cp_compile_emit.proofs.TypesPlanned.{no_repeats, some_repeats}
use Rattle.cp_compile_emit.proofs.type_plans.repeat.Goals as goal

pub returns-then-is_once : goal.returns-then-is_once
returns-then-is_once c = λ known none.
    let once : c.is_once.result ≡ true = search rules in
    none ∙ no_repeats c.args.size c.args.count (sym c.is_once.ensures ∙ once)

pub returns-else-is_once : goal.returns-else-is_once
returns-else-is_once c =
    let several : c.is_once.result ≡ false = search rules in
    on_ok_weaker c.repeat.result
    (λ made known none.
    made known ∙ ap (code.Repeat 0 c.args.size c.args.count) none ∙ some_repeats c.args.size c.args.count (sym c.is_once.ensures ∙ several))
    c.repeat.ensures
