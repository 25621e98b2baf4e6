use Rattle.cp_rules.specs.Endings.{rest_of}
use Rattle.cp_rules.proofs.WholeTexts.{rest_judged}
use Rattle.cp_rules.proofs.checker.Checker.judge_left.Goals as goal

pub returns : goal.returns
returns c =
    rest_judged (rest_of c.args.left.now) c.args.self.now c.define_types.new.self c.define_sections.new.self c.variables.new.self
    c.routines.new.self c.initial_body.new.self c.in_ok-words.words c.in_ok-define_types.ensures c.in_ok-define_sections.ensures
    (rw c.deref.ensures.value at c.in_ok-words.ensures) (rw c.deref-2.ensures.value at c.in_ok-routines.ensures) c.in_ok-initial_body.ensures
