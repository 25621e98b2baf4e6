use Rattle.std.proofs.Common.{◌∙◌, ap, subst, sym}
use Rattle.cp_model_program.specs.Compile.{compile}
use Rattle.cp_model_program.specs.IsProgramFor.{IsProgramFor}
use Rattle.cp_model_program.specs.ParameterCounts.{are_short}
use Rattle.cp_check.proofs.checking.compile_accepted.Goals as goal

pub returns : goal.returns
returns c =
    let represent = c.in_ok-tables.ensures in
    record {
      program = λ setup is.
          subst (λ p. IsProgramFor p setup) (ap compile is ∙ sym (c.in_ok-program.ensures.program c.requires.accepted (rw c.deref.ensures represent)))
          (c.accepted_tree_has_program.ensures setup is (ap (λ t. are_short t.definitions) is ∙ sym c.has_short_parameters.ensures ∙ c.if-not-has_short_parameters.false));
      tables = represent;
    }
