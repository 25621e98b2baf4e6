use Rattle.std.proofs.Common.{◌∷◌, ◌++◌, ◌∙◌, [], ap, map}
use Rattle.cp_model_program.specs.CodedTerms.{call_of}
use Rattle.cp_model_program.specs.Scopes.{environment, target_of, unit_of}
use Rattle.cp_compile_emit.specs.Emission.{coded_call}
use Rattle.cp_compile_lower.proofs.Answered.{all_ok}
use Rattle.cp_compile_lower.proofs.ArgumentsMade.{call_made}
use Rattle.cp_compile_lower.proofs.translator.Translator.function_call.Goals as goal

pub returns-clause-term : goal.returns-clause-term
returns-clause-term c =
    let middle = c.args.calls.now.items in
    let after = c.make_call.new.calls.items in
    all_ok c.make_call.result
    (λ made term temps more s d before ys scope is are.
    call_made before middle after c.args.xs ys made (λ xs. call_of s (unit_of s d) (target_of (environment s) d.of) xs c.args.low) are
    (more ∙ ap (λ k. map coded_call middle ++ record { call = k; into = c.args.xs.temps } ∷ []) (c.in_ok-call.ensures s d scope is)) term temps)
    c.make_call.ensures.term c.make_call.ensures.temps c.make_call.ensures.calls
