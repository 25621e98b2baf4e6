use Rattle.std.proofs.Common.{subst, sym}
use Rattle.std.proofs.lemmas.Result.{on_ok_weaker}
use Rattle.cp_model_program.specs.Compile.{with_body, with_routines}
use Rattle.cp_compile_symbols.specs.Systems.{routines_of}
use Rattle.cp_compile_emit.specs.Planning.{known_of}
use Rattle.cp_compile.specs.Compiles.{IsCompiled}
use Rattle.cp_compile.proofs.system.SystemCompiler.compile.Goals as goal

pub returns-clause-code : goal.returns-clause-code
returns-clause-code c =
    let new = c.body.new.emitter in
    on_ok_weaker c.body.result
    (λ made g s firsts d i first sort_is all body_is is.
    let rs = routines_of c.args.routines.now in
    subst (λ n. IsCompiled (known_of c.args.self.now.planner.now) new (with_body g s firsts n (with_routines g s firsts n s.routines d))) first
    (subst (λ qs. IsCompiled (known_of c.args.self.now.planner.now) new (with_body g s firsts c.args.self.now.first (with_routines g s firsts c.args.self.now.first qs d))) (sym all)
    (made g s firsts (with_routines g s firsts c.args.self.now.first rs d) i sort_is body_is
    (c.in_ok-routines.ensures.code g s firsts d i all is))))
    c.body.ensures.code

pub returns-clause-origin : goal.returns-clause-origin
returns-clause-origin c =
    on_ok_weaker c.body.result
    (λ added g s firsts i all. (c.routines.new.emitter.origins.items, c.in_ok-routines.ensures.origins g s firsts i all, added g s firsts i))
    c.body.ensures.origin
