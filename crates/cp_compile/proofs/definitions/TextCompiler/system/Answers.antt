use Rattle.std.proofs.Common.{◌∙◌, ap, length, refl, sym}
use Rattle.cp_model.specs.Abstract as a
use Rattle.cp_compile_emit.specs.Planning.{known_of}
use Rattle.cp_compile.specs.declared.system.SystemCompiler.{SystemCompiler}
use Rattle.cp_compile.proofs.TextsCompiled.{system_known}
use Rattle.cp_compile.proofs.definitions.TextCompiler.system.Goals as goal

pub returns-in_default-clause-code : goal.returns-in_default-clause-code
returns-in_default-clause-code c = λ g m s ms i is named are. absurd ((rw c.in_default.is at c.table.ensures) g s ms i named)

pub returns-in_default-clause-origin : goal.returns-in_default-clause-origin
returns-in_default-clause-origin c = λ g s ms i is named. absurd ((rw c.in_default.is at c.table.ensures) g s ms i named)

pub returns-clause-code : goal.returns-clause-code
returns-clause-code c = λ g m s ms i is named are.
    let text = c.args.self.now in
    let of : SystemCompiler = record { tables = text.tables; planner = text.planner; firsts = c.args.firsts; system = c.in-Some.table; first = c.in_ok-first.first } in
    let table = (rw c.in-Some.is at c.table.ensures) g s ms i named in
    let first = c.in_ok-first.ensures (known_of text.planner.now) ∙ ap length are.compiled.units in
    let made = rw (c.deref.ensures.value, c.deref-2.ensures.value) at c.in_ok-compile.ensures.code in (
      made g s m.firsts m.compiled (system_known of g s m.firsts i table are.firsts_are) first (ap (λ (y : a.System). y.sort) (sym is))
          (ap (λ (y : a.System). y.routines) (sym is)) (ap (λ (y : a.System). y.body) (sym is)) are.compiled,
      first,
    )

pub returns-clause-origin : goal.returns-clause-origin
returns-clause-origin c = λ g s ms i is named.
    let text = c.args.self.now in
    let of : SystemCompiler = record { tables = text.tables; planner = text.planner; firsts = c.args.firsts; system = c.in-Some.table; first = c.in_ok-first.first } in
    let table = (rw c.in-Some.is at c.table.ensures) g s ms i named in
    (rw c.deref.ensures.value at c.in_ok-compile.ensures.origin) g s c.args.firsts.now (system_known of g s c.args.firsts.now i table (λ x. refl))
    (ap (λ (y : a.System). y.routines) (sym is))
