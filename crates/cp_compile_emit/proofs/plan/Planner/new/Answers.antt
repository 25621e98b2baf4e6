use Rattle.std.proofs.Common.{◌∙◌, Bor, subst, sym}
use Rattle.cp_compile_symbols.specs.declared.tables.Tables.{Tables}
use Rattle.cp_compile_symbols.specs.Layouts.{AreLaid}
use Rattle.cp_compile_symbols.specs.Representing.{ScopeRepresents}
use Rattle.cp_compile_emit.proofs.plan.Planner.new.Goals as goal

pub loop-planner-preserved : goal.loop-planner-preserved
loop-planner-preserved c =
    let same = c.in_ok-add_type.ensures.tables in
    record {
      tables = same ∙ c.loop-planner.invariant.tables;
      knows = λ g scope laid.
          c.in_ok-add_type.ensures.knows g
          (c.loop-planner.invariant.knows g (subst (λ (b : Bor Tables). ScopeRepresents b.now.names b.now.types g) same scope)
          (subst (λ (b : Bor Tables). AreLaid g b.now.types b.now.layouts.rows.items) same laid));
    }

pub returns-clause-knows : goal.returns-clause-knows
returns-clause-knows c = λ g scope laid.
    let same = sym c.loop-planner.invariant.tables in
    c.loop-planner.invariant.knows g (subst (λ (b : Bor Tables). ScopeRepresents b.now.names b.now.types g) same scope)
    (subst (λ (b : Bor Tables). AreLaid g b.now.types b.now.layouts.rows.items) same laid)
