use Rattle.std.proofs.lemmas.Result.{on_ok_weaker}
use Rattle.cp_model.specs.Types.{Queue}
use Rattle.cp_compile_symbols.proofs.Representing.{still_scope}
use Rattle.cp_compile_symbols.proofs.outer.Outer.add_standard.Goals as goal

pub returns : goal.returns
returns c =
    let old = c.args.self.now in
    let grown = c.in_ok-queue.ensures.grows in
    on_ok_weaker c.add_constant-2.result
    (λ defines g start.
    let queued = c.in_ok-add_type.ensures g Queue (still_scope old.types c.add.new.self grown old.names g start) c.in_ok-queue.ensures.added in
    let char = c.in_ok-add_base.ensures _ queued in
    let boolean = c.in_ok-add_base-2.ensures _ char in
    let integer = c.in_ok-add_base-3.ensures _ boolean in
    let true' = c.in_ok-add_constant.ensures _ integer in
    rw (c.simple.ensures, c.simple-2.ensures, c.simple-3.ensures, c.value.ensures, c.value-2.ensures) at (defines _ true'))
    c.add_constant-2.ensures
