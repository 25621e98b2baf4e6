use Rattle.std.proofs.Common.{◌≡◌, ◌++◌, drop, length, map, take, vec_len}
use Rattle.cp_model_program.specs.CodedStatements.{calls_at}
use Rattle.cp_compile_emit.specs.Emission.{Emits, coded_call, origins_of_calls, place_of}
use Rattle.cp_compile_emit.proofs.emitter.Emitter.emit_calls.Given as goal

-- The calls that are no longer left have been emitted.
abbrev pub invariant-loop-made : goal.invariant-loop-made
invariant-loop-made l =
    let made = calls_at (map coded_call (drop (length l.left.items) l.fn.calls.items)) (place_of l.fn.self) l.next in
    record {
      left : l.left.items ≡ take (length l.left.items) l.fn.calls.items;
      entry : l.entry ≡ made.entry;
      emits : Emits l.fn.self l.self made.operations;
      origins : l.self.origins.items ≡ l.fn.self.origins.items ++ origins_of_calls (drop (length l.left.items) l.fn.calls.items);
    }

abbrev pub decreases-loop-made : goal.decreases-loop-made
decreases-loop-made l = vec_len l.left
