use Rattle.std.proofs.Common.{rules}
use Rattle.cp_frontend.proofs.Bytes.{written_part}
use Rattle.cp_frontend.proofs.writing.write_all.Goals as goal

pub loop-written-preserved : goal.loop-written-preserved
loop-written-preserved g c = record {
  within = search rules;
  appended = written_part _ _ _ c.loop-written.written c.in_ok-written.field-0 c.args.bytes.now c.loop-written.invariant.appended c.in_ok-written.ensures.ok;
}
