use Rattle.std.proofs.lemmas.Result.{on_ok_weaker}
use Rattle.cp_explain.specs.Values.{violation_value}
use Rattle.cp_explain.proofs.Sent.{after_mark, marked_sent, refusal_begun, untold_sent, values_sent}
use Rattle.cp_explain.proofs.refusal_objects.RefusalObjectSerialize.serialize.Goals as goal

pub returns : goal.returns
returns g c =
    let log = g.S.Serializer.written in
    let o = c.args.self.now in
    let format = c.in_ok-write_field.ensures in
    let file = c.in_ok-write_field-2.ensures in
    let violations = c.in_ok-write_field-3.ensures in
    on_ok_weaker c.end_map.result (λ ended. (
      log c.begin_map.new.self,
      refusal_begun o c.count_fields.result (log c.args.out.now) (log c.begin_map.new.self) c.count_fields.ensures c.in_ok-begin_map.ensures,
      (
        format.0,
        log c.write_field.new.out,
        format.1,
        format.2,
        marked_sent o.mark (after_mark o) (log c.write_field.new.out) (log c.write.new.out) (log c.end_map.new.self) c.in_ok-write.ensures (
          file.0,
          log c.write_field-2.new.out,
          file.1,
          file.2,
          (
            violations.0,
            log c.write_field-3.new.out,
            violations.1,
            values_sent violation_value o.violations.items violations.0 (log c.write_field-3.new.out) violations.2,
            untold_sent o.untold (log c.write_field-3.new.out) (log c.write_some.new.out) (log c.end_map.new.self) c.in_ok-write_some.ensures ended,
          ),
        ),
      ),
    )) c.end_map.ensures
