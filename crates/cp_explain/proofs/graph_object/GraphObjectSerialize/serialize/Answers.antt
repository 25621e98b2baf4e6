use Rattle.std.proofs.lemmas.Result.{on_ok_weaker}
use Rattle.cp_explain.specs.Values.{component_value, rights_value}
use Rattle.cp_explain.proofs.Sent.{values_sent}
use Rattle.cp_explain.proofs.graph_object.GraphObjectSerialize.serialize.Goals as goal

pub returns : goal.returns
returns g c =
    let log = g.S.Serializer.written in
    on_ok_weaker c.end_map.result (λ ended. (
      log c.begin_map.new.self,
      c.in_ok-begin_map.ensures,
      (
        c.in_ok-write_field.ensures.0,
        log c.write_field.new.out,
        c.in_ok-write_field.ensures.1,
        values_sent component_value c.args.self.now.components.items c.in_ok-write_field.ensures.0 (log c.write_field.new.out) c.in_ok-write_field.ensures.2,
        (
          c.in_ok-write_field-2.ensures.0,
          log c.write_field-2.new.out,
          c.in_ok-write_field-2.ensures.1,
          values_sent rights_value c.args.self.now.rights.items c.in_ok-write_field-2.ensures.0 (log c.write_field-2.new.out) c.in_ok-write_field-2.ensures.2,
          ended,
        ),
      ),
    )) c.end_map.ensures
