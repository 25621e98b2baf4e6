use Rattle.std.proofs.lemmas.Result.{on_ok_weaker}
use Rattle.cp_explain.proofs.accepted_object.NoteObjectSerialize.serialize.Goals as goal

pub returns : goal.returns
returns g c =
    let log = g.S.Serializer.written in
    on_ok_weaker c.end_map.result (λ ended. (
      log c.begin_map.new.self,
      c.in_ok-begin_map.ensures,
      (
        c.in_ok-write_field.ensures.0,
        log c.write_field.new.out,
        c.in_ok-write_field.ensures.1,
        c.in_ok-write_field.ensures.2,
        (
          c.in_ok-write_field-2.ensures.0,
          log c.write_field-2.new.out,
          c.in_ok-write_field-2.ensures.1,
          c.in_ok-write_field-2.ensures.2,
          (
            c.in_ok-write_field-3.ensures.0,
            log c.write_field-3.new.out,
            c.in_ok-write_field-3.ensures.1,
            c.in_ok-write_field-3.ensures.2,
            (
              c.in_ok-write_field-4.ensures.0,
              log c.write_field-4.new.out,
              c.in_ok-write_field-4.ensures.1,
              c.in_ok-write_field-4.ensures.2,
              (
                c.in_ok-write_field-5.ensures.0,
                log c.write_field-5.new.out,
                c.in_ok-write_field-5.ensures.1,
                c.in_ok-write_field-5.ensures.2,
                ended,
              ),
            ),
          ),
        ),
      ),
    )) c.end_map.ensures
