use Rattle.std.proofs.lemmas.Result.{on_ok_weaker}
use Rattle.cp_explain.proofs.Sent.{texts_sent}
use Rattle.cp_explain.proofs.refusal_objects.ViolationObjectSerialize.serialize.Goals as goal

pub returns : goal.returns
returns g c =
    let log = g.S.Serializer.written in
    on_ok_weaker c.end_map.result (λ ended. (
      log c.begin_map.new.self,
      c.in_ok-begin_map.ensures,
      (
        c.in_ok-write_field.ensures.0,
        log c.write_field.new.out,
        c.in_ok-write_field.ensures.1,
        c.in_ok-write_field.ensures.2,
        (
          c.in_ok-write_field-2.ensures.0,
          log c.write_field-2.new.out,
          c.in_ok-write_field-2.ensures.1,
          c.in_ok-write_field-2.ensures.2,
          (
            c.in_ok-write_field-3.ensures.0,
            log c.write_field-3.new.out,
            c.in_ok-write_field-3.ensures.1,
            c.in_ok-write_field-3.ensures.2,
            (
              c.in_ok-write_field-4.ensures.0,
              log c.write_field-4.new.out,
              c.in_ok-write_field-4.ensures.1,
              c.in_ok-write_field-4.ensures.2,
              (
                c.in_ok-write_field-5.ensures.0,
                log c.write_field-5.new.out,
                c.in_ok-write_field-5.ensures.1,
                c.in_ok-write_field-5.ensures.2,
                (
                  c.in_ok-write_field-6.ensures.0,
                  log c.write_field-6.new.out,
                  c.in_ok-write_field-6.ensures.1,
                  c.in_ok-write_field-6.ensures.2,
                  (
                    c.in_ok-write_field-7.ensures.0,
                    log c.write_field-7.new.out,
                    c.in_ok-write_field-7.ensures.1,
                    c.in_ok-write_field-7.ensures.2,
                    (
                      c.in_ok-write_field-8.ensures.0,
                      log c.write_field-8.new.out,
                      c.in_ok-write_field-8.ensures.1,
                      c.in_ok-write_field-8.ensures.2,
                      (
                        c.in_ok-write_field-9.ensures.0,
                        log c.write_field-9.new.out,
                        c.in_ok-write_field-9.ensures.1,
                        texts_sent c.args.self.now.hints.items c.in_ok-write_field-9.ensures.0 (log c.write_field-9.new.out) c.in_ok-write_field-9.ensures.2,
                        (
                          c.in_ok-write_field-10.ensures.0,
                          log c.write_field-10.new.out,
                          c.in_ok-write_field-10.ensures.1,
                          texts_sent c.args.self.now.expected.items c.in_ok-write_field-10.ensures.0 (log c.write_field-10.new.out) c.in_ok-write_field-10.ensures.2,
                          ended,
                        ),
                      ),
                    ),
                  ),
                ),
              ),
            ),
          ),
        ),
      ),
    )) c.end_map.ensures
