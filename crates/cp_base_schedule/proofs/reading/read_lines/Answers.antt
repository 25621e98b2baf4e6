use Rattle.std.proofs.Common.{◌≡◌, length, arith}
use Rattle.std.proofs.lemmas.Bool.Decides.{nat_tests}
use Rattle.std.proofs.lemmas.Result.{err_from_is_err_and}
use Rattle.cp_model.specs.OrderText.{order_text}
use Rattle.cp_base_schedule.proofs.Added.{all_read, line_added, none_read, read_refused}
use Rattle.cp_base_schedule.proofs.reading.read_lines.Goals as goal

pub loop-rest-init : goal.loop-rest-init
loop-rest-init c = record {
  read = none_read c.args.processes c.args.text.now _ _ c.new-ends.ensures.items c.new-events.ensures.items;
  place = omega arith;
}

pub loop-rest-preserved : goal.loop-rest-preserved
loop-rest-preserved c =
    let count : c.len.result ≡ length c.read_line.new.events.items = omega (arith, c.len.ensures, c.read_line.new.events.ok.0) in
    let shorter = c.next_line.ensures.shorter in
    let less = c.next_line.ensures.less in
    record {
      read = line_added c.args.processes c.loop-rest.at (order_text c.args.processes c.args.text.now) c.next_line.result.0.now c.loop-rest.rest.now
          c.next_line.result.1.now
          c.next_line.ensures.lines c.loop-rest.ends.items _ c.loop-rest.events.items _ _ c.in_ok-read_line.ensures.ok count c.in_ok-push.ensures.items
          c.loop-rest.invariant.read;
      place = omega arith;
    }

pub returns-in_err-read_line : goal.returns-in_err-read_line
returns-in_err-read_line c =
    let p = err_from_is_err_and c.from_residual.result c.from_residual.ensures.1 in
    let fails = read_refused c.args.processes c.loop-rest.at c.args.text.now c.next_line.result.0.now c.loop-rest.rest.now c.next_line.result.1.now
    c.loop-rest.ends.items c.loop-rest.events.items _ c.requires.within c.next_line.ensures.lines c.in_err-read_line.ensures.refused
    c.loop-rest.invariant.read in
    rw (p.1, p.2) (record { ok = tt; refused = fails })

pub returns : goal.returns
returns c =
    let none : length c.loop-rest.rest.now ≡ 0 = grind (arith, nat_tests, c.loop-rest-test.ensures) in
    record {
      ok = all_read c.args.processes c.loop-rest.at c.args.text.now c.loop-rest.rest.now c.loop-rest.ends.items c.loop-rest.events.items
          c.requires.within none c.loop-rest.invariant.read;
      refused = tt;
    }
