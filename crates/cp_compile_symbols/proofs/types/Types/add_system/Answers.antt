use Rattle.std.proofs.Common.{◌≡◌, length, refl, rules}
use Rattle.cp_compile_symbols.proofs.Representing.{last_item, still_item}
use Rattle.cp_compile_symbols.proofs.types.Types.add_system.Goals as goal

pub returns : goal.returns
returns c =
    let old = c.args.self.now.systems.items in
    let items = c.in_ok-push.ensures.items in
    let count : c.len-number.result ≡ length old = search rules in
    record {
      keeps = record { rows = λ n r h. h; systems = λ k s h. rw items (still_item old c.args.system k s h) };
      system = c.args.system;
      added = rw (count, items) (last_item old c.args.system);
      is = refl;
    }
