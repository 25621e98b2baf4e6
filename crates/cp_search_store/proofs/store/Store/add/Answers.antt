use Rattle.std.proofs.Common.{rules, ◌≡◌, length}
use Rattle.cp_search_store.proofs.Growing.{added_known, added_new}
use Rattle.cp_search_store.proofs.store.Store.add.Goals as goal

pub returns-then-has_row : goal.returns-then-has_row
returns-then-has_row c = λ e.
    let has = c.has_row.ensures c.if-has_row.true in
    added_known c.args.self.now has.index c.args.kernel c.args.row.now has.at c.requires.sound

pub returns : goal.returns
returns c = λ e.
    let long : length c.args.row.now ≡ c.args.self.now.width = search rules in
    added_new c.args.self.now c.push.new.self c.args.kernel c.args.row.now c.in_ok-push.ensures long c.requires.sound c.requires.kernel c.requires.parts
