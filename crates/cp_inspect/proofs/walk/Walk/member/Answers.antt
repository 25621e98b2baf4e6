use Rattle.std.proofs.Common.{rules, ◌≡◌, ◌+◌, ◌++◌, ◌∷◌, ◌<◌, suc, [], Some, drop, length, slice_get, map, ap, subst, sym, ◌∙◌, arith}
use Rattle.std.specs.Prelude.{slice_index_or}
use Rattle.std.proofs.lemmas.Option.{slice_get-get_or}
use Rattle.std.proofs.lemmas.Result.{on_ok_weaker}
use Rattle.cp_compile_symbols.specs.Representing.{entry}
use Rattle.cp_compile_symbols.specs.declared.types.Field.{Field}
use Rattle.cp_inspect.specs.Sinks.{held_by, visit_into}
use Rattle.cp_inspect.specs.Walks.{Enters, cursor}
use Rattle.cp_inspect.proofs.Sinks.{held_kept}
use Rattle.cp_inspect.proofs.Going.{drop_got, member_goes}
use Rattle.cp_inspect.proofs.walk.Walk.member.Goals as goal

pub returns : goal.returns
returns c =
    let k = c.args.cursor in
    let old = c.args.self.now in
    let mid = c.leave_rest.new.self in
    let x = c.in-Some.member.now in
    let es = map entry c.args.members.now in
    let below : k.next < length c.args.members.now = search rules in
    let is : x ≡ slice_index_or c.args.members.now k.next x = search rules in
    let there : slice_get c.args.members.now k.next ≡ Some x = slice_get-get_or c.args.members.now k.next x below ∙ ap (λ (y : Field). Some y) (sym is) in
    let next : suc k.next ≡ k.next + 1 = omega arith in
    on_ok_weaker c.enter.result
    (λ E s.
    let tables = c.args.tables.now in
    let v = visit_into s c.args.walk_output.now in
    let new = c.enter.new.self in
    let out = c.args.out.now.items in
    let after = held_by s new c.enter.new.out.items in
    let kept = held_kept s old mid out (c.leave_rest.ensures.leaves ∙ c.name_member.ensures.leaves) in
    member_goes tables v k old mid new (held_by s old out) after es x.name.now x.of (subst (λ b. Enters tables v x.of mid new b after) kept (E s))
    (ap (λ p. p.items) c.leave_rest.ensures.path ∙ c.in_ok-name_member.ensures.path)
    (c.in_ok-leave_rest.ensures.stack ∙ ap (λ s. s.items ++ cursor k.row (k.next + 1) k.path ∷ []) c.name_member.ensures.stack)
    (c.leave_rest.ensures.place ∙ c.name_member.ensures.place) c.requires
    (drop_got entry c.args.members.now k.next x there ∙ ap (λ n. entry x ∷ drop n es) next))
    c.enter.ensures
