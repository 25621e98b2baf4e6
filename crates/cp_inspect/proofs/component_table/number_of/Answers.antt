use Rattle.std.proofs.Common.{rules, ◌≡◌, ℕ, suc, ◌+◌, Option, Some, Bor, [], ap, ◌∙◌, sym, arith}
use Rattle.cp_inspect.specs.Names.{is_same_name}
use Rattle.cp_compile_symbols.specs.declared.types.Field.{Field}
use Rattle.cp_inspect.proofs.Named.{first_found, first_passed, same_name}
use Rattle.cp_inspect.proofs.component_table.number_of.Goals as goal

abbrev no_field : Field
no_field = record { name = record { ref_ptr = (0, 0); now = [] }; of = 0 }

pub returns-then-eq_ignore_ascii_case : goal.returns-then-eq_ignore_ascii_case
returns-then-eq_ignore_ascii_case c =
    let at = c.loop-at.at in
    let found : is_same_name _ c.args.name.now ≡ _ = same_name c.eq_ignore_ascii_case.result _ c.args.name.now c.eq_ignore_ascii_case.ensures.test ∙ c.if-eq_ignore_ascii_case.true in
    let number : c.in_ok-small_number.field-0 ≡ at + c.args.first = search rules in
    ap (λ n. Some n) number ∙ (sym (first_found (at + c.args.first) c.args.name.now c.args.list.now at no_field c.loop-at-test.true found) ∙ c.loop-at.invariant)

pub loop-at-preserved : goal.loop-at-preserved
loop-at-preserved c =
    let at = c.loop-at.at in
    let other : is_same_name _ c.args.name.now ≡ _ = same_name c.eq_ignore_ascii_case.result _ c.args.name.now c.eq_ignore_ascii_case.ensures.test ∙ c.if-eq_ignore_ascii_case.false in
    let passed = first_passed (at + c.args.first) c.args.name.now c.args.list.now at no_field c.loop-at-test.true other in
    let next : at + 1 + c.args.first ≡ suc (at + c.args.first) = omega arith in
    let place : at + 1 ≡ suc at = omega arith in
    rw (next, place) (sym passed ∙ c.loop-at.invariant)
