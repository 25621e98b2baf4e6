use Rattle.std.proofs.Common.{◌∙◌, ap, sym}
use Rattle.cp_model.specs.Arguments.{designator_of}
use Rattle.cp_model.specs.Expressions.{name_of}
use Rattle.cp_model.specs.declared.tree.Expression.TheVariants as written
use Rattle.cp_compile_lower.proofs.Consisting.{bare_call, bare_chain, meant, no_bare_call, no_bare_chain, no_character, no_not, no_number, no_signed, other_name}
use Rattle.cp_compile_lower.proofs.components.+argument_name.Goals as goal

pub returns-in-empty : goal.returns-in-empty
returns-in-empty t c =
    (rw c.deref.ensures at c.lone_name-in-empty.ensures)
    ∙ sym (ap (λ e. name_of (designator_of e))
    (ap meant c.in-Call.is ∙ bare_call c.in-Call.d c.in-Call.es (rw c.as_slice.ensures.value at c.in-empty.len_below)))

pub returns-in-len1-up : goal.returns-in-len1-up
returns-in-len1-up t c =
    other_name c.args.expression.now (written.Call c.in-Call.d c.in-Call.es) c.in-Call.is
    (no_bare_call c.in-Call.d c.in-Call.es (rw c.as_slice.ensures.value at c.in-len1-up.len_at_least))

pub returns-in-empty-as_slice : goal.returns-in-empty-as_slice
returns-in-empty-as_slice t c =
    (rw c.deref-in-empty-as_slice.ensures at c.argument_name-in-empty-as_slice.ensures)
    ∙ sym (ap (λ e. name_of (designator_of e))
    (ap meant c.in-Chain.is ∙ bare_chain c.in-Chain.first c.in-Chain.rest (rw c.as_slice-in-Chain.ensures.value at c.in-empty-as_slice.len_below)))

pub returns-in-len1-up-as_slice : goal.returns-in-len1-up-as_slice
returns-in-len1-up-as_slice t c =
    other_name c.args.expression.now (written.Chain c.in-Chain.first c.in-Chain.rest) c.in-Chain.is
    (no_bare_chain c.in-Chain.first c.in-Chain.rest (rw c.as_slice-in-Chain.ensures.value at c.in-len1-up-as_slice.len_at_least))

pub returns-in-Number : goal.returns-in-Number
returns-in-Number t c =
    other_name c.args.expression.now (written.Number c.in-Number.at c.in-Number.value) c.in-Number.is (no_number c.in-Number.at c.in-Number.value)

pub returns-in-Character : goal.returns-in-Character
returns-in-Character t c =
    other_name c.args.expression.now (written.Character c.in-Character.at c.in-Character.ordinal) c.in-Character.is
    (no_character c.in-Character.at c.in-Character.ordinal)

pub returns-in-Not : goal.returns-in-Not
returns-in-Not t c = other_name c.args.expression.now (written.Not c.in-Not.at c.in-Not.operand) c.in-Not.is (no_not c.in-Not.at c.in-Not.operand)

pub returns-in-Signed : goal.returns-in-Signed
returns-in-Signed t c =
    other_name c.args.expression.now (written.Signed c.in-Signed.sign c.in-Signed.at c.in-Signed.operand) c.in-Signed.is
    (no_signed c.in-Signed.sign c.in-Signed.at c.in-Signed.operand)
