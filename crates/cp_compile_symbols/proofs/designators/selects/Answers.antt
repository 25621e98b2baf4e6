use Rattle.cp_compile_symbols.proofs.Designating.{indexed_selects, nothing_indexed}
use Rattle.cp_compile_symbols.proofs.designators.selects.Goals as goal

pub returns-in-len1-up-clause-yes : goal.returns-in-len1-up-clause-yes
returns-in-len1-up-clause-yes c = λ yes.
    rw c.in-Indexed.is (indexed_selects c.in-Indexed.indices (rw c.as_slice.ensures.value at c.in-len1-up.len_at_least))

pub returns-in-empty-clause-no : goal.returns-in-empty-clause-no
returns-in-empty-clause-no c = λ no d.
    rw c.in-Indexed.is (nothing_indexed c.in-Indexed.indices d (rw c.as_slice.ensures.value at c.in-empty.len_below))
