use Rattle.cp_law_search.proofs.law.accepted_tree_is_clockless.Goals as goal

pub returns : goal.returns
returns c setup is short free = c.clockless_texts.ensures setup (c.accepted_tree_has_program.ensures setup is short) free
