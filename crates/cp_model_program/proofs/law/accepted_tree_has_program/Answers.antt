use Rattle.cp_model.specs.View as view
use Rattle.cp_model_program.proofs.law.accepted_tree_has_program.Goals as goal

pub returns : goal.returns
returns c = c.accepted_texts_have_programs.ensures (view.tree c.args.tree.now) c.requires c.read_numbers.ensures
