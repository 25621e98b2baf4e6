use Rattle.cp_program.specs.declared.program.StartPiece.TheVariants as start
use Rattle.cp_compile_emit.proofs.Drafting.{one_more}
use Rattle.cp_compile_emit.proofs.draft.Draft.part.Goals as goal

pub returns : goal.returns
returns c = λ known.
    one_more known c.args.self.now.starts.items c.push.new.self.items (start.Part c.args.at c.args.plan) c.in_ok-push.ensures.items
