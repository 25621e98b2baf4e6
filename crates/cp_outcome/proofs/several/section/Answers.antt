use Rattle.std.proofs.Common.{◌≡◌, ◌++◌, ◌∷◌, [], rules}
use Rattle.cp_outcome.specs.Transcripts.{heading}
use Rattle.cp_outcome.proofs.Sections.{made_section}
use Rattle.cp_outcome.proofs.several.section.Goals as goal

pub returns : goal.returns
returns c =
    let p = c.args.process in
    let name = c.args.name.now in
    let text = c.in_ok-text.text.items in
    let made : c.extend_from_slice-2.new.self.items ≡ (heading p name ++ text) ++ 10 ∷ [] = search rules in
    made_section p c.args.machine.now name text c.extend_from_slice-2.new.self.items c.in_ok-text.ensures made
