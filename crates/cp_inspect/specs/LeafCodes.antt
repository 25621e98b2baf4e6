-- The code of a place, so that a visit can say which places there are.
use Rattle.std.specs.Prelude.{ℕ, List, [], ◌∷◌, ◌++◌, length}
use Rattle.cp_model.specs.Report.{Text, path_text}
use Rattle.cp_model_machine.specs.Reports.{Visit}
use Rattle.cp_inspect.specs.declared.leaves.Leaf.{Leaf}
use Rattle.cp_inspect.specs.declared.place.Kind.{Kind}
use Rattle.cp_inspect.specs.declared.place.Kind.TheVariants as kind

abbrev pub kind_number : Kind → ℕ
kind_number kind.Simple = 0
kind_number kind.Queue = 1

-- The address, the kind, and the path after its length. With the length, codes that follow each
-- other determine their places (the law `codes_determine_places`).
abbrev pub place_code : Kind → Text → ℕ → Text
place_code k path at = at ∷ kind_number k ∷ length path ∷ path

abbrev pub leaf_codes : List Leaf → Text
leaf_codes [] = []
leaf_codes (leaf ∷ leaves) = place_code leaf.kind leaf.path.items leaf.at ++ leaf_codes leaves

-- Each part is reported by its code.
abbrev pub leaf_visit : Visit
leaf_visit = record {
  simple = λ path at. place_code kind.Simple (path_text path) at;
  queue = λ path at. place_code kind.Queue (path_text path) at;
}

-- What a code says of a place.
abbrev pub place_of : Leaf → Text × ℕ × Kind
place_of leaf = (leaf.path.items, leaf.at, leaf.kind)
