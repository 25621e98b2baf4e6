-- What is known of the bytes of a graph, whose words are tested.
use Rattle.std.specs.Prelude.{◌++◌, codes, ℕ, List}

-- A digraph with the name `outcome`.
abbrev pub graph : List ℕ → List ℕ
graph body = (codes "digraph outcome {\n" ++ body) ++ codes "}\n"
