-- Worked texts and their answers: classes. Written by worked/make_rows.py.
use Rattle.std.specs.Prelude.{◌≡◌, false, [], codes}
use Rattle.cp_test_definitions.specs.Answers.{run_answer}

abbrev pub classes_and_rights_1 : Type 0
classes_and_rights_1 = run_answer 2 20 1 false [] (codes "type c = class(k: integer); var n: integer;\n  procedure entry add(e: integer); begin n := n + e * k end;\n  function entry sum: integer; begin sum := n end;\n  begin n := 100 end;\nd = class(x: c);\n  procedure entry two; begin x.add(1); x.add(2) end; begin end;\np = process(j: integer); var u: c; v: d;\n  begin init u(j), v(u); v.two; display(u.sum) end;\nvar a, b: p;\nbegin init a(3), b(-4) end.") ≡ (codes "rounds 2\nprocess 1 initial ended\nout ''\nprocess 2 a ended\nout '109'\nvar j = 3\nvar u.k = 3\nvar u.n = 109\nprocess 3 b ended\nout '88'\nvar j = -4\nvar u.k = -4\nvar u.n = 88\n")

abbrev pub Classes : Type 0
Classes = classes_and_rights_1
