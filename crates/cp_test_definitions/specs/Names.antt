-- Worked texts and their answers: names. Written by worked/make_rows.py.
use Rattle.std.specs.Prelude.{◌≡◌, codes}
use Rattle.cp_test_definitions.specs.Answers.{check_answer}

abbrev pub declared_twice_1 : Type 0
declared_twice_1 = check_answer (codes "var a, a: integer; begin end.") ≡ (codes "refused C1 at 7")

abbrev pub declared_twice_2 : Type 0
declared_twice_2 = check_answer (codes "var a: integer; a: char; begin end.") ≡ (codes "refused C1 at 16")

abbrev pub declared_twice_3 : Type 0
declared_twice_3 = check_answer (codes "type p = process(p: integer); begin end; begin end.") ≡ (codes "refused C1 at 17")

abbrev pub declared_twice_4 : Type 0
declared_twice_4 = check_answer (codes "type e = (e); begin end.") ≡ (codes "refused C1 at 10")

abbrev pub declared_twice_5 : Type 0
declared_twice_5 = check_answer (codes "type e = (a, b, a); begin end.") ≡ (codes "refused C1 at 16")

abbrev pub declared_twice_6 : Type 0
declared_twice_6 = check_answer (codes "type c = class; procedure c; begin end; begin end; begin end.") ≡ (codes "refused C1 at 26")

abbrev pub declared_twice_7 : Type 0
declared_twice_7 = check_answer (codes "type r = record x: integer; y, x: char end; begin end.") ≡ (codes "refused C1 at 31")

abbrev pub declared_twice_8 : Type 0
declared_twice_8 = check_answer (codes "var integer: char; begin end.") ≡ (codes "refused C1 at 4")

abbrev pub declared_twice_9 : Type 0
declared_twice_9 = check_answer (codes "var x: integer; procedure p(x: char); begin end; begin end.") ≡ (codes "refused C1 at 28")

abbrev pub declared_twice_10 : Type 0
declared_twice_10 = check_answer (codes "procedure p(a: integer; a: char); begin end; begin end.") ≡ (codes "refused C1 at 24")

abbrev pub declared_twice_11 : Type 0
declared_twice_11 = check_answer (codes "const realtime = 1; begin end.") ≡ (codes "refused C1 at 6")

abbrev pub declared_twice_12 : Type 0
declared_twice_12 = check_answer (codes "type c = class; var x: integer; begin end; var x: integer; begin end.") ≡ (codes "accepted\n")

abbrev pub declared_twice_13 : Type 0
declared_twice_13 = check_answer (codes "type r = record r, integer: char end; var v: r; begin v.integer := v.r end.") ≡ (codes "accepted\n")

abbrev pub declared_twice_14 : Type 0
declared_twice_14 = check_answer (codes "procedure p; var q: integer; begin q := 1 end; procedure q; begin end; begin p; q end.") ≡ (codes "accepted\n")

abbrev pub inside_its_own_definition_1 : Type 0
inside_its_own_definition_1 = check_answer (codes "const a = a; begin end.") ≡ (codes "refused C4 at 10")

abbrev pub inside_its_own_definition_2 : Type 0
inside_its_own_definition_2 = check_answer (codes "type t = array [1..2] of t; begin end.") ≡ (codes "refused C4 at 25")

abbrev pub inside_its_own_definition_3 : Type 0
inside_its_own_definition_3 = check_answer (codes "type r = record r: integer; q: r end; begin end.") ≡ (codes "refused C4 at 31")

abbrev pub inside_its_own_definition_4 : Type 0
inside_its_own_definition_4 = check_answer (codes "type p = process(x: p); begin end; begin end.") ≡ (codes "refused C4 at 20")

abbrev pub inside_its_own_definition_5 : Type 0
inside_its_own_definition_5 = check_answer (codes "type t = 1..t; begin end.") ≡ (codes "refused C2 at 12")

abbrev pub inside_its_own_definition_6 : Type 0
inside_its_own_definition_6 = check_answer (codes "procedure f(k: integer); begin f end; begin end.") ≡ (codes "refused C2 at 31")

abbrev pub inside_its_own_definition_7 : Type 0
inside_its_own_definition_7 = check_answer (codes "procedure f; begin display(f) end; begin end.") ≡ (codes "refused C2 at 27")

abbrev pub inside_its_own_definition_8 : Type 0
inside_its_own_definition_8 = check_answer (codes "function f: integer; begin f end; begin end.") ≡ (codes "refused C2 at 27")

abbrev pub inside_its_own_definition_9 : Type 0
inside_its_own_definition_9 = check_answer (codes "function f(a: f): integer; begin end; begin end.") ≡ (codes "refused C2 at 14")

abbrev pub inside_its_own_definition_10 : Type 0
inside_its_own_definition_10 = check_answer (codes "function f: integer; begin f := f end; begin end.") ≡ (codes "refused C4 at 32")

abbrev pub inside_its_own_definition_11 : Type 0
inside_its_own_definition_11 = check_answer (codes "function f: integer; begin for f := 1 to 2 do end; begin end.") ≡ (codes "refused C4 at 31")

abbrev pub inside_its_own_definition_12 : Type 0
inside_its_own_definition_12 = check_answer (codes "function f: integer; begin accept(f) end; begin end.") ≡ (codes "refused C4 at 34")

abbrev pub inside_its_own_definition_13 : Type 0
inside_its_own_definition_13 = check_answer (codes "function f: integer; begin f[1] := 2 end; begin end.") ≡ (codes "refused C10 at 27")

abbrev pub inside_its_own_definition_14 : Type 0
inside_its_own_definition_14 = check_answer (codes "function f: integer; begin f.x := 2 end; begin end.") ≡ (codes "refused C10 at 27")

abbrev pub inside_its_own_definition_15 : Type 0
inside_its_own_definition_15 = check_answer (codes "procedure p; begin p := 1 end; begin end.") ≡ (codes "refused C4 at 19")

abbrev pub inside_its_own_definition_16 : Type 0
inside_its_own_definition_16 = check_answer (codes "type c = class; var x: c; begin end; begin end.") ≡ (codes "refused C4 at 23")

abbrev pub inside_its_own_definition_17 : Type 0
inside_its_own_definition_17 = check_answer (codes "function f: integer; begin f := 3 end; begin display(f) end.") ≡ (codes "accepted\n")

abbrev pub visibility_1 : Type 0
visibility_1 = check_answer (codes "type p = process; begin end; begin x := 1 end.") ≡ (codes "refused C1 at 35")

abbrev pub visibility_2 : Type 0
visibility_2 = check_answer (codes "const a = b; b = 1; begin end.") ≡ (codes "refused C1 at 10")

abbrev pub visibility_3 : Type 0
visibility_3 = check_answer (codes "var a: integer; b: char; begin a := 1; c := b end.") ≡ (codes "refused C1 at 39")

abbrev pub visibility_4 : Type 0
visibility_4 = check_answer (codes "type r = record x: integer end; var v: r; begin v.y := 1 end.") ≡ (codes "refused C1 at 50")

abbrev pub visibility_5 : Type 0
visibility_5 = check_answer (codes "type c = class; var n: integer; begin end; var u: c; begin init u; display(u.n) end.") ≡ (codes "refused C1 at 77")

abbrev pub visibility_6 : Type 0
visibility_6 = check_answer (codes "procedure p; begin q end; procedure q; begin end; begin end.") ≡ (codes "refused C1 at 19")

abbrev pub visibility_7 : Type 0
visibility_7 = check_answer (codes "type c = class; begin x := 1 end; var x: integer; begin end.") ≡ (codes "refused C1 at 22")

abbrev pub visibility_8 : Type 0
visibility_8 = check_answer (codes "procedure p(a: integer; b: a); begin end; begin end.") ≡ (codes "refused C1 at 27")

abbrev pub visibility_9 : Type 0
visibility_9 = check_answer (codes "function f(a: integer): a; begin end; begin end.") ≡ (codes "refused C1 at 24")

abbrev pub visibility_10 : Type 0
visibility_10 = check_answer (codes "procedure p; var k: integer; begin end; begin k := 1 end.") ≡ (codes "refused C1 at 46")

abbrev pub Names : Type 0
Names = declared_twice_1 × declared_twice_2 × declared_twice_3 × declared_twice_4 × declared_twice_5 × declared_twice_6 × declared_twice_7 × declared_twice_8 × declared_twice_9 × declared_twice_10 × declared_twice_11 × declared_twice_12 × declared_twice_13 × declared_twice_14 × inside_its_own_definition_1 × inside_its_own_definition_2 × inside_its_own_definition_3 × inside_its_own_definition_4 × inside_its_own_definition_5 × inside_its_own_definition_6 × inside_its_own_definition_7 × inside_its_own_definition_8 × inside_its_own_definition_9 × inside_its_own_definition_10 × inside_its_own_definition_11 × inside_its_own_definition_12 × inside_its_own_definition_13 × inside_its_own_definition_14 × inside_its_own_definition_15 × inside_its_own_definition_16 × inside_its_own_definition_17 × visibility_1 × visibility_2 × visibility_3 × visibility_4 × visibility_5 × visibility_6 × visibility_7 × visibility_8 × visibility_9 × visibility_10
