-- Worked texts and their answers: components. Written by worked/make_rows.py.
use Rattle.std.specs.Prelude.{◌≡◌, codes}
use Rattle.cp_test_definitions.specs.Answers.{check_answer}

abbrev pub arguments_of_init_1 : Type 0
arguments_of_init_1 = check_answer (codes "type m = monitor; begin end; p = process(g: m); begin end; var g: m; b: p; k: integer; begin init g; init b(g) end.") ≡ (codes "accepted\n")

abbrev pub arguments_of_init_2 : Type 0
arguments_of_init_2 = check_answer (codes "type m = monitor; begin end; p = process(g: m); begin end; var g: m; b: p; k: integer; begin init b end.") ≡ (codes "refused C12 at 98")

abbrev pub arguments_of_init_3 : Type 0
arguments_of_init_3 = check_answer (codes "type m = monitor; begin end; p = process(g: m); begin end; var g: m; b: p; k: integer; begin init b(g, g) end.") ≡ (codes "refused C12 at 98")

abbrev pub arguments_of_init_4 : Type 0
arguments_of_init_4 = check_answer (codes "type m = monitor; begin end; p = process(g: m); begin end; var g: m; b: p; k: integer; begin init g(g) end.") ≡ (codes "refused C12 at 98")

abbrev pub arguments_of_init_5 : Type 0
arguments_of_init_5 = check_answer (codes "type m = monitor; begin end; p = process(g: m); begin end; var g: m; b: p; k: integer; begin init b(k) end.") ≡ (codes "refused C12 at 100")

abbrev pub arguments_of_init_6 : Type 0
arguments_of_init_6 = check_answer (codes "type m = monitor; begin end; p = process(g: m); begin end; var g: m; b: p; k: integer; begin init b((g)) end.") ≡ (codes "refused C12 at 100")

abbrev pub arguments_of_init_7 : Type 0
arguments_of_init_7 = check_answer (codes "type m = monitor; begin end; p = process(g: m); begin end; var g: m; b: p; k: integer; begin init b(char) end.") ≡ (codes "refused C12 at 100")

abbrev pub arguments_of_init_8 : Type 0
arguments_of_init_8 = check_answer (codes "type m = monitor; begin end; p = process(g: m); begin end; var g: m; b: p; k: integer; begin init b(char[1]) end.") ≡ (codes "refused C2 at 100")

abbrev pub arguments_of_init_9 : Type 0
arguments_of_init_9 = check_answer (codes "type m = monitor; begin end; p = process(g: m); begin end; var g: m; b: p; k: integer; begin init b(abs) end.") ≡ (codes "refused C12 at 100")

abbrev pub arguments_of_init_10 : Type 0
arguments_of_init_10 = check_answer (codes "type m = monitor; begin end; p = process(g: m); begin end; var g: m; b: p; k: integer; begin init b(k + y) end.") ≡ (codes "refused C12 at 100")

abbrev pub arguments_of_init_11 : Type 0
arguments_of_init_11 = check_answer (codes "type m = monitor; begin end; p = process(g: m); begin end; var g: m; b: p; k: integer; begin init b(y) end.") ≡ (codes "refused C1 at 100")

abbrev pub initialisation_1 : Type 0
initialisation_1 = check_answer (codes "type c = class(k: integer); var n: integer; procedure h; begin end; procedure entry e; begin n := k end; function entry g(i: integer): integer; begin g := i end; begin end; var u: c; procedure p; begin init u(1) end; begin end.") ≡ (codes "refused C12 at 202")

abbrev pub initialisation_2 : Type 0
initialisation_2 = check_answer (codes "type c = class(k: integer); var n: integer; procedure h; begin end; procedure entry e; begin n := k end; function entry g(i: integer): integer; begin g := i end; begin end; var u: c; begin init u end.") ≡ (codes "refused C12 at 194")

abbrev pub initialisation_3 : Type 0
initialisation_3 = check_answer (codes "type c = class(k: integer); var n: integer; procedure h; begin end; procedure entry e; begin n := k end; function entry g(i: integer): integer; begin g := i end; begin end; var u: c; begin init u(1, 2) end.") ≡ (codes "refused C12 at 194")

abbrev pub initialisation_4 : Type 0
initialisation_4 = check_answer (codes "type c = class(k: integer); var n: integer; procedure h; begin end; procedure entry e; begin n := k end; function entry g(i: integer): integer; begin g := i end; begin end; var u: c; begin init u(true) end.") ≡ (codes "refused C12 at 196")

abbrev pub initialisation_5 : Type 0
initialisation_5 = check_answer (codes "type c = class(k: integer); var n: integer; procedure h; begin end; procedure entry e; begin n := k end; function entry g(i: integer): integer; begin g := i end; begin end; var u: c; begin init u(u) end.") ≡ (codes "refused C2 at 196")

abbrev pub initialisation_6 : Type 0
initialisation_6 = check_answer (codes "type c = class(k: integer); var n: integer; procedure h; begin end; procedure entry e; begin n := k end; function entry g(i: integer): integer; begin g := i end; begin end; var x: integer; begin init x end.") ≡ (codes "refused C12 at 200")

abbrev pub initialisation_7 : Type 0
initialisation_7 = check_answer (codes "type c = class(k: integer); var n: integer; procedure h; begin end; procedure entry e; begin n := k end; function entry g(i: integer): integer; begin g := i end; begin end; begin init y end.") ≡ (codes "refused C1 at 184")

abbrev pub initialisation_8 : Type 0
initialisation_8 = check_answer (codes "type c = class(k: integer); var n: integer; procedure h; begin end; procedure entry e; begin n := k end; function entry g(i: integer): integer; begin g := i end; begin end; begin init c(1) end.") ≡ (codes "refused C12 at 184")

abbrev pub initialisation_9 : Type 0
initialisation_9 = check_answer (codes "type c = class(k: integer); var n: integer; procedure h; begin end; procedure entry e; begin n := k end; function entry g(i: integer): integer; begin g := i end; begin end; d = class(a: c); begin init a(1) end; begin end.") ≡ (codes "refused C12 at 201")

abbrev pub initialisation_10 : Type 0
initialisation_10 = check_answer (codes "type c = class(k: integer); var n: integer; procedure h; begin end; procedure entry e; begin n := k end; function entry g(i: integer): integer; begin g := i end; begin end; d = class(a: c); begin end; var u: c; v: d; begin init u(1), v((u)) end.") ≡ (codes "refused C12 at 236")

abbrev pub initialisation_11 : Type 0
initialisation_11 = check_answer (codes "type c = class(k: integer); var n: integer; procedure h; begin end; procedure entry e; begin n := k end; function entry g(i: integer): integer; begin g := i end; begin end; d = class(a: c); begin end; var u: c; v: d; begin init u(1), v(1 + 2) end.") ≡ (codes "refused C12 at 236")

abbrev pub initialisation_12 : Type 0
initialisation_12 = check_answer (codes "type c = class(k: integer); var n: integer; procedure h; begin end; procedure entry e; begin n := k end; function entry g(i: integer): integer; begin g := i end; begin end; d = class(a: c); begin end; var v: d; x: integer; begin init v(x) end.") ≡ (codes "refused C12 at 236")

abbrev pub initialisation_13 : Type 0
initialisation_13 = check_answer (codes "type c = class(k: integer); var n: integer; procedure h; begin end; procedure entry e; begin n := k end; function entry g(i: integer): integer; begin g := i end; begin end; d = class(a: c); begin end; var v: d; begin init v(y) end.") ≡ (codes "refused C1 at 224")

abbrev pub initialisation_14 : Type 0
initialisation_14 = check_answer (codes "type c = class(k: integer); var n: integer; procedure h; begin end; procedure entry e; begin n := k end; function entry g(i: integer): integer; begin g := i end; begin end; d = class(a: c); begin end; var u: c; v: d; begin init v(u), u(1) end.") ≡ (codes "accepted\n")

abbrev pub names_behind_a_point_1 : Type 0
names_behind_a_point_1 = check_answer (codes "var d: integer; begin d.x(1) end.") ≡ (codes "refused C2 at 23")

abbrev pub names_behind_a_point_2 : Type 0
names_behind_a_point_2 = check_answer (codes "type c = class; procedure entry e; begin end; procedure d; begin e.x end; begin end; begin end.") ≡ (codes "refused C2 at 66")

abbrev pub names_behind_a_point_3 : Type 0
names_behind_a_point_3 = check_answer (codes "type c = class; procedure entry e; begin end; procedure d; begin e[1] end; begin end; begin end.") ≡ (codes "refused C2 at 66")

abbrev pub names_behind_a_point_4 : Type 0
names_behind_a_point_4 = check_answer (codes "type c = class; procedure entry e(k: integer); begin end; procedure d; begin accept(e) end; begin end; begin end.") ≡ (codes "refused C10 at 84")

abbrev pub names_behind_a_point_5 : Type 0
names_behind_a_point_5 = check_answer (codes "type c = class; procedure entry e(k: integer); begin end; procedure d; begin accept(e(1)) end; begin end; begin end.") ≡ (codes "refused C5 at 84")

abbrev pub names_behind_a_point_6 : Type 0
names_behind_a_point_6 = check_answer (codes "type c = class(k: integer); var n: integer; procedure h; begin end; procedure entry e; begin n := k end; function entry g(i: integer): integer; begin g := i end; begin end; var u: c; begin u.h.y end.") ≡ (codes "refused C5 at 191")

abbrev pub names_behind_a_point_7 : Type 0
names_behind_a_point_7 = check_answer (codes "type c = class(k: integer); var n: integer; procedure h; begin end; procedure entry e; begin n := k end; function entry g(i: integer): integer; begin g := i end; begin end; var u: c; begin display(u.h.y) end.") ≡ (codes "refused C5 at 199")

abbrev pub names_behind_a_point_8 : Type 0
names_behind_a_point_8 = check_answer (codes "type c = class(k: integer); var n: integer; procedure h; begin end; procedure entry e; begin n := k end; function entry g(i: integer): integer; begin g := i end; begin end; var u: c; begin u := u.h end.") ≡ (codes "refused C2 at 196")

abbrev pub names_behind_a_point_9 : Type 0
names_behind_a_point_9 = check_answer (codes "type c = class(k: integer); var n: integer; procedure h; begin end; procedure entry e; begin n := k end; function entry g(i: integer): integer; begin g := i end; begin end; var u: c; begin u := 1 + u end.") ≡ (codes "refused C2 at 198")

abbrev pub names_behind_a_point_10 : Type 0
names_behind_a_point_10 = check_answer (codes "type c = class(k: integer); var n: integer; procedure h; begin end; procedure entry e; begin n := k end; function entry g(i: integer): integer; begin g := i end; begin end; var u: c; begin u[1].e end.") ≡ (codes "refused C2 at 190")

abbrev pub names_behind_a_point_11 : Type 0
names_behind_a_point_11 = check_answer (codes "type c = class(k: integer); var n: integer; procedure h; begin end; procedure entry e; begin n := k end; function entry g(i: integer): integer; begin g := i end; begin end; d = class(a: c); procedure p(var x: integer); begin end; procedure q; begin p(a) end; begin end; begin end.") ≡ (codes "refused C10 at 251")

abbrev pub names_behind_a_point_12 : Type 0
names_behind_a_point_12 = check_answer (codes "type c = class(k: integer); var n: integer; procedure h; begin end; procedure entry e; begin n := k end; function entry g(i: integer): integer; begin g := i end; begin end; var u: c; k: integer; procedure p(var x: integer); begin end; begin p(u) end.") ≡ (codes "refused C10 at 243")

abbrev pub names_behind_a_point_13 : Type 0
names_behind_a_point_13 = check_answer (codes "type c = class(k: integer); var n: integer; procedure h; begin end; procedure entry e; begin n := k end; function entry g(i: integer): integer; begin g := i end; begin end; var u: c; k: integer; procedure p(var x: integer); begin end; begin p(u.n) end.") ≡ (codes "refused C10 at 243")

abbrev pub names_behind_a_point_14 : Type 0
names_behind_a_point_14 = check_answer (codes "const c = 1; begin c[1] end.") ≡ (codes "refused C2 at 19")

abbrev pub names_behind_a_point_15 : Type 0
names_behind_a_point_15 = check_answer (codes "const c = 1; begin c[1].x end.") ≡ (codes "refused C2 at 20")

abbrev pub names_behind_a_point_16 : Type 0
names_behind_a_point_16 = check_answer (codes "begin display(1 + empty(1) = 2) end.") ≡ (codes "refused C9 at 18")

abbrev pub names_behind_a_point_17 : Type 0
names_behind_a_point_17 = check_answer (codes "function f: integer; begin f := 1 end; begin display(f[1]) end.") ≡ (codes "refused C2 at 54")

abbrev pub names_behind_a_point_18 : Type 0
names_behind_a_point_18 = check_answer (codes "function f: integer; begin f := 1 end; begin accept(f) end.") ≡ (codes "refused C10 at 52")

abbrev pub names_behind_a_point_19 : Type 0
names_behind_a_point_19 = check_answer (codes "type c = class(k: integer); var n: integer; procedure h; begin end; procedure entry e; begin n := k end; function entry g(i: integer): integer; begin g := i end; begin end; var u: c; begin init u(u.h) end.") ≡ (codes "refused C2 at 198")

abbrev pub names_behind_a_point_20 : Type 0
names_behind_a_point_20 = check_answer (codes "type c = class(k: integer); var n: integer; procedure h; begin end; procedure entry e; begin n := k end; function entry g(i: integer): integer; begin g := i end; begin end; var u: c; begin display(u.g(true)) end.") ≡ (codes "refused C2 at 201")

abbrev pub rights_and_calls_1 : Type 0
rights_and_calls_1 = check_answer (codes "type c = class(k: integer); var n: integer; procedure h; begin end; procedure entry e; begin n := k end; function entry g(i: integer): integer; begin g := i end; begin end; var u: c; begin u.h end.") ≡ (codes "refused C5 at 191")

abbrev pub rights_and_calls_2 : Type 0
rights_and_calls_2 = check_answer (codes "type c = class(k: integer); var n: integer; procedure h; begin end; procedure entry e; begin n := k end; function entry g(i: integer): integer; begin g := i end; begin end; var u: c; begin display(true + u.h) end.") ≡ (codes "refused C2 at 206")

abbrev pub rights_and_calls_3 : Type 0
rights_and_calls_3 = check_answer (codes "type c = class; procedure entry e; begin end; procedure d; begin e end; begin end; begin end.") ≡ (codes "refused C5 at 65")

abbrev pub rights_and_calls_4 : Type 0
rights_and_calls_4 = check_answer (codes "type p = process; procedure entry e; begin end; begin end; begin end.") ≡ (codes "refused C5 at 28")

abbrev pub rights_and_calls_5 : Type 0
rights_and_calls_5 = check_answer (codes "procedure entry e; begin end; begin end.") ≡ (codes "refused C5 at 10")

abbrev pub rights_and_calls_6 : Type 0
rights_and_calls_6 = check_answer (codes "type c = class(k: integer); var n: integer; procedure h; begin end; procedure entry e; begin n := k end; function entry g(i: integer): integer; begin g := i end; begin end; var u: c; begin u := 1 end.") ≡ (codes "refused C2 at 191")

abbrev pub rights_and_calls_7 : Type 0
rights_and_calls_7 = check_answer (codes "type c = class(k: integer); var n: integer; procedure h; begin end; procedure entry e; begin n := k end; function entry g(i: integer): integer; begin g := i end; begin end; var u: c; begin u := u end.") ≡ (codes "refused C2 at 191")

abbrev pub rights_and_calls_8 : Type 0
rights_and_calls_8 = check_answer (codes "type c = class(k: integer); var n: integer; procedure h; begin end; procedure entry e; begin n := k end; function entry g(i: integer): integer; begin g := i end; begin end; var u: c; begin u := y end.") ≡ (codes "refused C1 at 194")

abbrev pub rights_and_calls_9 : Type 0
rights_and_calls_9 = check_answer (codes "type c = class(k: integer); var n: integer; procedure h; begin end; procedure entry e; begin n := k end; function entry g(i: integer): integer; begin g := i end; begin end; var u: c; begin u := (u) end.") ≡ (codes "refused C2 at 195")

abbrev pub rights_and_calls_10 : Type 0
rights_and_calls_10 = check_answer (codes "type c = class(k: integer); var n: integer; procedure h; begin end; procedure entry e; begin n := k end; function entry g(i: integer): integer; begin g := i end; begin end; var u: c; x: integer; begin x := u end.") ≡ (codes "refused C2 at 206")

abbrev pub rights_and_calls_11 : Type 0
rights_and_calls_11 = check_answer (codes "type c = class(k: integer); var n: integer; procedure h; begin end; procedure entry e; begin n := k end; function entry g(i: integer): integer; begin g := i end; begin end; var u: c; begin u.n := 1 end.") ≡ (codes "refused C10 at 189")

abbrev pub rights_and_calls_12 : Type 0
rights_and_calls_12 = check_answer (codes "type c = class(k: integer); var n: integer; procedure h; begin end; procedure entry e; begin n := k end; function entry g(i: integer): integer; begin g := i end; begin end; var u: c; begin u[1] := 1 end.") ≡ (codes "refused C2 at 190")

abbrev pub rights_and_calls_13 : Type 0
rights_and_calls_13 = check_answer (codes "type c = class(k: integer); var n: integer; procedure h; begin end; procedure entry e; begin n := k end; function entry g(i: integer): integer; begin g := i end; begin end; var u: c; begin display(u[1]) end.") ≡ (codes "refused C2 at 198")

abbrev pub rights_and_calls_14 : Type 0
rights_and_calls_14 = check_answer (codes "type c = class(k: integer); var n: integer; procedure h; begin end; procedure entry e; begin n := k end; function entry g(i: integer): integer; begin g := i end; begin end; var u: c; begin u end.") ≡ (codes "refused C2 at 189")

abbrev pub rights_and_calls_15 : Type 0
rights_and_calls_15 = check_answer (codes "type c = class(k: integer); var n: integer; procedure h; begin end; procedure entry e; begin n := k end; function entry g(i: integer): integer; begin g := i end; begin end; var u: c; begin u[1] end.") ≡ (codes "refused C2 at 189")

abbrev pub rights_and_calls_16 : Type 0
rights_and_calls_16 = check_answer (codes "type c = class(k: integer); var n: integer; procedure h; begin end; procedure entry e; begin n := k end; function entry g(i: integer): integer; begin g := i end; begin end; var u: c; begin display(u) end.") ≡ (codes "refused C2 at 197")

abbrev pub rights_and_calls_17 : Type 0
rights_and_calls_17 = check_answer (codes "type c = class(k: integer); var n: integer; procedure h; begin end; procedure entry e; begin n := k end; function entry g(i: integer): integer; begin g := i end; begin end; var u: c; begin accept(u) end.") ≡ (codes "refused C2 at 196")

abbrev pub rights_and_calls_18 : Type 0
rights_and_calls_18 = check_answer (codes "type c = class(k: integer); var n: integer; procedure h; begin end; procedure entry e; begin n := k end; function entry g(i: integer): integer; begin g := i end; begin end; var u: c; begin accept(u + 1) end.") ≡ (codes "refused C10 at 196")

abbrev pub rights_and_calls_19 : Type 0
rights_and_calls_19 = check_answer (codes "type c = class(k: integer); var n: integer; procedure h; begin end; procedure entry e; begin n := k end; function entry g(i: integer): integer; begin g := i end; begin end; var u: c; begin accept(u.e) end.") ≡ (codes "refused C10 at 196")

abbrev pub rights_and_calls_20 : Type 0
rights_and_calls_20 = check_answer (codes "type c = class(k: integer); var n: integer; procedure h; begin end; procedure entry e; begin n := k end; function entry g(i: integer): integer; begin g := i end; begin end; var u: c; begin accept(u.g(1)) end.") ≡ (codes "refused C2 at 196")

abbrev pub rights_and_calls_21 : Type 0
rights_and_calls_21 = check_answer (codes "type c = class(k: integer); var n: integer; procedure h; begin end; procedure entry e; begin n := k end; function entry g(i: integer): integer; begin g := i end; begin end; var u: c; begin for u := 1 to 2 do end.") ≡ (codes "refused C2 at 193")

abbrev pub rights_and_calls_22 : Type 0
rights_and_calls_22 = check_answer (codes "type c = class(k: integer); var n: integer; procedure h; begin end; procedure entry e; begin n := k end; function entry g(i: integer): integer; begin g := i end; begin end; d = class(a: c); begin a := 1 end; begin end.") ≡ (codes "refused C10 at 196")

abbrev pub rights_and_calls_23 : Type 0
rights_and_calls_23 = check_answer (codes "type c = class(k: integer); var n: integer; procedure h; begin end; procedure entry e; begin n := k end; function entry g(i: integer): integer; begin g := i end; begin end; d = class(a: c); begin accept(a) end; begin end.") ≡ (codes "refused C2 at 203")

abbrev pub rights_and_calls_24 : Type 0
rights_and_calls_24 = check_answer (codes "type c = class(k: integer); var n: integer; procedure h; begin end; procedure entry e; begin n := k end; function entry g(i: integer): integer; begin g := i end; begin end; d = class(a: c); begin a[1] := 1 end; begin end.") ≡ (codes "refused C10 at 196")

abbrev pub rights_and_calls_25 : Type 0
rights_and_calls_25 = check_answer (codes "type c = class(k: integer); var n: integer; procedure h; begin end; procedure entry e; begin n := k end; function entry g(i: integer): integer; begin g := i end; begin end; d = class(a: c); begin accept(a.h) end; begin end.") ≡ (codes "refused C10 at 203")

abbrev pub rights_and_calls_26 : Type 0
rights_and_calls_26 = check_answer (codes "type c = class(k: integer); var n: integer; procedure h; begin end; procedure entry e; begin n := k end; function entry g(i: integer): integer; begin g := i end; begin end; d = class(a: c); procedure entry w; begin a.e; display(a.g(2)) end; begin end; begin end.") ≡ (codes "accepted\n")

abbrev pub rights_and_calls_27 : Type 0
rights_and_calls_27 = check_answer (codes "type c = class(k: integer); var n: integer; procedure h; begin end; procedure entry e; begin n := k end; function entry g(i: integer): integer; begin g := i end; begin end; var u: c; begin u.e(1) end.") ≡ (codes "refused C2 at 191")

abbrev pub rights_and_calls_28 : Type 0
rights_and_calls_28 = check_answer (codes "type c = class(k: integer); var n: integer; procedure h; begin end; procedure entry e; begin n := k end; function entry g(i: integer): integer; begin g := i end; begin end; var u: c; begin u.g(1) end.") ≡ (codes "refused C2 at 191")

abbrev pub rights_and_calls_29 : Type 0
rights_and_calls_29 = check_answer (codes "type c = class(k: integer); var n: integer; procedure h; begin end; procedure entry e; begin n := k end; function entry g(i: integer): integer; begin g := i end; begin end; var u: c; begin u.z end.") ≡ (codes "refused C1 at 191")

abbrev pub Components : Type 0
Components = arguments_of_init_1 × arguments_of_init_2 × arguments_of_init_3 × arguments_of_init_4 × arguments_of_init_5 × arguments_of_init_6 × arguments_of_init_7 × arguments_of_init_8 × arguments_of_init_9 × arguments_of_init_10 × arguments_of_init_11 × initialisation_1 × initialisation_2 × initialisation_3 × initialisation_4 × initialisation_5 × initialisation_6 × initialisation_7 × initialisation_8 × initialisation_9 × initialisation_10 × initialisation_11 × initialisation_12 × initialisation_13 × initialisation_14 × names_behind_a_point_1 × names_behind_a_point_2 × names_behind_a_point_3 × names_behind_a_point_4 × names_behind_a_point_5 × names_behind_a_point_6 × names_behind_a_point_7 × names_behind_a_point_8 × names_behind_a_point_9 × names_behind_a_point_10 × names_behind_a_point_11 × names_behind_a_point_12 × names_behind_a_point_13 × names_behind_a_point_14 × names_behind_a_point_15 × names_behind_a_point_16 × names_behind_a_point_17 × names_behind_a_point_18 × names_behind_a_point_19 × names_behind_a_point_20 × rights_and_calls_1 × rights_and_calls_2 × rights_and_calls_3 × rights_and_calls_4 × rights_and_calls_5 × rights_and_calls_6 × rights_and_calls_7 × rights_and_calls_8 × rights_and_calls_9 × rights_and_calls_10 × rights_and_calls_11 × rights_and_calls_12 × rights_and_calls_13 × rights_and_calls_14 × rights_and_calls_15 × rights_and_calls_16 × rights_and_calls_17 × rights_and_calls_18 × rights_and_calls_19 × rights_and_calls_20 × rights_and_calls_21 × rights_and_calls_22 × rights_and_calls_23 × rights_and_calls_24 × rights_and_calls_25 × rights_and_calls_26 × rights_and_calls_27 × rights_and_calls_28 × rights_and_calls_29
