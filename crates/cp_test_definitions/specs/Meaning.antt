-- Worked texts and their answers: meaning. Written by worked/make_rows.py.
use Rattle.std.specs.Prelude.{◌≡◌, true, false, [], codes}
use Rattle.cp_model.specs.Report.{Text}
use Rattle.cp_test_definitions.specs.Answers.{run_answer, consumed_answer}

abbrev pub a_call_that_makes_calls_1 : Type 0
a_call_that_makes_calls_1 = run_answer 1 100 1 false [] (codes "var a: integer;\nfunction f(k: integer): integer; begin display(k); f := k * 10 end;\nfunction h(k: integer): integer; var s: integer;\nbegin display(k); s := f(k + 1) - f(k + 2); display(f(7) div 10); h := s + k end;\nbegin a := f(1) + h(2) end.") ≡ (codes "rounds 1\nprocess 1 initial ended\nout '123477'\nvar a = 2\n")

abbrev pub an_array_of_queues_1_text : Text
an_array_of_queues_1_text = (codes "type m = monitor; var q: array [1..2] of queue;\n  procedure entry w(i: integer); begin delay(q[i]) end;\n  procedure entry s(i: integer); begin if empty(q[i]) then display(0) else continue(q[i]) end; begin end;\np = process(a: m; i: integer); begin a.w(i); display(5) end;\nr = process(a: m); begin a.s(1); a.s(2); display(6) end;\nvar g: m; b: p; c: r;\nbegin init g, b(g, 2), c(g) end.")

abbrev pub an_array_of_queues_1 : Type 0
an_array_of_queues_1 = run_answer 3 2 1 false [] an_array_of_queues_1_text ≡ (codes "rounds 3\nprocess 1 initial ended\nout ''\nprocess 2 b delayed g q[2]\nout ''\nvar i = 2\nprocess 3 c ready\nout ''\nmonitor g held 3 askers -\nqueue q[1] = -\nqueue q[2] = 2\n")

abbrev pub an_array_of_queues_2 : Type 0
an_array_of_queues_2 = run_answer 2 10 1 false [] an_array_of_queues_1_text ≡ (codes "rounds 2\nprocess 1 initial ended\nout ''\nprocess 2 b ready\nout ''\nvar i = 2\nprocess 3 c ready\nout '0'\nmonitor g held 2 askers -\nqueue q[1] = -\nqueue q[2] = -\n")

abbrev pub an_array_of_queues_3 : Type 0
an_array_of_queues_3 = run_answer 4 10 1 false [] an_array_of_queues_1_text ≡ (codes "rounds 4\nprocess 1 initial ended\nout ''\nprocess 2 b ended\nout '5'\nvar i = 2\nprocess 3 c ended\nout '06'\nmonitor g free askers -\nqueue q[1] = -\nqueue q[2] = -\n")

abbrev pub argument_range_first_1 : Type 0
argument_range_first_1 = run_answer 1 100 1 false [] (codes "type t = 1..3;\nvar x: integer;\nprocedure f(a: t; b: integer); begin end;\nbegin f(9, 1 div x) end.") ≡ (codes "rounds 1\nprocess 1 initial fault 1\nout ''\nvar x = 0\n")

abbrev pub askers_in_order_1_text : Text
askers_in_order_1_text = (codes "type m = monitor;\n  procedure entry e(k: integer);\n  begin display(k); display(k); display(k); display(k); display(k); display(k) end;\nbegin end;\np = process(a: m; n: integer); var i: integer; begin for i := 1 to n do ; a.e(n) end;\nvar g: m; b, c, d: p;\nbegin init g, b(g, 0), c(g, 5), d(g, 1) end.")

abbrev pub askers_in_order_1 : Type 0
askers_in_order_1 = run_answer 5 2 1 false [] askers_in_order_1_text ≡ (codes "rounds 5\nprocess 1 initial ended\nout ''\nprocess 2 b ready\nout '00000'\nvar n = 0\nvar i = 0\nprocess 3 c asking g\nout ''\nvar n = 5\nvar i = 5\nprocess 4 d asking g\nout ''\nvar n = 1\nvar i = 1\nmonitor g held 2 askers 4 3\n")

abbrev pub askers_in_order_2 : Type 0
askers_in_order_2 = run_answer 6 2 1 false [] askers_in_order_1_text ≡ (codes "rounds 6\nprocess 1 initial ended\nout ''\nprocess 2 b ready\nout '000000'\nvar n = 0\nvar i = 0\nprocess 3 c asking g\nout ''\nvar n = 5\nvar i = 5\nprocess 4 d ready\nout '11'\nvar n = 1\nvar i = 1\nmonitor g held 4 askers 3\n")

abbrev pub body_that_waits_1_text : Text
body_that_waits_1_text = (codes "type m = monitor; var q: queue;\n  procedure w; begin delay(q); display(1) end;\n  procedure entry s; begin continue(q) end;\nbegin w; display(2) end;\np = process(a: m); begin a.s end;\nvar g: m; b: p;\nbegin init b(g), g end.")

abbrev pub body_that_waits_1 : Type 0
body_that_waits_1 = run_answer 1 10 1 false [] body_that_waits_1_text ≡ (codes "rounds 1\nprocess 1 initial delayed g q\nout ''\nprocess 2 b ready\nout ''\nmonitor g free askers -\nqueue q = 1\n")

abbrev pub body_that_waits_2 : Type 0
body_that_waits_2 = run_answer 2 10 1 false [] body_that_waits_1_text ≡ (codes "rounds 2\nprocess 1 initial ready\nout ''\nprocess 2 b ready\nout ''\nmonitor g held 1 askers -\nqueue q = -\n")

abbrev pub body_that_waits_3 : Type 0
body_that_waits_3 = run_answer 3 10 1 false [] body_that_waits_1_text ≡ (codes "rounds 3\nprocess 1 initial ready\nout '12'\nprocess 2 b ended\nout ''\nmonitor g free askers -\nqueue q = -\n")

abbrev pub call_test_after_arguments_1 : Type 0
call_test_after_arguments_1 = run_answer 1 100 1 false [] (codes "type e = class; procedure entry z(k: integer); begin end; begin end;\nvar u: e;\nfunction f: integer; begin display(9); f := 1 end;\nbegin u.z(f) end.") ≡ (codes "rounds 1\nprocess 1 initial fault 6\nout '9'\n")

abbrev pub calls_in_a_for_1 : Type 0
calls_in_a_for_1 = run_answer 1 300 1 false [] (codes "var i, j, n: integer;\nfunction f(k: integer): integer; begin n := n + 1; f := k end;\nfunction g(k: integer): integer; var m: integer;\nbegin for m := k downto f(1) do n := n + f(10); g := n end;\nbegin for i := f(1) to f(2) do for j := f(i) to f(2) do begin display(g(j)); display('.') end end.") ≡ (codes "rounds 1\nprocess 1 initial ended\nout '16.39.64.'\nvar i = 2\nvar j = 2\nvar n = 64\n")

abbrev pub calls_in_bounds_and_selectors_1 : Type 0
calls_in_bounds_and_selectors_1 = run_answer 1 100 1 false [] (codes "var n, i: integer;\nfunction f(k: integer): integer; begin n := n + 1; f := k end;\nbegin for i := f(1) to f(3) do display(i); display(n);\n  case f(2) of 1: display(10); 2: display(20) end; display(n) end.") ≡ (codes "rounds 1\nprocess 1 initial ended\nout '1232203'\nvar n = 3\nvar i = 3\n")

abbrev pub calls_left_to_right_1 : Type 0
calls_left_to_right_1 = run_answer 1 100 1 false [] (codes "var v: array [1..2] of integer;\nfunction f(k: integer): integer; begin display(k); f := k end;\nbegin v[f(1)] := f(f(2)) + f(3) end.") ≡ (codes "rounds 1\nprocess 1 initial ended\nout '1223'\nvar v[1] = 5\nvar v[2] = 0\n")

abbrev pub case_of_negative_1 : Type 0
case_of_negative_1 = run_answer 1 100 1 false [] (codes "type e = (a, b, c);\nvar x: integer; y: e;\nbegin x := -5; y := c;\n  case x of -6: display(1); -5, 7: case 'k' of 'j': display(2); 'k': case y of a, b: display(3); c: display(4) end end; 0: display(5) end;\n  case x of 1: end end.") ≡ (codes "rounds 1\nprocess 1 initial fault 8\nout '4'\nvar x = -5\nvar y = 2\n")

abbrev pub class_in_monitor_1 : Type 0
class_in_monitor_1 = run_answer 4 100 1 false [] (codes "type c = class; var k: 0..3; procedure entry up; begin k := k + 1 end; function entry get: integer; begin get := k end; begin end;\nm = monitor; var u: c; procedure entry e; begin u.up; display(u.get) end; begin init u end;\np = process(a: m); begin cycle a.e end end;\nvar g: m; b, d: p;\nbegin init g, b(g), d(g) end.") ≡ (codes "rounds 4\nprocess 1 initial ended\nout ''\nprocess 2 b asking g\nout '13'\nprocess 3 d fault 1\nout '2'\nmonitor g held 3 askers 2\nvar u.k = 3\n")

abbrev pub counting_down_1 : Type 0
counting_down_1 = run_answer 1 100 1 false [] (codes "var i, j: integer;\nbegin for i := 3 downto 1 do begin display(i); i := 7 end; j := i;\n  for i := 1 downto 2 do display(9) end.") ≡ (codes "rounds 1\nprocess 1 initial ended\nout '321'\nvar i = 7\nvar j = 7\n")

abbrev pub cycle_in_a_monitor_1 : Type 0
cycle_in_a_monitor_1 = run_answer 3 4 1 false [] (codes "type m = monitor; var n: integer; procedure entry e; begin cycle n := n + 1 end end; begin end;\np = process(a: m); begin a.e end;\nvar g: m; b, c: p;\nbegin init g, b(g), c(g) end.") ≡ (codes "rounds 3\nprocess 1 initial ended\nout ''\nprocess 2 b ready\nout ''\nprocess 3 c asking g\nout ''\nmonitor g held 2 askers 3\nvar n = 3\n")

abbrev pub division_1 : Type 0
division_1 = run_answer 1 100 1 false [] (codes "var x: integer;\nbegin x := -32767 - 1; display((-7) div 2); display((-7) mod 2); display(7 mod (-2)); display(x mod (-1)); display(x div (-1)) end.") ≡ (codes "rounds 1\nprocess 1 initial fault 3\nout '-3-110'\nvar x = -32768\n")

abbrev pub early_class_1 : Type 0
early_class_1 = run_answer 1 100 1 false [] (codes "type n = class; begin end;\no = class(x: n); begin end;\nvar a: n; b: o;\nbegin init b(a), a end.") ≡ (codes "rounds 1\nprocess 1 initial ended\nout ''\n")

abbrev pub early_handing_on_1 : Type 0
early_handing_on_1 = run_answer 2 100 1 false [] (codes "type m = monitor; begin end;\nc = class(x: m); begin end;\nvar g: m; u: c;\nbegin init u(g), g end.") ≡ (codes "rounds 2\nprocess 1 initial ended\nout ''\nmonitor g free askers -\n")

abbrev pub fault_with_outer_gates_1 : Type 0
fault_with_outer_gates_1 = run_answer 2 10 1 true [] (codes "type n = monitor; var x: integer; procedure entry w; begin x := 1 div x end; begin end;\nm = monitor(i: n); procedure entry e; begin i.w end; begin end;\np = process(a: m); begin a.e end;\nq = process(i: n); begin i.w end;\nvar h: n; g: m; b, c: p; d: q;\nbegin init h, g(h), b(g), c(g), d(h) end.") ≡ (codes "rounds 2\nprocess 1 initial ended\nout ''\nprocess 2 b fault 4\nout ''\nprocess 3 c asking g\nout ''\nprocess 4 d asking h\nout ''\nmonitor h held 2 askers 4\nvar x = 0\nmonitor g held 2 askers 3\nchain 3 2\nchain 4 2\n")

abbrev pub field_names_1 : Type 0
field_names_1 = run_answer 1 100 1 false [] (codes "type r = record f, abs, v: integer end;\nvar v: r;\nfunction f: integer; begin f := 4 end;\nbegin v.f := 1; v.abs := 2; v.v := f; display(v.f); display(v.abs + v.v) end.") ≡ (codes "rounds 1\nprocess 1 initial ended\nout '16'\nvar v.f = 1\nvar v.abs = 2\nvar v.v = 4\n")

abbrev pub for_subrange_1 : Type 0
for_subrange_1 = run_answer 1 100 1 false [] (codes "var v: 1..3;\nbegin for v := 9 to 1 do display(v); for v := 2 to 5 do display(v) end.") ≡ (codes "rounds 1\nprocess 1 initial fault 1\nout '23'\nvar v = 3\n")

abbrev pub function_that_continues_1 : Type 0
function_that_continues_1 = run_answer 4 100 1 false [] (codes "type m = monitor; var q: queue; n: integer;\n  procedure entry w; begin n := n + 1; delay(q); n := n + 10 end;\n  function entry f(k: integer): integer; begin f := k + n; continue(q); f := 0 end;\nbegin end;\npw = process(a: m); begin a.w end;\npf = process(a: m); var x: integer; begin x := a.f(1) * 2 + a.f(5) end;\nvar g: m; b: pw; c: pf;\nbegin init g, b(g), c(g) end.") ≡ (codes "rounds 4\nprocess 1 initial ended\nout ''\nprocess 2 b ended\nout ''\nprocess 3 c ended\nout ''\nvar x = 20\nmonitor g free askers -\nqueue q = -\nvar n = 11\n")

abbrev pub functions_of_functions_1 : Type 0
functions_of_functions_1 = run_answer 1 100 1 false [] (codes "type color = (red, green, blue);\nvar c: color; n: integer;\nfunction f(k: color): color; begin display(k); f := succ(k) end;\nbegin c := succ(succ(red)); display(c); display(succ(succ('a'))); n := succ(pred(32767)); display(n);\n  c := succ(f(red)); display(c); n := pred(succ(n)) end.") ≡ (codes "rounds 1\nprocess 1 initial fault 1\nout '2c3276702'\nvar c = 2\nvar n = 32767\n")

abbrev pub index_by_local_1 : Type 0
index_by_local_1 = run_answer 1 100 1 false [] (codes "type a = array [1..3] of integer;\nvar v: a; i: integer;\nfunction f: integer; begin i := 2; f := 7 end;\nprocedure p; var g: integer; begin g := 3; v[g] := 5 end;\nprocedure g; begin v[i] := f end;\nbegin i := 1; p; g end.") ≡ (codes "rounds 1\nprocess 1 initial ended\nout ''\nvar v[1] = 0\nvar v[2] = 7\nvar v[3] = 5\nvar i = 2\n")

abbrev pub inner_rights_1 : Type 0
inner_rights_1 = run_answer 1 100 1 false [] (codes "type n = class; var k: integer; procedure entry up; begin k := k + 1 end; function entry get: integer; begin get := k end; begin k := 10 end;\no = class(x: n); procedure entry twice; begin x.up; x.up end; begin x.up end;\nw = class; var a: n; b: o; procedure entry run; begin b.twice; display(a.get) end; begin init a, b(a) end;\nvar z: w;\nbegin init z; z.run end.") ≡ (codes "rounds 1\nprocess 1 initial ended\nout '13'\nvar z.a.k = 13\n")

abbrev pub input_beyond_its_end_1_text : Text
input_beyond_its_end_1_text = (codes "var a, b, c: char;\nbegin accept(a); accept(b); accept(c) end.")

abbrev pub input_beyond_its_end_1 : Type 0
input_beyond_its_end_1 = run_answer 1 100 1 false [] input_beyond_its_end_1_text ≡ (codes "rounds 1\nprocess 1 initial ended\nout ''\nvar a = 25\nvar b = 25\nvar c = 25\n")

abbrev pub input_beyond_its_end_2 : Type 0
input_beyond_its_end_2 = consumed_answer 1 100 1 [] input_beyond_its_end_1_text ≡ (codes "consumed 0\n")

abbrev pub input_beyond_its_end_3 : Type 0
input_beyond_its_end_3 = run_answer 1 100 1 false (codes "x") input_beyond_its_end_1_text ≡ (codes "rounds 1\nprocess 1 initial ended\nout ''\nvar a = 120\nvar b = 25\nvar c = 25\n")

abbrev pub input_beyond_its_end_4 : Type 0
input_beyond_its_end_4 = consumed_answer 1 100 1 (codes "x") input_beyond_its_end_1_text ≡ (codes "consumed 1\n")

abbrev pub input_in_subrange_1_text : Text
input_in_subrange_1_text = (codes "var c: 'a'..'c'; d: char;\nbegin accept(d); accept(c) end.")

abbrev pub input_in_subrange_1 : Type 0
input_in_subrange_1 = run_answer 1 100 1 false (codes "xyz") input_in_subrange_1_text ≡ (codes "rounds 1\nprocess 1 initial fault 1\nout ''\nvar c = 97\nvar d = 120\n")

abbrev pub input_in_subrange_2 : Type 0
input_in_subrange_2 = consumed_answer 1 100 1 (codes "xyz") input_in_subrange_1_text ≡ (codes "consumed 1\n")

abbrev pub label_constants_1 : Type 0
label_constants_1 = run_answer 1 100 1 false [] (codes "const one = 1;\ntype c = class; var two: integer;\n  procedure entry e(k: integer);\n  begin case k of one: two := 10; 2, 3: two := 20 end; display(two) end;\nbegin end;\nconst two = 2;\nvar u: c;\nbegin init u; u.e(1); u.e(two) end.") ≡ (codes "rounds 1\nprocess 1 initial ended\nout '1020'\nvar u.two = 20\n")

abbrev pub later_component_1 : Type 0
later_component_1 = run_answer 3 100 1 false [] (codes "type m = monitor; procedure entry e; begin display(1) end; begin end;\np = process(g: m); begin g.e end;\nvar h: m; g: p;\nbegin init h, g(h) end.") ≡ (codes "rounds 3\nprocess 1 initial ended\nout ''\nprocess 2 g ended\nout '1'\nmonitor h free askers -\n")

abbrev pub later_constant_routine_1 : Type 0
later_constant_routine_1 = run_answer 1 100 1 false [] (codes "type c = class;\n  function f: integer; begin f := 5 end;\n  procedure entry e; begin display(f) end;\nbegin end;\nconst f = 8;\nvar u: c;\nbegin init u; u.e; display(f) end.") ≡ (codes "rounds 1\nprocess 1 initial ended\nout '58'\n")

abbrev pub later_definitions_1 : Type 0
later_definitions_1 = run_answer 1 100 1 false [] (codes "type c = class; var k, red, t, v: integer;\n  procedure entry e;\n  begin k := 1; red := 2; t := 3; v := 4; display(k); display(red); display(t); display(v) end;\nbegin end;\nconst k = 50;\ntype color = (red, green); t = 1..3;\nvar v: c; w: t; x: color;\nbegin init v; v.e; display(k); display(red); display(green); display(w); display(x) end.") ≡ (codes "rounds 1\nprocess 1 initial ended\nout '1234500110'\nvar v.k = 1\nvar v.red = 2\nvar v.t = 3\nvar v.v = 4\nvar w = 1\nvar x = 0\n")

abbrev pub later_routine_parameter_1 : Type 0
later_routine_parameter_1 = run_answer 1 10 1 false [] (codes "procedure p(q: integer); begin display(q) end;\nfunction q: integer; begin q := 7 end;\nbegin p(3); display(q) end.") ≡ (codes "rounds 1\nprocess 1 initial ended\nout '37'\n")

abbrev pub later_routine_variable_1 : Type 0
later_routine_variable_1 = run_answer 1 100 1 false [] (codes "procedure inc(var x: integer); begin x := x + 1 end;\nprocedure p; var q: integer; begin for q := 1 to 2 do display(q); inc(q); display(q) end;\nprocedure q; begin display(9) end;\nbegin p; q end.") ≡ (codes "rounds 1\nprocess 1 initial ended\nout '1239'\n")

abbrev pub local_record_field_1 : Type 0
local_record_field_1 = run_answer 1 100 1 false [] (codes "type r = record q: integer end;\nprocedure p; var z: r; begin z.q := 3; display(z.q) end;\nprocedure q; begin display(5) end;\nprocedure z; begin q end;\nbegin p; z end.") ≡ (codes "rounds 1\nprocess 1 initial ended\nout '35'\n")

abbrev pub monitor_variable_handed_down_1 : Type 0
monitor_variable_handed_down_1 = run_answer 4 100 1 false [] (codes "type m = monitor; var x: integer; q: queue;\n  procedure w(var k: integer); begin delay(q); display(k); k := k + 1 end;\n  procedure entry r; begin x := 1; w(x) end;\n  procedure entry s; begin x := 5; continue(q) end;\nbegin end;\npr = process(a: m); begin a.r end;\nps = process(a: m); begin a.s end;\nvar g: m; b: pr; c: ps;\nbegin init g, b(g), c(g) end.") ≡ (codes "rounds 4\nprocess 1 initial ended\nout ''\nprocess 2 b ended\nout '5'\nprocess 3 c ended\nout ''\nmonitor g free askers -\nvar x = 6\nqueue q = -\n")

abbrev pub nested_delay_1_text : Text
nested_delay_1_text = (codes "type n = monitor; var q: queue;\n  procedure entry w; begin delay(q); display(3) end;\n  procedure entry s; begin continue(q) end;\nbegin end;\no = monitor(x: n); var k: integer;\n  procedure entry go(var v: integer); begin k := 1; x.w; v := 7; k := 2 end;\nbegin end;\npa = process(a: o); var r: integer; begin a.go(r) end;\npb = process(b: n); begin b.s end;\nvar g: n; h: o; c: pa; d: pb;\nbegin init g, h(g), c(h), d(g) end.")

abbrev pub nested_delay_1 : Type 0
nested_delay_1 = run_answer 3 100 1 false [] nested_delay_1_text ≡ (codes "rounds 3\nprocess 1 initial ended\nout ''\nprocess 2 c ready\nout '3'\nvar r = 7\nprocess 3 d ended\nout ''\nmonitor g free askers -\nqueue q = -\nmonitor h free askers -\nvar k = 2\n")

abbrev pub nested_delay_2 : Type 0
nested_delay_2 = run_answer 2 100 1 false [] nested_delay_1_text ≡ (codes "rounds 2\nprocess 1 initial ended\nout ''\nprocess 2 c ready\nout ''\nvar r = 0\nprocess 3 d ready\nout ''\nmonitor g held 2 askers -\nqueue q = -\nmonitor h held 2 askers -\nvar k = 1\n")

abbrev pub overflow_signs_1 : Type 0
overflow_signs_1 = run_answer 1 100 1 false [] (codes "var a, b: integer;\nbegin a := -32767; b := -a mod 2; display(b); display(abs(a)); display(ord(succ('a'))); display(pred(true)); b := -16384 * 2 end.") ≡ (codes "rounds 1\nprocess 1 initial fault 3\nout '132767980'\nvar a = -32767\nvar b = 1\n")

abbrev pub parameters_of_init_1 : Type 0
parameters_of_init_1 = run_answer 2 100 1 false [] (codes "type d = 1..9; c = class(k: d; b: boolean); procedure entry show; begin display(k); if b then display('t') else display('f') end; begin end;\np = process(k: char); begin display(k) end;\nvar u, v: c; w: p; n: integer;\nfunction f: integer; begin n := n + 2; f := n end;\nbegin init u(f, n = 2), v(f, n = 2), w('x'); u.show; v.show; init v(f, true) end.") ≡ (codes "rounds 2\nprocess 1 initial fault 7\nout '2t4f'\nvar u.k = 2\nvar u.b = 1\nvar v.k = 4\nvar v.b = 0\nvar n = 6\nprocess 2 w ended\nout 'x'\nvar k = 120\n")

abbrev pub references_of_references_1 : Type 0
references_of_references_1 = run_answer 1 100 1 false (codes "mn") (codes "var x: integer; d: array ['a'..'b'] of char;\nprocedure p(var k: integer); begin k := k * 2 end;\nprocedure q(var k: integer; var c: char);\nbegin p(k); for k := k downto 5 do p(k); accept(c); display(c) end;\nbegin x := 3; q(x, d['b']) end.") ≡ (codes "rounds 1\nprocess 1 initial ended\nout 'm'\nvar x = 10\nvar d[97] = 0\nvar d[98] = 109\n")

abbrev pub result_named_later_1 : Type 0
result_named_later_1 = run_answer 1 100 1 false [] (codes "type c = class;\n  function entry f(k: integer): integer; begin f := k; if k > 1 then f := k * 10 end;\nbegin end;\nconst f = 3;\nvar u: c;\nbegin init u; display(u.f(1) + u.f(f)) end.") ≡ (codes "rounds 1\nprocess 1 initial ended\nout '31'\n")

abbrev pub same_function_names_1 : Type 0
same_function_names_1 = run_answer 1 100 1 false [] (codes "type c = class; function entry f: integer; begin f := 1 end; begin end;\nvar u: c;\nfunction f: integer; begin f := u.f + 1 end;\nbegin init u; display(f) end.") ≡ (codes "rounds 1\nprocess 1 initial ended\nout '2'\n")

abbrev pub same_local_names_1 : Type 0
same_local_names_1 = run_answer 1 100 1 false [] (codes "function f(a: integer): integer; var b: integer; begin b := a + 1; f := b end;\nfunction g(b: integer): integer; var a: integer; begin a := f(b); g := a * 2 end;\nbegin display(g(3)) end.") ≡ (codes "rounds 1\nprocess 1 initial ended\nout '8'\n")

abbrev pub structures_1 : Type 0
structures_1 = run_answer 1 200 1 false [] (codes "type color = (red, green, blue);\nrow = array [color] of integer;\nrec = record a: row; b: char end;\ntab = array [1..2] of rec;\nvar t: tab; r: rec;\nfunction sum(x: rec): integer; var c: color; s: integer;\nbegin s := 0; for c := red to blue do s := s + x.a[c]; sum := s end;\nprocedure change(var x: rec; y: rec); begin x.a := y.a; x.a[red] := 9 end;\nbegin r.a[green] := 5; r.a[blue] := 6; r.b := 'q'; t[2] := r; r.a[green] := 1;\n  display(sum(t[2])); display(sum(r)); change(t[1], t[2]); display(t[2].b); display(sum(t[1])) end.") ≡ (codes "rounds 1\nprocess 1 initial ended\nout '117q20'\nvar t[1].a[0] = 9\nvar t[1].a[1] = 5\nvar t[1].a[2] = 6\nvar t[1].b = 0\nvar t[2].a[0] = 0\nvar t[2].a[1] = 5\nvar t[2].a[2] = 6\nvar t[2].b = 113\nvar r.a[0] = 0\nvar r.a[1] = 1\nvar r.a[2] = 6\nvar r.b = 113\n")

abbrev pub subranges_of_characters_and_enumerations_1 : Type 0
subranges_of_characters_and_enumerations_1 = run_answer 1 100 1 false [] (codes "type color = (red, green, blue); warm = red..green; low = 'a'..'c';\nvar w: warm; c: low; x: color;\nbegin x := blue; c := succ(c); display(c); w := pred(x); display(w); w := x end.") ≡ (codes "rounds 1\nprocess 1 initial fault 1\nout 'b1'\nvar w = 1\nvar c = 98\nvar x = 2\n")

abbrev pub tests_anew_1 : Type 0
tests_anew_1 = run_answer 1 200 1 false [] (codes "var n: integer;\nfunction f: integer; begin n := n + 1; display(n); f := n end;\nbegin while f < 3 do display('w'); repeat display('r') until f = 5; for n := f to f do display('f') end.") ≡ (codes "rounds 1\nprocess 1 initial ended\nout '1w2w3r4r567ff'\nvar n = 7\n")

abbrev pub waiting_processes_wake_at_the_tick_1_text : Text
waiting_processes_wake_at_the_tick_1_text = (codes "type p = process; begin wait; display(realtime); wait; display(realtime) end;\nvar a: p;\nbegin init a; wait; display(realtime) end.")

abbrev pub waiting_processes_wake_at_the_tick_1 : Type 0
waiting_processes_wake_at_the_tick_1 = run_answer 5 100 2 false [] waiting_processes_wake_at_the_tick_1_text ≡ (codes "rounds 5\nprocess 1 initial ended\nout '2'\nprocess 2 a waiting\nout '2'\n")

abbrev pub waiting_processes_wake_at_the_tick_2 : Type 0
waiting_processes_wake_at_the_tick_2 = run_answer 6 100 2 false [] waiting_processes_wake_at_the_tick_1_text ≡ (codes "rounds 6\nprocess 1 initial ended\nout '2'\nprocess 2 a ended\nout '23'\n")

abbrev pub Meaning : Type 0
Meaning = a_call_that_makes_calls_1 × an_array_of_queues_1 × an_array_of_queues_2 × an_array_of_queues_3 × argument_range_first_1 × askers_in_order_1 × askers_in_order_2 × body_that_waits_1 × body_that_waits_2 × body_that_waits_3 × call_test_after_arguments_1 × calls_in_a_for_1 × calls_in_bounds_and_selectors_1 × calls_left_to_right_1 × case_of_negative_1 × class_in_monitor_1 × counting_down_1 × cycle_in_a_monitor_1 × division_1 × early_class_1 × early_handing_on_1 × fault_with_outer_gates_1 × field_names_1 × for_subrange_1 × function_that_continues_1 × functions_of_functions_1 × index_by_local_1 × inner_rights_1 × input_beyond_its_end_1 × input_beyond_its_end_2 × input_beyond_its_end_3 × input_beyond_its_end_4 × input_in_subrange_1 × input_in_subrange_2 × label_constants_1 × later_component_1 × later_constant_routine_1 × later_definitions_1 × later_routine_parameter_1 × later_routine_variable_1 × local_record_field_1 × monitor_variable_handed_down_1 × nested_delay_1 × nested_delay_2 × overflow_signs_1 × parameters_of_init_1 × references_of_references_1 × result_named_later_1 × same_function_names_1 × same_local_names_1 × structures_1 × subranges_of_characters_and_enumerations_1 × tests_anew_1 × waiting_processes_wake_at_the_tick_1 × waiting_processes_wake_at_the_tick_2
