-- Worked texts and their answers: calls. Written by worked/make_rows.py.
use Rattle.std.specs.Prelude.{◌≡◌, codes}
use Rattle.cp_test_definitions.specs.Answers.{check_answer}

abbrev pub a_routine_without_entry_1 : Type 0
a_routine_without_entry_1 = check_answer (codes "type c = class; procedure h; begin end; begin end; var x: c; begin x.h(1) end.") ≡ (codes "refused C2 at 69")

abbrev pub a_routine_without_entry_2 : Type 0
a_routine_without_entry_2 = check_answer (codes "type c = class; procedure h; begin end; begin end; var x: c; begin x.h end.") ≡ (codes "refused C5 at 69")

abbrev pub a_routine_without_entry_3 : Type 0
a_routine_without_entry_3 = check_answer (codes "type c = class; procedure h; begin end; begin end; var x: c; begin display(x.h) end.") ≡ (codes "refused C2 at 77")

abbrev pub a_routine_without_entry_4 : Type 0
a_routine_without_entry_4 = check_answer (codes "type c = class; procedure h; begin end; begin end; var x: c; begin if x.h then end.") ≡ (codes "refused C2 at 72")

abbrev pub a_routine_without_entry_5 : Type 0
a_routine_without_entry_5 = check_answer (codes "type c = class; procedure h; begin end; begin end; var x: c; begin x := x.h end.") ≡ (codes "refused C2 at 74")

abbrev pub a_routine_without_entry_6 : Type 0
a_routine_without_entry_6 = check_answer (codes "type c = class; procedure h; begin end; begin end; var x: c; begin display(x.h(1)) end.") ≡ (codes "refused C2 at 77")

abbrev pub a_routine_without_entry_7 : Type 0
a_routine_without_entry_7 = check_answer (codes "type c = class; procedure h; begin end; begin end; var x: c; begin x.h[1] end.") ≡ (codes "refused C5 at 69")

abbrev pub a_routine_without_entry_8 : Type 0
a_routine_without_entry_8 = check_answer (codes "type c = class; procedure h; begin end; begin end; var x: c; begin x.h[1](2) end.") ≡ (codes "refused C5 at 69")

abbrev pub a_routine_without_entry_9 : Type 0
a_routine_without_entry_9 = check_answer (codes "type c = class; function h: integer; begin h := 1 end; begin end; var x: c; begin x.h end.") ≡ (codes "refused C2 at 84")

abbrev pub a_routine_without_entry_10 : Type 0
a_routine_without_entry_10 = check_answer (codes "type c = class; function h: integer; begin h := 1 end; begin end; var x: c; begin display(x.h) end.") ≡ (codes "refused C5 at 92")

abbrev pub a_routine_without_entry_11 : Type 0
a_routine_without_entry_11 = check_answer (codes "type c = class; function h: integer; begin h := 1 end; begin end; var x: c; begin display(x.h(1)) end.") ≡ (codes "refused C2 at 92")

abbrev pub a_routine_without_entry_12 : Type 0
a_routine_without_entry_12 = check_answer (codes "type c = class; function h: integer; begin h := 1 end; begin end; var x: c; begin display(true + x.h) end.") ≡ (codes "refused C5 at 99")

abbrev pub a_routine_without_entry_13 : Type 0
a_routine_without_entry_13 = check_answer (codes "type c = class; function h: integer; begin h := 1 end; begin end; var x: c; begin x := x.h end.") ≡ (codes "refused C5 at 89")

abbrev pub a_routine_without_entry_14 : Type 0
a_routine_without_entry_14 = check_answer (codes "type c = class; function h: integer; begin h := 1 end; begin end; var x: c; begin display(x.h[1]) end.") ≡ (codes "refused C5 at 92")

abbrev pub a_routine_without_entry_15 : Type 0
a_routine_without_entry_15 = check_answer (codes "type c = class; function h: integer; begin h := 1 end; begin end; var x: c; begin accept(x.h) end.") ≡ (codes "refused C10 at 89")

abbrev pub a_routine_without_entry_16 : Type 0
a_routine_without_entry_16 = check_answer (codes "type c = class; function h: integer; begin h := 1 end; begin end; var x: c; begin accept(x.h + 1) end.") ≡ (codes "refused C10 at 89")

abbrev pub a_routine_without_entry_17 : Type 0
a_routine_without_entry_17 = check_answer (codes "type c = class; function h: integer; begin h := 1 end; begin end; var x: c; begin accept(x.h(1)) end.") ≡ (codes "refused C10 at 89")

abbrev pub a_routine_without_entry_18 : Type 0
a_routine_without_entry_18 = check_answer (codes "type c = class; function h(k: integer): integer; begin h := k end; begin end; var x: c; begin display(x.h(1)) end.") ≡ (codes "refused C5 at 104")

abbrev pub a_routine_without_entry_19 : Type 0
a_routine_without_entry_19 = check_answer (codes "type c = class; function h(k: integer): integer; begin h := k end; begin end; var x: c; begin display(x.h(y)) end.") ≡ (codes "refused C5 at 104")

abbrev pub a_routine_without_entry_20 : Type 0
a_routine_without_entry_20 = check_answer (codes "type c = class; function h(k: integer): integer; begin h := k end; begin end; var x: c; begin display(x.h(1, y)) end.") ≡ (codes "refused C2 at 104")

abbrev pub a_routine_without_entry_21 : Type 0
a_routine_without_entry_21 = check_answer (codes "type c = class; function h(k: integer): integer; begin h := k end; begin end; var x: c; begin x.h(1) end.") ≡ (codes "refused C2 at 96")

abbrev pub a_routine_without_entry_22 : Type 0
a_routine_without_entry_22 = check_answer (codes "type c = class; function h(k: integer): integer; begin h := k end; begin end; var x: c; begin x.h end.") ≡ (codes "refused C2 at 96")

abbrev pub a_routine_without_entry_23 : Type 0
a_routine_without_entry_23 = check_answer (codes "type c = class; procedure h; begin end; begin end; var x: c; v: integer; begin v := x.h end.") ≡ (codes "refused C2 at 86")

abbrev pub a_routine_without_entry_24 : Type 0
a_routine_without_entry_24 = check_answer (codes "type c = class; function h: integer; begin h := 1 end; begin end; var x: c; v: integer; begin v := x.h end.") ≡ (codes "refused C5 at 101")

abbrev pub a_routine_without_entry_25 : Type 0
a_routine_without_entry_25 = check_answer (codes "type c = class; procedure h; begin end; begin end; var x: c; begin display(true = x.h) end.") ≡ (codes "refused C2 at 84")

abbrev pub a_routine_without_entry_26 : Type 0
a_routine_without_entry_26 = check_answer (codes "type c = class; procedure h(k: integer); begin end; begin end; var x: c; begin display(x.h(1)) end.") ≡ (codes "refused C2 at 89")

abbrev pub a_routine_without_entry_27 : Type 0
a_routine_without_entry_27 = check_answer (codes "type m = monitor; function h: integer; begin h := 1 end; begin end; var x: m; begin x.h end.") ≡ (codes "refused C2 at 86")

abbrev pub a_routine_without_entry_28 : Type 0
a_routine_without_entry_28 = check_answer (codes "type p = process; function h: integer; begin h := 1 end; begin end; var x: p; begin x.h end.") ≡ (codes "refused C2 at 86")

abbrev pub a_routine_without_entry_29 : Type 0
a_routine_without_entry_29 = check_answer (codes "type c = class; procedure h; begin end; begin end; d = class(x: c); var v: integer; begin v := x.h end; begin end.") ≡ (codes "refused C2 at 97")

abbrev pub arguments_1 : Type 0
arguments_1 = check_answer (codes "procedure p(a: integer); begin end; begin p end.") ≡ (codes "refused C2 at 42")

abbrev pub arguments_2 : Type 0
arguments_2 = check_answer (codes "procedure p; begin end; begin p(1) end.") ≡ (codes "refused C2 at 30")

abbrev pub arguments_3 : Type 0
arguments_3 = check_answer (codes "procedure p(a: integer); begin end; begin p(true) end.") ≡ (codes "refused C2 at 44")

abbrev pub arguments_4 : Type 0
arguments_4 = check_answer (codes "function f: integer; begin f := 1 end; begin f end.") ≡ (codes "refused C2 at 45")

abbrev pub arguments_5 : Type 0
arguments_5 = check_answer (codes "procedure p(a: integer); begin end; begin display(1 + p(2)) end.") ≡ (codes "refused C2 at 54")

abbrev pub arguments_6 : Type 0
arguments_6 = check_answer (codes "begin display(succ) end.") ≡ (codes "refused C2 at 14")

abbrev pub arguments_7 : Type 0
arguments_7 = check_answer (codes "begin display end.") ≡ (codes "refused C2 at 6")

abbrev pub arguments_8 : Type 0
arguments_8 = check_answer (codes "begin display(1, 2) end.") ≡ (codes "refused C2 at 6")

abbrev pub arguments_9 : Type 0
arguments_9 = check_answer (codes "var r: record x: integer end; begin display(r) end.") ≡ (codes "refused C2 at 44")

abbrev pub arguments_10 : Type 0
arguments_10 = check_answer (codes "begin display(succ(r)) end.") ≡ (codes "refused C1 at 19")

abbrev pub arguments_11 : Type 0
arguments_11 = check_answer (codes "begin display(abs(true)) end.") ≡ (codes "refused C2 at 18")

abbrev pub arguments_12 : Type 0
arguments_12 = check_answer (codes "begin display(chr(true)) end.") ≡ (codes "refused C2 at 18")

abbrev pub arguments_13 : Type 0
arguments_13 = check_answer (codes "begin display(ord(true)); display(chr(65)); display(succ(red_)) end.") ≡ (codes "refused C1 at 57")

abbrev pub arguments_14 : Type 0
arguments_14 = check_answer (codes "procedure p(a, b: integer); begin end; begin accept(p(1)) end.") ≡ (codes "refused C2 at 52")

abbrev pub arguments_15 : Type 0
arguments_15 = check_answer (codes "procedure p(a: integer); begin end; begin accept(p(1)) end.") ≡ (codes "refused C10 at 49")

abbrev pub arguments_16 : Type 0
arguments_16 = check_answer (codes "procedure p; begin end; begin accept(p + 1) end.") ≡ (codes "refused C10 at 37")

abbrev pub arguments_17 : Type 0
arguments_17 = check_answer (codes "type t = array [1..2] of integer; var x: t; procedure p(a: t); begin end; begin p(x); p((x)) end.") ≡ (codes "accepted\n")

abbrev pub arguments_18 : Type 0
arguments_18 = check_answer (codes "type t = array [1..2] of integer; var x: array [1..2] of integer; procedure p(a: t); begin end; begin p(x) end.") ≡ (codes "refused C2 at 104")

abbrev pub Calls : Type 0
Calls = a_routine_without_entry_1 × a_routine_without_entry_2 × a_routine_without_entry_3 × a_routine_without_entry_4 × a_routine_without_entry_5 × a_routine_without_entry_6 × a_routine_without_entry_7 × a_routine_without_entry_8 × a_routine_without_entry_9 × a_routine_without_entry_10 × a_routine_without_entry_11 × a_routine_without_entry_12 × a_routine_without_entry_13 × a_routine_without_entry_14 × a_routine_without_entry_15 × a_routine_without_entry_16 × a_routine_without_entry_17 × a_routine_without_entry_18 × a_routine_without_entry_19 × a_routine_without_entry_20 × a_routine_without_entry_21 × a_routine_without_entry_22 × a_routine_without_entry_23 × a_routine_without_entry_24 × a_routine_without_entry_25 × a_routine_without_entry_26 × a_routine_without_entry_27 × a_routine_without_entry_28 × a_routine_without_entry_29 × arguments_1 × arguments_2 × arguments_3 × arguments_4 × arguments_5 × arguments_6 × arguments_7 × arguments_8 × arguments_9 × arguments_10 × arguments_11 × arguments_12 × arguments_13 × arguments_14 × arguments_15 × arguments_16 × arguments_17 × arguments_18
