-- Worked texts and their answers: wanted. Written by worked/make_rows.py.
use Rattle.std.specs.Prelude.{◌≡◌, codes}
use Rattle.cp_test_definitions.specs.Answers.{check_answer}

abbrev pub a_type_where_a_variable_is_wanted_1 : Type 0
a_type_where_a_variable_is_wanted_1 = check_answer (codes "begin char[1] := 1 end.") ≡ (codes "refused C10 at 6")

abbrev pub a_type_where_a_variable_is_wanted_2 : Type 0
a_type_where_a_variable_is_wanted_2 = check_answer (codes "begin char[y] := 1 end.") ≡ (codes "refused C10 at 6")

abbrev pub a_type_where_a_variable_is_wanted_3 : Type 0
a_type_where_a_variable_is_wanted_3 = check_answer (codes "begin char[1].x := 1 end.") ≡ (codes "refused C10 at 6")

abbrev pub a_type_where_a_variable_is_wanted_4 : Type 0
a_type_where_a_variable_is_wanted_4 = check_answer (codes "begin char.x := 1 end.") ≡ (codes "refused C10 at 6")

abbrev pub a_type_where_a_variable_is_wanted_5 : Type 0
a_type_where_a_variable_is_wanted_5 = check_answer (codes "begin accept(char[1]) end.") ≡ (codes "refused C10 at 13")

abbrev pub a_type_where_a_variable_is_wanted_6 : Type 0
a_type_where_a_variable_is_wanted_6 = check_answer (codes "begin accept(char[1] + 1) end.") ≡ (codes "refused C10 at 13")

abbrev pub a_type_where_a_variable_is_wanted_7 : Type 0
a_type_where_a_variable_is_wanted_7 = check_answer (codes "begin accept(char[1](2)) end.") ≡ (codes "refused C10 at 13")

abbrev pub a_type_where_a_variable_is_wanted_8 : Type 0
a_type_where_a_variable_is_wanted_8 = check_answer (codes "procedure p(var a: integer); begin end; begin p(char[1]) end.") ≡ (codes "refused C10 at 48")

abbrev pub a_type_where_a_variable_is_wanted_9 : Type 0
a_type_where_a_variable_is_wanted_9 = check_answer (codes "begin for char := 1 to 2 do end.") ≡ (codes "refused C10 at 10")

abbrev pub a_type_where_a_variable_is_wanted_10 : Type 0
a_type_where_a_variable_is_wanted_10 = check_answer (codes "type c = class; begin c[1] := 1 end; begin end.") ≡ (codes "refused C4 at 22")

abbrev pub a_type_where_a_variable_is_wanted_11 : Type 0
a_type_where_a_variable_is_wanted_11 = check_answer (codes "type c = class; begin accept(c[1]) end; begin end.") ≡ (codes "refused C4 at 29")

abbrev pub a_type_where_a_variable_is_wanted_12 : Type 0
a_type_where_a_variable_is_wanted_12 = check_answer (codes "type c = class; begin accept(c + 1) end; begin end.") ≡ (codes "refused C4 at 29")

abbrev pub a_type_where_a_variable_is_wanted_13 : Type 0
a_type_where_a_variable_is_wanted_13 = check_answer (codes "type c = class; begin display(c[1]) end; begin end.") ≡ (codes "refused C2 at 30")

abbrev pub a_type_where_a_variable_is_wanted_14 : Type 0
a_type_where_a_variable_is_wanted_14 = check_answer (codes "begin char[1] end.") ≡ (codes "refused C2 at 6")

abbrev pub a_type_where_a_variable_is_wanted_15 : Type 0
a_type_where_a_variable_is_wanted_15 = check_answer (codes "begin char[1](2) end.") ≡ (codes "refused C2 at 6")

abbrev pub a_type_where_a_variable_is_wanted_16 : Type 0
a_type_where_a_variable_is_wanted_16 = check_answer (codes "begin display(char[1]) end.") ≡ (codes "refused C2 at 14")

abbrev pub a_type_where_a_variable_is_wanted_17 : Type 0
a_type_where_a_variable_is_wanted_17 = check_answer (codes "begin display(chr(char[1])) end.") ≡ (codes "refused C2 at 18")

abbrev pub a_type_where_a_variable_is_wanted_18 : Type 0
a_type_where_a_variable_is_wanted_18 = check_answer (codes "type m = monitor; procedure e; begin delay(char[1]) end; begin end; begin end.") ≡ (codes "refused C2 at 43")

abbrev pub indices_where_a_routine_is_wanted_1 : Type 0
indices_where_a_routine_is_wanted_1 = check_answer (codes "type r = record n: integer end; var v: r; begin v.n[1] end.") ≡ (codes "refused C2 at 50")

abbrev pub indices_where_a_routine_is_wanted_2 : Type 0
indices_where_a_routine_is_wanted_2 = check_answer (codes "type r = record n: integer end; var v: r; begin v.n[1](2) end.") ≡ (codes "refused C2 at 50")

abbrev pub indices_where_a_routine_is_wanted_3 : Type 0
indices_where_a_routine_is_wanted_3 = check_answer (codes "type r = record n: integer end; var v: r; begin v.n[y] end.") ≡ (codes "refused C2 at 50")

abbrev pub indices_where_a_routine_is_wanted_4 : Type 0
indices_where_a_routine_is_wanted_4 = check_answer (codes "type r = record n: integer end; var v: r; begin v.n[1, y](2, z) end.") ≡ (codes "refused C2 at 50")

abbrev pub indices_where_a_routine_is_wanted_5 : Type 0
indices_where_a_routine_is_wanted_5 = check_answer (codes "type r = record n: integer end; var v: r; begin display(v.n[1](2)) end.") ≡ (codes "refused C2 at 58")

abbrev pub indices_where_a_routine_is_wanted_6 : Type 0
indices_where_a_routine_is_wanted_6 = check_answer (codes "type r = record n: integer end; var v: r; begin display(v.n[1]) end.") ≡ (codes "refused C2 at 59")

abbrev pub indices_where_a_routine_is_wanted_7 : Type 0
indices_where_a_routine_is_wanted_7 = check_answer (codes "type r = record n: integer end; var v: r; begin accept(v.n[1](2)) end.") ≡ (codes "refused C10 at 55")

abbrev pub indices_where_a_routine_is_wanted_8 : Type 0
indices_where_a_routine_is_wanted_8 = check_answer (codes "type r = record n: integer end; var v: r; begin v.n.m[1] end.") ≡ (codes "refused C2 at 51")

abbrev pub indices_where_a_routine_is_wanted_9 : Type 0
indices_where_a_routine_is_wanted_9 = check_answer (codes "type r = record n: integer end; var v: r; begin v[1].n end.") ≡ (codes "refused C2 at 49")

abbrev pub indices_where_a_routine_is_wanted_10 : Type 0
indices_where_a_routine_is_wanted_10 = check_answer (codes "type r = record n: integer end; var v: r; begin v.m[1] end.") ≡ (codes "refused C1 at 50")

abbrev pub indices_where_a_routine_is_wanted_11 : Type 0
indices_where_a_routine_is_wanted_11 = check_answer (codes "type r = record n: array [1..2] of integer end; var v: r; begin v.n[1] end.") ≡ (codes "refused C2 at 66")

abbrev pub indices_where_a_routine_is_wanted_12 : Type 0
indices_where_a_routine_is_wanted_12 = check_answer (codes "type r = record n: array [1..2] of integer end; var v: r; begin v.n[true] end.") ≡ (codes "refused C2 at 66")

abbrev pub indices_where_a_routine_is_wanted_13 : Type 0
indices_where_a_routine_is_wanted_13 = check_answer (codes "type r = record n: array [1..2] of integer end; var v: r; begin v.n[1, 2](3) end.") ≡ (codes "refused C2 at 66")

abbrev pub indices_where_a_routine_is_wanted_14 : Type 0
indices_where_a_routine_is_wanted_14 = check_answer (codes "var a: array [1..2] of record n: integer end; begin a[1].n[1] end.") ≡ (codes "refused C2 at 57")

abbrev pub indices_where_a_routine_is_wanted_15 : Type 0
indices_where_a_routine_is_wanted_15 = check_answer (codes "var a: array [1..2] of record n: integer end; begin a[true].n[1] end.") ≡ (codes "refused C2 at 54")

abbrev pub indices_where_a_routine_is_wanted_16 : Type 0
indices_where_a_routine_is_wanted_16 = check_answer (codes "var a: array [1..2] of record n: integer end; begin a[true] end.") ≡ (codes "refused C2 at 52")

abbrev pub indices_where_a_routine_is_wanted_17 : Type 0
indices_where_a_routine_is_wanted_17 = check_answer (codes "type c = class; procedure entry e; begin end; begin end; var x: c; begin x.e[1] end.") ≡ (codes "refused C2 at 76")

abbrev pub indices_where_a_routine_is_wanted_18 : Type 0
indices_where_a_routine_is_wanted_18 = check_answer (codes "type c = class; procedure entry e; begin end; begin end; var x: c; begin x.e[1](2) end.") ≡ (codes "refused C2 at 76")

abbrev pub routines_where_a_variable_is_wanted_1 : Type 0
routines_where_a_variable_is_wanted_1 = check_answer (codes "begin accept(wait(1)) end.") ≡ (codes "refused C2 at 13")

abbrev pub routines_where_a_variable_is_wanted_2 : Type 0
routines_where_a_variable_is_wanted_2 = check_answer (codes "begin accept(delay(1, 2)) end.") ≡ (codes "refused C2 at 13")

abbrev pub routines_where_a_variable_is_wanted_3 : Type 0
routines_where_a_variable_is_wanted_3 = check_answer (codes "begin accept(abs + 1) end.") ≡ (codes "refused C2 at 13")

abbrev pub routines_where_a_variable_is_wanted_4 : Type 0
routines_where_a_variable_is_wanted_4 = check_answer (codes "begin accept(realtime + 1) end.") ≡ (codes "refused C2 at 13")

abbrev pub routines_where_a_variable_is_wanted_5 : Type 0
routines_where_a_variable_is_wanted_5 = check_answer (codes "begin accept(delay + 1) end.") ≡ (codes "refused C2 at 13")

abbrev pub routines_where_a_variable_is_wanted_6 : Type 0
routines_where_a_variable_is_wanted_6 = check_answer (codes "function f: integer; begin f := 1 end; begin accept(f + 1) end.") ≡ (codes "refused C2 at 52")

abbrev pub routines_where_a_variable_is_wanted_7 : Type 0
routines_where_a_variable_is_wanted_7 = check_answer (codes "procedure p(a: integer); begin end; begin accept(p + 1) end.") ≡ (codes "refused C2 at 49")

abbrev pub routines_where_a_variable_is_wanted_8 : Type 0
routines_where_a_variable_is_wanted_8 = check_answer (codes "type c = class; function entry e: integer; begin e := 1 end; begin accept(e + 1) end; begin end.") ≡ (codes "refused C5 at 74")

abbrev pub routines_where_a_variable_is_wanted_9 : Type 0
routines_where_a_variable_is_wanted_9 = check_answer (codes "begin accept(display(1)) end.") ≡ (codes "refused C10 at 13")

abbrev pub routines_where_a_variable_is_wanted_10 : Type 0
routines_where_a_variable_is_wanted_10 = check_answer (codes "begin accept(display(1, 2)) end.") ≡ (codes "refused C2 at 13")

abbrev pub routines_where_a_variable_is_wanted_11 : Type 0
routines_where_a_variable_is_wanted_11 = check_answer (codes "begin accept(continue(1)) end.") ≡ (codes "refused C9 at 13")

abbrev pub routines_where_a_variable_is_wanted_12 : Type 0
routines_where_a_variable_is_wanted_12 = check_answer (codes "begin accept(wait) end.") ≡ (codes "refused C10 at 13")

abbrev pub routines_where_a_variable_is_wanted_13 : Type 0
routines_where_a_variable_is_wanted_13 = check_answer (codes "begin accept(wait + 1) end.") ≡ (codes "refused C10 at 13")

abbrev pub routines_where_a_variable_is_wanted_14 : Type 0
routines_where_a_variable_is_wanted_14 = check_answer (codes "begin accept(realtime) end.") ≡ (codes "refused C10 at 13")

abbrev pub routines_where_a_variable_is_wanted_15 : Type 0
routines_where_a_variable_is_wanted_15 = check_answer (codes "begin accept(abs * 2 + 1) end.") ≡ (codes "refused C2 at 13")

abbrev pub routines_where_a_variable_is_wanted_16 : Type 0
routines_where_a_variable_is_wanted_16 = check_answer (codes "begin accept(abs = abs) end.") ≡ (codes "refused C2 at 13")

abbrev pub routines_where_a_variable_is_wanted_17 : Type 0
routines_where_a_variable_is_wanted_17 = check_answer (codes "begin accept((realtime) + 1) end.") ≡ (codes "refused C2 at 13")

abbrev pub routines_where_a_variable_is_wanted_18 : Type 0
routines_where_a_variable_is_wanted_18 = check_answer (codes "begin accept((abs) + 1) end.") ≡ (codes "refused C10 at 13")

abbrev pub routines_where_a_variable_is_wanted_19 : Type 0
routines_where_a_variable_is_wanted_19 = check_answer (codes "begin accept('a' + 1) end.") ≡ (codes "refused C10 at 13")

abbrev pub routines_where_a_variable_is_wanted_20 : Type 0
routines_where_a_variable_is_wanted_20 = check_answer (codes "begin accept(y + 1) end.") ≡ (codes "refused C1 at 13")

abbrev pub routines_where_a_variable_is_wanted_21 : Type 0
routines_where_a_variable_is_wanted_21 = check_answer (codes "begin accept(char + 1) end.") ≡ (codes "refused C10 at 13")

abbrev pub routines_where_a_variable_is_wanted_22 : Type 0
routines_where_a_variable_is_wanted_22 = check_answer (codes "procedure p; begin end; begin accept(p + 1) end.") ≡ (codes "refused C10 at 37")

abbrev pub routines_where_a_variable_is_wanted_23 : Type 0
routines_where_a_variable_is_wanted_23 = check_answer (codes "function f: integer; begin accept(f + 1) end; begin end.") ≡ (codes "refused C4 at 34")

abbrev pub routines_where_a_variable_is_wanted_24 : Type 0
routines_where_a_variable_is_wanted_24 = check_answer (codes "function f(k: integer): integer; begin accept(f + 1) end; begin end.") ≡ (codes "refused C2 at 46")

abbrev pub routines_where_a_variable_is_wanted_25 : Type 0
routines_where_a_variable_is_wanted_25 = check_answer (codes "function f: char; begin f := 'a' end; begin accept(f = 'a') end.") ≡ (codes "refused C2 at 51")

abbrev pub routines_where_a_variable_is_wanted_26 : Type 0
routines_where_a_variable_is_wanted_26 = check_answer (codes "type c = class; function entry e(k: integer): integer; begin e := k end; begin accept(e + 1) end; begin end.") ≡ (codes "refused C2 at 86")

abbrev pub routines_where_a_variable_is_wanted_27 : Type 0
routines_where_a_variable_is_wanted_27 = check_answer (codes "type c = class; function entry g: integer; begin g := 1 end; begin end; var x: c; begin accept(x + 1) end.") ≡ (codes "refused C10 at 95")

abbrev pub routines_where_a_variable_is_wanted_28 : Type 0
routines_where_a_variable_is_wanted_28 = check_answer (codes "type c = class; function entry g: integer; begin g := 1 end; begin end; var x: c; begin accept(x.g + 1) end.") ≡ (codes "refused C2 at 95")

abbrev pub routines_where_a_variable_is_wanted_29 : Type 0
routines_where_a_variable_is_wanted_29 = check_answer (codes "type c = class; function entry g: integer; begin g := 1 end; begin end; var x: c; begin accept(x.g) end.") ≡ (codes "refused C10 at 95")

abbrev pub routines_where_a_variable_is_wanted_30 : Type 0
routines_where_a_variable_is_wanted_30 = check_answer (codes "procedure p(var a: integer); begin end; begin p(wait(1)) end.") ≡ (codes "refused C2 at 48")

abbrev pub routines_where_a_variable_is_wanted_31 : Type 0
routines_where_a_variable_is_wanted_31 = check_answer (codes "procedure p(var a: integer); begin end; begin p(abs + 1) end.") ≡ (codes "refused C2 at 48")

abbrev pub routines_where_a_variable_is_wanted_32 : Type 0
routines_where_a_variable_is_wanted_32 = check_answer (codes "procedure p(var a: integer); begin end; begin p(realtime + 1) end.") ≡ (codes "refused C10 at 48")

abbrev pub routines_where_a_variable_is_wanted_33 : Type 0
routines_where_a_variable_is_wanted_33 = check_answer (codes "procedure p(var a: integer); begin end; begin p(p(1) + 1) end.") ≡ (codes "refused C10 at 48")

abbrev pub routines_where_a_variable_is_wanted_34 : Type 0
routines_where_a_variable_is_wanted_34 = check_answer (codes "procedure p(var a: integer); begin end; begin p(p + 1) end.") ≡ (codes "refused C2 at 48")

abbrev pub Wanted : Type 0
Wanted = a_type_where_a_variable_is_wanted_1 × a_type_where_a_variable_is_wanted_2 × a_type_where_a_variable_is_wanted_3 × a_type_where_a_variable_is_wanted_4 × a_type_where_a_variable_is_wanted_5 × a_type_where_a_variable_is_wanted_6 × a_type_where_a_variable_is_wanted_7 × a_type_where_a_variable_is_wanted_8 × a_type_where_a_variable_is_wanted_9 × a_type_where_a_variable_is_wanted_10 × a_type_where_a_variable_is_wanted_11 × a_type_where_a_variable_is_wanted_12 × a_type_where_a_variable_is_wanted_13 × a_type_where_a_variable_is_wanted_14 × a_type_where_a_variable_is_wanted_15 × a_type_where_a_variable_is_wanted_16 × a_type_where_a_variable_is_wanted_17 × a_type_where_a_variable_is_wanted_18 × indices_where_a_routine_is_wanted_1 × indices_where_a_routine_is_wanted_2 × indices_where_a_routine_is_wanted_3 × indices_where_a_routine_is_wanted_4 × indices_where_a_routine_is_wanted_5 × indices_where_a_routine_is_wanted_6 × indices_where_a_routine_is_wanted_7 × indices_where_a_routine_is_wanted_8 × indices_where_a_routine_is_wanted_9 × indices_where_a_routine_is_wanted_10 × indices_where_a_routine_is_wanted_11 × indices_where_a_routine_is_wanted_12 × indices_where_a_routine_is_wanted_13 × indices_where_a_routine_is_wanted_14 × indices_where_a_routine_is_wanted_15 × indices_where_a_routine_is_wanted_16 × indices_where_a_routine_is_wanted_17 × indices_where_a_routine_is_wanted_18 × routines_where_a_variable_is_wanted_1 × routines_where_a_variable_is_wanted_2 × routines_where_a_variable_is_wanted_3 × routines_where_a_variable_is_wanted_4 × routines_where_a_variable_is_wanted_5 × routines_where_a_variable_is_wanted_6 × routines_where_a_variable_is_wanted_7 × routines_where_a_variable_is_wanted_8 × routines_where_a_variable_is_wanted_9 × routines_where_a_variable_is_wanted_10 × routines_where_a_variable_is_wanted_11 × routines_where_a_variable_is_wanted_12 × routines_where_a_variable_is_wanted_13 × routines_where_a_variable_is_wanted_14 × routines_where_a_variable_is_wanted_15 × routines_where_a_variable_is_wanted_16 × routines_where_a_variable_is_wanted_17 × routines_where_a_variable_is_wanted_18 × routines_where_a_variable_is_wanted_19 × routines_where_a_variable_is_wanted_20 × routines_where_a_variable_is_wanted_21 × routines_where_a_variable_is_wanted_22 × routines_where_a_variable_is_wanted_23 × routines_where_a_variable_is_wanted_24 × routines_where_a_variable_is_wanted_25 × routines_where_a_variable_is_wanted_26 × routines_where_a_variable_is_wanted_27 × routines_where_a_variable_is_wanted_28 × routines_where_a_variable_is_wanted_29 × routines_where_a_variable_is_wanted_30 × routines_where_a_variable_is_wanted_31 × routines_where_a_variable_is_wanted_32 × routines_where_a_variable_is_wanted_33 × routines_where_a_variable_is_wanted_34
