-- Worked texts and their answers: variables. Written by worked/make_rows.py.
use Rattle.std.specs.Prelude.{◌≡◌, codes}
use Rattle.cp_test_definitions.specs.Answers.{check_answer}

abbrev pub parts_and_values_1 : Type 0
parts_and_values_1 = check_answer (codes "var v: record x: integer end; begin display(v.x.y) end.") ≡ (codes "refused C2 at 47")

abbrev pub parts_and_values_2 : Type 0
parts_and_values_2 = check_answer (codes "var d: integer; begin display(d.x) end.") ≡ (codes "refused C2 at 31")

abbrev pub parts_and_values_3 : Type 0
parts_and_values_3 = check_answer (codes "var d: integer; begin display(d[1]) end.") ≡ (codes "refused C2 at 31")

abbrev pub parts_and_values_4 : Type 0
parts_and_values_4 = check_answer (codes "var r: array [1..2] of integer; begin display(r[1, y]) end.") ≡ (codes "refused C2 at 49")

abbrev pub parts_and_values_5 : Type 0
parts_and_values_5 = check_answer (codes "var r: array [1..2] of integer; begin display(r[true]) end.") ≡ (codes "refused C2 at 48")

abbrev pub parts_and_values_6 : Type 0
parts_and_values_6 = check_answer (codes "const c = 1; begin display(c[1]) end.") ≡ (codes "refused C2 at 28")

abbrev pub parts_and_values_7 : Type 0
parts_and_values_7 = check_answer (codes "begin display(integer) end.") ≡ (codes "refused C2 at 14")

abbrev pub parts_and_values_8 : Type 0
parts_and_values_8 = check_answer (codes "begin display(integer[1]) end.") ≡ (codes "refused C2 at 14")

abbrev pub parts_and_values_9 : Type 0
parts_and_values_9 = check_answer (codes "begin display(integer.x) end.") ≡ (codes "refused C2 at 21")

abbrev pub parts_and_values_10 : Type 0
parts_and_values_10 = check_answer (codes "procedure p; begin end; begin display(p) end.") ≡ (codes "refused C2 at 38")

abbrev pub parts_and_values_11 : Type 0
parts_and_values_11 = check_answer (codes "procedure p; begin end; begin display(p[1]) end.") ≡ (codes "refused C2 at 39")

abbrev pub parts_and_values_12 : Type 0
parts_and_values_12 = check_answer (codes "procedure p; begin end; begin p.y end.") ≡ (codes "refused C2 at 31")

abbrev pub parts_and_values_13 : Type 0
parts_and_values_13 = check_answer (codes "begin display.y(7) end.") ≡ (codes "refused C2 at 13")

abbrev pub parts_and_values_14 : Type 0
parts_and_values_14 = check_answer (codes "begin true.y end.") ≡ (codes "refused C2 at 10")

abbrev pub parts_and_values_15 : Type 0
parts_and_values_15 = check_answer (codes "var v: record a: integer end; begin v.a end.") ≡ (codes "refused C2 at 38")

abbrev pub parts_and_values_16 : Type 0
parts_and_values_16 = check_answer (codes "var v: integer; begin v(1) end.") ≡ (codes "refused C2 at 22")

abbrev pub parts_and_values_17 : Type 0
parts_and_values_17 = check_answer (codes "var a: array [1..2] of integer; begin a[1](2) end.") ≡ (codes "refused C2 at 38")

abbrev pub parts_and_values_18 : Type 0
parts_and_values_18 = check_answer (codes "var a: array [1..2] of integer; begin a[1] end.") ≡ (codes "refused C2 at 38")

abbrev pub parts_and_values_19 : Type 0
parts_and_values_19 = check_answer (codes "var v: integer; begin v end.") ≡ (codes "refused C2 at 22")

abbrev pub parts_and_values_20 : Type 0
parts_and_values_20 = check_answer (codes "begin display(-'a') end.") ≡ (codes "refused C2 at 14")

abbrev pub parts_and_values_21 : Type 0
parts_and_values_21 = check_answer (codes "begin display(true + 1) end.") ≡ (codes "refused C2 at 19")

abbrev pub parts_and_values_22 : Type 0
parts_and_values_22 = check_answer (codes "begin display(true + y) end.") ≡ (codes "refused C1 at 21")

abbrev pub parts_and_values_23 : Type 0
parts_and_values_23 = check_answer (codes "begin display(true + 1 + y) end.") ≡ (codes "refused C2 at 19")

abbrev pub parts_and_values_24 : Type 0
parts_and_values_24 = check_answer (codes "begin display(not 1 = 1) end.") ≡ (codes "refused C2 at 14")

abbrev pub parts_and_values_25 : Type 0
parts_and_values_25 = check_answer (codes "begin display(1 = true) end.") ≡ (codes "refused C2 at 16")

abbrev pub parts_and_values_26 : Type 0
parts_and_values_26 = check_answer (codes "begin display('a' < 1) end.") ≡ (codes "refused C2 at 18")

abbrev pub parts_and_values_27 : Type 0
parts_and_values_27 = check_answer (codes "var a, b: array [1..2] of integer; begin if a = b then end.") ≡ (codes "refused C2 at 46")

abbrev pub parts_and_values_28 : Type 0
parts_and_values_28 = check_answer (codes "begin if 1 then end.") ≡ (codes "refused C2 at 9")

abbrev pub parts_and_values_29 : Type 0
parts_and_values_29 = check_answer (codes "begin while 1 do end.") ≡ (codes "refused C2 at 12")

abbrev pub parts_and_values_30 : Type 0
parts_and_values_30 = check_answer (codes "begin repeat until 1 end.") ≡ (codes "refused C2 at 19")

abbrev pub parts_and_values_31 : Type 0
parts_and_values_31 = check_answer (codes "var a: array [1..2] of integer; begin case a of 1: end end.") ≡ (codes "refused C2 at 43")

abbrev pub parts_and_values_32 : Type 0
parts_and_values_32 = check_answer (codes "begin case 1 of 1, 'a': end end.") ≡ (codes "refused C2 at 19")

abbrev pub parts_and_values_33 : Type 0
parts_and_values_33 = check_answer (codes "begin case 1 of 1, 2, 1: end end.") ≡ (codes "refused C3 at 22")

abbrev pub parts_and_values_34 : Type 0
parts_and_values_34 = check_answer (codes "const c = 2; begin case 1 of 1: ; c: ; 2: end end.") ≡ (codes "refused C3 at 39")

abbrev pub parts_and_values_35 : Type 0
parts_and_values_35 = check_answer (codes "var a: integer; b: char; begin a := b end.") ≡ (codes "refused C2 at 33")

abbrev pub parts_and_values_36 : Type 0
parts_and_values_36 = check_answer (codes "var a: array [1..2] of char; b: array [1..2] of char; begin a := b end.") ≡ (codes "refused C2 at 62")

abbrev pub parts_and_values_37 : Type 0
parts_and_values_37 = check_answer (codes "var a, b: array [1..2] of char; begin a := b; b := (a) end.") ≡ (codes "accepted\n")

abbrev pub parts_and_values_38 : Type 0
parts_and_values_38 = check_answer (codes "type t = 1..3; var a: t; b: -5..100; begin a := b end.") ≡ (codes "accepted\n")

abbrev pub what_may_be_changed_1 : Type 0
what_may_be_changed_1 = check_answer (codes "const c = 1; begin c := 2 end.") ≡ (codes "refused C10 at 19")

abbrev pub what_may_be_changed_2 : Type 0
what_may_be_changed_2 = check_answer (codes "type p = process(k: integer); begin k := 1 end; begin end.") ≡ (codes "refused C10 at 36")

abbrev pub what_may_be_changed_3 : Type 0
what_may_be_changed_3 = check_answer (codes "procedure p(k: integer); begin k := 1 end; begin end.") ≡ (codes "refused C10 at 31")

abbrev pub what_may_be_changed_4 : Type 0
what_may_be_changed_4 = check_answer (codes "procedure p(var k: integer); begin k := 1 end; begin end.") ≡ (codes "accepted\n")

abbrev pub what_may_be_changed_5 : Type 0
what_may_be_changed_5 = check_answer (codes "procedure p; begin end; begin p := 1 end.") ≡ (codes "refused C10 at 30")

abbrev pub what_may_be_changed_6 : Type 0
what_may_be_changed_6 = check_answer (codes "begin integer := 1 end.") ≡ (codes "refused C10 at 6")

abbrev pub what_may_be_changed_7 : Type 0
what_may_be_changed_7 = check_answer (codes "begin accept(3) end.") ≡ (codes "refused C2 at 13")

abbrev pub what_may_be_changed_8 : Type 0
what_may_be_changed_8 = check_answer (codes "begin accept(true) end.") ≡ (codes "refused C2 at 13")

abbrev pub what_may_be_changed_9 : Type 0
what_may_be_changed_9 = check_answer (codes "begin accept('a') end.") ≡ (codes "refused C10 at 13")

abbrev pub what_may_be_changed_10 : Type 0
what_may_be_changed_10 = check_answer (codes "begin accept(abs) end.") ≡ (codes "refused C10 at 13")

abbrev pub what_may_be_changed_11 : Type 0
what_may_be_changed_11 = check_answer (codes "const c = 'a'; begin accept(c) end.") ≡ (codes "refused C10 at 28")

abbrev pub what_may_be_changed_12 : Type 0
what_may_be_changed_12 = check_answer (codes "const c = 1; begin accept(c) end.") ≡ (codes "refused C2 at 26")

abbrev pub what_may_be_changed_13 : Type 0
what_may_be_changed_13 = check_answer (codes "var x: integer; begin accept(x) end.") ≡ (codes "refused C2 at 29")

abbrev pub what_may_be_changed_14 : Type 0
what_may_be_changed_14 = check_answer (codes "procedure p(x: char); begin accept(x) end; begin end.") ≡ (codes "refused C10 at 35")

abbrev pub what_may_be_changed_15 : Type 0
what_may_be_changed_15 = check_answer (codes "procedure p(x: integer); begin accept(x) end; begin end.") ≡ (codes "refused C2 at 38")

abbrev pub what_may_be_changed_16 : Type 0
what_may_be_changed_16 = check_answer (codes "var x: 'a'..'c'; begin accept(x) end.") ≡ (codes "accepted\n")

abbrev pub what_may_be_changed_17 : Type 0
what_may_be_changed_17 = check_answer (codes "procedure p(k: integer); begin for k := 1 to 2 do end; begin end.") ≡ (codes "refused C10 at 35")

abbrev pub what_may_be_changed_18 : Type 0
what_may_be_changed_18 = check_answer (codes "type a = array [1..2] of char; procedure p(k: a); begin for k := 1 to 2 do end; begin end.") ≡ (codes "refused C2 at 60")

abbrev pub what_may_be_changed_19 : Type 0
what_may_be_changed_19 = check_answer (codes "var r: record x: integer end; begin for r := 1 to 2 do end.") ≡ (codes "refused C2 at 40")

abbrev pub what_may_be_changed_20 : Type 0
what_may_be_changed_20 = check_answer (codes "var k: integer; begin for k := 1 to true do end.") ≡ (codes "refused C2 at 36")

abbrev pub what_may_be_changed_21 : Type 0
what_may_be_changed_21 = check_answer (codes "var k: 'a'..'c'; begin for k := 1 to 'c' do end.") ≡ (codes "refused C2 at 32")

abbrev pub what_may_be_changed_22 : Type 0
what_may_be_changed_22 = check_answer (codes "procedure p(var x: integer); begin end; begin p(1 + 2) end.") ≡ (codes "refused C10 at 48")

abbrev pub what_may_be_changed_23 : Type 0
what_may_be_changed_23 = check_answer (codes "var y: integer; procedure p(var x: integer); begin end; begin p((y)) end.") ≡ (codes "refused C10 at 64")

abbrev pub what_may_be_changed_24 : Type 0
what_may_be_changed_24 = check_answer (codes "var y: 1..3; procedure p(var x: integer); begin end; begin p(y) end.") ≡ (codes "refused C10 at 61")

abbrev pub what_may_be_changed_25 : Type 0
what_may_be_changed_25 = check_answer (codes "type t = integer; var y: integer; procedure p(var x: t); begin end; begin p(y) end.") ≡ (codes "accepted\n")

abbrev pub what_may_be_changed_26 : Type 0
what_may_be_changed_26 = check_answer (codes "procedure p(var x: integer); begin end; begin p(abs) end.") ≡ (codes "refused C10 at 48")

abbrev pub what_may_be_changed_27 : Type 0
what_may_be_changed_27 = check_answer (codes "procedure p(var x: integer); begin end; procedure q(k: integer); begin p(k) end; begin end.") ≡ (codes "refused C10 at 73")

abbrev pub what_may_be_changed_28 : Type 0
what_may_be_changed_28 = check_answer (codes "var a: array [1..2] of integer; procedure p(var x: integer); begin end; begin p(a[1]) end.") ≡ (codes "accepted\n")

abbrev pub Variables : Type 0
Variables = parts_and_values_1 × parts_and_values_2 × parts_and_values_3 × parts_and_values_4 × parts_and_values_5 × parts_and_values_6 × parts_and_values_7 × parts_and_values_8 × parts_and_values_9 × parts_and_values_10 × parts_and_values_11 × parts_and_values_12 × parts_and_values_13 × parts_and_values_14 × parts_and_values_15 × parts_and_values_16 × parts_and_values_17 × parts_and_values_18 × parts_and_values_19 × parts_and_values_20 × parts_and_values_21 × parts_and_values_22 × parts_and_values_23 × parts_and_values_24 × parts_and_values_25 × parts_and_values_26 × parts_and_values_27 × parts_and_values_28 × parts_and_values_29 × parts_and_values_30 × parts_and_values_31 × parts_and_values_32 × parts_and_values_33 × parts_and_values_34 × parts_and_values_35 × parts_and_values_36 × parts_and_values_37 × parts_and_values_38 × what_may_be_changed_1 × what_may_be_changed_2 × what_may_be_changed_3 × what_may_be_changed_4 × what_may_be_changed_5 × what_may_be_changed_6 × what_may_be_changed_7 × what_may_be_changed_8 × what_may_be_changed_9 × what_may_be_changed_10 × what_may_be_changed_11 × what_may_be_changed_12 × what_may_be_changed_13 × what_may_be_changed_14 × what_may_be_changed_15 × what_may_be_changed_16 × what_may_be_changed_17 × what_may_be_changed_18 × what_may_be_changed_19 × what_may_be_changed_20 × what_may_be_changed_21 × what_may_be_changed_22 × what_may_be_changed_23 × what_may_be_changed_24 × what_may_be_changed_25 × what_may_be_changed_26 × what_may_be_changed_27 × what_may_be_changed_28
