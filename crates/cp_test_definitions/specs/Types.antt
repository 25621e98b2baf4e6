-- Worked texts and their answers: types. Written by worked/make_rows.py.
use Rattle.std.specs.Prelude.{◌≡◌, codes}
use Rattle.cp_test_definitions.specs.Answers.{check_answer}

abbrev pub arrays_broken_inside_1 : Type 0
arrays_broken_inside_1 = check_answer (codes "var x: array [y] of queue; begin end.") ≡ (codes "refused C8 at 7")

abbrev pub arrays_broken_inside_2 : Type 0
arrays_broken_inside_2 = check_answer (codes "var x: array [integer, boolean] of queue; begin end.") ≡ (codes "refused C8 at 7")

abbrev pub arrays_broken_inside_3 : Type 0
arrays_broken_inside_3 = check_answer (codes "var x: array [2..1] of queue; begin end.") ≡ (codes "refused C8 at 7")

abbrev pub arrays_broken_inside_4 : Type 0
arrays_broken_inside_4 = check_answer (codes "var x: array [true] of queue; begin end.") ≡ (codes "refused C8 at 7")

abbrev pub arrays_broken_inside_5 : Type 0
arrays_broken_inside_5 = check_answer (codes "var x: array [y] of array [1..2] of queue; begin end.") ≡ (codes "refused C8 at 7")

abbrev pub arrays_broken_inside_6 : Type 0
arrays_broken_inside_6 = check_answer (codes "var x: array [1..2] of array [y] of queue; begin end.") ≡ (codes "refused C8 at 7")

abbrev pub arrays_broken_inside_7 : Type 0
arrays_broken_inside_7 = check_answer (codes "type q = array [1..2] of queue; var x: array [y] of q; begin end.") ≡ (codes "refused C8 at 39")

abbrev pub arrays_broken_inside_8 : Type 0
arrays_broken_inside_8 = check_answer (codes "var x: array [y] of integer; begin end.") ≡ (codes "refused C1 at 14")

abbrev pub arrays_broken_inside_9 : Type 0
arrays_broken_inside_9 = check_answer (codes "var x: array [y] of z; begin end.") ≡ (codes "refused C1 at 14")

abbrev pub arrays_broken_inside_10 : Type 0
arrays_broken_inside_10 = check_answer (codes "type r = record x: array [y] of queue end; begin end.") ≡ (codes "refused C8 at 19")

abbrev pub arrays_broken_inside_11 : Type 0
arrays_broken_inside_11 = check_answer (codes "type t = array [1..2] of record x: array [y] of queue end; begin end.") ≡ (codes "refused C8 at 35")

abbrev pub arrays_broken_inside_12 : Type 0
arrays_broken_inside_12 = check_answer (codes "type c = class; var x: array [y] of queue; begin end; begin end.") ≡ (codes "refused C8 at 23")

abbrev pub arrays_broken_inside_13 : Type 0
arrays_broken_inside_13 = check_answer (codes "type p = process; var x: array [y] of queue; begin end; begin end.") ≡ (codes "refused C8 at 25")

abbrev pub arrays_broken_inside_14 : Type 0
arrays_broken_inside_14 = check_answer (codes "type m = monitor; var x: array [y] of queue; begin end; begin end.") ≡ (codes "refused C1 at 32")

abbrev pub arrays_broken_inside_15 : Type 0
arrays_broken_inside_15 = check_answer (codes "type m = monitor; procedure p; var x: array [y] of queue; begin end; begin end; begin end.") ≡ (codes "refused C8 at 38")

abbrev pub arrays_broken_inside_16 : Type 0
arrays_broken_inside_16 = check_answer (codes "procedure p; var x: array [y] of queue; begin end; begin end.") ≡ (codes "refused C8 at 20")

abbrev pub arrays_broken_inside_17 : Type 0
arrays_broken_inside_17 = check_answer (codes "type t = array [y] of queue; begin end.") ≡ (codes "refused C1 at 16")

abbrev pub arrays_broken_inside_18 : Type 0
arrays_broken_inside_18 = check_answer (codes "type t = array [array [y] of char] of char; begin end.") ≡ (codes "refused C2 at 16")

abbrev pub arrays_broken_inside_19 : Type 0
arrays_broken_inside_19 = check_answer (codes "type t = array [record a: y end] of char; begin end.") ≡ (codes "refused C2 at 16")

abbrev pub arrays_broken_inside_20 : Type 0
arrays_broken_inside_20 = check_answer (codes "type t = array [array [boolean, integer] of char] of char; begin end.") ≡ (codes "refused C2 at 16")

abbrev pub arrays_broken_inside_21 : Type 0
arrays_broken_inside_21 = check_answer (codes "type t = array [array [y] of queue] of char; begin end.") ≡ (codes "refused C2 at 16")

abbrev pub arrays_broken_inside_22 : Type 0
arrays_broken_inside_22 = check_answer (codes "type t = array [boolean, record a, a: char end] of char; begin end.") ≡ (codes "refused C2 at 25")

abbrev pub arrays_broken_inside_23 : Type 0
arrays_broken_inside_23 = check_answer (codes "var x: array [array [y] of char] of queue; begin end.") ≡ (codes "refused C8 at 7")

abbrev pub arrays_broken_inside_24 : Type 0
arrays_broken_inside_24 = check_answer (codes "type t = array [2..1] of char; begin end.") ≡ (codes "refused C3 at 19")

abbrev pub arrays_broken_inside_25 : Type 0
arrays_broken_inside_25 = check_answer (codes "type t = array [boolean, integer] of char; begin end.") ≡ (codes "refused C13 at 9")

abbrev pub system_types_where_they_may_not_stand_1 : Type 0
system_types_where_they_may_not_stand_1 = check_answer (codes "type c = class; begin end; r = record x: c end; begin end.") ≡ (codes "refused C6 at 41")

abbrev pub system_types_where_they_may_not_stand_2 : Type 0
system_types_where_they_may_not_stand_2 = check_answer (codes "type c = class; begin end; a = array [1..2] of c; begin end.") ≡ (codes "refused C6 at 47")

abbrev pub system_types_where_they_may_not_stand_3 : Type 0
system_types_where_they_may_not_stand_3 = check_answer (codes "type c = class; begin end; d = c; begin end.") ≡ (codes "refused C6 at 31")

abbrev pub system_types_where_they_may_not_stand_4 : Type 0
system_types_where_they_may_not_stand_4 = check_answer (codes "type c = class; begin end; procedure p; var u: c; begin end; begin end.") ≡ (codes "refused C6 at 47")

abbrev pub system_types_where_they_may_not_stand_5 : Type 0
system_types_where_they_may_not_stand_5 = check_answer (codes "type m = monitor; begin end; c = class; var g: m; begin end; begin end.") ≡ (codes "refused C6 at 47")

abbrev pub system_types_where_they_may_not_stand_6 : Type 0
system_types_where_they_may_not_stand_6 = check_answer (codes "type p = process; begin end; m = monitor; var a: p; begin end; begin end.") ≡ (codes "refused C6 at 49")

abbrev pub system_types_where_they_may_not_stand_7 : Type 0
system_types_where_they_may_not_stand_7 = check_answer (codes "type m = monitor; begin end; p = process; var g: m; begin end; begin end.") ≡ (codes "refused C6 at 49")

abbrev pub system_types_where_they_may_not_stand_8 : Type 0
system_types_where_they_may_not_stand_8 = check_answer (codes "type c = class; begin end; m = monitor; var u: c; begin init u end; var g: m; begin init g end.") ≡ (codes "accepted\n")

abbrev pub system_types_where_they_may_not_stand_9 : Type 0
system_types_where_they_may_not_stand_9 = check_answer (codes "type p = process(var k: integer); begin end; begin end.") ≡ (codes "refused C7 at 17")

abbrev pub system_types_where_they_may_not_stand_10 : Type 0
system_types_where_they_may_not_stand_10 = check_answer (codes "type r = record x: integer end; p = process(k: r); begin end; begin end.") ≡ (codes "refused C7 at 47")

abbrev pub system_types_where_they_may_not_stand_11 : Type 0
system_types_where_they_may_not_stand_11 = check_answer (codes "type p = process; begin end; q = process(k: p); begin end; begin end.") ≡ (codes "refused C7 at 44")

abbrev pub system_types_where_they_may_not_stand_12 : Type 0
system_types_where_they_may_not_stand_12 = check_answer (codes "type c = class; begin end; m = monitor(u: c); begin end; begin end.") ≡ (codes "refused C7 at 42")

abbrev pub system_types_where_they_may_not_stand_13 : Type 0
system_types_where_they_may_not_stand_13 = check_answer (codes "type c = class; begin end; d = class(u: c); begin end; m = monitor; begin end; e = class(g: m); begin end; begin end.") ≡ (codes "accepted\n")

abbrev pub system_types_where_they_may_not_stand_14 : Type 0
system_types_where_they_may_not_stand_14 = check_answer (codes "type c = class; begin end; procedure p(u: c); begin end; begin end.") ≡ (codes "refused C7 at 42")

abbrev pub system_types_where_they_may_not_stand_15 : Type 0
system_types_where_they_may_not_stand_15 = check_answer (codes "type c = class; begin end; function f: c; begin end; begin end.") ≡ (codes "refused C11 at 39")

abbrev pub system_types_where_they_may_not_stand_16 : Type 0
system_types_where_they_may_not_stand_16 = check_answer (codes "type a = array [1..2] of char; function f: a; begin end; begin end.") ≡ (codes "refused C11 at 43")

abbrev pub system_types_where_they_may_not_stand_17 : Type 0
system_types_where_they_may_not_stand_17 = check_answer (codes "function f(var x: integer): integer; begin f := 1 end; begin end.") ≡ (codes "refused C11 at 11")

abbrev pub words_of_owners_1 : Type 0
words_of_owners_1 = check_answer (codes "type t = array [0..32767, 0..1] of char; p = process; var v: t; begin end; var a: p; begin end.") ≡ (codes "refused C13 at 79")

abbrev pub words_of_owners_2 : Type 0
words_of_owners_2 = check_answer (codes "type t = array [0..32767, 0..1] of char; m = monitor; var v: t; begin end; var a: m; begin end.") ≡ (codes "refused C13 at 79")

abbrev pub words_of_owners_3 : Type 0
words_of_owners_3 = check_answer (codes "type t = array [0..32767, 0..1] of char; m = monitor; var v: t; begin end; begin end.") ≡ (codes "accepted\n")

abbrev pub words_of_owners_4 : Type 0
words_of_owners_4 = check_answer (codes "type t = array [0..32767, 0..1] of char; c = class; var v: t; begin end; var u: c; begin end.") ≡ (codes "refused C13 at 83")

abbrev pub words_of_owners_5 : Type 0
words_of_owners_5 = check_answer (codes "type t = array [0..32767, 0..1] of char; procedure p; var v: t; begin end; begin end.") ≡ (codes "accepted\n")

abbrev pub words_of_owners_6 : Type 0
words_of_owners_6 = check_answer (codes "type t = array [0..32767, 0..1] of char; procedure p; var v: t; begin end; begin p end.") ≡ (codes "refused C13 at 75")

abbrev pub words_of_owners_7 : Type 0
words_of_owners_7 = check_answer (codes "type t = array [0..32767, 0..1] of char; procedure p(v: t); begin end; procedure q; begin end; begin q end.") ≡ (codes "accepted\n")

abbrev pub words_of_owners_8 : Type 0
words_of_owners_8 = check_answer (codes "type t = array [0..32767] of char; function f(a: t): integer; begin f := 1 end; procedure p(b: t); begin display(f(b)) end; begin end.") ≡ (codes "accepted\n")

abbrev pub words_of_owners_9 : Type 0
words_of_owners_9 = check_answer (codes "type t = array [0..32767] of char; var v: t; function f(a: t): integer; begin f := 1 end; procedure p(b: t); begin display(f(b)) end; begin p(v) end.") ≡ (codes "refused C13 at 134")

abbrev pub written_types_1 : Type 0
written_types_1 = check_answer (codes "type t = 'a'..3; begin end.") ≡ (codes "refused C2 at 14")

abbrev pub written_types_2 : Type 0
written_types_2 = check_answer (codes "type t = false..'b'; begin end.") ≡ (codes "refused C2 at 16")

abbrev pub written_types_3 : Type 0
written_types_3 = check_answer (codes "type t = 3..2; begin end.") ≡ (codes "refused C3 at 12")

abbrev pub written_types_4 : Type 0
written_types_4 = check_answer (codes "type t = -5..-7; begin end.") ≡ (codes "refused C3 at 13")

abbrev pub written_types_5 : Type 0
written_types_5 = check_answer (codes "type t = true..false; begin end.") ≡ (codes "refused C3 at 15")

abbrev pub written_types_6 : Type 0
written_types_6 = check_answer (codes "type a = array [queue] of char; begin end.") ≡ (codes "refused C2 at 16")

abbrev pub written_types_7 : Type 0
written_types_7 = check_answer (codes "type r = record x: integer end; a = array [r] of char; begin end.") ≡ (codes "refused C2 at 43")

abbrev pub written_types_8 : Type 0
written_types_8 = check_answer (codes "var a: a; begin end.") ≡ (codes "refused C2 at 7")

abbrev pub written_types_9 : Type 0
written_types_9 = check_answer (codes "var a, b: a; begin end.") ≡ (codes "refused C2 at 10")

abbrev pub written_types_10 : Type 0
written_types_10 = check_answer (codes "const c = 1; var x: c; begin end.") ≡ (codes "refused C2 at 20")

abbrev pub written_types_11 : Type 0
written_types_11 = check_answer (codes "type a = array [integer] of char; begin end.") ≡ (codes "accepted\n")

abbrev pub written_types_12 : Type 0
written_types_12 = check_answer (codes "type a = array [integer] of char; var v: a; begin end.") ≡ (codes "refused C13 at 44")

abbrev pub written_types_13 : Type 0
written_types_13 = check_answer (codes "type a = array [integer, boolean] of char; begin end.") ≡ (codes "refused C13 at 9")

abbrev pub written_types_14 : Type 0
written_types_14 = check_answer (codes "type a = array [1..2] of array [0..32767, 0..2] of char; begin end.") ≡ (codes "refused C13 at 25")

abbrev pub written_types_15 : Type 0
written_types_15 = check_answer (codes "type t = record a, b, c: array [0..32767] of char end; begin end.") ≡ (codes "refused C13 at 9")

abbrev pub written_types_16 : Type 0
written_types_16 = check_answer (codes "type e = (red, green); a = array ['a'..'b', boolean, e] of -3..3; var v: a; begin v['a', true, green] := -3 end.") ≡ (codes "accepted\n")

abbrev pub Types : Type 0
Types = arrays_broken_inside_1 × arrays_broken_inside_2 × arrays_broken_inside_3 × arrays_broken_inside_4 × arrays_broken_inside_5 × arrays_broken_inside_6 × arrays_broken_inside_7 × arrays_broken_inside_8 × arrays_broken_inside_9 × arrays_broken_inside_10 × arrays_broken_inside_11 × arrays_broken_inside_12 × arrays_broken_inside_13 × arrays_broken_inside_14 × arrays_broken_inside_15 × arrays_broken_inside_16 × arrays_broken_inside_17 × arrays_broken_inside_18 × arrays_broken_inside_19 × arrays_broken_inside_20 × arrays_broken_inside_21 × arrays_broken_inside_22 × arrays_broken_inside_23 × arrays_broken_inside_24 × arrays_broken_inside_25 × system_types_where_they_may_not_stand_1 × system_types_where_they_may_not_stand_2 × system_types_where_they_may_not_stand_3 × system_types_where_they_may_not_stand_4 × system_types_where_they_may_not_stand_5 × system_types_where_they_may_not_stand_6 × system_types_where_they_may_not_stand_7 × system_types_where_they_may_not_stand_8 × system_types_where_they_may_not_stand_9 × system_types_where_they_may_not_stand_10 × system_types_where_they_may_not_stand_11 × system_types_where_they_may_not_stand_12 × system_types_where_they_may_not_stand_13 × system_types_where_they_may_not_stand_14 × system_types_where_they_may_not_stand_15 × system_types_where_they_may_not_stand_16 × system_types_where_they_may_not_stand_17 × words_of_owners_1 × words_of_owners_2 × words_of_owners_3 × words_of_owners_4 × words_of_owners_5 × words_of_owners_6 × words_of_owners_7 × words_of_owners_8 × words_of_owners_9 × written_types_1 × written_types_2 × written_types_3 × written_types_4 × written_types_5 × written_types_6 × written_types_7 × written_types_8 × written_types_9 × written_types_10 × written_types_11 × written_types_12 × written_types_13 × written_types_14 × written_types_15 × written_types_16
