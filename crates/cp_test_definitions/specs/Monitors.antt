-- Worked texts and their answers: monitors. Written by worked/make_rows.py.
use Rattle.std.specs.Prelude.{◌≡◌, true, false, [], codes}
use Rattle.cp_model.specs.Report.{Text}
use Rattle.cp_test_definitions.specs.Answers.{check_answer, run_answer}

abbrev pub a_chain_of_askers_1_text : Text
a_chain_of_askers_1_text = (codes "type n = monitor; var x: integer;\n  procedure entry w; begin x := 1 div x end; begin end;\nm = monitor(i: n); procedure entry e; begin i.w end; begin end;\npn = process(i: n); begin i.w end;\npm = process(a: m); begin a.e end;\nvar h: n; g: m; b: pn; c, d: pm;\nbegin init h, g(h), b(h), c(g), d(g) end.")

abbrev pub a_chain_of_askers_1 : Type 0
a_chain_of_askers_1 = run_answer 2 10 1 false [] a_chain_of_askers_1_text ≡ (codes "rounds 2\nprocess 1 initial ended\nout ''\nprocess 2 b fault 4\nout ''\nprocess 3 c asking h\nout ''\nprocess 4 d asking g\nout ''\nmonitor h held 2 askers 3\nvar x = 0\nmonitor g held 3 askers 4\n")

abbrev pub a_chain_of_askers_2 : Type 0
a_chain_of_askers_2 = run_answer 2 10 1 true [] a_chain_of_askers_1_text ≡ (codes "rounds 2\nprocess 1 initial ended\nout ''\nprocess 2 b fault 4\nout ''\nprocess 3 c asking h\nout ''\nprocess 4 d asking g\nout ''\nmonitor h held 2 askers 3\nvar x = 0\nmonitor g held 3 askers 4\nchain 3 2\nchain 4 3 2\n")

abbrev pub a_continue_resumes_a_delayed_process_1_text : Text
a_continue_resumes_a_delayed_process_1_text = (codes "type m = monitor; var q: queue;\n  procedure entry w; begin delay(q); display(1) end;\n  procedure entry s; begin continue(q) end; begin end;\npw = process(a: m); begin a.w; display(2) end;\nps = process(a: m); begin a.s; display(3) end;\nvar g: m; b: pw; c: ps;\nbegin init g, b(g), c(g) end.")

abbrev pub a_continue_resumes_a_delayed_process_1 : Type 0
a_continue_resumes_a_delayed_process_1 = run_answer 2 10 1 false [] a_continue_resumes_a_delayed_process_1_text ≡ (codes "rounds 2\nprocess 1 initial ended\nout ''\nprocess 2 b ready\nout ''\nprocess 3 c ready\nout ''\nmonitor g held 2 askers -\nqueue q = -\n")

abbrev pub a_continue_resumes_a_delayed_process_2 : Type 0
a_continue_resumes_a_delayed_process_2 = run_answer 3 10 1 false [] a_continue_resumes_a_delayed_process_1_text ≡ (codes "rounds 3\nprocess 1 initial ended\nout ''\nprocess 2 b ready\nout '1'\nprocess 3 c ended\nout '3'\nmonitor g free askers -\nqueue q = -\n")

abbrev pub a_continue_resumes_a_delayed_process_3 : Type 0
a_continue_resumes_a_delayed_process_3 = run_answer 4 10 1 false [] a_continue_resumes_a_delayed_process_1_text ≡ (codes "rounds 4\nprocess 1 initial ended\nout ''\nprocess 2 b ended\nout '12'\nprocess 3 c ended\nout '3'\nmonitor g free askers -\nqueue q = -\n")

abbrev pub a_monitor_before_its_init_1 : Type 0
a_monitor_before_its_init_1 = run_answer 1 10 1 false [] (codes "type m = monitor; procedure entry e; begin end; begin end; var g: m; begin g.e end.") ≡ (codes "rounds 1\nprocess 1 initial fault 6\nout ''\nmonitor g unset askers -\n")

abbrev pub a_monitor_is_entered_1 : Type 0
a_monitor_is_entered_1 = run_answer 2 3 1 false [] (codes "type m = monitor; var x: integer;\n  procedure entry e; begin x := 9 end; begin end;\np = process(a: m); var v: integer;\n  begin v := 1; v := 2; v := 3; a.e end;\nvar g: m; b: p;\nbegin init g, b(g) end.") ≡ (codes "rounds 2\nprocess 1 initial ended\nout ''\nprocess 2 b ready\nout ''\nvar v = 3\nmonitor g free askers -\nvar x = 9\n")

abbrev pub a_nested_delay_keeps_outer_gates_1_text : Text
a_nested_delay_keeps_outer_gates_1_text = (codes "type n = monitor; var q: queue;\n  procedure entry w; begin delay(q) end; begin end;\nm = monitor(i: n); procedure entry e; begin i.w end; begin end;\np = process(a: m); begin a.e end;\nvar h: n; g: m; b, c: p;\nbegin init h, g(h), b(g), c(g) end.")

abbrev pub a_nested_delay_keeps_outer_gates_1 : Type 0
a_nested_delay_keeps_outer_gates_1 = run_answer 2 10 1 false [] a_nested_delay_keeps_outer_gates_1_text ≡ (codes "rounds 2\nprocess 1 initial ended\nout ''\nprocess 2 b delayed h q\nout ''\nprocess 3 c asking g\nout ''\nmonitor h free askers -\nqueue q = 2\nmonitor g held 2 askers 3\n")

abbrev pub a_nested_delay_keeps_outer_gates_2 : Type 0
a_nested_delay_keeps_outer_gates_2 = run_answer 2 10 1 true [] a_nested_delay_keeps_outer_gates_1_text ≡ (codes "rounds 2\nprocess 1 initial ended\nout ''\nprocess 2 b delayed h q\nout ''\nprocess 3 c asking g\nout ''\nmonitor h free askers -\nqueue q = 2\nmonitor g held 2 askers 3\nchain 3 2\n")

abbrev pub a_queue_holds_one_process_1_text : Text
a_queue_holds_one_process_1_text = (codes "type m = monitor; var q: queue;\n  procedure entry w; begin delay(q); display(1) end;\n  procedure entry s; begin continue(q) end; begin end;\npw = process(a: m); begin a.w; display(2) end;\nps = process(a: m); begin a.s; display(3) end;\nvar g: m; b, c, d: pw; begin init g, b(g), c(g), d(g) end.")

abbrev pub a_queue_holds_one_process_1 : Type 0
a_queue_holds_one_process_1 = run_answer 2 10 1 false [] a_queue_holds_one_process_1_text ≡ (codes "rounds 2\nprocess 1 initial ended\nout ''\nprocess 2 b delayed g q\nout ''\nprocess 3 c fault 5\nout ''\nprocess 4 d asking g\nout ''\nmonitor g held 3 askers 4\nqueue q = 2\n")

abbrev pub a_queue_holds_one_process_2 : Type 0
a_queue_holds_one_process_2 = run_answer 3 10 1 false [] a_queue_holds_one_process_1_text ≡ (codes "rounds 3\nprocess 1 initial ended\nout ''\nprocess 2 b delayed g q\nout ''\nprocess 3 c fault 5\nout ''\nprocess 4 d asking g\nout ''\nmonitor g held 3 askers 4\nqueue q = 2\n")

abbrev pub a_queue_holds_one_process_3 : Type 0
a_queue_holds_one_process_3 = run_answer 9 10 1 false [] a_queue_holds_one_process_1_text ≡ (codes "rounds 9\nprocess 1 initial ended\nout ''\nprocess 2 b delayed g q\nout ''\nprocess 3 c fault 5\nout ''\nprocess 4 d asking g\nout ''\nmonitor g held 3 askers 4\nqueue q = 2\n")

abbrev pub a_queue_holds_one_process_4 : Type 0
a_queue_holds_one_process_4 = run_answer 2 10 1 true [] a_queue_holds_one_process_1_text ≡ (codes "rounds 2\nprocess 1 initial ended\nout ''\nprocess 2 b delayed g q\nout ''\nprocess 3 c fault 5\nout ''\nprocess 4 d asking g\nout ''\nmonitor g held 3 askers 4\nqueue q = 2\nchain 4 3\n")

abbrev pub a_queue_holds_one_process_5 : Type 0
a_queue_holds_one_process_5 = run_answer 3 10 1 true [] a_queue_holds_one_process_1_text ≡ (codes "rounds 3\nprocess 1 initial ended\nout ''\nprocess 2 b delayed g q\nout ''\nprocess 3 c fault 5\nout ''\nprocess 4 d asking g\nout ''\nmonitor g held 3 askers 4\nqueue q = 2\nchain 4 3\n")

abbrev pub a_queue_holds_one_process_6 : Type 0
a_queue_holds_one_process_6 = run_answer 9 10 1 true [] a_queue_holds_one_process_1_text ≡ (codes "rounds 9\nprocess 1 initial ended\nout ''\nprocess 2 b delayed g q\nout ''\nprocess 3 c fault 5\nout ''\nprocess 4 d asking g\nout ''\nmonitor g held 3 askers 4\nqueue q = 2\nchain 4 3\n")

abbrev pub a_var_parameter_of_a_delayed_caller_1_text : Text
a_var_parameter_of_a_delayed_caller_1_text = (codes "type t = array [1..2] of integer;\nm = monitor; var q: queue;\n  procedure entry w(var x: integer); begin delay(q); x := 5 end;\n  procedure entry s; begin continue(q) end; begin end;\npw = process(a: m); var r: t; begin a.w(r[2]); display(r[2]) end;\nps = process(a: m); var v: integer;\n  begin v := 1; v := 2; v := 3; a.s end;\nvar g: m; b: pw; c: ps;\nbegin init g, b(g), c(g) end.")

abbrev pub a_var_parameter_of_a_delayed_caller_1 : Type 0
a_var_parameter_of_a_delayed_caller_1 = run_answer 3 2 1 false [] a_var_parameter_of_a_delayed_caller_1_text ≡ (codes "rounds 3\nprocess 1 initial ended\nout ''\nprocess 2 b delayed g q\nout ''\nvar r[1] = 0\nvar r[2] = 0\nprocess 3 c ready\nout ''\nvar v = 2\nmonitor g free askers -\nqueue q = 2\n")

abbrev pub a_var_parameter_of_a_delayed_caller_2 : Type 0
a_var_parameter_of_a_delayed_caller_2 = run_answer 4 2 1 false [] a_var_parameter_of_a_delayed_caller_1_text ≡ (codes "rounds 4\nprocess 1 initial ended\nout ''\nprocess 2 b ready\nout ''\nvar r[1] = 0\nvar r[2] = 0\nprocess 3 c ready\nout ''\nvar v = 3\nmonitor g held 2 askers -\nqueue q = -\n")

abbrev pub a_var_parameter_of_a_delayed_caller_3 : Type 0
a_var_parameter_of_a_delayed_caller_3 = run_answer 5 2 1 false [] a_var_parameter_of_a_delayed_caller_1_text ≡ (codes "rounds 5\nprocess 1 initial ended\nout ''\nprocess 2 b ready\nout ''\nvar r[1] = 0\nvar r[2] = 5\nprocess 3 c ended\nout ''\nvar v = 3\nmonitor g free askers -\nqueue q = -\n")

abbrev pub a_var_parameter_of_a_delayed_caller_4 : Type 0
a_var_parameter_of_a_delayed_caller_4 = run_answer 6 2 1 false [] a_var_parameter_of_a_delayed_caller_1_text ≡ (codes "rounds 6\nprocess 1 initial ended\nout ''\nprocess 2 b ended\nout '5'\nvar r[1] = 0\nvar r[2] = 5\nprocess 3 c ended\nout ''\nvar v = 3\nmonitor g free askers -\nqueue q = -\n")

abbrev pub askers_are_served_first_come_1_text : Text
askers_are_served_first_come_1_text = (codes "type m = monitor;\n  procedure entry e(k: integer);\n  begin display(k); display(k); display(k) end; begin end;\np = process(a: m; k: integer); begin a.e(k) end;\nvar g: m; b, c, d: p;\nbegin init g, b(g, 1), c(g, 2), d(g, 3) end.")

abbrev pub askers_are_served_first_come_1 : Type 0
askers_are_served_first_come_1 = run_answer 4 2 1 false [] askers_are_served_first_come_1_text ≡ (codes "rounds 4\nprocess 1 initial ended\nout ''\nprocess 2 b ready\nout '111'\nvar k = 1\nprocess 3 c asking g\nout ''\nvar k = 2\nprocess 4 d asking g\nout ''\nvar k = 3\nmonitor g held 2 askers 3 4\n")

abbrev pub askers_are_served_first_come_2 : Type 0
askers_are_served_first_come_2 = run_answer 7 2 1 false [] askers_are_served_first_come_1_text ≡ (codes "rounds 7\nprocess 1 initial ended\nout ''\nprocess 2 b ended\nout '111'\nvar k = 1\nprocess 3 c ended\nout '222'\nvar k = 2\nprocess 4 d ready\nout '333'\nvar k = 3\nmonitor g free askers -\n")

abbrev pub askers_are_served_first_come_3 : Type 0
askers_are_served_first_come_3 = run_answer 8 2 1 false [] askers_are_served_first_come_1_text ≡ (codes "rounds 8\nprocess 1 initial ended\nout ''\nprocess 2 b ended\nout '111'\nvar k = 1\nprocess 3 c ended\nout '222'\nvar k = 2\nprocess 4 d ended\nout '333'\nvar k = 3\nmonitor g free askers -\n")

abbrev pub continue_in_a_function_1_text : Text
continue_in_a_function_1_text = (codes "type m = monitor; var q: queue; function entry f: integer; begin f := 4; continue(q); f := 5 end; begin end; var g: m; begin init g; display(g.f) end.")

abbrev pub continue_in_a_function_1 : Type 0
continue_in_a_function_1 = run_answer 1 10 1 false [] continue_in_a_function_1_text ≡ (codes "rounds 1\nprocess 1 initial ready\nout ''\nmonitor g free askers -\nqueue q = -\n")

abbrev pub continue_in_a_function_2 : Type 0
continue_in_a_function_2 = run_answer 2 10 1 false [] continue_in_a_function_1_text ≡ (codes "rounds 2\nprocess 1 initial ended\nout '4'\nmonitor g free askers -\nqueue q = -\n")

abbrev pub continue_in_a_function_without_a_result_1 : Type 0
continue_in_a_function_without_a_result_1 = run_answer 1 10 1 false [] (codes "type m = monitor; var q: queue; function entry f: integer; begin continue(q) end; begin end; var g: m; begin init g; display(g.f) end.") ≡ (codes "rounds 1\nprocess 1 initial fault 9\nout ''\nmonitor g held 1 askers -\nqueue q = -\n")

abbrev pub queues_where_they_may_not_stand_1 : Type 0
queues_where_they_may_not_stand_1 = check_answer (codes "var a: array [1..2] of queue; begin end.") ≡ (codes "refused C8 at 7")

abbrev pub queues_where_they_may_not_stand_2 : Type 0
queues_where_they_may_not_stand_2 = check_answer (codes "var q: queue; begin end.") ≡ (codes "refused C8 at 7")

abbrev pub queues_where_they_may_not_stand_3 : Type 0
queues_where_they_may_not_stand_3 = check_answer (codes "type r = record x: queue end; begin end.") ≡ (codes "refused C8 at 19")

abbrev pub queues_where_they_may_not_stand_4 : Type 0
queues_where_they_may_not_stand_4 = check_answer (codes "type u = array [1..2] of queue; r = record x: u end; begin end.") ≡ (codes "refused C8 at 46")

abbrev pub queues_where_they_may_not_stand_5 : Type 0
queues_where_they_may_not_stand_5 = check_answer (codes "type c = class; var q: queue; begin end; begin end.") ≡ (codes "refused C8 at 23")

abbrev pub queues_where_they_may_not_stand_6 : Type 0
queues_where_they_may_not_stand_6 = check_answer (codes "type p = process(q: queue); begin end; begin end.") ≡ (codes "refused C8 at 20")

abbrev pub queues_where_they_may_not_stand_7 : Type 0
queues_where_they_may_not_stand_7 = check_answer (codes "procedure p(q: queue); begin end; begin end.") ≡ (codes "refused C8 at 15")

abbrev pub queues_where_they_may_not_stand_8 : Type 0
queues_where_they_may_not_stand_8 = check_answer (codes "procedure p(var q: integer); var u: integer; begin end; begin end.") ≡ (codes "accepted\n")

abbrev pub queues_where_they_may_not_stand_9 : Type 0
queues_where_they_may_not_stand_9 = check_answer (codes "function f: queue; begin end; begin end.") ≡ (codes "refused C8 at 12")

abbrev pub queues_where_they_may_not_stand_10 : Type 0
queues_where_they_may_not_stand_10 = check_answer (codes "procedure p; var q: queue; begin end; begin end.") ≡ (codes "refused C8 at 20")

abbrev pub queues_where_they_may_not_stand_11 : Type 0
queues_where_they_may_not_stand_11 = check_answer (codes "type u = array [1..2] of queue; m = monitor; var q: u; r: queue; begin end; begin end.") ≡ (codes "accepted\n")

abbrev pub queues_where_they_may_not_stand_12 : Type 0
queues_where_they_may_not_stand_12 = check_answer (codes "type m = monitor; var q: queue; procedure p; begin if q = q then end; begin end; begin end.") ≡ (codes "refused C8 at 54")

abbrev pub queues_where_they_may_not_stand_13 : Type 0
queues_where_they_may_not_stand_13 = check_answer (codes "type m = monitor; var q: queue; x: integer; procedure p; begin x := q end; begin end; begin end.") ≡ (codes "refused C8 at 68")

abbrev pub queues_where_they_may_not_stand_14 : Type 0
queues_where_they_may_not_stand_14 = check_answer (codes "type m = monitor; var q: queue; procedure p; begin display(q) end; begin end; begin end.") ≡ (codes "refused C8 at 59")

abbrev pub queues_where_they_may_not_stand_15 : Type 0
queues_where_they_may_not_stand_15 = check_answer (codes "type m = monitor; var q: queue; procedure p; begin q := q end; begin end; begin end.") ≡ (codes "refused C8 at 51")

abbrev pub queues_where_they_may_not_stand_16 : Type 0
queues_where_they_may_not_stand_16 = check_answer (codes "type m = monitor; var q: queue; a: array [1..2] of queue; procedure p; begin delay(a[q]) end; begin end; begin end.") ≡ (codes "refused C8 at 85")

abbrev pub queues_where_they_may_not_stand_17 : Type 0
queues_where_they_may_not_stand_17 = check_answer (codes "type m = monitor; var a: array [1..2] of queue; procedure p; begin delay(a) end; begin end; begin end.") ≡ (codes "refused C2 at 73")

abbrev pub queues_where_they_may_not_stand_18 : Type 0
queues_where_they_may_not_stand_18 = check_answer (codes "type m = monitor; procedure p; begin delay(1) end; begin end; begin end.") ≡ (codes "refused C2 at 43")

abbrev pub queues_where_they_may_not_stand_19 : Type 0
queues_where_they_may_not_stand_19 = check_answer (codes "type m = monitor; var x: integer; procedure p; begin delay(x) end; begin end; begin end.") ≡ (codes "refused C2 at 59")

abbrev pub queues_where_they_may_not_stand_20 : Type 0
queues_where_they_may_not_stand_20 = check_answer (codes "type m = monitor; var q: queue; procedure p; begin delay(y) end; begin end; begin end.") ≡ (codes "refused C1 at 57")

abbrev pub queues_where_they_may_not_stand_21 : Type 0
queues_where_they_may_not_stand_21 = check_answer (codes "type m = monitor; var q: queue; begin init q end; begin end.") ≡ (codes "refused C8 at 43")

abbrev pub queues_where_they_may_not_stand_22 : Type 0
queues_where_they_may_not_stand_22 = check_answer (codes "type m = monitor; var q: queue; procedure p; begin q end; begin end; begin end.") ≡ (codes "refused C2 at 51")

abbrev pub the_resumed_process_goes_ahead_of_askers_1 : Type 0
the_resumed_process_goes_ahead_of_askers_1 = run_answer 5 2 1 false [] (codes "type m = monitor; var q: queue;\n  procedure entry w; begin delay(q); display(1); display(1) end;\n  procedure entry s; begin display(8); display(8); continue(q) end;\n  procedure entry t; begin display(4) end; begin end;\nps = process(a: m); var v: integer;\n  begin v := 1; v := 2; v := 3; a.s end;\npw = process(a: m); begin a.w end;\npt = process(a: m); begin a.t end;\nvar g: m; b: ps; c: pw; d: pt;\nbegin init g, b(g), c(g), d(g) end.") ≡ (codes "rounds 5\nprocess 1 initial ended\nout ''\nprocess 2 b ready\nout '88'\nvar v = 3\nprocess 3 c ready\nout '11'\nprocess 4 d asking g\nout ''\nmonitor g held 3 askers 4\nqueue q = -\n")

abbrev pub waiting_where_it_may_not_stand_1 : Type 0
waiting_where_it_may_not_stand_1 = check_answer (codes "type m = monitor; var q: queue; begin delay(q) end; begin end.") ≡ (codes "refused C9 at 38")

abbrev pub waiting_where_it_may_not_stand_2 : Type 0
waiting_where_it_may_not_stand_2 = check_answer (codes "type m = monitor; var q: queue; x: boolean; begin x := empty(q) end; begin end.") ≡ (codes "refused C9 at 55")

abbrev pub waiting_where_it_may_not_stand_3 : Type 0
waiting_where_it_may_not_stand_3 = check_answer (codes "type m = monitor; var q: queue; procedure p; begin continue(q) end; begin end; begin end.") ≡ (codes "refused C9 at 51")

abbrev pub waiting_where_it_may_not_stand_4 : Type 0
waiting_where_it_may_not_stand_4 = check_answer (codes "type m = monitor; var q: queue; procedure entry p; begin continue(q) end; procedure r; begin delay(q) end; begin end; begin end.") ≡ (codes "accepted\n")

abbrev pub waiting_where_it_may_not_stand_5 : Type 0
waiting_where_it_may_not_stand_5 = check_answer (codes "type c = class; procedure entry p; begin wait end; begin end; begin end.") ≡ (codes "refused C9 at 41")

abbrev pub waiting_where_it_may_not_stand_6 : Type 0
waiting_where_it_may_not_stand_6 = check_answer (codes "begin continue := 3 end.") ≡ (codes "refused C9 at 6")

abbrev pub waiting_where_it_may_not_stand_7 : Type 0
waiting_where_it_may_not_stand_7 = check_answer (codes "begin init empty end.") ≡ (codes "refused C9 at 11")

abbrev pub waiting_where_it_may_not_stand_8 : Type 0
waiting_where_it_may_not_stand_8 = check_answer (codes "begin accept(continue) end.") ≡ (codes "refused C9 at 13")

abbrev pub waiting_where_it_may_not_stand_9 : Type 0
waiting_where_it_may_not_stand_9 = check_answer (codes "begin display(1 + ord(empty(y))) end.") ≡ (codes "refused C9 at 22")

abbrev pub waiting_where_it_may_not_stand_10 : Type 0
waiting_where_it_may_not_stand_10 = check_answer (codes "begin wait(1) end.") ≡ (codes "refused C2 at 6")

abbrev pub waiting_where_it_may_not_stand_11 : Type 0
waiting_where_it_may_not_stand_11 = check_answer (codes "begin display(wait) end.") ≡ (codes "refused C2 at 14")

abbrev pub waiting_where_it_may_not_stand_12 : Type 0
waiting_where_it_may_not_stand_12 = check_answer (codes "begin display(realtime(1)) end.") ≡ (codes "refused C2 at 14")

abbrev pub waiting_where_it_may_not_stand_13 : Type 0
waiting_where_it_may_not_stand_13 = check_answer (codes "begin realtime end.") ≡ (codes "refused C2 at 6")

abbrev pub waiting_where_it_may_not_stand_14 : Type 0
waiting_where_it_may_not_stand_14 = check_answer (codes "type m = monitor; var q: queue; procedure entry p; begin continue(q, q) end; begin end; begin end.") ≡ (codes "refused C2 at 57")

abbrev pub waiting_where_it_may_not_stand_15 : Type 0
waiting_where_it_may_not_stand_15 = check_answer (codes "type p = process; begin wait end; procedure q; begin wait end; begin wait; q end.") ≡ (codes "accepted\n")

abbrev pub Monitors : Type 0
Monitors = a_chain_of_askers_1 × a_chain_of_askers_2 × a_continue_resumes_a_delayed_process_1 × a_continue_resumes_a_delayed_process_2 × a_continue_resumes_a_delayed_process_3 × a_monitor_before_its_init_1 × a_monitor_is_entered_1 × a_nested_delay_keeps_outer_gates_1 × a_nested_delay_keeps_outer_gates_2 × a_queue_holds_one_process_1 × a_queue_holds_one_process_2 × a_queue_holds_one_process_3 × a_queue_holds_one_process_4 × a_queue_holds_one_process_5 × a_queue_holds_one_process_6 × a_var_parameter_of_a_delayed_caller_1 × a_var_parameter_of_a_delayed_caller_2 × a_var_parameter_of_a_delayed_caller_3 × a_var_parameter_of_a_delayed_caller_4 × askers_are_served_first_come_1 × askers_are_served_first_come_2 × askers_are_served_first_come_3 × continue_in_a_function_1 × continue_in_a_function_2 × continue_in_a_function_without_a_result_1 × queues_where_they_may_not_stand_1 × queues_where_they_may_not_stand_2 × queues_where_they_may_not_stand_3 × queues_where_they_may_not_stand_4 × queues_where_they_may_not_stand_5 × queues_where_they_may_not_stand_6 × queues_where_they_may_not_stand_7 × queues_where_they_may_not_stand_8 × queues_where_they_may_not_stand_9 × queues_where_they_may_not_stand_10 × queues_where_they_may_not_stand_11 × queues_where_they_may_not_stand_12 × queues_where_they_may_not_stand_13 × queues_where_they_may_not_stand_14 × queues_where_they_may_not_stand_15 × queues_where_they_may_not_stand_16 × queues_where_they_may_not_stand_17 × queues_where_they_may_not_stand_18 × queues_where_they_may_not_stand_19 × queues_where_they_may_not_stand_20 × queues_where_they_may_not_stand_21 × queues_where_they_may_not_stand_22 × the_resumed_process_goes_ahead_of_askers_1 × waiting_where_it_may_not_stand_1 × waiting_where_it_may_not_stand_2 × waiting_where_it_may_not_stand_3 × waiting_where_it_may_not_stand_4 × waiting_where_it_may_not_stand_5 × waiting_where_it_may_not_stand_6 × waiting_where_it_may_not_stand_7 × waiting_where_it_may_not_stand_8 × waiting_where_it_may_not_stand_9 × waiting_where_it_may_not_stand_10 × waiting_where_it_may_not_stand_11 × waiting_where_it_may_not_stand_12 × waiting_where_it_may_not_stand_13 × waiting_where_it_may_not_stand_14 × waiting_where_it_may_not_stand_15
