-- Worked texts and their answers: orders. Written by worked/make_rows.py.
use Rattle.std.specs.Prelude.{◌≡◌, false, [], codes}
use Rattle.cp_model.specs.Report.{Text}
use Rattle.cp_test_definitions.specs.Answers.{replay_answer}

abbrev pub a_lawful_order_1 : Type 0
a_lawful_order_1 = replay_answer 3 1 false [] (codes "P2 P1 P1 P2 P1 P2 K1 K2\nP2 P1 P1 P2 P1 P2 K1 K2\n") (codes "type m = monitor; var x: integer;\n  procedure entry e; begin x := 9 end; begin end;\np = process(a: m); var v: integer;\n  begin v := 1; v := 2; v := 3; a.e end;\nvar g: m; b: p;\nbegin init g, b(g) end.") ≡ (codes "rounds 2\nprocess 1 initial ended\nout ''\nprocess 2 b ready\nout ''\nvar v = 3\nmonitor g free askers -\nvar x = 9\n")

abbrev pub a_single_private_step_1 : Type 0
a_single_private_step_1 = replay_answer 3 1 false [] (codes "K1\nP2\n") (codes "type m = monitor; var x: integer;\n  procedure entry e; begin x := 9 end; begin end;\np = process(a: m); var v: integer;\n  begin v := 1; v := 2; v := 3; a.e end;\nvar g: m; b: p;\nbegin init g, b(g) end.") ≡ (codes "rounds 2\nprocess 1 initial ready\nout ''\nprocess 2 b ready\nout ''\nvar v = 1\nmonitor g free askers -\nvar x = 0\n")

abbrev pub an_unlawful_order_1_text : Text
an_unlawful_order_1_text = (codes "type m = monitor; var x: integer;\n  procedure entry e; begin x := 9 end; begin end;\np = process(a: m); var v: integer;\n  begin v := 1; v := 2; v := 3; a.e end;\nvar g: m; b: p;\nbegin init g, b(g) end.")

abbrev pub an_unlawful_order_1 : Type 0
an_unlawful_order_1 = replay_answer 3 1 false [] (codes "K1\nK2 P1 P2 P2 P2\n") an_unlawful_order_1_text ≡ (codes "rounds 2\nprocess 1 initial ended\nout ''\nprocess 2 b ready\nout ''\nvar v = 3\nmonitor g free askers -\nvar x = 0\n")

abbrev pub an_unlawful_order_2 : Type 0
an_unlawful_order_2 = replay_answer 3 1 false [] (codes "P3") an_unlawful_order_1_text ≡ (codes "refused O1 at 0")

abbrev pub an_unlawful_order_3 : Type 0
an_unlawful_order_3 = replay_answer 3 1 false [] (codes "K1\nK1  K2") an_unlawful_order_1_text ≡ (codes "refused O1 at 3")

abbrev pub an_unlawful_order_4 : Type 0
an_unlawful_order_4 = replay_answer 3 1 false [] [] an_unlawful_order_1_text ≡ (codes "rounds 0\nprocess 1 initial ready\nout ''\nprocess 2 b unstarted\nout ''\nvar v = 0\nmonitor g unset askers -\nvar x = 0\n")

abbrev pub events_in_any_order_1_text : Text
events_in_any_order_1_text = (codes "type p = process; begin display(7) end;\nvar a: p;\nbegin init a end.")

abbrev pub events_in_any_order_1 : Type 0
events_in_any_order_1 = replay_answer 10 1 false [] (codes "K1\nP2 P1 P1\n") events_in_any_order_1_text ≡ (codes "rounds 2\nprocess 1 initial ended\nout ''\nprocess 2 a ready\nout '7'\n")

abbrev pub events_in_any_order_2 : Type 0
events_in_any_order_2 = replay_answer 10 1 false [] (codes "K1\nP2 P1 P1") events_in_any_order_1_text ≡ (codes "rounds 2\nprocess 1 initial ended\nout ''\nprocess 2 a ready\nout '7'\n")

abbrev pub Orders : Type 0
Orders = a_lawful_order_1 × a_single_private_step_1 × an_unlawful_order_1 × an_unlawful_order_2 × an_unlawful_order_3 × an_unlawful_order_4 × events_in_any_order_1 × events_in_any_order_2
