-- Worked texts and their answers: clock. Written by worked/make_rows.py.
use Rattle.std.specs.Prelude.{◌≡◌, false, [], codes}
use Rattle.cp_model.specs.Report.{Text}
use Rattle.cp_test_definitions.specs.Answers.{run_answer, replay_answer}

abbrev pub waiting_for_a_tick_1_text : Text
waiting_for_a_tick_1_text = (codes "begin display(realtime); wait; display(realtime) end.")

abbrev pub waiting_for_a_tick_1 : Type 0
waiting_for_a_tick_1 = run_answer 2 10 3 false [] waiting_for_a_tick_1_text ≡ (codes "rounds 2\nprocess 1 initial waiting\nout '0'\n")

abbrev pub waiting_for_a_tick_2 : Type 0
waiting_for_a_tick_2 = run_answer 3 10 3 false [] waiting_for_a_tick_1_text ≡ (codes "rounds 3\nprocess 1 initial ended\nout '01'\n")

abbrev pub waiting_for_a_tick_3 : Type 0
waiting_for_a_tick_3 = run_answer 2 10 1 false [] waiting_for_a_tick_1_text ≡ (codes "rounds 2\nprocess 1 initial ended\nout '12'\n")

abbrev pub waiting_for_a_tick_4 : Type 0
waiting_for_a_tick_4 = run_answer 2 10 1 false [] waiting_for_a_tick_1_text ≡ (codes "rounds 2\nprocess 1 initial ended\nout '12'\n")

abbrev pub waiting_in_a_replay_1 : Type 0
waiting_in_a_replay_1 = replay_answer 10 1 false [] (codes "P1 P1 P1\nP1\n") (codes "begin wait; display(realtime) end.") ≡ (codes "rounds 2\nprocess 1 initial ready\nout '2'\n")

abbrev pub waiting_twice_1_text : Text
waiting_twice_1_text = (codes "begin wait; wait; display(realtime) end.")

abbrev pub waiting_twice_1 : Type 0
waiting_twice_1 = run_answer 5 10 3 false [] waiting_twice_1_text ≡ (codes "rounds 5\nprocess 1 initial waiting\nout ''\n")

abbrev pub waiting_twice_2 : Type 0
waiting_twice_2 = run_answer 6 10 3 false [] waiting_twice_1_text ≡ (codes "rounds 6\nprocess 1 initial ended\nout '2'\n")

abbrev pub Clock : Type 0
Clock = waiting_for_a_tick_1 × waiting_for_a_tick_2 × waiting_for_a_tick_3 × waiting_for_a_tick_4 × waiting_in_a_replay_1 × waiting_twice_1 × waiting_twice_2
