-- Worked texts and their answers: examples. Written by worked/make_rows.py.
use Rattle.std.specs.Prelude.{◌≡◌, false, [], codes}
use Rattle.cp_model.specs.Report.{Text}
use Rattle.cp_test_definitions.specs.Answers.{check_answer, run_answer, replay_answer}

abbrev pub buffer_1_text : Text
buffer_1_text = (codes "\"A bounded buffer: three slots, used in a ring, between two producers and a consumer.\n\n   cpm run buffer.cp --rounds 6\n\n A producer that finds the buffer full delays itself, and so does the consumer that\n finds it empty. A queue holds one process at most, so each producer has its own.\n `continue` ends the routine that calls it and hands the monitor to the process that\n it wakes. That one finds what it waited for, whoever else asks for the monitor.\n\n In the report q is delayed in senders[2], for the `d` of p filled the third slot before\n it came (`length = 3`). r has the monitor (`held 3`) and takes the next character in\n round 7. With 11 rounds the producers have ended, and r waits for ever for one more.\"\ntype buffer = monitor;\n  var slots: array [0..2] of char; head, length: integer;\n    senders: array [1..2] of queue; receiver: queue;\n\n  procedure entry put(c: char; me: integer);\n  begin\n    if length = 3 then delay(senders[me]);\n    slots[(head + length) mod 3] := c;\n    length := length + 1;\n    continue(receiver)\n  end;\n\n  procedure entry get(var c: char);\n  begin\n    if length = 0 then delay(receiver);\n    c := slots[head];\n    head := (head + 1) mod 3;\n    length := length - 1;\n    if empty(senders[1]) then continue(senders[2]) else continue(senders[1])\n  end;\n\n  begin head := 0; length := 0 end;\n\nproducer = process(b: buffer; me: integer; first, last: char);\n  var c: char;\n  begin\n    for c := first to last do b.put(c, me)\n  end;\n\nconsumer = process(b: buffer);\n  var c: char;\n  begin\n    cycle b.get(c); display(c) end\n  end;\n\nvar b: buffer; p: producer; r: consumer; q: producer;\n\nbegin\n  init b, p(b, 1, 'a', 'd'), r(b), q(b, 2, 'p', 's')\nend.\n")

abbrev pub buffer_1 : Type 0
buffer_1 = check_answer buffer_1_text ≡ (codes "accepted\n")

abbrev pub buffer_2 : Type 0
buffer_2 = run_answer 6 100 1 false [] buffer_1_text ≡ (codes "rounds 6\nprocess 1 initial ended\nout ''\nprocess 2 p ready\nout ''\nvar me = 1\nvar first = 97\nvar last = 100\nvar c = 100\nprocess 3 r ready\nout 'apbq'\nvar c = 113\nprocess 4 q delayed b senders[2]\nout ''\nvar me = 2\nvar first = 112\nvar last = 115\nvar c = 115\nmonitor b held 3 askers -\nvar slots[0] = 100\nvar slots[1] = 99\nvar slots[2] = 114\nvar head = 1\nvar length = 3\nqueue senders[1] = -\nqueue senders[2] = 4\nqueue receiver = -\n")

abbrev pub buffer_3 : Type 0
buffer_3 = run_answer 11 100 1 false [] buffer_1_text ≡ (codes "rounds 11\nprocess 1 initial ended\nout ''\nprocess 2 p ended\nout ''\nvar me = 1\nvar first = 97\nvar last = 100\nvar c = 100\nprocess 3 r delayed b receiver\nout 'apbqcrds'\nvar c = 115\nprocess 4 q ended\nout ''\nvar me = 2\nvar first = 112\nvar last = 115\nvar c = 115\nmonitor b free askers -\nvar slots[0] = 100\nvar slots[1] = 115\nvar slots[2] = 114\nvar head = 2\nvar length = 0\nqueue senders[1] = -\nqueue senders[2] = -\nqueue receiver = 3\n")

abbrev pub division_1 : Type 0
division_1 = run_answer 1 100 1 false [] (codes "\"Quotients are cut towards zero, and a remainder has the sign of the dividend.\n\n   cpm run division.cp --rounds 1\n\n Every variable starts at 0. To divide by 0 is fault 4: the process keeps its\n variables as they are, and makes no more steps.\"\n\nvar quotient, remainder, divisor: integer;\n\nbegin\n  quotient := (-7) div 2;    \"-3, and not -4\"\n  remainder := (-7) mod 2;   \"-1, and not 1\"\n  display(quotient);\n  display(remainder);\n  display(7 div divisor)\nend.\n") ≡ (codes "rounds 1\nprocess 1 initial fault 4\nout '-3-1'\nvar quotient = -3\nvar remainder = -1\nvar divisor = 0\n")

abbrev pub fibonacci_1 : Type 0
fibonacci_1 = run_answer 2 100 1 false [] (codes "\"The Fibonacci numbers up to the last that an integer holds.\n\n   cpm run fibonacci.cp --rounds 2\n\n The 23rd is 28657. The next would be 46368, which is above 32767: fault 3.\n A turn has 100 steps if no other number is told, so the last numbers come in round 2.\"\n\nvar last, this, next: integer;\n\nbegin\n  this := 1;\n  cycle\n    display(this);\n    next := last + this;\n    last := this;\n    this := next\n  end\nend.\n") ≡ (codes "rounds 2\nprocess 1 initial fault 3\nout '11235813213455891442333776109871597258441816765109461771128657'\nvar last = 17711\nvar this = 28657\nvar next = 28657\n")

abbrev pub nested_1 : Type 0
nested_1 = check_answer (codes "\"Two monitors that call each other: the rules refuse them, for calls could go in a circle.\n\n   cpm check nested.cp\n\n A process that pays from `a` to `b` would hold the gate of a and ask for that of b, and\n another one that pays from `b` to `a` would hold that of b and ask for that of a. A\n process that calls from one monitor into another keeps the gate of the first, so neither\n could go on.\n\n The type of a monitor names the types of those that it may call, and a name is visible\n behind its definition only: `savings` isn't yet where `account` wants it (C1). If both\n were of one type, it would be named inside its own definition (C4). A monitor can't be\n given to another later either: a routine's parameter is no component (C7). So calls of\n monitors go back in the text, and never in a circle. (To wait for ever there are still\n other ways: nobody wakes a process that is delayed, or a fault stops one in a monitor.)\n\n nested.mended.cp pays both ways without a call from one monitor into another.\"\ntype account = monitor(other: savings);\n  var money: integer;\n\n  procedure entry receive(n: integer);\n  begin money := money + n end;\n\n  procedure entry pay(n: integer);\n  begin money := money - n; other.receive(n) end;\n\n  begin money := 10 end;\n\nsavings = monitor(other: account);\n  var money: integer;\n\n  procedure entry receive(n: integer);\n  begin money := money + n end;\n\n  procedure entry pay(n: integer);\n  begin money := money - n; other.receive(n) end;\n\n  begin money := 10 end;\n\npayer = process(from: account);\n  begin from.pay(1) end;\n\nsaver = process(from: savings);\n  begin from.pay(1) end;\n\nvar a: account; b: savings; p: payer; q: saver;\nbegin\n  init a(b), b(a), p(a), q(b)\nend.\n") ≡ (codes "refused C1 at 1035")

abbrev pub nested_mended_1_text : Text
nested_mended_1_text = (codes "\"The same as nested.cp without a call from one monitor into another.\n\n   cpm run nested.mended.cp --rounds 3\n\n A process pays: it calls one account, and then the other. It holds one gate at a time,\n and asks for none while it holds one. So money goes both ways, and nobody waits for ever.\n\n In the report a has 8 and b has 12: together as much as before, for both processes have\n ended. What one has paid and the other hasn't received yet is in neither account.\"\ntype account = monitor;\n  var money: integer;\n\n  procedure entry receive(n: integer);\n  begin money := money + n end;\n\n  procedure entry pay(n: integer);\n  begin money := money - n end;\n\n  begin money := 10 end;\n\npayer = process(from, into: account; n: integer);\n  begin from.pay(n); into.receive(n) end;\n\nvar a, b: account; p, q: payer;\nbegin\n  init a, b, p(a, b, 3), q(b, a, 1)\nend.\n")

abbrev pub nested_mended_1 : Type 0
nested_mended_1 = check_answer nested_mended_1_text ≡ (codes "accepted\n")

abbrev pub nested_mended_2 : Type 0
nested_mended_2 = run_answer 3 100 1 false [] nested_mended_1_text ≡ (codes "rounds 3\nprocess 1 initial ended\nout ''\nprocess 2 p ended\nout ''\nvar n = 3\nprocess 3 q ended\nout ''\nvar n = 1\nmonitor a free askers -\nvar money = 8\nmonitor b free askers -\nvar money = 12\n")

abbrev pub philosophers_1_text : Text
philosophers_1_text = (codes "\"Four philosophers at a round table, and one fork between each two of them. Who wants to\n eat needs the forks on both sides, k and k + 1 for philosopher k (0 comes after 3).\n\n   cpm run philosophers.cp --rounds 3\n\n If each took its left fork and then waited for the right one, all four could wait for\n ever. Here all forks lie in one monitor, and one takes both forks or none. A `continue`\n ends the routine that calls it, so a routine can wake one neighbour: that is why the\n forks are put down one by one.\n\n In the report a and c have displayed their first meal. a has put down both its forks. c\n has put down its left one and woken b, which has the monitor (`held 3`). So c asks for it\n to put down the other fork, for which d waits. With 11 rounds all have eaten twice.\"\ntype seat = 0..3;\ntable = monitor;\n  var taken: array [seat] of boolean; hungry: array [seat] of queue;\n\n  function may_eat(k: seat): boolean;\n  begin may_eat := not (taken[k] or taken[(k + 1) mod 4]) end;\n\n  procedure entry take(k: seat);\n  begin\n    if not may_eat(k) then delay(hungry[k]);\n    taken[k] := true;\n    taken[(k + 1) mod 4] := true\n  end;\n\n  procedure entry put_left(k: seat);\n  begin\n    taken[k] := false;\n    if may_eat((k + 3) mod 4) then continue(hungry[(k + 3) mod 4])\n  end;\n\n  procedure entry put_right(k: seat);\n  begin\n    taken[(k + 1) mod 4] := false;\n    if may_eat((k + 1) mod 4) then continue(hungry[(k + 1) mod 4])\n  end;\n\n  begin end;\n\nphilosopher = process(t: table; k: seat);\n  var meal: integer;\n  begin\n    for meal := 1 to 2 do\n    begin\n      t.take(k);\n      display(meal);\n      t.put_left(k);\n      t.put_right(k)\n    end\n  end;\n\nvar t: table; a, b, c, d: philosopher;\nbegin init t, a(t, 0), b(t, 1), c(t, 2), d(t, 3) end.\n")

abbrev pub philosophers_1 : Type 0
philosophers_1 = check_answer philosophers_1_text ≡ (codes "accepted\n")

abbrev pub philosophers_2 : Type 0
philosophers_2 = run_answer 3 100 1 false [] philosophers_1_text ≡ (codes "rounds 3\nprocess 1 initial ended\nout ''\nprocess 2 a ready\nout '1'\nvar k = 0\nvar meal = 1\nprocess 3 b ready\nout ''\nvar k = 1\nvar meal = 1\nprocess 4 c asking t\nout '1'\nvar k = 2\nvar meal = 1\nprocess 5 d delayed t hungry[3]\nout ''\nvar k = 3\nvar meal = 1\nmonitor t held 3 askers 4\nvar taken[0] = 0\nvar taken[1] = 0\nvar taken[2] = 0\nvar taken[3] = 1\nqueue hungry[0] = -\nqueue hungry[1] = -\nqueue hungry[2] = -\nqueue hungry[3] = 5\n")

abbrev pub philosophers_3 : Type 0
philosophers_3 = run_answer 11 100 1 false [] philosophers_1_text ≡ (codes "rounds 11\nprocess 1 initial ended\nout ''\nprocess 2 a ended\nout '12'\nvar k = 0\nvar meal = 2\nprocess 3 b ended\nout '12'\nvar k = 1\nvar meal = 2\nprocess 4 c ended\nout '12'\nvar k = 2\nvar meal = 2\nprocess 5 d ended\nout '12'\nvar k = 3\nvar meal = 2\nmonitor t free askers -\nvar taken[0] = 0\nvar taken[1] = 0\nvar taken[2] = 0\nvar taken[3] = 0\nqueue hungry[0] = -\nqueue hungry[1] = -\nqueue hungry[2] = -\nqueue hungry[3] = -\n")

abbrev pub readers_1_text : Text
readers_1_text = (codes "\"Readers and a writer: readers may read at the same time, a writer works alone.\n\n   cpm run readers.cp --rounds 7\n\n A page has two parts, and each call of it is for one part. `access` keeps the two calls\n of a writing together: no reader sees a page that is half written. A reader that finds\n the writer waiting waits too, so the writer gets its turn. A reader that is woken wakes\n the other one.\n\n In the report r and s both read (`reading = 2`), and w waits in next_writer to write a 2.\n With 4 rounds w is in the middle of writing a 1 (part[1] and part[2] differ), and s\n waits. With 13 rounds all have ended: r displayed 00 and 11, and s 11 and 22.\"\ntype access = monitor;\n  var reading: integer; writing: boolean;\n    next_reader: array [1..2] of queue; next_writer: queue;\n\n  procedure entry start_reading(me: integer);\n  begin\n    if writing or not empty(next_writer) then delay(next_reader[me]);\n    reading := reading + 1;\n    continue(next_reader[3 - me])\n  end;\n  procedure entry stop_reading;\n  begin\n    reading := reading - 1;\n    if reading = 0 then continue(next_writer)\n  end;\n  procedure entry start_writing;\n  begin\n    if reading > 0 then delay(next_writer);\n    writing := true\n  end;\n  procedure entry stop_writing;\n  begin\n    writing := false;\n    if empty(next_reader[1]) then continue(next_reader[2]) else continue(next_reader[1])\n  end;\n  begin end;\n\npage = monitor;\n  var part: array [1..2] of integer;\n  procedure entry put(k, n: integer); begin part[k] := n end;\n  function entry get(k: integer): integer; begin get := part[k] end;\n  begin end;\n\nreader = process(a: access; p: page; me: integer);\n  var time: integer;\n  begin\n    for time := 1 to 2 do\n    begin a.start_reading(me); display(p.get(1)); display(p.get(2)); a.stop_reading end\n  end;\nwriter = process(a: access; p: page);\n  var n: integer;\n  begin\n    for n := 1 to 2 do\n    begin a.start_writing; p.put(1, n); display(n); p.put(2, n); a.stop_writing end\n  end;\n\nvar a: access; p: page; r: reader; w: writer; s: reader;\nbegin init a, p, r(a, p, 1), w(a, p), s(a, p, 2) end.\n")

abbrev pub readers_1 : Type 0
readers_1 = check_answer readers_1_text ≡ (codes "accepted\n")

abbrev pub readers_2 : Type 0
readers_2 = run_answer 4 100 1 false [] readers_1_text ≡ (codes "rounds 4\nprocess 1 initial ended\nout ''\nprocess 2 r ready\nout '00'\nvar me = 1\nvar time = 1\nprocess 3 w ready\nout ''\nvar n = 1\nprocess 4 s delayed a next_reader[2]\nout ''\nvar me = 2\nvar time = 1\nmonitor a free askers -\nvar reading = 0\nvar writing = 1\nqueue next_reader[1] = -\nqueue next_reader[2] = 4\nqueue next_writer = -\nmonitor p free askers -\nvar part[1] = 1\nvar part[2] = 0\n")

abbrev pub readers_3 : Type 0
readers_3 = run_answer 7 100 1 false [] readers_1_text ≡ (codes "rounds 7\nprocess 1 initial ended\nout ''\nprocess 2 r ready\nout '001'\nvar me = 1\nvar time = 2\nprocess 3 w delayed a next_writer\nout '1'\nvar n = 2\nprocess 4 s ready\nout '1'\nvar me = 2\nvar time = 1\nmonitor a free askers -\nvar reading = 2\nvar writing = 0\nqueue next_reader[1] = -\nqueue next_reader[2] = -\nqueue next_writer = 3\nmonitor p free askers -\nvar part[1] = 1\nvar part[2] = 1\n")

abbrev pub readers_4 : Type 0
readers_4 = run_answer 13 100 1 false [] readers_1_text ≡ (codes "rounds 13\nprocess 1 initial ended\nout ''\nprocess 2 r ended\nout '0011'\nvar me = 1\nvar time = 2\nprocess 3 w ended\nout '12'\nvar n = 2\nprocess 4 s ended\nout '1122'\nvar me = 2\nvar time = 2\nmonitor a free askers -\nvar reading = 0\nvar writing = 0\nqueue next_reader[1] = -\nqueue next_reader[2] = -\nqueue next_writer = -\nmonitor p free askers -\nvar part[1] = 2\nvar part[2] = 2\n")

abbrev pub scheduler_1_text : Text
scheduler_1_text = (codes "\"A scheduler of one resource, here a printer, that two users want at the same time.\n\n   cpm run scheduler.cp --rounds 5\n\n What a user does with the printer it does outside of the monitor, between `request` and\n `release`, in as many rounds as it likes. A `release` hands the printer straight to a\n user that waits: `free` stays false then, so nobody else can take it in between.\n\n In the report a has the printer for the second time, and b, which wants it again too,\n waits (`queue waiting = 3`). With 8 rounds both have ended, and the printer is free.\"\ntype scheduler = monitor;\n  var free: boolean; waiting: queue;\n\n  procedure entry request;\n  begin\n    if free then free := false else delay(waiting)\n  end;\n\n  procedure entry release;\n  begin\n    if empty(waiting) then free := true else continue(waiting)\n  end;\n\n  begin free := true end;\n\nuser = process(printer: scheduler);\n  var time: integer;\n  begin\n    for time := 1 to 2 do\n    begin\n      printer.request;\n      display(time);    \"the user has the printer here, and no gate\"\n      printer.release\n    end\n  end;\n\nvar printer: scheduler; a, b: user;\n\nbegin\n  init printer, a(printer), b(printer)\nend.\n")

abbrev pub scheduler_1 : Type 0
scheduler_1 = check_answer scheduler_1_text ≡ (codes "accepted\n")

abbrev pub scheduler_2 : Type 0
scheduler_2 = run_answer 5 100 1 false [] scheduler_1_text ≡ (codes "rounds 5\nprocess 1 initial ended\nout ''\nprocess 2 a ready\nout '1'\nvar time = 2\nprocess 3 b delayed printer waiting\nout '1'\nvar time = 2\nmonitor printer free askers -\nvar free = 0\nqueue waiting = 3\n")

abbrev pub scheduler_3 : Type 0
scheduler_3 = run_answer 8 100 1 false [] scheduler_1_text ≡ (codes "rounds 8\nprocess 1 initial ended\nout ''\nprocess 2 a ended\nout '12'\nvar time = 2\nprocess 3 b ended\nout '12'\nvar time = 2\nmonitor printer free askers -\nvar free = 1\nqueue waiting = -\n")

abbrev pub seven_1 : Type 0
seven_1 = run_answer 2 100 1 false [] (codes "\"A process is started in one round and has its first turn in the next.\n\n   cpm run seven.cp --rounds 2\n\n In round 1 the initial process asks for the start of a, which the kernel grants\n at the end of its turn. In round 2 a displays 7, and both processes end.\"\n\ntype seven = process;\n  begin display(7) end;\n\nvar a: seven;\n\nbegin init a end.\n") ≡ (codes "rounds 2\nprocess 1 initial ended\nout ''\nprocess 2 a ended\nout '7'\n")

abbrev pub sieve_1_text : Text
sieve_1_text = (codes "\"Sieves in a row that find primes, each a process, joined by buffers of one number.\n\n   cpm run sieve.cp --rounds 12\n\n A sieve keeps the first number that it gets, which is a prime, and hands on to the right\n those that its prime doesn't divide. Up to 24 all that comes through the sieves of 2 and 3\n is prime: the least number that comes through and isn't is 5 times 5.\n\n In the report `two` and `three` have displayed their primes, and `rest` what came through\n both. All three wait for ever for a next number, for s has ended after the 7. With 8\n rounds s has been woken, and its 7 isn't in a yet: `held 2` says that s has the monitor.\"\ntype buffer = monitor;\n  var slot: integer; full: boolean; sender, receiver: queue;\n\n  procedure entry put(n: integer);\n  begin\n    if full then delay(sender);\n    slot := n; full := true;\n    continue(receiver)\n  end;\n\n  procedure entry get(var n: integer);\n  begin\n    if not full then delay(receiver);\n    n := slot; full := false;\n    continue(sender)\n  end;\n\n  begin full := false end;\n\nsource = process(right: buffer);\n  var n: integer;\n  begin\n    for n := 2 to 7 do right.put(n)\n  end;\n\nsieve = process(left, right: buffer);\n  var prime, n: integer;\n  begin\n    left.get(prime);\n    display(prime);\n    cycle\n      left.get(n);\n      if n mod prime <> 0 then right.put(n)\n    end\n  end;\n\nsink = process(left: buffer);\n  var n: integer;\n  begin\n    cycle left.get(n); display(n) end\n  end;\n\nvar a, b, c: buffer; s: source; two, three: sieve; rest: sink;\nbegin\n  init a, b, c, s(a), two(a, b), three(b, c), rest(c)\nend.\n")

abbrev pub sieve_1 : Type 0
sieve_1 = check_answer sieve_1_text ≡ (codes "accepted\n")

abbrev pub sieve_2 : Type 0
sieve_2 = run_answer 8 100 1 false [] sieve_1_text ≡ (codes "rounds 8\nprocess 1 initial ended\nout ''\nprocess 2 s ready\nout ''\nvar n = 7\nprocess 3 two ready\nout '2'\nvar prime = 2\nvar n = 6\nprocess 4 three ready\nout '3'\nvar prime = 3\nvar n = 5\nprocess 5 rest ready\nout ''\nvar n = 5\nmonitor a held 2 askers -\nvar slot = 6\nvar full = 0\nqueue sender = -\nqueue receiver = -\nmonitor b free askers -\nvar slot = 5\nvar full = 0\nqueue sender = -\nqueue receiver = -\nmonitor c free askers -\nvar slot = 5\nvar full = 0\nqueue sender = -\nqueue receiver = -\n")

abbrev pub sieve_3 : Type 0
sieve_3 = run_answer 12 100 1 false [] sieve_1_text ≡ (codes "rounds 12\nprocess 1 initial ended\nout ''\nprocess 2 s ended\nout ''\nvar n = 7\nprocess 3 two delayed a receiver\nout '2'\nvar prime = 2\nvar n = 7\nprocess 4 three delayed b receiver\nout '3'\nvar prime = 3\nvar n = 7\nprocess 5 rest delayed c receiver\nout '57'\nvar n = 7\nmonitor a free askers -\nvar slot = 7\nvar full = 0\nqueue sender = -\nqueue receiver = 3\nmonitor b free askers -\nvar slot = 7\nvar full = 0\nqueue sender = -\nqueue receiver = 4\nmonitor c free askers -\nvar slot = 7\nvar full = 0\nqueue sender = -\nqueue receiver = 5\n")

abbrev pub squarers_1 : Type 0
squarers_1 = run_answer 5 4 1 false [] (codes "\"Two processes of one type square a number of their own.\n\n   cpm run squarers.cp --rounds 5 --turn 4\n\n 256 times 256 is more than an integer holds: that is fault 3.\"\n\ntype squarer = process;\n  var x: integer;\n  begin x := 2; cycle display(x); x := x * x end end;\nvar a, b: squarer;\nbegin init a, b end.\n") ≡ (codes "rounds 5\nprocess 1 initial ended\nout ''\nprocess 2 a fault 3\nout '2416256'\nvar x = 256\nprocess 3 b fault 3\nout '2416256'\nvar x = 256\n")

abbrev pub squares_1 : Type 0
squares_1 = run_answer 5 4 1 false [] (codes "\"Two processes of one type, each with a variable of its own, which no other can see.\n\n   cpm run squares.cp --rounds 5 --turn 4\n\n A turn has at most four steps: each statement is a step, and so is each time that a\n cycle begins anew. The square of 256 is above 32767: that is fault 3, and it ends\n the process alone. To start a second time a process that was started is fault 7.\"\n\ntype squarer = process;\n  var x: integer;\n  begin\n    x := 2;\n    cycle display(x); x := x * x end\n  end;\n\nvar a, b: squarer;\n\nbegin\n  init a, b;\n  init a\nend.\n") ≡ (codes "rounds 5\nprocess 1 initial fault 7\nout ''\nprocess 2 a fault 3\nout '2416256'\nvar x = 256\nprocess 3 b fault 3\nout '2416256'\nvar x = 256\n")

abbrev pub writers_1_text : Text
writers_1_text = (codes "\"Two writers and a cell: what the order of a round decides, and what it doesn't.\n\n   cpm replay writers.cp writers.sequential.order --turn 4\n   cpm replay writers.cp writers.mixed.order --turn 4\n   cpm replay writers.cp writers.unlawful.order --turn 4\n\n In the first order each process has its four private steps and then its kernel turn\n before the next one begins, as on one processor. The second mixes the private steps of\n all processes, as several threads do. Both are lawful, and the report is the same one:\n b writes last, so `last` is 2. In the third order the kernel turn of process 3, which\n is b, comes before that of process 2, which no run does: a writes last, and `last` is 1.\"\ntype cell = monitor;\n  var last: integer;\n\n  procedure entry put(n: integer);\n  begin last := n end;\n\n  begin end;\n\nwriter = process(c: cell; n: integer);\n  var value: integer;\n  begin value := n; c.put(value) end;\n\nvar c: cell; a, b: writer;\nbegin init c, a(c, 1), b(c, 2) end.\n")

abbrev pub writers_1 : Type 0
writers_1 = replay_answer 4 1 false [] (codes "P1 P1 P1 P1 K1 P2 P2 P2 P2 K2 P3 P3 P3 P3 K3\nP1 P1 P1 P1 K1 P2 P2 P2 P2 K2 P3 P3 P3 P3 K3\n") writers_1_text ≡ (codes "rounds 2\nprocess 1 initial ended\nout ''\nprocess 2 a ready\nout ''\nvar n = 1\nvar value = 1\nprocess 3 b ready\nout ''\nvar n = 2\nvar value = 2\nmonitor c free askers -\nvar last = 2\n")

abbrev pub writers_2 : Type 0
writers_2 = replay_answer 4 1 false [] (codes "P3 P2 P1 P3 P2 P1 P3 P2 P1 P3 P2 P1 K1 K2 K3\nP2 P3 P3 P1 P1 P1 P2 P1 K1 P3 P2 P2 K2 P3 K3\n") writers_1_text ≡ (codes "rounds 2\nprocess 1 initial ended\nout ''\nprocess 2 a ready\nout ''\nvar n = 1\nvar value = 1\nprocess 3 b ready\nout ''\nvar n = 2\nvar value = 2\nmonitor c free askers -\nvar last = 2\n")

abbrev pub writers_3 : Type 0
writers_3 = replay_answer 4 1 false [] (codes "P1 P1 P1 P1 K1 P2 P2 P2 P2 K2 P3 P3 P3 P3 K3\nP1 P1 P1 P1 K1 P3 P3 P3 P3 K3 P2 P2 P2 P2 K2\n") writers_1_text ≡ (codes "rounds 2\nprocess 1 initial ended\nout ''\nprocess 2 a ready\nout ''\nvar n = 1\nvar value = 1\nprocess 3 b ready\nout ''\nvar n = 2\nvar value = 2\nmonitor c free askers -\nvar last = 1\n")

abbrev pub Examples : Type 0
Examples = buffer_1 × buffer_2 × buffer_3 × division_1 × fibonacci_1 × nested_1 × nested_mended_1 × nested_mended_2 × philosophers_1 × philosophers_2 × philosophers_3 × readers_1 × readers_2 × readers_3 × readers_4 × scheduler_1 × scheduler_2 × scheduler_3 × seven_1 × sieve_1 × sieve_2 × sieve_3 × squarers_1 × squares_1 × writers_1 × writers_2 × writers_3
