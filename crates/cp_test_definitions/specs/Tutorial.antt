-- Worked texts and their answers: tutorial. Written by worked/make_rows.py.
use Rattle.std.specs.Prelude.{◌≡◌, true, false, [], ◌∷◌, ◌++◌, codes}
use Rattle.cp_model.specs.Report.{Text}
use Rattle.cp_test_definitions.specs.Answers.{check_answer, run_answer}

abbrev pub a_small_operating_system_1_text : Text
a_small_operating_system_1_text = (codes "\"A small operating system: cards are read, jobs run, and lines are printed, all at the same time.\n\n A card has 4 characters, and a job is all cards up to one that begins with `$`. A page of\n 2 cards is what travels from the card reader to the job, and from the job to the printer.\"\n\nconst card_length = 4; page_length = 2; em = '(:25:)'; newline = '(:10:)';\n\ntype card = array [1..card_length] of char;\n\npage = record cards: array [1..page_length] of card; used: integer; last: boolean end;\n\n\"The devices: only the process that owns one uses it.\"\n\ncard_reader = class;\n\n  procedure entry read(var c: card);\n  var i: integer;\n  begin\n    for i := 1 to card_length do accept(c[i])\n  end;\n\n  begin end;\n\nline_printer = class;\n  var column: integer;\n\n  procedure entry print(c: card);\n  var i: integer;\n  begin\n    for i := 1 to card_length do display(c[i]);\n    column := (column + 1) mod 2;\n    if column = 0 then display(newline)\n  end;\n\n  procedure entry eject;\n  begin\n    if column > 0 then display(newline);\n    display('-');\n    display(newline);\n    column := 0\n  end;\n\n  begin column := 0 end;\n\n\"What joins the processes.\"\n\npage_buffer = monitor;\n  var contents: page; full: boolean; sender, receiver: queue;\n\n  procedure entry send(p: page);\n  begin\n    if full then delay(sender);\n    contents := p;\n    full := true;\n    continue(receiver)\n  end;\n\n  procedure entry receive(var p: page);\n  begin\n    if not full then delay(receiver);\n    p := contents;\n    full := false;\n    continue(sender)\n  end;\n\n  begin full := false end;\n\n\"Cards to pages, and back.\"\n\nwriter = class(out: page_buffer);\n  var p: page;\n\n  procedure entry write(c: card);\n  begin\n    p.used := p.used + 1;\n    p.cards[p.used] := c;\n    if p.used = page_length then\n    begin\n      out.send(p);\n      p.used := 0\n    end\n  end;\n\n  procedure entry close;\n  begin\n    p.last := true;\n    out.send(p);\n    p.used := 0;\n    p.last := false\n  end;\n\n  begin p.used := 0; p.last := false end;\n\nreader = class(source: page_buffer);\n  var p: page; read_so_far: integer; fresh: boolean;\n\n  \"Gives the next card of a job, or says that there are no more.\"\n  procedure entry read(var c: card; var ended: boolean);\n  begin\n    if fresh or (read_so_far = p.used) & not p.last then\n    begin\n      source.receive(p);\n      read_so_far := 0;\n      fresh := false\n    end;\n    ended := read_so_far = p.used;\n    if ended then fresh := true\n    else begin\n      read_so_far := read_so_far + 1;\n      c := p.cards[read_so_far]\n    end\n  end;\n\n  begin fresh := true; read_so_far := 0 end;\n\n\"The three processes.\"\n\ncard_process = process(out: page_buffer);\n  var r: card_reader; w: writer; c: card;\n  begin\n    init r, w(out);\n    r.read(c);\n    while c[1] <> em do\n    begin\n      while (c[1] <> '$') & (c[1] <> em) do\n      begin\n        w.write(c);\n        r.read(c)\n      end;\n      w.close;\n      if c[1] = '$' then r.read(c)\n    end\n  end;\n\njob_process = process(source, out: page_buffer);\n  var r: reader; w: writer; c: card; ended: boolean; count: integer;\n  begin\n    init r(source), w(out);\n    cycle\n      count := 0;\n      r.read(c, ended);\n      while not ended do\n      begin\n        count := count + 1;\n        w.write(c);\n        r.read(c, ended)\n      end;\n      c[1] := '='; c[2] := chr(ord('0') + count); c[3] := '='; c[4] := '=';\n      w.write(c);\n      w.close\n    end\n  end;\n\nprinter_process = process(source: page_buffer);\n  var r: reader; l: line_printer; c: card; ended: boolean;\n  begin\n    init r(source), l;\n    cycle\n      r.read(c, ended);\n      if ended then l.eject else l.print(c)\n    end\n  end;\n\nvar b1, b2: page_buffer; cards: card_process; job: job_process; printer: printer_process;\n\nbegin init b1, b2, cards(b1), job(b1, b2), printer(b2) end.\n")

abbrev pub a_small_operating_system_1 : Type 0
a_small_operating_system_1 = run_answer 4 100 1 false ((28 ∷ []) ++ codes "aaaabbbbcccc$endddddeeeeffffgggghhhh$end") a_small_operating_system_1_text ≡ (codes "rounds 4\nprocess 1 initial ended\nout ''\nprocess 2 cards ready\nout ''\nvar w.p.cards[1][1] = 100\nvar w.p.cards[1][2] = 100\nvar w.p.cards[1][3] = 100\nvar w.p.cards[1][4] = 100\nvar w.p.cards[2][1] = 101\nvar w.p.cards[2][2] = 101\nvar w.p.cards[2][3] = 101\nvar w.p.cards[2][4] = 101\nvar w.p.used = 2\nvar w.p.last = 0\nvar c[1] = 101\nvar c[2] = 101\nvar c[3] = 101\nvar c[4] = 101\nprocess 3 job ready\nout ''\nvar r.p.cards[1][1] = 99\nvar r.p.cards[1][2] = 99\nvar r.p.cards[1][3] = 99\nvar r.p.cards[1][4] = 99\nvar r.p.cards[2][1] = 98\nvar r.p.cards[2][2] = 98\nvar r.p.cards[2][3] = 98\nvar r.p.cards[2][4] = 98\nvar r.p.used = 1\nvar r.p.last = 1\nvar r.read_so_far = 2\nvar r.fresh = 0\nvar w.p.cards[1][1] = 97\nvar w.p.cards[1][2] = 97\nvar w.p.cards[1][3] = 97\nvar w.p.cards[1][4] = 97\nvar w.p.cards[2][1] = 98\nvar w.p.cards[2][2] = 98\nvar w.p.cards[2][3] = 98\nvar w.p.cards[2][4] = 98\nvar w.p.used = 0\nvar w.p.last = 0\nvar c[1] = 98\nvar c[2] = 98\nvar c[3] = 98\nvar c[4] = 98\nvar ended = 0\nvar count = 2\nprocess 4 printer delayed b2 receiver\nout 'aaaabbbb\\0a'\nvar r.p.cards[1][1] = 97\nvar r.p.cards[1][2] = 97\nvar r.p.cards[1][3] = 97\nvar r.p.cards[1][4] = 97\nvar r.p.cards[2][1] = 98\nvar r.p.cards[2][2] = 98\nvar r.p.cards[2][3] = 98\nvar r.p.cards[2][4] = 98\nvar r.p.used = 2\nvar r.p.last = 0\nvar r.read_so_far = 2\nvar r.fresh = 0\nvar l.column = 0\nvar c[1] = 98\nvar c[2] = 98\nvar c[3] = 98\nvar c[4] = 98\nvar ended = 0\nmonitor b1 held 2 askers -\nvar contents.cards[1][1] = 99\nvar contents.cards[1][2] = 99\nvar contents.cards[1][3] = 99\nvar contents.cards[1][4] = 99\nvar contents.cards[2][1] = 98\nvar contents.cards[2][2] = 98\nvar contents.cards[2][3] = 98\nvar contents.cards[2][4] = 98\nvar contents.used = 1\nvar contents.last = 1\nvar full = 0\nqueue sender = -\nqueue receiver = -\nmonitor b2 free askers -\nvar contents.cards[1][1] = 97\nvar contents.cards[1][2] = 97\nvar contents.cards[1][3] = 97\nvar contents.cards[1][4] = 97\nvar contents.cards[2][1] = 98\nvar contents.cards[2][2] = 98\nvar contents.cards[2][3] = 98\nvar contents.cards[2][4] = 98\nvar contents.used = 2\nvar contents.last = 0\nvar full = 0\nqueue sender = -\nqueue receiver = 4\n")

abbrev pub a_small_operating_system_2 : Type 0
a_small_operating_system_2 = run_answer 14 100 1 false ((28 ∷ []) ++ codes "aaaabbbbcccc$endddddeeeeffffgggghhhh$end") a_small_operating_system_1_text ≡ (codes "rounds 14\nprocess 1 initial ended\nout ''\nprocess 2 cards ended\nout ''\nvar w.p.cards[1][1] = 104\nvar w.p.cards[1][2] = 104\nvar w.p.cards[1][3] = 104\nvar w.p.cards[1][4] = 104\nvar w.p.cards[2][1] = 103\nvar w.p.cards[2][2] = 103\nvar w.p.cards[2][3] = 103\nvar w.p.cards[2][4] = 103\nvar w.p.used = 0\nvar w.p.last = 0\nvar c[1] = 25\nvar c[2] = 25\nvar c[3] = 25\nvar c[4] = 25\nprocess 3 job delayed b1 receiver\nout ''\nvar r.p.cards[1][1] = 104\nvar r.p.cards[1][2] = 104\nvar r.p.cards[1][3] = 104\nvar r.p.cards[1][4] = 104\nvar r.p.cards[2][1] = 103\nvar r.p.cards[2][2] = 103\nvar r.p.cards[2][3] = 103\nvar r.p.cards[2][4] = 103\nvar r.p.used = 1\nvar r.p.last = 1\nvar r.read_so_far = 1\nvar r.fresh = 1\nvar w.p.cards[1][1] = 104\nvar w.p.cards[1][2] = 104\nvar w.p.cards[1][3] = 104\nvar w.p.cards[1][4] = 104\nvar w.p.cards[2][1] = 61\nvar w.p.cards[2][2] = 53\nvar w.p.cards[2][3] = 61\nvar w.p.cards[2][4] = 61\nvar w.p.used = 0\nvar w.p.last = 0\nvar c[1] = 61\nvar c[2] = 53\nvar c[3] = 61\nvar c[4] = 61\nvar ended = 1\nvar count = 0\nprocess 4 printer delayed b2 receiver\nout 'aaaabbbb\\0acccc=3==\\0a-\\0addddeeee\\0affffgggg\\0ahhhh=5==\\0a-\\0a'\nvar r.p.cards[1][1] = 104\nvar r.p.cards[1][2] = 104\nvar r.p.cards[1][3] = 104\nvar r.p.cards[1][4] = 104\nvar r.p.cards[2][1] = 61\nvar r.p.cards[2][2] = 53\nvar r.p.cards[2][3] = 61\nvar r.p.cards[2][4] = 61\nvar r.p.used = 0\nvar r.p.last = 1\nvar r.read_so_far = 0\nvar r.fresh = 1\nvar l.column = 0\nvar c[1] = 61\nvar c[2] = 53\nvar c[3] = 61\nvar c[4] = 61\nvar ended = 1\nmonitor b1 free askers -\nvar contents.cards[1][1] = 104\nvar contents.cards[1][2] = 104\nvar contents.cards[1][3] = 104\nvar contents.cards[1][4] = 104\nvar contents.cards[2][1] = 103\nvar contents.cards[2][2] = 103\nvar contents.cards[2][3] = 103\nvar contents.cards[2][4] = 103\nvar contents.used = 1\nvar contents.last = 1\nvar full = 0\nqueue sender = -\nqueue receiver = 3\nmonitor b2 free askers -\nvar contents.cards[1][1] = 104\nvar contents.cards[1][2] = 104\nvar contents.cards[1][3] = 104\nvar contents.cards[1][4] = 104\nvar contents.cards[2][1] = 61\nvar contents.cards[2][2] = 53\nvar contents.cards[2][3] = 61\nvar contents.cards[2][4] = 61\nvar contents.used = 0\nvar contents.last = 1\nvar full = 0\nqueue sender = -\nqueue receiver = 4\n")

abbrev pub a_small_operating_system_3 : Type 0
a_small_operating_system_3 = run_answer 14 100 1 false ((28 ∷ []) ++ codes "aaaabbbbcccc$endddddeeeeffffgggghhhh$end") (codes "\"The small operating system with buffers of two pages, and the number of a job above its lines.\n\n A card has 4 characters, and a job is all cards up to one that begins with `$`. A page of\n 2 cards is what travels from the card reader to the job, and from the job to the printer.\"\n\nconst card_length = 4; page_length = 2; em = '(:25:)'; newline = '(:10:)';\n\ntype card = array [1..card_length] of char;\n\npage = record cards: array [1..page_length] of card; used: integer; last: boolean end;\n\n\"The devices: only the process that owns one uses it.\"\n\ncard_reader = class;\n\n  procedure entry read(var c: card);\n  var i: integer;\n  begin\n    for i := 1 to card_length do accept(c[i])\n  end;\n\n  begin end;\n\nline_printer = class;\n  var column, job: integer; fresh: boolean;\n\n  procedure entry print(c: card);\n  var i: integer;\n  begin\n    if fresh then\n    begin\n      job := job + 1;\n      fresh := false;\n      display('#');\n      display(job);\n      display(newline)\n    end;\n    for i := 1 to card_length do display(c[i]);\n    column := (column + 1) mod 2;\n    if column = 0 then display(newline)\n  end;\n\n  procedure entry eject;\n  begin\n    if column > 0 then display(newline);\n    display('-');\n    display(newline);\n    column := 0;\n    fresh := true\n  end;\n\n  begin column := 0; job := 0; fresh := true end;\n\n\"What joins the processes.\"\n\npage_buffer = monitor;\n  var ring: array [0..1] of page; head, length: integer; sender, receiver: queue;\n\n  procedure entry send(p: page);\n  begin\n    if length = 2 then delay(sender);\n    ring[(head + length) mod 2] := p;\n    length := length + 1;\n    continue(receiver)\n  end;\n\n  procedure entry receive(var p: page);\n  begin\n    if length = 0 then delay(receiver);\n    p := ring[head];\n    head := (head + 1) mod 2;\n    length := length - 1;\n    continue(sender)\n  end;\n\n  begin head := 0; length := 0 end;\n\n\"Cards to pages, and back.\"\n\nwriter = class(out: page_buffer);\n  var p: page;\n\n  procedure entry write(c: card);\n  begin\n    p.used := p.used + 1;\n    p.cards[p.used] := c;\n    if p.used = page_length then\n    begin\n      out.send(p);\n      p.used := 0\n    end\n  end;\n\n  procedure entry close;\n  begin\n    p.last := true;\n    out.send(p);\n    p.used := 0;\n    p.last := false\n  end;\n\n  begin p.used := 0; p.last := false end;\n\nreader = class(source: page_buffer);\n  var p: page; read_so_far: integer; fresh: boolean;\n\n  \"Gives the next card of a job, or says that there are no more.\"\n  procedure entry read(var c: card; var ended: boolean);\n  begin\n    if fresh or (read_so_far = p.used) & not p.last then\n    begin\n      source.receive(p);\n      read_so_far := 0;\n      fresh := false\n    end;\n    ended := read_so_far = p.used;\n    if ended then fresh := true\n    else begin\n      read_so_far := read_so_far + 1;\n      c := p.cards[read_so_far]\n    end\n  end;\n\n  begin fresh := true; read_so_far := 0 end;\n\n\"The three processes.\"\n\ncard_process = process(out: page_buffer);\n  var r: card_reader; w: writer; c: card;\n  begin\n    init r, w(out);\n    r.read(c);\n    while c[1] <> em do\n    begin\n      while (c[1] <> '$') & (c[1] <> em) do\n      begin\n        w.write(c);\n        r.read(c)\n      end;\n      w.close;\n      if c[1] = '$' then r.read(c)\n    end\n  end;\n\njob_process = process(source, out: page_buffer);\n  var r: reader; w: writer; c: card; ended: boolean; count: integer;\n  begin\n    init r(source), w(out);\n    cycle\n      count := 0;\n      r.read(c, ended);\n      while not ended do\n      begin\n        count := count + 1;\n        w.write(c);\n        r.read(c, ended)\n      end;\n      c[1] := '='; c[2] := chr(ord('0') + count); c[3] := '='; c[4] := '=';\n      w.write(c);\n      w.close\n    end\n  end;\n\nprinter_process = process(source: page_buffer);\n  var r: reader; l: line_printer; c: card; ended: boolean;\n  begin\n    init r(source), l;\n    cycle\n      r.read(c, ended);\n      if ended then l.eject else l.print(c)\n    end\n  end;\n\nvar b1, b2: page_buffer; cards: card_process; job: job_process; printer: printer_process;\n\nbegin init b1, b2, cards(b1), job(b1, b2), printer(b2) end.\n") ≡ (codes "rounds 14\nprocess 1 initial ended\nout ''\nprocess 2 cards ended\nout ''\nvar w.p.cards[1][1] = 104\nvar w.p.cards[1][2] = 104\nvar w.p.cards[1][3] = 104\nvar w.p.cards[1][4] = 104\nvar w.p.cards[2][1] = 103\nvar w.p.cards[2][2] = 103\nvar w.p.cards[2][3] = 103\nvar w.p.cards[2][4] = 103\nvar w.p.used = 0\nvar w.p.last = 0\nvar c[1] = 25\nvar c[2] = 25\nvar c[3] = 25\nvar c[4] = 25\nprocess 3 job delayed b1 receiver\nout ''\nvar r.p.cards[1][1] = 104\nvar r.p.cards[1][2] = 104\nvar r.p.cards[1][3] = 104\nvar r.p.cards[1][4] = 104\nvar r.p.cards[2][1] = 103\nvar r.p.cards[2][2] = 103\nvar r.p.cards[2][3] = 103\nvar r.p.cards[2][4] = 103\nvar r.p.used = 1\nvar r.p.last = 1\nvar r.read_so_far = 1\nvar r.fresh = 1\nvar w.p.cards[1][1] = 104\nvar w.p.cards[1][2] = 104\nvar w.p.cards[1][3] = 104\nvar w.p.cards[1][4] = 104\nvar w.p.cards[2][1] = 61\nvar w.p.cards[2][2] = 53\nvar w.p.cards[2][3] = 61\nvar w.p.cards[2][4] = 61\nvar w.p.used = 0\nvar w.p.last = 0\nvar c[1] = 61\nvar c[2] = 53\nvar c[3] = 61\nvar c[4] = 61\nvar ended = 1\nvar count = 0\nprocess 4 printer delayed b2 receiver\nout '#1\\0aaaaabbbb\\0acccc=3==\\0a-\\0a#2\\0addddeeee\\0affffgggg\\0ahhhh=5==\\0a-\\0a'\nvar r.p.cards[1][1] = 104\nvar r.p.cards[1][2] = 104\nvar r.p.cards[1][3] = 104\nvar r.p.cards[1][4] = 104\nvar r.p.cards[2][1] = 61\nvar r.p.cards[2][2] = 53\nvar r.p.cards[2][3] = 61\nvar r.p.cards[2][4] = 61\nvar r.p.used = 0\nvar r.p.last = 1\nvar r.read_so_far = 0\nvar r.fresh = 1\nvar l.column = 0\nvar l.job = 2\nvar l.fresh = 1\nvar c[1] = 61\nvar c[2] = 53\nvar c[3] = 61\nvar c[4] = 61\nvar ended = 1\nmonitor b1 free askers -\nvar ring[0].cards[1][1] = 104\nvar ring[0].cards[1][2] = 104\nvar ring[0].cards[1][3] = 104\nvar ring[0].cards[1][4] = 104\nvar ring[0].cards[2][1] = 103\nvar ring[0].cards[2][2] = 103\nvar ring[0].cards[2][3] = 103\nvar ring[0].cards[2][4] = 103\nvar ring[0].used = 1\nvar ring[0].last = 1\nvar ring[1].cards[1][1] = 102\nvar ring[1].cards[1][2] = 102\nvar ring[1].cards[1][3] = 102\nvar ring[1].cards[1][4] = 102\nvar ring[1].cards[2][1] = 103\nvar ring[1].cards[2][2] = 103\nvar ring[1].cards[2][3] = 103\nvar ring[1].cards[2][4] = 103\nvar ring[1].used = 2\nvar ring[1].last = 0\nvar head = 1\nvar length = 0\nqueue sender = -\nqueue receiver = 3\nmonitor b2 free askers -\nvar ring[0].cards[1][1] = 104\nvar ring[0].cards[1][2] = 104\nvar ring[0].cards[1][3] = 104\nvar ring[0].cards[1][4] = 104\nvar ring[0].cards[2][1] = 61\nvar ring[0].cards[2][2] = 53\nvar ring[0].cards[2][3] = 61\nvar ring[0].cards[2][4] = 61\nvar ring[0].used = 0\nvar ring[0].last = 1\nvar ring[1].cards[1][1] = 104\nvar ring[1].cards[1][2] = 104\nvar ring[1].cards[1][3] = 104\nvar ring[1].cards[1][4] = 104\nvar ring[1].cards[2][1] = 61\nvar ring[1].cards[2][2] = 53\nvar ring[1].cards[2][3] = 61\nvar ring[1].cards[2][4] = 61\nvar ring[1].used = 2\nvar ring[1].last = 0\nvar head = 1\nvar length = 0\nqueue sender = -\nqueue receiver = 4\n")

abbrev pub hierarchy_and_access_rights_1_text : Text
hierarchy_and_access_rights_1_text = (codes "\"Three speakers share one sheet of paper. A speaker keeps the sheet until its word is written.\"\n\ntype fifo = class(limit: integer);\n  var head, tail, length: integer;\n\n  function entry arrival: integer;\n  begin\n    arrival := tail;\n    tail := tail mod limit + 1;\n    length := length + 1\n  end;\n\n  function entry departure: integer;\n  begin\n    departure := head;\n    head := head mod limit + 1;\n    length := length - 1\n  end;\n\n  function entry nobody: boolean;\n  begin nobody := length = 0 end;\n\n  begin head := 1; tail := 1; length := 0 end;\n\nresource = monitor;\n  var free: boolean; waiting: array [1..3] of queue; next: fifo;\n\n  procedure entry request;\n  begin\n    if free then free := false else delay(waiting[next.arrival])\n  end;\n\n  procedure entry release;\n  begin\n    if next.nobody then free := true else continue(waiting[next.departure])\n  end;\n\n  begin free := true; init next(3) end;\n\npaper = monitor;\n  var text: array [1..9] of char; used: integer;\n\n  procedure entry print(c: char);\n  begin\n    used := used + 1;\n    text[used] := c\n  end;\n\n  begin used := 0 end;\n\nterminal = class(access: resource; sheet: paper);\n\n  procedure entry write(c: char);\n  var i: integer;\n  begin\n    access.request;\n    for i := 1 to 3 do sheet.print(c);\n    access.release\n  end;\n\n  begin end;\n\nspeaker = process(access: resource; sheet: paper; letter: char);\n  var t: terminal;\n  begin\n    init t(access, sheet);\n    t.write(letter)\n  end;\n\nvar access: resource; sheet: paper; x, y, z: speaker;\n\nbegin\n  init access, sheet,\n    x(access, sheet, 'x'), y(access, sheet, 'y'), z(access, sheet, 'z')\nend.\n")

abbrev pub hierarchy_and_access_rights_1 : Type 0
hierarchy_and_access_rights_1 = run_answer 5 100 1 false [] hierarchy_and_access_rights_1_text ≡ (codes "rounds 5\nprocess 1 initial ended\nout ''\nprocess 2 x ready\nout ''\nvar letter = 120\nprocess 3 y delayed access waiting[1]\nout ''\nvar letter = 121\nprocess 4 z delayed access waiting[2]\nout ''\nvar letter = 122\nmonitor access free askers -\nvar free = 0\nqueue waiting[1] = 3\nqueue waiting[2] = 4\nqueue waiting[3] = -\nvar next.limit = 3\nvar next.head = 1\nvar next.tail = 3\nvar next.length = 2\nmonitor sheet free askers -\nvar text[1] = 120\nvar text[2] = 120\nvar text[3] = 120\nvar text[4] = 0\nvar text[5] = 0\nvar text[6] = 0\nvar text[7] = 0\nvar text[8] = 0\nvar text[9] = 0\nvar used = 3\n")

abbrev pub hierarchy_and_access_rights_2 : Type 0
hierarchy_and_access_rights_2 = run_answer 15 100 1 false [] hierarchy_and_access_rights_1_text ≡ (codes "rounds 15\nprocess 1 initial ended\nout ''\nprocess 2 x ended\nout ''\nvar letter = 120\nprocess 3 y ended\nout ''\nvar letter = 121\nprocess 4 z ended\nout ''\nvar letter = 122\nmonitor access free askers -\nvar free = 1\nqueue waiting[1] = -\nqueue waiting[2] = -\nqueue waiting[3] = -\nvar next.limit = 3\nvar next.head = 3\nvar next.tail = 3\nvar next.length = 0\nmonitor sheet free askers -\nvar text[1] = 120\nvar text[2] = 120\nvar text[3] = 120\nvar text[4] = 121\nvar text[5] = 121\nvar text[6] = 121\nvar text[7] = 122\nvar text[8] = 122\nvar text[9] = 122\nvar used = 9\n")

abbrev pub hierarchy_and_access_rights_3 : Type 0
hierarchy_and_access_rights_3 = run_answer 2 100 1 true [] (codes "\"A process is delayed in an inner monitor, and keeps the gate of the outer one.\"\n\ntype lock = monitor;\n  var sleepers: queue;\n\n  procedure entry rest;\n  begin delay(sleepers) end;\n\n  procedure entry wake;\n  begin continue(sleepers) end;\n\n  begin end;\n\nstore = monitor(inner: lock);\n  var visits: integer;\n\n  procedure entry rest;\n  begin visits := visits + 1; inner.rest end;\n\n  procedure entry look;\n  begin visits := visits + 1 end;\n\n  begin visits := 0 end;\n\nsleeper = process(s: store);\n  begin s.rest end;\n\nvisitor = process(s: store; k: lock);\n  begin s.look; k.wake end;\n\nvar k: lock; s: store; a: sleeper; b, c: visitor;\n\nbegin init k, s(k), a(s), b(s, k), c(s, k) end.\n") ≡ (codes "rounds 2\nprocess 1 initial ended\nout ''\nprocess 2 a delayed k sleepers\nout ''\nprocess 3 b asking s\nout ''\nprocess 4 c asking s\nout ''\nmonitor k free askers -\nqueue sleepers = 2\nmonitor s held 2 askers 3 4\nvar visits = 1\nchain 3 2\nchain 4 2\n")

abbrev pub hierarchy_and_access_rights_4 : Type 0
hierarchy_and_access_rights_4 = run_answer 1 100 1 false [] (codes "\"A test of the class fifo alone: four arrivals and departures in a ring of three.\"\n\ntype fifo = class(limit: integer);\n  var head, tail, length: integer;\n\n  function entry arrival: integer;\n  begin\n    arrival := tail;\n    tail := tail mod limit + 1;\n    length := length + 1\n  end;\n\n  function entry departure: integer;\n  begin\n    departure := head;\n    head := head mod limit + 1;\n    length := length - 1\n  end;\n\n  function entry nobody: boolean;\n  begin nobody := length = 0 end;\n\n  begin head := 1; tail := 1; length := 0 end;\n\nvar f: fifo;\n\nbegin\n  init f(3);\n  display(f.arrival);\n  display(f.arrival);\n  display(f.departure);\n  display(f.arrival);\n  display(f.departure);\n  display(f.arrival);\n  display(f.departure);\n  display(f.departure);\n  display(f.nobody)\nend.\n") ≡ (codes "rounds 1\nprocess 1 initial ended\nout '121321311'\nvar f.limit = 3\nvar f.head = 2\nvar f.tail = 2\nvar f.length = 0\n")

abbrev pub hierarchy_and_access_rights_5 : Type 0
hierarchy_and_access_rights_5 = run_answer 4 100 1 true [] (codes "\"The store mended: a sleeper rests when it has left the store.\n The lock remembers a wakeup that comes before the sleeper rests.\"\n\ntype lock = monitor;\n  var sleepers: queue; woken: boolean;\n\n  procedure entry rest;\n  begin\n    if woken then woken := false else delay(sleepers)\n  end;\n\n  procedure entry wake;\n  begin\n    if empty(sleepers) then woken := true else continue(sleepers)\n  end;\n\n  begin woken := false end;\n\nstore = monitor;\n  var visits: integer;\n\n  procedure entry look;\n  begin visits := visits + 1 end;\n\n  begin visits := 0 end;\n\nsleeper = process(s: store; k: lock);\n  begin s.look; k.rest end;\n\nvisitor = process(s: store; k: lock);\n  begin s.look; k.wake end;\n\nvar k: lock; s: store; a: sleeper; b, c: visitor;\n\nbegin init k, s, a(s, k), b(s, k), c(s, k) end.\n") ≡ (codes "rounds 4\nprocess 1 initial ended\nout ''\nprocess 2 a ended\nout ''\nprocess 3 b ended\nout ''\nprocess 4 c ended\nout ''\nmonitor k free askers -\nqueue sleepers = -\nvar woken = 1\nmonitor s free askers -\nvar visits = 3\n")

abbrev pub hierarchy_and_access_rights_6 : Type 0
hierarchy_and_access_rights_6 = run_answer 5 100 1 false [] (codes "\"Three speakers share one sheet of paper without asking for it. Their words mix.\"\n\ntype paper = monitor;\n  var text: array [1..9] of char; used: integer;\n\n  procedure entry print(c: char);\n  begin\n    used := used + 1;\n    text[used] := c\n  end;\n\n  begin used := 0 end;\n\nterminal = class(sheet: paper);\n\n  procedure entry write(c: char);\n  var i: integer;\n  begin\n    for i := 1 to 3 do sheet.print(c)\n  end;\n\n  begin end;\n\nspeaker = process(sheet: paper; letter: char);\n  var t: terminal;\n  begin\n    init t(sheet);\n    t.write(letter)\n  end;\n\nvar sheet: paper; x, y, z: speaker;\n\nbegin init sheet, x(sheet, 'x'), y(sheet, 'y'), z(sheet, 'z') end.\n") ≡ (codes "rounds 5\nprocess 1 initial ended\nout ''\nprocess 2 x ended\nout ''\nvar letter = 120\nprocess 3 y ended\nout ''\nvar letter = 121\nprocess 4 z ended\nout ''\nvar letter = 122\nmonitor sheet free askers -\nvar text[1] = 120\nvar text[2] = 121\nvar text[3] = 122\nvar text[4] = 120\nvar text[5] = 121\nvar text[6] = 122\nvar text[7] = 120\nvar text[8] = 121\nvar text[9] = 122\nvar used = 9\n")

abbrev pub input_and_output_1_text : Text
input_and_output_1_text = (codes "\"A process reads its input to the end, and displays it in capitals.\"\n\nconst em = '(:25:)';\n\ntype typist = process;\n  var c: char;\n  begin\n    accept(c);\n    while c <> em do\n    begin\n      if (c >= 'a') & (c <= 'z') then c := chr(ord(c) - ord('a') + ord('A'));\n      display(c);\n      accept(c)\n    end\n  end;\n\nvar t: typist;\n\nbegin init t end.\n")

abbrev pub input_and_output_1 : Type 0
input_and_output_1 = run_answer 2 100 1 false [] input_and_output_1_text ≡ (codes "rounds 2\nprocess 1 initial ended\nout ''\nprocess 2 t ended\nout ''\nvar c = 25\n")

abbrev pub input_and_output_2 : Type 0
input_and_output_2 = run_answer 2 100 1 false ((28 ∷ []) ++ codes "hello, world") input_and_output_1_text ≡ (codes "rounds 2\nprocess 1 initial ended\nout ''\nprocess 2 t ended\nout 'HELLO, WORLD'\nvar c = 25\n")

abbrev pub input_and_output_3 : Type 0
input_and_output_3 = run_answer 6 100 1 false ((28 ∷ []) ++ codes "one/two/three") (codes "\"A reader, a copier and a printer, joined by buffers of one line. A line ends with `/`.\"\n\nconst length = 5; eol = '/'; em = '(:25:)'; blank = ' '; newline = '(:10:)';\n\ntype line = array [1..length] of char;\n\nbuffer = monitor;\n  var contents: line; full: boolean; sender, receiver: queue;\n\n  procedure entry send(text: line);\n  begin\n    if full then delay(sender);\n    contents := text;\n    full := true;\n    continue(receiver)\n  end;\n\n  procedure entry receive(var text: line);\n  begin\n    if not full then delay(receiver);\n    text := contents;\n    full := false;\n    continue(sender)\n  end;\n\n  begin full := false end;\n\nreader = process(out: buffer);\n  var text: line; c: char; i: integer;\n  begin\n    repeat\n      for i := 1 to length do text[i] := blank;\n      i := 0;\n      accept(c);\n      while (c <> eol) & (c <> em) do\n      begin\n        if i < length then begin i := i + 1; text[i] := c end;\n        accept(c)\n      end;\n      if (i > 0) or (c = eol) then out.send(text)\n    until c = em;\n    text[1] := em;\n    out.send(text)\n  end;\n\ncopier = process(into, out: buffer);\n  var text: line;\n  begin\n    cycle into.receive(text); out.send(text) end\n  end;\n\nprinter = process(into: buffer);\n  var text: line; i: integer;\n  begin\n    into.receive(text);\n    while text[1] <> em do\n    begin\n      for i := 1 to length do display(text[i]);\n      display(newline);\n      into.receive(text)\n    end\n  end;\n\nvar b1, b2: buffer; r: reader; c: copier; p: printer;\n\nbegin init b1, b2, r(b1), c(b1, b2), p(b2) end.\n") ≡ (codes "rounds 6\nprocess 1 initial ended\nout ''\nprocess 2 r ended\nout ''\nvar text[1] = 25\nvar text[2] = 104\nvar text[3] = 114\nvar text[4] = 101\nvar text[5] = 101\nvar c = 25\nvar i = 5\nprocess 3 c delayed b1 receiver\nout ''\nvar text[1] = 25\nvar text[2] = 104\nvar text[3] = 114\nvar text[4] = 101\nvar text[5] = 101\nprocess 4 p ended\nout 'one  \\0atwo  \\0athree\\0a'\nvar text[1] = 25\nvar text[2] = 104\nvar text[3] = 114\nvar text[4] = 101\nvar text[5] = 101\nvar i = 5\nmonitor b1 free askers -\nvar contents[1] = 25\nvar contents[2] = 104\nvar contents[3] = 114\nvar contents[4] = 101\nvar contents[5] = 101\nvar full = 0\nqueue sender = -\nqueue receiver = 3\nmonitor b2 free askers -\nvar contents[1] = 25\nvar contents[2] = 104\nvar contents[3] = 114\nvar contents[4] = 101\nvar contents[5] = 101\nvar full = 0\nqueue sender = -\nqueue receiver = -\n")

abbrev pub input_and_output_4 : Type 0
input_and_output_4 = run_answer 2 100 1 false (codes "x" ++ (28 ∷ []) ++ codes "y") (codes "\"The initial process and another one each read a character of their own input.\"\n\ntype typist = process;\n  var c: char;\n  begin accept(c); display(c) end;\n\nvar first: char; t: typist;\n\nbegin\n  init t;\n  accept(first);\n  display(first)\nend.\n") ≡ (codes "rounds 2\nprocess 1 initial ended\nout 'x'\nvar first = 120\nprocess 2 t ended\nout 'y'\nvar c = 121\n")

abbrev pub input_and_output_5 : Type 0
input_and_output_5 = run_answer 2 100 1 false ((28 ∷ []) ++ codes "12 30 5") (codes "\"The sum of the numbers in the input, with a blank after each but the last.\"\n\nconst em = '(:25:)';\n\ntype adder = process;\n  var c: char; number, sum: integer;\n  begin\n    repeat\n      number := 0;\n      accept(c);\n      while (c >= '0') & (c <= '9') do\n      begin\n        number := 10 * number + ord(c) - ord('0');\n        accept(c)\n      end;\n      sum := sum + number\n    until c = em;\n    display(sum)\n  end;\n\nvar a: adder;\n\nbegin init a end.\n") ≡ (codes "rounds 2\nprocess 1 initial ended\nout ''\nprocess 2 a ended\nout '47'\nvar c = 25\nvar number = 5\nvar sum = 47\n")

abbrev pub input_and_output_6 : Type 0
input_and_output_6 = run_answer 10 100 1 false ((28 ∷ []) ++ codes "one/two/three") (codes "\"The pipeline with a process that turns each line round in place of the copier.\"\n\nconst length = 5; eol = '/'; em = '(:25:)'; blank = ' '; newline = '(:10:)';\n\ntype line = array [1..length] of char;\n\nbuffer = monitor;\n  var contents: line; full: boolean; sender, receiver: queue;\n\n  procedure entry send(text: line);\n  begin\n    if full then delay(sender);\n    contents := text;\n    full := true;\n    continue(receiver)\n  end;\n\n  procedure entry receive(var text: line);\n  begin\n    if not full then delay(receiver);\n    text := contents;\n    full := false;\n    continue(sender)\n  end;\n\n  begin full := false end;\n\nreader = process(out: buffer);\n  var text: line; c: char; i: integer;\n  begin\n    repeat\n      for i := 1 to length do text[i] := blank;\n      i := 0;\n      accept(c);\n      while (c <> eol) & (c <> em) do\n      begin\n        if i < length then begin i := i + 1; text[i] := c end;\n        accept(c)\n      end;\n      if (i > 0) or (c = eol) then out.send(text)\n    until c = em;\n    text[1] := em;\n    out.send(text)\n  end;\n\nturner = process(into, out: buffer);\n  var text, turned: line; i: integer;\n  begin\n    cycle\n      into.receive(text);\n      turned := text;\n      if text[1] <> em then for i := 1 to length do turned[i] := text[length + 1 - i];\n      out.send(turned)\n    end\n  end;\n\nprinter = process(into: buffer);\n  var text: line; i: integer;\n  begin\n    into.receive(text);\n    while text[1] <> em do\n    begin\n      for i := 1 to length do display(text[i]);\n      display(newline);\n      into.receive(text)\n    end\n  end;\n\nvar b1, b2: buffer; r: reader; t: turner; p: printer;\n\nbegin init b1, b2, r(b1), t(b1, b2), p(b2) end.\n") ≡ (codes "rounds 10\nprocess 1 initial ended\nout ''\nprocess 2 r ended\nout ''\nvar text[1] = 25\nvar text[2] = 104\nvar text[3] = 114\nvar text[4] = 101\nvar text[5] = 101\nvar c = 25\nvar i = 5\nprocess 3 t delayed b1 receiver\nout ''\nvar text[1] = 25\nvar text[2] = 104\nvar text[3] = 114\nvar text[4] = 101\nvar text[5] = 101\nvar turned[1] = 25\nvar turned[2] = 104\nvar turned[3] = 114\nvar turned[4] = 101\nvar turned[5] = 101\nvar i = 5\nprocess 4 p ended\nout '  eno\\0a  owt\\0aeerht\\0a'\nvar text[1] = 25\nvar text[2] = 104\nvar text[3] = 114\nvar text[4] = 101\nvar text[5] = 101\nvar i = 5\nmonitor b1 free askers -\nvar contents[1] = 25\nvar contents[2] = 104\nvar contents[3] = 114\nvar contents[4] = 101\nvar contents[5] = 101\nvar full = 0\nqueue sender = -\nqueue receiver = 3\nmonitor b2 free askers -\nvar contents[1] = 25\nvar contents[2] = 104\nvar contents[3] = 114\nvar contents[4] = 101\nvar contents[5] = 101\nvar full = 0\nqueue sender = -\nqueue receiver = -\n")

abbrev pub monitors_and_queues_1_text : Text
monitors_and_queues_1_text = (codes "\"Two writers and a log that both of them use. The one works long before each note.\"\n\ntype log = monitor;\n  var line: array [1..4] of char; used: integer;\n\n  procedure entry note(c: char);\n  begin\n    used := used + 1;\n    line[used] := c\n  end;\n\n  begin used := 0 end;\n\nwriter = process(book: log; letter: char; work: integer);\n  var n, i: integer;\n  begin\n    for n := 1 to 2 do\n    begin\n      for i := 1 to work do;\n      book.note(letter)\n    end\n  end;\n\nvar book: log; a, b: writer;\n\nbegin init book, a(book, 'a', 12), b(book, 'b', 1) end.\n")

abbrev pub monitors_and_queues_3_text : Text
monitors_and_queues_3_text = (codes "\"A sink and a source of characters, and a slot between them that holds one.\"\n\ntype slot = monitor;\n  var content: char; full: boolean; sender, receiver: queue;\n\n  procedure entry send(c: char);\n  begin\n    if full then delay(sender);\n    content := c;\n    full := true;\n    continue(receiver)\n  end;\n\n  procedure entry receive(var c: char);\n  begin\n    if not full then delay(receiver);\n    c := content;\n    full := false;\n    continue(sender)\n  end;\n\n  begin full := false end;\n\nsink = process(s: slot);\n  var c: char;\n  begin\n    cycle s.receive(c); display(c) end\n  end;\n\nsource = process(s: slot);\n  var c: char;\n  begin\n    for c := 'a' to 'c' do s.send(c)\n  end;\n\nvar s: slot; p: sink; q: source;\n\nbegin init s, p(s), q(s) end.\n")

abbrev pub monitors_and_queues_7_text : Text
monitors_and_queues_7_text = (codes "\"A semaphore: at most so many users at once as there are permits.\"\n\ntype semaphore = monitor(permits: integer);\n  var left: integer; waiting: queue;\n\n  procedure entry acquire;\n  begin\n    if left > 0 then left := left - 1 else delay(waiting)\n  end;\n\n  procedure entry release;\n  begin\n    if empty(waiting) then left := left + 1 else continue(waiting)\n  end;\n\n  begin left := permits end;\n\nuser = process(s: semaphore);\n  begin\n    s.acquire;\n    display('+');\n    s.release\n  end;\n\nvar s: semaphore; a, b, c: user;\n\nbegin init s(2), a(s), b(s), c(s) end.\n")

abbrev pub monitors_and_queues_1 : Type 0
monitors_and_queues_1 = run_answer 5 100 1 false [] monitors_and_queues_1_text ≡ (codes "rounds 5\nprocess 1 initial ended\nout ''\nprocess 2 a ended\nout ''\nvar letter = 97\nvar work = 12\nvar n = 2\nvar i = 12\nprocess 3 b ended\nout ''\nvar letter = 98\nvar work = 1\nvar n = 2\nvar i = 1\nmonitor book free askers -\nvar line[1] = 97\nvar line[2] = 98\nvar line[3] = 97\nvar line[4] = 98\nvar used = 4\n")

abbrev pub monitors_and_queues_2 : Type 0
monitors_and_queues_2 = run_answer 10 4 1 false [] monitors_and_queues_1_text ≡ (codes "rounds 10\nprocess 1 initial ended\nout ''\nprocess 2 a ended\nout ''\nvar letter = 97\nvar work = 12\nvar n = 2\nvar i = 12\nprocess 3 b ended\nout ''\nvar letter = 98\nvar work = 1\nvar n = 2\nvar i = 1\nmonitor book free askers -\nvar line[1] = 98\nvar line[2] = 98\nvar line[3] = 97\nvar line[4] = 97\nvar used = 4\n")

abbrev pub monitors_and_queues_3 : Type 0
monitors_and_queues_3 = run_answer 2 100 1 false [] monitors_and_queues_3_text ≡ (codes "rounds 2\nprocess 1 initial ended\nout ''\nprocess 2 p ready\nout ''\nvar c = 0\nprocess 3 q ready\nout ''\nvar c = 97\nmonitor s held 2 askers -\nvar content = 97\nvar full = 1\nqueue sender = -\nqueue receiver = -\n")

abbrev pub monitors_and_queues_4 : Type 0
monitors_and_queues_4 = run_answer 6 100 1 false [] monitors_and_queues_3_text ≡ (codes "rounds 6\nprocess 1 initial ended\nout ''\nprocess 2 p delayed s receiver\nout 'abc'\nvar c = 99\nprocess 3 q ended\nout ''\nvar c = 99\nmonitor s free askers -\nvar content = 99\nvar full = 0\nqueue sender = -\nqueue receiver = 2\n")

abbrev pub monitors_and_queues_5 : Type 0
monitors_and_queues_5 = run_answer 6 100 1 false [] (codes "\"A slot whose `receive` continues the sender too early: the sink never gets a character.\"\n\ntype slot = monitor;\n  var content: char; full: boolean; sender, receiver: queue;\n\n  procedure entry send(c: char);\n  begin\n    if full then delay(sender);\n    content := c;\n    full := true;\n    continue(receiver)\n  end;\n\n  procedure entry receive(var c: char);\n  begin\n    if not full then delay(receiver);\n    full := false;\n    continue(sender);\n    c := content\n  end;\n\n  begin full := false end;\n\nsink = process(s: slot);\n  var c: char;\n  begin\n    cycle s.receive(c); display(c) end\n  end;\n\nsource = process(s: slot);\n  var c: char;\n  begin\n    for c := 'a' to 'c' do s.send(c)\n  end;\n\nvar s: slot; p: sink; q: source;\n\nbegin init s, p(s), q(s) end.\n") ≡ (codes "rounds 6\nprocess 1 initial ended\nout ''\nprocess 2 p delayed s receiver\nout '\\00\\00\\00'\nvar c = 0\nprocess 3 q ended\nout ''\nvar c = 99\nmonitor s free askers -\nvar content = 99\nvar full = 0\nqueue sender = -\nqueue receiver = 2\n")

abbrev pub monitors_and_queues_6 : Type 0
monitors_and_queues_6 = run_answer 3 100 1 false [] (codes "\"Two sources, and nobody who takes a character: a queue has room for one process.\"\n\ntype slot = monitor;\n  var content: char; full: boolean; sender: queue;\n\n  procedure entry send(c: char);\n  begin\n    if full then delay(sender);\n    content := c;\n    full := true\n  end;\n\n  begin full := false end;\n\nsource = process(s: slot);\n  var c: char;\n  begin\n    for c := 'a' to 'c' do s.send(c)\n  end;\n\nvar s: slot; q, r: source;\n\nbegin init s, q(s), r(s) end.\n") ≡ (codes "rounds 3\nprocess 1 initial ended\nout ''\nprocess 2 q fault 5\nout ''\nvar c = 98\nprocess 3 r delayed s sender\nout ''\nvar c = 97\nmonitor s held 2 askers -\nvar content = 97\nvar full = 1\nqueue sender = 3\n")

abbrev pub monitors_and_queues_7 : Type 0
monitors_and_queues_7 = run_answer 2 100 1 false [] monitors_and_queues_7_text ≡ (codes "rounds 2\nprocess 1 initial ended\nout ''\nprocess 2 a ready\nout ''\nprocess 3 b ready\nout ''\nprocess 4 c delayed s waiting\nout ''\nmonitor s free askers -\nvar permits = 2\nvar left = 0\nqueue waiting = 4\n")

abbrev pub monitors_and_queues_8 : Type 0
monitors_and_queues_8 = run_answer 5 100 1 false [] monitors_and_queues_7_text ≡ (codes "rounds 5\nprocess 1 initial ended\nout ''\nprocess 2 a ended\nout '+'\nprocess 3 b ended\nout '+'\nprocess 4 c ended\nout '+'\nmonitor s free askers -\nvar permits = 2\nvar left = 2\nqueue waiting = -\n")

abbrev pub processes_and_classes_1_text : Text
processes_and_classes_1_text = (codes "\"Two processes of one type, each with a class of its own.\"\n\ntype tally = class;\n  var count: integer;\n\n  procedure entry add(n: integer);\n  begin count := count + n end;\n\n  function entry total: integer;\n  begin total := count end;\n\n  begin count := 0 end;\n\ncounter = process(step: integer);\n  var t: tally; i: integer;\n  begin\n    init t;\n    for i := 1 to 3 do t.add(step);\n    display(t.total)\n  end;\n\nvar a, b: counter;\n\nbegin init a(1), b(10) end.\n")

abbrev pub processes_and_classes_1 : Type 0
processes_and_classes_1 = run_answer 2 100 1 false [] processes_and_classes_1_text ≡ (codes "rounds 2\nprocess 1 initial ended\nout ''\nprocess 2 a ended\nout '3'\nvar step = 1\nvar t.count = 3\nvar i = 3\nprocess 3 b ended\nout '30'\nvar step = 10\nvar t.count = 30\nvar i = 3\n")

abbrev pub processes_and_classes_2 : Type 0
processes_and_classes_2 = run_answer 3 4 1 false [] processes_and_classes_1_text ≡ (codes "rounds 3\nprocess 1 initial ended\nout ''\nprocess 2 a ready\nout ''\nvar step = 1\nvar t.count = 1\nvar i = 2\nprocess 3 b ready\nout ''\nvar step = 10\nvar t.count = 10\nvar i = 2\n")

abbrev pub processes_and_classes_3 : Type 0
processes_and_classes_3 = run_answer 22 1 1 false [] processes_and_classes_1_text ≡ (codes "rounds 22\nprocess 1 initial ended\nout ''\nprocess 2 a ended\nout '3'\nvar step = 1\nvar t.count = 3\nvar i = 3\nprocess 3 b ready\nout '30'\nvar step = 10\nvar t.count = 30\nvar i = 3\n")

abbrev pub processes_and_classes_4 : Type 0
processes_and_classes_4 = run_answer 2 100 1 false [] (codes "\"A tally that can take back the last number that was added.\"\n\ntype tally = class;\n  var count, last: integer;\n\n  procedure entry add(n: integer);\n  begin count := count + n; last := n end;\n\n  procedure entry undo;\n  begin count := count - last; last := 0 end;\n\n  function entry total: integer;\n  begin total := count end;\n\n  begin count := 0; last := 0 end;\n\ncounter = process(step: integer);\n  var t: tally; i: integer;\n  begin\n    init t;\n    for i := 1 to 3 do t.add(step);\n    t.undo;\n    display(t.total)\n  end;\n\nvar a, b: counter;\n\nbegin init a(1), b(10) end.\n") ≡ (codes "rounds 2\nprocess 1 initial ended\nout ''\nprocess 2 a ended\nout '2'\nvar step = 1\nvar t.count = 2\nvar t.last = 0\nvar i = 3\nprocess 3 b ended\nout '20'\nvar step = 10\nvar t.count = 20\nvar t.last = 0\nvar i = 3\n")

abbrev pub processes_and_classes_5 : Type 0
processes_and_classes_5 = run_answer 2 100 1 false [] (codes "\"A count beyond the integers: fault 3 stops the process a, and b goes on.\"\n\ntype tally = class;\n  var count: integer;\n\n  procedure entry add(n: integer);\n  begin count := count + n end;\n\n  function entry total: integer;\n  begin total := count end;\n\n  begin count := 0 end;\n\ncounter = process(step: integer);\n  var t: tally; i: integer;\n  begin\n    init t;\n    for i := 1 to 3 do t.add(step);\n    display(t.total)\n  end;\n\nvar a, b: counter;\n\nbegin init a(20000), b(10) end.\n") ≡ (codes "rounds 2\nprocess 1 initial ended\nout ''\nprocess 2 a fault 3\nout ''\nvar step = 20000\nvar t.count = 20000\nvar i = 2\nprocess 3 b ended\nout '30'\nvar step = 10\nvar t.count = 30\nvar i = 3\n")

abbrev pub processes_and_classes_6 : Type 0
processes_and_classes_6 = check_answer (codes "\"Two processes want to add to one tally. The rules refuse this text.\"\n\ntype tally = class;\n  var count: integer;\n\n  procedure entry add(n: integer);\n  begin count := count + n end;\n\n  begin count := 0 end;\n\ncounter = process(t: tally; step: integer);\n  var i: integer;\n  begin\n    for i := 1 to 3 do t.add(step)\n  end;\n\nvar t: tally; a, b: counter;\n\nbegin init t, a(t, 1), b(t, 10) end.\n") ≡ (codes "refused C7 at 228")

abbrev pub time_1_text : Text
time_1_text = (codes "\"A process displays the time at each of three ticks.\"\n\ntype timer = process(beats: integer);\n  var beat: integer;\n  begin\n    for beat := 1 to beats do\n    begin\n      wait;\n      display(realtime);\n      display(' ')\n    end\n  end;\n\nvar t: timer;\n\nbegin init t(3) end.\n")

abbrev pub time_3_text : Text
time_3_text = (codes "\"An alarm clock: sleepers are woken after so many ticks.\"\n\nconst sleepers = 3;\n\ntype alarm = monitor;\n  var now: integer; wake_at: array [1..sleepers] of integer;\n    asleep: array [1..sleepers] of queue;\n\n  procedure entry sleep(me, ticks: integer);\n  begin\n    wake_at[me] := now + ticks;\n    delay(asleep[me])\n  end;\n\n  procedure entry tick;\n  begin now := now + 1 end;\n\n  procedure entry wake(who: integer);\n  begin\n    if wake_at[who] <= now then continue(asleep[who])\n  end;\n\n  begin now := 0 end;\n\nticker = process(a: alarm);\n  var i: integer;\n  begin\n    cycle\n      wait;\n      a.tick;\n      for i := 1 to sleepers do a.wake(i)\n    end\n  end;\n\nsleeper = process(a: alarm; me, ticks: integer);\n  begin\n    cycle\n      a.sleep(me, ticks);\n      display(realtime);\n      display(' ')\n    end\n  end;\n\nvar a: alarm; t: ticker; x, y, z: sleeper;\n\nbegin init a, t(a), x(a, 1, 1), y(a, 2, 2), z(a, 3, 3) end.\n")

abbrev pub time_1 : Type 0
time_1 = run_answer 5 100 1 false [] time_1_text ≡ (codes "rounds 5\nprocess 1 initial ended\nout ''\nprocess 2 t ended\nout '3 4 5 '\nvar beats = 3\nvar beat = 3\n")

abbrev pub time_2 : Type 0
time_2 = run_answer 8 100 3 false [] time_1_text ≡ (codes "rounds 8\nprocess 1 initial ended\nout ''\nprocess 2 t waiting\nout '1 2 '\nvar beats = 3\nvar beat = 3\n")

abbrev pub time_3 : Type 0
time_3 = run_answer 45 100 10 false [] time_3_text ≡ (codes "rounds 45\nprocess 1 initial ended\nout ''\nprocess 2 t waiting\nout ''\nvar i = 3\nprocess 3 x delayed a asleep[1]\nout '1 2 3 4 '\nvar me = 1\nvar ticks = 1\nprocess 4 y delayed a asleep[2]\nout '2 4 '\nvar me = 2\nvar ticks = 2\nprocess 5 z delayed a asleep[3]\nout '3 '\nvar me = 3\nvar ticks = 3\nmonitor a free askers -\nvar now = 4\nvar wake_at[1] = 5\nvar wake_at[2] = 6\nvar wake_at[3] = 6\nqueue asleep[1] = 3\nqueue asleep[2] = 4\nqueue asleep[3] = 5\n")

abbrev pub time_4 : Type 0
time_4 = run_answer 20 100 1 false [] time_3_text ≡ (codes "rounds 20\nprocess 1 initial ended\nout ''\nprocess 2 t ready\nout ''\nvar i = 1\nprocess 3 x ready\nout '5 10 16 '\nvar me = 1\nvar ticks = 1\nprocess 4 y delayed a asleep[2]\nout '11 '\nvar me = 2\nvar ticks = 2\nprocess 5 z delayed a asleep[3]\nout '18 '\nvar me = 3\nvar ticks = 3\nmonitor a free askers -\nvar now = 4\nvar wake_at[1] = 4\nvar wake_at[2] = 4\nvar wake_at[3] = 6\nqueue asleep[1] = -\nqueue asleep[2] = 4\nqueue asleep[3] = 5\n")

abbrev pub time_5 : Type 0
time_5 = run_answer 28 100 6 false [] time_3_text ≡ (codes "rounds 28\nprocess 1 initial ended\nout ''\nprocess 2 t ready\nout ''\nvar i = 3\nprocess 3 x delayed a asleep[1]\nout '1 2 3 4 '\nvar me = 1\nvar ticks = 1\nprocess 4 y delayed a asleep[2]\nout '2 4 '\nvar me = 2\nvar ticks = 2\nprocess 5 z delayed a asleep[3]\nout '3 '\nvar me = 3\nvar ticks = 3\nmonitor a free askers -\nvar now = 4\nvar wake_at[1] = 5\nvar wake_at[2] = 6\nvar wake_at[3] = 6\nqueue asleep[1] = 3\nqueue asleep[2] = 4\nqueue asleep[3] = 5\n")

abbrev pub time_6 : Type 0
time_6 = run_answer 5 100 1 false [] (codes "\"A process that sleeps three ticks by itself.\"\n\ntype late = process(ticks: integer);\n  var i: integer;\n  begin\n    for i := 1 to ticks do wait;\n    display(realtime)\n  end;\n\nvar a: late;\n\nbegin init a(3) end.\n") ≡ (codes "rounds 5\nprocess 1 initial ended\nout ''\nprocess 2 a ended\nout '5'\nvar ticks = 3\nvar i = 3\n")

abbrev pub time_7 : Type 0
time_7 = run_answer 107 100 6 false [] (codes "\"Periodic tasks: each has a time at which it begins, and a period. A clock wakes those that are due.\"\n\nconst tasks = 3;\n\ntype task_number = 1..tasks;\n\nschedule = monitor;\n  var now: integer; due, period: array [task_number] of integer;\n    resting: array [task_number] of queue;\n\n  procedure entry plan(t: task_number; first, every: integer);\n  begin due[t] := first; period[t] := every end;\n\n  procedure entry rest(t: task_number);\n  begin delay(resting[t]) end;\n\n  procedure entry tick(time: integer);\n  begin now := time end;\n\n  procedure entry examine(t: task_number);\n  begin\n    if not empty(resting[t]) & (due[t] <= now) then\n    begin\n      due[t] := due[t] + period[t];\n      continue(resting[t])\n    end\n  end;\n\n  begin now := 0 end;\n\nclock = process(s: schedule);\n  var t: task_number;\n  begin\n    cycle\n      wait;\n      s.tick(realtime);\n      for t := 1 to tasks do s.examine(t)\n    end\n  end;\n\ntask = process(s: schedule; t: task_number; first, every: integer);\n  begin\n    s.plan(t, first, every);\n    cycle\n      s.rest(t);\n      display(realtime);\n      display(' ')\n    end\n  end;\n\nvar s: schedule; c: clock; x, y, z: task;\n\nbegin init s, c(s), x(s, 1, 5, 5), y(s, 2, 7, 3), z(s, 3, 4, 10) end.\n") ≡ (codes "rounds 107\nprocess 1 initial ended\nout ''\nprocess 2 c waiting\nout ''\nvar t = 3\nprocess 3 x delayed s resting[1]\nout '5 10 15 '\nvar t = 1\nvar first = 5\nvar every = 5\nprocess 4 y delayed s resting[2]\nout '7 10 13 16 '\nvar t = 2\nvar first = 7\nvar every = 3\nprocess 5 z delayed s resting[3]\nout '4 14 '\nvar t = 3\nvar first = 4\nvar every = 10\nmonitor s free askers -\nvar now = 17\nvar due[1] = 20\nvar due[2] = 19\nvar due[3] = 24\nvar period[1] = 5\nvar period[2] = 3\nvar period[3] = 10\nqueue resting[1] = 3\nqueue resting[2] = 4\nqueue resting[3] = 5\n")

abbrev pub Tutorial : Type 0
Tutorial = a_small_operating_system_1 × a_small_operating_system_2 × a_small_operating_system_3 × hierarchy_and_access_rights_1 × hierarchy_and_access_rights_2 × hierarchy_and_access_rights_3 × hierarchy_and_access_rights_4 × hierarchy_and_access_rights_5 × hierarchy_and_access_rights_6 × input_and_output_1 × input_and_output_2 × input_and_output_3 × input_and_output_4 × input_and_output_5 × input_and_output_6 × monitors_and_queues_1 × monitors_and_queues_2 × monitors_and_queues_3 × monitors_and_queues_4 × monitors_and_queues_5 × monitors_and_queues_6 × monitors_and_queues_7 × monitors_and_queues_8 × processes_and_classes_1 × processes_and_classes_2 × processes_and_classes_3 × processes_and_classes_4 × processes_and_classes_5 × processes_and_classes_6 × time_1 × time_2 × time_3 × time_4 × time_5 × time_6 × time_7
