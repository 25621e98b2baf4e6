-- A text with a call in an expression, a `var` parameter that is passed on, a right to a class that
-- is passed on, a monitor, and two processes:
--
--     type c = class; var n: integer;
--       function entry get(t: integer): integer; begin n := n + t; get := n end;
--       begin n := 1 end;
--     b = class(a: c);
--       procedure entry go(var t: integer); begin t := a.get(t) + 2 end;
--       begin end;
--     d = class(a: c); var k: b;
--       procedure entry run(var t: integer); begin k.go(t) end;
--       begin init k(a) end;
--     m = monitor; var total: integer;
--       procedure entry add(i: integer); begin total := total + i end;
--       begin total := 0 end;
--     p = process(g: m); var s: c; u: d; v: integer;
--       begin init s, u(s); v := 3; u.run(v); g.add(v) end;
--     var g: m; q: p;
--     begin init g, q(g) end.
use Rattle.std.specs.Prelude.{codes, ◌∷◌, [], None, Some, true, false}
use Rattle.cp_model.specs.Abstract.{Add, Assign, Binary, Call, Class, Expression, Group, Init, Literal, Monitor, MoreExpressions, Name, NoExpression, Nothing, Part, Perform, Plain, Process, Routine, Seq, System, SystemDef, Tree, TypeName, Use}
use Rattle.cp_model.specs.States.{Setup}
use Rattle.cp_model_program.specs.Programs.{Program}
use Rattle.cp_model_program.specs.Compile.{compile}

abbrev pub one : Name → Expression
one x = Use (Plain x)

abbrev pub group : Name → Name → Group
group x t = record { by_reference = false; names = x ∷ []; type = TypeName t }

abbrev pub var_group : Name → Name → Group
var_group x t = record { by_reference = true; names = x ∷ []; type = TypeName t }

abbrev pub get : Routine
get = record {
  name = codes "get";
  entry = true;
  parameters = group (codes "t") (codes "integer") ∷ [];
  result = Some (codes "integer");
  variables = [];
  body = Seq (Assign (Plain (codes "n")) (Binary Add (one (codes "n")) (one (codes "t")))) (Seq (Assign (Plain (codes "get")) (one (codes "n"))) Nothing);
}

abbrev pub c : System
c = record {
  sort = Class;
  parameters = [];
  variables = group (codes "n") (codes "integer") ∷ [];
  routines = get ∷ [];
  body = Seq (Assign (Plain (codes "n")) (Literal 1)) Nothing;
}

abbrev pub go : Routine
go = record {
  name = codes "go";
  entry = true;
  parameters = var_group (codes "t") (codes "integer") ∷ [];
  result = None;
  variables = [];
  body = Seq (Assign (Plain (codes "t")) (Binary Add (Call (Part (Plain (codes "a")) (codes "get")) (MoreExpressions (one (codes "t")) NoExpression)) (Literal 2))) Nothing;
}

abbrev pub b : System
b = record { sort = Class; parameters = group (codes "a") (codes "c") ∷ []; variables = []; routines = go ∷ []; body = Seq Nothing Nothing }

abbrev pub run : Routine
run = record {
  name = codes "run";
  entry = true;
  parameters = var_group (codes "t") (codes "integer") ∷ [];
  result = None;
  variables = [];
  body = Seq (Perform (Part (Plain (codes "k")) (codes "go")) (MoreExpressions (one (codes "t")) NoExpression)) Nothing;
}

abbrev pub d : System
d = record {
  sort = Class;
  parameters = group (codes "a") (codes "c") ∷ [];
  variables = group (codes "k") (codes "b") ∷ [];
  routines = run ∷ [];
  body = Seq (Seq (Init (codes "k") (MoreExpressions (one (codes "a")) NoExpression)) Nothing) Nothing;
}

abbrev pub add : Routine
add = record {
  name = codes "add";
  entry = true;
  parameters = group (codes "i") (codes "integer") ∷ [];
  result = None;
  variables = [];
  body = Seq (Assign (Plain (codes "total")) (Binary Add (one (codes "total")) (one (codes "i")))) Nothing;
}

abbrev pub m : System
m = record {
  sort = Monitor;
  parameters = [];
  variables = group (codes "total") (codes "integer") ∷ [];
  routines = add ∷ [];
  body = Seq (Assign (Plain (codes "total")) (Literal 0)) Nothing;
}

abbrev pub p : System
p = record {
  sort = Process;
  parameters = group (codes "g") (codes "m") ∷ [];
  variables = group (codes "s") (codes "c") ∷ group (codes "u") (codes "d") ∷ group (codes "v") (codes "integer") ∷ [];
  routines = [];
  body =
      Seq (Seq (Init (codes "s") NoExpression) (Seq (Init (codes "u") (MoreExpressions (one (codes "s")) NoExpression)) Nothing))
      (Seq (Assign (Plain (codes "v")) (Literal 3))
      (Seq (Perform (Part (Plain (codes "u")) (codes "run")) (MoreExpressions (one (codes "v")) NoExpression))
      (Seq (Perform (Part (Plain (codes "g")) (codes "add")) (MoreExpressions (one (codes "v")) NoExpression)) Nothing)));
}

abbrev pub initial : System
initial = record {
  sort = Process;
  parameters = [];
  variables = group (codes "g") (codes "m") ∷ group (codes "q") (codes "p") ∷ [];
  routines = [];
  body = Seq (Seq (Init (codes "g") NoExpression) (Seq (Init (codes "q") (MoreExpressions (one (codes "g")) NoExpression)) Nothing)) Nothing;
}

abbrev pub tree : Tree
tree = record {
  definitions = SystemDef (codes "c") c ∷ SystemDef (codes "b") b ∷ SystemDef (codes "d") d ∷ SystemDef (codes "m") m ∷ SystemDef (codes "p") p ∷ [];
  initial = initial;
}

abbrev pub program : Program
program = compile tree

abbrev pub setup : Setup
setup = record { tree = tree; inputs = λ n. []; tick = 1 }
