-- A text that is well typed, and statements in it that are not: the judgement holds for something,
-- but not for everything.
--
--   type m = monitor
--     var n: integer;
--     procedure entry put(k: integer); begin n := k end;
--     begin n := 0 end;
--   var one: m;
--   begin init one; one.put(1) end.
use Rattle.std.proofs.Common.{◌≡◌, inl, inr, [], ◌∷◌, Some, None, codes, refl}
use Rattle.cp_model.specs.Abstract as a
use Rattle.cp_model.specs.Erase as erase
use Rattle.cp_model.specs.Syntax as s
use Rattle.cp_model.specs.declared.tree.Identifier.{Identifier}
use Rattle.cp_model.specs.declared.tree.Sort.TheVariants as sort
use Rattle.cp_model.specs.RulesEnvironment.{Text}
use Rattle.cp_model.specs.Rules.{Accepted}
use Rattle.cp_model.specs.Declarations.{globals}
use Rattle.cp_model.specs.Locations.{OfMonitor, root}
use Rattle.cp_model.specs.States.{Setup}
use Rattle.cp_law_typing.specs.Judgement.{Place, TypedStatement}
use Rattle.cp_law_typing.specs.Needs.{owner_words}
use Rattle.cp_law_typing.specs.WellTyped.{WellTyped, body_place}
use Rattle.cp_law_typing.proofs.Texts.{accepted_texts_are_well_typed}

abbrev name : Text → Identifier
name x = record { name = x; at = 0 }

abbrev plain : Text → s.Designator
plain x = s.Designate (name x) s.NoSelectors

abbrev body_of : s.Statements → s.Body
body_of l = record { at = 0; list = l }

abbrev integers : Text → s.Variables
integers x = record { names = name x ∷ []; of = s.Named (name (codes "integer")) }

abbrev monitor : s.System
monitor = record {
  sort = sort.Monitor;
  parameters = [];
  variables = integers (codes "n") ∷ [];
  routines = record {
    entry = Some 0;
    name = name (codes "put");
    parameters = record { by_reference = None; names = name (codes "k") ∷ []; of = name (codes "integer") } ∷ [];
    result_type = None;
    variables = [];
    body = body_of (s.MoreStatements (s.Assign (plain (codes "n")) 0 (s.Designated (plain (codes "k")))) s.NoStatements);
  } ∷ [];
  body = body_of (s.MoreStatements (s.Assign (plain (codes "n")) 0 (s.Number 0 0)) s.NoStatements);
}

abbrev tree : s.Tree
tree = record {
  sections = s.Types (record { name = name (codes "m"); defined = s.SystemType monitor } ∷ []) ∷ [];
  variables = record { names = name (codes "one") ∷ []; of = s.Named (name (codes "m")) } ∷ [];
  routines = [];
  body = body_of
      (s.MoreStatements (s.Init 0 (record { component = name (codes "one"); arguments = s.NoExpressions } ∷ []))
      (s.MoreStatements
      (s.Perform (s.Designate (name (codes "one")) (s.MoreSelectors (s.Field 0 (name (codes "put"))) s.NoSelectors))
      (s.MoreExpressions (s.Number 0 1) s.NoExpressions))
      s.NoStatements));
}

abbrev setup : Setup
setup = record { tree = erase.abstract tree; inputs = λ p. []; tick = 1 }

accepted : Accepted tree
accepted = refl

pub text_is_well_typed : WellTyped setup
text_is_well_typed = accepted_texts_are_well_typed tree setup accepted refl

-- The initial process takes one word, and its call takes two: one for the activation and one for k.
-- The monitor takes one word for itself and one for n.
pub initial_takes_three : owner_words 2 (globals setup.tree) setup.tree.initial ≡ 3
initial_takes_three = refl

pub monitor_takes_two : owner_words 2 (globals setup.tree) (erase.system monitor) ≡ 2
monitor_takes_two = refl

-- ---- what is not typed in the monitor's body

abbrev here : Place
here = body_place (globals setup.tree) [] (erase.system monitor) (root (OfMonitor 1))

abbrev use_of : Text → a.Expression
use_of x = a.Use (a.Plain x)

-- a value of another base can't be assigned
pub boolean_is_not_assigned : TypedStatement here (a.Assign (a.Plain (codes "n")) (use_of (codes "true"))) → ⊥
boolean_is_not_assigned t = elim t.2 [ inl h ↦ cc (h.1.is, h.2.is) | inr h ↦ cc (h.1) ]

-- a name that isn't declared can't be used
pub unknown_is_not_used : TypedStatement here (a.Assign (a.Plain (codes "n")) (use_of (codes "k"))) → ⊥
unknown_is_not_used t = elim t.1 [ inl h ↦ cc h | inr h ↦ elim h [ inl c ↦ cc (c.1.2) | inr v ↦ cc (v.1.2) ] ]

-- an entry can't be called by its bare name
pub entry_is_not_called : TypedStatement here (a.Perform (a.Plain (codes "put")) (a.MoreExpressions (a.Literal 1) a.NoExpression)) → ⊥
entry_is_not_called t = cc (t.1.0.may.3)

-- a process can't wait in a monitor
pub monitor_does_not_wait : TypedStatement here (a.Perform (a.Plain (codes "wait")) a.NoExpression) → ⊥
monitor_does_not_wait t = cc (t.1.1)
