-- Plans: how the words of activations and components get their start values.
--
-- Each type has a plan, which counts from the first word of a variable. The plan of a record, a class
-- or an activation is made of those of its parts. A part whose plan has many pieces is one piece,
-- which refers to that plan, so all plans together are about as long as the text. Neighbouring words
-- with one value are one fill. A component's words are 0 before, so nothing is planned for a 0 there.
use Rattle.std.specs.Prelude.{Bool, true, false, ◌&&◌, ℕ, zero, suc, ◌+◌, ◌*◌, ℤ, pos, nat_eq, nat_le, nat_lt, List, [], ◌∷◌, Option, None, Some, if◌then◌else◌}
use Rattle.cp_model.specs.Abstract.{Class, Name, Routine, Sort, System}
use Rattle.cp_model.specs.Types.{ArrayOf, ComponentOf, GlobalScope, Members, MoreMembers, NoMembers, NoType, Queue, RecordOf, ResolvedType, Simple}
use Rattle.cp_model.specs.Declarations.{Variable, declarations, reported_members}
use Rattle.cp_model.specs.Integers.{count_between, same_integer}
use Rattle.cp_law_typing.specs.Needs.{result_words}
use Rattle.cp_law_typing.specs.Words.{words}
use Rattle.cp_model_program.specs.Programs.{Done, Fill, Part, Repeat, StartPlan}
use Rattle.cp_model_program.specs.Layout.{head_words, locals_words}
use Rattle.cp_model_program.specs.Starts.{unset}

-- ---- Plans before others

-- A fill before other pieces. If the first of them fills the words behind it with the same value,
-- both are one.
abbrev pub fill_before : ℕ → ℕ → ℤ → StartPlan → StartPlan
fill_before at count n (Fill behind more m rest) =
    if nat_eq behind (at + count) && same_integer m n
    then Fill at (count + more) n rest
    else Fill at count n (Fill behind more m rest)
fill_before at count n rest = Fill at count n rest

-- The pieces of a plan that begins at a word, before other pieces.
abbrev pub pieces_before : ℕ → StartPlan → StartPlan → StartPlan
pieces_before at Done rest = rest
pieces_before at (Fill behind count n more) rest = fill_before (at + behind) count n (pieces_before at more rest)
pieces_before at (Repeat behind size count more) rest = Repeat (at + behind) size count (pieces_before at more rest)
pieces_before at (Part behind plan more) rest = Part (at + behind) plan (pieces_before at more rest)

abbrev pub count_pieces : StartPlan → ℕ
count_pieces Done = 0
count_pieces (Fill at count n rest) = suc (count_pieces rest)
count_pieces (Repeat at size count rest) = suc (count_pieces rest)
count_pieces (Part at plan rest) = suc (count_pieces rest)

-- A plan of few pieces is put among those of the whole, and any other plan is one piece there.
abbrev pub is_short : StartPlan → Bool
is_short p = nat_le (count_pieces p) 8

abbrev pub plan_before : ℕ → StartPlan → StartPlan → StartPlan
plan_before at p rest = if is_short p then pieces_before at p rest else Part at p rest

-- None of the pieces is a part.
abbrev pub is_flat : StartPlan → Bool
is_flat Done = true
is_flat (Fill at count n rest) = is_flat rest
is_flat (Repeat at size count rest) = is_flat rest
is_flat (Part at plan rest) = false

-- ---- Arrays

-- The value of a plan that is one fill of so many words, from the first one on.
abbrev pub value_of_fill : ℕ → StartPlan → Option ℤ
value_of_fill size (Fill at count n Done) = if nat_eq at 0 && nat_eq count size then Some n else None
value_of_fill size _ = None

abbrev pub repeats : ℕ → ℕ → StartPlan
repeats size count = if nat_le count 1 then Done else Repeat 0 size count Done

-- `count` elements of `size` words each, of which each starts by a plan.
abbrev pub plan_of_elements : ℕ → ℕ → Option ℤ → StartPlan → StartPlan
plan_of_elements size count (Some n) p = Fill 0 (count * size) n Done
plan_of_elements size count None Done = Done
plan_of_elements size count None p = plan_before 0 p (repeats size count)

-- ---- Parts

-- A part: its first word, the number of its words, and its plan.
pub record Placed : Type 0 where
  pub at : ℕ
  pub size : ℕ
  pub plan : StartPlan

-- The words of a part that is one piece, or has such pieces itself.
abbrev pub weight : Placed → ℕ
weight p = if is_short p.plan && is_flat p.plan then 0 else p.size

-- The parts with the heaviest one last. In the plan of the whole, any part but a last piece has at most
-- half of the words, so whoever comes back from each part but a last one comes back from few at a
-- time.
abbrev pub heaviest_last : Placed → List Placed → List Placed
heaviest_last p [] = p ∷ []
heaviest_last p (q ∷ qs) =
    if nat_lt (weight q) (weight p) then q ∷ heaviest_last p qs else p ∷ heaviest_last q qs

abbrev pub arranged : List Placed → List Placed
arranged [] = []
arranged (p ∷ ps) = heaviest_last p ps

abbrev pub plan_in_order : List Placed → StartPlan
plan_in_order [] = Done
plan_in_order (p ∷ ps) = plan_before p.at p.plan (plan_in_order ps)

abbrev pub plan_of_parts : List Placed → StartPlan
plan_of_parts ps = plan_in_order (arranged ps)

-- ---- Types

abbrev pub plan_of_word : Bool → ℤ → StartPlan
plan_of_word true (pos zero) = Done
plan_of_word zeros n = Fill 0 1 n Done

abbrev pub plan_of_class : Sort → StartPlan → StartPlan
plan_of_class Class p = p
plan_of_class _ p = Done

-- The plan of a variable of this type. With `zeros` all words are 0 before.
abbrev mutual
  pub plan : Bool → GlobalScope → ResolvedType → StartPlan
  plan zeros g (Simple b low high n) = plan_of_word zeros n
  plan zeros g (ArrayOf low high t) =
      plan_of_elements (words g t) (count_between low high) (value_of_fill (words g t) (plan zeros g t)) (plan zeros g t)
  plan zeros g (RecordOf ms) = plan_of_parts (placed zeros g ms 0)
  plan zeros g Queue = plan_of_word zeros (pos 0)
  plan zeros g (ComponentOf s inner) = plan_of_class s.sort (plan_of_parts (placed zeros g inner (head_words g s)))
  plan zeros g NoType = Done

  -- The members as parts, the first of which begins at a word.
  pub placed : Bool → GlobalScope → Members → ℕ → List Placed
  placed zeros g NoMembers at = []
  placed zeros g (MoreMembers x t ms) at =
      record { at = at; size = words g t; plan = plan zeros g t } ∷ placed zeros g ms (at + words g t)

-- ---- Activations and components

abbrev pub placed_variables : GlobalScope → List (Name × Variable) → ℕ → List Placed
placed_variables g [] at = []
placed_variables g (v ∷ vs) at =
    record { at = at; size = words g v.1.type; plan = plan false g v.1.type } ∷ placed_variables g vs (at + words g v.1.type)

abbrev pub plan_of_result : Option Name → StartPlan → StartPlan
plan_of_result None rest = rest
plan_of_result (Some t) rest = fill_before 0 1 unset rest

abbrev pub plan_of_routine : GlobalScope → Routine → StartPlan
plan_of_routine g r =
    plan_of_result r.result
    (plan_of_parts (placed_variables g (declarations g r.variables) (result_words r.result + locals_words g (declarations g r.parameters))))

abbrev pub plan_of_component : GlobalScope → System → StartPlan
plan_of_component g s = plan_of_parts (placed true g (reported_members g s) (head_words g s))
