-- The plans of routines and components give activations and components their start values.
use Rattle.std.proofs.Common.{◌≡◌, ◌≤◌, ◌<◌, ◌⊎◌, inl, inr, ℕ, zero, suc, ◌+◌, ◌-◌, ℤ, pos, List, [], ◌∷◌, ◌++◌, Option, Some, None, refl, ap, sym, subst, ◌∙◌, Bool, true, false, if◌then◌else◌, length, arith, slice_get, bytes_eq, append_assoc}
use Rattle.std.specs.Prelude.{replicate, slice_index_or, slice_set}
use Rattle.std.proofs.lemmas.List.{get_or-set_same, get_or-set_other, get_or-replicate, get_or_append_left, length-append, length-replicate, length-set}
use Rattle.std.proofs.lemmas.Bool.{true≢false}
use Rattle.cp_model.specs.Abstract.{BaseType, Class, Name, Routine, System}
use Rattle.cp_model.specs.Names.{lookup}
use Rattle.cp_model.specs.Types.{ComponentOf, GlobalScope, Members, Queue, ResolvedType, Simple}
use Rattle.cp_model.specs.Declarations.{Variable, declarations, reported_members}
use Rattle.cp_model.specs.Environments.{local_variables, permanent_variables, result_variable}
use Rattle.cp_model.specs.Locations.{Path}
use Rattle.cp_law_typing.specs.Declared.{Distinct, Each}
use Rattle.cp_law_typing.specs.Needs.{result_words}
use Rattle.cp_law_typing.specs.Words as of_sort
use Rattle.cp_law_typing.specs.Words.{rights_in, words, words_of_members}
use Rattle.cp_law_typing.proofs.Names.{bytes_eq-refl, lookup_first}
use Rattle.cp_model_program.specs.Programs.{Done, Fill, Part, Repeat, StartPlan}
use Rattle.cp_model_program.specs.Layout.{activation_words, component_words, head_words, local, local_at, local_words, locals_words, member_part, part}
use Rattle.cp_model_program.specs.Plans.{placed, placed_variables, plan_of_component, plan_of_parts, plan_of_result, plan_of_routine}
use Rattle.cp_model_program.specs.Starts.{AreZero, Starts, StartsComponent, block, fill, paste, repeat_block, carry_out, unset, word}
use Rattle.cp_model_program.proofs.CallsRepresent.{distinct_apart}
use Rattle.cp_model_program.proofs.Pasting.{fill_is_paste, paste_inside, paste_length, paste_outside}
use Rattle.cp_model_program.specs.Known.{Plannable, PlannableMembers}
use Rattle.cp_model_program.proofs.PlansWrite.{fill_before_is, image, image_length, image_of_class, images, images_length}
use Rattle.cp_model_program.proofs.PartsPlanned.{Follow, parts_planned}
use Rattle.cp_model_program.proofs.PlansRepresent.{all_planned, planned, planned_part}
use Rattle.cp_model_program.proofs.PartsStart.{PartOf, members_start, part_behind, parts_start}

-- ---- Lengths

repeated_length : (at size k : ℕ) (ws : List ℤ) → length (repeat_block at size k ws) ≡ length ws
repeated_length at size zero ws = refl
repeated_length at size (suc k) ws =
    repeated_length (at + size) size k (paste (at + size) (block ws at size) ws) ∙ paste_length (at + size) (block ws at size) ws

started_length : (base : ℕ) (p : StartPlan) (ws : List ℤ) → length (carry_out base p ws) ≡ length ws
started_length base Done ws = refl
started_length base (Fill at count n rest) ws =
    started_length base rest (fill (base + at) count n ws) ∙ ap length (fill_is_paste (base + at) count n ws) ∙ paste_length (base + at) (replicate count n) ws
started_length base (Repeat at size count rest) ws =
    started_length base rest (repeat_block (base + at) size (count - 1) ws) ∙ repeated_length (base + at) size (count - 1) ws
started_length base (Part at p rest) ws = started_length base rest (carry_out (base + at) p ws) ∙ started_length (base + at) p ws

-- ---- Components

module _ (g : GlobalScope) (s : System) (fine : PlannableMembers true (reported_members g s)) where
  abbrev members : Members
  members = reported_members g s

  abbrev head : ℕ
  head = head_words g s

  abbrev values : List ℤ
  values = images g members

  pasted : (base : ℕ) (ws : List ℤ) → base + component_words g s ≤ length ws → AreZero g s base ws → carry_out base (plan_of_component g s) ws ≡ paste (base + head) values ws
  pasted base ws room zeros =
      parts_planned true base head (placed true g members head) values ws (all_planned true g members fine head) (omega (arith, room, images_length g members))
      (λ is k less. ap (word ws) (apart base head k) ∙ zeros (head + k) (omega (arith, less, images_length g members)))
    where
      apart : (a b c : ℕ) → a + b + c ≡ a + (b + c)
      apart a b c = omega arith

  -- a word of a part has the start value
  part_word : (base : ℕ) (ws : List ℤ) → base + component_words g s ≤ length ws → AreZero g s base ws → (x : Name) (path : Path) (m i : ℕ) (u : ResolvedType)
      → member_part g head members x path ≡ Some (m, u) → i < words g u
      → word (carry_out base (plan_of_component g s) ws) (base + (m + i)) ≡ slice_index_or (image g u) i (pos 0)
  part_word base ws room zeros x path m i u h less =
      let k = members_start g members x path head m u h in
      ap (λ z. word z (base + (m + i))) (pasted base ws room zeros)
      ∙ ap (word (paste (base + head) values ws)) (place base head k.0 i m k.1)
      ∙ paste_inside (base + head) (k.0 + i) values ws (omega (arith, images_length g members, k.2.inside, less)) (omega (arith, room, images_length g members))
      ∙ k.2.values i less
    where
      place : (a b c d e : ℕ) → e ≡ b + c → a + (e + d) ≡ a + b + (c + d)
      place a b c d e h = omega (arith, h)

  lone_word : (base : ℕ) (ws : List ℤ) → base + component_words g s ≤ length ws → AreZero g s base ws → (x : Name) (path : Path) (m : ℕ) (u : ResolvedType)
      → member_part g head members x path ≡ Some (m, u) → 0 < words g u → word (carry_out base (plan_of_component g s) ws) (base + m) ≡ slice_index_or (image g u) 0 (pos 0)
  lone_word base ws room zeros x path m u h some =
      ap (word (carry_out base (plan_of_component g s) ws)) (nothing_more base m) ∙ part_word base ws room zeros x path m 0 u h some
    where
      nothing_more : (a b : ℕ) → a + b ≡ a + (b + 0)
      nothing_more a b = omega arith

  -- the words before the members and after the component stay as they were
  before : (base : ℕ) (ws : List ℤ) → base + component_words g s ≤ length ws → AreZero g s base ws → (i : ℕ) → (i < base + head) ⊎ (base + component_words g s ≤ i)
      → word (carry_out base (plan_of_component g s) ws) i ≡ word ws i
  before base ws room zeros i where' =
      ap (λ z. word z i) (pasted base ws room zeros) ∙ paste_outside (base + head) i values ws (apart where')
    where
      apart : (i < base + head) ⊎ (base + component_words g s ≤ i) → (i < base + head) ⊎ (base + head + length values ≤ i)
      apart (inl h) = inl h
      apart (inr h) = inr (omega (arith, h, images_length g members))

  pub component_starts : StartsComponent g s (plan_of_component g s)
  component_starts = record {
    length_is = λ base ws. started_length base (plan_of_component g s) ws;
    cells = λ base ws room zeros x path m b low high n h. lone_word base ws room zeros x path m (Simple b low high n) h (omega arith);
    head = λ base ws room i zeros less. before base ws room zeros (base + i) (inl (omega (arith, less))) ∙ zeros i (omega (arith, less));
    queues = λ base ws room x path m zeros h. lone_word base ws room zeros x path m Queue h (omega arith);
    heads = λ base ws room x path m i r inner zeros h class less.
        part_word base ws room zeros x path m i (ComponentOf r inner) h (class_room r inner i class less) ∙ class_zero r inner i class less;
    outside = λ base ws room i zeros where'. before base ws room zeros i (beyond base i where');
  }
    where
      beyond : (base i : ℕ) → (i < base) ⊎ (base + component_words g s ≤ i) → (i < base + head) ⊎ (base + component_words g s ≤ i)
      beyond base i (inl h) = inl (omega (arith, h))
      beyond base i (inr h) = inr h

      class_room : (r : System) (inner : Members) (i : ℕ) → r.sort ≡ Class → i < head_words g r → i < words g (ComponentOf r inner)
      class_room r inner i is less = subst (λ z. i < of_sort.component_words z (1 + rights_in g r + words_of_members g inner)) (sym is) (omega (arith, less))

      class_zero : (r : System) (inner : Members) (i : ℕ) → r.sort ≡ Class → i < head_words g r → slice_index_or (image g (ComponentOf r inner)) i (pos 0) ≡ pos 0
      class_zero r inner i is less =
          ap (λ z. slice_index_or (image_of_class z (replicate (head_words g r) (pos 0) ++ images g inner)) i (pos 0)) is
          ∙ get_or_append_left (replicate (head_words g r) (pos 0)) (images g inner) (pos 0) i (omega (arith, less, length-replicate (head_words g r) (pos 0)))
          ∙ get_or-replicate (head_words g r) i (pos 0) (pos 0) less

-- ---- Routines

abbrev images_of : GlobalScope → List (Name × Variable) → List ℤ
images_of g [] = []
images_of g (v ∷ vs) = image g v.1.type ++ images_of g vs

abbrev pub ByValue : Name × Variable → Type 0
ByValue v = (v.1.by_reference ≡ false) × Plannable false v.1.type

one_value : (g : GlobalScope) (v : Name × Variable) → ByValue v → local_words g v.1 ≡ words g v.1.type
one_value g v h = ap (λ b. if b then 1 else words g v.1.type) h.0

images_of_length : (g : GlobalScope) (vs : List (Name × Variable)) → Each ByValue vs → length (images_of g vs) ≡ locals_words g vs
images_of_length g [] h = refl
images_of_length g (v ∷ vs) h =
    length-append (image g v.1.type) (images_of g vs) ∙ omega (arith, image_length g v.1.type, one_value g v h.0, images_of_length g vs h.1)

variables_follow : (g : GlobalScope) (vs : List (Name × Variable)) → Each ByValue vs → (at : ℕ) → Follow false at (placed_variables g vs at) (images_of g vs)
variables_follow g [] h at = refl
variables_follow g (v ∷ vs) h at =
    (refl, planned_part false g v.1.type at (planned false g v.1.type h.0.1), images_of g vs, refl, variables_follow g vs h.1 (at + words g v.1.type))

variables_planned : (g : GlobalScope) (vs : List (Name × Variable)) → Each ByValue vs → (at base : ℕ) (ws : List ℤ) → base + at + locals_words g vs ≤ length ws
    → carry_out base (plan_of_parts (placed_variables g vs at)) ws ≡ paste (base + at) (images_of g vs) ws
variables_planned g vs h at base ws room =
    parts_planned false base at (placed_variables g vs at) (images_of g vs) ws (variables_follow g vs h at) (omega (arith, room, images_of_length g vs h))
    (λ is. absurd (true≢false (sym is)))

-- a part of a variable is after those before it
variable_part : (g : GlobalScope) (vs : List (Name × Variable)) → Each ByValue vs → (at k : ℕ) (x : Name) (v : Variable) (path : Path) (m : ℕ) (u : ResolvedType)
    → local_at g at vs x ≡ Some (k, v) → part g v.type path ≡ Some (m, u)
    → (d : ℕ) × (k ≡ at + d) × PartOf g (images_of g vs) (locals_words g vs) (d + m) u
variable_part g [] h at k x v path m u found there = absurd (cc)
variable_part g (w ∷ vs) h at k x v path m u found there = go (bytes_eq x w.0) found (variable_part g vs h.1 (at + local_words g w.1) k x v path m u)
  where
    size : length (image g w.1.type) ≡ words g w.1.type
    size = image_length g w.1.type

    go : (b : Bool) → (if b then Some (at, w.1) else local_at g (at + local_words g w.1) vs x) ≡ Some (k, v)
        → (local_at g (at + local_words g w.1) vs x ≡ Some (k, v) → part g v.type path ≡ Some (m, u) → (d : ℕ) × (k ≡ at + local_words g w.1 + d) × PartOf g (images_of g vs) (locals_words g vs) (d + m) u)
        → (d : ℕ) × (k ≡ at + d) × PartOf g (image g w.1.type ++ images_of g vs) (local_words g w.1 + locals_words g vs) (d + m) u
    go true found rest =
        let p = parts_start g w.1.type path m u (ap (λ z. part g z.type path) (ap variable_in found) ∙ there) in (
          0,
          place at k (sym (ap place_in found)),
          record {
            inside = omega (arith, p.inside, one_value g w h.0);
            values = λ j less.
                ap (λ n. slice_index_or (image g w.1.type ++ images_of g vs) n (pos 0)) (nothing m j)
                ∙ get_or_append_left (image g w.1.type) (images_of g vs) (pos 0) (m + j) (omega (arith, size, p.inside, less)) ∙ p.values j less;
          },
        )
      where
        variable_in : Option (ℕ × Variable) → Variable
        variable_in None = w.1
        variable_in (Some z) = z.1

        place_in : Option (ℕ × Variable) → ℕ
        place_in None = at
        place_in (Some z) = z.0

        place : (a b : ℕ) → b ≡ a → b ≡ a + 0
        place a b e = omega (arith, e)

        nothing : (a b : ℕ) → 0 + a + b ≡ a + b
        nothing a b = omega arith
    go false found rest =
        let r = rest found there in (
          local_words g w.1 + r.0,
          apart at (local_words g w.1) r.0 k r.1,
          record {
            inside = omega (arith, r.2.inside);
            values = λ j less.
                ap (λ n. slice_index_or (image g w.1.type ++ images_of g vs) n (pos 0)) (behind (local_words g w.1) (words g w.1.type) (one_value g w h.0) r.0 m j)
                ∙ part_behind (image g w.1.type) (images_of g vs) (words g w.1.type) (r.0 + m + j) size ∙ r.2.values j less;
          },
        )
      where
        apart : (a b c d : ℕ) → d ≡ a + b + c → d ≡ a + (b + c)
        apart a b c d e = omega (arith, e)

        behind : (a b : ℕ) → a ≡ b → (c d e : ℕ) → a + c + d + e ≡ b + (c + d + e)
        behind a b h c d e = omega (arith, h)

local_behind : (g : GlobalScope) (ps vs : List (Name × Variable)) (x : Name) (n : ℕ) → lookup x ps ≡ None → local_at g n (ps ++ vs) x ≡ local_at g (n + locals_words g ps) vs x
local_behind g [] vs x n h = ap (λ z. local_at g z vs x) (nothing_more n)
  where
    nothing_more : (a : ℕ) → a ≡ a + 0
    nothing_more a = omega arith
local_behind g (p ∷ ps) vs x n h = go (bytes_eq x p.0) h (local_behind g ps vs x (n + local_words g p.1))
  where
    apart : (a b c : ℕ) → a + b + c ≡ a + (b + c)
    apart a b c = omega arith

    go : (b : Bool) → (if b then Some p.1 else lookup x ps) ≡ None
        → (lookup x ps ≡ None → local_at g (n + local_words g p.1) (ps ++ vs) x ≡ local_at g (n + local_words g p.1 + locals_words g ps) vs x)
        → (if b then Some (n, p.1) else local_at g (n + local_words g p.1) (ps ++ vs) x) ≡ local_at g (n + (local_words g p.1 + locals_words g ps)) vs x
    go true h rest = absurd (cc)
    go false h rest = rest h ∙ ap (λ z. local_at g z vs x) (apart n (local_words g p.1) (locals_words g ps))

some_found : (vs : List (Name × Variable)) (i : ℕ) (v : Name × Variable) → slice_get vs i ≡ Some v → (w : Variable) × (lookup v.0 vs ≡ Some w)
some_found [] i v h = absurd (cc)
some_found (w ∷ vs) zero v h =
    (w.1, ap (λ b. if b then Some w.1 else lookup v.0 vs) (ap (bytes_eq v.0) (ap (name_in v.0) h) ∙ bytes_eq-refl v.0))
  where
    name_in : Name → Option (Name × Variable) → Name
    name_in x None = x
    name_in x (Some z) = z.0
some_found (w ∷ vs) (suc i) v h = go (bytes_eq v.0 w.0) (some_found vs i v h)
  where
    go : (b : Bool) → (u : Variable) × (lookup v.0 vs ≡ Some u) → (u : Variable) × ((if b then Some w.1 else lookup v.0 vs) ≡ Some u)
    go true rest = (w.1, refl)
    go false rest = rest

locals_append : (g : GlobalScope) (ps vs : List (Name × Variable)) → locals_words g (ps ++ vs) ≡ locals_words g ps + locals_words g vs
locals_append g [] vs = nothing (locals_words g vs)
  where
    nothing : (n : ℕ) → n ≡ 0 + n
    nothing n = omega arith
locals_append g (p ∷ ps) vs = omega (arith, locals_append g ps vs)

module _ (g : GlobalScope) (s : System) (r : Routine) (distinct : Distinct (local_variables g r ++ permanent_variables g s))
    (values : Each ByValue (declarations g r.variables)) where
  abbrev ps : List (Name × Variable)
  ps = declarations g r.parameters

  abbrev vs : List (Name × Variable)
  vs = declarations g r.variables

  abbrev first : ℕ
  first = result_words r.result + locals_words g ps

  abbrev with_result : Option Name → ℕ → List ℤ → List ℤ
  with_result None base ws = ws
  with_result (Some t) base ws = slice_set ws (base + 0) unset

  result_planned : (o : Option Name) (rest : StartPlan) (base : ℕ) (ws : List ℤ) → carry_out base (plan_of_result o rest) ws ≡ carry_out base rest (with_result o base ws)
  result_planned None rest base ws = refl
  result_planned (Some t) rest base ws = fill_before_is 0 1 unset rest base ws

  result_length : (o : Option Name) (base : ℕ) (ws : List ℤ) → length (with_result o base ws) ≡ length ws
  result_length None base ws = refl
  result_length (Some t) base ws = length-set ws (base + 0) unset

  abbrev Room : ℕ → List ℤ → Type 0
  Room base ws = base + activation_words g r ≤ length ws

  routine_pasted : (base : ℕ) (ws : List ℤ) → Room base ws
      → carry_out base (plan_of_routine g r) ws ≡ paste (base + first) (images_of g vs) (with_result r.result base ws)
  routine_pasted base ws room =
      result_planned r.result (plan_of_parts (placed_variables g vs first)) base ws
      ∙ variables_planned g vs values first base (with_result r.result base ws)
      (omega (arith, room, locals_append g ps vs, result_length r.result base ws))

  cell : (base : ℕ) (ws : List ℤ) → Room base ws → (v : Name × Variable) (i at m : ℕ) (path : Path) (b : BaseType) (low high n : ℤ)
      → slice_get vs i ≡ Some v → local g r v.0 ≡ Some (at, v.1) → part g v.1.type path ≡ Some (m, Simple b low high n)
      → word (carry_out base (plan_of_routine g r) ws) (base + (at + m)) ≡ n
  cell base ws room v i at m path b low high n is lies there =
      let w = some_found vs i v is in
      let none : lookup v.0 ps ≡ None =
      distinct_apart v.0 ps (vs ++ (result_variable g r.name r.result ++ permanent_variables g s)) w.0
      (subst Distinct (append_assoc ps (vs ++ result_variable g r.name r.result) (permanent_variables g s)
      ∙ ap (λ l. ps ++ l) (append_assoc vs (result_variable g r.name r.result) (permanent_variables g s))) distinct)
      (lookup_first v.0 vs (result_variable g r.name r.result ++ permanent_variables g s) w.0 w.1) in
      let k = variable_part g vs values first at v.0 v.1 path m (Simple b low high n) (sym (local_behind g ps vs v.0 (result_words r.result) none) ∙ lies) there in
      ap (λ z. word z (base + (at + m))) (routine_pasted base ws room)
      ∙ ap (word (paste (base + first) (images_of g vs) (with_result r.result base ws))) (place base first k.0 m at k.1)
      ∙ paste_inside (base + first) (k.0 + m) (images_of g vs) (with_result r.result base ws)
      (omega (arith, k.2.inside, images_of_length g vs values))
      (omega (arith, room, locals_append g ps vs, result_length r.result base ws, images_of_length g vs values))
      ∙ ap (λ z. slice_index_or (images_of g vs) z (pos 0)) (nothing_more (k.0 + m)) ∙ k.2.values 0 (omega arith)
    where
      place : (a b c d e : ℕ) → e ≡ b + c → a + (e + d) ≡ a + b + (c + d)
      place a b c d e h = omega (arith, h)

      nothing_more : (a : ℕ) → a ≡ a + 0
      nothing_more a = omega arith

  no_variable : (base : ℕ) (ws : List ℤ) (i : ℕ) → Room base ws → (i < base + first) ⊎ (base + activation_words g r ≤ i)
      → word (carry_out base (plan_of_routine g r) ws) i ≡ word (with_result r.result base ws) i
  no_variable base ws i room where' =
      ap (λ z. word z i) (routine_pasted base ws room) ∙ paste_outside (base + first) i (images_of g vs) (with_result r.result base ws) (apart where')
    where
      apart : (i < base + first) ⊎ (base + activation_words g r ≤ i) → (i < base + first) ⊎ (base + first + length (images_of g vs) ≤ i)
      apart (inl h) = inl h
      apart (inr h) = inr (omega (arith, h, locals_append g ps vs, images_of_length g vs values))

  result_set : (o : Option Name) (t : Name) (base : ℕ) (ws : List ℤ) → o ≡ Some t → base + result_words o ≤ length ws → word (with_result o base ws) base ≡ unset
  result_set None t base ws is room = absurd (cc)
  result_set (Some u) t base ws is room =
      ap (word (slice_set ws (base + 0) unset)) (nothing_more base) ∙ get_or-set_same ws (base + 0) unset (pos 0) (omega (arith, room))
    where
      nothing_more : (a : ℕ) → a ≡ a + 0
      nothing_more a = omega arith

  result_before : (o : Option Name) (t : Name) → o ≡ Some t → 0 < result_words o
  result_before None t is = absurd (cc)
  result_before (Some u) t is = omega arith

  result_kept : (o : Option Name) (base i : ℕ) (ws : List ℤ) → ((t : Name) → o ≡ Some t → i ≡ base → ⊥) → word (with_result o base ws) i ≡ word ws i
  result_kept None base i ws other = refl
  result_kept (Some t) base i ws other = get_or-set_other ws (base + 0) i unset (pos 0) (λ e. other t refl (omega (arith, e)))

  pub routine_starts : (start words' temps frames : ℕ)
      → Starts g r (record { start = start; starts = plan_of_routine g r; words = words'; temps = temps; frames = frames })
  routine_starts start words' temps frames = record {
    length_is = λ base ws. started_length base (plan_of_routine g r) ws;
    variables = cell;
    result = λ base ws t room is.
        no_variable base ws base room (inl (omega (arith, result_before r.result t is))) ∙ result_set r.result t base ws is (omega (arith, room));
    outside = λ base ws i room where' other. no_variable base ws i room where' ∙ result_kept r.result base i ws other;
  }
