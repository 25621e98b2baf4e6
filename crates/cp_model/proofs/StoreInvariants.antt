-- How writes, start values and forgotten activations preserve the invariant of a store and of a
-- continuation.
use Rattle.std.specs.Prelude.{Bool, List, None, Some, [], false, flat_map, if◌then◌else◌, map, nat_eq, nat_lt, refl, true, zip, ℕ, ℤ, ◌&&◌, ◌++◌, ◌<◌, ◌∷◌, ◌≡◌, ◌≢◌}
use Rattle.std.proofs.Common.{ap, arith, subst, sym, ◌∙◌}
use Rattle.std.proofs.lemmas.Bool.{eq-eqb, eqb-false, eqb-true}
use Rattle.cp_model.specs.Abstract.{Assign, Case, Class, Cycle, Expression, For, If, Init, Monitor, Name, Nothing, Perform, Process, Repeat, Seq, Sort, Statement, While}
use Rattle.cp_model.specs.Types.{ArrayOf, ComponentOf, Members, MoreMembers, NoMembers, NoType, Queue, RecordOf, ResolvedType, Simple}
use Rattle.cp_model.specs.Declarations.{Variable}
use Rattle.cp_model.specs.Locations.{ByIndex, ByName, Location, OfActivation, OfMonitor, OfProcess, Owner, PathStep, same_location, same_owner, under}
use Rattle.cp_model.specs.Stores.{Absent, ClassRight, Initialised, MonitorRight, Ordinal, QueueHolds, Reference, Store, Value, Writes, forget, put, put_all}
use Rattle.cp_model.specs.Leaves.{Leaf, below_step, component_leaves, integers_from, leaves, leaves_of_members}
use Rattle.cp_model.specs.Integers.{count_between}
use Rattle.cp_model.specs.Outcomes.{guard}
use Rattle.cp_model.specs.Environments.{Environment}
use Rattle.cp_model.specs.Places.{TypedValue, ordinal_in, ordinal_of, within}
use Rattle.cp_model.specs.Continuations.{Do, EndBody, EndCall, EndProcess, ForNext, RepeatTest, Task, WhileTest, depth, marked_monitors, push}
use Rattle.cp_model.specs.Assignments.{starting_writes, writes_of}
use Rattle.cp_model.specs.States.{is_in}
use Rattle.cp_model.specs.Start.{start}
use Rattle.cp_model.specs.Reach.{in_reach}
use Rattle.cp_model.specs.Invariant.{ContinuationInvariant, EnvironmentIn, FramesInvariant, IsActivation, NoneBeyond, StoreInvariant, TasksInReach}
use Rattle.cp_model.specs.Laws.{ReferencesAreInReach}
use Rattle.cp_model.proofs.MixedStores.{IsClosed, same_owner-eq}
use Rattle.cp_model.proofs.ExpressionReach.{IfGives}

-- What holds of a list also holds when statements of an environment are put before it.
pub push_keeps : (Q : List Task → Type 0) (env : Environment)
    → ((s : Statement) (k : List Task) → Q k → Q (Do s env ∷ k))
    → ((now e : Expression) (s : Statement) (k : List Task) → Q k → Q (WhileTest now e s env ∷ k))
    → ((now e : Expression) (s : Statement) (k : List Task) → Q k → Q (RepeatTest now s e env ∷ k))
    → (s : Statement) (k : List Task) → Q k → Q (push s env k)
push_keeps Q env a b c Nothing k h = h
push_keeps Q env a b c (Seq x y) k h = push_keeps Q env a b c x (push y env k) (push_keeps Q env a b c y k h)
push_keeps Q env a b c (While e s) k h = b e e s k h
push_keeps Q env a b c (Repeat s e) k h = push_keeps Q env a b c s (RepeatTest e s e env ∷ k) (c e e s k h)
push_keeps Q env a b c (Assign d e) k h = a (Assign d e) k h
push_keeps Q env a b c (Perform d arguments) k h = a (Perform d arguments) k h
push_keeps Q env a b c (If e x y) k h = a (If e x y) k h
push_keeps Q env a b c (Case e arms) k h = a (Case e arms) k h
push_keeps Q env a b c (For v down e f s) k h = a (For v down e f s) k h
push_keeps Q env a b c (Cycle s) k h = a (Cycle s) k h
push_keeps Q env a b c (Init x arguments) k h = a (Init x arguments) k h

-- A list with more tasks but no more end marks.
record Behind (p : ℕ) (st : Store) (ms : List ℕ) (n : ℕ) (k : List Task) : Type 0 where
  pub gates : marked_monitors k ≡ ms
  pub deep : depth k ≡ n
  pub tasks : TasksInReach p k
  pub frames : FramesInvariant p st k

pub push_continuation : (p : ℕ) (st : Store) (s : Statement) (env : Environment) (k : List Task)
    → EnvironmentIn (in_reach p (marked_monitors k)) env → ContinuationInvariant p st k → ContinuationInvariant p st (push s env k)
push_continuation p st s env k h o =
    let b = push_keeps (Behind p st (marked_monitors k) (depth k)) env
    (λ x l g. record { gates = g.gates; deep = g.deep; tasks = (subst (λ ms. EnvironmentIn (in_reach p ms) env) (sym g.gates) h, g.tasks); frames = g.frames })
    (λ x e y l g. record { gates = g.gates; deep = g.deep; tasks = (subst (λ ms. EnvironmentIn (in_reach p ms) env) (sym g.gates) h, g.tasks); frames = g.frames })
    (λ x e y l g. record { gates = g.gates; deep = g.deep; tasks = (subst (λ ms. EnvironmentIn (in_reach p ms) env) (sym g.gates) h, g.tasks); frames = g.frames })
    s k (record { gates = refl; deep = refl; tasks = o.tasks; frames = o.frames })
    in record { tasks = b.tasks; frames = b.frames; beyond = subst (λ n. NoneBeyond p st n) (sym b.deep) o.beyond }

-- ---- Stores with no new references

abbrev pub NoNewReference : Store → Store → Type 0
NoNewReference st st' = (l j : Location) → st' l ≡ Reference j → st l ≡ Reference j

pub frames_keep_store : (p : ℕ) (st st' : Store) (k : List Task) → NoNewReference st st' → FramesInvariant p st k
    → FramesInvariant p st' k
frames_keep_store p st st' [] n h = tt
frames_keep_store p st st' (EndCall env gate ∷ k) n h = (
  record
      { frame = h.0.frame; references = λ l j o e. h.0.references l j o (n l j e) },
  frames_keep_store p st st' k n h.1,
)
frames_keep_store p st st' (Do s env ∷ k) n h = frames_keep_store p st st' k n h
frames_keep_store p st st' (WhileTest now e s env ∷ k) n h = frames_keep_store p st st' k n h
frames_keep_store p st st' (RepeatTest now s e env ∷ k) n h = frames_keep_store p st st' k n h
frames_keep_store p st st' (ForNext v down x last s env ∷ k) n h = frames_keep_store p st st' k n h
frames_keep_store p st st' (EndBody gate ∷ k) n h = frames_keep_store p st st' k n h
frames_keep_store p st st' (EndProcess ∷ k) n h = frames_keep_store p st st' k n h

pub continuation_keeps_store : (p : ℕ) (st st' : Store) (k : List Task) → NoNewReference st st'
    → ContinuationInvariant p st k → ContinuationInvariant p st' k
continuation_keeps_store p st st' k n o = record {
  tasks = o.tasks;
  frames = frames_keep_store p st st' k n o.frames;
  beyond = λ l j d h e f. o.beyond l j d h e (n l j f);
}

-- A write of something that isn't a reference, or of a right to a class of the same owner.
abbrev pub KeepsStore : Location → Value → Type 0
KeepsStore l (Reference j) = ⊥
KeepsStore l (ClassRight j) = j.owner ≡ l.owner
KeepsStore l _ = Unit {0}

abbrev pub AllKeepStore : Writes → Type 0
AllKeepStore [] = Unit {0}
AllKeepStore (w ∷ ws) = KeepsStore w.0 w.1 × AllKeepStore ws

put_no_new_reference : (st : Store) (l : Location) (v : Value) → KeepsStore l v → NoNewReference st (put l v st)
put_no_new_reference st l v h k j e = go (same_location l k) refl e
  where
    is_no : (x : Value) → KeepsStore l x → x ≡ Reference j → ⊥
    is_no (Reference i) h e = h
    is_no (ClassRight i) h e = Prim.grind arith
    is_no Absent h e = Prim.grind arith
    is_no (Ordinal n) h e = Prim.grind arith
    is_no (QueueHolds w) h e = Prim.grind arith
    is_no (MonitorRight m) h e = Prim.grind arith
    is_no (Initialised b) h e = Prim.grind arith

    go : (b : Bool) → same_location l k ≡ b → (if b then v else st k) ≡ Reference j → st k ≡ Reference j
    go true f e = absurd (is_no v h e)
    go false f e = e

pub same_owner_of : (l k : Location) → same_location l k ≡ true → l.owner ≡ k.owner
same_owner_of l k e = same_owner-eq l.owner k.owner (continuation (same_owner l.owner k.owner) _ e)
  where
    continuation : (x y : Bool) → (x && y) ≡ true → x ≡ true
    continuation true y h = refl
    continuation false y h = h

put_store : (st : Store) (l : Location) (v : Value) → KeepsStore l v → StoreInvariant st → StoreInvariant (put l v st)
put_store st l v h o = record {
  references = λ k j e. o.references k j (put_no_new_reference st l v h k j e);
  classes = λ k j e. go k j (same_location l k) refl e;
}
  where
    is_class : (x : Value) (j : Location) → KeepsStore l x → x ≡ ClassRight j → j.owner ≡ l.owner
    is_class (ClassRight i) j h e = Prim.grind (arith, h)
    is_class (Reference i) j h e = absurd h
    is_class Absent j h e = absurd (Prim.grind arith)
    is_class (Ordinal n) j h e = absurd (Prim.grind arith)
    is_class (QueueHolds w) j h e = absurd (Prim.grind arith)
    is_class (MonitorRight m) j h e = absurd (Prim.grind arith)
    is_class (Initialised b) j h e = absurd (Prim.grind arith)

    go : (k j : Location) (b : Bool) → same_location l k ≡ b → (if b then v else st k) ≡ ClassRight j → j.owner ≡ k.owner
    go k j true f e = is_class v j h e ∙ same_owner_of l k f
    go k j false f e = o.classes k j e

pub put_all_no_new_reference : (ws : Writes) (st : Store) → AllKeepStore ws → NoNewReference st (put_all ws st)
put_all_no_new_reference [] st h l j e = e
put_all_no_new_reference (w ∷ ws) st h l j e = put_no_new_reference st w.0 w.1 h.0 l j
    (put_all_no_new_reference ws (put w.0 w.1 st) h.1 l j e)

pub put_all_store : (ws : Writes) (st : Store) → AllKeepStore ws → StoreInvariant st → StoreInvariant (put_all ws st)
put_all_store [] st h o = o
put_all_store (w ∷ ws) st h o = put_all_store ws (put w.0 w.1 st) h.1 (put_store st w.0 w.1 h.0 o)

-- ---- What is forgotten

same-refl : (o : Owner) → same_owner o o ≡ true
same-refl (OfProcess p) = eq-eqb p p refl
same-refl (OfMonitor p) = eq-eqb p p refl
same-refl (OfActivation p d) = rw (eq-eqb p p refl, eq-eqb d d refl) refl

pub forget_no_new_reference : (o : Owner) (st : Store) → NoNewReference st (forget o st)
forget_no_new_reference o st l j e = go (same_owner o l.owner) e
  where
    go : (b : Bool) → (if b then Absent else st l) ≡ Reference j → st l ≡ Reference j
    go true e = absurd (Prim.grind arith)
    go false e = e

pub forget_store : (o : Owner) (st : Store) → StoreInvariant st → StoreInvariant (forget o st)
forget_store o st h = record { references = λ l j e. h.references l j (forget_no_new_reference o st l j e); classes = λ l j e. go l j (same_owner o l.owner) e }
  where
    go : (l j : Location) (b : Bool) → (if b then Absent else st l) ≡ ClassRight j → j.owner ≡ l.owner
    go l j true e = absurd (Prim.grind arith)
    go l j false e = h.classes l j e

pub forgotten : (o : Owner) (st : Store) (l j : Location) → l.owner ≡ o → forget o st l ≢ Reference j
forgotten o st l j h e = go (same_owner o l.owner) (rw h (same-refl o)) e
  where
    go : (b : Bool) → b ≡ true → (if b then Absent else st l) ≡ Reference j → ⊥
    go true f e = Prim.grind arith
    go false f e = Prim.grind arith

-- ---- Gates and depth

pub in_reach_more : (p m : ℕ) (ms : List ℕ) (o : Owner) → in_reach p ms o ≡ true → in_reach p (m ∷ ms) o ≡ true
in_reach_more p m ms (OfProcess q) h = h
in_reach_more p m ms (OfActivation q d) h = h
in_reach_more p m ms (OfMonitor n) h = go (nat_eq n m)
  where
    go : (b : Bool) → (if b then true else is_in n ms) ≡ true
    go true = refl
    go false = h

in_reach_tail : (p : ℕ) (i : Task) (k : List Task) (o : Owner) → in_reach p (marked_monitors k) o ≡ true
    → in_reach p (marked_monitors (i ∷ k)) o ≡ true
in_reach_tail p (EndCall env (Some m)) k o h = in_reach_more p m (marked_monitors k) o h
in_reach_tail p (EndCall env None) k o h = h
in_reach_tail p (EndBody (Some m)) k o h = in_reach_more p m (marked_monitors k) o h
in_reach_tail p (EndBody None) k o h = h
in_reach_tail p (Do s env) k o h = h
in_reach_tail p (WhileTest now e s env) k o h = h
in_reach_tail p (RepeatTest now s e env) k o h = h
in_reach_tail p (ForNext v down x last s env) k o h = h
in_reach_tail p EndProcess k o h = h

pub frame_refers : (p : ℕ) (st : Store) (k : List Task) (l j : Location) (d : ℕ) → FramesInvariant p st k → d < depth k
    → l.owner ≡ OfActivation p d → st l ≡ Reference j
    → in_reach p (marked_monitors k) j.owner ≡ true
frame_refers p st [] l j d f h o e = absurd (Prim.omega arith)
frame_refers p st (EndCall env gate ∷ k) l j d f h o e = in_reach_tail p (EndCall env gate) k j.owner
    (go (nat_eq d (depth k)) refl (λ g. frame_refers p st k l j d f.1 g o e))
  where
    go : (b : Bool) → nat_eq d (depth k) ≡ b → (d < depth k → in_reach p (marked_monitors k) j.owner ≡ true)
        → in_reach p (marked_monitors k) j.owner ≡ true
    go true g ih = f.0.references l j (o ∙ ap (λ n. OfActivation p n) (eqb-true d (depth k) g)) e
    go false g ih = ih (lesser (eqb-false d (depth k) g))
      where
        lesser : (d ≡ depth k → ⊥) → d < depth k
        lesser n = Prim.grind arith
frame_refers p st (Do s env ∷ k) l j d f h o e = frame_refers p st k l j d f h o e
frame_refers p st (WhileTest now x s env ∷ k) l j d f h o e = frame_refers p st k l j d f h o e
frame_refers p st (RepeatTest now s x env ∷ k) l j d f h o e = frame_refers p st k l j d f h o e
frame_refers p st (ForNext v down x last s env ∷ k) l j d f h o e = frame_refers p st k l j d f h o e
frame_refers p st (EndBody gate ∷ k) l j d f h o e = in_reach_tail p (EndBody gate) k j.owner
    (frame_refers p st k l j d f h o e)
frame_refers p st (EndProcess ∷ k) l j d f h o e = frame_refers p st k l j d f h o e

-- What a process names in its reach stays in its reach.
pub is_closed : (p : ℕ) (st : Store) (k : List Task) → StoreInvariant st → ContinuationInvariant p st k
    → IsClosed (in_reach p (marked_monitors k)) st
is_closed p st k s o = record { references = λ l j h e. go l j l.owner refl h e (s.references l j e); classes = λ l j h e. rw (s.classes l j e) h }
  where
    lesser : (l j : Location) (d : ℕ) → l.owner ≡ OfActivation p d → st l ≡ Reference j → in_reach p (marked_monitors k) j.owner
        ≡ true
    lesser l j d f e = by (nat_lt d (depth k)) refl
      where
        by : (b : Bool) → nat_lt d (depth k) ≡ b → in_reach p (marked_monitors k) j.owner ≡ true
        by true g = frame_refers p st k l j d o.frames (Prim.grind arith) f e
        by false g = absurd (o.beyond l j d (Prim.grind arith) f e)

    go : (l j : Location) (w : Owner) → l.owner ≡ w → in_reach p (marked_monitors k) l.owner ≡ true → st l ≡ Reference j
        → IsActivation l.owner → in_reach p (marked_monitors k) j.owner ≡ true
    go l j (OfActivation q d) f h e a =
        let x : nat_eq p q ≡ true = subst (λ y. in_reach p (marked_monitors k) y ≡ true) f h in
        lesser l j d (f ∙ ap (λ n. OfActivation n d) (sym (eqb-true p q x))) e
    go l j (OfProcess q) f h e a = absurd (subst (λ y. IsActivation y) f a)
    go l j (OfMonitor q) f h e a = absurd (subst (λ y. IsActivation y) f a)

-- ---- Writes

zip_keeps_store : (at : Location) (ps : List Leaf) (vs : List Value)
    → AllKeepStore (zip (map (λ leaf. under at leaf.0) ps) (map (λ x. Ordinal (ordinal_in x)) vs))
zip_keeps_store at [] vs = tt
zip_keeps_store at (p ∷ ps) [] = tt
zip_keeps_store at (p ∷ ps) (v ∷ vs) = (tt, zip_keeps_store at ps vs)

pub writes_keep_store : (at : Location) (s : ResolvedType) (v : TypedValue) → IfGives AllKeepStore (writes_of at s v)
writes_keep_store at (Simple b low high start) v = go (within low high (ordinal_of v))
  where
    go : (x : Bool) → IfGives AllKeepStore (guard x 1 ((at, Ordinal (ordinal_of v)) ∷ []))
    go true = (tt, tt)
    go false = tt
writes_keep_store at (ArrayOf low high e) v = zip_keeps_store at (leaves (ArrayOf low high e)) v.values
writes_keep_store at (RecordOf ps) v = zip_keeps_store at (leaves (RecordOf ps)) v.values
writes_keep_store at Queue v = zip_keeps_store at (leaves Queue) v.values
writes_keep_store at (ComponentOf s i) v = zip_keeps_store at (leaves (ComponentOf s i)) v.values
writes_keep_store at NoType v = tt

-- The start values of variables hold no references.
abbrev pub IsPlain : Value → Type 0
IsPlain (Reference j) = ⊥
IsPlain (ClassRight j) = ⊥
IsPlain _ = Unit {0}

abbrev pub AllPlain : List Leaf → Type 0
AllPlain [] = Unit {0}
AllPlain (p ∷ ps) = IsPlain p.1 × AllPlain ps

plain_append : (ps qs : List Leaf) → AllPlain ps → AllPlain qs → AllPlain (ps ++ qs)
plain_append [] qs h k = k
plain_append (p ∷ ps) qs h k = (h.0, plain_append ps qs h.1 k)

plain_below_step : (s : PathStep) (ps : List Leaf) → AllPlain ps → AllPlain (map (below_step s) ps)
plain_below_step s [] h = tt
plain_below_step s (p ∷ ps) h = (h.0, plain_below_step s ps h.1)

plain_flat : (is : List ℤ) (ps : List Leaf) → AllPlain ps → AllPlain (flat_map (λ i. map (below_step (ByIndex i)) ps) is)
plain_flat [] ps h = tt
plain_flat (i ∷ is) ps h = plain_append (map (below_step (ByIndex i)) ps) _ (plain_below_step (ByIndex i) ps h)
    (plain_flat is ps h)

mutual
  pub leaves_plain : (s : ResolvedType) → AllPlain (leaves s)
  leaves_plain (Simple b low high start) = (tt, tt)
  leaves_plain (ArrayOf low high e) = plain_flat (integers_from low (count_between low high)) (leaves e) (leaves_plain e)
  leaves_plain (RecordOf ps) = leaves_of_members_plain ps
  leaves_plain Queue = (tt, tt)
  leaves_plain (ComponentOf s ps) = by_sort s.sort (leaves_of_members ps) (leaves_of_members_plain ps)
    where
      by_sort : (x : Sort) (qs : List Leaf) → AllPlain qs → AllPlain (component_leaves x qs)
      by_sort Process qs h = tt
      by_sort Monitor qs h = tt
      by_sort Class qs h = (tt, h)
  leaves_plain NoType = tt

  pub leaves_of_members_plain : (ps : Members) → AllPlain (leaves_of_members ps)
  leaves_of_members_plain NoMembers = tt
  leaves_of_members_plain (MoreMembers x s ps) = plain_append (map (below_step (ByName x)) (leaves s)) _
      (plain_below_step (ByName x) (leaves s) (leaves_plain s)) (leaves_of_members_plain ps)

starting_writes_keep_one : (at : Location) (x : Name) (ps : List Leaf) (rest : Writes) → AllPlain ps → AllKeepStore rest
    → AllKeepStore (map (λ leaf. (under at (ByName x ∷ leaf.0), leaf.1)) ps ++ rest)
starting_writes_keep_one at x [] rest h k = k
starting_writes_keep_one at x (p ∷ ps) rest h k = (plain_keeps p.1 h.0, starting_writes_keep_one at x ps rest h.1 k)
  where
    plain_keeps : (v : Value) → IsPlain v → KeepsStore (under at (ByName x ∷ p.0)) v
    plain_keeps (Reference j) h = h
    plain_keeps (ClassRight j) h = absurd h
    plain_keeps Absent h = tt
    plain_keeps (Ordinal n) h = tt
    plain_keeps (QueueHolds w) h = tt
    plain_keeps (MonitorRight m) h = tt
    plain_keeps (Initialised b) h = tt

pub starting_writes_keep : (at : Location) (vs : List (Name × Variable)) → AllKeepStore (starting_writes at vs)
starting_writes_keep at [] = tt
starting_writes_keep at (v ∷ vs) = starting_writes_keep_one at v.0 (leaves v.1.type) (starting_writes at vs)
    (leaves_plain v.1.type) (starting_writes_keep at vs)

-- ---- Reach

pub references_in_reach : ReferencesAreInReach
references_in_reach s p d l j i o e =
    (is_closed p s.store (s.continuation p) i.store (i.continuations p)).references l j (rw o (eq-eqb p p refl)) e
