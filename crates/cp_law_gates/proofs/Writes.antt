-- Writes that keep the rights of monitors in order and put nobody into a queue.
use Rattle.std.proofs.Common.{◌≡◌, ℕ, ◌<◌, ℤ, List, [], ◌∷◌, ◌++◌, Bool, true, false, Option, Some, None, refl, ap, subst, ◌∙◌, arith, map, zip, flat_map}
use Rattle.std.specs.Prelude.{if◌then◌else◌}
use Rattle.cp_model.specs.Abstract.{Class, Monitor, Name, Process, Sort}
use Rattle.cp_model.specs.Types.{ArrayOf, ComponentOf, Members, MoreMembers, NoMembers, NoType, Queue, RecordOf, ResolvedType, Simple}
use Rattle.cp_model.specs.Declarations.{Variable}
use Rattle.cp_model.specs.Integers.{count_between}
use Rattle.cp_model.specs.Locations.{ByIndex, ByName, Location, OfMonitor, Owner, PathStep, same_location, same_owner, under}
use Rattle.cp_model.specs.Stores.{Absent, ClassRight, Initialised, MonitorRight, Ordinal, QueueHolds, Reference, Store, Value, Writes, forget, put, put_all}
use Rattle.cp_model.specs.Leaves.{Leaf, below_step, component_leaves, integers_from, leaves, leaves_of_members}
use Rattle.cp_model.specs.Outcomes.{guard}
use Rattle.cp_model.specs.Places.{TypedValue, ordinal_in, ordinal_of, within}
use Rattle.cp_model.specs.Assignments.{starting_writes, writes_of}
use Rattle.cp_model.proofs.ExpressionReach.{IfGives}
use Rattle.cp_model.proofs.StoreInvariants.{same_owner_of}
use Rattle.cp_law_gates.specs.InOrder.{RightsDescend}
use Rattle.cp_law_gates.specs.Effects.{NoNewQueue}

module _ (place : ℕ → ℕ) where
  abbrev pub IsTame : Location → Value → Type 0
  IsTame l (MonitorRight n) = (m : ℕ) → l.owner ≡ OfMonitor m → place n < place m
  IsTame l (QueueHolds (Some r)) = ⊥
  IsTame l (QueueHolds None) = Unit {0}
  IsTame l _ = Unit {0}

  abbrev pub AllTame : Writes → Type 0
  AllTame [] = Unit {0}
  AllTame (w ∷ ws) = IsTame w.0 w.1 × AllTame ws

  right_tame : (l : Location) (v : Value) (n : ℕ) → IsTame l v → v ≡ MonitorRight n → (m : ℕ) → l.owner ≡ OfMonitor m → place n < place m
  right_tame l (MonitorRight k) n h e m o = subst (λ x. place x < place m) (ap number e) (h m o)
    where
      number : Value → ℕ
      number (MonitorRight x) = x
      number _ = 0
  right_tame l (QueueHolds w) n h e m o = absurd (grind arith)
  right_tame l Absent n h e m o = absurd (grind arith)
  right_tame l (Ordinal k) n h e m o = absurd (grind arith)
  right_tame l (ClassRight k) n h e m o = absurd (grind arith)
  right_tame l (Reference k) n h e m o = absurd (grind arith)
  right_tame l (Initialised k) n h e m o = absurd (grind arith)

  queue_tame : (l : Location) (v : Value) (r : ℕ) → IsTame l v → v ≡ QueueHolds (Some r) → ⊥
  queue_tame l (QueueHolds (Some k)) r h e = h
  queue_tame l (QueueHolds None) r h e = no (ap held e)
    where
      held : Value → Option ℕ
      held (QueueHolds x) = x
      held _ = None

      no : None ≡ Some r → ⊥
      no e = grind arith
  queue_tame l (MonitorRight k) r h e = grind arith
  queue_tame l Absent r h e = grind arith
  queue_tame l (Ordinal k) r h e = grind arith
  queue_tame l (ClassRight k) r h e = grind arith
  queue_tame l (Reference k) r h e = grind arith
  queue_tame l (Initialised k) r h e = grind arith

  put_rights : (l : Location) (v : Value) (st : Store) → IsTame l v → RightsDescend place st → RightsDescend place (put l v st)
  put_rights l v st t R k m n o e = by (same_location l k) refl e
    where
      by : (b : Bool) → same_location l k ≡ b → (if b then v else st k) ≡ MonitorRight n → place n < place m
      by true x y = right_tame l v n t y m (same_owner_of l k x ∙ o)
      by false x y = R k m n o y

  pub puts_rights : (ws : Writes) (st : Store) → AllTame ws → RightsDescend place st → RightsDescend place (put_all ws st)
  puts_rights [] st t R = R
  puts_rights (w ∷ ws) st t R = puts_rights ws (put w.0 w.1 st) t.1 (put_rights w.0 w.1 st t.0 R)

  put_queues : (l : Location) (v : Value) (st : Store) → IsTame l v → NoNewQueue st (put l v st)
  put_queues l v st t k r e = by (same_location l k) e
    where
      by : (b : Bool) → (if b then v else st k) ≡ QueueHolds (Some r) → st k ≡ QueueHolds (Some r)
      by true y = absurd (queue_tame l v r t y)
      by false y = y

  pub puts_queues : (ws : Writes) (st : Store) → AllTame ws → NoNewQueue st (put_all ws st)
  puts_queues [] st t l r e = e
  puts_queues (w ∷ ws) st t l r e = put_queues w.0 w.1 st t.0 l r (puts_queues ws (put w.0 w.1 st) t.1 l r e)

  pub append_tame : (ws vs : Writes) → AllTame ws → AllTame vs → AllTame (ws ++ vs)
  append_tame [] vs h k = k
  append_tame (w ∷ ws) vs h k = (h.0, append_tame ws vs h.1 k)

  zip_tame : (at : Location) (ps : List Leaf) (vs : List Value) → AllTame (zip (map (λ leaf. under at leaf.0) ps) (map (λ x. Ordinal (ordinal_in x)) vs))
  zip_tame at [] vs = tt
  zip_tame at (p ∷ ps) [] = tt
  zip_tame at (p ∷ ps) (v ∷ vs) = (tt, zip_tame at ps vs)

  pub writes_tame : (at : Location) (x : ResolvedType) (v : TypedValue) → IfGives AllTame (writes_of at x v)
  writes_tame at (Simple b low high start) v = go (within low high (ordinal_of v))
    where
      go : (y : Bool) → IfGives AllTame (guard y 1 ((at, Ordinal (ordinal_of v)) ∷ []))
      go true = (tt, tt)
      go false = tt
  writes_tame at (ArrayOf low high e) v = zip_tame at (leaves (ArrayOf low high e)) v.values
  writes_tame at (RecordOf ps) v = zip_tame at (leaves (RecordOf ps)) v.values
  writes_tame at Queue v = zip_tame at (leaves Queue) v.values
  writes_tame at (ComponentOf s i) v = zip_tame at (leaves (ComponentOf s i)) v.values
  writes_tame at NoType v = tt

  -- ---- Start values

  IsStill : Value → Type 0
  IsStill (MonitorRight n) = ⊥
  IsStill (QueueHolds (Some r)) = ⊥
  IsStill (QueueHolds None) = Unit {0}
  IsStill _ = Unit {0}

  AllStill : List Leaf → Type 0
  AllStill [] = Unit {0}
  AllStill (p ∷ ps) = IsStill p.1 × AllStill ps

  still_append : (ps qs : List Leaf) → AllStill ps → AllStill qs → AllStill (ps ++ qs)
  unfolding AllStill
  still_append [] qs h k = k
  still_append (p ∷ ps) qs h k = (h.0, still_append ps qs h.1 k)

  still_below : (s : PathStep) (ps : List Leaf) → AllStill ps → AllStill (map (below_step s) ps)
  unfolding AllStill
  still_below s [] h = tt
  still_below s (p ∷ ps) h = (h.0, still_below s ps h.1)

  still_flat : (is : List ℤ) (ps : List Leaf) → AllStill ps → AllStill (flat_map (λ i. map (below_step (ByIndex i)) ps) is)
  unfolding AllStill
  still_flat [] ps h = tt
  still_flat (i ∷ is) ps h = still_append (map (below_step (ByIndex i)) ps) _ (still_below (ByIndex i) ps h) (still_flat is ps h)

  mutual
    unfolding AllStill IsStill

    leaves_still : (s : ResolvedType) → AllStill (leaves s)
    leaves_still (Simple b low high start) = (tt, tt)
    leaves_still (ArrayOf low high e) = still_flat (integers_from low (count_between low high)) (leaves e) (leaves_still e)
    leaves_still (RecordOf ps) = members_still ps
    leaves_still Queue = (tt, tt)
    leaves_still (ComponentOf s ps) = by_sort s.sort (leaves_of_members ps) (members_still ps)
      where
        by_sort : (x : Sort) (qs : List Leaf) → AllStill qs → AllStill (component_leaves x qs)
        by_sort Process qs h = tt
        by_sort Monitor qs h = tt
        by_sort Class qs h = (tt, h)
    leaves_still NoType = tt

    members_still : (ps : Members) → AllStill (leaves_of_members ps)
    members_still NoMembers = tt
    members_still (MoreMembers x s ps) = still_append (map (below_step (ByName x)) (leaves s)) _ (still_below (ByName x) (leaves s) (leaves_still s)) (members_still ps)

  still_tame : (l : Location) (v : Value) → IsStill v → IsTame l v
  unfolding IsStill
  still_tame l (MonitorRight n) h = absurd h
  still_tame l (QueueHolds (Some r)) h = h
  still_tame l (QueueHolds None) h = tt
  still_tame l Absent h = tt
  still_tame l (Ordinal n) h = tt
  still_tame l (ClassRight k) h = tt
  still_tame l (Reference k) h = tt
  still_tame l (Initialised b) h = tt

  placed_tame : (at : Location) (x : Name) (ps : List Leaf) (rest : Writes) → AllStill ps → AllTame rest
      → AllTame (map (λ leaf. (under at (ByName x ∷ leaf.0), leaf.1)) ps ++ rest)
  unfolding AllStill
  placed_tame at x [] rest h k = k
  placed_tame at x (p ∷ ps) rest h k = (still_tame (under at (ByName x ∷ p.0)) p.1 h.0, placed_tame at x ps rest h.1 k)

  pub starting_tame : (at : Location) (vs : List (Name × Variable)) → AllTame (starting_writes at vs)
  starting_tame at [] = tt
  starting_tame at (v ∷ vs) = placed_tame at v.0 (leaves v.1.type) (starting_writes at vs) (leaves_still v.1.type) (starting_tame at vs)

  pub members_tame : (at : Location) (ps : Members) → AllTame (map (λ leaf. (under at leaf.0, leaf.1)) (leaves_of_members ps))
  unfolding AllStill
  members_tame at ps = go (leaves_of_members ps) (members_still ps)
    where
      go : (qs : List Leaf) → AllStill qs → AllTame (map (λ leaf. (under at leaf.0, leaf.1)) qs)
      go [] h = tt
      go (q ∷ qs) h = (still_tame (under at q.0) q.1 h.0, go qs h.1)

  -- ---- What is forgotten

  pub forget_rights : (o : Owner) (st : Store) → RightsDescend place st → RightsDescend place (forget o st)
  forget_rights o st R l m n h e = by (same_owner o l.owner) e
    where
      by : (b : Bool) → (if b then Absent else st l) ≡ MonitorRight n → place n < place m
      by true x = absurd (grind arith)
      by false x = R l m n h x

pub forget_queues : (o : Owner) (st : Store) → NoNewQueue st (forget o st)
forget_queues o st l r e = by (same_owner o l.owner) e
  where
    by : (b : Bool) → (if b then Absent else st l) ≡ QueueHolds (Some r) → st l ≡ QueueHolds (Some r)
    by true x = absurd (grind arith)
    by false x = x

pub queues_then : (a b c : Store) → NoNewQueue a b → NoNewQueue b c → NoNewQueue a c
queues_then a b c f g l r e = f l r (g l r e)
