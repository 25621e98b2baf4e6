-- If a process runs, its words mean what its names mean.
--
-- The tasks before the end mark of a routine don't change the innermost activation, so its locals
-- are found in it at their offsets; members are found in the component, which no activation
-- hides.
use Rattle.std.proofs.Common.{◌≡◌, ℕ, suc, ◌+◌, ◌<◌, ℤ, List, [], ◌∷◌, length, Bool, true, false, Option, Some, None, refl, ap, sym, subst, ◌∙◌, arith}
use Rattle.std.specs.Prelude.{if◌then◌else◌, nat_eq}
use Rattle.std.proofs.lemmas.Bool.{eq-eqb, eqb-true, ne_eqb}
use Rattle.cp_model.specs.Abstract.{Name, System}
use Rattle.cp_model.specs.Declarations as declared
use Rattle.cp_model.specs.Declarations.{reported_members}
use Rattle.cp_model.specs.Environments.{Environment, Frame}
use Rattle.cp_model.specs.Continuations.{Do, EndBody, EndCall, EndProcess, ForNext, RepeatTest, Task, WhileTest, depth}
use Rattle.cp_model.specs.Locations.{ByIndex, ByName, Location, OfActivation, OfMonitor, OfProcess, Owner, Path, under}
use Rattle.cp_model.specs.Operators.{Clock, realtime}
use Rattle.cp_model.specs.Stores.{Reference, Store}
use Rattle.cp_model.specs.Types.{ComponentOf, ResolvedType}
use Rattle.cp_model.proofs.Options.{same_some}
use Rattle.cp_model_program.specs.Layout.{Part, farther, head_words, local, member_part, of_class, part}
use Rattle.cp_model_program.specs.TermsFor.{Knowns, nothing_known}
use Rattle.cp_model_machine.specs.Means.{Here}
use Rattle.cp_model_program.specs.Sites.{local_location}
use Rattle.cp_model_program.specs.IsProgramFor.{system_of_process}
use Rattle.cp_model_machine.specs.Passing.{monitor_start}
use Rattle.cp_model_machine.specs.PrivateStates as machine
use Rattle.cp_model_machine.specs.Addresses.{Activation, ClassLies, ComponentLies, Ground, MonitorLies, ProcessLies, activation_at, activation_of, activations, lies, part_at, part_of_activation, part_of_component, part_of_local, part_of_owner, scope, lies_in_sight}
use Rattle.cp_model_machine.specs.Remaining.{Remaining, Running, held_below, kept_below}
use Rattle.cp_model_machine.specs.PartOf.{ActivationMeans, ActivationsMean, DataMeans, IfFrame}
use Rattle.cp_model_machine.proofs.Finding.{part_whole, some_is_not_none}
use Rattle.cp_model_machine.proofs.Layouts.{lies_under}

module _ (G : Ground) (temps : List ℤ) (limit : ℕ) where
  -- There are as many activations as end marks of routines.
  pub depth_is : (b : ℕ) (K : Knowns) (R : Running) (fs : List machine.Frame) (place low : ℕ) (k : List Task)
      → Remaining G temps limit K R fs place low k → length (activations b fs k) ≡ depth k
  depth_is b K R fs place low [] h = absurd h
  depth_is b K R fs place low (Do s e ∷ k) h = depth_is b nothing_known R fs h.2.0 h.2.1 k h.2.4
  depth_is b K R fs place low (WhileTest now e s env ∷ k) h = depth_is b nothing_known R fs h.1.0 h.1.1 k h.1.4
  depth_is b K R fs place low (RepeatTest now s e env ∷ k) h = depth_is b nothing_known R fs h.1.0 h.1.1 k h.1.4
  depth_is b K R fs place low (ForNext x down n last s env ∷ k) h = depth_is b nothing_known R fs h.1.0 h.1.1 k h.1.4
  depth_is b K R (f ∷ fs) place low (EndCall env gate ∷ k) h =
      let c = h.3 in
      ap (λ z. length (activation_of b z (activations f.base fs k))) (ap (λ (y : Environment). y.frame) h.0 ∙ h.1.runs)
      ∙ ap (λ n. suc n) (depth_is f.base (kept_below c.2 c.3 temps c.0.temp) c.0 fs c.1 c.2 k c.7)
  depth_is b K R (f ∷ fs) place low (EndBody gate ∷ k) h =
      let c = h.3 in depth_is f.base nothing_known c.0 fs f.counter c.1 k c.4
  depth_is b K R fs place low (EndProcess ∷ k) h = ap (λ z. length (activations b fs z)) h.1 ∙ sym (ap depth h.1)
  depth_is b K R [] place low (EndCall env gate ∷ k) h = absurd h
  depth_is b K R [] place low (EndBody gate ∷ k) h = absurd h

  -- The innermost activation.
  pub record Top (b : ℕ) (store : Store) (words : List ℤ) (fs : List machine.Frame) (k : List Task) (f : Frame) : Type 0 where
    pub rest : List Activation
    pub are : activations b fs k ≡ record { base = b; routine = f.routine } ∷ rest
    pub owner : f.owner ≡ OfActivation G.p (length rest)
    pub means : ActivationMeans G rest store words b f

  -- Tasks before the end mark don't change the innermost activation.
  pub top_is : (store : Store) (words : List ℤ) (b : ℕ) (K : Knowns) (R : Running) (fs : List machine.Frame) (place low : ℕ) (k : List Task)
      (f : Frame) → Remaining G temps limit K R fs place low k → ActivationsMean G store words b fs k → R.env.frame ≡ Some f
      → Top b store words fs k f
  top_is store words b K R fs place low [] f h m e = absurd h
  top_is store words b K R fs place low (Do s env ∷ k) f h m e =
      let t = top_is store words b nothing_known R fs h.2.0 h.2.1 k f h.2.4 m e in
      record { rest = t.rest; are = t.are; owner = t.owner; means = t.means }
  top_is store words b K R fs place low (WhileTest now x s env ∷ k) f h m e =
      let t = top_is store words b nothing_known R fs h.1.0 h.1.1 k f h.1.4 m e in
      record { rest = t.rest; are = t.are; owner = t.owner; means = t.means }
  top_is store words b K R fs place low (RepeatTest now s x env ∷ k) f h m e =
      let t = top_is store words b nothing_known R fs h.1.0 h.1.1 k f h.1.4 m e in
      record { rest = t.rest; are = t.are; owner = t.owner; means = t.means }
  top_is store words b K R fs place low (ForNext x down n last s env ∷ k) f h m e =
      let t = top_is store words b nothing_known R fs h.1.0 h.1.1 k f h.1.4 m e in
      record { rest = t.rest; are = t.are; owner = t.owner; means = t.means }
  top_is store words b K R (g ∷ fs) place low (EndCall env gate ∷ k) f h m e =
      let c = h.3 in
      let same : f ≡ h.1.frame = same_some f h.1.frame (sym e ∙ h.1.runs) in
      let here : env.frame ≡ Some f = ap (λ (y : Environment). y.frame) h.0 ∙ e in
      record {
        rest = activations g.base fs k;
        are = ap (λ z. activation_of b z (activations g.base fs k)) here;
        owner =
            ap (λ (y : Frame). y.owner) same
            ∙ (h.1.owner
            ∙ ap (OfActivation G.p) (sym (depth_is g.base (kept_below c.2 c.3 temps c.0.temp) c.0 fs c.1 c.2 k c.7)));
        means = subst (λ z. IfFrame z (ActivationMeans G (activations g.base fs k) store words b)) here m.0;
      }
  top_is store words b K R (g ∷ fs) place low (EndBody gate ∷ k) f h m e = absurd (some_is_not_none f (sym e ∙ h.0))
  top_is store words b K R fs place low (EndProcess ∷ k) f h m e = absurd (some_is_not_none f (sym e ∙ h.0))
  top_is store words b K R [] place low (EndCall env gate ∷ k) f h m e = absurd h
  top_is store words b K R [] place low (EndBody gate ∷ k) f h m e = absurd h

-- ---- look-ups

pub found_here : (d : ℕ) (x : Activation) (xs : List Activation) → d ≡ length xs → activation_at d (x ∷ xs) ≡ Some x
found_here d x xs e = ap (λ b. if b then Some x else activation_at d xs) (eq-eqb d (length xs) e)

-- The depth of an activation that is found is less than the number of activations.
pub found_below : (d : ℕ) (xs : List Activation) (x : Activation) → activation_at d xs ≡ Some x → d < length xs
found_below d [] x h = absurd (some_is_not_none x (sym h))
found_below d (y ∷ xs) x h = by (nat_eq d (length xs)) refl (found_below d xs x) h
  where
    by : (b : Bool) → nat_eq d (length xs) ≡ b → (activation_at d xs ≡ Some x → d < length xs) → (if b then Some y else activation_at d xs) ≡ Some x → d < suc (length xs)
    by true e go h = omega (arith, eqb-true d (length xs) e)
    by false e go h = omega (arith, go h)

pub found_behind : (d : ℕ) (y : Activation) (xs : List Activation) (x : Activation) → activation_at d xs ≡ Some x → activation_at d (y ∷ xs) ≡ Some x
found_behind d y xs x h =
    let low = found_below d xs x h in
    ap (λ b. if b then Some y else activation_at d xs) (ne_eqb d (length xs) (λ e. absurd (omega (arith, e)))) ∙ h

pub lies_behind : (G : Ground) (y : Activation) (xs : List Activation) (l : Location) (v : Part) → lies G xs l ≡ Some v → lies G (y ∷ xs) l ≡ Some v
lies_behind G y xs l v h = path l.owner l.path h
  where
    inside : (q d : ℕ) (x : Name) (path : Path) (z : Option Activation) → activation_at d xs ≡ z → part_of_activation (scope G) z x path ≡ Some v
        → part_of_activation (scope G) (activation_at d (y ∷ xs)) x path ≡ Some v
    inside q d x path None e h = absurd (some_is_not_none v (sym h))
    inside q d x path (Some z) e h = ap (λ o. part_of_activation (scope G) o x path) (found_behind d y xs z e) ∙ h

    owner : (o : Owner) (x : Name) (path : Path) → part_of_owner G xs o x path ≡ Some v → part_of_owner G (y ∷ xs) o x path ≡ Some v
    owner (OfProcess q) x path h = h
    owner (OfMonitor m) x path h = h
    owner (OfActivation q d) x path h = by (nat_eq G.p q) h
      where
        by : (b : Bool) → (if b then part_of_activation (scope G) (activation_at d xs) x path else None) ≡ Some v
            → (if b then part_of_activation (scope G) (activation_at d (y ∷ xs)) x path else None) ≡ Some v
        by true h = inside q d x path (activation_at d xs) refl h
        by false h = h

    path : (o : Owner) (p : Path) → part_at G xs o p ≡ Some v → part_at G (y ∷ xs) o p ≡ Some v
    path o [] h = h
    path o (ByName x ∷ p) h = owner o x p h
    path o (ByIndex i ∷ p) h = h

-- What is somewhere without activations is there with them too. Components are never variables
-- of routines.
pub lies_any : (G : Ground) (xs : List Activation) (l : Location) (v : Part) → lies G [] l ≡ Some v → lies G xs l ≡ Some v
lies_any G [] l v h = h
lies_any G (x ∷ xs) l v h = lies_behind G x xs l v (lies_any G xs l v h)

-- Where a parameter or variable of the running routine is.
pub local_lies : (G : Ground) (b : ℕ) (f : Frame) (rest : List Activation) (x : Name) (at : ℕ) (d : declared.Variable)
    → f.owner ≡ OfActivation G.p (length rest) → local (scope G) f.routine x ≡ Some (at, d) → d.by_reference ≡ false
    → lies G (record { base = b; routine = f.routine } ∷ rest) (local_location f x) ≡ Some (b + at, d.type)
local_lies G b f rest x at d owner is passive =
    let top : Activation = record { base = b; routine = f.routine } in
    let xs : List Activation = top ∷ rest in
    (λ i. part_of_owner G xs (owner i) x [])
    ∙ (ap (λ t. if t then part_of_activation (scope G) (activation_at (length rest) xs) x [] else None) (eq-eqb G.p G.p refl)
    ∙ (ap (λ z. part_of_activation (scope G) z x []) (found_here (length rest) top rest refl)
    ∙ (ap (λ z. farther b (part_of_local (scope G) z [])) is
    ∙ (ap (λ t. farther b (if t then None else farther at (part (scope G) d.type []))) passive
    ∙ (ap (λ z. farther b (farther at z)) (part_whole (scope G) d.type)
    ∙ ap (λ n. Some (n, d.type)) (omega arith))))))

-- Where a member of the running component is.
pub member_lies : (G : Ground) (xs : List Activation) (C : Location) (s : System) (n : ℕ) (x : Name) (at : ℕ) (t : ResolvedType)
    → ComponentLies G C s n → member_part (scope G) (head_words (scope G) s) (reported_members (scope G) s) x [] ≡ Some (at, t)
    → lies G xs (under C (ByName x ∷ [])) ≡ Some (n + at, t)
member_lies G xs C s n x at t (ProcessLies where' is zero') h =
    ap (λ l. lies G xs (under l (ByName x ∷ []))) where'
    ∙ (ap (λ b. if b then part_of_component (scope G) (system_of_process G.setup G.p) x [] else None) (eq-eqb G.p G.p refl)
    ∙ (ap (λ z. part_of_component (scope G) z x []) is ∙ (h ∙ ap (λ m. Some (m, t)) (omega (arith, zero')))))
member_lies G xs C s n x at t (MonitorLies m where' is from) h =
    ap (λ l. lies G xs (under l (ByName x ∷ []))) where'
    ∙ (ap (λ z. farther (G.own + monitor_start G.program m) (part_of_component (scope G) z x [])) is
    ∙ (ap (farther (G.own + monitor_start G.program m)) h ∙ ap (λ k. Some (k + at, t)) (sym from)))
member_lies G xs C s n x at t (ClassLies sort is) h =
    lies_under G xs C (ByName x ∷ []) n at (ComponentOf s (reported_members (scope G) s)) t (lies_any G xs C _ is)
    (ap (λ z. of_class z (member_part (scope G) (head_words (scope G) s) (reported_members (scope G) s) x [])) sort ∙ h)

-- ---- all together

pub seen_is : (mine : Owner → Bool) (G : Ground) (xs : List Activation) (l : Location) (v : Part) → mine l.owner ≡ true → lies G xs l ≡ Some v → lies_in_sight mine G xs l ≡ Some v
seen_is mine G xs l v m h = ap (λ b. if b then lies G xs l else None) m ∙ h

pub seen_mine : (mine : Owner → Bool) (G : Ground) (xs : List Activation) (l : Location) (v : Part) → lies_in_sight mine G xs l ≡ Some v → (mine l.owner ≡ true) × (lies G xs l ≡ Some v)
seen_mine mine G xs l v h = by (mine l.owner) refl h
  where
    by : (b : Bool) → mine l.owner ≡ b → (if b then lies G xs l else None) ≡ Some v → (mine l.owner ≡ true) × (lies G xs l ≡ Some v)
    by true e h = (e, h)
    by false e h = absurd (some_is_not_none v (sym h))

-- A step of a process may see the owners that pass the test: its component, its activations, and
-- what they refer to.
pub record Sees (G : Ground) (mine : Owner → Bool) (store : Store) (env : Environment) : Type 0 where
  pub component : mine env.component.owner ≡ true
  pub activations : (d : ℕ) → mine (OfActivation G.p d) ≡ true
  pub references : (l j : Location) (d : ℕ) → l.owner ≡ OfActivation G.p d → store l ≡ Reference j → mine j.owner ≡ true

pub here : (G : Ground) (store : Store) (words temps : List ℤ) (limit live : ℕ) (K : Knowns) (R : Running) (fs : List machine.Frame) (place low : ℕ) (k : List Task) (mine : Owner → Bool) (clock : Clock)
    → Remaining G temps limit K R fs place low k → ActivationsMean G store words R.base fs k
    → ComponentLies G R.env.component R.env.system R.component
    → DataMeans G (activations R.base fs k) mine store words
    → R.env.globals ≡ scope G → Sees G mine store R.env
    → Here R.env clock store (record { words = words; temps = temps; base = R.base; temp = R.temp; component = R.component; clock = realtime clock })
    (held_below live temps R.temp) (lies_in_sight mine G (activations R.base fs k))
here G store words temps limit live K R fs place low k mine clock left am cl dm gl S = record {
  clock_is = refl;
  locals = λ f x at d e h passive.
      let t = top_is G temps limit store words R.base K R fs place low k f left am e in
      seen_is mine G xs (local_location f x) _ (ap mine t.owner ∙ S.activations (length t.rest))
      (ap (λ ys. lies G ys (local_location f x)) t.are ∙ local_lies G R.base f t.rest x at d t.owner (ap (λ g. local g f.routine x) (sym gl) ∙ h) passive);
  references = λ f x at d e h by_reference.
      let t = top_is G temps limit store words R.base K R fs place low k f left am e in
      let r = t.means.references x at d (ap (λ g. local g f.routine x) (sym gl) ∙ h) by_reference in (
        r.0,
        r.1,
        seen_is mine G xs r.0 _ (S.references (local_location f x) r.0 (length t.rest) t.owner r.1)
            (ap (λ ys. lies G ys r.0) t.are ∙ lies_behind G (record { base = R.base; routine = f.routine }) t.rest r.0 _ r.2),
      );
  members = λ x at t h.
      seen_is mine G xs (under R.env.component (ByName x ∷ [])) _ S.component
      (member_lies G xs R.env.component R.env.system R.component x at t cl
      (ap (λ g. member_part g (head_words g R.env.system) (reported_members g R.env.system) x []) (sym gl) ∙ h));
  parts = λ l n m t u step h e.
      let s = seen_mine mine G xs l (n, t) h in
      seen_is mine G xs (under l (step ∷ [])) _ s.0 (lies_under G xs l (step ∷ []) n m t u s.1 (ap (λ g. part g t (step ∷ [])) (sym gl) ∙ e));
  cells = λ l n t h. let s = seen_mine mine G xs l (n, t) h in dm.cells l n t s.0 s.1;
  knowns = λ t n h. h.1;
}
  where
    xs : List Activation
    xs = activations R.base fs k
