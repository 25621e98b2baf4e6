-- What an expression reads is within its reach: it has the same value in every store that is the
-- same there.
use Rattle.std.specs.Prelude.{Bool, None, Option, Some, [], codes, false, if◌then◌else◌, pos, refl, true, ℕ, ℤ, ◌≡◌}
use Rattle.std.proofs.Common.{ap, ◌∙◌}
use Rattle.cp_model.specs.Abstract.{At, BaseType, Binary, Call, Designator, Expression, Expressions, Known, Letter, Literal, MoreExpressions, Name, Negative, NoExpression, Not, Part, Plain, Positive, Use}
use Rattle.cp_model.specs.Names.{lookup}
use Rattle.std.specs.Str.{bytes_eq}
use Rattle.cp_model.specs.Types.{ArrayOf, ComponentOf, NoType, Queue, RecordOf, ResolvedType, Simple}
use Rattle.cp_model.specs.Declarations.{Variable}
use Rattle.cp_model.specs.Locations.{Location, Owner, Path}
use Rattle.cp_model.specs.Stores.{Absent, ClassRight, Initialised, MonitorRight, Ordinal, QueueHolds, Reference, Store, Value}
use Rattle.cp_model.specs.Outcomes.{Fault, Gives, Outcome, and_then, guard}
use Rattle.cp_model.specs.Environments.{Environment, Frame, IsConstant, IsUnknown, IsVariable, Meaning, constant_or_unknown, local_or, local_variables, meaning, permanent_variables, variable_or}
use Rattle.cp_model.specs.Places.{Place, element_place, ordinal_of, place_of_meaning, read, referent, value_of_meaning, within}
use Rattle.cp_model.specs.Operators.{Clock, integer_result, realtime, standard_function}
use Rattle.cp_model.specs.Expressions.{first_argument, name_of, place, value}
use Rattle.cp_model.specs.Start.{start}
use Rattle.cp_model.specs.Invariant.{EnvironmentIn, FrameIn}
use Rattle.cp_model.proofs.MixedStores.{IsClosed, mix}

abbrev pub MeaningIn : (Owner → Bool) → Meaning → Type 0
MeaningIn t (IsVariable l v) = t l.owner ≡ true
MeaningIn t _ = Unit {0}

constant_in : (t : Owner → Bool) (o : Option (BaseType × ℤ)) → MeaningIn t (constant_or_unknown o)
constant_in t None = tt
constant_in t (Some c) = tt

variable_in : (t : Owner → Bool) (o : Option Variable) (w : Owner) (path : Path) (x : Name) (m : Meaning)
    → t w ≡ true → MeaningIn t m → MeaningIn t (variable_or o w path x m)
variable_in t None w path x m h k = k
variable_in t (Some v) w path x m h k = h

pub meaning_in : (t : Owner → Bool) (env : Environment) (x : Name) → EnvironmentIn t env → MeaningIn t (meaning env x)
meaning_in t env x h = go env.frame h.frame
  where
    permanent_in : MeaningIn t (variable_or (lookup x (permanent_variables env.globals env.system)) env.component.owner
        env.component.path x (constant_or_unknown (lookup x env.globals.constants)))
    permanent_in = variable_in t (lookup x (permanent_variables env.globals env.system)) env.component.owner
        env.component.path x (constant_or_unknown (lookup x env.globals.constants)) h.component
        (constant_in t (lookup x env.globals.constants))

    go : (f : Option Frame) → FrameIn t f → MeaningIn t (local_or env.globals f x
        (variable_or (lookup x (permanent_variables env.globals env.system)) env.component.owner env.component.path x
        (constant_or_unknown (lookup x env.globals.constants))))
    go None g = permanent_in
    go (Some f) g = variable_in t (lookup x (local_variables env.globals f.routine)) f.owner [] x _ g permanent_in

-- ---- Places and values in reach

abbrev pub IfGives : {A : Type 0} → (A → Type 0) → Outcome A → Type 0
IfGives Q (Fault f) = Unit {0}
IfGives Q (Gives x) = Q x

abbrev pub PlaceIn : (Owner → Bool) → Place → Type 0
PlaceIn t p = t p.at.owner ≡ true

pub then_gives : {A B : Type 0} (Q : A → Type 0) (R : B → Type 0) (o : Outcome A) (f : A → Outcome B)
    → IfGives Q o → ((x : A) → Q x → IfGives R (f x)) → IfGives R (and_then o f)
then_gives Q R (Fault n) f h k = tt
then_gives Q R (Gives x) f h k = k x h

pub then_same : {A B : Type 0} (Q : A → Type 0) (o u : Outcome A) (f g : A → Outcome B)
    → o ≡ u → IfGives Q u → ((x : A) → Q x → f x ≡ g x) → and_then o f ≡ and_then u g
then_same Q o (Fault n) f g e h k = ap (λ x. and_then x f) e
then_same Q o (Gives y) f g e h k = ap (λ x. and_then x f) e ∙ k y h

referent_in : (t : Owner → Bool) (a : Store) (l : Location) (v : Value) → IsClosed t a → t l.owner ≡ true → a l ≡ v
    → t (referent l v).owner ≡ true
referent_in t a l (Reference k) c h e = c.references l k h e
referent_in t a l Absent c h e = h
referent_in t a l (Ordinal n) c h e = h
referent_in t a l (QueueHolds w) c h e = h
referent_in t a l (MonitorRight m) c h e = h
referent_in t a l (ClassRight k) c h e = h
referent_in t a l (Initialised b) c h e = h

place_of_meaning_in : (t : Owner → Bool) (a : Store) (env : Environment) (m : Meaning) → IsClosed t a → EnvironmentIn t env
    → MeaningIn t m → PlaceIn t (place_of_meaning env a m)
place_of_meaning_in t a env (IsConstant b n) c s h = s.component
place_of_meaning_in t a env IsUnknown c s h = s.component
place_of_meaning_in t a env (IsVariable l v) c s h = go v.by_reference
  where
    go : (r : Bool) → t (if r then referent l (a l) else l).owner ≡ true
    go true = referent_in t a l (a l) c h refl
    go false = h

place_of_meaning_same : (t : Owner → Bool) (a b : Store) (env : Environment) (m : Meaning) → MeaningIn t m
    → place_of_meaning env (mix t a b) m ≡ place_of_meaning env a m
place_of_meaning_same t a b env (IsConstant c n) h = refl
place_of_meaning_same t a b env IsUnknown h = refl
place_of_meaning_same t a b env (IsVariable l v) h = rw h refl

pub read_same : (t : Owner → Bool) (a b : Store) (p : Place) → PlaceIn t p → read (mix t a b) p ≡ read a p
read_same t a b p h = rw h refl

provided_in : {A : Type 0} (Q : A → Type 0) (b : Bool) (n : ℕ) (x : A) → Q x → IfGives Q (guard b n x)
provided_in Q true n x h = h
provided_in Q false n x h = tt

element_place_in : (t : Owner → Bool) (at : Location) (s : ResolvedType) (n : ℤ) → t at.owner ≡ true
    → IfGives (PlaceIn t) (element_place at s n)
element_place_in t at (ArrayOf low high e) n h = provided_in (PlaceIn t) (within low high n) 2 _ h
element_place_in t at (Simple b low high start) n h = tt
element_place_in t at (RecordOf ps) n h = tt
element_place_in t at Queue n h = tt
element_place_in t at (ComponentOf s inner) n h = tt
element_place_in t at NoType n h = tt

pub anything : {A : Type 0} (o : Outcome A) → IfGives (λ v. Unit {0}) o
anything (Fault n) = tt
anything (Gives x) = tt

module _ (t : Owner → Bool) (a b : Store) (c : Clock) (env : Environment) (closed : IsClosed t a)
    (within_reach : EnvironmentIn t env) where
  pub place_in : (d : Designator) → IfGives (PlaceIn t) (place c env a d)
  place_in (Plain x) = place_of_meaning_in t a env (meaning env x) closed within_reach (meaning_in t env x within_reach)
  place_in (Part d x) = then_gives (PlaceIn t) (PlaceIn t) (place c env a d) _ (place_in d) (λ p h. h)
  place_in (At d e) =
      then_gives (PlaceIn t) (PlaceIn t) (place c env a d) _ (place_in d) (λ p h.
      then_gives (λ v. Unit {0}) (PlaceIn t) (value c env a e) _ (anything (value c env a e)) (λ v u. element_place_in t p.at p.type (ordinal_of v) h))

  value_of_meaning_same : (m : Meaning) → MeaningIn t m → value_of_meaning env (mix t a b) m ≡ value_of_meaning env a m
  value_of_meaning_same (IsConstant k n) h = refl
  value_of_meaning_same IsUnknown h = read_same t a b (place_of_meaning env a IsUnknown) within_reach.component
  value_of_meaning_same (IsVariable l v) h =
      ap (λ p. read (mix t a b) p) (place_of_meaning_same t a b env (IsVariable l v) h)
      ∙ read_same t a b (place_of_meaning env a (IsVariable l v))
      (place_of_meaning_in t a env (IsVariable l v) closed within_reach h)

  mutual
    pub value_same : (e : Expression) → value c env (mix t a b) e ≡ value c env a e
    value_same (Literal n) = refl
    value_same (Letter n) = refl
    value_same (Use (Plain x)) =
        ap (λ g. if bytes_eq x (codes "realtime") then integer_result (pos (realtime c)) else Gives g)
        (value_of_meaning_same (meaning env x) (meaning_in t env x within_reach))
    value_same (Use (Part d x)) =
        then_same (PlaceIn t) (place c env (mix t a b) (Part d x)) (place c env a (Part d x)) _ _ (place_same (Part d x))
        (place_in (Part d x)) (λ p h. ap (λ g. Gives g) (read_same t a b p h))
    value_same (Use (At d e)) =
        then_same (PlaceIn t) (place c env (mix t a b) (At d e)) (place c env a (At d e)) _ _ (place_same (At d e))
        (place_in (At d e)) (λ p h. ap (λ g. Gives g) (read_same t a b p h))
    value_same (Call d arguments) = ap (λ o. and_then o (λ v. standard_function (name_of d) v)) (first_same arguments)
    value_same (Not e) = rw (value_same e) refl
    value_same (Negative e) = rw (value_same e) refl
    value_same (Positive e) = value_same e
    value_same (Binary o x y) =
        then_same (λ v. Unit {0}) (value c env (mix t a b) x) (value c env a x) _ _ (value_same x) (anything (value c env a x))
        (λ v u. rw (value_same y) refl)
    value_same (Known k n) = refl

    pub place_same : (d : Designator) → place c env (mix t a b) d ≡ place c env a d
    place_same (Plain x) = ap (λ p. Gives p) (place_of_meaning_same t a b env (meaning env x) (meaning_in t env x within_reach))
    place_same (Part d x) = rw (place_same d) refl
    place_same (At d e) =
        then_same (PlaceIn t) (place c env (mix t a b) d) (place c env a d) _ _ (place_same d) (place_in d)
        (λ p h. rw (value_same e) refl)

    pub first_same : (es : Expressions) → first_argument c env (mix t a b) es ≡ first_argument c env a es
    first_same NoExpression = refl
    first_same (MoreExpressions e es) = value_same e
