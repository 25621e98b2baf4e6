-- What arguments and start values write is within reach.
use Rattle.std.specs.Prelude.{Bool, List, [], false, map, refl, true, zip, ◌++◌, ◌∷◌, ◌≡◌}
use Rattle.std.proofs.Common.{ap, ◌∙◌}
use Rattle.cp_model.specs.Abstract.{Expression, Expressions, MoreExpressions, Name, NoExpression}
use Rattle.cp_model.specs.Types.{ArrayOf, ComponentOf, NoType, Queue, RecordOf, ResolvedType, Simple}
use Rattle.cp_model.specs.Declarations.{Variable}
use Rattle.cp_model.specs.Locations.{ByName, Location, Owner, under}
use Rattle.cp_model.specs.Stores.{Ordinal, Store, Value, Writes, put, put_all}
use Rattle.cp_model.specs.Leaves.{Leaf, leaves}
use Rattle.cp_model.specs.Outcomes.{Outcome, guard}
use Rattle.cp_model.specs.Places.{TypedValue, ordinal_in, ordinal_of, within}
use Rattle.cp_model.specs.Assignments.{starting_writes, writes_of}
use Rattle.cp_model.specs.Arguments.{bind}
use Rattle.cp_model.specs.Start.{start}
use Rattle.cp_model.proofs.MixedStores.{mix, put_mix}
use Rattle.cp_model.proofs.ExpressionReach.{IfGives, then_gives}

abbrev pub WritesIn : (Owner → Bool) → Writes → Type 0
WritesIn t [] = Unit {0}
WritesIn t (w ∷ ws) = (t w.0.owner ≡ true) × WritesIn t ws

pub put_all_mix : (t : Owner → Bool) (ws : Writes) (a b : Store) → WritesIn t ws → put_all ws (mix t a b)
    ≡ mix t (put_all ws a) b
put_all_mix t [] a b h = refl
put_all_mix t (w ∷ ws) a b h = ap (λ s. put_all ws s) (put_mix t w.0 w.1 a b h.0) ∙ put_all_mix t ws (put w.0 w.1 a) b h.1

append_in : (t : Owner → Bool) (ws vs : Writes) → WritesIn t ws → WritesIn t vs → WritesIn t (ws ++ vs)
append_in t [] vs h k = k
append_in t (w ∷ ws) vs h k = (h.0, append_in t ws vs h.1 k)

zip_in : (t : Owner → Bool) (at : Location) (ps : List Leaf) (vs : List Value) → t at.owner ≡ true
    → WritesIn t (zip (map (λ leaf. under at leaf.0) ps) vs)
zip_in t at [] vs h = tt
zip_in t at (p ∷ ps) [] h = tt
zip_in t at (p ∷ ps) (v ∷ vs) h = (h, zip_in t at ps vs h)

pub writes_in : (t : Owner → Bool) (at : Location) (s : ResolvedType) (v : TypedValue) → t at.owner ≡ true
    → IfGives (WritesIn t) (writes_of at s v)
writes_in t at (Simple b low high start) v h = go (within low high (ordinal_of v))
  where
    go : (x : Bool) → IfGives (WritesIn t) (guard x 1 ((at, Ordinal (ordinal_of v)) ∷ []))
    go true = (h, tt)
    go false = tt
writes_in t at (ArrayOf low high e) v h = zip_in t at (leaves (ArrayOf low high e))
    (map (λ x. Ordinal (ordinal_in x)) v.values) h
writes_in t at (RecordOf ps) v h = zip_in t at (leaves (RecordOf ps)) (map (λ x. Ordinal (ordinal_in x)) v.values) h
writes_in t at Queue v h = zip_in t at (leaves Queue) (map (λ x. Ordinal (ordinal_in x)) v.values) h
writes_in t at (ComponentOf s i) v h = zip_in t at (leaves (ComponentOf s i)) (map (λ x. Ordinal (ordinal_in x)) v.values) h
writes_in t at NoType v h = tt

starting_writes_in_one : (t : Owner → Bool) (at : Location) (x : Name) (ps : List Leaf) (rest : Writes) → t at.owner ≡ true
    → WritesIn t rest
    → WritesIn t (map (λ leaf. (under at (ByName x ∷ leaf.0), leaf.1)) ps ++ rest)
starting_writes_in_one t at x [] rest h k = k
starting_writes_in_one t at x (p ∷ ps) rest h k = (h, starting_writes_in_one t at x ps rest h k)

pub starting_writes_in : (t : Owner → Bool) (at : Location) (vs : List (Name × Variable)) → t at.owner ≡ true
    → WritesIn t (starting_writes at vs)
starting_writes_in t at [] h = tt
starting_writes_in t at (v ∷ vs) h = starting_writes_in_one t at v.0 (leaves v.1.type) (starting_writes at vs) h
    (starting_writes_in t at vs h)

-- ---- Arguments

abbrev Arguments : Type 0
Arguments = Location → Variable → Expression → Outcome Writes

pub bind_same : (one other : Arguments) → ((l : Location) (v : Variable) (e : Expression) → one l v e ≡ other l v e)
    → (at : Location) (ps : List (Name × Variable)) (es : Expressions) → bind one at ps es ≡ bind other at ps es
bind_same one other h at [] es = refl
bind_same one other h at (p ∷ ps) NoExpression = refl
bind_same one other h at (p ∷ ps) (MoreExpressions e es) = rw
    (h (under at (ByName p.0 ∷ [])) p.1 e, bind_same one other h at ps es) refl

pub bind_in : (t : Owner → Bool) (one : Arguments) → ((l : Location) (v : Variable) (e : Expression) → t l.owner ≡ true
    → IfGives (WritesIn t) (one l v e))
    → (at : Location) (ps : List (Name × Variable)) (es : Expressions) → t at.owner ≡ true
    → IfGives (WritesIn t) (bind one at ps es)
bind_in t one h at [] es k = tt
bind_in t one h at (p ∷ ps) NoExpression k = tt
bind_in t one h at (p ∷ ps) (MoreExpressions e es) k =
    then_gives (WritesIn t) (WritesIn t) (one (under at (ByName p.0 ∷ [])) p.1 e) _ (h (under at (ByName p.0 ∷ [])) p.1 e k)
    (λ ws i.
    then_gives (WritesIn t) (WritesIn t) (bind one at ps es) _ (bind_in t one h at ps es k) (λ vs j. append_in t ws vs i j))
