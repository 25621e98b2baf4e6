-- A text whose processes wait on each other in a chain: what the definitions of the hierarchy say of
-- it, computed. States in which its gates are held the other way round, or its processes wait in a
-- circle, don't meet them.
use Rattle.std.proofs.Common.{◌≡◌, ℕ, List, [], ◌∷◌, true, false, None, Some, codes, refl, sym, subst, arith}
use Rattle.std.proofs.lemmas.Bool.{true≢false}
use Rattle.cp_model.specs.Abstract.{Assign, Binary, Divide, Expressions, Group, Init, Literal, Monitor, MoreExpressions, Name, NoExpression, Nothing, Part, Perform, Plain, Process, Routine, Seq, Statement, System, SystemDef, Tree, TypeName, Use}
use Rattle.cp_model.specs.Configurations.{Asking, Faulted, Ready, held_gates}
use Rattle.cp_model.specs.Continuations.{EndBody, EndProcess}
use Rattle.cp_model.specs.Start.{start}
use Rattle.cp_model.specs.States.{HeldBy, Setup, State, is_in, with_at}
use Rattle.cp_model.specs.Chains.{IsAskingChain, chain_within, holder_asked}
use Rattle.cp_model.proofs.Options.{same_some}
use Rattle.cp_law_typing.specs.TypePlaces.{type_place}
use Rattle.cp_law_gates.specs.Hierarchy.{Descends, EndingChain, Hierarchy, NoneTwice, Whole, after_rounds}
use Rattle.cp_law_typing.specs.PassedRights.{PassesInOrder}

abbrev group : List Name → Name → Group
group xs t = record { by_reference = false; names = xs; type = TypeName t }

abbrev procedure : Name → Statement → Routine
procedure x s = record { name = x; entry = true; parameters = []; result = None; variables = []; body = Seq s Nothing }

abbrev call : Name → Name → Statement
call x f = Perform (Part (Plain x) f) NoExpression

abbrev with_one : Name → Expressions
with_one x = MoreExpressions (Use (Plain x)) NoExpression

abbrev n : System
n = record { sort = Monitor; parameters = []; variables = group (codes "x" ∷ []) (codes "integer") ∷ []; routines = procedure (codes "w") (Assign (Plain (codes "x")) (Binary Divide (Literal 1) (Use (Plain (codes "x"))))) ∷ []; body = Nothing }

abbrev m : System
m = record { sort = Monitor; parameters = group (codes "i" ∷ []) (codes "n") ∷ []; variables = []; routines = procedure (codes "e") (call (codes "i") (codes "w")) ∷ []; body = Nothing }

abbrev pn : System
pn = record { sort = Process; parameters = group (codes "i" ∷ []) (codes "n") ∷ []; variables = []; routines = []; body = Seq (call (codes "i") (codes "w")) Nothing }

abbrev pm : System
pm = record { sort = Process; parameters = group (codes "a" ∷ []) (codes "m") ∷ []; variables = []; routines = []; body = Seq (call (codes "a") (codes "e")) Nothing }

abbrev tree : Tree
tree = record {
  definitions = SystemDef (codes "n") n ∷ SystemDef (codes "m") m ∷ SystemDef (codes "pn") pn ∷ SystemDef (codes "pm") pm ∷ [];
  initial = record {
    sort = Process;
    parameters = [];
    variables = group (codes "h" ∷ []) (codes "n") ∷ group (codes "g" ∷ []) (codes "m") ∷ group (codes "b" ∷ []) (codes "pn") ∷ group (codes "c" ∷ codes "d" ∷ []) (codes "pm") ∷ [];
    routines = [];
    body =
        Seq (Seq (Init (codes "h") NoExpression) (Seq (Init (codes "g") (with_one (codes "h"))) (Seq (Init (codes "b") (with_one (codes "h")))
        (Seq (Init (codes "c") (with_one (codes "g"))) (Seq (Init (codes "d") (with_one (codes "g"))) Nothing))))) Nothing;
  };
}

abbrev setup : Setup
setup = record { tree = tree; inputs = λ p. []; tick = 1 }

-- h is of the first type, and g of the second.
pub places : (type_place setup 0 ≡ 0) × (type_place setup 1 ≡ 1) × (type_place setup 2 ≡ 2)
places = (refl, refl, refl)

no_monitor : Process ≡ Monitor → ⊥
no_monitor e = grind arith

-- g gets a right to h, whose type is earlier.
pub passes : PassesInOrder (type_place setup) setup
passes = (((λ e. tt), ((λ e. ((refl, (refl, (λ x. omega arith))), tt)), ((λ e. absurd (no_monitor e)), ((λ e. absurd (no_monitor e)), ((λ e. absurd (no_monitor e)), tt))))), tt)

abbrev after : State
after = after_rounds setup (start setup) (Whole 10 ∷ Whole 10 ∷ [])

-- After two rounds process 2 has stopped with the gate of h, 3 asks for it and holds that of g, and 4 asks for that of g.
pub stopped : after.status 2 ≡ Faulted 4
stopped = refl

pub third : (after.status 3 ≡ Asking 1) × (held_gates (after.status 3) (after.continuation 3) ≡ 2 ∷ [])
third = (refl, refl)

pub fourth : after.status 4 ≡ Asking 2
fourth = refl

pub holders : ((after.gates 1).holder ≡ HeldBy 2) × ((after.gates 1).askers ≡ 3 ∷ []) × ((after.gates 2).holder ≡ HeldBy 3) × ((after.gates 2).askers ≡ 4 ∷ [])
holders = (refl, refl, refl, refl)

pub chain : chain_within 3 after 4 ≡ Some (4 ∷ 3 ∷ 2 ∷ [])
chain = refl

-- It ends at 2, which asks for no gate, and has three items, one more than there are monitors.
pub chain_ends : EndingChain 2 after 4
chain_ends = record { chain = 4 ∷ 3 ∷ 2 ∷ []; is = (refl, refl, (refl, refl, (refl, refl))); distinct = (refl, (refl, (refl, tt))); short = omega arith; ends = refl }

-- The order is strict: the gates of g and h, innermost first, descend, and not the other way round.
pub order : Descends (type_place setup) (1 ∷ 2 ∷ [])
order = (omega arith, tt)

pub no_other_order : Descends (type_place setup) (2 ∷ 1 ∷ []) → ⊥
no_other_order h = omega (arith, h.0)

-- ---- Gates held the other way round

-- Process 3, if it held the gate of h outside and that of g inside.
abbrev reversed : State
reversed = record after {
  status = with_at 3 Ready after.status;
  continuation = with_at 3 (EndBody (Some 2) ∷ EndBody (Some 1) ∷ EndProcess ∷ []) after.continuation;
}

pub reversed_gates : held_gates (reversed.status 3) (reversed.continuation 3) ≡ 2 ∷ 1 ∷ []
reversed_gates = refl

pub reversed_is_no_hierarchy : Hierarchy (type_place setup) 2 reversed → ⊥
reversed_is_no_hierarchy h = no_other_order (h.order 3)

-- ---- Processes that wait in a circle

-- Process 2, if it asked for the gate of g while it holds that of h. Process 3 holds the one and asks for the other.
abbrev circle : State
circle = record after { status = with_at 2 (Asking 2) after.status }

pub circle_goes_on : chain_within 3 circle 2 ≡ None
circle_goes_on = refl

pub circle_is_no_hierarchy : Hierarchy (type_place setup) 2 circle → ⊥
circle_is_no_hierarchy h = let E = h.chains 2 in by E.chain E.is E.distinct
  where
    by : (c : List ℕ) → IsAskingChain circle 2 c → NoneTwice c → ⊥
    by [] i d = i
    by (a ∷ []) i d = absurd (grind (arith, i.1))
    by (a ∷ b ∷ []) i d =
        let three : 3 ≡ b = same_some 3 b i.1 in
        absurd (grind (arith, subst (λ z. holder_asked circle (circle.status z) ≡ None) (sym three) i.2.1))
    by (a ∷ b ∷ c ∷ rest) i d =
        let three : 3 ≡ b = same_some 3 b i.1 in
        let two : 2 ≡ c = same_some 2 c (subst (λ z. holder_asked circle (circle.status z) ≡ Some c) (sym three) i.2.1) in
        let twice : is_in 2 (3 ∷ 2 ∷ rest) ≡ false = subst (λ z. is_in 2 (3 ∷ z ∷ rest) ≡ false) (sym two) (subst (λ z. is_in 2 (z ∷ c ∷ rest) ≡ false) (sym three) (subst (λ z. is_in z (b ∷ c ∷ rest) ≡ false) i.0 d.0)) in
        absurd (true≢false twice)
