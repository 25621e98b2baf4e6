-- The program of the example represents its text.
use Rattle.std.proofs.Common.{◌≡◌, ℕ, zero, suc, ◌<◌, ◌≤◌, ◌+◌, pos, negsuc, List, [], ◌∷◌, length, Bool, true, false, Option, None, Some, refl, ap, sym, subst, ◌∙◌, arith}
use Rattle.std.specs.Prelude.{codes, slice_get, slice_set, nat_le}
use Rattle.std.proofs.lemmas.List.{get_or-set_same, get_or-set_other, length-set}
use Rattle.std.proofs.lemmas.Bool.{leb-true, true≢false}
use Rattle.cp_model.specs.Abstract as a
use Rattle.cp_model.specs.Abstract.{Integer, System, Routine}
use Rattle.cp_model.specs.Types.{ComponentOf, GlobalScope, ResolvedType, full_range}
use Rattle.cp_model.specs.Declarations as declared
use Rattle.cp_model.specs.Declarations.{declarations, globals, reported_members}
use Rattle.cp_model.specs.Locations.{Location, Owner}
use Rattle.cp_model.proofs.Options.{same_some}
use Rattle.cp_model_program.specs.Terms as target
use Rattle.cp_model_program.specs.Terms.{Binary, Item, Local, Made, Member, Number, Reference, Right, Rooted, Through, Value}
use Rattle.cp_model_program.specs.Programs as op
use Rattle.cp_model_program.specs.Programs.{CodeUnit, Done}
use Rattle.cp_model_program.specs.Sites.{BodyOf, RoutineOf, UnitText}
use Rattle.cp_model_program.specs.TermsFor.{nothing_known}
use Rattle.cp_model_program.specs.StatementsFor.{CodeFor}
use Rattle.cp_model_program.specs.Starts.{Starts, carry_out, unset, word}
use Rattle.cp_model_program.specs.IsProgramFor.{UnitRepresents, body_environment, routine_environment, site_of}
use Rattle.cp_model_program.specs.Compile.{all_texts}
use Rattle.cp_model_program.specs.Example.{b, c, d, m, p, get, go, run, add, initial, program, tree}

abbrev pub g : GlobalScope
g = globals tree

abbrev texts : List UnitText
texts = all_texts tree

abbrev no_unit : CodeUnit
no_unit = record { start = 0; starts = Done; words = 0; temps = 0; frames = 0 }

abbrev unit_at : op.Program → ℕ → CodeUnit
unit_at program n = elim (slice_get program.units n) [ None ↦ no_unit | Some u ↦ u ]

pub le : (x y : ℕ) → nat_le x y ≡ true → x ≤ y
le x y h = leb-true x y h

abbrev pub int : ResolvedType
int = full_range Integer

abbrev pub one : ResolvedType → declared.Variable
one t = record { by_reference = false; type = t }

abbrev pub lent : ResolvedType → declared.Variable
lent t = record { by_reference = true; type = t }

abbrev pub type_of : System → ResolvedType
type_of s = ComponentOf s (reported_members g s)

-- ---- code

get_code : (at : Location) (o : Owner) → CodeFor (site_of program texts (unit_at program 0) (RoutineOf c get) (routine_environment g c get at o)) nothing_known get.body 2 0 0
get_code at o =
    (1, (2, op.Set (Rooted (Member 1)) (negsuc 32767) (pos 32767) (Binary a.Add (Item (Rooted (Member 1))) (Item (Rooted (Local 1)))) 1, refl, (Integer, Integer, pos 0, 2, 0, refl, le 0 _ refl, le 0 _ refl, (refl, record { variable = one (int); means = refl; lies = refl; reference = refl; type = refl }), (Integer, Integer, 2, 0, refl, refl, le 0 _ refl, le 0 _ refl, (negsuc 32767, pos 32767, pos 0, refl, refl, (refl, record { variable = one (int); means = refl; lies = refl; reference = refl; type = refl })), (negsuc 32767, pos 32767, pos 0, refl, refl, (refl, record { frame = record { owner = o; routine = get }; runs = refl; variable = one (int); means = refl; lies = refl; reference = refl; type = refl }))))), (0, (1, op.SetResult (negsuc 32767) (pos 32767) (Item (Rooted (Member 1))) 0, refl, (Integer, refl, record { frame = record { owner = o; routine = get }; runs = refl; is_name = refl; variable = one int; means = refl; reference = refl; base = Integer; start = pos 0; type = refl; function = (codes "integer", refl); named = refl; no_local = refl }, (negsuc 32767, pos 32767, pos 0, refl, refl, (refl, record { variable = one (int); means = refl; lies = refl; reference = refl; type = refl })))), refl))

c_code : (at : Location) → CodeFor (site_of program texts (unit_at program 1) (BodyOf c) (body_environment g c at)) nothing_known c.body 4 3 0
c_code at =
    (3, (4, op.Set (Rooted (Member 1)) (negsuc 32767) (pos 32767) (Number (pos 1)) 3, refl, (Integer, Integer, pos 0, 4, 0, refl, le 0 _ refl, le 0 _ refl, (refl, record { variable = one (int); means = refl; lies = refl; reference = refl; type = refl }), (refl, refl, refl))), refl)

go_code : (at : Location) (o : Owner) → CodeFor (site_of program texts (unit_at program 2) (RoutineOf b go) (routine_environment g b go at o)) nothing_known go.body 7 5 0
go_code at o =
    (5, (6, op.Set (Rooted (Through 0 0)) (negsuc 32767) (pos 32767) (Binary a.Add (Made 0) (Number (pos 2))) 5, refl, (Integer, Integer, pos 0, 7, 0, refl, le 0 _ refl, le 0 1 refl, (refl, (refl, record { frame = record { owner = o; routine = go }; runs = refl; variable = lent (int); means = refl; lies = refl; reference = refl; type = refl })), (Integer, Integer, 6, 1, refl, refl, le 0 1 refl, le 1 1 refl, (record { routine = get; of = Some (record { name = codes "a"; system = c; is_parameter = true }) }, record { routine = 0; target = target.ClassRight 1; arguments = Value 1 (negsuc 32767) (pos 32767) (Item (Rooted (Through 0 0))) ∷ []; words = 1; temps = 0 }, 7, 0, refl, record { means = refl; target = record { variable = one (type_of c); lies = refl; inner = reported_members g c; type = refl; no_member = refl }; runs = record { text = refl; unit = unit_at program 0; there = refl; fits = record { words = le _ _ refl; temps = le _ _ refl; frames = le _ _ refl }; words = refl; temps = refl } }, (Integer, pos 0, 7, 0, refl, refl, refl, le 0 _ refl, le 0 _ refl, (negsuc 32767, pos 32767, pos 0, refl, refl, (refl, (refl, record { frame = record { owner = o; routine = go }; runs = refl; variable = lent (int); means = refl; lies = refl; reference = refl; type = refl }))), refl), (codes "integer", refl, refl), le 0 _ refl, le 0 _ refl, le 1 1 refl), (refl, refl, refl)))), refl)

b_code : (at : Location) → CodeFor (site_of program texts (unit_at program 3) (BodyOf b) (body_environment g b at)) nothing_known b.body 8 8 0
b_code at =
    (8, refl, refl)

run_code : (at : Location) (o : Owner) → CodeFor (site_of program texts (unit_at program 4) (RoutineOf d run) (routine_environment g d run at o)) nothing_known run.body 10 9 0
run_code at o =
    (9, (10, op.Procedure (record { routine = 2; target = target.Class 2; arguments = Reference 0 (Rooted (Through 0 0)) ∷ []; words = 1; temps = 0 }) 9, refl, (record { routine = go; of = Some (record { name = codes "k"; system = b; is_parameter = false }) }, 0, record { means = refl; target = refl; runs = record { text = refl; unit = unit_at program 2; there = refl; fits = record { words = le _ _ refl; temps = le _ _ refl; frames = le _ _ refl }; words = refl; temps = refl } }, refl, refl, le 0 _ refl, (10, 0, refl, refl, refl, le 0 _ refl, le 0 _ refl, (refl, (refl, record { frame = record { owner = o; routine = run }; runs = refl; variable = lent (int); means = refl; lies = refl; reference = refl; type = refl })), refl))), refl)

d_code : (at : Location) → CodeFor (site_of program texts (unit_at program 5) (BodyOf d) (body_environment g d at)) nothing_known d.body 12 11 0
d_code at =
    (11, (11, (12, op.InitClass (record { routine = 3; target = target.Class 2; arguments = Right 1 (target.ClassRight 1) ∷ []; words = 0; temps = 0 }) 11, record { name = codes "k"; system = b; is_parameter = false }, refl, refl, (refl, refl, record { own = refl; target = refl; runs = record { text = refl; unit = unit_at program 3; there = refl; fits = record { words = le _ _ refl; temps = le _ _ refl; frames = le _ _ refl }; words = refl; temps = refl }; room = le _ _ refl }, (record { name = codes "a"; system = c; is_parameter = true }, reported_members g c, one (type_of c), refl, refl, refl, (record { variable = one (type_of c); lies = refl; inner = reported_members g c; type = refl; no_member = refl }), refl, refl))), refl), refl)

add_code : (at : Location) (o : Owner) → CodeFor (site_of program texts (unit_at program 6) (RoutineOf m add) (routine_environment g m add at o)) nothing_known add.body 14 13 0
add_code at o =
    (13, (14, op.Set (Rooted (Member 1)) (negsuc 32767) (pos 32767) (Binary a.Add (Item (Rooted (Member 1))) (Item (Rooted (Local 0)))) 13, refl, (Integer, Integer, pos 0, 14, 0, refl, le 0 _ refl, le 0 _ refl, (refl, record { variable = one (int); means = refl; lies = refl; reference = refl; type = refl }), (Integer, Integer, 14, 0, refl, refl, le 0 _ refl, le 0 _ refl, (negsuc 32767, pos 32767, pos 0, refl, refl, (refl, record { variable = one (int); means = refl; lies = refl; reference = refl; type = refl })), (negsuc 32767, pos 32767, pos 0, refl, refl, (refl, record { frame = record { owner = o; routine = add }; runs = refl; variable = one (int); means = refl; lies = refl; reference = refl; type = refl }))))), refl)

m_code : (at : Location) → CodeFor (site_of program texts (unit_at program 7) (BodyOf m) (body_environment g m at)) nothing_known m.body 16 15 0
m_code at =
    (15, (16, op.Set (Rooted (Member 1)) (negsuc 32767) (pos 32767) (Number (pos 0)) 15, refl, (Integer, Integer, pos 0, 16, 0, refl, le 0 _ refl, le 0 _ refl, (refl, record { variable = one (int); means = refl; lies = refl; reference = refl; type = refl }), (refl, refl, refl))), refl)

p_code : (at : Location) → CodeFor (site_of program texts (unit_at program 8) (BodyOf p) (body_environment g p at)) nothing_known p.body 22 17 0
p_code at =
    (20, (21, (22, op.InitClass (record { routine = 1; target = target.Class 2; arguments = []; words = 0; temps = 0 }) 21, record { name = codes "s"; system = c; is_parameter = false }, refl, refl, (refl, refl, record { own = refl; target = refl; runs = record { text = refl; unit = unit_at program 1; there = refl; fits = record { words = le _ _ refl; temps = le _ _ refl; frames = le _ _ refl }; words = refl; temps = refl }; room = le _ _ refl }, refl)), (20, (21, op.InitClass (record { routine = 5; target = target.Class 4; arguments = Right 1 (target.Class 2) ∷ []; words = 0; temps = 0 }) 20, record { name = codes "u"; system = d; is_parameter = false }, refl, refl, (refl, refl, record { own = refl; target = refl; runs = record { text = refl; unit = unit_at program 5; there = refl; fits = record { words = le _ _ refl; temps = le _ _ refl; frames = le _ _ refl }; words = refl; temps = refl }; room = le _ _ refl }, (record { name = codes "s"; system = c; is_parameter = false }, reported_members g c, one (type_of c), refl, refl, refl, refl, refl, refl))), refl)), (19, (20, op.Set (Rooted (Member 8)) (negsuc 32767) (pos 32767) (Number (pos 3)) 19, refl, (Integer, Integer, pos 0, 20, 0, refl, le 0 _ refl, le 0 _ refl, (refl, record { variable = one (int); means = refl; lies = refl; reference = refl; type = refl }), (refl, refl, refl))), (18, (19, op.Procedure (record { routine = 4; target = target.Class 4; arguments = Reference 0 (Rooted (Member 8)) ∷ []; words = 0; temps = 0 }) 18, refl, (record { routine = run; of = Some (record { name = codes "u"; system = d; is_parameter = false }) }, 0, record { means = refl; target = refl; runs = record { text = refl; unit = unit_at program 4; there = refl; fits = record { words = le _ _ refl; temps = le _ _ refl; frames = le _ _ refl }; words = refl; temps = refl } }, refl, refl, le 0 _ refl, (19, 0, refl, refl, refl, le 0 _ refl, le 0 _ refl, (refl, record { variable = one (int); means = refl; lies = refl; reference = refl; type = refl }), refl))), (17, (18, op.Procedure (record { routine = 6; target = target.MonitorRight 1; arguments = Value 0 (negsuc 32767) (pos 32767) (Item (Rooted (Member 8))) ∷ []; words = 0; temps = 0 }) 17, refl, (record { routine = add; of = Some (record { name = codes "g"; system = m; is_parameter = true }) }, 0, record { means = refl; target = record { variable = one (type_of m); lies = refl; inner = reported_members g m; type = refl; no_member = refl }; runs = record { text = refl; unit = unit_at program 6; there = refl; fits = record { words = le _ _ refl; temps = le _ _ refl; frames = le _ _ refl }; words = refl; temps = refl } }, refl, refl, le 0 _ refl, (Integer, pos 0, 18, 0, refl, refl, refl, le 0 _ refl, le 0 _ refl, (negsuc 32767, pos 32767, pos 0, refl, refl, (refl, record { variable = one (int); means = refl; lies = refl; reference = refl; type = refl })), refl))), refl))))

initial_code : (at : Location) → CodeFor (site_of program texts (unit_at program 9) (BodyOf initial) (body_environment g initial at)) nothing_known initial.body 25 23 0
initial_code at =
    (23, (24, (25, op.InitMonitor (record { routine = 7; target = target.Monitor 1; arguments = []; words = 0; temps = 0 }) 24, record { name = codes "g"; system = m; is_parameter = false }, refl, refl, (refl, refl, record { own = refl; target = refl; runs = record { text = refl; unit = unit_at program 7; there = refl; fits = record { words = le _ _ refl; temps = le _ _ refl; frames = le _ _ refl }; words = refl; temps = refl }; room = le _ _ refl }, refl)), (23, (24, op.InitProcess 2 (Right 1 (target.Monitor 1) ∷ []) 0 23, record { name = codes "q"; system = p; is_parameter = false }, refl, refl, (refl, refl, refl, refl, le _ _ refl, (record { name = codes "g"; system = m; is_parameter = false }, reported_members g m, one (type_of m), refl, refl, refl, refl, refl, refl))), refl)), refl)

-- ---- units

abbrev is_some : {A : Type 0} → Option A → Bool
is_some None = false
is_some (Some x) = true

nothing_there : {A : Type 0} (x : A) → None ≡ Some x → ⊥
nothing_there x h = true≢false (ap is_some (sym h))

-- A routine without variables and without a result.
no_starts : (r : Routine) (u : CodeUnit) → declarations g r.variables ≡ [] → r.result ≡ None → u.starts ≡ Done → Starts g r u
no_starts r u none no_result no_plan = record {
  length_is = λ base ws. ap (λ plan. length (carry_out base plan ws)) no_plan;
  variables = λ base ws room v i at m path b low high n h. absurd (nothing_there v (subst (λ vs. slice_get vs i ≡ Some v) none h));
  result = λ base ws t room h. absurd (nothing_there t (sym no_result ∙ h));
  outside = λ base ws i room h other. ap (λ plan. word (carry_out base plan ws) i) no_plan;
}

one_more : (base : ℕ) → base + 0 ≡ base
one_more base = omega arith

below : (base n : ℕ) → base + 2 ≤ n → base + 0 < n
below base n h = omega arith

get_starts : Starts g get (unit_at program 0)
get_starts = record {
  length_is = λ base ws. length-set ws (base + 0) unset;
  variables = λ base ws room v i at m path b low high n h. absurd (nothing_there v h);
  result = λ base ws t room h.
      subst (λ i. word (slice_set ws (base + 0) unset) i ≡ unset) (one_more base) (get_or-set_same ws (base + 0) unset (pos 0) (below base (length ws) room));
  outside = λ base ws i room h other. get_or-set_other ws (base + 0) i unset (pos 0) (λ e. other (codes "integer") refl (e ∙ one_more base));
}

represents : (n : ℕ) (x u : CodeUnit) (y t : UnitText) → UnitRepresents program texts g x y → Some x ≡ Some u → Some y ≡ Some t
    → UnitRepresents program texts g u t
represents n x u y t h hu ht =
    subst (λ z. UnitRepresents program texts g u z) (same_some y t ht) (subst (λ z. UnitRepresents program texts g z y) (same_some x u hu) h)

no_function : {A : Type 0} → false ≡ true → A
no_function e = absurd (true≢false (sym e))

units_represent : (n : ℕ) (u : CodeUnit) (t : UnitText) → slice_get program.units n ≡ Some u → slice_get texts n ≡ Some t
    → UnitRepresents program texts g u t
units_represent zero u t hu ht = represents 0 (unit_at program 0) u (RoutineOf c get) t (get_starts, le _ _ refl, (refl, (refl, (refl, tt))), tt, λ fits at o. (0, refl, get_code at o), (((refl, le _ _ refl), refl, λ e. refl), tt)) hu ht
units_represent (suc zero) u t hu ht = represents 1 (unit_at program 1) u (BodyOf c) t (refl, (refl, tt), λ fits at. (3, refl, c_code at)) hu ht
units_represent (suc (suc zero)) u t hu ht = represents 2 (unit_at program 2) u (RoutineOf b go) t (no_starts go (unit_at program 2) refl refl refl, le _ _ refl, (refl, (refl, tt)), tt, λ fits at o. (5, refl, go_code at o), (((refl, le _ _ refl), refl, no_function), tt)) hu ht
units_represent (suc (suc (suc zero))) u t hu ht = represents 3 (unit_at program 3) u (BodyOf b) t (refl, (refl, tt), λ fits at. (8, refl, b_code at)) hu ht
units_represent (suc (suc (suc (suc zero)))) u t hu ht = represents 4 (unit_at program 4) u (RoutineOf d run) t (no_starts run (unit_at program 4) refl refl refl, le _ _ refl, (refl, (refl, (refl, tt))), tt, λ fits at o. (9, refl, run_code at o), (((refl, le _ _ refl), refl, no_function), tt)) hu ht
units_represent (suc (suc (suc (suc (suc zero))))) u t hu ht = represents 5 (unit_at program 5) u (BodyOf d) t (refl, (refl, (refl, tt)), λ fits at. (11, refl, d_code at)) hu ht
units_represent (suc (suc (suc (suc (suc (suc zero)))))) u t hu ht = represents 6 (unit_at program 6) u (RoutineOf m add) t (no_starts add (unit_at program 6) refl refl refl, le _ _ refl, (refl, (refl, tt)), tt, λ fits at o. (13, refl, add_code at o), (((refl, le _ _ refl), refl, no_function), tt)) hu ht
units_represent (suc (suc (suc (suc (suc (suc (suc zero))))))) u t hu ht = represents 7 (unit_at program 7) u (BodyOf m) t (refl, (refl, tt), λ fits at. (15, refl, m_code at)) hu ht
units_represent (suc (suc (suc (suc (suc (suc (suc (suc zero)))))))) u t hu ht = represents 8 (unit_at program 8) u (BodyOf p) t (refl, (refl, (refl, (refl, (refl, tt)))), λ fits at. (17, refl, p_code at)) hu ht
units_represent (suc (suc (suc (suc (suc (suc (suc (suc (suc zero))))))))) u t hu ht = represents 9 (unit_at program 9) u (BodyOf initial) t (refl, (refl, (refl, tt)), λ fits at. (23, refl, initial_code at)) hu ht
units_represent (suc (suc (suc (suc (suc (suc (suc (suc (suc (suc n)))))))))) u t hu ht = absurd (nothing_there u hu)
