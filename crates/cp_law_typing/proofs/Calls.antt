-- What is called, and with which arguments, by the rules and by the meaning.
use Rattle.std.proofs.Common.{◌≡◌, ◌⊎◌, inl, inr, ℕ, Bool, true, false, ◌&&◌, not, List, [], ◌∷◌, Option, Some, None, nat_eq, eqb-true, length, refl, ap, sym, subst, ◌∙◌}
use Rattle.std.proofs.lemmas.Bool.{true≢false, and_parts}
use Rattle.cp_model.specs.Syntax as s
use Rattle.cp_model.specs.Abstract as a
use Rattle.cp_model.specs.declared.tree.Identifier.{Identifier}
use Rattle.cp_model.specs.declared.rules.Rule.{Rule}
use Rattle.cp_model.specs.declared.rules.Rule.TheVariants.{C2, C5, C9, C10}
use Rattle.cp_model.specs.declared.rules.Entity.{Entity}
use Rattle.cp_model.specs.declared.rules.Entity.TheVariants as entity
use Rattle.cp_model.specs.declared.rules.Standard.{Standard}
use Rattle.cp_model.specs.declared.rules.Standard.TheVariants as standard
use Rattle.cp_model.specs.declared.rules.Returns.{Returns}
use Rattle.cp_model.specs.declared.rules.Returns.TheVariants as returns
use Rattle.cp_model.specs.declared.rules.RoutineRow.{RoutineRow}
use Rattle.cp_model.specs.declared.rules.Want.{Want}
use Rattle.cp_model.specs.declared.rules.Want.TheVariants as want
use Rattle.cp_model.specs.declared.rules.Gives.{Gives}
use Rattle.cp_model.specs.declared.rules.Gives.TheVariants as gives
use Rattle.cp_model.specs.declared.rules.Mode.{Mode}
use Rattle.cp_model.specs.declared.rules.Mode.TheVariants as mode
use Rattle.cp_model.specs.RulesJudged.{Judged, Sound, Violations, unless, also, both, guard}
use Rattle.cp_model.specs.RulesEnvironment.{Environment, Text, agree, base_of, c9_standard, integer, is_allowed, is_base, is_simple, queue, routine_of}
use Rattle.cp_model.specs.RulesNames.{c10_variable, c5_by_name, callee as wanted_callee, routine_callee, count_of, first_token, function_called, function_gives, function_of, given_type, is_changeable, is_procedure, last_name, procedure_called, procedure_of, sort_rule, standard_called, standard_function, standard_procedure, wants_of, c5_without_entry, standard_wants, standard_fits}
use Rattle.cp_model.specs.RulesNames as rules
use Rattle.cp_model.specs.RulesExpressions.{argument, arguments, c10_by_reference, first_type, fits_type, judge, mode_of, more_arguments}
use Rattle.cp_model.specs.Types.{GlobalScope}
use Rattle.cp_model.specs.Calls.{Callee, callee}
use Rattle.cp_law_typing.specs.Judgement.{MayBeCalled, Place}
use Rattle.cp_model.proofs.Judging.{also_none, also_sound, both_sound, provided_sound, sound_same, then_sound}
use Rattle.cp_law_typing.proofs.TypeRows.{holds}
use Rattle.cp_law_typing.proofs.TableMeanings.{RoutineAs, Types, standard_name}
use Rattle.cp_law_typing.proofs.Visible.{DesignatorAs, OwnAs, some_same}

not_true : (b : Bool) → not b ≡ true → b ≡ false
not_true true h = absurd (true≢false (sym h))
not_true false h = refl

-- ---- arguments that are sound, each

module _ (env : Environment) where
  abbrev pub AllSound : List Want → s.Expressions → Type 0
  AllSound ws s.NoExpressions = Unit {0}
  AllSound [] (s.MoreExpressions e es) = ((t : ℕ) × (judge env mode.Value e ≡ Sound t)) × AllSound [] es
  AllSound (w ∷ ws) (s.MoreExpressions e es) = ((t : ℕ) × (argument env w e (judge env (mode_of w) e) ≡ Sound t)) × AllSound ws es

  -- the first argument has this type
  abbrev pub FirstIs : List Want → s.Expressions → ℕ → Type 0
  FirstIs ws s.NoExpressions t = Unit {0}
  FirstIs [] (s.MoreExpressions e es) t = judge env mode.Value e ≡ Sound t
  FirstIs (w ∷ ws) (s.MoreExpressions e es) t = argument env w e (judge env (mode_of w) e) ≡ Sound t

  first_kept : (j k : Judged ℕ) (t : ℕ) → both j k first_type ≡ Sound t → (j ≡ Sound t) × ((u : ℕ) × (k ≡ Sound u))
  first_kept j k t h =
      let is : (x : ℕ) × (y : ℕ) × (j ≡ Sound x) × (k ≡ Sound y) × (first_type x y ≡ Sound t) = both_sound j k first_type t h in
      (is.2 ∙ is.4, (is.1, is.3))

  more_sound : (es : s.Expressions) (ws : List Want) (j : Judged ℕ) (t : ℕ) → more_arguments env j ws es ≡ Sound t → (j ≡ Sound t) × AllSound ws es
  more_sound s.NoExpressions ws j t h = (h, tt)
  more_sound (s.MoreExpressions e es) [] j t h =
      let rest : (both j (judge env mode.Value e) first_type ≡ Sound t) × AllSound [] es = more_sound es [] _ t h in
      let one : (j ≡ Sound t) × ((u : ℕ) × (judge env mode.Value e ≡ Sound u)) = first_kept j _ t rest.0 in
      (one.0, (one.1, rest.1))
  more_sound (s.MoreExpressions e es) (w ∷ ws) j t h =
      let rest : (both j (argument env w e (judge env (mode_of w) e)) first_type ≡ Sound t) × AllSound ws es = more_sound es ws _ t h in
      let one : (j ≡ Sound t) × ((u : ℕ) × (argument env w e (judge env (mode_of w) e) ≡ Sound u)) = first_kept j _ t rest.0 in
      (one.0, (one.1, rest.1))

  pub arguments_sound : (es : s.Expressions) (ws : List Want) (t : ℕ) → arguments env ws es ≡ Sound t → AllSound ws es × FirstIs ws es t
  arguments_sound s.NoExpressions ws t h = (tt, tt)
  arguments_sound (s.MoreExpressions e es) [] t h =
      let is : (judge env mode.Value e ≡ Sound t) × AllSound [] es = more_sound es [] _ t h in (((t, is.0), is.1), is.0)
  arguments_sound (s.MoreExpressions e es) (w ∷ ws) t h =
      let is : (argument env w e (judge env (mode_of w) e) ≡ Sound t) × AllSound ws es = more_sound es ws _ t h in (((t, is.0), is.1), is.0)

  -- an argument has the type that its expression has
  fits_same : (b : Bool) (o : Option ℕ) (e : s.Expression) (t u : ℕ) → fits_type env b o e t ≡ Sound u → t ≡ u
  fits_same b None e t u h = sound_same t u h
  fits_same true (Some n) e t u h = (provided_sound (nat_eq t n) C10 (first_token e) t u h).1
  fits_same false (Some n) e t u h = (provided_sound (agree env n t) C2 (first_token e) t u h).1

  pub argument_same : (w : Want) (e : s.Expression) (j : Judged ℕ) (u : ℕ) → argument env w e j ≡ Sound u → j ≡ Sound u
  argument_same (want.Parameter q) e j u h =
      let is : (x : ℕ) × (j ≡ Sound x) × (fits_type env q.by_reference q.of e x ≡ Sound u) =
      then_sound j (fits_type env q.by_reference q.of e) u (also_sound (c10_by_reference env q.by_reference e) _ u h) in
      is.1 ∙ ap (λ x. Sound x) (fits_same q.by_reference q.of e is.0 u is.2)
  argument_same want.Simple e j u h =
      let is : (x : ℕ) × (j ≡ Sound x) × (guard (is_simple env x) C2 (first_token e) x ≡ Sound u) = then_sound j _ u h in
      is.1 ∙ ap (λ x. Sound x) (provided_sound (is_simple env is.0) C2 (first_token e) is.0 u is.2).1
  argument_same want.Integer e j u h =
      let is : (x : ℕ) × (j ≡ Sound x) × (guard (is_base integer (base_of env x)) C2 (first_token e) x ≡ Sound u) = then_sound j _ u h in
      is.1 ∙ ap (λ x. Sound x) (provided_sound (is_base integer (base_of env is.0)) C2 (first_token e) is.0 u is.2).1
  argument_same want.CharVariable e j u h =
      let is : (x : ℕ) × (j ≡ Sound x) × (guard (is_base 2 (base_of env x)) C2 (first_token e) x ≡ Sound u) = then_sound j _ u (also_sound (c10_variable env e) _ u h) in
      is.1 ∙ ap (λ x. Sound x) (provided_sound (is_base 2 (base_of env is.0)) C2 (first_token e) is.0 u is.2).1
  argument_same want.QueueVariable e j u h =
      let is : (x : ℕ) × (j ≡ Sound x) × (guard (nat_eq x queue) C2 (first_token e) x ≡ Sound u) = then_sound j _ u h in
      is.1 ∙ ap (λ x. Sound x) (provided_sound (nat_eq is.0 queue) C2 (first_token e) is.0 u is.2).1

-- ---- what is called

of_row : (c k : rules.Callee) → Some c ≡ Some k → k.wants ≡ c.wants
of_row c k h = ap (λ z. z.wants) (sym (some_same (Some c) c k refl h))

function_wants : (f : Standard) (k : rules.Callee) → standard_function f ≡ Some k → k.wants ≡ standard_wants f
function_wants standard.Abs k h = of_row _ k h
function_wants standard.Succ k h = of_row _ k h
function_wants standard.Pred k h = of_row _ k h
function_wants standard.Ord k h = of_row _ k h
function_wants standard.Chr k h = of_row _ k h
function_wants standard.Empty k h = of_row _ k h
function_wants standard.Realtime k h = of_row _ k h
function_wants _ k h = absurd (cc)

procedure_wants : (f : Standard) (k : rules.Callee) → standard_procedure f ≡ Some k → k.wants ≡ standard_wants f
procedure_wants standard.Delay k h = of_row _ k h
procedure_wants standard.Continue k h = of_row _ k h
procedure_wants standard.Display k h = of_row _ k h
procedure_wants standard.Accept k h = of_row _ k h
procedure_wants standard.Wait k h = of_row _ k h
procedure_wants _ k h = absurd (cc)

module _ (G : GlobalScope → Type 0) (env : Environment) (rs : Types) (p : Place) where
  abbrev pub GivesAs : Returns → Gives → Type 0
  GivesAs returns.Nothing gives.Nothing = Unit {0}
  GivesAs (returns.Value t) (gives.Value u) = t ≡ u
  GivesAs _ _ = ⊥

  -- a routine of the text
  pub record UserCalled (procedure : Bool) (d : a.Designator) (n : ℕ) (c : rules.Callee) : Type 0 where
    pub callee_is : Callee
    pub named : callee p.env d ≡ Some callee_is
    pub may : MayBeCalled p callee_is.routine callee_is.of
    pub row : RoutineRow
    pub meets : RoutineAs G env rs row callee_is.routine
    pub count : row.count ≡ n
    pub wants : c.wants ≡ wants_of env row
    pub answers : GivesAs row.returns c.gives
    pub kind : is_procedure row.returns ≡ procedure

  -- a standard routine
  pub record StandardCalled (table : Standard → Option rules.Callee) (d : a.Designator) (n : ℕ) (c : rules.Callee) : Type 0 where
    pub name : Text
    pub which : Standard
    pub is : d ≡ a.Plain name
    pub named : name ≡ standard_name which
    pub no_call : callee p.env (a.Plain name) ≡ None
    pub allowed : is_allowed env.region which ≡ true
    pub there : table which ≡ Some c
    pub count : length c.wants ≡ n

  gives_sound : (rule : Rule) (x : Identifier) (b : Bool) (r : Returns) (g : Gives) → function_gives rule x b r ≡ Sound g → (b ≡ true) × GivesAs r g × (is_procedure r ≡ false)
  gives_sound rule x b returns.Nothing g h = absurd (cc)
  gives_sound rule x true (returns.Value t) g h = (refl, subst (GivesAs (returns.Value t)) (sound_same (gives.Value t) g h) refl, refl)
  gives_sound rule x false (returns.Value t) g h = absurd (cc)
  gives_sound rule x b (returns.Broken w) g h = absurd (cc (also_sound (unless b C2 x.at) _ g h))

  abbrev pub FunctionCalled : a.Designator → ℕ → rules.Callee → Type 0
  FunctionCalled d n c = UserCalled false d n c ⊎ StandardCalled standard_function d n c

  abbrev pub ProcedureCalled : a.Designator → ℕ → rules.Callee → Type 0
  ProcedureCalled d n c = UserCalled true d n c ⊎ StandardCalled standard_procedure d n c

  user_called : (d : a.Designator) (x : Identifier) (rule : Rule) (n r : ℕ) (c : rules.Callee) (z : Callee) → callee p.env d ≡ Some z → MayBeCalled p z.routine z.of
      → RoutineAs G env rs (routine_of env r) z.routine → function_called env rule x n (routine_of env r) ≡ Sound c → UserCalled false d n c
  user_called d x rule n r c z named may meets h =
      let row : RoutineRow = routine_of env r in
      let is : (g : Gives) × (function_gives rule x (nat_eq row.count n) row.returns ≡ Sound g) × (routine_callee row env g ≡ Sound c) =
      then_sound (function_gives rule x (nat_eq row.count n) row.returns) (routine_callee row env) c h in
      let fits : (nat_eq row.count n ≡ true) × GivesAs row.returns is.0 × (is_procedure row.returns ≡ false) = gives_sound rule x (nat_eq row.count n) row.returns is.0 is.1 in
      let same : record { wants = wants_of env row; gives = is.0 } ≡ c = sound_same (record { wants = wants_of env row; gives = is.0 }) c is.2 in
      record {
        callee_is = z;
        named = named;
        may = may;
        row = row;
        meets = meets;
        count = eqb-true row.count n fits.0;
        wants = ap (λ k. k.wants) (sym same);
        answers = subst (λ k. GivesAs row.returns k.gives) same fits.1;
        kind = fits.2;
      }

  no_result : (r : Returns) → is_procedure r ≡ true → GivesAs r gives.Nothing
  no_result returns.Nothing h = tt
  no_result (returns.Value t) h = true≢false (sym h)
  no_result (returns.Broken w) h = true≢false (sym h)

  procedure_user : (d : a.Designator) (x : Identifier) (n r : ℕ) (c : rules.Callee) (z : Callee) → callee p.env d ≡ Some z → MayBeCalled p z.routine z.of
      → RoutineAs G env rs (routine_of env r) z.routine → procedure_called env x n (routine_of env r) ≡ Sound c → UserCalled true d n c
  procedure_user d x n r c z named may meets h =
      let row : RoutineRow = routine_of env r in
      let new : rules.Callee = record { wants = wants_of env row; gives = gives.Nothing } in
      let is : ((is_procedure row.returns && nat_eq row.count n) ≡ true) × (new ≡ c) = provided_sound (is_procedure row.returns && nat_eq row.count n) C2 x.at new c h in
      let parts : (is_procedure row.returns ≡ true) × (nat_eq row.count n ≡ true) = and_parts (is_procedure row.returns) _ is.0 in
      record {
        callee_is = z;
        named = named;
        may = may;
        row = row;
        meets = meets;
        count = eqb-true row.count n parts.1;
        wants = ap (λ k. k.wants) (sym is.1);
        answers = subst (λ k. GivesAs row.returns k.gives) is.1 (no_result row.returns parts.0);
        kind = parts.0;
      }

  own_may : (d : a.Designator) (x : Text) (r : ℕ) (at : Identifier) → (o : OwnAs G env rs p x r) → c5_by_name at (routine_of env r) ≡ [] → MayBeCalled p o.routine None
  own_may d x r at o h = (o.place, o.before, o.there, sym o.meets.entry ∙ not_true _ (holds (not (routine_of env r).entry) C5 at.at h))

  standard_is : (table : Standard → Option rules.Callee) (d : a.Designator) (rule : Rule) (x : Identifier) (z : Text) (n : ℕ) (f : Standard) (o : Option rules.Callee) (c : rules.Callee)
      → table f ≡ o → ((k : rules.Callee) → table f ≡ Some k → k.wants ≡ standard_wants f) → d ≡ a.Plain z → z ≡ standard_name f → callee p.env (a.Plain z) ≡ None
      → also (c9_standard env x (entity.Standard f)) (standard_called rule x (standard_fits f n) o) ≡ Sound c → StandardCalled table d n c
  standard_is table d rule x z n f None c e wants is named no_call h = absurd (cc (also_sound (c9_standard env x (entity.Standard f)) _ c h))
  standard_is table d rule x z n f (Some k) c e wants is named no_call h =
      let fits : (standard_fits f n ≡ true) × (k ≡ c) = provided_sound (standard_fits f n) C2 x.at k c (also_sound (c9_standard env x (entity.Standard f)) _ c h) in
      record {
        name = z;
        which = f;
        is = is;
        named = named;
        no_call = no_call;
        allowed = holds (is_allowed env.region f) C9 x.at (also_none (c9_standard env x (entity.Standard f)) _ c h);
        there = e ∙ ap (λ w. Some w) fits.1;
        count = ap (λ w. length w.wants) (sym fits.1) ∙ ap length (wants k e) ∙ eqb-true (length (standard_wants f)) n fits.0;
      }

  -- a routine after a `.` is an entry
  has_entry : (x : Identifier) (r : ℕ) → c5_without_entry x (routine_of env r) ≡ [] → (routine_of env r).entry ≡ true
  has_entry x r h = holds (routine_of env r).entry C5 x.at h

  pub function_as : (m : Mode) (d : s.Designator) (z : a.Designator) (n : ℕ) (e : Entity) (c : rules.Callee) → DesignatorAs G env rs p z e
      → function_of env m d n e ≡ Sound c → FunctionCalled z n c
  function_as m d z n (entity.Routine r) c k h =
      let own : OwnAs G env rs p k.0 r = k.2 in
      inl (user_called z (last_name d) (sort_rule m d) n r c (record { routine = own.routine; of = None }) (ap (callee p.env) k.1 ∙ own.named)
      (own_may z k.0 r (last_name d) own (also_none (c5_by_name (last_name d) (routine_of env r)) _ c h)) own.meets
      (also_sound (c5_by_name (last_name d) (routine_of env r)) _ c h))
  function_as m d z n (entity.Entry r) c k h =
      let unless_entry : Violations = c5_without_entry (last_name d) (routine_of env r) in
      let is_entry : (routine_of env r).entry ≡ true = has_entry (last_name d) r (also_none unless_entry _ c h) in
      inl (user_called z (last_name d) (sort_rule m d) n r c (record { routine = k.routine; of = Some k.component }) k.named (k.may is_entry) k.meets (also_sound unless_entry _ c h))
  function_as m d z n (entity.Standard f) c k h =
      inr (standard_is standard_function z (sort_rule m d) (last_name d) k.0 n f (standard_function f) c refl (function_wants f) k.1 k.2.0 k.2.1 h)
  function_as m d z n (entity.UnfinishedRoutine r) c k h = absurd (cc)
  function_as m d z n (entity.Constant b w) c k h = absurd (cc)
  function_as m d z n (entity.Type t) c k h = absurd (cc)
  function_as m d z n (entity.Variable t q) c k h = absurd (cc)
  function_as m d z n entity.UnfinishedConstant c k h = absurd (cc)
  function_as m d z n entity.UnfinishedType c k h = absurd (cc)
  function_as m d z n entity.Hidden c k h = absurd (cc)
  function_as m d z n (entity.Broken w) c k h = absurd (cc)

  pub procedure_as : (d : s.Designator) (z : a.Designator) (n : ℕ) (e : Entity) (c : rules.Callee) → DesignatorAs G env rs p z e
      → procedure_of env d n e ≡ Sound c → ProcedureCalled z n c
  procedure_as d z n (entity.Routine r) c k h =
      let own : OwnAs G env rs p k.0 r = k.2 in
      inl (procedure_user z (last_name d) n r c (record { routine = own.routine; of = None }) (ap (callee p.env) k.1 ∙ own.named)
      (own_may z k.0 r (last_name d) own (also_none (c5_by_name (last_name d) (routine_of env r)) _ c h)) own.meets
      (also_sound (c5_by_name (last_name d) (routine_of env r)) _ c h))
  procedure_as d z n (entity.Entry r) c k h =
      let unless_entry : Violations = c5_without_entry (last_name d) (routine_of env r) in
      let is_entry : (routine_of env r).entry ≡ true = has_entry (last_name d) r (also_none unless_entry _ c h) in
      inl (procedure_user z (last_name d) n r c (record { routine = k.routine; of = Some k.component }) k.named (k.may is_entry) k.meets (also_sound unless_entry _ c h))
  procedure_as d z n (entity.Standard f) c k h =
      inr (standard_is standard_procedure z C2 (last_name d) k.0 n f (standard_procedure f) c refl (procedure_wants f) k.1 k.2.0 k.2.1 h)
  procedure_as d z n (entity.UnfinishedRoutine r) c k h = absurd (cc)
  procedure_as d z n (entity.Constant b w) c k h = absurd (cc)
  procedure_as d z n (entity.Type t) c k h = absurd (cc)
  procedure_as d z n (entity.Variable t q) c k h = absurd (cc)
  procedure_as d z n entity.UnfinishedConstant c k h = absurd (cc)
  procedure_as d z n entity.UnfinishedType c k h = absurd (cc)
  procedure_as d z n entity.Hidden c k h = absurd (cc)
  procedure_as d z n (entity.Broken w) c k h = absurd (cc)
