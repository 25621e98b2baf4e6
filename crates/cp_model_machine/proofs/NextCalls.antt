-- The next call of an expression is the operation at its place, and its value leads on.
--
-- After it, all calls have been made, or the next call puts its value into a later temp.
use Rattle.std.proofs.Common.{◌≡◌, ℕ, ◌≤◌, ◌<◌, ℤ, ◌⊎◌, inl, inr, Some, None, ap, ◌∙◌, arith}
use Rattle.cp_model.specs.Abstract as a
use Rattle.cp_model.specs.Abstract.{BaseType}
use Rattle.cp_model.specs.Calls.{Found, UserCall, call_in_arguments, in_context, or_else}
use Rattle.cp_model_program.specs.Programs as op
use Rattle.cp_model_program.specs.Programs.{Call}
use Rattle.cp_model_program.specs.Sites.{Answers, Calls, Site, first_parameter, operation_at, parameters}
use Rattle.cp_model_program.specs.TermsFor.{ArgumentsFor, Knowns}

-- ---- the first call

-- The call at a place is ready to be made: its arguments contain no call.
pub record CallReady (site : Site) (K : Knowns) (u : UserCall) (place temp after : ℕ) (base : BaseType) : Type 0 where
  pub call : Call
  pub op : operation_at site.program place ≡ Some (op.Function call temp after)
  pub named : a.Designator
  pub low : ℕ
  pub calls : Calls site named u.callee low call
  pub from : ℕ
  pub high : ℕ
  pub arguments : ArgumentsFor site K (parameters site u.callee) u.arguments call.arguments (first_parameter u.callee) from place low high
  pub made : call_in_arguments site.env (a.Literal 0) u.arguments ≡ None
  pub answers : Answers site u.callee base
  pub where_is : u.environment ≡ site.env

-- What is known of the temps that the call keeps, and of those after the one that gets its value,
-- doesn't change.
abbrev pub Learns : Knowns → Knowns → ℕ → ℕ → Type 0
Learns K L kept temp = (s : ℕ) (m : ℤ) → (s < kept) ⊎ (temp < s) → K s m → L s m

-- After the call, all calls have been made, or the next one puts its value into a later temp.
abbrev pub Follows : Site → ℕ → ℕ → ℕ → Type 0
Follows site temp after next =
    (after ≡ next)
    ⊎ ((call : Call) × (into : ℕ) × (n : ℕ) × (operation_at site.program after ≡ Some (op.Function call into n)) × (temp < into))

pub record Next {A : Type 0} (site : Site) (K : Knowns) (find : a.Expression → Found A) (For : Knowns → A → ℕ → Type 0) (place next low high : ℕ) : Type 1 where
  pub user : UserCall
  pub temp : ℕ
  pub after : ℕ
  pub base : BaseType
  pub fill : a.Expression → A
  pub found : (v : a.Expression) → find v ≡ Some (user, fill v)
  pub ready : CallReady site K user place temp after base
  pub keeps : low ≤ ready.low
  pub lower : low ≤ temp
  pub upper : temp < high
  pub follows : Follows site temp after next
  pub answered : (n : ℤ) (L : Knowns) → Learns K L ready.low temp → L temp n → For L (fill (a.Known base n)) after

-- Either all calls have been made, and the code represents the same whatever is known, or a call is
-- next.
pub data Advance {A : Type 0} (site : Site) (K : Knowns) (find : a.Expression → Found A) (For : Knowns → A → ℕ → Type 0) (Still : ℕ → Type 0) (place next low high : ℕ) : Type 1 where
  AllMade : place ≡ next → ((v : a.Expression) → find v ≡ None) → ((z : ℕ) → Still z) → Advance site K find For Still place next low high
  Calling : Next site K find For place next low high → Advance site K find For Still place next low high

abbrev pub next_in : {A B : Type 0} (site : Site) (K : Knowns) (f : A → B) (find : a.Expression → Found A) (For : Knowns → A → ℕ → Type 0) (Whole : Knowns → B → ℕ → Type 0)
    {inner outer : ℕ} (place low high from to : ℕ) → from ≤ low → high ≤ to → (N : Next site K find For place inner low high)
    → (Follows site N.temp N.after inner → Follows site N.temp N.after outer)
    → ((L : Knowns) (x : A) (after : ℕ) → Learns K L N.ready.low N.temp → For L x after → Whole L (f x) after)
    → Next site K (λ v. in_context f (find v)) Whole place outer from to
next_in site K f find For Whole place low high from to p q N behind go = record {
  user = N.user;
  temp = N.temp;
  after = N.after;
  base = N.base;
  fill = λ v. f (N.fill v);
  found = λ v. ap (in_context f) (N.found v);
  ready = N.ready;
  keeps = omega (arith, N.keeps);
  lower = omega (arith, N.lower);
  upper = omega (arith, N.upper);
  follows = behind N.follows;
  answered = λ n L k t. go L (N.fill (a.Known N.base n)) N.after k (N.answered n L k t);
}

abbrev pub next_left : {A : Type 0} (site : Site) (K : Knowns) (x y : a.Expression → Found A) (For : Knowns → A → ℕ → Type 0) {next : ℕ} (place low high : ℕ)
    → Next site K x For place next low high → Next site K (λ v. or_else (x v) (y v)) For place next low high
next_left site K x y For place low high N = record {
  user = N.user;
  temp = N.temp;
  after = N.after;
  base = N.base;
  fill = N.fill;
  found = λ v. ap (λ z. or_else z (y v)) (N.found v);
  ready = N.ready;
  keeps = N.keeps;
  lower = N.lower;
  upper = N.upper;
  follows = N.follows;
  answered = N.answered;
}

abbrev pub next_right : {A : Type 0} (site : Site) (K : Knowns) (x y : a.Expression → Found A) (For : Knowns → A → ℕ → Type 0) {next : ℕ} (place low high : ℕ)
    → ((v : a.Expression) → x v ≡ None)
    → Next site K y For place next low high → Next site K (λ v. or_else (x v) (y v)) For place next low high
next_right site K x y For place low high none N = record {
  user = N.user;
  temp = N.temp;
  after = N.after;
  base = N.base;
  fill = N.fill;
  found = λ v. ap (λ z. or_else z (y v)) (none v) ∙ N.found v;
  ready = N.ready;
  keeps = N.keeps;
  lower = N.lower;
  upper = N.upper;
  follows = N.follows;
  answered = N.answered;
}

-- What follows a part follows the whole.
pub follows_on : {A : Type 0} (site : Site) (K : Knowns) (find : a.Expression → Found A) (For : Knowns → A → ℕ → Type 0) (Still : ℕ → Type 0)
    (temp after between next low high : ℕ) → temp < low → Advance site K find For Still between next low high
    → Follows site temp after between → Follows site temp after next
follows_on site K find For Still temp after between next low high below (AllMade p q r) (inl e) = inl (e ∙ p)
follows_on site K find For Still temp after between next low high below (Calling N) (inl e) =
    inr (N.ready.call, N.temp, N.after, ap (operation_at site.program) e ∙ N.ready.op, omega (arith, below, N.lower))
follows_on site K find For Still temp after between next low high below h (inr c) = inr c

-- The last call of the arguments is followed by the call itself.
pub call_follows : (site : Site) (call : Call) (t next last middle temp after : ℕ) → operation_at site.program last ≡ Some (op.Function call t next)
    → temp < middle → middle ≤ t → Follows site temp after last → Follows site temp after next
call_follows site call t next last middle temp after is below up (inl e) =
    inr (call, t, next, ap (operation_at site.program) e ∙ is, omega (arith, below, up))
call_follows site call t next last middle temp after is below up (inr c) = inr c
