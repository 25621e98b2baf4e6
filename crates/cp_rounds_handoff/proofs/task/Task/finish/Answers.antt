use Rattle.std.proofs.Common.{◌≡◌, ◌-◌, ℕ, Bool, true, IfSome, Some, slice_get, sym, ◌∙◌, subst, arith}
use Rattle.cp_private.specs.States.{private_of}
use Rattle.cp_private.specs.declared.private.Private.{Private}
use Rattle.cp_rounds_handoff.specs.Tasks.{AreMade, HasRoom, IsShort, is_some}
use Rattle.cp_rounds_handoff.proofs.MadeTurns.{is_some_of}
use Rattle.cp_rounds_handoff.proofs.task.Task.finish.Goals as goal

pub returns-clause-taken : goal.returns-clause-taken
returns-clause-taken g c =
    let task = c.args.self in
    let y = task.private in
    let most = g.C.Course.most in
    let xs = c.args.round.now.start.value.items in
    let p = c.args.process in
    let leads = λ (r : ℕ). AreMade g.C.Course.without_kernel g.C.Course.turned g.C.Course.round_time r task.made in
    let made : is_some task.made ≡ true = is_some_of task.made (λ e. omega (arith, e, c.if-self-eq0.false)) in
    let same = subst (λ o. IfSome o (λ t. t.value.value ≡ c.args.round.now.start.value)) c.in-Some.is c.args.round.now.same in
    let process : task.process ≡ p = c.if-self-process.false in
    let round : task.round ≡ c.args.round.now.index = c.if-self-round.false in
    let back : (x : Private) → slice_get xs (p - 1) ≡ Some x → slice_get task.start.value.value.items (task.process - 1) ≡ Some x =
    λ x e. subst (λ (q : ℕ). slice_get task.start.value.value.items (q - 1) ≡ Some x) (sym process)
    (subst (λ v. slice_get v.value.items (p - 1) ≡ Some x) c.agrees.ensures (subst (λ v. slice_get v.items (p - 1) ≡ Some x) (sym same) e)) in
    record {
      number = task.number ∙ process;
      comes = λ x e.
          subst (λ (q : ℕ). leads c.args.round.now.index (private_of x (g.C.Course.input (q - 1))) (private_of y (g.C.Course.input (q - 1)))) process
          (subst (λ (r : ℕ). leads r (private_of x (g.C.Course.input (task.process - 1))) (private_of y (g.C.Course.input (task.process - 1)))) round
          (task.comes x (back x e)));
      room = subst (λ (b : Bool). HasRoom most b y) made task.room;
      short = λ x e. subst (λ (b : Bool). IsShort most task.start.value.value.items (task.process - 1) b y) made task.short x (back x e);
      wide = task.wide;
    }
