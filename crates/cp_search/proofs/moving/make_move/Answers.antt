use Rattle.std.proofs.Common.{◌≡◌, List, ℕ, Option, IfSome, subst, sym, ◌∙◌}
use Rattle.cp_program.specs.View as view
use Rattle.cp_private.specs.States.{private_of}
use Rattle.cp_kernel.specs.KernelOf.{kernel_of}
use Rattle.cp_search_states.specs.Alone.{IsMove}
use Rattle.cp_search_states.specs.SearchStates.{input_of}
use Rattle.cp_search_states.specs.declared.alone.Lone.{Lone}
use Rattle.cp_search_store.specs.States.{IsLone}
use Rattle.cp_search_store.proofs.Growing.{more_not, more_twice}
use Rattle.cp_search_store.proofs.Made.{early_true, leads_true, wide_true}
use Rattle.cp_search.proofs.moving.make_move.Goals as goal

pub returns-in_default : goal.returns-in_default
returns-in_default c =
    let store = c.args.store.now in
    record {
      more = more_not store;
      is = λ kernel part. wide_true (view.program c.args.program.now) (input_of c.args.inputs.now) store c.args.key store kernel part;
    }

pub returns-then-not-is_late : goal.returns-then-not-is_late
returns-then-not-is_late c =
    let store = c.args.store.now in
    let key = c.args.key in
    let inputs = input_of c.args.inputs.now in
    let is : IsLone store key.kernel key.part c.in-Some.lone =
    subst (λ (o : Option Lone). IfSome o (IsLone store key.kernel key.part)) c.in-Some.is c.in_ok-known.ensures in
    record {
      more = more_not store;
      is = λ kernel part. early_true (view.program c.args.program.now) inputs store key c.in-Some.lone is
          (λ late. c.is_late.ensures.no c.if-not-is_late.true (c.way.ensures (inputs key.process) ∙ late));
    }

pub returns-then-not-branch : goal.returns-then-not-branch
returns-then-not-branch c =
    let store = c.args.store.now in
    record {
      more = more_not store;
      is = λ kernel part. wide_true (view.program c.args.program.now) (input_of c.args.inputs.now) store c.args.key store kernel part;
    }

pub returns : goal.returns
returns c =
    let program = view.program c.args.program.now in
    let store = c.args.store.now in
    let key = c.args.key in
    let inputs = input_of c.args.inputs.now in
    let a = c.in-Some.lone in
    let b = c.advance.new.self in
    let mid = c.number_kernel.new.self in
    let new = c.number_part.new.self in
    let is : IsLone store key.kernel key.part a =
    subst (λ (o : Option Lone). IfSome o (IsLone store key.kernel key.part)) c.in-Some.is c.in_ok-known.ensures in
    let move = subst (λ (l : List ℕ). IsMove program (kernel_of a.kernel) (private_of a.private l) (kernel_of b.kernel) (private_of b.private l))
    c.input_for-input.ensures (c.in_ok-advance.ensures c.if-not-branch.false) in
    let one = c.in_ok-kernel.ensures.parts in
    let two = c.in_ok-part.ensures.parts in
    record {
      more = more_twice store mid new one two;
      is = λ kernel part. leads_true program inputs store key mid new a b c.in_ok-kernel.kernel c.in_ok-part.part is
          (sym (c.way.ensures (inputs key.process)) ∙ c.is_late.ensures.yes c.if-not-is_late.false) move one c.in_ok-kernel.ensures.is two c.in_ok-part.ensures.is;
    }
