use Rattle.std.proofs.Common.{◌≡◌, ◌∙◌, ◌++◌, Bool, [], true, false, map, subst, sym, if◌then◌else◌}
use Rattle.std.proofs.lemmas.List.{append-nil}
use Rattle.cp_model.specs.Declarations.{is_component}
use Rattle.cp_model.specs.Erase as erase
use Rattle.cp_model.specs.Types.{with_members}
use Rattle.cp_compile_symbols.specs.Representing.{AreMembers, entries_of, entry, name_type}
use Rattle.cp_compile_symbols.proofs.Representing.{still_represents}
use Rattle.cp_compile_symbols.proofs.Written.{names_written}
use Rattle.cp_compile_symbols.proofs.types.Types.add_parameter.Goals as goal

pub returns-in_ok-add_fields : goal.returns-in_ok-add_fields
returns-in_ok-add_fields c =
    let old = c.args.self.now in
    let new = c.named_type.new.self in
    let n = c.in_ok-of.of in
    let x = c.args.group.now.of.name in
    let xs = c.args.group.now.names.items in
    let made = c.in_ok-of.ensures in
    record {
      grows = made.grows;
      added = entries_of xs n;
      all = rw c.deref.ensures.value at c.in_ok-add_fields.ensures;
      represents = λ g later rest ms scope grows r.
          let represents = made.represents g scope in
          let is : false ≡ is_component (name_type x g) = sym (not_true c.is_component.result c.if-not-is_component.true) ∙ c.is_component.ensures (name_type x g) represents in
          subst (λ b. AreMembers later (entries_of xs n ++ rest) (if b then ms else with_members (map erase.name xs) (name_type x g) ms)) is
          (names_written later xs n (name_type x g) rest ms (still_represents new later grows n (name_type x g) represents) r);
    }
  where
    not_true : (b : Bool) → b ≡ false → b ≡ false
    not_true b h = h

pub returns-else-not-is_component : goal.returns-else-not-is_component
returns-else-not-is_component c =
    let new = c.named_type.new.self in
    let x = c.args.group.now.of.name in
    let xs = c.args.group.now.names.items in
    let made = c.in_ok-of.ensures in
    record {
      grows = made.grows;
      added = [];
      all = sym (append-nil (map entry c.args.members.now.items));
      represents = λ g later rest ms scope grows r.
          let is : true ≡ is_component (name_type x g) = sym c.if-not-is_component.false ∙ c.is_component.ensures (name_type x g) (made.represents g scope) in
          subst (λ b. AreMembers later rest (if b then ms else with_members (map erase.name xs) (name_type x g) ms)) is r;
    }
