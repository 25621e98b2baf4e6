-- The plan of an array writes the start values of its elements: as one fill, or block by block.
use Rattle.std.proofs.Common.{◌≡◌, ◌≤◌, ℕ, zero, suc, ◌+◌, ◌*◌, ◌-◌, ℤ, pos, negsuc, List, Option, Some, None, refl, ap, sym, subst, ◌∙◌, Bool, true, false, ◌&&◌, if◌then◌else◌, nat_eq, eqb-true, length, append-nil, arith}
use Prim.{grind}
use Rattle.std.specs.Prelude.{int_le, replicate}
use Rattle.std.proofs.lemmas.Bool.{and_parts, lt-leb}
use Rattle.std.proofs.lemmas.List.{get_or-replicate, length-replicate}
use Rattle.cp_model.specs.Integers.{count_between}
use Rattle.cp_model_program.specs.Programs.{Done, Fill, Part, Repeat, StartPlan}
use Rattle.cp_model_program.specs.Starts.{block, fill, paste, repeat_block, carry_out, word}
use Rattle.cp_model_program.specs.Plans.{plan_before, plan_of_elements, repeats, value_of_fill}
use Rattle.cp_model_program.proofs.Pasting.{block_of_paste, copies, fill_is_paste, paste_append, paste_length, repeated_is_paste}
use Rattle.cp_model_program.proofs.PlansWrite.{Blank, copies_of_one, plan_before_is, Writes, blank_part, blank_first}

pub some_values : (low high : ℤ) → int_le low high ≡ true → (c : ℕ) × (count_between low high ≡ suc c)
some_values low high h = (count_between low high - 1, at_least low high h)
  where
    at_least : (a b : ℤ) → int_le a b ≡ true → count_between a b ≡ suc (count_between a b - 1)
    at_least (pos a) (pos b) h = grind (arith, h)
    at_least (pos a) (negsuc b) h = absurd (cc)
    at_least (negsuc a) (pos b) h = grind (arith, h)
    at_least (negsuc a) (negsuc b) h = grind (arith, h)

-- A plan that is one fill of all words has one value.
fill_of_value : (size : ℕ) (p : StartPlan) (n : ℤ) → value_of_fill size p ≡ Some n → p ≡ Fill 0 size n Done
fill_of_value size Done n h = absurd (cc)
fill_of_value size (Repeat at s c rest) n h = absurd (cc)
fill_of_value size (Part at p rest) n h = absurd (cc)
fill_of_value size (Fill at count m (Fill a c k rest)) n h = absurd (cc)
fill_of_value size (Fill at count m (Repeat a s c rest)) n h = absurd (cc)
fill_of_value size (Fill at count m (Part a p rest)) n h = absurd (cc)
fill_of_value size (Fill at count m Done) n h = go (nat_eq at 0 && nat_eq count size) refl h
  where
    go : (b : Bool) → (nat_eq at 0 && nat_eq count size) ≡ b → (if b then Some m else None) ≡ Some n → Fill at count m Done ≡ Fill 0 size n Done
    go false is h = absurd (cc)
    go true is h =
        let both = and_parts (nat_eq at 0) (nat_eq count size) is in
        ap (λ z. Fill z count m Done) (eqb-true at 0 both.0) ∙ ap (λ z. Fill 0 z m Done) (eqb-true count size both.1)
        ∙ ap (λ o. Fill 0 size (elim o [ None ↦ m | Some z ↦ z ]) Done) h

zeros_blank : (zeros : Bool) (size : ℕ) → Blank zeros (replicate size (pos 0)) 0 size
zeros_blank zeros size is k less = ap (word (replicate size (pos 0))) (nothing_before k) ∙ get_or-replicate size k (pos 0) (pos 0) less
  where
    nothing_before : (a : ℕ) → 0 + a ≡ a
    nothing_before a = omega arith

-- What is written over words that are all 0 is there then.
fill_values : (zeros : Bool) (size : ℕ) (n : ℤ) (values : List ℤ) → length values ≡ size → Writes zeros size (Fill 0 size n Done) values → values ≡ replicate size n
fill_values zeros size n values is writes =
    sym (there values is) ∙ ap (λ z. block z 0 size) (sym (writes 0 ws room (zeros_blank zeros size)) ∙ fill_is_paste 0 size n ws)
    ∙ there (replicate size n) (length-replicate size n)
  where
    ws : List ℤ
    ws = replicate size (pos 0)

    room : 0 + size ≤ length ws
    room = omega (arith, length-replicate size (pos 0))

    there : (xs : List ℤ) → length xs ≡ size → block (paste 0 xs ws) 0 size ≡ xs
    there xs h = ap (block (paste 0 xs ws) 0) (sym h) ∙ block_of_paste 0 xs ws (omega (arith, h, length-replicate size (pos 0)))

-- Where nothing is planned for one element, nothing is to be written for several.
nothing_planned : (zeros : Bool) (size : ℕ) (values : List ℤ) → length values ≡ size → Writes zeros size Done values
    → (k : ℕ) → Writes zeros (k * size) Done (copies k values)
nothing_planned zeros size values is writes zero base ws room blank = refl
nothing_planned zeros size values is writes (suc k) base ws room blank =
    nothing_planned zeros size values is writes k (base + size) ws (one_less k room)
    (blank_part zeros ws base (suc k * size) size (k * size) blank (all k))
    ∙ ap (λ n. paste (base + n) (copies k values) ws) (sym is)
    ∙ ap (paste (base + length values) (copies k values)) (writes base ws (first k room) (blank_first zeros ws base (suc k * size) size blank (some k)))
    ∙ sym (paste_append base values (copies k values) ws)
  where
    one_less : (c : ℕ) → base + suc c * size ≤ length ws → base + size + c * size ≤ length ws
    one_less c h = omega (arith, h)

    first : (c : ℕ) → base + suc c * size ≤ length ws → base + size ≤ length ws
    first c h = omega (arith, h)

    all : (c : ℕ) → size + c * size ≤ suc c * size
    all c = omega arith

    some : (c : ℕ) → size ≤ suc c * size
    some c = omega arith

-- The blocks after a first one that is there.
repeats_are : (size c : ℕ) (values : List ℤ) (base : ℕ) (ws : List ℤ) → length values ≡ size → base + suc c * size ≤ length ws
    → carry_out base (repeats size (suc c)) (paste base values ws) ≡ paste base (copies (suc c) values) ws
repeats_are size zero values base ws is room = ap (λ xs. paste base xs ws) (sym (append-nil values))
repeats_are size (suc c) values base ws is room =
    ap (λ b. carry_out base (if b then Done else Repeat 0 size (suc (suc c)) Done) (paste base values ws)) (lt-leb (suc (suc c)) 1 (omega arith))
    ∙ ap (λ z. repeat_block z size (suc (suc c) - 1) (paste base values ws)) (nothing_more base)
    ∙ ap (λ n. repeat_block base size n (paste base values ws)) (one_less c)
    ∙ repeated_is_paste base size (suc c) values (paste base values ws) is block_there (omega (arith, room, paste_length base values ws))
    ∙ ap (λ n. paste (base + n) (copies (suc c) values) (paste base values ws)) (sym is)
    ∙ sym (paste_append base values (copies (suc c) values) ws)
  where
    nothing_more : (a : ℕ) → a + 0 ≡ a
    nothing_more a = omega arith

    one_less : (n : ℕ) → suc (suc n) - 1 ≡ suc n
    one_less n = omega arith

    block_there : block (paste base values ws) base size ≡ values
    block_there = ap (block (paste base values ws) base) (sym is) ∙ block_of_paste base values ws (omega (arith, is, room))

pub elements_planned : (zeros : Bool) (size c : ℕ) (p : StartPlan) (values : List ℤ) → length values ≡ size → Writes zeros size p values
    → Writes zeros (suc c * size) (plan_of_elements size (suc c) (value_of_fill size p) p) (copies (suc c) values)
elements_planned zeros size c p values is writes base ws room blank = go (value_of_fill size p) refl
  where
    nothing_more : (a : ℕ) → a + 0 ≡ a
    nothing_more a = omega arith

    first : (c : ℕ) → base + suc c * size ≤ length ws → base + size ≤ length ws
    first c h = omega (arith, h)

    some : (c : ℕ) → size ≤ suc c * size
    some c = omega arith

    one_by_one : carry_out base (plan_before 0 p (repeats size (suc c))) ws ≡ paste base (copies (suc c) values) ws
    one_by_one =
        plan_before_is 0 p (repeats size (suc c)) base ws
        ∙ ap (λ z. carry_out base (repeats size (suc c)) (carry_out z p ws)) (nothing_more base)
        ∙ ap (carry_out base (repeats size (suc c))) (writes base ws (first c room) (blank_first zeros ws base (suc c * size) size blank (some c)))
        ∙ repeats_are size c values base ws is room

    several : (q : StartPlan) → p ≡ q → carry_out base (plan_of_elements size (suc c) None q) ws ≡ paste base (copies (suc c) values) ws
    several Done h = nothing_planned zeros size values is (subst (λ z. Writes zeros size z values) h writes) (suc c) base ws room blank
    several (Fill a n v rest) h = ap (λ z. carry_out base (plan_before 0 z (repeats size (suc c))) ws) (sym h) ∙ one_by_one
    several (Repeat a s n rest) h = ap (λ z. carry_out base (plan_before 0 z (repeats size (suc c))) ws) (sym h) ∙ one_by_one
    several (Part a q rest) h = ap (λ z. carry_out base (plan_before 0 z (repeats size (suc c))) ws) (sym h) ∙ one_by_one

    go : (o : Option ℤ) → value_of_fill size p ≡ o → carry_out base (plan_of_elements size (suc c) o p) ws ≡ paste base (copies (suc c) values) ws
    go None h = several p refl
    go (Some n) h =
        let alike = fill_values zeros size n values is (subst (λ z. Writes zeros size z values) (fill_of_value size p n h) writes) in
        ap (λ z. fill z (suc c * size) n ws) (nothing_more base)
        ∙ fill_is_paste base (suc c * size) n ws
        ∙ ap (λ xs. paste base xs ws) (sym (ap (copies (suc c)) alike ∙ copies_of_one (suc c) size n))
