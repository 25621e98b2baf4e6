-- The place of an element is as many sizes from the part in the first element as the word of its
-- index and the shift say.
use Rattle.std.proofs.Common.{arith, Bool, true, false, ◌≡◌, ◌≤◌, ℕ, ◌+◌, ◌*◌, ℤ, pos, negsuc, ◌+ℤ◌, ◌-ℤ◌, ◌≤ℤ◌, Result, Ok, Err, refl, ap, sym, ◌∙◌}
use Rattle.std.specs.Prelude.{int_le, ◌&&◌}
use Rattle.std.proofs.lemmas.Int.{ints}
use Rattle.cp_model.specs.declared.state.Fault.{Fault}
use Rattle.cp_model.specs.declared.state.Fault.TheVariants as fault
use Rattle.cp_model.specs.Places.{within}
use Rattle.cp_model_program.specs.Functions.{in_range, unless}
use Rattle.cp_model_program.specs.Layout.{distance, natural}
use Rattle.cp_model_program.specs.Terms as plain
use Rattle.cp_model_machine.specs.Values.{View, bind, place_of, root_place, value_of}
use Rattle.cp_program.specs.declared.element.Element.{Element}
use Rattle.cp_program.specs.declared.element.NearIndex.{NearIndex}
use Rattle.cp_program.specs.declared.element.Addend.{Addend}
use Rattle.cp_program.specs.declared.element.Addend.TheVariants as addend_case
use Rattle.cp_program.specs.declared.term.Root.{Root}
use Rattle.cp_program.specs.declared.term.Root.TheVariants as root_case
use Rattle.cp_program.specs.Reaches.{index_offset, offset_of}
use Rattle.cp_program.specs.Shifts.{added_by, distance_to}
use Rattle.cp_program.specs.View as view

at_most_true : (a b : ℤ) → a ≤ℤ b → int_le a b ≡ true
at_most_true a b h = go (int_le a b) refl
  where
    go : (t : Bool) → int_le a b ≡ t → int_le a b ≡ true
    go true e = e
    go false e = absurd (omega (arith, ints, h, e))

pub within_true : (low high n : ℤ) → low ≤ℤ n → n ≤ℤ high → within low high n ≡ true
within_true low high n h k = λ i. at_most_true low n h i && at_most_true n high k i

-- The root before another is as far before it as is said.
pub root_back : (v : View) (n : ℕ) (r : Root) → n ≤ distance_to r
    → root_place v (view.root_before n (view.root r)) + n ≡ root_place v (view.root r)
root_back v n (root_case.Local at) h = omega (arith, h)
root_back v n (root_case.Member at) h = omega (arith, h)
root_back v n (root_case.Through parameter plus) h = omega (arith, h)

-- The value of an index that is an integer.
with_addend_value : (v : View) (e : plain.Term) (n m : ℤ) (s : Addend) → value_of v e ≡ Ok n → m ≡ n +ℤ added_by s
    → negsuc 32767 ≤ℤ m → m ≤ℤ pos 32767 → value_of v (view.with_addend s e) ≡ Ok m
with_addend_value v e n m addend_case.Nothing known is low high =
    let same : n ≡ m = omega (arith, ints, is) in
    known ∙ ap (λ z. Ok z) same
with_addend_value v e n m (addend_case.Add k) known is low high =
    let inside = within_true (negsuc 32767) (pos 32767) m low high in
    ap (λ r. bind r (λ x. in_range (x +ℤ k))) known
    ∙ (ap in_range (sym is) ∙ (λ i. unless (inside i) fault.Overflow m))
with_addend_value v e n m (addend_case.Subtract k) known is low high =
    let inside = within_true (negsuc 32767) (pos 32767) m low high in
    let difference : n -ℤ k ≡ m = omega (arith, ints, is) in
    ap (λ r. bind r (λ x. in_range (x -ℤ k))) known
    ∙ (ap in_range difference ∙ (λ i. unless (inside i) fault.Overflow m))

moved : (b : Bool) (root far : ℕ) → unless b fault.Index (root + far) ≡ bind (unless b fault.Index far) (λ k. Ok (root + k))
moved true root far = refl
moved false root far = refl

-- The value of an index that leads a distance of `d` elements into the array.
abbrev Leads : View → NearIndex → ℕ → Type 0
Leads v i d =
    (m : ℤ) × (value_of v (view.near_index i).value ≡ Ok m) × (within i.part.bounds.low i.part.bounds.high m ≡ true) × (m -ℤ i.part.bounds.low ≡ pos d)

leads : (v : View) (i : NearIndex) (n : ℤ) (d : ℕ) → value_of v (view.slot i.slot) ≡ Ok n → pos d ≡ n +ℤ i.shift → d ≤ i.last → Leads v i d
leads v i n d known shifted last =
    let low = i.part.bounds.low in
    let high = i.part.bounds.high in
    let m = low +ℤ pos d in
    let is : m ≡ n +ℤ added_by i.addend = omega (arith, ints, i.shifted, shifted) in
    let above : low ≤ℤ m = omega (arith, ints) in
    let below : m ≤ℤ high = omega (arith, ints, i.reach, last) in
    let least : negsuc 32767 ≤ℤ m = omega (arith, ints, i.exact.0, above) in
    let greatest : m ≤ℤ pos 32767 = omega (arith, ints, i.exact.1, below) in
    let far : m -ℤ low ≡ pos d = omega (arith, ints) in
    (m, with_addend_value v (view.slot i.slot) n m i.addend known is least greatest, within_true low high m above below, far)

-- Where such an index leads.
pub index_found : (v : View) (i : NearIndex) (n : ℤ) (d : ℕ) → value_of v (view.slot i.slot) ≡ Ok n → pos d ≡ n +ℤ i.shift → d ≤ i.last
    → index_offset v (view.near_index i) ≡ Ok (d * i.part.size + i.part.plus)
index_found v i n d known shifted last =
    let size = i.part.size in
    let plus = i.part.plus in
    let found = leads v i n d known shifted last in
    ap (λ r. bind r (offset_of (view.near_index i))) found.1
    ∙ (ap (λ b. unless b fault.Index (distance i.part.bounds.low found.0 * size + plus)) found.2
    ∙ ap (λ k. Ok (natural k * size + plus)) found.3)

-- The place of an element is found from its index, and from where its part in the first element begins.
pub element_reached : (v : View) (e : Element)
    → place_of v (view.element e)
    ≡ bind (value_of v (view.near_index e.index).value)
    (λ m. bind (unless (within e.index.part.bounds.low e.index.part.bounds.high m) fault.Index (distance e.index.part.bounds.low m * e.index.part.size))
    (λ k. Ok (root_place v (view.root e.first) + k)))
element_reached v e = go (value_of v (view.near_index e.index).value)
  where
    low : ℤ
    low = e.index.part.bounds.low

    high : ℤ
    high = e.index.part.bounds.high

    size : ℕ
    size = e.index.part.size

    plus : ℕ
    plus = e.index.part.plus

    root : ℕ
    root = root_place v (view.root e.first)

    before : ℕ
    before = root_place v (view.root_before plus (view.root e.first))

    sum : (far : ℕ) → before + (far + plus) ≡ root + far
    sum far = omega (arith, root_back v plus e.first e.within)

    go : (r : Result ℤ Fault)
        → bind r (λ m. unless (within low high m) fault.Index (before + (distance low m * size + plus)))
        ≡ bind r (λ m. bind (unless (within low high m) fault.Index (distance low m * size)) (λ k. Ok (root + k)))
    go (Ok m) = ap (unless (within low high m) fault.Index) (sum (distance low m * size)) ∙ moved (within low high m) root (distance low m * size)
    go (Err f) = refl

-- The place of an element whose index leads a distance of `d` elements into the array.
pub element_found : (v : View) (e : Element) (n : ℤ) (d : ℕ)
    → value_of v (view.slot e.index.slot) ≡ Ok n → pos d ≡ n +ℤ e.index.shift → d ≤ e.index.last
    → place_of v (view.element e) ≡ Ok (root_place v (view.root e.first) + d * e.index.part.size)
element_found v e n d known shifted last =
    let low = e.index.part.bounds.low in
    let high = e.index.part.bounds.high in
    let size = e.index.part.size in
    let root = root_place v (view.root e.first) in
    let found = leads v e.index n d known shifted last in
    element_reached v e
    ∙ (ap (λ r. bind r (λ z. bind (unless (within low high z) fault.Index (distance low z * size)) (λ k. Ok (root + k)))) found.1
    ∙ (ap (λ b. bind (unless b fault.Index (distance low found.0 * size)) (λ k. Ok (root + k))) found.2
    ∙ ap (λ k. Ok (root + natural k * size)) found.3))
