-- What is read of a text, an input or an order, whatever the answer is then.
use Rattle.std.proofs.Common.{◌≡◌, ◌≤◌, ◌+◌, ℕ, List, [], ◌++◌, length, Option, None, Some, Result, Ok, Err, IfErr, IfSome, sym, subst, arith, length-append, length-take}
use Rattle.std.proofs.KnownBytes.{Consumes-kept, Consumes-nil, Consumes-trans}
use Rattle.std.specs.Io.KnownBytes.{Consumes, Keeps}
use Rattle.cp_frontend.specs.declared.reading.ReadError.{ReadError}
use Rattle.cp_frontend.specs.declared.reading.ReadError.TheVariants as read
use Rattle.cp_frontend.specs.declared.refusal.Refusal.{Refusal}
use Rattle.cp_frontend.specs.declared.refusal.Refusal.TheVariants as refusal
use Rattle.cp_frontend.specs.Refusals.{of_read}
use Rattle.cp_frontend.specs.Takings.{Concern, Fault, Input, IsAboutInput, IsAboutOrder, IsAboutText, Order, TakesFront, TakesInput, TakesInputAt, TakesOrder, TakesOrderAt, TakesText, TakesTextAt, TakesUpTo, Text, Writer, concern, front}

-- ---- one reader

pub takes_front : (old new : Option (List ℕ)) (bs : List ℕ) → IfSome old (λ xs. bs ≡ front xs) → Consumes old new bs → TakesFront old new
takes_front None new bs e h = tt
takes_front (Some xs) new bs e h = subst (λ (ys : List ℕ). Consumes (Some xs) new ys) e h

pub front_up_to : (old new : Option (List ℕ)) → TakesFront old new → TakesUpTo old new
front_up_to None new h = ([], Prim.omega (arith), tt)
front_up_to (Some xs) new h = (front xs, Prim.omega (arith, length-take 1048577 xs), h)

pub keeps_up_to : (old new : Option (List ℕ)) → Keeps old new → TakesUpTo old new
keeps_up_to old new h = ([], Prim.omega (arith), Consumes-kept old old new [] (Consumes-nil old) h)

pub more_up_to : (a b c : Option (List ℕ)) (xs bs : List ℕ) → Consumes a b xs → length xs + length bs ≤ 1048577 → Consumes b c bs → TakesUpTo a c
more_up_to a b c xs bs p few q = (xs ++ bs, Prim.omega (arith, length-append xs bs, few), Consumes-trans a b c xs bs p q)

-- ---- texts

pub text_at : (old new : Option (List ℕ)) (of : Concern) → TakesFront old new → TakesTextAt old new of
text_at old new Text h = h
text_at old new Input h = h
text_at old new Order h = h
text_at old new Writer h = h
text_at old new Fault h = front_up_to old new h

-- A text that was read is read, whatever comes of it.
pub text_taken : {T : Type 0} (r : Result T Refusal) (old new : Option (List ℕ)) → TakesFront old new → TakesText r old new
text_taken (Ok x) old new h = h
text_taken (Err e) old new h = text_at old new (concern e) h

pub text_failed : (old new : Option (List ℕ)) (e : ReadError) → TakesUpTo old new → TakesTextAt old new (concern (of_read e))
text_failed old new read.Read h = h
text_failed old new read.Memory h = h

-- ---- inputs

pub input_at : (old new : Option (List ℕ)) (of : Concern) → IsAboutInput of → TakesFront old new → TakesInputAt old new of
input_at old new Text is h = absurd is
input_at old new Input is h = h
input_at old new Order is h = absurd is
input_at old new Writer is h = absurd is
input_at old new Fault is h = front_up_to old new h

-- An input that wasn't touched, after a refusal of the text.
pub input_kept : (old new : Option (List ℕ)) (of : Concern) → IsAboutText of → Keeps old new → TakesInputAt old new of
input_kept old new Text is h = h
input_kept old new Input is h = absurd is
input_kept old new Order is h = absurd is
input_kept old new Writer is h = absurd is
input_kept old new Fault is h = keeps_up_to old new h

pub input_failed : (old new : Option (List ℕ)) (e : ReadError) → TakesUpTo old new → TakesInputAt old new (concern (of_read e))
input_failed old new read.Read h = h
input_failed old new read.Memory h = h

-- What is read of the input where the order is refused: all of it.
pub input_before : (old new : Option (List ℕ)) (of : Concern) → IsAboutOrder of → TakesFront old new → TakesInputAt old new of
input_before old new Text is h = absurd is
input_before old new Input is h = h
input_before old new Order is h = h
input_before old new Writer is h = h
input_before old new Fault is h = front_up_to old new h

-- ---- orders

-- An order that wasn't touched, after a refusal of the text or of the input.
pub order_after_text : (old new : Option (List ℕ)) (of : Concern) → IsAboutText of → Keeps old new → TakesOrderAt old new of
order_after_text old new Text is h = h
order_after_text old new Input is h = h
order_after_text old new Order is h = absurd is
order_after_text old new Writer is h = absurd is
order_after_text old new Fault is h = keeps_up_to old new h

pub order_after_input : (old new : Option (List ℕ)) (of : Concern) → IsAboutInput of → Keeps old new → TakesOrderAt old new of
order_after_input old new Text is h = h
order_after_input old new Input is h = h
order_after_input old new Order is h = absurd is
order_after_input old new Writer is h = absurd is
order_after_input old new Fault is h = keeps_up_to old new h

pub order_at : (old new : Option (List ℕ)) (of : Concern) → IsAboutOrder of → TakesFront old new → TakesOrderAt old new of
order_at old new Text is h = absurd is
order_at old new Input is h = absurd is
order_at old new Order is h = h
order_at old new Writer is h = h
order_at old new Fault is h = front_up_to old new h

pub order_failed : (old new : Option (List ℕ)) (e : ReadError) → TakesUpTo old new → TakesOrderAt old new (concern (of_read e))
order_failed old new read.Read h = h
order_failed old new read.Memory h = h

-- ---- writes

pub input_written : {T : Type 0} (r : Result T Refusal) (old new : Option (List ℕ)) → TakesFront old new → IfErr r (λ e. e ≡ refusal.Write) → TakesInput r old new
input_written (Ok x) old new h write = h
input_written (Err e) old new h write = subst (λ (r : Refusal). TakesInputAt old new (concern r)) (sym write) h

pub order_written : {T : Type 0} (r : Result T Refusal) (old new : Option (List ℕ)) → TakesFront old new → IfErr r (λ e. e ≡ refusal.Write) → TakesOrder r old new
order_written (Ok x) old new h write = h
order_written (Err e) old new h write = subst (λ (r : Refusal). TakesOrderAt old new (concern r)) (sym write) h

pub memory_at : (old new : Option (List ℕ)) (e : Refusal) → e ≡ refusal.Memory → TakesFront old new → TakesInputAt old new (concern e)
memory_at old new e memory h = subst (λ (r : Refusal). TakesInputAt old new (concern r)) (sym memory) (front_up_to old new h)

-- No text, input or order is refused because of a write.
pub no_write_of_text : (e : Refusal) → IsAboutText (concern e) → e ≡ refusal.Write → ⊥
no_write_of_text e is write = subst (λ (r : Refusal). IsAboutText (concern r)) write is

pub no_write_of_input : (e : Refusal) → IsAboutInput (concern e) → e ≡ refusal.Write → ⊥
no_write_of_input e is write = subst (λ (r : Refusal). IsAboutInput (concern r)) write is

pub no_write_of_order : (e : Refusal) → IsAboutOrder (concern e) → e ≡ refusal.Write → ⊥
no_write_of_order e is write = subst (λ (r : Refusal). IsAboutOrder (concern r)) write is
