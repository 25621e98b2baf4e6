-- Why a replay is refused.
use Rattle.std.proofs.Common.{◌≡◌, ap, List, Option, None, Some, IfSome, ℕ, inl, inr, subst, sym}
use Rattle.cp_model.specs.Syntax as s
use Rattle.cp_base_schedule.specs.Reading.{Refuses}
use Rattle.cp_base_schedule.specs.declared.reading.OrderError.{OrderError}
use Rattle.cp_base_schedule.specs.declared.reading.OrderError.TheVariants as order
use Rattle.cp_frontend.specs.declared.reading.ReadError.{ReadError}
use Rattle.cp_frontend.specs.declared.reading.ReadError.TheVariants as read
use Rattle.cp_frontend.specs.declared.refusal.Refusal.{Refusal}
use Rattle.cp_frontend.specs.declared.refusal.Refusal.TheVariants as refusal
use Rattle.cp_frontend.specs.KnownRefusals.{IsFault, RefusesInputOf, RefusesText}
use Rattle.cp_frontend.specs.Refusals.{of_order, of_read}
use Rattle.cp_execute.specs.Replayed.{IsFit, IsNotText, RefusesNoAccepted, RefusesOrder, RefusesOrderFor, RefusesOrderOf, RefusesReplay, rounds_reported}
use Rattle.cp_frontend.specs.Takings.{Concern, Fault, Input, IsAboutInput, IsAboutOrder, Order, Text, Writer, concern, front}
use Rattle.cp_frontend.specs.Texts.{IsAccepted}
use Rattle.cp_frontend.proofs.Faults.{known_fault}

pub replay_refused_text : (text input order : Option (List ℕ)) (e : Refusal) → IfSome text (λ xs. RefusesText xs e)
    → IfSome text (λ xs. RefusesReplay xs input order e)
replay_refused_text None input order e h = tt
replay_refused_text (Some xs) input order e h = inl h

pub replay_refused_input : (text input order : Option (List ℕ)) (t : s.Tree) (e : Refusal) → IfSome text (λ xs. IsAccepted xs t) → RefusesInputOf input e
    → IfSome text (λ xs. RefusesReplay xs input order e)
replay_refused_input None input order t e is h = tt
replay_refused_input (Some xs) input order t e is h = inr (t, is, inl h)

pub replay_refused_order : (text input order : Option (List ℕ)) (t : s.Tree) (e : Refusal) → IfSome text (λ xs. IsAccepted xs t) → IsFit input
    → RefusesOrderOf t order e → IfSome text (λ xs. RefusesReplay xs input order e)
replay_refused_order None input order t e is fit h = tt
replay_refused_order (Some xs) input order t e is fit h = inr (t, is, inr (fit, h))

-- ---- orders

is_about_order : (t : s.Tree) (bytes : List ℕ) (e : Refusal) → RefusesOrder t bytes e → IsAboutOrder (concern e)
is_about_order t bytes refusal.Read h = h
is_about_order t bytes refusal.Memory h = h
is_about_order t bytes refusal.Write h = h
is_about_order t bytes (refusal.Scan c at) h = h
is_about_order t bytes (refusal.Unexpected at) h = h
is_about_order t bytes (refusal.Unfinished at) h = h
is_about_order t bytes (refusal.TooDeep at) h = h
is_about_order t bytes (refusal.Check rule at) h = h
is_about_order t bytes (refusal.InputByte at) h = h
is_about_order t bytes refusal.InputSize h = h
is_about_order t bytes (refusal.Order at) h = tt

pub refuses_order_of : (known : Option (List ℕ)) (t : s.Tree) (bytes : List ℕ) (e : Refusal) → IfSome known (λ zs. bytes ≡ front zs) → RefusesOrder t bytes e
    → RefusesOrderOf t known e
refuses_order_of None t bytes e k h = (is_about_order t bytes e h, tt)
refuses_order_of (Some zs) t bytes e k h = (is_about_order t bytes e h, subst (λ (bs : List ℕ). RefusesOrder t bs e) k h)

-- What the reader of orders refuses is refused as an order of so many processes.
pub order_refused_for : (n : ℕ) (bytes : List ℕ) (e : OrderError) → Refuses n bytes e → RefusesOrderFor n bytes (of_order e)
order_refused_for n bytes (order.Line at) h = ap rounds_reported h
order_refused_for n bytes order.Memory h = tt

pub order_unread : (known : Option (List ℕ)) (t : s.Tree) (e : ReadError) → RefusesOrderOf t known (of_read e)
order_unread None t read.Read = (tt, tt)
order_unread None t read.Memory = (tt, tt)
order_unread (Some zs) t read.Read = (tt, tt)
order_unread (Some zs) t read.Memory = (tt, tt)

-- ---- no accepted text is refused

fault_is_not : (e : Refusal) → IsFault e → IsNotText (concern e)
fault_is_not refusal.Read h = tt
fault_is_not refusal.Memory h = tt
fault_is_not refusal.Write h = tt
fault_is_not (refusal.Scan c at) h = h
fault_is_not (refusal.Unexpected at) h = h
fault_is_not (refusal.Unfinished at) h = h
fault_is_not (refusal.TooDeep at) h = h
fault_is_not (refusal.Check rule at) h = h
fault_is_not (refusal.InputByte at) h = tt
fault_is_not refusal.InputSize h = tt
fault_is_not (refusal.Order at) h = tt

input_is_not : (of : Concern) → IsAboutInput of → IsNotText of
input_is_not Text h = h
input_is_not Input h = tt
input_is_not Order h = tt
input_is_not Writer h = tt
input_is_not Fault h = tt

order_is_not : (of : Concern) → IsAboutOrder of → IsNotText of
order_is_not Text h = h
order_is_not Input h = tt
order_is_not Order h = tt
order_is_not Writer h = tt
order_is_not Fault h = tt

pub text_refused : (text : Option (List ℕ)) (e : Refusal) → IfSome text (λ xs. RefusesText xs e) → RefusesNoAccepted text e
text_refused text e h xs t same is = fault_is_not e (known_fault text e h xs t same is)

pub input_refused : (text : Option (List ℕ)) (e : Refusal) → IsAboutInput (concern e) → RefusesNoAccepted text e
input_refused text e about xs t same is = input_is_not (concern e) about

pub order_refused : (text : Option (List ℕ)) (e : Refusal) → IsAboutOrder (concern e) → RefusesNoAccepted text e
order_refused text e about xs t same is = order_is_not (concern e) about

pub write_refused : (text : Option (List ℕ)) (e : Refusal) → e ≡ refusal.Write → RefusesNoAccepted text e
write_refused text e write xs t same is = subst (λ (r : Refusal). IsNotText (concern r)) (sym write) tt
