-- Number and size tell the kinds of a table apart, and events and messages share no number.
use Prim.Native.Nat.{ℕ}
use mathlib.Core.Path.{◌≡◌, refl, sym, ◌∙◌, ap}
use mathlib.Core.Bool.{Bool, true, false, not}
use mathlib.Core.Option.{some}
use native.Mathlib.Omega.{arith}
use borrow.Author.Tests.{eq-eqb}
use lib.Dec.{eqb}
use Rattle.records.specs.Tables.{Table, size_of, find}
use Rattle.records.specs.Laws.{Lawful, every, ToldApart, NoneShared}
use Rattle.records.specs.Events.{events, EventKind, event_row}
use Rattle.records.specs.Messages.{messages, message_row, message_kinds}
use Rattle.records.proofs.RoundTrip.{every_found}
use Rattle.records.proofs.Tables.{event_lawful, message_lawful}

same : {A : Type 0} (j k : A) → some j ≡ some k → j ≡ k
same j k e = cc

module _ (t : Table) (lawful : Lawful t) where
  told_apart : ToldApart t
  told_apart j k number size =
      same j k
      (sym (lawful.found j) ∙ ap (λ n. find t n (size_of t j) t.kinds) number ∙ ap (λ z. find t (t.row_of k).number z t.kinds) size ∙ lawful.found k)

  -- what holds of every kind in the list holds of every kind
  pub of_each : (p : t.Kind → Bool) → every p t.kinds ≡ true → (k : t.Kind) → p k ≡ true
  of_each p all k = every_found t lawful p (t.row_of k).number (size_of t k) t.kinds k (lawful.found k) all

pub none_shared : NoneShared events messages
none_shared j k e =
    let others : EventKind → Bool = λ i. every (λ l. not (eqb (event_row i).number (message_row l).number)) message_kinds in
    let other : not (eqb (event_row j).number (message_row k).number) ≡ true = of_each messages message_lawful (λ l. not (eqb (event_row j).number (message_row l).number)) (of_each events event_lawful others refl j) k in
    let z : ◌≡◌ {A = Bool} false true = rw (eq-eqb (event_row j).number (message_row k).number e) at other in
    let y : ◌≡◌ {A = ℕ} 0 1 = cc in omega arith

pub events_told_apart : ToldApart events
events_told_apart = told_apart events event_lawful

pub messages_told_apart : ToldApart messages
messages_told_apart = told_apart messages message_lawful
