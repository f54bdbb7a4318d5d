-- Direct mode's kinds are new to document 01, and none stands for an event and a message: two lawful tables of which a computed test finds no
-- number twice share none. None has a number that document 01 retired, by such a test too.
use Prim.Native.Nat.{ℕ}
use mathlib.Core.Path.{◌≡◌, refl}
use mathlib.Core.Bool.{Bool, true, false, not}
use native.Mathlib.Omega.{arith}
use borrow.Author.Tests.{not-true, eq-eqb}
use lib.Dec.{eqb}
use Rattle.records.specs.Tables.{Table, listed}
use Rattle.records.specs.Laws.{Lawful, every, NoneShared}
use Rattle.records.specs.Events as document01
use Rattle.records.specs.Messages as document01m
use Rattle.records.proofs.Tables as lawful01
use Rattle.records.proofs.Apart.{of_each}
use Rattle.direct.specs.Events.{events}
use Rattle.direct.specs.Messages.{messages}
use Rattle.direct.specs.Demands.{NoneRetired, NewKinds}
use Rattle.direct.proofs.Tables.{event_lawful, message_lawful}

none_shared : (t u : Table) → Lawful t → Lawful u → every (λ i. every (λ l. not (eqb (t.row_of i).number (u.row_of l).number)) u.kinds) t.kinds ≡ true → NoneShared t u
none_shared t u lt lu all j k e =
    let other : not (eqb (t.row_of j).number (u.row_of k).number) ≡ true = of_each u lu (λ l. not (eqb (t.row_of j).number (u.row_of l).number)) (of_each t lt (λ i. every (λ l. not (eqb (t.row_of i).number (u.row_of l).number)) u.kinds) all j) k in
    let z : ◌≡◌ {A = Bool} false true = rw (eq-eqb (t.row_of j).number (u.row_of k).number e) at other in
    let y : ◌≡◌ {A = ℕ} 0 1 = cc in omega arith

none_retired : (t u : Table) → Lawful t → every (λ k. not (listed (t.row_of k).number u.retired)) t.kinds ≡ true → NoneRetired t u
none_retired t u lawful all k =
    not-true (listed (t.row_of k).number u.retired) (of_each t lawful (λ l. not (listed (t.row_of l).number u.retired)) all k)

pub new_kinds : NewKinds
new_kinds = (
  none_shared events document01.events event_lawful lawful01.event_lawful refl,
  none_shared events document01m.messages event_lawful lawful01.message_lawful refl,
  none_shared messages document01.events message_lawful lawful01.event_lawful refl,
  none_shared messages document01m.messages message_lawful lawful01.message_lawful refl,
  none_shared events messages event_lawful message_lawful refl,
  none_retired events document01.events event_lawful refl,
  none_retired events document01m.messages event_lawful refl,
  none_retired messages document01.events message_lawful refl,
  none_retired messages document01m.messages message_lawful refl,
)
