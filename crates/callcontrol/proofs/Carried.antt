-- What a step gives back once its messages are counted, and laid where they fit.
use Rattle.std.specs.Prelude.{Some, None}
use Prim.Native.Nat.{ℕ, ◌≤◌, ◌<◌}
use mathlib.Core.Path.{◌≡◌, refl, sym, ◌∙◌, ap}
use mathlib.Core.Bool.{Bool, true, false, cond}
use mathlib.Core.List.{List}
use native.Mathlib.Omega.{arith}
use borrow.Author.Tests.{le-leb, lt-leb}
use lib.ListN.{length}
use Rattle.records.specs.declared.events.Event.{Event}
use Rattle.callcontrol.specs.declared.call.Call.{Call}
use Rattle.callcontrol.specs.Draft.{Draft}
use Rattle.callcontrol.specs.declared.row.Row.{Row}
use Rattle.callcontrol.specs.Draft.{no_row}
use Rattle.callcontrol.specs.Rows.{row_for}
use Rattle.callcontrol.specs.Settle.{settled, draft_of}
use Rattle.callcontrol.specs.Writing.{messages_in, bytes_of, Laid}
use Rattle.callcontrol.specs.Step.{Outcome, refusal, other_call, over_transmission, carried, decided}
use Rattle.callcontrol.proofs.Laying.{lay_fits}

pub too_long : (c : Call) (d : Draft) (b : List ℕ) (n : ℕ) → n ≡ length (bytes_of (messages_in d)) → length b < n → refusal 7 c b ≡ carried c d b
unfolding carried
too_long c d b n size short = rw (lt-leb _ _ (rw size at short))

pub fitting : (c : Call) (d : Draft) (b after : List ℕ) (n end : ℕ) → n ≡ length (bytes_of (messages_in d)) → n ≤ length b
    → Laid b 0 (messages_in d) end after → ◌≡◌ {A = Outcome} (record { answer = 0; place = 0; call = d.call; count = n; buffer = after }) (carried c d b)
unfolding carried
fitting c d b after n end size room laid =
    let whole = laid.is ∙ lay_fits (messages_in d) 0 b (omega arith) in
    rw (size, le-leb _ _ (rw size at room), ap (λ (w : ℕ × List ℕ). w.1) whole)

by_row : (c : Call) (e : Event) (b : List ℕ) (d : Draft) (x : Outcome) → other_call c e ≡ false → d ≡ row_for c e → d.taken ≡ true
    → x ≡ cond (over_transmission c e) (refusal 8 c b) (carried c d b) → x ≡ decided c e b
unfolding decided
by_row c e b d x agrees row taken h =
    let t : (row_for c e).taken ≡ true = ap (λ (w : Draft). w.taken) (sym row) ∙ taken in
    rw agrees
    (h
    ∙ ap (λ (w : Draft). cond (over_transmission c e) (refusal 8 c b) (carried c w b)) row
    ∙ ap (λ (s : Bool). cond s (cond (over_transmission c e) (refusal 8 c b) (carried c (row_for c e) b)) (refusal 6 c b)) (sym t))

-- a row, and the draft that it stands for

settled_taken : (c : Call) (r : Row) → (settled c r).taken ≡ true
unfolding settled
settled_taken c r = refl

pub by_orders : (c : Call) (e : Event) (b : List ℕ) (r : Row) (d : Draft) (x : Outcome) → other_call c e ≡ false → draft_of c (Some r) ≡ row_for c e
    → over_transmission c e ≡ false → d ≡ settled c r → x ≡ carried c d b → x ≡ decided c e b
by_orders c e b r d x agrees row silent settle h =
    by_row c e b d x agrees (settle ∙ row) (ap (λ (w : Draft). w.taken) settle ∙ settled_taken c r) (rw silent h)

pub by_transmission : (c : Call) (e : Event) (b : List ℕ) (r : Row) → other_call c e ≡ false → draft_of c (Some r) ≡ row_for c e
    → over_transmission c e ≡ true → refusal 8 c b ≡ decided c e b
by_transmission c e b r agrees row over = by_row c e b (settled c r) (refusal 8 c b) agrees row (settled_taken c r) (rw over refl)

pub by_other : (c : Call) (e : Event) (b : List ℕ) → other_call c e ≡ true → refusal 5 c b ≡ decided c e b
unfolding decided
by_other c e b other = rw other

pub by_none : (c : Call) (e : Event) (b : List ℕ) → other_call c e ≡ false → draft_of c None ≡ row_for c e → refusal 6 c b ≡ decided c e b
unfolding decided no_row
by_none c e b agrees row = rw (agrees, ap (λ (w : Draft). w.taken) (sym row))
