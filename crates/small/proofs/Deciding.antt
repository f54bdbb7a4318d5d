-- An event's numbers decide what the event decides.
use Prim.Native.Nat.{ℕ, zero, suc}
use mathlib.Core.Path.{◌≡◌, refl, sym, ◌∙◌, ap}
use mathlib.Core.Bool.{Bool, true, false, cond, true≢false}
use mathlib.Core.List.{List}
use Rattle.std.proofs.Common.{Option, None, Some}
use lib.Dec.{eqb}
use Rattle.records.specs.declared.events.Event.{Event}
use Rattle.records.specs.Tables.{Read, taken, refused}
use Rattle.callcontrol.specs.declared.call.Call.{Call}
use Rattle.callcontrol.specs.declared.row.Row.{Row}
use Rattle.callcontrol.specs.Call.{is_idle, T301, T302, T303, T306, T308, T310, T311}
use Rattle.callcontrol.specs.Draft.{Draft, no_row}
use Rattle.callcontrol.specs.Settle.{settled, draft_of}
use Rattle.callcontrol.specs.Step.{Outcome, refusal, refusal_at, other_call, over_transmission, carried, decided, when_read}
use Rattle.small.specs.declared.flat.Flat.{Flat}
use Rattle.small.specs.Flat.{EXPIRY, EXPIRY_308, EXPIRY_311, EXPIRY_NONE, flat_of, expired_of, late}
use Rattle.small.specs.Line.{table_row}
use Rattle.small.proofs.Same.{same}
use Rattle.small.specs.Reading.{flatted}
use Rattle.small.proofs.Parts.{value_in, number_in, place_in, is_taken}
use Rattle.small.specs.Small.{names_other, over_flat, with_row, decided_by}

whole : (P : Flat → Type 0) (b : Bool) {x y : Flat} → P x → P y → P (cond b x y)
whole P true p q = p
whole P false p q = q

-- an expiry has one of four numbers
expiries : (P : Flat → Type 0) (c : Call) (n : ℕ) → ((t : ℕ) → P (late EXPIRY c t)) → ((t : ℕ) → P (late EXPIRY_308 c t)) → ((t : ℕ) → P (late EXPIRY_311 c t)) → ((t : ℕ) → P (late EXPIRY_NONE c t)) → P (expired_of c n)
unfolding expired_of
expiries P c n p q r o =
    whole P (eqb n 311) (r T311) (whole P (eqb n 308) (q T308) (whole P (eqb n 301) (p T301) (whole P (eqb n 302) (p T302) (whole P (eqb n 303) (p T303) (whole P (eqb n 306) (p T306) (whole P (eqb n 310) (p T310) (o T301)))))))

other_is : (c : Call) (e : Event) → names_other (flat_of c e).kind (flat_of c e).id c.id (is_idle c) ≡ other_call c e
unfolding flat_of names_other other_call
other_is c (Event.SetupRequest a d q s) = refl
other_is c Event.SetupResponse = refl
other_is c Event.ReleaseRequest = refl
other_is c (Event.TxRequest k) = refl
other_is c (Event.DCallProceeding i) = refl
other_is c (Event.DAlert i) = refl
other_is c (Event.DConnect i g d o s) = refl
other_is c (Event.DConnectAcknowledge i g o) = refl
other_is c (Event.DSetup i a d) = refl
other_is c (Event.DInfo i r o d s) = refl
other_is c (Event.DTxGranted i g) = refl
other_is c (Event.DTxCeased i) = refl
other_is c (Event.DTxInterrupt i g) = refl
other_is c (Event.DTxWait i) = refl
other_is c (Event.DTxContinue i k) = refl
other_is c (Event.DCallRestore i g r o) = refl
other_is c (Event.DDisconnect i) = refl
other_is c (Event.DRelease i) = refl
other_is c Event.ReportSent = refl
other_is c Event.ReportFailed = refl
other_is c Event.Break = refl
other_is c Event.Resume = refl
other_is c (Event.Expiry n) = expiries (λ f. names_other f.kind f.id c.id (is_idle c) ≡ false) c n (λ t. refl) (λ t. refl) (λ t. refl) (λ t. refl)

over_is : (c : Call) (e : Event) → over_flat (flat_of c e).kind c.plane ≡ over_transmission c e
unfolding flat_of over_flat
over_is c (Event.SetupRequest a d q zero) = refl
over_is c (Event.SetupRequest a d q (suc s)) = refl
over_is c Event.SetupResponse = refl
over_is c Event.ReleaseRequest = refl
over_is c (Event.TxRequest k) = refl
over_is c (Event.DCallProceeding i) = refl
over_is c (Event.DAlert i) = refl
over_is c (Event.DConnect i g d o zero) = refl
over_is c (Event.DConnect i g d o (suc s)) = refl
over_is c (Event.DConnectAcknowledge i g o) = refl
over_is c (Event.DSetup i a d) = refl
over_is c (Event.DInfo i r o d zero) = refl
over_is c (Event.DInfo i r o d (suc s)) = refl
over_is c (Event.DTxGranted i g) = refl
over_is c (Event.DTxCeased i) = refl
over_is c (Event.DTxInterrupt i g) = refl
over_is c (Event.DTxWait i) = refl
over_is c (Event.DTxContinue i k) = refl
over_is c (Event.DCallRestore i g r o) = refl
over_is c (Event.DDisconnect i) = refl
over_is c (Event.DRelease i) = refl
over_is c Event.ReportSent = refl
over_is c Event.ReportFailed = refl
over_is c Event.Break = refl
over_is c Event.Resume = refl
over_is c (Event.Expiry n) = expiries (λ f. over_flat f.kind c.plane ≡ false) c n (λ t. refl) (λ t. refl) (λ t. refl) (λ t. refl)

by_row : (c : Call) (o : Option Row) (b : List ℕ) (over : Bool)
    → with_row o (refusal 6 c b) (λ r. cond over (refusal 8 c b) (carried c (settled c r) b))
    ≡ cond (draft_of c o).taken (cond over (refusal 8 c b) (carried c (draft_of c o) b)) (refusal 6 c b)
unfolding no_row settled
by_row c None b over = refl
by_row c (Some r) b over = refl

pub decided_is : (c : Call) (e : Event) (b : List ℕ) → decided_by c (flat_of c e) b ≡ decided c e b
unfolding decided_by decided
decided_is c e b =
    rw (other_is c e, over_is c e)
    (ap (λ (w : Outcome). cond (other_call c e) (refusal 5 c b) w)
    (by_row c (table_row c (flat_of c e)) b (over_transmission c e)
    ∙ ap (λ (d : Draft). cond d.taken (cond (over_transmission c e) (refusal 8 c b) (carried c d b)) (refusal 6 c b)) (same c e)))

-- an event that was read, and a refusal

module _ (c : Call) (b : List ℕ) where
  pub read_event : (w : Read Event) (f : Flat) → taken f ≡ flatted c w → decided_by c f b ≡ when_read w c b
  read_event (taken e) f h = ap (λ (g : Flat). decided_by c g b) (ap (value_in f) h) ∙ decided_is c e b
  read_event (refused n p) f h = absurd (true≢false (ap is_taken h))

  pub read_refused : (w : Read Event) (n p : ℕ) → refused n p ≡ flatted c w → refusal_at n p c b ≡ when_read w c b
  read_refused (taken e) n p h = absurd (true≢false (ap is_taken (sym h)))
  read_refused (refused m o) n p h = rw (ap number_in h, ap place_in h) refl

-- the answers in their order
module _ (c : Call) (f : Flat) (b : List ℕ) where
  abbrev other : Bool
  other = names_other f.kind f.id c.id (is_idle c)

  pub by_other : other ≡ true → refusal 5 c b ≡ decided_by c f b
  unfolding decided_by
  by_other h = rw h refl

  module _ (o : Option Row) (agrees : other ≡ false) (row : o ≡ table_row c f) where
    pub by_none : o ≡ None → refusal 6 c b ≡ decided_by c f b
    unfolding decided_by
    by_none h = rw (agrees, ← row, h) refl

    module _ (r : Row) (some : o ≡ Some r) where
      pub by_over : over_flat f.kind c.plane ≡ true → refusal 8 c b ≡ decided_by c f b
      unfolding decided_by
      by_over over = rw (agrees, ← row, some, over) refl

      pub by_orders : (x : Outcome) → over_flat f.kind c.plane ≡ false → x ≡ carried c (settled c r) b → x ≡ decided_by c f b
      unfolding decided_by
      by_orders x over e = rw (agrees, ← row, some, over) e
