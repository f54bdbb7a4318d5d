-- No row starts T310 with code 0: the verb that starts it stops it there, and no row changes the code after it.
use Prim.Native.Nat.{ℕ, zero, suc}
use mathlib.Core.Path.{◌≡◌, refl}
use mathlib.Core.Bool.{Bool, true, false, cond, not, ◌&&◌, ◌||◌}
use mathlib.Core.List.{List, [], ◌∷◌}
use native.Mathlib.Omega.{arith}
use lib.Dec.{eqb}
use lib.ListN.{length, get_or}
use lib.Seq.{get_or-set_same, get_or-set_other}
use Rattle.records.specs.declared.events.Event.{Event}
use Rattle.records.specs.declared.messages.Message.{Message}
use Rattle.callcontrol.specs.declared.call.State.{State}
use Rattle.callcontrol.specs.declared.call.Path.{Path}
use Rattle.callcontrol.specs.declared.call.Call.{Call}
use Rattle.callcontrol.specs.Call.{T306, T310, T311}
use Rattle.callcontrol.specs.Draft.{Draft}
use Rattle.callcontrol.specs.Draft.{◌▷◌, draft, no_row, go, on_path, store_mode, store_asked, store_code, store_slots, start, stop, restart, same_plane, plane, off, grant, grant_or_off, tell, tell_modified}
use Rattle.callcontrol.specs.Rows
use Rattle.callcontrol.specs.Writing.{starting, messages_in}
use Rattle.callcontrol.proofs.Verbs.{verbs}
use Rattle.demands.specs.Runs.{Turn, next, written_by, written_in}
use Rattle.demands.specs.Demands.{limits, StartsWithLimit}
use Rattle.demands.proofs.Facts.{apart, either}
use Rattle.demands.proofs.Cases.{by_grant}
use Rattle.demands.proofs.ByRow.{Row, Cell, cell, row, no_row_lem}
use Rattle.demands.proofs.Writes.{All, OfSlot, both, by_number_lem, writes, turn_writes}

-- ---- drafts that start T310 with a limit alone

record Limited (x : Draft) : Type 0 where
  pdu : OfSlot limits x.pdu
  user : OfSlot limits x.user
  start : (get_or x.starts T310 false && eqb x.call.code 0) ≡ false

not_both : (b : Bool) → (not b && b) ≡ false
not_both true = refl
not_both false = refl

-- the verbs that come after it, or that ask about numbers
asks : {x : Draft} (q : ℕ) → Limited x → Limited (store_asked q x)
unfolding store_asked
asks q h = record { pdu = h.pdu; user = h.user; start = h.start }

modes : {x : Draft} (d : ℕ) → Limited x → Limited (store_mode d x)
unfolding store_mode
modes d h = record { pdu = h.pdu; user = h.user; start = h.start }

slotted : {x : Draft} (s : ℕ) → Limited x → Limited (store_slots s x)
unfolding store_slots
slotted s h = record { pdu = h.pdu; user = h.user; start = h.start }

tells : {x : Draft} (m : Message) → limits m ≡ true → Limited x → Limited (tell m x)
unfolding tell
tells m e h = record { pdu = h.pdu; user = e; start = h.start }

tells_modified : {x : Draft} (d : ℕ) → Limited x → Limited (tell_modified d x)
unfolding tell_modified limits
tells_modified d h = tells _ refl h

again : {x : Draft} → Limited x → Limited (same_plane x)
unfolding same_plane
again h = record { pdu = h.pdu; user = h.user; start = h.start }

speaks : {x : Draft} (b : Bool) → Limited x → Limited (cond b (start T311) (stop T311) x)
unfolding start stop
speaks {x} true h =
    record { pdu = h.pdu; user = h.user; start = rw (get_or-set_other x.starts T311 T310 true false (λ e. omega (arith, e))) h.start }
speaks false h = record { pdu = h.pdu; user = h.user; start = h.start }

planes : {x : Draft} (p : ℕ) → Limited x → Limited (plane p x)
unfolding plane same_plane
planes p h = speaks (eqb p 1) (record { pdu = h.pdu; user = h.user; start = h.start })

off_is : {x : Draft} → Limited x → Limited (off x)
unfolding off
off_is h = planes 4 h

grants : {x : Draft} (g : ℕ) → Limited x → Limited (grant g x)
unfolding grant
grants g h = either Limited (eqb g 0) (planes _ (asks 0 h)) (either Limited (eqb g 1) (asks 0 h) (either Limited (eqb g 3) (planes 2 h) h))

grants_or_off : {x : Draft} (g : ℕ) → Limited x → Limited (grant_or_off g x)
unfolding grant_or_off
grants_or_off g h = either Limited (eqb g 1 || eqb g 2) (off_is (grants g h)) (grants g h)

-- T310 started anew, or left alone
resets : {x : Draft} (r o : ℕ) → Limited x → length x.starts ≡ 7 → Limited (restart r o x)
unfolding restart start store_code
resets {x} r o h seven =
    either Limited (eqb r 1)
    (record {
      pdu = h.pdu;
      user = h.user;
      start =
          rw (get_or-set_same x.starts T310 (not (eqb (cond (eqb o 16) x.call.code o) 0)) false (omega (arith, seven)))
          (not_both (eqb (cond (eqb o 16) x.call.code o) 0));
    })
    h

begun : (c : Call) → Limited (draft c)
unfolding draft
begun c = record { pdu = tt; user = tt; start = refl }

refused : (c : Call) → Limited (no_row c)
unfolding no_row
refused c = record { pdu = tt; user = tt; start = refl }

-- ---- the rows

limited : {c : Call} {s : State} {w : Path} {e : Event} {x : Draft} → Row c s w e x → Limited x
unfolding verbs limits Rows.releasing Rows.disconnected Rows.released Rows.confirmed
limited (Row.releases l) = record { pdu = refl; user = tt; start = refl }
limited (Row.disconnects l i) = record { pdu = refl; user = refl; start = refl }
limited (Row.ends l i) = record { pdu = tt; user = refl; start = refl }
limited (Row.expires l n k t z) = record { pdu = refl; user = refl; start = refl }
limited (Row.calls a d q zero) = record { pdu = refl; user = tt; start = refl }
limited (Row.calls a d q (suc s)) = record { pdu = refl; user = tt; start = refl }
limited (Row.is_called i a d) = record { pdu = tt; user = refl; start = refl }
limited (Row.takes_back z) = record { pdu = tt; user = refl; start = refl }
limited (Row.releases_sent z) = record { pdu = refl; user = tt; start = refl }
limited (Row.proceeds i) = record { pdu = tt; user = refl; start = refl }
limited (Row.alerts i) = record { pdu = tt; user = refl; start = refl }
limited (Row.connects i g d o s) =
    tells _ refl (grants_or_off g (record { pdu = tt; user = tt; start = not_both (eqb o 0) }))
limited (Row.sent z) = record { pdu = tt; user = tt; start = refl }
limited (Row.unsent z) = record { pdu = tt; user = refl; start = refl }
limited (Row.answers z) = record { pdu = refl; user = tt; start = refl }
limited (Row.completes i g o z) =
    tells _ refl (grants_or_off g (record { pdu = tt; user = tt; start = not_both (eqb o 0) }))
limited (Row.asks_to_send k z y) = record { pdu = refl; user = tt; start = refl }
limited (Row.stops_sending k z y) = record { pdu = refl; user = tt; start = refl }
limited (Row.asks_no_more k z y x) = record { pdu = refl; user = tt; start = refl }
limited {c} (Row.same_mode i r o d s z) = tells_modified d (again (slotted s (resets r o (begun c) refl)))
limited {c} (Row.new_mode i r o d s z) = tells_modified d (off_is (slotted s (modes d (resets r o (begun c) refl))))
limited {c} (Row.granted i g) = tells _ refl (grants g (begun c))
limited (Row.ceased i) = record { pdu = tt; user = refl; start = refl }
limited {c} (Row.interrupted i g) = tells _ refl (planes (cond (eqb g 3) 2 4) (begun c))
limited (Row.pauses i) = record { pdu = tt; user = refl; start = refl }
limited Row.breaks = record { pdu = tt; user = tt; start = refl }
limited (Row.talked_out n z y) = record { pdu = refl; user = tt; start = refl }
limited (Row.wants k z) = record { pdu = tt; user = tt; start = refl }
limited Row.resumes = record { pdu = refl; user = tt; start = refl }
limited {c} (Row.restored i g r o) =
    tells _ refl
    (resets r o (grants g (record { pdu = tt; user = tt; start = refl }))
    (by_grant (λ x. length x.starts ≡ 7) g (draft c ▷ stop T306 ▷ on_path Path.Up) refl refl refl refl refl))
limited Row.breaks_again = record { pdu = tt; user = tt; start = refl }
limited {c} (Row.continues i k z) =
    tells _ refl (planes {x = draft c ▷ go State.CallActive} c.kept (record { pdu = tt; user = tt; start = refl }))
limited (Row.continues_off i k z) = record { pdu = tt; user = refl; start = refl }
limited Row.breaks_paused = record { pdu = tt; user = refl; start = refl }
limited (Row.collides i z) = record { pdu = refl; user = refl; start = refl }
limited (Row.collides_sent i z) = record { pdu = refl; user = refl; start = refl }
limited (Row.ends_first i z) = record { pdu = tt; user = refl; start = refl }
limited (Row.confirms i z) = record { pdu = tt; user = refl; start = refl }
limited (Row.end_sent z) = record { pdu = tt; user = tt; start = refl }
limited (Row.end_unsent z) = record { pdu = tt; user = refl; start = refl }
limited (Row.unanswered n z) = record { pdu = tt; user = refl; start = refl }

-- ---- what a row writes

other : (a b : Bool) → (a && b) ≡ false → a ≡ true → not b ≡ true
other true b h e = rw h
other false b h e = apart e refl

row_writes : (x : Draft) → Limited x → All limits (messages_in x)
unfolding starting limits
row_writes x h =
    writes limits x (by_number_lem limits _ _ (λ e. refl) (λ e. refl) (λ e. refl) (λ e. refl) (λ e. refl) (λ e. refl) (λ e. refl)) refl h.pdu
    (by_number_lem limits _ _ (λ e. refl) (λ e. refl) (λ e. refl) (λ e. refl) (λ e. refl) (other _ (eqb x.call.code 0) h.start) (λ e. refl)) (λ e. refl) h.user

turn_limited : (c : Call) (t : Turn) → All limits (written_by c t)
turn_limited c t = turn_writes limits c t (λ e h. by_cell (cell c e))
  where
    by_cell : {e : Event} {x : Draft} → Cell c c.state c.path e x → All limits (messages_in x)
    by_cell no_row_lem = row_writes _ (refused c)
    by_cell (row r) = row_writes _ (limited r)

run_limited : (c : Call) (ts : List Turn) → All limits (written_in c ts)
unfolding written_in
run_limited c [] = record { met = refl }
run_limited c (t ∷ ts) = both limits _ _ (turn_limited c t) (run_limited (next c t) ts)

pub starts_with_limit : StartsWithLimit
starts_with_limit c ts = (run_limited c ts).met
