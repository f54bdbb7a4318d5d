-- What a row does to a call's identifier: the call is gone, or keeps it, or begins, or takes the one that the network names.
use Prim.Native.Nat.{ℕ}
use mathlib.Core.Path.{◌≡◌, refl, ◌∙◌, ap}
use mathlib.Core.Bool.{Bool, true, false, cond, ◌||◌}
use lib.Dec.{eqb}
use Rattle.records.specs.declared.events.Event.{Event}
use Rattle.callcontrol.specs.declared.call.State.{State}
use Rattle.callcontrol.specs.declared.call.Path.{Path}
use Rattle.callcontrol.specs.declared.call.Call.{Call}
use Rattle.callcontrol.specs.Draft.{Draft}
use Rattle.callcontrol.specs.Call.{fresh_call, state_number, is_idle}
use Rattle.callcontrol.specs.Draft.{draft, go, store_asked, store_code, start, stop, restart, same_plane, plane, off, grant, grant_or_off}
use Rattle.callcontrol.specs.Rows.{releasing, released, disconnected, confirmed, row_for}
use Rattle.callcontrol.proofs.Verbs.{verbs}
use Rattle.demands.proofs.ByRow.{Row, Live, calling, called, talking, waiting, is_row}
use Rattle.demands.proofs.Facts.{either}
use Rattle.console.specs.declared.route.Aim.{Aim}
use Rattle.console.specs.Route.{aim_of}

pub data Names (c : Call) (e : Event) (d : Draft) : Type 0 where
  gone : d.call ≡ fresh_call → Names c e d
  kept : is_idle c ≡ false → d.call.id ≡ c.id → Names c e d
  begun : is_idle c ≡ true → aim_of e ≡ Aim.Outgoing → d.call.id ≡ c.id → Names c e d
  brought : (i : ℕ) → aim_of e ≡ Aim.Incoming i → d.call.id ≡ i → Names c e d
  named : (i : ℕ) → aim_of e ≡ Aim.Held i → is_idle c ≡ false → d.call.id ≡ i → Names c e d

-- ---- the verbs that ask about a number leave the identifier

abbrev Same : ℕ → Draft → Type 0
Same i x = x.call.id ≡ i

id_plane : (p : ℕ) (x : Draft) → (plane p x).call.id ≡ x.call.id
unfolding plane same_plane start stop
id_plane p x = by (eqb p 1) refl
  where
    by : (b : Bool) → eqb p 1 ≡ b → (plane p x).call.id ≡ x.call.id
    by true e = rw e
    by false e = rw e

id_grant : (g : ℕ) (x : Draft) → (grant g x).call.id ≡ x.call.id
unfolding grant store_asked
id_grant g x =
    either (Same x.call.id) (eqb g 0) (id_plane _ (store_asked 0 x))
    (either (Same x.call.id) (eqb g 1) refl (either (Same x.call.id) (eqb g 3) (id_plane 2 x) refl))

id_grant_or_off : (g : ℕ) (x : Draft) → (grant_or_off g x).call.id ≡ x.call.id
unfolding grant_or_off off
id_grant_or_off g x =
    either (Same x.call.id) (eqb g 1 || eqb g 2) (id_plane 4 (grant g x) ∙ id_grant g x) (id_grant g x)

id_restart : (r o : ℕ) (x : Draft) → (restart r o x).call.id ≡ x.call.id
unfolding restart store_code start
id_restart r o x = either (Same x.call.id) (eqb r 1) refl refl

-- ---- the rows

in_call : {s : State} (c : Call) → c.state ≡ s → eqb (state_number s) 0 ≡ false → is_idle c ≡ false
in_call c is out = ap (λ (s : State). eqb (state_number s) 0) is ∙ out

live : {s : State} (c : Call) → Live s → c.state ≡ s → is_idle c ≡ false
live c calling is = in_call c is refl
live c called is = in_call c is refl
live c talking is = in_call c is refl
live c waiting is = in_call c is refl

row_names : {c : Call} {s : State} {w : Path} {e : Event} {d : Draft} → Row c s w e d → c.state ≡ s → Names c e d
unfolding verbs releasing released disconnected confirmed
row_names {c} (Row.releases l) is = kept (live c l is) refl
row_names (Row.disconnects l i) is = gone refl
row_names (Row.ends l i) is = gone refl
row_names {c} (Row.expires l n k t r) is = kept (live c l is) refl
row_names {c} (Row.calls a d q s) is = begun (ap (λ (s : State). eqb (state_number s) 0) is) refl refl
row_names (Row.is_called i a d) is = brought i refl refl
row_names (Row.takes_back z) is = gone refl
row_names {c} (Row.releases_sent z) is = kept (live c calling is) refl
row_names {c} (Row.proceeds i) is = named i refl (live c calling is) refl
row_names {c} (Row.alerts i) is = named i refl (live c calling is) refl
row_names {c} (Row.connects i g d o s) is = named i refl (live c calling is) (id_grant_or_off g _)
row_names {c} (Row.sent z) is = kept (live c calling is) refl
row_names (Row.unsent z) is = gone refl
row_names {c} (Row.answers r) is = kept (live c called is) refl
row_names {c} (Row.completes i g o r) is = kept (live c called is) (id_grant_or_off g _)
row_names {c} (Row.asks_to_send k o z) is = kept (live c talking is) refl
row_names {c} (Row.stops_sending k o z) is = kept (live c talking is) refl
row_names {c} (Row.asks_no_more k o z y) is = kept (live c talking is) refl
row_names {c} (Row.same_mode i r o d s z) is = kept (live c talking is) (id_restart r o _)
row_names {c} (Row.new_mode i r o d s z) is = kept (live c talking is) (id_restart r o _)
row_names {c} (Row.granted i g) is = kept (live c talking is) (id_grant g _)
row_names {c} (Row.ceased i) is = kept (live c talking is) refl
row_names {c} (Row.interrupted i g) is = kept (live c talking is) (id_plane (cond (eqb g 3) 2 4) (draft c))
row_names {c} (Row.pauses i) is = kept (live c talking is) refl
row_names {c} Row.breaks is = kept (live c talking is) refl
row_names {c} (Row.talked_out n z r) is = kept (live c talking is) refl
row_names {c} (Row.wants k z) is = kept (live c talking is) refl
row_names {c} Row.resumes is = kept (live c talking is) refl
row_names {c} (Row.restored i g r o) is = kept (live c talking is) (id_restart r o _ ∙ id_grant g _)
row_names {c} Row.breaks_again is = kept (live c talking is) refl
row_names {c} (Row.continues i k z) is = kept (live c waiting is) (id_plane c.kept (go State.CallActive (draft c)))
row_names {c} (Row.continues_off i k z) is = kept (live c waiting is) refl
row_names {c} Row.breaks_paused is = kept (live c waiting is) refl
row_names (Row.collides i z) is = gone refl
row_names (Row.collides_sent i z) is = gone refl
row_names (Row.ends_first i z) is = gone refl
row_names (Row.confirms i z) is = gone refl
row_names {c} (Row.end_sent z) is = kept (in_call c is refl) refl
row_names (Row.end_unsent z) is = gone refl
row_names (Row.unanswered n z) is = gone refl

pub names : (c : Call) (e : Event) → (row_for c e).taken ≡ true → Names c e (row_for c e)
names c e taken = row_names (is_row c e taken) refl
