-- What the lower layers were last told in a run is what the history rule reads from the taken events alone, and is the plane of the
-- record.
use Prim.Native.Nat.{ℕ, ◌≤◌}
use mathlib.Core.Path.{◌≡◌, refl, sym, ◌∙◌, ap}
use mathlib.Core.Bool.{true, false, cond}
use mathlib.Core.List.{List, [], ◌∷◌, ◌++◌}
use mathlib.Core.Option.{Option, some}
use native.Mathlib.Omega.{arith}
use borrow.Author.Tests.{ne_eqb}
use lib.Dec.{eqb}
use Rattle.records.specs.declared.events.Event.{Event}
use Rattle.records.specs.Tables.{fine}
use Rattle.records.specs.Events.{events}
use Rattle.callcontrol.specs.declared.call.State.{State}
use Rattle.callcontrol.specs.declared.call.Call.{Call}
use Rattle.callcontrol.specs.Draft.{Draft}
use Rattle.callcontrol.specs.Call.{fresh_call}
use Rattle.callcontrol.specs.Rows.{row_for}
use Rattle.callcontrol.specs.Writing.{messages_in}
use Rattle.demands.specs.Runs.{Turn, next, run, taken_by, messages_of, written_by, listed, taken_in, written_in, last_told, told}
use Rattle.demands.specs.History.{History, at_first, note, reads, plane_by_history}
use Rattle.demands.specs.Demands.{Kept, Told}
use Rattle.demands.proofs.Reading.{read_fine}
use Rattle.demands.proofs.Turns.{Turned, passed, took, turned}
use Rattle.demands.proofs.Sound.{fresh_is_sound, keeps_sound}
use Rattle.demands.proofs.Planes.{plane_some}
use Rattle.demands.proofs.Drawn.{Tells, silent, loud, last_told-append, messages_tell}
use Rattle.demands.proofs.Follows.{Fits, Agrees, Lands, follows}

-- a plane that is told is some plane, so that 0 stands for no CONFIGURE
tells_plane : {was plane told : ℕ} → Tells was plane told → 1 ≤ plane → cond (eqb told 0) was told ≡ plane
tells_plane (silent e) least = e
tells_plane {plane} loud least = let other : eqb plane 0 ≡ false = ne_eqb plane 0 (λ e. omega arith) in rw other

-- what a row tells is the plane that it leaves
row_tells : {c : Call} {h : History} {d : Draft} → Lands c h d → 1 ≤ d.call.plane → last_told c.plane (messages_in d) ≡ d.call.plane
row_tells {c} {h} {d} l least = messages_tell c.plane d l.pdu_plain l.user_plain ∙ tells_plane l.tells least

fits_plane : (s : State) (p m k : ℕ) (h : History) → Fits s p m k h → p ≡ h.plane
fits_plane State.Idle p m k h f = f
fits_plane State.MoCallSetup p m k h f = f.0
fits_plane State.MtCallSetup p m k h f = f.0
fits_plane State.CallActive p m k h f = f.0
fits_plane State.Wait p m k h f = f.0
fits_plane State.CallDisconnect p m k h f = f.0

reads-append : (h : History) (a b : List Event) → reads h (a ++ b) ≡ reads (reads h a) b
unfolding reads
reads-append h [] b = refl
reads-append h (e ∷ a) b = reads-append (note h e) a b

-- what a turn leaves
record Left (c : Call) (h : History) (next : Call) (taken : Option Event) : Type 0 where
  kept : Kept next
  agrees : Agrees next (reads h (listed taken))
  tells : last_told c.plane (messages_of c taken) ≡ next.plane

row_left : (c : Call) (h : History) (e : Event) → Kept c → Agrees c h → fine events e ≡ true → (row_for c e).taken ≡ true → Left c h (row_for c e).call (some e)
unfolding reads
row_left c h e kept agrees fit row =
    let l : Lands c (note h e) (row_for c e) = follows c h kept.meets agrees e fit row in
    let now : Kept (row_for c e).call = keeps_sound c e kept fit in
    record { kept = now; agrees = l.agrees; tells = row_tells l (plane_some (row_for c e).call now.meets) }

turn_left : (c : Call) (h : History) (t : Turn) → Kept c → Agrees c h → Turned c t → Left c h (next c t) (taken_by c t)
unfolding reads last_told
turn_left c h t kept agrees (passed p) = rw (p.leaves, p.takes) (record { kept = kept; agrees = agrees; tells = refl })
turn_left c h t kept agrees (took e a) = rw (a.leaves, a.takes) (row_left c h e kept agrees (read_fine t.event e a.reads) a.row)

run_tells : (ts : List Turn) (c : Call) (h : History) → Kept c → Agrees c h → (last_told c.plane (written_in c ts) ≡ (run c ts).plane) × ((run c ts).plane ≡ (reads h (taken_in c ts)).plane)
unfolding run taken_in written_in written_by reads last_told
run_tells [] c h kept agrees = (refl, fits_plane c.state c.plane c.mode c.kept h agrees)
run_tells (t ∷ ts) c h kept agrees =
    let l : Left c h (next c t) (taken_by c t) = turn_left c h t kept agrees (turned c t) in
    let rest : (last_told (next c t).plane (written_in (next c t) ts) ≡ (run (next c t) ts).plane) × ((run (next c t) ts).plane ≡ (reads (reads h (listed (taken_by c t))) (taken_in (next c t) ts)).plane)
    = run_tells ts (next c t) (reads h (listed (taken_by c t))) l.kept l.agrees in (
      last_told-append c.plane (messages_of c (taken_by c t)) (written_in (next c t) ts) ∙ ap (λ p. last_told p (written_in (next c t) ts)) l.tells ∙ rest.0,
      rest.1 ∙ ap (λ x. x.plane) (sym (reads-append h (listed (taken_by c t)) (taken_in (next c t) ts))),
    )

pub told_by_history : Told
unfolding told plane_by_history
told_by_history ts =
    let r : (last_told 4 (written_in fresh_call ts) ≡ (run fresh_call ts).plane) × ((run fresh_call ts).plane ≡ (reads at_first (taken_in fresh_call ts)).plane)
    = run_tells ts fresh_call at_first fresh_is_sound refl in
    (r.0 ∙ r.1, r.0)

pub told_is_plane : (ts : List Turn) → told ts ≡ (run fresh_call ts).plane
told_is_plane ts = (told_by_history ts).1
