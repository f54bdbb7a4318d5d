-- BREAK and RESUME at every place: what is left of the bytes, from what the console's turns give.
use Rattle.std.specs.Prelude.{Ok, Err}
use Prim.Native.Nat.{ℕ, ◌≤◌, ◌<◌}
use mathlib.Core.Path.{◌≡◌, refl, ◌∙◌, ap}
use mathlib.Core.Bool.{Bool, true, cond}
use mathlib.Core.List.{List}
use native.Mathlib.Omega.{arith}
use lib.ListN.{length, get_or}
use Rattle.records.specs.declared.events.Event.{Event}
use Rattle.callcontrol.specs.declared.call.Call.{Call}
use Rattle.callcontrol.specs.Rows.{row_for}
use Rattle.console.specs.declared.console.AllStepped.{AllStepped}
use Rattle.console.specs.declared.route.Aim.{Aim}
use Rattle.console.specs.declared.route.ConsoleRefusal.{ConsoleRefusal}
use Rattle.console.specs.Table.{call_at}
use Rattle.console.specs.Route.{aim_of}
use Rattle.console.specs.Console.{ConsoleOutcome, everywhere, as_everywhere, UpTo}
use Rattle.console.proofs.Rooms.{every_room}
use Rattle.console.proofs.Turns.{Everywhere, everywhere_does, none_takes, no_room, all_take, all_taken, next_at}
use Rattle.host_console.specs.Table.{is_table, held_table, packed_first, as_left, console_left}
use Rattle.host_console.proofs.Tables.{eight_held, taken_left, refused_left}
use Rattle.host_console.proofs.OnePlace.{first_places}

module _ (s b : List ℕ) (e : Event) {calls : List Call} (held : calls ≡ held_table s) where
  same_step : everywhere calls e b ≡ everywhere (held_table s) e b
  same_step = ap (λ (l : List Call). everywhere l e b) held

  pub all_refused : (a : ConsoleRefusal) {now : List ℕ} → as_everywhere calls (Err a) now ≡ everywhere calls e b → as_left (Err a) s now ≡ console_left s (everywhere (held_table s) e b)
  all_refused a {now} step = refused_left s now a calls (step ∙ same_step)

  module _ (r : AllStepped) {now : List ℕ} (step : as_everywhere calls (Ok r) now ≡ everywhere calls e b) where
    -- it is what all places give
    all_is : as_everywhere calls (Ok r) now ≡ all_taken calls e b
    all_is = by (everywhere_does calls e b)
      where
        by : Everywhere calls e b → as_everywhere calls (Ok r) now ≡ all_taken calls e b
        by (none_takes x d) = absurd (omega (arith, ap (λ (o : ConsoleOutcome). o.answer) (step ∙ d)))
        by (no_room x f d) = absurd (omega (arith, ap (λ (o : ConsoleOutcome). o.answer) (step ∙ d)))
        by (all_take x f d) = step ∙ d

    pub few : aim_of e ≡ Aim.Every → r.count ≤ 184
    few every = let n = ap length held ∙ eight_held s in rw (ap (λ (o : ConsoleOutcome). o.count) all_is) (every_room calls e every (omega arith))

    -- behind the last place that takes it each record is the one that is held
    stays_held : UpTo r.upto calls e → (j : ℕ) → r.upto ≤ j → j < 8 → call_at r.calls j ≡ call_at (held_table s) j
    stays_held last j from lt =
        let n = ap length held ∙ eight_held s in
        ap (λ (o : ConsoleOutcome). call_at o.calls j) all_is
        ∙ next_at calls e j (omega arith)
        ∙ ap (λ (x : Bool). cond x (row_for (call_at calls j) e).call (call_at calls j)) (last.behind j from lt)
        ∙ ap (λ (l : List Call). call_at l j) held

    pub all_left : ((i : ℕ) → get_or s i 0 < 256) → is_table s ≡ true → UpTo r.upto calls e → {after : List ℕ} → after ≡ packed_first r.upto r.calls s
        → as_left (Ok r.count) after now ≡ console_left s (everywhere (held_table s) e b)
    all_left small is last packs =
        taken_left s (step ∙ same_step) refl refl (packs ∙ first_places s small is r.calls r.upto last.within (stays_held last))
