-- Where the bytes of an event lead, on a table that was read: what each arm of the step leaves is what the definition leaves.
use Rattle.std.specs.Prelude.{Result, Ok, Err, Some}
use Prim.Native.Nat.{ℕ, ◌<◌}
use mathlib.Core.Path.{◌≡◌}
use mathlib.Core.List.{List}
use Rattle.records.specs.declared.events.Event.{Event}
use Rattle.records.specs.Tables.{read}
use Rattle.records.specs.Events.{events}
use Rattle.console.specs.declared.keys.Keys.{Keys}
use Rattle.console.specs.declared.route.ConsoleRefusal.{ConsoleRefusal}
use Rattle.console.specs.declared.route.Target.{Target}
use Rattle.console.specs.declared.route.Aim.{Aim}
use Rattle.console.specs.Route.{aim_of}
use Rattle.console.specs.Console.{console_of}
use Rattle.console.specs.Keys.{as_lead, lead_by}
use Rattle.console.proofs.ByKeys.{goes, lead_goes, lead_fits, led_by, led_to}
use Rattle.host_console.specs.Table.{held_table, as_left, console_left}
use Rattle.host_console.specs.Reading.{KeysOf}
use Rattle.host_console.proofs.Tables.{known_sound, refused_left}

module _ (s : List ℕ) (place : ℕ) (ev b : List ℕ) (keys : Keys) (known : KeysOf (Some keys) s)
    {l : Result (Target × Event) ConsoleRefusal} (leads : as_lead l ≡ lead_by keys.each place (read events ev)) where
  -- to a place: one of eight
  pub to_below : {t : Target} {k : ℕ} {e : Event} → l ≡ Ok (t, e) → t ≡ Target.Place k → k < 8
  to_below same to = lead_fits (held_table s) (known_sound s keys known) place ev (led_to (held_table s) place ev known.1 leads same to)

  -- everywhere
  pub all_aimed : {t : Target} {e : Event} → l ≡ Ok (t, e) → t ≡ Target.Everywhere → aim_of e ≡ Aim.Every
  all_aimed same to = lead_fits (held_table s) (known_sound s keys known) place ev (led_to (held_table s) place ev known.1 leads same to)

  -- to one or the other
  pub goes_there : {t u : Target} {e : Event} → l ≡ Ok (t, e) → t ≡ u → goes (as_lead (Ok (u, e))) (held_table s) b ≡ console_of (held_table s) place ev b
  goes_there same to = lead_goes (held_table s) (known_sound s keys known) place ev (led_to (held_table s) place ev known.1 leads same to) b

  -- nowhere: the bytes stay
  pub to_none : {a : ConsoleRefusal} → l ≡ Err a → as_left (Err a) s b ≡ console_left s (console_of (held_table s) place ev b)
  to_none {a} same =
      refused_left s b a (held_table s) (lead_goes (held_table s) (known_sound s keys known) place ev (led_by (held_table s) place ev known.1 leads same) b)
