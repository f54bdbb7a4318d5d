-- What a draft, a turn and a run write, by a test on messages: all of it meets the test where each part does.
use Prim.Native.Nat.{ℕ}
use mathlib.Core.Path.{◌≡◌, refl}
use mathlib.Core.Bool.{Bool, true, false, cond, not}
use mathlib.Core.List.{List, [], ◌∷◌, ◌++◌}
use mathlib.Core.Option.{Option}
use lib.Dec.{eqb}
use lib.ListN.{get_or}
use Rattle.records.specs.declared.events.Event.{Event}
use Rattle.records.specs.declared.messages.Message.{Message}
use Rattle.records.specs.Tables.{Read, taken, read}
use Rattle.records.specs.Events.{events}
use Rattle.callcontrol.specs.declared.call.Call.{Call}
use Rattle.callcontrol.specs.Call.{T301, T302, T303, T306, T308, T310, T311}
use Rattle.callcontrol.specs.Draft.{Slot, Draft}
use Rattle.callcontrol.specs.Rows
use Rattle.callcontrol.specs.Writing.{when, held, by_number, starting, messages_in}
use Rattle.demands.specs.Runs.{Turn, outcome, event_in, taken_by, messages_of, written_by, every?}
use Rattle.demands.proofs.Facts.{and, left, right}

module _ (p : Message → Bool) where
  pub record All (ms : List Message) : Type 0 where
    pub met : every? p ms ≡ true

  abbrev pub OfSlot : Slot → Type 0
  OfSlot Slot.Empty = Unit {0}
  OfSlot (Slot.Holds m) = p m ≡ true

  pub both : (ms ns : List Message) → All ms → All ns → All (ms ++ ns)
  both [] ns h k = k
  both (m ∷ ms) ns h k =
      let rest : All ms = record { met = right (p m) _ h.met } in
      record { met = and _ _ (left (p m) _ h.met) (both ms ns rest k).met }

  whenever : (b : Bool) (m : Message) → (b ≡ true → p m ≡ true) → All (when b m)
  whenever true m h = record { met = and _ _ (h refl) refl }
  whenever false m h = record { met = refl }

  holds : (s : Slot) → OfSlot s → All (held s)
  holds Slot.Empty h = record { met = refl }
  holds (Slot.Holds m) h = record { met = and _ _ h refl }

  -- an order for each timer that is flagged
  module _ (order : ℕ → Message) (flags : List Bool) where
    abbrev Flagged : ℕ → ℕ → Type 0
    Flagged k n = get_or flags k false ≡ true → p (order n) ≡ true

    pub by_number_lem : Flagged T301 301 → Flagged T302 302 → Flagged T303 303 → Flagged T306 306 → Flagged T308 308 → Flagged T310 310 → Flagged T311 311
        → All (by_number order flags)
    unfolding by_number
    by_number_lem a b c d e f g =
        both _ _ (whenever _ _ a)
        (both _ _ (whenever _ _ b)
        (both _ _ (whenever _ _ c) (both _ _ (whenever _ _ d) (both _ _ (whenever _ _ e) (both _ _ (whenever _ _ f) (whenever _ _ g))))))

  pub writes : (x : Draft) → All (by_number Message.Stop x.stops) → p Message.Cancel ≡ true → OfSlot x.pdu
      → All (by_number (starting x.call.code) x.starts) → (not (eqb x.configure 0) ≡ true → p (Message.Configure x.configure) ≡ true)
      → OfSlot x.user → All (messages_in x)
  unfolding messages_in
  writes x stops cancel pdu starts configure user =
      both _ _ stops
      (both _ _ (whenever x.cancel _ (λ e. cancel)) (both _ _ (holds x.pdu pdu) (both _ _ starts (both _ _ (whenever _ _ configure) (holds x.user user)))))

  pub turn_writes : (c : Call) (t : Turn) → ((e : Event) → read events t.event ≡ taken e → All (messages_in (Rows.row_for c e))) → All (written_by c t)
  unfolding written_by taken_by
  turn_writes c t rows = by_answer (eqb (outcome c t).answer 0) (read events t.event) refl
    where
      by_answer : (b : Bool) (r : Read Event) → read events t.event ≡ r → All (messages_of c (cond b (event_in r) Option.none))
      by_answer true (taken e) h = rows e h
      by_answer true (Read.refused n place) h = record { met = refl }
      by_answer false r h = record { met = refl }
